use Rattle.rubis_shard.proofs.Common.{ℕ, ◌≡◌, ◌+◌, ◌≤◌, length, arith, row_key}
use Rattle.std.specs.FinMap as map
use Rattle.rubis_schema.specs.declared.row_keys.RowKey.TheVariants as key
use Rattle.rubis_shard.specs.Listed.{recorded_from}
use Rattle.rubis_shard.specs.Rows.{tables_in}
use Rattle.rubis_shard.proofs.Counting.{few_recorded, if_some, recorded_in, some_is}
use Rattle.rubis_shard.proofs.counts.most_recorded.Goals as goal

pub returns : goal.returns
returns c =
    let r = c.args.rows.now in
    let n : ℕ = 0 in
    let all = recorded_in n r c.lens-lens.ensures in
    let users = few_recorded row_key n r.users.rows.entries in
    let others = few_recorded row_key n r.others.rows.entries in
    let cats = few_recorded key.Cat n r.cats.entries in
    let first = some_is c.sum_of.result (λ sum. sum ≡ c.args.most + c.len.result) c.in-Some.users c.in-Some.is c.sum_of.ensures in
    let second = some_is c.sum_of-2.result (λ sum. sum ≡ c.in-Some.users + c.len-2.result) c.in-Some-sum_of.others c.in-Some-sum_of.is c.sum_of-2.ensures in
    if_some c.sum_of-3.result (λ sum. sum ≡ c.in-Some-sum_of.others + c.len-3.result)
    (λ most. c.args.most + length (recorded_from n (map.entries (tables_in r))) ≤ most) c.sum_of-3.ensures
    (λ v is. omega (arith, all, users, others, cats, first, second, is, c.len.ensures.len, c.len-2.ensures.len, c.len-3.ensures.len))
