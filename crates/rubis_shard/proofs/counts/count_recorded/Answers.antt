use Rattle.std.proofs.Common.{◌≡◌, ◌+◌, ◌≤◌, length, arith}
use Rattle.rubis_schema.specs.declared.row_keys.RowKey.TheVariants as key
use Rattle.rubis_shard.specs.Listed.{recorded_from}
use Rattle.rubis_shard.specs.Rows.{kept_of}
use Rattle.rubis_shard.specs.Chains.{chain_written}
use Rattle.rubis_shard.proofs.Counting.{recorded_in}
use Rattle.rubis_shard.proofs.counts.count_recorded.Goals as goal

pub count_among-users-requires : goal.count_among-users-requires
count_among-users-requires c =
    let n = c.args.first in
    let r = c.args.rows.now in
    let all = recorded_in n r c.lens-lens.ensures in
    let bound : c.args.counted + length (recorded_from n (kept_of r.users)) ≤ 18446744073709551615 = omega (arith, all, c.requires) in
    bound

pub count_among-others-requires : goal.count_among-others-requires
count_among-others-requires c =
    let n = c.args.first in
    let r = c.args.rows.now in
    let all = recorded_in n r c.lens-lens.ensures in
    let users : c.count_among-users.result ≡ c.args.counted + length (recorded_from n (kept_of r.users)) = c.count_among-users.ensures in
    let bound : c.count_among-users.result + length (recorded_from n (kept_of r.others)) ≤ 18446744073709551615 = omega (arith, all, users, c.requires) in
    bound

pub count_among-requires : goal.count_among-requires
count_among-requires c =
    let n = c.args.first in
    let r = c.args.rows.now in
    let all = recorded_in n r c.lens-lens.ensures in
    let users : c.count_among-users.result ≡ c.args.counted + length (recorded_from n (kept_of r.users)) = c.count_among-users.ensures in
    let others : c.count_among-others.result ≡ c.count_among-users.result + length (recorded_from n (kept_of r.others)) = c.count_among-others.ensures in
    let bound : c.count_among-others.result + length (recorded_from n (chain_written key.Cat r.cats.entries)) ≤ 18446744073709551615 =
    omega (arith, all, users, others, c.requires) in
    bound

pub returns : goal.returns
returns c =
    let n = c.args.first in
    let r = c.args.rows.now in
    let all = recorded_in n r c.lens-lens.ensures in
    let users : c.count_among-users.result ≡ c.args.counted + length (recorded_from n (kept_of r.users)) = c.count_among-users.ensures in
    let others : c.count_among-others.result ≡ c.count_among-users.result + length (recorded_from n (kept_of r.others)) = c.count_among-others.ensures in
    let cats : c.count_among.result ≡ c.count_among-others.result + length (recorded_from n (chain_written key.Cat r.cats.entries)) = c.count_among.ensures in
    omega (arith, all, users, others, cats)
