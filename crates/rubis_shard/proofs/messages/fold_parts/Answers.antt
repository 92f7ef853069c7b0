use Rattle.rubis_shard.proofs.Common.{◌≡◌, ℕ, ◌<◌, ◌≤◌, [], List, length, get_or, refl, sym, ap, ◌∙◌, subst, arith, Some, slice_get, slice_get_read}
use Rattle.rubis_shard.specs.States.{ShardState, with_parts}
use Rattle.rubis_shard.specs.Holdings.{numbered_of, parts_at}
use Rattle.rubis_shard.proofs.Homes.{folds_last_ok, folds_none, if_ok}
use Rattle.rubis_shard.proofs.Single.{all_parts}
use Rattle.rubis_shard.proofs.messages.fold_parts.Goals as goal

pub returns-then-list-eq1-clause-ok : goal.returns-then-list-eq1-clause-ok
returns-then-list-eq1-clause-ok c =
    let ts : List ShardState = c.args.list.now in
    let x : ShardState = c.index-list-0.result in
    let ns = numbered_of c.args.entry.now in
    let single : length ts ≡ 1 = c.if-list-eq1.true in
    let there : slice_get ts 0 ≡ Some x = slice_get_read ts (length ts) 0 x refl c.requires.some c.index-list-0.is in
    let read : get_or ts 0 x ≡ x = sym c.index-list-0.is in
    let all : ns ≡ parts_at (length ts) 0 ns = sym (ap (λ n. parts_at n 0 ns) single ∙ all_parts ns) in
    folds_last_ok c.fold_whole.result ts 0 0 ns x c.fold_whole.new.self there
    (if_ok _ _ (λ (is : c.fold_whole.new.self ≡ with_parts (get_or ts 0 x) ns). is ∙ (λ i. with_parts (read i) (all i))) c.fold_whole.result
    c.fold_whole.ensures.ok)
    (λ k low high. absurd (omega (arith, low, high)))
    (λ k low high. absurd (omega (arith, low, high, single)))
    (omega arith)

pub returns-then-first-list-clause-ok : goal.returns-then-first-list-clause-ok
returns-then-first-list-clause-ok c =
    folds_none c.next_home-first.result c.new-message.result.shards c.args.list.now (numbered_of c.args.entry.now) c.new-message.ensures.shards
    (let is = c.if-first-list.true in omega arith)
    (subst (λ e. (k : ℕ) → 0 ≤ k → k < c.next_home-first.result → parts_at c.new-message.result.shards k (numbered_of e) ≡ [])
    c.new-message.ensures.entry c.next_home-first.ensures.none)
