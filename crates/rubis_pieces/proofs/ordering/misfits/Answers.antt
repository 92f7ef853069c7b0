use Rattle.rubis_pieces.proofs.Common.{rules, ◌≡◌, ap, ◌∙◌, subst, arith, IsPermutation, take_all, IsNonDecreasingBy-from_sort_by_key, all_misfits}
use Rattle.rubis_pieces.specs.Misfits.{misfit_order}
use Rattle.rubis_pieces.proofs.Order.{misfits_are}
use Rattle.rubis_pieces.proofs.ordering.misfits.Goals as goal

pub returns-clause-order : goal.returns-clause-order
returns-clause-order c = IsNonDecreasingBy-from_sort_by_key misfit_order _ c.sort_unstable_by_key.ensures.sorted (λ a r q k. search
    rules)

pub returns-clause-log : goal.returns-clause-log
returns-clause-log c = λ shards log l h.
    let is : c.loop-shard.list.items ≡ all_misfits c.args.tables.now = c.loop-shard.invariant
    ∙ ap all_misfits (take_all _ _ (omega arith) ∙ c.shards-shard-items.ensures.list) in
    let all : IsPermutation (all_misfits c.args.tables.now) c.sort_unstable_by_key.new.self.items = subst (λ xs. IsPermutation
    xs c.sort_unstable_by_key.new.self.items) is c.sort_unstable_by_key.ensures.permutation in
    misfits_are shards log c.args.tables.now c.sort_unstable_by_key.new.self.items l h all
    (IsNonDecreasingBy-from_sort_by_key misfit_order _ c.sort_unstable_by_key.ensures.sorted (λ a r q k. search rules))
