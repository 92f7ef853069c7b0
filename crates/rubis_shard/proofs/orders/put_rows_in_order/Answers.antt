use Rattle.rubis_shard.proofs.Common.{rules, is_lt, answers_always, ranks_by, key_order, key_total}
use Rattle.std.proofs.lemmas.List.Sorted.{IsPermutation-map}
use Rattle.rubis_shard.specs.Chains.{lent_row}
use Rattle.rubis_shard.proofs.Picked.{Lent, shown_in_order}
use Rattle.rubis_shard.proofs.orders.put_rows_in_order.Goals as goal

pub returns-clause-permutation : goal.returns-clause-permutation
returns-clause-permutation c = IsPermutation-map lent_row _ _ c.sort_by.ensures.permutation

pub returns-clause-sorted : goal.returns-clause-sorted
returns-clause-sorted c = shown_in_order _ (c.in_ok-sort_by.ensures.sorted
    (λ (x y : Lent). is_lt (key_order x.0 y.0))
    (ranks_by key_total (λ (x : Lent). x.0))
    (answers_always _ _ _ (λ f a r g called. search rules)))
