use Rattle.rubis_shard.proofs.Common.{rules, is_lt, answers_always, ranks_by, key_order, key_total, RowKey, Row}
use Rattle.rubis_shard.proofs.orders.put_in_order.Goals as goal

pub returns-clause-sorted : goal.returns-clause-sorted
returns-clause-sorted c = c.in_ok-sort_by.ensures.sorted
    (λ (x y : RowKey × Row). is_lt (key_order x.0 y.0))
    (ranks_by key_total (λ (x : RowKey × Row). x.0))
    (answers_always _ _ _ (λ f a r g called. search rules))
