use Rattle.std.proofs.Common.{◌≡◌, ◌+◌, true, false, List, length, sym, ap, ◌∙◌, arith}
use Rattle.rubis_shard.specs.Listed.{recorded_from}
use Rattle.rubis_shard.specs.Chains.{chain_written}
use Rattle.rubis_shard.proofs.Counting.{count_step}
use Rattle.rubis_shard.proofs.counts.count_among.Goals as goal

pub overflow_add-count : goal.overflow_add-count
overflow_add-count g c =
    let f = g.K.MapKey.row_key in
    let n = c.args.first in
    let whole = ap (λ (es : List _). length (recorded_from n (chain_written f es))) (c.into_iter-key-iterator.ensures.into_iter_gives ∙ c.iter-key-items.ensures.rest)
    in
    let one : 1 + length (recorded_from n (chain_written f c.next.new.self)) ≡ length (recorded_from n (chain_written f c.loop-key.key-iterator)) =
    count_step f n c.row_key-key.result c.in-Some.key.now c.in-Some.row.now c.next.new.self c.loop-key.key-iterator true
    c.row_key-key.ensures c.in-Some.ensures.steps (sym c.if-is_counted.true ∙ c.is_counted.ensures) in
    omega (arith, c.loop-key.invariant, whole, one, c.requires)

pub loop-key-preserved-then-is_counted : goal.loop-key-preserved-then-is_counted
loop-key-preserved-then-is_counted g c =
    let f = g.K.MapKey.row_key in
    let n = c.args.first in
    let one : 1 + length (recorded_from n (chain_written f c.next.new.self)) ≡ length (recorded_from n (chain_written f c.loop-key.key-iterator)) =
    count_step f n c.row_key-key.result c.in-Some.key.now c.in-Some.row.now c.next.new.self c.loop-key.key-iterator true
    c.row_key-key.ensures c.in-Some.ensures.steps (sym c.if-is_counted.true ∙ c.is_counted.ensures) in
    omega (arith, c.loop-key.invariant, one)

pub loop-key-preserved : goal.loop-key-preserved
loop-key-preserved g c =
    let f = g.K.MapKey.row_key in
    let n = c.args.first in
    let none : 0 + length (recorded_from n (chain_written f c.next.new.self)) ≡ length (recorded_from n (chain_written f c.loop-key.key-iterator)) =
    count_step f n c.row_key-key.result c.in-Some.key.now c.in-Some.row.now c.next.new.self c.loop-key.key-iterator false
    c.row_key-key.ensures c.in-Some.ensures.steps (sym c.if-is_counted.false ∙ c.is_counted.ensures) in
    omega (arith, c.loop-key.invariant, none)

pub returns : goal.returns
returns g c =
    let f = g.K.MapKey.row_key in
    let n = c.args.first in
    let whole = ap (λ (es : List _). length (recorded_from n (chain_written f es))) (c.into_iter-key-iterator.ensures.into_iter_gives ∙ c.iter-key-items.ensures.rest)
    in
    let none : length (recorded_from n (chain_written f c.loop-key.key-iterator))
    ≡ 0 = ap (λ (es : List _). length (recorded_from n (chain_written f es))) c.in-None.ensures.steps.0 in
    omega (arith, c.loop-key.invariant, whole, none)
