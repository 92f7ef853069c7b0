use Rattle.std.proofs.Common.{◌++◌, ◌∷◌, [], length, slice_index, arith, ap, sym, ◌∙◌}
use Rattle.std.proofs.lemmas.List.{length-take, take_all, take_more}
use Rattle.rubis_clock.proofs.packed.PackedDeps.pack.Goals as goal

pub push-requires-clause-room : goal.push-requires-clause-room
push-requires-clause-room c =
    let many = ap length c.loop-count.invariant in
    let taken = length-take c.loop-count.count-index c.as_slice-counts.result.now in
    let same = ap length c.as_slice-counts.ensures.value in
    omega (arith, many, taken, same, c.as_slice-counts.ensures.few, c.loop-count-test.true)

pub loop-count-preserved : goal.loop-count-preserved
loop-count-preserved c =
    c.push.ensures ∙ ap (λ xs. xs ++ slice_index c.as_slice-counts.result.now c.loop-count.count-index ∷ []) c.loop-count.invariant
    ∙ sym (take_more c.as_slice-counts.result.now c.loop-count.count-index 0 (omega (arith, c.loop-count-test.true)))

pub returns : goal.returns
returns c =
    c.loop-count.invariant ∙ take_all c.loop-count.count-index c.as_slice-counts.result.now (omega (arith, c.loop-count-test.false))
    ∙ c.as_slice-counts.ensures.value
