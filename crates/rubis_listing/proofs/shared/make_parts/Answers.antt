use Rattle.rubis_listing.proofs.Common.{ℕ, ◌≡◌, ◌+◌, ◌*◌, ◌-◌, ◌≤◌, ◌∙◌, ap, arith, subst, sym, IfOk, AllZip, range_with_len}
use Rattle.std.proofs.Common.{◌/◌}
use Rattle.rayon.specs.Numbers.{nat_range}
use Rattle.rayon.proofs.ToStd.{nat_range-All}
use denote.Exit.{no}
use denote.Param.Send.{arg_send, param_send}
use Rattle.rubis_listing.specs.Parts.{rows_of_part, size_of, AreParts}
use Rattle.rubis_listing.proofs.Making.{each_made, if_made, parts_from}
use Rattle.rubis_listing.proofs.shared.make_parts.Goals as goal

-- each part begins within the rows, and a sink may be made by another thread
pub collect-requires-clause-ready : goal.collect-requires-clause-ready
collect-requires-clause-ready g c κs within =
    let ends = c.into_par_iter.ensures in
    let from = c.args.from in
    let upto = c.args.upto in
    let ordered = c.requires.from in
    let inside = nat_range-All (λ at. (from + at * 512 ≤ upto) × (upto ≤ size_of c.args.source.now)) 0 ((upto - from) / 512 + 1)
    (λ at low high. (omega (arith, ordered), c.requires.upto)) in
    rw (c.map.ensures.base, c.map.ensures.f, c.with_min_len.ensures.base, ends.0, ends.1)
    (λ k d lt. ((inside k d lt, param_send _ _ (arg_send _ no _ c.type_bounds.send-S)), λ y p. tt))

pub returns : goal.returns
returns g c =
    let h = c.in_ok-parts.ensures in
    let ends = c.into_par_iter.ensures in
    let holds = g.S.SharedSink.holds in
    let s = c.args.source.now in
    let from = c.args.from in
    let upto = c.args.upto in
    let ordered = c.requires.from in
    let many = (upto - from) / 512 + 1 in
    let whole : many - 0 ≡ many = omega arith in
    let of_part : ℕ → g.row.S.Denot → Type 0 = λ k part. holds (rows_of_part s from upto k) part in
    if_made c.in_ok-parts.parts _ _ _ h.2 (λ v made.
    let mapped = rw c.map.ensures.base at h.1 in
    let made_by = rw c.map.ensures.f at mapped in
    let chain = rw c.with_min_len.ensures.base at made_by in
    let numbers = chain.1 ∙ (λ i. nat_range (ends.0 i) (ends.1 i)) ∙ ap (range_with_len 0) whole in
    let results = subst (λ rs. AllZip (λ k r. IfOk r (of_part k)) chain.0 rs) made.1 chain.2 in
    let each_part = subst (λ ks. AllZip of_part ks made.0) numbers (each_made of_part chain.0 made.0 results) in
    subst (AreParts holds s from upto) (sym made.2)
    (parts_from holds s from upto from 0 many made.0 ordered (omega (arith, ordered)) (omega (arith, ordered)) (omega (arith, ordered)) each_part))
