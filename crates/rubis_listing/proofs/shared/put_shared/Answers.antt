use Rattle.std.proofs.Common.{rules, arith, ◌≡◌, ◌∷◌, ◌∙◌, [], subst, sym, ap}
use Rattle.std.specs.Vec.Iter.{into_iter_items, into_iter_len}
use Rattle.std.proofs.lemmas.List.{nil_from_length}
use Rattle.rubis_listing.specs.Parts.{part_end, between, AreParts}
use Rattle.rubis_listing.proofs.Making.{between_more, between_none}
use Rattle.rubis_listing.proofs.shared.put_shared.Goals as goal

pub loop-part-preserved : goal.loop-part-preserved
loop-part-preserved g c =
    let laws = g.met.S.RowSink g.world.𝓛 g.world.𝓜 g.world.𝓡 ((λ s x. x), (λ x. x), (λ x. x), λ x. x) in
    let adds = g.S.RowSink.adds in
    let source = c.args.source.now in
    let upto = c.args.upto in
    let inv = c.loop-part.invariant in
    let at = inv.0 in
    let before = inv.1 in
    let next = part_end at upto in
    let items : into_iter_items c.loop-part.part-iterator ≡ c.in-Some-part.part ∷ into_iter_items c.next.new.self = search rules in
    let parts = subst (AreParts g.S.SharedSink.holds source at upto) items inv.2 in (
      next,
      omega (arith, before),
      parts.1,
      λ s h.
          let added = c.in_ok-append.ensures (between source at next) parts.0 in
          let more = laws.adds_more (between source at next) (between source next upto) _ _ s added h in
          inv.3 s (subst (λ rs. adds rs c.loop-part.sink s)
          (sym (between_more source at next upto (omega (arith, before)) (omega (arith, before)) (omega (arith, before, c.requires.upto)))) more),
    )

pub returns : goal.returns
returns g c =
    let laws = g.met.S.RowSink g.world.𝓛 g.world.𝓜 g.world.𝓡 ((λ s x. x), (λ x. x), (λ x. x), λ x. x) in
    let source = c.args.source.now in
    let sink = c.loop-part.sink in
    let inv = c.loop-part.invariant in
    let many = c.loop-part.part-iterator.rest.ok.0 in
    let gone : into_iter_len c.loop-part.part-iterator ≡ 0 = search rules in
    let none : into_iter_items c.loop-part.part-iterator ≡ [] = nil_from_length _ (sym many ∙ gone) in
    let ended : inv.0 ≡ c.args.upto = subst (AreParts g.S.SharedSink.holds source inv.0 c.args.upto) none inv.2 in
    inv.3 sink (subst (λ rs. g.S.RowSink.adds rs sink sink) (sym (ap (λ n. between source n c.args.upto) ended ∙ between_none source c.args.upto))
    (laws.adds_none sink))
