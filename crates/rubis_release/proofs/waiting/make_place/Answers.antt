use Rattle.rubis_release.proofs.Common.{◌≡◌, length, sym, ap, ◌∙◌, arith, list_any, Decides-eqb, nil_from_length, same_id, Message}
use Rattle.rubis_release.specs.Waiting.{somes}
use Rattle.rubis_release.proofs.Slots.{has_told, full_lookup, none_is}
use Rattle.rubis_release.proofs.waiting.make_place.Goals as goal
use Rattle.rubis_release.proofs.waiting.make_place.Goals.{then-gone-eq0-via-then-gone-eq0, then-gone-eq0-via-else-gone-eq0+then-not-contains_key}

pub returns-then-gone-eq0-clause-absent : goal.returns-then-gone-eq0-clause-absent
returns-then-gone-eq0-clause-absent c = elim c.then-gone-eq0.branch [
  | then-gone-eq0-via-then-gone-eq0 w ↦
      let es = c.args.slots.now.entries in
      let full : length (somes es) ≡ length es = omega (arith, c.requires.slots.gone, w.if-gone-eq0.true) in
      full_lookup (same_id c.args.id.now) es full
      (has_told es c.args.id.now c.requires.slots.own c.requires.slots.apart ∙ c.requires.none)
  | then-gone-eq0-via-else-gone-eq0+then-not-contains_key w ↦ none_is _ (sym w.contains_key.ensures ∙ w.if-not-contains_key.true)
]

pub close-requires : goal.close-requires
close-requires c = λ e.
    let same = (Decides-eqb c.args.gone c.len.result).0 e in
    nil_from_length (somes c.args.slots.now.entries) (omega (arith, same, c.len.ensures.len, c.requires.slots.gone))

pub returns-clause-slots : goal.returns-clause-slots
returns-clause-slots c = record { own = c.close.ensures.own c.requires.slots.own; apart = c.close.ensures.apart; gone = omega (arith, c.close.ensures.full) }

pub returns-clause-absent : goal.returns-clause-absent
returns-clause-absent c =
    let es = c.close.new.slots.entries in
    full_lookup (same_id c.args.id.now) es c.close.ensures.full
    (has_told es c.args.id.now (c.close.ensures.own c.requires.slots.own) c.close.ensures.apart
    ∙ ap (list_any (λ (m : Message). same_id c.args.id.now m.stamp.id)) c.close.ensures.same ∙ c.requires.none)
