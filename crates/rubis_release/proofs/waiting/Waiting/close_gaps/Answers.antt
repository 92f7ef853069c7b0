use Rattle.rubis_release.proofs.Common.{◌∙◌, arith, Decides-eqb, nil_from_length}
use Rattle.rubis_release.specs.Waiting.{somes}
use Rattle.rubis_release.proofs.waiting.Waiting.close_gaps.Goals as goal

pub close-requires : goal.close-requires
close-requires c = λ e.
    let same = (Decides-eqb c.self.inside.gone c.len.result).0 e in
    nil_from_length (somes c.self.inside.slots.entries) (omega (arith, same, c.len.ensures.len, c.self.invariant.gone))

pub invariant_of-self : goal.invariant_of-self
invariant_of-self c = record { own = c.close.ensures.own c.self.invariant.own; apart = c.close.ensures.apart; gone = omega (arith, c.close.ensures.full) }

pub returns : goal.returns
returns c = c.close.ensures.same ∙ c.self.view_is
