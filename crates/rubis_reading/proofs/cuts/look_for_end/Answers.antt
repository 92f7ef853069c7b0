use Rattle.rubis_reading.proofs.Common.{◌≤◌, ◌∙◌, arith, drop, length, subst, sym, take, take-append-drop, length-take-le}
use Rattle.rubis_reading.specs.Streams.{HasLooked}
use Rattle.rubis_reading.proofs.LookFacts.{looked-front, looked-more}
use Rattle.rubis_reading.proofs.cuts.look_for_end.Goals as goal

pub look_on-looked-requires : goal.look_on-looked-requires
look_on-looked-requires c =
    let rest = c.split_at.result.1.now in
    let front = c.min-front.result in
    let looked = c.looks.looked in
    let within : front ≤ length rest = omega (arith, c.min-front.ensures) in
    let far : looked.place ≤ front = omega (arith, c.min-front.ensures, c.saturating_add.ensures, c.if-looked-rest.true, c.min-front.type_inv) in
    let size = length-take-le front rest within in
    let here : HasLooked rest looked = subst (λ t. HasLooked t looked) (c.mark_len.ensures.rest ∙ sym c.split_at.ensures.back) c.looks.invariant.looked in
    looked-front (take front rest) (drop front rest) looked (omega (arith, size, far))
    (subst (λ t. HasLooked t looked) (sym (take-append-drop front rest)) here)

pub looks-preserved : goal.looks-preserved
looks-preserved c =
    let rest = c.split_at.result.1.now in
    let front = c.min-front.result in
    let looked = c.look_on-looked.result in record {
      looked = subst (λ t. HasLooked t looked) (take-append-drop front rest ∙ c.split_at.ensures.back ∙ sym c.mark_len.ensures.rest)
          (looked-more (take front rest) (drop front rest) looked c.look_on-looked.ensures.looked);
    }
