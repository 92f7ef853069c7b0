use Rattle.rubis_replica.proofs.Common.{◌≡◌, ◌∙◌, ap, sym, subst, arith, Some, reverse, sites_of, Place, arrived, Intake}
use Rattle.std.proofs.lemmas.List.Elements.{All-pop}
use Rattle.rubis_replica.specs.State.{TakesFirst}
use Rattle.rubis_replica.proofs.Comings.{last_first, refused_step, takes_next}
use Rattle.rubis_replica.proofs.arriving.take_from_end.Goals as goal
use Rattle.rubis_replica.proofs.arriving.take_from_end.Goals.{in-Ok, in-Err-Refused}

pub loop-message-preserved : goal.loop-message-preserved
loop-message-preserved c =
    let p = c.args.intake.now.place in
    let old = c.args.intake.now.state in
    let now = c.loop-message.intake.state in
    let new = c.arrive.new.self.state in
    let messages = reverse c.args.rest.now.items in
    let m = c.in-Some.message in
    let a = c.match-arrive.answer in
    let told : (new, a) ≡ arrived c.loop-message.intake.place now m = elim c.match-arrive.branch [
      | in-Ok w ↦ ap (λ x. (new, x)) w.answer-is ∙ w.in-Ok.ensures.step
      | in-Err-Refused w ↦
          ap (λ x. (new, x)) w.answer-is
          ∙ refused_step c.loop-message.intake.place now new m w.in-Err-Refused.field-0 w.in-Err-Refused.refusal w.in-Err-Refused.field-0-is
          w.in-Err-Refused.ensures.fault
          (ap (λ (i : Intake). i.state) w.in-Err-Refused.ensures.err)
    ] in
    let step = subst (λ (q : Place). (new, a) ≡ arrived q now m) c.loop-message.invariant.place told in
    let first = subst (λ l. TakesFirst p old now messages c.loop-message.answers.items l)
    (last_first c.loop-message.rest.items c.pop.new.self.items m c.in-Some.ensures.items)
    c.loop-message.invariant.first in
    record {
      place = c.arrive.ensures.place ∙ c.loop-message.invariant.place;
      sites = (All-pop (λ x. sites_of x ≡ p.sites) c.loop-message.rest.items c.pop.new.self.items
          (Some m) c.in-Some.ensures.items c.loop-message.invariant.sites).0;
      room = omega (arith, c.push_reserved-in-Some.ensures.len, c.push_reserved-in-Some.ensures.capacity, c.in-Some.ensures.len, c.loop-message.invariant.room);
      first = subst (λ l. TakesFirst p old new messages l (reverse c.pop.new.self.items)) (sym c.push_reserved-in-Some.ensures.items)
          (takes_next p old now new messages (reverse c.pop.new.self.items) c.loop-message.answers.items m a first step);
    }
