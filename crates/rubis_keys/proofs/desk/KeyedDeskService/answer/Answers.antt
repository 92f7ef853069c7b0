use Rattle.std.proofs.Common.{◌∙◌, ◌+◌, ap, refl, subst, sym}
use Rattle.rubis_shadow.specs.Shadows.{IsAsk}
use Rattle.rubis_model.specs.Site.{Place}
use Rattle.rubis_engine.proofs.RunFacts.{answers-waiting, breaks-unwritten, ends_memory, ends_on}
use Rattle.rubis_engine.specs.declared.service.Course.TheVariants.{GoesOn}
use Rattle.rubis_keys.specs.Desks.{FitsUnder, keyed_left_at}
use Rattle.rubis_keys.specs.declared.inputs.KeyedInput.TheVariants.{AskedUnder, CameUnder}
use Rattle.rubis_keys.proofs.TakeFacts.{breaks_plain, leads_on, takes_behind, takes_plain}
use Rattle.rubis_keys.proofs.desk.KeyedDeskService.answer.Goals as goal

pub take-requires-after_bounds : goal.take-requires-after_bounds
take-requires-after_bounds g c κs within = subst (FitsUnder c.args.self.now.desk.site.place.sites) c.in-Plain.is c.in_ok-read.ensures.fits

pub ask-requires-after_bounds : goal.ask-requires-after_bounds
ask-requires-after_bounds g c κs within =
    subst (λ (p : Place). IsAsk p.sites c.in-AskedUnder.ask) (sym c.flush.ensures.same.0)
    (subst (FitsUnder c.args.self.now.desk.site.place.sites) c.in-AskedUnder.is c.in_ok-read.ensures.fits).0

pub receive-requires-after_bounds : goal.receive-requires-after_bounds
receive-requires-after_bounds g c κs within =
    (subst (FitsUnder c.args.self.now.desk.site.place.sites) c.in-CameUnder.is c.in_ok-read.ensures.fits).1
    ∙ ap (λ (p : Place). p.sites) (sym c.flush-in-CameUnder.ensures.same.0)

pub returns-in_err-take-in-Plain-clause-answer : goal.returns-in_err-take-in-Plain-clause-answer
returns-in_err-take-in-Plain-clause-answer g c =
    ends_on _ _ c.from_residual-in_err-take-in-Plain.result c.in_err-take-in-Plain.field-0.0 c.from_residual-in_err-take-in-Plain.ensures absurd absurd
    (λ breaks. breaks_plain c.args.self.now c.in-Plain.read c.args.reply.now.number c.args.fields.now c.args.reply.now.sink _ _ breaks
    (c.in_ok-read.ensures.means ∙ c.in-Plain.is)) c.in_err-take-in-Plain.ensures.takes

pub returns-in_ok-take-in-Plain-clause-answer : goal.returns-in_ok-take-in-Plain-clause-answer
returns-in_ok-take-in-Plain-clause-answer g c =
    takes_plain c.args.self.now (record c.args.self.now { desk = c.take.new.self }) c.in-Plain.read c.args.reply.now.number c.args.fields.now
    c.args.reply.now.sink c.take.new.reply.sink _ _ c.in_ok-take-in-Plain.ensures.takes refl (c.in_ok-read.ensures.means ∙ c.in-Plain.is)

pub returns-in_ok-ask-in-AskedUnder-clause-answer : goal.returns-in_ok-ask-in-AskedUnder-clause-answer
returns-in_ok-ask-in-AskedUnder-clause-answer g c =
    let d = c.args.self.now in
    let n = c.args.reply.now.number in
    let fields = c.args.fields.now in
    let flushed = c.in_ok-flush-in-AskedUnder.ensures in
    let took = takes_behind d (record d { desk = c.flush.new.self }) c.ask.new.self (AskedUnder c.in-AskedUnder.key c.in-AskedUnder.ask) n c.args.reply.now.sink
    c.flush.new.reply.sink c.ask.new.reply.sink _ flushed.flushed refl flushed.empty c.in_ok-ask-in-AskedUnder.ensures.same
    (rw flushed.number at c.in_ok-ask-in-AskedUnder.ensures.asked) in
    let means = c.in_ok-read.ensures.means ∙ c.in-AskedUnder.is in (
      answers-waiting GoesOn (keyed_left_at d n) (keyed_left_at c.ask.new.self (n + 1)) c.args.reply.now.sink c.ask.new.reply.sink _ fields
          (took.text fields means),
      leads_on d c.ask.new.self n fields _ means took.place took.leads,
    )

pub returns-in_ok-receive-in-CameUnder-clause-answer : goal.returns-in_ok-receive-in-CameUnder-clause-answer
returns-in_ok-receive-in-CameUnder-clause-answer g c =
    let d = c.args.self.now in
    let n = c.args.reply.now.number in
    let fields = c.args.fields.now in
    let flushed = c.in_ok-flush-in-CameUnder.ensures in
    let took = takes_behind d (record d { desk = c.flush-in-CameUnder.new.self }) c.receive.new.self (CameUnder c.in-CameUnder.key c.in-CameUnder.message) n c.args.reply.now.sink
    c.flush-in-CameUnder.new.reply.sink c.receive.new.reply.sink _ flushed.flushed refl flushed.empty c.in_ok-receive-in-CameUnder.ensures.same
    (rw flushed.number at c.in_ok-receive-in-CameUnder.ensures.came) in
    let means = c.in_ok-read.ensures.means ∙ c.in-CameUnder.is in (
      answers-waiting GoesOn (keyed_left_at d n) (keyed_left_at c.receive.new.self (n + 1)) c.args.reply.now.sink c.receive.new.reply.sink _ fields
          (took.text fields means),
      leads_on d c.receive.new.self n fields _ means took.place took.leads,
    )

pub returns-in_err-receive-in-CameUnder-clause-answer : goal.returns-in_err-receive-in-CameUnder-clause-answer
returns-in_err-receive-in-CameUnder-clause-answer g c =
    ends_memory _ _ _ c.from_residual-in_err-receive-in-CameUnder.result c.from_residual-in_err-receive-in-CameUnder.ensures
    (breaks-unwritten (keyed_left_at c.args.self.now c.args.reply.now.number) c.args.reply.now.sink c.args.fields.now (g.W.Write.contents c.args.writer.now))

pub returns-in_err-flush-in-AskedUnder-clause-answer : goal.returns-in_err-flush-in-AskedUnder-clause-answer
returns-in_err-flush-in-AskedUnder-clause-answer g c =
    ends_memory _ _ _ c.from_residual-in_err-flush-in-AskedUnder.result c.from_residual-in_err-flush-in-AskedUnder.ensures
    (breaks-unwritten (keyed_left_at c.args.self.now c.args.reply.now.number) c.args.reply.now.sink c.args.fields.now (g.W.Write.contents c.args.writer.now))

pub returns-in_err-ask-in-AskedUnder-clause-answer : goal.returns-in_err-ask-in-AskedUnder-clause-answer
returns-in_err-ask-in-AskedUnder-clause-answer g c =
    ends_memory _ _ _ c.from_residual-in_err-ask-in-AskedUnder.result c.from_residual-in_err-ask-in-AskedUnder.ensures
    (breaks-unwritten (keyed_left_at c.args.self.now c.args.reply.now.number) c.args.reply.now.sink c.args.fields.now (g.W.Write.contents c.args.writer.now))

pub returns-in_err-flush-in-CameUnder-clause-answer : goal.returns-in_err-flush-in-CameUnder-clause-answer
returns-in_err-flush-in-CameUnder-clause-answer g c =
    ends_memory _ _ _ c.from_residual-in_err-flush-in-CameUnder.result c.from_residual-in_err-flush-in-CameUnder.ensures
    (breaks-unwritten (keyed_left_at c.args.self.now c.args.reply.now.number) c.args.reply.now.sink c.args.fields.now (g.W.Write.contents c.args.writer.now))
