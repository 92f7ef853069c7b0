use Rattle.rubis_audit.proofs.Common.{◌∙◌, ◌+◌, ◌≤◌, ap, arith, rules, subst, sym, option_map, COUNTED_MAX, line_only, AnswersRecord, Ends, GoesOn}
use Rattle.rubis_audit.proofs.Common.{answers-waiting}
use Rattle.rubis_audit.specs.Running.{line_as, WidenerState, widening_from}
use Rattle.rubis_audit.specs.Forms.{logs_at}
use Rattle.rubis_audit.proofs.Placing.{goes}
use Rattle.rubis_audit.proofs.widener.WidenerService.answer.Goals as goal

pub write_line-requires-clause-written : goal.write_line-requires-clause-written
write_line-requires-clause-written g c =
    let fields = c.args.fields.now in
    let line = sym c.in_ok-line.ensures.line ∙ ap (option_map (line_as fields)) c.in-Some.is in
    let few : c.self.inside.from ≤ COUNTED_MAX = omega (arith, c.self.invariant.0, c.self.invariant.1) in
    sym (line_only c.self.inside.from few fields (line_as fields c.in-Some.line) line).1

pub returns-clause-answer : goal.returns-clause-answer
returns-clause-answer g c =
    let inside = c.self.inside in
    let number = c.args.reply.now.number in
    let fields = c.args.fields.now in
    let line = sym c.in_ok-line.ensures.line ∙ ap (option_map (line_as fields)) c.in-Some.is in
    let next = sym (c.after.ensures fields) ∙ c.in-Some-after.is in
    let new : WidenerState = record { from = inside.from; to = inside.to; place = c.in-Some-after.place } in
    let answered =
    goes inside.from inside.to number inside.place c.in-Some-after.place
    (line_as fields c.in-Some.line) fields c.args.reply.now.sink c.write_line.new.reply.sink line next c.in_ok-write_line.ensures.text in (
      answers-waiting GoesOn _ _ _ _ (g.W.Write.contents c.args._writer.now) fields (subst (λ (s : WidenerState). AnswersRecord GoesOn (widening_from s.from s.to number (logs_at s.place))
          (widening_from c.write_line.new.self.from c.write_line.new.self.to (number + 1) (logs_at c.write_line.new.self.place)) c.args.reply.now.sink
          c.write_line.new.reply.sink fields) c.self.view_is
          (subst (λ (s : WidenerState). AnswersRecord GoesOn (widening_from inside.from inside.to number (logs_at inside.place))
          (widening_from s.from s.to (number + 1) (logs_at s.place)) c.args.reply.now.sink c.write_line.new.reply.sink fields)
          (sym c.write_line.ensures.state) answered)),
      λ more last led. tt,
    )

pub returns-2-clause-answer : goal.returns-2-clause-answer
returns-2-clause-answer g c = (answers-waiting Ends _ _ _ _ _ _ (search rules), λ more. tt)
