use Rattle.rubis_audit.proofs.Common.{◌≡◌, ◌∙◌, ◌+◌, ap, refl, rules, subst, sym, option_map, AnswersRecord, Ends, GoesOn, answers-waiting}
use Rattle.rubis_audit.specs.Running.{line_as, account_from}
use Rattle.rubis_audit.proofs.Collecting.{goes}
use Rattle.rubis_audit.proofs.auditor.AuditorService.answer.Goals as goal

pub returns-clause-answer : goal.returns-clause-answer
returns-clause-answer g c =
    let fields = c.args.fields.now in
    let line = sym c.in_ok-line.ensures.line ∙ ap (option_map (line_as fields)) c.in-Some.is in
    let more = rw c.if-branch.true at c.in_ok-take.ensures.logs in
    let n = c.args.reply.now.number in
    let sink = c.args.reply.now.sink in
    let old = c.args.self.now.logs in
    let new = c.take.new.self.logs in
    let sites : c.self.inside.sites ≡ c.args.self.now.sites = ap (λ a. a.sites) c.self.view_is in
    let asked : c.self.inside.asked ≡ c.args.self.now.asked = ap (λ a. a.asked) c.self.view_is in
    let wait = answers-waiting GoesOn (account_from c.args.self.now.asked c.args.self.now.sites n old)
    (account_from c.take.new.self.asked c.take.new.self.sites (n + 1) new) sink sink (g.W.Write.contents c.args._writer.now) fields in
    let goes_on = goes c.self.inside.asked c.self.inside.sites n old new (line_as fields c.in-Some.line) fields sink sink line more refl in (
      wait (subst (λ q. AnswersRecord GoesOn (account_from c.args.self.now.asked c.args.self.now.sites n old)
          (account_from q c.take.new.self.sites (n + 1) new) sink sink fields) (sym c.take.ensures.sites.1)
          (subst (λ s. AnswersRecord GoesOn (account_from c.args.self.now.asked c.args.self.now.sites n old)
          (account_from c.args.self.now.asked s (n + 1) new) sink sink fields) (sym c.take.ensures.sites.0)
          (subst (λ q. AnswersRecord GoesOn (account_from q c.args.self.now.sites n old) (account_from q c.args.self.now.sites (n + 1) new) sink sink fields) asked
          (subst (λ s. AnswersRecord GoesOn (account_from c.self.inside.asked s n old) (account_from c.self.inside.asked s (n + 1) new) sink sink fields) sites
          goes_on)))),
      λ more last led. tt,
    )

pub returns-2-clause-answer : goal.returns-2-clause-answer
returns-2-clause-answer g c = (answers-waiting Ends _ _ _ _ _ _ (search rules), λ more. tt)
