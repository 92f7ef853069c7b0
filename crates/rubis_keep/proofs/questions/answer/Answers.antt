use Rattle.std.proofs.Common.{◌∙◌, ap, arith, sym}
use Rattle.rubis_keep.specs.Lines.{closes_quotes}
use Rattle.rubis_keep.proofs.AskFacts.{refused-bad, refused-open}
use Rattle.rubis_keep.proofs.questions.answer.Goals as goal

pub returns-then-not-closes-clause-rows : goal.returns-then-not-closes-clause-rows
returns-then-not-closes-clause-rows g c =
    refused-open c.args.clerk.now.keyed.desk.site.place c.args.clerk.now.keyed.desk.site.state c.args.clerk.now.served.answered c.args.line.now (omega arith)
    (ap closes_quotes (sym c.behind_first-rest.ensures) ∙ sym c.closes.ensures ∙ c.if-not-closes.true) c.in_ok-refuse-2.ensures

pub returns-in_ok-refuse-in-None-clause-rows : goal.returns-in_ok-refuse-in-None-clause-rows
returns-in_ok-refuse-in-None-clause-rows g c =
    refused-bad c.args.clerk.now.keyed.desk.site.place c.args.clerk.now.keyed.desk.site.state c.args.clerk.now.served.answered c.args.line.now (omega arith)
    (ap closes_quotes (sym c.behind_first-rest.ensures) ∙ sym c.closes.ensures ∙ c.if-not-closes.false)
    (rw (c.sites.ensures.same, c.behind_first-rest.ensures) at c.in_ok-listing.ensures) c.in-None.is c.in_ok-refuse-in-None.ensures
