use Rattle.rubis_script.proofs.Common.{◌≡◌, ◌∙◌, ◌≤◌, ◌+◌, All, ap, arith, length, refl, subst, sym, FitsIn, sites_of, ends_memory, ends_on}
use Rattle.rubis_script.proofs.Common.{FitsWindow, of_stretch, came-length, at}
use Rattle.rubis_script.proofs.StretchFacts.{all-sites, breaks-next, breaks-none, goes-messages, goes-next}
use Rattle.rubis_script.proofs.answering.answer_stretch.Goals as goal

pub returns-in_err-flush-in-Messages-clause-answered : goal.returns-in_err-flush-in-Messages-clause-answered
returns-in_err-flush-in-Messages-clause-answered g c =
    ends_memory _ _ _ c.from_residual.result c.from_residual.ensures
    (breaks-none g.W.Write.contents (of_stretch c.args.stretch) (at c.args.desk.now c.args.run.now c.args.writer.now))

pub returns-in_ok-flush-in-Messages-clause-answered : goal.returns-in_ok-flush-in-Messages-clause-answered
returns-in_ok-flush-in-Messages-clause-answered g c =
    let list = c.in-Messages.list in
    let flushed = c.in_ok-flush-in-Messages.ensures in
    let size : c.len-many.result ≡ length list.items = omega (arith, c.len-many.ensures, list.ok) in
    let count : c.args.run.now.answered + c.len-many.result ≡ c.args.run.now.answered + length list.items = ap (λ k. c.args.run.now.answered + k) size in
    rw c.in-Messages.is (
      goes-messages g.W.Write.contents (at c.args.desk.now c.args.run.now c.args.writer.now) c.flush.new.self _ c.flush.new.reply.sink _ list.items
          flushed.same flushed.flushed flushed.empty refl refl refl refl count,
      count ∙ ap (λ k. c.args.run.now.answered + k) (sym (came-length list.items)),
    )

pub returns-in_err-take-in-One-clause-answered : goal.returns-in_err-take-in-One-clause-answered
returns-in_err-take-in-One-clause-answered g c =
    ends_on _ _ c.from_residual-in_err-take-in-One.result c.in_err-take-in-One.field-0.0 c.from_residual-in_err-take-in-One.ensures absurd absurd
    (λ breaks. rw c.in-One.is (breaks-next g.W.Write.contents (at c.args.desk.now c.args.run.now c.args.writer.now) c.take.new.writer c.in-One.read breaks)) c.in_err-take-in-One.ensures.takes

pub returns-in_ok-take-in-One-clause-answered : goal.returns-in_ok-take-in-One-clause-answered
returns-in_ok-take-in-One-clause-answered g c =
    rw c.in-One.is (
      goes-next g.W.Write.contents (at c.args.desk.now c.args.run.now c.args.writer.now) c.take.new.self c.take.new.reply.sink c.take.new.writer c.in-One.read
          c.in_ok-take-in-One.ensures.takes,
      refl,
    )

pub overflow_add-run : goal.overflow_add-run
overflow_add-run g c =
    let is = ap (λ r. length (of_stretch r)) c.in-Messages.is in
    omega (arith, is, came-length c.in-Messages.list.items, c.len-many.ensures, c.in-Messages.list.ok, c.requires.room)

pub invariant_of-desk : goal.invariant_of-desk
invariant_of-desk g c =
    let d = c.flush.new.self in
    let list = c.in-Messages.list in
    let fits = subst (λ r. All (λ x. FitsIn c.args.desk.now.site.place.sites x) (of_stretch r)) c.in-Messages.is c.requires.fits in
    let sites = all-sites c.args.desk.now.site.place.sites list.items fits in
    let room = subst (λ r. FitsWindow c.args.desk.now.plan.window r) c.in-Messages.is c.requires.window c.args.desk.now.some in
    let same = c.in_ok-flush-in-Messages.ensures.same in
    let is = ap (λ r. length (of_stretch r)) c.in-Messages.is in
    record {
      same = d.same;
      few = d.few;
      some = d.some;
      most = d.most;
      held = subst (λ k. All (λ m. sites_of m ≡ k) list.items) (sym (d.same ∙ ap (λ p. p.sites) same.0)) sites;
      fits = subst (λ p. length list.items ≤ p.window) (sym same.1) room;
      numbered = omega (arith, is, came-length list.items, c.requires.room);
    }
