use Rattle.rubis_script.proofs.Common.{◌∙◌, ap, refl, subst, sym, take, held_text, AreOf, ends_memory, at, are_outlets}
use Rattle.rubis_engine.proofs.SeamFacts.{each-kept, each-same}
use Rattle.rubis_script.specs.Runs.{AreHeld}
use Rattle.rubis_script.proofs.StretchFacts.{as-setup, folded-turns, held-after, held-on, if-on, kept-more, read-held, read-on, takes-none, takes-one, setup-on}
use Rattle.rubis_script.proofs.helped.helped_turn.Goals as goal

pub give_all-requires : goal.give_all-requires
give_all-requires g c = subst (λ t. AreOf t c.args.helpers.now.pieces) (sym c.held.ensures) c.requires.held.pieces

pub next-requires : goal.next-requires
next-requires g c = (c.held.result.now, c.give_all.ensures.pieces)

pub returns-in_err-give_all-clause-turns : goal.returns-in_err-give_all-clause-turns
returns-in_err-give_all-clause-turns g c =
    each-same (λ text h. ends_memory _ _ _ c.from_residual.result c.from_residual.ensures
    (λ later pending. (are_outlets g.W.Write.contents).torn_none _ c.args.writer.now))

pub returns-in_err-piece-clause-turns : goal.returns-in_err-piece-clause-turns
returns-in_err-piece-clause-turns g c =
    each-same (λ text h. ends_memory _ _ _ c.from_residual-in_err-piece.result c.from_residual-in_err-piece.ensures
    (λ later pending. (are_outlets g.W.Write.contents).torn_none _ c.args.writer.now))

pub returns-in_default-clause-held : goal.returns-in_default-clause-held
returns-in_default-clause-held g c =
    let text = held_text c.args.chunks.now in
    let d = c.args.desk.now in
    let d2 = c.turn.new.service in
    let given = subst (λ t. AreOf t c.give_all.new.self) c.held.ensures c.give_all.ensures.pieces in
    let kept = kept-more c.args.helpers.now.pieces c.give_all.new.self c.next.new.self c.give_all.ensures.setup c.in_ok-piece.ensures.setup in (
      (kept.0, refl),
      if-on _ c.turn.result
          (held-on c.args.chunks.now c.turn.new.chunks d d2 c.args.helpers.now.pieces c.next.new.self c.requires.held kept
          (as-setup d d2 c.turn.ensures.same)
          (takes-none text c.in_ok-piece.field-0 c.next.new.self (c.in_ok-piece.ensures.first text given) c.in_default.is (held_text c.turn.new.chunks))),
    )

pub answer_read-requires-clause-chunk : goal.answer_read-requires-clause-chunk
answer_read-requires-clause-chunk g c κs within =
    let text = held_text c.args.chunks.now in
    let given = subst (λ t. AreOf t c.give_all.new.self) c.held.ensures c.give_all.ensures.pieces in
    (takes-one text c.in_ok-piece.field-0 c.in-Some.piece c.next.new.self (c.in_ok-piece.ensures.first text given) c.in-Some.is).0

pub answer_read-requires-clause-read : goal.answer_read-requires-clause-read
answer_read-requires-clause-read g c κs within =
    let d = c.args.desk.now in
    let text = held_text c.args.chunks.now in
    let given = subst (λ t. AreOf t c.give_all.new.self) c.held.ensures c.give_all.ensures.pieces in
    let one = takes-one text c.in_ok-piece.field-0 c.in-Some.piece c.next.new.self (c.in_ok-piece.ensures.first text given) c.in-Some.is in
    read-on d c.fold.new.desk (take c.in-Some.piece.many text) c.in-Some.piece.list.items c.fold.ensures.folded.setup
    (read-held c.args.chunks.now d c.args.helpers.now.pieces c.next.new.self (take c.in-Some.piece.many text) c.in-Some.piece.list.items c.requires.held
    (kept-more c.args.helpers.now.pieces c.give_all.new.self c.next.new.self c.give_all.ensures.setup c.in_ok-piece.ensures.setup) one.1)

pub returns-clause-turns : goal.returns-clause-turns
returns-clause-turns g c =
    each-kept c.answer_read.ensures.reader (λ l. folded-turns g.W.Write.contents c.args.limit l c.args.chunks.now c.answer_read.new.chunks
    (at c.args.desk.now c.args.run.now c.args.writer.now) c.fold.new.desk (at c.answer_read.new.desk c.answer_read.new.run c.answer_read.new.writer)
    c.answer_read.result c.fold.ensures.folded (c.answer_read.ensures.turns l))

pub returns-clause-held : goal.returns-clause-held
returns-clause-held g c =
    let text = held_text c.args.chunks.now in
    let d = c.args.desk.now in
    let d2 = c.answer_read.new.desk in
    let given = subst (λ t. AreOf t c.give_all.new.self) c.held.ensures c.give_all.ensures.pieces in
    let one = takes-one text c.in_ok-piece.field-0 c.in-Some.piece c.next.new.self (c.in_ok-piece.ensures.first text given) c.in-Some.is in
    let old = c.args.helpers.now.pieces in
    let kept = kept-more old c.give_all.new.self c.next.new.self c.give_all.ensures.setup c.in_ok-piece.ensures.setup in (
      (ap (λ p. p.lead.crew) c.fold.ensures.pieces ∙ kept.0, c.fold.ensures.crew),
      held-after _ c.answer_read.result
          (λ text_is. subst (λ p. AreHeld c.answer_read.new.chunks d2 p) (sym c.fold.ensures.pieces)
          (held-on c.args.chunks.now c.answer_read.new.chunks d d2 old c.next.new.self c.requires.held kept
          (setup-on d c.fold.new.desk d2 c.fold.ensures.folded.setup c.answer_read.ensures.same)
          (subst (λ t. AreOf t c.next.new.self) (sym text_is) one.2))) c.answer_read.ensures.held,
    )
