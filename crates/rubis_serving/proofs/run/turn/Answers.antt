use Rattle.std.proofs.Common.{◌≡◌, ◌∙◌, ap, arith, subst, take}
use Rattle.std.specs.Int.{from_bool}
use Rattle.rubis_engine.proofs.RunFacts.{ends_on}
use Rattle.rubis_engine.proofs.SeamFacts.{each-kept, each-same, each-so, each-then}
use Rattle.rubis_reading.specs.Chunked.{ComesNearer, IsChunk, held_text}
use Rattle.rubis_serving.specs.Serving.{at, serving}
use Rattle.rubis_serving.proofs.ServedFacts.{chunk-stops, chunk-turns, over-on, stops-on}
use Rattle.rubis_serving.proofs.run.turn.Goals as goal

pub returns-in_err-over-clause-turns : goal.returns-in_err-over-clause-turns
returns-in_err-over-clause-turns g c =
    let k = serving g.S.Service.account g.S.Service.leads g.O.Outlet.puts g.O.Outlet.tears in
    let chunk : IsChunk c.whole-many.result (held_text c.args.chunks.now) = (c.if-many-gt1.true, c.whole-many.ensures.within, c.whole-many.ensures.whole (omega (arith, c.if-many-gt1.true))) in
    let text : c.split_at.result.0.now ≡ take c.whole-many.result (held_text c.args.chunks.now) = c.split_at.ensures.front ∙ ap (take c.whole-many.result) c.held.ensures in
    each-same (λ input h. chunk-stops k c.args.limit _ c.args.chunks.now c.args.chunks.now c.whole-many.result c.split_at.result.0.now
    (at c.args.service.now c.args.run.now c.args.outlet.now) (at c.answer_piece.new.service c.answer_piece.new.run c.answer_piece.new.outlet)
    c.from_residual.result c.in_err-over.field-0.0 c.from_residual.ensures chunk text c.in_err-over.ensures.answered)

pub returns-then-many-gt1-clause-turns : goal.returns-then-many-gt1-clause-turns
returns-then-many-gt1-clause-turns g c =
    let k = serving g.S.Service.account g.S.Service.leads g.O.Outlet.puts g.O.Outlet.tears in
    let chunk : IsChunk c.whole-many.result (held_text c.args.chunks.now) = (c.if-many-gt1.true, c.whole-many.ensures.within, c.whole-many.ensures.whole (omega (arith, c.if-many-gt1.true))) in
    let text : c.split_at.result.0.now ≡ take c.whole-many.result (held_text c.args.chunks.now) = c.split_at.ensures.front ∙ ap (take c.whole-many.result) c.held.ensures in
    each-kept c.pass.ensures.reader (λ l. chunk-turns k c.args.limit l c.args.chunks.now c.pass.new.self c.whole-many.result c.split_at.result.0.now
    (at c.args.service.now c.args.run.now c.args.outlet.now) (at c.answer_piece.new.service c.answer_piece.new.run c.answer_piece.new.outlet)
    c.in_ok-over.over chunk text (c.pass.ensures.takes l) (c.pass.ensures.come l) (c.pass.ensures.nearer l) c.in_ok-over.ensures.answered)

pub ask_for_more-requires-clause-none : goal.ask_for_more-requires-clause-none
ask_for_more-requires-clause-none g c = c.whole-many.ensures.begun (omega (arith, c.if-many-gt1.false))

pub returns-in_err-ask_for_more-clause-turns : goal.returns-in_err-ask_for_more-clause-turns
returns-in_err-ask_for_more-clause-turns g c =
    each-so (λ l more. ends_on _ _ c.from_residual-in_err-ask_for_more.result c.in_err-ask_for_more.field-0.0 c.from_residual-in_err-ask_for_more.ensures absurd (λ stalls. stalls) (λ torn. torn) more)
    c.in_err-ask_for_more.ensures.more

pub returns-then-branch-clause-turns : goal.returns-then-branch-clause-turns
returns-then-branch-clause-turns g c =
    let within = c.in_ok-ask_for_more.ensures.last.0 in
    each-so (λ l (moves, nearer). (
      moves,
      omega (arith, within, c.requires.within),
      subst (λ b. ComesNearer (from_bool b) l c.args.chunks.now c.ask_for_more.new.chunks) c.if-branch.true nearer,
    )) c.in_ok-ask_for_more.ensures.more

pub returns-in_err-count-clause-turns : goal.returns-in_err-count-clause-turns
returns-in_err-count-clause-turns g c =
    each-then c.in_ok-ask_for_more.ensures.more c.in_err-count.ensures.ended (λ l (moves, nearer) ended.
    stops-on g.met.O.Outlet.laws c.args.limit _ _ _ _ c.from_residual-in_err-count.result c.in_err-count.field-0.0 c.from_residual-in_err-count.ensures
    moves ended)

pub returns-clause-turns : goal.returns-clause-turns
returns-clause-turns g c =
    each-then c.in_ok-ask_for_more.ensures.more c.in_ok-count.ensures.ended (λ l (moves, nearer) over.
    over-on g.met.O.Outlet.laws (at c.finish.new.service c.finish.new.run c.finish.new.outlet) c.in_ok-count.count moves over)
