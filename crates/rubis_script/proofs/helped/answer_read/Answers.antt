use Rattle.rubis_script.proofs.Common.{◌∙◌, None, ap, arith, refl, take, AtEnd, ends_memory, ends_on, held_text, at, are_outlets}
use Rattle.rubis_serving.specs.Serving.{coming}
use Rattle.rubis_serving.proofs.ServedFacts.{chunk-each, chunk-stops, chunk-turns}
use Rattle.rubis_script.specs.Runs.{by_desk}
use Rattle.rubis_script.proofs.StretchFacts.{as-setup, sound-read}
use Rattle.rubis_script.proofs.helped.answer_read.Goals as goal

pub returns-in_err-ahead-clause-turns : goal.returns-in_err-ahead-clause-turns
returns-in_err-ahead-clause-turns g c l =
    ends_memory _ _ _ c.from_residual.result c.from_residual.ensures
    (λ later pending. (are_outlets g.W.Write.contents).torn_none _ c.args.writer.now)

pub returns-in_err-over-clause-same : goal.returns-in_err-over-clause-same
returns-in_err-over-clause-same g c = as-setup c.args.desk.now c.answer_piece.new.service c.in_err-over.ensures.same

pub returns-in_err-over-clause-turns : goal.returns-in_err-over-clause-turns
returns-in_err-over-clause-turns g c l =
    let many = c.args.piece.many in
    let text = c.split_at.ensures.front ∙ ap (take many) c.held.ensures in
    chunk-stops (by_desk g.W.Write.contents) c.args.limit l c.args.chunks.now c.args.chunks.now many c.split_at.result.0.now
    (at c.args.desk.now c.args.run.now c.args.writer.now) (at c.answer_piece.new.service c.answer_piece.new.run c.answer_piece.new.outlet)
    c.from_residual-in_err-over.result c.in_err-over.field-0.0 c.from_residual-in_err-over.ensures c.requires.chunk text c.in_err-over.ensures.answered

pub returns-then-len-left-clause-same : goal.returns-then-len-left-clause-same
returns-then-len-left-clause-same g c = as-setup c.args.desk.now c.answer_piece.new.service c.in_ok-over.ensures.same

pub returns-then-len-left-clause-turns : goal.returns-then-len-left-clause-turns
returns-then-len-left-clause-turns g c l =
    let many = c.args.piece.many in
    let text = c.split_at.ensures.front ∙ ap (take many) c.held.ensures in
    chunk-turns (by_desk g.W.Write.contents) c.args.limit l c.args.chunks.now c.pass.new.self many c.split_at.result.0.now
    (at c.args.desk.now c.args.run.now c.args.writer.now) (at c.answer_piece.new.service c.answer_piece.new.run c.answer_piece.new.outlet)
    c.in_ok-over.over c.requires.chunk text
    (c.pass.ensures.takes l) (c.pass.ensures.come l) (c.pass.ensures.nearer l) c.in_ok-over.ensures.answered

pub answer_all-requires-clause-sound : goal.answer_all-requires-clause-sound
answer_all-requires-clause-sound g c κs within =
    (sound-read c.args.desk.now c.in_ok-ahead.ahead c.args.piece.list.items (take c.args.piece.many (held_text c.args.chunks.now)) c.in_ok-ahead.ensures
    c.requires.read).0

pub returns-in_err-answer_all-clause-turns : goal.returns-in_err-answer_all-clause-turns
returns-in_err-answer_all-clause-turns g c l =
    let k = by_desk g.W.Write.contents in
    let x = at c.args.desk.now c.args.run.now c.args.writer.now in
    let text = take c.args.piece.many (held_text c.args.chunks.now) in
    let read = sound-read c.args.desk.now c.in_ok-ahead.ahead c.args.piece.list.items text c.in_ok-ahead.ensures c.requires.read in
    ends_on _ _ c.from_residual-in_err-answer_all.result c.in_err-answer_all.field-0.0 c.from_residual-in_err-answer_all.ensures absurd absurd
    (λ breaks. chunk-each l c.args.chunks.now c.args.piece.many text (λ r. k.tears (coming k x AtEnd r) x.outlet c.answer_all.new.writer)
    c.requires.chunk refl (breaks _ read.1).torn) c.in_err-answer_all.ensures.answered

pub returns-clause-turns : goal.returns-clause-turns
returns-clause-turns g c l =
    let many = c.args.piece.many in
    let text = take many (held_text c.args.chunks.now) in
    let read = sound-read c.args.desk.now c.in_ok-ahead.ahead c.args.piece.list.items text c.in_ok-ahead.ensures c.requires.read in
    let (goes, count) = c.in_ok-answer_all.ensures.answered in
    chunk-turns (by_desk g.W.Write.contents) c.args.limit l c.args.chunks.now c.pass-2.new.self many text
    (at c.args.desk.now c.args.run.now c.args.writer.now) (at c.answer_all.new.desk c.answer_all.new.run c.answer_all.new.writer) None c.requires.chunk refl
    (c.pass-2.ensures.takes l) (c.pass-2.ensures.come l) (c.pass-2.ensures.nearer l)
    (omega (arith, count, c.len.ensures, c.if-len-left.false, c.requires.within), goes _ read.1)
