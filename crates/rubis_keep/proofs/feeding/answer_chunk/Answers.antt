use Rattle.rubis_keep.proofs.Common.{arith, input_records, ends_on, at, goes-tears, tears-as}
use Rattle.std.proofs.Common.{append-nil}
use Rattle.rubis_engine.proofs.RunFacts.{ends_so}
use Rattle.rubis_serving.proofs.GoFacts.{goes-as, goes-more}
use Rattle.rubis_keep.specs.Outlets.{answers_are_outlets}
use Rattle.rubis_keep.proofs.FedFacts.{desk-goes}
use Rattle.rubis_keep.proofs.feeding.answer_chunk.Goals as goal

pub returns-in_err-answer_piece-clause-answered : goal.returns-in_err-answer_piece-clause-answered
returns-in_err-answer_piece-clause-answered g c =
    ends_on _ _ c.from_residual.result c.in_err-answer_piece.field-0.0 c.from_residual.ensures (λ long. long) absurd (λ torn. torn)
    c.in_err-answer_piece.ensures.answered

pub returns-clause-answered : goal.returns-clause-answered
returns-clause-answered g c =
    let laws = answers_are_outlets g.O.Read.remaining g.F.SiteFiles.history in
    let rows = input_records c.args.chunk.now in
    let clerk = c.args.clerk.now in
    let (within, goes) = desk-goes g.O.Read.remaining g.F.SiteFiles.history clerk.limit rows (at clerk.keyed clerk.served c.args.answers.now)
    (at c.answer_piece.new.service c.answer_piece.new.run c.answer_piece.new.outlet) _ c.in_ok-answer_piece.ensures.answered in
    ends_so c.settle.result
    (λ done (held, settled). let count = held.count in (goes-as (append-nil rows) (goes-more laws goes held), settled, omega (arith, within, count))) absurd absurd
    (λ torn. tears-as (append-nil rows) (goes-tears laws c.settle.new.outlet goes torn)) c.settle.ensures.settled
