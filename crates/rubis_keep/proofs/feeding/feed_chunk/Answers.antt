use Rattle.std.proofs.Common.{◌∙◌, None, arith, refl, rules, sym}
use Rattle.rubis_keep.proofs.FedFacts.{desk-fed, desk-stopped, feeds-empty}
use Rattle.rubis_keep.proofs.feeding.feed_chunk.Goals as goal

pub returns-then-is_empty-clause-fed : goal.returns-then-is_empty-clause-fed
returns-then-is_empty-clause-fed g c = feeds-empty c.args.chunk.now _ _ (sym c.is_empty.ensures ∙ c.if-is_empty.true)

pub answer_chunk-requires : goal.answer_chunk-requires
answer_chunk-requires g c = (search rules, c.requires.within)

pub returns-in-Ok-clause-fed : goal.returns-in-Ok-clause-fed
returns-in-Ok-clause-fed g c =
    let (goes, settled, within) = c.in-Ok.ensures.answered in
    desk-fed g.O.Read.remaining g.F.SiteFiles.history c.args.clerk.now c.answer_chunk.new.clerk (record c.args.answers.now { fault = None })
    c.answer_chunk.new.answers c.answer_chunk.ensures.limit goes settled

pub returns-in-Ok-clause-idle : goal.returns-in-Ok-clause-idle
returns-in-Ok-clause-idle g c =
    let (goes, settled, within) = c.in-Ok.ensures.answered in
    let limit = c.answer_chunk.ensures.limit in
    record { window = settled.rests.0; empty = settled.empty; within = omega (arith, within, limit) }

pub returns-in-Err-clause-fed : goal.returns-in-Err-clause-fed
returns-in-Err-clause-fed g c = rw (c.why.ensures.files, c.why.ensures.fault)
    (desk-stopped g.O.Read.remaining g.F.SiteFiles.history c.args.clerk.now c.answer_chunk.new.clerk (record c.args.answers.now { fault = None })
    c.answer_chunk.new.answers c.in-Err.fault _ refl c.in-Err.ensures.answered)
