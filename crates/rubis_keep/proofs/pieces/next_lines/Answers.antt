use Rattle.std.proofs.Common.{[], arith, inl, inr, rules}
use Rattle.rubis_keep.specs.Telling.{tells-none}
use Rattle.rubis_keep.specs.declared.fault.KeepFault.TheVariants as fault
use Rattle.rubis_keep.proofs.HistoryFacts.{err-is}
use Rattle.rubis_keep.proofs.FedFacts.{stopped-failed}
use Rattle.rubis_keep.proofs.TurnFacts.{lines-answered, lines-torn, lines-unanswered, unread-torn}
use Rattle.rubis_keep.proofs.pieces.next_lines.Goals as goal

-- nothing came
pub returns-in_err-came-clause-answered : goal.returns-in_err-came-clause-answered
returns-in_err-came-clause-answered g c =
    err-is _ _ c.from_residual.result _ c.from_residual.ensures.1 (inl (unread-torn _ _ _ _ c.in_err-came.ensures.err.1 c.in_err-came.ensures.err.0))

-- what came could not be kept
pub returns-in_err-keep_chunk-clause-answered : goal.returns-in_err-keep_chunk-clause-answered
returns-in_err-keep_chunk-clause-answered g c =
    err-is _ _ c.from_residual-in_err-keep_chunk.result _ c.from_residual-in_err-keep_chunk.ensures.1
    (inl (lines-torn _ _ _ _ c.in_ok-came.ensures.reads (rw c.deref.ensures.value at c.in_err-keep_chunk.ensures.kept) c.in_err-keep_chunk.ensures.fault))

-- what is kept is longer than can be said
pub returns-in_default-clause-answered : goal.returns-in_default-clause-answered
returns-in_default-clause-answered g c = inr (inl (lines-unanswered _ _ _ _ _ c.in_ok-came.ensures.reads
    (rw c.deref.ensures.value at c.in_ok-keep_chunk.ensures.kept) ([], stopped-failed _ _ fault.Memory tt, ([], tells-none _ _))))

pub feed_chunk-requires : goal.feed_chunk-requires
feed_chunk-requires g c = (search rules, record { window = c.requires.idle.window; empty = c.requires.idle.empty; within = c.requires.idle.within })

-- it could not be answered
pub returns-in_err-feed_chunk-clause-answered : goal.returns-in_err-feed_chunk-clause-answered
returns-in_err-feed_chunk-clause-answered g c =
    err-is _ _ c.from_residual-in_err-feed_chunk.result _ c.from_residual-in_err-feed_chunk.ensures.1
    (inr (inl (lines-unanswered _ _ _ _ _ c.in_ok-came.ensures.reads (rw c.deref.ensures.value at c.in_ok-keep_chunk.ensures.kept)
    (rw c.deref-3.ensures.value at c.in_err-feed_chunk.ensures.fed))))

pub returns-clause-answered : goal.returns-clause-answered
returns-clause-answered g c = lines-answered _ _ _ c.in_ok-came.ensures.reads c.requires (rw c.deref.ensures.value at c.in_ok-keep_chunk.ensures.kept)
    (rw c.deref-3.ensures.value at c.in_ok-feed_chunk.ensures.fed) c.in_ok-feed_chunk.ensures.idle
    (rw c.read_next.ensures.others.1 at (rw c.deref-2.ensures.value at c.let_go.ensures)) (omega arith)
