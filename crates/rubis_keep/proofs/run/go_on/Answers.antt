use Rattle.std.proofs.Common.{[], refl, rules}
use Rattle.rubis_keep.proofs.HistoryFacts.{err-is}
use Rattle.rubis_keep.proofs.RunFacts.{begun-again, fails-cut, fails-untold, goes-on, kept-fails}
use Rattle.rubis_keep.proofs.run.go_on.Goals as goal

-- what was kept could not be cut off
pub returns-in_err-cut_and_flush : goal.returns-in_err-cut_and_flush
returns-in_err-cut_and_flush g c = err-is _ _ c.from_residual.result _ c.from_residual.ensures.1
    (fails-cut _ _ _ _ c.in_err-cut_and_flush.ensures.err (kept-fails _ c.in_err-cut_and_flush.ensures.fault))

-- it could not be said
pub returns-in_err-tell_replayed : goal.returns-in_err-tell_replayed
returns-in_err-tell_replayed g c = err-is _ _ c.from_residual-in_err-tell_replayed.result _ c.from_residual-in_err-tell_replayed.ensures.1
    (fails-untold _ _ _ _ _ c.in_ok-cut_and_flush.ensures.ok c.in_err-tell_replayed.ensures.err c.in_err-tell_replayed.ensures.fault)

pub returns : goal.returns
returns g c = goes-on _ _ _ _ c.answer_pieces.new.lines.unread c.answer_pieces.result
    (begun-again _ _ _ _ c.requires c.in_ok-cut_and_flush.ensures.ok c.in_ok-tell_replayed.ensures.ok c.restart.ensures c.new.ensures)
    refl c.answer_pieces.ensures

pub answer_pieces-requires : goal.answer_pieces-requires
answer_pieces-requires g c = (
  search rules,
  record {
    idle = record { window = c.requires.idle.window; empty = c.requires.idle.empty; within = c.requires.idle.within };
    begun = ([], tt, c.new.ensures);
    listed = c.requires.listed;
  },
)
