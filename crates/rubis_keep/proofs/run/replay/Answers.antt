use Rattle.std.proofs.Common.{ap, inl}
use Rattle.rubis_keep.proofs.RunFacts.{replay-ends}
use Rattle.rubis_keep.proofs.run.replay.Goals as goal

-- what was kept is answered
pub returns-in-Ok : goal.returns-in-Ok
returns-in-Ok g c = replay-ends _ _ c.check_end.result c.in-Ok.ensures c.check_end.ensures.end
    (ap g.F.SiteFiles.history c.check_end.ensures.files) c.check_end.ensures.same c.check_end.ensures.differs

-- it could not be
pub returns-in-Err : goal.returns-in-Err
returns-in-Err g c = inl (_, _, c.in-Err.ensures, c.of_kept.ensures)
