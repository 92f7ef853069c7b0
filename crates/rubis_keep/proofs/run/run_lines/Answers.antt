use Rattle.std.proofs.Common.{inl, refl}
use Rattle.rubis_keep.specs.Telling.{grows-none}
use Rattle.rubis_keep.proofs.HistoryFacts.{err-is}
use Rattle.rubis_keep.proofs.RunFacts.{kept-fails, none-came, runs-end, runs-unreplayed, runs-unstarted}
use Rattle.rubis_keep.proofs.run.run_lines.Goals as goal

pub returns-in_err-check_kept : goal.returns-in_err-check_kept
returns-in_err-check_kept g c = err-is _ _ c.from_residual.result _ c.from_residual.ensures.1 (inl (grows-none _, refl, c.in_err-check_kept.ensures.edited))

pub returns-in_err-flush : goal.returns-in_err-flush
returns-in_err-flush g c = err-is _ _ c.from_residual-in_err-flush.result _ c.from_residual-in_err-flush.ensures.1
    (runs-unstarted _ _ _ _ _ _ _ c.in_err-flush.ensures.done (kept-fails _ c.in_err-flush.ensures.fault))

pub returns-in_err-replay : goal.returns-in_err-replay
returns-in_err-replay g c = err-is _ _ c.from_residual-in_err-replay.result _ c.from_residual-in_err-replay.ensures.1 (runs-unreplayed _ _
    (record { sound = c.in_ok-check_kept.ensures.sound; flushed = c.in_ok-flush.ensures.done }) (none-came _ _ _ c.requires.none) c.in_err-replay.ensures)

pub returns : goal.returns
returns g c = runs-end _ _ _ _ _ c.go_on.result (record { sound = c.in_ok-check_kept.ensures.sound; flushed = c.in_ok-flush.ensures.done })
    (none-came _ _ _ c.requires.none) c.in_ok-replay.ensures c.go_on.ensures
