use Rattle.rubis_reading.proofs.Common.{subst, sym, on_ok_weaker}
use Rattle.rubis_reading.proofs.PieceFacts.{window-more}
use Rattle.rubis_reading.specs.Readings.{FitWindow}
use Rattle.rubis_reading.specs.declared.stretches.Stretch.TheVariants.{Messages}
use Rattle.rubis_reading.proofs.stretches.keep_messages.Goals as goal

pub returns-then-is_empty-clause-window : goal.returns-then-is_empty-clause-window
returns-then-is_empty-clause-window c window have = have.0

pub returns-clause-window : goal.returns-clause-window
returns-clause-window c =
    on_ok_weaker c.push_stretch.result (λ is window have. subst (λ l. FitWindow window l) (sym is)
    (window-more window c.args.list.now.items (Messages c.args.messages) have.0 have.1)) c.push_stretch.ensures.last
