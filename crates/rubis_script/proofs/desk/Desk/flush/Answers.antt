use Rattle.std.proofs.Common.{refl}
use Rattle.rubis_script.proofs.desk.Desk.flush.Goals as goal

pub returns-then-is_empty-clause-flushed : goal.returns-then-is_empty-clause-flushed
returns-then-is_empty-clause-flushed g c = record { text = λ number more. (λ ending. refl, refl); leads = (refl, refl) }
