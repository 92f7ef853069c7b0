use Rattle.rubis_lives.proofs.MomentFacts.{comes-back, differences-found, edits-found, ends-left, lives-left-too, questions-leave-nothing}
use Rattle.rubis_lives.proofs.laws.crash_and_restart.Goals as goal

pub returns : goal.returns
returns c = record { comes_back = comes-back; ends = ends-left; lives = lives-left-too; differences = differences-found; edits = edits-found; questions = questions-leave-nothing }
