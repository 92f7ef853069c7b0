use Rattle.rubis_lives.proofs.MomentFacts.{begun-too-early, kept-too-early, shown-too-early, told-too-early}
use Rattle.rubis_lives.proofs.laws.early_answers_are_unsafe.Goals as goal

pub returns : goal.returns
returns c = record { told = told-too-early; shown = shown-too-early; kept = kept-too-early; begun = begun-too-early }
