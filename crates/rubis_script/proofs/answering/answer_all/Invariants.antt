use Rattle.rubis_script.proofs.Common.{◌≡◌, ◌+◌, ◌++◌, List, length, Input, flat, at}
use Rattle.rubis_script.specs.Desks.{KeepsSetup}
use Rattle.rubis_script.specs.Runs.{GoesAhead, IsSound}
use Rattle.rubis_script.proofs.answering.answer_all.Given as goal

abbrev pub invariant-stretches : goal.invariant-stretches
invariant-stretches g l = record {
  sound : IsSound l.desk l.ahead;
  setup : KeepsSetup l.fn.desk l.desk;
  count : l.run.answered + length (flat l.ahead) ≡ l.fn.run.answered + length (flat l.fn.ahead);
  goes : (done : List Input) × (flat l.fn.ahead ≡ done ++ flat l.ahead)
      × GoesAhead g.W.Write.contents done (at l.fn.desk l.fn.run l.fn.writer) (at l.desk l.run l.writer);
}

abbrev pub decreases-stretches : goal.decreases-stretches
decreases-stretches g l = length l.ahead
