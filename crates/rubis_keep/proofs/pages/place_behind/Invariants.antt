use Rattle.std.proofs.Common.{◌≡◌, drop}
use Rattle.rubis_keep.specs.Questions.{rows_behind_name}
use Rattle.rubis_keep.proofs.pages.place_behind.Given as goal

abbrev pub invariant-loop-at : goal.invariant-loop-at
invariant-loop-at l = rows_behind_name l.name (drop l.from l.rows) ≡ rows_behind_name l.name (drop l.at l.rows)
