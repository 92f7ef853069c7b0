use Rattle.std.proofs.Common.{◌≡◌, ◌+◌, drop}
use Rattle.rubis_reading.proofs.PieceFacts.{counted}
use Rattle.rubis_reading.proofs.ahead.count_stretches.Given as goal

abbrev pub invariant-loop-run : goal.invariant-loop-run
invariant-loop-run l = l.many + counted (drop l.run-index l.list) ≡ counted l.list
