use Rattle.std.proofs.Common.{◌≤◌}
use Rattle.rubis_keep.proofs.plain_lines.split.Given as goal

abbrev pub invariant-loop-place : goal.invariant-loop-place
invariant-loop-place l = l.start ≤ l.place
