use Rattle.std.proofs.Common.{◌≡◌, ◌+◌, drop}
use Rattle.rubis_audit.specs.Checking.{line_end_from}
use Rattle.rubis_audit.proofs.record_faults.first_line_end.Given as goal

-- what is left to look at
abbrev pub invariant-loop-place : goal.invariant-loop-place
invariant-loop-place g l = line_end_from (l.place + 1) (drop l.place (g.F.Record.fields l.fields)) ≡ line_end_from 1 (g.F.Record.fields l.fields)
