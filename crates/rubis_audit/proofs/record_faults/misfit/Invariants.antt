use Rattle.std.proofs.Common.{◌≡◌, ◌+◌, drop}
use Rattle.rubis_audit.specs.Checking.{misfit}
use Rattle.rubis_audit.proofs.record_faults.misfit.Given as goal

-- what is left to compare
abbrev pub invariant-loop-place : goal.invariant-loop-place
invariant-loop-place g l =
    let fields = g.F.Record.fields l.fields in
    misfit l.sites fields (l.first + l.place) (drop l.place l.rules) ≡ misfit l.sites fields l.first l.rules
