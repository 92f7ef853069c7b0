use Rattle.rubis_audit.proofs.Common.{◌≡◌, drop, map, find}
use Rattle.rubis_audit.specs.Forms.{is_told, row}
use Rattle.rubis_audit.proofs.forms.form_of.Given as goal

-- what is left to look at
abbrev pub invariant-loop-form : goal.invariant-loop-form
invariant-loop-form g l =
    let fields = g.F.Record.fields l.fields in
    find (is_told l.start fields) (map row (drop l.form-index l.all)) ≡ find (is_told l.start fields) (map row l.all)
