use Rattle.rubis_audit.proofs.Common.{◌∙◌, Some, ap, sym, None, cond, nil_from_length}
use Rattle.rubis_audit.specs.Claimed.{behind_row}
use Rattle.rubis_audit.proofs.Comparing.{behind_first}
use Rattle.rubis_audit.proofs.rows.behind.Goals as goal

pub returns-in_default : goal.returns-in_default
returns-in_default c = ap (behind_row c.args.row.now) (sym (nil_from_length c.args.claimed.now c.in_default.ensures.cases))

pub returns-then-is_same : goal.returns-then-is_same
returns-then-is_same c =
    ap (λ b. cond b (Some c.in-Some.rest.now) None) (sym c.if-is_same.true)
    ∙ behind_first c.args.row.now c.in-Some.first.now c.in-Some.rest.now c.args.claimed.now c.is_same.result c.is_same.ensures c.in-Some.ensures.cases.0

pub returns-else-is_same : goal.returns-else-is_same
returns-else-is_same c =
    ap (λ b. cond b (Some c.in-Some.rest.now) None) (sym c.if-is_same.false)
    ∙ behind_first c.args.row.now c.in-Some.first.now c.in-Some.rest.now c.args.claimed.now c.is_same.result c.is_same.ensures c.in-Some.ensures.cases.0
