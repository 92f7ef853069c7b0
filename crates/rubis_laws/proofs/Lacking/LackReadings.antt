-- What `rubis lack` answers follows the audit.
use Rattle.rubis_laws.proofs.Common.{ℕ, ◌≡◌, List, [], ◌∷◌, refl, ap, ◌∙◌, Result, Ok, Err, reverse, reverse-reverse, Verdict, Agree, Found, audit_record}
use Rattle.rubis_laws.proofs.Common.{logs_after, verdict_record, Log, verdict}
use Rattle.rubis_model.specs.Lack.{LackFollowsTheAudit, lack_rows_of, lack_rows_read}
use Rattle.rubis_laws.proofs.Audits.Verdicts.{agreed_logs, agree_faultless}

other_verdict : (logs : List Log) (v : Verdict) → (verdict_record v ≡ verdict_record Agree → ⊥) → lack_rows_of logs v ≡ verdict_record v ∷ []
other_verdict logs Agree n = absurd (n refl)
other_verdict logs (Found kind log entry) n = refl

refused : (read : Result (List Log) ℕ) → (audit_record read ≡ verdict_record Agree → ⊥) → lack_rows_read read ≡ audit_record read ∷ []
refused (Err n) e = refl
refused (Ok found) e = other_verdict (reverse found) (verdict (reverse found)) e

pub lack_follows_the_audit : LackFollowsTheAudit
lack_follows_the_audit sites records few = (
  λ e. let g = agreed_logs records (logs_after sites 1 [] records) few refl e in (
    g.0,
    g.1,
    g.2,
    agree_faultless sites g.0 g.2 g.3,
    ap lack_rows_read g.4 ∙ ap (λ l. lack_rows_of l (verdict l)) (reverse-reverse g.0) ∙ ap (lack_rows_of g.0) g.3,
  ),
  refused (logs_after sites 1 [] records),
)
