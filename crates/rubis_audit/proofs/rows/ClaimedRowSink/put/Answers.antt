use Rattle.rubis_audit.proofs.Common.{◌∙◌, ap, sym, option_and_then, option_map}
use Rattle.rubis_audit.specs.Claimed.{behind_row}
use Rattle.rubis_audit.proofs.rows.ClaimedRowSink.put.Goals as goal

pub returns : goal.returns
returns c = c.behind-self.ensures ∙ ap (λ o. option_and_then (behind_row c.args.row.now) (option_map (λ r. r.now) o)) (sym c.in-Some.is)
