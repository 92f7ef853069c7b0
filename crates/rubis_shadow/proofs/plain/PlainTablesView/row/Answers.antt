use Rattle.std.proofs.Common.{sym, ap, ◌∙◌}
use Rattle.std.specs.FinMap as map
use Rattle.rubis_shadow.proofs.Rows.{get_tables_of}
use Rattle.rubis_shadow.proofs.plain.PlainTablesView.row.Goals as goal

pub returns : goal.returns
returns c = c.get.ensures.value ∙ sym (get_tables_of _ _) ∙ ap (λ t. map.get t c.args.key.now) c.self.view_is
