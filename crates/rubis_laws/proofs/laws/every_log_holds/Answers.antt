use Rattle.rubis_laws.proofs.Rows.Forged.{names_are_held, names_stay, stock_is_kept}
use Rattle.rubis_laws.proofs.Rows.SiteStock.{sites_keep_stock}
use Rattle.rubis_laws.proofs.laws.every_log_holds.Goals as goal

pub returns-clause-stock : goal.returns-clause-stock
returns-clause-stock c = stock_is_kept

pub returns-clause-names : goal.returns-clause-names
returns-clause-names c = names_stay

pub returns-clause-held : goal.returns-clause-held
returns-clause-held c = names_are_held

pub returns-clause-sites : goal.returns-clause-sites
returns-clause-sites c = sites_keep_stock
