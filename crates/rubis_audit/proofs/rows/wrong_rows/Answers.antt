use Rattle.rubis_audit.proofs.Common.{◌∙◌, ap, refl, sym, option_map, table_rows, union}
use Rattle.rubis_schema.specs.declared.listings.Listing.TheVariants as Shown
use Rattle.rubis_audit.specs.Claimed.{rest_for_next}
use Rattle.rubis_audit.proofs.Comparing.{all_came, rows_by}
use Rattle.rubis_audit.proofs.rows.wrong_rows.Goals as goal

pub returns : goal.returns
returns c =
    let shown = table_rows Shown.Tables (union c.args.shards.now) in
    let came = all_came shown c.in-Some.claimed.now (rest_for_next c.list_tables.new.sink) c.in_ok-list_tables.ensures in
    rows_by c.in-Some.claimed.now shown shown c.args.log.now.rows c.is_done.result
    (λ yes. came.0 (c.is_done.ensures.0 yes), λ e. c.is_done.ensures.1 (came.1 e)) refl
    (sym (ap (option_map (λ r. r.now)) c.in-Some.is) ∙ c.rows.ensures)
