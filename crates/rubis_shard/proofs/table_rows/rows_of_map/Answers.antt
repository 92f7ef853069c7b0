use Rattle.rubis_shard.proofs.Common.{◌≡◌, sym, ap, subst, ◌∙◌, map as each, Table}
use Rattle.std.specs.Prelude.{IfOk}
use Rattle.rubis_schema.specs.declared.row_keys.RowKey.TheVariants as key
use Rattle.rubis_schema.specs.declared.listings.Listing.TheVariants as listing
use Rattle.rubis_shard.specs.Listed.{listed_among}
use Rattle.rubis_shard.specs.Rows.{entries_of, kept_of}
use Rattle.rubis_shard.specs.Chains.{lent_row, chain_written}
use Rattle.rubis_shard.proofs.InMaps.{Entries}
use Rattle.rubis_shard.proofs.OneTable.{nicks_listed, cats_listed, users_listed, others_listed}
use Rattle.rubis_shard.proofs.table_rows.rows_of_map.Goals as goal

pub returns-in-Nicks : goal.returns-in-Nicks
returns-in-Nicks c =
    let l = listing.Tables in
    let r = c.args.rows.now in
    subst (λ (es : Entries). IfOk c.rows_among.result (λ rows. each lent_row rows.items ≡ es))
    (ap (λ (t : Table). listed_among l t (chain_written key.Nick r.nicks.entries)) c.in-Nicks.is ∙ nicks_listed l r
    ∙ ap (λ (t : Table). listed_among l t (entries_of r)) (sym c.in-Nicks.is))
    c.rows_among.ensures

pub returns-in-Cats : goal.returns-in-Cats
returns-in-Cats c =
    let l = listing.Tables in
    let r = c.args.rows.now in
    subst (λ (es : Entries). IfOk c.rows_among-in-Cats.result (λ rows. each lent_row rows.items ≡ es))
    (ap (λ (t : Table). listed_among l t (chain_written key.Cat r.cats.entries)) c.in-Cats.is ∙ cats_listed l r
    ∙ ap (λ (t : Table). listed_among l t (entries_of r)) (sym c.in-Cats.is))
    c.rows_among-in-Cats.ensures

pub returns-in-Users : goal.returns-in-Users
returns-in-Users c =
    let l = listing.Tables in
    let r = c.args.rows.now in
    subst (λ (es : Entries). IfOk c.rows_among-in-Users.result (λ rows. each lent_row rows.items ≡ es))
    (ap (λ (t : Table). listed_among l t (kept_of r.users)) c.in-Users.is ∙ users_listed l r
    ∙ ap (λ (t : Table). listed_among l t (entries_of r)) (sym c.in-Users.is))
    c.rows_among-in-Users.ensures

pub returns-in_default : goal.returns-in_default
returns-in_default c =
    let l = listing.Tables in
    let r = c.args.rows.now in
    subst (λ (es : Entries). IfOk c.rows_among-in_default.result (λ rows. each lent_row rows.items ≡ es))
    (others_listed l r c.args.table c.in_default.not-Users c.in_default.not-Nicks c.in_default.not-Cats)
    c.rows_among-in_default.ensures
