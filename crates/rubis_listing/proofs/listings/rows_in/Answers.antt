use Rattle.rubis_listing.proofs.Common.{ap, sym, ◌∙◌, Table, rows_of, records_of, union}
use Rattle.rubis_schema.specs.declared.row_keys.Table.TheVariants as table
use Rattle.rubis_listing.proofs.Making.{if_listed}
use Rattle.rubis_listing.proofs.Selecting.{categories_records, listed_as, nick_records}
use Rattle.rubis_listing.proofs.listings.rows_in.Goals as goal

pub returns-in-Users : goal.returns-in-Users
returns-in-Users c = if_listed c.listed.result _ _ c.listed.ensures
    (λ rows is. listed_as c.args.listing.now table.Users c.args.table (union c.args.tables.now) rows.items is (sym c.in-Users.is))

pub returns-in-Items : goal.returns-in-Items
returns-in-Items c = if_listed c.listed-in-Items.result _ _ c.listed-in-Items.ensures
    (λ rows is. listed_as c.args.listing.now table.Items c.args.table (union c.args.tables.now) rows.items is (sym c.in-Items.is))

pub returns-in-Bids : goal.returns-in-Bids
returns-in-Bids c = if_listed c.listed-in-Bids.result _ _ c.listed-in-Bids.ensures
    (λ rows is. listed_as c.args.listing.now table.Bids c.args.table (union c.args.tables.now) rows.items is (sym c.in-Bids.is))

pub returns-in-Purchases : goal.returns-in-Purchases
returns-in-Purchases c = if_listed c.listed-in-Purchases.result _ _ c.listed-in-Purchases.ensures
    (λ rows is. listed_as c.args.listing.now table.Purchases c.args.table (union c.args.tables.now) rows.items is (sym c.in-Purchases.is))

pub returns-in-Comments : goal.returns-in-Comments
returns-in-Comments c = if_listed c.listed-in-Comments.result _ _ c.listed-in-Comments.ensures
    (λ rows is. listed_as c.args.listing.now table.Comments c.args.table (union c.args.tables.now) rows.items is (sym c.in-Comments.is))

pub returns-in-Nicks : goal.returns-in-Nicks
returns-in-Nicks c =
    let l = c.args.listing.now in
    let m = union c.args.tables.now in
    ap (records_of l) c.new.ensures.items ∙ sym (nick_records l m) ∙ ap (λ (t : Table). records_of l (rows_of t m)) (sym c.in-Nicks.is)

pub returns-in-Cats : goal.returns-in-Cats
returns-in-Cats c =
    let l = c.args.listing.now in
    let m = union c.args.tables.now in
    if_listed c.categories.result _ _ c.categories.ensures (λ rows is.
    ap (records_of l) is ∙ categories_records l m ∙ ap (λ (t : Table). records_of l (rows_of t m)) (sym c.in-Cats.is))
