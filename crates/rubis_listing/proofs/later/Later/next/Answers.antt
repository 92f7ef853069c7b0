use Rattle.rubis_listing.proofs.Common.{◌++◌, ap, sym, ◌∙◌, Option, Table, rows_of, records_of, union}
use Rattle.rubis_schema.specs.declared.listings.Listing.TheVariants as listing
use Rattle.rubis_listing.specs.Parts.{rows_after}
use Rattle.rubis_listing.proofs.ByTable.{left_after}
use Rattle.rubis_listing.proofs.later.Later.next.Goals as goal

pub returns-in-Some : goal.returns-in-Some
returns-in-Some c =
    let t = c.args.self.now.first in
    let m = union c.args.self.now.tables.now in
    left_after t m
    ∙ ap (λ (o : Option Table). records_of listing.Tables (rows_of t m) ++ rows_after o m) (sym c.after.ensures ∙ c.in-Some.is)

pub returns-in-None : goal.returns-in-None
returns-in-None c =
    let t = c.args.self.now.first in
    let m = union c.args.self.now.tables.now in
    left_after t m
    ∙ ap (λ (o : Option Table). records_of listing.Tables (rows_of t m) ++ rows_after o m) (sym c.after.ensures ∙ c.in-None.is)
