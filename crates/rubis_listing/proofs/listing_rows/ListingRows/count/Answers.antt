use Rattle.std.proofs.Common.{ap, length, sym, ◌∙◌, arith}
use Rattle.rubis_listing.specs.Parts.{rows_from}
use Rattle.rubis_listing.proofs.Making.{countable_some, length_none, length_some}
use Rattle.rubis_listing.proofs.listing_rows.ListingRows.count.Goals as goal

pub count-requires : goal.count-requires
count-requires c =
    let rows = rows_from c.self.inside.source c.self.inside.at in
    let fits = countable_some rows c.self.inside.later c.in-Some.later c.in-Some.is c.self.invariant.1 in
    omega (arith, fits, c.count-count.ensures)

pub returns-in-Some : goal.returns-in-Some
returns-in-Some c =
    let rows = rows_from c.self.inside.source c.self.inside.at in
    let all = sym (length_some rows c.self.inside.later c.in-Some.later c.in-Some.is) ∙ ap length c.self.view_is in
    omega (arith, all, c.count-count.ensures, c.count.ensures)

pub returns-in-None : goal.returns-in-None
returns-in-None c =
    let rows = rows_from c.self.inside.source c.self.inside.at in
    c.count-count.ensures ∙ sym (length_none rows c.self.inside.later c.in-None.is) ∙ ap length c.self.view_is
