use Rattle.rubis_shard.proofs.Common.{◌≡◌, ap, subst, ◌∙◌, map as each, IsPermutation, take_at}
use Rattle.rubis_schema.specs.declared.listings.Listing.TheVariants as listing
use Rattle.rubis_shard.specs.Listed.{listed_among}
use Rattle.rubis_shard.specs.Rows.{entries_of, tables_in}
use Rattle.rubis_shard.specs.Chains.{lent_row}
use Rattle.rubis_shard.proofs.Picked.{all_listed, picked_listed}
use Rattle.rubis_shard.proofs.table_rows.rows_in_order.Goals as goal

pub returns : goal.returns
returns c =
    let es = entries_of c.args.rows.now in
    let gs = each lent_row c.put_rows_in_order.new.rows in
    let found : each lent_row c.deref_mut.result.now ≡ listed_among listing.Tables c.args.table es =
    ap (each lent_row) c.deref_mut.ensures.value ∙ c.in_ok-found.ensures in
    let moved : IsPermutation (listed_among listing.Tables c.args.table es) gs =
    subst (λ fs. IsPermutation fs gs) found c.put_rows_in_order.ensures.permutation in
    let whole = take_at c.put_rows_in_order.new.rows _ c.in_ok-found.found.len (c.put_rows_in_order.ensures.len ∙ c.deref_mut.ensures.len) in
    ap (each lent_row) whole
    ∙ picked_listed listing.Tables c.args.table es gs c.lens-lens.ensures moved c.in_ok-put_rows_in_order.ensures.sorted
    ∙ all_listed c.args.table (tables_in c.args.rows.now)
