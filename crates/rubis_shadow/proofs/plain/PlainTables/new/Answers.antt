use Rattle.std.proofs.Common.{◌≡◌, ◌-◌, ◌<◌, ◌≤◌, ap, sym, ◌∙◌, arith}
use Rattle.std.specs.FinMap as map
use Rattle.rubis_schema.specs.declared.limits.TheConstants.{CATEGORIES}
use Rattle.rubis_schema.specs.Tables.{Tables}
use Rattle.rubis_schema.specs.declared.row_keys.RowKey.TheVariants as key
use Rattle.rubis_shadow.specs.Tables.{categories_from, new_category, opening}
use Rattle.rubis_shadow.proofs.Rows.{categories_more, tables_of}
use Rattle.rubis_shadow.proofs.plain.PlainTables.new.Goals as goal

pub loop-cat-init : goal.loop-cat-init
unfolding categories_from
loop-cat-init c = ap tables_of c.new-rows.ensures.empty

pub loop-cat-preserved : goal.loop-cat-preserved
loop-cat-preserved c =
    let low : 0 < c.loop-cat.cat = omega arith in
    let high : c.loop-cat.cat ≤ CATEGORIES = omega arith in
    c.in_ok-put_row.ensures.ok
    ∙ ap (λ (t : Tables). map.insert t (key.Cat (c.loop-cat.cat - 1)) new_category) c.loop-cat.invariant
    ∙ ap map.from_entries (sym (categories_more c.loop-cat.cat low high))

pub returns : goal.returns
unfolding opening
returns c =
    let none : c.loop-cat.cat ≡ 0 = omega arith in
    c.loop-cat.invariant ∙ ap (λ k. map.from_entries (categories_from k (CATEGORIES - k))) none
