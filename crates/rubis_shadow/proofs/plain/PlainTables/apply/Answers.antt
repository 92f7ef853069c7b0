use Rattle.std.proofs.Common.{◌≡◌, sym, ap, ◌∙◌, rules}
use Rattle.std.specs.Prelude.{Some, None}
use Rattle.std.specs.FinMap as map
use Rattle.rubis_schema.specs.Tables.{Tables}
use Rattle.rubis_shadow.specs.Changes.{fits_as}
use Rattle.rubis_shadow.proofs.Rows.{tables_of, get_tables_of, tables_of_update, after_alter, misfit_alter, after_none, misfit_none, remove_none, none_of}
use Rattle.rubis_shadow.proofs.Rows.{some_of, after_refused, misfit_refused, inserted, not_insert, put_then, put_else, row_stays, row_goes, remove_put}
use Rattle.rubis_shadow.proofs.plain.PlainTables.apply.Goals as goal

pub returns-then-branch-clause-tables : goal.returns-then-branch-clause-tables
returns-then-branch-clause-tables c =
    let k = c.args.effect.now.key in
    let row = c.in_ok-copy.field-0 in
    let g : map.get c.args.self.now k ≡ None = ap (λ t. map.get t k) (sym c.self.view_is) ∙ none_of _ (sym c.if-branch.true ∙ c.in_ok-put_new.ensures.free) in
    let n = put_then _ _ _ c.if-branch.true c.in_ok-put_new.ensures.put ∙ ap (λ (t : Tables). map.insert t k row) c.self.view_is in
    n ∙ after_none c.args.self.now c.args.effect.now (fits_as row) g (inserted c.args.effect.now.change c.in-Insert.row row c.in-Insert.is c.in_ok-copy.ensures)

pub returns-then-branch-clause-misfit : goal.returns-then-branch-clause-misfit
returns-then-branch-clause-misfit c =
    let k = c.args.effect.now.key in
    let row = c.in_ok-copy.field-0 in
    let g : map.get c.args.self.now k ≡ None = ap (λ t. map.get t k) (sym c.self.view_is) ∙ none_of _ (sym c.if-branch.true ∙ c.in_ok-put_new.ensures.free) in
    misfit_none c.args.self.now c.args.effect.now (fits_as row) g (inserted c.args.effect.now.change c.in-Insert.row row c.in-Insert.is c.in_ok-copy.ensures)

pub returns-in-Insert-clause-tables : goal.returns-in-Insert-clause-tables
returns-in-Insert-clause-tables c =
    let k = c.args.effect.now.key in
    let there = some_of _ (sym c.if-branch.false ∙ c.in_ok-put_new.ensures.free) in
    let g : map.get c.args.self.now k ≡ Some there.0 = ap (λ t. map.get t k) (sym c.self.view_is) ∙ there.1 in
    ap (λ es. tables_of es) (put_else _ _ _ c.if-branch.false c.in_ok-put_new.ensures.put) ∙ c.self.view_is
    ∙ after_refused c.args.self.now c.args.effect.now c.in-Insert.row there.0 g c.in-Insert.is

pub returns-in-Insert-clause-misfit : goal.returns-in-Insert-clause-misfit
returns-in-Insert-clause-misfit c =
    let k = c.args.effect.now.key in
    let there = some_of _ (sym c.if-branch.false ∙ c.in_ok-put_new.ensures.free) in
    let g : map.get c.args.self.now k ≡ Some there.0 = ap (λ t. map.get t k) (sym c.self.view_is) ∙ there.1 in
    misfit_refused c.args.self.now c.args.effect.now c.in-Insert.row there.0 g c.in-Insert.is

pub returns-in_default-get_mut : goal.returns-in_default-get_mut
returns-in_default-get_mut c =
    let k = c.args.effect.now.key in
    let g : map.get c.args.self.now k ≡ None = ap (λ t. map.get t k) (sym c.self.view_is) ∙ get_tables_of _ k ∙ sym c.in_default-get_mut.ensures.value in
    let n = ap (λ m. tables_of m.entries) c.get_mut.follows.holds-at-none ∙ c.self.view_is in
    let d = not_insert c.args.effect.now.change c.in_default.not-Insert in
    record {
      tables = n ∙ sym (remove_none c.args.self.now k g) ∙ after_none c.args.self.now c.args.effect.now _ g d;
      misfit = misfit_none c.args.self.now c.args.effect.now _ g d;
      err = tt;
    }

pub returns-then-not-fate : goal.returns-then-not-fate
returns-then-not-fate c =
    let k = c.args.effect.now.key in
    let row = c.alter-fate.new.row in
    let g : map.get c.args.self.now k ≡ Some c.in-Some.row.now = ap (λ t. map.get t k) (sym c.self.view_is) ∙ get_tables_of _ k ∙ sym c.in-Some.ensures.value in
    record {
      tables = c.remove_row.ensures
          ∙ ap (λ (t : Tables). map.remove t k)
          (tables_of_update _ _ k row ((c.get_mut.follows.holds row).3 (search rules)).0 ∙ ap (λ (t : Tables). map.insert t k row) c.self.view_is)
          ∙ remove_put c.args.self.now k row
          ∙ after_alter c.args.self.now c.args.effect.now c.in-Some.row.now None g (c.alter-fate.ensures.row ∙ row_goes _ row c.if-not-fate.true);
      misfit = misfit_alter c.args.self.now c.args.effect.now c.in-Some.row.now c.alter-fate.result.misfit g c.alter-fate.ensures.misfit;
      err = tt;
    }

pub returns : goal.returns
returns c =
    let k = c.args.effect.now.key in
    let row = c.alter-fate.new.row in
    let g : map.get c.args.self.now k ≡ Some c.in-Some.row.now = ap (λ t. map.get t k) (sym c.self.view_is) ∙ get_tables_of _ k ∙ sym c.in-Some.ensures.value in
    record {
      tables = tables_of_update _ _ k row ((c.get_mut.follows.holds row).3 (search rules)).0 ∙ ap (λ (t : Tables). map.insert t k row) c.self.view_is
          ∙ after_alter c.args.self.now c.args.effect.now c.in-Some.row.now (Some row) g (c.alter-fate.ensures.row ∙ row_stays _ row c.if-not-fate.false);
      misfit = misfit_alter c.args.self.now c.args.effect.now c.in-Some.row.now c.alter-fate.result.misfit g c.alter-fate.ensures.misfit;
      err = tt;
    }
