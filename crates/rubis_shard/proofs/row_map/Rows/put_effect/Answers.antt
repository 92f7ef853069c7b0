use Rattle.rubis_shard.proofs.Common.{◌≡◌, sym, ap, ◌∙◌, refl, arith, None, Tables, fits_as, after_none, misfit_none, none_of, put_then}
use Rattle.rubis_shadow.proofs.Rows.{some_of, after_refused, misfit_refused, inserted, put_else}
use Rattle.std.specs.FinMap as map
use Rattle.rubis_shard.specs.Rows.{tables_in}
use Rattle.rubis_shard.proofs.row_map.Rows.put_effect.Goals as goal

pub returns-then-put_new-clause-tables : goal.returns-then-put_new-clause-tables
returns-then-put_new-clause-tables c =
    let t : Tables = tables_in c.args.self.now in
    let row = c.in-Insert.row in
    let g : map.get t c.args.effect.key ≡ None = none_of _ (sym c.if-put_new.true ∙ c.put_new.ensures.free) in
    put_then _ _ _ c.if-put_new.true c.put_new.ensures.put
    ∙ after_none t c.args.effect (fits_as row) g (inserted c.args.effect.change row row c.in-Insert.is refl)

pub returns-then-put_new-clause-misfit : goal.returns-then-put_new-clause-misfit
returns-then-put_new-clause-misfit c =
    let t : Tables = tables_in c.args.self.now in
    let row = c.in-Insert.row in
    let g : map.get t c.args.effect.key ≡ None = none_of _ (sym c.if-put_new.true ∙ c.put_new.ensures.free) in
    misfit_none t c.args.effect (fits_as row) g (inserted c.args.effect.change row row c.in-Insert.is refl)

pub returns-in-Insert-clause-tables : goal.returns-in-Insert-clause-tables
returns-in-Insert-clause-tables c =
    let t : Tables = tables_in c.args.self.now in
    let there = some_of _ (sym c.if-put_new.false ∙ c.put_new.ensures.free) in
    ap map.from_entries (put_else _ _ _ c.if-put_new.false c.put_new.ensures.put)
    ∙ after_refused t c.args.effect c.in-Insert.row there.0 there.1 c.in-Insert.is

pub returns-in-Insert-clause-misfit : goal.returns-in-Insert-clause-misfit
returns-in-Insert-clause-misfit c =
    let t : Tables = tables_in c.args.self.now in
    let there = some_of _ (sym c.if-put_new.false ∙ c.put_new.ensures.free) in
    misfit_refused t c.args.effect c.in-Insert.row there.0 there.1 c.in-Insert.is

pub returns : goal.returns
returns c = record {
  tables = c.change_row.ensures.tables;
  misfit = c.change_row.ensures.misfit;
  room = λ n room. c.change_row.ensures.room n (record {
    users = omega (arith, room.users);
    others = omega (arith, room.others);
    nicks = omega (arith, room.nicks);
    cats = omega (arith, room.cats);
  });
}
