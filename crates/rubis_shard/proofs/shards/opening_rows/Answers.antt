use Rattle.rubis_shard.proofs.Common.{◌≡◌, ◌-◌, ◌<◌, ◌≤◌, ap, sym, ◌∙◌, arith, true, false, None, is_none, nat_eq, Decides-eqb, home, Tables}
use Rattle.rubis_shard.proofs.Common.{categories_from, new_category, opening, put_then, part_of}
use Rattle.rubis_shadow.proofs.Rows.{categories_more}
use Rattle.std.specs.FinMap as map
use Rattle.rubis_schema.specs.declared.row_keys.RowKey.TheVariants as key
use Rattle.rubis_shard.specs.Rows.{tables_in}
use Rattle.rubis_shard.proofs.Folds.{not_equal}
use Rattle.rubis_shard.proofs.Openings.{not_open, part_empty, part_here, part_elsewhere}
use Rattle.rubis_shard.proofs.shards.opening_rows.Goals as goal

pub loop-cat-init : goal.loop-cat-init
unfolding categories_from
loop-cat-init c = ap map.from_entries c.new-rows.ensures ∙ sym (part_empty c.args.shards c.args.number)

pub loop-cat-preserved : goal.loop-cat-preserved
loop-cat-preserved c =
    let low : 0 < c.loop-cat.cat = omega arith in
    let high : c.loop-cat.cat ≤ 1000 = omega arith in
    let here : nat_eq (home c.args.shards (key.Cat (c.loop-cat.cat - 1))) c.args.number ≡ true =
    (Decides-eqb _ _).1 (sym c.shard_of.ensures.home ∙ c.if-shard_of-number.false) in
    let before : tables_in c.make_room.new.self
    ≡ part_of c.args.shards c.args.number (map.from_entries (categories_from c.loop-cat.cat (1000 - c.loop-cat.cat))) =
    ap map.from_entries c.in_ok-make_room.ensures.same ∙ c.loop-cat.invariant in
    let free : map.get (tables_in c.make_room.new.self) (key.Cat (c.loop-cat.cat - 1)) ≡ None =
    ap (λ (t : Tables). map.get t (key.Cat (c.loop-cat.cat - 1))) before ∙ not_open c.args.shards c.args.number c.loop-cat.cat _ _ (omega arith) in
    put_then _ _ _ (c.put_new.ensures.free ∙ ap is_none free) c.put_new.ensures.put
    ∙ ap (λ (t : Tables). map.insert t (key.Cat (c.loop-cat.cat - 1)) new_category) before
    ∙ sym (part_here c.args.shards c.args.number _ _ new_category here)
    ∙ ap (λ es. part_of c.args.shards c.args.number (map.from_entries es)) (sym (categories_more c.loop-cat.cat low high))

pub loop-cat-preserved-then-shard_of-number : goal.loop-cat-preserved-then-shard_of-number
loop-cat-preserved-then-shard_of-number c =
    let low : 0 < c.loop-cat.cat = omega arith in
    let high : c.loop-cat.cat ≤ 1000 = omega arith in
    let elsewhere : nat_eq (home c.args.shards (key.Cat (c.loop-cat.cat - 1))) c.args.number ≡ false =
    not_equal _ _ (λ e. c.if-shard_of-number.true (c.shard_of.ensures.home ∙ e)) in
    c.loop-cat.invariant
    ∙ sym (part_elsewhere c.args.shards c.args.number _ _ new_category elsewhere)
    ∙ ap (λ es. part_of c.args.shards c.args.number (map.from_entries es)) (sym (categories_more c.loop-cat.cat low high))

pub returns : goal.returns
unfolding opening
returns c =
    let none : c.loop-cat.cat ≡ 0 = omega arith in
    c.loop-cat.invariant ∙ ap (λ k. part_of c.args.shards c.args.number (map.from_entries (categories_from k (1000 - k)))) none
