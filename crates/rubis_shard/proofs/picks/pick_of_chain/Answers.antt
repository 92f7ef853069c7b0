use Rattle.rubis_shard.proofs.Common.{◌≡◌, ◌+◌, ◌-◌, ◌<◌, ◌≤◌, ◌∷◌, [], ◌++◌, List, cond, length, take, reverse, refl, sym, ap, subst, ◌∙◌, arith}
use Rattle.rubis_shard.proofs.Common.{append_assoc, ◌&&◌, Some, option_map, slice_get, deref_pair, IsPermutation, append-nil, length-map}
use Rattle.rubis_shard.proofs.Common.{IsPermutation-append_right, IsPermutation-sym, row_key, holds, RowKey, Row, is_of}
use Rattle.std.proofs.lemmas.List.Sorted.{IsPermutation-reverse}
use Rattle.rubis_shard.specs.Chains.{chain_of, chains_of, last_among, last_before}
use Rattle.rubis_shard.specs.Listed.{listed_among, table_with}
use Rattle.rubis_shard.specs.Rows.{kept_of, linked_of}
use Rattle.rubis_shard.proofs.Linking.{last_small, linked_chains, linked_few, linked_length, own_last, walk_from, walk_on}
use Rattle.rubis_shard.proofs.OneTable.{listed_one, taken_at, written_at}
use Rattle.rubis_shard.proofs.picks.pick_of_chain.Goals as goal

pub loop-place-init : goal.loop-place-init
loop-place-init c =
    let l = c.args.listing.now in
    let es = linked_of c.args.rows.now in
    let cs = chains_of es in
    let is : c.last-place.result ≡ last_among c.args.chain.now cs (length cs) =
    c.last-place.ensures ∙ (linked_chains c.args.rows.now).last c.args.chain.now in
    let within : c.last-place.result ≤ length es =
    omega (arith, is, last_small c.args.chain.now cs (length cs), length-map es (λ (e : RowKey × Row). chain_of e.0 e.1)) in
    record {
      within = within;
      inside = omega (arith, within, linked_length c.args.rows.now, linked_few c.args.rows.now);
      own = own_last l (table_with c.args.table) c.args.chain.now c.requires es (length cs) c.last-place.result is;
      walked = ([], sym (append-nil c.args.picked.now.items), walk_from l (table_with c.args.table) c.args.chain.now c.requires es c.last-place.result is);
    }

pub before-place-requires : goal.before-place-requires
before-place-requires c = omega (arith, c.loop-place.invariant.within, linked_length c.args.rows.now)

pub loop-place-smaller : goal.loop-place-smaller
loop-place-smaller c =
    let es = linked_of c.args.rows.now in
    let cs = chains_of es in
    let at = c.loop-place.place - 1 in
    let size = length-map es (λ (e : RowKey × Row). chain_of e.0 e.1) in
    let is : c.before-place.result ≡ last_among c.args.chain.now cs at =
    c.before-place.ensures ∙ (linked_chains c.args.rows.now).before at (omega (arith, size, c.loop-place.invariant.within))
    ∙ ap (λ o. last_before o cs at) (c.loop-place.invariant.own (omega arith)) in
    omega (arith, is, last_small c.args.chain.now cs at)

pub loop-place-preserved : goal.loop-place-preserved
loop-place-preserved c =
    let l = c.args.listing.now in
    let t = table_with c.args.table in
    let es = linked_of c.args.rows.now in
    let cs = chains_of es in
    let at = c.loop-place.place - 1 in
    let size = length-map es (λ (e : RowKey × Row). chain_of e.0 e.1) in
    let inside : at < length es = omega (arith, c.loop-place.invariant.within) in
    let next : at + 1 ≡ c.loop-place.place = omega arith in
    let is : c.before-place.result ≡ last_among c.args.chain.now cs at =
    c.before-place.ensures ∙ (linked_chains c.args.rows.now).before at (omega (arith, size, inside))
    ∙ ap (λ o. last_before o cs at) (c.loop-place.invariant.own (omega arith)) in
    let k = row_key c.in-Some.key.now in
    let row = c.in-Some.row.now in
    let e : RowKey × Row = (k, row) in
    let here : slice_get es at
    ≡ Some e = taken_at (kept_of c.args.rows.now) (length c.args.rows.now.chains.before.items) at (omega (arith, inside, linked_length c.args.rows.now)) ∙
    written_at row_key c.args.rows.now.rows.entries at c.in-Some.key.now row (sym c.get_index.ensures.entry ∙ ap (option_map deref_pair) c.in-Some.is) in
    let b = is_of l k row && holds t k in
    let one : List (RowKey × Row) = cond b (e ∷ []) [] in
    let old = c.loop-place.invariant.walked.0 in
    let first : List (RowKey × Row) = c.args.picked.now.items in
    let added : c.pick.new.picked.items ≡ first ++ (old ++ one) =
    c.in_ok-pick.ensures ∙ (λ i. c.loop-place.invariant.walked.1 i ++ listed_one l t k row b refl i) ∙ append_assoc first old one in
    record {
      within = omega (arith, is, last_small c.args.chain.now cs at, inside);
      inside = omega (arith, is, last_small c.args.chain.now cs at, inside, c.loop-place.invariant.inside);
      own = own_last l t c.args.chain.now c.requires es at c.before-place.result is;
      walked = (
        old ++ one,
        added,
        walk_on l t c.args.chain.now c.requires es at c.before-place.result e b old (old ++ one) inside here refl is refl
            (ap (λ n. listed_among l t (take n es) ++ reverse old) next ∙ c.loop-place.invariant.walked.2),
      );
    }

pub returns : goal.returns
returns c =
    let es = linked_of c.args.rows.now in
    let found = listed_among c.args.listing.now (table_with c.args.table) es in
    let first : List (RowKey × Row) = c.args.picked.now.items in
    let added = c.loop-place.invariant.walked.0 in
    let none : 0 ≡ c.loop-place.place = omega arith in
    let all : reverse added ≡ found =
    ap (λ n. listed_among c.args.listing.now (table_with c.args.table) (take n es) ++ reverse added) none ∙ c.loop-place.invariant.walked.2 in
    let moved : IsPermutation found added = IsPermutation-sym added _ (subst (IsPermutation added) all (IsPermutation-reverse added)) in
    subst (IsPermutation (first ++ found)) (sym c.loop-place.invariant.walked.1) (IsPermutation-append_right first found added moved)
