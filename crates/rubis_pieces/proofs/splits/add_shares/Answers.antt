use Rattle.rubis_pieces.proofs.Common.{rules, arith, ◌≡◌, ◌∷◌, ◌+◌, ◌<◌, ◌≤◌, ◌∙◌, [], suc, drop, length, ap, sym, refl, into_iter_items}
use Rattle.rubis_pieces.proofs.Common.{into_iter_len, length-drop, nil_from_length, slice_get_read}
use Rattle.rubis_pieces.proofs.Dealt.{added_dealt, drop_first, drop_rest, none_added, one_added}
use Rattle.rubis_pieces.proofs.splits.add_shares.Goals as goal

pub loop-share-init : goal.loop-share-init
loop-share-init c = record {
  within = omega arith;
  rest = search rules;
  added = none_added _ _;
}

pub loop-share-preserved : goal.loop-share-preserved
loop-share-preserved c =
    let old = c.args.list.now.items in
    let more = c.args.shares.items in
    let at = c.loop-share.number in
    let l = c.loop-share.list.items in
    let inv = c.loop-share.invariant in
    let items : into_iter_items c.loop-share.share-iterator ≡ c.in-Some.share ∷ into_iter_items c.next.new.self = search rules in
    let left = sym inv.rest ∙ items in
    let next : suc at ≡ at + 1 = omega arith in
    let inside : at < length more = omega (arith, length-drop at more, ap length left, inv.within) in
    let own : at < length l = omega (arith, inside, inv.added.many, c.requires) in
    record {
      within = omega (arith, inside);
      rest = drop_rest more at c.in-Some.share _ left ∙ ap (λ n. drop n more) next;
      added = one_added at old more l c.index_mut.result.now c.in-Some.share c.add_share.new.share inv.added own
          (slice_get_read l (length l) at c.index_mut.result.now refl own (search rules)) (drop_first more at c.in-Some.share _ left) c.in_ok-add_share.ensures;
    }

pub returns : goal.returns
returns c =
    let more = c.args.shares.items in
    let at = c.loop-share.number in
    let inv = c.loop-share.invariant in
    let many = c.loop-share.share-iterator.rest.ok.0 in
    let gone : into_iter_len c.loop-share.share-iterator ≡ 0 = search rules in
    let none : into_iter_items c.loop-share.share-iterator ≡ [] = nil_from_length _ (sym many ∙ gone) in
    let all : length more ≤ at = omega (arith, length-drop at more, ap length (sym inv.rest ∙ none)) in
    added_dealt at c.args.list.now.items more c.loop-share.list.items all inv.added
