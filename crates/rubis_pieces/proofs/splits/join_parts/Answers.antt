use Rattle.rubis_pieces.proofs.Common.{rules, arith, ◌≡◌, ◌∷◌, ◌+◌, ◌++◌, ◌∙◌, [], List, ap, drop, length, length-append, subst, sym, refl, take}
use Rattle.rubis_pieces.proofs.Common.{append_assoc, into_iter_items, into_iter_len, append-nil, nil_from_length, Core, cores, numbered_from}
use Rattle.rubis_pieces.proofs.Common.{numbered_append}
use Rattle.std.proofs.Common.{take-append-drop}
use Rattle.rubis_pieces.specs.Batches.{AreDealt, AreOfParts}
use Rattle.rubis_pieces.proofs.splits.join_parts.Goals as goal

pub loop-part-init : goal.loop-part-init
loop-part-init c =
    let batch = cores c.args.batch.now in
    let begin : c.args.first ≡ c.args.first + 0 = omega arith in
    let items : c.args.parts.items ≡ into_iter_items c.into_iter-part-iterator.result = search rules in (
      [],
      batch,
      refl,
      c.in_ok-list.ensures,
      subst (λ n. AreOfParts c.args.shards n batch (into_iter_items c.into_iter-part-iterator.result)) begin
          (subst (AreOfParts c.args.shards c.args.first batch) items c.requires.parts),
    )

pub add_shares-requires : goal.add_shares-requires
add_shares-requires c =
    let inv = c.loop-part.invariant in
    let items : into_iter_items c.loop-part.part-iterator ≡ c.in-Some.part ∷ into_iter_items c.next.new.self = search rules in
    let parts = subst (AreOfParts c.args.shards (c.args.first + length inv.0) inv.1) items inv.4 in
    inv.3.many ∙ sym parts.0.many

pub loop-part-preserved : goal.loop-part-preserved
loop-part-preserved c =
    let shards = c.args.shards in
    let first = c.args.first in
    let inv = c.loop-part.invariant in
    let before = inv.0 in
    let left = inv.1 in
    let now = take 1024 left in
    let items : into_iter_items c.loop-part.part-iterator ≡ c.in-Some.part ∷ into_iter_items c.next.new.self = search rules in
    let parts = subst (AreOfParts shards (first + length before) left) items inv.4 in
    let dealt = c.in_ok-add_shares.ensures shards (numbered_from first before) (numbered_from (first + length before) now) inv.3 parts.0 in
    let end : first + length before + length now ≡ first + length (before ++ now) = omega (arith, length-append before now) in (
      before ++ now,
      drop 1024 left,
      inv.2 ∙ ap (λ ms. before ++ ms) (sym (take-append-drop 1024 left)) ∙ sym (append_assoc before now (drop 1024 left)),
      subst (λ ns. AreDealt shards ns c.add_shares.new.list.items) (sym (numbered_append first before now)) dealt,
      subst (λ n. AreOfParts shards n (drop 1024 left) (into_iter_items c.next.new.self)) end parts.1,
    )

pub returns : goal.returns
returns c =
    let shards = c.args.shards in
    let first = c.args.first in
    let inv = c.loop-part.invariant in
    let many = c.loop-part.part-iterator.rest.ok.0 in
    let gone : into_iter_len c.loop-part.part-iterator ≡ 0 = search rules in
    let none : into_iter_items c.loop-part.part-iterator ≡ [] = nil_from_length _ (sym many ∙ gone) in
    let ended : inv.1 ≡ [] = subst (AreOfParts shards (first + length inv.0) inv.1) none inv.4 in
    let all : inv.0 ≡ cores c.args.batch.now = sym (inv.2 ∙ ap (λ (ms : List Core). inv.0 ++ ms) ended ∙ append-nil inv.0) in
    subst (λ ms. AreDealt shards (numbered_from first ms) c.loop-part.list.items) all inv.3
