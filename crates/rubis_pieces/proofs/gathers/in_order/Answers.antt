use Rattle.std.proofs.Common.{rules, ◌≡◌, List, length, subst}
use Rattle.std.proofs.lemmas.List.Sorted.{IsNonDecreasingBy-from_sort_by_key, length_permutation}
use Rattle.rubis_pieces.specs.declared.pieces.Done.{Done}
use Rattle.rubis_pieces.specs.Batches.{IsGatherable, numbers_of}
use Rattle.rubis_pieces.proofs.Folded.{in_order}
use Rattle.rubis_pieces.proofs.gathers.in_order.Goals as goal

pub returns-clause-order : goal.returns-clause-order
returns-clause-order c =
    let list : List Done = c.args.list.items in
    let ds : List Done = c.sort_unstable_by_key.new.self.items in
    let many : ◌≡◌ (length c.args.seen.now) (length c.args.seen.now) = search rules in
    let g : IsGatherable (length c.args.seen.now) (numbers_of list) =
    subst (λ (xs : List Done). IsGatherable (length c.args.seen.now) (numbers_of xs)) c.deref.ensures.value c.in_default.ensures.none in
    let e = c.sort_unstable_by_key.ensures in
    in_order (length c.args.seen.now) list ds g e.permutation (length_permutation list ds e.permutation)
    (IsNonDecreasingBy-from_sort_by_key (λ (d : Done). d.shard.number) _ e.sorted (λ a r q k. search rules))
