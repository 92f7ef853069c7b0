use Rattle.rubis_workers.proofs.Common.{◌≡◌, [], ◌∷◌, ◌++◌, length, ap, ◌∙◌, sym, subst, arith, IsPermutation, length-append, Piece, pieces_of}
use Rattle.rubis_workers.proofs.Folded.{pieces_last, one_posted}
use Rattle.rubis_workers.proofs.batches.post_all.Goals as goal

pub loop-preserved : goal.loop-preserved
loop-preserved g c =
    let p : Piece = record { shard = c.in-Some.shard; share = c.in-Some-pop.share } in
    let ss = c.pop.new.self.items in
    let hs = c.pop-in-loop.new.self.items in
    let shards : c.loop.shards.items ≡ ss ++ c.in-Some.shard ∷ [] = c.in-Some.ensures.items in
    let shares : c.loop.shares.items ≡ hs ++ c.in-Some-pop.share ∷ [] = c.in-Some-pop.ensures.items in
    let posted : c.post.new.self.posted ≡ c.loop.poster.posted ++ p ∷ [] = c.in-Ok.ensures.posted.1 in
    let shards_long = c.in-Some.ensures.len in
    let shares_long = c.in-Some-pop.ensures.len in
    let posted_long = ap length posted in
    let one_more = length-append c.loop.poster.posted (p ∷ []) in
    let same_long = c.loop.invariant.0 in
    let sum = c.loop.invariant.2 in
    let counted = c.loop.invariant.3 in
    let shards_ok = c.pop.new.self.ok in
    let shares_ok = c.pop-in-loop.new.self.ok in
    let same : length ss ≡ length hs = omega arith in
    let all = pieces_of c.args.shards.items c.args.shares.items in
    let last : pieces_of c.loop.shards.items c.loop.shares.items ≡ pieces_of ss hs ++ p ∷ [] =
    (λ i. pieces_of (shards i) (shares i)) ∙ pieces_last ss hs c.in-Some.shard c.in-Some-pop.share same in (
      omega arith,
      c.in-Ok.ensures.capacity ∙ c.loop.invariant.1,
      omega arith,
      omega arith,
      subst (λ l. IsPermutation all (pieces_of ss hs ++ l)) (sym posted)
          (one_posted all (pieces_of ss hs) c.loop.poster.posted p
          (subst (λ l. IsPermutation all (l ++ c.loop.poster.posted)) last c.loop.invariant.4)),
    )
