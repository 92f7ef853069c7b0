use Rattle.rubis_workers.proofs.Common.{◌≡◌, [], ◌∷◌, ◌++◌, length, map as each, ap, ◌∙◌, sym, subst, arith, IsPermutation, length-append, Piece}
use Rattle.rubis_workers.specs.Work.{bare}
use Rattle.rubis_workers.proofs.Counts.{bare_last}
use Rattle.rubis_workers.proofs.following.post_bare.Goals as goal

pub loop-preserved : goal.loop-preserved
loop-preserved g c =
    let s = c.in-Some.shard in
    let p : Piece = bare s in
    let left = c.pop.new.self.items in
    let all = each bare c.args.shards.items in
    let shards : c.loop.shards.items ≡ left ++ s ∷ [] = c.in-Some.ensures.items in
    let posted : c.post.new.self.posted ≡ c.loop.poster.posted ++ p ∷ [] =
    c.in-Ok.ensures.posted.1
    ∙ (λ i. c.loop.poster.posted ++ record { shard = s; share = record { number = c.number.ensures i; effects = c.new.ensures i } } ∷ []) in
    let shards_long = c.in-Some.ensures.len in
    let posted_long = ap length posted in
    let one_more = length-append c.loop.poster.posted (p ∷ []) in
    let sum = c.loop.invariant.1 in
    let counted = c.loop.invariant.2 in
    let shards_ok = c.pop.new.self.ok in (
      c.in-Ok.ensures.capacity ∙ c.loop.invariant.0,
      omega arith,
      omega arith,
      subst (λ l. IsPermutation all (each bare left ++ l)) (sym posted)
          (bare_last all left c.loop.poster.posted s
          (subst (λ (l : _). IsPermutation all (each bare l ++ c.loop.poster.posted)) shards c.loop.invariant.3)),
    )
