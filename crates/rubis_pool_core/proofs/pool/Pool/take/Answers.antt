use Rattle.std.proofs.Common.{◌∷◌, suc, length, sym, ap, ◌∙◌, subst, arith}
use Rattle.std.specs.List.{All}
use Rattle.rubis_pieces.specs.Batches.{IsPiece}
use Rattle.rubis_pool_core.proofs.Accounts.{free_slot, take_just, take_is}
use Rattle.rubis_pool_core.proofs.pool.Pool.take.Goals as goal

pub invariant_of-self-in-Some : goal.invariant_of-self-in-Some
invariant_of-self-in-Some c =
    let was = c.in-Some.ensures.items in
    let shorter = ap length was in
    let few = c.self.invariant.1 in
    let wide = c.self.invariant.3 in
    let same = c.in-Some.ensures.capacity in
    let all : All IsPiece (c.in-Some.piece ∷ c.pop_front.new.self.items) = subst (All IsPiece) was c.self.invariant.0 in (
      λ k d less. all (suc k) d (omega arith),
      omega arith,
      c.self.invariant.2,
      omega arith,
    )

pub returns-in-Some-clause-possible : goal.returns-in-Some-clause-possible
returns-in-Some-clause-possible c =
    let long = c.len.ensures ∙ c.self.inside.held.ok.0 in
    take_just _ _ c.self.view_is c.args.worker c.in-Some.piece _
    (free_slot _ c.len.result _ c.index.result.now long c.if-worker-len.false c.index.ensures
    (sym c.is_some.ensures ∙ c.if-is_some.false))
    c.in-Some.ensures.items

pub returns-in-Some-clause-next : goal.returns-in-Some-clause-next
returns-in-Some-clause-next c =
    let long = c.len.ensures ∙ c.self.inside.held.ok.0 in
    take_is _ _ c.self.view_is c.args.worker c.in-Some.piece _ c.begin.result
    (free_slot _ c.len.result _ c.index.result.now long c.if-worker-len.false c.index.ensures
    (sym c.is_some.ensures ∙ c.if-is_some.false))
    c.in-Some.ensures.items c.begin.ensures
