use Rattle.std.proofs.Common.{◌∷◌, [], length, ap, arith}
use Rattle.std.proofs.lemmas.List.{length-append}
use Rattle.rubis_pool_core.proofs.Accounts.{one_more_piece}
use Rattle.rubis_pool_core.proofs.pool.Pool.post.Goals as goal

pub invariant_of-self : goal.invariant_of-self
invariant_of-self c =
    let old = c.self.inside.posted.items in
    let new = c.push_back_reserved.ensures.items in
    let longer = ap length new in
    let sum = length-append old (c.args.piece ∷ []) in
    let few = c.self.invariant.1 in
    let room = c.if-self.false in
    let wide = c.self.invariant.3 in
    let same = c.push_back_reserved.ensures.capacity in (
      one_more_piece old c.push_back_reserved.new.self.items c.args.piece new c.self.invariant.0 c.requires,
      omega arith,
      omega arith,
      omega arith,
    )
