use Rattle.rubis_pieces.proofs.Common.{rules, ◌≡◌, ◌∙◌, get_or, sym, subst, arith, ⊎_elim, cases_lt, IsMessage}
use Rattle.std.proofs.lemmas.List.{get_or_default}
use Rattle.rubis_pieces.proofs.Follows.{homes_turn}
use Rattle.rubis_pieces.proofs.following.homes_of.Goals as goal

pub loop-place-preserved : goal.loop-place-preserved
loop-place-preserved c =
    let x = c.index-batch-place.result in
    let batch = c.args.batch.now in
    let place = c.loop-place.place in
    record {
      homes = homes_turn c.args.shards place batch x c.new-entry.result c.of.result c.loop-place.homes.items c.push.new.self.items
          (search rules) (search rules) c.new-entry.ensures.core (search rules) c.of.ensures c.loop-place.invariant.homes;
      conditions = λ i d l. ⊎_elim (λ less. c.loop-place.invariant.conditions i d less)
          (λ more.
          let same = (let e : i ≡ place = omega (arith, l, more) in e) in
          let is = c.index-batch-place.is ∙ get_or_default batch place x d c.loop-place-test.true in
          subst (λ n. IsMessage (get_or batch n d)) (sym same) (subst IsMessage is c.new-entry.ensures.conditions))
          (cases_lt i place);
    }
