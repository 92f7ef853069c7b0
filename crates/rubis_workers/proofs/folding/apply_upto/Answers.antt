use Rattle.rubis_workers.proofs.Common.{◌≡◌, ◌∷◌, [], ◌++◌, length, sym, subst, refl, take, ◌<◌, ◌∙◌, arith, Core, cores, HoldsLog}
use Rattle.rubis_workers.specs.Logs.{AreWithin}
use Rattle.rubis_workers.proofs.Applied.{next_held, next_within}
use Rattle.rubis_workers.proofs.folding.apply_upto.Goals as goal

pub loop-place-preserved : goal.loop-place-preserved
loop-place-preserved c =
    let m = c.index-log-place.result in
    let log = c.args.log.now in
    let inside : c.loop-place.place < length log = omega (arith, c.loop-place-test.true, c.requires.inside) in
    let done = c.in_ok-apply_message.ensures in
    let entry = c.new-entry.ensures in
    let many : length c.apply_message.new.self ≡ length c.loop-place.tables = done.ok.many in
    record {
      here = refl;
      some = omega (arith, many, c.loop-place.invariant.some);
      holds = λ first. next_held log c.loop-place.place m c.loop-place.tables c.apply_message.new.self inside c.index-log-place.is
          (λ shards before count old. subst (λ (x : Core). HoldsLog shards (before ++ x ∷ []) c.apply_message.new.self) entry.core
          (done.log shards before (entry.number ∙ count) old))
          (sym many) (subst (λ n. HoldsLog (length c.loop-place.tables) (cores (take n log)) c.loop-place.tables) c.loop-place.invariant.here
          (c.loop-place.invariant.holds first));
      limits = λ sites all first. next_within sites log c.loop-place.place m inside c.index-log-place.is entry.conditions all
          (subst (AreWithin sites log) c.loop-place.invariant.here (c.loop-place.invariant.limits sites all first));
      many = many ∙ c.loop-place.invariant.many;
      same = λ e. absurd (omega (arith, e));
    }
