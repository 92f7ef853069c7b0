use Rattle.rubis_workers.proofs.Common.{rules, ◌∙◌, length, take, subst, arith, cores, HoldsLog}
use Rattle.rubis_workers.specs.Logs.{StaysWithin}
use Rattle.rubis_workers.proofs.Applied.{alone, ok_of}
use Rattle.rubis_workers.proofs.applying.apply_alone.Goals as goal

pub returns-then-is_ok-clause-ok : goal.returns-then-is_ok-clause-ok
returns-then-is_ok-clause-ok g c =
    let up = c.apply_upto.ensures in
    let log = c.args.batch.now.log.now in
    let new = c.apply_upto.new.tables in
    let same = ok_of _ c.apply_upto.result (search rules) up.ok in
    record {
      many = up.many;
      holds = λ h.
          subst (λ n. HoldsLog n (cores (take c.args.batch.now.upto log)) new) up.many
          (subst (λ n. HoldsLog (length new) (cores (take n log)) new) same (up.holds h));
      limits = subst (StaysWithin log c.args.batch.now.from) same up.limits;
    }

pub returns-clause-err : goal.returns-clause-err
returns-clause-err g c =
    let up = c.apply_upto.ensures in
    let log = c.args.batch.now.log.now in
    let new = c.apply_upto.new.tables in
    let at = c.apply_upto.new.at in
    alone log c.args.batch.now.from c.args.batch.now.upto at c.args.tables.now new c.stop_all.new.stops.items up.on up.inside up.many
    (c.stop_all.ensures.many ∙ c.len-shards.ensures) (λ k l. c.stop_all.ensures.at k (let e = c.len-shards.ensures in omega arith))
    (λ h. subst (λ n. HoldsLog n (cores (take at log)) new) up.many (up.holds h))
