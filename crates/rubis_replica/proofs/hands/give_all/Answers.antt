use Rattle.rubis_replica.proofs.Common.{◌∙◌, length, refl, sym, ap, subst, arith, arc_value, IsRoom}
use Rattle.std.specs.List.{All}
use Rattle.rubis_replica.proofs.GivenOut.{all_front, all_last, none_out}
use Rattle.rubis_replica.proofs.hands.give_all.Goals as goal

pub loop-init : goal.loop-init
loop-init g c = record {
  counted = omega arith;
  rooms = c.requires.pass.2;
  parts = c.requires.pass.1;
  posted = refl;
  share = c.requires.pass.0;
  out = none_out c.args.crew.now.id c.args.job.now.board.now (arc_value c.args.job.now.batch.now) c.args.pass c.args.lead.now c.requires.pass.0 c.requires.lead;
  sum = (let none = ap length c.requires.lead.1 in omega (arith, none));
}

pub give-pass-requires-clause-pass : goal.give-pass-requires-clause-pass
give-pass-requires-clause-pass g c κs within =
    let P = IsRoom (length c.args.pass.posted) in (
      c.loop.invariant.share,
      (let parts = c.loop.invariant.parts in let len = c.in-Some.ensures.len in omega (arith, parts, len)),
      subst (λ ps. IsRoom (length ps) c.in-Some.room) (sym c.loop.invariant.posted)
          (all_last P c.pop.new.self.items c.in-Some.room (subst (All P) c.in-Some.ensures.items c.loop.invariant.rooms)),
    )

pub loop-preserved : goal.loop-preserved
loop-preserved g c =
    let P = IsRoom (length c.args.pass.posted) in
    let len = c.in-Some.ensures.len in
    record {
      counted = (let n = c.loop.invariant.counted in omega (arith, n, len));
      rooms = all_front P c.pop.new.self.items c.in-Some.room (subst (All P) c.in-Some.ensures.items c.loop.invariant.rooms);
      parts = (let parts = c.loop.invariant.parts in let kept = c.give-pass.ensures.pass.2 in omega (arith, parts, kept, len));
      posted = c.give-pass.ensures.pass.1 ∙ c.loop.invariant.posted;
      share = c.give-pass.ensures.pass.0;
      out = c.give-pass.ensures.out.0;
      sum = c.give-pass.ensures.out.1 ∙ c.loop.invariant.sum;
    }
