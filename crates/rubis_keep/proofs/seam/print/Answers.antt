use Rattle.rubis_engine.proofs.RunFacts.{front-kept, front-on, more-bound}
use Rattle.rubis_keep.proofs.seam.print.Goals as goal
use Rattle.rubis_keep.proofs.seam.print.Goals.{in-Err, in-Ok}

pub loop-turn-preserved : goal.loop-turn-preserved
loop-turn-preserved g c = elim c.match-write.branch [
  | in-Ok w ↦ rw w.many-is (record {
    within = more-bound _ _ c.args.text.now c.loop-turn.invariant.within w.in-Ok.ensures.bound;
    taken = front-on _ _ _ c.loop-turn.many _ c.args.text.now c.loop-turn.invariant.taken w.in-Ok.ensures.bytes;
  })
  | in-Err w ↦ rw w.many-is (record {
    within = c.loop-turn.invariant.within;
    taken = front-kept _ _ _ _ c.loop-turn.invariant.taken w.in-Err.ensures.bytes;
  })
]
