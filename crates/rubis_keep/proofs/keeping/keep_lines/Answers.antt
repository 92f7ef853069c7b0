use Rattle.rubis_keep.proofs.Common.{rules, more-bound}
use Rattle.rubis_keep.specs.Telling.{grows-none}
use Rattle.rubis_keep.proofs.HistoryFacts.{grows-front, grows-still, kept-end}
use Rattle.rubis_keep.proofs.keeping.keep_lines.Goals as goal

pub loop-turn-init : goal.loop-turn-init
loop-turn-init g c = record { next = search rules; ends = search rules; within = search rules; kept = grows-none _ }

pub returns-then-at-chunk : goal.returns-then-at-chunk
returns-then-at-chunk g c =
    kept-end _ _ _ _ c.args.chunk.now _ (search rules) c.loop-turn.invariant.within c.loop-turn.invariant.kept c.flush_kept.ensures

pub loop-turn-preserved-in-Ok : goal.loop-turn-preserved-in-Ok
loop-turn-preserved-in-Ok g c =
    let before = c.loop-turn.invariant in
    record {
      next = search rules;
      ends = search rules;
      within = more-bound _ _ c.args.chunk.now before.within c.in-Ok.ensures.bound;
      kept = grows-front _ _ _ _ _ _ c.args.chunk.now before.kept c.in-Ok.ensures.kept;
    }

pub loop-turn-preserved : goal.loop-turn-preserved
loop-turn-preserved g c =
    let before = c.loop-turn.invariant in
    record {
      next = search rules;
      ends = search rules;
      within = before.within;
      kept = grows-still _ _ _ _ before.kept c.in-Err.ensures.kept;
    }
