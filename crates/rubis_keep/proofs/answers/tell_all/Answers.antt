use Rattle.rubis_keep.proofs.Common.{[], rules, more-bound}
use Rattle.rubis_keep.specs.Telling.{tells-none}
use Rattle.rubis_keep.proofs.HistoryFacts.{err-is, match-err, tells-front, tells-grown, tells-whole}
use Rattle.rubis_keep.proofs.answers.tell_all.Goals as goal

pub loop-turn-init : goal.loop-turn-init
loop-turn-init g c = record { within = search rules; told = tells-none _ _ }

pub returns-then-at-text-clause-told : goal.returns-then-at-text-clause-told
returns-then-at-text-clause-told g c = tells-whole _ _ _ _ c.args.text.now _ (search rules) c.loop-turn.invariant.told

pub loop-turn-preserved : goal.loop-turn-preserved
loop-turn-preserved g c =
    let before = c.loop-turn.invariant in
    record {
      within = more-bound _ _ c.args.text.now before.within c.in_ok-at.ensures.bound;
      told = tells-grown _ _ _ _ _ _ c.args.text.now _ before.told c.in_ok-at.ensures.told;
    }

pub returns-in_err-at-clause-told : goal.returns-in_err-at-clause-told
returns-in_err-at-clause-told g c =
    match-err _ c.from_residual.result c.from_residual.ensures.0
    (tells-front _ _ _ _ _ c.args.text.now c.loop-turn.invariant.within c.loop-turn.invariant.told c.in_err-at.ensures.told)

pub returns-clause-told : goal.returns-clause-told
returns-clause-told g c = (c.loop-turn.at, c.loop-turn.invariant.within, [], c.loop-turn.invariant.told)

pub returns-in_err-at-clause-fault : goal.returns-in_err-at-clause-fault
returns-in_err-at-clause-fault g c = err-is _ _ c.from_residual.result _ c.from_residual.ensures.1 c.in_err-at.ensures.fault
