use Rattle.std.proofs.Common.{◌≡◌, ◌∙◌, ◌++◌, [], ap, rules, sym, take}
use Rattle.rubis_keep.specs.Lines.{begun_after, begun_bytes}
use Rattle.rubis_keep.proofs.HistoryFacts.{consumes-more}
use Rattle.rubis_keep.proofs.LineFacts.{begun-append}
use Rattle.std.proofs.lemmas.Bool.{MatchBool-at_false, MatchBool-at_true}
use Rattle.rubis_keep.specs.Outlets.{counts-both}
use Rattle.rubis_keep.proofs.SoundFacts.{edited-read, sound-end, sound_more}
use Rattle.rubis_keep.proofs.checking.check_kept.Goals as goal

pub returns-in-Ok-eq0-clause-sound : goal.returns-in-Ok-eq0-clause-sound
returns-in-Ok-eq0-clause-sound g c =
    let before = c.loop-turn.invariant.come in
    let none : c.in-Ok-eq0.field-0 ≡ 0 = search rules in
    sound-end _ _ _ before.0 before.1 before.2 c.in-Ok-eq0.ensures.bytes.0 (ap (λ n. take n c.read_through_signals.new.buf) none)
    (c.in-Ok-eq0.ensures.bytes.1 none (search rules))

pub returns-then-not-branch-clause-edited : goal.returns-then-not-branch-clause-edited
returns-then-not-branch-clause-edited g c =
    let before = c.loop-turn.invariant.come in
    edited-read _ _ _ before.0 _ before.1 before.2 before.4 c.in-Ok.ensures.bytes.0
    (MatchBool-at_false _ _ c.if-not-branch.true c.in_ok-check_bytes-in-Ok.ensures.lines (begun_after [] before.0) before.3) (search rules)

pub loop-turn-preserved : goal.loop-turn-preserved
loop-turn-preserved g c =
    let before = c.loop-turn.invariant.come in
    let more = take c.in-Ok.given c.read_through_signals.new.buf in record {
      next = search rules;
      ends = search rules;
      come = (
        before.0 ++ more,
        consumes-more _ _ _ before.0 more before.1 c.in-Ok.ensures.bytes.0,
        sound_more [] before.0 more before.2 (sym (c.in_ok-check_bytes-in-Ok.ensures.sound (begun_after [] before.0) before.3) ∙ c.if-not-branch.false),
        c.in_ok-check_bytes-in-Ok.ensures.begun c.if-not-branch.false (begun_after [] before.0) before.3 ∙ ap begun_bytes (sym (begun-append [] before.0 more)),
        counts-both _ _ _ before.0 more before.4 (MatchBool-at_true _ _ c.if-not-branch.false c.in_ok-check_bytes-in-Ok.ensures.lines),
      );
    }
