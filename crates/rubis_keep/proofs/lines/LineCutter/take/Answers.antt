use Rattle.rubis_keep.proofs.Common.{◌≡◌, ◌&&◌, ◌∙◌, ◌++◌, ◌∷◌, ◌+◌, [], ap, append_assoc, false, refl, rules, sym, take, true, ne_eqb, append-nil}
use Rattle.rubis_keep.specs.Lines.{begun_after, is_question, is_sound, kept_record}
use Rattle.rubis_keep.proofs.SoundFacts.{cut-ended, cut-next, cut-none, cut-pushed, cut-stays}
use Rattle.rubis_keep.proofs.lines.LineCutter.take.Goals.{then-len-le-KEYED_MAX+in_ok-push, else-len-le-KEYED_MAX, else-asks-via-then-asks+else-eq}
use Rattle.rubis_keep.proofs.lines.LineCutter.take.Goals.{else-asks-via-else-asks, then-is_sound+in_ok-extend_from_slice-2+in_ok-push-2}
use Rattle.rubis_keep.proofs.lines.LineCutter.take.Goals.{else-is_sound+in_ok-extend_from_slice-3}
use Rattle.rubis_keep.proofs.lines.LineCutter.take.Goals as goal

pub loop-byte-init : goal.loop-byte-init
loop-byte-init c = record { taken = refl; cut = λ line h. cut-none c.args.asks line _ _ (c.self.view_is ∙ h) }

pub loop-byte-preserved-then-byte-ne10 : goal.loop-byte-preserved-then-byte-ne10
loop-byte-preserved-then-byte-ne10 c =
    let i = c.loop-byte.byte-index in
    let piece = c.args.piece.now in
    record {
      taken = ap (λ n. n + 1) c.loop-byte.invariant.taken;
      cut = λ line h.
          let before = c.loop-byte.invariant.cut line h in
          let more = begun_after line (take i piece) in
          elim c.if-len-le-KEYED_MAX.branch [
            | then-len-le-KEYED_MAX+in_ok-push w ↦
                rw w.self-inside-is (cut-next piece i (search rules) before
                (cut-pushed c.args.asks more _ _ _ (ne_eqb _ 10 c.if-byte-ne10.true) before.begins (search rules) w.in_ok-push.ensures.items))
            | else-len-le-KEYED_MAX w ↦
                rw w.self-inside-is (cut-next piece i (search rules) before
                (cut-stays c.args.asks more _ _ _ (ne_eqb _ 10 c.if-byte-ne10.true) before.begins (search rules)))
          ];
    }

pub returns-then-eq-clause-cut : goal.returns-then-eq-clause-cut
returns-then-eq-clause-cut c line h =
    let i = c.loop-byte.byte-index in
    let piece = c.args.piece.now in
    let begun = c.loop-byte.self-inside.begun.items in
    let before = c.loop-byte.invariant.cut line h in
    let first : is_question begun ≡ true = search rules in
    let asked : (c.args.asks && is_question begun) ≡ true = rw (c.if-asks.true, first) refl in
    rw c.loop-byte.invariant.taken (cut-next piece i (search rules) before
    (rw c.if-byte-ne10.false (cut-ended c.args.asks (begun_after line (take i piece)) _ _ before.begins c.clear-then-eq.ensures.items (sym asked)
    (λ e. c.in_ok-extend_from_slice.ensures.items ∙ (λ j. c.clear.ensures.items j ++ c.deref-then-eq.ensures.value j)) (rw asked (sym (append-nil _))))))

pub loop-byte-preserved : goal.loop-byte-preserved
loop-byte-preserved c =
    let i = c.loop-byte.byte-index in
    let piece = c.args.piece.now in
    let begun = c.loop-byte.self-inside.begun.items in
    let kept = c.loop-byte.kept.items in
    let asked : (c.args.asks && is_question begun) ≡ false =
    elim c.else-asks.branch [
      | else-asks-via-then-asks+else-eq w ↦ (let first : is_question begun ≡ false = search rules in rw (w.if-asks.true, first) refl)
      | else-asks-via-else-asks w ↦ rw w.if-asks.false refl
    ] in
    let added : c.if-is_sound.kept.items ≡ kept ++ kept_record begun =
    elim c.if-is_sound.branch [
      | then-is_sound+in_ok-extend_from_slice-2+in_ok-push-2 w ↦
          (let sound : is_sound begun ≡ true = ap is_sound (sym c.deref-in-loop-byte.ensures.value) ∙ sym c.is_sound.ensures ∙ w.if-is_sound.true in
          rw (w.kept-is, sound) (w.in_ok-push-2.ensures.items
          ∙ ap (λ t. t ++ 10 ∷ []) (w.in_ok-extend_from_slice-2.ensures.items ∙ ap (λ t. kept ++ t) w.deref-then-is_sound.ensures.value)
          ∙ append_assoc kept begun (10 ∷ [])))
      | else-is_sound+in_ok-extend_from_slice-3 w ↦
          (let broken : is_sound begun ≡ false = ap is_sound (sym c.deref-in-loop-byte.ensures.value) ∙ sym c.is_sound.ensures ∙ w.if-is_sound.false in
          rw (w.kept-is, broken) w.in_ok-extend_from_slice-3.ensures.items)
    ] in
    record {
      taken = ap (λ n. n + 1) c.loop-byte.invariant.taken;
      cut = λ line h.
          let before = c.loop-byte.invariant.cut line h in
          cut-next piece i (search rules) before
          (rw c.if-byte-ne10.false (cut-ended c.args.asks (begun_after line (take i piece)) _ _ before.begins c.clear-in-loop-byte.ensures.items (sym asked)
          (λ e. absurd (cc e)) (rw asked added)));
    }

pub returns-clause-cut : goal.returns-clause-cut
returns-clause-cut c line h = rw c.loop-byte.invariant.taken (c.loop-byte.invariant.cut line h)
