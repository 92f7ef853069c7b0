use Rattle.rubis_keep.proofs.Common.{◌≡◌, ◌∙◌, ◌+◌, ◌∷◌, ◌&&◌, [], ℕ, List, ap, arith, get_or, rules, subst, sym, take, ne_eqb, take_all}
use Rattle.rubis_keep.specs.Faults.{CountsLines, IsEdited}
use Rattle.rubis_keep.specs.Lines.{are_sound, begun_after, begun_bytes}
use Rattle.rubis_keep.proofs.LineFacts.{begun_take_more}
use Rattle.rubis_keep.proofs.SoundFacts.{counts-end, counts-on, edited-at, sound_take_more, unsound-at}
use Rattle.rubis_keep.proofs.checking.check_bytes.Goals as goal
use Rattle.rubis_keep.proofs.checking.check_bytes.Goals.{Joined-byte-eq10, Then-not-branch, else-byte-eq10, then-byte-eq10}

edited : (c : Then-not-branch) (line : List ℕ) → c.args.begun.now.items ≡ begun_bytes line → IsEdited line c.args.piece.now c.args.lines.now c.loop-byte.lines
edited c line h =
    let i = c.loop-byte.byte-index in
    let before = c.loop-byte.invariant.0 line h in
    edited-at line c.args.piece.now i (search rules) before.0
    (c.in_ok-check_byte.ensures.sound (begun_after line (take i c.args.piece.now)) before.1) c.if-not-branch.true c.loop-byte.invariant.1

pub returns-then-not-branch-clause-sound : goal.returns-then-not-branch-clause-sound
returns-then-not-branch-clause-sound c line h = unsound-at (edited c line h)

pub returns-then-not-branch-clause-lines : goal.returns-then-not-branch-clause-lines
returns-then-not-branch-clause-lines c line h = edited c line h

pub returns-clause-begun : goal.returns-clause-begun
returns-clause-begun c e line h =
    let all = take_all c.loop-byte.byte-index c.args.piece.now (omega arith) in
    (rw all at c.loop-byte.invariant.0 line h).1

pub returns-clause-lines : goal.returns-clause-lines
returns-clause-lines c =
    let all = take_all c.loop-byte.byte-index c.args.piece.now (omega arith) in
    rw all at c.loop-byte.invariant.1

counted : (c : Joined-byte-eq10) → CountsLines c.args.lines.now c.if-byte-eq10.lines (take (c.loop-byte.byte-index + 1) c.args.piece.now)
counted c =
    let i = c.loop-byte.byte-index in
    elim c.if-byte-eq10.branch [
      | then-byte-eq10 w ↦ counts-end c.args.lines.now c.loop-byte.lines c.args.piece.now i (search rules) w.if-byte-eq10.true c.loop-byte.invariant.1
          (w.lines-is ∙ w.saturating_add.ensures)
      | else-byte-eq10 w ↦ subst (λ n. CountsLines c.args.lines.now n (take (i + 1) c.args.piece.now)) (sym w.lines-is)
          (counts-on c.args.lines.now c.loop-byte.lines c.args.piece.now i (search rules) (ne_eqb _ _ w.if-byte-eq10.false) c.loop-byte.invariant.1)
    ]

pub loop-byte-preserved : goal.loop-byte-preserved
loop-byte-preserved c = (
  λ line h.
      let i = c.loop-byte.byte-index in
      let piece = c.args.piece.now in
      let before = c.loop-byte.invariant.0 line h in
      let begun = begun_after line (take i piece) in (
        sound_take_more line piece i (search rules) ∙ ap (λ t. t && are_sound begun (get_or piece i 0 ∷ [])) before.0
            ∙ sym (c.in_ok-check_byte.ensures.sound begun before.1) ∙ c.if-not-branch.false,
        c.in_ok-check_byte.ensures.begun begun before.1 ∙ ap begun_bytes (sym (begun_take_more line piece i (search rules))),
      ),
  counted c,
)
