use Rattle.std.proofs.Common.{false, take}
use Rattle.rubis_keep.proofs.HistoryFacts.{once-shown, once-told, once-torn}
use Rattle.rubis_keep.proofs.answers.tell_once.Goals.{then-is_live+in_default, else-is_live}
use Rattle.rubis_keep.proofs.answers.tell_once.Goals as goal

pub returns-in-Err-show-clause-told : goal.returns-in-Err-show-clause-told
returns-in-Err-show-clause-told g c =
    let shown = c.in-Err-show.ensures in
    rw c.if-is_live.true (c.in-Ok.taken, c.in-Ok.ensures.bound, _, once-torn _ _ _ (take c.in-Ok.taken c.args.text.now) shown.0 c.in-Ok.ensures.told shown.1)

pub returns-clause-told : goal.returns-clause-told
returns-clause-told g c = elim c.if-is_live.branch [
  | then-is_live+in_default w ↦ rw (w.files-is, w.if-is_live.true)
      (once-shown _ _ _ (take c.in-Ok.taken c.args.text.now) c.in-Ok.ensures.told w.in_default.ensures)
  | else-is_live w ↦ rw (w.files-is, w.if-is_live.false) (once-told false _ _ (take c.in-Ok.taken c.args.text.now) c.in-Ok.ensures.told)
]
