use Rattle.rubis_reading.proofs.Common.{◌≡◌, ◌++◌, ◌∷◌, ◌∙◌, [], ap, append-nil, append_assoc, arith, length, length-append, subst, sym, on_ok_weaker}
use Rattle.rubis_reading.proofs.Common.{Msg, Came}
use Rattle.rubis_reading.specs.Readings.{FitWindow, HaveWindow, all_came, flat}
use Rattle.rubis_reading.specs.declared.stretches.Stretch.TheVariants.{One}
use Rattle.rubis_reading.proofs.PieceFacts.{came-more, window-more}
use Rattle.rubis_reading.proofs.stretches.keep.Goals.{then-len-window+in_ok-keep_messages-in-Came-Msg, else-len-window}
use Rattle.rubis_reading.proofs.stretches.keep.Goals as goal

pub returns-else-is_err-clause-records : goal.returns-else-is_err-clause-records
returns-else-is_err-clause-records c =
    let list = c.args.list.now in
    let left = c.if-len-window.list in
    let messages = c.if-len-window.messages in
    let one = Came (Msg c.in-Came-Msg.message) ∷ [] in
    let whole : c.args.input ≡ Came (Msg c.in-Came-Msg.message) = c.in-Came-Msg.is ∙ ap Came c.in-Came-Msg.field-0-is in
    let items : c.push.new.self.items ≡ messages.items ++ c.in-Came-Msg.message ∷ [] = rw c.if-is_err.ensures.negation at c.push.ensures.items in
    let held : flat left.items ++ all_came messages.items ≡ flat list.items ++ all_came c.args.messages.now.items =
    elim c.if-len-window.branch [
      | then-len-window+in_ok-keep_messages-in-Came-Msg w ↦
          let kept = flat w.keep_messages.new.list.items in
          ap (λ l. flat l.items ++ all_came messages.items) w.list-is ∙ ap (λ m. kept ++ all_came m.items) (w.messages-is ∙ w.replace-full.ensures.after)
          ∙ ap (λ ms. kept ++ all_came ms) w.new.ensures.items ∙ append-nil kept ∙ w.in_ok-keep_messages-in-Came-Msg.ensures.records
          ∙ ap (λ m. flat list.items ++ all_came m.items) w.replace-full.ensures.value
      | else-len-window w ↦ ap (λ l. flat l.items ++ all_came messages.items) w.list-is ∙ ap (λ m. flat list.items ++ all_came m.items) w.messages-is
    ] in
    ap (λ t. flat left.items ++ t) (ap all_came items ∙ came-more messages.items c.in-Came-Msg.message)
    ∙ sym (append_assoc (flat left.items) (all_came messages.items) one) ∙ ap (λ t. t ++ one) held
    ∙ ap (λ p. (flat list.items ++ all_came c.args.messages.now.items) ++ p ∷ []) (sym whole)

pub returns-else-is_err-clause-window : goal.returns-else-is_err-clause-window
returns-else-is_err-clause-window c =
    let window = c.args.window in
    let list = c.args.list.now.items in
    let messages = c.if-len-window.messages in
    let items : c.push.new.self.items ≡ messages.items ++ c.in-Came-Msg.message ∷ [] = rw c.if-is_err.ensures.negation at c.push.ensures.items in
    let long = ap length items ∙ length-append messages.items (c.in-Came-Msg.message ∷ []) in
    elim c.if-len-window.branch [
      | then-len-window+in_ok-keep_messages-in-Came-Msg w ↦ (
        subst (λ l. FitWindow window l.items) (sym w.list-is)
            (w.in_ok-keep_messages-in-Came-Msg.ensures.window window
            (subst (λ m. HaveWindow window list m.items) (sym w.replace-full.ensures.value) c.requires.window)),
        λ some.
            let none = ap (λ v. length v.items) (w.messages-is ∙ w.replace-full.ensures.after) in
            let empty = ap length w.new.ensures.items in
            omega (arith, some, long, none, empty),
      )
      | else-len-window w ↦ (
        subst (λ l. FitWindow window l.items) (sym w.list-is) c.requires.window.0,
        λ some.
            let same = ap (λ v. length v.items) w.messages-is in
            omega (arith, long, same, w.if-len-window.false, c.len.ensures, c.args.messages.now.ok),
      )
    ]

pub returns-in_ok-keep_messages-in_default-clause-window : goal.returns-in_ok-keep_messages-in_default-clause-window
returns-in_ok-keep_messages-in_default-clause-window c =
    let window = c.args.window in
    let before = subst (λ m. HaveWindow window c.args.list.now.items m.items) (sym c.replace-before.ensures.value) c.requires.window in
    let none = ap (λ v. length v.items) c.replace-before.ensures.after in
    let empty = ap length c.new-in_default.ensures.items in
    on_ok_weaker c.push_stretch.result (λ is. (
      subst (λ l. FitWindow window l) (sym is)
          (window-more window c.keep_messages-in_default.new.list.items (One _) (c.in_ok-keep_messages-in_default.ensures.window window before) tt),
      λ some. omega (arith, none, empty),
    )) c.push_stretch.ensures.last
