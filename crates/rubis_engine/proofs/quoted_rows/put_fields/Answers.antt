use Rattle.std.proofs.Common.{◌∙◌, ◌++◌, ◌∷◌, [], ap, append_assoc, subst, sym, take}
use Rattle.rubis_engine.specs.Rows.{HasBegunRow}
use Rattle.rubis_engine.proofs.RunFacts.{take-next, take-none}
use Rattle.rubis_engine.proofs.quoted_rows.put_fields.Goals.{in-Some+in_ok-put_field, in_default}
use Rattle.rubis_engine.proofs.quoted_rows.put_fields.Goals as goal

pub loop-place-preserved : goal.loop-place-preserved
loop-place-preserved c start done h =
    let before = c.loop-place.invariant start done h in
    elim c.match-field.branch [
      | in-Some+in_ok-put_field w ↦
          let next = take-next c.args.fields.now c.loop-place.place _ (sym (rw w.in-Some.is at c.field.ensures)) in
          let all = append_assoc done (take c.loop-place.place c.args.fields.now) (w.in-Some.field.now ∷ []) ∙ ap (λ fields. done ++ fields) (sym next) in
          rw w.rows-is (subst (λ fields. HasBegunRow start w.put_field.new.rows fields) all (w.in_ok-put_field.ensures start _ before))
      | in_default w ↦
          let none = take-none c.args.fields.now c.loop-place.place (sym (rw w.in_default.is at c.field.ensures)) in
          rw (w.rows-is, none) before
    ]
