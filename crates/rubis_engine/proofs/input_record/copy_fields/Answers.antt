use Rattle.std.proofs.Common.{◌∙◌, ◌++◌, ◌∷◌, [], ap, sym}
use Rattle.csv.specs.Records.{fields_of}
use Rattle.rubis_engine.proofs.RunFacts.{field_at-slice_get, take-next, take-none}
use Rattle.rubis_engine.proofs.input_record.copy_fields.Goals.{in-Some+in_ok-push_read, in_default}
use Rattle.rubis_engine.proofs.input_record.copy_fields.Goals as goal

pub loop-place-preserved : goal.loop-place-preserved
loop-place-preserved c =
    let all = fields_of c.args.read.now in
    let at = field_at-slice_get all c.loop-place.place in
    elim c.match-get.branch [
      | in-Some+in_ok-push_read w ↦
          let next = take-next all c.loop-place.place _ (sym (rw w.in-Some.is at c.get.ensures.value ∙ at)) in
          w.fields-is ∙ w.in_ok-push_read.ensures.ok ∙ ap (λ fields. fields ++ w.in-Some.field.now ∷ []) c.loop-place.invariant ∙ sym next
      | in_default w ↦
          let none = take-none all c.loop-place.place (sym (rw w.in_default.is at c.get.ensures.value ∙ at)) in
          w.fields-is ∙ c.loop-place.invariant ∙ sym none
    ]
