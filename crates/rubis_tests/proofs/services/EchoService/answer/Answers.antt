use Rattle.std.proofs.Common.{◌∙◌, ap, rules, sym}
use Rattle.std.proofs.lemmas.List.{map-append}
use Rattle.std.specs.Prelude.{◌++◌, ◌∷◌, ℕ, List, codes, map}
use Rattle.std.specs.Option.{option_to_list}
use Rattle.rubis_engine.specs.Text.{rows_text}
use Rattle.rubis_engine.specs.declared.service.Course.TheVariants.{GoesOn}
use Rattle.rubis_engine.proofs.RunFacts.{answers-waiting}
use Rattle.rubis_engine.proofs.TextFacts.{text-goes}
use Rattle.rubis_tests.proofs.services.EchoService.answer.Goals as goal

pub returns-clause-answer : goal.returns-clause-answer
returns-clause-answer g c =
    let got : List (List ℕ) → List (List ℕ) = λ fields. codes "got" ∷ fields in
    let sink = c.args.reply.now.sink in
    let fields = c.args.fields.now in
    let said = map got (option_to_list c.args.self.now.last) in (
      answers-waiting GoesOn _ _ _ _ _ _ (λ more. (
        λ ending. ap (λ rows. sink ++ rows_text rows) (map-append got (option_to_list c.args.self.now.last) (fields ∷ more))
            ∙ text-goes sink c.write_last.new.sink said (map got (fields ∷ more)) c.in_ok-write_last.ensures.text
            ∙ ap (λ text. c.write_last.new.sink ++ rows_text (map got (text ∷ more))) (sym c.in_ok-next.ensures),
        search rules,
      )),
      λ more last led. tt,
    )
