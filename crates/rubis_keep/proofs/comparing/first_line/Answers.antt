use Rattle.rubis_keep.proofs.Common.{◌∙◌, ◌==◌, ap, rules, take, before_first}
use Rattle.std.proofs.lemmas.List.{take_min}
use Rattle.rubis_keep.proofs.DifferenceFacts.{first-line-all, first-line-at}
use Rattle.rubis_keep.proofs.comparing.first_line.Goals as goal

pub returns-in-Some : goal.returns-in-Some
returns-in-Some c =
    first-line-at (take c.min.result c.args.text.now) c.in-Some.at (search rules) (search rules) (search rules)
    ∙ ap (before_first (λ b. b == 10)) (ap (λ n. take n c.args.text.now) c.min.ensures ∙ take_min 200 c.args.text.now)

pub returns-in-None : goal.returns-in-None
returns-in-None c =
    first-line-all (take c.min.result c.args.text.now) (search rules)
    ∙ ap (before_first (λ b. b == 10)) (ap (λ n. take n c.args.text.now) c.min.ensures ∙ take_min 200 c.args.text.now)
