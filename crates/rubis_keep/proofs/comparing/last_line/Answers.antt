use Rattle.rubis_keep.proofs.Common.{◌∙◌, ◌+◌, rules, take_rest}
use Rattle.rubis_keep.proofs.DifferenceFacts.{last-line-all, last-line-at}
use Rattle.rubis_keep.proofs.comparing.last_line.Goals as goal

pub returns-in-Some : goal.returns-in-Some
returns-in-Some c =
    take_rest c.args.text.now (c.in-Some.at + 1) ∙ last-line-at c.args.text.now c.in-Some.at (search rules) (search rules) (search rules)

pub returns-in-None : goal.returns-in-None
returns-in-None c = last-line-all c.args.text.now (search rules)
