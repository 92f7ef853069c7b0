use Rattle.std.proofs.Common.{rules}
use Rattle.rubis_keep.proofs.AskFacts.{row-three}
use Rattle.rubis_keep.proofs.questions.read_row.Goals as goal

pub returns-else-ne : goal.returns-else-ne
returns-else-ne c =
    let f = c.in-3-Some-Some-Some in
    row-three c.args.sites c.args.fields.now f.word.now f.table.now (search rules) (search rules) (search rules) (search rules)
    (search rules) c.read_key.ensures
