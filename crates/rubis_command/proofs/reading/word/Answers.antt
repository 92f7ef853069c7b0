use Rattle.rubis_command.proofs.Words.{number}
use Rattle.rubis_command.proofs.reading.word.Goals as goal

pub returns : goal.returns
returns c = rw c.unwrap_or.ensures (number 32 c.args.matches.now c.args.name.now _ c.get_one.ensures.value)
