use Rattle.rubis_command.proofs.Words.{text}
use Rattle.rubis_command.proofs.reading.text.Goals as goal

pub returns : goal.returns
returns c = rw c.unwrap_or.ensures (text c.args.matches.now c.args.name.now c.get_str.result _ c.get_str.ensures)
