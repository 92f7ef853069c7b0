use Rattle.rubis_command.proofs.Words.{given_number}
use Rattle.rubis_command.proofs.reading.given_word.Goals as goal

pub returns : goal.returns
returns c = given_number 32 c.args.matches.now c.args.name.now _ c.get_one.ensures.none c.get_one.ensures.value
