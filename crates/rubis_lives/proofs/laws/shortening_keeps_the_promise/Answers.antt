use Rattle.rubis_lives.proofs.RewritingFacts.{named-before-emptied, named-before-flushed, rewriting-leaves, shortening-keeps}
use Rattle.rubis_lives.proofs.laws.shortening_keeps_the_promise.Goals as goal

pub returns : goal.returns
returns c = record { answers = shortening-keeps; files = rewriting-leaves; emptied = named-before-emptied; flushed = named-before-flushed }
