use Rattle.std.proofs.Common.{rules}
use Rattle.std.specs.Prelude.{◌==◌, not}
use Rattle.std.proofs.lemmas.Fn.{filter_same}
use Rattle.rubis_steps.proofs.lists.remove_number.Goals as goal

pub returns : goal.returns
returns c = filter_same _ (λ q. not (q == c.args.number)) _ (λ x b q r. search rules) c.args.numbers.now.items c.retain.new.self.items c.retain.ensures.filtered
