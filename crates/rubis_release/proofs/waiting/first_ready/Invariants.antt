use Rattle.std.proofs.Common.{◌<◌}
use Rattle.rubis_release.specs.Waiting.{IsFirstOf}
use Rattle.rubis_release.proofs.waiting.first_ready.Given as goal

abbrev pub invariant-loop-site : goal.invariant-loop-site
invariant-loop-site l = IsFirstOf l.clock l.slots.entries (λ j. j < l.site) l.first
