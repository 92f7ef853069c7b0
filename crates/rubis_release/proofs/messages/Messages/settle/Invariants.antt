use Rattle.rubis_release.proofs.Common.{◌≡◌, List, length, Message, Settles}
use Rattle.rubis_release.specs.Release.{AreCounted}
use Rattle.rubis_release.proofs.messages.Messages.settle.Given as goal

abbrev pub invariant-loop-message : goal.invariant-loop-message
invariant-loop-message l = record {
  sites : length l.self-inside.clock.counts ≡ l.fn.self.sites;
  counted : AreCounted l.self-inside.log l.self-inside.waiting l.self-inside.clock;
  settles : (log' waiting' : List Message) → Settles l.self-inside.log.items l.self-inside.waiting log' waiting' →
      Settles l.fn.self.log l.fn.self.waiting log' waiting';
}

abbrev pub decreases-loop-message : goal.decreases-loop-message
decreases-loop-message l = length l.self-inside.waiting
