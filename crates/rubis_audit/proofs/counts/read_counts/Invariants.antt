use Rattle.rubis_audit.proofs.Common.{◌≡◌, ◌≤◌, ◌+◌, ◌-◌, length, deps_of}
use Rattle.rubis_message.proofs.Fields.{then_left}
use Rattle.rubis_audit.proofs.counts.read_counts.Given as goal

abbrev pub invariant-loop-site : goal.invariant-loop-site
invariant-loop-site l =
    (length l.deps + 1 ≡ l._site) × (l._site ≤ l.sites) ×
    (then_left l.deps (deps_of (l.sites - l._site + 1) l.rest) ≡ deps_of l.sites l.text)
