use Rattle.rubis_replica.proofs.Common.{◌≡◌, ◌≤◌, ◌+◌, vec_len, All, reverse, vec_capacity, sites_of}
use Rattle.rubis_replica.specs.State.{TakesFirst}
use Rattle.rubis_replica.proofs.arriving.take_from_end.Given as goal

abbrev pub invariant-loop-message : goal.invariant-loop-message
invariant-loop-message l = record {
  place : l.intake.place ≡ l.initial.intake.place;
  sites : All (λ m. sites_of m ≡ l.initial.intake.place.sites) l.rest.items;
  room : vec_len l.answers + vec_len l.rest ≤ vec_capacity l.answers;
  first : TakesFirst l.initial.intake.place l.initial.intake.state l.intake.state (reverse l.initial.rest.items) l.answers.items (reverse l.rest.items);
}

abbrev pub decreases-loop-message : goal.decreases-loop-message
decreases-loop-message l = vec_len l.rest
