use Rattle.std.specs.Prelude.{◌≡◌, ℕ, ◌<◌}
use Rattle.rubis_world.specs.Worlds.{left_behind}
use Rattle.rubis_world.proofs.checks.some_behind.Given as goal

abbrev pub invariant-places : goal.invariant-places
invariant-places l = (i : ℕ) → i < l.site → left_behind l.sites i ≡ 0
