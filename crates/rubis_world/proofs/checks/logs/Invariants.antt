use Rattle.rubis_world.proofs.Common.{◌≡◌, map, range_with_len, log_of}
use Rattle.rubis_world.specs.Worlds.{ComesToWorld}
use Rattle.rubis_world.proofs.checks.logs.Given as goal

abbrev pub invariant-places : goal.invariant-places
invariant-places g l = ComesToWorld l.fn.sites l.sites l.fn.sites.world × (l.logs.items ≡ map (log_of l.fn.sites.world) (range_with_len 0 l.site))
