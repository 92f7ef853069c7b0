use Rattle.std.proofs.Common.{◌≡◌}
use Rattle.rubis_world.proofs.Moves.{fresh_sites}
use Rattle.rubis_world.proofs.sites.Sites.new.Given as goal

abbrev pub invariant-sites : goal.invariant-sites
invariant-sites l = l.sites.items ≡ fresh_sites l.config l.site
