-- Counts within their limits.
use Rattle.std.specs.Prelude.{ℕ, ◌≤◌}

-- n is from 1 to most
pub record IsCount (n most : ℕ) : Type 0 where
  pub positive : 1 ≤ n
  pub small : n ≤ most

-- a follower's workers are from 1 to most; it has from 1 to 255 shards, and room for a stop of each
pub record HasWorkersAndRoom (workers most shards room : ℕ) : Type 0 where
  pub count : IsCount workers most
  pub few : shards ≤ 255
  pub spare : shards ≤ room
