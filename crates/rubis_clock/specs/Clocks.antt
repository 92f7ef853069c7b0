-- Clocks, the order of stamps, and a stamp that counts more sites.
use Rattle.std.specs.Prelude.{◌≡◌, ◌≢◌, ℕ, ◌+◌, ◌<◌, ◌≤◌, cond, nat_lt, List, replicate, slice_index, slice_set, ◌-◌, ◌++◌, length, nat_le, ◌&&◌, Bool, Result}
use Rattle.std.specs.Prelude.{Ok, Err}
use Rattle.rubis_clock.specs.declared.stamps.Stamp.{Stamp}
use Rattle.rubis_schema.specs.declared.limits.TheConstants.{COUNTED_MAX}

-- how many messages of each site, and how many red ones
pub record MessageCounts : Type 0 where
  pub counts : List ℕ
  pub red : ℕ

-- nothing counted yet, at `sites` sites
abbrev pub opening_clock : ℕ → MessageCounts
opening_clock sites = record { counts = replicate sites 0; red = 0 }

-- the message is the next one of its origin, all that its origin had released of other sites is there, and a red one
-- has the next red number
pub record IsReady (c : MessageCounts) (s : Stamp) : Type 0 where
  pub next : s.id.seq ≡ slice_index c.counts s.id.site + 1
  pub released : (j : ℕ) → j ≢ s.id.site → slice_index s.deps j ≤ slice_index c.counts j
  pub number : 0 < s.red → s.red ≡ c.red + 1

-- with one message more
abbrev pub advanced : MessageCounts → Stamp → MessageCounts
advanced c s = record {
  counts = slice_set c.counts s.id.site (slice_index c.counts s.id.site + 1);
  red = c.red + cond (nat_lt 0 s.red) 1 0;
}

-- v's origin had released u when it made v
abbrev pub StampPrecedes : Stamp → Stamp → Type 0
StampPrecedes u v = u.id.seq ≤ slice_index v.deps u.id.site

-- ---- a stamp that counts more sites

-- with counts of 0 for the further sites, `sites` in all
abbrev pub widened_counts : ℕ → Stamp → Stamp
widened_counts sites s = record { id = s.id; red = s.red; deps = s.deps ++ replicate (sites - length s.deps) 0 }

-- it counts no more than `sites`, and that many can be counted
abbrev pub widens : ℕ → Stamp → Bool
widens sites s = nat_le (length s.deps) sites && nat_le sites COUNTED_MAX

-- the stamp that counts `sites`, or else itself
abbrev pub widening_stamp : ℕ → Stamp → Result Stamp Stamp
widening_stamp sites s = cond (widens sites s) (Ok (widened_counts sites s)) (Err s)
