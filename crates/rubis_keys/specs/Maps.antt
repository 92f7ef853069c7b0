-- What the maps of keys know.
use Rattle.std.specs.Prelude.{◌≡◌, List, ℕ, Option, Some, bytes_eq, cond, unwrap_or}
use Rattle.std.specs.BTreeMap.{BTreeMap, get_by}
use Rattle.std.specs.Ordering.{nat_cmp}
use Rattle.std.specs.Cmp.Lexicographic.{slice_cmp}
use Rattle.std.proofs.Common.{Vec, Global}
use Rattle.rubis_keys.specs.Keys.{Keys}
use Rattle.rubis_keys.specs.declared.keys.KeyMaps.{KeyMaps as Maps}
use Rattle.rubis_keys.specs.declared.keys.Known.{Known}

-- the message at these bytes
abbrev pub at : BTreeMap (Vec ℕ Global) Known → List ℕ → Option Known
at map key = get_by (λ k. slice_cmp nat_cmp key k.items) map

-- the message that is known under a key of a colour, if one is
abbrev pub known_in : Maps → Keys
known_in maps key red = cond red (at maps.red key) (at maps.blue key)

-- a message is at a key from then on, unless one was there
abbrev pub Puts : BTreeMap (Vec ℕ Global) Known → BTreeMap (Vec ℕ Global) Known → List ℕ → Known → Type 0
Puts old new key known = (k : List ℕ) → at new k ≡ cond (bytes_eq key k) (Some (unwrap_or (at old k) known)) (at old k)
