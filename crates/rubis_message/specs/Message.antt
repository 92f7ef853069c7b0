-- Messages, as contracts see them, by what is kept of them, and widened; and the kinds of fault that an auditor finds.
use Rattle.std.specs.Prelude.{◌≡◌, ℕ, ◌+◌, ◌≤◌, nat_lt, length, slice_index, All, List, cond, Result, Ok, Err, codes}
use Rattle.rubis_schema.specs.Ids.{IsId}
use Rattle.rubis_schema.specs.declared.limits.TheConstants.{COUNT_MAX, COUNTED_MAX}
use Rattle.rubis_shadow.specs.Shadows.{is_red, InLimits}
use Rattle.rubis_shadow.specs.declared.shadows.Shadow.{Shadow}
use Rattle.rubis_clock.specs.declared.stamps.Stamp.{Stamp}
use Rattle.rubis_clock.specs.Clocks as stamps
use Rattle.rubis_message.specs.declared.answers.Kind.{Kind}
use Rattle.rubis_message.specs.declared.answers.Kind.TheVariants.{Clash, Order, RedGap, Refers, Nick, Stock, Winner, Rows}

-- a shadow with its stamp
pub record Message : Type 0 where
  pub stamp : Stamp
  pub shadow : Shadow

-- how many messages of site j the origin had released when it made the message
abbrev pub dep : Message → ℕ → ℕ
dep m j = slice_index m.stamp.deps j

-- how many sites the message counts
abbrev pub sites_of : Message → ℕ
sites_of m = length m.stamp.deps

-- the conditions that every message meets
pub record IsMessage (m : Message) : Type 0 where
  pub sites : sites_of m ≤ COUNTED_MAX
  pub id : IsId (sites_of m) m.stamp.id
  pub own : m.stamp.id.seq ≡ dep m m.stamp.id.site + 1
  pub counts : All (λ n. n ≤ COUNT_MAX) m.stamp.deps
  pub red : m.stamp.red ≤ COUNT_MAX
  pub colour : is_red m.shadow ≡ nat_lt 0 m.stamp.red
  pub shadow : InLimits (sites_of m) m.shadow

-- ---- a stamp and a message by what is kept of them

-- its number is one more than the count of its site
abbrev pub stamp_of : ℕ → List ℕ → ℕ → Stamp
stamp_of red deps site = record { id = record { site = site; seq = slice_index deps site + 1 }; red = red; deps = deps }

-- the message of which these are kept: its number is one more than the count of its site
abbrev pub message_of : ℕ → List ℕ → ℕ → Shadow → Message
message_of red deps site shadow = record { stamp = stamp_of red deps site; shadow = shadow }

-- ---- a message that counts more sites

-- with counts of 0 for the further sites, `sites` in all
abbrev pub widened : ℕ → Message → Message
widened sites m = record { stamp = stamps.widened_counts sites m.stamp; shadow = m.shadow }

-- the message that counts `sites`, or else itself
abbrev pub widening : ℕ → Message → Result Message Message
widening sites m = cond (stamps.widens sites m.stamp) (Ok (widened sites m)) (Err m)

-- ---- the kinds of fault that an auditor finds: the name that a verdict shows

-- the name of a kind of fault in a verdict's record
abbrev pub fault_kind_name : Kind → List ℕ
fault_kind_name Clash = codes "Clash"
fault_kind_name Order = codes "Order"
fault_kind_name RedGap = codes "RedGap"
fault_kind_name Refers = codes "Refers"
fault_kind_name Nick = codes "Nick"
fault_kind_name Stock = codes "Stock"
fault_kind_name Winner = codes "Winner"
fault_kind_name Rows = codes "Rows"
