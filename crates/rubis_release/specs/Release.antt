-- What a site has taken in: the messages that it keeps, the clock that counts the released ones, and what it answers.
use Rattle.std.specs.Prelude.{◌≡◌, ◌≢◌, ℕ, ◌+◌, ◌<◌, ◌≤◌, ⊤, List, [], ◌∷◌, length, reverse, slice_index_or, vec_len, vec_capacity, false, Option, option_map}
use Rattle.std.specs.Prelude.{Err}
use Rattle.rubis_schema.specs.Ids.{IsId}
use Rattle.rubis_schema.specs.declared.ids.Id.{Id}
use Rattle.rubis_clock.specs.Clocks.{MessageCounts, IsReady}
use Rattle.rubis_message.specs.Message.{IsMessage, Message, sites_of}
use Rattle.rubis_model.specs.Site.{Has, counted, reds, Place, counts, Replica, arrived, not_ours, is_repeat, is_full}
use Rattle.rubis_model.specs.System.{Released}
use Rattle.std.specs.Global.{Vec}
use Rattle.rubis_schema.specs.declared.limits.TheConstants.{COUNTED_MAX, KEEP_MAX}
use Rattle.rubis_release.specs.declared.intake.tokens.Held.{Held}
use Rattle.rubis_release.specs.declared.intake.IntakeFault.{IntakeFault}
use Rattle.rubis_release.specs.declared.intake.IntakeFault.TheVariants.{Refused, Memory}

-- the message's id
abbrev pub message_id : Message → Id
message_id m = m.stamp.id

-- the clock that counts a log
abbrev pub clock_of : ℕ → List Message → MessageCounts
clock_of sites log = record { counts = counts sites log; red = reds log }

-- a message that meets every message's conditions, counts `sites` sites and belongs to one of them
pub record IsAmong (sites : ℕ) (m : Message) : Type 0 where
  pub conditions : IsMessage m
  pub counts : sites_of m ≡ sites
  pub id : IsId sites m.stamp.id

-- each message counts `sites` sites and belongs to one of them
abbrev pub AllAmong : ℕ → List Message → Type 0
AllAmong sites messages = (m : Message) → Has m messages → IsAmong sites m

-- the message at that place is the first that is ready
pub record IsFirst (clock : MessageCounts) (waiting : List Message) (at : ℕ) : Type 0 where
  pub within : at < length waiting
  pub ready : (d : Message) → IsReady clock (slice_index_or waiting at d).stamp
  pub first : (k : ℕ) (d : Message) → k < at → IsReady clock (slice_index_or waiting k d).stamp → ⊥

-- none is
abbrev pub NoneReady : MessageCounts → List Message → Type 0
NoneReady clock waiting = (k : ℕ) (d : Message) → k < length waiting → IsReady clock (slice_index_or waiting k d).stamp → ⊥

-- no two of the messages have one id
abbrev pub HaveOwnIds : List Message → Type 0
HaveOwnIds [] = ⊤
HaveOwnIds (m ∷ rest) = ((u : Message) → Has u rest → message_id u ≢ message_id m) × HaveOwnIds rest

-- what is so of the log and the waiting messages of a site
pub record AreKept (p : Place) (log waiting : List Message) : Type 0 where
  -- they are no more than the site keeps, and each is of one of its sites
  pub few : length log + length waiting ≤ p.keep
  pub log_sites : AllAmong p.sites log
  pub waiting_sites : AllAmong p.sites waiting
  -- each of the log was ready when it was released
  pub released : Released (reverse log)
  -- each that waits is another site's, isn't released, and has an id of its own
  pub others : (m : Message) → Has m waiting → m.stamp.id.site ≢ p.site
  pub unreleased : (m : Message) → Has m waiting → counted m.stamp.id.site log < m.stamp.id.seq
  pub own_ids : HaveOwnIds waiting

-- ---- the messages of a site

-- of how many sites they are; those released, in release order; and those that wait, in arrival order
pub record Messages : Type 0 where
  pub sites : ℕ
  pub log : List Message
  pub waiting : List Message

-- the log has room for all that wait, which are of the clock's sites, and the clock counts the log
pub record AreCounted (log : Vec Message) (waiting : List Message) (clock : MessageCounts) : Type 0 where
  pub room : vec_len log + length waiting ≤ vec_capacity log
  pub sites : AllAmong (length clock.counts) waiting
  pub counts : clock ≡ clock_of (length clock.counts) log.items

-- none that waits is ready
abbrev pub HaveSettled : Messages → Type 0
HaveSettled m = NoneReady (clock_of m.sites m.log) m.waiting

-- ---- what a site has taken in

-- a site and its state
pub record Intake : Type 0 where
  pub place : Place
  pub state : Replica

-- the conditions that every intake meets
pub record IsIntake (i : Intake) : Type 0 where
  pub site : i.place.site < i.place.sites
  pub sites : i.place.sites ≤ COUNTED_MAX
  pub some : 1 ≤ i.place.keep
  pub keep : i.place.keep ≤ KEEP_MAX
  pub kept : AreKept i.place i.state.log i.state.waiting

-- its messages are of as many sites as it has, and none that waits is ready
pub record IsUpToDate (i : Intake) (of : ℕ) : Type 0 where
  pub conditions : IsIntake i
  pub sites : of ≡ i.place.sites
  pub settled : NoneReady (clock_of of i.state.log) i.state.waiting

-- ---- what an intake answers

-- the message is put among the waiting ones
pub record IsAdmitted (p : Place) (s : Replica) (m : Message) : Type 0 where
  pub not_ours : not_ours p s m ≡ false
  pub new : is_repeat s m ≡ false
  pub room : is_full p.keep s ≡ false

-- the message is refused so, or there was no memory to put it among the waiting ones, and it comes back
abbrev pub IsFaultOf : Place → Replica → Message → IntakeFault → Type 0
IsFaultOf p s m (Refused r) = arrived p s m ≡ (s, Err r)
IsFaultOf p s m (Memory back) = IsAdmitted p s m × (back ≡ m)

-- the token, if the site holds it
abbrev pub token_held : Replica → Option Held
token_held s = option_map (λ issued. record { turn = s.last; issued = issued }) s.held
