-- Runs whose asks may come under keys. Packets are carried unchanged: where a message is, there is the key under which it was asked.
use Rattle.std.specs.Prelude.{◌≡◌, ◌⊎◌, ◌<◌, ◌≤◌, ◌++◌, ◌∷◌, [], ⊤, ℕ, Bool, Err, List, Ok, Result, length, true}
use Rattle.rubis_schema.specs.declared.limits.TheConstants.{KEEP_MAX}
use Rattle.rubis_schema.specs.declared.refusals.Refusal.{Refusal}
use Rattle.rubis_schema.specs.declared.refusals.Refusal.TheVariants.{Full, NoToken, RedBehind}
use Rattle.rubis_shadow.specs.Shadows.{is_red}
use Rattle.rubis_shadow.specs.declared.shadows.Ask.{Ask}
use Rattle.rubis_message.specs.Message.{Message}
use Rattle.rubis_message.specs.declared.requests.Request.TheVariants as request
use Rattle.rubis_model.specs.Site.{Has, asked}
use Rattle.rubis_model.specs.System.{Event, IsEvent, World, happens, place, site, start}
use Rattle.rubis_model.specs.System.Event.{At}
use Rattle.rubis_keys.specs.Keys.{is_red_ask}

-- a run's world, and which messages were asked under which keys
pub record KeyedWorld : Type 0 where
  pub world : World
  pub under : List (List ℕ × Message)

-- nothing was asked
abbrev pub keyed_start : ℕ → KeyedWorld
keyed_start n = record { world = start n; under = [] }

-- the site knows a message of that colour under the key: it was asked under it, and is released or waits there
pub record KnowsUnder (s : KeyedWorld) (i : ℕ) (key : List ℕ) (red : Bool) (m : Message) : Type 0 where
  pub asked : Has (key, m) s.under
  pub colour : is_red m.shadow ≡ red
  pub there : Has m (site s.world i).log ⊎ Has m (site s.world i).waiting

-- what the site would answer to an ask
abbrev pub decided : ℕ → World → ℕ → Ask → Result Message Refusal
decided keep w i a = (asked (place keep w i) (site w i) a).1

-- a message that is made was asked under that key; a refusal uses no key up
abbrev pub made_under : List ℕ → Result Message Refusal → List (List ℕ × Message)
made_under key (Ok m) = (key, m) ∷ []
made_under key (Err r) = []

-- an event, or an ask under a key that is decided
pub data KeyedEvent : Type 0 where
  Bare : (event : Event) → KeyedEvent
  Under : (site : ℕ) (key : List ℕ) (ask : Ask) → KeyedEvent

-- it happens as it would without the key
abbrev pub without_key : KeyedEvent → Event
without_key (Bare e) = e
without_key (Under i key a) = At i (request.Ask a)

-- an ask under a key is decided only where nothing of its colour is known under that key: what is known answers it otherwise
abbrev pub IsNewUnder : KeyedWorld → KeyedEvent → Type 0
IsNewUnder s (Bare e) = ⊤
IsNewUnder s (Under i key a) = (i < length s.world.sites) × ((m : Message) → KnowsUnder s i key (is_red_ask a) m → ⊥)

-- what an event leads to
abbrev pub after_keyed : ℕ → KeyedWorld → KeyedEvent → KeyedWorld
after_keyed keep s (Bare e) = record s { world = (happens keep s.world e).0 }
after_keyed keep s (Under i key a) =
    record { world = (happens keep s.world (At i (request.Ask a))).0; under = s.under ++ made_under key (decided keep s.world i a) }

-- each event is one of these sites, and may happen where it does
abbrev pub AreKeyedEvents : ℕ → KeyedWorld → List KeyedEvent → Type 0
AreKeyedEvents keep s [] = ⊤
AreKeyedEvents keep s (e ∷ es) = IsEvent (length s.world.sites) (without_key e) × IsNewUnder s e × AreKeyedEvents keep (after_keyed keep s e) es

-- one event after the other
abbrev pub keyed_run : ℕ → List KeyedEvent → KeyedWorld → KeyedWorld
keyed_run keep [] s = s
keyed_run keep (e ∷ es) s = keyed_run keep es (after_keyed keep s e)

-- the site is full, or isn't the one that has the token and all red messages
abbrev pub MayComeLater : Refusal → Type 0
MayComeLater r = (r ≡ Full) ⊎ (r ≡ NoToken) ⊎ (r ≡ RedBehind)

-- what holds of red messages and keys
pub record UsesRedKeysOnce (keep : ℕ) (s : KeyedWorld) : Type 0 where
  -- two red messages that were asked under one key are the same
  pub once : (key : List ℕ) (u v : Message) → Has (key, u) s.under → Has (key, v) s.under → is_red u.shadow ≡ true → is_red v.shadow ≡ true → u ≡ v
  -- each site knows it under that key, or refuses each red ask
  pub later : (i : ℕ) (key : List ℕ) (u : Message) (a : Ask) → Has (key, u) s.under → is_red u.shadow ≡ true → is_red_ask a ≡ true
      → KnowsUnder s i key true u ⊎ ((r : Refusal) × (decided keep s.world i a ≡ Err r) × MayComeLater r)

-- so it is in every run
abbrev pub RedKeysAreUsedOnce : Type 0
RedKeysAreUsedOnce = (n keep : ℕ) (events : List KeyedEvent) → 1 ≤ n → keep ≤ KEEP_MAX → AreKeyedEvents keep (keyed_start n) events
    → UsesRedKeysOnce keep (keyed_run keep events (keyed_start n))
