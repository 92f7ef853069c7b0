-- What the logs of several sites are checked for together, and what they then are.
use Rattle.std.specs.Prelude.{◌≡◌, ℕ, ◌+◌, ◌<◌, ◌≤◌, List, [], ◌∷◌, reverse, IfSome, ⊤}
use Rattle.rubis_schema.specs.Tables.{Tables}
use Rattle.rubis_schema.specs.declared.listings.Listing.TheVariants as listing
use Rattle.rubis_message.specs.Message.{Message, IsMessage, dep, sites_of}
use Rattle.rubis_model.specs.Log.{cores}
use Rattle.rubis_model.specs.Verdict.{Log, shown_rows}
use Rattle.rubis_model.specs.Listings.{table_rows}
use Rattle.rubis_model.specs.Meaning.{IsMeaning}
use Rattle.rubis_model.specs.Checks.{Fits}
use Rattle.rubis_model.specs.Claims.{SerializeOneOrder, KeepInvariants}
use Rattle.rubis_model.specs.Site.{Has, Ready, counted}
use Rattle.rubis_model.specs.System.{Precedes}
use Rattle.rubis_model.specs.References.{RefersToPast}

-- one of the logs
abbrev pub OneOf : List Log → Type 0
OneOf logs = (log : Log) × Has log logs

-- the message stands in one of the logs
abbrev pub Logged : List Log → Message → Type 0
Logged logs v = (log : OneOf logs) × Has v log.0.messages

-- each message meets the conditions of its type and counts `sites` sites
abbrev pub AreAmong : ℕ → List Log → Type 0
AreAmong sites logs = (v : Message) → Logged logs v → IsMessage v × (sites_of v ≡ sites)

-- v is in order in a log of site i, after these, newest first: it was ready there, it counts exactly these if it is of that
-- site, and all that is counted by what it counts last of any site; and the red one before it precedes it
pub record IsOrdered (i : ℕ) (past : List Message) (v : Message) : Type 0 where
  pub ready : Ready past v
  pub made : v.stamp.id.site ≡ i → (j : ℕ) → dep v j ≡ counted j past
  pub carries : (u : Message) → Has u past → u.stamp.id.seq ≡ dep v u.stamp.id.site → (j : ℕ) → dep u j ≤ dep v j
  pub red_before : (u : Message) → Has u past → 0 < u.stamp.red → v.stamp.red ≡ u.stamp.red + 1 → Precedes u v

-- each message of a log, the newest first, is in order after those before it
abbrev pub AllOrdered : ℕ → List Message → Type 0
AllOrdered i [] = ⊤
AllOrdered i (v ∷ past) = IsOrdered i past v × AllOrdered i past

-- each fits after those before it, and refers to messages among them that precede it; newest first
abbrev pub AllFitting : List Message → Type 0
AllFitting [] = ⊤
AllFitting (v ∷ past) = (Fits (cores (reverse past)) v.shadow × RefersToPast (λ u. Has u past) v v.shadow) × AllFitting past

-- the logs pass all checks together
pub record AreFaultless (logs : List Log) : Type 0 where
  -- two messages of one id are one
  pub clash : (u v : Message) → Logged logs u → Logged logs v → u.stamp.id.site ≡ v.stamp.id.site → u.stamp.id.seq ≡ v.stamp.id.seq → u ≡ v
  -- each is in order in its log
  pub ordered : (log : Log) → Has log logs → AllOrdered log.site (reverse log.messages)
  -- two messages of one red number are one
  pub red_once : (u v : Message) → Logged logs u → Logged logs v → 0 < u.stamp.red → u.stamp.red ≡ v.stamp.red → u ≡ v
  -- each fits after those before it in its log
  pub fitting : (log : Log) → Has log logs → AllFitting (reverse log.messages)
  -- rows that are claimed are those of the log
  pub rows : (log : Log) → Has log logs → IfSome log.rows (λ rows. rows ≡ shown_rows log.messages)

-- the logs are sound: they causally serialize one RedBlue order, each folds without misfit to the meaning of its set, the
-- invariants hold over all of them together, and rows that are claimed are those of the tables that the set means
pub record AreSound (logs : List Log) : Type 0 where
  pub serial : SerializeOneOrder (Logged logs) (λ log. Has log logs)
  pub invariants : KeepInvariants (Logged logs) (λ log. Has log logs)
  pub rows : (log : Log) → Has log logs → IfSome log.rows (λ rows. (t : Tables) → IsMeaning (cores log.messages) t → rows ≡ table_rows listing.Tables t)
