-- What an audit knows of the messages that it has walked over, and how far it has come.
use Rattle.std.specs.Prelude.{◌==◌, Bool, false, ◌&&◌, ◌||◌, not, ℕ, List, bytes_eq, nat_le, nat_lt, Option, is_some, option_map, ◌+◌, find, slice_index, ◌≡◌}
use Rattle.std.specs.Prelude.{cond, nat_eq, Some, None, option_copied, ◌<◌, [], ◌∷◌, ◌++◌, reverse, slice_get, take, drop}
use Rattle.std.specs.List.{list_any, flat_map}
use Rattle.std.specs.Option.{option_eq, option_map_or, option_or}
use Rattle.rubis_schema.specs.Keys.{same_id}
use Rattle.rubis_schema.specs.declared.ids.Id.{Id}
use Rattle.rubis_schema.specs.declared.rows.Best.{Best}
use Rattle.rubis_schema.specs.declared.rows.ItemRow.{ItemRow}
use Rattle.rubis_schema.specs.declared.rows.UserRow.{UserRow}
use Rattle.rubis_schema.specs.declared.row_keys.RowKey.{RowKey}
use Rattle.rubis_schema.specs.declared.row_keys.RowKey.TheVariants as key
use Rattle.rubis_shadow.specs.Shadows.{refers_of, is_red}
use Rattle.rubis_shadow.specs.declared.shadows.Shadow.{Shadow}
use Rattle.rubis_shadow.specs.declared.shadows.Shadow.TheVariants.{User, Item, Bid, Buy, Close, Comment, Restock, Rename}
use Rattle.rubis_message.specs.Message.{Message, dep, IsMessage, sites_of}
use Rattle.rubis_generate.specs.Decision.{Rows, is_ended, item_in, user_in, row_by_key}
use Rattle.rubis_message.specs.Equal.{same_message}
use Rattle.rubis_model.specs.Verdict.{at_some_site, comes_before, last_red, Log, log_fault}
use Rattle.std.specs.Borrow.{Bor}
use Rattle.std.specs.HashMap as hash
use Rattle.rubis_model.specs.Site.{Has}
use Rattle.rubis_audit.specs.declared.seen.Seen.{Seen}
use Rattle.std.specs.FinMap as map
use Rattle.rubis_schema.specs.Tables.{Tables}
use Rattle.rubis_clock.specs.Clocks.{MessageCounts, advanced}
use Rattle.rubis_message.specs.declared.answers.Kind.{Kind}
use Rattle.rubis_message.specs.declared.answers.Kind.TheVariants as kind
use Rattle.rubis_model.specs.Checks.{Checked, Holds}
use Rattle.rubis_model.specs.Log.{Core, cores, core}
use Rattle.rubis_model.specs.Meaning.{meaning_row}
use Rattle.rubis_model.specs.System.{Released}
use Rattle.rubis_shard.specs.Holdings.{HoldsLog, TakesOn}
use Rattle.rubis_shard.specs.States.{ShardState}
use Rattle.rubis_release.specs.Release.{clock_of, AllAmong}
use Rattle.rubis_audit.specs.declared.walks.Past.{Past}
use Rattle.rubis_model.specs.Audit.{AreFaultless, Logged}
use Rattle.rubis_model.specs.Lack.{firsts, merged}

-- v counts the message with that id
abbrev pub counts_id : Message → Id → Bool
counts_id v i = nat_le i.seq (dep v i.site)

-- the row at that key is there, and v counts what made it
abbrev pub known_in : Rows → Message → RowKey → Bool
known_in t v (key.User i) = is_some (t (key.User i)) && counts_id v i
known_in t v (key.Item i) = is_some (t (key.Item i)) && counts_id v i
known_in t v (key.Bid i) = is_some (t (key.Bid i)) && counts_id v i
known_in t v k = false

-- the close names another category than its item's row has
abbrev pub wrong_category_in : Rows → Shadow → Bool
wrong_category_in t (User n) = false
wrong_category_in t (Item n) = false
wrong_category_in t (Bid b) = false
wrong_category_in t (Buy p) = false
wrong_category_in t (Close c) = option_map_or (λ (i : ItemRow). not (i.cat == c.cat)) (item_in t c.item) false
wrong_category_in t (Comment c) = false
wrong_category_in t (Restock r) = false
wrong_category_in t (Rename r) = false

-- Refers: a row that the message names is missing or wasn't made by a message that precedes it, or the category is wrong
abbrev pub wrong_reference_in : Rows → Message → Bool
wrong_reference_in t v = list_any (λ k. not (known_in t v k)) (refers_of v.shadow) || wrong_category_in t v.shadow

-- the user's row has the nickname
abbrev pub shows_nick : Rows → Id → List ℕ → Bool
shows_nick t user n = option_map_or (λ (u : UserRow). bytes_eq n u.nick) (user_in t user) false

-- Nick: the nickname has a row already, or a rename's old nickname isn't in its user's row
abbrev pub nick_taken_in : Rows → Shadow → Bool
nick_taken_in t (User n) = is_some (t (key.Nick n))
nick_taken_in t (Item n) = false
nick_taken_in t (Bid b) = false
nick_taken_in t (Buy p) = false
nick_taken_in t (Close c) = false
nick_taken_in t (Comment c) = false
nick_taken_in t (Restock r) = false
nick_taken_in t (Rename r) = is_some (t (key.Nick r.to)) || not (shows_nick t r.user r.from)

-- Stock: more is bought than the item's row has in stock
abbrev pub stock_short_in : Rows → Shadow → Bool
stock_short_in t (User n) = false
stock_short_in t (Item n) = false
stock_short_in t (Bid b) = false
stock_short_in t (Buy p) = option_map_or (λ (i : ItemRow). nat_lt i.stock p.quantity) (item_in t p.item) false
stock_short_in t (Close c) = false
stock_short_in t (Comment c) = false
stock_short_in t (Restock r) = false
stock_short_in t (Rename r) = false

-- the item's row says that it is closed
abbrev pub closed_in : Rows → Id → Bool
closed_in t item = option_map_or (λ (i : ItemRow). is_ended i.sale) (item_in t item) false

-- the item's row has another best bid than this winner
abbrev pub outbid_in : Rows → Id → Option Id → Bool
outbid_in t item winner = option_map_or (λ (i : ItemRow). not (option_eq same_id winner (option_map (λ (b : Best). b.bid) i.best))) (item_in t item) false

-- Winner: the item is closed already, or a close names another winner than the best bid
abbrev pub wrong_winner_in : Rows → Shadow → Bool
wrong_winner_in t (User n) = false
wrong_winner_in t (Item n) = false
wrong_winner_in t (Bid b) = closed_in t b.item
wrong_winner_in t (Buy p) = closed_in t p.item
wrong_winner_in t (Close c) = closed_in t c.item || outbid_in t c.item c.winner
wrong_winner_in t (Comment c) = false
wrong_winner_in t (Restock r) = false
wrong_winner_in t (Rename r) = false

-- ---- the checks of an entry by look-ups. `all` has the messages of the earlier logs and those of this log before it

-- the first message with that id
abbrev pub by_message_id : Id → List Message → Option Message
by_message_id i all = find (λ m. same_id i m.stamp.id) all

-- the first with that red number
abbrev pub by_red : ℕ → List Message → Option Message
by_red r all = find (λ m. r == m.stamp.red) all

-- who has v's id isn't v
abbrev pub clash_by_id : List Message → Message → Bool
clash_by_id all v = option_map_or (λ u. not (same_message u v)) (by_message_id v.stamp.id all) false

-- the id of what v counts last of site j
abbrev pub last_of : Message → ℕ → Id
last_of v j = record { site = j; seq = dep v j }

-- u counts more of some site than v does
abbrev pub exceeds : Message → Message → Bool
exceeds v u = at_some_site v (λ j. nat_lt (dep v j) (dep u j))

-- what v counts last of some site counts more than v does
abbrev pub forgets_by_id : List Message → Message → Bool
forgets_by_id all v = at_some_site v (λ j. option_map_or (exceeds v) (by_message_id (last_of v j) all) false)

-- who has v's red number isn't v
abbrev pub taken_by_red : List Message → Message → Bool
taken_by_red all v = option_map_or (λ u. not (same_id u.stamp.id v.stamp.id)) (by_red v.stamp.red all) false

-- ---- `counts` has how many messages of each site stand before v in its log, `reds` how many red ones, `last` the last of
-- these

-- the message isn't the next of its origin, by how many messages of each site came before
abbrev pub not_next_by : List ℕ → Message → Bool
not_next_by counts v = not (v.stamp.id.seq == slice_index counts v.stamp.id.site + 1)

-- the message counts a message of another site that hasn't come before
abbrev pub early_by : List ℕ → Message → Bool
early_by counts v = at_some_site v (λ j. not (j == v.stamp.id.site) && nat_lt (slice_index counts j) (dep v j))

-- the message doesn't count exactly what came before
abbrev pub differs_by : List ℕ → Message → Bool
differs_by counts v = at_some_site v (λ j. not (dep v j == slice_index counts j))

-- Order, by look-ups and counts: the message isn't next, is early, miscounts the log of its own site, or forgets what it should count
abbrev pub order_by : ℕ → List ℕ → List Message → Message → Bool
order_by site counts all v =
    not_next_by counts v || (early_by counts v || (((v.stamp.id.site == site) && differs_by counts v) || forgets_by_id all v))

-- RedGap, by look-ups: a red message without the next red number, with one that is taken, or that the last red message doesn't precede
abbrev pub gap_by : ℕ → Option Message → List Message → Message → Bool
gap_by reds last all v =
    is_red v.shadow && (not (v.stamp.red == reds + 1) || (taken_by_red all v || option_map_or (λ u. not (comes_before u v)) last false))

-- ---- what look-ups find

-- the first of the messages seen with this id
abbrev pub id_in : Seen → Id → Option Message
id_in s i = option_copied (hash.get same_id s.by_id i)

-- the first of the messages seen with this red number
abbrev pub red_in : Seen → ℕ → Option Message
red_in s r = option_copied (hash.get nat_eq s.by_red r)

-- all these messages are formed, and the look-ups find the first of them with the id, and with the red number
pub record Sees (s : Seen) (all : List Message) : Type 0 where
  pub formed : (m : Message) → Has m all → IsMessage m
  pub ids : (i : Id) → id_in s i ≡ by_message_id i all
  pub reds : (r : ℕ) → red_in s r ≡ by_red r all

-- m was put in, unless its key had one
abbrev pub FirstById : (Id → Option (Bor Message)) → Message → (Id → Option (Bor Message)) → Type 0
FirstById old m new = (i : Id) → option_copied (new i) ≡ option_or (option_copied (old i)) (cond (same_id i m.stamp.id) (Some m) None)

-- look-ups by red number find what they found before, and else the new message if it has that number
abbrev pub FirstByRed : (ℕ → Option (Bor Message)) → Message → (ℕ → Option (Bor Message)) → Type 0
FirstByRed old m new = (r : ℕ) → option_copied (new r) ≡ option_or (option_copied (old r)) (cond (r == m.stamp.red) (Some m) None)

-- ---- what is so of the messages that were walked over, while no fault was found

-- the tables are the meaning of these messages, which keep the invariants
pub record Shows (t : Tables) (before : List Core) : Type 0 where
  pub rows : (q : RowKey) → map.get t q ≡ meaning_row before q
  pub holds : Holds before

-- the checks of v in a log of that site, by look-ups: among all messages, in the clock of those before it in its log, and
-- in their tables
abbrev pub checks_by : ℕ → MessageCounts → Option Message → Tables → List Message → Message → List (Kind × Bool)
checks_by site clock last t all v =
    (kind.Clash, clash_by_id all v)
    ∷ (kind.Order, order_by site clock.counts all v)
    ∷ (kind.RedGap, gap_by clock.red last all v)
    ∷ (kind.Refers, wrong_reference_in (row_by_key t) v)
    ∷ (kind.Nick, nick_taken_in (row_by_key t) v.shadow)
    ∷ (kind.Stock, stock_short_in (row_by_key t) v.shadow)
    ∷ (kind.Winner, wrong_winner_in (row_by_key t) v.shadow)
    ∷ []

-- ---- `others` has the messages of the earlier logs, `own` those of this log so far

-- no fault was found among them: each has an id and a red number of its own, and this log passes the checks
pub record IsFaultless (others own : List Message) : Type 0 where
  pub formed : (m : Message) → Has m (others ++ own) → IsMessage m
  pub one_id : (m : Message) → Has m (others ++ own) → by_message_id m.stamp.id (others ++ own) ≡ Some m
  pub one_red : (m : Message) → Has m (others ++ own) → 0 < m.stamp.red → by_red m.stamp.red (others ++ own) ≡ Some m
  pub released : Released (reverse own)
  pub checked : Checked (cores own)

-- they are found by look-ups; the clock counts those of this log, the last red one of them is that, and the shards hold
-- them
pub record Remembers (sites : ℕ) (seen : Seen) (clock : MessageCounts) (last : Option Message)
    (shards : List ShardState) (others own : List Message) : Type 0 where
  pub known : IsFaultless others own
  pub sees : Sees seen (others ++ own)
  pub clock_is : clock ≡ clock_of sites own
  pub last_is : last ≡ last_red own
  pub holds : HoldsLog 1 (cores own) shards

-- ---- how far a walk over logs has come

-- the messages of these logs, log by log
abbrev pub messages_of_logs : List Log → List Message
messages_of_logs logs = flat_map (λ log. log.messages) logs

-- each message of the logs counts `sites` sites
abbrev pub HaveMessagesAmong : ℕ → List Log → Type 0
HaveMessagesAmong sites logs = (log : Log) → Has log logs → (m : Message) → Has m log.messages → sites_of m ≡ sites

-- no fault was found in these logs, and their messages are found by look-ups
pub record Walked (seen : Seen) (logs : List Log) : Type 0 where
  pub known : IsFaultless (messages_of_logs logs) []
  pub sees : Sees seen (messages_of_logs logs)

-- what stands before an entry of a log takes message m on, as that entry
pub record TakesEntry (m : Message) (entry : ℕ) (old new : Past) : Type 0 where
  pub clock : new.clock ≡ advanced old.clock m.stamp
  pub last : option_copied new.last_red ≡ cond (is_red m.shadow) (Some m) (option_copied old.last_red)
  pub tables : TakesOn (core m) entry old.tables new.tables

-- `found` is the first fault of the log at index `at`; if there is none, the logs up to and including it are walked
abbrev pub IsWalked : Seen → List Log → ℕ → Option (Kind × ℕ) → Type 0
IsWalked seen logs at found = (log : Log) → slice_get logs at ≡ Some log
    → (found ≡ log_fault (messages_of_logs (take at logs)) log) × (found ≡ None → Walked seen (take (at + 1) logs))

-- ---- how far logs are merged

-- logs of `sites` sites that pass the checks together
pub record HavePassed (sites : ℕ) (logs : List Log) : Type 0 where
  pub among : HaveMessagesAmong sites logs
  pub faultless : AreFaultless logs

-- of logs that are merged up to the one at index `at`: these messages so far, each of one of the sites, which the clock counts
pub record IsMerged (sites : ℕ) (logs : List Log) (at : ℕ) (messages : List Message) (clock : MessageCounts) : Type 0 where
  pub rest : messages ++ firsts messages (messages_of_logs (drop at logs)) ≡ merged logs
  pub released : Released (reverse messages)
  pub members : (m : Message) → Has m messages → Logged logs m
  pub among : AllAmong sites messages
  pub counts : clock ≡ clock_of sites messages
