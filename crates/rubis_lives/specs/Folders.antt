-- Folders of sites down to their bytes, and what is promised of their auctions.
use Rattle.std.specs.Prelude.{◌≡◌, ◌+◌, ◌≤◌, ◌<◌, ℕ, List, Option, IfSome, Some, length, map, true}
use Rattle.rubis_schema.specs.declared.ids.Id.{Id}
use Rattle.rubis_schema.specs.declared.limits.TheConstants.{COUNTED_MAX, KEEP_MAX}
use Rattle.rubis_schema.specs.declared.row_keys.RowKey.TheVariants as key
use Rattle.rubis_schema.specs.declared.rows.ItemRow.{ItemRow}
use Rattle.rubis_schema.specs.declared.rows.Row.TheVariants as row
use Rattle.rubis_schema.specs.declared.rows.Sale.TheVariants.{Ended}
use Rattle.rubis_schema.specs.declared.offers.NewItem.{NewItem}
use Rattle.rubis_message.specs.Inputs.{input_of}
use Rattle.rubis_message.specs.Message.{Message}
use Rattle.rubis_message.specs.declared.tokens.Packet.TheVariants as packet
use Rattle.rubis_message.specs.declared.tokens.Token.{Token}
use Rattle.rubis_model.specs.Meaning.{IsHighestBid, closes, item_at, nick_at, sold_of, supply, total, winner_of}
use Rattle.rubis_model.specs.Checks.{SameSet, Unique}
use Rattle.rubis_model.specs.Laws.{Sent, tables_at, AreFirstReds}
use Rattle.rubis_model.specs.Log.{cores}
use Rattle.rubis_model.specs.Processes.{AreProcesses, CarriedWithRestarts, recorded}
use Rattle.rubis_model.specs.Rebuild.{Concerns, InPlaceOf, inputs_to_rebuild, sent_by, sent_on_inputs}
use Rattle.rubis_model.specs.Site.{Has, opening_at, rows_at}
use Rattle.rubis_model.specs.System.{AreEvents, Event, World, run, site, start}
use Rattle.rubis_lives.specs.Histories.{FolderStep, answered_by, keeps, moments_in, most_kept, site_keeping, is_placed_at, kept_takes, AreShopLives, SiteLife}
use Rattle.rubis_keep.specs.History.{FolderEvent as FileEvent, FileState, records_in, IsFrontOf}
use Rattle.rubis_keys.specs.Laws.{after_records}
use Rattle.rubis_lives.specs.Shops.{bare_in, process_text}

-- ---- what is promised

-- what is promised of the auctions of a run
pub record KeepsItsPromises (w : World) : Type 0 where
  -- sites that have the same messages have equal tables
  pub tables : (i j : ℕ) → SameSet (site w i).log (site w j).log → tables_at w i ≡ tables_at w j
  -- no nickname has two users: at each point of the one order of red messages, and at each site
  pub nicknames : (ms : List Message) → AreFirstReds w ms → Unique (λ u. nick_at u (cores ms))
  pub nicknames_at : (i : ℕ) → Unique (λ u. nick_at u (cores (site w i).log))
  -- no more of an item is sold than there was, and its stock is what is left of that
  pub sold : (i : ℕ) (item : Id) → IfSome (item_at item (cores (site w i).log))
      (λ n. total (sold_of item) (cores (site w i).log) ≤ supply (cores (site w i).log) item n)
  pub stock : (i : ℕ) (item : Id) (n : NewItem) (r : ItemRow) → item_at item (cores (site w i).log) ≡ Some n
      → rows_at (site w i).log (key.Item item) ≡ Some (row.Item r) → r.stock + r.sold ≡ supply (cores (site w i).log) item n
  -- the winner of a closed auction is the highest of all bids that were accepted, as its close says it and as each site shows it
  pub winner : (item : Id) (c : Message) → Sent w c → closes item c.shadow ≡ true → IsHighestBid (Sent w) item (winner_of c.shadow)
  pub winner_at : (i : ℕ) (item : Id) (r : ItemRow) (winner : Option Id) → rows_at (site w i).log (key.Item item) ≡ Some (row.Item r)
      → r.sale ≡ Ended winner → IsHighestBid (Sent w) item winner

-- ---- a folder that is rebuilt

-- messages and tokens of a run, among them all that site i made or counted, and its tokens
pub record AreOfSite (i : ℕ) (w : World) (all : List Message) (tokens : List Token) : Type 0 where
  pub sent : (m : Message) → Has m all → Sent w m
  pub whole : (m : Message) → Sent w m → Concerns i w m → Has m all
  pub tokens_sent : (t : Token) → Has t tokens → Has (packet.Token t) w.sent
  pub tokens_whole : (t : Token) → Has (packet.Token t) w.sent → t.to ≡ i → Has t tokens

-- a new folder has kept records that are read, without their keys, as what a site is given to be rebuilt. What they lead to sends again what
-- site i had sent, in its order; and with it in the place of site i the sites are a run that has sent the same, and keeps the promises
pub record IsRebuiltFolder (sites i : ℕ) (events : List Event) (all : List Message) (tokens : List Token) (kept : List ℕ) : Type 0 where
  pub again : sent_on_inputs (site_keeping sites i KEEP_MAX) (opening_at i) (map (input_of sites) (bare_in (site_keeping sites i KEEP_MAX) kept))
      ≡ sent_by i KEEP_MAX events (start sites)
  pub later : List Event
  pub are_events : AreEvents sites later
  pub in_place : InPlaceOf i (run KEEP_MAX events (start sites)) (run KEEP_MAX later (start sites))
  pub here : site (run KEEP_MAX later (start sites)) i ≡ (after_records (site_keeping sites i KEEP_MAX) (records_in kept)).site
  pub promises : KeepsItsPromises (run KEEP_MAX later (start sites))

-- ---- folders with their lives

-- the folders are those of a run of the model, which keeps its promises
pub record AreFoldersOfARun (sites : ℕ) (keep : ℕ → ℕ) (first : ℕ → FileState) (steps : List FolderStep) : Type 0 where
  pub events : List Event
  pub are_events : AreEvents sites events
  -- its sites have the states of the processes, and its packets are what they sent
  pub processes : AreProcesses sites most_kept (recorded (moments_in steps)) (run KEEP_MAX events (start sites))
  -- what a folder has kept leads to the state of its site, once all of it is answered; and `out` is the beginning of the answers to it
  pub kept : (i : ℕ) → i < sites → answered_by sites i (keep i) steps ≡ length (kept_takes sites i (keep i) (first i) steps)
      → (after_records (site_keeping sites i (keeps i (keep i) steps)) (records_in (is_placed_at i (first i) steps).flushed)).site
      ≡ site (run KEEP_MAX events (start sites)) i
  pub told : (i : ℕ) → IsFrontOf (is_placed_at i (first i) steps).out
      (process_text (site_keeping sites i (keeps i (keep i) steps)) (records_in (is_placed_at i (first i) steps).flushed))
  pub promises : KeepsItsPromises (run KEEP_MAX events (start sites))
  -- a folder that is lost is rebuilt from what its site sent
  pub rebuilt : (i : ℕ) (all : List Message) (tokens : List Token) (bytes : List ℕ) → i < sites → AreOfSite i (run KEEP_MAX events (start sites)) all tokens
      → map (input_of sites) (bare_in (site_keeping sites i KEEP_MAX) bytes)
      ≡ inputs_to_rebuild (site_keeping sites i KEEP_MAX) tokens all (opening_at i) (sent_by i KEEP_MAX events (start sites))
      → IsRebuiltFolder sites i events all tokens bytes

-- Folders whose sites have such lives are a run that keeps the promises, if packets are carried unchanged: each packet that a process reads was
-- sent before by one of them
abbrev pub FoldersAreARun : Type 0
FoldersAreARun = (sites : ℕ) (keep : ℕ → ℕ) (first : ℕ → FileState) (lives : ℕ → List SiteLife) (running : ℕ → List FileEvent) (steps : List FolderStep)
    → 1 ≤ sites → sites ≤ COUNTED_MAX → ((i : ℕ) → keep i ≤ KEEP_MAX)
    → AreShopLives sites keep first lives running steps
    → CarriedWithRestarts sites most_kept (moments_in steps)
    → AreFoldersOfARun sites keep first steps
