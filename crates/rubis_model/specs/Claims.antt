-- What is claimed of messages and of logs that have some of them: of those of a run, and of those that an auditor is given.
use Rattle.std.specs.Prelude.{◌≡◌, ◌+◌, true, [], Option, Some}
use Rattle.rubis_schema.specs.declared.ids.Id.{Id}
use Rattle.rubis_schema.specs.declared.row_keys.RowKey.TheVariants as key
use Rattle.rubis_schema.specs.declared.rows.ItemRow.{ItemRow}
use Rattle.rubis_schema.specs.declared.rows.Row.TheVariants as row
use Rattle.rubis_schema.specs.declared.rows.Sale.TheVariants.{Ended}
use Rattle.rubis_schema.specs.declared.offers.NewItem.{NewItem}
use Rattle.rubis_message.specs.Message.{Message}
use Rattle.rubis_model.specs.Meaning.{IsHighestBid, IsMeaning, closes, item_at, supply, winner_of}
use Rattle.rubis_model.specs.Checks.{Checked, Holds}
use Rattle.rubis_model.specs.Log.{cores, fold_of}
use Rattle.rubis_model.specs.Verdict.{Log}
use Rattle.rubis_model.specs.System.{IsRedBlueOrder, Serializes}
use Rattle.rubis_model.specs.References.{RefersToPast}
use Rattle.rubis_model.specs.Site.{rows_at}

-- the logs causally serialize one RedBlue order of all these messages
pub record SerializeOneOrder (all : Message → Type 0) (IsLog : Log → Type 0) : Type 0 where
  -- two messages of one id are one
  pub ids : (u v : Message) → all u → all v → u.stamp.id.site ≡ v.stamp.id.site → u.stamp.id.seq ≡ v.stamp.id.seq → u ≡ v
  pub order : IsRedBlueOrder all
  pub logs : (log : Log) → IsLog log → Serializes log.site all log.messages

-- in each log, and over all these messages, the invariants hold
pub record KeepInvariants (all : Message → Type 0) (IsLog : Log → Type 0) : Type 0 where
  -- each log by itself passes the checks, and folds without misfit to the meaning of its set
  pub checked : (log : Log) → IsLog log → Checked (cores log.messages)
  pub meaning : (log : Log) → IsLog log → IsMeaning (cores log.messages) (fold_of (cores log.messages)).tables
  pub clean : (log : Log) → IsLog log → (fold_of (cores log.messages)).misfits ≡ []
  -- each refers to messages of the right kind that precede it
  pub refers : (v : Message) → all v → RefersToPast all v v.shadow
  -- in each log no more of an item is sold than there was, a nickname has one user, and a winner is the highest bid; and what
  -- wasn't sold is what the tables show
  pub holds : (log : Log) → IsLog log → Holds (cores log.messages)
  pub stock : (log : Log) → IsLog log → (item : Id) (n : NewItem) (r : ItemRow) → item_at item (cores log.messages) ≡ Some n
      → rows_at log.messages (key.Item item) ≡ Some (row.Item r) → r.stock + r.sold ≡ supply (cores log.messages) item n
  -- over all: an item is closed once
  pub closed_once : (item : Id) (u v : Message) → all u → all v → closes item u.shadow ≡ true → closes item v.shadow ≡ true → u ≡ v
  -- the winner is the highest of all bids; as the close says it, and as the tables of each log show it
  pub winner : (item : Id) (c : Message) → all c → closes item c.shadow ≡ true → IsHighestBid all item (winner_of c.shadow)
  pub ended : (log : Log) → IsLog log → (item : Id) (r : ItemRow) (winner : Option Id) → rows_at log.messages (key.Item item) ≡ Some (row.Item r)
      → r.sale ≡ Ended winner → IsHighestBid all item winner
