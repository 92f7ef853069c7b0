-- The rows of a listing at a site whose log is all applied.
use Rattle.rubis_replica.proofs.Common.{◌≡◌, List, ◌∙◌, refl, Result, Ok, Err, length, Listing, Message, table_rows, listing_rows}
use Rattle.std.specs.Prelude.{IfOk}
use Rattle.rubis_schema.specs.declared.listings.Listing.TheVariants.{Users, Items, Bids, Purchases, Comments, Categories, Tables, Log, Misfits}
use Rattle.rubis_model.specs.Log.{Folded}
use Rattle.rubis_replica.specs.Follow.{resting_at}
use Rattle.rubis_replica.specs.State.{IsReadyFor, SiteState, with_all_applied}

-- but for the log and the misfits, a listing shows the rows of the tables
pub tables_shown : (log : List Message) (f : Folded) (l : Listing) → ¬ (l ≡ Log) → ¬ (l ≡ Misfits) → table_rows l f.tables ≡ listing_rows log f l
tables_shown log f Log no_log no_misfits = absurd (no_log refl)
tables_shown log f Misfits no_log no_misfits = absurd (no_misfits refl)
tables_shown log f Users no_log no_misfits = refl
tables_shown log f (Items cat) no_log no_misfits = refl
tables_shown log f (Bids item) no_log no_misfits = refl
tables_shown log f (Purchases item) no_log no_misfits = refl
tables_shown log f (Comments user) no_log no_misfits = refl
tables_shown log f Categories no_log no_misfits = refl
tables_shown log f Tables no_log no_misfits = refl

pub applied_already : (s t : SiteState) → s ≡ t → t.progress ≡ resting_at (length t.state.log) → s ≡ with_all_applied t
applied_already s t e h = e ∙ (λ i. record t { progress = h i })

-- but for the log, a site that is ready has its tables up to date
pub ready_tables : (s : SiteState) (l : Listing) → ¬ (l ≡ Log) → IsReadyFor l s → s.progress ≡ resting_at (length s.state.log)
ready_tables s Log no_log h = absurd (no_log refl)
ready_tables s Users no_log h = h
ready_tables s (Items cat) no_log h = h
ready_tables s (Bids item) no_log h = h
ready_tables s (Purchases item) no_log h = h
ready_tables s (Comments user) no_log h = h
ready_tables s Categories no_log h = h
ready_tables s Tables no_log h = h
ready_tables s Misfits no_log h = h

pub if_rows : {T E : Type 0} (r : Result T E) (P Q : T → Type 0) → IfOk r P → ((v : T) → P v → Q v) → IfOk r Q
if_rows (Ok v) P Q h f = f v h
if_rows (Err e) P Q h f = tt
