-- What is known of a shadow that was decided.
use Rattle.rubis_replica.proofs.Common.{◌≡◌, ap, ◌∙◌, rules, ℕ, ◌<◌, sym, subst, List, take, Option, Some, None, Result, Ok, Err, length, Tables}
use Rattle.rubis_replica.proofs.Common.{AllInLimits, InLimits, Ask, Shadow, row_by_key, decision, cores, fold_of, Message, Place, Replica, asked}
use Rattle.rubis_replica.proofs.Common.{generating, rows_at, standing_of, union, AreOfTheLog, IsIntake, Refusal}
use Rattle.std.proofs.Common.{lit<}
use Rattle.std.specs.Prelude.{IfSome, IsErr, option_map, option_and_then}
use Rattle.std.specs.Result.{IsErrAnd}
use Rattle.std.specs.Option.{option_map_or}
use Rattle.rubis_schema.specs.Ids.{IsId}
use Rattle.rubis_schema.specs.declared.rows.Best.{Best}
use Rattle.rubis_schema.specs.declared.rows.ItemRow.{ItemRow}
use Rattle.rubis_schema.specs.declared.rows.Row.{Row}
use Rattle.rubis_shadow.specs.Tables.{RowInLimits}
use Rattle.rubis_shadow.specs.Shadows.{IsAsk}
use Rattle.rubis_generate.specs.Decision.{as_item_row, item_in}
use Rattle.rubis_generate.proofs.Granted.{granted, shadow_limits}
use Rattle.rubis_generate.specs.declared.standing.Standing.{Standing}
use Rattle.rubis_shadow.specs.declared.numbered.Misfit.{Misfit}
use Rattle.std.specs.FinMap as map
use Rattle.rubis_schema.specs.declared.row_keys.RowKey.TheVariants as key
use Rattle.rubis_schema.specs.declared.rows.Row.TheVariants as row
use Rattle.rubis_replica.specs.Follow.{Follower, FollowsLog, left_of, resting_at}
use Rattle.rubis_replica.specs.State.{AnswersAsTheStep, SiteState, with_all_applied}
use Rattle.rubis_replica.specs.declared.faults.Fault.{Fault}
use Rattle.rubis_replica.specs.declared.faults.Fault.TheVariants.{Refused, Behind, Memory}
use Rattle.rubis_replica.proofs.Standing.{all_at, tables_of_log, log_in_limits}

abbrev ItemFits : ℕ → Option ItemRow → Type 0
ItemFits sites o = IfSome o (λ i. (i.cat < 1000) × IfSome i.best (λ b. IsId sites b.bid))

row_fits : (sites : ℕ) (o : Option Row) → IfSome o (RowInLimits sites) → ItemFits sites (option_and_then as_item_row o)
row_fits sites None h = tt
row_fits sites (Some (row.Item i)) h = h
row_fits sites (Some (row.User u)) h = tt
row_fits sites (Some (row.Bid u)) h = tt
row_fits sites (Some (row.Purchase u)) h = tt
row_fits sites (Some (row.Comment u)) h = tt
row_fits sites (Some (row.Nick u)) h = tt
row_fits sites (Some (row.Cat u)) h = tt

cat_fits : (sites : ℕ) (o : Option ItemRow) → ItemFits sites o → option_map_or (λ (i : ItemRow). i.cat) o 0 < 1000
cat_fits sites None h = lit< tt
cat_fits sites (Some i) h = h.0

best_fits : (sites : ℕ) (o : Option Best) → IfSome o (λ b. IsId sites b.bid) → IfSome (option_map (λ (b : Best). b.bid) o) (IsId sites)
best_fits sites None h = tt
best_fits sites (Some b) h = h

winner_fits : (sites : ℕ) (o : Option ItemRow) → ItemFits sites o →
    IfSome (option_and_then (λ (i : ItemRow). option_map (λ (b : Best). b.bid) i.best) o) (IsId sites)
winner_fits sites None h = tt
winner_fits sites (Some i) h = best_fits sites i.best h.1

-- the shadow of an ask within the limits is within them
pub decided_fits : (sites : ℕ) (t : Tables) (s : Standing) (ask : Ask) (x : Shadow) → AllInLimits sites t → IsAsk sites ask → decision (row_by_key t) s ask
    ≡ Ok x → InLimits sites x
decided_fits sites t s ask x h g e =
    subst (InLimits sites) (granted (row_by_key t) s ask x e).1 (shadow_limits sites (row_by_key t) s ask (granted (row_by_key t) s ask x e).0 g (λ c same asks.
    let item = row_fits sites (map.get t (key.Item c.item)) (h (key.Item c.item)) in
    (asks.0, cat_fits sites (item_in (row_by_key t) c.item) item, winner_fits sites (item_in (row_by_key t) c.item) item)))

-- ---- a site's decision

-- what the site decides of an ask, against the tables of its whole log
abbrev pub decision_at : SiteState → Ask → Result Shadow Refusal
decision_at s ask = decision (rows_at s.state.log) (standing_of s.place.keep s.state) ask

-- a site whose log is all applied
module _ (old : SiteState) (place : Place) (state : Replica) (batch : ℕ) (f : Follower)
    (same : record { place = place; state = state; progress = f.progress; batch = batch } ≡ with_all_applied old)
    (follows : FollowsLog state.log f) where
  same_place : place ≡ old.place
  same_place = ap (λ (s : SiteState). s.place) same

  same_state : state ≡ old.state
  same_state = ap (λ (s : SiteState). s.state) same

  all_applied : f.progress ≡ resting_at (length state.log)
  all_applied = ap (λ (s : SiteState). s.progress) same ∙ ap (λ (r : Replica). resting_at (length r.log)) (sym same_state)

  -- its tables are those of the log
  pub log_tables : union f.tables ≡ (fold_of (cores old.state.log)).tables
  log_tables = tables_of_log state.log f follows all_applied ∙ ap (λ (r : Replica). (fold_of (cores r.log)).tables) same_state

  -- and its misfits too
  pub log_misfits : (ms : List Misfit) → AreOfTheLog f.tables ms → ms ≡ (fold_of (cores old.state.log)).misfits
  log_misfits ms h =
      let whole_log : take f.progress.applied state.log ≡ old.state.log = all_at state.log f all_applied ∙ ap (λ (r : Replica). r.log) same_state in
      h (length f.tables) (cores (take f.progress.applied state.log)) follows.some (follows.rests (ap left_of all_applied))
      ∙ ap (λ l. (fold_of (cores l)).misfits) whole_log

  -- so it decides by the model
  pub same_decision : (st : Standing) (ask : Ask) → st ≡ standing_of place.keep state → decision_at old ask ≡ decision (row_by_key (union f.tables)) st ask
  same_decision st ask e =
      let standing : standing_of old.place.keep old.state ≡ st = (λ i. standing_of (sym same_place i).keep (sym same_state i)) ∙ sym e in
      λ i. decision (row_by_key (sym log_tables i)) (standing i) ask

  -- and what it decides is within the limits
  pub decided_limits : (st : Standing) (ask : Ask) (x : Shadow) → IsIntake (record { place = place; state = state }) → IsAsk old.place.sites ask
      → decision (row_by_key (union f.tables)) st ask ≡ Ok x → InLimits old.place.sites x
  decided_limits st ask x intake asks e =
      let within = subst (λ (p : Place). AllInLimits p.sites (fold_of (cores state.log)).tables) same_place
      (log_in_limits (record { place = place; state = state }) intake) in
      let tables = tables_of_log state.log f follows all_applied in
      decided_fits old.place.sites (union f.tables) st ask x (subst (AllInLimits old.place.sites) (sym tables) within) asks e

-- an ask that isn't decided is refused, or nothing is said of it
pub undecided : (old new : SiteState) (ask : Ask) (r : Result Message Fault) (refusal : Refusal) → IsErr r × IsErrAnd r (λ e. e ≡ Refused refusal)
    → new.state ≡ old.state → decision_at old ask ≡ Err refusal → AnswersAsTheStep old new (asked old.place old.state ask) r
undecided old new ask (Ok m) refusal h same d = absurd (search rules)
undecided old new ask (Err (Refused r)) refusal h same d =
    let is : r ≡ refusal = cc h.1 in (same, ap (λ o. (generating old.place old.state o).1) (d ∙ ap Err (sym is)))
undecided old new ask (Err Behind) refusal h same d = same
undecided old new ask (Err Memory) refusal h same d = same
