-- Processes whose packets are carried unchanged are a run.
use Rattle.std.proofs.lemmas.Bool.{lt-ltb}
use Rattle.rubis_laws.proofs.Common.{ℕ, ◌≡◌, ◌+◌, ◌≤◌, ◌<◌, suc, Bool, true, false, cond, List, [], ◌∷◌, ◌++◌, length, get_or, refl, sym, ap, ◌∙◌, subst, arith}
use Rattle.rubis_laws.proofs.Common.{Option, Some, None, inl, inr, ⊎_elim, append_assoc, append-nil, ◌⊎◌, ◌↔◌, ◌==◌, ◌-◌, IsSome, codes, decimal, filter}
use Rattle.rubis_laws.proofs.Common.{is_some, nat_le, slice_get, slice_set, Result, Ok, Err, flat_map, cases_eq, cases_lt, cond_both, nat_tests, true≢false}
use Rattle.rubis_laws.proofs.Common.{same_Some, length-set, get_or-set_same, get_or-set_other, get_or-map-range_with_len, Tables, COUNTED_MAX, Listing, Refusal}
use Rattle.rubis_laws.proofs.Common.{BadEvent, BadRecord, Full, NotOurs, RowKey, Row, Ask, Misfit, Shadow, decision, refused_or, Rows, Standing, packet_record}
use Rattle.rubis_laws.proofs.Common.{Message, packet_of, request_of, Arrival, Taken, Request, Packet, Token, packet_is, request_is, arrived_rows, asked_rows}
use Rattle.rubis_laws.proofs.Common.{listed_rows, passed_rows, refused_row, send_row, took_rows, log_from, table_rows, Folded, AreProcesses, Carried, Reading}
use Rattle.rubis_laws.proofs.Common.{WasSent, answers_of, process, read_by, site_after, state_of, IsWritten, input_by, input_of, Input, answers, input_step}
use Rattle.rubis_laws.proofs.Common.{listing_rows, output_of, told, Asked, Came, Neither, Has, Place, Replica, after_came, arrival_of, arrived, asked}
use Rattle.rubis_laws.proofs.Common.{generating, is_full, is_repeat, not_ours, opening_at, passed, rows_at, standing_of, took, Sound, AreEvents, Event, World}
use Rattle.rubis_laws.proofs.Common.{coming, happens, packet_at, place, requested, run, sending, site, start, At, Deliver, has_append, has_left, has_right}
use Rattle.std.specs.FinMap as map
use Rattle.rubis_schema.specs.Tables.{shows_nothing}
use Rattle.rubis_schema.specs.Refusals.{code_of, refusal_name}
use Rattle.rubis_model.specs.Site.{reply}
use Rattle.rubis_model.specs.Listings.{category_record, is_of, misfit_rows, row_record}
use Rattle.rubis_model.specs.Processes.{IsSent, ProcessesAreARun, AnswersStay}
use Rattle.rubis_laws.proofs.Runs.SoundSteps.{event_keeps, event_sites, same_sites, start_sites, start_sound}
use Rattle.rubis_laws.proofs.Runs.Written.{AllPackets, event_written, written_event}

-- ---- what a process answers to more records

answers_more : (p : Place) (records more : List (List (List ℕ))) (s : Replica) (n : ℕ)
    → answers p s n (records ++ more) ≡ answers p s n records ++ answers p (site_after p s n records) (n + length records) more
unfolding answers
answers_more p [] more s n = ap (λ k. answers p s k more) (omega arith)
answers_more p (fields ∷ rest) more s n =
    let step = input_step p s n (input_of p.sites fields) in
    ap (λ rows. step.1 ++ rows) (answers_more p rest more step.0 (n + 1)) ∙ sym (append_assoc step.1 (answers p step.0 (n + 1) rest) _)
    ∙ ap (λ k. (step.1 ++ answers p step.0 (n + 1) rest) ++ answers p (site_after p step.0 (n + 1) rest) k more) (omega arith)

pub answers_stay : AnswersStay
answers_stay p records more = answers_more p records more (opening_at p.site) 1

pub after_more : (p : Place) (records more : List (List (List ℕ))) (s : Replica) (n : ℕ)
    → site_after p s n (records ++ more) ≡ site_after p (site_after p s n records) (n + length records) more
after_more p [] more s n = ap (λ k. site_after p s k more) (omega arith)
after_more p (fields ∷ rest) more s n =
    let t = (input_step p s n (input_of p.sites fields)).0 in
    after_more p rest more t (n + 1) ∙ ap (λ k. site_after p (site_after p t (n + 1) rest) k more) (omega arith)

answer_one : (p : Place) (s : Replica) (n : ℕ) (fields : List (List ℕ)) → answers p s n (fields ∷ []) ≡ (input_step p s n (input_of p.sites fields)).1
unfolding answers
answer_one p s n fields = append-nil (input_step p s n (input_of p.sites fields)).1

pub output_one : (p : Place) (records : List (List (List ℕ))) (fields : List (List ℕ))
    → output_of p (records ++ fields ∷ []) ≡ output_of p records ++
    (input_step p (site_after p (opening_at p.site) 1 records) (1 + length records) (input_of p.sites fields)).1
output_one p records fields = answers_stay p records (fields ∷ []) ∙ ap (λ rows. output_of p records ++ rows) (answer_one p _ _ _)

-- ---- what each process reads

pub read_more : (i : ℕ) (before more : List Reading) → read_by i (before ++ more) ≡ read_by i before ++ read_by i more
read_more i [] more = refl
read_more i (r ∷ rest) more = at (r.site == i) (read_more i rest more)
  where
    at : (b : Bool) → read_by i (rest ++ more) ≡ read_by i rest ++ read_by i more
        → cond b (r.fields ∷ read_by i (rest ++ more)) (read_by i (rest ++ more)) ≡ cond b (r.fields ∷ read_by i rest) (read_by i rest) ++ read_by i more
    at true e = ap (λ l. r.fields ∷ l) e
    at false e = e

pub is_itself : {i j : ℕ} → i ≡ j → (i == j) ≡ true
is_itself e = grind (arith, nat_tests)

pub is_other : (i j : ℕ) → (j ≡ i → ⊥) → (i == j) ≡ false
is_other i j e = grind (arith, nat_tests)

pub read_here : (before : List Reading) (r : Reading) → read_by r.site (before ++ r ∷ []) ≡ read_by r.site before ++ r.fields ∷ []
read_here before r = read_more r.site before (r ∷ []) ∙ ap (λ b. read_by r.site before ++ cond b (r.fields ∷ []) []) (is_itself refl)

pub read_there : {i : ℕ} (before : List Reading) (r : Reading) → (i ≡ r.site → ⊥) → read_by i (before ++ r ∷ []) ≡ read_by i before
read_there {i} before r n = read_more i _ _ ∙ ap (λ b. read_by i before ++ cond b (r.fields ∷ []) []) (is_other _ i n) ∙ append-nil (read_by i before)

-- ---- the packets that rows send

-- none
abbrev NoneSent : List (List (List ℕ)) → Type 0
NoneSent rows = (fields : List (List ℕ)) → Has (send_row fields) rows → ⊥

-- these
abbrev Packed : List (List ℕ) → List Packet → Type 0
Packed fields packets = (p : Packet) × Has p packets × (fields ≡ packet_record p)

abbrev Sends : List (List (List ℕ)) → List Packet → Type 0
Sends rows packets = (fields : List (List ℕ)) → Has (send_row fields) rows ↔ Packed fields packets

send_none : (rows : List (List (List ℕ))) → NoneSent rows → Sends rows []
send_none rows none fields = (λ h. absurd (none fields h), λ q. absurd q.1)

pub none_replied : (n : ℕ) (rest : List (List ℕ)) → NoneSent (reply n rest ∷ [])
none_replied n rest fields (inl e) = absurd cc
none_replied n rest fields (inr h) = absurd h

none_after : (n : ℕ) (rest : List (List ℕ)) (rows : List (List (List ℕ))) → NoneSent rows → NoneSent (reply n rest ∷ rows)
none_after n rest rows none fields (inl e) = absurd cc
none_after n rest rows none fields (inr h) = none fields h

send_refused : (n : ℕ) (r : Refusal) → Sends (refused_row n r ∷ []) []
send_refused n r = send_none (refused_row n r ∷ []) (none_replied n (codes "refused" ∷ decimal (code_of r) ∷ refusal_name r ∷ []))

send_one : (n : ℕ) (rest : List (List ℕ)) (p : Packet) → Sends (reply n rest ∷ send_row (packet_record p) ∷ []) (p ∷ [])
send_one n rest p fields = (to, back)
  where
    to : Has (send_row fields) (reply n rest ∷ send_row (packet_record p) ∷ []) → (q : Packet) × Has q (p ∷ []) × (fields ≡ packet_record q)
    to (inl e) = absurd cc
    to (inr (inl e)) = (p, inl refl, (let s : fields ≡ packet_record p = cc in s))
    to (inr (inr h)) = absurd h

    back : (q : Packet) × Has q (p ∷ []) × (fields ≡ packet_record q) → Has (send_row fields) (reply n rest ∷ send_row (packet_record p) ∷ [])
    back q = ⊎_elim (λ e. inr (inl (ap send_row (q.2 ∙ ap packet_record e)))) (λ z. absurd z) q.1

asked_sends : (n : ℕ) (r : Result Message Refusal) → Sends (asked_rows n r) (sending Packet.Msg r)
asked_sends n (Ok m) = send_one n _ (Packet.Msg m)
asked_sends n (Err r) = send_refused n r

passed_sends : (n : ℕ) (r : Result Token Refusal) → Sends (passed_rows n r) (sending Packet.Token r)
passed_sends n (Ok t) = send_one n _ (Packet.Token t)
passed_sends n (Err r) = send_refused n r

pub none_arrived : (n : ℕ) (r : Result Arrival Refusal) → NoneSent (arrived_rows n r)
none_arrived n (Ok (Arrival.Released k)) = none_replied n _
none_arrived n (Ok Arrival.Held) = none_replied n _
none_arrived n (Ok Arrival.Repeat) = none_replied n _
none_arrived n (Err r) = none_replied n _

pub none_taken : (n : ℕ) (r : Result Taken Refusal) → NoneSent (took_rows n r)
none_taken n (Ok Taken.Holding) = none_replied n _
none_taken n (Ok Taken.Repeat) = none_replied n _
none_taken n (Err r) = none_replied n _

-- ---- the rows of a listing begin with `row`

abbrev pub BeginWithRow : List (List (List ℕ)) → Type 0
BeginWithRow rows = (fields : List (List ℕ)) → Has fields rows → (rest : List (List ℕ)) × (fields ≡ codes "row" ∷ rest)

row_at_key : (k : RowKey) (r : Row) → BeginWithRow (row_record k r)
row_at_key (RowKey.User id) (Row.User u) fields (inl e) = (_, e)
row_at_key (RowKey.Item id) (Row.Item u) fields (inl e) = (_, e)
row_at_key (RowKey.Bid id) (Row.Bid u) fields (inl e) = (_, e)
row_at_key (RowKey.Purchase id) (Row.Purchase u) fields (inl e) = (_, e)
row_at_key (RowKey.Comment id) (Row.Comment u) fields (inl e) = (_, e)
row_at_key (RowKey.Cat k) (Row.Cat c) fields h = at (shows_nothing c) h
  where
    at : (b : Bool) → Has fields (cond b [] (category_record k c ∷ [])) → (rest : List (List ℕ)) × (fields ≡ codes "row" ∷ rest)
    at true h = absurd h
    at false (inl e) = (_, e)
    at false (inr h) = absurd h
row_at_key (RowKey.User id) (Row.User u) fields (inr h) = absurd h
row_at_key (RowKey.Item id) (Row.Item u) fields (inr h) = absurd h
row_at_key (RowKey.Bid id) (Row.Bid u) fields (inr h) = absurd h
row_at_key (RowKey.Purchase id) (Row.Purchase u) fields (inr h) = absurd h
row_at_key (RowKey.Comment id) (Row.Comment u) fields (inr h) = absurd h
row_at_key k r fields h = absurd h

rows_of_entries : (es : List (RowKey × Row)) → BeginWithRow (flat_map (λ e. row_record e.0 e.1) es)
rows_of_entries [] fields h = absurd h
rows_of_entries (e ∷ es) fields h = ⊎_elim (row_at_key e.0 e.1 fields) (rows_of_entries es fields) (has_append _ _ _ h)

rows_of_tables : (l : Listing) (t : Tables) → BeginWithRow (table_rows l t)
rows_of_tables l t = rows_of_entries (filter (λ e. is_of l e.0 e.1) (map.entries t))

rows_of_log : (log : List Message) (entry : ℕ) → BeginWithRow (log_from entry log)
unfolding log_from
rows_of_log [] entry fields h = absurd h
rows_of_log (m ∷ log) entry fields (inl e) = (_, e)
rows_of_log (m ∷ log) entry fields (inr h) = rows_of_log log (entry + 1) fields h

rows_of_misfits : (ms : List Misfit) → BeginWithRow (misfit_rows ms)
rows_of_misfits [] fields h = absurd h
rows_of_misfits (m ∷ ms) fields (inl e) = (_, e)
rows_of_misfits (m ∷ ms) fields (inr h) = rows_of_misfits ms fields h

pub rows_listed : (log : List Message) (f : Folded) (l : Listing) → BeginWithRow (listing_rows log f l)
rows_listed log f Listing.Log = rows_of_log log 1
rows_listed log f Listing.Misfits = rows_of_misfits f.misfits
rows_listed log f Listing.Users = rows_of_tables Listing.Users f.tables
rows_listed log f (Listing.Items cat) = rows_of_tables (Listing.Items cat) f.tables
rows_listed log f (Listing.Bids item) = rows_of_tables (Listing.Bids item) f.tables
rows_listed log f (Listing.Purchases item) = rows_of_tables (Listing.Purchases item) f.tables
rows_listed log f (Listing.Comments user) = rows_of_tables (Listing.Comments user) f.tables
rows_listed log f Listing.Categories = rows_of_tables Listing.Categories f.tables
rows_listed log f Listing.Tables = rows_of_tables Listing.Tables f.tables

send_listed : (n : ℕ) (rows : List (List (List ℕ))) → BeginWithRow rows → Sends (listed_rows n (Ok rows)) []
send_listed n rows begin =
    send_none (listed_rows n (Ok rows))
    (none_after n (codes "rows" ∷ decimal (length rows) ∷ []) rows (λ fields h. let b = (begin (send_row fields) h).1 in absurd cc))

-- ---- an event, or none, does what the process does

-- site i comes to what this step leads to, and what it answers with is sent
record Steps (w : World) (i : ℕ) (step : Replica × List (List (List ℕ))) (v : World) : Type 0 where
  new : List Packet
  sites : v.sites ≡ slice_set w.sites i step.0
  sent : v.sent ≡ w.sent ++ new
  rows : Sends step.1 new

-- nothing is done, and nothing is sent
steps_not : (w : World) (i : ℕ) (step : Replica × List (List (List ℕ))) → step.0 ≡ site w i → Sends step.1 [] → Steps w i step w
steps_not w i step e sends = record { new = []; sites = sym (same_sites w i) ∙ ap (slice_set w.sites i) (sym e); sent = sym (append-nil w.sent); rows = sends }

first_due : (b : Bool) (o : Option Refusal) (x : Shadow) → b ≡ true → refused_or (cond b (Some Full) o) x ≡ Err Full
first_due true o x e = refl
first_due false o x e = absurd (true≢false (sym e))

-- Full is the first of the refusals of any ask
full_first : (t : Rows) (s : Standing) (a : Ask) → s.full ≡ true → decision t s a ≡ Err Full
full_first t s (Ask.User n) e = first_due s.full _ _ e
full_first t s a e = first_due s.full _ _ e

-- a site that isn't full isn't where it keeps more
not_full_more : (keep : ℕ) (s : Replica) → keep ≤ 1000000 → is_full keep s ≡ false → is_full 1000000 s ≡ false
not_full_more keep s few e = at (length s.log + length s.waiting) e
  where
    at : (n : ℕ) → nat_le keep n ≡ false → nat_le 1000000 n ≡ false
    at n e = grind (arith, nat_tests)

module _ (keep : ℕ) (few : keep ≤ 1000000) (w : World) (i n : ℕ) where
  -- the process of that site, which keeps fewer messages than the world lets it
  abbrev step_of : Input → Replica × List (List (List ℕ))
  step_of x = input_step (place keep w i) (site w i) n x

  requested_steps : (q : Request) → Steps w i (step_of (Asked q)) w ⊎ Steps w i (step_of (Asked q)) (requested 1000000 w i q).0
  requested_steps (Request.Pass to) =
      let a = (passed (place keep w i) (site w i) to).1 in inr (record { new = sending Packet.Token a; sites = refl; sent = refl; rows = passed_sends n a })
  requested_steps (Request.List l) = inl (steps_not w i _ refl (send_listed n _ (rows_listed _ _ l)))
  requested_steps (Request.Ask a) = at (is_full keep (site w i)) refl
    where
      at : (b : Bool) → is_full keep (site w i) ≡ b → Steps w i (step_of (Asked (Request.Ask a))) w
          ⊎ Steps w i (step_of (Asked (Request.Ask a))) (requested 1000000 w i (Request.Ask a)).0
      at true e = inl (subst (λ d. Steps w i (told (asked_rows n) (generating (place keep w i) (site w i) d)) w)
          (sym (full_first (rows_at (site w i).log) (standing_of keep (site w i)) a e))
          (steps_not w i (told (asked_rows n) (generating (place keep w i) (site w i) (Err Full))) refl (send_refused n Full)))
      at false e = inr (subst
          (λ f. Steps w i (told (asked_rows n)
          (generating (place keep w i) (site w i) (decision (rows_at (site w i).log) (record (standing_of keep (site w i)) { full = f }) a)))
          (requested 1000000 w i (Request.Ask a)).0)
          (not_full_more keep (site w i) few e ∙ sym e)
          (let m = (asked (place 1000000 w i) (site w i) a).1 in record { new = sending Packet.Msg m; sites = refl; sent = refl; rows = asked_sends n m }))

  -- a full site takes no message in
  full_stays : (m : Message) → is_full keep (site w i) ≡ true → (arrived (place keep w i) (site w i) m).0 ≡ site w i
  full_stays m e =
      cond_both (not_ours (place keep w i) (site w i) m) (site w i, Err NotOurs) _ (λ (a : Replica × Result Arrival Refusal). a.0 ≡ site w i) (λ _. refl)
      (λ _. cond_both (is_repeat (site w i) m) (site w i, Ok Arrival.Repeat) _ (λ (a : Replica × Result Arrival Refusal). a.0 ≡ site w i) (λ _. refl)
      (λ _. cond_both (is_full keep (site w i)) (site w i, Err Full) _ (λ (a : Replica × Result Arrival Refusal). a.0 ≡ site w i) (λ _. refl)
      (λ n. absurd (true≢false (sym e ∙ n)))))

  coming_steps : (p : Packet) → Steps w i (step_of (Came p)) w ⊎ Steps w i (step_of (Came p)) (coming 1000000 w i (Some p)).0
  coming_steps (Packet.Token t) =
      inr (record {
        new = [];
        sites = refl;
        sent = sym (append-nil w.sent);
        rows = send_none (took_rows n (took (place keep w i) (site w i) t).1) (none_taken n (took (place keep w i) (site w i) t).1);
      })
  coming_steps (Packet.Msg m) = at (is_full keep (site w i)) refl
    where
      at : (b : Bool) → is_full keep (site w i) ≡ b → Steps w i (step_of (Came (Packet.Msg m))) w
          ⊎ Steps w i (step_of (Came (Packet.Msg m))) (coming 1000000 w i (Some (Packet.Msg m))).0
      at true e = inl (steps_not w i (step_of (Came (Packet.Msg m))) (full_stays m e)
          (send_none (arrived_rows n (arrived (place keep w i) (site w i) m).1) (none_arrived n (arrived (place keep w i) (site w i) m).1)))
      at false e = inr (subst (λ (a : Replica × Result Arrival Refusal). Steps w i (told (arrived_rows n) a) (coming 1000000 w i (Some (Packet.Msg m))).0)
          (ap (λ b. cond (not_ours (place keep w i) (site w i) m) (site w i, Err NotOurs) (cond (is_repeat (site w i) m) (site w i, Ok Arrival.Repeat)
          (cond b (site w i, Err Full) (after_came (site w i) m, Ok (arrival_of (length (after_came (site w i) m).log - length (site w i).log))))))
          (not_full_more keep (site w i) few e ∙ sym e))
          (record {
            new = [];
            sites = refl;
            sent = sym (append-nil w.sent);
            rows = send_none (arrived_rows n (arrived (place 1000000 w i) (site w i) m).1) (none_arrived n (arrived (place 1000000 w i) (site w i) m).1);
          }))

  asked_steps : (q : Request) → i < length w.sites → Steps w i (step_of (Asked q)) w ⊎ Steps w i (step_of (Asked q)) (happens 1000000 w (At i q)).0
  asked_steps q l = subst (λ b. Steps w i (step_of (Asked q)) w ⊎ Steps w i (step_of (Asked q)) (cond b (requested 1000000 w i q) (w, Err BadEvent)).0)
      (sym (lt-ltb i (length w.sites) l)) (requested_steps q)

  came_steps : (k : ℕ) (p : Packet) → i < length w.sites → packet_at w.sent k ≡ Some p
      → Steps w i (step_of (Came p)) w ⊎ Steps w i (step_of (Came p)) (happens 1000000 w (Deliver i k)).0
  came_steps k p l e = subst (λ b. Steps w i (step_of (Came p)) w ⊎ Steps w i (step_of (Came p))
      (cond b (coming 1000000 w i (packet_at w.sent k)) (w, Err BadEvent)).0) (sym (lt-ltb i (length w.sites) l))
      (subst (λ o. Steps w i (step_of (Came p)) w ⊎ Steps w i (step_of (Came p)) (coming 1000000 w i o).0) (sym e) (coming_steps p))

-- ---- one reading more

module _ (sites : ℕ) (keep : ℕ → ℕ) (before : List Reading) (r : Reading) where
  abbrev pub records : List (List (List ℕ))
  records = read_by r.site before

  abbrev pub number : ℕ
  number = 1 + length records

  -- what the process does with it
  abbrev pub step : Replica × List (List (List ℕ))
  step = input_step (process sites keep r.site) (state_of sites keep before r.site) number (input_of sites r.fields)

  pub state_here : state_of sites keep (before ++ r ∷ []) r.site ≡ step.0
  state_here = ap (site_after (process sites keep r.site) (opening_at r.site) 1) (read_here _ r) ∙ after_more (process sites keep r.site) records
      (r.fields ∷ []) (opening_at r.site) 1

  pub state_there : {i : ℕ} → (i ≡ r.site → ⊥) → state_of sites keep (before ++ r ∷ []) i ≡ state_of sites keep before i
  state_there {i} n = ap (site_after (process sites keep i) (opening_at i) 1) (read_there before r n)

  pub answers_here : answers_of sites keep (before ++ r ∷ []) r.site ≡ answers_of sites keep before r.site ++ step.1
  answers_here = ap (output_of (process sites keep r.site)) (read_here before r) ∙ output_one (process sites keep r.site) records r.fields

  pub answers_there : {i : ℕ} → (i ≡ r.site → ⊥) → answers_of sites keep (before ++ r ∷ []) i ≡ answers_of sites keep before i
  answers_there {i} n = ap (output_of (process sites keep i)) (read_there before r n)

  -- what was sent stays sent
  stays_sent : (fields : List (List ℕ)) → WasSent sites keep before fields → WasSent sites keep (before ++ r ∷ []) fields
  stays_sent fields h = (h.0, h.1, ⊎_elim here there (cases_eq h.0 r.site))
    where
      here : h.0 ≡ r.site → Has (send_row fields) (answers_of sites keep (before ++ r ∷ []) h.0)
      here e = subst (λ j. Has (send_row fields) (answers_of sites keep (before ++ r ∷ []) j)) (sym e)
          (subst (Has (send_row fields)) (sym answers_here) (has_left _ _ _ (subst (λ j. Has (send_row fields) (answers_of sites keep before j)) e h.2)))

      there : (h.0 ≡ r.site → ⊥) → Has (send_row fields) (answers_of sites keep (before ++ r ∷ []) h.0)
      there n = subst (Has (send_row fields)) (sym (answers_there n)) h.2

  -- and nothing else is sent than what this process answers now
  pub sent_now : (fields : List (List ℕ)) → WasSent sites keep (before ++ r ∷ []) fields
      → WasSent sites keep before fields ⊎ ((r.site < sites) × Has (send_row fields) step.1)
  sent_now fields h = ⊎_elim here there (cases_eq h.0 r.site)
    where
      here : h.0 ≡ r.site → WasSent sites keep before fields ⊎ ((r.site < sites) × Has (send_row fields) step.1)
      here e =
          let l = subst (λ j. j < sites) e h.1 in
          ⊎_elim (λ k. inl (r.site, l, k)) (λ k. inr (l, k))
          (has_append (send_row fields) (answers_of sites keep before r.site) step.1
          (subst (Has (send_row fields)) answers_here (subst (λ j. Has (send_row fields) (answers_of sites keep (before ++ r ∷ []) j)) e h.2)))

      there : (h.0 ≡ r.site → ⊥) → WasSent sites keep before fields ⊎ ((r.site < sites) × Has (send_row fields) step.1)
      there n = inl (h.0, h.1, subst (Has (send_row fields)) (answers_there n) h.2)

  sent_here : (fields : List (List ℕ)) → Has (send_row fields) step.1 → Has (send_row fields) (answers_of sites keep (before ++ r ∷ []) r.site)
  sent_here fields h = subst (Has (send_row fields)) (sym answers_here) (has_right (send_row fields) (answers_of sites keep before r.site) step.1 h)

  -- a reading of no process changes nothing
  past : sites ≤ r.site → (w : World) → AreProcesses sites keep before w → AreProcesses sites keep (before ++ r ∷ []) w
  past out w are = record {
    count = are.count;
    states = λ i l. are.states i l ∙ sym (state_there (other i l));
    sent = λ p. (λ h. let q = (are.sent p).0 h in (q.0, stays_sent q.0 q.1, q.2), λ q. (are.sent p).1 (q.0, was_sent q.0 q.1, q.2));
    read = λ fields h. are.read fields (was_sent fields h);
  }
    where
      other : (i : ℕ) → i < sites → i ≡ r.site → ⊥
      other i l e = absurd (omega (arith, l, e, out))

      was_sent : (fields : List (List ℕ)) → WasSent sites keep (before ++ r ∷ []) fields → WasSent sites keep before fields
      was_sent fields h = (h.0, h.1, subst (Has (send_row fields)) (answers_there (other h.0 h.1)) h.2)

  advance : sites ≤ COUNTED_MAX → r.site < sites → (w v : World) (x : Input) → input_of sites r.fields ≡ x → AllPackets sites v.sent →
      AreProcesses sites keep before w
      → Steps w r.site (input_step (place (keep r.site) w r.site) (site w r.site) number x) v → AreProcesses sites keep (before ++ r ∷ []) v
  advance top l w v x is all are t =
      record { count = ap length t.sites ∙ length-set w.sites r.site _ ∙ are.count; states = states; sent = λ p. (to p, back p); read = read }
    where
      inside : r.site < length w.sites
      inside = let c = are.count in omega (arith, l, c)

      same : input_step (place (keep r.site) w r.site) (site w r.site) number x ≡ step
      same = sym (λ j. input_step (record { site = r.site; sites = sym are.count j; keep = keep r.site }) (sym (are.states r.site l) j) number (is j))

      states : (i : ℕ) → i < sites → site v i ≡ state_of sites keep (before ++ r ∷ []) i
      states i k = ⊎_elim here there (cases_eq i r.site)
        where
          here : i ≡ r.site → site v i ≡ state_of sites keep (before ++ r ∷ []) i
          here e = subst (λ j. site v j ≡ state_of sites keep (before ++ r ∷ []) j) (sym e)
              (ap (λ s. get_or s r.site (opening_at 1)) t.sites ∙ get_or-set_same w.sites r.site _ (opening_at 1) inside ∙ ap (λ p. p.0) same ∙ sym state_here)

          there : (i ≡ r.site → ⊥) → site v i ≡ state_of sites keep (before ++ r ∷ []) i
          there n = ap (λ s. get_or s i (opening_at 1)) t.sites ∙ get_or-set_other w.sites r.site i _ (opening_at 1) n ∙ are.states i k ∙ sym (state_there n)

      rows : Sends step.1 t.new
      rows = subst (λ (p : Replica × List (List (List ℕ))). Sends p.1 t.new) same t.rows

      -- a packet of v is read as it is written
      as_written : (p : Packet) → Has p v.sent → packet_of sites (packet_record p) ≡ Some p
      as_written p h = (packet_is sites (omega (arith, top)) top (packet_record p) p).1 (all p h, refl)

      new_sent : (p : Packet) → Has p t.new → Has p v.sent
      new_sent p h = subst (Has p) (sym t.sent) (has_right p w.sent t.new h)

      to : (p : Packet) → Has p v.sent → IsSent sites keep (before ++ r ∷ []) p
      to p h = ⊎_elim old new (has_append p w.sent t.new (subst (Has p) t.sent h))
        where
          old : Has p w.sent → IsSent sites keep (before ++ r ∷ []) p
          old k = let q = (are.sent p).0 k in (q.0, stays_sent q.0 q.1, q.2)

          new : Has p t.new → IsSent sites keep (before ++ r ∷ []) p
          new k = (packet_record p, (r.site, l, sent_here (packet_record p) ((rows (packet_record p)).1 (p, k, refl))), as_written p h)

      back : (p : Packet) → IsSent sites keep (before ++ r ∷ []) p → Has p v.sent
      back p q = ⊎_elim old (λ k. new k.1) (sent_now q.0 q.1)
        where
          old : WasSent sites keep before q.0 → Has p v.sent
          old k = subst (Has p) (sym t.sent) (has_left p w.sent t.new ((are.sent p).1 (q.0, k, q.2)))

          new : Has (send_row q.0) step.1 → Has p v.sent
          new k =
              let u = (rows q.0).0 k in
              let there = new_sent u.0 u.1 in
              subst (λ y. Has y v.sent) (same_Some u.0 p (sym (as_written u.0 there) ∙ ap (packet_of sites) (sym u.2) ∙ q.2)) there

      read : (fields : List (List ℕ)) → WasSent sites keep (before ++ r ∷ []) fields → IsSome (packet_of sites fields)
      read fields h = ⊎_elim (are.read fields) (λ k. new k.1) (sent_now fields h)
        where
          new : Has (send_row fields) step.1 → IsSome (packet_of sites fields)
          new k = let u = (rows fields).0 k in ap is_some (ap (packet_of sites) u.2 ∙ as_written u.0 (new_sent u.0 u.1))

-- ---- all readings

place_of : (p : Packet) (sent : List Packet) → Has p sent → (k : ℕ) × (slice_get sent k ≡ Some p)
place_of p [] h = absurd h
place_of p (q ∷ sent) (inl e) = (0, ap Some (sym e))
place_of p (q ∷ sent) (inr h) = let k = place_of p sent h in (suc k.0, k.1)

-- what stays so from one reading to the next
record Stays (sites : ℕ) (w : World) : Type 0 where
  sound : Sound w
  written : AllPackets (length w.sites) w.sent

module _ (sites : ℕ) (keep : ℕ → ℕ) (top : sites ≤ COUNTED_MAX) (small : (i : ℕ) → keep i ≤ 1000000) where
  after_event : (w : World) (e : Event) → length w.sites ≡ sites → IsWritten sites e → Stays sites w → Stays sites (happens 1000000 w e).0
  after_event w e c is t =
      let at = subst (λ k. IsWritten k e) (sym c) is in
      record {
        sound = event_keeps 1000000 (omega arith) w e (written_event (length w.sites) e at) t.sound;
        written = subst (λ k. AllPackets k (happens 1000000 w e).0.sent) (sym (event_sites 1000000 w e))
            (event_written 1000000 (omega arith) w e (omega (arith, c, top)) at t.sound t.written);
      }

  -- the processes are w, or w after one event more
  abbrev Next : List Reading → World → Type 0
  Next readings w = AreProcesses sites keep readings w ⊎ ((e : Event) × IsWritten sites e × AreProcesses sites keep readings (happens 1000000 w e).0)

  read_one : (before : List Reading) (r : Reading) (w : World) → Stays sites w → AreProcesses sites keep before w
      → ((p : Packet) → packet_of sites r.fields ≡ Some p → WasSent sites keep before r.fields) → Next (before ++ r ∷ []) w
  read_one before r w t are carried = ⊎_elim within (λ l. inl (past sites keep before r l w are)) (cases_lt r.site sites)
    where
      within : r.site < sites → Next (before ++ r ∷ []) w
      within l = at (request_of sites r.fields) (packet_of sites r.fields) refl refl
        where
          inside : r.site < length w.sites
          inside = let c = are.count in omega (arith, l, c)

          -- that input leads to w, or to w after that event
          goes : (x : Input) → input_of sites r.fields ≡ x → (e : Event) → IsWritten sites e
              → Steps w r.site (input_step (place (keep r.site) w r.site) (site w r.site) (number sites keep before r) x) w
              ⊎ Steps w r.site (input_step (place (keep r.site) w r.site) (site w r.site) (number sites keep before r) x) (happens 1000000 w e).0
              → Next (before ++ r ∷ []) w
          goes x is e written = ⊎_elim (λ s. inl (advance sites keep _ r top l w w x is (subst (λ k. AllPackets k w.sent) are.count t.written) are s))
              (λ s. inr (
                e,
                written,
                advance sites keep _ r top l w _ x is (subst (λ k. AllPackets k (happens 1000000 w e).0.sent) (event_sites _ w e ∙ are.count)
                    (after_event w e are.count written t).written) are s,
              ))

          at : (q : Option Request) (p : Option Packet) → request_of sites r.fields ≡ q → packet_of sites r.fields ≡ p → Next (before ++ r ∷ []) w
          at (Some q) p eq ep =
              goes (Asked q) (λ j. input_by (eq j) (ep j)) (At r.site q) ((request_is sites (omega (arith, top)) r.fields q).0 eq).0
              (asked_steps (keep r.site) (small r.site) w r.site (number sites keep before r) q inside)
          at None (Some p) eq ep =
              let j = place_of p w.sent ((are.sent p).1 (r.fields, carried p ep, ep)) in
              goes (Came p) (λ j. input_by (eq j) (ep j)) (Deliver r.site (suc j.0)) tt
              (came_steps (keep r.site) (small r.site) w r.site (number sites keep before r) (suc j.0) p inside j.1)
          at None None eq ep =
              inl (advance sites keep before r top l w w Neither (λ j. input_by (eq j) (ep j)) (subst (λ k. AllPackets k w.sent) are.count t.written) are
              (steps_not w r.site (input_step (place (keep r.site) w r.site) (site w r.site) (number sites keep before r) Neither) refl
              (send_refused (number sites keep before r) BadRecord)))

  read_all : (all : List Reading) → Carried sites keep all → (later before : List Reading) → all ≡ before ++ later → (w : World) → Stays sites w
      → AreProcesses sites keep before w → (events : List Event) × AreEvents sites events × AreProcesses sites keep all (run 1000000 events w)
  read_all all carried [] before is w t are =
      ([], tt, subst (λ l. AreProcesses sites keep l w) (sym (is ∙ append-nil before)) are)
  read_all all carried (r ∷ later) before is w t are =
      let more = is ∙ sym (append_assoc before (r ∷ []) later) in
      ⊎_elim (λ a. read_all all carried later (before ++ r ∷ []) more w t a)
      (λ g.
      let rest = read_all all carried later (before ++ r ∷ []) more (happens 1000000 w g.0).0 (after_event w g.0 are.count g.1 t) g.2 in
      (g.0 ∷ rest.0, (written_event sites g.0 g.1, rest.1), rest.2))
      (read_one before r w t are (λ p e. carried before later r p is e))

  at_start : AreProcesses sites keep [] (start sites)
  unfolding answers
  at_start = record {
    count = start_sites sites;
    states = λ i l. get_or-map-range_with_len opening_at 0 sites i i (opening_at 1) l (omega arith);
    sent = λ p. (λ h. absurd h, λ q. absurd q.1.2);
    read = λ fields h. absurd h.2;
  }

pub processes_run : ProcessesAreARun
processes_run sites keep readings some top small carried = read_all sites keep top small _ carried _ [] refl _
    (record { sound = start_sound sites some; written = λ p h. absurd h }) (at_start sites keep top small)
