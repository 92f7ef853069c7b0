-- The records from which a lost site is made again.
use Rattle.rubis_laws.proofs.Common.{◌≡◌, ◌∙◌, ℕ, Bool, true, false, cond, Option, Some, None, List, [], ◌∷◌, ◌++◌, refl, sym, ap, subst, inl, inr, ⊎_elim}
use Rattle.rubis_laws.proofs.Common.{append_assoc, append-nil, map, is_red, Message, Request, Packet, Token, after_all, after_inputs, ask_of, holding}
use Rattle.rubis_laws.proofs.Common.{inputs_before, inputs_for, inputs_to_rebuild, is_lacking, lacking, next_token, prepared, sent_again, sent_on}
use Rattle.rubis_laws.proofs.Common.{sent_on_inputs, token_as, token_before, with_token, Input, input_step, Asked, Came, Has, Place, Replica, arrived}
use Rattle.rubis_laws.proofs.Common.{has_append, ◌+◌, ◌≤◌, ◌<◌, length, arith, ⊤, ◌==◌, IsSome, is_some, ◌^◌, filter, Result, Ok, Err, option_map_or, option_or}
use Rattle.rubis_laws.proofs.Common.{eqb-true, true≢false, IsId, same_id, Decides-same_id, Id, COUNTED_MAX, Refusal, InLimits, NewItem, Shadow, decision}
use Rattle.rubis_laws.proofs.Common.{IsPacket, IsRequest, packet_record, request_record, packet_of, request_of, Arrival, Happened, Taken, packet_is, request_is}
use Rattle.rubis_laws.proofs.Common.{arrived_rows, asked_rows, passed_rows, send_row, took_rows, Sent, Core, cores, as_item, item_at, when, site_after}
use Rattle.rubis_laws.proofs.Common.{Concerns, seller_in, sent_by, sent_here, IsMadeBy, Preceded, input_by, input_of, answers, Neither, asked, generating}
use Rattle.rubis_laws.proofs.Common.{opening_at, passed, rows_at, standing_of, took, Sound, AreEvents, Event, World, happens, place, requested, run, sending}
use Rattle.rubis_laws.proofs.Common.{site, start, At, Deliver, has_right, RowKey}
use Rattle.rubis_model.specs.Rebuild.{InputsRebuild, AreWritten, RecordsRebuild, input_record, is_send}
use Rattle.rubis_laws.proofs.Rebuilding.Rebuilt.{filter_has, next_is, ask_in_limits, at_inside}
use Rattle.rubis_message.proofs.Records.{apart}
use Rattle.rubis_laws.proofs.Rows.Cores.{core_of, has_core}
use Rattle.rubis_laws.proofs.Order.Deciding.{found_at}
use Rattle.rubis_laws.proofs.Runs.SoundSteps.{event_keeps, event_sites, start_sites, start_sound}
use Rattle.rubis_laws.proofs.Rebuilding.RebuiltSites.{sites_are_rebuilt}
use Rattle.rubis_laws.proofs.Runs.EveryRun.{refers, sound_run}
use Rattle.rubis_laws.proofs.Rows.Sets.{Member}
use Rattle.rubis_laws.proofs.Runs.Written.{AllPackets, event_written, written_event}
use Rattle.rubis_laws.proofs.Processes.Restarts.{same_state}
use Rattle.rubis_laws.proofs.Runs.Delivering.{run_keeps_sent}

after_append : (p : Place) (s : Replica) (xs ys : List Input) → after_inputs p s (xs ++ ys) ≡ after_inputs p (after_inputs p s xs) ys
after_append p s [] ys = refl
after_append p s (x ∷ xs) ys = after_append p (input_step p s 1 x).0 xs ys

sent_append : (p : Place) (s : Replica) (xs ys : List Input) → sent_on_inputs p s (xs ++ ys) ≡ sent_on_inputs p s xs ++ sent_on_inputs p
    (after_inputs p s xs) ys
sent_append p s [] ys = refl
sent_append p s (x ∷ xs) ys = ap (λ ps. sent_on p s x ++ ps) (sent_append p (input_step p s 1 x).0 xs ys)
    ∙ sym (append_assoc (sent_on p s x) (sent_on_inputs p (input_step p s 1 x).0 xs) (sent_on_inputs p (after_inputs p (input_step p s 1 x).0 xs) ys))

-- they lead to a state, and nothing is sent
abbrev LeadTo : Place → Replica → List Input → Replica → Type 0
LeadTo p s xs t = (after_inputs p s xs ≡ t) × (sent_on_inputs p s xs ≡ [])

lead_on : (p : Place) (s : Replica) {t u : Replica} (xs ys : List Input) → LeadTo p s xs t → LeadTo p t ys u → LeadTo p s (xs ++ ys) u
lead_on p s xs ys a b = (
  after_append p s xs ys ∙ ap (λ r. after_inputs p r ys) a.0 ∙ b.0,
  sent_append p s xs ys ∙ ap (λ ps. ps ++ sent_on_inputs p (after_inputs p s xs) ys) a.1 ∙ ap (λ r. sent_on_inputs p r ys) a.0 ∙ b.1,
)

messages_lead : (p : Place) (s : Replica) (us : List Message) → LeadTo p s (map (λ u. Came (Packet.Msg u)) us) (after_all p s us)
messages_lead p s [] = (refl, refl)
messages_lead p s (u ∷ us) = messages_lead p (arrived p s u).0 us

token_leads : (p : Place) (s : Replica) (o : Option Token) → LeadTo p s (token_as o) (with_token p s o)
token_leads p s None = (refl, refl)
token_leads p s (Some t) = (refl, refl)

either_leads : (p : Place) (s : Replica) {t u : Replica} (xs ys : List Input) (b : Bool) → LeadTo p s xs t → LeadTo p s ys u → LeadTo p s (cond b xs ys)
    (cond b t u)
either_leads p s xs ys true a c = a
either_leads p s xs ys false a c = c

holding_leads : (p : Place) (tokens : List Token) (s : Replica) → LeadTo p s (token_before p tokens s) (holding p tokens s)
holding_leads p tokens s = either_leads p s [] _ _ (refl, refl) (token_leads p s _)

prepared_leads : (p : Place) (tokens : List Token) (all : List Message) (s : Replica) (m : Message)
    → LeadTo p s (inputs_before p tokens all s m) (prepared p tokens all s m)
prepared_leads p tokens all s m =
    let g = after_all p s (lacking p.site s.log m all) in
    lead_on p s (map (λ u. Came (Packet.Msg u)) (lacking p.site s.log m all))
    (cond (is_red m.shadow) (token_before p tokens g) []) (messages_lead p s (lacking p.site s.log m all))
    (either_leads p g (token_before p tokens g) [] (is_red m.shadow) (holding_leads p tokens g) (refl, refl))

-- then one more
one_more : (p : Place) (s : Replica) {t : Replica} (xs : List Input) (x : Input) → LeadTo p s xs t
    → (after_inputs p s (xs ++ x ∷ []) ≡ (input_step p t 1 x).0) × (sent_on_inputs p s (xs ++ x ∷ []) ≡ sent_on p t x)
one_more p s xs x a = (
  after_append p s xs (x ∷ []) ∙ ap (λ r. (input_step p r 1 x).0) a.0,
  sent_append p s xs (x ∷ []) ∙ ap (λ ps. ps ++ sent_on_inputs p (after_inputs p s xs) (x ∷ [])) a.1 ∙ append-nil (sent_on p (after_inputs p s xs) x)
      ∙ ap (λ r. sent_on p r x) a.0,
)

inputs_are : (p : Place) (tokens : List Token) (all : List Message) (s : Replica) (x : Packet)
    → (after_inputs p s (inputs_for p tokens all s x) ≡ (sent_again p tokens all s x).0) ×
    (sent_on_inputs p s (inputs_for p tokens all s x) ≡ (sent_again p tokens all s x).1)
inputs_are p tokens all s (Packet.Msg m) =
    one_more p s (inputs_before p tokens all s m) (Asked (Request.Ask (ask_of all m.shadow))) (prepared_leads p tokens all s m)
inputs_are p tokens all s (Packet.Token t) = one_more p s (token_before p tokens s) (Asked (Request.Pass t.to)) (holding_leads p tokens s)

-- ---- each packet was sent
in_map : (x : Packet) (us : List Message) → Has (Came x) (map (λ u. Came (Packet.Msg u)) us) → (u : Message) × Has u us × (x ≡ Packet.Msg u)
in_map x [] h = absurd h
in_map x (u ∷ us) (inl e) = (u, inl refl, cc)
in_map x (u ∷ us) (inr h) = let k = in_map x us h in (k.0, inr k.1, k.2)

came_same : (x : Packet) (t : Token) → Came x ≡ Came (Packet.Token t) → Packet.Token t ≡ x
came_same x t q = cc

in_either : (x : Input) (xs ys : List Input) (b : Bool) (P : Type 0) → (Has x xs → P) → (Has x ys → P) → Has x (cond b xs ys) → P
in_either x xs ys true P f g h = f h
in_either x xs ys false P f g h = g h

not_asked : (x : Packet) (r : Request) → Has (Came x) (Asked r ∷ []) → ⊥
not_asked x r (inl e) = absurd (cc)
not_asked x r (inr h) = h

module _ (p : Place) (sent : List Packet) (all : List Message) (tokens : List Token) (were : (m : Message) → Has m all → Has (Packet.Msg m) sent)
    (told : (t : Token) → Has t tokens → Has (Packet.Token t) sent) where
  token_was : (last : ℕ) (x : Packet) (o : Option Token) → next_token p.site last tokens ≡ o → Has (Came x) (token_as o) → Has x sent
  token_was last x None e h = absurd h
  token_was last x (Some t) e (inl q) = subst (λ y. Has y sent) (came_same x t q) (told t (next_is p.site {last = last} tokens e).0)
  token_was last x (Some t) e (inr q) = absurd q

  before_was : (s : Replica) (x : Packet) → Has (Came x) (token_before p tokens s) → Has x sent
  before_was s x = in_either _ [] _ _ _ (λ h. absurd h) (token_was _ x _ refl)

  inputs_were : (s : Replica) (y : Packet) (x : Packet) → Has (Came x) (inputs_for p tokens all s y) → Has x sent
  inputs_were s (Packet.Msg m) x h = ⊎_elim (λ k. ⊎_elim (λ q. let u = in_map x _ q in
      subst (λ y. Has y sent) (sym u.2) (were u.0 (filter_has (is_lacking p.site s.log m) u.0 all u.1).0))
      (in_either (Came x) (token_before p tokens (after_all p s (lacking p.site s.log m all))) [] (is_red m.shadow) (Has x sent)
      (before_was (after_all p s (lacking p.site s.log m all)) x) (λ q. absurd q))
      (has_append (Came x) (map (λ u. Came (Packet.Msg u)) (lacking p.site s.log m all))
      (cond (is_red m.shadow) (token_before p tokens (after_all p s (lacking p.site s.log m all))) []) k))
      (λ k. absurd (not_asked x (Request.Ask (ask_of all m.shadow)) k))
      (has_append (Came x) (inputs_before p tokens all s m) (Asked (Request.Ask (ask_of all m.shadow)) ∷ []) h)
  inputs_were s (Packet.Token t) x h = ⊎_elim (λ k. before_was s x k) (λ k. absurd (not_asked x _ k)) (has_append _ _ _ h)

pub inputs_rebuild : InputsRebuild
inputs_rebuild p sent all tokens s [] were told = (refl, refl, λ x h. absurd h)
inputs_rebuild p sent all tokens s (y ∷ packets) were told =
    let a = inputs_are p tokens all s y in
    let t = (sent_again p tokens all s y).0 in
    let k = inputs_rebuild p sent all tokens t packets were told in (
      after_append p s (inputs_for p tokens all s y) (inputs_to_rebuild p tokens all t packets)
          ∙ ap (λ r. after_inputs p r (inputs_to_rebuild p tokens all t packets)) a.0 ∙ k.0,
      sent_append p s (inputs_for p tokens all s y) (inputs_to_rebuild p tokens all t packets)
          ∙ ap (λ ps. ps ++ sent_on_inputs p (after_inputs p s (inputs_for p tokens all s y)) (inputs_to_rebuild p tokens all t packets)) a.1
          ∙ ap (λ r. (sent_again p tokens all s y).1 ++ sent_on_inputs p r (inputs_to_rebuild p tokens all t packets)) a.0
          ∙ ap (λ ps. (sent_again p tokens all s y).1 ++ ps) k.1,
      λ x h. ⊎_elim (inputs_were p sent all _ were told s y x) (k.2 x) (has_append _ _ _ h),
    )

-- ---- the records that a fresh site is given are read as the inputs that rebuild it

-- ---- inputs that are read back, and no listings

abbrev IsGiven : ℕ → Input → Type 0
IsGiven sites (Asked (Request.Ask a)) = IsRequest sites (Request.Ask a)
IsGiven sites (Asked (Request.Pass to)) = IsRequest sites (Request.Pass to)
IsGiven sites (Asked (Request.List l)) = ⊥
IsGiven sites (Came x) = IsPacket sites x
IsGiven sites Neither = ⊥

abbrev AreGiven : ℕ → List Input → Type 0
AreGiven sites [] = ⊤
AreGiven sites (x ∷ xs) = IsGiven sites x × AreGiven sites xs

given_append : (sites : ℕ) (xs ys : List Input) → AreGiven sites xs → AreGiven sites ys → AreGiven sites (xs ++ ys)
given_append sites [] ys a b = b
given_append sites (x ∷ xs) ys a b = (a.0, given_append sites xs ys a.1 b)

given_either : (sites : ℕ) (b : Bool) (xs ys : List Input) → AreGiven sites xs → AreGiven sites ys → AreGiven sites (cond b xs ys)
given_either sites true xs ys a c = a
given_either sites false xs ys a c = c

module _ (sites : ℕ) (top : sites ≤ COUNTED_MAX) where
  small : sites < 2 ^ 8
  small = omega (arith, top)

  asked_back : {r : Request} → IsRequest sites r → input_of sites (request_record r) ≡ Asked r
  asked_back {r} h = ap (λ o. input_by o (packet_of sites (request_record r))) ((request_is sites small (request_record r) r).1 (h, refl))

  came_back : (x : Packet) → IsPacket sites x → input_of sites (packet_record x) ≡ Came x
  came_back x h = by (request_of sites (packet_record x)) refl
    where
      by : (o : Option Request) → request_of sites (packet_record x) ≡ o → input_by o (packet_of sites (packet_record x)) ≡ Came x
      by None e = ap (input_by None) ((packet_is sites small top (packet_record x) x).1 (h, refl))
      by (Some r) e = absurd (apart r x (sym ((request_is sites small (packet_record x) r).0 e).1))

  read_back : (x : Input) → IsGiven sites x → input_of sites (input_record x) ≡ x
  read_back (Asked (Request.Ask a)) h = asked_back h
  read_back (Asked (Request.Pass to)) h = asked_back h
  read_back (Asked (Request.List l)) h = absurd h
  read_back (Came x) h = came_back x h
  read_back Neither h = absurd h

  all_read_back : (xs : List Input) → AreGiven sites xs → map (input_of sites) (map input_record xs) ≡ xs
  all_read_back [] h = refl
  all_read_back (x ∷ xs) h = ap (λ y. y ∷ map (input_of sites) (map input_record xs)) (read_back x h.0) ∙ ap (λ ys. x ∷ ys) (all_read_back xs h.1)

-- ---- what a site makes of them

-- the rows that send these packets
abbrev send_rows : List Packet → List (List (List ℕ))
send_rows packets = map (λ x. send_row (packet_record x)) packets

send_rows_append : (xs ys : List Packet) → send_rows (xs ++ ys) ≡ send_rows xs ++ send_rows ys
send_rows_append [] ys = refl
send_rows_append (x ∷ xs) ys = ap (λ rows. send_row (packet_record x) ∷ rows) (send_rows_append xs ys)

sends_append : (xs ys : List (List (List ℕ))) → filter is_send (xs ++ ys) ≡ filter is_send xs ++ filter is_send ys
sends_append [] ys = refl
sends_append (x ∷ xs) ys = at (is_send x) (sends_append xs ys)
  where
    at : (b : Bool) → filter is_send (xs ++ ys) ≡ filter is_send xs ++ filter is_send ys
        → cond b (x ∷ filter is_send (xs ++ ys)) (filter is_send (xs ++ ys)) ≡ cond b (x ∷ filter is_send xs) (filter is_send xs) ++ filter is_send ys
    at true e = ap (λ rows. x ∷ rows) e
    at false e = e

asked_sends : (k : ℕ) (r : Result Message Refusal) → filter is_send (asked_rows k r) ≡ send_rows (sending Packet.Msg r)
asked_sends k (Ok m) = refl
asked_sends k (Err r) = refl

passed_sends : (k : ℕ) (r : Result Token Refusal) → filter is_send (passed_rows k r) ≡ send_rows (sending Packet.Token r)
passed_sends k (Ok t) = refl
passed_sends k (Err r) = refl

arrived_sends : (k : ℕ) (r : Result Arrival Refusal) → filter is_send (arrived_rows k r) ≡ []
arrived_sends k (Ok (Arrival.Released n)) = refl
arrived_sends k (Ok Arrival.Held) = refl
arrived_sends k (Ok Arrival.Repeat) = refl
arrived_sends k (Err r) = refl

took_sends : (k : ℕ) (r : Result Taken Refusal) → filter is_send (took_rows k r) ≡ []
took_sends k (Ok Taken.Holding) = refl
took_sends k (Ok Taken.Repeat) = refl
took_sends k (Err r) = refl

step_sends : (p : Place) (s : Replica) (k : ℕ) (x : Input) → IsGiven p.sites x → filter is_send (input_step p s k x).1 ≡ send_rows (sent_on p s x)
step_sends p s k (Asked (Request.Ask a)) h = asked_sends k (asked p s a).1
step_sends p s k (Asked (Request.Pass to)) h = passed_sends k (passed p s to).1
step_sends p s k (Asked (Request.List l)) h = absurd h
step_sends p s k (Came (Packet.Msg m)) h = arrived_sends k (arrived p s m).1
step_sends p s k (Came (Packet.Token t)) h = took_sends k (took p s t).1
step_sends p s k Neither h = absurd h

module _ (p : Place) (top : p.sites ≤ COUNTED_MAX) where
  after_records : (xs : List Input) (s : Replica) (k : ℕ) → AreGiven p.sites xs → site_after p s k (map input_record xs) ≡ after_inputs p s xs
  after_records [] s k h = refl
  after_records (x ∷ xs) s k h = ap (λ y. site_after p (input_step p s k y).0 (k + 1) (map input_record xs)) (read_back _ top x h.0) ∙ ap
      (λ r. site_after p r (k + 1) (map input_record xs)) (same_state p s k 1 x) ∙ after_records xs _ _ h.1

  sent_by_records : (xs : List Input) (s : Replica) (k : ℕ) → AreGiven p.sites xs → filter is_send (answers p s k (map input_record xs))
      ≡ send_rows (sent_on_inputs p s xs)
  unfolding answers
  sent_by_records [] s k h = refl
  sent_by_records (x ∷ xs) s k h = ap (λ y. filter is_send ((input_step p s k y).1 ++ answers p (input_step p s k y).0 (k + 1) (map input_record xs)))
      (read_back _ top x h.0) ∙ sends_append (input_step p s k x).1 (answers p (input_step p s k x).0 (k + 1) (map input_record xs)) ∙ ap
      (λ rows. rows ++ filter is_send (answers p (input_step p s k x).0 (k + 1) (map input_record xs))) (step_sends p s k x h.0) ∙ ap
      (λ r. send_rows (sent_on p s x) ++ filter is_send (answers p r (k + 1) (map input_record xs))) (same_state p s k 1 x) ∙ ap
      (λ rows. send_rows (sent_on p s x) ++ rows) (sent_by_records xs _ _ h.1) ∙ sym (send_rows_append _ _)

-- ---- what a site sends in a run stands there in the end, and its messages are its own

-- a token, or a message of site i
abbrev IsOf : ℕ → Packet → Type 0
IsOf i (Packet.Msg m) = m.stamp.id.site ≡ i
IsOf i (Packet.Token t) = ⊤

message_of : (p : Place) (s : Replica) (r : Result Shadow Refusal) (x : Packet) → Has x (sending Packet.Msg (generating p s r).1) → IsOf p.site x
message_of p s (Ok y) x (inl e) = subst (IsOf p.site) (sym e) refl
message_of p s (Ok y) x (inr h) = absurd h
message_of p s (Err r) x h = absurd h

token_of : (i : ℕ) (r : Result Token Refusal) (x : Packet) → Has x (sending Packet.Token r) → IsOf i x
token_of i (Ok t) x (inl e) = subst (IsOf i) (sym e) tt
token_of i (Ok t) x (inr h) = absurd h
token_of i (Err r) x h = absurd h

here_of : (keep : ℕ) (w : World) (i : ℕ) (q : Request) (x : Packet) → Has x (sent_here keep w i q) → IsOf i x
here_of keep w i (Request.Ask a) x h = message_of (place keep w i) (site w i) (decision (rows_at (site w i).log) (standing_of keep (site w i)) a) x h
here_of keep w i (Request.Pass to) x h = token_of i (passed (place keep w i) (site w i) to).1 x h
here_of keep w i (Request.List l) x h = absurd h

here_sent : (keep : ℕ) (w : World) (i : ℕ) (q : Request) (x : Packet) → Has x (sent_here keep w i q) → Has x (requested keep w i q).0.sent
here_sent keep w i (Request.Ask a) x h = has_right x w.sent _ h
here_sent keep w i (Request.Pass to) x h = has_right x w.sent _ h
here_sent keep w i (Request.List l) x h = absurd h

event_sends : (keep : ℕ) (w : World) (i : ℕ) (q : Request) (x : Packet) → i < length w.sites → Has x (sent_here keep w i q)
    → Has x (happens keep w (At i q)).0.sent
event_sends keep w i q x l h = subst (λ (step : World × Result Happened Refusal). Has x step.0.sent) (sym (at_inside w i _ l)) (here_sent keep w i q x h)

sent_in_run : (keep i : ℕ) (es : List Event) (w : World) (x : Packet) → i < length w.sites → Has x (sent_by i keep es w) → Has x (run keep es w).sent × IsOf i x
sent_in_run keep i [] w x l h = absurd h
sent_in_run keep i (Deliver j k ∷ es) w x l h = sent_in_run keep i es _ x (subst (λ n. i < n) (sym (event_sites keep w (Deliver j k))) l) h
sent_in_run keep i (At j q ∷ es) w x l h =
    let v = (happens keep w (At j q)).0 in
    ⊎_elim (at (j == i) refl) (λ k. sent_in_run keep i es v x (subst (λ n. i < n) (sym (event_sites keep w (At j q))) l) k)
    (has_append x (cond (j == i) (sent_here keep w j q) []) (sent_by i keep es v) h)
  where
    at : (b : Bool) → (j == i) ≡ b → Has x (cond b (sent_here keep w j q) []) → Has x (run keep es (happens keep w (At j q)).0).sent × IsOf i x
    at false e k = absurd k
    at true e k =
        let same : j ≡ i = eqb-true j i e in (
          run_keeps_sent keep es (happens keep w (At j q)).0 x (event_sends keep w j q x (subst (λ n. n < length w.sites) (sym same) l) k),
          subst (λ n. IsOf n x) same (here_of keep w j q x k),
        )

-- ---- what is sent in a run of written requests is in the grammar

are_events : (sites : ℕ) (es : List Event) → AreWritten sites es → AreEvents sites es
are_events sites [] h = tt
are_events sites (e ∷ es) h = (written_event sites e h.0, are_events sites es h.1)

run_written : (keep : ℕ) → keep ≤ 1000000 → (es : List Event) (w : World) → length w.sites ≤ 16 → AreWritten (length w.sites) es → Sound w
    → AllPackets (length w.sites) w.sent → AllPackets (length w.sites) (run keep es w).sent
run_written keep few [] w n h s all = all
run_written keep few (e ∷ es) w n h s all =
    let v = (happens keep w e).0 in
    let same : length v.sites ≡ length w.sites = event_sites keep w e in
    subst (λ k. AllPackets k (run keep es v).sent) same
    (run_written keep few es v (subst (λ k. k ≤ 16) (sym same) n) (subst (λ k. AreWritten k es) (sym same) h.1)
    (event_keeps keep few w e (written_event (length w.sites) e h.0) s) (subst (λ k. AllPackets k v.sent) (sym same) (event_written keep few w e n h.0 s all)))

-- ---- the item of an id

item_there : {j : Id} (a : List Core) (c : Core) → Member a c → j ≡ c.id → IsSome (as_item c.shadow) → item_at j a ≡ None → ⊥
item_there [] c h i f e = absurd h
item_there {j} (y ∷ a) c h i f e = go (same_id j y.id) refl (as_item y.shadow) refl (λ l q. item_there a c l i f q) h
  where
    go : (b : Bool) → same_id j y.id ≡ b → (o : Option NewItem) → as_item y.shadow ≡ o → (Member a c → item_at j a ≡ None → ⊥) → Member (y ∷ a) c → ⊥
    go true q (Some k) r ih l = let p : Some k ≡ None = (λ t. option_or (when (sym q t) (sym r t)) (item_at j a)) ∙ e in absurd cc
    go true q None r ih (inl m) = true≢false (sym (ap is_some (sym r ∙ ap (λ (z : Core). as_item z.shadow) m) ∙ f))
    go true q None r ih (inr l) = ih l ((λ t. option_or (when (sym q t) (sym r t)) (item_at j a)) ∙ e)
    go false q o r ih (inl m) = true≢false (sym ((Decides-same_id j y.id).1 (i ∙ sym (ap (λ (z : Core). z.id) m))) ∙ q)
    go false q o r ih (inr l) = ih l ((λ t. option_or (when (sym q t) (as_item y.shadow)) (item_at j a)) ∙ e)

item_seller : (sites : ℕ) (x : Shadow) {n : NewItem} → as_item x ≡ Some n → InLimits sites x → IsId sites n.seller
item_seller sites (Shadow.Item k) {n} e h = subst (λ (z : NewItem). IsId sites z.seller) (let p : k ≡ n = cc in p) h.seller
item_seller sites x e h = absurd cc

-- ---- the ask of each message can be said

module _ (n keep i : ℕ) (few : keep ≤ 1000000) (w : World) (s : Sound w) (packets : AllPackets n w.sent) (all : List Message)
    (within : (m : Message) → Has m all → Sent w m) (whole : (m : Message) → Sent w m → Concerns i w m → Has m all) where
  limits : (m : Message) → Sent w m → InLimits n m.shadow
  limits m h = let k = packets (Packet.Msg m) h in subst (λ z. InLimits z m.shadow) k.1 k.0.shadow

  seller_is : (v : Message) → Sent w v → v.stamp.id.site ≡ i → (j : Id) → Preceded (Sent w) v (IsMadeBy (RowKey.Item j)) → IsId n (seller_in all j)
  seller_is v b o j p = at (item_at j (cores all)) refl
    where
      at : (k : Option NewItem) → item_at j (cores all) ≡ k → IsId n (option_map_or (λ (n : NewItem). n.seller) k (record { site = 0; seq = 0 }))
      at None e = absurd (item_there (cores all) _ (has_core p.0 all (whole p.0 p.1 (inr (v, b, o, p.3)))) p.2.0 p.2.1 e)
      at (Some k) e =
          let f = found_at (λ (c : Core). as_item c.shadow) j (cores all) e in
          let u = core_of f.0 all f.1 in
          item_seller n u.0.shadow (ap (λ (c : Core). as_item c.shadow) u.2 ∙ f.3) (limits u.0 (within u.0 u.1))

  can_ask : (v : Message) → Sent w v → v.stamp.id.site ≡ i → IsRequest n (Request.Ask (ask_of all v.shadow))
  can_ask v b o = ask_in_limits all (λ k. Preceded (Sent w) v (IsMadeBy k)) (seller_is v b o) _ (limits v b) (packets (Packet.Msg v) b).2 (refers w s v b).0

  -- ---- and so each input
  module _ (top : n ≤ COUNTED_MAX) (tokens : List Token) (told : (t : Token) → Has t tokens → Has (Packet.Token t) w.sent) where
    abbrev here : Place
    here = record { site = i; sites = n; keep = keep }

    messages_given : (us : List Message) → ((u : Message) → Has u us → Sent w u) → AreGiven n (map (λ u. Came (Packet.Msg u)) us)
    messages_given [] h = tt
    messages_given (u ∷ us) h = (packets (Packet.Msg u) (h u (inl refl)), messages_given us (λ x k. h x (inr k)))

    token_given : (last : ℕ) (o : Option Token) → next_token i last tokens ≡ o → AreGiven n (token_as o)
    token_given last None e = tt
    token_given last (Some t) e = (packets (Packet.Token t) (told t (next_is i {last = last} tokens e).0), tt)

    before_given : (r : Replica) → AreGiven n (token_before here tokens r)
    before_given r = given_either n (is_some r.held) [] (token_as (next_token i r.last tokens)) tt (token_given r.last (next_token i r.last tokens) refl)

    for_given : (r : Replica) (x : Packet) → Has x w.sent → IsOf i x → AreGiven n (inputs_for here tokens all r x)
    for_given r (Packet.Msg m) h o =
        let us = lacking i r.log m all in
        given_append n (inputs_before here tokens all r m) (Asked (Request.Ask (ask_of all m.shadow)) ∷ [])
        (given_append n (map (λ u. Came (Packet.Msg u)) us) (cond (is_red m.shadow) (token_before here tokens (after_all here r us)) [])
        (messages_given us (λ u k. within u (filter_has (is_lacking i r.log m) u all k).0))
        (given_either n (is_red m.shadow) (token_before here tokens (after_all here r us)) [] (before_given (after_all here r us)) tt))
        (can_ask m h o, tt)
    for_given r (Packet.Token t) h o = given_append n _ _ (before_given r) (let l = (packets (Packet.Token t) h).to in omega (arith, l, top), tt)

    all_given : (r : Replica) (xs : List Packet) → ((x : Packet) → Has x xs → Has x w.sent × IsOf i x) → AreGiven n (inputs_to_rebuild here tokens all r xs)
    all_given r [] h = tt
    all_given r (x ∷ xs) h =
        given_append n (inputs_for here tokens all r x) (inputs_to_rebuild here tokens all (sent_again here tokens all r x).0 xs)
        (let k = h x (inl refl) in for_given r x k.0 k.1) (all_given (sent_again here tokens all r x).0 xs (λ y k. h y (inr k)))

pub records_rebuild : RecordsRebuild
records_rebuild n keep i events all tokens top few inside are within whole told wholly =
    let w = run keep events (start n) in
    let p : Place = record { site = i; sites = n; keep = keep } in
    let sent = sent_by i keep events (start n) in
    let some : 1 ≤ n = omega (arith, inside) in
    let count = start_sites n in
    let s : Sound w = sound_run events some few (are_events n events are) in
    let packets : AllPackets n w.sent = subst (λ k. AllPackets k w.sent) count
    (run_written keep few _ _ (omega (arith, count, top)) (subst (λ k. AreWritten k events) (sym count) are) (start_sound n some) (λ x h. absurd h)) in
    let inputs = inputs_to_rebuild p tokens all (opening_at i) sent in
    let given : AreGiven n inputs = all_given n keep i few w s packets all within whole top tokens told (opening_at i) sent
    (λ x h. sent_in_run keep i events (start n) x (subst (λ k. i < k) (sym count) inside) h) in
    let rebuilds = inputs_rebuild p w.sent all tokens (opening_at i) sent within told in
    let again = (sites_are_rebuilt n keep i events all tokens few inside (are_events n events are) within whole told wholly).again in
    record {
      read = all_read_back n top inputs given;
      state = after_records p top inputs (opening_at i) 1 given ∙ rebuilds.0;
      sent = sent_by_records p top inputs (opening_at i) 1 given ∙ ap send_rows (rebuilds.1 ∙ again);
    }
