-- Through every run: two worlds, in one of which a site is made again.
use Rattle.rubis_laws.proofs.Common.{or_right, not-false, ◌≡◌, ◌∙◌, ℕ, List, [], ◌∷◌, Bool, true, false, cond, decimal, not, refl, sym, ap, inl, inr, Option}
use Rattle.rubis_laws.proofs.Common.{Some, None, ◌||◌, Ok, codes, find, is_none, option_and_then, option_map, All, list_any, option_map_or, option_or, All-head}
use Rattle.rubis_laws.proofs.Common.{same_Some, true≢false, IsId, same_id, Decides-same_id, Id, ItemRow, Refusal, BadRecord, Full, NoToken, BadTarget, LastTurn}
use Rattle.rubis_laws.proofs.Common.{NotOurs, NotForMe, BadEvent, InLimits, is_red, refers_of, winner_key, Ask, Shadow, decision, is_due, order_of, refused_or}
use Rattle.rubis_laws.proofs.Common.{shadow_of, Rows, as_item_row, item_in, Standing, granted, ask_of, seller_in, Core, core, cores, as_item, item_at, item_row}
use Rattle.rubis_laws.proofs.Common.{meaning_row, when, Has, HasShadowTexts, IsRequest, Message, RowKey, NewItem, Request, ◌+◌, ◌≤◌, ◌<◌, ◌++◌, length, get_or}
use Rattle.rubis_laws.proofs.Common.{set, subst, ⊎_elim, arith, ◌⊎◌, reverse, filter, nat_lt, slice_set, ◌==◌, Result, Err, cases_lt, cases_eq, cond_both}
use Rattle.rubis_laws.proofs.Common.{and_parts, eqb-true, leb-true, length-set, length-reverse, get_or-set_same, get_or-set_other, Arrival, Happened, Packet}
use Rattle.rubis_laws.proofs.Common.{Sent, Released, after_all, InPlaceOf, Settles, counted, reds, Rest, Release, Place, Replica, opening_at, settled, not_ours}
use Rattle.rubis_laws.proofs.Common.{is_repeat, is_full, after_came, arrived, asked, took, passed, Sound, Room, World, Event, IsEvent, AreEvents, site, place}
use Rattle.rubis_laws.proofs.Common.{with_site, packet_at, sending, at_site, requested, coming, happens, run, start, At, Deliver, has_left, has_right}
use Rattle.rubis_laws.proofs.Common.{has_append, push_cases, has_back, has_reverse, settle_settles, counted_reverse, reds_reverse, append-nil, map, nat_le}
use Rattle.rubis_laws.proofs.Common.{◌&&◌, is_some, unwrap_or, range_with_len, and_from, ltb-true, nat_tests, IsAsk, dep, Taken, Token, row_by_key, not_full}
use Rattle.rubis_laws.proofs.Common.{red_allowed, SameSet, Precedes, Concerns, holding, is_lacking, lacking, next_token, prepared, sends_as, sent_again}
use Rattle.rubis_laws.proofs.Common.{with_token, settle, made, after_made, red_for, issued_after, generating, rows_at, standing_of, answering, has_last}
use Rattle.rubis_laws.proofs.Common.{contained, contains, seq_within, settle_grows}
use Rattle.rubis_schema.specs.Ids.{id_text}
use Rattle.rubis_schema.specs.declared.refusals.Refusal.TheVariants.{RedBehind, NickTaken, NoUser, NoItem, Closed, LowBid, StockShort, NotSeller, OwnItem}
use Rattle.rubis_schema.specs.declared.refusals.Refusal.TheVariants.{NoBuyNow, SelfComment, NoSuchPacket}
use Rattle.rubis_model.specs.Rebuild.{AsksAreReadOff, asked_fields, sooner}
use Rattle.rubis_laws.proofs.Rows.Cores.{core_of, has_core, same_cores}
use Rattle.rubis_laws.proofs.Order.Deciding.{found_at, log_checked, made_dep}
use Rattle.rubis_laws.proofs.Rows.Sets.{Member}
use Rattle.rubis_message.specs.Grammar.{ask_record, shadow_fields}
use Rattle.std.proofs.lemmas.Bool.{lt-ltb, le-ltb, leb-false, eq-eqb, lt-leb, eqb-false, not-true}
use Rattle.rubis_laws.proofs.Runs.Delivering.{counted_most, reds_most, still_ready, ready_forth, empty, rests_run, Had, no_longer, singly_released, number_of}
use Rattle.rubis_laws.proofs.Runs.Delivering.{came_had, arrived_keeps, repeat_had, fewer_than}
use Rattle.rubis_laws.proofs.Runs.SoundSteps.{run_sites, start_sites}
use Rattle.rubis_laws.proofs.Runs.Written.{AllRest, rests_at}
use Rattle.rubis_laws.proofs.Runs.EveryRun.{sound_run, room_of, short}
use Rattle.rubis_model.specs.Site.{counts}
use Rattle.rubis_laws.proofs.Rows.EqualSets.{equal_sets_equal_tables}
use Rattle.rubis_laws.proofs.Rows.FoldIsMeaning.{fold_is_meaning}
use Rattle.rubis_laws.proofs.Order.RunsInOrder.{there, unique}

first_not : (b : Bool) (r : Refusal) (o : Option Refusal) → cond b (Some r) o ≡ None → (b ≡ false) × (o ≡ None)
first_not true r o e = absurd cc
first_not false r o e = (refl, e)

none_found : (p : Refusal → Bool) (xs : List Refusal) → find p xs ≡ None → (r : Refusal) → Has r xs → p r ≡ false
none_found p [] e r h = absurd h
none_found p (x ∷ xs) e r (inl q) = ap p q ∙ (first_not (p x) x (find p xs) e).0
none_found p (x ∷ xs) e r (inr h) = none_found p xs (first_not (p x) x (find p xs) e).1 r h

find_none : (p : Refusal → Bool) (xs : List Refusal) → ((r : Refusal) → Has r xs → p r ≡ false) → find p xs ≡ None
find_none p [] h = refl
find_none p (x ∷ xs) h = ap (λ b. cond b (Some x) (find p xs)) (h x (inl refl)) ∙ find_none p xs (λ r k. h r (inr k))

-- only red asks can be refused for want of the token
abbrev is_for_token : Refusal → Bool
is_for_token NoToken = true
is_for_token r = false

abbrev is_for_behind : Refusal → Bool
is_for_behind RedBehind = true
is_for_behind r = false

any_of : (p : Refusal → Bool) (r : Refusal) (rs : List Refusal) → p r ≡ true → Has r rs → list_any p rs ≡ true
any_of p r [] t h = absurd h
any_of p r (x ∷ rs) t (inl e) = ap (λ b. b || list_any p rs) (ap p (sym e) ∙ t)
any_of p r (x ∷ rs) t (inr h) = or_right (p x) _ (any_of p r rs t h)

token_named : (t : Rows) (a : Ask) → list_any is_for_token (order_of a) ≡ is_red (shadow_of t a)
token_named t (Ask.User n) = refl
token_named t a = refl

behind_named : (t : Rows) (a : Ask) → list_any is_for_behind (order_of a) ≡ is_red (shadow_of t a)
behind_named t (Ask.User n) = refl
behind_named t a = refl

token_red : (t : Rows) (a : Ask) → Has NoToken (order_of a) → is_red (shadow_of t a) ≡ true
token_red t a h = sym (token_named t a) ∙ any_of is_for_token NoToken (order_of a) refl h

behind_red : (t : Rows) (a : Ask) → Has RedBehind (order_of a) → is_red (shadow_of t a) ≡ true
behind_red t a h = sym (behind_named t a) ∙ any_of is_for_behind RedBehind (order_of a) refl h

-- a refusal that wasn't due isn't due where the site stands as well
due_again : (t : Rows) (s : Standing) {u : Standing} (a : Ask) → u.full ≡ false → (is_red (shadow_of t a) ≡ true → (u.holds ≡ true) × (u.current ≡ true))
    → (r : Refusal) → Has r (order_of a) → is_due t s a r ≡ false → is_due t u a r ≡ false
due_again t s a f k Full h e = f
due_again t s a f k NoToken h e = ap not (k (token_red t a h)).0
due_again t s a f k RedBehind h e = ap not (k (behind_red t a h)).1
due_again t s a f k NickTaken h e = e
due_again t s a f k NoUser h e = e
due_again t s a f k NoItem h e = e
due_again t s a f k Closed h e = e
due_again t s a f k LowBid h e = e
due_again t s a f k StockShort h e = e
due_again t s a f k NotSeller h e = e
due_again t s a f k OwnItem h e = e
due_again t s a f k NoBuyNow h e = e
due_again t s a f k SelfComment h e = e
due_again t s a f k BadRecord h e = refl
due_again t s a f k BadTarget h e = refl
due_again t s a f k LastTurn h e = refl
due_again t s a f k NotOurs h e = refl
due_again t s a f k NotForMe h e = refl
due_again t s a f k BadEvent h e = refl
due_again t s a f k NoSuchPacket h e = refl

-- ---- the ask of a shadow is the ask that it was decided for
seller_is : (o : Option ItemRow) {u : Id} (d : Id) → is_none o ≡ false → option_map_or (λ (i : ItemRow). not (same_id u i.seller)) o false ≡ false
    → option_map_or (λ (i : ItemRow). i.seller) o d ≡ u
seller_is None d e f = absurd (true≢false e)
seller_is (Some i) {u} d e f = sym ((Decides-same_id u i.seller).0 (not-false _ f))

-- the messages tell the sellers that the rows tell
abbrev pub TellSellers : List Message → Rows → Type 0
TellSellers all t = (id : Id) (r : ItemRow) → item_in t id ≡ Some r → seller_in all id ≡ r.seller

asked_seller : (o : Option ItemRow) (u s : Id) → is_none o ≡ false → option_map_or (λ (i : ItemRow). not (same_id u i.seller)) o false ≡ false
    → ((r : ItemRow) → o ≡ Some r → s ≡ r.seller) → s ≡ u
asked_seller None u s e f k = absurd (true≢false e)
asked_seller (Some i) u s e f k = k i refl ∙ seller_is (Some i) s e f

pub same_ask : (t : Rows) (s : Standing) (all : List Message) → TellSellers all t → (a : Ask) → find (is_due t s a) (order_of a) ≡ None
    → ask_of all (shadow_of t a) ≡ a
same_ask t s all k (Ask.Close c) e =
    let seller = asked_seller (item_in t c.item) c.seller (seller_in all c.item)
    (none_found (is_due t s (Ask.Close c)) (order_of (Ask.Close c)) e NoItem (inr (inr (inr (inl refl)))))
    (none_found (is_due t s (Ask.Close c)) (order_of (Ask.Close c)) e NotSeller (inr (inr (inr (inr (inl refl)))))) (k c.item) in
    λ j. Ask.Close (record { item = c.item; seller = seller j })
same_ask t s all k (Ask.Restock r) e =
    let seller = asked_seller (item_in t r.item) r.seller (seller_in all r.item)
    (none_found (is_due t s (Ask.Restock r)) (order_of (Ask.Restock r)) e NoItem (inr (inl refl)))
    (none_found (is_due t s (Ask.Restock r)) (order_of (Ask.Restock r)) e NotSeller (inr (inr (inl refl)))) (k r.item) in
    λ j. Ask.Restock (record { item = r.item; seller = seller j; quantity = r.quantity })
same_ask t s all k a e = refl

-- ---- it is read off the message's record, and can be said

pub asks_are_read_off : AsksAreReadOff
asks_are_read_off all m seller same = by m.shadow
  where
    by : (x : Shadow) → ask_record (ask_of all x) ≡ asked_fields seller (shadow_fields x)
    by (Shadow.Close c) = ap (λ t. codes "close" ∷ id_text c.item ∷ t ∷ []) (sym (same c.item))
    by (Shadow.Restock r) = ap (λ t. codes "restock" ∷ id_text r.item ∷ t ∷ decimal r.quantity ∷ []) (sym (same r.item))
    by x = refl

-- where the sellers of the items that it refers to are within the limits
pub ask_in_limits : {sites : ℕ} (all : List Message) (Known : RowKey → Type 0) → ((j : Id) → Known (RowKey.Item j) → IsId sites (seller_in all j))
    → (x : Shadow) → InLimits sites x → HasShadowTexts x → All Known (refers_of x) → IsRequest sites (Request.Ask (ask_of all x))
ask_in_limits all Known seller (Shadow.Close c) h t r = ((h.0, seller c.item (All-head Known (RowKey.Item c.item) (winner_key c.winner) r)), tt)
ask_in_limits all Known seller (Shadow.Restock q) h t r = ((h.0, seller q.item (All-head Known (RowKey.Item q.item) [] r), h.1), tt)
ask_in_limits all Known seller (Shadow.Rename q) h t r = (h.0, t.1)
ask_in_limits all Known seller x h t r = (h, t)

-- ---- it is asked again

pub asks_same : (t : Rows) (s : Standing) (all : List Message) → TellSellers all t → (a : Ask) (x : Shadow) → decision t s a ≡ Ok x → ask_of all x ≡ a
asks_same t s all k a x e = let g = granted t s a x e in ap (ask_of all) (sym g.1) ∙ same_ask t s all k a g.0

-- so it is decided again
pub decided_again : (t : Rows) (s : Standing) {u : Standing} (all : List Message) → TellSellers all t → (a : Ask) (x : Shadow) → decision t s a ≡ Ok x → u.full
    ≡ false → (is_red x ≡ true → (u.holds ≡ true) × (u.current ≡ true)) → decision t u (ask_of all x) ≡ Ok x
decided_again t s {u} all q a x e f k =
    let g = granted t s a x e in
    let none = find_none _ _ (λ r h. due_again t s {u = u} a f (λ b. k (ap is_red (sym g.1) ∙ b)) r h (none_found _ _ g.0 r h)) in
    ap (decision t u) (asks_same t s all q a x e) ∙ ap (λ o. refused_or o (shadow_of t a)) none ∙ ap (λ y. Ok y) g.1

-- ---- the seller in an item's row is that of its message
row_seller : (a : List Core) {id : Id} (t : Rows) → t (RowKey.Item id) ≡ meaning_row a (RowKey.Item id) → (r : ItemRow) → item_in t id ≡ Some r
    → (n : NewItem) × (item_at id a ≡ Some n) × (n.seller ≡ r.seller)
unfolding meaning_row
row_seller a {id} t m r e = by (item_at id a) refl (ap (option_and_then as_item_row) (sym m) ∙ e)
  where
    by : (o : Option NewItem) → item_at id a ≡ o → option_and_then as_item_row (option_map (item_row a id) o) ≡ Some r → (n : NewItem) × (item_at id a ≡ Some n)
        × (n.seller ≡ r.seller)
    by None q h = absurd (cc)
    by (Some n) q h = (n, q, ap (λ (o : Option ItemRow). option_map_or (λ (i : ItemRow). i.seller) o n.seller) h)

first_found : {id : Id} {n : NewItem} (a : List Core) (c : Core) → Member a c → id ≡ c.id → as_item c.shadow ≡ Some n
    → ((d : Core) (k : NewItem) → Member a d → id ≡ d.id → as_item d.shadow ≡ Some k → k ≡ n) → item_at id a ≡ Some n
first_found [] c h i f only = absurd h
first_found {id} {n} (y ∷ a) c h i f only = go (same_id id y.id) refl (as_item y.shadow) refl (λ q. first_found a c q i f (λ d k l. only d k (inr l))) h
  where
    go : (b : Bool) → same_id id y.id ≡ b → (o : Option NewItem) → as_item y.shadow ≡ o → (Member a c → item_at id a ≡ Some n) → Member (y ∷ a) c →
        item_at id (y ∷ a) ≡ Some n
    go true q (Some k) r ih l = (λ j. option_or (when (q j) (r j)) (item_at id a)) ∙ ap (λ z. Some z) (only y k (inl refl) ((Decides-same_id id y.id).0 q) r)
    go true q None r ih (inl e) = absurd (let p : None ≡ Some n = sym r ∙ ap (λ (z : Core). as_item z.shadow) e ∙ f in cc)
    go true q None r ih (inr l) = (λ j. option_or (when (q j) (r j)) (item_at id a)) ∙ ih l
    go false q o r ih (inl e) = absurd (true≢false (sym ((Decides-same_id id y.id).1 (i ∙ sym (ap (λ (z : Core). z.id) e))) ∙ q))
    go false q o r ih (inr l) = ap (λ b. option_or (when b (as_item y.shadow)) (item_at id a)) q ∙ ih l

-- messages with one for each id tell the sellers that the rows of some of them tell
pub tell_sellers : (log all : List Message) (t : Rows) → ((q : RowKey) → t q ≡ meaning_row (cores log) q) → ((m : Message) → Has m log → Has m all)
    → ((u v : Message) → Has u all → Has v all → u.stamp.id ≡ v.stamp.id → u ≡ v) → TellSellers all t
tell_sellers log all t means within single id r e =
    let n = row_seller (cores log) t (means (RowKey.Item id)) r e in
    let f = found_at (λ (c : Core). as_item c.shadow) id (cores log) n.1 in
    let m = core_of f.0 log f.1 in
    let there : Has m.0 all = within m.0 m.1 in
    let at = first_found (cores all) (core m.0) (has_core m.0 all there) (f.2 ∙ ap (λ (c : Core). c.id) (sym m.2))
    (ap (λ (c : Core). as_item c.shadow) m.2 ∙ f.3) (λ d k h i g. let u = core_of d all h in
    let same : u.0 ≡ m.0 = single u.0 m.0 u.1 there (ap (λ (c : Core). c.id) u.2 ∙ sym i ∙ f.2 ∙ ap (λ (c : Core). c.id) (sym m.2)) in
    same_Some k n.0 (sym g ∙ ap (λ (c : Core). as_item c.shadow) (sym u.2) ∙ ap (λ (y : Message). as_item y.shadow) same
    ∙ ap (λ (c : Core). as_item c.shadow) m.2 ∙ f.3)) in
    ap (λ o. option_map_or (λ (i : NewItem). i.seller) o (record { site = 0; seq = 0 })) at ∙ n.2

-- ---- two worlds that differ at one site, and what that site is given

-- ---- an event at a site that there is, or isn't
pub at_inside : (w : World) (j : ℕ) (step : World × Result Happened Refusal) → j < length w.sites → at_site w j step ≡ step
at_inside w j step l = ap (λ b. cond b step (w, Err BadEvent)) (lt-ltb j (length w.sites) l)

pub at_outside : (w : World) (j : ℕ) (step : World × Result Happened Refusal) → length w.sites ≤ j → at_site w j step ≡ (w, Err BadEvent)
at_outside w j step l = ap (λ b. cond b step (w, Err BadEvent)) (le-ltb j (length w.sites) l)

-- ---- the same happens at another site
pub both_set : {i : ℕ} {j : ℕ} {w v : World} {x y : Replica} → j < length w.sites → InPlaceOf i w v → y ≡ x → (q : ℕ) → (q ≡ i → ⊥)
    → get_or (set v.sites j y) q (opening_at 1) ≡ get_or (set w.sites j x) q (opening_at 1)
both_set {j} {w} {v} {x} {y} l k e q n = ⊎_elim (λ p. subst (λ q. get_or (set v.sites j y) q (opening_at 1) ≡ get_or (set w.sites j x) q (opening_at 1)) (sym p)
    (get_or-set_same v.sites j y (opening_at 1) (subst (λ n. j < n) (sym k.sites) l) ∙ e ∙ sym (get_or-set_same w.sites j x (opening_at 1) l)))
    (λ p. get_or-set_other v.sites j q y (opening_at 1) p ∙ k.others q n ∙ sym (get_or-set_other w.sites j q x (opening_at 1) p)) (cases_eq q j)

pub alike_sending : {i : ℕ} {j : ℕ} {w v : World} {x y : Replica} {sent sent' : List Packet} → j < length w.sites → InPlaceOf i w v → y ≡ x → sent' ≡ sent
    → InPlaceOf i (record { sites = slice_set w.sites j x; sent = w.sent ++ sent }) (record { sites = slice_set v.sites j y; sent = v.sent ++ sent' })
alike_sending {j} {w} {v} {x} {y} {sent} l k e f = record {
  sent = λ q. k.sent q ++ f q;
  sites = length-set v.sites j y ∙ k.sites ∙ sym (length-set w.sites j x);
  others = both_set l k e;
}

pub alike_taking : {i : ℕ} {j : ℕ} {w v : World} {x y : Replica} → j < length w.sites → InPlaceOf i w v → y ≡ x
    → InPlaceOf i (with_site w j x) (with_site v j y)
alike_taking {j} {w} {v} {x} {y} l k e = record {
  sent = k.sent;
  sites = length-set v.sites j y ∙ k.sites ∙ sym (length-set w.sites j x);
  others = both_set l k e;
}

module _ (keep i j : ℕ) (w v : World) (n : j ≡ i → ⊥) (k : InPlaceOf i w v) (l : j < length w.sites) where
  same_place : place keep v j ≡ place keep w j
  same_place = λ q. record { site = j; sites = k.sites q; keep = keep }

  alike_requested : (r : Request) → InPlaceOf i (requested keep w j r).0 (requested keep v j r).0
  alike_requested (Request.Ask a) =
      let e : asked (place keep v j) (site v j) a ≡ asked (place keep w j) (site w j) a = λ q. asked (same_place q) (k.others j n q) a in
      alike_sending l k (λ q. (e q).0)
      (λ q. sending Packet.Msg (e q).1)
  alike_requested (Request.Pass to) =
      let e : passed (place keep v j) (site v j) to ≡ passed (place keep w j) (site w j) to = λ q. passed (same_place q) (k.others j n q) to in
      alike_sending l k (λ q. (e q).0)
      (λ q. sending Packet.Token (e q).1)
  alike_requested (Request.List x) = k

  alike_coming : (o : Option Packet) → InPlaceOf i (coming keep w j o).0 (coming keep v j o).0
  alike_coming None = k
  alike_coming (Some (Packet.Msg m)) = alike_taking l k (λ q. (arrived (same_place q) (k.others j n q) m).0)
  alike_coming (Some (Packet.Token t)) = alike_taking l k (λ q. (took (same_place q) (k.others j n q) t).0)

abbrev pub site_of : Event → ℕ
site_of (At j r) = j
site_of (Deliver j k) = j

alike_at : {i : ℕ} {j : ℕ} {w v : World} (a b : World × Result Happened Refusal) → InPlaceOf i w v → (j < length w.sites → InPlaceOf i a.0 b.0)
    → InPlaceOf i (at_site w j a).0 (at_site v j b).0
alike_at {i} {j} {w} {v} a b k h = ⊎_elim (λ l. subst (λ (x : World × Result Happened Refusal). InPlaceOf i x.0 (at_site v j b).0) (sym (at_inside w j a l))
    (subst (λ (x : World × Result Happened Refusal). InPlaceOf i a.0 x.0) (sym (at_inside v j b (subst (λ n. j < n) (sym k.sites) l))) (h l)))
    (λ l. subst (λ (x : World × Result Happened Refusal). InPlaceOf i x.0 (at_site v j b).0) (sym (at_outside w j a l))
    (subst (λ (x : World × Result Happened Refusal). InPlaceOf i w x.0) (sym (at_outside v j b (subst (λ n. n ≤ j) (sym k.sites) l))) k))
    (cases_lt j (length w.sites))

pub alike_event : (keep : ℕ) {i : ℕ} {w v : World} (e : Event) → (site_of e ≡ i → ⊥) → InPlaceOf i w v → InPlaceOf i (happens keep w e).0 (happens keep v e).0
alike_event keep {i} {w} {v} (At j r) n k = alike_at (requested keep w j r) (requested keep v j r) k (λ l. alike_requested keep i j w v n k l r)
alike_event keep {i} {w} {v} (Deliver j q) n k = alike_at _ _ k (λ l. subst
    (λ ps. InPlaceOf i (coming keep w j (packet_at w.sent q)).0 (coming keep v j (packet_at ps q)).0) (sym k.sent) (alike_coming keep i j w v n k l _))

-- other states at site i, and the same sent
pub alike_both : {i : ℕ} {w v : World} (x y : Replica) {sent sent' : List Packet} → InPlaceOf i w v → sent' ≡ sent
    → InPlaceOf i (record { sites = slice_set w.sites i x; sent = w.sent ++ sent }) (record { sites = slice_set v.sites i y; sent = v.sent ++ sent' })
alike_both {i} {w} {v} x y k f = record {
  sent = λ q. k.sent q ++ f q;
  sites = length-set v.sites i y ∙ k.sites ∙ sym (length-set w.sites i x);
  others = λ q n. get_or-set_other v.sites i q y (opening_at 1) n ∙ k.others q n ∙ sym (get_or-set_other w.sites i q x (opening_at 1) n);
}

-- another state at site i
pub alike_there : {i : ℕ} {w v : World} (y : Replica) → InPlaceOf i w v → InPlaceOf i w (with_site v i y)
alike_there {i} {v} y k = record {
  sent = k.sent;
  sites = length-set v.sites i y ∙ k.sites;
  others = λ q n. get_or-set_other v.sites i q y (opening_at 1) n ∙ k.others q n;
}

pub alike_here : {i : ℕ} {w v : World} (x : Replica) → InPlaceOf i w v → InPlaceOf i (with_site w i x) v
alike_here {i} {w} x k = record {
  sent = k.sent;
  sites = k.sites ∙ sym (length-set w.sites i x);
  others = λ q n. k.others q n ∙ sym (get_or-set_other w.sites i q x (opening_at 1) n);
}

-- ---- worlds of runs
pub record Reached (n keep : ℕ) (v : World) : Type 0 where
  pub some : 1 ≤ n
  pub few : keep ≤ 1000000
  pub events : List Event
  pub are : AreEvents n events
  pub is : run keep events (start n) ≡ v

run_push : (keep : ℕ) (es : List Event) (e : Event) (w : World) → run keep (es ++ e ∷ []) w ≡ (happens keep (run keep es w) e).0
run_push keep [] e w = refl
run_push keep (x ∷ es) e w = run_push keep es e (happens keep w x).0

are_push : (n : ℕ) (es : List Event) (e : Event) → AreEvents n es → IsEvent n e → AreEvents n (es ++ e ∷ [])
are_push n [] e a b = (b, tt)
are_push n (x ∷ es) e a b = (a.0, are_push n es e a.1 b)

pub reach_on : {n keep : ℕ} {v : World} (e : Event) → Reached n keep v → IsEvent n e → Reached n keep (happens keep v e).0
reach_on {n} {keep} e r a = record {
  some = r.some;
  few = r.few;
  events = r.events ++ e ∷ [];
  are = are_push n r.events e r.are a;
  is = run_push keep r.events e (start n) ∙ ap (λ w. (happens keep w e).0) r.is;
}

module _ {n keep : ℕ} {v : World} (r : Reached n keep v) where
  pub sound_of : Sound v
  sound_of = subst Sound r.is (sound_run r.events r.some r.few r.are)

  pub rest_of : AllRest v
  rest_of = subst AllRest r.is (rests_run r.events r.some r.few r.are)

  pub room_in : Room keep v
  room_in = subst (Room keep) r.is (room_of n keep r.events)

  pub sites_of_run : length v.sites ≡ n
  sites_of_run = subst (λ x. length x.sites ≡ n) r.is (run_sites keep r.events (start n) ∙ start_sites n)

-- ---- lists
filtered_by : (f : Message → Bool) (u x : Message) (xs : List Message) (b : Bool) → f x ≡ b → (Has u (filter f xs) → Has u xs × (f u ≡ true))
    → Has u (cond b (x ∷ filter f xs) (filter f xs)) → Has u (x ∷ xs) × (f u ≡ true)
filtered_by f u x xs true e k (inl q) = (inl q, ap f q ∙ e)
filtered_by f u x xs true e k (inr q) = (inr (k q).0, (k q).1)
filtered_by f u x xs false e k q = (inr (k q).0, (k q).1)

pub filter_has : (f : Message → Bool) (u : Message) (xs : List Message) → Has u (filter f xs) → Has u xs × (f u ≡ true)
filter_has f u [] h = absurd h
filter_has f u (x ∷ xs) h = filtered_by f u x xs (f x) refl (filter_has f u xs) h

in_either : (u x : Message) (ys : List Message) (b : Bool) → Has u ys → Has u (cond b (x ∷ ys) ys)
in_either u x ys true h = inr h
in_either u x ys false h = h

pub has_filter : (f : Message → Bool) (u : Message) (xs : List Message) → Has u xs → f u ≡ true → Has u (filter f xs)
has_filter f u [] h e = absurd h
has_filter f u (x ∷ xs) (inl q) e = subst (λ b. Has u (cond b (x ∷ filter f xs) (filter f xs))) (sym (ap f (sym q) ∙ e)) (inl q)
has_filter f u (x ∷ xs) (inr h) e = in_either u x (filter f xs) (f x) (has_filter f u xs h e)

pub same_counts : (a b : List Message) → Released (reverse a) → Released (reverse b) → ((x : Message) → Has x a → Has x b) → ((x : Message) → Has x b → Has x a)
    → (j : ℕ) → counted j a ≡ counted j b
same_counts a b ra rb f g j =
    let p = counted_most (reverse a) (reverse b) ra rb (λ x h. has_back x b (f x (has_reverse x a h))) j in
    let q = counted_most (reverse b) (reverse a) rb ra (λ x h. has_back x a (g x (has_reverse x b h))) j in
    omega (arith, p, q, counted_reverse j a, counted_reverse j b)

pub same_reds : (a b : List Message) → Released (reverse a) → Released (reverse b) → ((x : Message) → Has x a → Has x b) → ((x : Message) → Has x b → Has x a)
    → reds a ≡ reds b
same_reds a b ra rb f g =
    let p = reds_most (reverse a) (reverse b) ra rb (λ x h. has_back x b (f x (has_reverse x a h))) in
    let q = reds_most (reverse b) (reverse a) rb ra (λ x h. has_back x a (g x (has_reverse x b h))) in
    omega (arith, p, q, reds_reverse a, reds_reverse b)

pub at_most : (a b : List Message) → Released (reverse a) → ((x : Message) → Has x a → Has x b) → length a ≤ length b
at_most a b ra f =
    let l = no_longer (reverse a) b (singly_released (reverse a) ra) (λ x h. f x (has_reverse x a h)) in
    omega (arith, l, length-reverse a)

-- ---- nothing is had that didn't come
settles_from : (m : Message) {log waiting log' waiting' : List Message} → Settles log waiting log' waiting' → Has m log' ⊎ Has m waiting'
    → Has m log ⊎ Has m waiting
settles_from m (Rest log waiting n) h = h
settles_from m (Release log front back log' waiting' u n r s) h =
    ⊎_elim logs (λ k. inr (between k)) (settles_from m s h)
  where
    logs : Has m (log ++ u ∷ []) → Has m log ⊎ Has m (front ++ u ∷ back)
    logs k = ⊎_elim (λ l. inl l) (λ e. inr (has_right m front (u ∷ back) (inl e))) (push_cases m u log k)

    between : Has m (front ++ back) → Has m (front ++ u ∷ back)
    between k = ⊎_elim (λ l. has_left m front (u ∷ back) l) (λ q. has_right m front (u ∷ back) (inr q)) (has_append m front back k)

pub settled_from : (s : Replica) (m : Message) → Had (settled s) m → Had s m
settled_from s m h = settles_from m (settle_settles (length s.waiting) s.log s.waiting (omega arith)) h

came_from : (s : Replica) (m u : Message) → Had (after_came s m) u → Had s u ⊎ (u ≡ m)
came_from s m u h = ⊎_elim (λ l. inl (inl l)) (λ q. ⊎_elim (λ k. inl (inr k)) (λ e. inr e) (push_cases u m s.waiting q))
    (settled_from (record s { waiting = s.waiting ++ m ∷ [] }) u h)

-- ---- a message arrives
abbrev Takes : Place → Replica → Message → (Replica → Type 0) → Type 0
Takes p s m P = P (arrived p s m).0

pub arriving : (p : Place) {s : Replica} (m : Message) (P : Replica → Type 0) → P s → P (after_came s m) → P (arrived p s m).0
arriving p {s} m P old new = cond_both (not_ours p s m) (s, Err NotOurs) _ (λ (q : Replica × Result Arrival Refusal). P q.0) (λ _. old)
    (λ _. cond_both (is_repeat s m) (s, Ok Arrival.Repeat) _ (λ (q : Replica × Result Arrival Refusal). P q.0) (λ _. old)
    (λ _. cond_both (is_full p.keep s) (s, Err Full) _ (λ (q : Replica × Result Arrival Refusal). P q.0) (λ _. old) (λ _. new)))

pub arrived_from : (p : Place) (s : Replica) (m u : Message) → Had (arrived p s m).0 u → Had s u ⊎ (u ≡ m)
arrived_from p s m u = arriving p {s = s} m (λ x. Had x u → Had s u ⊎ (u ≡ m)) (λ h. inl h) (came_from s m u)

pub arrived_token : (p : Place) (s : Replica) (m : Message) → ((arrived p s m).0.held ≡ s.held) × ((arrived p s m).0.last ≡ s.last)
arrived_token p s m = arriving p {s = s} m (λ x. (x.held ≡ s.held) × (x.last ≡ s.last)) (refl, refl) (refl, refl)

-- ---- the site that is rebuilt is given messages

-- v is a world of a run that is w with another state at site i, which has no more than site i of w has in its log
pub record Fed (n keep i : ℕ) (w v : World) : Type 0 where
  pub reached : Reached n keep v
  pub alike : InPlaceOf i w v
  pub within : (u : Message) → Had (site v i) u → Has u (site w i).log

abbrev pub spot : ℕ → ℕ → ℕ → Place
spot n keep i = record { site = i; sites = n; keep = keep }

-- what comes of giving it these messages
pub record Gave (n keep i : ℕ) (w v : World) (us : List Message) : Type 0 where
  pub next : World
  pub fed : Fed n keep i w next
  pub state : site next i ≡ after_all (spot n keep i) (site v i) us
  pub had : (x : Message) → Has x us ⊎ Had (site v i) x → Had (site next i) x
  pub held : (site next i).held ≡ (site v i).held
  pub last : (site next i).last ≡ (site v i).last

-- the site has all that site i of w has in its log, and nothing waits
pub record HasCaughtUp (i : ℕ) (w v : World) : Type 0 where
  pub there : (u : Message) → Has u (site w i).log → Has u (site v i).log
  pub none_waits : (site v i).waiting ≡ []

module _ {n keep i : ℕ} (inside : i < n) where
  pub at_place : {v : World} → Reached n keep v → place keep v i ≡ spot n keep i
  at_place {v} r = λ q. record { site = i; sites = sites_of_run r q; keep = keep }

  is_within : (v : World) → Reached n keep v → i < length v.sites
  is_within v r = subst (λ k. i < k) (sym (sites_of_run r)) inside

  -- a packet that was sent is delivered to the site
  pub delivering : {v : World} (p : Packet) → Reached n keep v → Has p v.sent → Reached n keep (coming keep v i (Some p)).0
  delivering {v} p r h =
      let k = number_of p v.sent h in
      subst (Reached n keep)
      (ap (λ (x : World × Result Happened Refusal). x.0) (at_inside v i (coming keep v i (packet_at v.sent k.0)) (is_within v r))
      ∙ ap (λ o. (coming keep v i o).0) k.1)
      (reach_on (Deliver i k.0) r tt)

  pub site_set : {v : World} (x : Replica) → Reached n keep v → site (with_site v i x) i ≡ x
  site_set {v} x r = get_or-set_same v.sites i x (opening_at 1) (is_within v r)

module _ {n keep i : ℕ} {w : World} (inside : i < n) (room : length (site w i).log < keep) where
  taken_in : {v : World} (u : Message) → Fed n keep i w v → Sent v u → Has u (site w i).log → (u.stamp.id.site ≡ i → ⊥)
      → Had (arrived (place keep v i) (site v i) u).0 u
  taken_in {v} u f a h not_own =
      let s = sound_of f.reached in
      let r = rest_of f.reached in
      cond_both (not_ours (place keep v i) (site v i) u) (site v i, Err NotOurs) _ (λ (q : Replica × Result Arrival Refusal). Had q.0 u)
      (λ e. absurd (not_own (eqb-true u.stamp.id.site i (and_parts (u.stamp.id.site == i) (nat_lt (counted i (site v i).log) u.stamp.id.seq) e).0)))
      (λ _. cond_both (is_repeat (site v i) u) (site v i, Ok Arrival.Repeat) _ (λ (q : Replica × Result Arrival Refusal). Had q.0 u)
      (λ e. repeat_had v s r i u a e)
      (λ new. cond_both (is_full keep (site v i)) (site v i, Err Full) _ (λ (q : Replica × Result Arrival Refusal). Had q.0 u)
      (λ e. absurd (let k = leb-true keep (length (site v i).log + length (site v i).waiting) e in let l = fewer_than i u (site w i).log s r f.within h new in
      omega (arith, k, l, room)))
      (λ _. came_had (site v i) (inr refl))))

  give_one : {v : World} (u : Message) → Fed n keep i w v → Sent w u → Has u (site w i).log → (u.stamp.id.site ≡ i → ⊥) → Gave n keep i w v (u ∷ [])
  give_one {v} u f a h not_own =
      let b : Sent v u = subst (Has (Packet.Msg u)) (sym f.alike.sent) a in
      let x : Replica = (arrived (place keep v i) (site v i) u).0 in
      let e : site (with_site v i x) i ≡ x = site_set inside x f.reached in record {
        next = with_site v i x;
        fed = record {
          reached = delivering inside (Packet.Msg u) f.reached b;
          alike = alike_there x f.alike;
          within = λ y k. ⊎_elim (λ q. f.within y q) (λ q. subst (λ m. Has m (site w i).log) (sym q) h)
              (arrived_from (place keep v i) (site v i) u y (subst (λ q. Had q y) e k));
        };
        state = e ∙ ap (λ p. (arrived p (site v i) u).0) (at_place inside f.reached);
        had = λ y k. subst (λ q. Had q y) (sym e) (⊎_elim (λ q. ⊎_elim (λ c. subst (Had x) (sym c) (taken_in u f b h not_own)) (λ c. absurd c) q)
            (λ q. arrived_keeps (place keep v i) (site v i) u y q) k);
        held = ap (λ (q : Replica). q.held) e ∙ (arrived_token (place keep v i) (site v i) u).0;
        last = ap (λ (q : Replica). q.last) e ∙ (arrived_token (place keep v i) (site v i) u).1;
      }

  pub give_all : (us : List Message) {v : World} → Fed n keep i w v
      → ((u : Message) → Has u us → Sent w u × Has u (site w i).log × (u.stamp.id.site ≡ i → ⊥)) → Gave n keep i w v us
  give_all [] {v} f each = record { next = v; fed = f; state = refl; had = λ x h. ⊎_elim (λ z. absurd z) (λ k. k) h; held = refl; last = refl }
  give_all (u ∷ us) f each =
      let e = each u (inl refl) in
      let g = give_one u f e.0 e.1 e.2 in
      let k = give_all us g.fed (λ x h. each x (inr h)) in record {
        next = k.next;
        fed = k.fed;
        state = k.state ∙ ap (λ s. after_all (spot n keep i) s us) g.state;
        had = λ x h. ⊎_elim (λ q. ⊎_elim (λ c. k.had x (inr (g.had x (inl (inl c))))) (λ c. k.had x (inl c)) q) (λ q. k.had x (inr (g.had x (inr q)))) h;
        held = k.held ∙ g.held;
        last = k.last ∙ g.last;
      }

-- once it had all of the log it has released it
module _ {n keep i : ℕ} {w v : World} (f : Fed n keep i w v) where
  sound_there : Sound v
  sound_there = sound_of f.reached

  rest_there : AllRest v
  rest_there = rest_of f.reached

  one_there : (past : List Message) (m : Message) → Released (m ∷ past) → Sent v m → ((x : Message) → Has x past → Has x (reverse (site v i).log)) →
      Had (site v i) m
      → Has m (reverse (site v i).log)
  one_there past m p a within had = ⊎_elim (λ h. has_back m _ h) (λ h. absurd ((rests_at v i rest_there).unready m h (ready_forth _ (still_ready sound_there p
      (sound_there.good i).released (sound_there.good i).log_sent a within (λ l. (rests_at v i rest_there).apart.not_logged m h (has_reverse m _ l)))))) had

  past_there : (past : List Message) → Released past → ((x : Message) → Has x past → Sent v x) → ((x : Message) → Has x past → Had (site v i) x)
      → (x : Message) → Has x past → Has x (reverse (site v i).log)
  past_there [] p all had x h = absurd h
  past_there (m ∷ past) p all had x (inl e) =
      subst (λ q. Has q (reverse (site v i).log)) (sym e)
      (one_there past m p (all m (inl refl)) (past_there past p.1 (λ y k. all y (inr k)) (λ y k. had y (inr k))) (had m (inl refl)))
  past_there (m ∷ past) p all had x (inr h) = past_there past p.1 (λ y k. all y (inr k)) (λ y k. had y (inr k)) x h

  pub caught_up : Reached n keep w → ((u : Message) → Has u (site w i).log → Had (site v i) u) → HasCaughtUp i w v
  caught_up rw had = record {
    there = there;
    none_waits = empty (site v i).waiting (λ x h. (rests_at v i rest_there).apart.not_logged x h (there x (f.within x (inr h))));
  }
    where
      sw : Sound w
      sw = sound_of rw

      there : (u : Message) → Has u (site w i).log → Has u (site v i).log
      there u h = has_reverse u _ (past_there _ (sw.good i).released (λ x k. subst (Has (Packet.Msg x)) (sym f.alike.sent) ((sw.good i).log_sent x k))
          (λ x k. had x (has_reverse x _ k)) u (has_back u _ h))

-- ---- a site is rebuilt: it sends again what it had sent

-- ---- the next token

-- it is for site i, new, and of those the first; or there is none
abbrev Least : ℕ → ℕ → List Token → Option Token → Type 0
Least i last ts None = (u : Token) → Has u ts → u.to ≡ i → last < u.turn → ⊥
Least i last ts (Some t) = Has t ts × (t.to ≡ i) × (last < t.turn) × ((u : Token) → Has u ts → u.to ≡ i → last < u.turn → t.turn ≤ u.turn)

turn_same : {u t : Token} → u ≡ t → u.turn ≡ t.turn
turn_same e = ap (λ (x : Token). x.turn) e

tested : {a b : ℕ} {c d : ℕ} → a ≡ b → c < d → ((a == b) && nat_lt c d) ≡ true
tested {a} {b} {c} {d} q l = and_from (a == b) (nat_lt c d) (grind (arith, nat_tests)) (grind (arith, nat_tests))

least_of : {i : ℕ} (last : ℕ) (t u : Token) (ts : List Token) → (t.to ≡ i) × (last < t.turn) → Least i last ts (Some u) → (b : Bool) → nat_le t.turn u.turn ≡ b
    → Least i last (t ∷ ts) (Some (cond b t u))
least_of last t u ts p k true e =
    let l = leb-true t.turn u.turn e in
    (inl refl, p.0, p.1, λ x h a c. ⊎_elim (λ q. omega (arith, turn_same q)) (λ q. let d = k.3 x q a c in omega (arith, l, d)) h)
least_of last t u ts p k false e =
    let l = leb-false t.turn u.turn e in
    (inr k.0, k.1, k.2, λ x h a c. ⊎_elim (λ q. omega (arith, turn_same q, l)) (λ q. k.3 x q a c) h)

least_by : (i last : ℕ) (t : Token) (ts : List Token) (b : Bool) → ((t.to == i) && nat_lt last t.turn) ≡ b → (o : Option Token) → Least i last ts o
    → Least i last (t ∷ ts) (cond b (Some (sooner t o)) o)
least_by i last t ts true e None k =
    let p = and_parts (t.to == i) (nat_lt last t.turn) e in
    (inl refl, eqb-true t.to i p.0, ltb-true last t.turn p.1, λ x h a c. ⊎_elim (λ q. omega (arith, turn_same q)) (λ q. absurd (k x q a c)) h)
least_by i last t ts true e (Some u) k =
    let p = and_parts (t.to == i) (nat_lt last t.turn) e in
    least_of last t u ts (eqb-true t.to i p.0, ltb-true last t.turn p.1) k (nat_le t.turn u.turn) refl
least_by i last t ts false e None k = λ x h a c. ⊎_elim
    (λ q. true≢false (sym (tested (ap (λ (y : Token). y.to) (sym q) ∙ a) (subst (λ (y : Token). last < y.turn) q c)) ∙ e)) (λ q. k x q a c) h
least_by i last t ts false e (Some u) k = (
  inr k.0,
  k.1,
  k.2,
  λ x h a c. ⊎_elim (λ q. absurd (true≢false (sym (tested (ap (λ (y : Token). y.to) (sym q) ∙ a) (subst (λ (y : Token). last < y.turn) q c)) ∙ e)))
      (λ q. k.3 x q a c) h,
)

least : (i last : ℕ) (ts : List Token) → Least i last ts (next_token i last ts)
least i last [] = λ u h. absurd h
least i last (t ∷ ts) = least_by i last t ts ((t.to == i) && nat_lt last t.turn) refl (next_token i last ts) (least i last ts)

pub next_is : (i : ℕ) {last : ℕ} (ts : List Token) {t : Token} → next_token i last ts ≡ Some t → Has t ts × (t.to ≡ i) × (last < t.turn)
next_is i {last} ts e = let k = subst (Least i last ts) e (least i last ts) in (k.0, k.1, k.2)

pub next_one : {i : ℕ} (last : ℕ) (ts : List Token) (t : Token) → Has t ts → t.to ≡ i → last < t.turn
    → ((u : Token) → Has u ts → u.to ≡ i → last < u.turn → (u ≡ t) ⊎ (t.turn < u.turn)) → next_token i last ts ≡ Some t
next_one {i} last ts t h to late only = by (next_token i last ts) (least i last ts)
  where
    by : (o : Option Token) → Least i last ts o → o ≡ Some t
    by None k = absurd (k t h to late)
    by (Some x) k = ⊎_elim (λ e. ap (λ y. Some y) e) (λ l. absurd (let d = k.3 t h to late in omega (arith, l, d))) (only x k.0 k.1 k.2)

-- ---- the token of the rebuilt site
-- it wasn't given the token yet that the other has
pub record IsBehind (i : ℕ) (r s : Replica) (sent : List Packet) (tokens : List Token) : Type 0 where
  pub token : Token
  pub was : Has (Packet.Token token) sent
  pub next : next_token i r.last tokens ≡ Some token
  pub unheld : r.held ≡ None
  pub held : s.held ≡ Some token.issued
  pub last : s.last ≡ token.turn

abbrev pub TokenKept : ℕ → Replica → Replica → List Packet → List Token → Type 0
TokenKept i r s sent tokens = ((r.held ≡ s.held) × (r.last ≡ s.last)) ⊎ IsBehind i r s sent tokens

pub kept_same : (i : ℕ) {r r' s s' : Replica} {sent : List Packet} (more : List Packet) {tokens : List Token} → r'.held ≡ r.held → r'.last ≡ r.last → s'.held
    ≡ s.held → s'.last ≡ s.last → TokenKept i r s sent tokens → TokenKept i r' s' (sent ++ more) tokens
kept_same i more rh rl sh sl (inl k) = inl (rh ∙ k.0 ∙ sym sh, rl ∙ k.1 ∙ sym sl)
kept_same i {sent} more {tokens} rh rl sh sl (inr b) = inr (record {
  token = b.token;
  was = has_left (Packet.Token b.token) sent more b.was;
  next = ap (λ l. next_token i l tokens) rl ∙ b.next;
  unheld = rh ∙ b.unheld;
  held = sh ∙ b.held;
  last = sl ∙ b.last;
})

pub kept_here : (i : ℕ) (r r' s s' : Replica) (sent : List Packet) (tokens : List Token) → r'.held ≡ r.held → r'.last ≡ r.last → s'.held ≡ s.held
    → s'.last ≡ s.last → TokenKept i r s sent tokens → TokenKept i r' s' sent tokens
kept_here i r r' s s' sent tokens rh rl sh sl k = subst (λ ps. TokenKept i r' s' ps tokens) (append-nil sent) (kept_same i [] rh rl sh sl k)

took_new : (p : Place) (s : Replica) (t : Token) → t.to ≡ p.site → s.last < t.turn → (took p s t).0 ≡ record s { held = Some t.issued; last = t.turn }
took_new p s t e l =
    ap (λ b. (cond {A = Replica × Result Taken Refusal} b (s, Err NotForMe)
    (cond (nat_le t.turn s.last) (s, Ok Taken.Repeat) (record s { held = Some t.issued; last = t.turn }, Ok Taken.Holding))).0) (ap not (eq-eqb t.to p.site e))
    ∙ ap (λ b. (cond {A = Replica × Result Taken Refusal} b (s, Ok Taken.Repeat) (record s { held = Some t.issued; last = t.turn }, Ok Taken.Holding)).0)
    (lt-leb t.turn s.last l)

-- what comes of giving it the token, where the other has it
pub record Holds (n keep i : ℕ) (w v : World) (tokens : List Token) : Type 0 where
  pub next : World
  pub fed : Fed n keep i w next
  pub state : site next i ≡ holding (spot n keep i) tokens (site v i)
  pub log : (site next i).log ≡ (site v i).log
  pub waiting : (site next i).waiting ≡ (site v i).waiting
  pub held : (site next i).held ≡ (site w i).held
  pub last : (site next i).last ≡ (site w i).last

module _ {n keep i : ℕ} (inside : i < n) {w v : World} (f : Fed n keep i w v) {tokens : List Token} {issued : ℕ} (e : (site w i).held ≡ Some issued) where
  pub hold_token : TokenKept i (site v i) (site w i) w.sent tokens → Holds n keep i w v tokens
  hold_token (inl k) = record {
    next = v;
    fed = f;
    state = sym (ap (λ b. cond b (site v i) (with_token (spot n keep i) (site v i) (next_token i (site v i).last tokens))) (ap is_some (k.0 ∙ e)));
    log = refl;
    waiting = refl;
    held = k.0;
    last = k.1;
  }
  hold_token (inr b) =
      let t = b.token in
      let q = next_is i tokens b.next in
      let x : Replica = (took (place keep v i) (site v i) t).0 in
      let new : x ≡ record (site v i) { held = Some t.issued; last = t.turn } = took_new (place keep v i) (site v i) t q.1 q.2 in
      let at : site (with_site v i x) i ≡ x = site_set inside x f.reached in
      let is : site (with_site v i x) i ≡ record (site v i) { held = Some t.issued; last = t.turn } = at ∙ new in record {
        next = with_site v i x;
        fed = record {
          reached = delivering inside (Packet.Token t) f.reached (subst (Has (Packet.Token t)) (sym f.alike.sent) b.was);
          alike = alike_there x f.alike;
          within = λ y k. f.within y (subst (λ s. Had s y) is k);
        };
        state = at ∙ ap (λ p. (took p (site v i) t).0) (at_place inside f.reached) ∙ ap (λ o. with_token (spot n keep i) (site v i) o) (sym
            b.next) ∙ ap (λ b. cond b (site v i) (with_token (spot n keep i) (site v i) (next_token i (site v i).last tokens))) (sym (ap is_some b.unheld));
        log = ap (λ (s : Replica). s.log) is;
        waiting = ap (λ (s : Replica). s.waiting) is;
        held = ap (λ (s : Replica). s.held) is ∙ sym b.held;
        last = ap (λ (s : Replica). s.last) is ∙ sym b.last;
      }

-- ---- the rebuilt site on its way

-- v is w with the rebuilt site in place of site i, as it is after the last packet that site i sent
pub record Follows (n keep i : ℕ) (tokens : List Token) (w v : World) : Type 0 where
  pub fed : Fed n keep i w v
  pub none_waits : (site v i).waiting ≡ []
  pub token : TokenKept i (site v i) (site w i) w.sent tokens
  pub before : (u : Message) → Has u (site v i).log → (u.stamp.id.site ≡ i) ⊎ ((m : Message) × Sent w m × (m.stamp.id.site ≡ i) × Precedes u m)

-- what comes of one packet more
pub record Stepped (n keep i : ℕ) (w' v : World) (tokens : List Token) (all : List Message) (x : Packet) : Type 0 where
  pub next : World
  pub follows : Follows n keep i tokens w' next
  pub again : sent_again (spot n keep i) tokens all (site v i) x ≡ (site next i, x ∷ [])

-- it has what the message counts, and the token if that is red
pub record IsPrepared (n keep i : ℕ) (w v : World) (tokens : List Token) (all : List Message) (m : Message) : Type 0 where
  pub next : World
  pub fed : Fed n keep i w next
  pub caught : HasCaughtUp i w next
  pub state : site next i ≡ prepared (spot n keep i) tokens all (site v i) m
  pub red : is_red m.shadow ≡ true → ((site next i).held ≡ (site w i).held) × ((site next i).last ≡ (site w i).last)
  pub token : TokenKept i (site next i) (site w i) w.sent tokens

some_of : (o : Option ℕ) → is_some o ≡ true → (k : ℕ) × (o ≡ Some k)
some_of None e = absurd (true≢false (sym e))
some_of (Some k) e = (k, refl)

under : (keep a b : ℕ) → nat_le keep (a + b) ≡ false → a < keep
under keep a b e = grind (arith, nat_tests)

lacks : (a i c s d : ℕ) → (a ≡ i → ⊥) → c < s → s ≤ d → (not (a == i) && (nat_lt c s && nat_le s d)) ≡ true
lacks a i c s d n l m =
    and_from (not (a == i)) (nat_lt c s && nat_le s d) (grind (arith, nat_tests))
    (and_from (nat_lt c s) (nat_le s d) (grind (arith, nat_tests)) (grind (arith, nat_tests)))

-- these are messages of the final world, and all that concern site i
abbrev pub Streams : ℕ → World → List Message → Type 0
Streams i final all = ((m : Message) → Has m all → Sent final m) × ((m : Message) → Sent final m → Concerns i final m → Has m all)

module _ {n keep i : ℕ} (inside : i < n) {final : World} (rf : Reached n keep final) (all : List Message) (streams : Streams i final all) {tokens : List Token}
    {w v : World} (rw : Reached n keep w) (k : Follows n keep i tokens w v) (later : List Packet) (grown : final.sent ≡ w.sent ++ later) where
  sw : Sound w
  sw = sound_of rw

  sv : Sound v
  sv = sound_of k.fed.reached

  on : (u : Message) → Sent w u → Sent final u
  on u h = subst (Has (Packet.Msg u)) (sym grown) (has_left (Packet.Msg u) w.sent later h)

  over : (u : Message) → Sent w u → Sent v u
  over u h = subst (Has (Packet.Msg u)) (sym k.fed.alike.sent) h

  logged : (u : Message) → Has u (site w i).log → Sent w u
  logged u h = (sw.good i).log_sent u (has_back u (site w i).log h)

  module _ (a : Ask) {x : Shadow} (e : decision (rows_at (site w i).log) (standing_of keep (site w i)) a ≡ Ok x)
      (was : Sent final (made (place keep w i) (site w i) x)) where
    -- the message that is made, and what the rebuilt site lacks of those that it counts
    abbrev mine : Message
    mine = made (place keep w i) (site w i) x

    abbrev missed : List Message
    missed = lacking i (site v i).log mine all

    room : length (site w i).log < keep
    room = under keep (length (site w i).log) (length (site w i).waiting) (not_full (rows_at (site w i).log) (standing_of keep (site w i)) a x e)

    dep_is : (j : ℕ) → dep mine j ≡ counted j (site w i).log
    dep_is j = made_dep (place keep w i) (site w i) x (λ u h. sw.home.origin u ((sw.good i).log_sent u h)) j

    -- what the site has is counted by the message that it makes
    concerns : (u : Message) → Has u (site w i).log → Concerns i final u
    concerns u h =
        let c = (seq_within (reverse (site w i).log) u (sw.good i).released (has_back u (site w i).log h)).1 in
        inr (mine, was, refl, omega (arith, c, dep_is u.stamp.id.site, counted_reverse u.stamp.id.site (site w i).log))

    -- the messages tell the sellers that the rows of the site tell
    pub sellers_told : TellSellers all (rows_at (site w i).log)
    sellers_told =
        let sf = sound_of rf in
        tell_sellers (site w i).log all (rows_at (site w i).log)
        (λ q. (fold_is_meaning (cores (site w i).log) (log_checked i sw) (short {keep = keep} w i rw.few (room_in rw))).0.rows q)
        (λ m h. streams.1 m (on m (logged m h)) (concerns m h))
        (λ u y a b e. unique {u = u} {v = y} sf (streams.0 u a) (streams.0 y b) (ap (λ c. c.site) e) (ap (λ c. c.seq) e))

    each : (u : Message) → Has u missed → Sent w u × Has u (site w i).log × (u.stamp.id.site ≡ i → ⊥)
    each u h =
        let f = filter_has (is_lacking i (site v i).log mine) u all h in
        let p = and_parts (not (u.stamp.id.site == i))
        (nat_lt (counted u.stamp.id.site (site v i).log) u.stamp.id.seq && nat_le u.stamp.id.seq (dep mine u.stamp.id.site)) f.1 in
        let q = and_parts (nat_lt (counted u.stamp.id.site (site v i).log) u.stamp.id.seq) (nat_le u.stamp.id.seq (dep mine u.stamp.id.site)) p.1 in
        let l : u.stamp.id.seq ≤ dep mine u.stamp.id.site = leb-true u.stamp.id.seq (dep mine u.stamp.id.site) q.1 in
        let here : Has u (site w i).log = has_reverse u (site w i).log
        (there final (reverse (site w i).log) u (sound_of rf) (sw.good i).released (λ y c. on y ((sw.good i).log_sent y c)) (streams.0 u f.0)
        (omega (arith, l, dep_is u.stamp.id.site, counted_reverse u.stamp.id.site (site w i).log))) in
        (logged u here, here, eqb-false _ _ (not-true _ p.0))

    give : Gave n keep i w v missed
    give = give_all inside room missed k.fed each

    has : (u : Message) → Has u (site w i).log → Had (site give.next i) u
    has u h = ⊎_elim new (λ l. give.had u
        (inr (inl (has_reverse u (site v i).log
        (there v (reverse (site v i).log) u sv (sv.good i).released (sv.good i).log_sent (over u (logged u h))
        (omega (arith, l, counted_reverse u.stamp.id.site (site v i).log)))))))
        (cases_lt (counted u.stamp.id.site (site v i).log) u.stamp.id.seq)
      where
        new : counted u.stamp.id.site (site v i).log < u.stamp.id.seq → Had (site give.next i) u
        new l = ⊎_elim
            (λ o. give.had u (inr (inl (has_reverse u (site v i).log (subst (λ q. Has u (reverse (site v q).log)) o (sv.home.home u (over u (logged u h))))))))
            (λ o. give.had u (inl (has_filter (is_lacking i (site v i).log mine) u all (streams.1 u (on u (logged u h)) (concerns u h))
            (lacks u.stamp.id.site i (counted u.stamp.id.site (site v i).log) u.stamp.id.seq (dep mine u.stamp.id.site) o l
            (let c = (seq_within (reverse (site w i).log) u (sw.good i).released (has_back u (site w i).log h)).1 in
            omega (arith, c, dep_is u.stamp.id.site, counted_reverse u.stamp.id.site (site w i).log))))))
            (cases_eq u.stamp.id.site i)

    caught : HasCaughtUp i w give.next
    caught = caught_up give.fed rw has

    kept : TokenKept i (site give.next i) (site w i) w.sent tokens
    kept = kept_here i (site v i) (site give.next i) (site w i) (site w i) w.sent tokens give.held give.last refl refl k.token

    pub prepare : (b : Bool) → is_red x ≡ b → IsPrepared n keep i w v tokens all mine
    prepare false r = record {
      next = give.next;
      fed = give.fed;
      caught = caught;
      state = give.state ∙ sym
          (ap (λ b. cond b (holding (spot n keep i) tokens (after_all (spot n keep i) (site v i) missed)) (after_all (spot n keep i) (site v i) missed)) r);
      red = λ q. absurd (true≢false (sym q ∙ r));
      token = kept;
    }
    prepare true r =
        let o = some_of (site w i).held (red_allowed (rows_at (site w i).log) (standing_of keep (site w i)) a x e r).0 in
        let h = hold_token inside give.fed o.1 kept in record {
          next = h.next;
          fed = h.fed;
          caught = record { there = λ u q. subst (Has u) (sym h.log) (caught.there u q); none_waits = h.waiting ∙ caught.none_waits };
          state = h.state ∙ ap (holding (spot n keep i) tokens) give.state ∙ sym
              (ap (λ b. cond b (holding (spot n keep i) tokens (after_all (spot n keep i) (site v i) missed)) (after_all (spot n keep i) (site v i) missed)) r);
          red = λ _. (h.held, h.last);
          token = inl (h.held, h.last);
        }

-- ---- it is asked again
blue_stays : (x : Shadow) (h : Option ℕ) → is_red x ≡ false → issued_after x h ≡ h
blue_stays x h r = ap (λ b. cond b (option_map (λ issued. issued + 1) h) h) r

red_same : (x : Shadow) (g h : Option ℕ) (b : Bool) → is_red x ≡ b → (is_red x ≡ true → g ≡ h) → red_for x g ≡ red_for x h
red_same x g h true r k = ap (red_for x) (k r)
red_same x g h false r k = ap (λ b. cond b (unwrap_or g 0 + 1) 0) r ∙ sym (ap (λ b. cond b (unwrap_or h 0 + 1) 0) r)

-- the site after it made this message
abbrev pub makes : ℕ → World → ℕ → Shadow → World
makes keep w i x = record {
  sites = slice_set w.sites i (after_made (place keep w i) (site w i) x);
  sent = w.sent ++ Packet.Msg (made (place keep w i) (site w i) x) ∷ [];
}

module _ {n keep i : ℕ} (inside : i < n) {w v : World} (rw : Reached n keep w) {tokens : List Token} {all : List Message} (a : Ask) {x : Shadow}
    (limits : IsAsk n a) (e : decision (rows_at (site w i).log) (standing_of keep (site w i)) a ≡ Ok x)
    (p : IsPrepared n keep i w v tokens all (made (place keep w i) (site w i) x)) (sellers : TellSellers all (rows_at (site w i).log)) where
  -- the message that was made, and the one that is made again
  abbrev first_made : Message
  first_made = made (place keep w i) (site w i) x

  abbrev again_made : Message
  again_made = made (place keep p.next i) (site p.next i) x

  sound_w : Sound w
  sound_w = sound_of rw

  sound_p : Sound p.next
  sound_p = sound_of p.fed.reached

  back : (u : Message) → Has u (site p.next i).log → Has u (site w i).log
  back u h = p.fed.within u (inl h)

  both : SameSet (site p.next i).log (site w i).log
  both m = (
    λ c. contains (site w i).log m (back m (contained (site p.next i).log m c)),
    λ c. contains (site p.next i).log m (p.caught.there m (contained (site w i).log m c)),
  )

  rows : rows_at (site p.next i).log ≡ rows_at (site w i).log
  rows = ap row_by_key (equal_sets_equal_tables (cores (site p.next i).log) (cores (site w i).log) (log_checked i sound_p) (log_checked i sound_w)
      (short p.next i rw.few (room_in p.fed.reached)) (short w i rw.few (room_in rw)) (same_cores (site p.next i).log (site w i).log both))

  counts_same : (j : ℕ) → counted j (site p.next i).log ≡ counted j (site w i).log
  counts_same = same_counts (site p.next i).log (site w i).log (sound_p.good i).released (sound_w.good i).released back p.caught.there

  reds_are : reds (site p.next i).log ≡ reds (site w i).log
  reds_are = same_reds (site p.next i).log (site w i).log (sound_p.good i).released (sound_w.good i).released back p.caught.there

  full : (standing_of keep (site p.next i)).full ≡ false
  full =
      let l = at_most (site p.next i).log (site w i).log (sound_p.good i).released back in
      let r = under keep (length (site w i).log) (length (site w i).waiting) (not_full (rows_at (site w i).log) (standing_of keep (site w i)) a x e) in
      lt-leb keep _ (omega (arith, l, r, ap length p.caught.none_waits))

  current : is_red x ≡ true → (standing_of keep (site p.next i)).current ≡ true
  current q = (λ j. option_map_or (λ issued. reds_are j == issued) ((p.red q).0 j) false) ∙ (red_allowed (rows_at (site w i).log) _ a x e q).1

  decided : decision (rows_at (site p.next i).log) (standing_of keep (site p.next i)) (ask_of all x) ≡ Ok x
  decided = subst (λ t. decision t (standing_of keep (site p.next i)) (ask_of all x) ≡ Ok x) (sym rows) (decided_again (rows_at (site w i).log) _ all sellers a
      x e full (λ q. (ap is_some (p.red q).0 ∙ (red_allowed (rows_at (site w i).log) _ a x e q).0, current q)))

  message : again_made ≡ first_made
  message =
      let q : counts (length p.next.sites) (site p.next i).log
      ≡ counts (length w.sites) (site w i).log = λ j. map (λ y. counts_same y j) (range_with_len 0 (p.fed.alike.sites j)) in
      let r = red_same x (site p.next i).held (site w i).held (is_red x) refl (λ b. (p.red b).0) in
      λ j. record { stamp = record { id = record { site = i; seq = counts_same i j + 1 }; red = r j; deps = q j }; shadow = x }

  made_there : World
  made_there = makes keep p.next i x

  reached_there : Reached n keep (makes keep p.next i x)
  reached_there =
      let again = ask_of all x in
      let same : again ≡ a = asks_same (rows_at (site w i).log) (standing_of keep (site w i)) all sellers a x e in
      subst (Reached n keep)
      (ap (λ (y : World × Result Happened Refusal). y.0)
      (at_inside p.next i (requested keep p.next i (Request.Ask again))
      (subst (λ k. i < k) (sym (sites_of_run p.fed.reached)) inside))
      ∙ ap (λ d. answering Packet.Msg p.next i (generating (place keep p.next i) (site p.next i) d)) decided)
      (reach_on (At i (Request.Ask again)) p.fed.reached (subst (IsAsk n) (sym same) limits))

  there_now : site (makes keep p.next i x) i ≡ after_made (place keep p.next i) (site p.next i) x
  there_now = site_set inside (after_made (place keep p.next i) (site p.next i) x) p.fed.reached

  here_now : site (makes keep w i x) i ≡ after_made (place keep w i) (site w i) x
  here_now = site_set inside (after_made (place keep w i) (site w i) x) rw

  grows : (u : Message) → Has u ((site w i).log ++ first_made ∷ []) → Has u (site (makes keep w i x) i).log
  grows u h = subst (λ (s : Replica). Has u s.log) (sym here_now) (has_reverse u (after_made (place keep w i) (site w i) x).log
      (settle_grows u (length (site w i).waiting) ((site w i).log ++ first_made ∷ []) (site w i).waiting (has_back u ((site w i).log ++ first_made ∷ []) h)))

  -- what the site has now is what it had, or the new message
  had_now : {u : Message} → Had (site (makes keep p.next i x) i) u → Has u (site p.next i).log ⊎ (u ≡ again_made)
  had_now {u} h =
      let s = site p.next i in
      let m = again_made in
      let q : Had (record s { log = s.log ++ m ∷ []; held = issued_after x s.held }) u =
      settled_from (record s { log = s.log ++ m ∷ []; held = issued_after x s.held }) u (subst (λ y. Had y u) there_now h) in
      ⊎_elim (λ c. push_cases u m s.log c) (λ c. absurd (subst (Has u) p.caught.none_waits c)) q

  alike_now : InPlaceOf i (makes keep w i x) (makes keep p.next i x)
  alike_now = alike_both (after_made (place keep w i) (site w i) x) (after_made (place keep p.next i) (site p.next i) x) p.fed.alike
      (λ j. Packet.Msg (message j) ∷ [])

  token_now : (b : Bool) → is_red x ≡ b → TokenKept i (site (makes keep p.next i x) i) (site (makes keep w i x) i) (makes keep w i x).sent tokens
  token_now true r = inl (
    ap (λ (s : Replica). s.held) there_now ∙ ap (issued_after x) (p.red r).0 ∙ sym (ap (λ (s : Replica). s.held) here_now),
    ap (λ (s : Replica). s.last) there_now ∙ (p.red r).1 ∙ sym (ap (λ (s : Replica). s.last) here_now),
  )
  token_now false r = kept_same i {r = site p.next i} {r' = site (makes keep p.next i x) i} {s = site w i} {s' = site (makes keep w i x) i} {sent = w.sent} _
      {tokens = tokens} (ap (λ (s : Replica). s.held) there_now ∙ blue_stays x _ r) (ap (λ (s : Replica). s.last) there_now)
      (ap (λ (s : Replica). s.held) here_now ∙ blue_stays x _ r) (ap (λ (s : Replica). s.last) here_now) p.token

  precedes : (u : Message) → Has u (site w i).log → Precedes u first_made
  precedes u h =
      let c = (seq_within (reverse (site w i).log) u (sound_w.good i).released (has_back u (site w i).log h)).1 in
      let d = made_dep (place keep w i) (site w i) x (λ y q. sound_w.home.origin y ((sound_w.good i).log_sent y q)) u.stamp.id.site in
      omega (arith, c, d, counted_reverse u.stamp.id.site (site w i).log)

  pub asked_again : Stepped n keep i (makes keep w i x) v tokens all (Packet.Msg first_made)
  asked_again = record {
    next = makes keep p.next i x;
    follows = record {
      fed = record {
        reached = reached_there;
        alike = alike_now;
        within = λ u h. ⊎_elim (λ c. grows u (has_left u (site w i).log (first_made ∷ []) (back u c)))
            (λ c. grows u (subst (λ y. Has y ((site w i).log ++ first_made ∷ [])) (sym (c ∙ message)) (has_last first_made (site w i).log))) (had_now h);
      };
      none_waits = ap (λ (s : Replica). s.waiting) there_now
          ∙ ap (λ ws. (settle (length ws) ((site p.next i).log ++ again_made ∷ []) ws).1) p.caught.none_waits;
      token = token_now (is_red x) refl;
      before = λ u h. ⊎_elim (λ c. inr (first_made, has_last (Packet.Msg first_made) w.sent, refl, precedes u (back u c)))
          (λ c. inl (ap (λ (y : Message). y.stamp.id.site) c)) (had_now (inl h));
    };
    again = ap (λ q. sends_as Packet.Msg (asked (spot n keep i) q (ask_of all x))) (sym p.state) ∙ ap
        (λ y. sends_as Packet.Msg (asked y (site p.next i) (ask_of all x))) (sym (at_place inside p.fed.reached)) ∙ ap
        (λ d. sends_as Packet.Msg (generating (place keep p.next i) (site p.next i) d)) decided ∙ (λ j. (sym there_now j, Packet.Msg (message j) ∷ []));
  }
