-- What is known stays known, and is released or waits.
use Rattle.std.proofs.Common.{inl, inr, append_assoc, ◌≡◌, ◌∙◌, ◌+◌, ◌++◌, ◌∷◌, ◌⊎◌, [], ℕ, Bool, List, None, Ok, Err, Option, Result, Some, ap, arith, cond, false, refl, subst, sym, true, ⊎_elim, length}
use Rattle.std.proofs.lemmas.Bool.{and_parts, cond_both}
use Rattle.std.specs.Prelude.{bytes_eq, codes, nat_le, unwrap_or, ◌==◌, ◌&&◌, ◌||◌, ◌-◌}
use Rattle.std.specs.Cmp.Lexicographic.{bytes_decides}
use Rattle.rubis_schema.specs.Ids.{id_text}
use Rattle.rubis_schema.specs.declared.refusals.Refusal.{Refusal}
use Rattle.rubis_schema.specs.declared.refusals.Refusal.TheVariants.{BadTarget, Full, LastTurn, NotOurs}
use Rattle.rubis_shadow.specs.Shadows.{is_red}
use Rattle.rubis_shadow.specs.declared.shadows.Ask.{Ask}
use Rattle.rubis_shadow.specs.declared.shadows.Ask.TheVariants as ask
use Rattle.rubis_shadow.specs.declared.shadows.Shadow.{Shadow}
use Rattle.rubis_message.specs.Message.{Message}
use Rattle.rubis_message.specs.declared.answers.Arrival.{Arrival}
use Rattle.rubis_message.specs.declared.answers.Arrival.TheVariants as arrival
use Rattle.rubis_message.specs.declared.inputs.Input.{Input}
use Rattle.rubis_message.specs.declared.inputs.Input.TheVariants as input
use Rattle.rubis_message.specs.declared.requests.Request.TheVariants as request
use Rattle.rubis_message.specs.declared.tokens.Packet.TheVariants as packet
use Rattle.rubis_message.specs.declared.tokens.Token.{Token}
use Rattle.rubis_generate.specs.Decision.{decision, shadow_of, Rows}
use Rattle.rubis_generate.proofs.Granted.{granted}
use Rattle.rubis_model.proofs.Settling.{has_last, has_left}
use Rattle.rubis_model.specs.Site.{Place, Replica, after_came, after_made, arrival_of, arrived, asked, generating, input_step, is_full, is_repeat, issued_after}
use Rattle.rubis_model.specs.Site.{made, not_ours, passing, reply, rows_at, standing_of}
use Rattle.rubis_laws.proofs.Runs.Delivering.{Had, arrived_keeps, came_had, settled_had, took_keeps}
use Rattle.rubis_keys.specs.Keys.{Keys, KeyedSite, ask_step, asked_under_rows, is_red_ask, keyed_after, keyed_input, keyed_opening, keyed_step, known_of, known_rows, noted, noted_came}
use Rattle.rubis_keys.specs.Keys.{noted_made, same_colour}
use Rattle.rubis_keys.specs.Laws.{Accept, AsksUnder, after_records, next_rows}
use Rattle.rubis_keys.proofs.BareFacts.{after_more, same_step}
use Rattle.rubis_keys.specs.declared.inputs.KeyedInput.{KeyedInput}
use Rattle.rubis_keys.specs.declared.inputs.KeyedInput.TheVariants.{Plain, AskedUnder, CameUnder}
use Rattle.rubis_keys.specs.declared.keys.Known.{Known}

-- ---- notes

noted_stays : (b : Bool) (o : Option Known) (new k : Known) → o ≡ Some k → cond b (Some (unwrap_or o new)) o ≡ Some k
noted_stays true o new k h = ap (λ x. Some (unwrap_or x new)) h
noted_stays false o new k h = h

made_stays : (keys : Keys) (key : List ℕ) (r : Result Message Refusal) (q : List ℕ) (red : Bool) (k : Known) → keys q red ≡ Some k
    → noted_made keys key r q red ≡ Some k
made_stays keys key (Ok m) q red k h = noted_stays (bytes_eq key q && same_colour (is_red m.shadow) red) (keys q red) (known_of m) k h
made_stays keys key (Err r) q red k h = h

came_stays : (keys : Keys) (key : List ℕ) (m : Message) (r : Result Arrival Refusal) (q : List ℕ) (red : Bool) (k : Known) → keys q red ≡ Some k
    → noted_came keys key m r q red ≡ Some k
came_stays keys key m (Ok (arrival.Released n)) q red k h = noted_stays (bytes_eq key q && same_colour (is_red m.shadow) red) (keys q red) (known_of m) k h
came_stays keys key m (Ok arrival.Held) q red k h = noted_stays (bytes_eq key q && same_colour (is_red m.shadow) red) (keys q red) (known_of m) k h
came_stays keys key m (Ok arrival.Repeat) q red k h = h
came_stays keys key m (Err r) q red k h = h

ask_stays : (p : Place) (s : KeyedSite) (n : ℕ) (key : List ℕ) (a : Ask) (o : Option Known) (q : List ℕ) (red : Bool) (k : Known) → s.keys q red ≡ Some k
    → (ask_step p s n key a o).0.keys q red ≡ Some k
ask_stays p s n key a None q red k h = made_stays s.keys key (asked p s.site a).1 q red k h
ask_stays p s n key a (Some x) q red k h = h

step_stays : (p : Place) (s : KeyedSite) (n : ℕ) (i : KeyedInput) (q : List ℕ) (red : Bool) (k : Known) → s.keys q red ≡ Some k
    → (keyed_step p s n i).0.keys q red ≡ Some k
step_stays p s n (Plain i) q red k h = h
step_stays p s n (AskedUnder key a) q red k h = ask_stays p s n key a (s.keys key (is_red_ask a)) q red k h
step_stays p s n (CameUnder key m) q red k h = came_stays s.keys key m (arrived p s.site m).1 q red k h

pub known_stays : (p : Place) (s : KeyedSite) (n : ℕ) (records : List (List (List ℕ))) (q : List ℕ) (red : Bool) (k : Known) → s.keys q red ≡ Some k
    → (keyed_after p s n records).keys q red ≡ Some k
known_stays p s n [] q red k h = h
known_stays p s n (fields ∷ rest) q red k h =
    known_stays p (keyed_step p s n (keyed_input p.sites fields)).0 (n + 1) rest q red k (step_stays p s n (keyed_input p.sites fields) q red k h)

-- ---- messages that a site has stay there

asked_keeps : (p : Place) (s : Replica) (r : Result Shadow Refusal) (u : Message) → Had s u → Had (generating p s r).0 u
asked_keeps p s (Ok x) u h = settled_had (record s { log = s.log ++ made p s x ∷ []; held = issued_after x s.held }) u
    (⊎_elim (λ l. inl (has_left u s.log (made p s x ∷ []) l)) (λ w. inr w) h)
asked_keeps p s (Err r) u h = h

made_had : (p : Place) (s : Replica) (x : Shadow) → Had (after_made p s x) (made p s x)
made_had p s x = settled_had (record s { log = s.log ++ made p s x ∷ []; held = issued_after x s.held }) (made p s x) (inl (has_last (made p s x) s.log))

passed_keeps : (p : Place) (s : Replica) (to : ℕ) (held : Option ℕ) (u : Message) → Had s u → Had (passing p s to held).0 u
passed_keeps p s to None u h = h
passed_keeps p s to (Some issued) u h =
    cond_both (nat_le p.sites to || (to == p.site)) (s, Err BadTarget) _ (λ (q : Replica × Result Token Refusal). Had q.0 u) (λ _. h)
    (λ _. cond_both (nat_le 1000000000 s.last) (s, Err LastTurn) _ (λ (q : Replica × Result Token Refusal). Had q.0 u) (λ _. h) (λ _. h))

input_keeps : (p : Place) (s : Replica) (n : ℕ) (i : Input) (u : Message) → Had s u → Had (input_step p s n i).0 u
input_keeps p s n (input.Asked (request.Ask a)) u h = asked_keeps p s (decision (rows_at s.log) (standing_of p.keep s) a) u h
input_keeps p s n (input.Asked (request.Pass to)) u h = passed_keeps p s to s.held u h
input_keeps p s n (input.Asked (request.List l)) u h = h
input_keeps p s n (input.Came (packet.Msg m)) u h = arrived_keeps p s m u h
input_keeps p s n (input.Came (packet.Token t)) u h = took_keeps p s t u h
input_keeps p s n input.Neither u h = h

-- ---- what is known is there

abbrev pub IsThere : Replica → Bool → Known → Type 0
IsThere s red k = (is_red k.shadow ≡ red) × ((m : Message) × (known_of m ≡ k) × Had s m)

abbrev pub AreThere : KeyedSite → Type 0
AreThere s = (q : List ℕ) (red : Bool) (k : Known) → s.keys q red ≡ Some k → IsThere s.site red k

stays_there : (s t : Replica) (red : Bool) (k : Known) → ((u : Message) → Had s u → Had t u) → IsThere s red k → IsThere t red k
stays_there s t red k keeps h = (h.0, (h.1.0, h.1.1, keeps h.1.0 h.1.2))

colours : (a b : Bool) → same_colour a b ≡ true → a ≡ b
colours true b e = sym e
colours false false e = refl
colours false true e = absurd cc

-- what is known then was known before, or was noted
noted_from : (b : Bool) (o : Option Known) (new k : Known) → cond b (Some (unwrap_or o new)) o ≡ Some k → (o ≡ Some k) ⊎ ((b ≡ true) × (new ≡ k))
noted_from false o new k h = inl h
noted_from true (Some x) new k h = inl h
noted_from true None new k h = inr (refl, cc)

note_there : (s t : Replica) (keys : Keys) (key : List ℕ) (m : Message) → AreThere (record { site = s; keys = keys }) → ((u : Message) → Had s u → Had t u)
    → Had t m → AreThere (record { site = t; keys = noted keys key (known_of m) })
note_there s t keys key m there keeps has q red k h =
    ⊎_elim (λ old. stays_there s t red k keeps (there q red k old))
    (λ new. (
      ap (λ (x : Known). is_red x.shadow) (sym new.1) ∙ colours (is_red m.shadow) red (and_parts (bytes_eq key q) (same_colour (is_red m.shadow) red) new.0).1,
      (m, new.1, has),
    )) (noted_from (bytes_eq key q && same_colour (is_red m.shadow) red) (keys q red) (known_of m) k h)

made_there : (p : Place) (s : Replica) (keys : Keys) (key : List ℕ) (r : Result Shadow Refusal) → AreThere (record { site = s; keys = keys })
    → AreThere (record { site = (generating p s r).0; keys = noted_made keys key (generating p s r).1 })
made_there p s keys key (Ok x) there = note_there s (after_made p s x) keys key (made p s x) there (asked_keeps p s (Ok x)) (made_had p s x)
made_there p s keys key (Err r) there = there

ask_there : (p : Place) (s : KeyedSite) (n : ℕ) (key : List ℕ) (a : Ask) (o : Option Known) → AreThere s
    → AreThere (ask_step p s n key a o).0
ask_there p s n key a None there = made_there p s.site s.keys key (decision (rows_at s.site.log) (standing_of p.keep s.site) a) there
ask_there p s n key a (Some x) there = there

arrival_noted : (keys : Keys) (key : List ℕ) (m : Message) (n : ℕ) → noted keys key (known_of m) ≡ noted_came keys key m (Ok (arrival_of n))
arrival_noted keys key m n =
    cond_both (n == 0) arrival.Held (arrival.Released n) (λ a. noted keys key (known_of m) ≡ noted_came keys key m (Ok a)) (λ _. refl) (λ _. refl)

came_there : (p : Place) (s : Replica) (keys : Keys) (key : List ℕ) (m : Message) → AreThere (record { site = s; keys = keys })
    → AreThere (record { site = (arrived p s m).0; keys = noted_came keys key m (arrived p s m).1 })
came_there p s keys key m there =
    cond_both (not_ours p s m) (s, Err NotOurs) _ (λ (q : Replica × Result Arrival Refusal). AreThere (record { site = q.0; keys = noted_came keys key m q.1 }))
    (λ _. there)
    (λ _. cond_both (is_repeat s m) (s, Ok arrival.Repeat) _
    (λ (q : Replica × Result Arrival Refusal). AreThere (record { site = q.0; keys = noted_came keys key m q.1 })) (λ _. there)
    (λ _. cond_both (is_full p.keep s) (s, Err Full) _
    (λ (q : Replica × Result Arrival Refusal). AreThere (record { site = q.0; keys = noted_came keys key m q.1 })) (λ _. there)
    (λ _. subst (λ known. AreThere (record { site = after_came s m; keys = known }))
    (arrival_noted keys key m (length (after_came s m).log - length s.log))
    (note_there s (after_came s m) keys key m there (λ u h. came_had s (inl h)) (came_had s (inr refl))))))

step_there : (p : Place) (s : KeyedSite) (n : ℕ) (i : KeyedInput) → AreThere s → AreThere (keyed_step p s n i).0
step_there p s n (Plain i) there = λ q red k h. stays_there s.site (input_step p s.site n i).0 red k (input_keeps p s.site n i) (there q red k h)
step_there p s n (AskedUnder key a) there = ask_there p s n key a (s.keys key (is_red_ask a)) there
step_there p s n (CameUnder key m) there = came_there p s.site s.keys key m there

pub known_there : (p : Place) (s : KeyedSite) (n : ℕ) (records : List (List (List ℕ))) → AreThere s → AreThere (keyed_after p s n records)
known_there p s n [] there = there
known_there p s n (fields ∷ rest) there =
    known_there p (keyed_step p s n (keyed_input p.sites fields)).0 (n + 1) rest (step_there p s n (keyed_input p.sites fields) there)

-- ---- what is accepted is known from then on

red_shadow : (t : Rows) (a : Ask) → is_red (shadow_of t a) ≡ is_red_ask a
red_shadow t (ask.User n) = refl
red_shadow t (ask.Item n) = refl
red_shadow t (ask.Bid b) = refl
red_shadow t (ask.Buy b) = refl
red_shadow t (ask.Close c) = refl
red_shadow t (ask.Comment c) = refl
red_shadow t (ask.Restock r) = refl
red_shadow t (ask.Rename r) = refl

own_colour : (a : Bool) → same_colour a a ≡ true
own_colour true = refl
own_colour false = refl

abbrev pub IsKnown : Option Known → Type 0
IsKnown o = (k : Known) × (o ≡ Some k)

both_true : (a b : Bool) → a ≡ true → b ≡ true → (a && b) ≡ true
both_true true b e f = f
both_true false b e f = absurd cc

noted_known : (keys : Keys) (key : List ℕ) (new : Known) (red : Bool) → is_red new.shadow ≡ red → IsKnown (noted keys key new key red)
noted_known keys key new red e = (
  unwrap_or (keys key red) new,
  ap (λ b. cond b (Some (unwrap_or (keys key red) new)) (keys key red))
      (both_true (bytes_eq key key) (same_colour (is_red new.shadow) red) ((bytes_decides key key).1 refl)
      (ap (λ x. same_colour (is_red new.shadow) x) (sym e) ∙ own_colour (is_red new.shadow))),
)

-- one row is no acceptance
not_two : (rows : List (List (List ℕ))) (one : List (List ℕ)) (x y : List (List ℕ)) → rows ≡ one ∷ [] → rows ≡ x ∷ y ∷ [] → ⊥
not_two rows one x y e f = let lengths = ap length (sym e ∙ f) in omega (arith, lengths)

abbrev pub Two : List (List (List ℕ)) → Type 0
Two rows = (x y : List (List ℕ)) × (rows ≡ x ∷ y ∷ [])

made_known : (p : Place) (s : Replica) (keys : Keys) (n : ℕ) (key : List ℕ) (a : Ask) (r : Result Shadow Refusal)
    → decision (rows_at s.log) (standing_of p.keep s) a ≡ r → Two (asked_under_rows n key (generating p s r).1)
    → IsKnown (noted_made keys key (generating p s r).1 key (is_red_ask a))
made_known p s keys n key a (Ok x) e two =
    noted_known keys key (known_of (made p s x)) (is_red_ask a)
    (ap is_red (sym (granted (rows_at s.log) (standing_of p.keep s) a x e).1) ∙ red_shadow (rows_at s.log) a)
made_known p s keys n key a (Err r) e two = absurd (not_two _ _ two.0 two.1 refl two.2)

ask_known : (p : Place) (s : KeyedSite) (n : ℕ) (key : List ℕ) (a : Ask) (o : Option Known)
    → Two (ask_step p s n key a o).1
    → IsKnown ((ask_step p s n key a o).0.keys
    key (is_red_ask a))
ask_known p s n key a None two = made_known p s.site s.keys n key a (decision (rows_at s.site.log) (standing_of p.keep s.site) a) refl two
ask_known p s n key a (Some x) two = absurd (not_two _ _ two.0 two.1 refl two.2)

accepted_known : (p : Place) (s : KeyedSite) (n : ℕ) (key : List ℕ) (a : Ask) → Two (keyed_step p s n (AskedUnder key a)).1
    → IsKnown ((keyed_step p s n (AskedUnder key a)).0.keys key (is_red_ask a))
accepted_known p s n key a two = ask_known p s n key a (s.keys key (is_red_ask a)) two

-- ---- and then each ask is answered by it

known_answers : (p : Place) (s : KeyedSite) (n : ℕ) (key : List ℕ) (a : Ask) (k : Known) → s.keys key (is_red_ask a) ≡ Some k
    → (keyed_step p s n (AskedUnder key a)).1 ≡ known_rows n k a
known_answers p s n key a k h = ap (λ o. (ask_step p s n key a o).1) h

known_next : (p : Place) (records : List (List (List ℕ))) (fields : List (List ℕ)) (key : List ℕ) (red : Bool) (k : Known) (a : Ask)
    → (after_records p records).keys key red ≡ Some k → AsksUnder p fields key red a → next_rows p records fields ≡ known_rows (length records + 1) k a
known_next p records fields key red k a h (is, colour) =
    ap (λ i. (keyed_step p (after_records p records) (length records + 1) i).1) is
    ∙ known_answers p (after_records p records) (length records + 1) key a k (ap ((after_records p records).keys key) colour ∙ h)

pub later_is_told : (p : Place) (first between : List (List (List ℕ))) (fields : List (List ℕ)) (key : List ℕ) (red : Bool) (k : Known) (a : Ask)
    → (after_records p first).keys key red ≡ Some k → AsksUnder p fields key red a
    → next_rows p (first ++ between) fields ≡ known_rows (length (first ++ between) + 1) k a
later_is_told p first between fields key red k a h asks =
    known_next p (first ++ between) fields key red k a
    (ap (λ (s : KeyedSite). s.keys key red) (after_more p (keyed_opening p.site) 1 first between)
    ∙ known_stays p (after_records p first) (1 + length first) between key red k h) asks

-- the record that is accepted makes its key known
accepted_next : (p : Place) (first : List (List (List ℕ))) (one : List (List ℕ)) (key : List ℕ) (red : Bool) (a : Ask) → AsksUnder p one key red a
    → Accept (next_rows p first one) → IsKnown ((after_records p (first ++ one ∷ [])).keys key red)
accepted_next p first one key red a (is, colour) accepts =
    let n = length first + 1 in
    let s = after_records p first in
    let known = accepted_known p s n key a
    (reply accepts.0 (codes "ok" ∷ id_text accepts.1 ∷ []), accepts.2, ap (λ i. (keyed_step p s n i).1) (sym is) ∙ accepts.3) in (
      known.0,
      ap (λ (t : KeyedSite). t.keys key red) (after_more p (keyed_opening p.site) 1 first (one ∷ []))
          ∙ ap (λ (t : KeyedSite). t.keys key red) (same_step p s (1 + length first) n (keyed_input p.sites one))
          ∙ ap (λ i. (keyed_step p s n i).0.keys key red) is ∙ ap ((keyed_step p s n (AskedUnder key a)).0.keys key) (sym colour) ∙ known.1,
    )

pub once_accepted : (p : Place) (first between : List (List (List ℕ))) (one other : List (List ℕ)) (key : List ℕ) (red : Bool) (a b : Ask)
    → AsksUnder p one key red a → AsksUnder p other key red b
    → Accept (next_rows p first one) → Accept (next_rows p (first ++ one ∷ between) other) → ⊥
once_accepted p first between one other key red a b asks asks2 accepts accepts2 =
    let known = accepted_next p first one key red a asks accepts in
    let parts : (first ++ one ∷ []) ++ between ≡ first ++ one ∷ between = append_assoc first (one ∷ []) between in
    not_two (next_rows p (first ++ one ∷ between) other) _ (reply accepts2.0 (codes "ok" ∷ id_text accepts2.1 ∷ [])) accepts2.2
    (ap (λ records. next_rows p records other) (sym parts) ∙ later_is_told p (first ++ one ∷ []) between other key red known.0 b known.1 asks2) accepts2.3
