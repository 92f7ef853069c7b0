-- What a site writes is of the forms of the manual, what it refuses, and when it rests.
use Rattle.std.proofs.lemmas.Bool.{lt-ltb, leb-false}
use Rattle.rubis_laws.proofs.Common.{ℕ, ◌≡◌, ◌+◌, ◌≤◌, ◌<◌, List, [], ◌∷◌, ◌++◌, length, Bool, true, false, cond, refl, sym, ap, ◌∙◌, subst, arith, Option}
use Rattle.rubis_laws.proofs.Common.{Some, None, ⊎_elim, All, nat_lt, unwrap_or, is_some, ◌==◌, Ok, option_map_or, eqb-true, get_or-map-range_with_len}
use Rattle.rubis_laws.proofs.Common.{length-map-range_with_len, true≢false, IsAsk, InLimits, is_red, Ask, Shadow, decision, counted, reds, made, token_for}
use Rattle.rubis_laws.proofs.Common.{red_for, rows_at, standing_of, Packet, World, Event, IsEvent, AreEvents, site, place, happens, run, AllDeliverable, Sound}
use Rattle.rubis_laws.proofs.Common.{not_full, red_allowed, push_cases, ◌^◌, option_map, cases_lt, same_Some, Id, shadow_of, granted, HasShadowTexts, IsPacket}
use Rattle.rubis_laws.proofs.Common.{Request, Fits, Core, cores, IsWritten, as_user, last_rename, later, nick_after, nick_at, renames, user_at, Has, red_count}
use Rattle.rubis_laws.proofs.Common.{At, Deliver, cores_length, has_back, ◌-◌, slice_set, nat_le, not, Result, Err, cond_both, Refusal, Full, BadTarget}
use Rattle.rubis_laws.proofs.Common.{LastTurn, NotOurs, NotForMe, Message, Token, Arrival, Taken, Place, Replica, generating, arrived, took, passing, not_ours}
use Rattle.rubis_laws.proofs.Common.{is_repeat, is_full, after_came, arrival_of, Happened, with_site, packet_at, answering, sending, sends, requested, coming}
use Rattle.rubis_laws.proofs.Common.{at_site, after_made, get_or, inl, inr, ⊤, list_any, or_parts, set_past, same_id, Ready, Settles, Rest, Release, opening_at}
use Rattle.rubis_laws.proofs.Common.{settled, issued_after, start, Good, has_left, has_right, has_append, settle_settles}
use Rattle.rubis_model.specs.System.{IsDeliverable, next_number, saying, takes}
use Rattle.rubis_laws.proofs.Order.Deciding.{made_dep, counted_short, reds_short, in_limits, found_at, log_checked, set_at}
use Rattle.rubis_laws.proofs.Runs.SoundSteps.{Lasts, event_by, event_keeps, event_sites, same_world, nothing_sent, start_at}
use Rattle.rubis_schema.specs.FieldForms.{IsNick}
use Rattle.rubis_message.specs.Grammar.{HasTexts}
use Rattle.rubis_model.specs.Meaning.{new_nick}
use Rattle.rubis_laws.proofs.Rows.Choices.{IsChoice, choose_is, later_ranks}
use Rattle.rubis_laws.proofs.Rows.Cores.{core_of}
use Rattle.rubis_laws.proofs.Order.Decisions.{decided_fits}
use Rattle.rubis_laws.proofs.Order.FitsByKind.{by_kind}
use Rattle.rubis_laws.proofs.Rows.FoldIsMeaning.{fold_is_meaning}
use Rattle.rubis_laws.proofs.Runs.Invariants.{checked_holds}
use Rattle.rubis_laws.proofs.Rows.Sets.{Member}
use Rattle.rubis_laws.proofs.Order.Winners.{held_is}
use Rattle.rubis_model.specs.Laws.{RefusalsChangeNothing}
pub use Rattle.rubis_laws.proofs.Runs.SoundSteps.{listed}

module _ (keep : ℕ) (few : keep ≤ 1000000) (w : World) (i : ℕ) (s : Sound w) (l : i < length w.sites) (small : length w.sites ≤ 16) (ask : Ask)
    (limits : IsAsk (length w.sites) ask) where
  counts_small : (x : Shadow) → length (site w i).log < 1000000 → All (λ n. n ≤ 1000000) (made (place keep w i) (site w i) x).stamp.deps
  counts_small x h k d inside =
      let n : length (made (place keep w i) (site w i) x).stamp.deps ≡ length w.sites = length-map-range_with_len (λ j. counted j (site w i).log) 0 _ in
      let c = counted_short k (site w i).log in
      subst (λ q. q ≤ 1000000)
      (sym (get_or-map-range_with_len (λ j. counted j (site w i).log) 0 (length w.sites) k k d (omega (arith, inside, n)) (omega arith)))
      (omega (arith, c, h))

  room_left : (x : Shadow) → decision (rows_at (site w i).log) (standing_of keep (site w i)) ask ≡ Ok x → length (site w i).log < 1000000
  room_left x e = let l = leb-false keep _ (not_full (rows_at (site w i).log) (standing_of keep (site w i)) ask x e) in omega (arith, l, few)

  -- a red number is within the limit, and is positive if and only if the shadow is red
  red_small : (x : Shadow) → decision (rows_at (site w i).log) (standing_of keep (site w i)) ask ≡ Ok x → (b : Bool) → is_red x ≡ b → (o : Option ℕ)
      → (site w i).held ≡ o
      → (red_for x (site w i).held ≤ 1000000) × (is_red x ≡ nat_lt 0 (red_for x (site w i).held))
  red_small x e false r o h =
      let none : red_for x (site w i).held ≡ 0 = ap (λ b. cond b (unwrap_or (site w i).held 0 + 1) 0) r in
      (omega (arith, none), r ∙ sym (ap (nat_lt 0) none))
  red_small x e true r None h = absurd (true≢false (sym (red_allowed (rows_at (site w i).log) _ ask x e r).0 ∙ ap is_some h))
  red_small x e true r (Some issued) h =
      let number : red_for x (site w i).held ≡ issued + 1 = (λ j. cond (r j) (unwrap_or (h j) 0 + 1) 0) in
      let up : reds (site w i).log ≡ issued = eqb-true (reds (site w i).log) issued
      (ap (λ q. option_map_or (λ n. reds (site w i).log == n) q false) (sym h) ∙ (red_allowed (rows_at (site w i).log) _ ask x e r).1) in
      let c = reds_short (site w i).log in
      let room = room_left x e in
      (omega (arith, number, up, c, room), r ∙ sym (ap (nat_lt 0) number ∙ lt-ltb 0 (issued + 1) (omega arith)))

  pub made_deliverable : (x : Shadow) → decision (rows_at (site w i).log) (standing_of keep (site w i)) ask ≡ Ok x
      → IsDeliverable (length w.sites) (Packet.Msg (made (place keep w i) (site w i) x))
  made_deliverable x e =
      let n : length (made (place keep w i) (site w i) x).stamp.deps ≡ length w.sites = length-map-range_with_len (λ j. counted j (site w i).log) 0 _ in
      let room = room_left x e in
      let c = counted_short i (site w i).log in
      let d = made_dep (place keep w i) (site w i) x (λ m h. s.home.origin m ((s.good i).log_sent m h)) i in
      let r = red_small x e (is_red x) refl (site w i).held refl in (
        record {
          sites = omega (arith, n, small);
          id = record { site = omega (arith, n, l); positive = omega arith; small = omega (arith, c, room) };
          own = ap (λ k. k + 1) (sym d);
          counts = counts_small x room;
          red = r.0;
          colour = r.1;
          shadow = subst (λ k. InLimits k x) (sym n) (in_limits keep few w i s ask x limits e);
        },
        n,
      )

-- ---- each event
deliverable_lasts : {keep : ℕ} → keep ≤ 1000000 → {w : World} → length w.sites ≤ 16 → Sound w → AllDeliverable (length w.sites) w.sent → (i : ℕ)
    → i < length w.sites → Lasts keep (IsEvent (length w.sites)) (λ v. AllDeliverable (length w.sites) v.sent) w i
deliverable_lasts {keep} few {w} n s f i l = record {
  makes = λ a x limits e. one_more (Packet.Msg (made (place keep w i) (site w i) x)) (made_deliverable keep few w i s l n a limits x e);
  passes = λ to issued _ there _. one_more (Packet.Token (token_for (site w i) to issued)) there;
  comes = λ _ _ _ _. f;
  gets = λ _ _ _ _. f;
}
  where
    one_more : (q : Packet) → IsDeliverable (length w.sites) q → AllDeliverable (length w.sites) (w.sent ++ q ∷ [])
    one_more q d p h = ⊎_elim (λ k. f p k) (λ e. subst (IsDeliverable (length w.sites)) (sym e) d) (push_cases p q w.sent h)

pub event_deliverable : (keep : ℕ) → keep ≤ 1000000 → (w : World) (e : Event) → length w.sites ≤ 16 → IsEvent (length w.sites) e → Sound w
    → AllDeliverable (length w.sites) w.sent → AllDeliverable (length w.sites) (happens keep w e).0.sent
event_deliverable keep few w e n a s f = event_by e a f (deliverable_lasts few n s f)

pub run_deliverable : (keep : ℕ) → keep ≤ 1000000 → (es : List Event) (w : World) → length w.sites ≤ 16 → AreEvents (length w.sites) es → Sound w
    → AllDeliverable (length w.sites) w.sent → AllDeliverable (length w.sites) (run keep es w).sent
run_deliverable keep few [] w n a s f = f
run_deliverable keep few (e ∷ es) w n a s f =
    let same = event_sites keep w e in
    subst (λ k. AllDeliverable k (run keep es (happens keep w e).0).sent) same
    (run_deliverable keep few es (happens keep w e).0 (omega (arith, same, n)) (subst (λ k. AreEvents k es) (sym same) a.1) (event_keeps keep few w e a.0 s)
    (subst (λ k. AllDeliverable k (happens keep w e).0.sent) (sym same) (event_deliverable keep few w e n a.0 s f)))

-- ---- what the sites of a run send is in the grammar: it is read as it is written

-- ---- a nickname of the tables is one of a message

user_text : (x : Shadow) {n : List ℕ} → as_user x ≡ Some n → HasShadowTexts x → IsNick n
user_text (Shadow.User k) {n} e h = subst IsNick (let p : k ≡ n = cc in p) h
user_text x e h = absurd cc

rename_text : (u : Id) (x : Shadow) → renames u x ≡ true → HasShadowTexts x → IsNick (new_nick x)
rename_text u (Shadow.Rename r) e h = h.1
rename_text u x e h = absurd cc

nick_text : (a : List Core) → ((c : Core) → Member a c → HasShadowTexts c.shadow) → (u : Id) (n : List ℕ) → nick_at u a ≡ Some n → IsNick n
nick_text a texts u n e = at (last_rename u a) (choose_is later_ranks (λ m. renames u m.shadow) a) (user_at u a) refl e
  where
    at : (o : Option Core) → IsChoice later (λ m. renames u m.shadow) a o → (k : Option (List ℕ)) → user_at u a ≡ k → option_map (nick_after o) k ≡ Some n
        → IsNick n
    at o c None is e = absurd cc
    at None c (Some k) is e =
        let w = found_at (λ (m : Core). as_user m.shadow) u a is in subst IsNick (same_Some k n e) (user_text w.0.shadow w.3 (texts w.0 w.1))
    at (Some m) c (Some k) is e = subst IsNick (same_Some (new_nick m.shadow) n e) (rename_text u m.shadow c.passes (texts m c.there))

-- ---- each event

-- each of these packets is in the grammar
abbrev pub AllPackets : ℕ → List Packet → Type 0
AllPackets sites sent = (p : Packet) → Has p sent → IsPacket sites p

pub written_event : (sites : ℕ) (e : Event) → IsWritten sites e → IsEvent sites e
written_event sites (At i (Request.Ask a)) h = h.0
written_event sites (At i (Request.Pass to)) h = tt
written_event sites (At i (Request.List l)) h = tt
written_event sites (Deliver i k) h = tt

module _ (keep : ℕ) (few : keep ≤ 1000000) (w : World) (i : ℕ) (s : Sound w) (all : AllPackets (length w.sites) w.sent) where
  one_more : (q : Packet) → IsPacket (length w.sites) q → AllPackets (length w.sites) (w.sent ++ q ∷ [])
  one_more q is p h = ⊎_elim (λ k. all p k) (λ e. subst (IsPacket (length w.sites)) (sym e) is) (push_cases p q w.sent h)

  -- ---- a message
  logged_texts : (c : Core) → Member (cores (site w i).log) c → HasShadowTexts c.shadow
  logged_texts c h =
      let m = core_of c (site w i).log h in
      subst (λ (x : Core). HasShadowTexts x.shadow) m.2 (all (Packet.Msg m.0) ((s.good i).log_sent m.0 (has_back m.0 (site w i).log m.1))).2

  fits_here : (a : Ask) (x : Shadow) → decision (rows_at (site w i).log) (standing_of keep (site w i)) a ≡ Ok x → Fits (cores (site w i).log) x
  fits_here a x e =
      let c = log_checked i s in
      let b = leb-false keep _ (not_full (rows_at (site w i).log) (standing_of keep (site w i)) a x e) in
      let n = cores_length (site w i).log in
      let l : length (cores (site w i).log) ≤ 2 ^ 32 = omega (arith, b, n, few) in
      decided_fits (rows_at (site w i).log) (cores (site w i).log) (fold_is_meaning (cores (site w i).log) c l).0.rows (standing_of keep (site w i)) a x
      (checked_holds (cores (site w i).log) c) e

  ask_texts : (a : Ask) → HasTexts a → Fits (cores (site w i).log) (shadow_of (rows_at (site w i).log) a) →
      HasShadowTexts (shadow_of (rows_at (site w i).log) a)
  ask_texts (Ask.Rename r) h f = (nick_text _ logged_texts _ _ (by_kind _ _ f).0, h)
  ask_texts a h f = h

  made_texts : (a : Ask) (x : Shadow) → HasTexts a → decision (rows_at (site w i).log) (standing_of keep (site w i)) a ≡ Ok x → HasShadowTexts x
  made_texts a x h e =
      let p = (granted (rows_at (site w i).log) (standing_of keep (site w i)) a x e).1 in
      subst HasShadowTexts p (ask_texts a h (subst (Fits (cores (site w i).log)) (sym p) (fits_here a x e)))

  -- ---- the token
  reds_small : red_count w.sent ≤ 1000000
  reds_small = ⊎_elim some (λ l. omega (arith, l)) (cases_lt 0 (red_count w.sent))
    where
      some : 0 < red_count w.sent → red_count w.sent ≤ 1000000
      some l =
          let m = s.reds.each (red_count w.sent) (omega (arith, l)) (omega arith) in
          let e = m.2 in
          let k = (all (Packet.Msg m.0) m.1).0.red in
          omega (arith, e, k)

  written_lasts : length w.sites ≤ 16 → i < length w.sites → Lasts keep (IsWritten (length w.sites)) (λ v. AllPackets (length w.sites) v.sent) w i
  written_lasts n l = record {
    makes = λ a x is e. one_more (Packet.Msg (made (place keep w i) (site w i) x))
        (let d = made_deliverable keep few w i s l n a is.0 x e in (d.0, d.1, made_texts a x is.1 e));
    passes = λ to issued h there early. one_more (Packet.Token (token_for (site w i) to issued))
        (let e = (held_is (length w.sites) (λ j. (site w j).held) (λ j. (site w j).last) w.sent i s.token h).1 in
        record { turn = omega (arith, early); to = there; issued = omega (arith, e, reds_small) });
    comes = λ _ _ _ _. all;
    gets = λ _ _ _ _. all;
  }

pub event_written : (keep : ℕ) → keep ≤ 1000000 → (w : World) (e : Event) → length w.sites ≤ 16 → IsWritten (length w.sites) e → Sound w
    → AllPackets (length w.sites) w.sent → AllPackets (length w.sites) (happens keep w e).0.sent
event_written keep few w e n is s all = event_by e is all (λ i l. written_lasts keep few w i s all n l)

-- ---- what a site refuses, or has had before, changes nothing

-- ---- at one site
pub ask_refused : (p : Place) {s : Replica} (a : Result Shadow Refusal) (r : Refusal) → (generating p s a).1 ≡ Err r → (generating p s a).0 ≡ s
ask_refused p (Ok x) r e = absurd cc
ask_refused p (Err k) r e = refl

-- what an arriving message leads to, by its tests
abbrev arriving : Bool → Bool → Bool → Replica → Replica → ℕ → Replica × Result Arrival Refusal
arriving a b c s t n = cond a (s, Err NotOurs) (cond b (s, Ok Arrival.Repeat) (cond c (s, Err Full) (t, Ok (arrival_of n))))

mail_refused : (a b c : Bool) {s : Replica} (t : Replica) (n : ℕ) {r : Refusal} → (arriving a b c s t n).1 ≡ Err r → (arriving a b c s t n).0 ≡ s
mail_refused true b c t n e = refl
mail_refused false true c t n e = refl
mail_refused false false true t n e = refl
mail_refused false false false t n e = absurd cc

not_repeat : (b : Bool) (k : ℕ) → cond b Arrival.Held (Arrival.Released k) ≡ Arrival.Repeat → ⊥
not_repeat true k e = absurd cc
not_repeat false k e = absurd cc

mail_repeated : (a b c : Bool) {s : Replica} (t : Replica) (n : ℕ) → (arriving a b c s t n).1 ≡ Ok Arrival.Repeat → (arriving a b c s t n).0 ≡ s
mail_repeated true b c t n e = refl
mail_repeated false true c t n e = refl
mail_repeated false false true t n e = refl
mail_repeated false false false t n e = absurd (not_repeat (n == 0) n (let p : arrival_of n ≡ Arrival.Repeat = cc in p))

abbrev taking : Bool → Bool → Replica → Replica → Replica × Result Taken Refusal
taking a b s t = cond a (s, Err NotForMe) (cond b (s, Ok Taken.Repeat) (t, Ok Taken.Holding))

token_refused : (a b : Bool) {s : Replica} (t : Replica) {r : Refusal} → (taking a b s t).1 ≡ Err r → (taking a b s t).0 ≡ s
token_refused true b t e = refl
token_refused false true t e = refl
token_refused false false t e = absurd cc

token_repeated : (a b : Bool) {s : Replica} (t : Replica) → (taking a b s t).1 ≡ Ok Taken.Repeat → (taking a b s t).0 ≡ s
token_repeated true b t e = refl
token_repeated false true t e = refl
token_repeated false false t e = absurd cc

abbrev handing : Bool → Bool → Replica → Replica → Token → Replica × Result Token Refusal
handing a b s t k = cond a (s, Err BadTarget) (cond b (s, Err LastTurn) (t, Ok k))

hand_refused : (a b : Bool) {s : Replica} (t : Replica) (k : Token) {r : Refusal} → (handing a b s t k).1 ≡ Err r → (handing a b s t k).0 ≡ s
hand_refused true b t k e = refl
hand_refused false true t k e = refl
hand_refused false false t k e = absurd cc

pub pass_refused : (p : Place) {s : Replica} (to : ℕ) (o : Option ℕ) (r : Refusal) → (passing p s to o).1 ≡ Err r → (passing p s to o).0 ≡ s
pass_refused p to None r e = refl
pass_refused p {s} to (Some issued) r e = hand_refused _ (nat_le 1000000000 s.last) (record s { held = None }) (token_for s to issued) e

pub arrival_refused : (p : Place) (s : Replica) (m : Message) {r : Refusal} → (arrived p s m).1 ≡ Err r → (arrived p s m).0 ≡ s
arrival_refused p s m e = mail_refused (not_ours p s m) (is_repeat s m) (is_full p.keep s) {s = s} (after_came s m) (length (after_came s m).log - length s.log)
    e

pub arrival_repeated : (p : Place) (s : Replica) (m : Message) → (arrived p s m).1 ≡ Ok Arrival.Repeat → (arrived p s m).0 ≡ s
arrival_repeated p s m e = mail_repeated (not_ours p s m) (is_repeat s m) (is_full p.keep s) (after_came s m) (length (after_came s m).log - length s.log) e

pub take_refused : (p : Place) (s : Replica) (t : Token) {r : Refusal} → (took p s t).1 ≡ Err r → (took p s t).0 ≡ s
take_refused p s t e = token_refused (not (t.to == p.site)) (nat_le t.turn s.last) {s = s} (record s { held = Some t.issued; last = t.turn }) e

pub take_repeated : (p : Place) (s : Replica) (t : Token) → (took p s t).1 ≡ Ok Taken.Repeat → (took p s t).0 ≡ s
take_repeated p s t e = token_repeated (not (t.to == p.site)) (nat_le t.turn s.last) (record s { held = Some t.issued; last = t.turn }) e

-- ---- in the world
said : {A : Type 0} (word : A → Happened) (x : Result A Refusal) {r : Refusal} → saying word x ≡ Err r → x ≡ Err r
said word (Ok a) e = absurd (cc)
said word (Err k) e = cc

-- an event that changes nothing where its answer is one of these
abbrev pub Quiet : World → World × Result Happened Refusal → Type 0
Quiet w p = ((r : Refusal) → p.1 ≡ Err r → p.0 ≡ w) × (p.1 ≡ Ok (Happened.Came Arrival.Repeat) → p.0 ≡ w) × (p.1 ≡ Ok (Happened.Token Taken.Repeat) → p.0 ≡ w)
    × ((rows : List (List (List ℕ))) → p.1 ≡ Ok (Happened.Rows rows) → p.0 ≡ w)

no_answer : {A : Type 0} (pack : A → Packet) (w : World) (i : ℕ) (p : Replica × Result A Refusal) {r : Refusal} → p.0 ≡ site w i → p.1 ≡ Err r
    → answering pack w i p ≡ w
no_answer pack w i p e f = (λ j. record { sites = slice_set w.sites i (e j); sent = w.sent ++ sending pack (f j) }) ∙ nothing_sent w i

same_state : (w : World) (i : ℕ) {s : Replica} → s ≡ site w i → with_site w i s ≡ w
same_state w i e = ap (with_site w i) e ∙ same_world w i

-- what is sent is nothing else
sent_only : {A : Type 0} {n : ℕ} (x : Result A Refusal) {h : Happened} → saying (λ _. Happened.Sent n) x ≡ Ok h → h ≡ Happened.Sent n
sent_only (Ok a) e = cc
sent_only (Err r) e = absurd (cc)

sends_quiet : {A : Type 0} (pack : A → Packet) {w : World} (i : ℕ) {p : Replica × Result A Refusal} → ((r : Refusal) → p.1 ≡ Err r → p.0 ≡ site w i)
    → Quiet w (sends pack w i p)
sends_quiet pack {w} i {p} same = (
  λ r e. let f = said (λ _. Happened.Sent (next_number w)) p.1 e in no_answer pack w i p (same r f) f,
  λ e. absurd (let f = sent_only p.1 e in cc),
  λ e. absurd (let f = sent_only p.1 e in cc),
  λ rows e. absurd (let f = sent_only p.1 e in cc),
)

came_only : (x : Result Arrival Refusal) {h : Happened} → saying Happened.Came x ≡ Ok h → (a : Arrival) × (x ≡ Ok a) × (h ≡ Happened.Came a)
came_only (Ok a) e = (a, refl, cc)
came_only (Err r) e = absurd (cc)

token_only : (x : Result Taken Refusal) {h : Happened} → saying Happened.Token x ≡ Ok h → (a : Taken) × (x ≡ Ok a) × (h ≡ Happened.Token a)
token_only (Ok a) e = (a, refl, cc)
token_only (Err r) e = absurd (cc)

mail_quiet : (keep : ℕ) (w : World) (i : ℕ) (m : Message) → Quiet w (takes Happened.Came w i (arrived (place keep w i) (site w i) m))
mail_quiet keep w i m = let p = place keep w i in let s = site w i in let x = (arrived p s m).1 in (
  λ r e. same_state w i (arrival_refused p s m (said Happened.Came x e)),
  λ e. let f = came_only x e in same_state w i (arrival_repeated p s m (cc)),
  λ e. absurd (let f = came_only x e in let g = f.2 in cc),
  λ rows e. absurd (let f = came_only x e in let g = f.2 in cc),
)

token_quiet : (keep : ℕ) (w : World) (i : ℕ) (t : Token) → Quiet w (takes Happened.Token w i (took (place keep w i) (site w i) t))
token_quiet keep w i t = let p = place keep w i in let s = site w i in let x = (took p s t).1 in (
  λ r e. same_state w i (take_refused p s t (said Happened.Token x e)),
  λ e. absurd (let f = token_only x e in let g = f.2 in cc),
  λ e. let f = token_only x e in same_state w i (take_repeated p s t (cc)),
  λ rows e. absurd (let f = token_only x e in let g = f.2 in cc),
)

coming_quiet : (keep : ℕ) (w : World) (i : ℕ) (o : Option Packet) → Quiet w (coming keep w i o)
coming_quiet keep w i None = (λ r e. refl, λ e. refl, λ e. refl, λ rows e. refl)
coming_quiet keep w i (Some (Packet.Msg m)) = mail_quiet keep w i m
coming_quiet keep w i (Some (Packet.Token t)) = token_quiet keep w i t

requested_quiet : (keep : ℕ) (w : World) (i : ℕ) (r : Request) → Quiet w (requested keep w i r)
requested_quiet keep w i (Request.Ask ask) =
    let p = place keep w i in
    let s = site w i in
    sends_quiet Packet.Msg i (ask_refused p (decision (rows_at s.log) (standing_of keep s) ask))
requested_quiet keep w i (Request.Pass to) = sends_quiet Packet.Token i (pass_refused (place keep w i) to (site w i).held)
requested_quiet keep w i (Request.List l) = (λ r e. refl, λ e. refl, λ e. refl, λ rows e. refl)

quiet_at : {w : World} (i : ℕ) {step : World × Result Happened Refusal} → Quiet w step → Quiet w (at_site w i step)
quiet_at {w} i {step} q = cond_both (nat_lt i (length w.sites)) step _ (Quiet w) (λ _. q) (λ _. (λ r e. refl, λ e. refl, λ e. refl, λ rows e. refl))

event_quiet : (keep : ℕ) (w : World) (e : Event) → Quiet w (happens keep w e)
event_quiet keep w (At i r) = quiet_at i (requested_quiet keep w i r)
event_quiet keep w (Deliver i k) = quiet_at i (coming_quiet keep w i (packet_at w.sent k))

pub refusals_change_nothing : RefusalsChangeNothing
refusals_change_nothing keep w e = let q = event_quiet keep w e in record { refused = q.0; came_again = q.1; token_again = q.2; listed = q.3 }

-- ---- between events nothing that waits is ready, is in the log, or waits twice

-- ---- each once
abbrev pub Singly : {A : Type 0} → List A → Type 0
Singly [] = ⊤
Singly (x ∷ xs) = (Has x xs → ⊥) × Singly xs

-- what is in two parts is in the list with one more between them
pub around : {A : Type 0} (x y : A) (front back : List A) → Has x (front ++ back) → Has x (front ++ y ∷ back)
around x y front back h = ⊎_elim (λ l. has_left x front (y ∷ back) l) (λ r. has_right x front (y ∷ back) (inr r)) (has_append x front back h)

pub singly_out : {A : Type 0} (y : A) (front back : List A) → Singly (front ++ y ∷ back) → Singly (front ++ back) × (Has y (front ++ back) → ⊥)
singly_out y [] back s = (s.1, s.0)
singly_out y (x ∷ front) back s = let k = singly_out y front back s.1 in (
  ((λ h. s.0 (around x y front back h)), k.0),
  λ h. ⊎_elim (λ e. s.0 (subst (λ q. Has q (front ++ y ∷ back)) e (has_right y front (y ∷ back) (inl refl)))) (λ q. k.1 q) h,
)

pub singly_push : {A : Type 0} (y : A) (xs : List A) → Singly xs → (Has y xs → ⊥) → Singly (xs ++ y ∷ [])
singly_push y [] s n = ((λ h. h), tt)
singly_push y (x ∷ xs) s n = (
  λ h. ⊎_elim (λ k. s.0 k) (λ e. n (inl (sym e))) (push_cases x y xs h),
  singly_push y xs s.1 (λ h. n (inr h)),
)

-- ---- what settling comes to
pub record Apart (log waiting : List Message) : Type 0 where
  pub not_logged : (x : Message) → Has x waiting → Has x log → ⊥
  pub singly : Singly waiting

pub record AtRest (log waiting : List Message) : Type 0 where
  pub unready : (x : Message) → Has x waiting → Ready log x → ⊥
  pub apart : Apart log waiting

release_apart : {log : List Message} (front back : List Message) (m : Message) → Apart log (front ++ m ∷ back) → Apart (log ++ m ∷ []) (front ++ back)
release_apart {log} front back m a = let k = singly_out m front back a.singly in record {
  not_logged = λ x h l. ⊎_elim (λ q. a.not_logged x (around x m front back h) q) (λ e. k.1 (subst (λ q. Has q (front ++ back)) e h)) (push_cases x m log l);
  singly = k.0;
}

pub settles_rest : {log waiting log' waiting' : List Message} → Settles log waiting log' waiting' → Apart log waiting → AtRest log' waiting'
settles_rest (Rest log waiting h) a = record { unready = h; apart = a }
settles_rest (Release log front back log' waiting' m h r s) a = settles_rest s (release_apart front back m a)

abbrev pub Rests : Replica → Type 0
Rests s = AtRest s.log s.waiting

settled_rests : (s : Replica) → Apart s.log s.waiting → Rests (settled s)
settled_rests s a = settles_rest (settle_settles (length s.waiting) s.log s.waiting (omega arith)) a

-- ---- every event
pub AllRest : World → Type 0
AllRest w = (i : ℕ) → Rests (site w i)

pub rests_at : (w : World) (i : ℕ) → AllRest w → Rests (site w i)
unfolding AllRest
rests_at w i r = r i

rest_set : (w : World) (i : ℕ) (x : Replica) (sent : List Packet) → AllRest w → Rests x → AllRest (record { sites = slice_set w.sites i x; sent = sent })
unfolding AllRest
rest_set w i x sent r h j = ⊎_elim (λ l. set_at (λ q y. Rests y) w.sites (opening_at 1) l h (λ q _. r q) j)
    (λ l. subst (λ (s : List Replica). Rests (get_or s j (opening_at 1))) (sym (set_past w.sites i x l)) (r j)) (cases_lt i (length w.sites))

pub unlisted : (m : Message) (log : List Message) → list_any (λ u. same_id m.stamp.id u.stamp.id) log ≡ false → Has m log → ⊥
unlisted m log e h = true≢false (sym (listed m log h) ∙ e)

came_apart : (s : Replica) (m : Message) → is_repeat s m ≡ false → Apart s.log s.waiting → Apart s.log (s.waiting ++ m ∷ [])
came_apart s m b a =
    let q = or_parts (list_any (λ u. same_id m.stamp.id u.stamp.id) s.log) (list_any (λ u. same_id m.stamp.id u.stamp.id) s.waiting) b in record {
      not_logged = λ x h l. ⊎_elim (λ k. a.not_logged x k l) (λ e. unlisted m s.log q.0 (subst (λ y. Has y s.log) e l)) (push_cases x m s.waiting h);
      singly = singly_push m s.waiting a.singly (unlisted m s.waiting q.1);
    }

made_apart : {sent : List Packet} {i : ℕ} {log waiting : List Message} (m : Message) → Good sent i log waiting → m.stamp.id.site ≡ i → Apart log waiting
    → Apart (log ++ m ∷ []) waiting
made_apart {log} m g o a = record {
  not_logged = λ x h l. ⊎_elim (λ k. a.not_logged x h k) (λ e. g.waiting_others x h (ap (λ (y : Message). y.stamp.id.site) e ∙ o)) (push_cases x m log l);
  singly = a.singly;
}

rest_lasts : {keep : ℕ} {w : World} → Sound w → AllRest w → (i : ℕ) → i < length w.sites → Lasts keep (λ _. ⊤) AllRest w i
rest_lasts {keep} {w} s r i _ = let here = rests_at w i r in record {
  makes = λ a x _ _. rest_set w i (after_made (place keep w i) (site w i) x) (w.sent ++ Packet.Msg (made (place keep w i) (site w i) x) ∷ []) r
      (settled_rests (record (site w i) { log = (site w i).log ++ made (place keep w i) (site w i) x ∷ []; held = issued_after x (site w i).held })
      (made_apart (made (place keep w i) (site w i) x) (s.good i) refl here.apart));
  passes = λ to issued _ _ _. rest_set w i (record (site w i) { held = None }) (w.sent ++ Packet.Token (token_for (site w i) to issued) ∷ []) r here;
  comes = λ m _ new _. rest_set w i (after_came (site w i) m) w.sent r
      (settled_rests (record (site w i) { waiting = (site w i).waiting ++ m ∷ [] }) (came_apart (site w i) m new here.apart));
  gets = λ t _ _ _. rest_set w i (record (site w i) { held = Some t.issued; last = t.turn }) w.sent r here;
}

pub rest_event : (keep : ℕ) {w : World} (e : Event) → Sound w → AllRest w → AllRest (happens keep w e).0
rest_event keep e s r = event_by e tt r (rest_lasts s r)

pub rest_run : {keep : ℕ} → keep ≤ 1000000 → (es : List Event) {w : World} → AreEvents (length w.sites) es → Sound w → AllRest w → AllRest (run keep es w)
rest_run few [] a s r = r
rest_run {keep} few (e ∷ es) {w} a s r = rest_run {keep = keep} few es {w = (happens keep w e).0} (subst (λ n. AreEvents n es) (sym (event_sites keep w e)) a.1)
    (event_keeps keep few w e a.0 s) (rest_event keep e s r)

none_rest : AtRest [] []
none_rest = record { unready = λ x h. absurd h; apart = record { not_logged = λ x h. absurd h; singly = tt } }

pub rest_start : (n : ℕ) → AllRest (start n)
unfolding AllRest
rest_start n = start_at (λ i x. Rests x) (λ i. none_rest) (λ i. none_rest) n
