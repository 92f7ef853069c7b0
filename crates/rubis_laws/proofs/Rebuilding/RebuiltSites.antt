-- Through every run: a site is rebuilt.
use Rattle.std.proofs.lemmas.Bool.{eqb-true, not-false, leb-false, eq-eqb, ne_eqb}
use Rattle.rubis_laws.proofs.Common.{◌≡◌, ◌∙◌, ℕ, ◌+◌, ◌≤◌, ◌<◌, Bool, true, false, cond, Option, Some, None, List, [], ◌∷◌, ◌++◌, length, refl, sym, ap, subst}
use Rattle.rubis_laws.proofs.Common.{inl, inr, ⊎_elim, arith, append_assoc, append-nil, ◌⊎◌, reverse, nat_le, slice_set, not, ◌==◌, ◌||◌, Result, Ok, Err}
use Rattle.rubis_laws.proofs.Common.{cases_eq, cond_both, get_or-map-range_with_len, get_or-set_other, Refusal, BadTarget, LastTurn, NotForMe, IsAsk, is_red}
use Rattle.rubis_laws.proofs.Common.{Ask, Shadow, Message, Happened, Taken, Request, Packet, Token, decision, Sent, Precedes, InPlaceOf, IsRebuilt, next_token}
use Rattle.rubis_laws.proofs.Common.{rebuilt, sends_as, sent_again, sent_by, sent_here, Has, Place, Replica, opening_at, made, generating, rows_at, standing_of}
use Rattle.rubis_laws.proofs.Common.{asked, arrived, token_for, took, passing, passed, Sound, Stands, Travels, turns, World, Event, IsEvent, AreEvents, site}
use Rattle.rubis_laws.proofs.Common.{place, with_site, packet_at, sending, answering, requested, coming, happens, run, start, At, Deliver, has_last, has_left}
use Rattle.rubis_laws.proofs.Common.{has_append, has_back, has_reverse, dep_within, settle_grows}
use Rattle.rubis_model.specs.Rebuild.{SitesAreRebuilt}
use Rattle.rubis_laws.proofs.Runs.Delivering.{Had}
use Rattle.rubis_laws.proofs.Runs.SoundSteps.{at_one, has_packet, nothing_sent, same_world, start_at}
use Rattle.rubis_laws.proofs.Rebuilding.Rebuilt.{alike_both, Reached, alike_event, alike_here, arrived_token, arriving, at_inside, at_place, reach_on, site_of}
use Rattle.rubis_laws.proofs.Rebuilding.Rebuilt.{site_set, sites_of_run, sound_of, spot, Streams, Follows, Holds, Stepped, TokenKept, asked_again, hold_token}
use Rattle.rubis_laws.proofs.Rebuilding.Rebuilt.{kept_here, kept_same, next_one, prepare, sellers_told}
use Rattle.rubis_laws.proofs.Order.RunsInOrder.{there}
use Rattle.rubis_laws.proofs.Order.Winners.{held_is}

-- ---- it passes the token again
abbrev passes_on : World → ℕ → ℕ → ℕ → World
passes_on w i to issued =
    record { sites = slice_set w.sites i (record (site w i) { held = None }); sent = w.sent ++ Packet.Token (token_for (site w i) to issued) ∷ [] }

passed_is : (p : Place) {s : Replica} (to : ℕ) {issued : ℕ} → s.held ≡ Some issued → (nat_le p.sites to || (to == p.site)) ≡ false
    → nat_le 1000000000 s.last ≡ false → passed p s to ≡ (record s { held = None }, Ok (token_for s to issued))
passed_is p {s} to {issued} e f g = ap (passing p s to) e ∙ ap (λ b. cond {A = Replica × Result Token Refusal} b (s, Err BadTarget)
    (cond (nat_le 1000000000 s.last) (s, Err LastTurn) (record s { held = None }, Ok (token_for s to issued)))) f ∙ ap
    (λ b. cond {A = Replica × Result Token Refusal} b (s, Err LastTurn) (record s { held = None }, Ok (token_for s to issued))) g

module _ {n keep i : ℕ} (inside : i < n) {tokens : List Token} {w v : World} (rw : Reached n keep w) (k : Follows n keep i tokens w v) (all : List Message)
    (to : ℕ) {issued : ℕ} (e : (site w i).held ≡ Some issued) (f : (nat_le (length w.sites) to || (to == i)) ≡ false)
    (g : nat_le 1000000000 (site w i).last ≡ false) where
  h : Holds n keep i w v tokens
  h = hold_token inside k.fed e k.token

  passed_there : passed (place keep h.next i) (site h.next i) to ≡ (record (site h.next i) { held = None }, Ok (token_for (site h.next i) to issued))
  passed_there = passed_is (place keep h.next i) to (h.held ∙ e)
      (subst (λ m. (nat_le m to || (to == i)) ≡ false) (sym h.fed.alike.sites) f) (subst (λ l. nat_le 1000000000 l ≡ false) (sym h.last) g)

  same_token : token_for (site h.next i) to issued ≡ token_for (site w i) to issued
  same_token = λ j. record { turn = h.last j + 1; to = to; issued = issued }

  reached_pass : Reached n keep (passes_on h.next i to issued)
  reached_pass = subst (Reached n keep) (ap (λ (y : World × Result Happened Refusal). y.0)
      (at_inside h.next i (requested keep h.next i (Request.Pass to)) (subst (λ k. i < k) (sym (sites_of_run h.fed.reached)) inside)) ∙ ap
      (λ d. answering Packet.Token h.next i d) passed_there) (reach_on (At i (Request.Pass to)) h.fed.reached tt)

  there_pass : site (passes_on h.next i to issued) i ≡ record (site h.next i) { held = None }
  there_pass = site_set inside (record (site h.next i) { held = None }) h.fed.reached

  here_pass : site (passes_on w i to issued) i ≡ record (site w i) { held = None }
  here_pass = site_set inside (record (site w i) { held = None }) rw

  passed_again : Stepped n keep i (passes_on w i to issued) v tokens all (Packet.Token (token_for (site w i) to issued))
  passed_again = record {
    next = passes_on h.next i to issued;
    follows = record {
      fed = record {
        reached = reached_pass;
        alike = alike_both (record (site w i) { held = None }) (record (site h.next i) { held = None }) h.fed.alike (λ j. Packet.Token (same_token j) ∷ []);
        within = λ u c. subst (λ (s : Replica). Has u s.log) (sym here_pass) (h.fed.within u (subst (λ s. Had s u) there_pass c));
      };
      none_waits = ap (λ (s : Replica). s.waiting) there_pass ∙ h.waiting ∙ k.none_waits;
      token = inl (
        ap (λ (s : Replica). s.held) there_pass ∙ sym (ap (λ (s : Replica). s.held) here_pass),
        ap (λ (s : Replica). s.last) there_pass ∙ h.last ∙ sym (ap (λ (s : Replica). s.last) here_pass),
      );
      before = λ u c. ⊎_elim (λ q. inl q) (λ q. inr (q.0, has_left _ _ _ q.1, q.2, q.3))
          (k.before u (subst (Has u) (ap (λ (s : Replica). s.log) there_pass ∙ h.log) c));
    };
    again = ap (λ q. sends_as Packet.Token (passed (spot n keep i) q to)) (sym h.state) ∙ ap (λ y. sends_as Packet.Token (passed y (site h.next i) to))
        (sym (at_place inside h.fed.reached)) ∙ ap (sends_as Packet.Token) passed_there ∙ (λ j. (sym there_pass j, Packet.Token (same_token j) ∷ []));
  }

-- ---- what comes to the site that isn't rebuilt

-- these are tokens that were sent, and all of them that are for site i
abbrev Told : ℕ → World → List Token → Type 0
Told i final tokens = ((t : Token) → Has t tokens → Has (Packet.Token t) final.sent) × ((t : Token) → Has (Packet.Token t) final.sent → t.to ≡ i → Has t tokens)

module _ {n keep i : ℕ} (inside : i < n) {tokens : List Token} {w v : World} (rw : Reached n keep w) (k : Follows n keep i tokens w v) where
  came_on : (m : Message) → Follows n keep i tokens (with_site w i (arrived (place keep w i) (site w i) m).0) v
  came_on m =
      let x = (arrived (place keep w i) (site w i) m).0 in
      let e : site (with_site w i x) i ≡ x = site_set inside x rw in record {
        fed = record {
          reached = k.fed.reached;
          alike = alike_here x k.fed.alike;
          within = λ u h. subst (λ (s : Replica). Has u s.log) (sym e) (arriving (place keep w i) m (λ s. Has u s.log) (k.fed.within u h) (has_reverse u _
              (settle_grows u (length ((site w i).waiting ++ m ∷ [])) (site w i).log ((site w i).waiting ++ m ∷ []) (has_back u _ (k.fed.within u h)))));
        };
        none_waits = k.none_waits;
        token = kept_here i _ _ _ _ _ _ refl refl (ap (λ (s : Replica). s.held) e ∙ (arrived_token (place keep w i) _ m).0)
            (ap (λ (s : Replica). s.last) e ∙ (arrived_token (place keep w i) _ m).1) k.token;
        before = k.before;
      }

  -- a token that is new to it is the next one of the rebuilt site
  module _ (final : World) (told : Told i final tokens) (later : List Packet) (grown : final.sent ≡ w.sent ++ later)
      (newer : (u : Token) → Has (Packet.Token u) later → turns w.sent < u.turn) where
    next_taken : (t : Token) → Has (Packet.Token t) w.sent → t.to ≡ i → (site w i).last < t.turn → TokenKept i (site v i) (site w i) w.sent tokens
        → (next_token i (site v i).last tokens ≡ Some t) × ((site v i).held ≡ None)
    next_taken t h to late (inr b) =
        let s = held_is (length w.sites) (λ j. (site w j).held) (λ j. (site w j).last) w.sent i (sound_of rw).token b.held in
        absurd (let q = s.0.taken t h in let c = ap (λ j. (site w j).last) to in omega (arith, q, c, late))
    next_taken t h to late (inl q) = ⊎_elim stands travels (sound_of k.fed.reached).token
      where
        there_too : (u : Token) → Has (Packet.Token u) w.sent → Has (Packet.Token u) v.sent
        there_too u c = subst (Has (Packet.Token u)) (sym k.fed.alike.sent) c

        last_of : (u : Token) → u.to ≡ i → (site v u.to).last ≡ (site v i).last
        last_of u e = ap (λ j. (site v j).last) e

        stands : ((x : ℕ) × Stands (length v.sites) (λ j. (site v j).held) (λ j. (site v j).last) v.sent x) → (next_token i (site v i).last tokens ≡ Some t)
            × ((site v i).held ≡ None)
        stands s = absurd (let c = s.1.taken t (there_too t h) in omega (arith, c, last_of t to, q.1, late))

        travels : ((x : Token) × Travels (length v.sites) (λ j. (site v j).held) (λ j. (site v j).last) v.sent x) →
            (next_token i (site v i).last tokens ≡ Some t) × ((site v i).held ≡ None)
        travels s = (
          next_one _ _ t (told.1 t (subst (Has (Packet.Token t)) (sym grown) (has_left _ _ later h)) to) to (omega (arith, q.1, late)) only,
          s.1.nowhere i,
        )
          where
            is_it : (u : Token) → Has (Packet.Token u) w.sent → u.to ≡ i → (site v i).last < u.turn → u ≡ s.0
            is_it u c e l = ⊎_elim (λ y. y) (λ y. absurd (omega (arith, y, last_of u e, l))) (s.1.others u (there_too u c))

            turn_is : t.turn ≡ turns w.sent
            turn_is = ap (λ (x : Token). x.turn) (is_it t h to (omega (arith, q.1, late))) ∙ s.1.turn ∙ ap turns k.fed.alike.sent

            only : (u : Token) → Has u tokens → u.to ≡ i → (site v i).last < u.turn → (u ≡ t) ⊎ (t.turn < u.turn)
            only u c e l = ⊎_elim (λ y. inl (is_it u y e l ∙ sym (is_it t h to (omega (arith, q.1, late)))))
                (λ y. inr (let d = newer u y in omega (arith, d, turn_is)))
                (has_append (Packet.Token u) w.sent later (subst (Has (Packet.Token u)) grown (told.0 u c)))

    took_on : (t : Token) → Has (Packet.Token t) w.sent → Follows n keep i tokens (with_site w i (took (place keep w i) (site w i) t).0) v
    took_on t h =
        cond_both (not (t.to == i)) (site w i, Err NotForMe) _ (λ (p : Replica × Result Taken Refusal). Follows n keep i tokens (with_site w i p.0) v)
        (λ _. stays)
        (λ mine. cond_both (nat_le t.turn (site w i).last) (site w i, Ok Taken.Repeat) _
        (λ (p : Replica × Result Taken Refusal). Follows n keep i tokens (with_site w i p.0) v) (λ _. stays)
        (λ late. new (eqb-true t.to i (not-false _ mine)) (leb-false t.turn (site w i).last late)))
      where
        stays : Follows n keep i tokens (with_site w i (site w i)) v
        stays = subst (λ y. Follows n keep i tokens y v) (sym (same_world w i)) k

        new : t.to ≡ i → (site w i).last < t.turn → Follows n keep i tokens (with_site w i (record (site w i) { held = Some t.issued; last = t.turn })) v
        new to late =
            let x : Replica = record (site w i) { held = Some t.issued; last = t.turn } in
            let e : site (with_site w i x) i ≡ x = site_set inside {v = w} x rw in
            let q = next_taken t h to late k.token in record {
              fed = record {
                reached = k.fed.reached;
                alike = alike_here x k.fed.alike;
                within = λ u c. subst (λ (s : Replica). Has u s.log) (sym e) (k.fed.within u c);
              };
              none_waits = k.none_waits;
              token = inr (record {
                token = t;
                was = h;
                next = q.0;
                unheld = q.1;
                held = ap (λ (s : Replica). s.held) e;
                last = ap (λ (s : Replica). s.last) e;
              });
              before = k.before;
            }

-- ---- every event

-- what site i sends in the event
abbrev part : ℕ → ℕ → World → Event → List Packet
part i keep w (At j r) = cond (j == i) (sent_here keep w j r) []
part i keep w (Deliver j q) = []

record Goes (n keep i : ℕ) (w v : World) (tokens : List Token) (all : List Message) (e : Event) : Type 0 where
  next : World
  follows : Follows n keep i tokens (happens keep w e).0 next
  again : (rest : List Packet) → rebuilt (spot n keep i) tokens all (site v i) (part i keep w e ++ rest)
      ≡ ((rebuilt (spot n keep i) tokens all (site next i) rest).0, part i keep w e ++ (rebuilt (spot n keep i) tokens all (site next i) rest).1)

none_again : (p : Place) (sent : List Token) {packets : List Packet} (rest : List Packet) (all : List Message) {r s : Replica} → s ≡ r → packets ≡ []
    → rebuilt p sent all r (packets ++ rest) ≡ ((rebuilt p sent all s rest).0, packets ++ (rebuilt p sent all s rest).1)
none_again p sent rest all {r} {s} e f =
    subst (λ ps. rebuilt p sent all r (ps ++ rest) ≡ ((rebuilt p sent all s rest).0, ps ++ (rebuilt p sent all s rest).1)) (sym f)
    (λ j. rebuilt p sent all (sym e j) rest)

one_again : (p : Place) (sent : List Token) {packets : List Packet} (rest : List Packet) (all : List Message) (r : Replica) {s : Replica} {x : Packet}
    → sent_again p sent all r x ≡ (s, x ∷ []) → packets ≡ x ∷ [] → rebuilt p sent all r (packets ++ rest) ≡
    ((rebuilt p sent all s rest).0, packets ++ (rebuilt p sent all s rest).1)
one_again p sent rest all r {s} e f = subst (λ ps. rebuilt p sent all r (ps ++ rest) ≡ ((rebuilt p sent all s rest).0, ps ++ (rebuilt p sent all s rest).1))
    (sym f) (ap (λ q. ((rebuilt p sent all q.0 rest).0, q.1 ++ (rebuilt p sent all q.0 rest).1)) e)

coming_stays : (keep i j : ℕ) (w : World) (o : Option Packet) → (i ≡ j → ⊥) → site (coming keep w j o).0 i ≡ site w i
coming_stays keep i j w None n = refl
coming_stays keep i j w (Some (Packet.Msg m)) n = get_or-set_other w.sites j i (arrived (place keep w j) (site w j) m).0 (opening_at 1) n
coming_stays keep i j w (Some (Packet.Token t)) n = get_or-set_other w.sites j i (took (place keep w j) (site w j) t).0 (opening_at 1) n

requested_stays : (keep i j : ℕ) (w : World) (r : Request) → (i ≡ j → ⊥) → site (requested keep w j r).0 i ≡ site w i
requested_stays keep i j w (Request.Ask a) n = get_or-set_other w.sites j i (asked (place keep w j) (site w j) a).0 (opening_at 1) n
requested_stays keep i j w (Request.Pass to) n = get_or-set_other w.sites j i (passed (place keep w j) (site w j) to).0 (opening_at 1) n
requested_stays keep i j w (Request.List l) n = refl

site_stays : (keep i : ℕ) (w : World) (e : Event) → (site_of e ≡ i → ⊥) → site (happens keep w e).0 i ≡ site w i
site_stays keep i w (At j r) n = at_one (λ y. site y i ≡ site w i) w j (requested keep w j r) refl (λ _. requested_stays keep i j w r (λ q. n (sym q)))
site_stays keep i w (Deliver j k) n = at_one (λ y. site y i ≡ site w i) w j _ refl (λ _. coming_stays keep i j w _ (λ q. n (sym q)))

-- more was sent, and tokens with greater turns
abbrev Grown : List Packet → World → Type 0
Grown sent y = (new : List Packet) × (y.sent ≡ sent ++ new) × ((u : Token) → Has (Packet.Token u) new → turns sent < u.turn)

same_packet : (u t : Token) → Packet.Token u ≡ Packet.Token t → u ≡ t
same_packet u t e = cc

pass_turns : (keep j to : ℕ) {w : World} → Sound w → (o : Option ℕ) → (site w j).held ≡ o → (u : Token)
    → Has (Packet.Token u) (sending Packet.Token (passing (place keep w j) (site w j) to o).1) → turns w.sent < u.turn
pass_turns keep j to s None e u = λ h. absurd h
pass_turns keep j to {w} s (Some issued) e u =
    cond_both (nat_le (length w.sites) to || (to == j)) (site w j, Err BadTarget) _
    (λ (p : Replica × Result Token Refusal). Has (Packet.Token u) (sending Packet.Token p.1) → turns w.sent < u.turn) (λ _ h. absurd h)
    (λ _. cond_both (nat_le 1000000000 (site w j).last) (site w j, Err LastTurn) _
    (λ (p : Replica × Result Token Refusal). Has (Packet.Token u) (sending Packet.Token p.1) → turns w.sent < u.turn) (λ _ h. absurd h)
    (λ _ h. ⊎_elim (λ q. let d = (held_is (length w.sites) (λ j. (site w j).held) (λ j. (site w j).last) w.sent j s.token e).0.now in
    let c = ap (λ (x : Token). x.turn) (same_packet u (token_for (site w j) to issued) q) in omega (arith, d, c)) (λ q. absurd q) h))

no_token : (r : Result Message Refusal) (u : Token) → Has (Packet.Token u) (sending Packet.Msg r) → ⊥
no_token (Ok m) u (inl e) = absurd (cc)
no_token (Ok m) u (inr h) = h
no_token (Err r) u h = h

nothing_new : (w : World) → Grown w.sent w
nothing_new w = ([], sym (append-nil w.sent), λ u h. absurd h)

requested_grows : (keep j : ℕ) {w : World} → Sound w → (r : Request) → Grown w.sent (requested keep w j r).0
requested_grows keep j {w} s (Request.Ask a) = (sending Packet.Msg (asked (place keep w j) (site w j) a).1, refl, λ u h. absurd (no_token _ u h))
requested_grows keep j {w} s (Request.Pass to) = (sending Packet.Token (passed (place keep w j) (site w j) to).1, refl, pass_turns keep j to s _ refl)
requested_grows keep j {w} s (Request.List l) = nothing_new w

coming_grows : (keep j : ℕ) (w : World) (o : Option Packet) → Grown w.sent (coming keep w j o).0
coming_grows keep j w None = nothing_new w
coming_grows keep j w (Some (Packet.Msg m)) = ([], sym (append-nil w.sent), λ u h. absurd h)
coming_grows keep j w (Some (Packet.Token t)) = ([], sym (append-nil w.sent), λ u h. absurd h)

event_grows : (keep : ℕ) {w : World} (e : Event) → Sound w → Grown w.sent (happens keep w e).0
event_grows keep {w} (At j r) s = at_one (Grown w.sent) w j (requested keep w j r) (nothing_new w) (λ _. requested_grows keep j s r)
event_grows keep {w} (Deliver j k) s = at_one (Grown w.sent) w j (coming keep w j (packet_at w.sent k)) (nothing_new w)
    (λ _. coming_grows keep j w (packet_at w.sent k))

turns_append : (xs ys : List Packet) → turns (xs ++ ys) ≡ turns xs + turns ys
turns_append [] ys = omega arith
turns_append (Packet.Msg m ∷ xs) ys = turns_append xs ys
turns_append (Packet.Token t ∷ xs) ys = let e = turns_append xs ys in omega arith

run_grows : {n keep : ℕ} (es : List Event) (w : World) → AreEvents n es → Reached n keep w → Grown w.sent (run keep es w)
run_grows [] w a r = nothing_new w
run_grows {keep = keep} (e ∷ es) w a r =
    let c = event_grows keep e (sound_of r) in
    let b = run_grows es (happens keep w e).0 a.1 (reach_on e r a.0) in (
      c.0 ++ b.0,
      b.1 ∙ ap (λ ps. ps ++ b.0) c.1 ∙ append_assoc w.sent c.0 b.0,
      λ u h. ⊎_elim (c.2 u) (λ q. let d = b.2 u q in omega (arith, d, ap turns c.1, turns_append w.sent c.0)) (has_append (Packet.Token u) c.0 b.0 h),
    )

part_other : (i keep : ℕ) (w : World) (e : Event) → (site_of e ≡ i → ⊥) → part i keep w e ≡ []
part_other i keep w (At j r) n = ap (λ b. cond b (sent_here keep w j r) []) (ne_eqb j i n)
part_other i keep w (Deliver j k) n = refl

module _ {n keep i : ℕ} (inside : i < n) {final : World} (rf : Reached n keep final) (all : List Message) (streams : Streams i final all) {tokens : List Token}
    (told : Told i final tokens) {w v : World} (rw : Reached n keep w) (k : Follows n keep i tokens w v) (later : List Packet)
    (grown : final.sent ≡ w.sent ++ later)
    (newer : (u : Token) → Has (Packet.Token u) later → turns w.sent < u.turn) where
  -- at another site
  goes_other : {e : Event} → IsEvent n e → (site_of e ≡ i → ⊥) → Goes n keep i w v tokens all e
  goes_other {e} a c =
      let x = site_stays keep i w e c in
      let y = site_stays keep i v e c in
      let g = event_grows keep e (sound_of rw) in record {
        next = (happens keep v e).0;
        follows = record {
          fed = record {
            reached = reach_on e k.fed.reached a;
            alike = alike_event keep e c k.fed.alike;
            within = λ u h. subst (λ (s : Replica). Has u s.log) (sym x) (k.fed.within u (subst (λ s. Had s u) y h));
          };
          none_waits = ap (λ (s : Replica). s.waiting) y ∙ k.none_waits;
          token = subst (λ ps. TokenKept i (site (happens keep v e).0 i) (site (happens keep w e).0 i) ps tokens) (sym g.1) (kept_same i {r = site v i}
              {r' = site (happens keep v e).0 i} {s = site w i} {s' = site (happens keep w e).0 i} {sent = w.sent} g.0 {tokens = tokens}
              (ap (λ (s : Replica). s.held) y) (ap (λ (s : Replica). s.last) y) (ap (λ (s : Replica). s.held) x) (ap (λ (s : Replica). s.last) x) k.token);
          before = λ u h. ⊎_elim (λ q. inl q) (λ q. inr (q.0, subst (Has (Packet.Msg q.0)) (sym g.1) (has_left (Packet.Msg q.0) w.sent g.0 q.1), q.2, q.3))
              (k.before u (subst (λ (s : Replica). Has u s.log) y h));
        };
        again = λ rest. none_again (spot n keep i) tokens rest all y (part_other i keep w e c);
      }

  is_in : i < length w.sites
  is_in = subst (λ k. i < k) (sym (sites_of_run rw)) inside

  -- it changes nothing of what is followed
  goes_on : {e : Event} → Follows n keep i tokens (happens keep w e).0 v → part i keep w e ≡ [] → Goes n keep i w v tokens all e
  goes_on f c = record { next = v; follows = f; again = λ rest. none_again (spot n keep i) tokens rest all refl c }

  own_is : (r : Request) → (happens keep w (At i r)).0 ≡ (requested keep w i r).0
  own_is r = ap (λ (y : World × Result Happened Refusal). y.0) (at_inside w i (requested keep w i r) is_in)

  own_part : (r : Request) → part i keep w (At i r) ≡ sent_here keep w i r
  own_part r = ap (λ b. cond b (sent_here keep w i r) []) (eq-eqb i i refl)

  refused : {A : Type 0} (pack : A → Packet) {r : Request} {a : Replica × Result A Refusal} {x : Refusal} → (requested keep w i r).0 ≡ answering pack w i a
      → sent_here keep w i r ≡ sending pack a.1 → a ≡ (site w i, Err x) → Goes n keep i w v tokens all (At i r)
  refused pack {r} e f g = goes_on {e = At i r} (subst (λ y. Follows n keep i tokens y v) (sym (own_is r ∙ e ∙ ap (answering pack w i) g ∙ nothing_sent w i))
      k) (own_part r ∙ f ∙ ap (λ q. sending pack q.1) g)

  stepped : {r : Request} {w' : World} {x : Packet} → (happens keep w (At i r)).0 ≡ w' → part i keep w (At i r) ≡ x ∷ [] → Stepped n keep i w' v tokens all x
      → Goes n keep i w v tokens all (At i r)
  stepped e f s = record {
    next = s.next;
    follows = subst (λ y. Follows n keep i tokens y s.next) (sym e) s.follows;
    again = λ rest. one_again (spot n keep i) tokens rest all (site v i) s.again f;
  }

  goes_ask : (a : Ask) → IsAsk n a → ((y : Packet) → Has y (happens keep w (At i (Request.Ask a))).0.sent → Has y final.sent) → (d : Result Shadow Refusal) →
      decision (rows_at (site w i).log) (standing_of keep (site w i)) a ≡ d → Goes n keep i w v tokens all (At i (Request.Ask a))
  goes_ask a l more (Err x) e = refused Packet.Msg refl refl (ap (generating (place keep w i) (site w i)) e)
  goes_ask a l more (Ok x) e =
      let is = own_is (Request.Ask a) ∙ ap (λ d. answering Packet.Msg w i (generating (place keep w i) (site w i) d)) e in
      let m = made (place keep w i) (site w i) x in
      let was : Sent final (made (place keep w i) (site w i) x) =
      more (Packet.Msg m) (subst (λ (y : World). Has (Packet.Msg m) y.sent) (sym is) (has_last (Packet.Msg m) w.sent)) in
      stepped is
      (own_part (Request.Ask a) ∙ ap (λ d. sending Packet.Msg (generating (place keep w i) (site w i) d).1) e)
      (asked_again inside rw a l e
      (prepare inside rf all streams rw k later grown a e was (is_red x) refl)
      (sellers_told inside rf all streams rw k later grown a e was))

  goes_pass : (to : ℕ) (o : Option ℕ) → (site w i).held ≡ o → (b : Bool) → (nat_le (length w.sites) to || (to == i)) ≡ b → (c : Bool) →
      nat_le 1000000000 (site w i).last ≡ c
      → Goes n keep i w v tokens all (At i (Request.Pass to))
  goes_pass to None e b f c g = refused Packet.Token refl refl (ap (passing (place keep w i) (site w i) to) e)
  goes_pass to (Some issued) e true f c g = refused Packet.Token refl refl
      (ap (passing (place keep w i) (site w i) to) e ∙ ap (λ b. cond {A = Replica × Result Token Refusal} b (site w i, Err BadTarget)
      (cond (nat_le 1000000000 (site w i).last) (site w i, Err LastTurn) (record (site w i) { held = None }, Ok (token_for (site w i) to issued)))) f)
  goes_pass to (Some issued) e false f true g = refused Packet.Token {r = Request.Pass to} {a = passed (place keep w i) (site w i) to} {x = LastTurn} refl
      refl (ap (passing (place keep w i) (site w i) to) e ∙ ap (λ b. cond {A = Replica × Result Token Refusal} b (site w i, Err BadTarget)
      (cond (nat_le 1000000000 (site w i).last) (site w i, Err LastTurn) (record (site w i) { held = None }, Ok (token_for (site w i) to issued)))) f ∙ ap
      (λ b. cond {A = Replica × Result Token Refusal} b (site w i, Err LastTurn) (record (site w i) { held = None }, Ok (token_for (site w i) to issued))) g)
  goes_pass to (Some issued) e false f false g =
      let q = passed_is (place keep w i) to e f g in
      stepped
      (own_is (Request.Pass to) ∙ ap (λ d. answering Packet.Token w i d) q)
      (own_part (Request.Pass to) ∙ ap (λ d. sending Packet.Token d.1) q)
      (passed_again inside rw k all to e f g)

  goes_own : (r : Request) → IsEvent n (At i r) → ((y : Packet) → Has y (happens keep w (At i r)).0.sent → Has y final.sent) →
      Goes n keep i w v tokens all (At i r)
  goes_own (Request.Ask a) l more = goes_ask a l more (decision (rows_at (site w i).log) (standing_of keep (site w i)) a) refl
  goes_own (Request.Pass to) l more = goes_pass to (site w i).held refl (nat_le (length w.sites) to || (to == i)) refl (nat_le 1000000000 (site w i).last) refl
  goes_own (Request.List x) l more = goes_on (subst (λ y. Follows n keep i tokens y v) (sym (own_is (Request.List x))) k) (own_part (Request.List x))

  comes : (o : Option Packet) → ((p : Packet) → o ≡ Some p → Has p w.sent) → Follows n keep i tokens (coming keep w i o).0 v
  comes None h = k
  comes (Some (Packet.Msg m)) h = came_on inside rw k m
  comes (Some (Packet.Token t)) h = took_on inside rw k final told later grown newer t (h (Packet.Token t) refl)

  goes_own_mail : (q : ℕ) → Goes n keep i w v tokens all (Deliver i q)
  goes_own_mail q = goes_on (subst (λ y. Follows n keep i tokens y v) (sym (ap (λ (y : World × Result Happened Refusal). y.0) (at_inside w i _ is_in)))
      (comes _ (has_packet _ q))) refl

  goes : (e : Event) → IsEvent n e → ((y : Packet) → Has y (happens keep w e).0.sent → Has y final.sent) → Goes n keep i w v tokens all e
  goes (At j r) a more = ⊎_elim
      (λ c. subst (λ j. IsEvent n (At j r) → ((y : Packet) → Has y (happens keep w (At j r)).0.sent → Has y final.sent) → Goes n keep i w v tokens all (At j r))
      (sym c) (goes_own r) a more) (λ c. goes_other a c) (cases_eq j i)
  goes (Deliver j q) a more = ⊎_elim (λ c. subst (λ j. Goes n keep i w v tokens all (Deliver j q)) (sym c) (goes_own_mail q))
      (λ c. goes_other a c) (cases_eq j i)

-- ---- every run
record Simulated (n keep i : ℕ) (tokens : List Token) (final v : World) (all : List Message) (packets : List Packet) : Type 0 where
  next : World
  follows : Follows n keep i tokens final next
  again : rebuilt (spot n keep i) tokens all (site v i) packets ≡ (site next i, packets)

sent_of : {v final : World} {ps : List Packet} → v ≡ final → v.sent ≡ ps → final.sent ≡ ps
sent_of e f = ap (λ (y : World). y.sent) (sym e) ∙ f

one_on : (f : List Packet → Replica × List Packet) {packets : List Packet} (first rest : List Packet) {q : Replica × List Packet} (s : Replica)
    → packets ≡ first ++ rest → f (first ++ rest) ≡ (q.0, first ++ q.1) → q ≡ (s, rest) → f packets ≡ (s, packets)
one_on f first rest s a b c = ap f a ∙ b ∙ ap (λ (x : Replica × List Packet). (x.0, first ++ x.1)) c ∙ (λ j. (s, sym a j))

sent_parts : (i keep : ℕ) (e : Event) (es : List Event) (w : World) → sent_by i keep (e ∷ es) w ≡ part i keep w e ++ sent_by i keep es (happens keep w e).0
sent_parts i keep (At j r) es w = refl
sent_parts i keep (Deliver j q) es w = refl

module _ {n keep i : ℕ} (inside : i < n) {final : World} (rf : Reached n keep final) (all : List Message) (streams : Streams i final all) {tokens : List Token}
    (told : Told i final tokens) where
  simulate : (es : List Event) {w v : World} → AreEvents n es → Reached n keep w → Follows n keep i tokens w v → run keep es w ≡ final
      → Simulated n keep i tokens final v all (sent_by i keep es w)
  simulate [] {v} a rw k e = record { next = v; follows = subst (λ y. Follows n keep i tokens y v) e k; again = refl }
  simulate (x ∷ es) {w} {v} a rw k e =
      let on = reach_on x rw a.0 in
      let later = run_grows (x ∷ es) w a rw in
      let rest = run_grows es (happens keep w x).0 a.1 on in
      let whole_on = sent_of e rest.1 in
      let g = goes inside rf all streams told rw k later.0 (sent_of e later.1) later.2 x a.0 (λ y h. subst (Has y) (sym whole_on) (has_left y _ _ h)) in
      let s = simulate es a.1 on g.follows e in record {
        next = s.next;
        follows = s.follows;
        again = one_on (rebuilt (spot n keep i) tokens all (site v i)) (part i keep w x) (sent_by i keep es (happens keep w x).0) (site s.next i)
            (sent_parts i keep x es w) (g.again (sent_by i keep es (happens keep w x).0)) s.again;
      }

starts : {n keep : ℕ} (i : ℕ) (tokens : List Token) → Reached n keep (start n) → Follows n keep i tokens (start n) (start n)
starts {n} i tokens r = record {
  fed = record {
    reached = r;
    alike = record { sent = refl; sites = refl; others = λ j c. refl };
    within = λ u. start_at (λ j x. Had x u → Has u x.log) (λ j h. ⊎_elim (λ q. q) (λ q. q) h) (λ j h. ⊎_elim (λ q. q) (λ q. q) h) n i;
  };
  none_waits = start_at (λ j x. x.waiting ≡ []) (λ j. refl) (λ j. refl) n i;
  token = inl (refl, refl);
  before = λ u h. absurd (start_at (λ j x. Has u x.log → ⊥) (λ j h. h) (λ j h. h) n i h);
}

pub sites_are_rebuilt : SitesAreRebuilt
sites_are_rebuilt n keep i events all tokens few inside are within whole told wholly =
    let w = run keep events (start n) in
    let some : 1 ≤ n = omega (arith, inside) in
    let begun : Reached n keep (start n) = record { some = some; few = few; events = []; are = tt; is = refl } in
    let rf : Reached n keep w = record { some = some; few = few; events = events; are = are; is = refl } in
    let s = simulate inside rf all (within, whole) (told, wholly) events are begun (starts i tokens begun) refl in
    let opens : site (start n) i ≡ opening_at i = get_or-map-range_with_len opening_at 0 n i i (opening_at 1) inside (omega arith) in
    let result : rebuilt (spot n keep i) tokens all (opening_at i) (sent_by i keep events (start n))
    ≡ (site s.next i, sent_by i keep events (start n)) = ap (λ r. rebuilt (spot n keep i) tokens all r (sent_by i keep events (start n))) (sym opens)
    ∙ s.again in
    subst (IsRebuilt n keep i tokens w (sent_by i keep events (start n))) (sym result)
    (rebuilt_is inside s.follows (sent_by i keep events (start n)))
  where
    rebuilt_is : {n keep i : ℕ} {tokens : List Token} → i < n → {w v : World} → Follows n keep i tokens w v → (packets : List Packet)
        → IsRebuilt n keep i tokens w packets (site v i, packets)
    rebuilt_is {i} inside {w} {v} k packets = record {
      again = refl;
      log = λ m. (
        λ h. (over m ((sv.good i).log_sent m (has_back m (site v i).log h)), k.before m h),
        λ q. ⊎_elim (λ o. own m q.0 o)
            (λ u. ⊎_elim (λ o. own m q.0 (o ∙ u.2)) (λ c. counted_there m q.0 u.0 (own u.0 u.1 u.2) u.3 c) (cases_eq m.stamp.id.site u.0.stamp.id.site)) q.1,
      );
      within = λ m h. k.fed.within m (inl h);
      none_waits = k.none_waits;
      token = λ issued e. let h = hold_token inside k.fed e k.token in ap (λ (s : Replica). s.held) (sym h.state) ∙ h.held ∙ e;
      events = k.fed.reached.events;
      are_events = k.fed.reached.are;
      in_place = subst (InPlaceOf i w) (sym k.fed.reached.is) k.fed.alike;
      here = ap (λ y. site y i) k.fed.reached.is;
    }
      where
        sv : Sound v
        sv = sound_of k.fed.reached

        over : (u : Message) → Sent v u → Sent w u
        over u h = subst (Has (Packet.Msg u)) k.fed.alike.sent h

        under_it : (u : Message) → Sent w u → Sent v u
        under_it u h = subst (Has (Packet.Msg u)) (sym k.fed.alike.sent) h

        own : (u : Message) → Sent w u → u.stamp.id.site ≡ i → Has u (site v i).log
        own u h o = has_reverse u (site v i).log (subst (λ q. Has u (reverse (site v q).log)) o (sv.home.home u (under_it u h)))

        counted_there : (m : Message) → Sent w m → (u : Message) → Has u (site v i).log → Precedes m u → (m.stamp.id.site ≡ u.stamp.id.site → ⊥) →
            Has m (site v i).log
        counted_there m a u h p c = has_reverse m (site v i).log (there v (reverse (site v i).log) m sv (sv.good i).released (sv.good i).log_sent (under_it m a)
            (let d = dep_within (reverse (site v i).log) u m.stamp.id.site (sv.good i).released (has_back u (site v i).log h) c in omega (arith, p, d)))
