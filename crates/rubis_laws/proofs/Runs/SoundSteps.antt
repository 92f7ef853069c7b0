-- Every event keeps a run sound, and a site within what it keeps.
use Rattle.std.proofs.lemmas.Bool.{leb-false, ne_eqb, lt-ltb}
use Rattle.rubis_laws.proofs.Common.{or_left, or_right, not-false, token_for, ◌≡◌, ℕ, ◌+◌, ◌<◌, ◌≤◌, zero, suc, Bool, true, false, cond, Option, Some, None}
use Rattle.rubis_laws.proofs.Common.{List, [], ◌∷◌, ◌++◌, length, get_or, set, refl, sym, ap, ◌∙◌, subst, inl, inr, ⊎_elim, arith, reverse, slice_set}
use Rattle.rubis_laws.proofs.Common.{slice_get, ◌||◌, ◌==◌, nat_lt, nat_le, Result, Ok, Err, option_map, is_some, unwrap_or, list_any, option_map_or, cases_eq}
use Rattle.rubis_laws.proofs.Common.{cases_lt, cond_both, ltb-true, or_parts, eqb-true, true≢false, length-set, get_or-set_same, get_or-set_other, get_or_past}
use Rattle.rubis_laws.proofs.Common.{get_or-map-range_with_len, length-map-range_with_len, same_Some, same_id, Decides-same_id, Refusal, Full, BadTarget}
use Rattle.rubis_laws.proofs.Common.{LastTurn, NotOurs, IsAsk, is_red, Ask, Shadow, Message, Token, Arrival, Taken, decision, reds, Has, Replica, opening_at}
use Rattle.rubis_laws.proofs.Common.{settled, made, after_made, red_for, issued_after, generating, rows_at, standing_of, not_ours, is_repeat, is_full}
use Rattle.rubis_laws.proofs.Common.{after_came, passing, Happened, Request, Packet, World, Event, IsEvent, AreEvents, site, place, with_site, packet_at}
use Rattle.rubis_laws.proofs.Common.{answering, requested, coming, at_site, happens, run, start, At, Deliver, Good, RedsInOrder, OneToken, Sound, settle_grows}
use Rattle.rubis_laws.proofs.Common.{reverse_push, red_allowed, has_left, push_cases, has_reverse, ⊤, length-append, set_past, Room, not_full}
use Rattle.std.proofs.lemmas.List.{set-get_or}
use Rattle.rubis_model.specs.System.{HasOrigins}
use Rattle.rubis_model.proofs.Settling.{good_settle, settle_keeps}
use Rattle.rubis_laws.proofs.Order.Deciding.{set_at, good_more, good_make, IsMade, is_made, reds_blue, reds_red, reds_token, shadow_cases, not_shadow}
use Rattle.rubis_laws.proofs.Order.Deciding.{not_right, red_count_blue, turns_shadow, decided}
use Rattle.rubis_laws.proofs.Order.Winners.{held_is, token_same, token_red, token_passed, token_taken}

-- ---- a site that comes to the state it has
pub same_sites : (w : World) (i : ℕ) → slice_set w.sites i (site w i) ≡ w.sites
same_sites w i = set-get_or w.sites i (opening_at 1)

pub same_world : (w : World) (i : ℕ) → with_site w i (site w i) ≡ w
same_world w i = λ j. record w { sites = same_sites w i j }

pub nothing_sent : (w : World) (i : ℕ) → record { sites = slice_set w.sites i (site w i); sent = w.sent ++ [] } ≡ w
nothing_sent w i = λ j. record { sites = same_sites w i j; sent = none_more w.sent j }
  where
    none_more : (ps : List Packet) → ps ++ [] ≡ ps
    none_more ps = search Rattle.std.proofs.Common.rules

-- the sites once site i has come to the state x
abbrev now : World → ℕ → Replica → ℕ → Replica
now w i x j = get_or (set w.sites i x) j (opening_at 1)

-- ---- a site made a message
inside : {w : World} (i : ℕ) (m : Message) → Sound w → Has m (reverse (site w i).log) → m.stamp.id.site < length w.sites
inside i m s h = s.home.origin m ((s.good i).log_sent m h)

-- the site after message m, which it made
after : World → ℕ → Message → Option ℕ → Replica
after w i m held = settled (record (site w i) { log = (site w i).log ++ m ∷ []; held = held })

good_after : {w : World} {i : ℕ} {m : Message} (held : Option ℕ) → i < length w.sites → Sound w → IsMade i (site w i).log m → (j : ℕ) → Good
    (w.sent ++ Packet.Msg m ∷ []) j (now w i (after w i m held) j).log (now w i (after w i m held) j).waiting
unfolding after
good_after {w} {i} {m} held l s k j = set_at (λ q x. Good (w.sent ++ Packet.Msg m ∷ []) q x.log x.waiting) _ _ l
    (good_settle _ i _ _ _ (good_make k (s.good i))) (λ q _. good_more _ (s.good q)) j

-- what is in a log stays there
stays : (w : World) (i : ℕ) (m u : Message) (held : Option ℕ) → i < length w.sites → (j : ℕ) → Has u (reverse (site w j).log)
    → Has u (reverse (now w i (after w i m held) j).log)
unfolding after
stays w i m u held l j = set_at (λ q x. Has u (reverse (site w q).log) → Has u (reverse x.log)) _ {i = i} {x = after w i m held} _ l (λ h. settle_grows u
    (length (site w i).waiting) ((site w i).log ++ m ∷ []) (site w i).waiting (subst (Has u) (sym (reverse_push (site w i).log m)) (inr h))) (λ q _ h. h) j

arrives : (w : World) (i : ℕ) (m : Message) (held : Option ℕ) → i < length w.sites → Has m (reverse (now w i (after w i m held) i).log)
unfolding after
arrives w i m held l = subst (λ (x : Replica). Has m (reverse x.log)) (sym (get_or-set_same w.sites i (after w i m held) (opening_at 1) l))
    (settle_grows m (length (site w i).waiting) ((site w i).log ++ m ∷ []) (site w i).waiting (subst (Has m) (sym (reverse_push (site w i).log m)) (inl refl)))

home_after : {w : World} {i : ℕ} {m : Message} (held : Option ℕ) → i < length w.sites → Sound w → IsMade i (site w i).log m
    → HasOrigins (length w.sites) (λ j. (now w i (after w i m held) j).log) (w.sent ++ Packet.Msg m ∷ [])
home_after {w} {i} {m} held l s k = record {
  origin = λ u h. ⊎_elim (λ a. s.home.origin u a) (λ e. let o = ap (λ (x : Message). x.stamp.id.site) e in omega (arith, k.origin)) (shadow_cases w.sent h);
  home = λ u h. ⊎_elim (λ a. stays w i m u held l _ (s.home.home u a)) (λ e. subst (λ x. Has x (reverse (now w i (after w i m held) x.stamp.id.site).log))
      (sym e) (subst (λ q. Has m (reverse (now w i (after w i m held) q).log)) (sym k.origin) (arrives w i m held l))) (shadow_cases _ h);
}

last_after : (w : World) {i : ℕ} (m : Message) (held : Option ℕ) → i < length w.sites → (j : ℕ) → (now w i (after w i m held) j).last ≡ (site w j).last
unfolding after
last_after w {i} m held l j = set_at (λ q x. x.last ≡ (site w q).last) w.sites (opening_at 1) l refl (λ q _. refl) j

held_after_other : (w : World) {i : ℕ} (m : Message) (held : Option ℕ) (j : ℕ) → (j ≡ i → ⊥) → (now w i (after w i m held) j).held ≡ (site w j).held
held_after_other w {i} m held j n = ap (λ (x : Replica). x.held) (get_or-set_other w.sites i j (after w i m held) (opening_at 1) n)

held_after_same : (w : World) {i : ℕ} (m : Message) (held : Option ℕ) → i < length w.sites → (now w i (after w i m held) i).held ≡ held
unfolding after
held_after_same w {i} m held l = ap (λ (x : Replica). x.held) (get_or-set_same w.sites i (after w i m held) (opening_at 1) l)

sound_after : {w : World} {i : ℕ} {m : Message} (held : Option ℕ) → i < length w.sites → Sound w → IsMade i (site w i).log m → RedsInOrder
    (w.sent ++ Packet.Msg m ∷ []) → OneToken (length w.sites) (λ j. (now w i (after w i m held) j).held) (λ j. (now w i (after w i m held) j).last)
    (w.sent ++ Packet.Msg m ∷ []) → Sound (record { sites = set w.sites i (after w i m held); sent = w.sent ++ Packet.Msg m ∷ [] })
sound_after {w} {i} {m} held l s k r t = record {
  good = good_after held l s k;
  home = subst (λ n. HasOrigins n (λ j. (now w i (after w i m held) j).log) (w.sent ++ Packet.Msg m ∷ [])) (sym (length-set w.sites i (after w i m held)))
      (home_after held l s k);
  reds = r;
  token = subst (λ n. OneToken n (λ j. (now w i (after w i m held) j).held) (λ j. (now w i (after w i m held) j).last) (w.sent ++ Packet.Msg m ∷ []))
      (sym (length-set w.sites i (after w i m held))) t;
}

sound_blue : (keep : ℕ) {w : World} {i : ℕ} (x : Shadow) → i < length w.sites → red_for x (site w i).held ≡ 0 → issued_after x (site w i).held ≡ (site w i).held
    → IsMade i (site w i).log (made (place keep w i) (site w i) x) → Sound w → Sound
    (record { sites = set w.sites i (after_made (place keep w i) (site w i) x); sent = w.sent ++ Packet.Msg (made (place keep w i) (site w i) x) ∷ [] })
unfolding after
sound_blue keep {w} {i} x l none same k s =
    let m = made (place keep w i) (site w i) x in
    let held = issued_after x (site w i).held in
    sound_after held l s k (reds_blue m none s.reds)
    (token_same (λ j. (site w j).held) (λ j. (now w i (after w i m held) j).held) (λ j. (site w j).last)
    (λ j. (now w i (after w i m held) j).last)
    (λ j. ⊎_elim (λ e. subst (λ q. (now w i (after w i m held) q).held ≡ (site w q).held) (sym e)
    (held_after_same w m held l ∙ same)) (λ e. held_after_other w m held j e) (cases_eq j i)) (last_after w m held l)
    (red_count_blue w.sent m none) (turns_shadow w.sent m) (λ t h. not_right t m w.sent h)
    (λ t h. has_left (Packet.Token t) w.sent (Packet.Msg m ∷ []) h) s.token)

sound_red : (keep : ℕ) {w : World} {i issued : ℕ} (x : Shadow) → (site w i).held ≡ Some issued → i < length w.sites → reds (site w i).log ≡ issued
    → red_for x (site w i).held ≡ issued + 1 → issued_after x (site w i).held ≡ Some (issued + 1) → IsMade i (site w i).log (made (place keep w i) (site w i) x)
    → Sound w → Sound (record
    { sites = set w.sites i (after_made (place keep w i) (site w i) x); sent = w.sent ++ Packet.Msg (made (place keep w i) (site w i) x) ∷ [] })
unfolding after
sound_red keep {w} {i} x e l f number next k s =
    let h = held_is (length w.sites) (λ j. (site w j).held) (λ j. (site w j).last) w.sent i s.token e in
    let m = made (place keep w i) (site w i) x in
    let held = issued_after x (site w i).held in
    let positive : 0 < m.stamp.red = omega (arith, number) in
    sound_after held l s k (reds_red (s.good i) (f ∙ h.1) k (number ∙ ap (λ x. x + 1) h.1) s.reds) (inl (
      i,
      token_red (λ j. (now w i (after w i m held) j).held) (λ j. (now w i (after w i m held) j).last) m
          (held_after_same w m held l ∙ next ∙ ap (λ x. Some (x + 1)) h.1) (held_after_other w m held) (last_after w m held l) positive h.0,
    ))

-- ---- a site whose log and waiting messages stay
quiet : World → ℕ → Option ℕ → ℕ → Replica
quiet w i held last = record (site w i) { held = held; last = last }

quiet_site : (w : World) (i : ℕ) (held : Option ℕ) (last : ℕ) → i < length w.sites → (j : ℕ) → ((now w i (quiet w i held last) j).log ≡ (site w j).log)
    × ((now w i (quiet w i held last) j).waiting ≡ (site w j).waiting)
unfolding quiet
quiet_site w i held last l j = set_at (λ q x. (x.log ≡ (site w q).log) × (x.waiting ≡ (site w q).waiting)) w.sites {i = i} {x = quiet w i held last}
    (opening_at 1) l (refl, refl) (λ q _. (refl, refl)) j

quiet_same : (w : World) (i : ℕ) (held : Option ℕ) (last : ℕ) → i < length w.sites → ((now w i (quiet w i held last) i).held ≡ held)
    × ((now w i (quiet w i held last) i).last ≡ last)
unfolding quiet
quiet_same w i held last l =
    let e = get_or-set_same w.sites i (quiet w i held last) (opening_at 1) l in (ap (λ (x : Replica). x.held) e, ap (λ (x : Replica). x.last) e)

quiet_other : (w : World) (i : ℕ) (x : Replica) (j : ℕ) → (j ≡ i → ⊥) → ((now w i x j).held ≡ (site w j).held) × ((now w i x j).last ≡ (site w j).last)
quiet_other w i x j n = let e = get_or-set_other w.sites i j x (opening_at 1) n in (ap (λ (q : Replica). q.held) e, ap (λ (q : Replica). q.last) e)

home_more : {n : ℕ} {log : ℕ → List Message} {sent : List Packet} (t : Token) → HasOrigins n log sent → HasOrigins n log (sent ++ Packet.Token t ∷ [])
home_more {sent} t h = record {
  origin = λ u k. h.origin u (not_shadow t u sent k);
  home = λ u k. h.home u (not_shadow t u sent k);
}

home_same : {n : ℕ} {log : ℕ → List Message} (log' : ℕ → List Message) {sent : List Packet} → ((j : ℕ) → log' j ≡ log j) → HasOrigins n log sent
    → HasOrigins n log' sent
home_same log' e h = record {
  origin = h.origin;
  home = λ u k. subst (λ x. Has u (reverse x)) (sym (e u.stamp.id.site)) (h.home u k);
}

good_same : {sent : List Packet} {i : ℕ} {log waiting log' waiting' : List Message} → (log' ≡ log) × (waiting' ≡ waiting) → Good sent i log waiting
    → Good sent i log' waiting'
good_same {sent} {i} {log} {waiting'} e g = subst (λ x. Good sent i x waiting') (sym e.0) (subst (λ x. Good sent i log x) (sym e.1) g)

-- logs and waiting messages are the same, and at most one token more was sent
sound_quiet : (w : World) (i : ℕ) (held : Option ℕ) (last : ℕ) {sent : List Packet} → i < length w.sites
    → ((j : ℕ) → Good sent j (site w j).log (site w j).waiting) → HasOrigins (length w.sites) (λ j. (site w j).log) sent → RedsInOrder sent → OneToken
    (length w.sites) (λ j. (now w i (quiet w i held last) j).held) (λ j. (now w i (quiet w i held last) j).last) sent → Sound
    (record { sites = set w.sites i (quiet w i held last); sent = sent })
sound_quiet w i held last {sent} l g h r t = record {
  good =
      λ j. good_same (quiet_site w i held last l j) (g j);
  home = subst (λ n. HasOrigins n (λ j. (now w i (quiet w i held last) j).log) sent) (sym (length-set w.sites i (quiet w i held last)))
      (home_same (λ j. (now w i (quiet w i held last) j).log) (λ j. (quiet_site w i held last l j).0) h);
  reds = r;
  token = subst (λ n. OneToken n (λ j. (now w i (quiet w i held last) j).held) (λ j. (now w i (quiet w i held last) j).last) sent)
      (sym (length-set w.sites i (quiet w i held last))) t;
}

-- ---- the token is passed
sound_passed : {w : World} (i to : ℕ) {issued : ℕ} → (site w i).held ≡ Some issued → i < length w.sites → to < length w.sites → Sound w
    → Sound (record {
      sites = set w.sites i (quiet w i None (site w i).last);
      sent = w.sent ++ Packet.Token
          (record { turn = (site w i).last + 1; to = to; issued = issued }) ∷ [];
    })
sound_passed {w} i to {issued} e l there s =
    let h = held_is (length w.sites) (λ j. (site w j).held) (λ j. (site w j).last) w.sent i s.token e in
    let t : Token = record { turn = (site w i).last + 1; to = to; issued = issued } in
    sound_quiet w i None (site w i).last l (λ j. good_more (Packet.Token t) (s.good j)) (home_more t s.home) (reds_token t s.reds) (inr (
      t,
      token_passed (λ j. (now w i (quiet w i None (site w i).last) j).held) (λ j. (now w i (quiet w i None (site w i).last) j).last) t
          (quiet_same w i None (site w i).last l).0 (λ j n. (quiet_other w i (quiet w i None (site w i).last) j n).0)
          (λ j. ⊎_elim (λ q. subst (λ x. (now w i (quiet w i None (site w i).last) x).last ≡ (site w x).last) (sym q) (quiet_same w i None (site w i).last l).1)
          (λ n. (quiet_other w i (quiet w i None (site w i).last) j n).1) (cases_eq j i)) refl there h.1 h.0,
    ))

-- ---- the token comes
sound_taken : {w : World} {i : ℕ} (t : Token) → Has (Packet.Token t) w.sent → i < length w.sites → t.to ≡ i → (site w i).last < t.turn → Sound w
    → Sound (record { sites = set w.sites i (quiet w i (Some t.issued) t.turn); sent = w.sent })
sound_taken {w} {i} t has l e late s =
    let late_to : (site w t.to).last < t.turn = subst (λ x. (site w x).last < t.turn) (sym e) late in
    sound_quiet w i (Some t.issued) t.turn l s.good s.home s.reds (inl (
      t.to,
      token_taken _ (λ j. (site w j).held) (λ j. (now w i (quiet w i (Some t.issued) t.turn) j).held) (λ j. (site w j).last) (λ j.
          (now w i (quiet w i (Some t.issued) t.turn) j).last) _ t has late_to (subst (λ x. (now w i (quiet w i (Some t.issued) t.turn) x).held ≡ Some t.issued)
          (sym e) (quiet_same w i _ _ l).0) (subst (λ x. (now w i (quiet w i (Some t.issued) t.turn) x).last ≡ t.turn) (sym e) (quiet_same w i _ _ l).1)
          (λ j n. (quiet_other w i _ j (λ q. n (q ∙ sym e))).0) (λ j n. (quiet_other w i _ j (λ q. n (q ∙ sym e))).1) s.token,
    ))

-- ---- a message comes
-- what is in the list has an id that is found there
pub listed : (m : Message) (log : List Message) → Has m log → list_any (λ u. same_id m.stamp.id u.stamp.id) log ≡ true
listed m [] h = absurd h
listed m (x ∷ log) (inl e) = or_left _ _ ((Decides-same_id m.stamp.id x.stamp.id).1 (ap (λ (u : Message). u.stamp.id) e))
listed m (x ∷ log) (inr h) = or_right (same_id m.stamp.id x.stamp.id) (list_any (λ u. same_id m.stamp.id u.stamp.id) log) (listed m log h)

-- what isn't released or waiting is another site's
foreign : {w : World} {i : ℕ} (m : Message) → Has (Packet.Msg m) w.sent → is_repeat (site w i) m ≡ false → Sound w → m.stamp.id.site ≡ i → ⊥
foreign {w} {i} m h b s e =
    let q = or_parts (list_any (λ u. same_id m.stamp.id u.stamp.id) (site w i).log) (list_any (λ u. same_id m.stamp.id u.stamp.id) (site w i).waiting) b in
    let k = listed m (site w i).log (has_reverse m (site w i).log (subst (λ x. Has m (reverse (site w x).log)) e (s.home.home m h))) in
    true≢false (sym k ∙ q.0)

came : World → ℕ → Message → Replica
came w i m = after_came (site w i) m

good_waiting : {sent : List Packet} {i : ℕ} {log waiting : List Message} (m : Message) → Has (Packet.Msg m) sent → (m.stamp.id.site ≡ i → ⊥)
    → Good sent i log waiting → Good sent i log (waiting ++ m ∷ [])
good_waiting {sent} {waiting} m h n g = record {
  released = g.released;
  made = g.made;
  decided = g.decided;
  log_sent = g.log_sent;
  waiting_sent = λ u k. ⊎_elim (λ a. g.waiting_sent u a) (λ e. subst (λ x. Has (Packet.Msg x) sent) (sym e) h) (push_cases u m waiting k);
  waiting_others = λ u k o. ⊎_elim (λ a. g.waiting_others u a o) (λ e. n (ap (λ (x : Message). x.stamp.id.site) (sym e) ∙ o)) (push_cases u m _ k);
}

sound_came : {w : World} (i : ℕ) (m : Message) → i < length w.sites → Has (Packet.Msg m) w.sent → (m.stamp.id.site ≡ i → ⊥) → Sound w
    → Sound (record { sites = set w.sites i (came w i m); sent = w.sent })
unfolding came
sound_came {w} i m l h n s = record {
  good = set_at (λ q x. Good w.sent q x.log x.waiting) _ _ l (good_settle _ i _ _ _ (good_waiting m h n (s.good i))) (λ q _. s.good q);
  home = subst (λ n. HasOrigins n (λ j. (now w i (came w i m) j).log) w.sent) (sym (length-set w.sites i (came w i m)))
      (record { origin = s.home.origin; home = λ u k. stay u u.stamp.id.site (s.home.home u k) });
  reds = s.reds;
  token = subst (λ n. OneToken n (λ j. (now w i (came w i m) j).held) (λ j. (now w i (came w i m) j).last) w.sent) (sym (length-set w.sites i (came w i m)))
      (token_same (λ j. (site w j).held) (λ j. (now w i (came w i m) j).held) (λ j. (site w j).last) (λ j. (now w i (came w i m) j).last)
      (λ j. set_at (λ q x. x.held ≡ (site w q).held) w.sites (opening_at 1) l refl (λ q _. refl) j)
      (λ j. set_at (λ q x. x.last ≡ (site w q).last) w.sites (opening_at 1) l refl (λ q _. refl) j) refl refl (λ t k. k) (λ t k. k) s.token);
}
  where
    stay : (u : Message) (j : ℕ) → Has u (reverse (site w j).log) → Has u (reverse (now w i (came w i m) j).log)
    stay u j = set_at (λ q x. Has u (reverse (site w q).log) → Has u (reverse x.log)) w.sites {i = i} {x = came w i m} (opening_at 1) l
        (λ k. settle_grows u (length ((site w i).waiting ++ m ∷ [])) (site w i).log ((site w i).waiting ++ m ∷ []) k) (λ q _ k. k) j

-- ---- every event
has_get : {A : Type 0} (xs : List A) (k : ℕ) {x : A} → slice_get xs k ≡ Some x → Has x xs
has_get [] k e = absurd (cc)
has_get (y ∷ xs) zero {x} e = inl (sym (same_Some y x e))
has_get (y ∷ xs) (suc k) e = inr (has_get xs k e)

-- where there is no such site, nothing happens
pub at_one : (P : World → Type 0) (w : World) (i : ℕ) (step : World × Result Happened Refusal) → P w → (i < length w.sites → P step.0) → P (at_site w i step).0
at_one P w i step old new = cond_both _ step _ (λ (p : World × Result Happened Refusal). P p.0) (λ l. new (ltb-true i (length w.sites) l)) (λ _. old)

pub has_packet : (sent : List Packet) (k : ℕ) (p : Packet) → packet_at sent k ≡ Some p → Has p sent
has_packet sent zero p e = absurd (cc)
has_packet sent (suc k) p e = has_get sent k e

-- P holds after whatever an event with E may change at site i of w
pub record Lasts (keep : ℕ) (E : Event → Type 0) (P : World → Type 0) (w : World) (i : ℕ) : Type 0 where
  pub makes : (a : Ask) (x : Shadow) → E (At i (Request.Ask a)) → decision (rows_at (site w i).log) (standing_of keep (site w i)) a ≡ Ok x
      → P (answering Packet.Msg w i (generating (place keep w i) (site w i) (Ok x)))
  pub passes : (to issued : ℕ) → (site w i).held ≡ Some issued → to < length w.sites → (site w i).last < 1000000000
      → P (answering Packet.Token w i (record (site w i) { held = None }, Ok (token_for (site w i) to issued)))
  pub comes : (m : Message) → Has (Packet.Msg m) w.sent → is_repeat (site w i) m ≡ false → is_full keep (site w i) ≡ false
      → P (with_site w i (after_came (site w i) m))
  pub gets : (t : Token) → Has (Packet.Token t) w.sent → t.to ≡ i → (site w i).last < t.turn
      → P (with_site w i (record (site w i) { held = Some t.issued; last = t.turn }))

module _ {keep : ℕ} {E : Event → Type 0} {P : World → Type 0} {w : World} {i : ℕ} (old : P w) (k : Lasts keep E P w i) where
  same_state : P (with_site w i (site w i))
  same_state = subst P (sym (same_world w i)) old

  refused : P (record { sites = slice_set w.sites i (site w i); sent = w.sent ++ [] })
  refused = subst P (sym (nothing_sent w i)) old

  asking_lasts : (a : Ask) → E (At i (Request.Ask a)) → (d : Result Shadow Refusal)
      → decision (rows_at (site w i).log) (standing_of keep (site w i)) a ≡ d → P (answering Packet.Msg w i (generating (place keep w i) (site w i) d))
  asking_lasts a h (Err r) e = refused
  asking_lasts a h (Ok x) e = k.makes a x h e

  passing_lasts : (to : ℕ) (o : Option ℕ) → (site w i).held ≡ o → P (answering Packet.Token w i (passing (place keep w i) (site w i) to o))
  passing_lasts to None e = refused
  passing_lasts to (Some issued) e =
      cond_both (nat_le (length w.sites) to || (to == i)) (site w i, Err BadTarget) _ (λ (p : Replica × Result Token Refusal). P (answering Packet.Token w i p))
      (λ _. refused)
      (λ there. cond_both (nat_le 1000000000 (site w i).last) (site w i, Err LastTurn) _
      (λ (p : Replica × Result Token Refusal). P (answering Packet.Token w i p)) (λ _. refused)
      (λ early. k.passes to issued e (leb-false (length w.sites) to (or_parts _ _ there).0) (leb-false 1000000000 (site w i).last early)))

  coming_lasts : (o : Option Packet) → ((p : Packet) → o ≡ Some p → Has p w.sent) → P (coming keep w i o).0
  coming_lasts None h = old
  coming_lasts (Some (Packet.Msg m)) h = cond_both (not_ours (place keep w i) (site w i) m) (site w i, Err NotOurs) _
      (λ (p : Replica × Result Arrival Refusal). P (with_site w i p.0)) (λ _. same_state) (λ _. cond_both (is_repeat (site w i) m) (site w i, Ok Arrival.Repeat)
      _ (λ (p : Replica × Result Arrival Refusal). P (with_site w i p.0)) (λ _. same_state) (λ new. cond_both (is_full keep (site w i)) (site w i, Err Full) _
      (λ (p : Replica × Result Arrival Refusal). P (with_site w i p.0)) (λ _. same_state) (k.comes m (h (Packet.Msg m) refl) new)))
  coming_lasts (Some (Packet.Token t)) h = cond_both _ _ _ (λ (p : Replica × Result Taken Refusal). P (with_site w i p.0)) (λ _. same_state)
      (λ mine. cond_both _ _ _ (λ (p : Replica × Result Taken Refusal). P (with_site w i p.0)) (λ _. same_state)
      (λ late. k.gets t (h (Packet.Token t) refl) (eqb-true t.to i (not-false _ mine)) (leb-false t.turn (site w i).last late)))

  requested_lasts : (r : Request) → E (At i r) → P (requested keep w i r).0
  requested_lasts (Request.Ask a) h = asking_lasts a h (decision (rows_at (site w i).log) (standing_of keep (site w i)) a) refl
  requested_lasts (Request.Pass to) h = passing_lasts to (site w i).held refl
  requested_lasts (Request.List l) h = old

pub event_by : {keep : ℕ} {E : Event → Type 0} {P : World → Type 0} {w : World} (e : Event) → E e → P w
    → ((i : ℕ) → i < length w.sites → Lasts keep E P w i) → P (happens keep w e).0
event_by {keep} {P = P} {w} (At i r) h old k = at_one P w i (requested keep w i r) old (λ l. requested_lasts old (k i l) r h)
event_by {keep} {P = P} {w} (Deliver i q) h old k =
    at_one P w i (coming keep w i (packet_at w.sent q)) old (λ l. coming_lasts old (k i l) (packet_at w.sent q) (has_packet w.sent q))

module _ {keep : ℕ} (few : keep ≤ 1000000) (w : World) (i : ℕ) (l : i < length w.sites) (s : Sound w) (ask : Ask) (limits : IsAsk (length w.sites) ask) where
  inside_made : (x : Shadow) → decision (rows_at (site w i).log) (standing_of keep (site w i)) ask ≡ Ok x
      → is_red x ≡ nat_lt 0 (red_for x (site w i).held) → (0 < red_for x (site w i).held → red_for x (site w i).held ≡ reds (site w i).log + 1)
      → IsMade i (site w i).log (made (place keep w i) (site w i) x)
  inside_made x e colour number =
      is_made (place keep w i) (site w i) x (decided keep few w i s ask x limits e colour) (λ m h. inside i m s h) number

  made_keeps : (x : Shadow) → decision (rows_at (site w i).log) (standing_of keep (site w i)) ask ≡ Ok x → (b : Bool) → is_red x ≡ b
      → (o : Option ℕ) → (site w i).held ≡ o
      → Sound (record {
        sites = set w.sites i (after_made (place keep w i) (site w i) x);
        sent = w.sent
            ++ Packet.Msg (made (place keep w i) (site w i) x) ∷ [];
      })
  made_keeps x e false r o h =
      let none : red_for x (site w i).held ≡ 0 = ap (λ b. cond b (unwrap_or (site w i).held 0 + 1) 0) r in
      sound_blue keep x l none (ap (λ b. cond b (option_map (λ issued. issued + 1) (site w i).held) (site w i).held) r)
      (inside_made x e (r ∙ sym (ap (nat_lt 0) none)) (λ q. absurd (omega (arith, none)))) s
  made_keeps x e true r None h = absurd (true≢false (sym (red_allowed (rows_at (site w i).log) _ ask x e r).0 ∙ ap is_some h))
  made_keeps x e true r (Some issued) h =
      let number : red_for x (site w i).held ≡ issued + 1 = (λ j. cond (r j) (unwrap_or (h j) 0 + 1) 0) in
      let up : reds (site w i).log ≡ issued = eqb-true (reds (site w i).log) issued
      (ap (λ q. option_map_or (λ n. reds (site w i).log == n) q false) (sym h) ∙ (red_allowed (rows_at (site w i).log) _ ask x e r).1) in
      sound_red keep x h l up number (λ j. cond (r j) (option_map (λ issued. issued + 1) (h j)) (h j))
      (inside_made x e (r ∙ sym (ap (nat_lt 0) number ∙ lt-ltb 0 (issued + 1) (omega arith))) (λ _. number ∙ ap (λ n. n + 1) (sym up))) s

sound_lasts : {keep : ℕ} → keep ≤ 1000000 → {w : World} → Sound w → (i : ℕ) → i < length w.sites → Lasts keep (IsEvent (length w.sites)) Sound w i
unfolding quiet came
sound_lasts few {w} s i l = record {
  makes = λ a x limits e. made_keeps few w i l s a limits x e (is_red x) refl (site w i).held refl;
  passes = λ to issued e there early. sound_passed i to e l there s;
  comes = λ m h new room. sound_came i m l h (foreign m h new s) s;
  gets = λ t h mine late. sound_taken t h l mine late s;
}

pub event_keeps : (keep : ℕ) → keep ≤ 1000000 → (w : World) (e : Event) → IsEvent (length w.sites) e → Sound w → Sound (happens keep w e).0
event_keeps keep few w e a s = event_by e a s (sound_lasts few s)

-- ---- as many sites as before
coming_sites : (keep : ℕ) (w : World) (i : ℕ) (o : Option Packet) → length (coming keep w i o).0.sites ≡ length w.sites
coming_sites keep w i None = refl
coming_sites keep w i (Some (Packet.Msg m)) = length-set w.sites i _
coming_sites keep w i (Some (Packet.Token t)) = length-set w.sites i _

requested_sites : (keep : ℕ) (w : World) (i : ℕ) (r : Request) → length (requested keep w i r).0.sites ≡ length w.sites
requested_sites keep w i (Request.Ask ask) = length-set w.sites i _
requested_sites keep w i (Request.Pass to) = length-set w.sites i _
requested_sites keep w i (Request.List l) = refl

pub event_sites : (keep : ℕ) (w : World) (e : Event) → length (happens keep w e).0.sites ≡ length w.sites
event_sites keep w (At i r) = at_one (λ v. length v.sites ≡ length w.sites) w i (requested keep w i r) refl (λ _. requested_sites keep w i r)
event_sites keep w (Deliver i k) = at_one (λ v. length v.sites ≡ length w.sites) w i _ refl (λ _. coming_sites keep w i _)

pub run_sites : (keep : ℕ) (es : List Event) (w : World) → length (run keep es w).sites ≡ length w.sites
run_sites keep [] w = refl
run_sites keep (e ∷ es) w = run_sites keep es (happens keep w e).0 ∙ event_sites keep w e

pub run_keeps : {keep : ℕ} → keep ≤ 1000000 → (es : List Event) {w : World} → AreEvents (length w.sites) es → Sound w → Sound (run keep es w)
run_keeps few [] a s = s
run_keeps {keep} few (e ∷ es) {w} a s =
    run_keeps {keep = keep} few es {w = (happens keep w e).0} (subst (λ n. AreEvents n es) (sym (event_sites keep w e)) a.1) (event_keeps keep few w e a.0 s)

-- ---- the start
pub start_sites : (n : ℕ) → length (start n).sites ≡ n
start_sites n = length-map-range_with_len opening_at 0 n

pub start_at : (P : ℕ → Replica → Type 0) → ((i : ℕ) → P i (opening_at i)) → ((i : ℕ) → P i (opening_at 1)) → (n i : ℕ) → P i (site (start n) i)
start_at P here there n i = ⊎_elim (λ k. subst (P i) (sym (get_or-map-range_with_len opening_at 0 n i i (opening_at 1) k (omega arith))) (here i))
    (λ k. subst (P i) (sym (get_or_past (start n).sites i (opening_at 1) (subst (λ x. x ≤ i) (sym (start_sites n)) k))) (there i)) (cases_lt i n)

good_start : (i : ℕ) → Good [] i [] []
good_start i =
    record { released = tt; made = tt; decided = tt; log_sent = λ m h. absurd h; waiting_sent = λ m h. absurd h; waiting_others = λ m h. absurd h }

pub start_sound : (n : ℕ) → 1 ≤ n → Sound (start n)
start_sound n some = record {
  good = start_at (λ i x. Good [] i x.log x.waiting) good_start good_start n;
  home = record { origin = λ m h. absurd h; home = λ m h. absurd h };
  reds = record { small = λ m h. absurd h; single = λ u v h. absurd h; ordered = λ u v h. absurd h; each = λ r a b. absurd (omega (arith, a, b)) };
  token = inl (
    0,
    record {
      within = omega (arith, some, start_sites n);
      here = ap (λ (x : Replica). x.held) (get_or-map-range_with_len opening_at 0 n 0 0 (opening_at 1) (omega (arith, some)) (omega arith));
      alone = start_at (λ i x. (i ≡ 0 → ⊥) → x.held ≡ None) not_first (λ i q. refl) n;
      now = start_at (λ i x. x.last ≡ 0) (λ i. refl) (λ i. refl) n 0;
      earlier = start_at (λ i x. x.last ≤ 0) (λ i. omega arith) (λ i. omega arith) n;
      taken = λ t h. absurd h;
    },
  );
}
  where
    not_first : (i : ℕ) → (i ≡ 0 → ⊥) → (opening_at i).held ≡ None
    not_first i q = ap (λ b. cond b (Some 0) None) (ne_eqb i 0 q)

-- ---- a site never has more messages than it keeps

-- the site holds at most `keep` messages, logged or waiting
abbrev Holds : ℕ → Replica → Type 0
Holds keep s = length s.log + length s.waiting ≤ keep

holds_settled : {keep : ℕ} (s : Replica) → Holds keep s → Holds keep (settled s)
holds_settled {keep} s h = settle_keeps (λ l w. length l + length w ≤ keep) (λ l w p t k. omega (arith, t.3, k, length-append l (p.0 ∷ []))) _ s.log _ h

room_set : {keep : ℕ} (w : World) (i : ℕ) (x : Replica) → Room keep w → Holds keep x → Room keep (with_site w i x)
room_set {keep} w i x r h j = ⊎_elim (λ l. set_at (λ q y. Holds keep y) w.sites (opening_at 1) l h (λ q _. r q) j)
    (λ l. subst (λ (s : List Replica). Holds keep (get_or s j (opening_at 1))) (sym (set_past w.sites i x l)) (r j)) (cases_lt i (length w.sites))

room_lasts : {keep : ℕ} {w : World} → Room keep w → (i : ℕ) → i < length w.sites → Lasts keep (λ _. ⊤) (Room keep) w i
room_lasts {keep} {w} r i _ = record {
  makes = λ a x _ e. room_set w i (after_made (place keep w i) (site w i) x) r
      (holds_settled (record (site w i) { log = (site w i).log ++ made (place keep w i) (site w i) x ∷ []; held = issued_after x (site w i).held })
      (let l = leb-false _ _ (not_full (rows_at (site w i).log) (standing_of keep (site w i)) a x e) in
      omega (arith, l, length-append (site w i).log (made (place keep w i) (site w i) x ∷ []))));
  passes = λ to issued _ _ _. room_set w i (record (site w i) { held = None }) r (r i);
  comes = λ m _ _ room. room_set w i (after_came (site w i) m) r (holds_settled (record (site w i) { waiting = (site w i).waiting ++ m ∷ [] })
      (let l = leb-false _ _ room in omega (arith, l, length-append (site w i).waiting (m ∷ []))));
  gets = λ t _ _ _. room_set w i (record (site w i) { held = Some t.issued; last = t.turn }) r (r i);
}

pub room_event : (keep : ℕ) (w : World) (e : Event) → Room keep w → Room keep (happens keep w e).0
room_event keep w e r = event_by e tt r (room_lasts r)

pub room_run : {keep : ℕ} (es : List Event) (w : World) → Room keep w → Room keep (run keep es w)
room_run [] w r = r
room_run {keep} (e ∷ es) w r = room_run {keep = keep} es (happens keep w e).0 (room_event keep w e r)

pub room_start : (keep n : ℕ) → Room keep (start n)
room_start keep n = start_at (λ i x. length x.log + length x.waiting ≤ keep) (λ i. omega arith) (λ i. omega arith) n
