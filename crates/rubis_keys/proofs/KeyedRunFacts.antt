-- Red messages under keys: whoever makes one has all red ones before it.
use Rattle.rubis_laws.proofs.Common.{◌≡◌, ◌⊎◌, ◌<◌, ◌≤◌, ◌++◌, ◌+◌, ◌∷◌, ◌==◌, ◌∙◌, [], ℕ, Bool, Err, List, Ok, Option, None, Some, Result, ap, append-nil, arith, cond, false}
use Rattle.rubis_laws.proofs.Common.{inl, inr, is_some, length, not, refl, reverse, subst, sym, true, ⊎_elim, eqb-true, true≢false}
use Rattle.rubis_laws.proofs.Common.{option_map_or, Ask, Shadow, Message, Refusal, decision, standing_of, rows_at, is_red, generating, refused_or, shadow_of, Standing}
use Rattle.rubis_laws.proofs.Common.{Full, NoToken, found_red, reds_reverse, has_reverse, has_last, push_cases, reds, asked, Has}
use Rattle.rubis_laws.proofs.Common.{World, Sound, Sent, At, Event, Packet, IsEvent, answering, happens, place, site, made, requested, BadEvent, Rows, granted}
use Rattle.rubis_schema.specs.declared.refusals.Refusal.TheVariants.{RedBehind}
use Rattle.rubis_shadow.specs.declared.shadows.Ask.TheVariants as ask
use Rattle.rubis_message.specs.declared.requests.Request.TheVariants as Request
use Rattle.rubis_generate.proofs.Granted.{red_allowed}
use Rattle.rubis_laws.proofs.Order.Deciding.{red_positive}
use Rattle.rubis_laws.proofs.Order.Winners.{held_is}
use Rattle.rubis_laws.proofs.Runs.Delivering.{run_keeps_sent}
use Rattle.rubis_laws.proofs.Runs.SoundSteps.{event_keeps, start_sound}
use Rattle.std.proofs.lemmas.Bool.{lt-ltb}
use Rattle.rubis_keys.specs.KeyedRuns.{KeyedWorld, KnowsUnder, KeyedEvent, decided, made_under, without_key, IsNewUnder, after_keyed, AreKeyedEvents, keyed_run, keyed_start}
use Rattle.rubis_keys.specs.KeyedRuns.{MayComeLater, RedKeysAreUsedOnce}
use Rattle.rubis_keys.specs.Keys.{is_red_ask}
use Rattle.rubis_keys.specs.KeyedRuns.KeyedEvent.{Bare, Under}

-- a site that has the token, and all red messages that this issued, has released each
has_red : {w : World} (i : ℕ) {issued : ℕ} (u : Message) → Sound w → (site w i).held ≡ Some issued → reds (site w i).log ≡ issued → Sent w u
    → is_red u.shadow ≡ true → Has u (site w i).log
has_red {w} i u s e full sent red =
    let all = held_is (length w.sites) (λ j. (site w j).held) (λ j. (site w j).last) w.sent i s.token e in
    let positive = red_positive u s sent red in
    let few : u.stamp.red ≤ reds (reverse (site w i).log) = omega (arith, s.reds.small u sent, reds_reverse (site w i).log, full, all.1) in
    let f = found_red (reverse (site w i).log) u.stamp.red (s.good i).released positive few in
    let same : f.0 ≡ u = s.reds.single f.0 u ((s.good i).log_sent f.0 f.1) sent (omega (arith, positive, f.2)) f.2 in
    has_reverse u (site w i).log (subst (λ x. Has x (reverse (site w i).log)) same f.1)

-- where the token is held, and issued no more red numbers than the log has
has_red_if : {w : World} (i : ℕ) (u : Message) → Sound w → is_some (site w i).held ≡ true
    → option_map_or (λ issued. reds (site w i).log == issued) (site w i).held false ≡ true → Sent w u → is_red u.shadow ≡ true → Has u (site w i).log
has_red_if {w} i u s holds current sent red = at (site w i).held refl holds current
  where
    at : (o : Option ℕ) → (site w i).held ≡ o → is_some o ≡ true → option_map_or (λ issued. reds (site w i).log == issued) o false ≡ true → Has u (site w i).log
    at None e h c = absurd (true≢false (sym h))
    at (Some issued) e h c = has_red i u s e (eqb-true (reds (site w i).log) issued c) sent red

-- the first three refusals of a red ask
first_three : (full holds current : Bool) (o : Option Refusal) (x : Shadow)
    → ((r : Refusal) × (refused_or (cond full (Some Full) (cond (not holds) (Some NoToken) (cond (not current) (Some RedBehind) o))) x ≡ Err r)
    × MayComeLater r) ⊎ ((holds ≡ true) × (current ≡ true))
first_three true holds current o x = inl (Full, refl, inl refl)
first_three false false current o x = inl (NoToken, refl, inr (inl refl))
first_three false true false o x = inl (RedBehind, refl, inr (inr refl))
first_three false true true o x = inr (refl, refl)

-- a red ask is refused as one of these, or its site has the token and all red messages
red_asked : (t : Rows) (s : Standing) (a : Ask) → is_red_ask a ≡ true
    → ((r : Refusal) × (decision t s a ≡ Err r) × MayComeLater r) ⊎ ((s.holds ≡ true) × (s.current ≡ true))
red_asked t s (ask.Item n) e = absurd (true≢false (sym e))
red_asked t s (ask.Comment n) e = absurd (true≢false (sym e))
red_asked t s (ask.Restock n) e = absurd (true≢false (sym e))
red_asked t s (ask.User n) e = first_three s.full s.holds s.current _ _
red_asked t s (ask.Bid n) e = first_three s.full s.holds s.current _ _
red_asked t s (ask.Buy n) e = first_three s.full s.holds s.current _ _
red_asked t s (ask.Close n) e = first_three s.full s.holds s.current _ _
red_asked t s (ask.Rename n) e = first_three s.full s.holds s.current _ _

-- a shadow has the colour of its ask
ask_colour : (t : Rows) (s : Standing) (a : Ask) (x : Shadow) → decision t s a ≡ Ok x → is_red x ≡ is_red_ask a
ask_colour t s a x e = sym (ap is_red (granted t s a x e).1) ∙ by a
  where
    by : (a : Ask) → is_red (shadow_of t a) ≡ is_red_ask a
    by (ask.User n) = refl
    by (ask.Item n) = refl
    by (ask.Bid n) = refl
    by (ask.Buy n) = refl
    by (ask.Close n) = refl
    by (ask.Comment n) = refl
    by (ask.Restock n) = refl
    by (ask.Rename n) = refl

-- what each event keeps: what was asked under keys was sent, and of each key once in red
record Keeps (s : KeyedWorld) : Type 0 where
  sound : Sound s.world
  sent : (key : List ℕ) (m : Message) → Has (key, m) s.under → Sent s.world m
  once : (key : List ℕ) (u v : Message) → Has (key, u) s.under → Has (key, v) s.under → is_red u.shadow ≡ true → is_red v.shadow ≡ true → u ≡ v

module _ {keep : ℕ} (few : keep ≤ 1000000) where
  bare : (s : KeyedWorld) (e : Event) → IsEvent (length s.world.sites) e → Keeps s → Keeps (record s { world = (happens keep s.world e).0 })
  bare s e limits k = record {
    sound = event_keeps keep few s.world e limits k.sound;
    sent = λ key m h. run_keeps_sent keep (e ∷ []) s.world (Packet.Msg m) (k.sent key m h);
    once = k.once;
  }

  -- what the site makes goes last among the packets
  made_sent : (w : World) {i : ℕ} (a : Ask) {x : Shadow} → i < length w.sites → decision (rows_at (site w i).log) (standing_of keep (site w i)) a ≡ Ok x
      → Has (Packet.Msg (made (place keep w i) (site w i) x)) (happens keep w (At i (Request.Ask a))).0.sent
  made_sent w {i} a {x} l e =
      subst (λ b. Has (Packet.Msg (made (place keep w i) (site w i) x)) (cond b (requested keep w i (Request.Ask a)) (w, Err BadEvent)).0.sent)
      (sym (lt-ltb i (length w.sites) l))
      (subst (λ d. Has (Packet.Msg (made (place keep w i) (site w i) x)) (answering Packet.Msg w i (generating (place keep w i) (site w i) d)).sent) (sym e)
      (has_last (Packet.Msg (made (place keep w i) (site w i) x)) w.sent))

  module _ (s : KeyedWorld) (i : ℕ) (key : List ℕ) (a : Ask) (limits : IsEvent (length s.world.sites) (At i (Request.Ask a)))
      (new : IsNewUnder s (Under i key a)) (k : Keeps s) where
    -- nothing red was asked under the key before
    none_before : (x : Shadow) → decision (rows_at (site s.world i).log) (standing_of keep (site s.world i)) a ≡ Ok x → is_red x ≡ true → (u : Message)
        → Has (key, u) s.under → is_red u.shadow ≡ true → ⊥
    none_before x e red u h colour =
        let may = red_allowed (rows_at (site s.world i).log) (standing_of keep (site s.world i)) a x e red in
        new.1 u (record {
          asked = h;
          colour = colour ∙ sym red ∙ ask_colour (rows_at (site s.world i).log) (standing_of keep (site s.world i)) a x e;
          there = inl (has_red_if i u k.sound may.0 may.1 (k.sent key u h) colour);
        })

    under : (d : Result Shadow Refusal) → decision (rows_at (site s.world i).log) (standing_of keep (site s.world i)) a ≡ d
        → Keeps (record {
          world = (happens keep s.world (At i (Request.Ask a))).0;
          under = s.under ++ made_under key (generating (place keep s.world i) (site s.world i) d).1;
        })
    under (Err r) e = subst (λ n. Keeps (record { world = (happens keep s.world (At i (Request.Ask a))).0; under = n })) (sym (append-nil s.under))
        (bare s (At i (Request.Ask a)) limits k)
    under (Ok x) e = record {
      sound = event_keeps keep few s.world (At i (Request.Ask a)) limits k.sound;
      sent = λ q u h. ⊎_elim (λ old. run_keeps_sent keep (At i (Request.Ask a) ∷ []) s.world (Packet.Msg u) (k.sent q u old))
          (λ p. subst (λ m. Has (Packet.Msg m) (happens keep s.world (At i (Request.Ask a))).0.sent) (sym (ap (λ z. z.1) p)) (made_sent s.world a new.0 e))
          (push_cases (q, u) (key, m) s.under h);
      once = λ q u v hu hv ru rv. ⊎_elim
          (λ old. ⊎_elim (λ older. k.once q u v old older ru rv) (λ p. absurd (clashes q u v old p ru rv)) (push_cases (q, v) (key, m) s.under hv))
          (λ p. ⊎_elim (λ old. absurd (clashes q v u old p rv ru)) (λ p'. ap (λ z. z.1) p ∙ sym (ap (λ z. z.1) p')) (push_cases (q, v) (key, m) s.under hv))
          (push_cases (q, u) (key, m) s.under hu);
    }
      where
        m : Message
        m = made (place keep s.world i) (site s.world i) x

        clashes : (q : List ℕ) (u v : Message) → Has (q, u) s.under → (◌≡◌ {A = List ℕ × Message} (q, v) (key, m)) → is_red u.shadow ≡ true → is_red v.shadow ≡ true → ⊥
        clashes q u v old p ru rv =
            none_before x e (sym (ap (λ z. is_red z.1.shadow) p) ∙ rv) u (subst (λ z. Has (z, u) s.under) (ap (λ z. z.0) p) old) ru

  event : (s : KeyedWorld) (e : KeyedEvent) → IsEvent (length s.world.sites) (without_key e) → IsNewUnder s e → Keeps s → Keeps (after_keyed keep s e)
  event s (Bare e) limits new k = bare s e limits k
  event s (Under i key a) limits new k = under s i key a limits new k _ refl

  events_keep : (es : List KeyedEvent) (s : KeyedWorld) → AreKeyedEvents keep s es → Keeps s → Keeps (keyed_run keep es s)
  events_keep [] s h k = k
  events_keep (e ∷ es) s h k = events_keep es (after_keyed keep s e) h.2 (event s e h.0 h.1 k)

  later : (s : KeyedWorld) → Keeps s → (i : ℕ) (key : List ℕ) (u : Message) (a : Ask) → Has (key, u) s.under → is_red u.shadow ≡ true → is_red_ask a ≡ true
      → KnowsUnder s i key true u ⊎ ((r : Refusal) × (decided keep s.world i a ≡ Err r) × MayComeLater r)
  later s k i key u a h red ask = ⊎_elim
      (λ r. inr (r.0, ap (λ d. (generating (place keep s.world i) (site s.world i) d).1) r.1, r.2))
      (λ may. inl (record { asked = h; colour = red; there = inl (has_red_if i u k.sound may.0 may.1 (k.sent key u h) red) }))
      (red_asked (rows_at (site s.world i).log) (standing_of keep (site s.world i)) a ask)

pub red_keys_once : RedKeysAreUsedOnce
red_keys_once n keep es some few h =
    let k = events_keep few es (keyed_start n) h (record {
      sound = start_sound n some;
      sent = λ key m h. absurd h;
      once = λ key u v h. absurd h;
    }) in
    record { once = k.once; later = later few (keyed_run keep es (keyed_start n)) k }
