-- A new site that is given all messages of a run is a site of a run that sent the same, to which they are delivered.
use Rattle.std.proofs.lemmas.Bool.{lt-ltb}
use Rattle.rubis_laws.proofs.Common.{true≢false, ◌≡◌, ◌∙◌, ℕ, ◌≤◌, ◌<◌, List, [], ◌∷◌, length, Some, refl, sym, ap, subst, inl, inr, ⊎_elim, nat_lt, Result}
use Rattle.rubis_laws.proofs.Common.{Err, cond_both, Refusal, BadEvent, Message, Happened, Packet, Token, after_all, SameSet, AreDeliveries, HasAll}
use Rattle.rubis_laws.proofs.Common.{HasReleasedAll, message_count, Sent, tables_at, cores, fold_of, IsRebuilt, rebuilt, Has, Replica, arrived, opening_at}
use Rattle.rubis_laws.proofs.Common.{Room, Sound, World, Event, AreEvents, site, place, packet_at, coming, happens, run, start, Deliver, contained, contains}
use Rattle.rubis_model.specs.Laws.{HasExactly}
use Rattle.rubis_model.specs.Rebuild.{AreAllFor, GivenAreReleased, GivenConverge, GivenHaveTheTablesOfTheRun, given}
use Rattle.rubis_laws.proofs.Runs.Delivering.{released_all, rests_run, are_events, deliver_sent, delivered, deliveries_sent, number_of}
use Rattle.rubis_laws.proofs.Rows.Cores.{same_cores}
use Rattle.rubis_laws.proofs.Rows.EqualSets.{equal_sets_equal_tables}
use Rattle.rubis_laws.proofs.Runs.SoundSteps.{run_sites, event_sites, run_keeps, start_sites, room_run}
use Rattle.rubis_laws.proofs.Order.Deciding.{log_checked, set_at}
use Rattle.rubis_laws.proofs.Runs.Written.{AllRest, rest_run}
use Rattle.rubis_laws.proofs.Runs.EveryRun.{room_of, short, sound_run}
use Rattle.rubis_laws.proofs.Rebuilding.RebuiltSites.{sites_are_rebuilt}

-- ---- the tokens among packets

tokens_of : List Packet → List Token
tokens_of [] = []
tokens_of (Packet.Msg m ∷ ps) = tokens_of ps
tokens_of (Packet.Token t ∷ ps) = t ∷ tokens_of ps

token_in : (t : Token) (ps : List Packet) → Has (Packet.Token t) ps → Has t (tokens_of ps)
unfolding tokens_of
token_in t [] h = h
token_in t (Packet.Msg m ∷ ps) (inl e) = absurd cc
token_in t (Packet.Msg m ∷ ps) (inr h) = token_in t ps h
token_in t (Packet.Token u ∷ ps) (inl e) = inl (let q : t ≡ u = cc in q)
token_in t (Packet.Token u ∷ ps) (inr h) = inr (token_in t ps h)

token_of : (t : Token) (ps : List Packet) → Has t (tokens_of ps) → Has (Packet.Token t) ps
unfolding tokens_of
token_of t [] h = h
token_of t (Packet.Msg m ∷ ps) h = inr (token_of t ps h)
token_of t (Packet.Token u ∷ ps) (inl e) = inl (ap (λ x. Packet.Token x) e)
token_of t (Packet.Token u ∷ ps) (inr h) = inr (token_of t ps h)

-- ---- messages that arrive, as deliveries

record Delivered (keep i : ℕ) (v : World) (messages : List Message) : Type 0 where
  events : List Event
  only : AreDeliveries events
  here : site (run keep events v) i ≡ after_all (place keep v i) (site v i) messages
  each : (m : Message) → Has m messages → (k : ℕ) × (packet_at v.sent k ≡ Some (Packet.Msg m)) × Has (Deliver i k) events

delivered_next : (keep i k : ℕ) (v : World) (m : Message) → i < length v.sites → packet_at v.sent k ≡ Some (Packet.Msg m)
    → site (happens keep v (Deliver i k)).0 i ≡ (arrived (place keep v i) (site v i) m).0
delivered_next keep i k v m l e = cond_both (nat_lt i (length v.sites)) (coming keep v i (packet_at v.sent k)) (v, Err BadEvent)
    (λ (p : World × Result Happened Refusal). site p.0 i ≡ (arrived (place keep v i) (site v i) m).0) (λ _. subst (λ o. site (coming keep v i o).0 i
    ≡ (arrived (place keep v i) (site v i) m).0) (sym e) (set_at (λ q y. q ≡ i → y ≡ (arrived (place keep v i) (site v i) m).0) v.sites (opening_at 1) l
    (λ _. refl) (λ q n h. absurd (n h)) i refl)) (λ b. absurd (true≢false (sym (lt-ltb i (length v.sites) l) ∙ b)))

deliver_each : (keep i : ℕ) (messages : List Message) (v : World) → i < length v.sites → ((m : Message) → Has m messages → Sent v m)
    → Delivered keep i v messages
deliver_each keep i [] v l sent = record { events = []; only = tt; here = refl; each = λ m h. absurd h }
deliver_each keep i (m ∷ messages) v l sent =
    let k = number_of (Packet.Msg m) v.sent (sent m (inl refl)) in
    let next = (happens keep v (Deliver i k.0)).0 in
    let same = deliver_sent keep v i k.0 in
    let many = event_sites keep v (Deliver i k.0) in
    let rest = deliver_each keep i messages next (subst (λ n. i < n) (sym many) l) (λ x h. subst (λ ps. Has (Packet.Msg x) ps) (sym same) (sent x (inr h))) in
    record {
      events = Deliver i k.0 ∷ rest.events;
      only = rest.only;
      here = rest.here ∙ (λ j. after_all (record { site = i; sites = many j; keep = keep }) (delivered_next keep i k.0 v m l k.1 j) messages);
      each = λ x h. ⊎_elim (λ e. (k.0, k.1 ∙ ap (λ y. Some (Packet.Msg y)) (sym e), inl refl))
          (λ q. let r = rest.each x q in (r.0, ap (λ ps. packet_at ps r.0) (sym same) ∙ r.1, inr r.2)) h;
    }

-- ---- the world in which the new site is one of the sites

-- of a world, in which the same was sent, site i is the new site, and has released all messages
record IsThere (keep i : ℕ) (w : World) (s : Replica) : Type 0 where
  world : World
  sound : Sound world
  room : Room keep world
  here : site world i ≡ s
  sent : world.sent ≡ w.sent
  done : HasReleasedAll world i

module _ (n keep i : ℕ) (events : List Event) (messages : List Message) (some : 1 ≤ n) (few : keep ≤ 1000000) (a : AreEvents n events)
    (are : AreAllFor n keep i events messages) where
  abbrev w : World
  w = run keep events (start n)

  new : IsRebuilt n keep i (tokens_of w.sent) w [] (opening_at i, [])
  new = subst (λ ps. IsRebuilt n keep i (tokens_of w.sent) w ps
      (rebuilt (record { site = i; sites = n; keep = keep }) (tokens_of w.sent) messages (opening_at i) ps)) are.sends_nothing (sites_are_rebuilt n keep i
      events messages (tokens_of w.sent) few are.within a (λ m. (are.all m).0) (λ m h _. (are.all m).1 h) (λ t. token_of t _) (λ t h _. token_in t _ h))

  is_there : IsThere keep i w (given n keep i messages)
  is_there =
      let v = run keep new.events (start n) in
      let sv : Sound v = sound_run new.events some few new.are_events in
      let count : length v.sites ≡ n = run_sites keep new.events (start n) ∙ start_sites n in
      let l : i < length v.sites = subst (λ k. i < k) (sym count) are.within in
      let on : (m : Message) → Has m messages → Sent v m = λ m h. subst (λ ps. Has (Packet.Msg m) ps) (sym new.in_place.sent) ((are.all m).0 h) in
      let d = deliver_each keep i messages v l on in
      let u = run keep d.events v in
      let es = are_events (length v.sites) d.events d.only in
      let rv : AllRest v = rests_run new.events some few new.are_events in
      let su : Sound u = run_keeps few d.events es sv in
      let same : u.sent ≡ v.sent = deliveries_sent keep d.events v d.only in
      let has : HasAll u i = λ m h.
      let c : Sent v m = subst (λ ps. Has (Packet.Msg m) ps) same h in
      let k = d.each m ((are.all m).1 (subst (λ ps. Has (Packet.Msg m) ps) new.in_place.sent c)) in
      delivered keep few d.events v i k.0 m d.only sv rv (subst (λ ps. message_count ps ≤ keep) (sym new.in_place.sent) are.room) l k.1 c (inl k.2) in record {
        world = u;
        sound = su;
        room = room_run d.events v (room_of n keep new.events);
        here = d.here ∙ (λ j. after_all (record { site = i; sites = count j; keep = keep }) (new.here j) messages);
        sent = same ∙ new.in_place.sent;
        done = released_all u su (rest_run few d.events es sv rv) i has;
      }

  exactly : HasExactly (Sent w) (given n keep i messages)
  exactly = record {
    none_waits = ap (λ (s : Replica). s.waiting) (sym is_there.here) ∙ is_there.done.none_waits;
    released = λ m. (
      (λ h. subst (λ (s : Replica). Has m s.log) is_there.here ((is_there.done.released m).0 (subst (λ ps. Has (Packet.Msg m) ps) (sym is_there.sent) h))),
      λ h. subst (λ ps. Has (Packet.Msg m) ps) is_there.sent ((is_there.done.released m).1 (subst (λ (s : Replica). Has m s.log) (sym is_there.here) h)),
    );
  }

pub given_are_released : GivenAreReleased
given_are_released n keep i events messages some few a are = exactly n keep i events messages some few a are

-- two sites of two worlds whose logs have the same messages
same_tables : {keep : ℕ} (i j : ℕ) {u v : World} → keep ≤ 1000000 → Sound u → Sound v → Room keep u → Room keep v → SameSet (site u i).log (site v j).log
    → tables_at u i ≡ tables_at v j
same_tables {keep} i j {u} {v} few s t r q same = equal_sets_equal_tables (cores (site u i).log) (cores (site v j).log) (log_checked i s) (log_checked j t)
    (short {keep = keep} u i few r) (short {keep = keep} v j few q) (same_cores (site u i).log (site v j).log same)

pub given_converge : GivenConverge
given_converge n keep i j events messages others some few a are there =
    let p = is_there n keep i events messages some few a are in
    let q = is_there n keep j events others some few a there in
    ap (λ (s : Replica). (fold_of (cores s.log)).tables) (sym p.here) ∙ same_tables i j few p.sound q.sound p.room q.room (λ m. (
      (λ h. contains _ m ((q.done.released m).0 (subst (λ ps. Has (Packet.Msg m) ps) (p.sent ∙ sym q.sent) ((p.done.released m).1 (contained _ m h))))),
      λ h. contains _ m ((p.done.released m).0 (subst (λ ps. Has (Packet.Msg m) ps) (q.sent ∙ sym p.sent) ((q.done.released m).1 (contained _ m h)))),
    )) ∙ ap (λ (s : Replica). (fold_of (cores s.log)).tables) q.here

pub given_have_the_tables_of_the_run : GivenHaveTheTablesOfTheRun
given_have_the_tables_of_the_run n keep i j events messages some few a are done =
    let p = is_there n keep i events messages some few a are in
    let v = run keep events (start n) in
    ap (λ (s : Replica). (fold_of (cores s.log)).tables) (sym p.here)
    ∙ same_tables i j few p.sound (sound_run events some few a) p.room (room_of n keep events) (λ m. (
      (λ h. contains _ m ((done.released m).0 (subst (λ ps. Has (Packet.Msg m) ps) p.sent ((p.done.released m).1 (contained _ m h))))),
      λ h. contains _ m ((p.done.released m).0 (subst (λ ps. Has (Packet.Msg m) ps) (sym p.sent) ((done.released m).1 (contained _ m h)))),
    ))
