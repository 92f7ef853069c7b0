-- Every event keeps a world: one site of several changes, and the logs of all sites are logs of a run.
use Rattle.rubis_world.proofs.Common.{◌≡◌, ℕ, ◌≤◌, length, arith, sym, subst, ◌<◌, List, [], ◌∷◌, ◌++◌, refl, ap, ◌∙◌, ◌+◌, zero, suc, Result, Ok}
use Rattle.rubis_world.proofs.Common.{Err, map, IfSome, IsErr, Some, Happened, InRun, Event, IsEvent, World, happens, site, packet_at, SiteState}
use Rattle.rubis_world.proofs.Common.{resting_at, setup_place, Refusal, Packet, Place, Replica, opening_at, range_with_len, map-range_with_len_more}
use Rattle.rubis_world.proofs.Common.{logs_of, HaveMessagesAmong}
use Rattle.std.proofs.Common.{length-append, get_or, set, ⊎_elim}
use Rattle.std.specs.Prelude.{slice_get, slice_set}
use Rattle.rubis_model.specs.System.{AllDeliverable, Room, Sound, IsDeliverable, place, sends, takes, saying, sending, next_number, shown}
use Rattle.rubis_laws.proofs.Runs.Written.{event_deliverable}
use Rattle.rubis_laws.proofs.Runs.SoundSteps.{event_keeps, event_sites, start_sites, start_sound, has_packet, same_sites, room_event, room_start}
use Rattle.rubis_laws.proofs.Runs.EveryRun.{in_run, logged}
use Rattle.rubis_script.specs.Replica.{IsCount, AnswersAsTheStep, IsReadFault, Lists, ListsTheLog, NeedsNoTables, TakesIn, left_of, Fault}
use Rattle.std.specs.Result.{IsErrAnd}
use Rattle.std.proofs.lemmas.Bool.{cases_eq, cases_lt}
use Rattle.std.proofs.lemmas.List.{get_or-map, get_or-set_other, get_or-set_same, length-map, length-set, map-set}
use Rattle.std.proofs.lemmas.Option.{slice_get-get_or, slice_get_past}
use Rattle.rubis_schema.specs.declared.listings.Listing.{Listing}
use Rattle.rubis_model.specs.Site.{listed, listing_rows, Has}
use Rattle.rubis_model.specs.Log.{cores, fold_of}
use Rattle.std.proofs.lemmas.List.FromFn.{get_or-map-range_with_len, length-map-range_with_len}
use Rattle.rubis_message.specs.declared.answers.Verdict.TheVariants.{Agree}
use Rattle.rubis_model.specs.Verdict.{verdict}
use Rattle.rubis_model.proofs.Settling.{has_left}
use Rattle.rubis_laws.proofs.Runs.Recorded.{are_logs, logs_agree}
use Rattle.rubis_script.specs.Replica.fault_variants as fault
use Rattle.rubis_world.specs.Worlds.{ComesToWorld, StepsWorld, WorldState, opening_world, IsWorld, fault_at_site, AreAtPlaces, Asks, left_behind, WorldSetup, setup_at}
use Rattle.rubis_world.specs.declared.faults.WorldFault.{WorldFault}
use Rattle.rubis_world.specs.declared.faults.WorldFault.TheVariants.{BadEvent, NoSuchPacket, Site, Memory}
use Rattle.rubis_schema.specs.declared.listings.Listing.TheVariants as shown_listing
use Rattle.rubis_message.specs.declared.answers.Happened.TheVariants as happened
use Rattle.rubis_world.specs.declared.faults.WorldFault.TheVariants as world
use Rattle.rubis_message.specs.declared.tokens.Packet.TheVariants as packet

-- a world is one that the laws speak of
pub told : (s : WorldState) → IsWorld s → InRun s.world
told s h = in_run s.keep h.keep h.room h.sound

-- what a world is kept by is how much it keeps and the world
moved : (old new : WorldState) (w : World) → ComesToWorld old new w → IsWorld (record old { world = w }) → IsWorld new
moved old new w t h = record {
  sites = subst (λ (v : World). length v.sites ≤ 16) (sym t.1) h.sites;
  keep = subst (λ n. n ≤ 1000000) (sym t.0) h.keep;
  sound = subst Sound (sym t.1) h.sound;
  room = subst (λ n. Room n new.world) (sym t.0) (subst (Room old.keep) (sym t.1) h.room);
  deliverable = subst (λ (v : World). AllDeliverable (length v.sites) v.sent) (sym t.1) h.deliverable;
}

kept : (s : WorldState) (e : Event) → IsEvent (length s.world.sites) e → IsWorld s → IsWorld (record s { world = (happens s.keep s.world e).0 })
kept s e a h = let same = event_sites s.keep s.world e in record {
  sites = subst (λ n. n ≤ 16) (sym same) h.sites;
  keep = h.keep;
  sound = event_keeps s.keep h.keep s.world e a h.sound;
  room = room_event s.keep s.world e h.room;
  deliverable = subst (λ n. AllDeliverable n (happens s.keep s.world e).0.sent) (sym same)
      (event_deliverable s.keep h.keep s.world e (omega (arith, h.sites)) a h.sound h.deliverable);
}

-- a call that stays at the world keeps it
pub stayed : (old new : WorldState) → ComesToWorld old new old.world → IsWorld old → IsWorld new
stayed old new t h = moved old new old.world t (record { sites = h.sites; keep = h.keep; sound = h.sound; room = h.room; deliverable = h.deliverable })

-- what answers an event is a world again
pub answered : (old new : WorldState) (e : Event) (result : Result Happened WorldFault) → IsEvent (length old.world.sites) e
    → StepsWorld old new (happens old.keep old.world e) result → IsWorld old → IsWorld new
answered old new e (Ok x) a t h = moved old new (happens old.keep old.world e).0 t.0 (kept old e a h)
answered old new e (Err BadEvent) a t h = subst IsWorld (sym t.0) h
answered old new e (Err NoSuchPacket) a t h = subst IsWorld (sym t.0) h
answered old new e (Err (Site (fault.Refused r))) a t h = stayed old new t.0 h
answered old new e (Err (Site fault.Behind)) a t h = stayed old new t h
answered old new e (Err (Site fault.Memory)) a t h = absurd t
answered old new e (Err Memory) a t h = stayed old new t h

-- the start
pub begun : (s : WorldState) (sites keep : ℕ) → IsCount sites 16 × IsCount keep 1000000 → s ≡ opening_world keep sites → IsWorld s
begun s sites keep limits e = subst IsWorld (sym e) (record {
  sites = subst (λ n. n ≤ 16) (sym (start_sites sites)) limits.0.small;
  keep = limits.1.small;
  sound = start_sound sites limits.0.positive;
  room = room_start keep sites;
  deliverable = λ p h. absurd h;
})

-- ---- one site of several changes: what its step is in the world

-- what the fields stand for
abbrev pub world_of : List SiteState → List Packet → World
world_of sites sent = record { sites = map (λ (x : SiteState). x.state) sites; sent = sent }

abbrev pub state_of : ℕ → List SiteState → List Packet → WorldState
state_of keep sites sent = record { keep = keep; world = world_of sites sent; left = map (λ (x : SiteState). left_of x.progress) sites }

-- a place stays
if_place : (keep n : ℕ) (sites : List SiteState) (j : ℕ) (d : SiteState) → j < length sites
    → IfSome (slice_get sites j) (λ s. s.place ≡ record { site = j; sites = n; keep = keep })
    → (get_or sites j d).place ≡ record { site = j; sites = n; keep = keep }
if_place keep n sites j d l h =
    subst (λ o. IfSome o (λ (s : SiteState). s.place ≡ record { site = j; sites = n; keep = keep })) (slice_get-get_or sites j d l) h

then_place : (keep n : ℕ) (sites : List SiteState) (j : ℕ) (d : SiteState) → j < length sites
    → (get_or sites j d).place ≡ record { site = j; sites = n; keep = keep }
    → IfSome (slice_get sites j) (λ s. s.place ≡ record { site = j; sites = n; keep = keep })
then_place keep n sites j d l h =
    subst (λ o. IfSome o (λ (s : SiteState). s.place ≡ record { site = j; sites = n; keep = keep })) (sym (slice_get-get_or sites j d l)) h

module _ (keep : ℕ) (sites : List SiteState) (sent : List Packet) (i : ℕ) (s x : SiteState) (l : i < length sites) (read : s ≡ get_or sites i s)
    (at : AreAtPlaces keep sites) where
  -- the site that is read is that of the world
  state_is : site (world_of sites sent) i ≡ s.state
  state_is = get_or-map (λ (y : SiteState). y.state) sites i s (opening_at 1) l ∙ sym (ap (λ (y : SiteState). y.state) read)

  pub place_at : s.place ≡ record { site = i; sites = length sites; keep = keep }
  place_at = ap (λ (y : SiteState). y.place) read ∙ if_place keep (length sites) sites i s l (at i)

  place_is : place keep (world_of sites sent) i ≡ s.place
  place_is = (λ k. record { site = i; sites = length-map sites (λ (y : SiteState). y.state) k; keep = keep }) ∙ sym place_at

  pub stay_at_places : x.place ≡ s.place → AreAtPlaces keep (set sites i x)
  stay_at_places e j = ⊎_elim
      (λ b. subst (λ n. IfSome (slice_get (set sites i x) j) (λ (y : SiteState). y.place ≡ record { site = j; sites = n; keep = keep }))
      (sym (length-set sites i x))
      (then_place keep (length sites) (set sites i x) j s (subst (λ n. j < n) (sym (length-set sites i x)) b) (⊎_elim (here b) (there b) (cases_eq j i))))
      (λ b. subst (λ o. IfSome o (λ (y : SiteState). y.place ≡ record { site = j; sites = length (set sites i x); keep = keep }))
      (sym (slice_get_past (set sites i x) j (subst (λ n. n ≤ j) (sym (length-set sites i x)) b))) tt)
      (cases_lt j (length sites))
    where
      here : j < length sites → j ≡ i → (get_or (set sites i x) j s).place ≡ record { site = j; sites = length sites; keep = keep }
      here b q = subst (λ k. (get_or (set sites i x) k s).place ≡ record { site = k; sites = length sites; keep = keep }) (sym q)
          (ap (λ (y : SiteState). y.place) (get_or-set_same sites i x s l) ∙ e ∙ place_at)

      there : j < length sites → (j ≡ i → ⊥) → (get_or (set sites i x) j s).place ≡ record { site = j; sites = length sites; keep = keep }
      there b n = ap (λ (y : SiteState). y.place) (get_or-set_other sites i j x s n) ∙ if_place keep (length sites) sites j s b (at j)

  -- the site comes to a state
  changed : (r : Replica) → x.state ≡ r → map (λ (y : SiteState). y.state) (set sites i x) ≡ slice_set (map (λ (y : SiteState). y.state) sites) i r
  changed r e = map-set (λ (y : SiteState). y.state) sites i x ∙ ap (slice_set (map (λ (y : SiteState). y.state) sites) i) e

  -- or stays as it was
  unchanged : x.state ≡ s.state → ComesToWorld (state_of keep sites sent) (state_of keep (set sites i x) sent) (world_of sites sent)
  unchanged e =
      let f = changed (site (world_of sites sent) i) (e ∙ sym state_is) ∙ same_sites (world_of sites sent) i in
      (refl, (λ k. record { sites = f k; sent = sent }))

  -- the step of the site that is read is its step in the world
  step_is : {A : Type 0} (step : Place → Replica → Replica × Result A Refusal) → step (place keep (world_of sites sent) i) (site (world_of sites sent) i)
      ≡ step s.place s.state
  step_is step = λ k. step (place_is k) (state_is k)

  -- a site that gives no answer
  refused : {A : Type 0} (p : Replica × Result A Refusal) (step : World × Result Happened Refusal) (f : Fault) (result : Result Happened WorldFault)
      → IsErr result × IsErrAnd result (λ g. g ≡ fault_at_site f)
      → AnswersAsTheStep s x p (Err f) → ((r : Refusal) → p.1 ≡ Err r → step.1 ≡ Err r)
      → StepsWorld (state_of keep sites sent) (state_of keep (set sites i x) sent) step result
  refused p step f (Ok h) e a said = absurd (cc)
  refused p step (fault.Refused r) (Err g) e a said =
      subst (λ q. StepsWorld (state_of keep sites sent) (state_of keep (set sites i x) sent) step (Err q)) (sym e.1) (unchanged a.0, said r a.1)
  refused p step fault.Behind (Err g) e a said =
      subst (λ q. StepsWorld (state_of keep sites sent) (state_of keep (set sites i x) sent) step (Err q)) (sym e.1) (unchanged a)
  refused p step fault.Memory (Err g) e a said =
      subst (λ q. StepsWorld (state_of keep sites sent) (state_of keep (set sites i x) sent) step (Err q)) (sym e.1) (unchanged a)

  -- the site's answer is the step's
  module _ {A : Type 0} (step : Place → Replica → Replica × Result A Refusal) where
    said_there : (answer : A) → AnswersAsTheStep s x (step s.place s.state) (Ok answer)
        → (step (place keep (world_of sites sent) i) (site (world_of sites sent) i)).1 ≡ Ok answer
    said_there answer a = ap (λ p. p.1) (step_is step) ∙ a.1

    come_to : (answer : A) → AnswersAsTheStep s x (step s.place s.state) (Ok answer)
        → map (λ (y : SiteState). y.state) (set sites i x)
        ≡ slice_set (map (λ (y : SiteState). y.state) sites) i (step (place keep (world_of sites sent) i) (site (world_of sites sent) i)).0
    come_to answer a = changed (step (place keep (world_of sites sent) i) (site (world_of sites sent) i)).0 (a.0 ∙ sym (ap (λ p. p.0) (step_is step)))

-- ---- the same, of the world that is seen
module _ (keep : ℕ) (sites : List SiteState) (sent : List Packet) (i : ℕ) (s x : SiteState) (old : WorldState) (view : state_of keep sites sent ≡ old)
    (within : i < length old.world.sites) (read : s ≡ get_or sites i s) (at : AreAtPlaces keep sites) where
  inside : i < length sites
  inside = subst (λ n. i < n) (length-map sites (λ (y : SiteState). y.state)) (subst (λ (w : WorldState). i < length w.world.sites) (sym view) within)

  pub are_at_places : x.place ≡ s.place → AreAtPlaces keep (set sites i x)
  are_at_places e = stay_at_places keep sites sent i s x inside read at e

  -- the site counts as many sites as the world has
  pub sites_are : s.place.sites ≡ length old.world.sites
  sites_are = ap (λ (p : Place). p.sites) (place_at keep sites sent i s x inside read at)
      ∙ sym (length-map sites (λ (y : SiteState). y.state)) ∙ ap (λ (w : WorldState). length w.world.sites) view

  -- ---- how far the tables are
  left_is : left_behind old i ≡ left_of s.progress
  left_is = subst (λ (w : WorldState). left_behind w i ≡ left_of s.progress) view
      (get_or-map (λ (y : SiteState). left_of y.progress) sites i s 0 inside ∙ sym (ap (λ (y : SiteState). left_of y.progress) read))

  -- the site had nothing left; where it says that it is behind, it has now
  pub asked_alone : (sent' : List Packet) (result : Result Happened WorldFault) → left_behind old i ≡ 0
      → (left_of s.progress ≡ 0 → result ≡ Err (world.Site fault.Behind) → 0 < left_of x.progress)
      → Asks i old (state_of keep (set sites i x) sent') result
  asked_alone sent' result none says = record {
    others = λ j n. subst (λ (w : WorldState). left_behind (state_of keep (set sites i x) sent') j ≡ left_behind w j) view
        (ap (λ l. get_or l j 0) (map-set (λ (y : SiteState). left_of y.progress) sites i x)
        ∙ get_or-set_other (map (λ (y : SiteState). left_of y.progress) sites) i j (left_of x.progress) 0 n);
    waits = λ some. absurd (omega (arith, some, none));
    says = λ e. subst (λ n. 0 < n)
        (sym (ap (λ l. get_or l i 0) (map-set (λ (y : SiteState). left_of y.progress) sites i x)
        ∙ get_or-set_same (map (λ (y : SiteState). left_of y.progress) sites) i (left_of x.progress) 0
        (subst (λ n. i < n) (sym (length-map sites (λ (y : SiteState). left_of y.progress))) inside)))
        (says (sym left_is ∙ none) e);
  }

  -- the site had nothing left, and so doesn't say that it is behind
  pub never_behind : (result : Result Happened WorldFault) → left_behind old i ≡ 0 → (left_of s.progress ≡ 0 → result ≡ Err (world.Site fault.Behind) → ⊥)
      → result ≡ Err (world.Site fault.Behind) → ⊥
  never_behind result none says = says (sym left_is ∙ none)

  -- ---- what is sent
  module _ {A : Type 0} (pack : A → Packet) (step : Place → Replica → Replica × Result A Refusal) (sent' : List Packet) where
    pub sends_fault : (f : Fault) (result : Result Happened WorldFault) → IsErr result × IsErrAnd result (λ g. g ≡ fault_at_site f)
        → AnswersAsTheStep s x (step s.place s.state) (Err f) → sent' ≡ sent
        → StepsWorld old (state_of keep (set sites i x) sent') (sends pack old.world i (step (place old.keep old.world i) (site old.world i))) result
    sends_fault f result e a same =
        subst (λ (w : WorldState). StepsWorld w (state_of keep (set sites i x) sent') (sends pack w.world i (step (place w.keep w.world i) (site w.world i))) result)
        view
        (subst (λ q. StepsWorld (state_of keep sites sent) (state_of keep (set sites i x) q)
        (sends pack (world_of sites sent) i (step (place keep (world_of sites sent) i) (site (world_of sites sent) i))) result) (sym same)
        (refused keep sites sent i s x inside read at (step s.place s.state) _ f result e a
        (λ r h. ap (saying (λ _. happened.Sent (next_number (world_of sites sent)))) (ap (λ p. p.1) (step_is keep sites sent i s x inside read at step) ∙ h))))

    pub sends_on : (answer : A) (number : ℕ) → AnswersAsTheStep s x (step s.place s.state) (Ok answer) → sent' ≡ sent ++ pack answer ∷ [] → number
        ≡ length sent'
        → StepsWorld old (state_of keep (set sites i x) sent') (sends pack old.world i (step (place old.keep old.world i) (site old.world i)))
        (Ok (happened.Sent number))
    sends_on answer number a e n =
        let said = said_there keep sites sent i s x inside read at step answer a in
        let come = come_to keep sites sent i s x inside read at step answer a in
        let more : sent' ≡ sent ++ sending pack (step (place keep (world_of sites sent) i) (site (world_of sites sent) i)).1 = e
        ∙ ap (λ o. sent ++ sending pack o) (sym said) in
        let next : number ≡ next_number (world_of sites sent) = n ∙ ap length e ∙ length-append sent (pack answer ∷ []) in
        subst (λ (w : WorldState). StepsWorld w (state_of keep (set sites i x) sent') (sends pack w.world i (step (place w.keep w.world i) (site w.world i)))
        (Ok (happened.Sent number))) view (
          (refl, (λ k. record { sites = come k; sent = more k })),
          ap (saying (λ _. happened.Sent (next_number (world_of sites sent)))) said
              ∙ ap (λ m. Ok (happened.Sent m)) (sym next),
        )

  -- ---- rows
  pub shows_fault : (l : Listing) (f : Fault) (result : Result Happened WorldFault) → IsErr result × IsErrAnd result (λ g. g ≡ fault_at_site f)
      → AnswersAsTheStep s x (listed s.state l) (Err f)
      → StepsWorld old (state_of keep (set sites i x) sent) (shown old.world i l) result
  shows_fault l f result e a =
      subst (λ (w : WorldState). StepsWorld w (state_of keep (set sites i x) sent) (shown w.world i l) result) view
      (refused keep sites sent i s x inside read at (listed s.state l) (shown (world_of sites sent) i l) f result e a (λ r h. absurd (cc)))

  pub shows_on : (l : Listing) (rows : List (List (List ℕ))) → AnswersAsTheStep s x (listed s.state l) (Ok rows)
      → StepsWorld old (state_of keep (set sites i x) sent) (shown old.world i l) (Ok (happened.Rows rows))
  shows_on l rows a =
      subst (λ (w : WorldState). StepsWorld w (state_of keep (set sites i x) sent) (shown w.world i l) (Ok (happened.Rows rows))) view (
        unchanged keep sites sent i s x inside read at a.0,
        ap (λ (q : Replica). Ok (happened.Rows (listing_rows q.log (fold_of (cores q.log)) l))) (state_is keep sites sent i s x inside read at)
            ∙ ap (saying happened.Rows) a.1,
      )

  -- ---- what is taken in
  module _ {A : Type 0} (word : A → Happened) (step : Place → Replica → Replica × Result A Refusal) where
    pub takes_fault : (f : Fault) (result : Result Happened WorldFault) → IsErr result × IsErrAnd result (λ g. g ≡ fault_at_site f)
        → AnswersAsTheStep s x (step s.place s.state) (Err f)
        → StepsWorld old (state_of keep (set sites i x) sent) (takes word old.world i (step (place old.keep old.world i) (site old.world i))) result
    takes_fault f result e a =
        subst (λ (w : WorldState). StepsWorld w (state_of keep (set sites i x) sent) (takes word w.world i (step (place w.keep w.world i) (site w.world i))) result)
        view
        (refused keep sites sent i s x inside read at (step s.place s.state) _ f result e a
        (λ r h. ap (saying word) (ap (λ p. p.1) (step_is keep sites sent i s x inside read at step) ∙ h)))

    pub takes_on : (answer : A) → AnswersAsTheStep s x (step s.place s.state) (Ok answer)
        → StepsWorld old (state_of keep (set sites i x) sent) (takes word old.world i (step (place old.keep old.world i) (site old.world i))) (Ok (word answer))
    takes_on answer a =
        let come = come_to keep sites sent i s x inside read at step answer a in
        subst (λ (w : WorldState). StepsWorld w (state_of keep (set sites i x) sent) (takes word w.world i (step (place w.keep w.world i) (site w.world i)))
        (Ok (word answer))) view
        ((refl, (λ k. record { sites = come k; sent = sent })), ap (saying word) (said_there keep sites sent i s x inside read at step answer a))

-- ---- when a site says that it is behind
module _ (s x : SiteState) (f : Fault) (result : Result Happened WorldFault) (said : IsErr result × IsErrAnd result (λ g. g ≡ fault_at_site f)) where
  -- what the site says is what is told
  told_behind : {P : Type 0} → (f ≡ fault.Behind → left_of s.progress ≡ 0 → P) → left_of s.progress ≡ 0 → result ≡ Err (world.Site fault.Behind) → P
  told_behind so none e = so (is_behind f (fault_is result e said)) none
    where
      fault_is : (r : Result Happened WorldFault) → r ≡ Err (world.Site fault.Behind) → IsErr r × IsErrAnd r (λ g. g ≡ fault_at_site f) → fault_at_site f
          ≡ world.Site fault.Behind
      fault_is (Ok h) e said = absurd cc
      fault_is (Err g) e said = sym said.1 ∙ cc e

      is_behind : (f : Fault) → fault_at_site f ≡ world.Site fault.Behind → f ≡ fault.Behind
      is_behind (fault.Refused r) e = absurd cc
      is_behind fault.Behind e = refl
      is_behind fault.Memory e = absurd cc

  pub read_behind : IsReadFault s x f → left_of s.progress ≡ 0 → result ≡ Err (world.Site fault.Behind) → 0 < left_of x.progress
  read_behind h = told_behind (λ e none. ⊎_elim (λ b. b.some_left) (λ b. b.some_left) (subst (IsReadFault s x) e h none))

  -- a call without tables, and an arrival, find a site behind only where it was
  pub needs_none_never : (A : Type 0) → NeedsNoTables {A = A} s x (Err f) → left_of s.progress ≡ 0 → result ≡ Err (world.Site fault.Behind) → ⊥
  needs_none_never A h = told_behind (λ e none. let some = subst (λ g. NeedsNoTables {A = A} s x (Err g)) e h in omega (arith, some, none))

  pub takes_in_never : TakesIn s x (Err f) → left_of s.progress ≡ 0 → result ≡ Err (world.Site fault.Behind) → ⊥
  takes_in_never h = told_behind (λ e none. let some = subst (λ g. TakesIn s x (Err g)) e h in omega (arith, some, none))

  pub needs_none_behind : (A : Type 0) → NeedsNoTables {A = A} s x (Err f) → left_of s.progress ≡ 0 → result ≡ Err (world.Site fault.Behind) →
      0 < left_of x.progress
  needs_none_behind A h none e = absurd (needs_none_never A h none e)

  pub takes_in_behind : TakesIn s x (Err f) → left_of s.progress ≡ 0 → result ≡ Err (world.Site fault.Behind) → 0 < left_of x.progress
  takes_in_behind h none e = absurd (takes_in_never h none e)

  pub lists_behind : (A : Type 0) (l : Listing) → Lists {A = A} l s x (Err f) → left_of s.progress ≡ 0 → result ≡ Err (world.Site fault.Behind) →
      0 < left_of x.progress
  lists_behind A shown_listing.Log h =
      told_behind (λ e none. let some = (subst (λ g. ListsTheLog {A = A} s x (Err g)) e h).0 in absurd (omega (arith, some, none)))
  lists_behind A shown_listing.Users h = read_behind h
  lists_behind A (shown_listing.Items c) h = read_behind h
  lists_behind A (shown_listing.Bids b) h = read_behind h
  lists_behind A (shown_listing.Purchases b) h = read_behind h
  lists_behind A (shown_listing.Comments b) h = read_behind h
  lists_behind A shown_listing.Categories h = read_behind h
  lists_behind A shown_listing.Misfits h = read_behind h
  lists_behind A shown_listing.Tables h = read_behind h

-- a packet of the list can be taken in
pub is_deliverable : (sites : ℕ) (sent : List Packet) (k : ℕ) (p q : Packet) → AllDeliverable sites sent → packet_at sent k ≡ Some p → q ≡ p →
    IsDeliverable sites q
is_deliverable sites sent k p q all e f = subst (IsDeliverable sites) (sym f) (all p (has_packet sent k p e))

-- ---- sites with nothing done

-- a site with nothing done
abbrev pub fresh : WorldSetup → ℕ → SiteState
fresh setup i = record { place = setup_place (setup_at setup i); state = opening_at i; progress = resting_at 0; batch = setup.batch }

abbrev pub fresh_sites : WorldSetup → ℕ → List SiteState
fresh_sites setup n = map (fresh setup) (range_with_len 0 n)

pub one_more : (setup : WorldSetup) (sites sites' : List SiteState) (n : ℕ) (s : SiteState) → sites ≡ fresh_sites setup n → s ≡ fresh setup n
    → sites' ≡ sites ++ s ∷ [] → sites' ≡ fresh_sites setup (n + 1)
one_more setup sites sites' n s e f g =
    g ∙ (λ k. e k ++ f k ∷ []) ∙ sym (map-range_with_len_more (fresh setup) 0 n n (omega arith))

states : (setup : WorldSetup) (a n : ℕ) → map (λ (y : SiteState). y.state) (map (fresh setup) (range_with_len a n)) ≡ map opening_at (range_with_len a n)
states setup a zero = refl
states setup a (suc n) = ap (λ q. opening_at a ∷ q) (states setup (a + 1) n)

lefts : (setup : WorldSetup) (a n : ℕ) → map (λ (y : SiteState). left_of y.progress) (map (fresh setup) (range_with_len a n))
    ≡ map (λ i. 0) (range_with_len a n)
lefts setup a zero = refl
lefts setup a (suc n) = ap (λ q. 0 ∷ q) (lefts setup (a + 1) n)

pub starts : (setup : WorldSetup) (sites : List SiteState) → sites ≡ fresh_sites setup setup.sites
    → state_of setup.keep sites [] ≡ opening_world setup.keep setup.sites
starts setup sites e =
    let f = ap (map (λ (y : SiteState). y.state)) e ∙ states setup 0 setup.sites in
    let l = ap (map (λ (y : SiteState). left_of y.progress)) e ∙ lefts setup 0 setup.sites in
    (λ k. record { keep = setup.keep; world = record { sites = f k; sent = [] }; left = l k })

fresh_at_places : (setup : WorldSetup) → AreAtPlaces setup.keep (fresh_sites setup setup.sites)
fresh_at_places setup i =
    let long = length-map-range_with_len (fresh setup) 0 setup.sites in
    subst (λ n. IfSome (slice_get (fresh_sites setup setup.sites) i) (λ (s : SiteState). s.place ≡ record { site = i; sites = n; keep = setup.keep }))
    (sym long)
    (⊎_elim
    (λ l. subst (λ o. IfSome o (λ (s : SiteState). s.place ≡ record { site = i; sites = setup.sites; keep = setup.keep }))
    (sym (slice_get-get_or (fresh_sites setup setup.sites) i (fresh setup i) (omega (arith, l, long))))
    (ap (λ (s : SiteState). s.place) (get_or-map-range_with_len (fresh setup) 0 setup.sites i i (fresh setup i) l (omega arith))))
    (λ l. subst (λ o. IfSome o (λ (s : SiteState). s.place ≡ record { site = i; sites = setup.sites; keep = setup.keep }))
    (sym (slice_get_past (fresh_sites setup setup.sites) i (omega (arith, l, long)))) tt)
    (cases_lt i setup.sites))

pub at_places : (setup : WorldSetup) (keep : ℕ) (sites : List SiteState) → sites ≡ fresh_sites setup setup.sites → keep ≡ setup.keep → AreAtPlaces keep sites
at_places setup keep sites e k = subst (AreAtPlaces keep) (sym e) (subst (λ q. AreAtPlaces q (fresh_sites setup setup.sites)) (sym k) (fresh_at_places setup))

-- ---- the logs of all sites are logs of a run

-- each message of theirs counts all sites
pub among : (s : WorldState) → IsWorld s → HaveMessagesAmong (length s.world.sites) (logs_of s.world)
among s h log k m in_log =
    let was = are_logs s.world log k in
    let sent = logged s.world h.sound log.site m (subst (Has m) was.messages (has_left m log.messages was.later in_log)) in
    (h.deliverable (packet.Msg m) sent).1

-- so the auditor agrees
pub agree : (s : WorldState) → IsWorld s → verdict (logs_of s.world) ≡ Agree
agree s h = logs_agree h.sound
