-- Lives of sites, interleaved in any way, are histories of their files.
use Rattle.rubis_lives.proofs.Common.{◌≡◌, ◌++◌, ◌∷◌, [], ℕ, true, false, List, cond, eqb, refl, sym, subst, arith, MatchBool, ⊤, Reads, Replays}
use Rattle.rubis_lives.proofs.Common.{Restarts, Place, AreSafe, FolderEvent, FileState, MayFollow, IsSafe, Says, after_file_event, after_file_events, records_in}
use Rattle.rubis_lives.proofs.Common.{IsFrontOf, HasSoundLines, IsAtStart, safe-first, sound-front}
use Rattle.std.proofs.lemmas.List.{append-nil}
use Rattle.rubis_lives.specs.Histories.{AreHistories, IsHistory, RaisesKeep, ShortensKept, FolderStep, keep_after, shortened_to, site_keeping, stand_after, Extends}
use Rattle.rubis_lives.specs.Histories.{SurvivesIn, from_disk, opened_again, keeping_at_most, AreLives, AreShopLives, End, LivesAreHistories, MayEnd, ShopLivesAreRuns}
use Rattle.rubis_lives.specs.Histories.{SiteLife, ending, happening, left_by, next_keep, own_steps, steps_of}
use Rattle.rubis_lives.specs.Histories.FolderStep.{Does, Fails, Happens, Raises, Shortens}
use Rattle.rubis_lives.specs.Shops.{process_text, process_words}
use Rattle.rubis_keys.specs.Keys.{keyed_opening}
use Rattle.rubis_lives.specs.Histories.End.{IsRaised, IsRewritten, PowerFails, Stops}
use Rattle.rubis_lives.proofs.HistoriesFacts.{histories-are-runs, safe-here}
use Rattle.rubis_lives.proofs.MomentFacts.{kills-leave-files, power-failures-leave-files}
use Rattle.rubis_lives.proofs.RewritingFacts.{site-texts-extend}

-- ---- what happens elsewhere

same-site : (i : ℕ) → eqb i i ≡ true
same-site i = grind arith

-- a step in which the files of a site have no part leaves their history as it is
pub own-history : (sites i keep : ℕ) (s : FileState) (steps : List FolderStep) → IsHistory sites i keep s (own_steps i steps) → IsHistory sites i keep s steps
own-history sites i keep s [] h = h
own-history sites i keep s (Happens j e ∷ later) h =
    elim (eqb j i) as (λ b. IsHistory sites i keep s (cond b (Happens j e ∷ own_steps i later) (own_steps i later)) → eqb j i ≡ b
    → IsHistory sites i keep s (Happens j e ∷ later)) [
      | true ↦ λ own is. (own.0, own.1, own-history sites i keep (stand_after i s (Happens j e)) later own.2)
      | false ↦ λ own is. (
        safe-here sites i keep (own_steps i later) own,
        subst (λ b. MatchBool b (MayFollow (process_words (site_keeping sites i keep)) s e) ⊤) (sym is) tt,
        subst (λ b. IsHistory sites i keep (cond b (after_file_event s e) s) later) (sym is) (own-history sites i keep s later own),
      )
    ] h refl
own-history sites i keep s (Fails j files ∷ later) h =
    elim (eqb j i) as (λ b. IsHistory sites i keep s (cond b (Fails j files ∷ own_steps i later) (own_steps i later)) → eqb j i ≡ b
    → IsHistory sites i keep s (Fails j files ∷ later)) [
      | true ↦ λ own is. (own.0, own.1, own-history sites i keep (stand_after i s (Fails j files)) later own.2)
      | false ↦ λ own is. (
        safe-here sites i keep (own_steps i later) own,
        subst (λ b. MatchBool b (SurvivesIn s files) ⊤) (sym is) tt,
        subst (λ b. IsHistory sites i keep (cond b (from_disk files) s) later) (sym is) (own-history sites i keep s later own),
      )
    ] h refl
own-history sites i keep s (Shortens j short ∷ later) h =
    elim (eqb j i) as (λ b. IsHistory sites i keep s (cond b (Shortens j short ∷ own_steps i later) (own_steps i later)) → eqb j i ≡ b
    → IsHistory sites i keep s (Shortens j short ∷ later)) [
      | true ↦ λ own is. (own.0, own.1, own-history sites i keep (stand_after i s (Shortens j short)) later own.2)
      | false ↦ λ own is. (
        safe-here sites i keep (own_steps i later) own,
        subst (λ b. MatchBool b (ShortensKept (site_keeping sites i keep) s.kept short) ⊤) (sym is) tt,
        subst (λ b. IsHistory sites i keep (cond b (shortened_to short) s) later) (sym is) (own-history sites i keep s later own),
      )
    ] h refl
own-history sites i keep s (Raises j more ∷ later) h =
    elim (eqb j i) as (λ b. IsHistory sites i keep s (cond b (Raises j more ∷ own_steps i later) (own_steps i later)) → eqb j i ≡ b
    → IsHistory sites i keep s (Raises j more ∷ later)) [
      | true ↦ λ own is. (own.0, own.1, own-history sites i (keep_after i keep (Raises j more)) s later own.2)
      | false ↦ λ own is. (
        safe-here sites i keep (own_steps i later) own,
        subst (λ b. MatchBool b (RaisesKeep (site_keeping sites i keep) s more) ⊤) (sym is) tt,
        subst (λ b. IsHistory sites i (cond b more keep) s later) (sym is) (own-history sites i keep s later own),
      )
    ] h refl
own-history sites i keep s (Does (Reads j fields) ∷ later) h = (safe-here sites i keep (own_steps i later) h, tt, own-history sites i keep s later h)
own-history sites i keep s (Does (Restarts j) ∷ later) h =
    elim (eqb j i) as (λ b. IsHistory sites i keep s (cond b (Does (Restarts j) ∷ own_steps i later) (own_steps i later)) → eqb j i ≡ b
    → IsHistory sites i keep s (Does (Restarts j) ∷ later)) [
      | true ↦ λ own is. (own.0, own.1, own-history sites i keep (stand_after i s (Does (Restarts j))) later own.2)
      | false ↦ λ own is. (
        safe-here sites i keep (own_steps i later) own,
        tt,
        subst (λ b. IsHistory sites i keep (cond b (opened_again s) s) later) (sym is) (own-history sites i keep s later own),
      )
    ] h refl
own-history sites i keep s (Does (Replays j fields) ∷ later) h = (safe-here sites i keep (own_steps i later) h, tt, own-history sites i keep s later h)

-- ---- the lives of one site

first-safe : (says : Says) (s : FileState) (events later : List FolderEvent) → AreSafe says s (events ++ later) → AreSafe says s events
first-safe says s [] later h = safe-first says s later h
first-safe says s (e ∷ events) later h = (h.0, h.1, first-safe says (after_file_event s e) events later h.2)

module _ (sites i : ℕ) where
  abbrev p : ℕ → Place
  p keep = site_keeping sites i keep

  -- events that keep the files safe, and then steps that do
  events-then : (keep : ℕ) (s : FileState) (events : List FolderEvent) (later : List FolderStep) → AreSafe (process_words (p keep)) s events
      → IsHistory sites i keep (after_file_events s events) later → IsHistory sites i keep s (happening i events later)
  events-then keep s [] later h then = then
  events-then keep s (e ∷ events) later h then = (
    h.0,
    subst (λ b. MatchBool b (MayFollow (process_words (p keep)) s e) ⊤) (sym (same-site i)) h.1,
    subst (λ b. IsHistory sites i keep (cond b (after_file_event s e) s) (happening i events later)) (sym (same-site i))
        (events-then keep (after_file_event s e) events later h.2 then),
  )

  restart-then : (keep : ℕ) (s : FileState) (later : List FolderStep) → IsSafe (process_text (p keep)) s → IsHistory sites i keep (opened_again s) later
      → IsHistory sites i keep s (Does (Restarts i) ∷ later)
  restart-then keep s later safe then = (safe, tt, subst (λ b. IsHistory sites i keep (cond b (opened_again s) s) later) (sym (same-site i)) then)

  end-then : (keep : ℕ) (s : FileState) (end : End) (later : List FolderStep) → IsSafe (process_text (p keep)) s → IsSafe (process_text (p keep)) (opened_again s)
      → MayEnd (p keep) s end → IsAtStart (process_text (p (next_keep keep end))) (left_by s end) → IsHistory sites i (next_keep keep end) (left_by s end) later
      → IsHistory sites i keep s (ending i end later)
  end-then keep s Stops later safe again may opened then = restart-then keep s later safe then
  end-then keep s (PowerFails files) later safe again may opened then = (
    safe,
    subst (λ b. MatchBool b (SurvivesIn s files) ⊤) (sym (same-site i)) may,
    subst (λ b. IsHistory sites i keep (cond b (from_disk files) s) (Does (Restarts i) ∷ later)) (sym (same-site i))
        (restart-then keep (from_disk files) later opened.safe then),
  )
  end-then keep s (IsRewritten short) later safe again may opened then =
      restart-then keep s (Shortens i short ∷ later) safe (
        again,
        subst (λ b. MatchBool b (ShortensKept (p keep) s.kept short) ⊤) (sym (same-site i)) may,
        subst (λ b. IsHistory sites i keep (cond b (shortened_to short) (opened_again s)) later) (sym (same-site i)) then,
      )
  end-then keep s (IsRaised more) later safe again may opened then =
      restart-then keep s (Raises i more ∷ later) safe (
        again,
        subst (λ b. MatchBool b (RaisesKeep (p keep) (opened_again s) more) ⊤) (sym (same-site i))
            (record { more = may.more; most = may.most; flushed = may.flushed; answered = may.answered; told = may.told }),
        subst (λ b. IsHistory sites i (cond b more keep) (opened_again s) later) (sym (same-site i)) then,
      )

-- lines that are kept as they are, with no answers yet
pub shortened-opened : (text : List (List (List ℕ)) → List ℕ) {short : List ℕ} → HasSoundLines [] short → IsAtStart text (shortened_to short)
shortened-opened text {short} sound = record {
  safe = record {
    sound = subst (HasSoundLines []) (sym (append-nil short)) sound;
    flushed = ([], append-nil short);
    told = (text (records_in short), refl);
    shown = refl;
  };
  begun = refl;
  left = record { sound = sound; rest = text (records_in short); begins = refl };
}

-- files with all answers, which are the beginning of those that the site gives when it keeps more
raised-opened : {p : Place} {s : FileState} {more : ℕ} → IsSafe (process_text p) s → RaisesKeep p s more → IsAtStart (process_text (keeping_at_most p more)) (opened_again s)
raised-opened {p} {s} {more} safe r = record {
  safe = record {
    sound = safe.sound;
    flushed = safe.flushed;
    told = subst (λ t. IsFrontOf s.out (process_text (keeping_at_most p more) (records_in t))) (sym r.flushed) r.told;
    shown = refl;
  };
  begun = refl;
  left = record { sound = sound-front [] s.kept s.cut safe.sound; rest = r.told.0; begins = r.told.1 };
}

extends-at : (p : Place) → Extends (process_text p)
extends-at p = site-texts-extend p (keyed_opening p.site) 1

safe-then : (says : Says) (s : FileState) (events : List FolderEvent) → AreSafe says s events → IsSafe says.text (after_file_events s events)
safe-then says s [] h = h
safe-then says s (e ∷ events) h = safe-then says (after_file_event s e) events h.2

module _ (sites i : ℕ) where
  abbrev here : ℕ → Place
  here keep = site_keeping sites i keep

  -- a next process can begin with what a life has left
  opened-by : (keep : ℕ) (s : FileState) (events : List FolderEvent) (end : End) → AreSafe (process_words (here keep)) s events
      → MayEnd (here keep) (after_file_events s events) end → IsAtStart (process_text (here (next_keep keep end))) (left_by (after_file_events s events) end)
  opened-by keep s events Stops safe may = (kills-leave-files (process_words (here keep)) s events (extends-at (here keep)) safe events [] (append-nil events)).0
  opened-by keep s events (PowerFails files) safe may =
      (power-failures-leave-files (process_words (here keep)) s events (extends-at (here keep)) safe events [] (append-nil events) files may).0
  opened-by keep s events (IsRewritten short) safe may = shortened-opened (process_text (here keep)) may.sound
  opened-by keep s events (IsRaised more) safe may =
      raised-opened (safe-then (process_words (here keep)) s events safe) may

  lives-go : (keep : ℕ) (s : FileState) (lives : List SiteLife) (running : List FolderEvent) → IsAtStart (process_text (here keep)) s
      → AreLives sites i keep s lives running → IsHistory sites i keep s (steps_of i lives running)
  lives-go keep s [] running opened life =
      let safe = first-safe (process_words (here keep)) s running life.0 (life.1 opened) in
      events-then sites i keep s running [] safe (safe-then (process_words (here keep)) s running safe)
  lives-go keep s (life ∷ lives) running opened all =
      let safe = first-safe (process_words (here keep)) s life.events all.0.0 (all.0.1 opened) in
      let next = opened-by keep s life.events life.end safe all.1 in
      let again = opened-by keep s life.events Stops safe tt in
      events-then sites i keep s life.events (ending i life.end (steps_of i lives running)) safe
      (end-then sites i keep (after_file_events s life.events) life.end (steps_of i lives running) (safe-then (process_words (here keep)) s life.events safe) again.safe
      all.1 next (lives-go (next_keep keep life.end) (left_by (after_file_events s life.events) life.end) lives running next all.2))

pub lives-are-histories : LivesAreHistories
lives-are-histories sites i keep s lives running steps opened all own =
    own-history sites i keep s steps (subst (IsHistory sites i keep s) (sym own) (lives-go sites i keep s lives running opened all))

-- ---- a shop

pub shop-histories : {sites : ℕ} {keep : ℕ → ℕ} (start : ℕ → FileState) {lives : ℕ → List SiteLife} {running : ℕ → List FolderEvent} {steps : List FolderStep}
    → AreShopLives sites keep start lives running steps → AreHistories sites keep start steps
shop-histories {sites} {keep} start {lives} {running} {steps} shop = record {
  safe = λ i. lives-are-histories sites i (keep i) (start i) (lives i) (running i) steps (shop.opened i) (shop.lived i) (shop.own i);
  ahead = shop.ahead;
  anew = shop.anew;
  again = shop.again;
  answered = shop.answered;
}

pub shop-lives-are-runs : ShopLivesAreRuns
shop-lives-are-runs sites keep start lives running steps some top small shop carried =
    histories-are-runs sites keep start steps some top small (shop-histories start shop) carried
