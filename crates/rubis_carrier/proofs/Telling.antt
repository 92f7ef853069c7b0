-- An ask is served by one life, once; so what its asker is told stays true.
use Rattle.std.specs.Prelude.{zero, suc}
use Rattle.std.proofs.lemmas.Bool.{cases_eq}
use Rattle.std.proofs.lemmas.List.{length_push}
use Rattle.std.proofs.Common.{◌≡◌, ◌∙◌, ◌≢◌, ◌⊎◌, inl, inr, ⊎_elim, ◌≤◌, ◌<◌, ◌+◌, ◌++◌, ◌∷◌, [], ℕ, List, length, refl, sym, ap, subst, arith}
use Rattle.rubis_model.specs.Site.{Has}
use Rattle.rubis_model.proofs.Settling.{has_last, has_left, push_cases}
use Rattle.rubis_carrier.specs.declared.values.Answer.{Answer}
use Rattle.rubis_carrier.specs.declared.values.Carrier.{Carrier}
use Rattle.rubis_carrier.specs.declared.values.ShopPacket.{ShopPacket}
use Rattle.rubis_carrier.specs.declared.values.ShopPacket.TheVariants.{Message}
use Rattle.rubis_carrier.specs.declared.values.ShopRequest.{ShopRequest}
use Rattle.rubis_carrier.specs.declared.values.Notice.{Notice}
use Rattle.rubis_carrier.specs.declared.values.Notice.TheVariants.{No, Ok}
use Rattle.rubis_carrier.specs.Events.{AreSteps, IsFirstEvent, May, MayServe, accepting, after_step, first_answered, first_event, giving, next_message, opening_folder, others, after_steps}
use Rattle.rubis_carrier.specs.Events.{started, times, without}
use Rattle.rubis_carrier.specs.declared.values.ShopEvent.{ShopEvent}
use Rattle.rubis_carrier.specs.declared.values.ShopEvent.TheVariants.{Accepts, Appends, Arrives, Closes, Fills, Finds, Gives, GoesOn, IsAsked, IsCopied}
use Rattle.rubis_carrier.specs.declared.values.ShopEvent.TheVariants.{IsKilled, IsLost, IsRaised, KeeperStarts, LosesEnd, MachineStarts, Opens, OpensAlone}
use Rattle.rubis_carrier.specs.declared.values.ShopEvent.TheVariants.{Passes, Reads, Rebuilds, Refuses, Sends, ServerLosesAll, Serves, Starts, StreamLosesEnd}
use Rattle.rubis_carrier.specs.declared.values.ShopEvent.TheVariants.{TakesBack, TakesOver, TellsNothing, TellsOk, TellsPublished, TellsUnknown, WritesAnew}
use Rattle.rubis_carrier.specs.declared.values.ShopEvent.TheVariants.{Yields}
use Rattle.rubis_carrier.specs.Laws.{AsksAreAcceptedOnce, IsUnmade, NobodyIsToldBoth, PublishedIsInStream, ToldOkIsKept, WhatIsToldIsTrue}
use Rattle.rubis_carrier.specs.Shops.{highest, Folder, PacketPlace, Shop, asks, empty, folder, folder_in, put_folder, request, request_in, shop_start, stream, there}
use Rattle.rubis_carrier.specs.Shops.PacketPlace.{InFolder, InStream, UnderWay}
use Rattle.rubis_carrier.proofs.Changes.{AreApart, IsNew, apart_more, apart_others, first_in, from_step, has_others, has_without, opened_from}
use Rattle.rubis_carrier.proofs.PacketFacts.{folder_cases, has_filter, opened_cases, request_new, request_old}
use Rattle.rubis_carrier.proofs.Sound.{IsSomewhere}
use Rattle.rubis_carrier.proofs.Carrying.{run_append, steps_left, steps_right}

-- ---- what every event keeps

-- the ask was taken by the life that it names, which takes it no more; nor does any other
pub record IsTaken (s : Shop) (r : ℕ) : Type 0 where
  pub asked : r ≤ asks s
  pub served : (k : ℕ) → 0 < (folder s k).life → (request s r).life ≡ (folder s k).life → Has r (folder s k).served

-- the ask is at this folder
pub record IsAt (requests : List ShopRequest) (f : Folder) (r : ℕ) : Type 0 where
  pub runs : 0 < f.life
  pub asked : r ≤ length requests
  pub life : (request_in requests r).life ≡ f.life
  pub one : (request_in requests r).records ≡ 1
  pub served : Has r f.served

-- no message was made of it, and its asker was told neither that it was nor that it wasn't
pub record IsOpen (s : Shop) (r : ℕ) : Type 0 where
  pub unmade : IsUnmade s r
  pub not_no : ¬ (Has (No r) s.told)
  pub not_ok : (i n : ℕ) → ¬ (Has (Ok r i n) s.told)

-- each record that the site has still to read is of the ask that its answer is taken to be of, and what the answers say is so
pub record IsLined (f : Folder) : Type 0 where
  pub lines : f.lines ≡ f.given
  pub apart : AreApart f.given
  pub answers : (r n : ℕ) → Has (record { ask = r; number = n }) f.answered → Has (Message f.site n r) f.kept

pub record Tells (s : Shop) : Type 0 where
  pub lives : (k j : ℕ) → 0 < (folder s k).life → (folder s k).life ≡ (folder s j).life → k ≡ j
  pub begun : (k : ℕ) → (folder s k).life ≤ s.begun
  pub named : (r : ℕ) → r ≤ asks s → (request s r).life ≤ s.begun
  pub made : (h : PacketPlace) (i n r : ℕ) → Has (Message i n r) (there s h) → IsTaken s r
  pub once : (h g : PacketPlace) (r i n j m : ℕ) → Has (Message i n r) (there s h) → Has (Message j m r) (there s g) → (i ≡ j) × (n ≡ m)
  pub no : (r : ℕ) → Has (No r) s.told → IsTaken s r × IsUnmade s r
  pub ok : (r i n : ℕ) → Has (Ok r i n) s.told → IsTaken s r × ¬ (Has (No r) s.told)
  pub waits : (k r : ℕ) → Has r (folder s k).waiting → IsAt s.requests (folder s k) r × IsOpen s r × ¬ (Has r (folder s k).given)
  pub gives : (k r : ℕ) → Has r (folder s k).given → IsAt s.requests (folder s k) r × IsOpen s r
  pub lined : (k : ℕ) → IsLined (folder s k)

-- an ask that is at a folder is at no other
one_place : {s : Shop} → Tells s → (k j r : ℕ) → IsAt s.requests (folder s k) r → IsAt s.requests (folder s j) r → k ≡ j
one_place q k j r a b = q.lives k j a.runs (sym a.life ∙ b.life)

-- and was taken
at_taken : {s : Shop} → Tells s → (k r : ℕ) → IsAt s.requests (folder s k) r → IsTaken s r
at_taken {s} q k r a = record {
  asked = a.asked;
  served = λ j runs e. subst (λ n. Has r (folder s n).served) (q.lives k j a.runs (sym a.life ∙ e)) a.served;
}

-- ---- events in which no ask goes on

-- what is in memory is the same, and nothing that was kept is gone
pub record IsSame (f g : Folder) : Type 0 where
  pub site : g.site ≡ f.site
  pub life : g.life ≡ f.life
  pub served : g.served ≡ f.served
  pub waiting : g.waiting ≡ f.waiting
  pub given : g.given ≡ f.given
  pub lines : g.lines ≡ f.lines
  pub answered : g.answered ≡ f.answered
  pub kept : (x : ShopPacket) → Has x f.kept → Has x g.kept

-- nothing runs it
pub record IsIdle (g : Folder) : Type 0 where
  pub life : g.life ≡ 0
  pub waiting : g.waiting ≡ []
  pub given : g.given ≡ []
  pub lines : g.lines ≡ []
  pub answered : g.answered ≡ []

lined_idle : (g : Folder) → g.given ≡ [] → g.lines ≡ [] → g.answered ≡ [] → IsLined g
lined_idle g a b c = record {
  lines = b ∙ sym a;
  apart = subst AreApart (sym a) tt;
  answers = λ r n h. absurd (subst (Has (record { ask = r; number = n })) c h);
}

lined_same : {f g : Folder} → IsSame f g → IsLined f → IsLined g
lined_same {f} {g} e l = record {
  lines = e.lines ∙ l.lines ∙ sym e.given;
  apart = subst AreApart (sym e.given) l.apart;
  answers = λ r n h.
      subst (λ i. Has (Message i n r) g.kept) (sym e.site)
      (e.kept (Message f.site n r) (l.answers r n (subst (Has (record { ask = r; number = n })) e.answered h)));
}

pub record IsQuiet (s t : Shop) : Type 0 where
  pub from : (h : PacketPlace) (i n r : ℕ) → Has (Message i n r) (there t h) → IsSomewhere s (Message i n r)
  pub memory : (k : ℕ) → IsSame (folder s k) (folder t k) ⊎ IsIdle (folder t k)
  pub requests : t.requests ≡ s.requests
  pub begun : t.begun ≡ s.begun
  pub no : (r : ℕ) → Has (No r) t.told → Has (No r) s.told
  pub ok : (r i n : ℕ) → Has (Ok r i n) t.told → Has (Ok r i n) s.told ⊎ IsSomewhere s (Message i n r)

module _ (s t : Shop) (q : Tells s) (l : IsQuiet s t) where
  runs_still : (k : ℕ) → 0 < (folder t k).life → IsSame (folder s k) (folder t k)
  runs_still k runs = ⊎_elim (λ same. same) (λ idle. absurd (omega (arith, runs, idle.life))) (l.memory k)

  taken_still : (r : ℕ) → IsTaken s r → IsTaken t r
  taken_still r a = record {
    asked = subst (λ rs. r ≤ length rs) (sym l.requests) a.asked;
    served = λ k runs e.
        let same = runs_still k runs in
        subst (Has r) (sym same.served)
        (a.served k (omega (arith, runs, same.life)) (subst (λ rs. (request_in rs r).life ≡ (folder t k).life) l.requests e ∙ same.life));
  }

  open_still : (r : ℕ) → IsTaken s r → IsOpen s r → IsOpen t r
  open_still r a o = record {
    unmade = λ h i n b. let from = l.from h i n r b in o.unmade from.0 i n from.1;
    not_no = λ b. o.not_no (l.no r b);
    not_ok = λ i n b. ⊎_elim (λ old. o.not_ok i n old) (λ at. o.unmade at.0 i n at.1) (l.ok r i n b);
  }

  at_still : (k r : ℕ) → IsSame (folder s k) (folder t k) → IsAt s.requests (folder s k) r → IsAt t.requests (folder t k) r
  at_still k r same a = record {
    runs = omega (arith, a.runs, same.life);
    asked = subst (λ rs. r ≤ length rs) (sym l.requests) a.asked;
    life = subst (λ rs. (request_in rs r).life ≡ (folder t k).life) (sym l.requests) (a.life ∙ sym same.life);
    one = subst (λ rs. (request_in rs r).records ≡ 1) (sym l.requests) a.one;
    served = subst (Has r) (sym same.served) a.served;
  }

  pub quiet_tells : Tells t
  quiet_tells = record {
    lives = λ k j runs e.
        let a = runs_still k runs in
        let b = runs_still j (omega (arith, runs, e)) in
        q.lives k j (omega (arith, runs, a.life)) (sym a.life ∙ e ∙ b.life);
    begun = λ k. ⊎_elim (λ same. omega (arith, q.begun k, same.life, l.begun)) (λ idle. omega (arith, idle.life)) (l.memory k);
    named = λ r a. subst (λ rs. (request_in rs r).life ≤ t.begun) (sym l.requests)
        (omega (arith, q.named r (subst (λ rs. r ≤ length rs) l.requests a), l.begun));
    made = λ h i n r b. let from = l.from h i n r b in taken_still r (q.made from.0 i n r from.1);
    once = λ h g r i n j m a b.
        let from = l.from h i n r a in
        let other = l.from g j m r b in
        q.once from.0 other.0 r i n j m from.1 other.1;
    no = λ r b.
        let was = q.no r (l.no r b) in
        (taken_still r was.0, λ h i n a. let from = l.from h i n r a in was.1 from.0 i n from.1);
    ok = λ r i n b. ⊎_elim
        (λ old. let was = q.ok r i n old in (taken_still r was.0, λ c. was.1 (l.no r c)))
        (λ at. (taken_still r (q.made at.0 i n r at.1), λ c. (q.no r (l.no r c)).1 at.0 i n at.1)) (l.ok r i n b);
    waits = λ k r b. ⊎_elim
        (λ same.
        let was = q.waits k r (subst (Has r) same.waiting b) in
        (at_still k r same was.0, open_still r (at_taken q k r was.0) was.1, λ c. was.2 (subst (Has r) same.given c)))
        (λ idle. absurd (subst (Has r) idle.waiting b)) (l.memory k);
    gives = λ k r b. ⊎_elim
        (λ same.
        let was = q.gives k r (subst (Has r) same.given b) in
        (at_still k r same was.0, open_still r (at_taken q k r was.0) was.1))
        (λ idle. absurd (subst (Has r) idle.given b)) (l.memory k);
    lined = λ k. ⊎_elim (λ same. lined_same same (q.lined k))
        (λ idle. lined_idle (folder t k) idle.given idle.lines idle.answered) (l.memory k);
  }

same : (f g : Folder) → g.site ≡ f.site → g.life ≡ f.life → g.served ≡ f.served → g.waiting ≡ f.waiting → g.given ≡ f.given → g.lines ≡ f.lines
    → g.answered ≡ f.answered → ((x : ShopPacket) → Has x f.kept → Has x g.kept) → IsSame f g
same f g i a b c d e h kept = record { site = i; life = a; served = b; waiting = c; given = d; lines = e; answered = h; kept = kept }

idle : (g : Folder) → g.life ≡ 0 → g.waiting ≡ [] → g.given ≡ [] → g.lines ≡ [] → g.answered ≡ [] → IsIdle g
idle g a b c d e = record { life = a; waiting = b; given = c; lines = d; answered = e }

all_same : (s : Shop) (k : ℕ) → IsSame (folder s k) (folder s k) ⊎ IsIdle (folder s k)
all_same s k = inl (same (folder s k) (folder s k) refl refl refl refl refl refl refl (λ x h. h))

-- ---- one event: what else is new

nothing_new : (c : Carrier) (s : Shop) (e : ShopEvent) → May c s e → ((i n r : ℕ) → IsNew s e (Message i n r) → ⊥) → (h : PacketPlace) (i n r : ℕ)
    → Has (Message i n r) (there (after_step s e) h) → IsSomewhere s (Message i n r)
nothing_new c s e m none h i n r a = ⊎_elim (λ old. old) (λ new. absurd (none i n r new)) (from_step c s e h (Message i n r) m a)

-- the events in which no ask goes on, but for a folder that starts and an asker that asks
quiet_put : (c : Carrier) {s : Shop} (e : ShopEvent) (k : ℕ) {f : Folder} → Tells s → May c s e → ((i n r : ℕ) → IsNew s e (Message i n r) → ⊥)
    → (after_step s e).folders ≡ put_folder k f s.folders → (IsSame (folder s k) f ⊎ IsIdle f) → (after_step s e).requests ≡ s.requests → (after_step s e).begun ≡ s.begun
    → (after_step s e).told ≡ s.told → Tells (after_step s e)
quiet_put c {s} e k {f} q m none changed here requests begun told = quiet_tells s (after_step s e) q (record {
  from = nothing_new c s e m none;
  memory = λ j. subst (λ fs. IsSame (folder s j) (folder_in fs j) ⊎ IsIdle (folder_in fs j)) (sym changed)
      (folder_cases (λ j g. IsSame (folder s j) g ⊎ IsIdle g) k f s.folders here (λ j n. all_same s j) j);
  requests = requests;
  begun = begun;
  no = λ r a. subst (Has (No r)) told a;
  ok = λ r i n a. inl (subst (Has (Ok r i n)) told a);
})

quiet_streams : (c : Carrier) {s : Shop} (e : ShopEvent) → Tells s → May c s e → ((i n r : ℕ) → IsNew s e (Message i n r) → ⊥) → (after_step s e).folders ≡ s.folders
    → (after_step s e).requests ≡ s.requests → (after_step s e).begun ≡ s.begun → ((r : ℕ) → Has (No r) (after_step s e).told → Has (No r) s.told)
    → ((r i n : ℕ) → Has (Ok r i n) (after_step s e).told → Has (Ok r i n) s.told ⊎ IsSomewhere s (Message i n r)) → Tells (after_step s e)
quiet_streams c {s} e q m none same requests begun told_no told_ok = quiet_tells s (after_step s e) q (record {
  from = nothing_new c s e m none;
  memory = λ j. subst (λ fs. IsSame (folder s j) (folder_in fs j) ⊎ IsIdle (folder_in fs j)) (sym same) (all_same s j);
  requests = requests;
  begun = begun;
  no = told_no;
  ok = told_ok;
})

-- ---- events in which an ask goes on at a folder

record IsGoing (s t : Shop) : Type 0 where
  life : (j : ℕ) → (folder t j).life ≡ (folder s j).life
  served : (j r : ℕ) → Has r (folder s j).served → Has r (folder t j).served
  requests : t.requests ≡ s.requests
  begun : t.begun ≡ s.begun

-- of which asks there may be a message then that there wasn't, and which may be told no
record IsAlmost (s t : Shop) (Made Refused : ℕ → Type 0) : Type 0 where
  from : (h : PacketPlace) (i n r : ℕ) → Has (Message i n r) (there t h) → IsSomewhere s (Message i n r) ⊎ Made r
  no : (r : ℕ) → Has (No r) t.told → Has (No r) s.told ⊎ Refused r
  ok : (r i n : ℕ) → Has (Ok r i n) t.told → Has (Ok r i n) s.told
  made_was : (r : ℕ) → Made r → IsTaken s r × IsOpen s r
  made_once : (h g : PacketPlace) (r i n j m : ℕ) → Made r → Has (Message i n r) (there t h) → Has (Message j m r) (there t g) → (i ≡ j) × (n ≡ m)
  refused_was : (r : ℕ) → Refused r → IsTaken s r × IsOpen s r × ¬ (Made r)

open_almost : {s t : Shop} (Made Refused : ℕ → Type 0) → IsAlmost s t Made Refused → (r : ℕ) → ¬ (Made r) → ¬ (Refused r) → IsOpen s r → IsOpen t r
open_almost Made Refused l r a b o = record {
  unmade = λ h i n x. ⊎_elim (λ old. o.unmade old.0 i n old.1) a (l.from h i n r x);
  not_no = λ x. ⊎_elim o.not_no b (l.no r x);
  not_ok = λ i n x. o.not_ok i n (l.ok r i n x);
}

module _ (s t : Shop) (q : Tells s) (g : IsGoing s t) where
  taken_going : (r : ℕ) → IsTaken s r → IsTaken t r
  taken_going r a = record {
    asked = subst (λ rs. r ≤ length rs) (sym g.requests) a.asked;
    served = λ k runs e.
        g.served k r (a.served k (omega (arith, runs, g.life k)) (subst (λ rs. (request_in rs r).life ≡ (folder t k).life) g.requests e ∙ g.life k));
  }

  -- with what waits at each folder, and what was given
  going_tells : (Made Refused : ℕ → Type 0) → IsAlmost s t Made Refused
      → ((k r : ℕ) → Has r (folder t k).waiting → IsAt t.requests (folder t k) r × IsOpen t r × ¬ (Has r (folder t k).given))
      → ((k r : ℕ) → Has r (folder t k).given → IsAt t.requests (folder t k) r × IsOpen t r) → ((k : ℕ) → IsLined (folder t k)) → Tells t
  going_tells Made Refused l waits gives lined = record {
    lives = λ k j runs e. q.lives k j (omega (arith, runs, g.life k)) (sym (g.life k) ∙ e ∙ g.life j);
    begun = λ k. omega (arith, q.begun k, g.life k, g.begun);
    named = λ r a. subst (λ rs. (request_in rs r).life ≤ t.begun) (sym g.requests)
        (omega (arith, q.named r (subst (λ rs. r ≤ length rs) g.requests a), g.begun));
    made = λ h i n r a. ⊎_elim (λ old. taken_going r (q.made old.0 i n r old.1)) (λ made. taken_going r (l.made_was r made).0) (l.from h i n r a);
    once = λ h f r i n j m a b. ⊎_elim
        (λ old. ⊎_elim (λ other. q.once old.0 other.0 r i n j m old.1 other.1) (λ made. l.made_once h f r i n j m made a b) (l.from f j m r b))
        (λ made. l.made_once h f r i n j m made a b) (l.from h i n r a);
    no = λ r a. ⊎_elim
        (λ old.
        let was = q.no r old in
        (taken_going r was.0, λ h i n x. ⊎_elim (λ o. was.1 o.0 i n o.1) (λ made. (l.made_was r made).1.not_no old) (l.from h i n r x)))
        (λ refused.
        let was = l.refused_was r refused in
        (taken_going r was.0, λ h i n x. ⊎_elim (λ o. was.1.unmade o.0 i n o.1) was.2 (l.from h i n r x)))
        (l.no r a);
    ok = λ r i n a.
        let was = q.ok r i n (l.ok r i n a) in
        (taken_going r was.0, λ b. ⊎_elim was.1 (λ refused. (l.refused_was r refused).1.not_ok i n (l.ok r i n a)) (l.no r b));
    waits = waits;
    gives = gives;
    lined = lined;
  }

-- folder k is replaced by one of the same life, which has served as much
going_put : (s t : Shop) (k : ℕ) (f : Folder) → t.folders ≡ put_folder k f s.folders → f.life ≡ (folder s k).life
    → ((r : ℕ) → Has r (folder s k).served → Has r f.served) → t.requests ≡ s.requests → t.begun ≡ s.begun → IsGoing s t
going_put s t k f e life served requests begun = record {
  life = λ j. subst (λ fs. (folder_in fs j).life ≡ (folder s j).life) (sym e)
      (folder_cases (λ i g. g.life ≡ (folder s i).life) k f s.folders life (λ i n. refl) j);
  served = λ j r. subst (λ fs. Has r (folder s j).served → Has r (folder_in fs j).served) (sym e)
      (folder_cases (λ i g. Has r (folder s i).served → Has r g.served) k f s.folders (served r) (λ i n a. a) j);
  requests = requests;
  begun = begun;
}

abbrev none : ℕ → Type 0
none r = ⊥

-- the ask is taken
serves_tells : (c : Carrier) {s : Shop} {k r : ℕ} → Tells s → MayServe s k r → Tells (after_step s (Serves k r))
serves_tells c {s} {k} {r} q m =
    let t = after_step s (Serves k r) in
    let f : Folder = record (folder s k) { served = r ∷ (folder s k).served; waiting = r ∷ (folder s k).waiting } in
    let l : IsAlmost s t none none = record {
      from = λ h i n p a. inl (nothing_new c s (Serves k r) m (λ i n p e. e) h i n p a);
      no = λ p a. inl a;
      ok = λ p i n a. a;
      made_was = λ p z. absurd z;
      made_once = λ h g p i n j m z a b. absurd z;
      refused_was = λ p z. absurd z;
    } in
    let still = open_almost none none l in
    let fresh : IsOpen s r = record {
      unmade = λ h i n a. m.once ((q.made h i n r a).served k m.runs m.life);
      not_no = λ a. m.once ((q.no r a).0.served k m.runs m.life);
      not_ok = λ i n a. m.once ((q.ok r i n a).0.served k m.runs m.life);
    } in
    going_tells s t q (going_put s t k f refl refl (λ p a. inr a) refl refl) none none l
    (folder_cases (λ j g. (p : ℕ) → Has p g.waiting → IsAt s.requests g p × IsOpen t p × ¬ (Has p g.given)) k f s.folders (λ p. elim [
      | inl e ↦
          let at : IsAt s.requests f r = record { runs = m.runs; asked = m.asked; life = m.life; one = m.one; served = inl refl } in
          let new = still r (λ z. z) (λ z. z) fresh in
          subst (λ n. IsAt s.requests f n × IsOpen t n × ¬ (Has n f.given)) (sym e) (at, new, λ g. m.once (q.gives k r g).0.served)
      | inr a ↦
          let was = q.waits k p a in (
            record { runs = was.0.runs; asked = was.0.asked; life = was.0.life; one = was.0.one; served = inr was.0.served },
            still p (λ z. z)
                (λ z. z) was.1,
            was.2,
          )
    ]) (λ j n p a. let was = q.waits j p a in (was.0, still p (λ z. z) (λ z. z) was.1, was.2)))
    (folder_cases (λ j g. (p : ℕ) → Has p g.given → IsAt s.requests g p × IsOpen t p) k f s.folders (λ p a.
    let was = q.gives k p a in
    (record { runs = was.0.runs; asked = was.0.asked; life = was.0.life; one = was.0.one; served = inr was.0.served }, still p (λ z. z) (λ z. z) was.1))
    (λ j n p a. let was = q.gives j p a in (was.0, still p (λ z. z) (λ z. z) was.1)))
    (folder_cases (λ j g. IsLined g) k f s.folders (record { lines = (q.lined k).lines; apart = (q.lined k).apart; answers = (q.lined k).answers })
    (λ j n. q.lined j))

-- it is given to the site
gives_tells : (c : Carrier) {s : Shop} (k r : ℕ) → Tells s → May c s (Gives k r) → Tells (after_step s (Gives k r))
gives_tells c {s} k r q m =
    let t = after_step s (Gives k r) in
    let f : Folder = giving (folder s k) r (request s r).records in
    let l : IsAlmost s t none none = record {
      from = λ h i n p a. inl (nothing_new c s (Gives k r) m (λ i n p e. e) h i n p a);
      no = λ p a. inl a;
      ok = λ p i n a. a;
      made_was = λ p z. absurd z;
      made_once = λ h g p i n j m z a b. absurd z;
      refused_was = λ p z. absurd z;
    } in
    let still = open_almost none none l in
    let waited = q.waits k r m.1 in
    going_tells s t q (going_put s t k f refl refl (λ p a. a) refl refl) none none l
    (folder_cases (λ j g. (p : ℕ) → Has p g.waiting → IsAt s.requests g p × IsOpen t p × ¬ (Has p g.given)) k f s.folders (λ p a.
    let left = has_without r p (folder s k).waiting a in
    let was = q.waits k p left.0 in (
      record { runs = was.0.runs; asked = was.0.asked; life = was.0.life; one = was.0.one; served = was.0.served },
      still p (λ z. z) (λ z. z) was.1,
      λ b. ⊎_elim was.2 left.1 (push_cases p r (folder s k).given b),
    )) (λ j n p a. let was = q.waits j p a in (was.0, still p (λ z. z) (λ z. z) was.1, was.2)))
    (folder_cases (λ j g. (p : ℕ) → Has p g.given → IsAt s.requests g p × IsOpen t p) k f s.folders (λ p a. ⊎_elim (λ old.
    let was = q.gives k p old in
    (record { runs = was.0.runs; asked = was.0.asked; life = was.0.life; one = was.0.one; served = was.0.served }, still p (λ z. z) (λ z. z) was.1)) (λ e.
    let at : IsAt s.requests f r =
    record { runs = waited.0.runs; asked = waited.0.asked; life = waited.0.life; one = waited.0.one; served = waited.0.served } in
    let new = still r (λ z. z) (λ z. z) waited.1 in
    subst (λ n. IsAt s.requests f n × IsOpen t n) (sym e) (at, new)) (push_cases p r (folder s k).given a))
    (λ j n p a. let was = q.gives j p a in (was.0, still p (λ z. z) (λ z. z) was.1))) (folder_cases (λ j g. IsLined g) k f s.folders (record {
      lines = ap (λ n. (folder s k).lines ++ times n r) waited.0.one ∙ ap (λ xs. xs ++ r ∷ []) (q.lined k).lines;
      apart = apart_more r (folder s k).given (q.lined k).apart waited.2;
      answers = (q.lined k).answers;
    }) (λ j n. q.lined j))

-- the site accepts it
accepts_tells : (c : Carrier) {s : Shop} (k r : ℕ) → Tells s → May c s (Accepts k r) → Tells (after_step s (Accepts k r))
accepts_tells c {s} k r q m =
    let t = after_step s (Accepts k r) in
    let y = next_message (folder s k) r in
    let f : Folder = accepting (folder s k) r in
    let line : IsFirstEvent r (folder s k).given = (m.1.0, sym (q.lined k).lines ∙ m.1.1) in
    let it = first_in (folder s k).given line in
    let given = q.gives k r it.1 in
    let Made : ℕ → Type 0 = λ p. p ≡ r in
    let from : (h : PacketPlace) (i n p : ℕ) → Has (Message i n p) (there t h) → IsSomewhere s (Message i n p) ⊎ (Message i n p ≡ y) =
    λ h i n p a. from_step c s (Accepts k r) h (Message i n p) m a in
    let l : IsAlmost s t Made none = record {
      from = λ h i n p a. ⊎_elim (λ old. inl old) (λ e. inr (cc e)) (from h i n p a);
      no = λ p a. inl a;
      ok = λ p i n a. a;
      made_was = λ p e. subst (λ n. IsTaken s n × IsOpen s n) (sym e) (at_taken q k r given.0, given.1);
      made_once = λ h g p i n j d e a b. ⊎_elim (λ old. absurd (given.1.unmade old.0 i n (subst (λ v. Has (Message i n v) (there s old.0)) e old.1)))
          (λ new. ⊎_elim (λ old. absurd (given.1.unmade old.0 j d (subst (λ v. Has (Message j d v) (there s old.0)) e old.1)))
          (λ other. (cc (new, other), cc (new, other))) (from g j d p b)) (from h i n p a);
      refused_was = λ p z. absurd z;
    } in
    let still = open_almost Made none l in
    let elsewhere : (j p : ℕ) → j ≢ k → IsAt s.requests (folder s j) p → p ≢ r =
    λ j p n at e. n (one_place q j k r (subst (IsAt s.requests (folder s j)) e at) given.0) in
    going_tells s t q (going_put s t k f refl refl (λ p a. a) refl refl) Made none l
    (folder_cases (λ j g. (p : ℕ) → Has p g.waiting → IsAt s.requests g p × IsOpen t p × ¬ (Has p g.given)) k f s.folders (λ p a.
    let was = q.waits k p a in
    let not_it : p ≢ r = λ e. was.2 (subst (λ n. Has n (folder s k).given) (sym e) it.1) in (
      record { runs = was.0.runs; asked = was.0.asked; life = was.0.life; one = was.0.one; served = was.0.served },
      still p not_it (λ z. z) was.1,
      λ b. was.2 (has_others p (folder s k).given (q.lined k).apart b).0,
    )) (λ j n p a. let was = q.waits j p a in (was.0, still p (elsewhere j p n was.0) (λ z. z) was.1, was.2)))
    (folder_cases (λ j g. (p : ℕ) → Has p g.given → IsAt s.requests g p × IsOpen t p) k f s.folders (λ p a.
    let left = has_others p (folder s k).given (q.lined k).apart a in
    let was = q.gives k p left.0 in (
      record { runs = was.0.runs; asked = was.0.asked; life = was.0.life; one = was.0.one; served = was.0.served },
      still p (λ e. left.1 (e ∙ sym it.0))
          (λ z. z) was.1,
    ))
    (λ j n p a. let was = q.gives j p a in (was.0, still p (elsewhere j p n was.0) (λ z. z) was.1))) (folder_cases (λ j g. IsLined g) k f s.folders (record {
      lines = ap others (q.lined k).lines;
      apart = apart_others (folder s k).given (q.lined k).apart;
      answers = λ p n h. ⊎_elim (λ e.
          let who : p ≡ first_event (folder s k).given = ap (λ (x : Answer). x.ask) e in
          let number : n ≡ highest (folder s k).site (folder s k).kept + 1 = ap (λ (x : Answer). x.number) e in
          let is : Message (folder s k).site n p ≡ y = cc (who ∙ it.0, number) in
          subst (λ x. Has x ((folder s k).kept ++ y ∷ [])) (sym is) (has_last y (folder s k).kept))
          (λ old. has_left (Message (folder s k).site n p) (folder s k).kept (y ∷ []) ((q.lined k).answers p n old)) h;
    }) (λ j n. q.lined j))

-- the asker is told no
no_from : (s : Shop) (r p : ℕ) → Has (No p) (No r ∷ s.told) → Has (No p) s.told ⊎ (p ≡ r)
no_from s r p (inl e) = inr (cc e)
no_from s r p (inr a) = inl a

ok_from : (s : Shop) (r p i n : ℕ) → Has (Ok p i n) (No r ∷ s.told) → Has (Ok p i n) s.told
ok_from s r p i n (inl e) = absurd (cc e)
ok_from s r p i n (inr a) = a

-- the site refused it
refuses_tells : (c : Carrier) {s : Shop} (k r : ℕ) → Tells s → May c s (Refuses k r) → Tells (after_step s (Refuses k r))
refuses_tells c {s} k p0 q m =
    let t = after_step s (Refuses k p0) in
    let f : Folder = first_answered (folder s k) in
    let r = first_event (folder s k).given in
    let it = first_in (folder s k).given (m.0, sym (q.lined k).lines ∙ m.1) in
    let here : Has r (folder s k).given = subst (λ n. Has n (folder s k).given) (sym it.0) it.1 in
    let given = q.gives k r here in
    let Refused : ℕ → Type 0 = λ p. p ≡ r in
    let l : IsAlmost s t none Refused = record {
      from = λ h i n p a. inl (nothing_new c s (Refuses k p0) m (λ i n p e. e) h i n p a);
      no = no_from s r;
      ok = ok_from s r;
      made_was = λ p z. absurd z;
      made_once = λ h g p i n j d z a b. absurd z;
      refused_was = λ p e. subst (λ n. IsTaken s n × IsOpen s n × ¬ (none n)) (sym e) (at_taken q k r given.0, given.1, λ z. z);
    } in
    let still = open_almost none Refused l in
    let elsewhere : (j p : ℕ) → j ≢ k → IsAt s.requests (folder s j) p → p ≢ r =
    λ j p n at e. n (one_place q j k r (subst (IsAt s.requests (folder s j)) e at) given.0) in
    going_tells s t q (going_put s t k f refl refl (λ p a. a) refl refl) none Refused l
    (folder_cases (λ j g. (p : ℕ) → Has p g.waiting → IsAt s.requests g p × IsOpen t p × ¬ (Has p g.given)) k f s.folders (λ p a.
    let was = q.waits k p a in
    let not_it : p ≢ r = λ e. was.2 (subst (λ n. Has n (folder s k).given) (sym e) here) in (
      record { runs = was.0.runs; asked = was.0.asked; life = was.0.life; one = was.0.one; served = was.0.served },
      still p (λ z. z) not_it was.1,
      λ b. was.2 (has_others p (folder s k).given (q.lined k).apart b).0,
    )) (λ j n p a. let was = q.waits j p a in (was.0, still p (λ z. z) (elsewhere j p n was.0) was.1, was.2)))
    (folder_cases (λ j g. (p : ℕ) → Has p g.given → IsAt s.requests g p × IsOpen t p) k f s.folders (λ p a.
    let left = has_others p (folder s k).given (q.lined k).apart a in
    let was = q.gives k p left.0 in
    (record { runs = was.0.runs; asked = was.0.asked; life = was.0.life; one = was.0.one; served = was.0.served }, still p (λ z. z) left.1 was.1))
    (λ j n p a. let was = q.gives j p a in (was.0, still p (λ z. z) (elsewhere j p n was.0) was.1))) (folder_cases (λ j g. IsLined g) k f s.folders
    (record { lines = ap others (q.lined k).lines; apart = apart_others (folder s k).given (q.lined k).apart; answers = (q.lined k).answers })
    (λ j n. q.lined j))

-- it is taken back before it was given
withdraws_tells : (c : Carrier) {s : Shop} (k r : ℕ) → Tells s → May c s (TellsNothing k r) → Tells (after_step s (TellsNothing k r))
withdraws_tells c {s} k r q m =
    let t = after_step s (TellsNothing k r) in
    let f : Folder = record (folder s k) { waiting = without r (folder s k).waiting } in
    let waited = q.waits k r m in
    let Refused : ℕ → Type 0 = λ p. p ≡ r in
    let l : IsAlmost s t none Refused = record {
      from = λ h i n p a. inl (nothing_new c s (TellsNothing k r) m (λ i n p e. e) h i n p a);
      no = no_from s r;
      ok = ok_from s r;
      made_was = λ p z. absurd z;
      made_once = λ h g p i n j d z a b. absurd z;
      refused_was = λ p e. subst (λ n. IsTaken s n × IsOpen s n × ¬ (none n)) (sym e) (at_taken q k r waited.0, waited.1, λ z. z);
    } in
    let still = open_almost none Refused l in
    let elsewhere : (j p : ℕ) → j ≢ k → IsAt s.requests (folder s j) p → p ≢ r =
    λ j p n at e. n (one_place q j k r (subst (IsAt s.requests (folder s j)) e at) waited.0) in
    going_tells s t q (going_put s t k f refl refl (λ p a. a) refl refl) none Refused l
    (folder_cases (λ j g. (p : ℕ) → Has p g.waiting → IsAt s.requests g p × IsOpen t p × ¬ (Has p g.given)) k f s.folders (λ p a.
    let left = has_without r p (folder s k).waiting a in
    let was = q.waits k p left.0 in
    (record { runs = was.0.runs; asked = was.0.asked; life = was.0.life; one = was.0.one; served = was.0.served }, still p (λ z. z) left.1 was.1, was.2))
    (λ j n p a. let was = q.waits j p a in (was.0, still p (λ z. z) (elsewhere j p n was.0) was.1, was.2)))
    (folder_cases (λ j g. (p : ℕ) → Has p g.given → IsAt s.requests g p × IsOpen t p) k f s.folders (λ p a.
    let was = q.gives k p a in
    let not_it : p ≢ r = λ e. waited.2 (subst (λ n. Has n (folder s k).given) e a) in
    (record { runs = was.0.runs; asked = was.0.asked; life = was.0.life; one = was.0.one; served = was.0.served }, still p (λ z. z) not_it was.1))
    (λ j n p a. let was = q.gives j p a in (was.0, still p (λ z. z) (elsewhere j p n was.0) was.1))) (folder_cases (λ j g. IsLined g) k f s.folders
    (record { lines = (q.lined k).lines; apart = (q.lined k).apart; answers = (q.lined k).answers }) (λ j n. q.lined j))

-- ---- a folder is started, and an asker asks

starts_tells : (c : Carrier) {s : Shop} (k : ℕ) → Tells s → May c s (Starts k) → Tells (after_step s (Starts k))
starts_tells c {s} k q m =
    let t = after_step s (Starts k) in
    let f : Folder = started (folder s k) (s.begun + 1) in
    let from = nothing_new c s (Starts k) m (λ i n p e. e) in
    let begun : (j : ℕ) → (folder t j).life ≤ t.begun =
    folder_cases (λ j g. g.life ≤ s.begun + 1) k f s.folders (omega arith) (λ j n. omega (arith, q.begun j)) in
    -- which folder has which life
    let which : (j : ℕ) → ((folder t j).life ≡ s.begun + 1) × (j ≡ k) ⊎ ((folder t j).life ≡ (folder s j).life) × ((folder s j).life ≤ s.begun) =
    folder_cases (λ j g. (g.life ≡ s.begun + 1) × (j ≡ k) ⊎ (g.life ≡ (folder s j).life) × ((folder s j).life ≤ s.begun)) k f s.folders (inl (refl, refl))
    (λ j n. inr (refl, q.begun j)) in
    let taken : (r : ℕ) → IsTaken s r → IsTaken t r =
    λ r a. record {
      asked = a.asked;
      served = folder_cases (λ j g. 0 < g.life → (request s r).life ≡ g.life → Has r g.served) k f s.folders
          (λ runs e. absurd (omega (arith, e, q.named r a.asked))) (λ j n runs e. a.served j runs e);
    } in
    let still : (r : ℕ) → IsOpen s r → IsOpen t r =
    λ r o. record { unmade = λ h i n a. let old = from h i n r a in o.unmade old.0 i n old.1; not_no = o.not_no; not_ok = o.not_ok } in
    record {
      lives = λ i j runs e. ⊎_elim
          (λ a. ⊎_elim (λ b. a.1 ∙ sym b.1) (λ b. absurd (omega (arith, e, a.0, b.0, b.1))) (which j))
          (λ a. ⊎_elim (λ b. absurd (omega (arith, e, a.0, b.0, a.1))) (λ b. q.lives i j (omega (arith, runs, a.0)) (sym a.0 ∙ e ∙ b.0)) (which j))
          (which i);
      begun = begun;
      named = λ r a. omega (arith, q.named r a);
      made = λ h i n r a. let old = from h i n r a in taken r (q.made old.0 i n r old.1);
      once = λ h g r i n j d a b.
          let old = from h i n r a in
          let other = from g j d r b in
          q.once old.0 other.0 r i n j d old.1 other.1;
      no = λ r a. let was = q.no r a in (taken r was.0, λ h i n b. let old = from h i n r b in was.1 old.0 i n old.1);
      ok = λ r i n a. let was = q.ok r i n a in (taken r was.0, was.1);
      waits = folder_cases (λ j g. (p : ℕ) → Has p g.waiting → IsAt s.requests g p × IsOpen t p × ¬ (Has p g.given)) k f s.folders (λ p a. absurd a)
          (λ j n p a. let was = q.waits j p a in (was.0, still p was.1, was.2));
      gives = folder_cases (λ j g. (p : ℕ) → Has p g.given → IsAt s.requests g p × IsOpen t p) k f s.folders (λ p a. absurd a)
          (λ j n p a. let was = q.gives j p a in (was.0, still p was.1));
      lined = folder_cases (λ j g. IsLined g) k f s.folders (lined_idle f refl refl refl) (λ j n. q.lined j);
    }

asked_tells : (c : Carrier) {s : Shop} (r life d : ℕ) → Tells s → May c s (IsAsked r life d) → Tells (after_step s (IsAsked r life d))
asked_tells c {s} r life d q m =
    let t = after_step s (IsAsked r life d) in
    let from = nothing_new c s (IsAsked r life d) m (λ i n p e. e) in
    let new : ShopRequest = record { life = life; records = d } in
    let more : asks t ≡ asks s + 1 = length_push s.requests new in
    let old : (p : ℕ) → p ≤ asks s → request t p ≡ request s p = request_old s.requests new in
    let taken : (p : ℕ) → IsTaken s p → IsTaken t p =
    λ p a. record { asked = omega (arith, a.asked, more); served = λ k runs e. a.served k runs (ap (λ (x : ShopRequest). x.life) (sym (old p a.asked)) ∙ e) } in
    let still : (p : ℕ) → IsOpen s p → IsOpen t p =
    λ p o. record { unmade = λ h i n a. let was = from h i n p a in o.unmade was.0 i n was.1; not_no = o.not_no; not_ok = o.not_ok } in
    let at : (k p : ℕ) → IsAt s.requests (folder s k) p → IsAt t.requests (folder s k) p =
    λ k p a. record {
      runs = a.runs;
      asked = omega (arith, a.asked, more);
      life = ap (λ (x : ShopRequest). x.life) (old p a.asked) ∙ a.life;
      one = ap (λ (x : ShopRequest). x.records) (old p a.asked) ∙ a.one;
      served = a.served;
    } in
    record {
      lives = q.lives;
      begun = q.begun;
      named = λ p a. ⊎_elim (λ l. subst (λ (x : ShopRequest). x.life ≤ s.begun) (sym (old p l)) (q.named p l))
          (λ e. subst (λ (x : ShopRequest). x.life ≤ s.begun) (sym (request_new s.requests new p e)) m.1) (last_or p (omega (arith, a, more)));
      made = λ h i n p a. let was = from h i n p a in taken p (q.made was.0 i n p was.1);
      once = λ h g p i n j d a b.
          let was = from h i n p a in
          let other = from g j d p b in
          q.once was.0 other.0 p i n j d was.1 other.1;
      no = λ p a. let was = q.no p a in (taken p was.0, λ h i n b. let at = from h i n p b in was.1 at.0 i n at.1);
      ok = λ p i n a. let was = q.ok p i n a in (taken p was.0, was.1);
      waits = λ k p a. let was = q.waits k p a in (at k p was.0, still p was.1, was.2);
      gives = λ k p a. let was = q.gives k p a in (at k p was.0, still p was.1);
      lined = q.lined;
    }
  where
    last_or : (p : ℕ) → p ≤ asks s + 1 → (p ≤ asks s) ⊎ (p ≡ asks s + 1)
    last_or p l = ⊎_elim (λ e. inr e) (λ n. inl (omega (arith, l, n))) (cases_eq p (asks s + 1))

-- ---- one event

no_message : (s : Shop) (k to i n r : ℕ) → IsNew s (Passes k to) (Message i n r) → ⊥
no_message s k to i n r e = cc e

-- a folder opens, whether it may or not
opens_tells : {s : Shop} (k : ℕ) (uncompared : List ℕ) → Tells s → Tells (record (opening_folder k s) { uncompared = uncompared })
opens_tells {s} k uncompared q = quiet_tells s _ q (record {
  from = from;
  memory = opened_cases (λ j g. IsSame (folder s j) g ⊎ IsIdle g) s k (inl (same (folder s k) _ refl refl refl refl refl refl refl (λ x h. h)))
      (λ j n. inl (same (folder s j) _ refl refl refl refl refl refl refl (λ x h. h)));
  requests = refl;
  begun = refl;
  no = λ r a. a;
  ok = λ r i n a. inl a;
})
  where
    from : (h : PacketPlace) (i n r : ℕ) → Has (Message i n r) (there (opening_folder k s) h) → IsSomewhere s (Message i n r)
    from (InFolder j) i n r a = opened_from s k (Message i n r) j a
    from (InStream j) i n r a = (InStream j, a)
    from UnderWay i n r a = (UnderWay, has_filter _ (Message i n r) s.under_way a)

pub tells_step : (c : Carrier) {s : Shop} (e : ShopEvent) → May c s e → Tells s → Tells (after_step s e)
tells_step c (Starts k) m q = starts_tells c k q m
tells_step c {s} (Opens k) m q = opens_tells k s.uncompared q
tells_step c (TakesOver k) m q = opens_tells k _ q
tells_step c (OpensAlone k) m q = opens_tells k _ q
tells_step c {s} (Closes k) m q = quiet_put c (Closes k) k q m (λ i n p e. e) refl
    (inl (same (folder s k) _ refl refl refl refl refl refl refl (λ x h. h))) refl refl refl
tells_step c {s} (GoesOn k) m q = quiet_put c (GoesOn k) k q m (λ i n p e. e) refl
    (inl (same (folder s k) _ refl refl refl refl refl refl refl (λ x h. h))) refl refl refl
tells_step c (KeeperStarts k) m q = q
tells_step c (Fills k) m q = quiet_streams c (Fills k) q m (λ i d p e. e) refl refl refl (λ p a. a) (λ p i d a. inl a)
tells_step c (IsRaised k) m q = quiet_streams c (IsRaised k) q m (λ i d p e. e) refl refl refl (λ p a. a) (λ p i d a. inl a)
tells_step c (IsKilled k) m q = quiet_put c (IsKilled k) k q m (λ i n p e. e) refl (inr (idle _ refl refl refl refl refl)) refl refl refl
tells_step c (MachineStarts k) m q = quiet_put c (MachineStarts k) k q m (λ i n p e. e) refl (inr (idle _ refl refl refl refl refl)) refl refl refl
tells_step c (IsAsked r life d) m q = asked_tells c r life d q m
tells_step c (Serves k r) m q = serves_tells c q m
tells_step c (Gives k r) m q = gives_tells c k r q m
tells_step c (Accepts k r) m q = accepts_tells c k r q m
tells_step c (Refuses k r) m q = refuses_tells c k r q m
tells_step c {s} (TellsOk k r n) m q = quiet_streams c (TellsOk k r n) q m (λ i d p e. e) refl refl refl (λ p a. ⊎_elim (λ e. absurd (cc e)) (λ b. b) a)
    (λ p i d a. ⊎_elim (λ e. inr (InFolder k, subst (λ x. Has x (folder s k).kept) (said p i d e) ((q.lined k).answers r n m.0))) (λ b. inl b) a)
  where
    said : (p i d : ℕ) → Ok p i d ≡ Ok r (folder s k).site n → Message (folder s k).site n r ≡ Message i d p
    said p i d e =
        let a : p ≡ r = cc e in
        let b : i ≡ (folder s k).site = cc e in
        let d' : d ≡ n = cc e in
        cc (a, b, d')
tells_step c {s} (TellsPublished k r n) m q = quiet_streams c (TellsPublished k r n) q m (λ i d p e. e) refl refl refl
    (λ p a. ⊎_elim (λ e. absurd (cc e)) (λ b. b) a)
    (λ p i d a. ⊎_elim (λ e. inr (InFolder k, subst (λ x. Has x (folder s k).kept) (said p i d e) ((q.lined k).answers r n m.1))) (λ b. inl b) a)
  where
    said : (p i d : ℕ) → Ok p i d ≡ Ok r (folder s k).site n → Message (folder s k).site n r ≡ Message i d p
    said p i d e =
        let a : p ≡ r = cc e in
        let b : i ≡ (folder s k).site = cc e in
        let d' : d ≡ n = cc e in
        cc (a, b, d')
tells_step c (TellsNothing k r) m q = withdraws_tells c k r q m
tells_step c (TellsUnknown k r) m q = quiet_streams c (TellsUnknown k r) q m (λ i d p e. e) refl refl refl
    (λ p a. ⊎_elim (λ e. absurd (cc e)) (λ b. b) a) (λ p i d a. ⊎_elim (λ e. absurd (cc e)) (λ b. inl b) a)
tells_step c (Yields i) m q = quiet_streams c (Yields i) q m (λ i d p e. e) refl refl refl (λ p a. a) (λ p i d a. inl a)
tells_step c (TakesBack i) m q = quiet_streams c (TakesBack i) q m (λ i d p e. e) refl refl refl (λ p a. a) (λ p i d a. inl a)
tells_step c {s} (Passes k to) m q = quiet_put c (Passes k to) k q m (no_message s k to) refl
    (inl (same (folder s k) _ refl refl refl refl refl refl refl (λ x h. has_left x (folder s k).kept _ h))) refl refl refl
tells_step c (Appends k x) m q = quiet_streams c (Appends k x) q m (λ i d p e. e) refl refl refl (λ p a. a) (λ p i d a. inl a)
tells_step c (Sends k x) m q = quiet_streams c (Sends k x) q m (λ i d p e. e) refl refl refl (λ p a. a) (λ p i d a. inl a)
tells_step c (Arrives x) m q = quiet_streams c (Arrives x) q m (λ i d p e. e) refl refl refl (λ p a. a) (λ p i d a. inl a)
tells_step c {s} (Reads k x) m q = quiet_put c (Reads k x) k q m (λ i n p e. e) refl
    (inl (same (folder s k) _ refl refl refl refl refl refl refl (λ z h. has_left z (folder s k).kept _ h))) refl refl refl
tells_step c (LosesEnd k n) m q = quiet_put c (LosesEnd k n) k q m (λ i d p e. e) refl (inr (idle _ refl refl refl refl refl)) refl refl refl
tells_step c (IsLost k) m q = quiet_put c (IsLost k) k q m (λ i d p e. e) refl (inr (idle _ refl refl refl refl refl)) refl refl refl
tells_step c (IsCopied k j) m q = quiet_put c (IsCopied k j) j q m (λ i d p e. e) refl (inr (idle _ refl refl refl refl refl)) refl refl refl
tells_step c (StreamLosesEnd i n) m q = quiet_streams c (StreamLosesEnd i n) q m (λ i d p e. e) refl refl refl (λ p a. a) (λ p i d a. inl a)
tells_step c ServerLosesAll m q = quiet_streams c ServerLosesAll q m (λ i d p e. e) refl refl refl (λ p a. a) (λ p i d a. inl a)
tells_step c (Finds k x) m q = quiet_put c (Finds k x) k q m (λ i d p e. e) refl (inr (idle _ refl refl refl refl refl)) refl refl refl
tells_step c (Rebuilds k j) m q = quiet_put c (Rebuilds k j) k q m (λ i d p e. e) refl (inr (idle _ refl refl refl refl refl)) refl refl refl
tells_step c (WritesAnew k) m q = quiet_streams c (WritesAnew k) q m (λ i d p e. e) refl refl refl (λ p a. a) (λ p i d a. inl a)

-- ---- the laws

pub tells_start : Tells shop_start
tells_start = record {
  lives = λ k j runs e. absurd (omega (arith, runs));
  begun = λ k. omega arith;
  named = elim [ zero ↦ λ a. omega arith | suc r ↦ λ a. omega arith ];
  made = λ h i n r a. absurd (nothing h (Message i n r) a);
  once = λ h g r i n j m a b. absurd (nothing h (Message i n r) a);
  no = λ r a. absurd a;
  ok = λ r i n a. absurd a;
  waits = λ k r a. absurd a;
  gives = λ k r a. absurd a;
  lined = λ k. lined_idle (empty k) refl refl refl;
}
  where
    nothing : (h : PacketPlace) (x : ShopPacket) → Has x (there shop_start h) → ⊥
    nothing (InFolder k) x h = h
    nothing (InStream i) x h = h
    nothing UnderWay x h = h

pub tells_after : (c : Carrier) (s : Shop) (events : List ShopEvent) → AreSteps c s events → Tells s → Tells (after_steps s events)
tells_after c s [] m q = q
tells_after c s (e ∷ rest) m q = tells_after c (after_step s e) rest m.1 (tells_step c e m.0 q)

pub tells_run : (c : Carrier) (events : List ShopEvent) → AreSteps c shop_start events → Tells (after_steps shop_start events)
tells_run c events m = tells_after c shop_start events m tells_start

-- what was told is told for ever
told_step : (s : Shop) (e : ShopEvent) (w : Notice) → Has w s.told → Has w (after_step s e).told
told_step s (Refuses k r) w h = inr h
told_step s (TellsOk k r n) w h = inr h
told_step s (TellsPublished k r n) w h = inr h
told_step s (TellsNothing k r) w h = inr h
told_step s (TellsUnknown k r) w h = inr h
told_step s (Starts k) w h = h
told_step s e w h = h

pub told_after : (s : Shop) (events : List ShopEvent) (w : Notice) → Has w s.told → Has w (after_steps s events).told
told_after s [] w h = h
told_after s (e ∷ rest) w h = told_after (after_step s e) rest w (told_step s e w h)

pub told_true : WhatIsToldIsTrue
told_true c before later m r told =
    let still = subst (λ (s : Shop). Has (No r) s.told) (sym (run_append shop_start before later)) (told_after (after_steps shop_start before) later (No r) told) in
    ((tells_run c (before ++ later) m).no r still).1

pub told_one : NobodyIsToldBoth
told_one c events m r i n told = ((tells_run c events m).ok r i n told).1

pub accepted_once : AsksAreAcceptedOnce
accepted_once c events m = (tells_run c events m).once

pub told_ok : ToldOkIsKept
told_ok c before k r n m =
    let s = after_steps shop_start before in
    let last = steps_right c shop_start before (TellsOk k r n ∷ []) m in
    let kept = ((tells_run c before (steps_left c shop_start before (TellsOk k r n ∷ []) m)).lined k).answers r n last.0.0 in
    subst (λ (t : Shop). Has (Ok r (folder t k).site n) t.told × Has (Message (folder t k).site n r) (folder t k).kept)
    (sym (run_append shop_start before (TellsOk k r n ∷ []))) (inl refl, kept)

pub published : PublishedIsInStream
published c before k r n m =
    let last = steps_right c shop_start before (TellsPublished k r n ∷ []) m in
    subst (λ (t : Shop). Has (Ok r (folder t k).site n) t.told × Has (Message (folder t k).site n r) (stream t (folder t k).site))
    (sym (run_append shop_start before (TellsPublished k r n ∷ []))) (inl refl, last.0.2)
