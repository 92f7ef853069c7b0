-- When an ask is over, and what a site has to know before it takes one.
use Rattle.std.proofs.lemmas.List.{length_push}
use Rattle.std.proofs.Common.{◌≡◌, length, ◌∙◌, inl, ⊎_elim, ◌≤◌, ◌<◌, ◌+◌, ◌-◌, ◌++◌, ◌∷◌, [], ℕ, true, List, refl, sym, ap, subst, arith, ◌≢◌, inr}
use Rattle.std.specs.Prelude.{zero, suc}
use Rattle.rubis_model.specs.Site.{Has}
use Rattle.rubis_model.proofs.Settling.{has_last, has_right, push_cases}
use Rattle.rubis_carrier.specs.Laws.{AreGivenOnce, ComparingIsNeeded, AnswersComeInOrder, IsAskOver, IsUnmade, WhatIsOverStays}
use Rattle.rubis_carrier.specs.declared.values.Carrier.{Carrier}
use Rattle.rubis_carrier.specs.declared.values.ShopPacket.TheVariants.{Message}
use Rattle.rubis_carrier.specs.declared.values.ShopRequest.{ShopRequest}
use Rattle.rubis_carrier.specs.Events.{AreSteps, IsFirstEvent, MayServe, accepting, after_step, giving, opened_site, others, after_steps, May, first_event, opening_folder}
use Rattle.rubis_carrier.specs.declared.values.ShopEvent.{ShopEvent}
use Rattle.rubis_carrier.specs.declared.values.ShopEvent.TheVariants.{Accepts, Gives, IsAsked, Opens, Serves, Appends, Arrives, Closes, Fills, Finds, GoesOn}
use Rattle.rubis_carrier.specs.declared.values.ShopEvent.TheVariants.{IsCopied, IsKilled, IsLost, IsRaised, KeeperStarts, LosesEnd, MachineStarts, OpensAlone}
use Rattle.rubis_carrier.specs.declared.values.ShopEvent.TheVariants.{Passes, Reads, Rebuilds, Refuses, Sends, ServerLosesAll, Starts, StreamLosesEnd}
use Rattle.rubis_carrier.specs.declared.values.ShopEvent.TheVariants.{TakesBack, TakesOver, TellsNothing, TellsOk, TellsPublished, TellsUnknown, WritesAnew}
use Rattle.rubis_carrier.specs.declared.values.ShopEvent.TheVariants.{Yields}
use Rattle.rubis_carrier.specs.Shops.{highest, Folder, IsSeen, PacketPlace, Shop, asks, folder, request, request_in, shop_start, there, folder_in, put_folder}
use Rattle.rubis_carrier.specs.Shops.PacketPlace.{InFolder, InStream, UnderWay}
use Rattle.rubis_carrier.proofs.PacketFacts.{highest_next, folder_here, opened_cases, request_new, folder_cases, request_old}
use Rattle.rubis_carrier.proofs.Telling.{tells_run, Tells, tells_step}
use Rattle.rubis_carrier.proofs.Carrying.{run_append, steps_append, whole_after, steps_left, steps_right}
use Rattle.rubis_carrier.proofs.Changes.{AreApart, IsNew, first_in, from_step, has_others, has_without}

-- ---- one ask more

-- folder k of site i is open, and takes an ask after the other; its greatest number is this, and the message n of ask r stands at h
record IsTaking (t : Shop) (k life i high : ℕ) (h : PacketPlace) (n r : ℕ) : Type 0 where
  is_open : (folder t k).is_open ≡ true
  life_is : (folder t k).life ≡ life
  runs : 0 < life
  begun : life ≤ t.begun
  served : (q : ℕ) → Has q (folder t k).served → q ≤ asks t
  lines : (folder t k).lines ≡ []
  given : (folder t k).given ≡ []
  site : (folder t k).site ≡ i
  greatest : highest i (folder t k).kept ≡ high
  stands : Has (Message i n r) (there t h)
  asked : r ≤ asks t
  compared : ¬ (Has i t.uncompared)
  room : ¬ (Has k t.full)

module _ (c : Carrier) (t : Shop) (k life i high : ℕ) (h : PacketPlace) (n r : ℕ) (q : IsTaking t k life i high h n r) where
  ask : ℕ
  ask = asks t + 1

  round : List ShopEvent
  unfolding ask
  round = IsAsked ask life 1 ∷ Serves k ask ∷ Gives k ask ∷ Accepts k ask ∷ []

  of_one : ShopRequest
  of_one = record { life = life; records = 1 }

  is_request : request_in (t.requests ++ of_one ∷ []) ask ≡ of_one
  unfolding ask
  is_request = request_new t.requests of_one (asks t + 1) refl

  one_more : length (t.requests ++ of_one ∷ []) ≡ ask
  unfolding ask
  one_more = length_push t.requests of_one

  -- the folder after each of these steps
  serving : Folder
  unfolding ask
  serving = record (folder t k) { served = ask ∷ (folder t k).served; waiting = ask ∷ (folder t k).waiting }

  served_shop : Shop
  unfolding ask of_one
  served_shop = after_step (after_step t (IsAsked ask life 1)) (Serves k ask)

  is_serving : folder served_shop k ≡ serving
  unfolding ask of_one serving served_shop
  is_serving = folder_here k serving t.folders

  given_shop : Shop
  unfolding ask served_shop
  given_shop = after_step served_shop (Gives k ask)

  is_giving : folder given_shop k ≡ giving serving ask 1
  unfolding ask of_one is_request served_shop given_shop
  is_giving =
      folder_here k (giving (folder served_shop k) ask (request served_shop ask).records) served_shop.folders
      ∙ ap (λ (f : Folder). giving f ask (request served_shop ask).records) is_serving
      ∙ ap (λ (x : ShopRequest). giving serving ask x.records) is_request

  accepted_shop : Shop
  unfolding ask given_shop
  accepted_shop = after_step given_shop (Accepts k ask)

  is_accepting : folder accepted_shop k ≡ accepting (giving serving ask 1) ask
  unfolding ask given_shop accepted_shop
  is_accepting = folder_here k (accepting (folder given_shop k) ask) given_shop.folders ∙ ap (λ (f : Folder). accepting f ask) is_giving

  is_first : IsFirstEvent ask (folder given_shop k).lines
  unfolding ask serving
  is_first = subst (λ (f : Folder). IsFirstEvent ask f.lines) (sym is_giving) ([], ap (λ xs. xs ++ ask ∷ []) q.lines)

  may_serve : MayServe (after_step t (IsAsked ask life 1)) k ask
  unfolding ask of_one is_request
  may_serve = record {
    runs = omega (arith, q.runs, q.life_is);
    asked = omega (arith, one_more);
    life = ap (λ (x : ShopRequest). x.life) is_request ∙ sym q.life_is;
    one = ap (λ (x : ShopRequest). x.records) is_request;
    once = λ has. absurd (omega (arith, q.served ask has));
  }

  round_may : AreSteps c t round
  unfolding ask round serving served_shop given_shop
  round_may = (
    (refl, q.begun),
    (
      may_serve,
      (
        (subst (λ (f : Folder). f.is_open ≡ true) (sym is_serving) q.is_open, subst (λ (f : Folder). Has ask f.waiting) (sym is_serving) (inl refl)),
        ((subst (λ (f : Folder). f.is_open ≡ true) (sym is_giving) q.is_open, is_first, q.room), tt),
      ),
    ),
  )

  -- the folder has the next message, of this ask
  round_has : Has (Message i (high + 1) (asks t + 1)) (folder (after_steps t round) k).kept
  unfolding ask round serving served_shop given_shop accepted_shop
  round_has =
      subst (λ (f : Folder). Has (Message i (high + 1) ask) f.kept) (sym is_accepting)
      (subst (λ j. Has (Message i (high + 1) ask) ((folder t k).kept ++ Message j (highest j (folder t k).kept + 1) ask ∷ [])) (sym q.site)
      (subst (λ m. Has (Message i (high + 1) ask) ((folder t k).kept ++ Message i (m + 1) ask ∷ [])) (sym q.greatest)
      (has_last (Message i (high + 1) ask) (folder t k).kept)))

  -- and goes on taking asks
  round_takes : IsTaking (after_steps t round) k life i (high + 1) h n r
  unfolding ask round of_one serving served_shop given_shop accepted_shop
  round_takes =
      let next : highest i ((folder t k).kept ++ Message i (highest i (folder t k).kept + 1) ask ∷ []) ≡ high + 1 =
      highest_next i (highest i (folder t k).kept + 1) ask (folder t k).kept (omega arith) ∙ ap (λ m. m + 1) q.greatest in
      let kept : highest i (accepting (giving serving ask 1) ask).kept ≡ high + 1 =
      subst (λ j. highest i ((folder t k).kept ++ Message j (highest j (folder t k).kept + 1) ask ∷ []) ≡ high + 1) (sym q.site) next in
      record {
        is_open = subst (λ (f : Folder). f.is_open ≡ true) (sym is_accepting) q.is_open;
        life_is = subst (λ (f : Folder). f.life ≡ life) (sym is_accepting) q.life_is;
        runs = q.runs;
        begun = q.begun;
        served = λ p has. ⊎_elim (λ e. omega (arith, e, one_more)) (λ old. omega (arith, q.served p old, one_more))
            (subst (λ (f : Folder). Has p f.served) is_accepting has);
        lines = subst (λ (f : Folder). f.lines ≡ []) (sym is_accepting) (none q.lines);
        given = subst (λ (f : Folder). f.given ≡ []) (sym is_accepting) (none q.given);
        site = subst (λ (f : Folder). f.site ≡ i) (sym is_accepting) q.site;
        greatest = subst (λ (f : Folder). highest i f.kept ≡ high + 1) (sym is_accepting) kept;
        stands = whole_after c t round h round_may ((λ z. z), ((λ z. z), ((λ z. z), ((λ z. z), tt)))) (Message i n r) q.stands;
        asked = omega (arith, q.asked, one_more);
        compared = q.compared;
        room = q.room;
      }
    where
      none : {xs : List ℕ} → xs ≡ [] → others (xs ++ (asks t + 1) ∷ []) ≡ []
      none e = ap (λ xs. others (xs ++ (asks t + 1) ∷ [])) e

-- ---- as many asks as it takes

abbrev ComesToTwo : Carrier → Shop → Type 0
ComesToTwo c t = (more : List ShopEvent) × AreSteps c t more × ¬ (AreGivenOnce (after_steps t more))

comes_to_two : (c : Carrier) {k life i : ℕ} {h : PacketPlace} {n r : ℕ} (d : ℕ) {t : Shop} {high : ℕ} → n ≡ high + suc d → IsTaking t k life i high h n r
    → ComesToTwo c t
comes_to_two c {k} {life} {i} {h} {n} {r} zero {t} {high} e q =
    (round c t k life i high h n r q, round_may c t k life i high h n r q, both)
  where
    both : AreGivenOnce (after_steps t (round c t k life i high h n r q)) → ⊥
    both once =
        let number : high + 1 ≡ n = omega (arith, e) in
        let mine = subst (λ m. Has (Message i m (asks t + 1)) (folder (after_steps t (round c t k life i high h n r q)) k).kept) number
        (round_has c t k life i high h n r q) in
        let stands = (round_takes c t k life i high h n r q).stands in
        let same : Message i n r ≡ Message i n (asks t + 1) = once h (InFolder k) (Message i n r) (Message i n (asks t + 1)) stands mine refl
        (round_takes c t k life i high h n r q).compared in
        let ask : r ≡ asks t + 1 = cc same in
        omega (arith, ask, q.asked)
comes_to_two c {k} {life} {i} {h} {n} {r} (suc d) {t} {high} e q =
    let more = comes_to_two c d (omega (arith, e)) (round_takes c t k life i high h n r q) in (
      round c t k life i high h n r q ++ more.0,
      steps_append c t (round c t k life i high h n r q) more.0 (round_may c t k life i high h n r q) more.1,
      λ once. more.2 (subst AreGivenOnce (run_append t (round c t k life i high h n r q) more.0) once),
    )

-- ---- a folder that opens all the same

pub comparing_needed : ComparingIsNeeded
comparing_needed c events m k f room h n r seen stands ahead compared =
    let s = after_steps shop_start events in
    let told = tells_run c events m in
    let t = after_step s (Opens k) in
    let i = (folder s k).site in
    let here : folder t k ≡ opened_site (folder s k) =
    opened_cases (λ j g. j ≡ k → g ≡ opened_site (folder s k)) s k (λ e. refl) (λ j d e. absurd (d e)) k refl in
    let kept : (j : ℕ) → (folder t j).kept ≡ (folder s j).kept = opened_cases (λ j g. g.kept ≡ (folder s j).kept) s k refl (λ j d. refl) in
    let there_too : (g : PacketPlace) → IsSeen g → Has (Message i n r) (there s g) → Has (Message i n r) (there t g) =
    elim [ InFolder j ↦ λ u a. subst (Has (Message i n r)) (sym (kept j)) a | InStream j ↦ λ u a. a | UnderWay ↦ λ u. absurd u ] in
    let taking : IsTaking t k (folder s k).life i (highest i (folder s k).kept) h n r = record {
      is_open = subst (λ (g : Folder). g.is_open ≡ true) (sym here) refl;
      life_is = subst (λ (g : Folder). g.life ≡ (folder s k).life) (sym here) refl;
      runs = f.runs;
      begun = told.begun k;
      served = λ q has. absurd (subst (Has q) f.served (subst (λ (g : Folder). Has q g.served) here has));
      lines = subst (λ (g : Folder). g.lines ≡ []) (sym here) f.lines;
      given = subst (λ (g : Folder). g.given ≡ []) (sym here) f.given;
      site = subst (λ (g : Folder). g.site ≡ i) (sym here) refl;
      greatest = ap (highest i) (kept k);
      stands = there_too h seen stands;
      asked = (told.made h i n r stands).asked;
      compared = compared;
      room = room;
    } in
    comes_to_two c (n - suc (highest i (folder s k).kept)) (omega (arith, ahead)) taking

-- ---- an ask that is over has a message by then, or never

-- a folder in the place of another: if it runs, it has the same life, and served as much; and this ask isn't there
record IsWithout (r : ℕ) (f g : Folder) : Type 0 where
  life : 0 < g.life → g.life ≡ f.life
  served : 0 < g.life → Has r f.served → Has r g.served
  waits : ¬ (Has r g.waiting)
  given : ¬ (Has r g.given)

module _ (s : Shop) (r : ℕ) (o : IsAskOver s r) where
  as_it_was : (k : ℕ) → IsWithout r (folder s k) (folder s k)
  as_it_was k = record { life = λ l. refl; served = λ l h. h; waits = o.waits_nowhere k; given = o.given_nowhere k }

  -- what is in memory is the same
  with_memory : (k : ℕ) (g : Folder) → g.life ≡ (folder s k).life → g.served ≡ (folder s k).served → g.waiting ≡ (folder s k).waiting
      → g.given ≡ (folder s k).given → IsWithout r (folder s k) g
  with_memory k g a b c d = record {
    life = λ l. a;
    served = λ l h. subst (Has r) (sym b) h;
    waits = λ h. o.waits_nowhere k (subst (Has r) c h);
    given = λ h. o.given_nowhere k (subst (Has r) d h);
  }

  over_less : (t : Shop) → ((k : ℕ) → IsWithout r (folder s k) (folder t k)) → t.requests ≡ s.requests → IsAskOver t r
  over_less t l e = record {
    asked = subst (λ rs. r ≤ length rs) (sym e) o.asked;
    served = λ k runs n.
        (l k).served runs
        (o.served k (omega (arith, runs, (l k).life runs)) (subst (λ rs. (request_in rs r).life ≡ (folder t k).life) e n ∙ (l k).life runs));
    waits_nowhere = λ k. (l k).waits;
    given_nowhere = λ k. (l k).given;
  }

  over_put : (t : Shop) (k : ℕ) (g : Folder) → t.folders ≡ put_folder k g s.folders → IsWithout r (folder s k) g → t.requests ≡ s.requests → IsAskOver t r
  over_put t k g e l =
      over_less t (λ j. subst (λ fs. IsWithout r (folder s j) (folder_in fs j)) (sym e)
      (folder_cases (λ i h. IsWithout r (folder s i) h) k g s.folders l (λ i n. as_it_was i) j))

  over_opened : (k : ℕ) (uncompared : List ℕ) → IsAskOver (record (opening_folder k s) { uncompared = uncompared }) r
  over_opened k uncompared = over_less _
      (opened_cases (λ j g. IsWithout r (folder s j) g) s k (with_memory k _ refl refl refl refl) (λ j n. with_memory j _ refl refl refl refl)) refl

  -- nothing runs it
  over_stopped : (t : Shop) (k : ℕ) (g : Folder) → t.folders ≡ put_folder k g s.folders → g.life ≡ 0 → g.waiting ≡ [] → g.given ≡ []
      → t.requests ≡ s.requests → IsAskOver t r
  over_stopped t k g e l w d = over_put t k g e (record {
    life = λ runs. absurd (omega (arith, runs, l));
    served = λ runs. absurd (omega (arith, runs, l));
    waits = λ h. subst (Has r) w h;
    given = λ h. subst (Has r) d h;
  })

over_step : (c : Carrier) {s : Shop} (e : ShopEvent) {r : ℕ} → May c s e → Tells s → IsAskOver s r → IsAskOver (after_step s e) r
over_step c {s} (Starts k) {r} m q o = record {
  asked = o.asked;
  served = folder_cases (λ j g. 0 < g.life → (request s r).life ≡ g.life → Has r g.served) k _ s.folders
      (λ runs e. absurd (omega (arith, e, q.named r o.asked))) (λ j n runs e. o.served j runs e);
  waits_nowhere = folder_cases (λ j g. ¬ (Has r g.waiting)) k _ s.folders (λ h. h) (λ j n. o.waits_nowhere j);
  given_nowhere = folder_cases (λ j g. ¬ (Has r g.given)) k _ s.folders (λ h. h) (λ j n. o.given_nowhere j);
}
over_step c {s} (Opens k) {r} m q o = over_opened s r o k s.uncompared
over_step c {s} (TakesOver k) {r} m q o = over_opened s r o k _
over_step c {s} (OpensAlone k) {r} m q o = over_opened s r o k _
over_step c {s} (Closes k) {r} m q o = over_put s r o _ k _ refl (with_memory s r o k _ refl refl refl refl) refl
over_step c {s} (GoesOn k) {r} m q o = over_put s r o _ k _ refl (with_memory s r o k _ refl refl refl refl) refl
over_step c (KeeperStarts k) m q o = o
over_step c {s} (Fills k) {r} m q o = over_less s r o _ (as_it_was s r o) refl
over_step c {s} (IsRaised k) {r} m q o = over_less s r o _ (as_it_was s r o) refl
over_step c {s} (IsKilled k) {r} m q o = over_stopped s r o _ k _ refl refl refl refl refl
over_step c {s} (MachineStarts k) {r} m q o = over_stopped s r o _ k _ refl refl refl refl refl
over_step c {s} (IsAsked p life d) {r} m q o = record {
  asked = omega (arith, o.asked, length_push s.requests (record { life = life; records = d }));
  served = λ k runs e. o.served k runs (ap (λ (x : ShopRequest). x.life) (sym (request_old s.requests (record { life = life; records = d }) r o.asked)) ∙ e);
  waits_nowhere = o.waits_nowhere;
  given_nowhere = o.given_nowhere;
}
over_step c {s} (Serves k p) {r} m q o = over_put s r o _ k _ refl (record {
  life = λ l. refl;
  served = λ l h. inr h;
  waits = λ h. ⊎_elim (λ e. m.once (subst (λ n. Has n (folder s k).served) e (o.served k m.runs (ap (λ n. (request s n).life) e ∙ m.life))))
      (o.waits_nowhere k) h;
  given = o.given_nowhere k;
}) refl
over_step c {s} (Gives k p) {r} m q o = over_put s r o _ k _ refl (record {
  life = λ l. refl;
  served = λ l h. h;
  waits = λ h. o.waits_nowhere k (has_without p r (folder s k).waiting h).0;
  given = λ h. ⊎_elim (o.given_nowhere k) (λ e. o.waits_nowhere k (subst (λ n. Has n (folder s k).waiting) (sym e) m.1)) (push_cases r p (folder s k).given h);
}) refl
over_step c {s} (Accepts k p) {r} m q o = over_put s r o _ k _ refl (record {
  life = λ l. refl;
  served = λ l h. h;
  waits = o.waits_nowhere k;
  given = λ h. o.given_nowhere k (has_others r (folder s k).given (q.lined k).apart h).0;
}) refl
over_step c {s} (Refuses k p) {r} m q o = over_put s r o _ k _ refl (record {
  life = λ l. refl;
  served = λ l h. h;
  waits = o.waits_nowhere k;
  given = λ h. o.given_nowhere k (has_others r (folder s k).given (q.lined k).apart h).0;
}) refl
over_step c {s} (TellsOk k p n) {r} m q o = over_less s r o _ (as_it_was s r o) refl
over_step c {s} (TellsPublished k p n) {r} m q o = over_less s r o _ (as_it_was s r o) refl
over_step c {s} (TellsNothing k p) {r} m q o = over_put s r o _ k _ refl (record {
  life = λ l. refl;
  served = λ l h. h;
  waits = λ h. o.waits_nowhere k (has_without p r (folder s k).waiting h).0;
  given = o.given_nowhere k;
}) refl
over_step c {s} (TellsUnknown k p) {r} m q o = over_less s r o _ (as_it_was s r o) refl
over_step c {s} (Yields i) {r} m q o = over_less s r o _ (as_it_was s r o) refl
over_step c {s} (TakesBack i) {r} m q o = over_less s r o _ (as_it_was s r o) refl
over_step c {s} (Passes k to) {r} m q o = over_put s r o _ k _ refl (with_memory s r o k _ refl refl refl refl) refl
over_step c {s} (Appends k x) {r} m q o = over_less s r o _ (as_it_was s r o) refl
over_step c {s} (Sends k x) {r} m q o = over_less s r o _ (as_it_was s r o) refl
over_step c {s} (Arrives x) {r} m q o = over_less s r o _ (as_it_was s r o) refl
over_step c {s} (Reads k x) {r} m q o = over_put s r o _ k _ refl (with_memory s r o k _ refl refl refl refl) refl
over_step c {s} (LosesEnd k n) {r} m q o = over_stopped s r o _ k _ refl refl refl refl refl
over_step c {s} (IsLost k) {r} m q o = over_stopped s r o _ k _ refl refl refl refl refl
over_step c {s} (IsCopied k j) {r} m q o = over_stopped s r o _ j _ refl refl refl refl refl
over_step c {s} (StreamLosesEnd i n) {r} m q o = over_less s r o _ (as_it_was s r o) refl
over_step c {s} ServerLosesAll {r} m q o = over_less s r o _ (as_it_was s r o) refl
over_step c {s} (Finds k x) {r} m q o = over_stopped s r o _ k _ refl refl refl refl refl
over_step c {s} (Rebuilds k j) {r} m q o = over_stopped s r o _ k _ refl refl refl refl refl
over_step c {s} (WritesAnew k) {r} m q o = over_less s r o _ (as_it_was s r o) refl

-- an event makes no message of it
not_made : (c : Carrier) {s : Shop} (e : ShopEvent) {r : ℕ} (i n : ℕ) → May c s e → Tells s → IsAskOver s r → IsNew s e (Message i n r) → ⊥
not_made c {s} (Accepts k p) {r} i n m q o new =
    let it = first_in (folder s k).given (m.1.0, sym (q.lined k).lines ∙ m.1.1) in
    let same : r ≡ p = cc new in
    o.given_nowhere k (subst (λ a. Has a (folder s k).given) (sym same) it.1)
not_made c (Passes k to) i n m q o new = cc new
not_made c (Starts k) i n m q o new = new
not_made c e i n m q o new = new

unmade_step : (c : Carrier) {s : Shop} (e : ShopEvent) {r : ℕ} → May c s e → Tells s → IsAskOver s r → IsUnmade s r → IsUnmade (after_step s e) r
unmade_step c {s} e {r} m q o u h i n a = ⊎_elim (λ old. u old.0 i n old.1) (not_made c e i n m q o) (from_step c s e h (Message i n r) m a)

unmade_after : (c : Carrier) (s : Shop) (later : List ShopEvent) {r : ℕ} → AreSteps c s later → Tells s → IsAskOver s r → IsUnmade s r → IsUnmade (after_steps s later) r
unmade_after c s [] m q o u = u
unmade_after c s (e ∷ rest) m q o u = unmade_after c (after_step s e) rest m.1 (tells_step c e m.0 q) (over_step c e m.0 q o) (unmade_step c e m.0 q o u)

pub over_stays : WhatIsOverStays
over_stays c before later m r o u = subst (λ s. IsUnmade s r) (sym (run_append shop_start before later))
    (unmade_after c (after_steps shop_start before) later (steps_right c shop_start before later m) (tells_run c before (steps_left c shop_start before later m)) o u)

-- ---- in the order in which they were given

-- of two in a list the later one isn't the first, where each is there once
not_first : (r q : ℕ) (a b d : List ℕ) → (given : List ℕ) → given ≡ a ++ r ∷ (b ++ q ∷ d) → AreApart given → first_event given ≢ q
not_first r q a b d given e apart same = go a (subst AreApart e apart) (ap first_event (sym e) ∙ same)
  where
    go : (a : List ℕ) → AreApart (a ++ r ∷ (b ++ q ∷ d)) → first_event (a ++ r ∷ (b ++ q ∷ d)) ≡ q → ⊥
    go [] p f = p.0 (subst (λ n. Has n (b ++ q ∷ d)) (sym f) (has_right q b (q ∷ d) (inl refl)))
    go (x ∷ a) p f = p.0 (subst (λ n. Has n (a ++ r ∷ (b ++ q ∷ d))) (sym f) (has_right q a (r ∷ (b ++ q ∷ d)) (inr (has_right q b (q ∷ d) (inl refl)))))

pub in_order : AnswersComeInOrder
in_order c events m k r q a b d e =
    let l = (tells_run c events m).lined k in
    let s = after_steps shop_start events in
    let no : IsFirstEvent q (folder s k).lines → ⊥ =
    λ f. not_first r q a b d (folder s k).given e l.apart (first_in (folder s k).given (f.0, sym l.lines ∙ f.1)).0 in
    ((λ x. no x.1), no)
