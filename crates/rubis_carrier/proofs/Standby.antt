-- What stands in a stream under a number is one message, whoever appended it; and what is told of a site that yields.
use Rattle.std.proofs.Common.{◌≡◌, ◌∙◌, ◌≢◌, ◌⊎◌, inl, inr, ⊎_elim, ◌++◌, ◌∷◌, [], ℕ, ◌+◌, List, refl, sym, ap, subst, arith}
use Rattle.std.specs.Prelude.{take}
use Rattle.rubis_model.specs.Site.{Has}
use Rattle.rubis_model.proofs.Settling.{push_cases}
use Rattle.rubis_carrier.specs.declared.values.Carrier.{Carrier}
use Rattle.rubis_carrier.specs.declared.values.ShopPacket.{ShopPacket}
use Rattle.rubis_carrier.specs.declared.values.ShopPacket.TheVariants.{Message, Pass}
use Rattle.rubis_carrier.specs.declared.values.Notice.TheVariants.{Ok}
use Rattle.rubis_carrier.specs.Events.{AreSteps, IsAtItsPlace, IsUnharmed, May, after_step, after_steps}
use Rattle.rubis_carrier.specs.declared.values.ShopEvent.{ShopEvent}
use Rattle.rubis_carrier.specs.declared.values.ShopEvent.TheVariants.{Appends, Arrives, GoesOn, OpensAlone, Refuses, ServerLosesAll, Starts, StreamLosesEnd}
use Rattle.rubis_carrier.specs.declared.values.ShopEvent.TheVariants.{TakesBack, TakesOver, TellsNothing, TellsOk, TellsPublished, TellsUnknown, WritesAnew}
use Rattle.rubis_carrier.specs.declared.values.ShopEvent.TheVariants.{Yields}
use Rattle.rubis_carrier.specs.Shops.{highest, sender, Shop, folder, shop_start, stream}
use Rattle.rubis_carrier.specs.Shops.PacketPlace.{InStream}
use Rattle.rubis_carrier.specs.Laws.{IdsAreToldOnce, StaysYielding, ToldStaysInStream, WhatYieldsIsPublished}
use Rattle.rubis_carrier.proofs.Changes.{has_or, without_other}
use Rattle.rubis_carrier.proofs.PacketFacts.{number_within, has_take, stream_cases}
use Rattle.rubis_carrier.proofs.Sound.{Sound, WasCompared, sound_run, sound_step}
use Rattle.rubis_carrier.proofs.Carrying.{run_append, steps_left, steps_right, whole_after}

-- ---- one message under a number

abbrev IsPlaced : ℕ → List ShopPacket → Type 0
IsPlaced i xs = (n r q : ℕ) → Has (Message i n r) xs → Has (Message i n q) xs → r ≡ q

abbrev ArePlaced : Shop → Type 0
ArePlaced s = (i : ℕ) → IsPlaced i (stream s i)

-- where each folder of the site was compared, since ids are given once
placed_compared : {s : Shop} → Sound s → (i : ℕ) → WasCompared s i → IsPlaced i (stream s i)
placed_compared q i c n r p a b =
    let same : Message i n r ≡ Message i n p = q.once (InStream i) (InStream i) (Message i n r) (Message i n p) a b refl c in
    cc same

placed_append : (s : Shop) {i : ℕ} → IsPlaced i (stream s i) → (x : ShopPacket) → IsAtItsPlace s x → sender x ≡ i → IsPlaced i (stream s i ++ x ∷ [])
placed_append s {i} q (Message j m p) place e n r d a b =
    ⊎_elim (λ old. ⊎_elim (λ other. q n r d old other)
    (λ (new : Message i n d ≡ Message j m p). absurd (late r old (cc new))) (push_cases (Message i n d) (Message j m p) (stream s i) b))
    (λ (new : Message i n r ≡ Message j m p). ⊎_elim (λ other. absurd (late d other (cc new)))
    (λ (too : Message i n d ≡ Message j m p). both (cc new) (cc too)) (push_cases (Message i n d) (Message j m p) (stream s i) b))
    (push_cases (Message i n r) (Message j m p) (stream s i) a)
  where
    late : (r : ℕ) → Has (Message i n r) (stream s i) → n ≡ m → ⊥
    late r h f =
        let within = number_within i n r (stream s i) h in
        let next : m ≡ highest i (stream s i) + 1 = subst (λ k. m ≡ highest k (stream s k) + 1) e place in
        omega (arith, within, f, next)

    both : r ≡ p → d ≡ p → r ≡ d
    both f g = f ∙ sym g
placed_append s {i} q (Pass j t k a) place e n r d x y =
    ⊎_elim (λ old. ⊎_elim (λ other. q n r d old other) (λ (new : Message i n d ≡ Pass j t k a). absurd (cc new))
    (push_cases (Message i n d) (Pass j t k a) (stream s i) y))
    (λ (new : Message i n r ≡ Pass j t k a). absurd (cc new)) (push_cases (Message i n r) (Pass j t k a) (stream s i) x)

-- of a site of which a folder was opened uncompared, before the event
placed_step : (c : Carrier) (s : Shop) (e : ShopEvent) → May c s e → ArePlaced s → (i : ℕ) → Has i s.uncompared → IsPlaced i (stream (after_step s e) i)
placed_step c s (Appends k x) m q = stream_cases (λ i xs. Has i s.uncompared → IsPlaced i xs) (sender x) (stream s (sender x) ++ x ∷ []) s.streams
    (λ u. placed_append s (q (sender x)) x (m.3 u) refl) (λ j d u. q j)
placed_step c s (Arrives x) m q = stream_cases (λ i xs. Has i s.uncompared → IsPlaced i xs) (sender x) (stream s (sender x) ++ x ∷ []) s.streams
    (λ u. placed_append s (q (sender x)) x (m.2 u) refl) (λ j d u. q j)
placed_step c s (StreamLosesEnd j n) m q = stream_cases (λ i xs. Has i s.uncompared → IsPlaced i xs) j (take n (stream s j)) s.streams
    (λ u a r d x y. q j a r d (has_take n (Message j a r) (stream s j) x) (has_take n (Message j a d) (stream s j) y)) (λ i d u. q i)
placed_step c s ServerLosesAll m q = λ i u n r d x y. absurd x
placed_step c s (WritesAnew k) m q = stream_cases (λ i xs. Has i s.uncompared → IsPlaced i xs) (folder s k).site _ s.streams
    (λ u. absurd (m.1.compared u)) (λ i d u. q i)
placed_step c s (Starts k) m q = λ i u. q i
placed_step c s e m q = λ i u. q i

-- an event in which a folder of the site is opened uncompared changes no stream
uncompared_new : (c : Carrier) (s : Shop) (e : ShopEvent) (i : ℕ) → May c s e → ArePlaced s → Has i (after_step s e).uncompared
    → Has i s.uncompared ⊎ IsPlaced i (stream (after_step s e) i)
uncompared_new c s (TakesOver k) i m q u = inr (q i)
uncompared_new c s (OpensAlone k) i m q u = inr (q i)
uncompared_new c s (GoesOn k) i m q u = inr (q i)
uncompared_new c s (Starts k) i m q u = inl u
uncompared_new c s e i m q u = inl u

pub placed_after : (c : Carrier) (s : Shop) (events : List ShopEvent) → AreSteps c s events → Sound s → ArePlaced s → ArePlaced (after_steps s events)
placed_after c s [] m q p = p
placed_after c s (e ∷ rest) m q p =
    let sound = sound_step c e m.0 q in
    placed_after c (after_step s e) rest m.1 sound (λ i. ⊎_elim (λ u. ⊎_elim (placed_step c s e m.0 p i) (λ placed. placed) (uncompared_new c s e i m.0 p u))
    (placed_compared sound i) (has_or i (after_step s e).uncompared))

placed_run : (c : Carrier) (events : List ShopEvent) → AreSteps c shop_start events → ArePlaced (after_steps shop_start events)
placed_run c events m = placed_after c shop_start events m (sound_run c [] tt) (λ i a b e x y. absurd x)

-- ---- the laws

pub told_stays : ToldStaysInStream
told_stays c before later k r n m whole =
    let s = after_steps shop_start before in
    let i = (folder s k).site in
    let steps = steps_right c shop_start before (TellsPublished k r n ∷ later) m in
    subst (λ (t : Shop). Has (Message i n r) (stream t i)) (sym (run_append shop_start before (TellsPublished k r n ∷ later)))
    (whole_after c (after_step s (TellsPublished k r n)) later (InStream i) steps.1 whole (Message i n r) steps.0.2)

pub told_once : IdsAreToldOnce
told_once c before between k j r q n m site whole =
    let s = after_steps shop_start before in
    let i = (folder s k).site in
    let last = TellsPublished j q n ∷ [] in
    let all = TellsPublished k r n ∷ (between ++ last) in
    let steps = steps_right c shop_start before all m in
    let first = after_step s (TellsPublished k r n) in
    let t = after_steps first between in
    let mine = whole_after c first between (InStream i) (steps_left c first between last steps.1) whole (Message i n r) steps.0.2 in
    let told = steps_right c first between last steps.1 in
    let here : (folder t j).site ≡ i =
    ap (λ (z : Shop). (folder z j).site) (sym (run_append shop_start before (TellsPublished k r n ∷ between))) ∙ site in
    let theirs : Has (Message i n q) (stream t i) = subst (λ d. Has (Message d n q) (stream t d)) here told.0.2 in
    let until : AreSteps c s (TellsPublished k r n ∷ between) = (steps.0, steps_left c first between last steps.1) in
    let sofar = steps_left c shop_start before all m in
    placed_after c s (TellsPublished k r n ∷ between) until (sound_run c before sofar) (placed_run c before sofar) i n r q mine theirs

-- while the site yields, ok is told of it only where the message stands in the stream
told_new : (c : Carrier) (s : Shop) (e : ShopEvent) (i r n : ℕ) → May c s e → Has i s.yielding → Has (Ok r i n) (after_step s e).told
    → Has (Ok r i n) s.told ⊎ Has (Message i n r) (stream (after_step s e) i)
told_new c s (Refuses k q) i r n m y h = ⊎_elim (λ e. absurd (cc e)) (λ old. inl old) h
told_new c s (TellsNothing k q) i r n m y h = ⊎_elim (λ e. absurd (cc e)) (λ old. inl old) h
told_new c s (TellsUnknown k q) i r n m y h = ⊎_elim (λ e. absurd (cc e)) (λ old. inl old) h
told_new c s (TellsOk k q d) i r n m y h =
    ⊎_elim (λ (e : Ok r i n ≡ Ok q (folder s k).site d). absurd (m.1 (subst (λ j. Has j s.yielding) (cc e) y))) (λ old. inl old) h
told_new c s (TellsPublished k q d) i r n m y h = ⊎_elim (λ (e : Ok r i n ≡ Ok q (folder s k).site d). inr (published (cc e) (cc e) (cc e))) (λ old. inl old) h
  where
    published : r ≡ q → i ≡ (folder s k).site → n ≡ d → Has (Message i n r) (stream s i)
    published a b e = subst (λ j. Has (Message j n r) (stream s j)) (sym b) (subst (λ j. Has (Message (folder s k).site j r) (stream s (folder s k).site))
        (sym e) (subst (λ j. Has (Message (folder s k).site d j) (stream s (folder s k).site)) (sym a) m.2))
told_new c s (Starts k) i r n m y h = inl h
told_new c s e i r n m y h = inl h

yields_still : (s : Shop) (e : ShopEvent) (i : ℕ) → e ≢ TakesBack i → Has i s.yielding → Has i (after_step s e).yielding
yields_still s (Yields j) i n y = inr y
yields_still s (TakesBack j) i n y = without_other j i s.yielding (λ e. n (ap TakesBack (sym e))) y
yields_still s (Starts k) i n y = y
yields_still s e i n y = y

told_since : (c : Carrier) (s : Shop) (later : List ShopEvent) (i : ℕ) → AreSteps c s later → Has i s.yielding → StaysYielding i later → IsUnharmed (InStream i) later
    → (r n : ℕ) → Has (Ok r i n) (after_steps s later).told → Has (Ok r i n) s.told ⊎ Has (Message i n r) (stream (after_steps s later) i)
told_since c s [] i m y stays w r n h = inl h
told_since c s (e ∷ rest) i m y stays w r n h = ⊎_elim
    (λ told. ⊎_elim (λ old. inl old) (λ there. inr (whole_after c (after_step s e) rest (InStream i) m.1 w.1 (Message i n r) there))
    (told_new c s e i r n m.0 y told)) (λ there. inr there) (told_since c (after_step s e) rest i m.1 (yields_still s e i stays.0 y) stays.1 w.1 r n h)

pub yields_published : WhatYieldsIsPublished
yields_published c before later i m stays w r n h =
    let s = after_steps shop_start before in
    let t = after_step s (Yields i) in
    let steps = steps_right c shop_start before (Yields i ∷ later) m in
    let same = run_append shop_start before (Yields i ∷ later) in
    subst (λ (u : Shop). Has (Ok r i n) s.told ⊎ Has (Message i n r) (stream u i)) (sym same)
    (told_since c t later i steps.1 (inl refl) stays w r n (subst (λ (u : Shop). Has (Ok r i n) u.told) same h))
