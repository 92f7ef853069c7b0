-- The test that says when an event may happen.
use Rattle.std.proofs.Common.{◌≡◌, ◌∙◌, ◌⊎◌, inl, inr, ⊎_elim, ◌≤◌, ◌<◌, ◌+◌, ◌∷◌, [], ℕ, Bool, true, false, cond, List, refl, sym, ap, subst, arith, get_or}
use Rattle.std.specs.Prelude.{◌==◌, ◌&&◌, ◌||◌, not, nat_le, zero, suc, Decides}
use Rattle.std.specs.List.{list_all, list_any}
use Rattle.std.proofs.lemmas.Bool.{and_from, and_parts, eq-eqb, eqb-true, false≢true, leb-true, le-leb, or_cases, or_left, or_right}
use Rattle.std.proofs.lemmas.Bool.Decides.{Decides-and, Decides-eqb, Decides-like, Decides-ltb, Decides-not, Decides-or, not_from_Decides}
use Rattle.rubis_model.specs.Site.{Has}
use Rattle.rubis_carrier.specs.declared.values.Answer.{Answer}
use Rattle.rubis_carrier.specs.declared.values.Carrier.{Carrier}
use Rattle.rubis_carrier.specs.declared.values.Carrier.TheVariants.{Files, Server}
use Rattle.rubis_carrier.specs.declared.values.ShopPacket.{ShopPacket}
use Rattle.rubis_carrier.specs.declared.values.ShopPacket.TheVariants.{Message, Pass}
use Rattle.rubis_carrier.specs.Events.{AreSteps, FolderHasRoom, IsFirstEvent, IsOffered, May, MayRebuild, MayServe, MayStandNext, MayWriteAnew, after_step, MayIsComputed}
use Rattle.rubis_carrier.specs.Events.{are_reached, are_steps, has_answer, has_number, has_packet, has_room, holds_token, is_alone, is_compared, is_first, is_offered}
use Rattle.rubis_carrier.specs.Events.{is_placed, is_reached, is_server, is_somewhere, may, may_open, may_rebuild, may_send, may_serve, may_write_anew, runs}
use Rattle.rubis_carrier.specs.declared.values.ShopEvent.{ShopEvent}
use Rattle.rubis_carrier.specs.declared.values.ShopEvent.TheVariants.{Accepts, Appends, Arrives, Finds, Gives, GoesOn, IsAsked, IsRaised, Opens, OpensAlone}
use Rattle.rubis_carrier.specs.declared.values.ShopEvent.TheVariants.{Passes, Reads, Rebuilds, Refuses, Sends, Serves, Starts, TakesOver, TellsNothing, TellsOk}
use Rattle.rubis_carrier.specs.declared.values.ShopEvent.TheVariants.{TellsPublished, WritesAnew}
use Rattle.rubis_carrier.specs.Shops.{HoldsToken, IsReached, highest, last_turn, own, passed_turn, same_packet, sender, taken_turn, Folder, IsAlone, IsCompared, MayOpen}
use Rattle.rubis_carrier.specs.Shops.{PacketPlace, Shop, asks, empty, folder, request, stream, there}
use Rattle.rubis_carrier.specs.Shops.PacketPlace.{InFolder, InStream, UnderWay}
use Rattle.rubis_carrier.proofs.PacketFacts.{filter_has, has_filter}
use Rattle.rubis_carrier.proofs.Sound.{IsSomewhere}

-- ---- all of a list, and some of it

leb_decides : (a b : ℕ) → Decides (nat_le a b) (a ≤ b)
leb_decides a b = (leb-true a b, le-leb a b)

-- what is tested, or isn't asked for
unless : {P Q : Type 0} (b d : Bool) → Decides b P → Decides d Q → Decides (not b || d) (P → Q)
unless true d p q = (λ t h. q.0 t, λ f. q.1 (f (p.0 refl)))
unless false d p q = (λ t h. absurd (false≢true (p.1 h)), λ f. refl)

module _ {A : Type 0} (q : A → Bool) (R : A → Type 0) (each : (x : A) → Decides (q x) (R x)) where
  -- by what is in the list
  all_decides : (xs : List A) → Decides (list_all q xs) ((x : A) → Has x xs → R x)
  all_decides [] = (λ t y h. absurd h, λ r. refl)
  all_decides (x ∷ xs) =
      let rest = all_decides xs in (
        λ t y h. ⊎_elim (λ e. subst R (sym e) ((each x).0 (and_parts (q x) (list_all q xs) t).0))
            (λ later. rest.0 (and_parts (q x) (list_all q xs) t).1 y later) h,
        λ r. and_from (q x) (list_all q xs) ((each x).1 (r x (inl refl))) (rest.1 (λ y h. r y (inr h))),
      )

  -- by number, where it holds of what stands for nothing, or doesn't
  each_decides : (xs : List A) (e : ℕ → A) → ((k : ℕ) → R (e k)) → Decides (list_all q xs) ((k : ℕ) → R (get_or xs k (e k)))
  each_decides [] e none = (λ t k. none k, λ r. refl)
  each_decides (x ∷ xs) e none =
      let rest = each_decides xs (λ k. e (suc k)) (λ k. none (suc k)) in (
        λ t. elim [
          | zero ↦ (each x).0 (and_parts (q x) (list_all q xs) t).0
          | suc k ↦ rest.0 (and_parts (q x) (list_all q xs) t).1 k
        ],
        λ r. and_from (q x) (list_all q xs) ((each x).1 (r zero)) (rest.1 (λ k. r (suc k))),
      )

  some_decides : (xs : List A) (e : ℕ → A) → ((k : ℕ) → ¬ (R (e k))) → Decides (list_any q xs) ((k : ℕ) × R (get_or xs k (e k)))
  some_decides [] e none = (λ t. absurd (false≢true t), λ r. absurd (none r.0 r.1))
  some_decides (x ∷ xs) e none =
      let rest = some_decides xs (λ k. e (suc k)) (λ k. none (suc k)) in (
        λ t. ⊎_elim (λ here. (zero, (each x).0 here)) (λ later. let it = rest.0 later in (suc it.0, it.1)) (or_cases (q x) (list_any q xs) t),
        λ r. at r.0 r.1 rest.1,
      )
    where
      at : (k : ℕ) → R (get_or (x ∷ xs) k (e k)) → ((j : ℕ) × R (get_or xs j (e (suc j))) → list_any q xs ≡ true) → list_any q (x ∷ xs) ≡ true
      at zero r rest = or_left (q x) (list_any q xs) ((each x).1 r)
      at (suc k) r rest = or_right (q x) (list_any q xs) (rest (k, r))

in_decides : {A : Type 0} (q : A → Bool) (y : A) → ((x : A) → Decides (q x) (y ≡ x)) → (xs : List A) → Decides (list_any q xs) (Has y xs)
in_decides q y each [] = (λ t. absurd (false≢true t), λ h. absurd h)
in_decides q y each (x ∷ xs) = Decides-or (q x) (list_any q xs) (each x) (in_decides q y each xs)

-- ---- asks and answers

pub number_decides : (r : ℕ) (numbers : List ℕ) → Decides (has_number r numbers) (Has r numbers)
number_decides r numbers = in_decides (λ q. q == r) r (λ q. Decides-like _ (λ e. sym e) (λ e. sym e) (Decides-eqb q r)) numbers

first_decides : (r : ℕ) (numbers : List ℕ) → Decides (is_first r numbers) (IsFirstEvent r numbers)
first_decides r [] = (λ t. absurd (false≢true t), λ f. absurd (cc f.1))
first_decides r (q ∷ numbers) = (
  λ t. let e = eqb-true q r t in (numbers, ap (λ n. n ∷ numbers) e),
  λ f. let e : q ≡ r = cc f.1 in eq-eqb q r e,
)

answered_decides : (r n : ℕ) (answers : List Answer) → Decides (has_answer r n answers) (Has (record { ask = r; number = n }) answers)
answered_decides r n answers = in_decides (λ a. (a.ask == r) && (a.number == n)) (record { ask = r; number = n }) (λ a.
    let both = Decides-and (a.ask == r) (a.number == n) (Decides-eqb a.ask r) (Decides-eqb a.number n) in (
      λ t. let e = both.0 t in λ i. record { ask = sym e.0 i; number = sym e.1 i },
      λ e. both.1 (sym (ap (λ (x : Answer). x.ask) e), sym (ap (λ (x : Answer). x.number) e)),
    )) answers

-- ---- packets

same_is : (x y : ShopPacket) → same_packet x y ≡ true → x ≡ y
same_is (Message i n r) (Message j m q) t =
    let a = and_parts ((i == j) && (n == m)) (r == q) t in
    let b = and_parts (i == j) (n == m) a.0 in
    let e = eqb-true i j b.0 in
    let f = eqb-true n m b.1 in
    let g = eqb-true r q a.1 in
    cc (e, f, g)
same_is (Pass i t j a) (Pass k u l b) w =
    let c = and_parts (((i == k) && (t == u)) && (j == l)) (a == b) w in
    let d = and_parts ((i == k) && (t == u)) (j == l) c.0 in
    let g = and_parts (i == k) (t == u) d.0 in
    let e1 = eqb-true i k g.0 in
    let e2 = eqb-true t u g.1 in
    let e3 = eqb-true j l d.1 in
    let e4 = eqb-true a b c.1 in
    cc (e1, e2, e3, e4)
same_is (Message i n r) (Pass k u l b) t = absurd (false≢true t)
same_is (Pass i t j a) (Message k m q) w = absurd (false≢true w)

same_itself : (x : ShopPacket) → same_packet x x ≡ true
same_itself (Message i n r) =
    and_from ((i == i) && (n == n)) (r == r) (and_from (i == i) (n == n) (eq-eqb i i refl) (eq-eqb n n refl)) (eq-eqb r r refl)
same_itself (Pass i t j a) =
    and_from (((i == i) && (t == t)) && (j == j)) (a == a)
    (and_from ((i == i) && (t == t)) (j == j) (and_from (i == i) (t == t) (eq-eqb i i refl) (eq-eqb t t refl)) (eq-eqb j j refl)) (eq-eqb a a refl)

packet_decides : (x : ShopPacket) (packets : List ShopPacket) → Decides (has_packet x packets) (Has x packets)
packet_decides x packets = in_decides (λ y. same_packet y x) x (λ y. ((λ t. sym (same_is y x t)), λ e. subst (λ z. same_packet z x ≡ true) e (same_itself x))) packets

reached_decides : (i : ℕ) (kept : List ShopPacket) (x : ShopPacket) → Decides (is_reached i (highest i kept) (last_turn i kept) x) (sender x ≡ i → IsReached i kept x)
reached_decides i kept (Message j n r) = unless (j == i) (nat_le n (highest i kept)) (Decides-eqb j i) (leb_decides n (highest i kept))
reached_decides i kept (Pass j t k a) = unless (j == i) (nat_le t (last_turn i kept)) (Decides-eqb j i) (leb_decides t (last_turn i kept))

are_reached_decides : (i : ℕ) (kept packets : List ShopPacket)
    → Decides (are_reached i (highest i kept) (last_turn i kept) packets) ((x : ShopPacket) → Has x packets → sender x ≡ i → IsReached i kept x)
are_reached_decides i kept packets =
    all_decides (λ x. is_reached i (highest i kept) (last_turn i kept) x) (λ x. sender x ≡ i → IsReached i kept x) (reached_decides i kept) packets

-- those of a site
own_decides : (i : ℕ) (x : ShopPacket) (kept : List ShopPacket) → Decides ((sender x == i) && has_packet x kept) (Has x (own i kept))
own_decides i x kept = Decides-like _ (λ h. filter_has (λ y. sender y == i) x kept h.1 (eq-eqb (sender x) i h.0)) (λ h. (is_own kept h, has_filter _ x kept h))
    (Decides-and (sender x == i) (has_packet x kept) (Decides-eqb (sender x) i) (packet_decides x kept))
  where
    is_own : (ys : List ShopPacket) → Has x (own i ys) → sender x ≡ i
    is_own [] h = absurd h
    is_own (y ∷ ys) h = elim (sender y == i) as (λ b. (sender y == i) ≡ b → Has x (cond b (y ∷ own i ys) (own i ys)) → sender x ≡ i) [
      | true ↦ λ t g. ⊎_elim (λ e. ap sender e ∙ eqb-true (sender y) i t) (is_own ys) g
      | false ↦ λ t g. is_own ys g
    ] refl h

-- ---- what stands in a shop

holds_decides : (f : Folder) → Decides (holds_token f) (HoldsToken f.site f.kept)
holds_decides f = Decides-and _ _ (leb_decides (passed_turn f.site f.kept) (taken_turn f.site f.kept))
    (Decides-or _ _ (Decides-eqb f.site 0) (Decides-ltb 0 (taken_turn f.site f.kept)))

compared_decides : (s : Shop) (k : ℕ) → Decides (is_compared s (folder s k)) (IsCompared s k)
compared_decides s k =
    let i = (folder s k).site in
    let kept = (folder s k).kept in
    let behind : List ShopPacket → Type 0 = λ xs. (x : ShopPacket) → Has x xs → sender x ≡ i → IsReached i kept x in
    Decides-like _ (λ b. elim [ InFolder j ↦ λ u. b.0 j | InStream j ↦ λ u. b.1 j | UnderWay ↦ λ u. absurd u ])
    (λ a. ((λ j. a (InFolder j) tt), (λ j. a (InStream j) tt)))
    (Decides-and _ _
    (each_decides (λ f. are_reached i (highest i kept) (last_turn i kept) f.kept) (λ (f : Folder). behind f.kept)
    (λ f. are_reached_decides i kept f.kept) s.folders empty (λ j x h. absurd h))
    (each_decides (λ xs. are_reached i (highest i kept) (last_turn i kept) xs) behind (are_reached_decides i kept) s.streams (λ j. []) (λ j x h. absurd h)))

alone_from : (k i n : ℕ) (folders : List Folder) (e : ℕ → Folder) → ((j : ℕ) → (e j).is_open ≡ false)
    → Decides (is_alone k i n folders) ((j : ℕ) → (get_or folders j (e j)).is_open ≡ true → (get_or folders j (e j)).site ≡ i → n + j ≡ k)
alone_from k i n [] e shut = (λ t j o. absurd (false≢true (sym (shut j) ∙ o)), λ r. refl)
alone_from k i n (f ∷ folders) e shut =
    Decides-like _ (λ b. elim [ zero ↦ λ o at. next (b.0 (o, at)) | suc j ↦ λ o at. later j (b.1 j o at) ])
    (λ a. (λ h. here (a zero h.0 h.1), λ j o at. earlier j (a (suc j) o at)))
    (Decides-and _ _ (unless _ _ (open_at f) (Decides-eqb n k)) (alone_from k i (n + 1) folders (λ j. e (suc j)) (λ j. shut (suc j))))
  where
    open_at : (f : Folder) → Decides (f.is_open && (f.site == i)) ((f.is_open ≡ true) × (f.site ≡ i))
    open_at f = Decides-and _ _ (λ t. t, λ t. t) (Decides-eqb f.site i)

    next : n ≡ k → n + 0 ≡ k
    next e = omega (arith, e)

    here : n + 0 ≡ k → n ≡ k
    here e = omega (arith, e)

    later : (j : ℕ) → n + 1 + j ≡ k → n + suc j ≡ k
    later j e = omega (arith, e)

    earlier : (j : ℕ) → n + suc j ≡ k → n + 1 + j ≡ k
    earlier j e = omega (arith, e)

alone_decides : (s : Shop) (k : ℕ) → Decides (is_alone k (folder s k).site 0 s.folders) (IsAlone s k)
alone_decides s k = Decides-like _ (λ a j o at. to j (a j o at)) (λ a j o at. back j (a j o at))
    (alone_from k (folder s k).site 0 s.folders empty (λ j. refl))
  where
    to : (j : ℕ) → 0 + j ≡ k → j ≡ k
    to j e = omega (arith, e)

    back : (j : ℕ) → j ≡ k → 0 + j ≡ k
    back j e = omega (arith, e)

somewhere_decides : (s : Shop) (x : ShopPacket) → Decides (is_somewhere s x) (IsSomewhere s x)
somewhere_decides s x = Decides-like _
    (⊎_elim (⊎_elim (λ a. (InFolder a.0, a.1)) (λ a. (InStream a.0, a.1))) (λ a. (UnderWay, a))) (λ a. at a.0 a.1)
    (Decides-or _ _ (Decides-or _ _
    (some_decides (λ f. has_packet x f.kept) (λ (f : Folder). Has x f.kept) (λ f. packet_decides x f.kept) s.folders empty (λ j h. h))
    (some_decides (λ xs. has_packet x xs) (Has x) (packet_decides x) s.streams (λ j. []) (λ j h. h))) (packet_decides x s.under_way))
  where
    at : (h : PacketPlace) → Has x (there s h) → (((j : ℕ) × Has x (folder s j).kept) ⊎ ((i : ℕ) × Has x (stream s i))) ⊎ Has x s.under_way
    at (InFolder j) h = inl (inl (j, h))
    at (InStream i) h = inl (inr (i, h))
    at UnderWay h = inr h

offered_decides : (c : Carrier) (s : Shop) (x : ShopPacket) → Decides (is_offered c s x) (IsOffered c s x)
offered_decides Files s x = Decides-like _ (λ a. (a.0, a.1.0, a.1.1)) (λ a. (a.0, (a.1, a.2)))
    (some_decides (λ f. (f.site == sender x) && has_packet x f.kept) (λ (f : Folder). (f.site ≡ sender x) × Has x f.kept)
    (λ f. Decides-and _ _ (Decides-eqb f.site (sender x)) (packet_decides x f.kept)) s.folders empty (λ j h. h.1))
offered_decides Server s x = packet_decides x (stream s (sender x))

placed_decides : (s : Shop) (x : ShopPacket) → Decides (is_placed s x) (MayStandNext s x)
placed_decides s (Message i n r) = unless _ _ (number_decides i s.uncompared) (Decides-eqb n (highest i (stream s i) + 1))
placed_decides s (Pass i t j a) = (λ e u. tt, λ h. refl)

room_decides : (s : Shop) (k : ℕ) (x : ShopPacket) → Decides (has_room s k x) (FolderHasRoom s k x)
room_decides s k (Message i n r) = Decides-not _ (number_decides k s.full)
room_decides s k (Pass i t j a) = (λ e. tt, λ h. refl)

server_decides : (c : Carrier) → Decides (is_server c) (c ≡ Server)
server_decides Files = (λ t. absurd (false≢true t), λ e. absurd (cc e))
server_decides Server = (λ t. refl, λ e. refl)

-- ---- an event

module _ (s : Shop) (k : ℕ) where
  runs_decides : Decides (runs (folder s k)) (0 < (folder s k).life)
  runs_decides = Decides-ltb 0 (folder s k).life

  opens_decides : Decides (may_open s k (folder s k)) (MayOpen s k)
  opens_decides = Decides-like _ (λ m. record { runs = m.0.0; knows = m.0.1; alone = m.1 }) (λ m. ((m.runs, m.knows), m.alone))
      (Decides-and _ _ (Decides-and _ _ runs_decides (Decides-or _ _ (λ t. t, λ t. t) (compared_decides s k))) (alone_decides s k))

  serves_decides : (r : ℕ) → Decides (may_serve s (folder s k) r) (MayServe s k r)
  serves_decides r =
      Decides-like _ (λ m. record { runs = m.0.0.0.0; asked = m.0.0.0.1; life = m.0.0.1; one = m.0.1; once = m.1 })
      (λ m. ((((m.runs, m.asked), m.life), m.one), m.once))
      (Decides-and _ _ (Decides-and _ _ (Decides-and _ _ (Decides-and _ _ runs_decides (leb_decides r (asks s)))
      (Decides-eqb (request s r).life (folder s k).life)) (Decides-eqb (request s r).records 1))
      (Decides-not _ (number_decides r (folder s k).served)))

  rebuilds_decides : (j : ℕ) → Decides (may_rebuild (folder s k) (folder s j)) (MayRebuild s k j)
  rebuilds_decides j = Decides-like _ (λ m. record { stopped = m.0; left = m.1 }) (λ m. (m.stopped, m.left))
      (Decides-and _ _ (Decides-eqb (folder s k).life 0)
      (all_decides (λ x. has_packet x (folder s j).kept) (λ x. Has x (folder s j).kept) (λ x. packet_decides x (folder s j).kept) (folder s k).kept))

  writes_decides : Decides (may_write_anew s (folder s k)) (MayWriteAnew s k)
  writes_decides =
      let i = (folder s k).site in
      Decides-like _ (λ m. record { runs = m.0.0; compared = m.0.1; has = m.1 }) (λ m. ((m.runs, m.compared), m.has))
      (Decides-and _ _ (Decides-and _ _ runs_decides (Decides-not _ (number_decides i s.uncompared)))
      (all_decides (λ x. (sender x == i) && has_packet x (folder s k).kept) (λ x. Has x (own i (folder s k).kept))
      (λ x. own_decides i x (folder s k).kept) (stream s i)))

  sends_decides : (c : Carrier) (x : ShopPacket) → Decides (may_send c (folder s k) x) (May c s (Sends k x))
  sends_decides c x = Decides-like _ (λ m. (m.0.0, m.0.1, m.1)) (λ m. ((m.0, m.1), m.2))
      (Decides-and _ _ (Decides-and _ _ (server_decides c) runs_decides) (packet_decides x (folder s k).kept))

pub may_decides : (c : Carrier) (s : Shop) (e : ShopEvent) → Decides (may c s e) (May c s e)
may_decides c s (Starts k) = Decides-eqb (folder s k).life 0
may_decides c s (Opens k) = opens_decides s k
may_decides c s (TakesOver k) = Decides-and _ _ (runs_decides s k) (number_decides (folder s k).site s.yielding)
may_decides c s (OpensAlone k) = runs_decides s k
may_decides c s (GoesOn k) = runs_decides s k
may_decides c s (IsRaised k) = Decides-eqb (folder s k).life 0
may_decides c s (IsAsked r life n) = Decides-and _ _ (Decides-eqb r (asks s + 1)) (leb_decides life s.begun)
may_decides c s (Serves k r) = serves_decides s k r
may_decides c s (Gives k r) = Decides-and _ _ (λ t. t, λ t. t) (number_decides r (folder s k).waiting)
may_decides c s (Accepts k r) = Decides-like _ (λ m. (m.0.0, m.0.1, m.1)) (λ m. ((m.0, m.1), m.2))
    (Decides-and _ _ (Decides-and _ _ (λ t. t, λ t. t) (first_decides r (folder s k).lines)) (Decides-not _ (number_decides k s.full)))
may_decides c s (Refuses k r) = first_decides r (folder s k).lines
may_decides c s (TellsOk k r n) = Decides-and _ _ (answered_decides r n (folder s k).answered) (Decides-not _ (number_decides (folder s k).site s.yielding))
may_decides c s (TellsPublished k r n) = Decides-like _ (λ m. (m.0, m.1.0, m.1.1)) (λ m. (m.0, (m.1, m.2))) (Decides-and _ _ (server_decides c)
    (Decides-and _ _ (answered_decides r n (folder s k).answered) (packet_decides (Message (folder s k).site n r) (stream s (folder s k).site))))
may_decides c s (TellsNothing k r) = number_decides r (folder s k).waiting
may_decides c s (Passes k to) = Decides-like _ (λ m. (m.0.0, m.0.1, m.1)) (λ m. ((m.0, m.1), m.2))
    (Decides-and _ _ (Decides-and _ _ (λ t. t, λ t. t) (holds_decides (folder s k))) (Decides-not _ (Decides-eqb to (folder s k).site)))
may_decides c s (Appends k x) = Decides-like _ (λ m. (m.0.0, m.0.1, m.0.2, m.1)) (λ m. ((m.0, m.1, m.2), m.3))
    (Decides-and _ _ (sends_decides s k c x) (placed_decides s x))
may_decides c s (Sends k x) = sends_decides s k c x
may_decides c s (Arrives x) = Decides-like _ (λ m. (m.0.0, m.0.1, m.1)) (λ m. ((m.0, m.1), m.2))
    (Decides-and _ _ (Decides-and _ _ (server_decides c) (packet_decides x s.under_way)) (placed_decides s x))
may_decides c s (Reads k x) = Decides-like _ (λ m. (m.0.0.0, m.0.0.1, m.0.1, m.1)) (λ m. (((m.0, m.1), m.2), m.3)) (Decides-and _ _ (Decides-and _ _
    (Decides-and _ _ (runs_decides s k) (Decides-not _ (Decides-eqb (sender x) (folder s k).site))) (offered_decides c s x)) (room_decides s k x))
may_decides c s (Finds k x) = Decides-and _ _ (Decides-eqb (folder s k).life 0) (somewhere_decides s x)
may_decides c s (Rebuilds k j) = rebuilds_decides s k j
may_decides c s (WritesAnew k) = Decides-and _ _ (server_decides c) (writes_decides s k)
may_decides c s e = (λ t. tt, λ m. refl)

pub may_computed : MayIsComputed
may_computed c s e = may_decides c s e

-- steps are computed
pub are_steps_true : (c : Carrier) (s : Shop) (events : List ShopEvent) → are_steps c s events ≡ true → AreSteps c s events
are_steps_true c s [] t = tt
are_steps_true c s (e ∷ rest) t =
    let both = and_parts (may c s e) (are_steps c (after_step s e) rest) t in
    ((may_decides c s e).0 both.0, are_steps_true c (after_step s e) rest both.1)

pub may_not : (c : Carrier) (s : Shop) (e : ShopEvent) → may c s e ≡ false → ¬ (May c s e)
may_not c s e t = not_from_Decides (may c s e) (may_decides c s e) t
