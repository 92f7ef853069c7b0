-- What a site decides fits what precedes it, and its log meets the checks.
use Rattle.rubis_laws.proofs.Common.{ℕ, ◌≡◌, ◌+◌, ◌≤◌, List, [], ◌∷◌, ◌++◌, Bool, true, false, refl, sym, ap, ◌∙◌, subst, arith, Option, Some, None, inl, inr}
use Rattle.rubis_laws.proofs.Common.{⊎_elim, IsSome, IfSome, is_some, option_map, option_or, sum_by-cons, IsPermutation-middle, true≢false, Id, NewItem, Shadow}
use Rattle.rubis_laws.proofs.Common.{Buy, Core, same_id, when, at_id, as_item, user_at, item_at, total, sold_of, restocked_of, choose, last_rename, nick_after}
use Rattle.rubis_laws.proofs.Common.{nick_at, renames, is_same_nick, as_user, supply, named, best_bid, close_of, bids_on, closes, earlier, is_red, Fits}
use Rattle.rubis_laws.proofs.Common.{Decides-same_id, All-weaker, RowKey, refers_of, Close, Message, core, cores, as_bid, higher, StandsIn, Has, Precedes}
use Rattle.rubis_laws.proofs.Common.{HasBidOnItem, IsMadeBy, Preceded, RefersToPast, ◌<◌, cond, length, get_or, set, ◌⊎◌, reverse, nat_lt, cases_eq, cases_lt}
use Rattle.rubis_laws.proofs.Common.{nat_tests, get_or_past, get_or-set_same, get_or-set_other, get_or-map-range_with_len, length-map-range_with_len, dep}
use Rattle.rubis_laws.proofs.Common.{Decided, Released, counted, reds, Ready, CountedBy, red_count, turns, Good, RedsInOrder, Token, Packet, Place, Replica}
use Rattle.rubis_laws.proofs.Common.{made, red_for, counted_no, seq_within, found_red, counted_reverse, reds_reverse, reverse_push, has_left, has_last}
use Rattle.rubis_laws.proofs.Common.{push_cases, append_assoc, ltb-true, reverse-reverse, count, Follows, CheckedFrom, Checked, has_id, Foundation, World, site}
use Rattle.rubis_laws.proofs.Common.{Sound, Sent, red_within, clash, has_back, has_reverse, ◌^◌, Ok, IsId, IsAsk, InLimits, Ask, decision, shadow_of, granted}
use Rattle.rubis_laws.proofs.Common.{not_full, IsLimited, standing_of, rows_at, place, cores_length}
use Rattle.rubis_laws.proofs.Rows.Nicks.{nick_user}
use Rattle.rubis_laws.proofs.Order.FitsByKind.{Keeps, KeepsReds, by_kind, from_kind, kept_by_kind}
use Rattle.rubis_laws.proofs.Rows.Sets.{Member, OneEach, member_append, member_left, member_right, apart, at_member, split_at, same_total, count_push}
use Rattle.rubis_laws.proofs.Rows.Sets.{found_member}
use Rattle.rubis_laws.proofs.Rows.Choices.{Ranks, IsChoice, choose_is, earlier_ranks, later_ranks, higher_ranks, earlier_apart, later_apart, higher_apart}
use Rattle.rubis_laws.proofs.Rows.EqualSets.{OneRed, bid_red, close_red, rename_red, user_red, some_is, one_each_push}
use Rattle.rubis_laws.proofs.Rows.Cores.{core_of, back_push, has_core}
use Rattle.rubis_model.specs.System.{DecidedBy}
use Rattle.std.proofs.lemmas.Bool.{ltb-false, leb-false}
use Rattle.rubis_laws.proofs.Order.RunsInOrder.{foundation, seen, there}
use Rattle.rubis_generate.specs.Decision.{closing}
use Rattle.rubis_generate.proofs.Granted.{shadow_limits}
use Rattle.rubis_laws.proofs.Rows.FoldIsMeaning.{fold_is_meaning}
use Rattle.rubis_laws.proofs.Runs.Invariants.{checked_holds}
use Rattle.rubis_laws.proofs.Order.Decisions.{decided_fits}

-- ---- a row of an id is a member's
abbrev pub At : {X : Type 0} → (Core → Option X) → Id → X → List Core → Type 0
At f i x a = (m : Core) × (Member a m) × (i ≡ m.id) × (f m ≡ Some x)

pub found_at : {X : Type 0} (f : Core → Option X) (i : Id) {x : X} (a : List Core) → at_id f i a ≡ Some x → At f i x a
found_at f i [] e = absurd cc
found_at f i {x} (y ∷ a) e = go (same_id i y.id) refl (f y) refl (found_at f i a)
  where
    on : At f i x a → At f i x (y ∷ a)
    on w = (w.0, inr w.1, w.2, w.3)

    go : (b : Bool) → same_id i y.id ≡ b → (o : Option _) → f y ≡ o → (at_id f i a ≡ Some x → At f i x a) → At f i x (y ∷ a)
    go false q o r ih = on (ih (ap (λ b. option_or (when b (f y)) (at_id f i a)) (sym q) ∙ e))
    go true q None r ih = on (ih ((λ j. option_or (when (sym q j) (sym r j)) (at_id f i a)) ∙ e))
    go true q (Some z) r ih = (y, inl refl, (Decides-same_id i y.id).0 q, r ∙ (λ j. option_or (when (sym q j) (sym r j)) (at_id f i a)) ∙ e)

-- ---- sums of some shadows
less : (p : Shadow → Bool) (f : Shadow → ℕ) → ((x : Shadow) → p x ≡ false → f x ≡ 0) → (b a : List Core) → OneEach b
    → ((m : Core) → Member b m → p m.shadow ≡ true → Member a m) → total f b ≤ total f a
less p f others [] a u h = omega arith
less p f others (x ∷ b) a u h = go (p x.shadow) refl (less p f others b)
  where
    go : (t : Bool) → p x.shadow ≡ t
        → ((c : List Core) → OneEach b → ((m : Core) → Member b m → p m.shadow ≡ true → Member c m) → total f b ≤ total f c)
        → total f (x ∷ b) ≤ total f a
    go false e ih =
        let z = others x.shadow e in let c = sum_by-cons (λ (m : Core). f m.shadow) x b in let l = ih a u.1 (λ m k r. h m (inr k) r) in omega (arith, z, c, l)
    go true e ih =
        let w = split_at a x (h x (inl refl) e) in
        let c = sum_by-cons (λ (m : Core). f m.shadow) x b in
        let d = sum_by-cons (λ (m : Core). f m.shadow) x (w.0 ++ w.1) in
        let v = ap (total f) w.2 ∙ same_total f {a = w.0 ++ x ∷ w.1} {b = x ∷ (w.0 ++ w.1)} (IsPermutation-middle w.0 x w.1) in
        let l = ih (w.0 ++ w.1) u.1 (λ m k r. ⊎_elim (λ q. member_left w.0 w.1 m q)
        (λ q. ⊎_elim (λ y. absurd (apart b x u.0 (subst (Member b) (sym y) k))) (λ y. member_right w.0 w.1 m y) q)
        (member_append w.0 _ m (subst (λ z. Member z m) w.2 (h m (inr k) r)))) in
        omega (arith, c, d, v, l)

pub sold_blue : (i : Id) (x : Shadow) → is_red x ≡ false → sold_of i x ≡ 0
sold_blue i (Buy n) e = absurd (true≢false e)
sold_blue i x e = refl

-- ---- a choice among the same ones
module _ {beats : Core → Core → Bool} (ranks : Ranks beats) (p : Core → Bool) (a b : List Core)
    (to : (m : Core) → p m ≡ true → Member a m → Member b m)
    (back : (m : Core) → p m ≡ true → Member b m → Member a m)
    (one : (m n : Core) → Member b m → Member b n → p m ≡ true → p n ≡ true → beats m n ≡ false → beats n m ≡ false → m ≡ n) where
  agree : (o q : Option Core) → IsChoice beats p a o → IsChoice beats p b q → o ≡ q
  agree None None h k = refl
  agree None (Some m) h k = absurd (true≢false (sym k.passes ∙ h m (back m k.passes k.there)))
  agree (Some m) None h k = absurd (true≢false (sym h.passes ∙ k m (to m h.passes h.there)))
  agree (Some m) (Some n) h k =
      let l = to m h.passes h.there in
      ap Some (one m n l k.there h.passes k.passes (k.unbeaten m l h.passes) (h.unbeaten n (back n k.passes k.there) k.passes))

  pub same_chosen : choose beats p a ≡ choose beats p b
  same_chosen = agree _ _ (choose_is ranks p a) (choose_is ranks p b)

-- ---- the lemma: a is where the shadow was decided, b where it is released
module _ (a b : List Core) (within : (m : Core) → Member a m → Member b m) (own : OneEach a) (ids : OneEach b) (one_red : OneRed b) where
  still : {X : Type 0} (f : Core → Option X) (i : Id) (x : X) → at_id f i a ≡ Some x → at_id f i b ≡ Some x
  still f i x e =
      let w = found_at f i a e in
      subst (λ j. at_id f j b ≡ Some x) (sym w.2) (at_member f b w.0 ids (within w.0 w.1) ∙ w.3)

  still_some : {X : Type 0} (f : Core → Option X) (i : Id) → IsSome (at_id f i a) → IsSome (at_id f i b)
  still_some f i h = at (at_id f i a) refl h
    where
      at : (o : Option _) → at_id f i a ≡ o → IsSome o → IsSome (at_id f i b)
      at None e k = absurd (true≢false (sym k))
      at (Some x) e k = ap is_some (still f i x e)

  -- restocks that are known only where a buy is released only add to the supply
  restocks_only_add : (i : Id) → total (restocked_of i) a ≤ total (restocked_of i) b
  restocks_only_add i = less (λ x. true) (restocked_of i) (λ x e. absurd (true≢false e)) a b own (λ m h e. within m h)

  module _ (back : (m : Core) → Member b m → is_red m.shadow ≡ true → Member a m) where
    same_close : (i : Id) → close_of i a ≡ close_of i b
    same_close i = same_chosen earlier_ranks (λ m. closes i m.shadow) a b (λ m e k. within m k) (λ m e k. back m k (close_red i m.shadow e))
        (λ m n h l p q f g. one_red m n h l (close_red i m.shadow p) (close_red i n.shadow q) (earlier_apart m n f g))

    same_best : (i : Id) → best_bid i a ≡ best_bid i b
    same_best i = same_chosen higher_ranks (λ m. bids_on i m.shadow) a b (λ m e k. within m k) (λ m e k. back m k (bid_red i m.shadow e))
        (λ m n h l p q f g. one_red m n h l (bid_red i m.shadow p) (bid_red i n.shadow q) (higher_apart m n f g))

    user_back : (i : Id) (n : List ℕ) → user_at i b ≡ Some n → user_at i a ≡ None → ⊥
    user_back i n e h =
        let w = found_at (λ m. as_user m.shadow) i b e in
        let there = back w.0 w.1 (user_red w.0.shadow (ap is_some w.3)) in
        absurd (let z : Some n ≡ None = sym w.3 ∙ sym (at_member (λ m. as_user m.shadow) a w.0 own there) ∙ ap (λ j. user_at j a) (sym w.2) ∙ h in cc)

    same_rename : (i : Id) → last_rename i a ≡ last_rename i b
    same_rename i = same_chosen later_ranks (λ m. renames i m.shadow) a b (λ m e k. within m k) (λ m e k. back m k (rename_red i m.shadow e))
        (λ m n h l p q f g. one_red m n h l (rename_red i m.shadow p) (rename_red i n.shadow q) (later_apart m n f g))

    same_user : (i : Id) → user_at i a ≡ user_at i b
    same_user i = at (user_at i a) refl (user_at i b) refl
      where
        at : (o : Option (List ℕ)) → user_at i a ≡ o → (p : Option (List ℕ)) → user_at i b ≡ p → user_at i a ≡ user_at i b
        at (Some n) e p f = e ∙ sym (still (λ m. as_user m.shadow) i n e)
        at None e None f = e ∙ sym f
        at None e (Some n) f = absurd (user_back i n f e)

    same_holder : (i : Id) → nick_at i a ≡ nick_at i b
    same_holder i = λ j. option_map (nick_after (same_rename i j)) (same_user i j)

    holder_red : (n : List ℕ) (m : Core) → Member b m → is_same_nick n (nick_at m.id b) ≡ true → is_red m.shadow ≡ true
    holder_red n m h p = user_red m.shadow (subst IsSome (at_member (λ k. as_user k.shadow) b m ids h) (nick_user m.id b (some_is n (nick_at m.id b) p)))

    same_named : (n : List ℕ) → named n a ≡ named n b
    same_named n =
        (λ j. choose earlier (λ m. is_same_nick n (same_holder m.id j)) a)
        ∙ same_chosen earlier_ranks (λ m. is_same_nick n (nick_at m.id b)) a b (λ m e k. within m k) (λ m e k. back m k (holder_red n m k e))
        (λ x y h l p q f g. one_red x y h l (holder_red n x h p) (holder_red n y l q) (earlier_apart x y f g))

    -- a buy still fits where it is released, since it does where it was decided: the buys before it are the same
    buy_still_fits : (i : Id) (q : ℕ) → IsSome (item_at i a) → IfSome (item_at i a) (λ n. total (sold_of i) a + q ≤ supply a i n)
        → IfSome (item_at i b) (λ n. total (sold_of i) b + q ≤ supply b i n)
    buy_still_fits i q h k = at (item_at i a) refl h k
      where
        at : (o : Option NewItem) → item_at i a ≡ o → IsSome o → IfSome o (λ n. total (sold_of i) a + q ≤ supply a i n)
            → IfSome (item_at i b) (λ n. total (sold_of i) b + q ≤ supply b i n)
        at None e s l = absurd (true≢false (sym s))
        at (Some n) e s l = subst (λ o. IfSome o (λ n. total (sold_of i) b + q ≤ supply b i n)) (sym (still (λ m. as_item m.shadow) i n e))
            (let r = less _ _ (sold_blue i) b a ids back in let k = restocks_only_add i in omega (arith, r, k, l))

  same_cat : (i : Id) (c : ℕ) → option_map (λ (n : NewItem). n.cat) (item_at i a) ≡ Some c
      → option_map (λ (n : NewItem). n.cat) (item_at i b) ≡ Some c
  same_cat i c h = at (item_at i a) refl h
    where
      at : (o : Option NewItem) → item_at i a ≡ o → option_map (λ (n : NewItem). n.cat) o ≡ Some c
          → option_map (λ (n : NewItem). n.cat) (item_at i b) ≡ Some c
      at None e k = absurd cc
      at (Some n) e k = ap (option_map (λ (n : NewItem). n.cat)) (still (λ m. as_item m.shadow) i n e) ∙ k

  keeps : Keeps a b
  keeps = record { user = λ i h. still_some (λ m. as_user m.shadow) i h; item = λ i h. still_some (λ m. as_item m.shadow) i h; cat = same_cat }

  keeps_reds : ((m : Core) → Member b m → is_red m.shadow ≡ true → Member a m) → KeepsReds a b
  keeps_reds r = record { close = same_close r; best = same_best r; nick = same_holder r; named = same_named r; stock = buy_still_fits r }

  pub fits_on : {x : Shadow} → (is_red x ≡ true → (m : Core) → Member b m → is_red m.shadow ≡ true → Member a m) → Fits a x → Fits b x
  fits_on {x} r f = from_kind b (kept_by_kind keeps x (λ e. keeps_reds (r e)) (by_kind a x f))

-- ---- what fits a log refers to messages there

-- where all of the log precedes v
module _ (all : Message → Type 0) (v : Message) (past : List Message) (known : (u : Message) → Has u past → all u × Precedes u v) where
  to_any : {X : Type 0} (f : Core → Option X) (i : Id) → IsSome (at_id f i (cores past)) → Preceded all v (λ m. (i ≡ m.stamp.id) × IsSome (f (core m)))
  to_any f i h = at (at_id f i (cores past)) refl h
    where
      at : (o : Option _) → at_id f i (cores past) ≡ o → IsSome o → Preceded all v (λ m. (i ≡ m.stamp.id) × IsSome (f (core m)))
      at None e k = absurd (true≢false (sym k))
      at (Some x) e k =
          let g = found_at f i (cores past) e in
          let u = core_of g.0 past g.1 in
          let q = known u.0 u.1 in
          (u.0, q.0, (g.2 ∙ ap (λ (c : Core). c.id) (sym u.2), ap is_some (ap f u.2 ∙ g.3)), q.1)

  -- the row at the key was made before v
  abbrev MadeBefore : RowKey → Type 0
  MadeBefore k = Preceded all v (IsMadeBy k)

  made_before : (k : RowKey) → StandsIn (cores past) k → MadeBefore k
  made_before (RowKey.User i) h = to_any (λ c. as_user c.shadow) i h
  made_before (RowKey.Item i) h = to_any (λ c. as_item c.shadow) i h
  made_before (RowKey.Bid i) h = to_any (λ c. as_bid c.red c.shadow) i h
  made_before k h = absurd h

  -- a bid on the item that precedes v
  abbrev OnItem : Id → Id → Type 0
  OnItem j i = Preceded all v (λ m. (i ≡ m.stamp.id) × (bids_on j m.shadow ≡ true))

  to_bid : (j : Id) {o : Option Id} → o ≡ option_map (λ (m : Core). m.id) (best_bid j (cores past)) → IfSome o (OnItem j)
  to_bid j e = subst (λ q. IfSome q (OnItem j)) (sym e) (at (best_bid j (cores past)) (choose_is higher_ranks (λ m. bids_on j m.shadow) (cores past)))
    where
      at : (p : Option Core) → IsChoice higher (λ m. bids_on j m.shadow) (cores past) p → IfSome (option_map (λ (m : Core). m.id) p) (OnItem j)
      at None h = tt
      at (Some m) h =
          let u = core_of m past h.there in
          let q = known u.0 u.1 in
          (u.0, q.0, (ap (λ (c : Core). c.id) (sym u.2), ap (λ (c : Core). bids_on j c.shadow) u.2 ∙ h.passes), q.1)

  bid_on_item : (x : Shadow) → Fits (cores past) x → HasBidOnItem all v x
  bid_on_item (Close c) f = to_bid c.item (by_kind (cores past) (Close c) f).2
  bid_on_item x f = tt

  pub refers_past : {x : Shadow} → Fits (cores past) x → RefersToPast all v x
  refers_past {x} f = (All-weaker (StandsIn (cores past)) MadeBefore made_before (refers_of x) f.known, bid_on_item x f)

-- ---- a site makes a message; and what one more packet changes

-- ---- one site of many is changed
pub set_at : (P : ℕ → Replica → Type 0) (sites : List Replica) {i : ℕ} {x : Replica} (d : Replica) → i < length sites → P i x
    → ((j : ℕ) → (j ≡ i → ⊥) → P j (get_or sites j d)) → (j : ℕ) → P j (get_or (set sites i x) j d)
set_at P sites {i} {x} d l here there j = ⊎_elim (λ e. subst (λ k. P k (get_or (set sites i x) k d)) (sym e)
    (subst (P i) (sym (get_or-set_same sites i x d l)) here)) (λ n. subst (P j) (sym (get_or-set_other sites i j x d n)) (there j n)) (cases_eq j i)

-- ---- a new packet
pub good_more : {sent : List Packet} (p : Packet) {i : ℕ} {log waiting : List Message} → Good sent i log waiting → Good (sent ++ p ∷ []) i log waiting
good_more {sent} p g = record {
  released = g.released;
  made = g.made;
  decided = g.decided;
  log_sent = λ m h. has_left (Packet.Msg m) sent (p ∷ []) (g.log_sent m h);
  waiting_sent = λ m h. has_left (Packet.Msg m) sent (p ∷ []) (g.waiting_sent m h);
  waiting_others = g.waiting_others;
}

pub shadow_cases : {u m : Message} (sent : List Packet) → Has (Packet.Msg u) (sent ++ Packet.Msg m ∷ []) → Has (Packet.Msg u) sent ⊎ (u ≡ m)
shadow_cases {u} {m} sent h = ⊎_elim (λ k. inl k) (λ e. inr (cc)) (push_cases (Packet.Msg u) (Packet.Msg m) sent h)

pub not_right : (t : Token) (m : Message) (sent : List Packet) → Has (Packet.Token t) (sent ++ Packet.Msg m ∷ []) → Has (Packet.Token t) sent
not_right t m sent h = ⊎_elim (λ k. k) (λ e. absurd (cc)) (push_cases (Packet.Token t) (Packet.Msg m) sent h)

pub not_shadow : (t : Token) (m : Message) (sent : List Packet) → Has (Packet.Msg m) (sent ++ Packet.Token t ∷ []) → Has (Packet.Msg m) sent
not_shadow t m sent h = ⊎_elim (λ k. k) (λ e. absurd (cc)) (push_cases (Packet.Msg m) (Packet.Token t) sent h)

pub right_cases : (u t : Token) (sent : List Packet) → Has (Packet.Token u) (sent ++ Packet.Token t ∷ []) → Has (Packet.Token u) sent ⊎ (u ≡ t)
right_cases u t sent h = ⊎_elim (λ k. inl k) (λ e. inr (cc)) (push_cases (Packet.Token u) (Packet.Token t) sent h)

pub red_count_shadow : (sent : List Packet) (m : Message) → red_count (sent ++ Packet.Msg m ∷ []) ≡ red_count sent + cond (nat_lt 0 m.stamp.red) 1 0
red_count_shadow [] m = refl
red_count_shadow (Packet.Msg u ∷ ps) m = let e = red_count_shadow ps m in omega arith
red_count_shadow (Packet.Token t ∷ ps) m = red_count_shadow ps m

pub red_count_right : (sent : List Packet) (t : Token) → red_count (sent ++ Packet.Token t ∷ []) ≡ red_count sent
red_count_right [] t = refl
red_count_right (Packet.Msg u ∷ ps) t = let e = red_count_right ps t in omega arith
red_count_right (Packet.Token v ∷ ps) t = red_count_right ps t

pub turns_shadow : (sent : List Packet) (m : Message) → turns (sent ++ Packet.Msg m ∷ []) ≡ turns sent
turns_shadow [] m = refl
turns_shadow (Packet.Msg u ∷ ps) m = turns_shadow ps m
turns_shadow (Packet.Token t ∷ ps) m = let e = turns_shadow ps m in omega arith

pub turns_right : (sent : List Packet) (t : Token) → turns (sent ++ Packet.Token t ∷ []) ≡ turns sent + 1
turns_right [] t = refl
turns_right (Packet.Msg u ∷ ps) t = turns_right ps t
turns_right (Packet.Token v ∷ ps) t = let e = turns_right ps t in omega arith

-- ---- what a site makes
counted_zero : (j : ℕ) (log : List Message) → ((m : Message) → Has m log → m.stamp.id.site ≡ j → ⊥) → counted j log ≡ 0
counted_zero j [] h = refl
counted_zero j (m ∷ log) h = counted_no j m log (h m (inl refl)) ∙ counted_zero j log (λ u k. h u (inr k))

pub made_dep : (p : Place) (s : Replica) (x : Shadow) → ((m : Message) → Has m (reverse s.log) → m.stamp.id.site < p.sites) → (j : ℕ)
    → dep (made p s x) j ≡ counted j s.log
made_dep p s x inside j = ⊎_elim (λ k. get_or-map-range_with_len (λ q. counted q s.log) 0 _ j j 0 k (omega arith))
    (λ k. get_or_past _ j 0 (subst (λ n. n ≤ j) (sym (length-map-range_with_len (λ q. counted q s.log) 0 _)) k) ∙ sym
    (sym (counted_reverse j s.log) ∙ counted_zero j _ (λ m h e. let l = inside m h in omega arith))) (cases_lt j p.sites)

-- what is so of a message that site i makes after the log
pub record IsMade (i : ℕ) (log : List Message) (m : Message) : Type 0 where
  pub origin : m.stamp.id.site ≡ i
  pub seq : m.stamp.id.seq ≡ counted i log + 1
  pub deps : (j : ℕ) → dep m j ≡ counted j log
  pub number : 0 < m.stamp.red → m.stamp.red ≡ reds log + 1
  pub decided : Decided (reverse log) m

pub is_made : (p : Place) (s : Replica) (x : Shadow) → Decided (reverse s.log) (made p s x)
    → ((m : Message) → Has m (reverse s.log) → m.stamp.id.site < p.sites) → (0 < red_for x s.held → red_for x s.held ≡ reds s.log + 1)
    → IsMade p.site s.log (made p s x)
is_made p s x decided inside number = record { origin = refl; seq = refl; deps = made_dep p s x inside; number = number; decided = decided }

made_ready : {i : ℕ} {log : List Message} {m : Message} → IsMade i log m → Ready (reverse log) m
made_ready {log} {m} k = record {
  next = k.seq ∙ ap (λ x. x + 1) (ap (λ x. counted x log) (sym k.origin) ∙ sym (counted_reverse m.stamp.id.site log));
  released = λ j _. let e = k.deps j in let f = counted_reverse j log in omega arith;
  number = λ l. k.number l ∙ ap (λ x. x + 1) (sym (reds_reverse log));
}

-- a good site makes a message
pub good_make : {sent : List Packet} {i : ℕ} {log waiting : List Message} {m : Message} → IsMade i log m → Good sent i log waiting
    → Good (sent ++ Packet.Msg m ∷ []) i (log ++ m ∷ []) waiting
good_make {sent} {i} {log} {m} k g = record {
  released = subst Released (sym (reverse_push log m)) (made_ready k, g.released);
  made = subst (CountedBy i) (sym (reverse_push log m)) ((λ e j. k.deps j ∙ sym (counted_reverse j log)), g.made);
  decided = subst (DecidedBy i) (sym (reverse_push log m)) ((λ e. k.decided), g.decided);
  log_sent = λ u h. ⊎_elim (λ e. subst (λ x. Has (Packet.Msg x) (sent ++ Packet.Msg m ∷ [])) (sym e) (has_last _ sent))
      (λ q. has_left _ sent _ (g.log_sent u q)) (subst (Has u) (reverse_push log m) h);
  waiting_sent = λ u h. has_left (Packet.Msg u) sent (Packet.Msg m ∷ []) (g.waiting_sent u h);
  waiting_others = g.waiting_others;
}

-- ---- red numbers
one_if_red : (m : Message) → 0 < m.stamp.red → cond {A = ℕ} (nat_lt 0 m.stamp.red) 1 0 ≡ 1
one_if_red m l = grind (arith, nat_tests)

none_if_blue : (m : Message) → m.stamp.red ≡ 0 → cond {A = ℕ} (nat_lt 0 m.stamp.red) 1 0 ≡ 0
none_if_blue m l = grind (arith, nat_tests)

pub red_count_blue : (sent : List Packet) (m : Message) → m.stamp.red ≡ 0 → red_count (sent ++ Packet.Msg m ∷ []) ≡ red_count sent
red_count_blue sent m e = omega (arith, red_count_shadow sent m, none_if_blue m e)

pub red_count_red : (sent : List Packet) (m : Message) → 0 < m.stamp.red → red_count (sent ++ Packet.Msg m ∷ []) ≡ red_count sent + 1
red_count_red sent m e = omega (arith, red_count_shadow sent m, one_if_red m e)

red_same : {u v : Message} → u ≡ v → u.stamp.red ≡ v.stamp.red
red_same e = ap (λ (x : Message). x.stamp.red) e

pub reds_blue : {sent : List Packet} (m : Message) → m.stamp.red ≡ 0 → RedsInOrder sent → RedsInOrder (sent ++ Packet.Msg m ∷ [])
reds_blue {sent} m blue r = record {
  small = λ u h. ⊎_elim (λ k. omega (arith, r.small u k, same)) (λ e. omega (arith, red_same e)) (shadow_cases {u = u} {m = m} sent h);
  single = λ u v hu hv l e. ⊎_elim (λ a. ⊎_elim (λ b. r.single u v a b l e) (λ f. absurd (omega (arith, red_same f))) (shadow_cases sent hv))
      (λ f. absurd (omega (arith, red_same f))) (shadow_cases sent hu);
  ordered = λ u v hu hv l e. ⊎_elim (λ a. ⊎_elim (λ b. r.ordered u v a b l e) (λ f. absurd (omega (arith, red_same f))) (shadow_cases sent hv))
      (λ f. absurd (omega (arith, red_same f))) (shadow_cases sent hu);
  each = λ q l h. let f = r.each q l (subst (λ x. q ≤ x) same h) in (f.0, has_left (Packet.Msg f.0) sent (Packet.Msg m ∷ []) f.1, f.2);
}
  where
    same : red_count (sent ++ Packet.Msg m ∷ []) ≡ red_count sent
    same = red_count_blue sent m blue

-- all red ones so far are in a log that has as many
red_there : {sent : List Packet} {i : ℕ} {log waiting : List Message} (u : Message) → Good sent i log waiting → RedsInOrder sent → reds log ≡ red_count sent
    → Has (Packet.Msg u) sent → 0 < u.stamp.red → u.stamp.id.seq ≤ counted u.stamp.id.site log
red_there {log} u g r full h l =
    let few : u.stamp.red ≤ reds (reverse log) = omega (arith, r.small u h, reds_reverse log) in
    let f = found_red (reverse log) u.stamp.red g.released l few in
    let same : f.0 ≡ u = r.single f.0 u (g.log_sent f.0 f.1) h (omega (arith, f.2)) f.2 in
    let within = seq_within (reverse log) u g.released (subst (λ x. Has x (reverse log)) same f.1) in
    omega (arith, within.1, counted_reverse u.stamp.id.site log)

pub reds_red : {sent : List Packet} {i : ℕ} {log waiting : List Message} {m : Message} → Good sent i log waiting → reds log ≡ red_count sent → IsMade i log m
    → m.stamp.red ≡ red_count sent + 1 → RedsInOrder sent → RedsInOrder (sent ++ Packet.Msg m ∷ [])
reds_red {sent} {m} g full k number r = record {
  small = λ u h. ⊎_elim (λ a. omega (arith, r.small u a, more)) (λ e. omega (arith, red_same e, more)) (shadow_cases sent h);
  single = λ u v hu hv l e. ⊎_elim (λ a. ⊎_elim (λ b. r.single u v a b l e) (λ f. absurd (omega (arith, red_same f, r.small u a))) (shadow_cases sent hv))
      (λ f. ⊎_elim (λ b. absurd (omega (arith, red_same f, r.small v b))) (λ q. f ∙ sym q) (shadow_cases sent hv)) (shadow_cases sent hu);
  ordered = λ u v hu hv l e. ⊎_elim (λ a. ⊎_elim (λ b. r.ordered u v a b l e) (λ f. before u v a l f) (shadow_cases sent hv))
      (λ f. ⊎_elim (λ b. absurd (omega (arith, red_same f, r.small v b))) (λ q. absurd (omega (arith, red_same f, red_same q)))
      (shadow_cases sent hv)) (shadow_cases sent hu);
  each = λ q l h. ⊎_elim (λ b. let f = r.each q l b in (f.0, has_left (Packet.Msg f.0) sent (Packet.Msg m ∷ []) f.1, f.2))
      (λ b. (m, has_last (Packet.Msg m) sent, omega (arith, more))) (le_cases q (red_count sent));
}
  where
    more : red_count (sent ++ Packet.Msg m ∷ []) ≡ red_count sent + 1
    more = red_count_red sent m (omega arith)

    before : (u v : Message) → Has (Packet.Msg u) sent → 0 < u.stamp.red → v ≡ m → Precedes u v
    before u v h l e = subst (λ x. Precedes u x) (sym e) (omega (arith, red_there u g r full h l, k.deps u.stamp.id.site))

    le_cases : (a b : ℕ) → (a ≤ b) ⊎ (b < a)
    le_cases a b = ⊎_elim (λ x. inr x) (λ x. inl x) (cases_lt b a)

-- no shadow more
pub reds_token : {sent : List Packet} (t : Token) → RedsInOrder sent → RedsInOrder (sent ++ Packet.Token t ∷ [])
reds_token {sent} t r = record {
  small = λ u h. omega (arith, r.small u (not_shadow t u sent h), red_count_right sent t);
  single = λ u v hu hv. r.single u v (not_shadow t u sent hu) (not_shadow t v sent hv);
  ordered = λ u v hu hv. r.ordered u v (not_shadow t u sent hu) (not_shadow t v sent hv);
  each = λ q l h. let f = r.each q l (subst (λ x. q ≤ x) (red_count_right sent t) h) in (f.0, has_left (Packet.Msg f.0) sent (Packet.Token t ∷ []) f.1, f.2);
}

-- ---- in a sound world each log passes the checks

-- ---- a past's cores, oldest first
pub of_back : (c : Core) (past : List Message) → Member (cores (reverse past)) c → (m : Message) × (Has m past) × (core m ≡ c)
of_back c past h = let w = core_of c (reverse past) h in (w.0, has_reverse w.0 past w.1, w.2)

pub to_back : (m : Message) (past : List Message) → Has m past → Member (cores (reverse past)) (core m)
to_back m past h = has_core m (reverse past) (has_back m past h)

pub new_here : {past : List Message} {v : Message} → Released past → Ready past v → has_id v.stamp.id (cores (reverse past)) ≡ None
new_here {past} {v} r k = at (has_id v.stamp.id (cores (reverse past))) refl
  where
    at : (o : Option Core) → has_id v.stamp.id (cores (reverse past)) ≡ o → has_id v.stamp.id (cores (reverse past)) ≡ None
    at None e = e
    at (Some n) e =
        let w = found_member v.stamp.id (cores (reverse past)) e in
        let m = of_back n past w.0 in
        let same : v.stamp.id ≡ m.0.stamp.id = w.1 ∙ ap (λ (c : Core). c.id) (sym m.2) in
        absurd (clash v past m.0 (k, r) m.1 (ap (λ (i : Id). i.site) same) (ap (λ (i : Id). i.seq) same))

pub one_each_back : (past : List Message) → Released past → OneEach (cores (reverse past))
one_each_back [] r = tt
one_each_back (m ∷ past) r = subst OneEach (sym (back_push m past)) (one_each_push (cores (reverse past)) (core m) (one_each_back past r.1) (new_here r.1 r.0))

pub count_reds : (past : List Message) → ((m : Message) → Has m past → is_red m.shadow ≡ nat_lt 0 m.stamp.red) → count is_red (cores (reverse past)) ≡ reds past
count_reds [] h = refl
count_reds (m ∷ past) h =
    ap (count is_red) (back_push m past) ∙ count_push is_red (cores (reverse past)) (core m)
    ∙ (λ i. count_reds past (λ u k. h u (inr k)) i + cond (h m (inl refl) i) 1 0)

-- the next red number, or 0
pub number_is : (n c : ℕ) (b : Bool) → b ≡ nat_lt 0 n → (0 < n → n ≡ c + 1) → n ≡ cond b (c + 1) 0
number_is n c true e k = k (ltb-true 0 n (sym e))
number_is n c false e k = (let l = ltb-false 0 n (sym e) in omega (arith, l))

-- ---- what a sound world knows of each message
pub colour : (w : World) (v : Message) → Sound w → Sent w v → is_red v.shadow ≡ nat_lt 0 v.stamp.red
colour w v s b = (foundation w v s b).decided.colour

pub red_positive : {w : World} (v : Message) → Sound w → Sent w v → is_red v.shadow ≡ true → 0 < v.stamp.red
red_positive {w} v s b e = ltb-true 0 v.stamp.red (sym (colour w v s b) ∙ e)

pub one_red : {w : World} (past : List Message) → Sound w → ((x : Message) → Has x past → Sent w x) → OneRed (cores (reverse past))
one_red past s all c d h k e f g =
    let u = of_back c past h in
    let v = of_back d past k in
    let a = all u.0 u.1 in
    let p = red_positive u.0 s a (ap (λ (x : Core). is_red x.shadow) u.2 ∙ e) in
    sym u.2 ∙ ap core (s.reds.single u.0 v.0 a (all v.0 v.1) p (ap (λ (x : Core). x.red) u.2 ∙ g ∙ sym (ap (λ (x : Core). x.red) v.2))) ∙ v.2

-- each red one that stands before a red one precedes it
reds_before : {w : World} {past : List Message} {v : Message} (m : Message) → Sound w → Released past → ((x : Message) → Has x past → Sent w x) → Sent w v
    → Ready past v → is_red v.shadow ≡ true → Has m past → is_red m.shadow ≡ true → Precedes m v
reds_before {past} {v} m s r all b k e h f =
    let a = all m h in
    let p = red_positive m s a f in
    s.reds.ordered m v a b p (omega (arith, red_within past m r h, k.number (red_positive v s b e)))

pub follows : {w : World} {past : List Message} {v : Message} → Sound w → Released past → ((x : Message) → Has x past → Sent w x) → Sent w v → Ready past v
    → Follows (cores (reverse past)) (core v)
follows {w} {past} {v} s r all b k = record {
  new_id = new_here r k;
  next_red = number_is _ _ _ (colour w v s b) (λ l. k.number l ∙ ap (λ n. n + 1) (sym (count_reds past (λ m h. colour w m s (all m h)))));
  fits = fits_on _ _ within (one_each_back _ f.released) (one_each_back past r) (one_red past s all) back f.decided.fits;
  limits = f.decided.limits;
}
  where
    f : Foundation (Sent w) v
    f = foundation w v s b

    within : (c : Core) → Member (cores (reverse f.past)) c → Member (cores (reverse past)) c
    within c h =
        let m = of_back c f.past h in
        let q = (f.exactly m.0).0 m.1 in
        subst (Member (cores (reverse past))) m.2 (to_back m.0 past (there w past m.0 s r all q.0 (seen m.0 s k b q.1)))

    back : is_red v.shadow ≡ true → (c : Core) → Member (cores (reverse past)) c → is_red c.shadow ≡ true → Member (cores (reverse f.past)) c
    back e c h q =
        let m = of_back c past h in
        let p = reds_before m.0 s r all b k e m.1 (ap (λ (x : Core). is_red x.shadow) m.2 ∙ q) in
        subst (Member (cores (reverse f.past))) m.2 (to_back m.0 f.past ((f.exactly m.0).1 (all m.0 m.1, p)))

-- ---- so the whole log is checked
pub checked_end : (before xs : List Core) {m : Core} → CheckedFrom before xs → Follows (before ++ xs) m → CheckedFrom before (xs ++ m ∷ [])
checked_end before [] {m} c f = (subst (λ l. Follows l m) (search Rattle.std.proofs.Common.rules) f, tt)
checked_end before (x ∷ xs) {m} c f = (c.0, checked_end (before ++ x ∷ []) xs c.1 (subst (λ l. Follows l m) (sym (append_assoc before (x ∷ []) xs)) f))

pub checked_back : {w : World} (past : List Message) → Sound w → Released past → ((x : Message) → Has x past → Sent w x) → Checked (cores (reverse past))
checked_back [] s r all = tt
checked_back (m ∷ past) s r all = subst Checked (sym (back_push m past))
    (checked_end [] _ (checked_back past s r.1 (λ x h. all x (inr h))) (follows s r.1 (λ x h. all x (inr h)) (all m (inl refl)) r.0))

pub log_checked : {w : World} (i : ℕ) → Sound w → Checked (cores (site w i).log)
log_checked {w} i s = subst (λ l. Checked (cores l)) (reverse-reverse (site w i).log) (checked_back _ s (s.good i).released (s.good i).log_sent)

-- ---- what is decided at a site of a sound world fits there, and is within the limits

-- ---- limits
item_limit : (x : Shadow) {n : NewItem} → as_item x ≡ Some n → IsLimited x → n.cat < 1000
item_limit (Shadow.Item k) {n} e l = subst (λ (z : NewItem). z.cat < 1000) (let p : k ≡ n = cc in p) l.1.cat
item_limit x e l = absurd cc

cat_small : {w : World} (i : ℕ) (j : Id) {c : ℕ} → Sound w → option_map (λ (n : NewItem). n.cat) (item_at j (cores (site w i).log)) ≡ Some c → c < 1000
cat_small {w} i j {c} s h = at (item_at j (cores (site w i).log)) refl h
  where
    at : (o : Option NewItem) → item_at j (cores (site w i).log) ≡ o → option_map (λ (n : NewItem). n.cat) o ≡ Some c → c < 1000
    at None e k = absurd cc
    at (Some n) e k =
        let f = found_at (λ (m : Core). as_item m.shadow) j (cores (site w i).log) e in
        let m = core_of f.0 (site w i).log f.1 in
        let there : Sent w m.0 = (s.good i).log_sent m.0 (has_back m.0 (site w i).log m.1) in
        let l = item_limit m.0.shadow (ap (λ (c : Core). as_item c.shadow) m.2 ∙ f.3) (foundation w m.0 s there).decided.limits in
        let p : n.cat ≡ c = cc in
        omega (arith, l, p)

pub counted_short : (j : ℕ) (xs : List Message) → counted j xs ≤ length xs
counted_short j [] = omega arith
counted_short j (m ∷ xs) = let l = counted_short j xs in grind (arith, nat_tests, l)

pub reds_short : (xs : List Message) → reds xs ≤ length xs
reds_short [] = omega arith
reds_short (m ∷ xs) = let l = reds_short xs in grind (arith, nat_tests, l)

-- the id of a message of a log
logged_id : {w : World} (i : ℕ) (m : Message) → Sound w → length (site w i).log ≤ 1000000 → Has m (site w i).log → IsId (length w.sites) m.stamp.id
logged_id {w} i m s short h =
    let b = has_back m (site w i).log h in
    let k = seq_within (reverse (site w i).log) m (s.good i).released b in
    let c = counted_reverse m.stamp.id.site (site w i).log in
    let l = counted_short m.stamp.id.site (site w i).log in
    record { site = s.home.origin m ((s.good i).log_sent m b); positive = k.0; small = omega (arith, k.1, c, l, short) }

bid_id : {w : World} (i : ℕ) (j : Id) → Sound w → length (site w i).log ≤ 1000000
    → IfSome (option_map (λ (m : Core). m.id) (best_bid j (cores (site w i).log))) (IsId (length w.sites))
bid_id {w} i j s short = at (best_bid j (cores (site w i).log)) (choose_is higher_ranks (λ m. bids_on j m.shadow) (cores (site w i).log))
  where
    at : (o : Option Core) → IsChoice higher (λ m. bids_on j m.shadow) (cores (site w i).log) o
        → IfSome (option_map (λ (m : Core). m.id) o) (IsId (length w.sites))
    at None h = tt
    at (Some m) h =
        let u = core_of m (site w i).log h.there in subst (IsId (length w.sites)) (ap (λ (c : Core). c.id) u.2) (logged_id i u.0 s short u.1)

-- ---- at a site of a sound world
module _ (keep : ℕ) (few : keep ≤ 1000000) (w : World) (i : ℕ) (s : Sound w) where
  Allows : Ask → Shadow → Type 0
  Allows ask x = decision (rows_at (site w i).log) (standing_of keep (site w i)) ask ≡ Ok x

  short : (ask : Ask) (x : Shadow) → Allows ask x → length (site w i).log ≤ 1000000
  unfolding Allows
  short ask x e = let l = leb-false keep _ (not_full (rows_at (site w i).log) (standing_of keep (site w i)) ask x e) in omega (arith, l, few)

  fitting : (ask : Ask) {x : Shadow} → Allows ask x → Fits (cores (site w i).log) x
  unfolding Allows
  fitting ask {x} e =
      let c = log_checked i s in
      let l : length (cores (site w i).log) ≤ 2 ^ 32 = (let a = short ask x e in let b = cores_length (site w i).log in omega (arith, a, b)) in
      decided_fits (rows_at (site w i).log) (cores (site w i).log) (fold_is_meaning (cores (site w i).log) c l).0.rows (standing_of keep (site w i)) ask x
      (checked_holds (cores (site w i).log) c) e

  pub in_limits : (ask : Ask) (x : Shadow) → IsAsk (length w.sites) ask → decision (rows_at (site w i).log) (standing_of keep (site w i)) ask ≡ Ok x
      → InLimits (length w.sites) x
  unfolding Allows
  in_limits ask x l e =
      let p = (granted (rows_at (site w i).log) (standing_of keep (site w i)) ask x e).1 in
      subst (InLimits (length w.sites)) p
      (shadow_limits (length w.sites) (rows_at (site w i).log) (standing_of keep (site w i)) ask
      (granted (rows_at (site w i).log) (standing_of keep (site w i)) ask x e).0 l (λ c same asks.
      let f = by_kind (cores (site w i).log) (closing (rows_at (site w i).log) c.item)
      (subst (λ a. Fits (cores (site w i).log) (shadow_of (rows_at (site w i).log) a)) same (subst (Fits (cores (site w i).log)) (sym p) (fitting ask e))) in
      (asks.0, cat_small i c.item s f.0, subst (λ o. IfSome o (IsId (length w.sites))) (sym f.2) (bid_id i c.item s (short ask x e)))))

  pub decided : (ask : Ask) (x : Shadow) → IsAsk (length w.sites) ask → decision (rows_at (site w i).log) (standing_of keep (site w i)) ask ≡ Ok x
      → is_red x ≡ nat_lt 0 (red_for x (site w i).held)
      → Decided (reverse (site w i).log) (made (place keep w i) (site w i) x)
  unfolding Allows
  decided ask x l e c = record {
    fits = subst (λ k. Fits (cores k) x) (sym (reverse-reverse (site w i).log)) (fitting ask e);
    limits = (length w.sites, in_limits ask x l e);
    colour = c;
  }
