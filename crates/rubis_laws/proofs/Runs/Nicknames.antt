-- Along the order of the red messages of a run no nickname has two users: that order is the red part of the log of the site
-- that made the last of them.
use Rattle.std.proofs.lemmas.Bool.{lt-ltb}
use Rattle.rubis_laws.proofs.Common.{◌≡◌, ◌∙◌, ℕ, ◌+◌, ◌<◌, zero, suc, Bool, true, false, cond, List, [], ◌∷◌, ◌++◌, length, length-append, refl, sym, ap}
use Rattle.rubis_laws.proofs.Common.{subst, inl, inr, ⊎_elim, arith, ◌⊎◌, nat_lt, option_map, reverse, option_or, ltb-true, length-reverse, reverse-append}
use Rattle.rubis_laws.proofs.Common.{true≢false, same_id, Id, is_red, Shadow, User, Rename, Message, Unique, Sent, Core, core, cores, as_user, choice}
use Rattle.rubis_laws.proofs.Common.{last_rename, later, nick_after, nick_at, renames, user_at, when, Released, Has, reds, Sound, World, site, run, start}
use Rattle.rubis_laws.proofs.Common.{has_right, has_append, has_reverse}
use Rattle.rubis_model.specs.Laws.{AreFirstReds, AreNumberedFrom, NicknamesAreUnique, RedsAreInOneOrder}
use Rattle.rubis_laws.proofs.Rows.Cores.{back_push}
use Rattle.rubis_laws.proofs.Runs.Delivering.{split_at}
use Rattle.rubis_laws.proofs.Runs.Invariants.{checked_holds}
use Rattle.rubis_laws.proofs.Order.Deciding.{checked_back, colour}
use Rattle.rubis_laws.proofs.Rows.Nicks.{no_user, no_rename, gives_nick, last_push_not}
use Rattle.rubis_laws.proofs.Rows.Sets.{at_id_push, at_id_push_not, choose_push}
use Rattle.rubis_laws.proofs.Runs.EveryRun.{every_order, sound_run}
use Rattle.rubis_laws.proofs.Lacking.InOrder.{released_drop}

-- ---- messages in the order of their red numbers

numbered_push : (n : ℕ) (ms : List Message) (m : Message) → AreNumberedFrom n ms → m.stamp.red ≡ n + length ms + 1 → AreNumberedFrom n (ms ++ m ∷ [])
numbered_push n [] m a e = (e ∙ omega arith, tt)
numbered_push n (x ∷ ms) m a e = (a.0, numbered_push (n + 1) ms m a.1 (e ∙ omega arith))

-- two such lists of one length are one, where a red number is one message's
same_numbered : {w : World} (s : Sound w) (n : ℕ) (xs ys : List Message) → ((m : Message) → Has m xs → Sent w m) → ((m : Message) → Has m ys → Sent w m)
    → AreNumberedFrom n xs → AreNumberedFrom n ys → length xs ≡ length ys → xs ≡ ys
same_numbered s n [] [] a b p q e = refl
same_numbered s n [] (y ∷ ys) a b p q e = absurd (omega (arith, e))
same_numbered s n (x ∷ xs) [] a b p q e = absurd (omega (arith, e))
same_numbered s n (x ∷ xs) (y ∷ ys) a b p q e =
    let one : x ≡ y = s.reds.single x y (a x (inl refl)) (b y (inl refl)) (omega (arith, p.0)) (p.0 ∙ sym q.0) in
    let rest = same_numbered s (n + 1) xs ys (λ m h. a m (inr h)) (λ m h. b m (inr h)) p.1 q.1 (omega (arith, e)) in
    λ i. one i ∷ rest i

-- the last of them
last_numbered : (n : ℕ) (x : Message) (xs : List Message) → AreNumberedFrom n (x ∷ xs) → (m : Message) × (Has m (x ∷ xs)) × (m.stamp.red ≡ n + length (x ∷ xs))
last_numbered n x [] a = (x, inl refl, a.0)
last_numbered n x (y ∷ ys) a = let k = last_numbered (n + 1) y ys a.1 in (k.0, inr k.1, k.2 ∙ omega arith)

-- ---- the red ones of what was released, newest first

red_only : List Message → List Message
red_only [] = []
red_only (m ∷ past) = cond (nat_lt 0 m.stamp.red) (m ∷ red_only past) (red_only past)

only_within : (past : List Message) (x : Message) → Has x (red_only past) → Has x past
unfolding red_only
only_within [] x h = h
only_within (m ∷ past) x h = at (nat_lt 0 m.stamp.red) (λ k. only_within past x k) h
  where
    at : (b : Bool) → (Has x (red_only past) → Has x past) → Has x (cond b (m ∷ red_only past) (red_only past)) → (x ≡ m) ⊎ Has x past
    at true rest (inl e) = inl e
    at true rest (inr k) = inr (rest k)
    at false rest k = inr (rest k)

only_many : (past : List Message) → length (red_only past) ≡ reds past
unfolding red_only
only_many [] = refl
only_many (m ∷ past) = at (nat_lt 0 m.stamp.red) (only_many past)
  where
    at : (b : Bool) → length (red_only past) ≡ reds past → length (cond b (m ∷ red_only past) (red_only past)) ≡ reds past + cond b 1 0
    at true e = omega (arith, e)
    at false e = omega (arith, e)

only_numbered : (past : List Message) → Released past → AreNumberedFrom 0 (reverse (red_only past))
unfolding red_only
only_numbered [] r = tt
only_numbered (m ∷ past) r = at (nat_lt 0 m.stamp.red) refl (only_numbered past r.1)
  where
    at : (b : Bool) → nat_lt 0 m.stamp.red ≡ b → AreNumberedFrom 0 (reverse (red_only past)) →
        AreNumberedFrom 0 (reverse (cond b (m ∷ red_only past) (red_only past)))
    at true e rest = subst (AreNumberedFrom 0) (sym (reverse-append (m ∷ []) (red_only past)))
        (numbered_push 0 _ m rest (omega (arith, r.0.number (ltb-true 0 m.stamp.red e), only_many past, length-reverse (red_only past))))
    at false e rest = rest

-- ---- blue ones give no nickname

blue_gives_none : (x : Shadow) → is_red x ≡ false → gives_nick x ≡ false
blue_gives_none (User n) e = absurd (true≢false e)
blue_gives_none (Rename r) e = absurd (true≢false e)
blue_gives_none x e = refl

-- the two lists say the same of the user
record SaySame (u : Id) (a b : List Core) : Type 0 where
  given : user_at u a ≡ user_at u b
  renamed : last_rename u a ≡ last_rename u b

say_push : {u : Id} {a b : List Core} (m : Core) → SaySame u a b → SaySame u (a ++ m ∷ []) (b ++ m ∷ [])
say_push {u} {a} {b} m s = record {
  given = at_id_push (λ n. as_user n.shadow) u a m ∙ ap (λ o. option_or o (when (same_id u m.id) (as_user m.shadow))) s.given
      ∙ sym (at_id_push (λ n. as_user n.shadow) u b m);
  renamed = choose_push later (λ n. renames u n.shadow) a m ∙ ap (λ o. choice later (λ n. renames u n.shadow) o m) s.renamed
      ∙ sym (choose_push later (λ n. renames u n.shadow) b m);
}

say_skip : {u : Id} {a b : List Core} (m : Core) → gives_nick m.shadow ≡ false → SaySame u a b → SaySame u (a ++ m ∷ []) b
say_skip {u} {a} m e s = record {
  given = at_id_push_not (λ n. as_user n.shadow) u a m (no_user m.shadow e) ∙ s.given;
  renamed = last_push_not u a m (no_rename u m.shadow e) ∙ s.renamed;
}

reds_say : {w : World} (s : Sound w) (u : Id) (past : List Message) → ((m : Message) → Has m past → Sent w m)
    → SaySame u (cores (reverse past)) (cores (reverse (red_only past)))
unfolding red_only
reds_say s u [] all = record { given = refl; renamed = refl }
reds_say {w} s u (m ∷ past) all = at (nat_lt 0 m.stamp.red) refl (reds_say s u past (λ x h. all x (inr h)))
  where
    at : (b : Bool) → nat_lt 0 m.stamp.red ≡ b → SaySame u (cores (reverse past)) (cores (reverse (red_only past)))
        → SaySame u (cores (reverse (m ∷ past))) (cores (reverse (cond b (m ∷ red_only past) (red_only past))))
    at true e rest =
        subst (λ l. SaySame u (cores (reverse (m ∷ past))) l) (sym (back_push m (red_only past)))
        (subst (λ l. SaySame u l (cores (reverse (red_only past)) ++ core m ∷ [])) (sym (back_push m past))
        (say_push (core m) rest))
    at false e rest =
        subst (λ l. SaySame u l (cores (reverse (red_only past)))) (sym (back_push m past))
        (say_skip (core m) (blue_gives_none m.shadow (colour w m s (all m (inl refl)) ∙ e)) rest)

-- ---- the law

module _ (w : World) (s : Sound w) where
  unique_back : (past : List Message) → Released past → ((m : Message) → Has m past → Sent w m) → Unique (λ u. nick_at u (cores (reverse past)))
  unique_back past r all = (checked_holds (cores (reverse past)) (checked_back past s r all)).nicks

  -- of the log of the site that made m, up to m
  unique_upto : (ms front back : List Message) (m : Message) → Released (front ++ m ∷ back) → ((x : Message) → Has x (front ++ m ∷ back) → Sent w x)
      → AreFirstReds w ms → m.stamp.red ≡ length ms → 0 < length ms → Unique (λ u. nick_at u (cores ms))
  unique_upto ms front back m r all first e some = λ n u v p q.
      let past = m ∷ back in
      let rest = released_drop front past r in
      let within : (x : Message) → Has x past → Sent w x = λ x h. all x (has_right x front past h) in
      let red : nat_lt 0 m.stamp.red ≡ true = lt-ltb 0 m.stamp.red (omega (arith, e, some)) in
      let counts : reds past ≡ reds back + 1 = ap (λ b. reds back + cond b 1 0) red in
      let many : length ms ≡ length (reverse (red_only past)) =
      omega (arith, e, rest.0.number (omega (arith, e, some)), counts, only_many past, length-reverse (red_only past)) in
      let same : ms ≡ reverse (red_only past) = same_numbered s 0 ms (reverse (red_only past)) first.sent
      (λ x h. within x (only_within past x (has_reverse x (red_only past) h))) first.numbered (only_numbered past rest) many in
      let as_there : (z : Id) → nick_at z (cores ms) ≡ nick_at z (cores (reverse past)) = λ z. let k = reds_say s z past within in
      ap (λ l. nick_at z (cores l)) same ∙ (λ i. option_map (nick_after (sym k.renamed i)) (sym k.given i)) in
      unique_back past rest within n u v (sym (as_there u) ∙ p) (sym (as_there v) ∙ q)

  unique_first : (ms : List Message) → AreFirstReds w ms → Unique (λ u. nick_at u (cores ms))
  unique_first [] first = λ n u v p q. absurd cc
  unique_first (x ∷ xs) first =
      let last = last_numbered 0 x xs first.numbered in
      let a = first.sent last.0 last.1 in
      let o = last.0.stamp.id.site in
      let at = split_at last.0 (reverse (site w o).log) (s.home.home last.0 a) in
      unique_upto (x ∷ xs) at.0 at.1 last.0 (subst Released at.2 (s.good o).released) (λ y h. (s.good o).log_sent y (subst (Has y) (sym at.2) h)) first
      (omega (arith, last.2)) (omega arith)

pub nicknames_are_unique : NicknamesAreUnique
nicknames_are_unique n keep events some few a ms first = unique_first (run keep events (start n)) (sound_run events some few a) ms first

pub reds_are_in_one_order : RedsAreInOneOrder
reds_are_in_one_order n keep events some few a zero l = ([], record { sent = λ m h. absurd h; numbered = tt }, refl)
reds_are_in_one_order n keep events some few a (suc k) l =
    let before = reds_are_in_one_order n keep events some few a k (omega (arith, l)) in
    let next = (every_order n keep events some few a).numbered (suc k) (omega arith) l in (
      before.0 ++ next.0 ∷ [],
      record {
        sent = λ m h. ⊎_elim (λ q. before.1.sent m q) (λ q. ⊎_elim (λ e. subst (λ x. Sent (run keep events (start n)) x) (sym e) next.1) (λ z. absurd z) q)
            (has_append m before.0 (next.0 ∷ []) h);
        numbered = numbered_push 0 before.0 next.0 before.1.numbered (next.2 ∙ omega (arith, before.2));
      },
      length-append before.0 (next.0 ∷ []) ∙ omega (arith, before.2),
    )
