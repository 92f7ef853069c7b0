-- What one more message does to nicknames, and who has one.
use Rattle.std.proofs.lemmas.Bool.{lt-ltb}
use Rattle.rubis_laws.proofs.Common.{ℕ, ◌≡◌, ◌≤◌, ◌<◌, List, [], ◌∷◌, ◌++◌, Bool, true, false, cond, refl, sym, ap, ◌∙◌, subst, arith, Option, Some, None, ◌&&◌}
use Rattle.rubis_laws.proofs.Common.{option_map, IfSome, IsSome, is_some, option_or, bytes_decides, true≢false, Id, NewRename, Shadow, User, Rename, Core, Row}
use Rattle.rubis_laws.proofs.Common.{same_id, when, user_at, as_user, choice, choose, earlier, later, last_rename, nick_after, nick_at, renames, is_same_nick}
use Rattle.rubis_laws.proofs.Common.{named, has_id, Unique, Decides-same_id}
use Rattle.rubis_laws.proofs.Rows.Sets.{Head, msg, choose_push, choice_not, or_none, at_id_push_not, at_id_push, none_at, Member, found_member}
use Rattle.rubis_laws.proofs.Rows.Choices.{earlier_ranks, choose_is, IsChoice}

-- ---- one more message

-- a nickname given where the test is true
abbrev pub given : Bool → List ℕ → Option (List ℕ) → Option (List ℕ)
given b k o = cond b (Some k) o

pub last_push_not : (u : Id) (a : List Core) (m : Core) → renames u m.shadow ≡ false → last_rename u (a ++ m ∷ []) ≡ last_rename u a
last_push_not u a m e = choose_push later (λ n. renames u n.shadow) a m ∙ choice_not later (λ n. renames u n.shadow) _ m e

last_choice : {n : ℕ} (u : Id) (o : Option Core) (m : Core) → renames u m.shadow ≡ true → n < m.red → IfSome o (λ x. x.red ≤ n)
    → choice later (λ k. renames u k.shadow) o m ≡ Some m
last_choice u None m e l h = ap (λ b. cond b (Some m) None) e
last_choice u (Some old) m e l h = λ j. cond (e j && lt-ltb old.red m.red (omega (arith, l, h)) j) (Some m) (Some old)

-- a rename with a greater red number is the last one
last_push : (n : ℕ) (u : Id) (a : List Core) (m : Core) → renames u m.shadow ≡ true → n < m.red → IfSome (last_rename u a) (λ x. x.red ≤ n)
    → last_rename u (a ++ m ∷ []) ≡ Some m
last_push n u a m e l h = choose_push later (λ k. renames u k.shadow) a m ∙ last_choice u (last_rename u a) m e l h

-- it gives a user a nickname
abbrev pub gives_nick : Shadow → Bool
gives_nick (User n) = true
gives_nick (Rename r) = true
gives_nick x = false

pub no_user : (x : Shadow) → gives_nick x ≡ false → as_user x ≡ None
no_user (User n) e = absurd (true≢false e)
no_user x e = refl

pub no_rename : (u : Id) (x : Shadow) → gives_nick x ≡ false → renames u x ≡ false
no_rename u (Rename r) e = absurd (true≢false e)
no_rename u x e = refl

-- a message that names neither a new user nor this one
nick_push_not : (u : Id) (a : List Core) (m : Core) → as_user m.shadow ≡ None → renames u m.shadow ≡ false → nick_at u (a ++ m ∷ []) ≡ nick_at u a
nick_push_not u a m e r = λ j. option_map (nick_after (last_push_not u a m r j)) (at_id_push_not (λ n. as_user n.shadow) u a m e j)

-- after a message that gives none, each user has the nickname that it had
pub keeps_nicks : (u : Id) (a : List Core) (m : Core) → gives_nick m.shadow ≡ false → nick_at u (a ++ m ∷ []) ≡ nick_at u a
keeps_nicks u a m e = nick_push_not u a m (no_user m.shadow e) (no_rename u m.shadow e)

pub nick_push_user : (v : Id) (a : List Core) (s : Head) (k : List ℕ) → user_at s.id a ≡ None → last_rename s.id a ≡ None
    → nick_at v (a ++ msg s (User k) ∷ []) ≡ given (same_id v s.id) k (nick_at v a)
nick_push_user v a s k e r =
    (λ j. option_map (nick_after (last_push_not v a (msg s (User k)) refl j)) (at_id_push (λ n. as_user n.shadow) v a (msg s (User k)) j))
    ∙ at (same_id v s.id) refl
  where
    at : (b : Bool) → same_id v s.id ≡ b → option_map (nick_after (last_rename v a)) (option_or (user_at v a) (when b (Some k))) ≡ given b k (nick_at v a)
    at true h = subst (λ w. option_map (nick_after (last_rename w a)) (option_or (user_at w a) (Some k)) ≡ Some k) (sym ((Decides-same_id v s.id).0 h))
        (λ j. option_map (nick_after (r j)) (option_or (e j) (Some k)))
    at false h = ap (option_map (nick_after (last_rename v a))) (or_none (user_at v a))

pub nick_push_rename : {n : ℕ} (v : Id) (a : List Core) (s : Head) (r : NewRename) → IsSome (user_at r.user a) → n < s.red
    → IfSome (last_rename v a) (λ x. x.red ≤ n) → nick_at v (a ++ msg s (Rename r) ∷ []) ≡ given (same_id v r.user) r.to (nick_at v a)
nick_push_rename {n} v a s r i l h = at (same_id v r.user) refl
  where
    mapped : (o : Option (List ℕ)) → IsSome o → option_map (nick_after (Some (msg s (Rename r)))) o ≡ Some r.to
    mapped None e = absurd (true≢false (sym e))
    mapped (Some k) e = refl

    at : (b : Bool) → same_id v r.user ≡ b → nick_at v (a ++ msg s (Rename r) ∷ []) ≡ given b r.to (nick_at v a)
    at true e =
        (λ j. option_map (nick_after (last_push n v a (msg s (Rename r)) e l h j)) (at_id_push_not (λ n. as_user n.shadow) v a (msg s (Rename r)) refl j))
        ∙ mapped (user_at v a) (subst (λ w. IsSome (user_at w a)) (sym ((Decides-same_id v r.user).0 e)) i)
    at false e = nick_push_not v a (msg s (Rename r)) refl e

-- ---- current nicknames are unique

abbrev pub Free : List ℕ → (Id → Option (List ℕ)) → Type 0
Free n o = (v : Id) → o v ≡ Some n → ⊥

pub unique_given : (o p : Id → Option (List ℕ)) (w : Id) {n : List ℕ} → ((v : Id) → p v ≡ given (same_id v w) n (o v)) → Unique o → Free n o → Unique p
unique_given o p w {n} e h f k u v a b = at (same_id u w) refl (same_id v w) refl (sym (e u) ∙ a) (sym (e v) ∙ b)
  where
    at : (c : Bool) → same_id u w ≡ c → (d : Bool) → same_id v w ≡ d → given (same_id u w) n (o u) ≡ Some k → given (same_id v w) n (o v) ≡ Some k
        → u ≡ v
    at true c true d x y = (Decides-same_id u w).0 c ∙ sym ((Decides-same_id v w).0 d)
    at true c false d x y =
        let z : Some n ≡ Some k = ap (λ t. given t n (o u)) (sym c) ∙ x in
        absurd (f v (ap (λ t. given t n (o v)) (sym d) ∙ y ∙ sym z))
    at false c true d x y =
        let z : Some n ≡ Some k = ap (λ t. given t n (o v)) (sym d) ∙ y in
        absurd (f u (ap (λ t. given t n (o u)) (sym c) ∙ x ∙ sym z))
    at false c false d x y = h k u v (ap (λ t. given t n (o u)) (sym c) ∙ x) (ap (λ t. given t n (o v)) (sym d) ∙ y)

-- ---- who has it

mapped_some : (f : Option Core) (o : Option (List ℕ)) → IsSome (option_map (nick_after f) o) → IsSome o
mapped_some f None e = e
mapped_some f (Some k) e = refl

some_mapped : (f : Option Core) (o : Option (List ℕ)) → IsSome o → IsSome (option_map (nick_after f) o)
some_mapped f None e = e
some_mapped f (Some k) e = refl

pub nick_user : (u : Id) (a : List Core) → IsSome (nick_at u a) → IsSome (user_at u a)
nick_user u a e = mapped_some (last_rename u a) (user_at u a) e

pub some_nick : (u : Id) (a : List Core) {n : List ℕ} → nick_at u a ≡ Some n → IsSome (user_at u a)
some_nick u a e = nick_user u a (ap is_some e)

pub nick_some : (u : Id) (a : List Core) → IsSome (user_at u a) → IsSome (nick_at u a)
nick_some u a e = some_mapped (last_rename u a) (user_at u a) e

pub nick_none : (u : Id) (a : List Core) → user_at u a ≡ None → nick_at u a ≡ None
nick_none u a e = ap (option_map (nick_after (last_rename u a))) e

pub is_nick_of : {n : List ℕ} (o : Option (List ℕ)) → is_same_nick n o ≡ true → o ≡ Some n
is_nick_of None e = absurd (true≢false (sym e))
is_nick_of {n} (Some k) e = ap Some (sym ((bytes_decides n k).0 e))

pub is_nick_at : {n : List ℕ} {o : Option (List ℕ)} → o ≡ Some n → is_same_nick n o ≡ true
is_nick_at {n} e = ap (is_same_nick n) e ∙ (bytes_decides n n).1 refl

member_with : (v : Id) (a : List Core) → IsSome (user_at v a) → (m : Core) × Member a m × (v ≡ m.id)
member_with v a s = at (has_id v a) refl
  where
    at : (o : Option Core) → has_id v a ≡ o → (m : Core) × Member a m × (v ≡ m.id)
    at None e = absurd (true≢false (sym s ∙ (λ j. is_some (none_at (λ m. as_user m.shadow) v a e j))))
    at (Some m) e = let w = found_member v a e in (m, w.0, w.1)

abbrev pub has : List ℕ → List Core → Core → Bool
has n a m = is_same_nick n (nick_at m.id a)

pub not_named : {n : List ℕ} (a : List Core) → named n a ≡ None → Free n (λ v. nick_at v a)
not_named {n} a e v h =
    let w = member_with v a (some_nick v a h) in
    true≢false (sym (is_nick_at (subst (λ u. nick_at u a ≡ Some n) w.2 h))
    ∙ subst (IsChoice earlier (has n a) a) e (choose_is earlier_ranks (has n a) a) w.0 w.1)

pub named_none : {n : List ℕ} (a : List Core) → Free n (λ v. nick_at v a) → named n a ≡ None
named_none {n} a f = at (named n a) (choose_is earlier_ranks (has n a) a)
  where
    at : (o : Option Core) → IsChoice earlier (has n a) a o → o ≡ None
    at None h = refl
    at (Some m) h = absurd (f m.id (is_nick_of (nick_at m.id a) h.passes))

abbrev pub named_row : Option Core → Option Row
named_row o = option_map (λ m. Row.Nick m.id) o

pub named_is : {n : List ℕ} (a : List Core) {u : Id} → Unique (λ v. nick_at v a) → nick_at u a ≡ Some n → named_row (named n a) ≡ Some (Row.Nick u)
named_is {n} a {u} h e = at (named n a) refl (choose_is earlier_ranks (has n a) a)
  where
    at : (o : Option Core) → named n a ≡ o → IsChoice earlier (has n a) a o → named_row o ≡ Some (Row.Nick u)
    at None q k = absurd (not_named {n = n} a q u e)
    at (Some m) q k = ap (λ i. Some (Row.Nick i)) (h n m.id u (is_nick_of {n = n} (nick_at m.id a) k.passes) e)

pub named_same : (n : List ℕ) (a : List Core) (m : Core) → ((v : Id) → is_same_nick n (nick_at v (a ++ m ∷ [])) ≡ is_same_nick n (nick_at v a))
    → nick_at m.id a ≡ None → named n (a ++ m ∷ []) ≡ named n a
named_same n a m e h = choose_push _ _ a m ∙ choice_not _ _ _ m (e m.id ∙ ap (is_same_nick n) h) ∙ (λ j. choose earlier (λ k. e k.id j) a)
