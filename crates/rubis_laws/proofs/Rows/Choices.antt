-- The chosen message is one that passes and that none beats, so the order of the list doesn't matter.
use Rattle.std.proofs.lemmas.Bool.{le-ltb}
use Rattle.rubis_laws.proofs.Common.{and_parts, ℕ, ◌≡◌, List, [], ◌∷◌, ◌++◌, Bool, true, false, cond, refl, sym, ap, ◌∙◌, subst, arith, Option, Some, None, inl}
use Rattle.rubis_laws.proofs.Common.{⊎_elim, nat_lt, nat_eq, ◌&&◌, ◌||◌, nat_tests, true≢false, Core, choice, choose, earlier, later, higher, amount_of}
use Rattle.rubis_laws.proofs.Rows.Sets.{by_pushes, choose_push, Member, Same, member_append, member_left, member_right}

pub record Ranks (beats : Core → Core → Bool) : Type 0 where
  pub keeps : (n old m : Core) → beats n old ≡ false → beats m old ≡ true → beats n m ≡ false
  pub itself : (m : Core) → beats m m ≡ false

lt_keeps : (n o m : ℕ) → nat_lt n o ≡ false → nat_lt m o ≡ true → nat_lt n m ≡ false
lt_keeps n o m p q = grind (arith, nat_tests)

pub earlier_ranks : Ranks earlier
earlier_ranks = record { keeps = λ n old m. lt_keeps n.red old.red m.red; itself = λ m. le-ltb m.red m.red (omega arith) }

abbrev above : ℕ → ℕ → ℕ → ℕ → Bool
above a r b s = nat_lt b a || (nat_eq a b && nat_lt r s)

above_keeps : (a r b s c t : ℕ) → above a r b s ≡ false → above c t b s ≡ true → above a r c t ≡ false
above_keeps a r b s c t p q = grind (arith, nat_tests)

above_itself : (a r : ℕ) → above a r a r ≡ false
above_itself a r = grind (arith, nat_tests)

pub higher_ranks : Ranks higher
higher_ranks =
    record {
      keeps = λ n old m. above_keeps (amount_of n.shadow) n.red (amount_of old.shadow) old.red (amount_of m.shadow) m.red;
      itself = λ m. above_itself (amount_of m.shadow) m.red;
    }

pub earlier_apart : (m n : Core) → earlier m n ≡ false → earlier n m ≡ false → m.red ≡ n.red
earlier_apart m n p q = at m.red n.red p q
  where
    at : (a b : ℕ) → nat_lt a b ≡ false → nat_lt b a ≡ false → a ≡ b
    at a b p q = grind (arith, nat_tests)

pub later_ranks : Ranks later
later_ranks = record { keeps = λ n old m. gt_keeps n.red old.red m.red; itself = λ m. le-ltb m.red m.red (omega arith) }
  where
    gt_keeps : (n o m : ℕ) → nat_lt o n ≡ false → nat_lt o m ≡ true → nat_lt m n ≡ false
    gt_keeps n o m p q = grind (arith, nat_tests)

pub later_apart : (m n : Core) → later m n ≡ false → later n m ≡ false → m.red ≡ n.red
later_apart m n p q = earlier_apart m n q p

pub higher_apart : (m n : Core) → higher m n ≡ false → higher n m ≡ false → m.red ≡ n.red
higher_apart m n p q = at (amount_of m.shadow) m.red (amount_of n.shadow) n.red p q
  where
    at : (a r b s : ℕ) → above a r b s ≡ false → above b s a r ≡ false → r ≡ s
    at a r b s p q = grind (arith, nat_tests)

pub record IsBest (beats : Core → Core → Bool) (p : Core → Bool) (a : List Core) (m : Core) : Type 0 where
  pub there : Member a m
  pub passes : p m ≡ true
  pub unbeaten : (n : Core) → Member a n → p n ≡ true → beats n m ≡ false

abbrev pub IsChoice : (Core → Core → Bool) → (Core → Bool) → List Core → Option Core → Type 0
IsChoice beats p a None = (n : Core) → Member a n → p n ≡ false
IsChoice beats p a (Some m) = IsBest beats p a m

module _ {beats : Core → Core → Bool} (ranks : Ranks beats) (p : Core → Bool) where
  clash : {P : Type 0} {b : Bool} → b ≡ true → b ≡ false → P
  clash e f = absurd (true≢false (sym e ∙ f))

  last_of : (a : List Core) (m n : Core) (P : Core → Type 0) → (Member a n → P n) → P m → Member (a ++ m ∷ []) n → P n
  last_of a m n P f g h = ⊎_elim f (λ r. ⊎_elim (λ e. subst P e g) (λ z. absurd z) r) (member_append a (m ∷ []) n h)

  choice_is : (a : List Core) (m : Core) (o : Option Core) → IsChoice beats p a o → IsChoice beats p (a ++ m ∷ []) (choice beats p o m)
  choice_is a m None ih = elim (p m) as (λ b. p m ≡ b → IsChoice beats p (a ++ m ∷ []) (cond b (Some m) None)) [
    | true ↦ λ e. record {
      there = member_right a (m ∷ []) m (inl refl);
      passes = e;
      unbeaten = λ n h q. last_of a m n (λ k. p k ≡ true → beats k m ≡ false) (λ l r. clash r (ih n l)) (λ r. ranks.itself m) h q;
    }
    | false ↦ λ e n h. last_of a m n (λ k. p k ≡ false) (ih n) e h
  ] refl
  choice_is a m (Some old) ih = elim (p m && beats m old) as (λ b. (p m && beats m old) ≡ b → IsChoice beats p (a ++ m ∷ []) (cond b (Some m) (Some old))) [
    | true ↦ λ e. record {
      there = member_right a (m ∷ []) m (inl refl);
      passes = (and_parts _ _ e).0;
      unbeaten =
          λ n h q. last_of a m n (λ k. p k ≡ true → beats k m ≡ false) (λ l r. ranks.keeps n old m (ih.unbeaten n l r) (and_parts _ _ e).1)
          (λ r. ranks.itself m) h q;
    }
    | false ↦ λ e. record {
      there = member_left a (m ∷ []) old ih.there;
      passes = ih.passes;
      unbeaten = λ n h q. last_of a m n (λ k. p k ≡ true → beats k old ≡ false) (λ l r. ih.unbeaten n l r) (λ r. not_both _ _ r e) h q;
    }
  ] refl
    where
      not_both : (x y : Bool) → x ≡ true → (x && y) ≡ false → y ≡ false
      not_both true y e f = f
      not_both false y e f = absurd (true≢false (sym e))

  pub choose_is : (a : List Core) → IsChoice beats p a (choose beats p a)
  choose_is a = by_pushes (λ c. IsChoice beats p c (choose beats p c)) (λ n h. absurd h)
      (λ c m ih. subst (IsChoice beats p (c ++ m ∷ [])) (sym (choose_push beats p c m)) (choice_is c m (choose beats p c) ih)) a

  same_choices : (a b : List Core) → Same a b
      → ((m n : Core) → Member a m → Member a n → p m ≡ true → p n ≡ true → beats m n ≡ false → beats n m ≡ false → m ≡ n) →
      (o q : Option Core) → IsChoice beats p a o → IsChoice beats p b q → o ≡ q
  same_choices a b s apart None None h k = refl
  same_choices a b s apart None (Some m) h k = clash k.passes (h m ((s m).1 k.there))
  same_choices a b s apart (Some m) None h k = clash h.passes (k m ((s m).0 h.there))
  same_choices a b s apart (Some m) (Some n) h k =
      ap Some (apart m n h.there ((s n).1 k.there) h.passes k.passes (k.unbeaten m ((s m).0 h.there) h.passes) (h.unbeaten n ((s n).1 k.there) k.passes))

  pub same_choice : (a b : List Core) → Same a b
      → ((m n : Core) → Member a m → Member a n → p m ≡ true → p n ≡ true → beats m n ≡ false → beats n m ≡ false → m ≡ n)
      → choose beats p a ≡ choose beats p b
  same_choice a b s apart = same_choices a b s apart _ _ (choose_is a) (choose_is b)
