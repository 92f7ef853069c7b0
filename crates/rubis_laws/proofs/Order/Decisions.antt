-- The shadow of an ask that isn't refused fits the log whose rows it was decided against.
use Rattle.rubis_laws.proofs.Common.{ℕ, ◌≡◌, ◌+◌, ◌-◌, ◌≤◌, List, [], false, refl, sym, ap, ◌∙◌, subst, arith, Option, Some, None, nat_lt, is_none, is_some}
use Rattle.rubis_laws.proofs.Common.{option_map, option_and_then, IsSome, IfSome, Ok, option_map_or, nat_tests, true≢false, Id, RowKey, ItemRow, UserRow}
use Rattle.rubis_laws.proofs.Common.{NewItem, Best, Core, Shadow, Standing, Ask, user_at, nick_at, item_at, user_row, item_row, meaning_row, close_of, best_bid}
use Rattle.rubis_laws.proofs.Common.{best_of, sale_after, named, total, sold_of, supply, Fits, Rows, user_in, item_in, is_ended, as_item_row, decision, of_item}
use Rattle.rubis_laws.proofs.Common.{Holds, Row}
use Rattle.rubis_laws.proofs.Rows.Nicks.{nick_user}
use Rattle.rubis_laws.proofs.Order.FitsByKind.{Tells, decided_by_kind, from_kind}
use Rattle.rubis_generate.specs.Decision.{as_user_row}

module _ (t : Rows) (a : List Core) (rows : (q : RowKey) → t q ≡ meaning_row a q) where
  get_item : (i : Id) → t (RowKey.Item i) ≡ option_map (item_row a i) (item_at i a)
  unfolding meaning_row
  get_item i = rows (RowKey.Item i)

  get_user : (i : Id) → t (RowKey.User i) ≡ option_map (user_row a i) (nick_at i a)
  unfolding meaning_row
  get_user i = rows (RowKey.User i)

  get_nick : (n : List ℕ) → t (RowKey.Nick n) ≡ option_map (λ (m : Core). Row.Nick m.id) (named n a)
  unfolding meaning_row
  get_nick n = rows (RowKey.Nick n)

  user_there : (i : Id) → is_none (user_in t i) ≡ false → IsSome (user_at i a)
  user_there i e = nick_user i a (at (nick_at i a) (sym (ap (λ g. is_none (option_and_then as_user_row g)) (get_user i)) ∙ e))
    where
      at : (o : Option (List ℕ)) → is_none (option_and_then as_user_row (option_map (user_row a i) o)) ≡ false → IsSome o
      at None e = absurd (true≢false e)
      at (Some n) e = refl

  nick_there : (i : Id) → is_none (user_in t i) ≡ false → nick_at i a ≡ Some (option_map_or (λ (u : UserRow). u.nick) (user_in t i) [])
  nick_there i e = at (nick_at i a) refl (sym (ap (λ g. is_none (option_and_then as_user_row g)) (get_user i)) ∙ e)
    where
      at : (o : Option (List ℕ)) → nick_at i a ≡ o → is_none (option_and_then as_user_row (option_map (user_row a i) o)) ≡ false
          → nick_at i a ≡ Some (option_map_or (λ (u : UserRow). u.nick) (user_in t i) [])
      at None q e = absurd (true≢false e)
      at (Some n) q e = q ∙ ap Some
          (sym (ap (λ g. option_map_or (λ (u : UserRow). u.nick) (option_and_then as_user_row g) []) (get_user i ∙ ap (option_map (user_row a i)) q)))

  item_there : (i : Id) → is_none (item_in t i) ≡ false → (n : NewItem) × (item_at i a ≡ Some n)
  item_there i e = at (item_at i a) refl (sym (ap (λ g. is_none (option_and_then as_item_row g)) (get_item i)) ∙ e)
    where
      at : (o : Option NewItem) → item_at i a ≡ o → is_none (option_and_then as_item_row (option_map (item_row a i) o)) ≡ false
          → (n : NewItem) × (item_at i a ≡ Some n)
      at None q e = absurd (true≢false e)
      at (Some n) q e = (n, q)

  -- what the tables hold of an item that is there
  item_is : (i : Id) {n : NewItem} → item_at i a ≡ Some n → item_in t i ≡ option_and_then as_item_row (Some (item_row a i n))
  item_is i e = ap (option_and_then as_item_row) (get_item i ∙ ap (option_map (item_row a i)) e)

  shut : (i : Id) (n : NewItem) → item_at i a ≡ Some n → of_item t i (λ r. is_ended r.sale) ≡ false → close_of i a ≡ None
  shut i n e f = at (close_of i a) (sym (ap (λ o. option_map_or (λ (r : ItemRow). is_ended r.sale) o false) (item_is i e)) ∙ f)
    where
      at : (o : Option Core) → is_ended (sale_after o) ≡ false → o ≡ None
      at None e = refl
      at (Some m) e = absurd (true≢false e)

  enough : (h : Holds a) (i : Id) (n : NewItem) (q : ℕ) → item_at i a ≡ Some n → of_item t i (λ r. nat_lt r.stock q) ≡ false
      → IfSome (item_at i a) (λ n. total (sold_of i) a + q ≤ supply a i n)
  enough h i n q e f =
      let k : nat_lt (supply a i n - total (sold_of i) a) q ≡ false = sym (ap (λ o. option_map_or (λ (r : ItemRow). nat_lt r.stock q) o false) (item_is i e))
      ∙ f in
      let s : total (sold_of i) a ≤ supply a i n = subst (λ o. IfSome o (λ n. total (sold_of i) a ≤ supply a i n)) e (h.stock i) in
      subst (λ o. IfSome o (λ n. total (sold_of i) a + q ≤ supply a i n)) (sym e) (room _ _ _ k s)
    where
      room : (st so q : ℕ) → nat_lt (st - so) q ≡ false → so ≤ st → so + q ≤ st
      room st so q k s = grind (arith, nat_tests)

  nick_free : (n : List ℕ) → is_some (t (RowKey.Nick n)) ≡ false → named n a ≡ None
  nick_free n e = at (named n a) (sym (ap (λ g. is_some g) (get_nick n)) ∙ e)
    where
      at : (o : Option Core) → is_some (option_map (λ (m : Core). Row.Nick m.id) o) ≡ false → o ≡ None
      at None e = refl
      at (Some m) e = absurd (true≢false e)

  winner_is : (o : Option Core) → option_map (λ (b : Best). b.bid) (option_map best_of o) ≡ option_map (λ (m : Core). m.id) o
  winner_is None = refl
  winner_is (Some m) = refl

  tells : Holds a → Tells t a
  tells h = record {
    user = user_there;
    nick = nick_there;
    free = nick_free;
    item = item_there;
    unended = shut;
    enough = enough h;
    cat = λ i n e. ap (option_map (λ (n : NewItem). n.cat)) e ∙ ap Some (sym (ap (λ o. option_map_or (λ (r : ItemRow). r.cat) o 0) (item_is i e)));
    winner = λ i n e. ap (λ o. option_and_then (λ (r : ItemRow). option_map (λ (b : Best). b.bid) r.best) o) (item_is i e) ∙ winner_is (best_bid i a);
  }

  pub decided_fits : (s : Standing) (ask : Ask) (x : Shadow) → Holds a → decision t s ask ≡ Ok x → Fits a x
  decided_fits s ask x h e = from_kind a (decided_by_kind (tells h) s ask e)
