-- Stock is never exceeded, a nickname has one user, and a closed item's winner is its highest bid.
use Rattle.rubis_laws.proofs.Common.{◌≡◌, List, [], ◌∷◌, ◌++◌, Bool, true, false, cond, refl, sym, ap, ◌∙◌, subst, Some, None, append_assoc, option_map, IfSome}
use Rattle.rubis_laws.proofs.Common.{Id, Shadow, Bid, Close, Core, same_id, item_at, choice, best_bid, close_of, winner_of, bids_on, closes, higher, earlier}
use Rattle.rubis_laws.proofs.Common.{Follows, CheckedFrom, Checked, Decides-same_id, Holds}
use Rattle.rubis_laws.proofs.Order.FitsByKind.{FitsByKind, by_kind}
use Rattle.rubis_laws.proofs.Rows.Sets.{Head, head_of, msg, choose_push, choice_not}
use Rattle.rubis_laws.proofs.Rows.CheckedLogs.{Good, good_push, good_none, if_some_map}

-- ---- winners
still : (i : Id) (a : List Core) (m : Core) → bids_on i m.shadow ≡ false → closes i m.shadow ≡ false
    → IfSome (close_of i a) (λ c. winner_of c.shadow ≡ option_map (λ (b : Core). b.id) (best_bid i a))
    → IfSome (close_of i (a ++ m ∷ [])) (λ c. winner_of c.shadow ≡ option_map (λ (b : Core). b.id) (best_bid i (a ++ m ∷ [])))
still i a m p q h =
    let b = choose_push higher (λ n. bids_on i n.shadow) a m ∙ choice_not higher (λ n. bids_on i n.shadow) (best_bid i a) m p in
    let c = choose_push earlier (λ n. closes i n.shadow) a m ∙ choice_not earlier (λ n. closes i n.shadow) (close_of i a) m q in
    subst (λ o. IfSome o (λ k. winner_of k.shadow ≡ option_map (λ (z : Core). z.id) (best_bid i (a ++ m ∷ [])))) (sym c)
    (subst (λ o. IfSome (close_of i a) (λ k. winner_of k.shadow ≡ option_map (λ (z : Core). z.id) o)) (sym b) h)

winner_push : (a : List Core) (s : Head) (x : Shadow) → FitsByKind a x →
    ((i : Id) → IfSome (close_of i a) (λ m. winner_of m.shadow ≡ option_map (λ (b : Core). b.id) (best_bid i a))) → (i : Id)
    → IfSome (close_of i (a ++ msg s x ∷ [])) (λ m. winner_of m.shadow ≡ option_map (λ (b : Core). b.id) (best_bid i (a ++ msg s x ∷ [])))
winner_push a s (Bid b) f h i = at (same_id i b.item) refl
  where
    at : (t : Bool) → same_id i b.item ≡ t
        → IfSome (close_of i (a ++ msg s (Bid b) ∷ [])) (λ m. winner_of m.shadow ≡ option_map (λ (b : Core). b.id) (best_bid i (a ++ msg s (Bid b) ∷ [])))
    at true e = subst (λ o. IfSome o (λ m. winner_of m.shadow ≡ option_map (λ (b : Core). b.id) (best_bid i (a ++ msg s (Bid b) ∷ []))))
        (sym (choose_push _ (λ n. closes i n.shadow) a _ ∙ choice_not _ (λ n. closes i n.shadow) _ _ refl ∙ subst (λ j. close_of j a ≡ None)
        (sym ((Decides-same_id i b.item).0 e)) f.2)) tt
    at false e = still i a (msg s (Bid b)) e refl (h i)
winner_push a s (Close c) f h i = at (same_id i c.item) refl
  where
    at : (t : Bool) → same_id i c.item ≡ t
        → IfSome (close_of i (a ++ msg s (Close c) ∷ [])) (λ m. winner_of m.shadow ≡ option_map (λ (b : Core). b.id) (best_bid i (a ++ msg s (Close c) ∷ [])))
    at true e =
        let j = (Decides-same_id i c.item).0 e in
        let gone : close_of i a ≡ None = subst (λ k. close_of k a ≡ None) (sym j) f.1 in
        let won : c.winner ≡ option_map (λ (b : Core). b.id) (best_bid i a) = subst (λ k. c.winner ≡ option_map (λ (b : Core). b.id) (best_bid k a))
        (sym j) f.2 in
        subst (λ o. IfSome o (λ m. winner_of m.shadow ≡ option_map (λ (b : Core). b.id) (best_bid i (a ++ msg s (Close c) ∷ []))))
        (sym (choose_push earlier (λ n. closes i n.shadow) a (msg s (Close c)) ∙ (λ k. choice earlier (λ n. closes i n.shadow) (gone k) (msg s (Close c)))
        ∙ (λ k. cond (e k) (Some (msg s (Close c))) None)))
        (won ∙ ap (option_map (λ (b : Core). b.id))
        (sym (choose_push higher (λ n. bids_on i n.shadow) a (msg s (Close c))
        ∙ choice_not higher (λ n. bids_on i n.shadow) (best_bid i a) (msg s (Close c)) refl)))
    at false e = still i a (msg s (Close c)) refl e (h i)
winner_push a s x f h i = still i a (msg s x) refl refl (h i)

holds_push : (a : List Core) (m : Core) → Good a → Follows a m → Holds a → Holds (a ++ m ∷ [])
holds_push a m g f h = record {
  stock = λ i. if_some_map (item_at i (a ++ m ∷ [])) (λ n s. s.enough) ((good_push g f).stock i);
  nicks = (good_push g f).nicks;
  winner = winner_push a (head_of m) m.shadow (by_kind a m.shadow f.fits) h.winner;
}

holds_from : (a rest : List Core) → Good a → Holds a → CheckedFrom a rest → Holds (a ++ rest)
holds_from a [] g u c = subst Holds (search Rattle.std.proofs.Common.rules) u
holds_from a (m ∷ rest) g u c = subst Holds (append_assoc a (m ∷ []) rest) (holds_from (a ++ m ∷ []) rest (good_push g c.0) (holds_push a m g c.0 u) c.1)

pub checked_holds : (log : List Core) → Checked log → Holds log
checked_holds log c = holds_from [] log good_none (record { stock = λ i. tt; nicks = good_none.nicks; winner = λ i. tt }) c
