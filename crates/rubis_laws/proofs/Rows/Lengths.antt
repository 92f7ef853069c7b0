-- How long a log is.
use Rattle.rubis_laws.proofs.Common.{ℕ, ◌≡◌, ◌+◌, ◌*◌, ◌^◌, ◌≤◌, ◌<◌, zero, suc, cond, List, [], ◌∷◌, length, refl, inl, inr, ⊎_elim, arith, reverse, nat_lt}
use Rattle.rubis_laws.proofs.Common.{◌==◌, cases_lt, nat_tests, length-reverse, Message, IsMessage, counted, Has, Released, found}

-- no site has more messages than the greatest number
counted_small : (past : List Message) (most j : ℕ) → Released past → ((v : Message) → Has v past → v.stamp.id.seq ≤ most) → counted j past ≤ most
counted_small past most j r small = ⊎_elim (λ l. let f = found past j _ r l (omega arith) in let k = small f.0 f.1 in let e = f.3 in omega (arith, k, e))
    (λ l. omega (arith, l)) (cases_lt 0 (counted j past))

-- the messages of the first n sites
counted_all : ℕ → List Message → ℕ
counted_all zero past = 0
counted_all (suc n) past = counted_all n past + counted n past

all_small : (n most : ℕ) (past : List Message) → ((j : ℕ) → counted j past ≤ most) → counted_all n past ≤ n * most
unfolding counted_all
all_small zero most past h = omega arith
all_small (suc n) most past h = let a = all_small n most past h in let b = h n in grind (arith, a, b)

one_more : (s n : ℕ) → cond {A = ℕ} (nat_lt s (suc n)) 1 0 ≡ cond (nat_lt s n) 1 0 + cond (s == n) 1 0
one_more s n = grind (arith, nat_tests)

all_more : (n : ℕ) (m : Message) (past : List Message) → counted_all n (m ∷ past) ≡ counted_all n past + cond (nat_lt m.stamp.id.site n) 1 0
unfolding counted_all
all_more zero m past = grind (arith, nat_tests)
all_more (suc n) m past = let a = all_more n m past in let b = one_more m.stamp.id.site n in omega (arith, a, b)

all_of_them : (n : ℕ) (past : List Message) → ((v : Message) → Has v past → v.stamp.id.site < n) → length past ≤ counted_all n past
all_of_them n [] h = omega arith
all_of_them n (m ∷ past) h =
    let a = all_of_them n past (λ v k. h v (inr k)) in
    let b = all_more n m past in
    let c = within m.stamp.id.site n (h m (inl refl)) in
    omega (arith, a, b, c)
  where
    within : (s n : ℕ) → s < n → cond {A = ℕ} (nat_lt s n) 1 0 ≡ 1
    within s n l = grind (arith, nat_tests)

-- a log of messages that meet the conditions of their type
pub log_small : (log : List Message) → Released (reverse log) → ((v : Message) → Has v (reverse log) → IsMessage v) → length log ≤ 16 * 1000000
log_small log r h =
    let a = all_of_them 16 (reverse log) (λ v k. let s = (h v k).id.site in let t = (h v k).sites in omega (arith, s, t)) in
    let b = all_small 16 1000000 (reverse log) (λ j. counted_small (reverse log) 1000000 j r (λ v k. (h v k).id.small)) in
    let c = length-reverse log in
    omega (arith, a, b, c)

pub log_short : (log : List Message) → Released (reverse log) → ((v : Message) → Has v (reverse log) → IsMessage v) → length log ≤ 2 ^ 32
log_short log r h = let l = log_small log r h in omega (arith, l)
