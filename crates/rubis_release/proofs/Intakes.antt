-- What an intake keeps, and what its answers rest on.
use Rattle.rubis_release.proofs.Common.{◌≡◌, ℕ, ◌<◌, ◌≤◌, ◌||◌, Option, List, [], ◌∷◌, ◌++◌, length, get_or, inl, inr, refl, sym, ap, ◌∙◌, subst}
use Rattle.rubis_release.proofs.Common.{arith, ◌-◌, cond, nat_lt, nat_le, list_any, eq-eqb, same_id, Id, MessageCounts, Message, IsMessage, sites_of}
use Rattle.rubis_release.proofs.Common.{counted, Settles, Place, Replica, after_came, not_ours, is_repeat, settles_one}
use Rattle.std.proofs.Common.{◌&&◌}
use Rattle.std.specs.Prelude.{Ok, Err}
use Rattle.std.proofs.lemmas.Bool.Decides.{eqb_tells}
use Rattle.rubis_schema.specs.declared.refusals.Refusal.TheVariants.{Full, NotOurs}
use Rattle.rubis_model.specs.Site.{arrival_of, arrived}
use Rattle.rubis_message.specs.declared.answers.Arrival.{Arrival}
use Rattle.rubis_message.specs.declared.answers.Arrival.TheVariants as arrival
use Rattle.rubis_release.specs.Release.{IsAmong, AreKept, clock_of, Messages, HaveSettled, Intake, IsUpToDate, IsAdmitted}
use Rattle.rubis_release.proofs.Keeping.{length_counts, counts_at, is_released, settling_keeps, coming_keeps}

pub among_is : (n : ℕ) (m : Message) → IsMessage m → sites_of m ≡ n → IsAmong n m
among_is n m h e = record
    { conditions = h; counts = e; id = record { site = let l = h.id.site in omega (arith, l, e); positive = h.id.positive; small = h.id.small } }

-- ---- the clock
pub sites_of_clock : (i : Intake) (n : ℕ) (k : MessageCounts) → IsUpToDate i n → k ≡ clock_of n i.state.log → length k.counts ≡ i.place.sites
sites_of_clock i n k h e = ap (λ (x : MessageCounts). length x.counts) e ∙ length_counts n i.state.log ∙ h.sites

pub clock_is : (i : Intake) (n : ℕ) (k : MessageCounts) → IsUpToDate i n → k ≡ clock_of n i.state.log → k ≡ clock_of i.place.sites i.state.log
clock_is i n k h e = e ∙ ap (λ x. clock_of x i.state.log) h.sites

pub count_is : (i : Intake) (n : ℕ) (k : MessageCounts) → IsUpToDate i n → k ≡ clock_of n i.state.log → (j : ℕ) → j < i.place.sites → get_or k.counts j 0
    ≡ counted j i.state.log
count_is i n k h e j l = ap (λ (x : MessageCounts). get_or x.counts j 0) (clock_is i n k h e) ∙ counts_at i.place.sites i.state.log j l

-- ---- the start
pub opening_holds : (p : Place) (m : Messages) (held : Option ℕ) → p.site < p.sites → p.sites ≤ 16 → 1 ≤ p.keep → p.keep ≤ 1000000 → m
    ≡ record { sites = p.sites; log = []; waiting = [] }
    → IsUpToDate (record { place = p; state = record { log = m.log; waiting = m.waiting; held = held; last = 0 } }) m.sites
opening_holds p m held a b some c e =
    subst (λ (x : Messages). IsUpToDate (record { place = p; state = record { log = x.log; waiting = x.waiting; held = held; last = 0 } }) x.sites) (sym e)
    (record {
      conditions = record {
        site = a;
        sites = b;
        some = some;
        keep = c;
        kept = record {
          few = omega arith;
          log_sites = λ m h. absurd h;
          waiting_sites = λ m h. absurd h;
          released = tt;
          others = λ m h. absurd h;
          unreleased = λ m h. absurd h;
          own_ids = tt;
        };
      };
      sites = refl;
      settled = λ k d l r. absurd (omega arith);
    })

-- ---- the next state
pub next_holds : (i : Intake) (n : ℕ) (m : Messages) (held : Option ℕ) → IsUpToDate i n → AreKept i.place m.log m.waiting → m.sites ≡ n → HaveSettled m
    → IsUpToDate (record { place = i.place; state = record { log = m.log; waiting = m.waiting; held = held; last = i.state.last } }) m.sites
next_holds i n m held h kept e settled = record {
  conditions = record { site = h.conditions.site; sites = h.conditions.sites; some = h.conditions.some; keep = h.conditions.keep; kept = kept };
  sites = e ∙ h.sites;
  settled = settled;
}

-- ---- a message comes
pub not_ours_is : (i : Intake) (n : ℕ) (k : MessageCounts) (m : Message) → IsUpToDate i n → k ≡ clock_of n i.state.log → m.stamp.id.site ≡ i.place.site →
    nat_lt (get_or k.counts i.place.site 0) m.stamp.id.seq ≡ not_ours i.place i.state m
not_ours_is i n k m h is e = λ j. sym (eq-eqb m.stamp.id.site i.place.site e) j && nat_lt (count_is i n k h is i.place.site h.conditions.site j) m.stamp.id.seq

-- its number is within the count, or its id waits
pub is_repeat_by_count : (i : Intake) (n : ℕ) (k : MessageCounts) (m : Message) → IsUpToDate i n → k ≡ clock_of n i.state.log → IsAmong i.place.sites m →
    (s : Id) → s ≡ m.stamp.id → (count : ℕ) → count ≡ get_or k.counts s.site 0
    → (nat_le s.seq count || list_any (λ (u : Message). same_id s u.stamp.id) i.state.waiting) ≡ is_repeat i.state m
is_repeat_by_count i n k m h is a s e count here =
    ap (λ j. nat_le s.seq j || list_any (λ (u : Message). same_id s u.stamp.id) i.state.waiting) here
    ∙ ap (λ (t : Id). nat_le t.seq (get_or k.counts t.site 0) || list_any (λ (u : Message). same_id t u.stamp.id) i.state.waiting) e
    ∙ ap (λ b. b || list_any (λ (u : Message). same_id m.stamp.id u.stamp.id) i.state.waiting)
    (ap (nat_le m.stamp.id.seq) (count_is i n k h is m.stamp.id.site a.id.site) ∙ sym (is_released i.state.log m h.conditions.kept.released a.id.positive))

-- what a site comes to by a message that it takes in, and what it answers
pub admitted_is : (p : Place) (s : Replica) (m : Message) → IsAdmitted p s m
    → arrived p s m ≡ (after_came s m, Ok (arrival_of (length (after_came s m).log - length s.log)))
admitted_is p s m h =
    λ j. cond (h.not_ours j) (s, Err NotOurs)
    (cond (h.new j) (s, Ok arrival.Repeat)
    (cond (h.room j) (s, Err Full)
    (after_came s m, Ok (arrival_of (length (after_came s m).log - length s.log)))))

-- what a site answers to a message that it takes in, by how many were released
pub answer_is : (p : Place) (s : Replica) (m : Message) (new : Replica) (n : ℕ) (a : Arrival) → IsAdmitted p s m → new ≡ after_came s m
    → n ≡ length new.log - length s.log → a ≡ arrival_of n → (new, Ok a) ≡ arrived p s m
answer_is p s m new n a h state many answer =
    (λ j. (new, Ok (answer j)))
    ∙ (λ j. (new, Ok (arrival_of (many j))))
    ∙ (λ j. (state j, Ok (arrival_of (length (state j).log - length s.log))))
    ∙ sym (admitted_is p s m h)

pub none_released : (n : ℕ) → n ≡ 0 → arrival.Held ≡ arrival_of n
none_released n e = ap arrival_of (sym e)

pub some_released : (n : ℕ) → (n ≡ 0 → ⊥) → arrival.Released n ≡ arrival_of n
some_released n more = elim (eqb_tells n 0) [
  | inl e ↦ absurd (more e.1)
  | inr e ↦ ap (λ b. cond b arrival.Held (arrival.Released n)) (sym e.0)
]

pub came_kept : (i : Intake) (n : ℕ) (m : Message) (log waiting : List Message) → IsUpToDate i n → IsAmong i.place.sites m → IsAdmitted i.place i.state m →
    Settles i.state.log (i.state.waiting ++ m ∷ []) log waiting → AreKept i.place log waiting
came_kept i n m log waiting h a t s = settling_keeps i.place i.state.log (i.state.waiting ++ m ∷ []) log waiting
    (coming_keeps i.place i.state m h.conditions.kept a t) s

pub came_is : (s : Replica) (m : Message) (log waiting : List Message) → Settles s.log (s.waiting ++ m ∷ []) log waiting →
    record { log = log; waiting = waiting; held = s.held; last = s.last } ≡ after_came s m
came_is s m log waiting h = ap (λ (q : List Message × List Message). record { log = q.0; waiting = q.1; held = s.held; last = s.last })
    (sym (settles_one s.log (s.waiting ++ m ∷ []) log waiting h))
