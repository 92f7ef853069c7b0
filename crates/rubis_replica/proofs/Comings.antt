-- Messages that arrive one after the other.
use Rattle.rubis_replica.proofs.Common.{◌≡◌, List, [], ◌∷◌, ◌++◌, refl, sym, ap, ◌∙◌, append_assoc, subst, Err, Result, reverse, append-nil, Refusal}
use Rattle.rubis_replica.proofs.Common.{Message, Arrival, Place, Replica, arrived}
use Rattle.std.proofs.lemmas.List.{reverse-append}
use Rattle.rubis_release.specs.Release.{IsFaultOf}
use Rattle.rubis_release.specs.declared.intake.IntakeFault.{IntakeFault}
use Rattle.rubis_release.specs.declared.intake.IntakeFault.TheVariants.{Refused}
use Rattle.rubis_replica.specs.State.{TakesFirst, after_all, answers_to}
use Rattle.rubis_replica.specs.Follow.{Follower, FollowsLog}
use Rattle.rubis_replica.proofs.Standing.{Extends, arrived_extends, follows_extended}

-- ---- one message more

after_more : (p : Place) (s : Replica) (ms : List Message) (m : Message) → after_all p s (ms ++ m ∷ []) ≡ (arrived p (after_all p s ms) m).0
after_more p s [] m = refl
after_more p s (x ∷ ms) m = after_more p (arrived p s x).0 ms m

answers_more : (p : Place) (s : Replica) (ms : List Message) (m : Message)
    → answers_to p s (ms ++ m ∷ []) ≡ answers_to p s ms ++ (arrived p (after_all p s ms) m).1 ∷ []
answers_more p s [] m = refl
answers_more p s (x ∷ ms) m = ap (λ l. (arrived p s x).1 ∷ l) (answers_more p (arrived p s x).0 ms m)

-- the first of the rest too
pub takes_next : (p : Place) (old now new : Replica) (messages rest : List Message) (answers : List (Result Arrival Refusal)) (m : Message)
    (a : Result Arrival Refusal)
    → TakesFirst p old now messages answers (m ∷ rest) → (new, a) ≡ arrived p now m → TakesFirst p old new messages (answers ++ a ∷ []) rest
takes_next p old now new messages rest answers m a h e = record {
  taken = h.taken ++ m ∷ [];
  parts = h.parts ∙ sym (append_assoc h.taken (m ∷ []) rest);
  state = ap (λ r. r.0) e ∙ ap (λ s. (arrived p s m).0) h.state ∙ sym (after_more p old h.taken m);
  told = (λ i. h.told i ++ ap (λ r. r.1) e i ∷ []) ∙ ap (λ s. answers_to p old h.taken ++ (arrived p s m).1 ∷ []) h.state
      ∙ sym (answers_more p old h.taken m);
}

-- a message that is refused leaves all as it was
pub refused_step : (p : Place) (old new : Replica) (m : Message) (fault : IntakeFault) (r : Refusal) → fault ≡ Refused r → IsFaultOf p old m fault → new ≡ old
    → (new, Err r) ≡ arrived p old m
refused_step p old new m fault r is why same = (λ j. (same j, Err r)) ∙ sym (subst (IsFaultOf p old m) is why)

-- the last of a list is the first of it reversed
pub last_first : (xs ys : List Message) (m : Message) → xs ≡ ys ++ m ∷ [] → reverse xs ≡ m ∷ reverse ys
last_first xs ys m e = ap reverse e ∙ reverse-append ys (m ∷ [])

-- ---- the log grows

all_extend : (p : Place) (s : Replica) (ms : List Message) → Extends s.log (after_all p s ms).log
all_extend p s [] = ([], sym (append-nil s.log))
all_extend p s (m ∷ ms) =
    let one = arrived_extends p s m in
    let more = all_extend p (arrived p s m).0 ms in
    (one.0 ++ more.0, more.1 ∙ ap (λ l. l ++ more.0) one.1 ∙ append_assoc s.log one.0 more.0)

-- a log that took messages in has grown
pub taken_extends : (p : Place) (old new : Replica) (messages : List Message) (answers : List (Result Arrival Refusal)) (rest : List Message)
    → TakesFirst p old new messages answers rest → Extends old.log new.log
taken_extends p old new messages answers rest h =
    let more = all_extend p old h.taken in
    (more.0, ap (λ (r : Replica). r.log) h.state ∙ more.1)

-- and the tables that follow it follow it still
pub follows_taken : (p : Place) (old new : Replica) (messages : List Message) (answers : List (Result Arrival Refusal)) (rest : List Message) (f : Follower)
    → TakesFirst p old new messages answers rest → FollowsLog old.log f → FollowsLog new.log f
follows_taken p old new messages answers rest f h = follows_extended old.log new.log f (taken_extends p old new messages answers rest h)
