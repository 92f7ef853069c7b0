-- Where the answers of a run go.
use Rattle.std.specs.Prelude.{◌≡◌, ◌+◌, ◌++◌, ◌∷◌, [], ℕ, List, Option, Result}
use Rattle.std.specs.Io.KnownBytes.{Appends}
use Rattle.rubis_engine.specs.Accounts.{Account, AnswersRecord, LeadsOn}
use Rattle.rubis_engine.specs.Accounts.Ending.{AtEnd}
use Rattle.rubis_engine.specs.Progress.{ByEnd, AppendsFront}
use Rattle.rubis_engine.specs.declared.fault.RunFault.{RunFault}
use Rattle.rubis_engine.specs.declared.service.Course.{Course}
use Rattle.rubis_engine.specs.declared.service.Reply.{Reply}

-- `puts` says when an outlet has come from the one state to the other by this text, and `tears` when by some first bytes of it, or none
pub record IsOutlet {O : Type 0} (puts tears : List ℕ → O → O → Type 0) : Type 0 where
  pub none : (o : O) → puts [] o o
  pub more : (xs ys : List ℕ) (a b c : O) → puts xs a b → puts ys b c → puts (xs ++ ys) a c
  pub torn_none : (xs : List ℕ) (o : O) → tears xs o o
  pub torn_later : (xs ys : List ℕ) (a b c : O) → puts xs a b → tears ys b c → tears (xs ++ ys) a c
  pub torn_longer : (xs ys : List ℕ) (a b : O) → tears xs a b → tears (xs ++ ys) a b

-- ---- what a call does

-- of a text that waited some first bytes were put, or none, and the others wait on
abbrev pub PutsSome : {O : Type 0} → (List ℕ → O → O → Type 0) → List ℕ → List ℕ → O → O → Type 0
PutsSome puts waited waits old new = (out : List ℕ) × puts out old new × (waited ≡ out ++ waits)

-- a record was answered, and some of what waits was put
pub record PutsRecord {O : Type 0} (puts : List ℕ → O → O → Type 0) (course : Course) (old new : Account) (sink sink2 : List ℕ) (before after : O)
    (fields : List (List ℕ)) : Type 0 where
  pub out : List ℕ
  pub put : puts out before after
  pub answers : AnswersRecord course old new sink (out ++ sink2) fields

-- a record with these fields was answered, as far as the reply and the outlet go and as where it leads; or of what waited and is still to be
-- made of it and of any records after it some first bytes were put
abbrev pub PutsAnswer : {S O : Type 0} → (List ℕ → O → O → Type 0) → (List ℕ → O → O → Type 0) → (S → ℕ → Account)
    → (S → ℕ → List (List (List ℕ)) → S → Type 0) → S → S → Reply → Reply → O → O → List (List ℕ) → Result Course RunFault → Type 0
PutsAnswer puts tears account leads old new reply reply2 before after fields result = ByEnd result
    (λ course. PutsRecord puts course (account old reply.number) (account new (reply.number + 1)) reply.sink reply2.sink before after fields
    × LeadsOn course leads reply.number fields old new)
    ⊥ ⊥ ((more : List (List (List ℕ))) → tears (reply.sink ++ (account old reply.number).text AtEnd (fields ∷ more)) before after)

-- ---- a writer

abbrev pub writes : {W : Type 0} → (W → Option (List ℕ)) → List ℕ → W → W → Type 0
writes contents text old new = Appends (contents old) (contents new) text

abbrev pub writes_front : {W : Type 0} → (W → Option (List ℕ)) → List ℕ → W → W → Type 0
writes_front contents text old new = AppendsFront (contents old) (contents new) text
