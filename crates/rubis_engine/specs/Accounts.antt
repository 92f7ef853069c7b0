-- What a run makes of its records.
use Rattle.std.specs.Prelude.{◌≡◌, ◌+◌, ◌++◌, ◌∷◌, ℕ, List}
use Rattle.rubis_engine.specs.declared.service.Course.{Course}
use Rattle.rubis_engine.specs.declared.service.Course.TheVariants.{GoesOn, Ends}

-- how a run ends after some records: the input ends there, or the run is cut short, since the reader failed or no more
-- records are taken
pub data Ending : Type 0 where
  AtEnd : Ending
  Cut : Ending

-- the text of records after which a run ends so, and how many of the records of an input are read
pub record Account : Type 0 where
  pub text : Ending → List (List (List ℕ)) → List ℕ
  pub read : List (List (List ℕ)) → ℕ

-- a record was answered, and `after` has come to be held in place of `before`: it and what is still to be written are
-- the text; where the run ends with the record, `after` is all of it
abbrev pub AnswersRecord : Course → Account → Account → List ℕ → List ℕ → List (List ℕ) → Type 0
AnswersRecord GoesOn old new before after fields = (more : List (List (List ℕ)))
    → ((ending : Ending) → before ++ old.text ending (fields ∷ more) ≡ after ++ new.text ending more) × (old.read (fields ∷ more) ≡ new.read more + 1)
AnswersRecord Ends old new before after fields = (more : List (List (List ℕ)))
    → (before ++ old.text Ending.AtEnd (fields ∷ more) ≡ after) × (old.read (fields ∷ more) ≡ 1)

-- the text stays what it was, whatever follows
abbrev pub Keeps : Account → Account → List ℕ → List ℕ → Type 0
Keeps old new before after = (more : List (List (List ℕ)))
    → ((ending : Ending) → before ++ old.text ending more ≡ after ++ new.text ending more) × (old.read more ≡ new.read more)

-- ---- where records lead what answers them

-- whatever follows leads there from the one state as from the other
abbrev pub LeadsAlike : {S : Type 0} → (S → ℕ → List (List (List ℕ)) → S → Type 0) → S → S → Type 0
LeadsAlike leads old new = (number : ℕ) (more : List (List (List ℕ))) (last : _) → leads new number more last → leads old number more last

-- a record with this number was answered: with whatever follows it leads there from the one state as what follows does from the other;
-- where the run ends with the record, it leads to the other
abbrev pub LeadsOn : {S : Type 0} → Course → (S → ℕ → List (List (List ℕ)) → S → Type 0) → ℕ → List (List ℕ) → S → S → Type 0
LeadsOn GoesOn leads number fields old new = (more : List (List (List ℕ))) (last : _)
    → leads new (number + 1) more last → leads old number (fields ∷ more) last
LeadsOn Ends leads number fields old new = (more : List (List (List ℕ))) → leads old number (fields ∷ more) new
