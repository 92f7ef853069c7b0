-- How far a run has come, how a record is answered, and how a step and a run end.
use Rattle.std.specs.Prelude.{Result, Ok, Err, ◌≡◌, ◌≤◌, ◌<◌, ◌+◌, ◌++◌, ◌⊎◌, [], ℕ, List, length, take, Option, ◌∷◌}
use Rattle.rubis_engine.specs.declared.fault.RunFault.{RunFault}
use Rattle.rubis_engine.specs.declared.fault.RunFault.TheVariants.{Memory, Read, TooLong, Write}
use Rattle.std.specs.Io.KnownBytes.{Appends}
use Rattle.rubis_engine.specs.declared.fault.Count.{Count}
use Rattle.rubis_engine.specs.Accounts.{Account, AnswersRecord, LeadsOn}
use Rattle.rubis_engine.specs.Accounts.Ending.{AtEnd, Cut}
use Rattle.rubis_engine.specs.Text.{input_records}
use Rattle.rubis_engine.specs.declared.service.Course.{Course}
use Rattle.rubis_engine.specs.declared.service.Reply.{Reply}

-- what holds, by how a step ends: it is done, the input was too long, the reader failed, or it broke off, since memory ran out or
-- the writer failed
abbrev pub ByEnd : {T : Type 0} → Result T RunFault → (T → Type 0) → Type 0 → Type 0 → Type 0 → Type 0
ByEnd (Ok v) done too_long read broke = done v
ByEnd (Err TooLong) done too_long read broke = too_long
ByEnd (Err Read) done too_long read broke = read
ByEnd (Err Memory) done too_long read broke = broke
ByEnd (Err Write) done too_long read broke = broke

-- ---- how far a run has come, and how it ended

-- a text that waited was written out, or waits on with nothing written
abbrev pub IsWrittenOrWaits : List ℕ → List ℕ → Option (List ℕ) → Option (List ℕ) → Type 0
IsWrittenOrWaits waited waits before after = (Appends before after waited × (waits ≡ [])) ⊎ ((after ≡ before) × (waits ≡ waited))

-- a prefix of the text was written
abbrev pub AppendsFront : Option (List ℕ) → Option (List ℕ) → List ℕ → Type 0
AppendsFront old now text = (written left : List ℕ) × Appends old now written × (written ++ left ≡ text)

-- ---- what a run has written and read

-- the run is done: the text of all records was written, and as many were read as there are to read, at most `limit`
abbrev pub IsDone : Account → ℕ → Option (List ℕ) → Option (List ℕ) → List (List (List ℕ)) → ℕ → Type 0
IsDone all limit old now records count = Appends old now (all.text AtEnd records) × (count ≡ all.read records) × (count ≤ limit)

-- there are more records than `limit`, and the first `limit` of them don't end the run, since more would be read: their text
-- was written
abbrev pub IsTooLong : Account → ℕ → Option (List ℕ) → Option (List ℕ) → List (List (List ℕ)) → Type 0
IsTooLong all limit old now records = Appends old now (all.text Cut (take limit records)) × (limit < length records) × (limit < all.read records)

-- the run was cut short: the text of some first records was written
abbrev pub IsCut : Account → Option (List ℕ) → Option (List ℕ) → List (List (List ℕ)) → Type 0
IsCut all old now records = (k : ℕ) × Appends old now (all.text Cut (take k records))

-- what was written is a prefix of the text of all records
abbrev pub WrotePrefix : (List (List (List ℕ)) → List ℕ) → Option (List ℕ) → Option (List ℕ) → List (List (List ℕ)) → Type 0
WrotePrefix all old now records = AppendsFront old now (all records)

-- what a run over these records leaves in its writer, by how it ends: `all` is the account of the records
abbrev pub EndsSo : Account → ℕ → Option (List ℕ) → Option (List ℕ) → List (List (List ℕ)) → Result Count RunFault → Type 0
EndsSo all limit old new records (Ok count) = IsDone all limit old new records count.records
EndsSo all limit old new records (Err TooLong) = IsTooLong all limit old new records
EndsSo all limit old new records (Err Read) = IsCut all old new records
EndsSo all limit old new records (Err Memory) = WrotePrefix (all.text AtEnd) old new records
EndsSo all limit old new records (Err Write) = WrotePrefix (all.text AtEnd) old new records

-- a run over an input, of which at most `limit` records are read: `all` is the account of its records, and `old` and `new` are
-- what its writer had and has
abbrev pub IsRun : Account → ℕ → List ℕ → Option (List ℕ) → Option (List ℕ) → Result Count RunFault → Type 0
IsRun all limit input old new result = EndsSo all limit old new (input_records input) result

-- ---- how a record is answered

-- of what waited and is still to be made of a record and of any after it, a prefix was written
abbrev pub BreaksOff : Account → List ℕ → List (List ℕ) → Option (List ℕ) → Option (List ℕ) → Type 0
BreaksOff old sink fields before after = (more : List (List (List ℕ))) → AppendsFront before after (sink ++ old.text AtEnd (fields ∷ more))

-- a record was answered, and some of what waits was written out
pub record WritesRecord (course : Course) (old new : Account) (sink sink2 : List ℕ) (before after : Option (List ℕ)) (fields : List (List ℕ)) : Type 0 where
  pub out : List ℕ
  pub appended : Appends before after out
  pub answers : AnswersRecord course old new sink (out ++ sink2) fields

-- a record with these fields was answered, as far as the reply and the writer go and as where it leads; or a prefix of the text was written
abbrev pub IsAnswer : {S : Type 0} → (S → ℕ → Account) → (S → ℕ → List (List (List ℕ)) → S → Type 0) → S → S → Reply → Reply
    → Option (List ℕ) → Option (List ℕ) → List (List ℕ) → Result Course RunFault → Type 0
IsAnswer account leads old new reply reply2 before after fields result = ByEnd result
    (λ course. WritesRecord course (account old reply.number) (account new (reply.number + 1)) reply.sink reply2.sink before after fields
    × LeadsOn course leads reply.number fields old new)
    ⊥ ⊥ (BreaksOff (account old reply.number) reply.sink fields before after)
