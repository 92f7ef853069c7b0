-- Where a reader stands.
use Rattle.std.specs.Prelude.{length, ◌≡◌, ◌<◌, ◌∷◌, [], ℕ, List, Option, Some, None, Bool, false, true}
use Rattle.std.specs.Bool.{MatchBool}
use Rattle.csv.specs.Machine.{ends_at_end}
use Rattle.csv.specs.Reading.{Ready, default_config, reader_config, reader_state, reader_trim, records_from, source_of}
use Rattle.csv.specs.declared.reader.Reader.{Reader}
use Rattle.csv.specs.declared.reader.Trim.TheVariants as trim
use Rattle.rubis_engine.specs.declared.record_list.Records.{Records}

-- these are the records that a reader has still to give
pub record HasToGive {R : Type 0} (rem : R → Option (List ℕ)) (rows : Reader R) (rest : List (List (List ℕ))) : Type 0 where
  pub trim : reader_trim rows ≡ trim.None
  pub ready : Ready rows
  pub config : reader_config rows ≡ default_config
  pub between : ends_at_end (reader_state rows) ≡ false
  pub bytes : List ℕ
  pub fuel : ℕ
  pub source : source_of rem rows ≡ Some bytes
  pub enough : length bytes < fuel
  pub records : rest ≡ records_from default_config fuel (reader_state rows) bytes

-- what one read does: it takes the first of the records to come, or there is none
abbrev pub ReadsNext : {R : Type 0} → (R → Option (List ℕ)) → Reader R → Reader R → Bool → List (List ℕ) → Type 0
ReadsNext rem old new found fields = (rest : List (List (List ℕ))) → HasToGive rem old rest
    → MatchBool found ((more : List (List (List ℕ))) × (rest ≡ fields ∷ more) × HasToGive rem new more) (rest ≡ [])

-- how many bytes these are, if they are known
abbrev pub known_length : Option (List ℕ) → ℕ
known_length None = 0
known_length (Some bytes) = length bytes

-- a read that finds a record leaves fewer bytes
abbrev pub LeavesFewer : {R : Type 0} → (R → Option (List ℕ)) → Reader R → Reader R → Bool → Type 0
LeavesFewer rem old new found = found ≡ true → (rest : List (List (List ℕ))) → HasToGive rem old rest
    → known_length (source_of rem new) < known_length (source_of rem old)

-- these are the records that are still to come
abbrev pub Gives : {R : Type 0} → (R → Option (List ℕ)) → Records R → List (List (List ℕ)) → Type 0
Gives rem records rest = HasToGive rem records.reader rest

-- the record that was read last
abbrev pub fields_now : {R : Type 0} → Records R → List (List ℕ)
fields_now records = records.current

-- to go on takes the first of the records to come, or there is none
abbrev pub Advances : {R : Type 0} → (R → Option (List ℕ)) → Records R → Records R → Bool → Type 0
Advances rem old new found = ReadsNext rem old.reader new.reader found (fields_now new)

-- how many bytes are left, if they are known
abbrev pub bytes_left : {R : Type 0} → (R → Option (List ℕ)) → Records R → ℕ
bytes_left rem records = known_length (source_of rem records.reader)

-- to go on to a record leaves fewer bytes
abbrev pub GetsNearer : {R : Type 0} → (R → Option (List ℕ)) → Records R → Records R → Bool → Type 0
GetsNearer rem old new found = LeavesFewer rem old.reader new.reader found
