-- Where a run over chunks stands, and how it ends.
use Rattle.std.specs.Prelude.{◌≡◌, ◌≤◌, ◌+◌, ◌++◌, ℕ, List, Option, Result, length, take, ◌<◌, ◌∷◌, [], MatchOption}
use Rattle.std.specs.Io.KnownBytes.{Appends}
use Rattle.rubis_engine.specs.Accounts.{Account, Ending}
use Rattle.rubis_engine.specs.Accounts.Ending.{AtEnd, Cut}
use Rattle.rubis_engine.specs.Progress.{ByEnd, IsDone, IsTooLong, WrotePrefix}
use Rattle.rubis_engine.specs.Seam.{Lefts}
use Rattle.rubis_engine.specs.Text.{input_records}
use Rattle.rubis_engine.specs.declared.fault.Count.{Count}
use Rattle.rubis_engine.specs.declared.fault.RunFault.{RunFault}
use Rattle.rubis_reading.specs.Chunked.{CameWhole, ComesNearer, HasPending, KeepsCome, held_text}
use Rattle.rubis_reading.specs.declared.chunks.Chunks.{Chunks}
use Rattle.rubis_reading.specs.Streams.{EndsNoRecord}
use Rattle.rubis_serving.specs.declared.pieces.Served.{Served}

-- the run was cut short behind the first k records: their text was written, and `more` is the account of what is still to be made of
-- those that follow, whichever they are. `all` is that of all records
pub record IsCutAfter (k : ℕ) (all more : Account) (old now : Option (List ℕ)) (records : List (List (List ℕ))) : Type 0 where
  pub within : k ≤ length records
  pub appended : Appends old now (all.text Cut (take k records))
  pub left : (ending : Ending) (to_come : List (List (List ℕ)))
      → all.text ending (take k records ++ to_come) ≡ all.text Cut (take k records) ++ more.text ending to_come
  pub counted : (to_come : List (List (List ℕ))) → all.read (take k records ++ to_come) ≡ k + more.read to_come

-- how a run over the chunks of an input ends: all records are answered; the first `limit` of more; those that came whole, where the reader
-- failed; or a prefix of the text was written, where memory ran out or the writer failed. `all` is the account of the records, and
-- `left n` what is then still to be made of those from record n on
abbrev pub EndsWhole : {R : Type 0} → Lefts R → Chunks R → Account → (ℕ → Account) → ℕ → Option (List ℕ) → Option (List ℕ) → List ℕ
    → Result Count RunFault → Type 0
EndsWhole rem chunks all left limit old now input result = ByEnd result (λ count. IsDone all limit old now (input_records input) count.records)
    (IsTooLong all limit old now (input_records input))
    ((k : ℕ) × IsCutAfter k all (left (k + 1)) old now (input_records input) × CameWhole rem chunks input k)
    (WrotePrefix (all.text AtEnd) old now (input_records input))

-- ---- the same, with where the records lead what answers them: `account` says what is to be made of those that are to come from a state on

module _ {S : Type 0} (account : S → ℕ → Account) (leads : S → ℕ → List (List (List ℕ)) → S → Type 0) where
  -- all records are answered, at most `limit`, and lead from the state `first` to this one
  abbrev pub AnswersAll : ℕ → S → S → Option (List ℕ) → Option (List ℕ) → List (List (List ℕ)) → ℕ → Type 0
  AnswersAll limit first s old now records count = IsDone (account first 1) limit old now records count × leads first 1 records s

  -- the first `limit` are and do, and there are more
  abbrev pub AnswersFirst : ℕ → S → S → Option (List ℕ) → Option (List ℕ) → List (List (List ℕ)) → Type 0
  AnswersFirst limit first s old now records = IsTooLong (account first 1) limit old now records × leads first 1 (take limit records) s

  -- just the first k are and do
  abbrev pub AnswersJust : ℕ → S → S → Option (List ℕ) → Option (List ℕ) → List (List (List ℕ)) → Type 0
  AnswersJust k first s old now records =
      IsCutAfter k (account first 1) (account s (k + 1)) old now records × leads first 1 (take k records) s

  -- how a run over the chunks of an input ends
  abbrev pub EndsLed : {R : Type 0} → Lefts R → Chunks R → ℕ → S → S → Option (List ℕ) → Option (List ℕ) → List ℕ
      → Result Count RunFault → Type 0
  EndsLed rem chunks limit first s old now input result = ByEnd result
      (λ count. AnswersAll limit first s old now (input_records input) count.records)
      (AnswersFirst limit first s old now (input_records input))
      ((k : ℕ) × AnswersJust k first s old now (input_records input) × CameWhole rem chunks input k)
      (WrotePrefix ((account first 1).text AtEnd) old now (input_records input))

-- ---- how far a run has come

-- what answers the records of a run, and where the answers go. Of a service `account` says what is to be made of the records that follow, and
-- `leads` where they lead it; of an outlet `puts` says when a text was put, and `tears` when some first bytes of it were, or none
pub record Serving (S O : Type 0) : Type 1 where
  pub account : S → ℕ → Account
  pub leads : S → ℕ → List (List (List ℕ)) → S → Type 0
  pub puts : List ℕ → O → O → Type 0
  pub tears : List ℕ → O → O → Type 0

abbrev pub serving : {S O : Type 0} → (S → ℕ → Account) → (S → ℕ → List (List (List ℕ)) → S → Type 0) → (List ℕ → O → O → Type 0)
    → (List ℕ → O → O → Type 0) → Serving S O
serving account leads puts tears = record { account = account; leads = leads; puts = puts; tears = tears }

-- where it is: the service and the outlet, the text that waits to be put, and how many records are answered
pub record At (S O : Type 0) : Type 0 where
  pub service : S
  pub outlet : O
  pub sink : List ℕ
  pub answered : ℕ

abbrev pub at : {S O : Type 0} → S → Served → O → At S O
at service run outlet = record { service = service; outlet = outlet; sink = run.reply.sink; answered = run.answered }

module _ {S O : Type 0} (k : Serving S O) where
  -- what is still to be made of the records to come
  abbrev pub still : At S O → Account
  still x = k.account x.service (x.answered + 1)

  -- the text that is still to be put, if these come and then the run ends so
  abbrev pub coming : At S O → Ending → List (List (List ℕ)) → List ℕ
  coming x ending records = x.sink ++ (still x).text ending records

  -- they lead the service there
  abbrev pub LeadsTo : At S O → List (List (List ℕ)) → S → Type 0
  LeadsTo x records last = k.leads x.service (x.answered + 1) records last

  -- nothing is held back, and nothing waits
  pub record IsSettled (x : At S O) : Type 0 where
    pub empty : x.sink ≡ []
    pub none : (still x).text Cut [] ≡ []
    pub rests : LeadsTo x [] x.service

  -- ---- records that are answered

  -- the run came from the one to the other: these records were answered, and a text was put
  pub record Goes (rows : List (List (List ℕ))) (x y : At S O) : Type 0 where
    pub text : List ℕ
    pub put : k.puts text x.outlet y.outlet
    pub told : (ending : Ending) (more : List (List (List ℕ))) → coming x ending (rows ++ more) ≡ text ++ coming y ending more
    pub count : y.answered ≡ x.answered + length rows
    pub read : (more : List (List (List ℕ))) → (still x).read (rows ++ more) ≡ length rows + (still y).read more
    pub led : (more : List (List (List ℕ))) (last : S) → LeadsTo y more last → LeadsTo x (rows ++ more) last

  -- these are all that come, and the run is over: as many were read in all, at most `limit`
  pub record Closes (limit : ℕ) (records : List (List (List ℕ))) (x : At S O) (last : S) (outlet : O) (count : ℕ) : Type 0 where
    pub put : k.puts (coming x AtEnd records) x.outlet outlet
    pub read : count ≡ x.answered + (still x).read records
    pub led : LeadsTo x records last
    pub within : count ≤ limit

  -- the first `limit` of all are answered, and there are more
  pub record Fills (limit : ℕ) (records : List (List (List ℕ))) (x y : At S O) : Type 0 where
    pub front : List (List (List ℕ))
    pub next : List (List ℕ)
    pub rest : List (List (List ℕ))
    pub parts : records ≡ front ++ next ∷ rest
    pub goes : Goes front x y
    pub settled : IsSettled y
    pub full : y.answered ≡ limit
    pub some : (more : List (List (List ℕ))) → 0 < (still y).read (next ∷ more)

  -- something failed before these were answered: of the text some first bytes were put, or none, whatever follows them
  pub record Tears (rows : List (List (List ℕ))) (x : At S O) (outlet : O) : Type 0 where
    pub torn : (more : List (List (List ℕ))) → k.tears (coming x AtEnd (rows ++ more)) x.outlet outlet

  -- they are answered, at most `limit` of all; or one of them ended the run, whatever follows
  abbrev pub AreAnswered : ℕ → List (List (List ℕ)) → At S O → At S O → Option Count → Type 0
  AreAnswered limit rows x y over = MatchOption over ((y.answered ≤ limit) × Goes rows x y)
      (λ count. (more : List (List (List ℕ))) → Closes limit (rows ++ more) x y.service y.outlet count.records)

  -- how records are answered
  abbrev pub RecordsEnd : ℕ → List (List (List ℕ)) → At S O → At S O → Result (Option Count) RunFault → Type 0
  RecordsEnd limit rows x y result = ByEnd result (AreAnswered limit rows x y) (Fills limit rows x y) ⊥ (Tears rows x y.outlet)

  -- ---- a text by chunks

  -- of the records that were to come these were answered, and the others are still to come
  pub record Takes {R : Type 0} (rem : Lefts R) (chunks2 : Chunks R) (later : List (List (List ℕ))) (x y : At S O) : Type 0 where
    pub rows : List (List (List ℕ))
    pub rest : List (List (List ℕ))
    pub parts : later ≡ rows ++ rest
    pub pending : HasPending rem chunks2 rest
    pub goes : Goes rows x y

  -- the run came from the one to the other, by some of the records to come
  pub record MovesOn {R : Type 0} (rem : Lefts R) (chunks : Chunks R) (x : At S O) (chunks2 : Chunks R) (y : At S O) : Type 0 where
    pub takes : (later : List (List (List ℕ))) → HasPending rem chunks later → Takes rem chunks2 later x y
    pub come : KeepsCome rem chunks chunks2

  -- the reader failed: the records that came whole are answered, and no more
  pub record Stalls {R : Type 0} (rem : Lefts R) (chunks : Chunks R) (x : At S O) (chunks2 : Chunks R) (y : At S O) : Type 0 where
    pub moves : MovesOn rem chunks x chunks2 y
    pub settled : IsSettled y
    pub none : EndsNoRecord (held_text chunks2)

  -- how a step ends where it isn't done: the first `limit` records are answered, and there are more; those that came whole are, and no more;
  -- or of the text some first bytes were put, or none
  abbrev pub Stops : {T R : Type 0} → ℕ → Lefts R → Chunks R → At S O → Chunks R → At S O → (T → Type 0) → Result T RunFault → Type 0
  Stops limit rem chunks x chunks2 y done result = ByEnd result done
      ((later : List (List (List ℕ))) → HasPending rem chunks later → Fills limit later x y) (Stalls rem chunks x chunks2 y)
      ((later : List (List (List ℕ))) → HasPending rem chunks later → k.tears (coming x AtEnd later) x.outlet y.outlet)

  -- the run is over
  abbrev pub IsOver : {R : Type 0} → ℕ → Lefts R → Chunks R → At S O → At S O → Count → Type 0
  IsOver limit rem chunks x y count = (later : List (List (List ℕ))) → HasPending rem chunks later
      → Closes limit later x y.service y.outlet count.records

  -- how it goes on from there to its end
  abbrev pub Finishes : {R : Type 0} → ℕ → Lefts R → Chunks R → At S O → Chunks R → At S O → Result Count RunFault → Type 0
  Finishes limit rem chunks x chunks2 y result = Stops limit rem chunks x chunks2 y (IsOver limit rem chunks x y) result

  -- how a step ends that takes a piece: the run goes on, at most `limit` records being answered, and is nearer to the end of its text; or it is
  -- over
  abbrev pub Turns : {R : Type 0} → ℕ → Lefts R → Chunks R → At S O → Chunks R → At S O → Result (Option Count) RunFault → Type 0
  Turns limit rem chunks x chunks2 y result = Stops limit rem chunks x chunks2 y (λ over. MatchOption over
      (MovesOn rem chunks x chunks2 y × (y.answered ≤ limit) × ComesNearer 1 rem chunks chunks2) (IsOver limit rem chunks x y)) result
