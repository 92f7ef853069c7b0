-- What a run of several sites says of them: where its records lead, and that its text is that of a run.
use Rattle.std.specs.Prelude.{ℕ, ⊤, List, Option, Result, Ok, Err, take}
use Rattle.std.specs.Io.KnownBytes.{Appends}
use Rattle.rubis_model.specs.Processes.{IsTextOfARun}
use Rattle.rubis_engine.specs.Seam.{Lefts}
use Rattle.rubis_engine.specs.Text.{input_records, rows_text}
use Rattle.rubis_engine.specs.declared.fault.Count.{Count}
use Rattle.rubis_engine.specs.declared.fault.RunFault.{RunFault}
use Rattle.rubis_engine.specs.declared.fault.RunFault.TheVariants.{Memory, Read, TooLong, Write}
use Rattle.rubis_reading.specs.declared.chunks.Chunks.{Chunks}
use Rattle.rubis_serving.specs.Serving.{EndsLed}
use Rattle.rubis_world.specs.Running.{LeadsWorld, told_by_world}
use Rattle.rubis_world.specs.Worlds.{WorldState}

-- these records lead from one state of the sites to the other
abbrev pub LeadWorld : List (List (List ℕ)) → WorldState → WorldState → Type 0
LeadWorld records old new = LeadsWorld old 1 records new

-- ---- the text of a run

-- the text of a run of these records stands behind what stood there before
abbrev pub AppendsARun : ℕ → ℕ → Option (List ℕ) → Option (List ℕ) → List (List (List ℕ)) → Type 0
AppendsARun sites keep old new records = (rows : List (List (List ℕ))) × Appends old new (rows_text rows) × IsTextOfARun sites keep records rows

-- the whole headline, of a run over an input by how it ends: at the end of the input of all its records, where there are too many
-- of the first `limit`, where the reader failed of some first ones
abbrev pub TellsARun : ℕ → ℕ → ℕ → List ℕ → Option (List ℕ) → Option (List ℕ) → Result Count RunFault → Type 0
TellsARun sites keep limit input old new (Ok count) = AppendsARun sites keep old new (input_records input)
TellsARun sites keep limit input old new (Err TooLong) = AppendsARun sites keep old new (take limit (input_records input))
TellsARun sites keep limit input old new (Err Read) = (k : ℕ) × AppendsARun sites keep old new (take k (input_records input))
TellsARun sites keep limit input old new (Err Memory) = ⊤
TellsARun sites keep limit input old new (Err Write) = ⊤

-- ---- a run over chunks

-- how a run of several sites over the chunks of an input ends: all records are answered; the first `limit` of more; those that came whole,
-- where the reader failed; or a prefix of the text was written, where memory ran out or the writer failed. The answered records led the
-- sites from the one state to the other
abbrev pub WorldEndsWhole : {R : Type 0} → Lefts R → Chunks R → ℕ → WorldState → WorldState → Option (List ℕ) → Option (List ℕ) → List ℕ
    → Result Count RunFault → Type 0
WorldEndsWhole rem chunks limit first new old now input result = EndsLed told_by_world LeadsWorld rem chunks limit first new old now input result
