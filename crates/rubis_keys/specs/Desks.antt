-- What a call does to a site that knows keys, at its desk.
use Rattle.std.specs.Prelude.{◌≡◌, ◌+◌, ◌++◌, [], ℕ, Bool, List, cond, false, length}
use Rattle.rubis_message.specs.Grammar.{IsPacket, IsRequest}
use Rattle.rubis_message.specs.Inputs.{FitsIn, input_of}
use Rattle.rubis_message.specs.declared.inputs.Input.TheVariants.{Neither}
use Rattle.rubis_message.specs.declared.requests.Request.TheVariants as request
use Rattle.rubis_message.specs.declared.tokens.Packet.TheVariants as packet
use Rattle.rubis_model.specs.Site.{Place}
use Rattle.rubis_replica.specs.State.{after_all}
use Rattle.rubis_engine.specs.Accounts.{Account}
use Rattle.rubis_engine.specs.Text.{rows_text}
use Rattle.rubis_script.specs.Desks as desk
use Rattle.rubis_script.specs.Windows.{window_rows}
use Rattle.rubis_script.specs.declared.plan.Plan.{Plan}
use Rattle.rubis_keys.specs.Keys.{KeyedSite, is_key, keyed_after, keyed_answers, keyed_input, keyed_step, under}
use Rattle.rubis_keys.specs.Maps.{known_in}
use Rattle.rubis_keys.specs.declared.desk.KeyedDesk.{KeyedDesk}
use Rattle.rubis_keys.specs.declared.inputs.KeyedInput.{KeyedInput}
use Rattle.rubis_keys.specs.declared.inputs.KeyedInput.TheVariants.{Plain, AskedUnder, CameUnder}

-- ---- what is read

-- it is of a system of that many sites
abbrev pub FitsUnder : ℕ → KeyedInput → Type 0
FitsUnder sites (Plain i) = FitsIn sites i
FitsUnder sites (AskedUnder key a) = IsRequest sites (request.Ask a)
FitsUnder sites (CameUnder key m) = IsPacket sites (packet.Msg m)

-- the record is that to a site that knows keys
pub record IsKeyedInput (sites : ℕ) (fields : List (List ℕ)) (read : KeyedInput) : Type 0 where
  pub means : keyed_input sites fields ≡ read
  pub fits : FitsUnder sites read

-- a record that begins with the word `key` and that field, and has these behind them, is that
pub record IsUnder (sites : ℕ) (key : List ℕ) (rest : List (List ℕ)) (read : KeyedInput) : Type 0 where
  pub means : cond (is_key key) (under key (input_of sites rest)) (Plain Neither) ≡ read
  pub fits : FitsUnder sites read

-- ---- at a desk

-- the site at a desk as it is, and what it knows
abbrev pub standing_at : {T : Type 0} → KeyedDesk T → KeyedSite
standing_at d = record { site = d.desk.site.state; keys = known_in d.keys }

-- record n was answered as the step says, and the site and what it knows are what the step makes of them; where it is said to have changed
-- nothing, they are what they were
pub record Steps {T : Type 0} (read : KeyedInput) (n : ℕ) (old new : KeyedDesk T) (sink sink2 : List ℕ) (changed : Bool) : Type 0 where
  pub leads : standing_at new ≡ (keyed_step old.desk.site.place (standing_at old) n read).0
  pub told : sink2 ≡ sink ++ rows_text (keyed_step old.desk.site.place (standing_at old) n read).1
  pub same : changed ≡ false → standing_at new ≡ standing_at old

-- it is set up as it was, and holds what it held
abbrev pub HoldsAsBefore : {T : Type 0} → KeyedDesk T → KeyedDesk T → Type 0
HoldsAsBefore old new = desk.KeepsSetup old.desk new.desk × (new.desk.window.items ≡ old.desk.window.items)

-- the site once it has taken in the messages that it holds, and what it knows
abbrev pub keyed_at : {T : Type 0} → KeyedDesk T → KeyedSite
keyed_at d = record { site = after_all d.desk.site.place d.desk.site.state d.desk.window.items; keys = known_in d.keys }

-- what is still to be made of the messages that it holds, and of the records to come, the first of which has that number
abbrev pub keyed_left_at : {T : Type 0} → KeyedDesk T → ℕ → Account
keyed_left_at d n = record {
  text = λ ending records. rows_text (window_rows d.desk.site.place d.desk.site.state d.desk.first d.desk.window.items
      ++ keyed_answers d.desk.site.place (keyed_at d) n records);
  read = λ records. length records;
}

-- these records, the first of which has that number, lead it to the other, which holds none
abbrev pub LeadsKeyed : {T : Type 0} → KeyedDesk T → ℕ → List (List (List ℕ)) → KeyedDesk T → Type 0
LeadsKeyed d number records last = (last.desk.window.items ≡ []) × (last.desk.site.place ≡ d.desk.site.place)
    × (standing_at last ≡ keyed_after d.desk.site.place (keyed_at d) number records)

-- what it is set up as
abbrev pub setup_of : {T : Type 0} → KeyedDesk T → Place × Plan
setup_of d = desk.setup_of d.desk
