-- What a call does at the desk of a site.
use Rattle.std.specs.Prelude.{◌≡◌, ◌+◌, [], ℕ, List, Option}
use Rattle.rubis_message.specs.Inputs.{input_of}
use Rattle.rubis_message.specs.declared.inputs.Input.{Input}
use Rattle.rubis_model.specs.Processes.{site_after}
use Rattle.rubis_model.specs.Site.{Place}
use Rattle.rubis_replica.specs.State.{after_all}
use Rattle.rubis_engine.specs.Accounts.{Account, AnswersRecord, Keeps}
use Rattle.rubis_engine.specs.Progress.{BreaksOff, WritesRecord}
use Rattle.rubis_engine.specs.declared.service.Course.TheVariants.{GoesOn}
use Rattle.rubis_script.specs.Headline.{SettlesHeld, StepsOn}
use Rattle.rubis_script.specs.Windows.{made_of_held}
use Rattle.rubis_script.specs.declared.desk.Desk.{Desk}
use Rattle.rubis_script.specs.declared.plan.Plan.{Plan}

-- what is still to be made of the messages that it holds, and of the records to come, the first of which has that number
abbrev pub left_at : {T : Type 0} → Desk T → ℕ → Account
left_at d = made_of_held d.site d.window.items d.first

-- with the messages that it holds taken in, these records, the first of which has that number, lead it to the other, which holds none
abbrev pub LeadsSite : {T : Type 0} → Desk T → ℕ → List (List (List ℕ)) → Desk T → Type 0
LeadsSite d number records last = (last.window.items ≡ []) × (last.site.place ≡ d.site.place)
    × (last.site.state ≡ site_after d.site.place (after_all d.site.place d.site.state d.window.items) number records)

-- it is set up as it was
abbrev pub KeepsSetup : {T : Type 0} → Desk T → Desk T → Type 0
KeepsSetup old new = (new.site.place ≡ old.site.place) × (new.plan ≡ old.plan)

-- what it is set up as
abbrev pub setup_of : {T : Type 0} → Desk T → Place × Plan
setup_of d = (d.site.place, d.plan)

-- nothing of it changed but how far the site's tables are
pub record KeepsAllButTables {T : Type 0} (old new : Desk T) : Type 0 where
  pub setup : KeepsSetup old new
  pub state : new.site.state ≡ old.site.state
  pub held : (new.window.items ≡ old.window.items) × (new.first ≡ old.first)

-- messages that it held were taken in and answered, or none
pub record TakesHeld {T : Type 0} (old new : Desk T) (sink sink2 : List ℕ) : Type 0 where
  pub text : (number : ℕ) → Keeps (left_at old number) (left_at new number) sink sink2
  pub leads : SettlesHeld old.site old.window.items new.site new.window.items

-- the record with that number, which means that, was answered or is held
pub record TakesNext {T : Type 0} (input : Input) (number : ℕ) (old new : Desk T) (sink sink2 : List ℕ) : Type 0 where
  pub text : (fields : List (List ℕ)) → input_of old.site.place.sites fields ≡ input
      → AnswersRecord GoesOn (left_at old number) (left_at new (number + 1)) sink sink2 fields
  pub leads : StepsOn number input old.site old.window.items new.site new.window.items

-- the same, and some of what waits was written out
pub record WritesNext {T : Type 0} (input : Input) (number : ℕ) (old new : Desk T) (sink sink2 : List ℕ) (before after : Option (List ℕ)) : Type 0 where
  pub text : (fields : List (List ℕ)) → input_of old.site.place.sites fields ≡ input
      → WritesRecord GoesOn (left_at old number) (left_at new (number + 1)) sink sink2 before after fields
  pub leads : StepsOn number input old.site old.window.items new.site new.window.items

-- from before that record on, which means that, a prefix of the text was written
abbrev pub WritesPrefixFrom : {T : Type 0} → Input → ℕ → Desk T → List ℕ → Option (List ℕ) → Option (List ℕ) → Type 0
WritesPrefixFrom input number d sink before after = (fields : List (List ℕ)) → input_of d.site.place.sites fields ≡ input
    → BreaksOff (left_at d number) sink fields before after
