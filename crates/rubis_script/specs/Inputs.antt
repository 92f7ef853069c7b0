-- What a record is to a site, and what the site answers to it.
use Rattle.std.specs.Prelude.{◌≡◌, ◌++◌, ◌∷◌, [], ℕ, List}
use Rattle.rubis_schema.specs.declared.refusals.Refusal.{Refusal}
use Rattle.rubis_model.specs.Site.{refused_row, input_step}
use Rattle.rubis_replica.specs.declared.faults.Fault.{Fault}
use Rattle.rubis_replica.specs.declared.faults.Fault.TheVariants.{Refused}
use Rattle.rubis_message.specs.declared.inputs.Input.{Input}
use Rattle.rubis_replica.specs.State.{SiteState}
use Rattle.rubis_engine.specs.Text.{rows_text}

-- the site has come to what record n makes of it, and the text of its answers follows what stood before
abbrev pub IsAnswered : ℕ → Input → SiteState → SiteState → List ℕ → List ℕ → Type 0
IsAnswered n input old new before after =
    (new.state ≡ (input_step old.place old.state n input).0) × (after ≡ before ++ rows_text (input_step old.place old.state n input).1)

-- the site refuses record n, for that reason, and the text of its answer follows what stood before
abbrev pub IsRefusedBy : ℕ → Fault → List ℕ → List ℕ → Type 0
IsRefusedBy n fault before after = (refusal : Refusal) × (fault ≡ Refused refusal) × (after ≡ before ++ rows_text (refused_row n refusal ∷ []))
