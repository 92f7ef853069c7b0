-- The status with which a program ends that runs a site.
use Rattle.std.specs.Prelude.{◌≡◌, ℕ, List, Option, Result, cond, is_ok}
use Rattle.rubis_schema.specs.declared.limits.TheConstants.{RECORDS_MAX}
use Rattle.rubis_model.specs.Site.{Place}
use Rattle.rubis_engine.specs.Progress.{IsRun}
use Rattle.rubis_engine.specs.declared.fault.Count.{Count}
use Rattle.rubis_engine.specs.declared.fault.RunFault.{RunFault}
use Rattle.rubis_script.specs.SiteRuns.{site_answers}

-- it ran over this input, and the status is that of how it ended: 0 if it went well, and 1 if a fault ended it
abbrev pub IsRunOfStatus : Place → List ℕ → Option (List ℕ) → Option (List ℕ) → ℕ → Type 0
IsRunOfStatus p input old new status =
    (ended : Result Count RunFault) × IsRun (site_answers p) RECORDS_MAX input old new ended × (status ≡ cond (is_ok ended) 0 1)
