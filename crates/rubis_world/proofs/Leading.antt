-- How a run of several sites ends: its text, which is that of a run, and where its records lead.
use Rattle.rubis_world.proofs.Common.{ℕ, List, Option, Some, None, ◌≡◌, ◌∙◌, [], ap, refl, sym, subst, ◌≤◌, take, Result, Ok, Err, IsErr, IsRun}
use Rattle.rubis_world.proofs.Common.{input_records, rows_text, Count, RunFault, append-nil, Place, Replica, SiteState, world_output_of}
use Rattle.rubis_world.proofs.Common.{answers_are_a_run}
use Rattle.std.specs.Prelude.{IsErrAnd, length}
use Rattle.rubis_model.specs.Lack.{waiting_rows}
use Rattle.rubis_model.specs.Processes.{site_after}
use Rattle.rubis_model.specs.Site.{opening_at}
use Rattle.rubis_engine.specs.Progress.{IsDone}
use Rattle.rubis_engine.specs.Seam.{Lefts}
use Rattle.rubis_reading.specs.declared.chunks.Chunks.{Chunks}
use Rattle.rubis_script.specs.Headline.{HasAnswered, OfRead}
use Rattle.std.specs.Io.KnownBytes.{Appends}
use Rattle.rubis_engine.specs.Accounts.Ending.{AtEnd}
use Rattle.rubis_script.specs.SiteRuns.{told_by}
use Rattle.rubis_schema.specs.declared.limits.TheConstants.{COUNTED_MAX, KEEP_MAX}
use Rattle.rubis_engine.specs.declared.fault.RunFault.TheVariants as fault
use Rattle.rubis_world.specs.Headline.{LeadWorld, WorldEndsWhole, AppendsARun, TellsARun}
use Rattle.rubis_world.specs.Running.{waiting_account, waiting_from, answers_of_world}
use Rattle.rubis_world.specs.Worlds.{WorldState}

-- where the answered records lead
pub world_leads : {R : Type 0} (rem : Lefts R) (chunks : Chunks R) (limit : ℕ) (s s2 : WorldState) (old now : Option (List ℕ)) (input : List ℕ)
    (result : Result Count RunFault) → WorldEndsWhole rem chunks limit s s2 old now input result → OfRead limit input result (λ records. LeadWorld records s s2)
world_leads rem chunks limit s s2 old now input (Ok count) ends = ends.1
world_leads rem chunks limit s s2 old now input (Err fault.TooLong) ends = ends.1
world_leads rem chunks limit s s2 old now input (Err fault.Read) (k, just, came) = (k, just.1)
world_leads rem chunks limit s s2 old now input (Err fault.Memory) ends = tt
world_leads rem chunks limit s s2 old now input (Err fault.Write) ends = tt

-- ---- a run of which nothing is written but at its end

nothing_appended : (known : Option (List ℕ)) → Appends known known []
nothing_appended None = tt
nothing_appended (Some bytes) = sym (append-nil bytes)

by_fault : (first : SiteState) (p : Place) (s : Replica) (limit : ℕ) (input : List ℕ) (old new now : Option (List ℕ)) (e : RunFault)
    → IsRun (told_by first 1) limit input old new (Err e) → IsRun (waiting_from p s 1) limit input now now (Err e)
by_fault first p s limit input old new now fault.TooLong ends = (nothing_appended now, ends.1, ends.2)
by_fault first p s limit input old new now fault.Read ends = (ends.0, nothing_appended now)
by_fault first p s limit input old new now fault.Memory ends = ([], (waiting_from p s 1).text AtEnd (input_records input), nothing_appended now, refl)
by_fault first p s limit input old new now fault.Write ends = ([], (waiting_from p s 1).text AtEnd (input_records input), nothing_appended now, refl)

abbrev failed : RunFault → Result Count RunFault
failed e = Err e

is_that : (r : Result Count RunFault) (e : RunFault) → IsErr r × IsErrAnd r (λ f. f ≡ e) → failed e ≡ r
is_that (Ok count) e handed = absurd cc
is_that (Err f) e handed = let same : f ≡ e = handed.1 in ap failed (sym same)

-- where the site's run ended with that fault, nothing is written, and the run ends so too
pub ends_early : (first : SiteState) (p : Place) (s : Replica) (limit : ℕ) (input : List ℕ) (old new now : Option (List ℕ)) (r : Result Count RunFault) (e : RunFault)
    → IsErr r × IsErrAnd r (λ f. f ≡ e) → IsRun (told_by first 1) limit input old new (Err e) → IsRun (waiting_from p s 1) limit input now now r
ends_early first p s limit input old new now r e handed ends =
    subst (λ x. IsRun (waiting_from p s 1) limit input now now x) (is_that r e handed) (by_fault first p s limit input old new now e ends)

-- where it was done, what waits at the site was written
pub ends_waiting : (first last : SiteState) (p : Place) (limit count : ℕ) (input : List ℕ) (old new before after : Option (List ℕ)) (waits : List ℕ)
    → first.place ≡ p → first.state ≡ opening_at p.site → HasAnswered first last old new (input_records input)
    → (count ≡ length (input_records input)) × (count ≤ limit) → waits ≡ rows_text (waiting_rows last.state) → Appends before after waits
    → IsDone (waiting_account p) limit before after (input_records input) count
ends_waiting first last p limit count input old new before after waits place opened (out, (same, state)) counted is appended = (
  subst (Appends before after)
      (is ∙ ap (λ s. rows_text (waiting_rows s)) (state ∙ (λ i. site_after (place i) (opened i) 1 (input_records input)))) appended,
  counted.0,
  counted.1,
)

-- ---- why the text of a run of several sites is that of a run

appends_a_run : (sites keep : ℕ) → 1 ≤ sites → sites ≤ COUNTED_MAX → keep ≤ KEEP_MAX → (old new : Option (List ℕ)) (records : List (List (List ℕ)))
    → Appends old new (rows_text (world_output_of sites keep records)) → AppendsARun sites keep old new records
appends_a_run sites keep some few small old new records appended =
    (world_output_of sites keep records, appended, answers_are_a_run sites keep records some few small)

-- what a run over an input leaves in its writer is the text of a run of the sites
pub tells_a_run : (sites keep : ℕ) → 1 ≤ sites → sites ≤ COUNTED_MAX → keep ≤ KEEP_MAX →
    (limit : ℕ) (input : List ℕ) (old new : Option (List ℕ)) (result : Result Count RunFault)
    → IsRun (answers_of_world sites keep) limit input old new result → TellsARun sites keep limit input old new result
tells_a_run sites keep some few small limit input old new (Ok count) h = appends_a_run sites keep some few small old new (input_records input) h.0
tells_a_run sites keep some few small limit input old new (Err fault.TooLong) h = appends_a_run sites keep some few small old new
    (take limit (input_records input)) h.0
tells_a_run sites keep some few small limit input old new (Err fault.Read) h =
    (h.0, appends_a_run sites keep some few small old new (take h.0 (input_records input)) h.1)
tells_a_run sites keep some few small limit input old new (Err fault.Memory) h = tt
tells_a_run sites keep some few small limit input old new (Err fault.Write) h = tt
