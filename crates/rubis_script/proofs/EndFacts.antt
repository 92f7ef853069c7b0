-- What the end of a run says of the site.
use Rattle.rubis_script.proofs.Common.{◌≡◌, ◌∙◌, [], ℕ, List, Option, ap, refl, subst, sym, take, Result, Ok, Err, Appends}
use Rattle.rubis_script.proofs.Common.{site_after, answers, after_all, SiteState, Account, AtEnd, Cut, WrotePrefix, input_records, Count, RunFault}
use Rattle.rubis_script.proofs.Common.{Chunks, IsRun, Place, Replica, opening_at}
use Rattle.rubis_engine.specs.Accounts.{Ending}
use Rattle.rubis_engine.specs.Seam.{Lefts, MayHave, OfEach, left}
use Rattle.rubis_reading.specs.Chunked.{AreNew, HasWholeInput, OfInput}
use Rattle.rubis_reading.proofs.ChunkFacts.{over-input}
use Rattle.rubis_serving.specs.Serving.{EndsLed}
use Rattle.rubis_engine.specs.declared.fault.RunFault.TheVariants as fault
use Rattle.rubis_script.specs.Desks.{LeadsSite, left_at}
use Rattle.rubis_script.specs.Headline.{HasAnswered, OfRead, StandsAsProcess, WritesAsProcess}
use Rattle.rubis_script.specs.Runs.{EndsAsSite}
use Rattle.rubis_script.specs.SiteRuns.{site_account, site_answers, told_by}
use Rattle.rubis_script.specs.declared.desk.Desk.{Desk}
use Rattle.rubis_script.proofs.LeadFacts.{SiteEnds, as_process, ends_led, ends_run, of_read_so}
use Rattle.rubis_script.proofs.WindowFacts.{held-told}

-- where nothing is held, nothing is left to be written after the last record, and no records lead elsewhere
pub told-nothing : {T : Type 0} (d : Desk T) (n : ℕ) (ending : Ending) → d.window.items ≡ [] → (left_at d n).text ending [] ≡ []
unfolding answers
told-nothing d n ending none = rw none refl

pub rests-there : {T : Type 0} (d : Desk T) (n : ℕ) → d.window.items ≡ [] → LeadsSite d n [] d
rests-there d n none = (none, refl, sym (ap (after_all d.site.place d.site.state) none))

-- these records were answered, and led there
has_answered : {T : Type 0} (d d2 : Desk T) (ending : Ending) (records : List (List (List ℕ))) (old now : Option (List ℕ)) → d.window.items ≡ []
    → Appends old now ((left_at d 1).text ending records) → LeadsSite d 1 records d2 → HasAnswered d.site d2.site old now records
has_answered d d2 ending records old now none out (held, place, state) = (
  subst (λ (a : Account). Appends old now (a.text ending records)) (held-told d.site d.window.items d.first 1 none) out,
  (place, state ∙ ap (λ w. site_after d.site.place (after_all d.site.place d.site.state w) 1 records) none),
)

pub led_site : {R T : Type 0} (rem : Lefts R) (chunks : Chunks R) (limit : ℕ) (d d2 : Desk T) (old now : Option (List ℕ)) (input : List ℕ)
    (result : Result Count RunFault) → d.window.items ≡ [] → EndsLed left_at LeadsSite rem chunks limit d d2 old now input result
    → EndsAsSite rem chunks limit d.site d2.site old now input result
led_site rem chunks limit d d2 old now input (Ok count) none ((out, many, within), led) =
    (has_answered d d2 AtEnd (input_records input) old now none out led, many, within)
led_site rem chunks limit d d2 old now input (Err fault.TooLong) none ((out, more, read), led) =
    (has_answered d d2 Cut (take limit (input_records input)) old now none out led, more)
led_site rem chunks limit d d2 old now input (Err fault.Read) none (k, (cut, led), came) =
    (k, (has_answered d d2 Cut (take k (input_records input)) old now none cut.appended led, cut.within), came)
led_site rem chunks limit d d2 old now input (Err fault.Memory) none prefix =
    subst (λ (a : Account). WrotePrefix (a.text AtEnd) old now (input_records input)) (held-told d.site d.window.items d.first 1 none) prefix
led_site rem chunks limit d d2 old now input (Err fault.Write) none prefix =
    subst (λ (a : Account). WrotePrefix (a.text AtEnd) old now (input_records input)) (held-told d.site d.window.items d.first 1 none) prefix

-- in fewer words
pub site_ends : {R : Type 0} (rem : Lefts R) (chunks : Chunks R) (limit : ℕ) (first new : SiteState) (old now : Option (List ℕ)) (input : List ℕ)
    (result : Result Count RunFault) → EndsAsSite rem chunks limit first new old now input result → SiteEnds limit first new old now (input_records input) result
site_ends rem chunks limit first new old now input (Ok count) ends = ends
site_ends rem chunks limit first new old now input (Err fault.TooLong) ends = ends
site_ends rem chunks limit first new old now input (Err fault.Read) ends = (ends.0, ends.1.0)
site_ends rem chunks limit first new old now input (Err fault.Memory) ends = ends
site_ends rem chunks limit first new old now input (Err fault.Write) ends = ends

-- ---- what is said of each text that the reader of new chunks may have

module _ {R : Type 0} {rem : R → Option (List ℕ)} (chunks chunks2 : Chunks R) (limit : ℕ) (first new : SiteState) (old now : Option (List ℕ))
    (result : Result Count RunFault) (whole : OfEach rem chunks.reader chunks2.reader (λ l. (input : List ℕ) → HasWholeInput l chunks input
    → EndsAsSite l chunks2 limit first new old now input result)) where
  ended : AreNew chunks → (input : List ℕ) → MayHave rem input chunks.reader chunks2.reader → SiteEnds limit first new old now (input_records input) result
  ended none input may = site_ends (left input) chunks2 limit first new old now input result (over-input chunks chunks2 whole none input may)

  pub ended_run : OfInput rem chunks chunks2 (λ input. IsRun (told_by first 1) limit input old now result)
  ended_run none input may = ends_run limit first new input old now result (ended none input may)

  pub ended_leads : OfInput rem chunks chunks2 (λ input. OfRead limit input result (λ records. HasAnswered first new old now records))
  ended_leads none input may = ends_led limit first new input old now result (ended none input may)

  pub ended_process : first.state ≡ opening_at first.place.site → OfInput rem chunks chunks2 (λ input. OfRead limit input result
      (λ records. WritesAsProcess first.place old now records × StandsAsProcess first.place new.state records))
  ended_process opened none input may = as_process first new limit input old now result opened (ended_leads none input may)

-- ---- a site with which nothing was done yet

module _ (limit : ℕ) (input : List ℕ) (place : Place) (s : SiteState) (old now : Option (List ℕ)) (result : Result Count RunFault) (is : s.place ≡ place) where
  pub opened_run : s.state ≡ opening_at place.site → IsRun (told_by s 1) limit input old now result → IsRun (site_answers place) limit input old now result
  opened_run opened h =
      subst (λ (p : Place). IsRun (site_account p (opening_at place.site) 1) limit input old now result) is
      (subst (λ (r : Replica). IsRun (site_account s.place r 1) limit input old now result) opened h)

  pub opened_process : (new : Replica) → s.state ≡ opening_at place.site → (s.state ≡ opening_at s.place.site → OfRead limit input result
      (λ records. WritesAsProcess s.place old now records × StandsAsProcess s.place new records))
      → OfRead limit input result (λ records. WritesAsProcess place old now records)
  opened_process new opened h =
      of_read_so (λ records. WritesAsProcess s.place old now records × StandsAsProcess s.place new records) (λ records. WritesAsProcess place old now records)
      limit input result (λ records said. subst (λ (p : Place). WritesAsProcess p old now records) is said.0)
      (h (opened ∙ sym (ap (λ (p : Place). opening_at p.site) is)))
