-- Where records lead a site, one after the other, and what the end of a run says of it.
use Rattle.rubis_script.proofs.Common.{◌∙◌, ◌+◌, ◌++◌, ◌∷◌, [], ap, append_assoc, arith, length, sym, ◌≡◌, ℕ, List, Option, append-nil}
use Rattle.rubis_script.proofs.Common.{refl, subst, take, input_of, answers, input_step, Place, Replica, arrived, opening_at, Result, Ok, Err}
use Rattle.rubis_script.proofs.Common.{Appends, Message, Msg, site_after, Input, Came, TakesFirst, after_all, SiteState, AtEnd, IsRun, WrotePrefix}
use Rattle.rubis_script.proofs.Common.{input_records, rows_text, Count, RunFault}
use Rattle.rubis_model.specs.Processes.{process}
use Rattle.rubis_script.specs.Headline.{ReplaysGoOn, after_records, AnswersAll, AnswersFirst, HasAnswered, OfRead, SettlesHeld, StandsAsProcess, StepsOn}
use Rattle.rubis_script.specs.Headline.{WritesAsProcess}
use Rattle.rubis_engine.specs.declared.fault.RunFault.TheVariants as fault
use Rattle.rubis_script.specs.SiteRuns.{told_by}

pub replays_go_on : ReplaysGoOn
unfolding answers after_records
replays_go_on p s n [] more = ap (λ k. answers p s k more) (omega arith)
replays_go_on p s n (fields ∷ rest) more =
    let step = input_step p s n (input_of p.sites fields) in
    let shown = answers p step.0 (n + 1) rest in
    let left = after_records p step.0 (n + 1) rest in
    ap (λ t. step.1 ++ t) (replays_go_on p step.0 (n + 1) rest more)
    ∙ sym (append_assoc step.1 shown (answers p left (n + 1 + length rest) more))
    ∙ ap (λ k. (step.1 ++ shown) ++ answers p left k more) (omega arith)

-- ---- where records lead a site, one after the other

-- ---- messages that are held

pub after_more : (p : Place) (s : Replica) (ms : List Message) (m : Message) → after_all p s (ms ++ m ∷ []) ≡ (arrived p (after_all p s ms) m).0
after_more p s [] m = refl
after_more p s (x ∷ ms) m = after_more p (arrived p s x).0 ms m

-- those that are held are settled, and then one more is held
pub settled_steps : (old mid : SiteState) (n : ℕ) (w w1 w2 : List Message) (m : Message) → SettlesHeld old w mid w1 → w2 ≡ w1 ++ m ∷ []
    → StepsOn n (Came (Msg m)) old w mid w2
settled_steps old mid n w w1 w2 m (place, settled) items =
    (place, ap (after_all mid.place mid.state) items ∙ after_more mid.place mid.state w1 m ∙ (λ i. (input_step (place i) (settled i) n (Came (Msg m))).0))

-- all of them were taken in
pub taken_all : (p : Place) (old new : Replica) (window rest : List Message) (told : List _) → TakesFirst p old new window told rest → rest ≡ []
    → new ≡ after_all p old window
taken_all p old new window rest told t none =
    let same : t.taken ≡ window = sym (t.parts ∙ ap (λ r. t.taken ++ r) none ∙ append-nil t.taken) in
    t.state ∙ ap (after_all p old) same

pub settles_all : (s s2 : SiteState) (w w2 : List Message) → s2.place ≡ s.place → s2.state ≡ after_all s.place s.state w → w2 ≡ [] → SettlesHeld s w s2 w2
settles_all s s2 w w2 place state none = (place, ap (after_all s2.place s2.state) none ∙ state)

-- those that are held are taken in, and then the record is
pub flush_steps : (old mid new : SiteState) (w w2 : List Message) (n : ℕ) (input : Place → Input) → SettlesHeld old w mid w2 → w2 ≡ [] → new.place ≡ mid.place
    → new.state ≡ (input_step mid.place mid.state n (input mid.place)).0 → StepsOn n (input old.place) old w new w2
flush_steps old mid new w w2 n input (same, settled) none place state =
    let taken : mid.state ≡ after_all old.place old.state w = sym (ap (after_all mid.place mid.state) none) ∙ settled in (
      place ∙ same,
      ap (after_all new.place new.state) none ∙ state ∙ (λ i. (input_step (same i) (taken i) n (input (same i))).0),
    )

-- ---- how a run ends

abbrev pub SiteEnds : ℕ → SiteState → SiteState → Option (List ℕ) → Option (List ℕ) → List (List (List ℕ)) → Result Count RunFault → Type 0
SiteEnds limit first new old now records (Ok count) = AnswersAll limit first new old now records count.records
SiteEnds limit first new old now records (Err fault.TooLong) = AnswersFirst limit first new old now records
SiteEnds limit first new old now records (Err fault.Read) = (k : ℕ) × HasAnswered first new old now (take k records)
SiteEnds limit first new old now records (Err fault.Memory) = WrotePrefix ((told_by first 1).text AtEnd) old now records
SiteEnds limit first new old now records (Err fault.Write) = WrotePrefix ((told_by first 1).text AtEnd) old now records

-- what it leaves in its writer is a run
pub ends_run : (limit : ℕ) (first new : SiteState) (input : List ℕ) (old now : Option (List ℕ)) (result : Result Count RunFault)
    → SiteEnds limit first new old now (input_records input) result → IsRun (told_by first 1) limit input old now result
ends_run limit first new input old now (Ok count) h = (h.0.0, h.1, h.2)
ends_run limit first new input old now (Err fault.TooLong) h = (h.0.0, h.1, h.1)
ends_run limit first new input old now (Err fault.Read) h = (h.0, h.1.0)
ends_run limit first new input old now (Err fault.Memory) h = h
ends_run limit first new input old now (Err fault.Write) h = h

-- and its records lead to where it ends
pub ends_led : (limit : ℕ) (first new : SiteState) (input : List ℕ) (old now : Option (List ℕ)) (result : Result Count RunFault)
    → SiteEnds limit first new old now (input_records input) result → OfRead limit input result (λ records. HasAnswered first new old now records)
ends_led limit first new input old now (Ok count) h = h.0
ends_led limit first new input old now (Err fault.TooLong) h = h.0
ends_led limit first new input old now (Err fault.Read) h = h
ends_led limit first new input old now (Err fault.Memory) h = tt
ends_led limit first new input old now (Err fault.Write) h = tt

-- what follows of the records that a run answers
pub of_read_so : (P Q : List (List (List ℕ)) → Type 0) (limit : ℕ) (input : List ℕ) (result : Result Count RunFault)
    → ((records : List (List (List ℕ))) → P records → Q records) → OfRead limit input result P → OfRead limit input result Q
of_read_so P Q limit input (Ok count) f h = f (input_records input) h
of_read_so P Q limit input (Err fault.TooLong) f h = f (take limit (input_records input)) h
of_read_so P Q limit input (Err fault.Read) f h = (h.0, f (take h.0 (input_records input)) h.1)
of_read_so P Q limit input (Err fault.Memory) f h = tt
of_read_so P Q limit input (Err fault.Write) f h = tt

-- ---- the process that a site is

-- what was read by the process, in its place
process_place : (p : Place) (keep : ℕ → ℕ) → keep p.site ≡ p.keep → process p.sites keep p.site ≡ p
process_place p keep kept = λ i. record { site = p.site; sites = p.sites; keep = kept i }

pub writes_as : (old new : SiteState) (before after : Option (List ℕ)) (records : List (List (List ℕ))) → old.state ≡ opening_at old.place.site
    → HasAnswered old new before after records → WritesAsProcess old.place before after records
writes_as old new before after records opened h keep readings (kept, read) =
    let same = process_place old.place keep kept in
    subst (λ rows. Appends before after (rows_text rows)) (sym (λ i. answers (same i) (sym opened i) 1 (read i))) h.0

pub stands_as : (old new : SiteState) (before after : Option (List ℕ)) (records : List (List (List ℕ))) → old.state ≡ opening_at old.place.site
    → HasAnswered old new before after records → StandsAsProcess old.place new.state records
stands_as old new before after records opened h keep readings (kept, read) =
    let same = process_place old.place keep kept in
    let state = h.1.1 ∙ sym (λ i. site_after (same i) (sym opened i) 1 (read i)) in (
      state,
      λ within. record { within = within; messages = ap (λ (s : Replica). s.log) state; rows = tt },
    )

pub as_process : (old new : SiteState) (limit : ℕ) (input : List ℕ) (before after : Option (List ℕ)) (result : Result Count RunFault) → old.state
    ≡ opening_at old.place.site
    → OfRead limit input result (λ records. HasAnswered old new before after records)
    → OfRead limit input result (λ records. WritesAsProcess old.place before after records × StandsAsProcess old.place new.state records)
as_process old new limit input before after result opened h =
    of_read_so (λ records. HasAnswered old new before after records)
    (λ records. WritesAsProcess old.place before after records × StandsAsProcess old.place new.state records) limit input result
    (λ records done. (writes_as old new before after records opened done, stands_as old new before after records opened done)) h
