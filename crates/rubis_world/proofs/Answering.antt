-- What several sites answer to a record, and then to those after it.
use Rattle.rubis_world.proofs.Common.{◌≡◌, ◌+◌, ◌++◌, ◌∷◌, ℕ, List, arith, length, refl, ap, ◌∙◌, sym, Ok, Err, [], Refusal, world_input, Happened}
use Rattle.rubis_world.proofs.Common.{Packet, world_after, Event, World, happens, world_answers, world_step, rows_text, GoesOn}
use Rattle.rubis_model.specs.WorldRecords.{event_rows, refusal_row, told_at}
use Rattle.rubis_laws.proofs.Runs.Written.{refusals_change_nothing}
use Rattle.rubis_engine.specs.Accounts.{AnswersRecord, LeadsOn}
use Rattle.rubis_engine.proofs.TextFacts.{text-goes}
use Rattle.rubis_schema.specs.declared.refusals.Refusal.TheVariants as refusal
use Rattle.rubis_script.specs.Replica.fault_variants as fault
use Rattle.rubis_world.specs.Worlds.{ComesToWorld, StepsWorld, WorldState}
use Rattle.rubis_world.specs.declared.faults.WorldFault.{WorldFault}
use Rattle.rubis_world.specs.declared.faults.WorldFault.TheVariants.{BadEvent, NoSuchPacket, Site, Memory}
use Rattle.rubis_world.specs.Running.{IsRefused, IsTold, LeadsWorld, told_by_world}

goes_on : (keep : ℕ) (w : World) (n : ℕ) (fields : List (List ℕ)) (more : List (List (List ℕ)))
    → let step = world_step keep w n (world_input (length w.sites) fields) in world_answers keep w n (fields ∷ more) ≡ step.1
    ++ world_answers keep step.0 (n + 1) more
unfolding world_answers
goes_on keep w n fields more = refl

-- that it is answered, and where it leads them
pub world_goes : (old new : WorldState) (n : ℕ) (fields : List (List ℕ)) (sink sink2 : List ℕ)
    → IsTold old new (world_step old.keep old.world n (world_input (length old.world.sites) fields)) sink sink2
    → AnswersRecord GoesOn (told_by_world old n) (told_by_world new (n + 1)) sink sink2 fields × LeadsOn GoesOn LeadsWorld n fields old new
world_goes old new n fields sink sink2 ((keep, world), told) =
    let step = world_step old.keep old.world n (world_input (length old.world.sites) fields) in (
      λ more. (
        λ ending. ap (λ rows. sink ++ rows_text rows) (goes_on old.keep old.world n fields more)
            ∙ text-goes sink sink2 step.1 (world_answers old.keep step.0 (n + 1) more) told
            ∙ (λ i. sink2 ++ rows_text (world_answers (sym keep i) (sym world i) (n + 1) more)),
        omega arith,
      ),
      λ more last (keep2, world2). (keep2 ∙ keep, world2 ∙ (λ i. world_after (keep i) (world i) (n + 1) more)),
    )

-- ---- an event

module _ (old new : WorldState) (e : Event) where
  -- a refusal changes nothing
  stays : (r : Refusal) → (happens old.keep old.world e).1 ≡ Err r → ComesToWorld old new old.world → ComesToWorld old new (happens old.keep old.world e).0
  stays r f same = (same.0, same.1 ∙ sym ((refusals_change_nothing old.keep old.world e).refused r f))

  here : new ≡ old → ComesToWorld old new old.world
  here f = (ap (λ (s : WorldState). s.keep) f, ap (λ (s : WorldState). s.world) f)

  -- so the text that says so is that of the step
  refused : (n i : ℕ) (before after : List ℕ) (r : Refusal) → (happens old.keep old.world e).1 ≡ Err r → ComesToWorld old new old.world
      → after ≡ before ++ rows_text (refusal_row n i r ∷ []) → IsTold old new (told_at n i (happens old.keep old.world e)) before after
  refused n i before after r f same told =
      (stays r f same, told ∙ ap (λ a. before ++ rows_text (event_rows n i (happens old.keep old.world e).0.sent a)) (sym f))

-- an event that is refused
pub event_refused : (old new : WorldState) (n i : ℕ) (e : Event) (fault : WorldFault) (before after : List ℕ)
    → StepsWorld old new (happens old.keep old.world e) (Err fault) → IsRefused n i fault before after
    → IsTold old new (told_at n i (happens old.keep old.world e)) before after
event_refused old new n i e BadEvent before after s told = refused old new e n i before after refusal.BadEvent s.1 (here old new e s.0) told
event_refused old new n i e NoSuchPacket before after s told = refused old new e n i before after refusal.NoSuchPacket s.1 (here old new e s.0) told
event_refused old new n i e (Site (fault.Refused r)) before after s told = refused old new e n i before after r s.1 s.0 told
event_refused old new n i e (Site fault.Behind) before after s told = absurd told
event_refused old new n i e (Site fault.Memory) before after s told = absurd told
event_refused old new n i e Memory before after s told = absurd told

-- an event that happens
pub event_told : (old new : WorldState) (n i : ℕ) (e : Event) (h : Happened) (sent : List Packet) (before after : List ℕ)
    → StepsWorld old new (happens old.keep old.world e) (Ok h) → sent ≡ new.world.sent → after ≡ before ++ rows_text (event_rows n i sent (Ok h))
    → IsTold old new (told_at n i (happens old.keep old.world e)) before after
event_told old new n i e h sent before after s all told =
    let packets : sent ≡ (happens old.keep old.world e).0.sent = all ∙ ap (λ (w : World). w.sent) s.0.1 in
    (s.0, told ∙ (λ k. before ++ rows_text (event_rows n i (packets k) (sym s.1 k))))
