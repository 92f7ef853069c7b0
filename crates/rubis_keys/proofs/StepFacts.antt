-- What a step of a site that knows keys makes of a record under a key, by what a call of the site says.
use Rattle.std.proofs.Common.{◌≡◌, ◌∙◌, ◌++◌, ℕ, List, None, Ok, Err, ap, false, subst, sym, true}
use Rattle.rubis_laws.proofs.Runs.Written.{arrival_refused}
use Rattle.rubis_message.specs.Message.{Message}
use Rattle.rubis_model.specs.Site.{arrived, arrived_rows, asked}
use Rattle.rubis_replica.specs.State.{AnswersAsTheStep}
use Rattle.rubis_replica.specs.declared.faults.Fault.{Fault}
use Rattle.rubis_engine.specs.Text.{rows_text}
use Rattle.rubis_script.specs.Inputs.{IsRefusedBy}
use Rattle.rubis_shadow.specs.declared.shadows.Ask.{Ask}
use Rattle.rubis_keys.specs.Desks.{Steps, standing_at}
use Rattle.rubis_keys.specs.Keys.{ask_step, asked_under_rows, is_red_ask, known_of, noted, noted_came, noted_made}
use Rattle.rubis_keys.specs.Maps.{known_in}
use Rattle.rubis_keys.specs.declared.desk.KeyedDesk.{KeyedDesk}
use Rattle.rubis_keys.specs.declared.inputs.KeyedInput.TheVariants.{AskedUnder, CameUnder}

-- an ask under a key that isn't known was accepted
pub ask_made : {T : Type 0} (old new : KeyedDesk T) (n : ℕ) (key : List ℕ) (a : Ask) (m : Message) (sink sink2 : List ℕ)
    → known_in old.keys key (is_red_ask a) ≡ None
    → AnswersAsTheStep old.desk.site new.desk.site (asked old.desk.site.place old.desk.site.state a) (Ok m)
    → known_in new.keys ≡ noted (known_in old.keys) key (known_of m) → sink2 ≡ sink ++ rows_text (asked_under_rows n key (Ok m))
    → Steps (AskedUnder key a) n old new sink sink2 true
ask_made old new n key a m sink sink2 none answers keys told =
    let p = old.desk.site.place in
    let s = standing_at old in record {
      leads = (λ i. record { site = answers.0 i; keys = keys i })
          ∙ sym (ap (λ o. (ask_step p s n key a o).0) none ∙ ap (λ r. record { site = (asked p s.site a).0; keys = noted_made s.keys key r }) answers.1);
      told = told
          ∙ ap (λ rows. sink ++ rows_text rows) (sym (ap (λ o. (ask_step p s n key a o).1) none ∙ ap (asked_under_rows n key) answers.1));
      same = λ e. absurd (cc e);
    }

-- a message that came under a key was refused
pub came_refused : {T : Type 0} (old new : KeyedDesk T) (n : ℕ) (key : List ℕ) (m : Message) (fault : Fault) (sink sink2 : List ℕ)
    → AnswersAsTheStep old.desk.site new.desk.site (arrived old.desk.site.place old.desk.site.state m) (Err fault) → new.keys ≡ old.keys
    → IsRefusedBy n fault sink sink2 → Steps (CameUnder key m) n old new sink sink2 false
came_refused old new n key m fault sink sink2 answers keys (r, is, told) =
    let p = old.desk.site.place in
    let s = old.desk.site.state in
    let both : (new.desk.site.state ≡ s) × ((arrived p s m).1 ≡ Err r) =
    subst (λ f. AnswersAsTheStep old.desk.site new.desk.site (arrived p s m) (Err f)) is answers in
    let same : standing_at new ≡ standing_at old = λ i. record { site = both.0 i; keys = known_in (keys i) } in record {
      leads = same
          ∙ sym (λ i. record { site = arrival_refused p s m both.1 i; keys = noted_came (known_in old.keys) key m (both.1 i) });
      told = told ∙ ap (λ c. sink ++ rows_text (arrived_rows n c)) (sym both.1);
      same = λ _. same;
    }
