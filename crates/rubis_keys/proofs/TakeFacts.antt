-- What a desk takes whose records may be under keys.
use Rattle.std.proofs.Common.{arith, ◌≡◌, ◌∙◌, ◌+◌, ◌++◌, ◌∷◌, [], ℕ, Bool, List, Option, ap, append-nil, append_assoc, refl, subst, sym}
use Rattle.rubis_message.specs.declared.inputs.Input.{Input}
use Rattle.rubis_message.specs.Inputs.{input_of}
use Rattle.rubis_model.specs.Site.{answers, input_step}
use Rattle.rubis_replica.specs.State.{after_all}
use Rattle.rubis_engine.proofs.RunFacts.{front-longer}
use Rattle.rubis_engine.specs.Accounts.{AnswersRecord, Ending, Keeps, LeadsAlike}
use Rattle.rubis_engine.specs.Accounts.Ending.{AtEnd}
use Rattle.rubis_engine.specs.Progress.{AppendsFront, BreaksOff, WritesRecord}
use Rattle.rubis_engine.specs.Text.{rows_text}
use Rattle.rubis_engine.specs.declared.service.Course.TheVariants.{GoesOn}
use Rattle.rubis_script.specs.Desks.{TakesHeld, WritesNext, WritesPrefixFrom}
use Rattle.rubis_script.specs.Windows.{window_rows}
use Rattle.rubis_script.specs.declared.desk.Desk.{Desk}
use Rattle.rubis_keys.specs.Desks.{HoldsAsBefore, LeadsKeyed, Steps, keyed_at, keyed_left_at, standing_at}
use Rattle.rubis_keys.specs.Keys.{KeyedSite, keyed_after, keyed_answers, keyed_input, keyed_step}
use Rattle.rubis_keys.specs.Maps.{known_in}
use Rattle.rubis_keys.specs.declared.desk.KeyedDesk.{KeyedDesk}
use Rattle.rubis_keys.specs.declared.inputs.KeyedInput.{KeyedInput}
use Rattle.rubis_keys.specs.declared.inputs.KeyedInput.TheVariants.{Plain}
use Rattle.rubis_keys.proofs.BareFacts.{plain_is}
use Rattle.rubis_keys.proofs.RowFacts.{text_grows, text_more}

-- the rows of the messages that it holds
abbrev pub held_rows : {T : Type 0} → Desk T → List (List (List ℕ))
held_rows d = window_rows d.site.place d.site.state d.first d.window.items

-- ---- a record

-- the record with that number, which is that, was answered or is held
pub record TakesKeyed {T : Type 0} (read : KeyedInput) (number : ℕ) (old new : KeyedDesk T) (sink sink2 : List ℕ) : Type 0 where
  pub text : (fields : List (List ℕ)) → keyed_input old.desk.site.place.sites fields ≡ read
      → AnswersRecord GoesOn (keyed_left_at old number) (keyed_left_at new (number + 1)) sink sink2 fields
  pub place : new.desk.site.place ≡ old.desk.site.place
  pub leads : keyed_at new ≡ (keyed_step old.desk.site.place (keyed_at old) number read).0

-- of what was told of it, and of where it led, follows what is told and led of any records behind it
pub takes : {T : Type 0} (d d2 : KeyedDesk T) (read : KeyedInput) (n : ℕ) (sink sink2 : List ℕ) → d2.desk.site.place ≡ d.desk.site.place
    → keyed_at d2 ≡ (keyed_step d.desk.site.place (keyed_at d) n read).0
    → sink ++ rows_text (held_rows d.desk ++ (keyed_step d.desk.site.place (keyed_at d) n read).1) ≡ sink2 ++ rows_text (held_rows d2.desk)
    → TakesKeyed read n d d2 sink sink2
unfolding keyed_answers
takes d d2 read n sink sink2 place leads told = record {
  text = λ fields is more. (
    λ ending. ap (λ i. sink ++ rows_text (held_rows d.desk ++ ((keyed_step d.desk.site.place (keyed_at d) n i).1
        ++ keyed_answers d.desk.site.place (keyed_step d.desk.site.place (keyed_at d) n i).0 (n + 1) more))) is
        ∙ text_grows sink sink2 (held_rows d.desk) (keyed_step d.desk.site.place (keyed_at d) n read).1 (held_rows d2.desk)
        (keyed_answers d.desk.site.place (keyed_step d.desk.site.place (keyed_at d) n read).0 (n + 1) more) told
        ∙ ap (λ rows. sink2 ++ rows_text (held_rows d2.desk ++ rows)) (λ i. keyed_answers (sym place i) (sym leads i) (n + 1) more),
    omega arith,
  );
  place = place;
  leads = leads;
}

-- where it led, the records behind it lead on
pub leads_on : {T : Type 0} (d d2 : KeyedDesk T) (n : ℕ) (fields : List (List ℕ)) (read : KeyedInput) → keyed_input d.desk.site.place.sites fields ≡ read
    → d2.desk.site.place ≡ d.desk.site.place → keyed_at d2 ≡ (keyed_step d.desk.site.place (keyed_at d) n read).0
    → (more : List (List (List ℕ))) (last : KeyedDesk T) → LeadsKeyed d2 (n + 1) more last → LeadsKeyed d n (fields ∷ more) last
leads_on d d2 n fields read is place leads more last (none, at, state) = (
  none,
  at ∙ place,
  state ∙ (λ i. keyed_after (place i) (leads i) (n + 1) more)
      ∙ ap (λ r. keyed_after d.desk.site.place (keyed_step d.desk.site.place (keyed_at d) n r).0 (n + 1) more) (sym is),
)

-- ---- messages that are held

-- the text of those that were taken in stands before what is still to be told
pub held_told : {T : Type 0} (d d2 : Desk T) (sink sink2 : List ℕ) → TakesHeld d d2 sink sink2 → sink ++ rows_text (held_rows d) ≡ sink2 ++ rows_text (held_rows d2)
unfolding answers
held_told d d2 sink sink2 h =
    ap (λ rows. sink ++ rows_text rows) (sym (append-nil (held_rows d))) ∙ (h.text 1 []).0 AtEnd ∙ ap (λ rows. sink2 ++ rows_text rows) (append-nil (held_rows d2))

pub held_at : {T : Type 0} (d d2 : KeyedDesk T) (sink sink2 : List ℕ) → TakesHeld d.desk d2.desk sink sink2 → d2.keys ≡ d.keys → keyed_at d2 ≡ keyed_at d
held_at d d2 sink sink2 h keys = λ i. record { site = h.leads.1 i; keys = known_in (keys i) }

pub held_keeps : {T : Type 0} (d d2 : KeyedDesk T) (sink sink2 : List ℕ) (n : ℕ) → TakesHeld d.desk d2.desk sink sink2 → d2.keys ≡ d.keys
    → Keeps (keyed_left_at d n) (keyed_left_at d2 n) sink sink2
held_keeps d d2 sink sink2 n h keys = λ more. (
  λ ending. text_grows sink sink2 (held_rows d.desk) [] (held_rows d2.desk) (keyed_answers d.desk.site.place (keyed_at d) n more)
      (ap (λ rows. sink ++ rows_text rows) (append-nil (held_rows d.desk)) ∙ held_told d.desk d2.desk sink sink2 h)
      ∙ ap (λ rows. sink2 ++ rows_text (held_rows d2.desk ++ rows)) (λ i. keyed_answers (sym h.leads.0 i) (sym (held_at d d2 sink sink2 h keys) i) n more),
  refl,
)

pub leads_held : {T : Type 0} (d d2 : KeyedDesk T) (sink sink2 : List ℕ) → TakesHeld d.desk d2.desk sink sink2 → d2.keys ≡ d.keys → LeadsAlike LeadsKeyed d d2
leads_held d d2 sink sink2 h keys number more last (none, at, state) =
    (none, at ∙ h.leads.0, state ∙ (λ i. keyed_after (h.leads.0 i) (held_at d d2 sink sink2 h keys i) number more))

-- where nothing is held, nothing is left to be told behind the last record, and no records lead elsewhere
pub told_nothing : {T : Type 0} (d : KeyedDesk T) (n : ℕ) (ending : Ending) → d.desk.window.items ≡ [] → (keyed_left_at d n).text ending [] ≡ []
unfolding keyed_answers
told_nothing d n ending none = rw none refl

pub rests_there : {T : Type 0} (d : KeyedDesk T) (n : ℕ) → d.desk.window.items ≡ [] → LeadsKeyed d n [] d
rests_there d n none =
    (none, refl, λ i. record { site = after_all d.desk.site.place d.desk.site.state (sym none i); keys = known_in d.keys })

-- ---- an ask, or a message, under a key: those that are held are taken in before

pub takes_behind : {T : Type 0} (d mid d2 : KeyedDesk T) (read : KeyedInput) (n : ℕ) (sink sink2 sink3 : List ℕ) (changed : Bool)
    → TakesHeld d.desk mid.desk sink sink2 → mid.keys ≡ d.keys → mid.desk.window.items ≡ [] → HoldsAsBefore mid d2
    → Steps read n mid d2 sink2 sink3 changed → TakesKeyed read n d d2 sink sink3
takes_behind d mid d2 read n sink sink2 sink3 changed h keys none holds steps =
    let none2 : d2.desk.window.items ≡ [] = holds.1 ∙ none in
    let here : keyed_at mid ≡ standing_at mid =
    λ i. record { site = after_all mid.desk.site.place mid.desk.site.state (none i); keys = known_in mid.keys } in
    let there : keyed_at d2 ≡ standing_at d2 =
    λ i. record { site = after_all d2.desk.site.place d2.desk.site.state (none2 i); keys = known_in d2.keys } in
    let same : keyed_step d.desk.site.place (keyed_at d) n read ≡ keyed_step mid.desk.site.place (standing_at mid) n read =
    λ i. keyed_step (sym h.leads.0 i) ((sym (held_at d mid sink sink2 h keys) ∙ here) i) n read in
    let rows = (keyed_step mid.desk.site.place (standing_at mid) n read).1 in
    let flushed : sink ++ rows_text (held_rows d.desk) ≡ sink2 =
    held_told d.desk mid.desk sink sink2 h ∙ ap (λ w. sink2 ++ rows_text (window_rows mid.desk.site.place mid.desk.site.state mid.desk.first w)) none ∙ append-nil sink2 in
    takes d d2 read n sink sink3 (holds.0.0 ∙ h.leads.0)
    (there ∙ steps.leads ∙ ap (λ (s : KeyedSite × List (List (List ℕ))). s.0) (sym same))
    (ap (λ (s : KeyedSite × List (List (List ℕ))). sink ++ rows_text (held_rows d.desk ++ s.1)) same
    ∙ text_grows sink sink2 (held_rows d.desk) [] [] rows
    (ap (λ xs. sink ++ rows_text xs) (append-nil (held_rows d.desk)) ∙ flushed ∙ sym (append-nil sink2))
    ∙ sym steps.told ∙ sym (append-nil sink3)
    ∙ ap (λ w. sink3 ++ rows_text (window_rows d2.desk.site.place d2.desk.site.state d2.desk.first w)) (sym none2))

-- ---- a record without a key is taken as it is where there are no keys

plain_told : {T : Type 0} (d d2 : Desk T) (i : Input) (n : ℕ) (fields : List (List ℕ)) (sink sink2 : List ℕ) (before after : Option (List ℕ))
    (h : WritesNext i n d d2 sink sink2 before after) (is : input_of d.site.place.sites fields ≡ i)
    → sink ++ rows_text (held_rows d ++ (input_step d.site.place (after_all d.site.place d.site.state d.window.items) n i).1)
    ≡ ((h.text fields is).out ++ sink2) ++ rows_text (held_rows d2)
unfolding answers
plain_told d d2 i n fields sink sink2 before after h is =
    ap (λ rows. sink ++ rows_text (held_rows d ++ rows))
    (sym (append-nil _) ∙ ap (λ x. (input_step d.site.place (after_all d.site.place d.site.state d.window.items) n x).1 ++ []) (sym is))
    ∙ ((h.text fields is).answers []).0 AtEnd ∙ ap (λ rows. ((h.text fields is).out ++ sink2) ++ rows_text rows) (append-nil (held_rows d2))

pub takes_plain : {T : Type 0} (d d2 : KeyedDesk T) (i : Input) (n : ℕ) (fields : List (List ℕ)) (sink sink2 : List ℕ) (before after : Option (List ℕ))
    → WritesNext i n d.desk d2.desk sink sink2 before after → d2.keys ≡ d.keys → keyed_input d.desk.site.place.sites fields ≡ Plain i
    → WritesRecord GoesOn (keyed_left_at d n) (keyed_left_at d2 (n + 1)) sink sink2 before after fields
    × ((more : List (List (List ℕ))) (last : KeyedDesk T) → LeadsKeyed d2 (n + 1) more last → LeadsKeyed d n (fields ∷ more) last)
takes_plain d d2 i n fields sink sink2 before after h keys is =
    let bare : input_of d.desk.site.place.sites fields ≡ i = plain_is d.desk.site.place.sites fields i is in
    let leads : keyed_at d2 ≡ (keyed_step d.desk.site.place (keyed_at d) n (Plain i)).0 = λ j. record { site = h.leads.1 j; keys = known_in (keys j) } in
    let written = h.text fields bare in
    let took = takes d d2 (Plain i) n sink (written.out ++ sink2) h.leads.0 leads (plain_told d.desk d2.desk i n fields sink sink2 before after h bare) in
    (record { out = written.out; appended = written.appended; answers = took.text fields is }, leads_on d d2 n fields (Plain i) is h.leads.0 leads)

-- and so are some first bytes
pub breaks_plain : {T : Type 0} (d : KeyedDesk T) (i : Input) (n : ℕ) (fields : List (List ℕ)) (sink : List ℕ) (before after : Option (List ℕ))
    → WritesPrefixFrom i n d.desk sink before after → keyed_input d.desk.site.place.sites fields ≡ Plain i → BreaksOff (keyed_left_at d n) sink fields before after
unfolding answers keyed_answers
breaks_plain d i n fields sink before after h is more =
    let bare : input_of d.desk.site.place.sites fields ≡ i = plain_is d.desk.site.place.sites fields i is in
    let p = d.desk.site.place in
    let s = keyed_at d in
    let rows = (input_step p s.site n (input_of p.sites fields)).1 in
    let later = keyed_answers p (keyed_step p s n (keyed_input p.sites fields)).0 (n + 1) more in
    subst (AppendsFront before after)
    (append_assoc sink (rows_text (held_rows d.desk ++ (rows ++ []))) (rows_text later)
    ∙ sym (ap (λ t. sink ++ t) (text_more (held_rows d.desk ++ (rows ++ [])) later))
    ∙ ap (λ xs. sink ++ rows_text xs) (append_assoc (held_rows d.desk) (rows ++ []) later
    ∙ ap (λ xs. held_rows d.desk ++ (xs ++ later)) (append-nil rows)
    ∙ ap (λ r. held_rows d.desk ++ (r ++ later)) (ap (λ x. (input_step p s.site n x).1) bare ∙ sym (ap (λ r. (keyed_step p s n r).1) is))))
    (front-longer before after (sink ++ rows_text (held_rows d.desk ++ (rows ++ []))) (rows_text later) (h fields bare []))
