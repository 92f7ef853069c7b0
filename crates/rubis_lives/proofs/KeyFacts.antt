-- Records under keys are, without their keys, records that a process of the model reads.
use Rattle.rubis_lives.proofs.Common.{◌≡◌, ◌∙◌, ◌+◌, ◌++◌, ◌∷◌, [], Bool, List, ℕ, None, Option, Some, ap, append_assoc, cond, drop, false, inl, inr, refl}
use Rattle.rubis_lives.proofs.Common.{subst, sym, true, ⊎_elim, codes, Err, IsShortened, Ok, Place, Refusal, Replica, Result, answers, input_of, input_step}
use Rattle.rubis_lives.proofs.Common.{Asked, Came, Input, Message, Neither, Token}
use Rattle.std.specs.Prelude.{is_some}
use Rattle.rubis_shadow.specs.declared.shadows.Ask.{Ask}
use Rattle.rubis_message.specs.Grammar.{message_record, token_record}
use Rattle.rubis_message.specs.declared.requests.Request.TheVariants as request
use Rattle.rubis_message.specs.declared.tokens.Packet.TheVariants as packet
use Rattle.rubis_model.proofs.Settling.{has_append, has_left, has_right}
use Rattle.rubis_model.specs.Site.{Has, arrived, asked, asked_rows, passed, passed_rows, send_row, took}
use Rattle.rubis_laws.proofs.Processes.AreARun.{none_arrived, none_replied, none_taken, rows_listed}
use Rattle.rubis_keys.proofs.BareFacts.{BareIs, bare_is, same_input, same_step}
use Rattle.rubis_keys.specs.Keys.{KeyedSite, again_row, answers_ask, ask_step, asked_under_rows, is_red_ask, key_taken_row, keyed_after, keyed_answers}
use Rattle.rubis_keys.specs.Keys.{keyed_input, keyed_opening, keyed_step, known_rows}
use Rattle.rubis_keys.specs.Laws.{bare_of, bare_records}
use Rattle.rubis_keys.specs.declared.inputs.KeyedInput.{KeyedInput}
use Rattle.rubis_keys.specs.declared.inputs.KeyedInput.TheVariants.{Plain, AskedUnder, CameUnder}
use Rattle.rubis_keys.specs.declared.keys.Known.{Known}
use Rattle.rubis_keep.proofs.AskFacts.{states-alike}
use Rattle.rubis_keep.proofs.ShortenFacts.{leaves-state}
use Rattle.rubis_keep.specs.Shortened.{LeavesOut, state_after}
use Rattle.rubis_lives.specs.Shops.{IsPrefix, SendsWithoutKeys, without_key}

abbrev pub Records : Type 0
Records = List (List (List ℕ))

-- ---- records that follow others

bare-append : (p : Place) (s : KeyedSite) (xs ys : Records) → bare_of p s (xs ++ ys) ≡ bare_of p s xs ++ bare_of p (state_after p s xs) ys
bare-append p s [] ys = refl
bare-append p s (x ∷ xs) ys =
    let t = (keyed_step p s 1 (keyed_input p.sites x)).0 in
    let one = bare_records s (keyed_input p.sites x) x in
    ap (λ r. one ++ r) (bare-append p t xs ys) ∙ sym (append_assoc one (bare_of p t xs) (bare_of p (state_after p t xs) ys))

pub bare-prefix : (p : Place) (s : KeyedSite) (xs ys : Records) → IsPrefix xs ys → IsPrefix (bare_of p s xs) (bare_of p s ys)
bare-prefix p s xs ys e = (bare_of p (state_after p s xs) e.0, sym (bare-append p s xs e.0) ∙ ap (bare_of p s) e.1)

-- ---- records that change nothing

-- a record that is left out is left out without its key
one-less : (p : Place) (s : KeyedSite) (fields : List (List ℕ)) (i : KeyedInput) → BareIs p.sites fields i → (keyed_step p s 1 i).0 ≡ s
    → (xs ys : Records) → IsShortened p s.site xs ys → IsShortened p s.site xs (bare_records s i fields ++ ys)
one-less p s fields (Plain i) bare same xs ys h =
    inl (ap (λ x. (input_step p s.site 1 x).0) bare ∙ ap (λ (t : KeyedSite). t.site) same, h)
one-less p s fields (AskedUnder key a) bare same xs ys h = at (s.keys key (is_red_ask a)) same
  where
    at : (o : Option Known) → (ask_step p s 1 key a o).0 ≡ s → IsShortened p s.site xs (cond (is_some o) [] (drop 2 fields ∷ []) ++ ys)
    at None same = inl (ap (λ x. (input_step p s.site 1 x).0) bare ∙ ap (λ (t : KeyedSite). t.site) same, h)
    at (Some k) same = h
one-less p s fields (CameUnder key m) bare same xs ys h =
    inl (ap (λ x. (input_step p s.site 1 x).0) bare ∙ ap (λ (t : KeyedSite). t.site) same, h)

-- and one that is kept is kept so
one-more : (p : Place) (s : KeyedSite) (fields : List (List ℕ)) (i : KeyedInput) → BareIs p.sites fields i → (xs ys : Records)
    → IsShortened p (keyed_step p s 1 i).0.site xs ys → IsShortened p s.site (bare_records s i fields ++ xs) (bare_records s i fields ++ ys)
one-more p s fields (Plain i) bare xs ys h = inr (xs, refl, subst (λ x. IsShortened p (input_step p s.site 1 x).0 xs ys) (sym bare) h)
one-more p s fields (AskedUnder key a) bare xs ys h = at (s.keys key (is_red_ask a)) h
  where
    at : (o : Option Known) → IsShortened p (ask_step p s 1 key a o).0.site xs ys
        → IsShortened p s.site (cond (is_some o) [] (drop 2 fields ∷ []) ++ xs) (cond (is_some o) [] (drop 2 fields ∷ []) ++ ys)
    at None h = inr (xs, refl, subst (λ x. IsShortened p (input_step p s.site 1 x).0 xs ys) (sym bare) h)
    at (Some k) h = h
one-more p s fields (CameUnder key m) bare xs ys h = inr (xs, refl, subst (λ x. IsShortened p (input_step p s.site 1 x).0 xs ys) (sym bare) h)

pub bare-short : (p : Place) (s : KeyedSite) (short full : Records) → LeavesOut true p s short full
    → IsShortened p s.site (bare_of p s short) (bare_of p s full)
bare-short p s short [] h = ap (bare_of p s) h
bare-short p s short (x ∷ full) (inl h) =
    let t = (keyed_step p s 1 (keyed_input p.sites x)).0 in
    one-less p s x (keyed_input p.sites x) (bare_is p.sites x) h.0 (bare_of p s short) (bare_of p t full)
    (subst (λ t. IsShortened p s.site (bare_of p s short) (bare_of p t full)) (sym h.0) (bare-short p s short full h.1))
bare-short p s short (x ∷ full) (inr h) =
    let t = (keyed_step p s 1 (keyed_input p.sites x)).0 in
    subst (λ l. IsShortened p s.site (bare_of p s l) (bare_of p s (x ∷ full))) (sym h.1)
    (one-more p s x (keyed_input p.sites x) (bare_is p.sites x) (bare_of p t h.0) (bare_of p t full) (bare-short p t h.0 full h.2))

-- they lead where all do
pub after-short : (p : Place) (s : KeyedSite) (short full : Records) → LeavesOut true p s short full → keyed_after p s 1 short ≡ keyed_after p s 1 full
after-short p s short full h = states-alike p s 1 short ∙ leaves-state true p s short full h ∙ sym (states-alike p s 1 full)

-- ---- what is sent

asked-sent : (n m : ℕ) (r : Result Message Refusal) (fields : List (List ℕ)) → Has (send_row fields) (asked_rows n r)
    → Has (send_row (without_key fields)) (asked_rows m r)
asked-sent n m (Ok u) fields (inl e) = absurd (cc e)
asked-sent n m (Ok u) fields (inr (inl e)) = let same : fields ≡ message_record u = cc e in inr (inl (ap (λ f. send_row (without_key f)) same))
asked-sent n m (Ok u) fields (inr (inr h)) = absurd h
asked-sent n m (Err r) fields h = absurd (none_replied n _ fields h)

under-sent : (n m : ℕ) (key : List ℕ) (r : Result Message Refusal) (fields : List (List ℕ)) → Has (send_row fields) (asked_under_rows n key r)
    → Has (send_row (without_key fields)) (asked_rows m r)
under-sent n m key (Ok u) fields (inl e) = absurd (cc e)
under-sent n m key (Ok u) fields (inr (inl e)) =
    let same : fields ≡ codes "key" ∷ key ∷ message_record u = cc e in inr (inl (ap (λ f. send_row (without_key f)) same))
under-sent n m key (Ok u) fields (inr (inr h)) = absurd h
under-sent n m key (Err r) fields h = absurd (none_replied n _ fields h)

passed-sent : (n m : ℕ) (r : Result Token Refusal) (fields : List (List ℕ)) → Has (send_row fields) (passed_rows n r)
    → Has (send_row (without_key fields)) (passed_rows m r)
passed-sent n m (Ok u) fields (inl e) = absurd (cc e)
passed-sent n m (Ok u) fields (inr (inl e)) = let same : fields ≡ token_record u = cc e in inr (inl (ap (λ f. send_row (without_key f)) same))
passed-sent n m (Ok u) fields (inr (inr h)) = absurd h
passed-sent n m (Err r) fields h = absurd (none_replied n _ fields h)

plain-sent : (p : Place) (s : Replica) (n m : ℕ) (x : Input) (fields : List (List ℕ)) → Has (send_row fields) (input_step p s n x).1
    → Has (send_row (without_key fields)) (input_step p s m x).1
plain-sent p s n m (Asked (request.Ask a)) fields h = asked-sent n m (asked p s a).1 fields h
plain-sent p s n m (Asked (request.Pass to)) fields h = passed-sent n m (passed p s to).1 fields h
plain-sent p s n m (Asked (request.List l)) fields (inl e) = absurd (cc e)
plain-sent p s n m (Asked (request.List l)) fields (inr h) = let b = (rows_listed s.log _ l (send_row fields) h).1 in absurd (cc b)
plain-sent p s n m (Came (packet.Msg u)) fields h = absurd (none_arrived n (arrived p s u).1 fields h)
plain-sent p s n m (Came (packet.Token t)) fields h = absurd (none_taken n (took p s t).1 fields h)
plain-sent p s n m Neither fields h = absurd (none_replied n _ fields h)

told-none : (n : ℕ) (k : Known) (a : Ask) (fields : List (List ℕ)) → Has (send_row fields) (known_rows n k a) → ⊥
told-none n k a fields h = at (answers_ask k.shadow a) h
  where
    at : (b : Bool) → Has (send_row fields) (cond b (again_row n k.id) (key_taken_row n) ∷ []) → ⊥
    at true h = none_replied n _ fields h
    at false h = none_replied n _ fields h

-- by a record
step-sent : (p : Place) (s : KeyedSite) (n m : ℕ) (x : List (List ℕ)) (i : KeyedInput) → BareIs p.sites x i → (more : Records) (fields : List (List ℕ))
    → Has (send_row fields) (keyed_step p s n i).1 → Has (send_row (without_key fields)) (answers p s.site m (bare_records s i x ++ more))
unfolding answers
step-sent p s n m x (Plain i) bare more fields h =
    has_left _ _ _ (subst (λ y. Has (send_row (without_key fields)) (input_step p s.site m y).1) (sym bare) (plain-sent p s.site n m i fields h))
step-sent p s n m x (AskedUnder key a) bare more fields h = at (s.keys key (is_red_ask a)) h
  where
    at : (o : Option Known) → Has (send_row fields) (ask_step p s n key a o).1
        → Has (send_row (without_key fields)) (answers p s.site m (cond (is_some o) [] (drop 2 x ∷ []) ++ more))
    at None h =
        has_left _ _ _
        (subst (λ y. Has (send_row (without_key fields)) (input_step p s.site m y).1) (sym bare) (under-sent n m key (asked p s.site a).1 fields h))
    at (Some k) h = absurd (told-none n k a fields h)
step-sent p s n m x (CameUnder key u) bare more fields h = absurd (none_arrived n (arrived p s.site u).1 fields h)

-- and behind it
behind-sent : (p : Place) (s : Replica) (m : ℕ) (x : List (List ℕ)) (i : Input) → input_of p.sites x ≡ i → (more : Records) (row : List (List ℕ))
    → ((k : ℕ) → Has row (answers p (input_step p s 1 i).0 k more)) → Has row (answers p s m (x ∷ more))
unfolding answers
behind-sent p s m x i bare more row h =
    has_right _ _ _ (subst (λ y. Has row (answers p (input_step p s m y).0 (m + 1) more)) (sym bare)
    (subst (λ t. Has row (answers p t (m + 1) more)) (same_input p s 1 m i) (h (m + 1))))

later-sent : (p : Place) (s : KeyedSite) (m : ℕ) (x : List (List ℕ)) (i : KeyedInput) → BareIs p.sites x i → (more : Records) (row : List (List ℕ))
    → ((k : ℕ) → Has row (answers p (keyed_step p s 1 i).0.site k more)) → Has row (answers p s.site m (bare_records s i x ++ more))
later-sent p s m x (Plain i) bare more row h = behind-sent p s.site m x i bare more row h
later-sent p s m x (AskedUnder key a) bare more row h = at (s.keys key (is_red_ask a)) h
  where
    at : (o : Option Known) → ((k : ℕ) → Has row (answers p (ask_step p s 1 key a o).0.site k more))
        → Has row (answers p s.site m (cond (is_some o) [] (drop 2 x ∷ []) ++ more))
    at None h = behind-sent p s.site m (drop 2 x) (Asked (request.Ask a)) bare more row h
    at (Some k) h = h m
later-sent p s m x (CameUnder key u) bare more row h = behind-sent p s.site m (drop 2 x) (Came (packet.Msg u)) bare more row h

sent-bare : (p : Place) (s : KeyedSite) (n m : ℕ) (records : Records) (fields : List (List ℕ)) → Has (send_row fields) (keyed_answers p s n records)
    → Has (send_row (without_key fields)) (answers p s.site m (bare_of p s records))
unfolding keyed_answers
sent-bare p s n m [] fields h = absurd h
sent-bare p s n m (x ∷ rest) fields h =
    let i = keyed_input p.sites x in
    let t = (keyed_step p s 1 i).0 in
    ⊎_elim (λ l. step-sent p s n m x i (bare_is p.sites x) (bare_of p t rest) fields l)
    (λ r. later-sent p s m x i (bare_is p.sites x) (bare_of p t rest) (send_row (without_key fields))
    (λ k. sent-bare p t (n + 1) k rest fields (subst (λ u. Has (send_row fields) (keyed_answers p u (n + 1) rest)) (same_step p s n 1 i) r)))
    (has_append (send_row fields) (keyed_step p s n i).1 (keyed_answers p (keyed_step p s n i).0 (n + 1) rest) h)

pub sends-without-keys : SendsWithoutKeys
sends-without-keys p records fields h = sent-bare p (keyed_opening p.site) 1 1 records fields h
