-- Pieces of a text that are given to be read, and runs of records.
use Rattle.rubis_reading.proofs.Common.{◌≡◌, ◌∙◌, ◌++◌, ◌∷◌, [], ℕ, List, ap, append-nil, append_assoc, subst, sym, refl, ◌≤◌, ◌+◌, suc, arith, drop}
use Rattle.rubis_reading.proofs.Common.{length, length-append, length-drop, zero, Option, ◌<◌, ◌-◌, inl, inr, take, true, false, None, Some, IfNone}
use Rattle.rubis_reading.proofs.Common.{⊤, IsInput, Advances, Gives, Msg, Came, IsBack, LeadState}
use Rattle.std.proofs.Common.{All, ◌⊎◌, drop-drop, length-set}
use Rattle.std.specs.Prelude.{MatchOption, IfOk, Result, slice_index_or, slice_set}
use Rattle.rubis_message.specs.Inputs.{FitsIn}
use Rattle.rubis_engine.specs.declared.record_list.Records.{Records}
use Rattle.rubis_engine.specs.Reading.{fields_now}
use Rattle.rubis_message.specs.declared.inputs.Input.{Input}
use Rattle.std.proofs.lemmas.List.{nil_from_length}
use Rattle.rubis_message.specs.Message.{Message}
use Rattle.std.specs.Global.{Vec}
use Rattle.rubis_engine.specs.declared.fault.OutOfMemory.{OutOfMemory}
use Rattle.rubis_crew.specs.declared.job.Back.{Back}
use Rattle.rubis_crew.specs.declared.job.Given.{Given}
use Rattle.rubis_reading.specs.Readings.{AreInputs, FitWindow, FitsWindow, all_came, flat, of_stretch, AreGiven, AreOf, AreRead, EachGiven, IsGivenJob, IsTextPiece}
use Rattle.rubis_reading.specs.Readings.{IsPut, IsReading, bytes_passed}
use Rattle.rubis_reading.specs.declared.stretches.Stretch.{Stretch}
use Rattle.rubis_reading.specs.Chunked.{IsChunk}
use Rattle.rubis_reading.specs.declared.pieces.GivenPiece.{GivenPiece}
use Rattle.rubis_reading.specs.declared.pieces.Pieces.{Pieces}
use Rattle.rubis_reading.specs.declared.readings.Reading.{Reading}

pub inputs-none : (sites : ℕ) → AreInputs sites [] []
unfolding AreInputs
inputs-none sites = tt

pub inputs-more : (sites : ℕ) (rows : List (List (List ℕ))) (ps : List Input) (fields : List (List ℕ)) (p : Input)
    → AreInputs sites rows ps → IsInput sites fields p → AreInputs sites (rows ++ fields ∷ []) (ps ++ p ∷ [])
unfolding AreInputs
inputs-more sites [] [] fields p all one = (one, tt)
inputs-more sites [] (q ∷ ps) fields p all one = absurd all
inputs-more sites (r ∷ rows) [] fields p all one = absurd all
inputs-more sites (r ∷ rows) (q ∷ ps) fields p all one = (all.0, inputs-more sites rows ps fields p all.1 one)

-- the records that were read, and those still to come
pub record HasInputs {R : Type 0} (rem : R → Option (List ℕ)) (records : Records R) (sites : ℕ) (rows : List (List (List ℕ))) (list : List Input) :
    Type 0 where
  pub done : List (List (List ℕ))
  pub rest : List (List (List ℕ))
  pub parts : rows ≡ done ++ rest
  pub gives : Gives rem records rest
  pub parsed : AreInputs sites done list

pub inputs-starts : {R : Type 0} (rem : R → Option (List ℕ)) (records : Records R) (sites : ℕ) (rows : List (List (List ℕ))) (list : List Input)
    → list ≡ [] → Gives rem records rows → HasInputs rem records sites rows list
inputs-starts rem records sites rows list none gives =
    record { done = []; rest = rows; parts = refl; gives = gives; parsed = rw none (inputs-none sites) }

pub inputs-step : {R : Type 0} (rem : R → Option (List ℕ)) (a b : Records R) (sites : ℕ) (rows : List (List (List ℕ))) (list : List Input) (p : Input)
    → HasInputs rem a sites rows list → Advances rem a b true → IsInput sites (fields_now b) p → HasInputs rem b sites rows (list ++ p ∷ [])
inputs-step rem a b sites rows list p h takes one =
    let (left, first, gives) = takes h.rest h.gives in
    record {
      done = h.done ++ (fields_now b ∷ []);
      rest = left;
      parts = h.parts ∙ ap (λ t. h.done ++ t) first ∙ sym (append_assoc h.done (fields_now b ∷ []) left);
      gives = gives;
      parsed = inputs-more sites h.done list (fields_now b) p h.parsed one;
    }

pub inputs-ends : {R : Type 0} (rem : R → Option (List ℕ)) (a b : Records R) (sites : ℕ) (rows : List (List (List ℕ))) (list : List Input)
    → HasInputs rem a sites rows list → Advances rem a b false → AreInputs sites rows list
inputs-ends rem a b sites rows list h takes =
    let whole : h.done ≡ rows = sym (h.parts ∙ ap (λ t. h.done ++ t) (takes h.rest h.gives) ∙ append-nil h.done) in
    subst (λ t. AreInputs sites t list) whole h.parsed

-- ---- runs of records

pub flat-both : (a b : List Stretch) → flat (a ++ b) ≡ flat a ++ flat b
flat-both [] b = refl
flat-both (r ∷ a) b = ap (λ t. of_stretch r ++ t) (flat-both a b) ∙ sym (append_assoc (of_stretch r) (flat a) (flat b))

pub flat-more : (a : List Stretch) (r : Stretch) → flat (a ++ r ∷ []) ≡ flat a ++ of_stretch r
flat-more a r = flat-both a (r ∷ []) ∙ ap (λ t. flat a ++ t) (append-nil (of_stretch r))

pub came-more : (ms : List Message) (m : Message) → all_came (ms ++ m ∷ []) ≡ all_came ms ++ Came (Msg m) ∷ []
came-more [] m = refl
came-more (x ∷ ms) m = ap (λ t. Came (Msg x) ∷ t) (came-more ms m)

-- what holds of each run still holds with one more
pub window-more : (window : ℕ) (a : List Stretch) (r : Stretch) → FitWindow window a → FitsWindow window r → FitWindow window (a ++ r ∷ [])
window-more window [] r all one = (one, tt)
window-more window (x ∷ a) r all one = (all.0, window-more window a r all.1 one)

pub came-length : (ms : List Message) → length (all_came ms) ≡ length ms
came-length [] = refl
came-length (m ∷ ms) = ap suc (came-length ms)

-- how many records runs have
abbrev pub counted : List Stretch → ℕ
counted [] = 0
counted (r ∷ rest) = length (of_stretch r) + counted rest

pub counted-flat : (runs : List Stretch) → counted runs ≡ length (flat runs)
counted-flat [] = refl
counted-flat (r ∷ rest) = let more = counted-flat rest in let both = length-append (of_stretch r) (flat rest) in omega (arith, more, both)

pub ruleset run_facts = (flat-more)

pub ruleset count_facts = (counted-flat)

pub counted-end : (runs : List Stretch) (i : ℕ) → length runs ≤ i → counted (drop i runs) ≡ 0
counted-end runs i over = ap counted (nil_from_length (drop i runs) (omega (arith, length-drop i runs, over)))

-- ---- what was read of records, and what was found

pub all-fit : (sites : ℕ) (rows : List (List (List ℕ))) (ps : List Input) → AreInputs sites rows ps → All (λ p. FitsIn sites p) ps
unfolding AreInputs
all-fit sites [] [] h k d lt = absurd (omega arith)
all-fit sites [] (p ∷ ps) h k d lt = absurd h
all-fit sites (r ∷ rows) [] h k d lt = absurd h
all-fit sites (r ∷ rows) (p ∷ ps) h zero d lt = h.0.fits
all-fit sites (r ∷ rows) (p ∷ ps) h (suc k) d lt = all-fit sites rows ps h.1 k d (omega (arith, lt))

-- ---- what was found

pub match-none : {A : Type 0} (o : Option A) (P : Type 0) (Q : A → Type 0) → MatchOption o P Q → o ≡ None → P
match-none None P Q h e = h
match-none (Some x) P Q h e = absurd cc

pub match-some : {A : Type 0} (o : Option A) (P : Type 0) (Q : A → Type 0) (x : A) → MatchOption o P Q → o ≡ Some x → Q x
match-some None P Q x h e = absurd cc
match-some (Some y) P Q x h e = let same : y ≡ x = cc in subst Q same h

-- ---- pieces of a text that are given to be read

-- ---- jobs

pub each_so : (P Q : Given Reading → Type 0) (xs : List (Given Reading)) → ((x : Given Reading) → P x → Q x) → EachGiven P xs → EachGiven Q xs
each_so P Q [] so all = tt
each_so P Q (x ∷ xs) so all = (so x all.0, each_so P Q xs so all.1)

pub each_more : (P : Given Reading → Type 0) (xs : List (Given Reading)) (x : Given Reading) → EachGiven P xs → P x → EachGiven P (xs ++ x ∷ [])
each_more P [] x all one = (one, tt)
each_more P (y ∷ xs) x all one = (all.0, each_more P xs x all.1 one)

pub each_without : (P : Given Reading → Type 0) (before after : List (Given Reading)) (x : Given Reading) → EachGiven P (before ++ x ∷ after)
    → EachGiven P (before ++ after)
each_without P [] after x all = all.1
each_without P (y ∷ before) after x all = (all.0, each_without P before after x all.1)

pub each_at : (P : Given Reading → Type 0) (before after : List (Given Reading)) (x : Given Reading) → EachGiven P (before ++ x ∷ after) → P x
each_at P [] after x all = all.0
each_at P (y ∷ before) after x all = each_at P before after x all.1

pub among_more : (n : ℕ) (xs : List (Given Reading)) (x : Given Reading) → IsGivenJob n xs → IsGivenJob n (xs ++ x ∷ [])
among_more n [] x h = absurd h
among_more n (y ∷ xs) x (inl is) = inl is
among_more n (y ∷ xs) x (inr later) = inr (among_more n xs x later)

pub among_last : (n : ℕ) (xs : List (Given Reading)) (x : Given Reading) → x.number ≡ n → IsGivenJob n (xs ++ x ∷ [])
among_last n [] x is = inl is
among_last n (y ∷ xs) x is = inr (among_last n xs x is)

pub among_without : (n : ℕ) (before after : List (Given Reading)) (x : Given Reading) → (x.number ≡ n → ⊥) → IsGivenJob n (before ++ x ∷ after)
    → IsGivenJob n (before ++ after)
among_without n [] after x other (inl is) = absurd (other is)
among_without n [] after x other (inr later) = later
among_without n (y ∷ before) after x other (inl is) = inl is
among_without n (y ∷ before) after x other (inr later) = inr (among_without n before after x other later)

none_so : (P Q : Type 0) (r : Option (Result (Vec Stretch) OutOfMemory)) → (P → Q) → IfNone r P → IfNone r Q
none_so P Q None so h = so h
none_so P Q (Some v) so h = tt

-- ---- a piece more

pub given_more : (sites window : ℕ) (jobs : List (Given Reading)) (x : Given Reading) (number many : ℕ) (text : List ℕ) (ps : List GivenPiece)
    → AreGiven sites window jobs number text ps → x.number ≡ number + length ps → IsChunk many (drop (bytes_passed ps) text)
    → IsReading sites window (take many (drop (bytes_passed ps) text)) x.job
    → AreGiven sites window (jobs ++ x ∷ []) number text (ps ++ record { many = many; read = None } ∷ [])
given_more sites window jobs x number many text [] given is chunk reading = (
  record {
    chunk = chunk;
    read = tt;
    job = each_more (λ y. y.number ≡ number → IsReading sites window (take many text) y.job) jobs x
        (each_so (λ y. y.number < number) (λ y. y.number ≡ number → IsReading sites window (take many text) y.job) jobs
        (λ y lt same. absurd (omega (arith, lt, same))) given) (λ same. reading);
    waits = among_last number jobs x (omega (arith, is));
  },
  each_more (λ y. y.number < number + 1) jobs x
      (each_so (λ y. y.number < number) (λ y. y.number < number + 1) jobs (λ y lt. omega (arith, lt)) given) (omega (arith, is)),
)
given_more sites window jobs x number many text (q ∷ ps) given is chunk reading =
    let rest = drop (q.many - 1) text in
    let on : drop (bytes_passed ps) rest ≡ drop (bytes_passed (q ∷ ps)) text = drop-drop (bytes_passed ps) (q.many - 1) text in (
      record {
        chunk = given.0.chunk;
        read = given.0.read;
        job = each_more (λ y. y.number ≡ number → IsReading sites window (take q.many text) y.job) jobs x given.0.job
            (λ same. absurd (omega (arith, same, is)));
        waits = none_so (IsGivenJob number jobs) (IsGivenJob number (jobs ++ x ∷ [])) q.read (among_more number jobs x) given.0.waits;
      },
      given_more sites window jobs x (number + 1) many rest ps given.1 (omega (arith, is)) (subst (λ t. IsChunk many t) (sym on) chunk)
          (subst (λ t. IsReading sites window (take many t) x.job) (sym on) reading),
    )

-- they lie within the text
pub passed_within : (sites window : ℕ) (jobs : List (Given Reading)) (number : ℕ) (text : List ℕ) (ps : List GivenPiece)
    → AreGiven sites window jobs number text ps → bytes_passed ps ≤ length text
passed_within sites window jobs number text [] given = omega arith
passed_within sites window jobs number text (q ∷ ps) given =
    let rest = passed_within sites window jobs (number + 1) (drop (q.many - 1) text) ps given.1 in
    omega (arith, rest, length-drop (q.many - 1) text, given.0.chunk.1)

pub passed_more : (ps : List GivenPiece) (many : ℕ) → bytes_passed (ps ++ record { many = many; read = None } ∷ []) ≡ bytes_passed ps + (many - 1)
passed_more [] many = omega arith
passed_more (q ∷ ps) many = let rest = passed_more ps many in omega (arith, rest)

pub of_more : (text : List ℕ) (old new : Pieces) (job : Reading) (many : ℕ) → AreOf text old → IsChunk many (drop old.from text)
    → IsReading old.sites old.window (take many (drop old.from text)) job → old.lead.next < 18446744073709551615
    → new.lead.given ≡ old.lead.given ++ record { number = old.lead.next; job = job } ∷ [] → new.lead.next ≡ old.lead.next + 1
    → new.given.items ≡ old.given.items ++ record { many = many; read = None } ∷ [] → new.first ≡ old.first → new.from ≡ old.from + (many - 1)
    → new.sites ≡ old.sites → new.window ≡ old.window → AreOf text new
of_more text old new job many h chunk reading few jobs next items first from sites window =
    let x : Given Reading = record { number = old.lead.next; job = job } in
    let p : GivenPiece = record { many = many; read = None } in
    let all = given_more old.sites old.window old.lead.given x old.first many text old.given.items h.pieces h.next
    (subst (λ k. IsChunk many (drop k text)) h.from chunk) (subst (λ k. IsReading old.sites old.window (take many (drop k text)) job) h.from reading) in
    record {
      pieces = rw (sites, window, jobs, first, items) all;
      next = let long = ap length items in omega (arith, next, first, h.next, long, length-append old.given.items (p ∷ []));
      fits = omega (arith, next, few);
      from = from ∙ ap (λ k. k + (many - 1)) h.from ∙ sym (passed_more old.given.items many) ∙ sym (ap bytes_passed items);
    }

-- ---- a result

-- the piece of that number is read, if it is one of them
abbrev pub IsReadAt : ℕ → ℕ → List GivenPiece → Type 0
IsReadAt n number [] = ⊤
IsReadAt n number (p ∷ ps) = (n ≡ number → IfNone p.read ⊥) × IsReadAt n (number + 1) ps

read_none : (n number : ℕ) (ps : List GivenPiece) → (n < number) ⊎ (number + length ps ≤ n) → IsReadAt n number ps
read_none n number [] out = tt
read_none n number (p ∷ ps) (inl lt) = (λ is. absurd (omega (arith, lt, is)), read_none n (number + 1) ps (inl (omega (arith, lt))))
read_none n number (p ∷ ps) (inr le) = (λ is. absurd (omega (arith, le, is)), read_none n (number + 1) ps (inr (omega (arith, le))))

read_put : (n number : ℕ) (ps : List GivenPiece) (k : ℕ) (d : GivenPiece) (result : Result (Vec Stretch) OutOfMemory) → number + k ≡ n
    → IsReadAt n number (slice_set ps k (record { many = (slice_index_or ps k d).many; read = Some result }))
read_put n number [] k d result is = tt
read_put n number (p ∷ ps) zero d result is = (λ same. tt, read_none n (number + 1) ps (inl (omega (arith, is))))
read_put n number (p ∷ ps) (suc k) d result is = (λ same. absurd (omega (arith, is, same)), read_put n (number + 1) ps k d result (omega (arith, is)))

still_waits : (number : ℕ) (r : Option (Result (Vec Stretch) OutOfMemory)) (before after : List (Given Reading)) (x : Given Reading)
    → (x.number ≡ number → IfNone r ⊥) → IfNone r (IsGivenJob number (before ++ x ∷ after)) → IfNone r (IsGivenJob number (before ++ after))
still_waits number None before after x read waits = among_without number before after x read waits
still_waits number (Some v) before after x read waits = tt

pub given_put : (sites window : ℕ) (before after : List (Given Reading)) (x : Given Reading) (number : ℕ) (text : List ℕ) (ps : List GivenPiece) (k : ℕ)
    (d : GivenPiece) (result : Result (Vec Stretch) OutOfMemory) → AreGiven sites window (before ++ x ∷ after) number text ps → number + k ≡ x.number
    → IfOk result (λ list. AreRead x.job.sites x.job.window x.job.text.items list.items)
    → AreGiven sites window (before ++ x ∷ after) number text (slice_set ps k (record { many = (slice_index_or ps k d).many; read = Some result }))
given_put sites window before after x number text [] k d result given is worked = given
given_put sites window before after x number text (p ∷ ps) zero d result given is worked =
    let job = each_at (λ y. y.number ≡ number → IsReading sites window (take p.many text) y.job) before after x given.0.job (omega (arith, is)) in (
      record {
        chunk = given.0.chunk;
        read = subst (λ t. IfOk result (λ list. AreRead sites window t list.items)) job.0
            (subst (λ k. IfOk result (λ list. AreRead k window x.job.text.items list.items)) job.1
            (subst (λ k. IfOk result (λ list. AreRead x.job.sites k x.job.text.items list.items)) job.2 worked));
        job = given.0.job;
        waits = tt;
      },
      given.1,
    )
given_put sites window before after x number text (p ∷ ps) (suc k) d result given is worked =
    (given.0, given_put sites window before after x (number + 1) (drop (p.many - 1) text) ps k d result given.1 (omega (arith, is)) worked)

pub passed_put : (ps : List GivenPiece) (k : ℕ) (d : GivenPiece) (result : Result (Vec Stretch) OutOfMemory)
    → bytes_passed (slice_set ps k (record { many = (slice_index_or ps k d).many; read = Some result })) ≡ bytes_passed ps
passed_put [] k d result = refl
passed_put (p ∷ ps) zero d result = refl
passed_put (p ∷ ps) (suc k) d result = ap (λ n. (p.many - 1) + n) (passed_put ps k d result)

pub given_without : (sites window : ℕ) (before after : List (Given Reading)) (x : Given Reading) (number : ℕ) (text : List ℕ) (ps : List GivenPiece)
    → AreGiven sites window (before ++ x ∷ after) number text ps → IsReadAt x.number number ps → AreGiven sites window (before ++ after) number text ps
given_without sites window before after x number text [] given read = each_without (λ y. y.number < number) before after x given
given_without sites window before after x number text (p ∷ ps) given read = (
  record {
    chunk = given.0.chunk;
    read = given.0.read;
    job = each_without (λ y. y.number ≡ number → IsReading sites window (take p.many text) y.job) before after x given.0.job;
    waits = still_waits number p.read before after x read.0 given.0.waits;
  },
  given_without sites window before after x (number + 1) (drop (p.many - 1) text) ps given.1 read.1,
)

-- a job is back, and its result is with its piece, if that is waited for
items_put : (sites window : ℕ) (before after : List (Given Reading)) (x : Given Reading) (number : ℕ) (text : List ℕ) (ps qs : List GivenPiece)
    (result : Result (Vec Stretch) OutOfMemory) → AreGiven sites window (before ++ x ∷ after) number text ps
    → IfOk result (λ list. AreRead x.job.sites x.job.window x.job.text.items list.items)
    → ((qs ≡ ps) × ((x.number < number) ⊎ (number + length ps ≤ x.number))) ⊎ ((k : ℕ) × (p : GivenPiece) × (number + k ≡ x.number) × (k < length ps) × (p ≡ slice_index_or ps k p)
    × (qs ≡ slice_set ps k (record { many = p.many; read = Some result })))
    → AreGiven sites window (before ++ after) number text qs × (length qs ≡ length ps) × (bytes_passed qs ≡ bytes_passed ps)
items_put sites window before after x number text ps qs result given worked (inl (same, out)) = (
  subst (λ l. AreGiven sites window (before ++ after) number text l) (sym same)
      (given_without sites window before after x number text ps given (read_none x.number number ps out)),
  ap length same,
  ap bytes_passed same,
)
items_put sites window before after x number text ps qs result given worked (inr (k, p, at, within, is, set)) =
    let v : GivenPiece = record { many = (slice_index_or ps k p).many; read = Some result } in
    let there : qs ≡ slice_set ps k v = set ∙ ap (λ (q : GivenPiece). slice_set ps k (record { many = q.many; read = Some result })) is in (
      subst (λ l. AreGiven sites window (before ++ after) number text l) (sym there)
          (given_without sites window before after x number text (slice_set ps k v) (given_put sites window before after x number text ps k p result given at worked)
          (read_put x.number number ps k p result at)),
      ap length there ∙ length-set ps k v,
      ap bytes_passed there ∙ passed_put ps k p result,
    )

pub of_put : (text : List ℕ) (old new : Pieces) (back : Back (Result (Vec Stretch) OutOfMemory)) (job : Reading) → AreOf text old
    → IsBack old.lead (record { number = back.number; job = job }) new.lead
    → IfOk back.result (λ list. AreRead job.sites job.window job.text.items list.items)
    → new.first ≡ old.first → new.from ≡ old.from → new.sites ≡ old.sites → new.window ≡ old.window
    → IsPut old.first old.given.items back new.given.items → AreOf text new
of_put text old new back job h (before, after, was, now) worked first from sites window puts =
    let x : Given Reading = record { number = back.number; job = job } in
    let given : AreGiven old.sites old.window (before ++ x ∷ after) old.first text old.given.items =
    subst (λ jobs. AreGiven old.sites old.window jobs old.first text old.given.items) was h.pieces in
    let (all, long, far) = items_put old.sites old.window before after x old.first text old.given.items new.given.items back.result given worked puts in
    let jobs : new.lead.given ≡ before ++ after = ap (λ (l : LeadState Reading). l.given) now in
    let next : new.lead.next ≡ old.lead.next = ap (λ (l : LeadState Reading). l.next) now in
    record {
      pieces = rw (sites, window, jobs, first) all;
      next = omega (arith, next, h.next, first, long);
      fits = omega (arith, next, h.fits);
      from = from ∙ h.from ∙ sym far;
    }

-- ---- the first piece

-- it is taken off
pub of_rest : (text : List ℕ) (old new : Pieces) (p : GivenPiece) → AreOf text old → old.given.items ≡ p ∷ new.given.items → new.lead ≡ old.lead
    → new.first ≡ old.first + 1 → new.from ≡ old.from - (p.many - 1) → new.sites ≡ old.sites → new.window ≡ old.window
    → IsTextPiece old.sites old.window old.lead.given old.first text p × AreOf (drop (p.many - 1) text) new
of_rest text old new p h items lead first from sites window =
    let given = subst (λ ps. AreGiven old.sites old.window old.lead.given old.first text ps) items h.pieces in
    let far = ap bytes_passed items in
    let n = ap (λ (l : LeadState Reading). l.next) lead in
    let long = ap length items in (
      given.0,
      record {
        pieces = rw (lead, first, sites, window) given.1;
        next = omega (arith, n, h.next, long, first);
        fits = rw lead h.fits;
        from = omega (arith, from, h.from, far);
      },
    )
