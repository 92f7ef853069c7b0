-- How a run goes on by pieces of its text, and how it ends.
use Rattle.std.proofs.Common.{◌≡◌, ◌∙◌, ◌+◌, ◌++◌, ◌∷◌, [], ℕ, List, Option, ap, append-nil, append_assoc, arith, length, length-append, refl, subst, sym, take}
use Rattle.std.proofs.Common.{true}
use Rattle.std.specs.Prelude.{◌≤◌, ◌-◌, IsErr, IsErrAnd, MatchOption, Result, Ok, Err}
use Rattle.std.specs.Io.KnownBytes.{Appends}
use Rattle.std.proofs.Math.Seq.{take-append_seam}
use Rattle.rubis_engine.specs.Accounts.{Account}
use Rattle.rubis_engine.specs.Accounts.Ending.{AtEnd, Cut}
use Rattle.rubis_engine.specs.Progress.{IsRun}
use Rattle.rubis_engine.specs.Reading.{Advances, Gives, fields_now}
use Rattle.rubis_engine.specs.Seam.{IsTextOf, Lefts, left}
use Rattle.rubis_engine.specs.Text.{input_records}
use Rattle.rubis_engine.specs.declared.record_list.Records.{Records}
use Rattle.rubis_engine.specs.declared.fault.Count.{Count}
use Rattle.rubis_engine.specs.declared.fault.RunFault.{RunFault}
use Rattle.rubis_engine.specs.declared.fault.RunFault.TheVariants as fault
use Rattle.rubis_engine.proofs.RunFacts.{ends_on, ends_so}
use Rattle.rubis_reading.specs.Chunked.{ComesNearer, HasWholeInput, HasPending, IsChunk, KeepsCome, KeepsPending, TakesOff, held_text}
use Rattle.rubis_reading.specs.declared.chunks.Chunks.{Chunks}
use Rattle.rubis_reading.proofs.ChunkFacts.{come-rest, ended-last, nearer-more, nearer-none, pending-front}
use Rattle.rubis_serving.specs.Outlets.{IsOutlet, writes, writes_front}
use Rattle.rubis_serving.specs.Serving.{At, Closes, Fills, Finishes, Goes, IsOver, IsSettled, MovesOn, Serving, Stalls, Stops, Turns, at, coming, serving}
use Rattle.rubis_serving.specs.Serving.{still, AnswersFirst, AnswersJust, AreAnswered, EndsLed, EndsWhole, RecordsEnd}
use Rattle.rubis_serving.specs.declared.pieces.Served.{Served}
use Rattle.rubis_serving.proofs.GoFacts.{fills-sooner, goes-closes, goes-fills, goes-more, goes-none, goes-torn, match_so}

-- ---- the records of a piece

-- there is another, behind those that are answered
pub given-one : {R : Type 0} (rem : R → Option (List ℕ)) (piece piece2 : Records R) {rows : List (List (List ℕ))}
    (done : List (List (List ℕ))) {left : List (List (List ℕ))} {fields : List (List ℕ)} → Advances rem piece piece2 true → fields ≡ fields_now piece2 → rows ≡ done ++ left → Gives rem piece left
    → (rest : List (List (List ℕ))) × (rows ≡ done ++ fields ∷ rest) × Gives rem piece2 rest
given-one rem piece piece2 done {left = left} takes is parts gives =
    let (rest, split, more) = takes left gives in
    (rest, parts ∙ ap (λ l. done ++ l) (split ∙ ap (λ f. f ∷ rest) (sym is)), more)

-- what holds of the records of a chunk, whatever follows them, holds of all that are to come
pub chunk-each : {R : Type 0} (rem : Lefts R) (chunks : Chunks R) (many : ℕ) (text : List ℕ) (holds : List (List (List ℕ)) → Type 0)
    → IsChunk many (held_text chunks) → text ≡ take many (held_text chunks) → ((more : List (List (List ℕ))) → holds (input_records text ++ more))
    → (later : List (List (List ℕ))) → HasPending rem chunks later → holds later
chunk-each rem chunks many text holds chunk is each later pending =
    let (rest, split) = pending-front rem chunks many later chunk pending in
    subst holds (sym (split ∙ ap (λ t. input_records t ++ rest) (sym is))) (each rest)

-- what holds of the records of the rest does
pub last-each : {R : Type 0} (chunks : Chunks R) (input text : List ℕ) (holds : List (List (List ℕ)) → Type 0) → chunks.reader.is_ended ≡ true
    → IsTextOf input chunks.reader → text ≡ held_text chunks → holds (input_records text ++ []) → (later : List (List (List ℕ)))
    → HasPending (left input) chunks later → holds later
last-each chunks input text holds ended whole is one later pending =
    subst holds (append-nil (input_records text) ∙ ap input_records is ∙ sym (ended-last chunks input later ended whole pending)) one

-- ---- a run moves on

module _ {S O : Type 0} {k : Serving S O} where
  -- by no records
  pub moves-kept : {R : Type 0} {rem : Lefts R} {chunks chunks2 : Chunks R} {x y : At S O} → KeepsPending rem chunks chunks2
      → KeepsCome rem chunks chunks2 → Goes k [] x y → MovesOn k rem chunks x chunks2 y
  moves-kept keeps came goes = record {
    takes = λ later pending. record { rows = []; rest = later; parts = refl; pending = keeps later pending; goes = goes };
    come = came;
  }

  -- by a chunk, which is handed on
  pub moves-taken : {R : Type 0} {rem : Lefts R} {chunks chunks2 : Chunks R} (text : List ℕ) {chunk : List ℕ} {x y : At S O} → text ≡ chunk
      → TakesOff rem chunks chunks2 chunk → KeepsCome rem chunks chunks2 → Goes k (input_records text) x y → MovesOn k rem chunks x chunks2 y
  moves-taken text is off came goes = record {
    takes = λ later pending.
        let (rest, split, left) = off later pending in
        record {
          rows = input_records text;
          rest = rest;
          parts = split ∙ ap (λ t. input_records t ++ rest) (sym is);
          pending = left;
          goes = goes;
        };
    come = came;
  }

module _ {S O : Type 0} (k : Serving S O) where
  -- by a chunk, if the run goes on
  pub chunk-turns : {R : Type 0} (limit : ℕ) (rem : Lefts R) (chunks chunks2 : Chunks R) (many : ℕ) (text : List ℕ) (x y : At S O) (over : Option Count)
      → IsChunk many (held_text chunks) → text ≡ take many (held_text chunks) → TakesOff rem chunks chunks2 (take many (held_text chunks))
      → KeepsCome rem chunks chunks2 → ComesNearer (many - 1) rem chunks chunks2 → AreAnswered k limit (input_records text) x y over
      → MatchOption over (MovesOn k rem chunks x chunks2 y × (y.answered ≤ limit) × ComesNearer 1 rem chunks chunks2) (IsOver k limit rem chunks x y)
  chunk-turns limit rem chunks chunks2 many text x y over chunk is off came nearer answered =
      match_so over
      (λ (within, goes). (
        moves-taken text is off came goes,
        within,
        nearer-more 0 (many - 1) 1 rem chunks chunks chunks2 (omega (arith, chunk.0)) (nearer-none rem chunks) nearer,
      ))
      (λ count closes. chunk-each rem chunks many text (λ r. Closes k limit r x y.service y.outlet count.records) chunk is closes) answered

  -- something failed in a chunk
  pub chunk-stops : {R : Type 0} (limit : ℕ) (rem : Lefts R) (chunks chunks2 : Chunks R) (many : ℕ) (text : List ℕ) (x y : At S O)
      (result : Result (Option Count) RunFault) (e : RunFault) → IsErr result × IsErrAnd result (λ f. f ≡ e) → IsChunk many (held_text chunks)
      → text ≡ take many (held_text chunks) → RecordsEnd k limit (input_records text) x y (Err e) → Turns k limit rem chunks x chunks2 y result
  chunk-stops limit rem chunks chunks2 many text x y result e handed chunk is ends =
      ends_on _ _ result e handed (λ long. chunk-each rem chunks many text (λ r. Fills k limit r x y) chunk is (fills-sooner long)) absurd
      (λ torn. chunk-each rem chunks many text (λ r. k.tears (coming k x AtEnd r) x.outlet y.outlet) chunk is torn.torn) ends

module _ {S O : Type 0} {k : Serving S O} (laws : IsOutlet k.puts k.tears) where
  pub moves-none : {R : Type 0} (rem : Lefts R) (chunks : Chunks R) (x : At S O) → MovesOn k rem chunks x chunks x
  moves-none rem chunks x = moves-kept (λ rows h. h) (λ input h. h) (goes-none laws x)

  pub moves-more : {R : Type 0} {rem : Lefts R} {chunks chunks2 chunks3 : Chunks R} {x y z : At S O} → MovesOn k rem chunks x chunks2 y
      → MovesOn k rem chunks2 y chunks3 z → MovesOn k rem chunks x chunks3 z
  moves-more m n = record {
    takes = λ later pending.
        let one = m.takes later pending in
        let two = n.takes one.rest one.pending in
        record {
          rows = one.rows ++ two.rows;
          rest = two.rest;
          parts = one.parts ∙ ap (λ r. one.rows ++ r) two.parts ∙ sym (append_assoc one.rows two.rows two.rest);
          pending = two.pending;
          goes = goes-more laws one.goes two.goes;
        };
    come = λ input come. n.come input (m.come input come);
  }

  pub over-on : {R : Type 0} {limit : ℕ} {rem : Lefts R} {chunks chunks2 : Chunks R} {x y : At S O} (z : At S O) (count : Count)
      → MovesOn k rem chunks x chunks2 y → IsOver k limit rem chunks2 y z count → IsOver k limit rem chunks x z count
  over-on {limit = limit} {x = x} z count m over later pending =
      let one = m.takes later pending in
      subst (λ r. Closes k limit r x z.service z.outlet count.records) (sym one.parts) (goes-closes laws one.goes (over one.rest one.pending))

  -- ---- how it ends then

  fills-on : {R : Type 0} (limit : ℕ) {rem : Lefts R} {chunks chunks2 : Chunks R} {x y : At S O} (z : At S O) → MovesOn k rem chunks x chunks2 y
      → ((later : List (List (List ℕ))) → HasPending rem chunks2 later → Fills k limit later y z)
      → (later : List (List (List ℕ))) → HasPending rem chunks later → Fills k limit later x z
  fills-on limit {x = x} z m long later pending =
      let one = m.takes later pending in
      subst (λ r. Fills k limit r x z) (sym one.parts) (goes-fills laws one.goes (long one.rest one.pending))

  stalls-on : {R : Type 0} {rem : Lefts R} {chunks chunks2 chunks3 : Chunks R} {x y z : At S O} → MovesOn k rem chunks x chunks2 y
      → Stalls k rem chunks2 y chunks3 z → Stalls k rem chunks x chunks3 z
  stalls-on m s = record { moves = moves-more m s.moves; settled = s.settled; none = s.none }

  torn-on : {R : Type 0} {rem : Lefts R} {chunks chunks2 : Chunks R} {x y : At S O} (outlet : O) → MovesOn k rem chunks x chunks2 y
      → ((later : List (List (List ℕ))) → HasPending rem chunks2 later → k.tears (coming k y AtEnd later) y.outlet outlet)
      → (later : List (List (List ℕ))) → HasPending rem chunks later → k.tears (coming k x AtEnd later) x.outlet outlet
  torn-on {x = x} outlet m torn later pending =
      let one = m.takes later pending in
      subst (λ r. k.tears (coming k x AtEnd r) x.outlet outlet) (sym one.parts) (goes-torn laws outlet one.rest one.goes (torn one.rest one.pending))

  -- nothing was put since
  pub torn-none : {R : Type 0} {rem : Lefts R} {chunks chunks2 : Chunks R} {x y : At S O} → MovesOn k rem chunks x chunks2 y
      → (later : List (List (List ℕ))) → HasPending rem chunks later → k.tears (coming k x AtEnd later) x.outlet y.outlet
  torn-none {y = y} m = torn-on y.outlet m (λ later pending. laws.torn_none (coming k y AtEnd later) y.outlet)

  -- a fault is handed on
  pub stops-on : {T U R : Type 0} (limit : ℕ) {rem : Lefts R} {chunks chunks2 : Chunks R} (chunks3 : Chunks R) {x y : At S O} (z : At S O)
      (done : T → Type 0) (done2 : U → Type 0) (result : Result U RunFault) (e : RunFault) → IsErr result × IsErrAnd result (λ f. f ≡ e)
      → MovesOn k rem chunks x chunks2 y → Stops k {T = T} limit rem chunks2 y chunks3 z done (Err e) → Stops k limit rem chunks x chunks3 z done2 result
  stops-on limit chunks3 z done done2 result e handed m stops =
      ends_on done done2 result e handed (fills-on limit z m) (stalls-on m) (torn-on z.outlet m) stops

  -- it went on by nothing that comes
  pub turns-on : {R : Type 0} (limit : ℕ) {rem : Lefts R} {chunks : Chunks R} (chunks2 : Chunks R) {x y : At S O} (z : At S O)
      (result : Result (Option Count) RunFault) → MovesOn k rem chunks x chunks y → Turns k limit rem chunks y chunks2 z result
      → Turns k limit rem chunks x chunks2 z result
  turns-on limit chunks2 z result m turns =
      ends_so result (λ over goes. match_so over (λ (moves, within, nearer). (moves-more m moves, within, nearer)) (λ count. over-on z count m) goes)
      (fills-on limit z m) (stalls-on m) (torn-on z.outlet m) turns

-- ---- a run from its beginning

module _ {S W : Type 0} (account : S → ℕ → Account) (leads : S → ℕ → List (List (List ℕ)) → S → Type 0) (contents : W → Option (List ℕ)) where
  abbrev by : Serving S W
  by = serving account leads (writes contents) (writes_front contents)

  abbrev pub from : S → W → At S W
  from s w = record { service = s; outlet = w; sink = []; answered = 0 }

  pub begins : (s : S) (run : Served) (w : W) → run.reply.sink ≡ [] → run.answered ≡ 0 → at s run w ≡ from s w
  begins s run w empty none = λ i. record { service = s; outlet = w; sink = empty i; answered = none i }

  -- it was cut short behind these records
  cut-just : (s : S) (w : W) (y : At S W) (rows rest : List (List (List ℕ))) → Goes by rows (from s w) y → IsSettled by y
      → AnswersJust account leads y.answered s y.service (contents w) (contents y.outlet) (rows ++ rest)
  cut-just s w y rows rest f settled =
      let all = account s 1 in
      let count : y.answered ≡ length rows = omega (arith, f.count) in
      let front : take y.answered (rows ++ rest) ≡ rows =
      ap (λ n. take n (rows ++ rest)) count ∙ take-append_seam rows rest in
      let size = length-append rows rest in
      let text : all.text Cut rows ≡ f.text =
      ap (all.text Cut) (sym (append-nil rows)) ∙ f.told Cut [] ∙ ap (λ t. f.text ++ (t ++ (still by y).text Cut [])) settled.empty
      ∙ ap (λ t. f.text ++ t) settled.none ∙ append-nil f.text in
      let same : all.text Cut (take y.answered (rows ++ rest)) ≡ f.text = ap (all.text Cut) front ∙ text in (
        record {
          within = omega (arith, size, f.count);
          appended = subst (λ (t : List ℕ). Appends (contents w) (contents y.outlet) t) (sym same) f.put;
          left = λ ending to_come. ap (λ d. all.text ending (d ++ to_come)) front ∙ f.told ending to_come
              ∙ ap (λ t. f.text ++ (t ++ (still by y).text ending to_come)) settled.empty ∙ ap (λ t. t ++ (still by y).text ending to_come) (sym same);
          counted = λ to_come.
              let read = ap (λ d. all.read (d ++ to_come)) front ∙ f.read to_come in
              omega (arith, read, f.count);
        },
        subst (λ r. leads s 1 r y.service) (append-nil rows ∙ sym front) (f.led [] y.service settled.rests),
      )

  first-all : (limit : ℕ) (s : S) (w : W) (y : At S W) (records : List (List (List ℕ))) → Fills by limit records (from s w) y
      → AnswersFirst account leads limit s y.service (contents w) (contents y.outlet) records
  first-all limit s w y records h =
      let all = account s 1 in
      let cut = subst (λ r. AnswersJust account leads y.answered s y.service (contents w) (contents y.outlet) r) (sym h.parts)
      (cut-just s w y h.front (h.next ∷ h.rest) h.goes h.settled) in
      let size = ap length h.parts ∙ length-append h.front (h.next ∷ h.rest) in
      let read : all.read records ≡ length h.front + (still by y).read (h.next ∷ h.rest) = ap all.read h.parts ∙ h.goes.read (h.next ∷ h.rest) in
      let some = h.some h.rest in (
        (
          subst (λ n. Appends (contents w) (contents y.outlet) (all.text Cut (take n records))) h.full cut.0.appended,
          omega (arith, size, h.goes.count, h.full),
          omega (arith, read, some, h.goes.count, h.full),
        ),
        subst (λ n. leads s 1 (take n records) y.service) h.full cut.1,
      )

  -- a run that begins ends so
  pub ends_from : {R : Type 0} (rem : Lefts R) (chunks chunks2 : Chunks R) (s : S) (w : W) (y : At S W) (limit : ℕ) (input : List ℕ)
      (result : Result Count RunFault) → HasWholeInput rem chunks input → Finishes by limit rem chunks (from s w) chunks2 y result
      → EndsLed account leads rem chunks2 limit s y.service (contents w) (contents y.outlet) input result
  ends_from rem chunks chunks2 s w y limit input result (pending, come) ends =
      let records = input_records input in
      ends_so result
      (λ count over.
      let h = over records pending in
      let read = h.read in
      ((h.put, omega (arith, read), h.within), h.led))
      (λ long. first-all limit s w y records (long records pending))
      (λ h.
      let one = h.moves.takes records pending in
      let come2 = h.moves.come input come in
      let size = ap length one.parts ∙ length-append one.rows one.rest in
      let came = come-rest rem chunks2 input one.rest one.pending come2 in (
        y.answered,
        subst (λ r. AnswersJust account leads y.answered s y.service (contents w) (contents y.outlet) r) (sym one.parts)
            (cut-just s w y one.rows one.rest one.goes h.settled),
        record { come = come2; count = omega (arith, size, came, one.goes.count); none = h.none },
      ))
      (λ torn. torn records pending) ends

  -- so does one that has answered nothing so far
  pub ends_led : {R : Type 0} (rem : Lefts R) (chunks chunks2 : Chunks R) (s s2 : S) (run run2 : Served) (w w2 : W) (limit : ℕ)
      (input : List ℕ) (result : Result Count RunFault) → HasWholeInput rem chunks input → run.reply.sink ≡ [] → run.answered ≡ 0
      → Finishes by limit rem chunks (at s run w) chunks2 (at s2 run2 w2) result → EndsLed account leads rem chunks2 limit s s2 (contents w) (contents w2) input result
  ends_led rem chunks chunks2 s s2 run run2 w w2 limit input result whole empty none ends =
      ends_from rem chunks chunks2 s w (at s2 run2 w2) limit input result whole
      (subst (λ x. Finishes by limit rem chunks x chunks2 (at s2 run2 w2) result) (begins s run w empty none) ends)

-- ---- what it says of the text

pub led_whole : {S R : Type 0} (account : S → ℕ → Account) (leads : S → ℕ → List (List (List ℕ)) → S → Type 0) (rem : Lefts R) (chunks : Chunks R) (limit : ℕ) (s s2 : S) (old now : Option (List ℕ)) (input : List ℕ)
    (result : Result Count RunFault) → EndsLed account leads rem chunks limit s s2 old now input result
    → EndsWhole rem chunks (account s 1) (account s2) limit old now input result
led_whole account leads rem chunks limit s s2 old now input result ends =
    ends_so result (λ count all. all.0) (λ long. long.0) (λ (k, just, came). (k, just.0, came)) (λ prefix. prefix) ends

-- in fewer words
pub whole_run : {R : Type 0} (rem : Lefts R) (chunks : Chunks R) (all : Account) (left : ℕ → Account) (limit : ℕ) (input : List ℕ)
    (old now : Option (List ℕ)) (result : Result Count RunFault) → EndsWhole rem chunks all left limit old now input result
    → IsRun all limit input old now result
whole_run rem chunks all left limit input old now (Ok count) ends = ends
whole_run rem chunks all left limit input old now (Err fault.TooLong) ends = ends
whole_run rem chunks all left limit input old now (Err fault.Read) ends = (ends.0, ends.1.appended)
whole_run rem chunks all left limit input old now (Err fault.Memory) ends = ends
whole_run rem chunks all left limit input old now (Err fault.Write) ends = ends
