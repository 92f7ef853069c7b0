-- What handing a chunk on does to the records that are to come.
use Rattle.rubis_reading.proofs.Common.{◌≡◌, ◌≤◌, ◌<◌, ◌+◌, ◌-◌, ◌++◌, ◌∙◌, ℕ, List, length, take, drop, append-nil, sym, ap, arith, length-append}
use Rattle.rubis_reading.proofs.Common.{length-drop, ◌∷◌, [], ◌==◌, ◌&&◌, ◌||◌, inl, inr, zero, suc, Some, None, Bool, true, false, if◌then◌else◌}
use Rattle.rubis_reading.proofs.Common.{refl, subst, Option, append_assoc, take-append-drop, slice_range, IfSome, Consumes, prepend_known, cases_Bool}
use Rattle.rubis_reading.proofs.Common.{MatchBool, field_after, fields_after, is_end, step, default_config, is_bom, strip_bom, State, input_records}
use Rattle.std.proofs.Common.{length-take, length-take-le}
use Rattle.std.specs.Io.KnownBytes.{IsAtEnd}
use Rattle.std.proofs.lemmas.List.{drop-append-le, drop-drop, drop-take}
use Rattle.std.proofs.Math.Seq.{take-append-add}
use Rattle.csv.specs.Machine.{carriage_return, ends_at_end, line_feed, next_record}
use Rattle.csv.specs.Reading.{records, records_from, records_next}
use Rattle.std.proofs.Transfers.{drop-appended}
use Rattle.std.specs.Int.{from_bool}
use Rattle.std.specs.Prelude.{Err, IsErrAnd, Ok, Result}
use Rattle.rubis_engine.specs.Seam.{IsTextOf, Lefts, MayHave, OfEach, left}
use Rattle.rubis_engine.proofs.SeamFacts.{consumed-none, consumed-rest, may-have}
use Rattle.rubis_reading.specs.Chunked.{AreNew, AsksOn, WasAsked, WasFilled, ComesNearer, ComesOn, FailsShort, HasCome, HasPending, HasWholeInput, IsChunk, KeepsCome}
use Rattle.rubis_reading.specs.Chunked.{KeepsPending, OfInput, held_text}
use Rattle.rubis_reading.specs.declared.buffer.ChunkFault.{ChunkFault}
use Rattle.rubis_reading.specs.declared.buffer.ChunkFault.TheVariants as fault
use Rattle.csv.specs.declared.parser.State.TheVariants as st
use Rattle.rubis_reading.specs.Streams.{Closes, EndsNoRecord, IsBetween, IsLineEnd, IsWhole, records_on}
use Rattle.rubis_reading.specs.declared.chunks.Chunks.{Chunks}

-- with the first handed on
pub range-passed : (xs : List ℕ) (start end many : ℕ) → many ≤ length (slice_range xs start end)
    → slice_range xs (start + many) end ≡ drop many (slice_range xs start end)
range-passed xs start end many few =
    let long = length-take (end - start) (drop start xs) in
    let upto : end - start ≡ many + (end - (start + many)) = omega (arith, few, long) in
    ap (take (end - (start + many))) (sym (drop-drop many start xs))
    ∙ sym (drop-take many (end - (start + many)) (drop start xs))
    ∙ ap (λ n. drop many (take n (drop start xs))) (sym upto)

-- with bytes put behind them
pub range-filled : (xs block : List ℕ) (start end more : ℕ) → start ≤ end → end ≤ length xs
    → slice_range (take end xs ++ block) start (end + more) ≡ slice_range xs start end ++ take more block
range-filled xs block start end more on within =
    let far : end ≡ start + (end - start) = omega (arith, on) in
    let first : length (take end xs) ≡ end = length-take-le end xs within in
    let mid : drop start (take end xs) ≡ slice_range xs start end = ap (λ n. drop start (take n xs)) far ∙ drop-take start (end - start) xs in
    let long : length (slice_range xs start end) ≡ end - start =
    (let rest = length-drop start xs in length-take-le (end - start) (drop start xs) (omega (arith, on, within, rest))) in
    let upto : (end + more) - start ≡ length (slice_range xs start end) + more = omega (arith, on, long) in
    ap (take ((end + more) - start)) (drop-append-le start (take end xs) block (omega (arith, on, first)) ∙ ap (λ t. t ++ block) mid)
    ∙ ap (λ n. take n (slice_range xs start end ++ block)) upto
    ∙ take-append-add (slice_range xs start end) block more

-- with none put behind them
pub unfilled : (xs block : List ℕ) (start end : ℕ) → start ≤ end → end ≤ length xs → slice_range (take end xs ++ block) start end ≡ slice_range xs start end
unfilled xs block start end on within =
    let same : end ≡ end + 0 = omega arith in
    ap (λ n. slice_range (take end xs ++ block) start n) same ∙ range-filled xs block start end 0 on within ∙ append-nil (slice_range xs start end)

-- what was written into the room behind them is as long as the room
pub written-length : (xs block : List ℕ) (end : ℕ) → end ≤ length xs → length block ≡ length xs - end
    → length (take end xs ++ (block ++ drop (length xs - end) (drop end xs))) ≡ length xs
written-length xs block end within same =
    let past = drop (length xs - end) (drop end xs) in
    let first = length-take-le end xs within in
    let rest = length-drop end xs in
    let none = length-drop (length xs - end) (drop end xs) in
    let inner = length-append block past in
    let outer = length-append (take end xs) (block ++ past) in
    omega (arith, within, same, first, rest, none, inner, outer)

-- what the reader gave was put behind
pub filled : (before after : Option (List ℕ)) (xs block : List ℕ) (start end given : ℕ) (old new : List ℕ) (more : Bool)
    → start ≤ end → end ≤ length xs → old ≡ slice_range xs start end → new ≡ slice_range (take end xs ++ block) start (end + given)
    → Consumes before after (take given block) → (given ≡ 0 → IsAtEnd after) → (more ≡ false → given ≡ 0) → (more ≡ true → 0 < given)
    → given ≤ length block → WasFilled before after old new more
filled before after xs block start end given old new more on within was is consumed last none some few = record {
  put = record {
    bytes = take given block;
    behind = is ∙ range-filled xs block start end given on within ∙ ap (λ t. t ++ take given block) (sym was);
    some = λ e. omega (arith, some e, length-take-le given block few);
  };
  consumed = consumed;
  last = λ e. last (none e);
}

-- ---- where a text may be cut: its records are those of the parts

-- no record follows the end
nothing-left : (n : ℕ) → records_from default_config n st.StartRecord [] ≡ []
unfolding records_from next_record
nothing-left zero = refl
nothing-left (suc n) = refl

-- the records that csv reads one by one, with the one at hand
pub from-here : (n : ℕ) (s : State) (fields : List (List ℕ)) (field xs : List ℕ) → length xs ≤ n
    → records_next (records_from default_config n) (next_record default_config s fields field xs) ≡ records_on s fields field xs
unfolding next_record records_from records_on
from-here n s fields field [] fits =
    elim (ends_at_end s) as (λ b. records_next (records_from default_config n) (if b then Some (fields ++ (field ∷ []), st.StartRecord, []) else None)
    ≡ (if b then (fields ++ (field ∷ [])) ∷ [] else [])) [
      | true ↦ ap (λ t. (fields ++ (field ∷ [])) ∷ t) (nothing-left n)
      | false ↦ refl
    ]
from-here zero s fields field (c ∷ rest) fits = absurd (omega (arith, fits))
from-here (suc n) s fields field (c ∷ rest) fits =
    let s2 = (step default_config s c).0 in
    let a = (step default_config s c).1 in
    elim (is_end a) as (λ b. records_next (records_from default_config (suc n)) (if b then Some (fields_after a fields field, s2, rest)
    else next_record default_config s2 (fields_after a fields field) (field_after a c field) rest)
    ≡ (if b then fields_after a fields field ∷ records_on s2 [] [] rest else records_on s2 (fields_after a fields field) (field_after a c field) rest)) [
      | true ↦ ap (λ t. fields_after a fields field ∷ t) (from-here n s2 [] [] rest (omega (arith, fits)))
      | false ↦ from-here (suc n) s2 (fields_after a fields field) (field_after a c field) rest (omega (arith, fits))
    ]

pub all-from-here : (xs : List ℕ) → records default_config xs ≡ records_on st.StartRecord [] [] xs
unfolding records_from
all-from-here xs =
    let one : length xs + 1 ≡ suc (length xs) = omega arith in
    rw one (from-here (length xs) st.StartRecord [] [] xs (omega arith))

-- ---- a carriage return alone

or-true : (b : Bool) → (b || true) ≡ true
or-true true = refl
or-true false = refl

-- after a carriage return that ended a record the records are read as at the start of one
pub after-cr : (ys : List ℕ) → records_on st.AfterCr [] [] ys ≡ records_on st.StartRecord [] [] ys
unfolding records_on
after-cr [] = refl
after-cr (c ∷ rest) =
    elim (cases_Bool (c == 10)) [
      | inl e ↦ rw (e, or-true (c == 13)) refl
      | inr e ↦ rw e refl
    ]

-- ---- a text that is closed by its end

-- with no record begun, what follows is read by itself
none-then : (s : State) (ys : List ℕ) → IsBetween s → records_on s [] [] ys ≡ records_on s [] [] [] ++ records_on st.StartRecord [] [] ys
unfolding records_on
none-then st.StartRecord ys h = refl
none-then st.AfterCr ys h = after-cr ys
none-then st.StartField ys h = absurd h
none-then st.InField ys h = absurd h
none-then st.InQuoted ys h = absurd h
none-then st.AfterQuote ys h = absurd h
none-then st.InEscape ys h = absurd h
none-then st.InComment ys h = absurd h

-- what follows it is read by itself
pub closed-then : (s : State) (fields : List (List ℕ)) (field xs ys : List ℕ) → Closes s fields field xs
    → records_on s fields field (xs ++ ys) ≡ records_on s fields field xs ++ records_on st.StartRecord [] [] ys
unfolding records_on Closes
closed-then s fields field [] ys h = rw (h.1, h.2) (none-then s ys h.0)
closed-then s fields field (c ∷ rest) ys h =
    let s2 = (step default_config s c).0 in
    let a = (step default_config s c).1 in
    let f2 = fields_after a fields field in
    let p2 = field_after a c field in
    elim (is_end a) as (λ b. MatchBool b (Closes s2 [] [] rest) (Closes s2 f2 p2 rest)
    → (if b then f2 ∷ records_on s2 [] [] (rest ++ ys) else records_on s2 f2 p2 (rest ++ ys))
    ≡ (if b then f2 ∷ records_on s2 [] [] rest else records_on s2 f2 p2 rest) ++ records_on st.StartRecord [] [] ys) [
      | true ↦ λ k. ap (λ t. f2 ∷ t) (closed-then s2 [] [] rest ys k)
      | false ↦ λ k. closed-then s2 f2 p2 rest ys k
    ] h

-- ---- a byte order mark

neither-mark : (p q : Bool) → (p && false && q) ≡ false
neither-mark true q = refl
neither-mark false q = refl

pub no-mark-third : (p q : Bool) → (p && q && false) ≡ false
no-mark-third true true = refl
no-mark-third true false = refl
no-mark-third false q = refl

-- no byte of a mark ends a line
abbrev pub HasNoMark : ℕ → Type 0
HasNoMark b = ((b == 239) ≡ false) × ((b == 187) ≡ false) × ((b == 191) ≡ false)

pub no-mark : (b : ℕ) → IsLineEnd b → HasNoMark b
no-mark b ends =
    elim ends [
      | inl e ↦ subst HasNoMark (sym e) (refl, refl, refl)
      | inr e ↦ subst HasNoMark (sym e) (refl, refl, refl)
    ]

-- the mark stands within the first line, or there is none
within-line : (front rest : List ℕ) (last : ℕ) → HasNoMark last → strip_bom ((front ++ last ∷ []) ++ rest) ≡ strip_bom (front ++ last ∷ []) ++ rest
unfolding strip_bom
within-line [] [] last apart = refl
within-line [] (a ∷ []) last apart = refl
within-line [] (a ∷ b ∷ rest) last apart = rw apart.0 refl
within-line (a ∷ []) [] last apart = refl
within-line (a ∷ []) (b ∷ rest) last apart = rw (apart.1, neither-mark (a == 239) (b == 191)) refl
within-line (a ∷ b ∷ []) rest last apart = rw (apart.2, no-mark-third (a == 239) (b == 187)) refl
within-line (a ∷ b ∷ c ∷ front) rest last apart =
    elim (is_bom a b c) as (λ m. (if m then (front ++ last ∷ []) ++ rest else (a ∷ b ∷ c ∷ front ++ last ∷ []) ++ rest)
    ≡ (if m then front ++ last ∷ [] else a ∷ b ∷ c ∷ front ++ last ∷ []) ++ rest) [ true ↦ refl | false ↦ refl ]

pub mark-within : (front rest : List ℕ) (last : ℕ) → IsLineEnd last → strip_bom ((front ++ last ∷ []) ++ rest) ≡ strip_bom (front ++ last ∷ []) ++ rest
mark-within front rest last ends = within-line front rest last (no-mark last ends)

-- ---- the cut

-- the end of a line at the start is passed over, and no mark stands after it
fed-feed : (rest : List ℕ) → records default_config (strip_bom (line_feed ∷ rest)) ≡ records_on st.StartRecord [] [] rest
unfolding strip_bom records_on
fed-feed [] = all-from-here (line_feed ∷ [])
fed-feed (a ∷ []) = all-from-here (line_feed ∷ a ∷ [])
fed-feed (a ∷ b ∷ rest) = all-from-here (line_feed ∷ a ∷ b ∷ rest)

fed-return : (rest : List ℕ) → records default_config (strip_bom (carriage_return ∷ rest)) ≡ records_on st.StartRecord [] [] rest
unfolding strip_bom records_on
fed-return [] = all-from-here (carriage_return ∷ [])
fed-return (a ∷ []) = all-from-here (carriage_return ∷ a ∷ [])
fed-return (a ∷ b ∷ rest) = all-from-here (carriage_return ∷ a ∷ b ∷ rest)

pub fed : (last : ℕ) (rest : List ℕ) → IsLineEnd last → records default_config (strip_bom (last ∷ rest)) ≡ records_on st.StartRecord [] [] rest
fed last rest ends =
    elim ends [
      | inl e ↦ subst (λ b. records default_config (strip_bom (b ∷ rest)) ≡ records_on st.StartRecord [] [] rest) (sym e) (fed-feed rest)
      | inr e ↦ subst (λ b. records default_config (strip_bom (b ∷ rest)) ≡ records_on st.StartRecord [] [] rest) (sym e) (fed-return rest)
    ]

-- a text of which whole records are cut off reads as they do, and then as what follows the end of their last line
pub cut-off : (text rest : List ℕ) → (whole : IsWhole text) → input_records (text ++ rest) ≡ input_records text ++ input_records (whole.last ∷ rest)
unfolding input_records
cut-off text rest whole =
    let split : strip_bom (text ++ rest) ≡ strip_bom text ++ rest = rw whole.is (mark-within whole.front rest whole.last whole.ends) in
    ap (records default_config) split ∙ all-from-here (strip_bom text ++ rest) ∙ closed-then st.StartRecord [] [] (strip_bom text) rest whole.closes
    ∙ ap (λ t. t ++ records_on st.StartRecord [] [] rest) (sym (all-from-here (strip_bom text)))
    ∙ ap (λ t. records default_config (strip_bom text) ++ t) (sym (fed whole.last rest whole.ends))

-- ---- what handing a chunk on does to the records that are to come

some-is : {A : Type 0} {x y : A} → Some x ≡ Some y → x ≡ y
some-is e = cc e

-- the end of the last line of a chunk, and what follows the chunk
pub feed-left : (held : List ℕ) (many : ℕ) → many ≤ length held → 0 < many → (whole : IsWhole (take many held)) → drop (many - 1) held
    ≡ whole.last ∷ drop many held
feed-left held many within some whole =
    let size : length (take many held) ≡ many = length-take-le many held within in
    let parts : length (take many held) ≡ length whole.front + 1 = ap length whole.is ∙ length-append whole.front (whole.last ∷ []) in
    let front : length whole.front ≡ many - 1 = omega (arith, size, parts, some) in
    let split : held ≡ whole.front ++ (whole.last ∷ drop many held) =
    sym (take-append-drop many held) ∙ ap (λ t. t ++ drop many held) whole.is ∙ append_assoc whole.front (whole.last ∷ []) (drop many held) in
    rw (← front) (drop-appended whole.front held (whole.last ∷ drop many held) split)

-- bytes that came, or none, are held behind those that were
pub record HoldsMore (before after : Option (List ℕ)) (old new : List ℕ) : Type 0 where
  pub bytes : List ℕ
  pub behind : new ≡ old ++ bytes
  pub consumed : Consumes before after bytes

-- bytes that come are behind those that are held
pub held-keeps : {R : Type 0} (rem : Lefts R) (old new : Chunks R)
    → HoldsMore (rem old.reader) (rem new.reader) old.held new.held → KeepsPending rem old new
held-keeps rem old new f rows h = record {
  bytes = h.bytes;
  source = same (rem old.reader) (rem new.reader) f.consumed h.source;
  reads = h.reads;
}
  where
    same : (before after : Option (List ℕ)) → Consumes before after f.bytes → prepend_known old.held before ≡ Some h.bytes
        → prepend_known new.held after ≡ Some h.bytes
    same None after taken e = absurd cc
    same (Some xs) None taken e = absurd taken
    same (Some xs) (Some ys) taken e =
        ap (λ t. Some (t ++ ys)) f.behind ∙ ap Some (append_assoc old.held f.bytes ys) ∙ ap (λ t. Some (old.held ++ t)) (sym taken) ∙ e

-- a chunk is taken off
pub taken : (held bytes : List ℕ) (known : Option (List ℕ)) (many : ℕ) → 0 < many → many ≤ length held → IsWhole (take many held)
    → prepend_known held known ≡ Some bytes
    → (left : List ℕ) × (prepend_known (drop (many - 1) held) known ≡ Some left) × (input_records bytes ≡ input_records (take many held) ++ input_records left)
taken held bytes None many some within whole e = absurd cc
taken held bytes (Some xs) many some within whole e =
    let left : drop (many - 1) held ++ xs ≡ whole.last ∷ (drop many held ++ xs) = ap (λ t. t ++ xs) (feed-left held many within some whole) in
    let split : bytes ≡ take many held ++ (drop many held ++ xs) =
    sym (some-is e) ∙ ap (λ t. t ++ xs) (sym (take-append-drop many held)) ∙ append_assoc (take many held) (drop many held) xs in (
      drop (many - 1) held ++ xs,
      refl,
      ap input_records split ∙ cut-off (take many held) (drop many held ++ xs) whole ∙ ap (λ t. input_records (take many held) ++ input_records t) (sym left),
    )

-- a chunk stands first
pub pending-front : {R : Type 0} (rem : Lefts R) (c : Chunks R) (many : ℕ) (rows : List (List (List ℕ))) → IsChunk many (held_text c)
    → HasPending rem c rows → (more : List (List (List ℕ))) × (rows ≡ input_records (take many (held_text c)) ++ more)
pending-front rem c many rows (some, within, whole) h =
    let (left, same, split) = taken c.held h.bytes (rem c.reader) many (omega (arith, some)) within whole h.source in
    (input_records left, h.reads ∙ split)

-- ---- how far the end is

pub nearer-none : {R : Type 0} (rem : Lefts R) (c : Chunks R) → ComesNearer 0 rem c c
nearer-none rem c left e = (left, e, omega arith)

pub nearer-more : {R : Type 0} (m n k : ℕ) (rem : Lefts R) (a b c : Chunks R) → k ≤ m + n → ComesNearer m rem a b → ComesNearer n rem b c
    → ComesNearer k rem a c
nearer-more m n k rem a b c few one two left e =
    let (left1, e1, l1) = one left e in
    let (left2, e2, l2) = two left1 e1 in
    (left2, e2, omega (arith, few, l1, l2))

-- bytes that came are held, if there were any
filled-nearer : {R : Type 0} (rem : Lefts R) (first old new : Chunks R) (more some : Bool) → ComesNearer 0 rem first old
    → WasFilled (rem old.reader) (rem new.reader) old.held new.held more → (some ≡ true → more ≡ true) → ComesNearer (from_bool some) rem first new
filled-nearer rem first old new more some one f so left e =
    let (left1, e1, l1) = one left e in
    let (left2, source, split) = consumed-rest f.put.bytes left1 (rem old.reader) (rem new.reader) f.consumed e1 in
    let grown = ap length f.put.behind in
    let size = length-append old.held f.put.bytes in
    let parts = ap length split in
    let sizes = length-append f.put.bytes left2 in
    let least = at some (λ yes. f.put.some (so yes)) in
    (left2, source, omega (arith, grown, size, parts, sizes, least, l1))
  where
    at : (b : Bool) → (b ≡ true → 0 < length f.put.bytes) → from_bool b ≤ length f.put.bytes
    at true l = omega (arith, l refl)
    at false l = omega arith

-- ---- what came of an input

-- bytes that come are behind those that are held
pub held-come : {R : Type 0} (rem : Lefts R) (old new : Chunks R)
    → HoldsMore (rem old.reader) (rem new.reader) old.held new.held → KeepsCome rem old new
held-come rem old new f input h =
    let (left, source, split) = consumed-rest f.bytes h.left (rem old.reader) (rem new.reader) f.consumed h.source in record {
      front = h.front;
      mark = h.mark;
      begun = h.begun ++ f.bytes;
      left = left;
      parts = h.parts ∙ ap (λ t. h.front ++ (h.begun ++ t)) split ∙ ap (λ t. h.front ++ t) (sym (append_assoc h.begun f.bytes left));
      few = h.few;
      held = f.behind ∙ ap (λ t. t ++ f.bytes) h.held ∙ append_assoc h.mark h.begun f.bytes;
      source = source;
      first = h.first;
    }

-- ---- how more is asked for

pub on-none : {R : Type 0} (rem : Lefts R) (c : Chunks R) → ComesOn 0 rem c c
on-none rem c = record { pending = λ rows h. h; come = λ input h. h; nearer = nearer-none rem c }

-- bytes came, if there were any
pub filled-on : {R : Type 0} (rem : Lefts R) (first old new : Chunks R) (more some : Bool) → ComesOn 0 rem first old
    → WasFilled (rem old.reader) (rem new.reader) old.held new.held more → (some ≡ true → more ≡ true) → ComesOn (from_bool some) rem first new
filled-on rem first old new more some on f so =
    let held : HoldsMore (rem old.reader) (rem new.reader) old.held new.held = record { bytes = f.put.bytes; behind = f.put.behind; consumed = f.consumed } in
    record {
      pending = λ rows h. held-keeps rem old new held rows (on.pending rows h);
      come = λ input h. held-come rem old new held input (on.come input h);
      nearer = filled-nearer rem first old new more some on.nearer f so;
    }

-- the reader failed, and nothing came; or there was no room
pub failed-on : {R : Type 0} (rem : Lefts R) (first old new : Chunks R) (r : Result Bool ChunkFault) (e : ChunkFault) → IsErrAnd r (λ f. f ≡ e)
    → ComesOn 0 rem first old → (EndsNoRecord first.held → EndsNoRecord old.held) → WasAsked (rem old.reader) (rem new.reader) old.held new.held (Err e)
    → AsksOn rem first new r
failed-on rem first old new (Ok more) e handed on none was = absurd handed
failed-on rem first old new (Err fault.Memory) e handed on none was = tt
failed-on rem first old new (Err fault.Read) e handed on none was =
    let (same, keeps) = subst (λ f. WasAsked (rem old.reader) (rem new.reader) old.held new.held (Err f)) (sym handed) was in
    let held : HoldsMore (rem old.reader) (rem new.reader) old.held new.held =
    record { bytes = []; behind = same ∙ sym (append-nil old.held); consumed = consumed-none (rem old.reader) (rem new.reader) keeps } in
    record {
      pending = λ rows h. held-keeps rem old new held rows (on.pending rows h);
      come = λ input h. held-come rem old new held input (on.come input h);
      none = λ h. subst EndsNoRecord (sym same) (none h);
    }

pub failed-short : {R : Type 0} (rem : Lefts R) (old new : Chunks R) (e : ChunkFault) → e ≡ fault.Read → AsksOn rem old new (Err e)
    → FailsShort rem old new
failed-short rem old new e is asked = subst (λ f. AsksOn rem old new (Err f)) is asked

-- at the end what is held is the rest of the records
pub ended-last : {R : Type 0} (c : Chunks R) (text : List ℕ) (rows : List (List (List ℕ))) → c.reader.is_ended ≡ true → IsTextOf text c.reader
    → HasPending (left text) c rows → rows ≡ input_records (held_text c)
ended-last c text rows ended h pending =
    let none = drop-appended c.reader.came.bytes text h.rest h.parts ∙ h.ended ended in
    pending.reads ∙ ap input_records (some-is (sym pending.source) ∙ ap (λ t. c.held ++ t) none ∙ append-nil c.held)

-- the first bytes of what is held are those of the mark, and then of what came since
front-split : (mark begun : List ℕ) (many : ℕ) → length mark ≤ 1 → 0 < many
    → (t : List ℕ) × (take many (mark ++ begun) ≡ mark ++ t) × (begun ≡ t ++ drop many (mark ++ begun))
front-split [] begun many few some = (take many begun, refl, sym (take-append-drop many begun))
front-split (b ∷ []) begun zero few some = absurd (omega (arith, some))
front-split (b ∷ []) begun (suc n) few some = (take n begun, refl, sym (take-append-drop n begun))
front-split (b ∷ (d ∷ mark)) begun many few some = absurd (omega (arith, few))

-- a chunk is handed on
pub handed-come : {R : Type 0} (rem : Lefts R) (old new : Chunks R) (many : ℕ) (input : List ℕ) → new.reader ≡ old.reader
    → new.held ≡ drop (many - 1) old.held → 0 < many → many ≤ length old.held → IsWhole (take many old.held) → HasCome rem input old → HasCome rem input new
handed-come rem old new many input same handed some within whole h =
    let (t, chunk, since) = front-split h.mark h.begun many h.few some in
    let taken : take many old.held ≡ h.mark ++ t = ap (take many) h.held ∙ chunk in
    let rest = drop many old.held in
    let since : h.begun ≡ t ++ rest = since ∙ ap (λ x. t ++ drop many x) (sym h.held) in
    record {
      front = h.front ++ t;
      mark = whole.last ∷ [];
      begun = rest;
      left = h.left;
      parts = h.parts ∙ ap (λ x. h.front ++ (x ++ h.left)) since ∙ ap (λ x. h.front ++ x) (append_assoc t rest h.left)
          ∙ sym (append_assoc h.front t (rest ++ h.left));
      few = omega arith;
      held = handed ∙ feed-left old.held many within some whole;
      source = ap rem same ∙ h.source;
      first = λ more.
          ap input_records (append_assoc h.front t more) ∙ h.first (t ++ more)
          ∙ ap (λ x. input_records h.front ++ input_records x) (sym (append_assoc h.mark t more) ∙ ap (λ x. x ++ more) (sym taken))
          ∙ ap (λ x. input_records h.front ++ x) (cut-off (take many old.held) more whole)
          ∙ sym (append_assoc (input_records h.front) (input_records (take many old.held)) (input_records (whole.last ∷ more)))
          ∙ ap (λ x. x ++ input_records (whole.last ∷ more))
          (ap (λ x. input_records h.front ++ input_records x) taken ∙ sym (h.first t));
    }

no-records : input_records [] ≡ []
unfolding input_records records_on strip_bom
no-records = all-from-here (strip_bom [])

-- nothing has come
none-come : {R : Type 0} (rem : Lefts R) (c : Chunks R) (input : List ℕ) → rem c.reader ≡ Some input → c.held ≡ []
    → HasCome rem input c
none-come rem c input source empty = record {
  front = [];
  mark = [];
  begun = [];
  left = input;
  parts = refl;
  few = omega arith;
  held = empty;
  source = source;
  first = λ more. ap (λ rows. rows ++ input_records more) (sym no-records);
}

-- new chunks have all of a text still to give
new-whole : {R : Type 0} (c : Chunks R) (text : List ℕ) → AreNew c → HasWholeInput (left text) c text
new-whole c text ((came, on), empty) =
    let all : left text c.reader ≡ Some text = ap (λ bytes. Some (drop (length bytes) text)) came in (
      record { bytes = text; source = ap (λ bytes. prepend_known bytes (left text c.reader)) empty ∙ ap (prepend_known []) all; reads = refl },
      none-come (left text) c text all empty,
    )

-- a run that ends so over all that chunks have still to give does over each input that the reader of new ones may have
pub over-input : {R : Type 0} {rem : R → Option (List ℕ)} (old new : Chunks R) {holds : Lefts R → List ℕ → Type 0}
    → OfEach rem old.reader new.reader (λ l. (input : List ℕ) → HasWholeInput l old input → holds l input) → AreNew old → (input : List ℕ)
    → MayHave rem input old.reader new.reader → holds (left input) input
over-input old new f none input may = (f.each input (may-have input f none.0 may)).1 input (new-whole old input none)

-- so it is with the one that the reader is known to have
pub of-known : {R : Type 0} (rem : R → Option (List ℕ)) (reader : R) (old new : Chunks R) (holds : List ℕ → Type 0)
    → old.reader.reader ≡ reader → AreNew old → OfInput rem old new holds → IfSome (rem reader) holds
of-known rem reader old new holds is none of = at (rem reader) refl
  where
    at : (known : Option (List ℕ)) → rem reader ≡ known → IfSome known holds
    at None e = tt
    at (Some input) e = of none input (inl (ap rem is ∙ e))

-- the records to come are those behind what was handed on
pub come-rest : {R : Type 0} (rem : Lefts R) (c : Chunks R) (input : List ℕ) (later : List (List (List ℕ))) → HasPending rem c later
    → (h : HasCome rem input c) → length (input_records input) ≡ length (input_records h.front) + length later
come-rest rem c input later p h =
    let rest : c.held ++ h.left ≡ p.bytes = some-is (sym (ap (prepend_known c.held) h.source) ∙ p.source) in
    let behind : h.mark ++ (h.begun ++ h.left) ≡ p.bytes = sym (append_assoc h.mark h.begun h.left) ∙ ap (λ t. t ++ h.left) (sym h.held) ∙ rest in
    let split : input_records input ≡ input_records h.front ++ later =
    ap input_records h.parts ∙ h.first (h.begun ++ h.left) ∙ ap (λ t. input_records h.front ++ t) (ap input_records behind ∙ sym p.reads) in
    ap length split ∙ length-append (input_records h.front) later
