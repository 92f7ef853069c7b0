-- What a read does to the records that a reader has still to give.
use Rattle.std.proofs.Common.{◌≡◌, ◌<◌, ◌≤◌, ◌+◌, ◌-◌, ◌∷◌, [], ◌++◌, ◌∙◌, ◌==◌, ◌&&◌, inl, ℕ, zero, suc, List, length, Option, Some, None, Bool, true, false}
use Rattle.std.proofs.Common.{if◌then◌else◌, IfSome, option_map, sym, refl, ap, subst, arith}
use Rattle.csv.specs.Machine.{Read, after_end, ends_at_end, ends_with, field_after, fields_after, in_field, is_byte, is_end, next_record, start_field}
use Rattle.csv.specs.Machine.{start_record, step}
use Rattle.csv.specs.Reading.{Reached, ReadRecord, Ready, default_config, reader_config, reader_state, reader_trim, records_from, source_of, strip_bom}
use Rattle.csv.specs.Reading.{took_first}
use Rattle.csv.specs.declared.parser.Config.{Config}
use Rattle.csv.specs.declared.parser.Terminator.{Terminator}
use Rattle.csv.specs.declared.parser.Terminator.TheVariants as term
use Rattle.csv.specs.declared.parser.State.{State}
use Rattle.csv.specs.declared.parser.State.TheVariants as st
use Rattle.csv.specs.declared.parser.Action.{Action}
use Rattle.csv.specs.declared.reader.Reader.{Reader}
use Rattle.csv.specs.declared.reader.Trim.TheVariants as trim
use Rattle.csv.proofs.ReadFacts.{rows-end, rows-more}
use Rattle.rubis_engine.specs.Reading.{HasToGive, LeavesFewer, ReadsNext}
use Rattle.rubis_engine.specs.Text.{input_records}

-- a step that ends a record leaves a state between records
abbrev Between : State × Action → Type 0
Between p = is_end p.1 ≡ true → ends_at_end p.0 ≡ false

between-if : (b : Bool) (x y : State × Action) → Between x → Between y → Between (if b then x else y)
between-if true x y p q = p
between-if false x y p q = q

after_end-between : (t : Terminator) (c : ℕ) → ends_at_end (after_end t c) ≡ false
after_end-between term.CRLF c = elim (c == 13) as (λ b. ends_at_end (if b then st.AfterCr else st.StartRecord) ≡ false) [ true ↦ refl | false ↦ refl ]
after_end-between (term.Any t) c = refl

in_field-between : (cfg : Config) (c : ℕ) → Between (in_field cfg c)
in_field-between cfg c =
    between-if (c == cfg.delimiter) _ _ (λ e. cc) (between-if (ends_with cfg.terminator c) _ _ (λ e. after_end-between cfg.terminator c) (λ e. cc))

start_field-between : (cfg : Config) (c : ℕ) → Between (start_field cfg c)
start_field-between cfg c = between-if (cfg.quoting && (c == cfg.quote)) _ _ (λ e. cc) (in_field-between cfg c)

start_record-between : (cfg : Config) (c : ℕ) → Between (start_record cfg c)
start_record-between cfg c =
    between-if (ends_with cfg.terminator c) _ _ (λ e. cc) (between-if (is_byte cfg.comment c) _ _ (λ e. cc) (start_field-between cfg c))

step-between : (cfg : Config) (s : State) (c : ℕ) → Between (step cfg s c)
step-between cfg st.StartRecord c = start_record-between cfg c
step-between cfg st.StartField c = start_field-between cfg c
step-between cfg st.InField c = in_field-between cfg c
step-between cfg st.InQuoted c =
    between-if (cfg.quoting && (c == cfg.quote)) _ _ (λ e. cc) (between-if (cfg.quoting && is_byte cfg.escape c) _ _ (λ e. cc) (λ e. cc))
step-between cfg st.InEscape c = λ e. cc
step-between cfg st.AfterQuote c = between-if (cfg.quoting && cfg.double_quote && (c == cfg.quote)) _ _ (λ e. cc) (in_field-between cfg c)
step-between cfg st.InComment c = between-if (c == 10) _ _ (λ e. cc) (λ e. cc)
step-between cfg st.AfterCr c = between-if (c == 10) _ _ (λ e. cc) (start_record-between cfg c)

-- a record takes bytes, and the next one starts between records
next-shorter : (cfg : Config) (s : State) (fields : List (List ℕ)) (field : List ℕ) (xs : List ℕ) (p : Read)
    → next_record cfg s fields field xs ≡ Some p → (length p.2 ≤ length xs - 1) × (ends_at_end p.1 ≡ false)
unfolding next_record
next-shorter cfg s fields field [] p =
    elim (ends_at_end s) as
    (λ b. (if b then Some (fields ++ (field ∷ []), st.StartRecord, []) else None) ≡ Some p → (length p.2 ≤ 0 - 1) × (ends_at_end p.1 ≡ false)) [
      | true ↦ λ e.
          let rest : p.2 ≡ [] = cc e in
          let state : p.1 ≡ st.StartRecord = cc e in
          (rw rest (omega arith), rw state refl)
      | false ↦ λ e. cc e
    ]
next-shorter cfg s fields field (c ∷ rest) p =
    elim (is_end (step cfg s c).1) as (λ b. is_end (step cfg s c).1 ≡ b → (if b then Some (fields_after (step cfg s c).1 fields field, (step cfg s c).0, rest)
    else next_record cfg (step cfg s c).0 (fields_after (step cfg s c).1 fields field) (field_after (step cfg s c).1 c field) rest) ≡ Some p
    → (length p.2 ≤ suc (length rest) - 1) × (ends_at_end p.1 ≡ false)) [
      | true ↦ λ end e.
          let after : p.2 ≡ rest = cc e in
          let state : p.1 ≡ (step cfg s c).0 = cc e in
          (rw after (omega arith), rw state (step-between cfg s c end))
      | false ↦ λ end e.
          let more = next-shorter cfg (step cfg s c).0 (fields_after (step cfg s c).1 fields field) (field_after (step cfg s c).1 c field) rest p e in
          (omega (arith, more.0), more.1)
    ] refl

none-at-end : (s : State) → ends_at_end s ≡ false → next_record default_config s [] [] [] ≡ None
unfolding next_record
none-at-end s between = rw between refl

-- the first of the records that are left, and those after it
one-more : (fuel : ℕ) (s : State) (bytes : List ℕ) (p : Read) → length bytes < fuel → ends_at_end s ≡ false
    → next_record default_config s [] [] bytes ≡ Some p
    → (k : ℕ) × (length p.2 < k) × (records_from default_config fuel s bytes ≡ p.0 ∷ records_from default_config k p.1 p.2)
unfolding records_from
one-more zero s bytes p lt between e = absurd (omega arith)
one-more (suc k) s [] p lt between e =
    let none = none-at-end s between in
    cc (none, e)
one-more (suc k) s (c ∷ rest) p lt between e =
    let short = next-shorter default_config s [] [] (c ∷ rest) p e in
    (k, omega (arith, short.0), rw e refl)

-- no record is left
no-more : (fuel : ℕ) (s : State) (bytes : List ℕ) → next_record default_config s [] [] bytes ≡ None → records_from default_config fuel s bytes ≡ []
unfolding records_from
no-more zero s bytes e = refl
no-more (suc k) s bytes e = rw e refl

-- a reader at its start
pub holds-start : {R : Type 0} (rem : R → Option (List ℕ)) (rdr : Reader R) (known : Option (List ℕ)) → reader_trim rdr ≡ trim.None → Ready rdr
    → reader_config rdr ≡ default_config → reader_state rdr ≡ st.StartRecord → source_of rem rdr ≡ option_map strip_bom known
    → IfSome known (λ input. HasToGive rem rdr (input_records input))
unfolding input_records
holds-start rem rdr None trim ready config state source = tt
holds-start rem rdr (Some input) trim ready config state source = record {
  trim = trim;
  ready = ready;
  config = config;
  between = rw state refl;
  bytes = strip_bom input;
  fuel = length (strip_bom input) + 1;
  source = source;
  enough = omega arith;
  records = rw state refl;
}

-- a read takes the first record
pub holds-takes : {R : Type 0} (rem : R → Option (List ℕ)) (a b : Reader R) (found : Bool) (fields : List (List ℕ))
    → (reader_trim a ≡ trim.None → took_first b ≡ true)
    → (reader_trim a ≡ trim.None → Ready a → ReadRecord rem a b found fields)
    → ReadsNext rem a b found fields
unfolding Reached
holds-takes rem a b true fields first reads rest h =
    let r = reads h.trim h.ready in
    let (z, source, took) = rows-more rem a b fields default_config a.state h.bytes h.bytes [] h.config h.source (refl, refl) r in
    let (p, next, same, after) = took in
    let (state, left) = after in
    let (k, enough, more) = one-more h.fuel a.state h.bytes p h.enough h.between next in
    let between = (next-shorter default_config a.state [] [] h.bytes p next).1 in (
      records_from default_config k p.1 p.2,
      h.records ∙ more ∙ ap (λ (t : List (List ℕ)). t ∷ records_from default_config k p.1 p.2) (sym same),
      record {
        trim = r.3 ∙ h.trim;
        ready = inl (first h.trim);
        config = r.2 ∙ h.config;
        between = subst (λ (s : State). ends_at_end s ≡ false) state between;
        bytes = z;
        fuel = k;
        source = source;
        enough = subst (λ (t : List ℕ). length t < k) left enough;
        records = λ i. records_from default_config k (state i) (left i);
      },
    )
holds-takes rem a b false fields first reads rest h =
    h.records ∙ no-more h.fuel a.state h.bytes (rows-end rem a b fields default_config h.bytes h.config h.source (reads h.trim h.ready))

-- a record takes bytes
some-taken : (s : State) (bytes : List ℕ) (p : Read) → ends_at_end s ≡ false → next_record default_config s [] [] bytes ≡ Some p
    → length p.2 < length bytes
some-taken s [] p between e =
    let none = none-at-end s between in
    cc (none, e)
some-taken s (c ∷ rest) p between e =
    let short = next-shorter default_config s [] [] (c ∷ rest) p e in
    omega (arith, short.0)

-- a read that finds a record leaves fewer bytes
pub holds-fewer : {R : Type 0} (rem : R → Option (List ℕ)) (a b : Reader R) (found : Bool) (fields : List (List ℕ))
    → (reader_trim a ≡ trim.None → Ready a → ReadRecord rem a b found fields)
    → LeavesFewer rem a b found
unfolding Reached
holds-fewer rem a b true fields reads e rest h =
    let (z, source, took) = rows-more rem a b fields default_config a.state h.bytes h.bytes [] h.config h.source (refl, refl) (reads h.trim h.ready) in
    let (p, next, same, after) = took in
    let (state, left) = after in
    rw (source, h.source) (subst (λ (t : List ℕ). length t < length h.bytes) left (some-taken a.state h.bytes p h.between next))
holds-fewer rem a b false fields reads e rest h = absurd (cc e)
