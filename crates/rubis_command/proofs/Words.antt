-- What the words of the command line give.
use Rattle.std.proofs.Common.{◌≡◌, ℕ, ◌⊎◌, inl, inr, true, sym, ap, subst, ◌∙◌, refl, []}
use Rattle.std.specs.Borrow.{Bor}
use Rattle.std.specs.Prelude.{List, Option, Some, None, option_map, unwrap_or}
use Rattle.std.specs.Str.Parse.{ExplainsUnsignedError, HasUnsignedDigitsIfOk, ParsesUnsigned}
use Rattle.clap.proofs.WalkLemmas.{first_value-rows, one_text-rows}
use Rattle.clap.specs.Words.{App, HasKind, HasMatchesOf, IsAmong, Kinds, ReadsOne, Row, Text, fault_of, first_value, found_of, is_simple, is_simple_and_free, kind_of, one_text, rows_of, subcommand_of}
use Rattle.clap.specs.Simple.{subcommand_rows_of}
use Rattle.clap.specs.declared.parser.matches.ArgMatches.{ArgMatches}
use Rattle.clap.specs.declared.error.Error.{Error}
use Rattle.clap.specs.declared.error.kind.ErrorKind.{ErrorKind}
use Rattle.clap.specs.declared.error.kind.ErrorKind.TheVariants.{OutOfMemory}
use Rattle.clap.proofs.OnLiterals.{clap_on_literals}
use Rattle.rubis_command.specs.CommandLine.{IsFaultAmong, IsGivenNumber, IsNumberOf, IsTextOfWords, Writes, command_line, fault_by}

-- what `clap` reads of a text as a number whose width is given in bits
abbrev Reads : ℕ → Text → Option ℕ → Type 0
Reads bits = ReadsOne (λ bs x. ParsesUnsigned bits 10 bs x × ExplainsUnsignedError 10 bs x × HasUnsignedDigitsIfOk bs x)

-- it is the number that the text writes
number_read : (bits : ℕ) (text : Text) (r : Option ℕ) (m : ℕ) → Reads bits text r → Writes bits text m → r ≡ Some m
number_read bits text (Some n) m read (numeral, fits, is) = ap (λ n. Some n) (read.0.1 ∙ sym is)
number_read bits text None m read (numeral, fits, is) = absurd (read.1.0 (numeral, fits))

-- what is read of an option is its number, where it may not be given and where it has a default
pub given_number : (bits : ℕ) (m : ArgMatches) (name : Text) (r : Option ℕ) → (one_text (found_of m) name ≡ None → r ≡ None)
    → ((t : Text) → one_text (found_of m) name ≡ Some t → Reads bits t r) → IsGivenNumber bits (rows_of (found_of m)) name r
given_number bits m name r none value =
    let same = one_text-rows (found_of m) name in
    (λ is. none (same ∙ is), λ t n is writes. number_read bits t r n (value t (same ∙ is)) writes)

pub number : (bits : ℕ) (m : ArgMatches) (name : Text) (r : Option ℕ) → ((t : Text) → one_text (found_of m) name ≡ Some t → Reads bits t r)
    → IsNumberOf bits (rows_of (found_of m)) name (unwrap_or r 0)
number bits m name r value t n is writes =
    ap (λ r. unwrap_or r 0) (number_read bits t r n (value t (one_text-rows (found_of m) name ∙ is)) writes)

-- the text of an argument that has one
shown_text : (found : Option (Bor Text)) (otherwise : Bor Text) (t : Text) → option_map (λ s. s.now) found ≡ Some t → (unwrap_or found otherwise).now ≡ t
shown_text (Some s) otherwise t h = cc
shown_text None otherwise t h = absurd (cc h)

pub text : (m : ArgMatches) (name : Text) (found : Option (Bor Text)) (otherwise : Bor Text) → option_map (λ s. s.now) found ≡ first_value (found_of m) name
    → IsTextOfWords (rows_of (found_of m)) name (unwrap_or found otherwise).now
text m name found otherwise same t is = shown_text found otherwise t (same ∙ (first_value-rows (found_of m) name ∙ is))

pub line_is_simple : is_simple command_line ≡ true
unfolding clap_on_literals
line_is_simple = refl

pub line_is_free : is_simple_and_free command_line ≡ true
unfolding clap_on_literals
line_is_free = refl

by_kind : (kinds : Kinds) (e : Error) (k : ErrorKind) → kind_of e ≡ k → (k ≡ OutOfMemory) ⊎ IsAmong k kinds → IsFaultAmong kinds (fault_by k e)
by_kind kinds e OutOfMemory is h = tt
by_kind kinds e k is (inl h) = absurd cc
by_kind kinds e k is (inr h) = subst (λ x. IsAmong x kinds) (sym is) h

pub fault_among : (kinds : Kinds) (e : Error) → HasKind kinds e → IsFaultAmong kinds (fault_by (kind_of e) e)
fault_among kinds e h = by_kind kinds e (kind_of e) refl h

-- the name and the rows of what was entered, together
pub entered_by : {B : Type 0} (name : B → Text) (rows : B → List Row) (o : Option B) (n : Text) (r : List Row) → Some n ≡ option_map name o
    → Some r ≡ option_map (λ (p : Text × List Row). p.1) (option_map {U = Text × List Row} (λ b. (name b, rows b)) o) →
    option_map {U = Text × List Row} (λ b. (name b, rows b)) o ≡ Some (n, r)
entered_by name rows None n r e f = absurd cc
entered_by name rows (Some b) n r e f =
    let p : n ≡ name b = cc in
    let q : r ≡ rows b = cc in
    λ i. Some (sym p i, sym q i)

-- of no fault at another name of the same line
pub fits_line : (a : App) (words : List Text) → a ≡ command_line → fault_of a words ≡ [] → fault_of command_line words ≡ []
fits_line a words line none = subst (λ x. fault_of x words ≡ []) line none

pub entered_line : (a : App) (words : List Text) (m : ArgMatches) (p : Text × List Row) → a ≡ command_line → HasMatchesOf a words m → subcommand_rows_of m
    ≡ Some p
    → subcommand_of command_line words ≡ Some p
entered_line a words m p line has rows =
    subst (λ x. subcommand_of x words ≡ Some p) line (sym (has (ap is_simple line ∙ line_is_simple)).1 ∙ rows)
