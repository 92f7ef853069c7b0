-- The command line: `site`, with six options that take a number, `world`, with five, `audit`, with one, and `lack`, with three (and each of
-- the two with one that takes none), `check`, with one and the name of a command, `widen`, with two, and `keep`, with a folder, six options
-- that take a number, and three that take none.
use Rattle.std.specs.Prelude.{◌≡◌, ◌≢◌, ℕ, ◌-◌, ◌<◌, ◌^◌, ◌++◌, Bool, List, [], ◌∷◌, Option, None, Some, ⊤, false, true, if◌then◌else◌, bytes_eq, codes, fold, map, string_bytes}
use Rattle.std.specs.Str.Parse.{IsNumeral, digits_value, without_leading_plus}
use Rattle.clap.specs.Words.{App, IsAmong, Kinds, Row, Rule, Text, first_of, kind_of, new_app, new_rule, one_of, subcommand_of, with_rule, with_subcommand}
use Rattle.clap.specs.declared.builder.action.ArgAction.TheVariants.{SetTrue}
use Rattle.clap.specs.declared.builder.value_parser.ValueParser.TheVariants.{Unsigned}
use Rattle.clap.specs.declared.error.Error.{Error}
use Rattle.clap.specs.declared.error.kind.ErrorKind.{ErrorKind}
use Rattle.clap.specs.declared.error.kind.ErrorKind.TheVariants.{OutOfMemory}
use Rattle.rubis_schema.specs.declared.limits.TheConstants.{BATCH_MAX, KEEP_MAX, SHARDS_MAX, SITES_MAX, WORKERS_MAX}
use Rattle.rubis_command.specs.declared.options.Invocation.{Invocation}
use Rattle.rubis_command.specs.declared.options.Invocation.TheVariants.{Audit, Check, Keep, Lack, Site, Widen, World}
use Rattle.rubis_command.specs.declared.options.OptionFault.{OptionFault}
use Rattle.rubis_command.specs.declared.options.OptionFault.TheVariants.{Memory, Words}
use Rattle.rubis_command.specs.declared.options.ReadAs.{ReadAs}
use Rattle.rubis_command.specs.declared.options.ReadAs.TheVariants as reading
use Rattle.rubis_command.specs.declared.options.SetupOptions.{SetupOptions}
use Rattle.rubis_command.specs.declared.commands.Argument.{Argument}
use Rattle.rubis_command.specs.declared.commands.ArgumentKind.{ArgumentKind}
use Rattle.rubis_command.specs.declared.commands.ArgumentKind.TheVariants.{DefaultText, Flag, Number, OptionalNumber, RequiredText}
use Rattle.rubis_command.specs.declared.commands.CommandRow.{CommandRow}

-- an option that takes a number from `low` to `high`, and that has no value where it isn't given
abbrev pub given_option : Text → ℕ → ℕ → Rule
given_option name low high = record (new_rule name) { long = Some name; value_names = 1; parser = Some (Unsigned low high) }

-- an option that takes a number from `low` to `high`, and that has the value `default` where it isn't given
abbrev pub number_option : Text → ℕ → ℕ → Text → Rule
number_option name low high default = record (given_option name low high) { defaults = default ∷ [] }

-- an option without a value
abbrev pub flag_option : Text → Rule
flag_option name = record (new_rule name) { long = Some name; action = Some SetTrue }

-- a word that has to be given
abbrev pub required_text : Text → Rule
required_text name = record (new_rule name) { value_names = 1; required = true }

-- a word that is `default` where it isn't given
abbrev pub default_text : Text → Text → Rule
default_text name default = record (new_rule name) { value_names = 1; defaults = default ∷ [] }

-- `--sites`, from 1 to 16: 1 unless given
abbrev pub sites_option : Rule
sites_option = number_option (codes "sites") 1 SITES_MAX (codes "1")

-- the options that say how the work of a site is done
abbrev pub work_options : List Rule
work_options =
    number_option (codes "shards") 1 SHARDS_MAX (codes "4") ∷ number_option (codes "workers") 1 WORKERS_MAX (codes "2")
    ∷ number_option (codes "batch") 1 BATCH_MAX (codes "64") ∷ []

-- the options that say how sites are set up
abbrev pub setup_options : List Rule
setup_options = sites_option ∷ work_options ++ number_option (codes "keep") 1 KEEP_MAX (codes "1000000") ∷ []

-- a command of this name, which takes these arguments
abbrev pub command_of : Text → List Rule → App
command_of name arguments = fold with_rule (new_app name) arguments

-- the seven commands
abbrev pub commands : List App
commands = command_of (codes "site") (number_option (codes "site") 0 (SITES_MAX - 1) (codes "0") ∷ setup_options)
    ∷ command_of (codes "world") setup_options
    ∷ command_of (codes "audit") (sites_option ∷ flag_option (codes "status") ∷ [])
    ∷ command_of (codes "lack") (sites_option ∷ flag_option (codes "waiting") ∷ given_option (codes "site") 0 (SITES_MAX - 1)
    ∷ given_option (codes "keep") 1 KEEP_MAX ∷ [])
    ∷ command_of (codes "check") (default_text (codes "reading") (codes "site") ∷ sites_option ∷ [])
    ∷ command_of (codes "widen") (sites_option ∷ number_option (codes "to") 1 SITES_MAX (codes "16") ∷ [])
    ∷ command_of (codes "keep") (required_text (codes "folder") ∷ given_option (codes "site") 0 (SITES_MAX - 1)
    ∷ given_option (codes "sites") 1 SITES_MAX ∷ given_option (codes "keep") 1 KEEP_MAX
    ∷ work_options ++ flag_option (codes "sync") ∷ flag_option (codes "shorten") ∷ flag_option (codes "upgrade") ∷ []) ∷ []

-- a program with these commands too
abbrev pub with_commands : App → List App → App
with_commands program commands = fold (λ a c. with_subcommand a c.top) program commands

-- the program, which has a version and wants a command
abbrev pub program_alone : App
program_alone = record (new_app (codes "rubis")) { top = record (new_app (codes "rubis")).top { has_version = true; subcommand_required = true } }

-- the program with its seven commands
abbrev pub command_line : App
command_line = with_commands program_alone commands

-- an argument of this name and kind
abbrev pub rule_by : Text → ArgumentKind → Rule
rule_by name (Number low high default) = number_option name low high default.now
rule_by name (OptionalNumber low high) = given_option name low high
rule_by name Flag = flag_option name
rule_by name (RequiredText shown) = required_text name
rule_by name (DefaultText shown default) = default_text name default.now

-- what a row of the code's table says of an argument, and of a command
abbrev pub rule_in : Argument → Rule
rule_in argument = rule_by argument.name.now argument.kind

abbrev pub app_in : CommandRow → App
app_in row = command_of row.name.now (map rule_in row.arguments.now)

-- a text writes n in decimal digits, optionally after a plus sign, and n has at most `bits` bits
abbrev pub Writes : ℕ → Text → ℕ → Type 0
Writes bits text n = IsNumeral 10 (without_leading_plus text) × (digits_value 10 (without_leading_plus text) < 2 ^ bits) × (n ≡ digits_value 10 (without_leading_plus text))

-- n is the number that the text of this name writes, if it writes one
abbrev pub IsNumberOf : ℕ → List Row → Text → ℕ → Type 0
IsNumberOf bits rows name n = (text : Text) (m : ℕ) → one_of name rows ≡ Some text → Writes bits text m → n ≡ m

-- the same of an option that may not be given
abbrev pub IsGivenNumber : ℕ → List Row → Text → Option ℕ → Type 0
IsGivenNumber bits rows name n = (one_of name rows ≡ None → n ≡ None) × ((text : Text) (m : ℕ) → one_of name rows ≡ Some text → Writes bits text m → n ≡ Some m)

-- an option without a value is given
abbrev pub IsFlag : List Row → Text → Bool → Type 0
IsFlag rows name given = let text = one_of name rows in (text ≡ None → given ≡ false) × (text ≡ Some (codes "true") → given ≡ true) × (text ≡ Some (codes "false") → given ≡ false)

-- the text is what the words give
abbrev pub IsTextOfWords : List Row → Text → Text → Type 0
IsTextOfWords rows name text = (t : Text) → first_of name rows ≡ Some t → text ≡ t

-- what `check` reads records as, by the name of a command
abbrev pub reading_named : Text → Option ReadAs
reading_named name =
    if bytes_eq name (codes "site") then Some reading.Site else if bytes_eq name (codes "world") then Some reading.World
    else if bytes_eq name (codes "audit") then Some reading.Audit else None

-- the numbers are what stands in these rows
abbrev pub IsSetupIn : List Row → SetupOptions → Type 0
IsSetupIn rows s = IsNumberOf 8 rows (codes "sites") s.sites × IsNumberOf 8 rows (codes "shards") s.shards
    × IsNumberOf 8 rows (codes "workers") s.workers × IsNumberOf 32 rows (codes "batch") s.batch × IsNumberOf 32 rows (codes "keep") s.keep

-- what a command of this name asks for, with what stands after it: what the words give, or the defaults; of what need not be given, None.
-- It is a site where the name is none of the other six
abbrev pub IsNamed : Text → List Row → Invocation → Type 0
IsNamed name rows (Audit o) = (name ≡ codes "audit") × IsNumberOf 8 rows (codes "sites") o.sites × IsFlag rows (codes "status") o.status
IsNamed name rows (Lack o) = (name ≡ codes "lack") × IsNumberOf 8 rows (codes "sites") o.sites × IsFlag rows (codes "waiting") o.waiting
    × IsGivenNumber 8 rows (codes "site") o.site × IsGivenNumber 32 rows (codes "keep") o.keep
IsNamed name rows (Check o) = (name ≡ codes "check") × IsNumberOf 8 rows (codes "sites") o.sites
    × ((text : Text) → first_of (codes "reading") rows ≡ Some text → o.reading ≡ reading_named text)
IsNamed name rows (World setup) = (name ≡ codes "world") × IsSetupIn rows setup
IsNamed name rows (Widen o) = (name ≡ codes "widen") × IsNumberOf 8 rows (codes "sites") o.sites × IsNumberOf 8 rows (codes "to") o.to
IsNamed name rows (Keep o) = (name ≡ codes "keep") × IsTextOfWords rows (codes "folder") (string_bytes o.folder)
    × IsGivenNumber 8 rows (codes "site") o.site × IsGivenNumber 8 rows (codes "sites") o.sites × IsGivenNumber 32 rows (codes "keep") o.keep
    × IsNumberOf 8 rows (codes "shards") o.shards × IsNumberOf 8 rows (codes "workers") o.workers × IsNumberOf 32 rows (codes "batch") o.batch
    × IsFlag rows (codes "sync") o.sync × IsFlag rows (codes "shorten") o.shorten × IsFlag rows (codes "upgrade") o.upgrade
IsNamed name rows (Site o) = (name ≢ codes "audit") × (name ≢ codes "world") × (name ≢ codes "widen") × (name ≢ codes "keep")
    × (name ≢ codes "lack") × (name ≢ codes "check") × IsNumberOf 8 rows (codes "site") o.site × IsSetupIn rows o.setup

-- what the words of a command line ask for: what their command asks for, with the options that stand after it
abbrev pub IsAsked : List Text → Invocation → Type 0
IsAsked words asked = (name : Text) × (rows : List Row) × (subcommand_of command_line words ≡ Some (name, rows)) × IsNamed name rows asked

-- what an error of `clap` is called here
abbrev pub fault_by : ErrorKind → Error → OptionFault
fault_by OutOfMemory error = Memory
fault_by k error = Words error

-- why a command line is refused: memory ran out, or one of these
abbrev pub IsFaultAmong : Kinds → OptionFault → Type 0
IsFaultAmong kinds Memory = ⊤
IsFaultAmong kinds (Words error) = IsAmong (kind_of error) kinds
