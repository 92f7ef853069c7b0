-- Worked examples of the command line, computed on the definitions.
use Rattle.std.proofs.Common.{◌≡◌, List, [], ◌∷◌, refl}
use Rattle.std.specs.Prelude.{Option, Some, codes, map}
use Rattle.std.specs.Option.{option_map}
use Rattle.clap.specs.Words.{Kinds, Text, fault_of, one_of, subcommand_of}
use Rattle.clap.specs.declared.error.kind.ErrorKind.TheVariants.{DisplayHelp, DisplayVersion, InvalidSubcommand, MissingSubcommand, UnknownArgument}
use Rattle.clap.specs.declared.error.kind.ErrorKind.TheVariants.{ValueValidation}
use Rattle.clap.proofs.OnLiterals.{clap_on_literals}
use Rattle.rubis_command.specs.CommandLine.{command_line}

-- the text that an option of a command has
abbrev text_of : Text → List Text → Option (Option Text)
text_of name words = option_map (λ p. one_of name p.1) (subcommand_of command_line (codes "rubis" ∷ words))

-- why words are refused
abbrev faults : List Text → Kinds
faults words = fault_of command_line (codes "rubis" ∷ words)

pub an_option_has_its_number : text_of (codes "sites") (codes "site" ∷ codes "--site" ∷ codes "1" ∷ codes "--sites=2" ∷ []) ≡ Some (Some (codes "2"))
unfolding clap_on_literals
an_option_has_its_number = refl

pub an_option_has_its_default : text_of (codes "batch") (codes "site" ∷ codes "--sites=2" ∷ []) ≡ Some (Some (codes "64"))
unfolding clap_on_literals
an_option_has_its_default = refl

pub an_audit_has_its_sites : text_of (codes "sites") (codes "audit" ∷ codes "--sites" ∷ codes "3" ∷ []) ≡ Some (Some (codes "3"))
unfolding clap_on_literals
an_audit_has_its_sites = refl

-- a plain site is no fault; no command, an unknown command (one of two), an unknown option, too many shards, help, the version, and the
-- shards of an audit are
pub faults_are : map faults ((codes "site" ∷ []) ∷ [] ∷ (codes "sell" ∷ []) ∷ (codes "site" ∷ codes "--shard" ∷ codes "2" ∷ [])
    ∷ (codes "site" ∷ codes "--shards" ∷ codes "65" ∷ []) ∷ (codes "--help" ∷ []) ∷ (codes "--version" ∷ [])
    ∷ (codes "audit" ∷ codes "--shards" ∷ codes "2" ∷ []) ∷ [])
    ≡ [] ∷ (MissingSubcommand ∷ []) ∷ (UnknownArgument ∷ InvalidSubcommand ∷ []) ∷ (UnknownArgument ∷ []) ∷ (ValueValidation ∷ [])
    ∷ (DisplayHelp ∷ []) ∷ (DisplayVersion ∷ []) ∷ (UnknownArgument ∷ []) ∷ []
unfolding clap_on_literals
faults_are = refl
