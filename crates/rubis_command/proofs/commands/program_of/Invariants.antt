use Rattle.std.proofs.Common.{◌≡◌, drop}
use Rattle.std.specs.Prelude.{map}
use Rattle.clap.specs.Words.{app_of}
use Rattle.rubis_command.specs.CommandLine.{app_in, program_alone, with_commands}
use Rattle.rubis_command.proofs.commands.program_of.Given as goal

abbrev pub invariant-loop-row : goal.invariant-loop-row
invariant-loop-row l = with_commands (app_of l.program) (map app_in (drop l.row-index l.rows)) ≡ with_commands program_alone (map app_in l.rows)
