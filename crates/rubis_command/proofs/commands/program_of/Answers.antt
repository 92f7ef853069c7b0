use Rattle.std.proofs.Common.{◌∙◌, ◌+◌, ap, drop, sym}
use Rattle.std.specs.Prelude.{map}
use Rattle.std.proofs.lemmas.List.{at_drop_more}
use Rattle.clap.specs.Words.{App, app_of, with_subcommand}
use Rattle.rubis_command.specs.CommandLine.{app_in, with_commands}
use Rattle.rubis_command.proofs.commands.program_of.Goals as goal

pub loop-row-preserved : goal.loop-row-preserved
loop-row-preserved c =
    let added = c.in_ok-program.ensures.shape c.in_ok-to_command.ensures.local
    ∙ ap (λ (a : App). with_subcommand (app_of c.loop-row.program) a.top) c.in_ok-to_command.ensures.app in
    let more = at_drop_more (λ rows. with_commands (app_of c.loop-row.program) (map app_in rows)) c.args.rows.now c.loop-row.row-index _ c.loop-row-test.true in
    ap (λ a. with_commands a (map app_in (drop (c.loop-row.row-index + 1) c.args.rows.now))) added ∙ (sym more ∙ c.loop-row.invariant)
