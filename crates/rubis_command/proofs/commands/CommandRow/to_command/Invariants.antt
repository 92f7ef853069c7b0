use Rattle.std.proofs.Common.{◌≡◌, drop, false}
use Rattle.std.specs.Prelude.{fold, map}
use Rattle.clap.specs.Words.{app_of, with_rule}
use Rattle.clap.specs.declared.builder.command.Command.TheViews.{out-Command}
use Rattle.rubis_command.specs.CommandLine.{app_in, rule_in}
use Rattle.rubis_command.proofs.commands.CommandRow.to_command.Given as goal

pub record invariant-loop-argument (l : goal.Live-loop-argument) : Type 0 where
  pub rules : fold with_rule (app_of l.made) (map rule_in (drop l.argument-index l.self.arguments.now)) ≡ app_in l.self
  pub local : (out-Command l.made).has_globals ≡ false
