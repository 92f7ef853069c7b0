use Rattle.std.proofs.Common.{◌≤◌, [], length, take}
use Rattle.rubis_keep.specs.History.{Tells}
use Rattle.rubis_keep.proofs.answers.tell_all.Given as goal

abbrev pub invariant-loop-turn : goal.invariant-loop-turn
invariant-loop-turn g l = record {
  within : l.at ≤ length l.text;
  told : Tells l.is_live (g.F.SiteFiles.history l.fn.files) (g.F.SiteFiles.history l.files) (take l.at l.text) [];
}
