use Rattle.std.proofs.Common.{◌≤◌, length, map, take}
use Rattle.rubis_keep.specs.History.{Grows}
use Rattle.rubis_keep.specs.History.FolderEvent.{Kept}
use Rattle.rubis_keep.proofs.keeping.keep_lines.Given as goal

abbrev pub invariant-loop-turn : goal.invariant-loop-turn
invariant-loop-turn g l = record {
  next : (goal.iterator-loop-turn g).can_next l._turn-iterator;
  ends : (goal.iterator-loop-turn g).is_finite l._turn-iterator;
  within : l.at ≤ length l.chunk;
  kept : Grows (g.F.SiteFiles.history l.fn.files) (g.F.SiteFiles.history l.files) (map (λ b. Kept b) (take l.at l.chunk));
}
