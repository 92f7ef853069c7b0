use Rattle.rubis_workers.proofs.Common.{◌≡◌, ◌<◌, length, take, cores, HoldsLog}
use Rattle.rubis_workers.specs.Logs.{StaysWithin}
use Rattle.rubis_workers.proofs.folding.apply_upto.Given as goal

abbrev pub invariant-loop-place : goal.invariant-loop-place
invariant-loop-place l = record {
  here : l.at ≡ l.place;
  some : 0 < length l.tables;
  holds : HoldsLog (length l.initial.tables) (cores (take l.initial.at l.log)) l.initial.tables → HoldsLog (length l.tables) (cores (take l.at l.log)) l.tables;
  limits : StaysWithin l.log l.initial.at l.at;
  many : length l.tables ≡ length l.initial.tables;
  same : l.at ≡ l.initial.at → l.tables ≡ l.initial.tables;
}
