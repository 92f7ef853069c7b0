use Rattle.rubis_workers.proofs.Common.{◌≡◌, ℕ, length, cores, HoldsTo}
use Rattle.rubis_pieces.specs.Following.{AreFurther, StopWithin}
use Rattle.rubis_workers.proofs.folding.follow_rest.Given as goal

abbrev pub invariant-loop-number : goal.invariant-loop-number
invariant-loop-number g l = record {
  many : length l.tables ≡ length l.fn.tables;
  counts : length l.stops ≡ length l.fn.stops;
  further : AreFurther l.fn.stops l.stops;
  within : StopWithin 0 l.upto l.stops;
  holds : (shards : ℕ) → HoldsTo shards (cores l.log) l.fn.stops l.fn.tables → HoldsTo shards (cores l.log) l.stops l.tables;
}
