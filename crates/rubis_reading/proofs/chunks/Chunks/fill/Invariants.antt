use Rattle.std.proofs.Common.{◌++◌, ◌≤◌, ◌-◌, ◌^◌, ℕ, List, length}
use Rattle.csv.specs.Reading.{strip_bom}
use Rattle.rubis_engine.specs.Seam.{OfEach}
use Rattle.rubis_reading.specs.Chunked.{ComesOn, held_text}
use Rattle.rubis_reading.specs.Streams.{EndsNoRecord, HasLooked}
use Rattle.rubis_reading.proofs.chunks.Chunks.fill.Given as goal

abbrev pub invariant-asks : goal.invariant-asks
invariant-asks g l = record {
  on : OfEach g.R.Read.remaining l.fn.self.reader l.self.reader (λ left. ComesOn 0 left l.fn.self l.self);
  none : EndsNoRecord (held_text l.fn.self) → EndsNoRecord (held_text l.self);
  grown : length (held_text l.fn.self) ≤ length (held_text l.self);
  looked : (more : List ℕ) → HasLooked (strip_bom (held_text l.self ++ more)) l.looked;
}

abbrev pub decreases-asks : goal.decreases-asks
decreases-asks g l = 2 ^ 64 - length (held_text l.self)
