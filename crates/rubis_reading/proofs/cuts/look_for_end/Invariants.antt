use Rattle.rubis_reading.proofs.Common.{◌-◌, length, strip_bom}
use Rattle.rubis_reading.specs.Streams.{HasLooked}
use Rattle.rubis_reading.proofs.cuts.look_for_end.Given as goal

abbrev pub invariant-looks : goal.invariant-looks
invariant-looks l = record { looked : HasLooked (strip_bom l.text) l.looked }

abbrev pub decreases-looks : goal.decreases-looks
decreases-looks l = length l.rest - l.looked.place
