use Rattle.std.proofs.Common.{List, ℕ, ◌++◌}
use Rattle.rubis_reading.specs.Readings.{HaveWindow, all_came, flat}
use Rattle.rubis_engine.specs.Reading.{Gives, bytes_left}
use Rattle.rubis_reading.proofs.PieceFacts.{HasInputs}
use Rattle.rubis_reading.proofs.stretches.read_all.Given as goal

abbrev pub invariant-steps : goal.invariant-steps
invariant-steps g l = record {
  parsed : (rows : List (List (List ℕ))) → Gives g.R.Read.remaining l.fn.records rows →
      HasInputs g.R.Read.remaining l.records l.sites rows (flat l.list.items ++ all_came l.messages.items);
  window : HaveWindow l.window l.list.items l.messages.items;
}

abbrev pub decreases-steps : goal.decreases-steps
decreases-steps g l = bytes_left g.R.Read.remaining l.records
