use Rattle.rubis_script.proofs.Common.{◌++◌, rows_text}
use Rattle.rubis_script.specs.Windows.{WritesOff}
use Rattle.rubis_script.proofs.rows_out.write_rows.Given as goal

abbrev pub invariant-loop : goal.invariant-loop
invariant-loop g l = record {
  next : (goal.iterator-loop g).can_next l.iterator';
  ends : (goal.iterator-loop g).is_finite l.iterator';
  written : WritesOff (l.fn.sink ++ rows_text l.fn.rows) (l.sink ++ rows_text l.rows) (g.W.Write.contents l.fn.writer) (g.W.Write.contents l.writer);
}
