use Rattle.std.proofs.Common.{◌≡◌, ◌++◌}
use Rattle.std.specs.Vec.Iter.{into_iter_items}
use Rattle.rubis_schema.proofs.row_sinks.ItemsFieldsSharedSink.append.Given as goal

abbrev pub invariant-loop-row : goal.invariant-loop-row
invariant-loop-row l = l.self ++ into_iter_items l.row-iterator ≡ l.fn.self ++ into_iter_items l.initial.row-iterator
