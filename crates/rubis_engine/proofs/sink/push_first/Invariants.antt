use Rattle.std.proofs.Common.{◌≡◌, ◌++◌, map, take}
use Rattle.rubis_engine.specs.Rows.{prefix_text}
use Rattle.rubis_engine.proofs.sink.push_first.Given as goal

abbrev pub invariant-loop-field : goal.invariant-loop-field
invariant-loop-field l = l.text.items ≡ l.fn.text.items ++ prefix_text (map (λ f. f.now) (take l.field-index l.first))
