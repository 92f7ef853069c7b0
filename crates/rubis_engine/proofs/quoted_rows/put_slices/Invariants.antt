use Rattle.std.proofs.Common.{◌++◌, ℕ, List, map, take}
use Rattle.rubis_engine.specs.Rows.{HasBegunRow}
use Rattle.rubis_engine.proofs.quoted_rows.put_slices.Given as goal

abbrev pub invariant-loop-field : goal.invariant-loop-field
invariant-loop-field l = (start : List ℕ) (done : List (List ℕ)) → HasBegunRow start l.fn.rows done
    → HasBegunRow start l.rows (done ++ map (λ f. f.now) (take l.field-index l.fields))
