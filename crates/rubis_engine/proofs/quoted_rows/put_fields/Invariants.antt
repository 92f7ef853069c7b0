use Rattle.std.proofs.Common.{◌++◌, ℕ, List, take}
use Rattle.rubis_engine.specs.Rows.{HasBegunRow}
use Rattle.rubis_engine.proofs.quoted_rows.put_fields.Given as goal

abbrev pub invariant-loop-place : goal.invariant-loop-place
invariant-loop-place l = (start : List ℕ) (done : List (List ℕ)) → HasBegunRow start l.fn.rows done → HasBegunRow start l.rows (done ++ take l.place l.fields)
