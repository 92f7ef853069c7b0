use Rattle.rubis_audit.proofs.Common.{◌≡◌, ◌∙◌, ◌+◌, ◌∷◌, [], ℕ, zero, suc, List, Some, cond, drop, rules, sym, true, false, slice_get}
use Rattle.rubis_audit.specs.Checking.{has_line_end, line_end_from}
use Rattle.rubis_audit.proofs.record_faults.first_line_end.Goals as goal
use native.Mathlib.Numerals.{unary_clauses}

-- the first of the fields is looked at, and then those after it
line_end_at : (n k : ℕ) (fields : List (List ℕ)) (field : List ℕ) → Some field ≡ slice_get fields k
    → line_end_from n (drop k fields) ≡ cond (has_line_end field) (Some n) (line_end_from (n + 1) (drop (k + 1) fields))
line_end_at n k [] field e = absurd (cc e)
line_end_at n zero (f ∷ fields) field e = let same : f ≡ field = cc e in λ i. cond (has_line_end (same i)) (Some n) (line_end_from (n + 1) fields)
line_end_at n (suc k) (f ∷ fields) field e = let rest = line_end_at n k fields field e in simp unary_clauses (simp unary_clauses at rest)

pub returns-then-has_line_end : goal.returns-then-has_line_end
returns-then-has_line_end g c =
    let place = c.loop-place.place in
    let ends : has_line_end c.in_ok-field.field-0.now ≡ true = search rules in
    let step = line_end_at (place + 1) place (g.F.Record.fields c.args.fields.now) c.in_ok-field.field-0.now c.in_ok-field.ensures in
    sym (rw ends at step) ∙ c.loop-place.invariant

pub loop-place-preserved : goal.loop-place-preserved
loop-place-preserved g c =
    let place = c.loop-place.place in
    let goes_on : has_line_end c.in_ok-field.field-0.now ≡ false = search rules in
    let step = line_end_at (place + 1) place (g.F.Record.fields c.args.fields.now) c.in_ok-field.field-0.now c.in_ok-field.ensures in
    sym (rw goes_on at step) ∙ c.loop-place.invariant
