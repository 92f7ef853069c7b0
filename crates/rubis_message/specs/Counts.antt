-- The counts of a stamp, in one field.
use Rattle.std.specs.Prelude.{ℕ, zero, suc, List, [], ◌∷◌, Option, None, option_map}
use Rattle.rubis_schema.specs.NumberForms.{◌>>=◌, number_of}
use Rattle.rubis_schema.specs.FieldForms.{cut_at}
use Rattle.rubis_schema.specs.declared.limits.TheConstants.{COUNT_MAX}

-- the counts of n sites, separated by `:`
unfoldable pub deps_of : ℕ → List ℕ → Option (List ℕ)
deps_of zero field = None
deps_of (suc zero) field = option_map (λ n. n ∷ []) (number_of COUNT_MAX field)
deps_of (suc (suc more)) field = do
  parts ← cut_at 58 field
  count ← number_of COUNT_MAX parts.0
  option_map (λ others. count ∷ others) (deps_of (suc more) parts.1)
