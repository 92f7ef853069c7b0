use Rattle.std.proofs.Common.{◌≡◌, ◌≤◌, ◌<◌, ◌+◌, ◌*◌, ◌∷◌, length, drop}
use Rattle.rubis_message.specs.Grammar.{deps_text}
use Rattle.rubis_message.proofs.row_writers.put_deps.Given as goal

abbrev pub invariant-loop-site : goal.invariant-loop-site
invariant-loop-site l =
    (l.row.fields ≡ deps_text (drop l.site l.deps) ∷ l.fn.row.fields) × (l.fn.row.left + 11 * l.site ≤ l.row.left + 10 + 11 * length l.deps)
    × (l.site < length l.deps)
