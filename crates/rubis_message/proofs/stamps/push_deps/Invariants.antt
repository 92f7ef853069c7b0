use Rattle.std.proofs.Common.{◌≡◌, ◌≤◌, ◌+◌, ◌*◌, length, drop, true}
use Rattle.rubis_schema.specs.FieldList.{is_plain}
use Rattle.rubis_message.specs.Grammar.{deps_text}
use Rattle.rubis_message.proofs.stamps.push_deps.Given as goal

abbrev pub invariant-loop-site : goal.invariant-loop-site
invariant-loop-site l = (l.text ≡ deps_text (drop l.site l.deps)) × (length l.text + 11 * l.site ≤ 11 * length l.deps) × (is_plain l.text ≡ true)
