use Rattle.std.proofs.Common.{◌≡◌, ◌≤◌, ◌+◌, ◌*◌, length, drop, true}
use Rattle.rubis_schema.specs.FieldList.{is_plain}
use Rattle.rubis_message.specs.Grammar.{deps_text}
use Rattle.rubis_keep.proofs.counts.push_counts.Given as goal

abbrev pub invariant-loop-site : goal.invariant-loop-site
invariant-loop-site l = (l.text ≡ deps_text (drop l.site l.counts)) × (length l.text + 11 * l.site ≤ 11 * length l.counts) × (is_plain l.text ≡ true)
