use Rattle.std.proofs.Common.{◌≡◌, ◌-◌}
use Rattle.std.specs.FinMap as map
use Rattle.rubis_schema.specs.declared.limits.TheConstants.{CATEGORIES}
use Rattle.rubis_shadow.specs.Tables.{categories_from}
use Rattle.rubis_shadow.proofs.Rows.{tables_of}
use Rattle.rubis_shadow.proofs.plain.PlainTables.new.Given as goal

abbrev pub invariant-loop-cat : goal.invariant-loop-cat
invariant-loop-cat l = tables_of l.rows.entries ≡ map.from_entries (categories_from l.cat (CATEGORIES - l.cat))
