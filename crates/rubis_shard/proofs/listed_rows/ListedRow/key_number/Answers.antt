use Rattle.rubis_shard.proofs.Common.{ap, subst, arith, RowKey, Row}
use Rattle.rubis_shard.specs.Listed.{key_number, IsListed}
use Rattle.rubis_shard.proofs.Picked.{is_listed, numbered}
use Rattle.rubis_shard.proofs.listed_rows.ListedRow.key_number.Goals as goal

pub returns-clause-number : goal.returns-clause-number
returns-clause-number c =
    let s = c.self.inside in
    let is = numbered s.table s.site s.number c.self.invariant in
    omega (arith, c.place-table.ensures, c.from.ensures, c.from-2.ensures, is, ap (λ (e : RowKey × Row). key_number e.0) c.self.view_is)

pub returns-clause-listed : goal.returns-clause-listed
returns-clause-listed c =
    let s = c.self.inside in
    subst (λ (e : RowKey × Row). IsListed e.0) c.self.view_is
    (is_listed s.table s.site s.number (omega (arith, c.from.ensures)) (omega (arith, c.from-2.ensures)))
