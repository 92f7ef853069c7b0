use Rattle.rubis_listing.proofs.Common.{arith, number_of_table, union}
use Rattle.rubis_listing.proofs.ByTable.{left_length}
use Rattle.rubis_listing.proofs.later.Later.count.Goals as goal

pub count_recorded-requires : goal.count_recorded-requires
count_recorded-requires c =
    let same = left_length (number_of_table c.args.self.now.first) (union c.args.self.now.tables.now) in
    omega (arith, same, c.requires)

pub returns : goal.returns
returns c =
    let same = left_length (number_of_table c.args.self.now.first) (union c.args.self.now.tables.now) in
    omega (arith, same, c.count_recorded.ensures)
