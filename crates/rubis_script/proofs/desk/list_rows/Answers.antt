use Rattle.rubis_script.proofs.Common.{refl, ends_memory}
use Rattle.rubis_script.specs.Windows.{listed_behind}
use Rattle.rubis_script.proofs.WindowFacts.{front_none}
use Rattle.rubis_script.proofs.desk.list_rows.Goals as goal

pub returns-then-is_err-clause-listed : goal.returns-then-is_err-clause-listed
returns-then-is_err-clause-listed g c =
    front_none (listed_behind c.args.reply.now.sink c.args.site.now c.args.reply.now.number c.args.listing.now) _ _ refl

pub returns-in_err-rows-clause-listed : goal.returns-in_err-rows-clause-listed
returns-in_err-rows-clause-listed g c =
    ends_memory _ _ _ c.from_residual.result c.from_residual.ensures
    (front_none (listed_behind c.args.reply.now.sink c.args.site.now c.args.reply.now.number c.args.listing.now) _ _ refl)

pub returns-in_err-write_number-clause-listed : goal.returns-in_err-write_number-clause-listed
returns-in_err-write_number-clause-listed g c =
    ends_memory _ _ _ c.from_residual-in_err-write_number.result c.from_residual-in_err-write_number.ensures
    (front_none (listed_behind c.args.reply.now.sink c.args.site.now c.args.reply.now.number c.args.listing.now) _ _ refl)
