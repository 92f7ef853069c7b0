use Rattle.std.proofs.Common.{refl}
use Rattle.rubis_script.proofs.DeskFacts.{held-first}
use Rattle.rubis_script.proofs.desk.Desk.make_room.Goals as goal

pub returns-clause-kept : goal.returns-clause-kept
returns-clause-kept g c = held-first c.args.self.now c.flush.new.self _ _ _ c.in_ok-flush.ensures.flushed c.in_ok-flush.ensures.empty c.in_ok-flush.ensures.empty refl refl
