use Rattle.rubis_workers.proofs.Common.{sym, subst, arith, All}
use Rattle.std.proofs.lemmas.List.Elements.{All-push}
use Rattle.rubis_workers.specs.Work.{IsRoom}
use Rattle.rubis_workers.proofs.rooms.Rooms.new.Goals as goal

pub loop-preserved : goal.loop-preserved
loop-preserved c =
    let rooms = c.loop.invariant.1 in
    let room = c.in_ok-with_capacity.ensures.capacity in (
      (let many = c.loop.invariant.0 in let more = c.in_ok-push.ensures.len in omega arith),
      subst (All (IsRoom c.args.pieces)) (sym c.in_ok-push.ensures.items)
          (All-push (IsRoom c.args.pieces) c.loop.others.items c.in_ok-with_capacity.field-0 rooms
          (c.in_ok-with_capacity.ensures.items, omega arith)),
    )
