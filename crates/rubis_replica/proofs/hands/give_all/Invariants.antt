use Rattle.rubis_replica.proofs.Common.{◌≡◌, ◌+◌, ◌<◌, length, vec_len, arc_value, IsRoom}
use Rattle.std.specs.List.{All}
use Rattle.rubis_replica.specs.Folding.{AreOut, CanShare}
use Rattle.rubis_replica.proofs.hands.give_all.Given as goal

abbrev pub invariant-loop : goal.invariant-loop
invariant-loop g l = record {
  counted : vec_len l.rooms + l.counter ≡ l.end;
  rooms : All (IsRoom (length l.fn.pass.posted)) l.rooms.items;
  parts : vec_len l.rooms < l.pass.parts;
  posted : l.pass.posted ≡ l.fn.pass.posted;
  share : CanShare l.job.board.now (arc_value l.job.batch.now) l.pass;
  out : AreOut l.crew.id l.job.board.now (arc_value l.job.batch.now) l.pass l.lead;
  sum : l.pass.parts + length l.lead.given ≡ l.fn.pass.parts;
}
