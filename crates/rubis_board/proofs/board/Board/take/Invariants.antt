use Rattle.std.proofs.Common.{◌≡◌, ◌<◌, []}
use Rattle.rubis_board.specs.Rule.{known, board_state}
use Rattle.rubis_board.proofs.board.Board.take.Given as goal

abbrev pub invariant-loop : goal.invariant-loop
invariant-loop g l = record {
  next : (goal.iterator-loop g).can_next l.iterator';
  ends : (goal.iterator-loop g).is_finite l.iterator';
  none_out : l.pass-inside.seat.me.1 ≡ [];
  some_part : 0 < (known l.pass-inside.seat).parts;
  same : board_state l.pass-inside.seat ≡ l.fn.pass;
}
