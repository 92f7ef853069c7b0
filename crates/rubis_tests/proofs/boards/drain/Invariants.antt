use Rattle.std.proofs.Common.{◌≡◌}
use Rattle.rubis_tests.proofs.boards.drain.Given as goal

abbrev pub invariant-loop : goal.invariant-loop
invariant-loop g l =
    (goal.iterator-loop g).can_next l.iterator' × (goal.iterator-loop g).is_finite l.iterator'
    × (l.pass.board ≡ l.board) × (l.pass.parts ≡ l.fn.pass.parts)
