use Rattle.std.proofs.Common.{vec_len}
use Rattle.rubis_workers.proofs.team.+fan_out+fn-fan_out-join+arg3.Given as goal

abbrev pub decreases-fan_out : goal.decreases-fan_out
decreases-fan_out g l = vec_len l.rooms

abbrev pub decreases-join+arg3 : goal.decreases-join+arg3
decreases-join+arg3 g l = vec_len l.rooms
