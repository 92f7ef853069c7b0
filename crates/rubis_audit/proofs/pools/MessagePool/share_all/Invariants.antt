use Rattle.std.proofs.Common.{◌≡◌, take}
use Rattle.rubis_audit.proofs.pools.MessagePool.share_all.Given as goal

abbrev pub invariant-loop-message : goal.invariant-loop-message
invariant-loop-message l = l.all ≡ take l.message-index l.messages
