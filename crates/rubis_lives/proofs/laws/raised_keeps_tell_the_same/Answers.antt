use Rattle.rubis_lives.proofs.MomentFacts.{raised-keeps-tell-the-same}
use Rattle.rubis_lives.proofs.RoomFacts.{raised-take-the-same, refused-are-none}
use Rattle.rubis_lives.proofs.laws.raised_keeps_tell_the_same.Goals as goal

pub returns : goal.returns
returns c = record { told = raised-keeps-tell-the-same; taken = raised-take-the-same; refused = refused-are-none }
