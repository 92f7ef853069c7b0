use Rattle.std.proofs.Common.{rules}
use Rattle.rubis_pieces.proofs.Dealt.{dealt_push}
use Rattle.rubis_pieces.proofs.splits.deal.Goals as goal

pub returns-clause-dealt : goal.returns-clause-dealt
returns-clause-dealt c = λ ns h. dealt_push _ _ ns c.args.part c.args.list.now.items c.index_mut.result.now c.push.new.self
    (search rules) (search rules) (search rules) (search rules) h
