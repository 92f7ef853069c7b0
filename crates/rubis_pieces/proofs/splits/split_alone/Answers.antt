use Rattle.std.proofs.Common.{rules, ◌∙◌}
use Rattle.rubis_pieces.proofs.Dealt.{split_turn}
use Rattle.rubis_pieces.proofs.splits.split_alone.Goals as goal

pub loop-message-preserved : goal.loop-message-preserved
loop-message-preserved c = record {
  entry = search rules;
  dealt = split_turn c.args.shards c.args.first c.loop-message.message-index _ c.args.batch.now
      c.message-item.result c.new.result c.loop-message.list.items c.deal_message.new.list.items
      c.loop-message.invariant.dealt.many (search rules) (search rules)
      (c.new.ensures.number ∙ c.loop-message.invariant.entry) c.new.ensures.core
      c.loop-message.invariant.dealt c.in_ok-deal_message.ensures.dealt;
}
