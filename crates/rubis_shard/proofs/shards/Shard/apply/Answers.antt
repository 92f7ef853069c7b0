use Rattle.rubis_shard.proofs.Common.{sym, ap, ◌∙◌, subst, rules, All}
use Rattle.rubis_shard.specs.States.{ShardState, IsHomeOf}
use Rattle.rubis_shard.proofs.Folds.{folds_more, of_ok}
use Rattle.rubis_shard.proofs.shards.Shard.apply.Goals as goal

pub apply_next-requires-clause-here : goal.apply_next-requires-clause-here
apply_next-requires-clause-here c = ap (λ (s : ShardState). s.number) c.loop-at.invariant ∙ c.requires.here

pub apply_next-requires-clause-home : goal.apply_next-requires-clause-home
apply_next-requires-clause-home c = subst (λ (s : ShardState). All (IsHomeOf s) c.args.share.now.effects) (sym
    c.loop-at.invariant) c.requires.home

pub loop-at-preserved : goal.loop-at-preserved
loop-at-preserved c =
    folds_more c.args.self.now c.loop-at.self c.apply_next.new.self c.args.share.now.effects c.args.from c.loop-at.at (search
    rules) (search rules) c.loop-at.invariant
    (of_ok _ c.apply_next.result (search rules) c.apply_next.ensures.ok)
