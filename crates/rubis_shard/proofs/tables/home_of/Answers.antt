use Rattle.rubis_shard.proofs.Common.{sym, ap, ◌∙◌, home}
use Rattle.rubis_shard.proofs.Single.{home_of_one}
use Rattle.rubis_shard.proofs.tables.home_of.Goals as goal

pub returns-then-shards-eq1-clause-home : goal.returns-then-shards-eq1-clause-home
returns-then-shards-eq1-clause-home c = sym (ap (λ n. home n c.args.key.now) c.if-shards-eq1.true ∙ home_of_one c.args.key.now)
