use Rattle.rubis_shard.proofs.Common.{◌≡◌, ℕ, refl, sym, ap, ◌∙◌, Option, Some, None, option_map, slice_get, home, RowKey, Effect, parts_of}
use Rattle.rubis_shadow.specs.Shadows.{key_of}
use Rattle.rubis_shard.specs.Holdings.{core_of, home_or}
use Rattle.rubis_shard.proofs.messages.home_at.Goals as goal

-- the home of a key, or the number of shards
home_of : ℕ → Option RowKey → ℕ
home_of shards None = shards
home_of shards (Some k) = home shards k

by_key : (shards : ℕ) (part : Option Effect) → home_of shards (option_map key_of part) ≡ home_or shards part
unfolding home_of
by_key shards None = refl
by_key shards (Some e) = refl

pub returns-in-Some-clause-home : goal.returns-in-Some-clause-home
unfolding home_of
returns-in-Some-clause-home c =
    c.shard_of.ensures.home
    ∙ ap (home_of c.args.shards) (sym c.in-Some.is ∙ c.key.ensures c.args.entry.now.red)
    ∙ by_key c.args.shards (slice_get (parts_of (core_of c.args.entry.now)) c.args.place)

pub returns-in-None-clause-home : goal.returns-in-None-clause-home
unfolding home_of
returns-in-None-clause-home c =
    ap (home_of c.args.shards) (sym c.in-None.is ∙ c.key.ensures c.args.entry.now.red)
    ∙ by_key c.args.shards (slice_get (parts_of (core_of c.args.entry.now)) c.args.place)
