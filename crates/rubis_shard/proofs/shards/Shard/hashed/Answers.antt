use Rattle.rubis_shard.proofs.Common.{◌≡◌, sym, ap, ◌∙◌, opening, Folded, part_of}
use Rattle.rubis_shard.specs.States.{held_by}
use Rattle.rubis_shard.specs.declared.shard_store.Store.{Store}
use Rattle.rubis_shard.proofs.Openings.{part_twice}
use Rattle.rubis_shard.proofs.shards.Shard.hashed.Goals as goal

pub invariant_of-result : goal.invariant_of-result
invariant_of-result c =
    let rows : (held_by c.in_ok-new.field-0).tables ≡ part_of c.args.shards c.args.number opening =
    ap (λ (s : Store). (held_by s).tables) c.in_ok-new.ensures ∙ ap (λ (f : Folded). f.tables) c.of-store.ensures ∙ c.in_ok-opening_rows.ensures in
    ap (part_of c.args.shards c.args.number) rows ∙ part_twice c.args.shards c.args.number opening ∙ sym rows
