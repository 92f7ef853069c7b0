use Rattle.rubis_shard.proofs.Common.{◌≡◌, true, false, ◌∷◌, [], ◌++◌, sym, ap, ◌∙◌, append-nil}
use Rattle.rubis_schema.specs.declared.row_keys.RowKey.TheVariants as key
use Rattle.rubis_shard.specs.Listed.{shown_among}
use Rattle.rubis_shard.specs.Chains.{chain_written}
use Rattle.rubis_shard.proofs.Categories.{shown_step}
use Rattle.rubis_shard.proofs.InMaps.{Entries}
use Rattle.rubis_shard.proofs.picks.pick_shown.Goals as goal

pub loop-cat-preserved-then-shows : goal.loop-cat-preserved-then-shows
loop-cat-preserved-then-shows c =
    let old : Entries = c.loop-cat.picked.items in
    let pushed : c.push_reserved.new.self.items ≡ old ++ (key.Cat c.in-Some.cat.now, c.in-Some.row.now) ∷ [] =
    c.push_reserved.ensures.items ∙ (λ i. c.in_ok-reserve.ensures.items i ++ c.with_cat.ensures i ∷ []) in
    ap (λ (xs : Entries). xs ++ shown_among (chain_written key.Cat c.next.new.self)) pushed
    ∙ shown_step old c.in-Some.cat.now c.in-Some.row.now c.next.new.self c.loop-cat.cat-iterator true
    c.in-Some.ensures.steps (sym c.if-shows.true ∙ c.shows.ensures)
    ∙ c.loop-cat.invariant

pub loop-cat-preserved : goal.loop-cat-preserved
loop-cat-preserved c =
    let old : Entries = c.loop-cat.picked.items in
    ap (λ xs. xs ++ shown_among (chain_written key.Cat c.next.new.self)) (sym (append-nil old))
    ∙ shown_step old c.in-Some.cat.now c.in-Some.row.now c.next.new.self c.loop-cat.cat-iterator false
    c.in-Some.ensures.steps (sym c.if-shows.false ∙ c.shows.ensures)
    ∙ c.loop-cat.invariant

pub returns : goal.returns
returns c =
    let old : Entries = c.loop-cat.picked.items in
    let first : Entries = c.args.picked.now.items in
    sym (append-nil old)
    ∙ ap (λ rest. old ++ shown_among (chain_written key.Cat rest)) (sym c.in-None.ensures.steps.0)
    ∙ c.loop-cat.invariant
    ∙ ap (λ es. first ++ shown_among (chain_written key.Cat es)) (c.into_iter-cat-iterator.ensures.into_iter_gives ∙ c.iter-cat-items.ensures.rest)
