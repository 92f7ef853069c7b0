use Rattle.rubis_shard.proofs.Common.{◌∙◌, Some, None, row_stays}
use Rattle.rubis_shadow.proofs.Rows.{row_goes}
use Rattle.rubis_shard.proofs.Changed.{not_false, not_true, removed_found}
use Rattle.rubis_shard.proofs.map_rows.change_in.Goals as goal

pub returns-then-not-fate-clause-some : goal.returns-then-not-fate-clause-some
returns-then-not-fate-clause-some g c = λ was is.
    let h = c.alter_in-fate.ensures.some was is in
    let goes = not_true _ c.if-not-fate.true in
    record {
      row = None;
      changed = h.changed ∙ row_goes _ h.row goes;
      told = h.told;
      found = λ q. removed_found _ h.row _ _ _ (c.swap_remove.ensures.updates.0 q) (h.found q);
    }

pub returns-else-not-fate-clause-some : goal.returns-else-not-fate-clause-some
returns-else-not-fate-clause-some g c = λ was is.
    let h = c.alter_in-fate.ensures.some was is in
    record {
      row = Some h.row;
      changed = h.changed ∙ row_stays _ h.row (not_false _ c.if-not-fate.false);
      told = h.told;
      found = h.found;
    }
