use Rattle.std.proofs.Common.{refl}
use Rattle.rubis_release.proofs.Keeping.{counts_at, length_counts}
use Rattle.rubis_keep.proofs.questions.own_count.Goals as goal

pub count-requires : goal.count-requires
count-requires g c = rw (c.site.ensures.value, c.clock.ensures.counts, length_counts c.intake-intake.result.now.place.sites c.intake-intake.result.now.state.log) c.site.ensures.conditions.site

pub returns : goal.returns
returns g c =
    rw (
      c.count.ensures,
      c.site.ensures.value,
      c.clock.ensures.counts,
      counts_at c.intake-intake.result.now.place.sites c.intake-intake.result.now.state.log c.intake-intake.result.now.place.site c.site.ensures.conditions.site,
    ) (rw c.intake-intake.ensures refl)
