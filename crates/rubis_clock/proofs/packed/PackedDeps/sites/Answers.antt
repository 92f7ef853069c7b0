use Rattle.std.proofs.Common.{rules, ◌≡◌, length, sym, ap, ◌∙◌}
use Rattle.rubis_clock.proofs.TwoRows.{length_used}
use Rattle.rubis_clock.proofs.packed.PackedDeps.sites.Goals as goal

pub returns-clause-value : goal.returns-clause-value
returns-clause-value c =
    let one : length c.self.inside.low ≡ 16 = search rules in
    let two : length c.self.inside.high ≡ 8 = search rules in
    sym (length_used c.self.inside.low c.self.inside.high c.self.inside.used one two c.self.invariant) ∙ ap length c.self.view_is
