use Rattle.std.proofs.Common.{ap, ◌∙◌}
use Rattle.rubis_shadow.specs.Changes.{change_of}
use Rattle.rubis_shadow.specs.declared.changes.Change.{Change}
use Rattle.rubis_shadow.proofs.PartFacts.{same_part}
use Rattle.rubis_shadow.proofs.parts.EffectRef.own_with.Goals as goal

pub returns : goal.returns
returns c =
    let key = c.self.inside.key in
    same_part (key, c.change_with.result) (key, change_of c.self.inside.change) (ap (λ (x : Change). (key, x)) c.change_with.ensures) _ c.self.inside.frees
    ∙ c.self.view_is
