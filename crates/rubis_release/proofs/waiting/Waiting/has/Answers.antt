use Rattle.rubis_release.proofs.Common.{◌≡◌, false, refl, rules, sym, ap, ◌∙◌, list_any, same_id, Message}
use Rattle.indexmap.specs.IndexMap.{get}
use Rattle.rubis_release.specs.Waiting.{is_there}
use Rattle.rubis_release.proofs.Slots.{has_told, nothing_waits}
use Rattle.rubis_release.proofs.waiting.Waiting.has.Goals as goal

pub returns-then-is_empty : goal.returns-then-is_empty
returns-then-is_empty c =
    ap (list_any (λ (m : Message). same_id c.args.id.now m.stamp.id))
    (sym (nothing_waits c.self.inside.slots.entries c.args.self.now (c.if-is_empty.ensures.0 refl) c.self.view_is))

pub returns-in-Some : goal.returns-in-Some
returns-in-Some c =
    let found : c.is_some.result ≡ is_there (get same_id c.self.inside.slots c.args.id.now) = search rules in
    found ∙ has_told c.self.inside.slots.entries c.args.id.now c.self.invariant.own c.self.invariant.apart
    ∙ ap (list_any (λ (m : Message). same_id c.args.id.now m.stamp.id)) c.self.view_is

pub returns-in-None : goal.returns-in-None
returns-in-None c =
    let found : false ≡ is_there (get same_id c.self.inside.slots c.args.id.now) = search rules in
    found ∙ has_told c.self.inside.slots.entries c.args.id.now c.self.invariant.own c.self.invariant.apart
    ∙ ap (list_any (λ (m : Message). same_id c.args.id.now m.stamp.id)) c.self.view_is
