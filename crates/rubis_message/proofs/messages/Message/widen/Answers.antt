use Rattle.std.proofs.Common.{◌≡◌, sym, ap, subst, ◌∙◌}
use Rattle.rubis_message.specs.Message as model
use Rattle.rubis_message.specs.Message.{IsMessage}
use Rattle.rubis_message.proofs.Widening.{widened_meets}
use Rattle.rubis_message.proofs.messages.Message.widen.Goals as goal

pub new-requires : goal.new-requires
new-requires c =
    let before : model.Message = record { stamp = c.stamp-stamp.result; shadow = c.self.inside.shadow } in
    let same : c.args.self ≡ before =
    ap (λ s. record { stamp = s; shadow = c.args.self.shadow }) (sym c.stamp-stamp.ensures.value)
    ∙ ap (λ (m : model.Message). record { stamp = c.stamp-stamp.result; shadow = m.shadow }) (sym c.self.view_is) in
    widened_meets c.args.sites before c.in-Ok.stamp (subst IsMessage same c.stamp-stamp.ensures.conditions) (sym c.widen.ensures ∙ c.in-Ok.is)
