use Rattle.rubis_release.proofs.Common.{List, [], ◌∷◌, ◌++◌, refl, ap, ◌∙◌, sym, subst, arith, Message}
use Rattle.rubis_release.specs.Release.{IsAmong, Messages}
use Rattle.rubis_release.proofs.Keeping.{counted_on}
use Rattle.rubis_release.proofs.messages.Messages.release.Goals as goal

pub invariant_of-self-2 : goal.invariant_of-self-2
invariant_of-self-2 c =
    counted_on c.self.inside.log.items c.push_reserved.new.self c.self.inside.waiting c.self.inside.clock c.count_in.new.clock c.args.message
    c.args.message.stamp c.self.invariant.counts c.self.invariant.sites
    (subst (λ (m : Messages). IsAmong m.sites c.args.message) (sym c.self.view_is) c.requires.site)
    refl c.count_in.ensures (c.push_reserved.ensures.items ∙ ap (λ (xs : List Message). xs ++ c.args.message ∷ []) c.reserve.ensures.items)
    (omega (arith, c.in-Ok.ensures.ok, c.len.ensures, c.push_reserved.ensures.len, c.push_reserved.ensures.capacity))
