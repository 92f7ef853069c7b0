use Rattle.rubis_release.proofs.Common.{List, length, refl, ◌∙◌, sym, subst, arith, Message, Settles}
use Rattle.rubis_release.specs.Release.{NoneReady}
use Rattle.rubis_release.proofs.Keeping.{sites_stay, counted_on, turn, at_rest}
use Rattle.rubis_release.proofs.messages.Messages.settle.Goals as goal

pub count_in-requires-clause-origin : goal.count_in-requires-clause-origin
count_in-requires-clause-origin c = (turn _ _ _ _ _ c.loop-message.invariant.counted c.in-Some.ensures).among.id.site

pub count_in-requires-clause-ready : goal.count_in-requires-clause-ready
count_in-requires-clause-ready c = (turn _ _ _ _ _ c.loop-message.invariant.counted c.in-Some.ensures).ready

pub loop-message-smaller : goal.loop-message-smaller
loop-message-smaller c = let l = (turn _ _ _ _ _ c.loop-message.invariant.counted c.in-Some.ensures).shorter in omega (arith, l)

pub loop-message-preserved : goal.loop-message-preserved
loop-message-preserved c =
    let inv = c.loop-message.invariant in
    let t = turn _ _ _ _ _ c.loop-message.invariant.counted c.in-Some.ensures in
    record {
      sites = sites_stay c.loop-message.self-inside.clock c.count_in.new.clock c.in-Some.message.stamp c.count_in.ensures ∙ inv.sites;
      counted = counted_on c.loop-message.self-inside.log.items c.push_reserved.new.self c.take_ready.new.self c.loop-message.self-inside.clock
          c.count_in.new.clock c.in-Some.message c.in-Some.message.stamp
          inv.counted.counts t.sites t.among refl c.count_in.ensures c.push_reserved.ensures.items
          (omega (arith, t.shorter, inv.counted.room, c.push_reserved.ensures.len, c.push_reserved.ensures.capacity));
      settles = λ a b s. inv.settles a b (t.settles a b (subst (λ (x : List Message). Settles x c.take_ready.new.self a b) c.push_reserved.ensures.items s));
    }

pub returns-clause-settles : goal.returns-clause-settles
returns-clause-settles c =
    let inv = c.loop-message.invariant in
    subst (Settles c.args.self.now.log c.args.self.now.waiting c.loop-message.self-inside.log.items) (sym c.in_default.ensures.1)
    (inv.settles _ _ (at_rest (length c.loop-message.self-inside.clock.counts) c.loop-message.self-inside.log.items c.loop-message.self-inside.waiting
    inv.counted.sites
    (subst (λ k. NoneReady k c.loop-message.self-inside.waiting) inv.counted.counts c.in_default.ensures.0)))
