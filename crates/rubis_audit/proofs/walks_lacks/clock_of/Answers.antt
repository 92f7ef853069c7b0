use Rattle.rubis_audit.proofs.Common.{◌≡◌, ◌<◌, ◌∙◌, ap, get_or, length, subst, sym, take, IsReady, advanced, Message, opening_counts, contained}
use Rattle.rubis_audit.proofs.Merging.{clock_next, clock_ready, counts_length}
use Rattle.rubis_audit.proofs.walks_lacks.clock_of.Goals as goal
use Rattle.rubis_audit.proofs.walks_lacks.clock_of.Goals.{After-deref}

pub loop-message-init : goal.loop-message-init
loop-message-init c = record { items = c.messages-message-items.ensures; clock = c.new-clock.ensures ∙ opening_counts c.args.sites }

-- the message stands at its place in the log, and this is its stamp
within : (c : After-deref) → c.loop-message.message-index < length c.args.log.now.messages
within c = subst (λ xs. c.loop-message.message-index < length xs) c.loop-message.invariant.items c.loop-message-test.true

entry : (c : After-deref) → c.message-item.result ≡ get_or c.args.log.now.messages c.loop-message.message-index c.message-item.result
entry c = subst (λ xs. c.message-item.result ≡ get_or xs c.loop-message.message-index c.message-item.result) c.loop-message.invariant.items c.message-item.is

stamp : (c : After-deref) → c.deref.result.now.stamp ≡ c.message-item.result.stamp
stamp c = ap (λ (u : Message). u.stamp) c.deref.ensures

pub count_in-requires-clause-origin : goal.count_in-requires-clause-origin
count_in-requires-clause-origin c =
    let p = (goal.at.count_in-requires-clause-origin c).After-deref in
    let log = c.args.log.now.messages in
    let v = c.message-item.result in
    subst (λ s. s.id.site < length c.loop-message.clock.counts) (sym (stamp p))
    (subst (λ q. v.stamp.id.site < q)
    (sym (counts_length c.args.sites (take c.loop-message.message-index log) c.loop-message.clock c.loop-message.invariant.clock))
    (c.requires.among v (contained log v (c.loop-message.message-index, within p, sym (entry p)))).id.site)

pub count_in-requires-clause-ready : goal.count_in-requires-clause-ready
count_in-requires-clause-ready c =
    let p = (goal.at.count_in-requires-clause-ready c).After-deref in
    subst (λ s. IsReady c.loop-message.clock s) (sym (stamp p))
    (subst (λ k. IsReady k c.message-item.result.stamp) (sym c.loop-message.invariant.clock)
    (clock_ready c.args.sites c.args.log.now.messages c.loop-message.message-index c.message-item.result c.requires.among c.requires.released (within p)
    (entry p)))

pub loop-message-preserved : goal.loop-message-preserved
loop-message-preserved c =
    let p = (goal.at.loop-message-preserved c).After-deref in
    record {
      items = c.loop-message.invariant.items;
      clock =
          clock_next c.args.sites c.args.log.now.messages c.loop-message.message-index c.message-item.result c.count_in.new.clock c.requires.among (within p)
          (entry p)
          (c.count_in.ensures ∙ ap (λ s. advanced c.loop-message.clock s) (stamp p)
          ∙ ap (λ k. advanced k c.message-item.result.stamp) c.loop-message.invariant.clock);
    }
