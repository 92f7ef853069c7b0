use Rattle.rubis_release.proofs.Common.{◌∷◌, [], ◌++◌, length, ap, ◌∙◌, sym, subst, subst₂, arith, length_push, IsReady, MessageCounts, Settles}
use mathlib.Core.Bool.{true≢false}
use Rattle.rubis_release.specs.Release.{IsAmong, AllAmong, NoneReady, clock_of, Messages}
use Rattle.rubis_release.proofs.Keeping.{among_more, comes_first_ok, waits_on}
use Rattle.rubis_release.proofs.messages.Messages.take_in.Goals as goal

pub returns-then-is_ready-clause-settles : goal.returns-then-is_ready-clause-settles
returns-then-is_ready-clause-settles c =
    comes_first_ok c.release.result c.args.self.now.sites c.args.self.now.log c.args.self.now.waiting c.release.new.self.log c.release.new.self.waiting
    c.args.message
    (subst (λ (m : Messages). AllAmong m.sites m.waiting) c.self.view_is c.self.invariant.sites) c.requires.site c.requires.settled
    (subst (λ (k : MessageCounts). IsReady k c.args.message.stamp) (c.self.invariant.counts ∙ ap (λ (m : Messages). clock_of m.sites m.log) c.self.view_is)
    (c.is_ready.ensures.0 c.if-is_ready.true)) c.release.ensures.settles

pub invariant_of-self-in_err-push : goal.invariant_of-self-in_err-push
invariant_of-self-in_err-push c =
    let same = c.in_err-push.ensures.err in
    let size = ap length same in
    record {
      room = omega (arith, size, c.self.invariant.room, c.reserve.ensures.len, c.reserve.ensures.capacity);
      sites = subst (AllAmong (length c.self.inside.clock.counts)) (sym same) c.self.invariant.sites;
      counts = c.self.invariant.counts ∙ ap (clock_of (length c.self.inside.clock.counts)) (sym c.reserve.ensures.items);
    }

pub invariant_of-self-2 : goal.invariant_of-self-2
invariant_of-self-2 c =
    let more = c.in_ok-push.ensures.ok in
    let size = ap length more ∙ length_push c.self.inside.waiting c.args.message in
    let among = subst (λ (m : Messages). IsAmong m.sites c.args.message) (sym c.self.view_is) c.requires.site in
    record {
      room = omega (arith, size, c.in-Ok.ensures.ok, c.len.ensures);
      sites = subst (AllAmong (length c.self.inside.clock.counts)) (sym more)
          (among_more (length c.self.inside.clock.counts) c.self.inside.waiting c.args.message c.self.invariant.sites among);
      counts = c.self.invariant.counts ∙ ap (clock_of (length c.self.inside.clock.counts)) (sym c.reserve.ensures.items);
    }

pub returns-clause-settles : goal.returns-clause-settles
returns-clause-settles c =
    subst₂ (Settles c.args.self.now.log (c.args.self.now.waiting ++ c.args.message ∷ []))
    (sym (c.reserve.ensures.items ∙ ap (λ (m : Messages). m.log) c.self.view_is))
    (sym (c.in_ok-push.ensures.ok ∙ ap (λ (m : Messages). m.waiting ++ c.args.message ∷ []) c.self.view_is))
    (waits_on c.args.self.now.sites c.args.self.now.log c.args.self.now.waiting c.args.message
    (subst (λ (m : Messages). AllAmong m.sites m.waiting) c.self.view_is c.self.invariant.sites) c.requires.site c.requires.settled
    (λ ready. true≢false (sym (c.is_ready.ensures.1
    (subst (λ (k : MessageCounts). IsReady k c.args.message.stamp)
    (sym (c.self.invariant.counts ∙ ap (λ (m : Messages). clock_of m.sites m.log) c.self.view_is)) ready))
    ∙ c.if-is_ready.false))).1

pub returns-clause-settled : goal.returns-clause-settled
returns-clause-settled c =
    subst₂ NoneReady
    (sym (ap (clock_of (length c.self.inside.clock.counts)) c.reserve.ensures.items ∙ ap (λ (m : Messages). clock_of m.sites m.log) c.self.view_is))
    (sym (c.in_ok-push.ensures.ok ∙ ap (λ (m : Messages). m.waiting ++ c.args.message ∷ []) c.self.view_is))
    (waits_on c.args.self.now.sites c.args.self.now.log c.args.self.now.waiting c.args.message
    (subst (λ (m : Messages). AllAmong m.sites m.waiting) c.self.view_is c.self.invariant.sites) c.requires.site c.requires.settled
    (λ ready. true≢false (sym (c.is_ready.ensures.1
    (subst (λ (k : MessageCounts). IsReady k c.args.message.stamp)
    (sym (c.self.invariant.counts ∙ ap (λ (m : Messages). clock_of m.sites m.log) c.self.view_is)) ready))
    ∙ c.if-is_ready.false))).0
