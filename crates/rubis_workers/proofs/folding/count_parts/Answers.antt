use Rattle.rubis_workers.proofs.Common.{◌≡◌, ◌∙◌, get_or, length, sym, subst, arith, inl, inr, get_or_default, IsMessage, parts, Shadow}
use Rattle.rubis_workers.proofs.Applied.{below_or, count_more}
use Rattle.rubis_workers.proofs.folding.count_parts.Goals as goal

pub loop-message-preserved : goal.loop-message-preserved
loop-message-preserved c =
    let m = c.message-item.result in
    let own : c.from-parts.result ≡ length (parts m.stamp.id m.stamp.red m.shadow) =
    omega (
      arith,
      subst (λ (x : Shadow). c.count_parts.result ≡ length (parts m.stamp.id m.stamp.red x)) c.shadow.ensures.value
          (c.count_parts.ensures.count m.stamp.id m.stamp.red),
    ) in
    record {
      counted = count_more c.args.messages.now c.loop-message.message-index c.loop-message.parts c.from-parts.result m c.loop-message-test.true
          c.message-item.is c.loop-message.invariant.counted own;
      few = omega (arith, c.loop-message.invariant.few, c.count_parts.ensures.few);
      conditions = λ i d l. elim (below_or i c.loop-message.message-index) [
        | inl less ↦ c.loop-message.invariant.conditions i d less
        | inr more ↦
            let same : i ≡ c.loop-message.message-index = omega (arith, l, more) in
            let is = c.message-item.is ∙ get_or_default c.args.messages.now c.loop-message.message-index m d c.loop-message-test.true in
            subst (λ n. IsMessage (get_or c.args.messages.now n d)) (sym same) (subst IsMessage is c.shadow.ensures.conditions)
      ];
    }
