use Rattle.std.proofs.Common.{◌-◌, [], ◌∷◌, length, length-append, ap, ◌∙◌, arith}
use Rattle.std.specs.Prelude.{option_map}
use Rattle.rubis_message.proofs.Fields.{no_first_left, first_less, no_last_left, none_left}
use Rattle.rubis_message.proofs.stamps.read_deps.Goals as goal

pub returns-in_err-count-clause-value : goal.returns-in_err-count-clause-value
returns-in_err-count-clause-value c =
    let site = c.loop-site._site in
    ap (option_map (λ _. c.loop-site.deps)) c.from_residual.ensures
    ∙ no_first_left _ (c.args.sites - site - 1) _ _ _ c.loop-site.invariant.2 (omega arith) c.in_err-count.ensures.value

pub loop-site-preserved : goal.loop-site-preserved
loop-site-preserved c =
    let site = c.loop-site._site in (
      omega (arith, ap length c.push.ensures, length-append c.loop-site.deps (c.in_ok-count.count ∷ [])),
      omega arith,
      first_less _ (c.args.sites - site - 1) _ _ _ c.loop-site.invariant.2
          (omega arith) _ _ _ _ c.in_ok-count.ensures.value c.push.ensures (omega arith),
    )

pub returns-in_err-last-clause-value : goal.returns-in_err-last-clause-value
returns-in_err-last-clause-value c =
    ap (option_map (λ _. c.loop-site.deps)) c.from_residual-in_err-last.ensures
    ∙ no_last_left _ 0 _ _ _ c.loop-site.invariant.2 (omega arith) c.in_err-last.ensures.value

pub returns-clause-value : goal.returns-clause-value
returns-clause-value c = none_left _ 0 _ _ _ c.loop-site.invariant.2 (omega arith) _ _ c.in_ok-last.ensures.value c.push-2.ensures
