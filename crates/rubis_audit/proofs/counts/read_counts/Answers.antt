use Rattle.std.proofs.Common.{◌-◌, [], ◌∷◌, length, length-append, ap, ◌∙◌, arith, refl}
use Rattle.rubis_message.specs.Counts.{deps_of}
use Rattle.rubis_message.proofs.Fields.{no_mark_left, no_count_left, one_less, no_last_left, none_left}
use Rattle.rubis_audit.proofs.counts.read_counts.Goals as goal

pub returns-in_err-digits-clause-value : goal.returns-in_err-digits-clause-value
returns-in_err-digits-clause-value c =
    let site = c.loop-site._site in
    c.from_residual.ensures
    ∙ no_mark_left _ (c.args.sites - site - 1) _ _ _ c.loop-site.invariant.2 (omega arith) c.in_err-digits.ensures

pub returns-in_err-count-clause-value : goal.returns-in_err-count-clause-value
returns-in_err-count-clause-value c =
    let site = c.loop-site._site in
    c.from_residual-in_err-count.ensures
    ∙ no_count_left _ (c.args.sites - site - 1) _ _ _ c.loop-site.invariant.2
    (omega arith) _ _ c.in_ok-digits.ensures c.in_err-count.ensures.value

pub loop-site-preserved : goal.loop-site-preserved
loop-site-preserved c =
    let site = c.loop-site._site in (
      omega (arith, ap length c.push.ensures, length-append c.loop-site.deps (c.in_ok-count.count ∷ [])),
      omega arith,
      one_less _ (c.args.sites - site - 1) _ _ _ c.loop-site.invariant.2
          (omega arith) _ _ _ _ _ c.in_ok-digits.ensures c.in_ok-count.ensures.value c.push.ensures (omega arith),
    )

pub returns-in_err-last-clause-value : goal.returns-in_err-last-clause-value
returns-in_err-last-clause-value c =
    c.from_residual-in_err-last.ensures
    ∙ no_last_left _ 0 _ _ _ c.loop-site.invariant.2 (omega arith) c.in_err-last.ensures.value

pub returns-clause-value : goal.returns-clause-value
returns-clause-value c = none_left _ 0 _ _ _ c.loop-site.invariant.2 (omega arith) _ _ c.in_ok-last.ensures.value c.push-2.ensures

pub returns-then-sites-eq0-clause-value : goal.returns-then-sites-eq0-clause-value
unfolding deps_of
returns-then-sites-eq0-clause-value c = rw c.if-sites-eq0.true refl
