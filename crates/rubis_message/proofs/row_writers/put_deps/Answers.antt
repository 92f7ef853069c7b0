use Rattle.std.proofs.Common.{◌∙◌, ◌-◌, ◌∷◌, ◌++◌, ap, arith, decimal, drop, length, refl}
use Rattle.rubis_message.specs.Grammar.{deps_text}
use Rattle.rubis_message.proofs.Fields.{text_more}
use Rattle.rubis_message.proofs.row_writers.put_deps.Goals as goal

pub loop-site-preserved : goal.loop-site-preserved
loop-site-preserved c =
    let deps = c.args.deps.now in
    let site = c.loop-site.site in
    let text = deps_text (drop site deps) in
    let more = text_more deps text (58 ∷ text) (decimal c.count-in-loop-site.result ++ 58 ∷ text) (site - 1) site (omega arith)
    (omega (arith, c.loop-site.invariant.2)) refl
    (λ _. refl) (λ last. absurd (omega (arith, last, c.loop-site.invariant.2))) (ap (λ n. decimal n ++ 58 ∷ text) c.count-in-loop-site.ensures) in (
      c.put_before.ensures.fields text c.args.row.now.fields c.loop-site.invariant.0 ∙ ap (λ t. t ∷ c.args.row.now.fields) more,
      omega (arith, c.loop-site.invariant.1, c.put_before.ensures.left),
      omega (arith, c.loop-site.invariant.2),
    )

pub put_before-requires : goal.put_before-requires
put_before-requires c = record {
  mark = refl;
  some = omega (arith, ap length c.loop-site.invariant.0);
  room = omega (
    arith,
    c.loop-site.invariant.1,
    c.sites-last.ensures.value,
    c.sites-last.ensures.few,
    c.loop-site-test.true,
    c.loop-site.invariant.2,
    c.requires.room,
  );
}
