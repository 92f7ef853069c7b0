use Rattle.std.proofs.Common.{◌∙◌, ◌<◌, ◌≤◌, sym, ap, length, arith, map, refl}
use Rattle.std.proofs.lemmas.List.{length-set, take_all}
use Rattle.rubis_carrier.specs.Events.{forgotten}
use Rattle.rubis_steps.specs.Views.{folder_of}
use Rattle.rubis_steps.proofs.Leading.{forget_more}
use Rattle.rubis_steps.proofs.shops.forget_all.Goals as goal

pub loop-at-init : goal.loop-at-init
loop-at-init c = record { many = refl; before = refl; rest = refl }

pub loop-at-preserved : goal.loop-at-preserved
loop-at-preserved c =
    let fs = c.loop-at.folders.items in
    let at = c.loop-at.at in
    let many = c.loop-at.invariant.many in
    let lt : at < length fs = omega (arith, c.loop-at-test.true, c.len-at-end.ensures, many) in
    let step = forget_more c.args.site c.args.folders.now.items fs at c.index_mut.result.now c.forget.new.self lt many c.index_mut.ensures.value
    c.forget.ensures c.loop-at.invariant.before c.loop-at.invariant.rest in
    record { many = length-set fs at c.forget.new.self ∙ many; before = step.0; rest = step.1 }

pub returns : goal.returns
returns c =
    let fs = c.loop-at.folders.items in
    let init = c.args.folders.now.items in
    let out : length init ≤ c.loop-at.at = omega (arith, c.loop-at-test.false, c.len-at-end.ensures) in
    ap (map folder_of) (sym (take_all c.loop-at.at fs (omega (arith, out, c.loop-at.invariant.many)))) ∙ c.loop-at.invariant.before
    ∙ ap (λ zs. map (forgotten c.args.site) (map folder_of zs)) (take_all c.loop-at.at init out)
