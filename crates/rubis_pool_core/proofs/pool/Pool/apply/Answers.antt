use Rattle.std.proofs.Common.{◌∙◌, ap}
use Rattle.std.specs.Prelude.{Some}
use Rattle.std.proofs.lemmas.Option.{slice_get_read}
use Rattle.rubis_pool_core.proofs.Accounts.{apply_none, apply_just, apply_is}
use Rattle.rubis_pool_core.proofs.pool.Pool.apply.Goals as goal

pub returns-in_default-clause-next : goal.returns-in_default-clause-next
returns-in_default-clause-next c =
    let long = c.len.ensures ∙ c.self.inside.held.ok.0 in
    apply_none _ _ c.self.view_is c.args.worker c.index_mut.result.now c.in_default.is
    (slice_get_read _ c.len.result c.args.worker _ long c.if-worker-len.false c.index_mut.ensures.value)

pub returns-clause-possible : goal.returns-clause-possible
returns-clause-possible c =
    let long = c.len.ensures ∙ c.self.inside.held.ok.0 in
    let at = slice_get_read _ c.len.result c.args.worker _ long c.if-worker-len.false c.index_mut.ensures.value in
    apply_just _ _ c.self.view_is c.args.worker c.in-Some.work
    (at ∙ ap (λ o. Some o) c.in-Some.is)
    c.apply_next.result c.apply_next.ensures.possible

pub returns-clause-next : goal.returns-clause-next
returns-clause-next c =
    let long = c.len.ensures ∙ c.self.inside.held.ok.0 in
    let at = slice_get_read _ c.len.result c.args.worker _ long c.if-worker-len.false c.index_mut.ensures.value in
    apply_is _ _ c.self.view_is c.args.worker c.in-Some.work
    (at ∙ ap (λ o. Some o) c.in-Some.is)
    c.apply_next.result c.apply_next.new.self c.apply_next.ensures.next
