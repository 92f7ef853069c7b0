use Rattle.rubis_world.proofs.Common.{◌∙◌, ap, length, subst, sym, World, logs_of, HaveMessagesAmong}
use Rattle.rubis_world.proofs.checks.check.Goals as goal

pub audit_hashed-requires-clause-among : goal.audit_hashed-requires-clause-among
audit_hashed-requires-clause-among g c =
    let count = sym (c.len.ensures ∙ ap (λ (w : World). length w.sites) c.logs.ensures.same.1) in
    subst (HaveMessagesAmong c.len.result) (sym (c.deref.ensures.value ∙ c.in_ok-logs.ensures.logs))
    (subst (λ n. HaveMessagesAmong n (logs_of c.args.sites.now.world)) count c.requires.among)
