use Rattle.rubis_audit.proofs.Common.{◌∙◌, sym, Decides-same_message}
use Rattle.rubis_audit.proofs.pools.MessagePool.found.Goals as goal

pub returns-then-eq : goal.returns-then-eq
returns-then-eq c = sym c.deref-kept.ensures ∙ (Decides-same_message c.deref-kept.result.now c.args.message.now).0 (sym c.eq.ensures ∙ c.if-eq.true)
