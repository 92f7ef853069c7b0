use Rattle.std.proofs.Common.{◌∙◌, ap}
use Rattle.rubis_audit.proofs.Collecting.{begun}
use Rattle.rubis_audit.proofs.auditor.Auditor.begin.Goals as goal

pub invariant_of-self : goal.invariant_of-self
invariant_of-self c =
    begun c.end_log.result c.self.inside.sites c.self.inside.ended.items c.end_log.new.ended.items c.self.inside.current c.replace-current.new.self
    c.new-log.result
    c.self.invariant (rw c.replace-current.ensures.value at c.end_log.ensures.ok) c.end_log.ensures.err c.replace-current.ensures.after
    (ap (λ l. l.messages) c.new-log.ensures ∙ c.new.ensures)
