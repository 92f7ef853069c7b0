use Rattle.std.proofs.Common.{◌∙◌, rules}
use Rattle.rubis_audit.proofs.Collecting.{all_ended, read_among}
use Rattle.rubis_audit.proofs.auditor.AuditorService.answer_end.Goals as goal

pub invariant_of-self : goal.invariant_of-self
invariant_of-self c =
    all_ended c.end_log.result c.self.inside.sites c.self.inside.ended.items c.end_log.new.ended.items c.self.inside.current c.take-current.new.self
    c.self.invariant (rw c.take-current.ensures.value at c.end_log.ensures.ok) c.end_log.ensures.err c.take-current.ensures.after

pub audit_hashed-requires-clause-among : goal.audit_hashed-requires-clause-among
audit_hashed-requires-clause-among c =
    read_among c.self.inside.sites c.self.inside.ended.items c.deref.result.now c.self.inside.current c.self.invariant
    (c.deref.ensures.value ∙ rw c.take-current.ensures.value at c.in_ok-end_log.ensures.ok)

pub write_answer-requires : goal.write_answer-requires
write_answer-requires c = record {
  few = search rules;
  among =
      read_among c.self.inside.sites c.self.inside.ended.items c.deref-2.result.now c.self.inside.current c.self.invariant
      (c.deref-2.ensures.value ∙ rw c.take-current.ensures.value at c.in_ok-end_log.ensures.ok);
  verdict_is = search rules;
  faultless = search rules;
}

pub invariant_of-self-in_err-verdict : goal.invariant_of-self-in_err-verdict
invariant_of-self-in_err-verdict c =
    all_ended c.end_log.result c.self.inside.sites c.self.inside.ended.items c.end_log.new.ended.items c.self.inside.current c.take-current.new.self
    c.self.invariant (rw c.take-current.ensures.value at c.end_log.ensures.ok) c.end_log.ensures.err c.take-current.ensures.after

pub invariant_of-self-in_err-self-inside : goal.invariant_of-self-in_err-self-inside
invariant_of-self-in_err-self-inside c =
    all_ended c.end_log.result c.self.inside.sites c.self.inside.ended.items c.end_log.new.ended.items c.self.inside.current c.take-current.new.self
    c.self.invariant (rw c.take-current.ensures.value at c.end_log.ensures.ok) c.end_log.ensures.err c.take-current.ensures.after

pub invariant_of-self-2 : goal.invariant_of-self-2
invariant_of-self-2 c =
    all_ended c.end_log.result c.self.inside.sites c.self.inside.ended.items c.end_log.new.ended.items c.self.inside.current c.take-current.new.self
    c.self.invariant (rw c.take-current.ensures.value at c.end_log.ensures.ok) c.end_log.ensures.err c.take-current.ensures.after
