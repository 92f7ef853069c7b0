use Rattle.rubis_audit.proofs.Common.{◌++◌, ◌∙◌, [], ◌∷◌, cond, ap, arith, sym, take, filter, map, append-nil, MessageCounts}
use Rattle.rubis_audit.proofs.Merging.{counts_length, lent, lent_all, lent_at, uncounted, uncounted_all, uncounted_next}
use Rattle.rubis_audit.proofs.walks_lacks.lacked.Goals as goal
use Rattle.rubis_audit.proofs.walks_lacks.lacked.Goals.{then-is_new+in_ok-put_last, else-is_new}

pub is_new-requires : goal.is_new-requires
is_new-requires c =
    (c.requires.sites c.message-item.result.now
    (lent c.args.all.now c.loop-message.message-index c.message-item.result c.loop-message-test.true c.message-item.is)).counts
    ∙ sym (counts_length c.args.sites c.args.log.now.messages c.clock_of-clock.result c.clock_of-clock.ensures)

pub loop-message-preserved : goal.loop-message-preserved
loop-message-preserved c =
    let n = c.loop-message.message-index in
    let all = map (λ m. m.now) c.args.all.now in
    let v = c.message-item.result.now in
    let at = lent_at c.args.all.now n c.message-item.result c.loop-message-test.true c.message-item.is in
    let counts = c.clock_of-clock.result.counts in
    let old = filter (uncounted counts) (take n all) in
    let next = uncounted_next counts all n v c.is_new.result at.0 at.1 c.is_new.ensures.new in
    elim c.if-is_new.branch [
      | then-is_new+in_ok-put_last w ↦
          ap (λ q. map (λ m. m.now) q.items) w.messages-is ∙ w.in_ok-put_last.ensures ∙ ap (λ q. q ++ v ∷ []) c.loop-message.invariant
          ∙ ap (λ b. old ++ cond b (v ∷ []) []) (sym w.if-is_new.true) ∙ next
      | else-is_new w ↦
          ap (λ q. map (λ m. m.now) q.items) w.messages-is ∙ c.loop-message.invariant ∙ sym (append-nil old)
          ∙ ap (λ b. old ++ cond b (v ∷ []) []) (sym w.if-is_new.false) ∙ next
    ]

pub returns : goal.returns
returns c logs f h same =
    c.loop-message.invariant
    ∙ uncounted_all c.args.sites c.args.log.now (map (λ m. m.now) c.args.all.now) c.clock_of-clock.result.counts c.loop-message.message-index logs
    (ap (λ (q : MessageCounts). q.counts) c.clock_of-clock.ensures)
    c.requires.sites (lent_all c.args.all.now c.loop-message.message-index (omega (arith, c.loop-message-test.false))) f h same
