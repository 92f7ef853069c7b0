use Rattle.rubis_audit.proofs.Common.{◌≡◌, ◌∙◌, ◌++◌, ap, arith, length, sym, map, flat_map, append-nil, drop_all, sites_of, waits_rows, rows_text}
use Rattle.rubis_audit.proofs.Common.{clock_of}
use Rattle.rubis_audit.proofs.Merging.{message_told, lent}
use Rattle.rubis_audit.proofs.waiting.write_messages.Goals as goal

pub write_message-requires : goal.write_message-requires
write_message-requires c =
    (c.requires c.message-item.result.now
    (lent c.args.messages.now c.loop-message.message-index c.message-item.result c.loop-message-test.true c.message-item.is)).counts

pub loop-message-preserved : goal.loop-message-preserved
loop-message-preserved c = λ log e.
    let n = c.loop-message.message-index in
    let v = c.message-item.result in
    let counts : sites_of v.now
    ≡ length c.args.clock.now.counts = (c.requires v.now (lent c.args.messages.now n v c.loop-message-test.true c.message-item.is)).counts in
    message_told log c.args.messages.now n v _ c.loop-message.sink c.write_message.new.sink c.loop-message-test.true c.message-item.is
    (c.loop-message.invariant log e)
    (c.in_ok-write_message.ensures log (e ∙ ap (λ k. clock_of k log) (sym counts)))

pub returns : goal.returns
returns c = λ log e.
    let sink = c.loop-message.sink in
    sym (append-nil sink)
    ∙ ap (λ rest. sink ++ rows_text (flat_map (waits_rows log) (map (λ m. m.now) rest)))
    (sym (drop_all c.loop-message.message-index c.args.messages.now (omega (arith, c.loop-message-test.false))))
    ∙ c.loop-message.invariant log e
