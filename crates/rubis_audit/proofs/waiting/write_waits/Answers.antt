use Rattle.rubis_audit.proofs.Common.{◌∙◌, ◌++◌, ap, subst, sym, map, flat_map, waits_rows, rows_text, on_ok, AllAmong, clock_of}
use Rattle.rubis_audit.proofs.Merging.{counts_length}
use Rattle.rubis_audit.proofs.waiting.write_waits.Goals as goal

pub write_messages-requires : goal.write_messages-requires
write_messages-requires c =
    let intake = c.args.intake.now in
    let many = counts_length intake.place.sites intake.state.log c.clock.result.now c.clock.ensures.counts in
    let listed = ap (map (λ m. m.now)) c.deref.ensures.value ∙ c.in_ok-messages.ensures.value in
    subst (λ n. AllAmong n (map (λ m. m.now) c.deref.result.now)) (sym many)
    (subst (AllAmong intake.place.sites) (sym listed) c.clock.ensures.conditions.kept.waiting_sites)

pub returns : goal.returns
returns c =
    let intake = c.args.intake.now in
    let many = counts_length intake.place.sites intake.state.log c.clock.result.now c.clock.ensures.counts in
    let listed = ap (map (λ m. m.now)) c.deref.ensures.value ∙ c.in_ok-messages.ensures.value in
    on_ok c.write_messages.result (λ wrote.
    wrote intake.state.log (c.clock.ensures.counts ∙ ap (λ n. clock_of n intake.state.log) (sym many))
    ∙ ap (λ messages. c.args.sink.now ++ rows_text (flat_map (waits_rows intake.state.log) messages)) listed) c.write_messages.ensures
