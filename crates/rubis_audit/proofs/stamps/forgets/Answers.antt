use Rattle.rubis_audit.proofs.Common.{◌∙◌, arith, ap, length, sym, false, slice_index, option_map_or}
use Rattle.rubis_audit.specs.Walks.{by_message_id, exceeds, last_of}
use Rattle.rubis_audit.proofs.Judging.{no_site, some_site}
use Rattle.rubis_audit.proofs.stamps.forgets.Goals as goal

pub returns-then-last_exceeds : goal.returns-then-last_exceeds
returns-then-last_exceeds c all h =
    let v = c.args.v.now in
    let j = c.loop-j.j in
    let many = ap length c.deps-mine.ensures.value in
    let mine = c.count.ensures ∙ ap (λ xs. slice_index xs j) c.deps-mine.ensures.value in
    sym (some_site v (λ k. option_map_or (exceeds v) (by_message_id (last_of v k) all) false) j
    (omega (arith, many, c.sites-j-end.ensures.value, c.loop-j-test.true))
    (ap (λ n. option_map_or (exceeds v) (by_message_id (record { site = j; seq = n }) all) false) (sym mine) ∙ sym (c.last_exceeds.ensures all h)
    ∙ c.if-last_exceeds.true))

pub returns : goal.returns
returns c all h =
    let v = c.args.v.now in
    let many = ap length c.deps-mine.ensures.value in
    sym (no_site v (λ k. option_map_or (exceeds v) (by_message_id (last_of v k) all) false)
    (λ j l. c.loop-j.invariant all h j (omega (arith, many, c.sites-j-end.ensures.value, l))))
