use Rattle.rubis_workers.proofs.Common.{◌≡◌, ◌∙◌, ◌+◌, ◌-◌, ◌<◌, ◌≤◌, ℕ, List, length, map, sym, ap, subst, arith, slice_index, slice_range, cores}
use Rattle.rubis_workers.proofs.Common.{IsSet, AreFollowed}
use Rattle.rubis_workers.specs.Logs.{AreFolded}
use Rattle.rubis_workers.proofs.Applied.{nothing, set_followed, together, whole, within_batch, log_within}
use Rattle.rubis_workers.proofs.applying.put_back.Goals as goal

pub again-requires : goal.again-requires
again-requires c =
    let (ss, were, room) = c.requires.folded in
    let b = c.args.batch.now in
    set_followed (b.from + 1) (cores (slice_range b.log.now b.from b.upto)) ss c.in-Ok.counted.shards c.in-Ok.counted.dones were.set.some were.set.order
    (subst (AreFolded b.log.now b.from b.upto ss) c.in-Ok.is were.folded)

pub stop_each-requires-clause-room : goal.stop_each-requires-clause-room
stop_each-requires-clause-room c =
    let (ss, were, room) = c.requires.folded in
    let b = c.args.batch.now in
    let f : AreFollowed (b.from + 1) (cores (slice_range b.log.now b.from b.upto)) ss c.in-Ok.counted.shards c.in-Ok.counted.dones =
    subst (AreFolded b.log.now b.from b.upto ss) c.in-Ok.is were.folded in
    let same = ap length c.as_slice.ensures in
    let counts = f.counts in
    omega (arith, same, counts, room)

pub stop_each-requires-clause-within : goal.stop_each-requires-clause-within
stop_each-requires-clause-within c = λ k l.
    let (ss, were, room) = c.requires.folded in
    let b = c.args.batch.now in
    let f : AreFollowed (b.from + 1) (cores (slice_range b.log.now b.from b.upto)) ss c.in-Ok.counted.shards c.in-Ok.counted.dones =
    subst (AreFolded b.log.now b.from b.upto ss) c.in-Ok.is were.folded in
    let same : c.as_slice.result.now ≡ c.in-Ok.counted.dones = c.as_slice.ensures in
    subst (λ xs. slice_index xs k ≤ b.upto - b.from) (sym same)
    (within_batch b.log.now b.from b.upto k ss c.in-Ok.counted.shards c.in-Ok.counted.dones (let p = c.requires.batch.pending in
    omega (arith, p)) c.requires.batch.within f (subst (λ xs. k < length xs) same l))

pub returns-then-stop_each-clause-ok : goal.returns-then-stop_each-clause-ok
returns-then-stop_each-clause-ok c = λ ss were.
    let b = c.args.batch.now in
    let dones : List ℕ = c.in-Ok.counted.dones in
    let f : AreFollowed (b.from + 1) (cores (slice_range b.log.now b.from b.upto)) ss c.in-Ok.counted.shards dones =
    subst (AreFolded b.log.now b.from b.upto ss) c.in-Ok.is were.folded in
    let same : c.as_slice.result.now ≡ dones = c.as_slice.ensures in
    whole b.log.now b.from b.upto ss c.again.result dones c.stop_each.new.stops.items (let p = c.requires.batch.pending in omega (arith, p))
    c.requires.batch.within (subst (λ n. AreFollowed (b.from + 1) (cores (slice_range b.log.now b.from b.upto)) ss n dones) (sym c.again.ensures) f)
    (c.stop_each.ensures.stops ∙ ap (map (λ d. b.from + d)) same)
    (subst (λ xs. (k : ℕ) → k < length xs → slice_index xs k ≡ b.upto - b.from) same (c.stop_each.ensures.whole c.if-stop_each.true))
    (log_within b.log.now b.from b.upto c.requires.batch.pending c.requires.batch.within c.requires.batch.conditions)

pub returns-in-Ok-clause-err : goal.returns-in-Ok-clause-err
returns-in-Ok-clause-err c = λ ss were.
    let b = c.args.batch.now in
    let dones : List ℕ = c.in-Ok.counted.dones in
    let f : AreFollowed (b.from + 1) (cores (slice_range b.log.now b.from b.upto)) ss c.in-Ok.counted.shards dones =
    subst (AreFolded b.log.now b.from b.upto ss) c.in-Ok.is were.folded in
    let same : c.as_slice.result.now ≡ dones = c.as_slice.ensures in
    together b.log.now b.from b.upto ss c.again.result dones c.stop_each.new.stops.items (let p = c.requires.batch.pending in omega (arith, p))
    c.requires.batch.within (subst (λ n. AreFollowed (b.from + 1) (cores (slice_range b.log.now b.from b.upto)) ss n dones) (sym c.again.ensures) f)
    (c.stop_each.ensures.stops ∙ ap (map (λ d. b.from + d)) same)

pub stop_all-requires : goal.stop_all-requires
stop_all-requires c =
    let (ss, were, room) = c.requires.folded in
    let b = c.args.batch.now in
    let e : c.in-Err.back ≡ ss = subst (AreFolded b.log.now b.from b.upto ss) c.in-Err.is were.folded in
    let same = ap length e in
    let long = c.len.ensures in
    omega (arith, same, long, room)

pub again-requires-in-Err : goal.again-requires-in-Err
again-requires-in-Err c =
    let (ss, were, room) = c.requires.folded in
    let b = c.args.batch.now in
    let e : c.in-Err.back ≡ ss = subst (AreFolded b.log.now b.from b.upto ss) c.in-Err.is were.folded in
    subst IsSet (sym e) were.set

pub returns-clause-err : goal.returns-clause-err
returns-clause-err c = λ ss were.
    let b = c.args.batch.now in
    let e : c.in-Err.back ≡ ss = subst (AreFolded b.log.now b.from b.upto ss) c.in-Err.is were.folded in
    let long = c.len.ensures ∙ ap length e in
    nothing b.log.now b.from b.upto ss c.again-in-Err.result c.stop_all.new.stops.items (let p = c.requires.batch.pending in omega (arith, p))
    (c.again-in-Err.ensures ∙ e) (c.stop_all.ensures.many ∙ long) (λ k l. c.stop_all.ensures.at k (omega (arith, l, long)))
