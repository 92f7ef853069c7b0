use Rattle.rubis_replica.proofs.Common.{true, ◌≡◌, ◌∙◌, ◌<◌, ◌≤◌, ◌++◌, length, take, drop, sym, ap, subst, arith, Err, slice_range, cores}
use Rattle.rubis_replica.proofs.Common.{AreFurther, HoldsTo, StopWithin, parts_between}
use Rattle.rubis_replica.specs.Follow.{Follower, FollowsLog, GoesOnTo, HasStops, end_of, left_of, resting_at}
use Rattle.rubis_replica.specs.declared.progress.Stage.TheVariants.{Begun}
use Rattle.rubis_replica.proofs.Standing.{begun_fewer, counted_by, follows_begun, follows_whole, left_fewer, stops_further, written_back}
use Rattle.rubis_replica.proofs.follower.Follower.finish.Given as given
use Rattle.rubis_replica.proofs.follower.Follower.finish.Goals as goal
use Rattle.rubis_replica.proofs.follower.Follower.finish.Goals.{After-count_behind-left}

-- each shard stands at its stop, which is no less than it was
stopped : (g : given.Over) (c : After-count_behind-left g)
    → HasStops c.args.log.now
    (record {
      progress = record { applied = c.self.inside.progress.applied; stage = Begun c.end-upto.result c.count_behind-left.result; ran_short = true };
      stops = c.follow_rest.new.stops;
      tables = c.follow_rest.new.tables;
    })
stopped g c =
    let log = c.args.log.now in
    let from = c.self.inside.progress.applied in
    let upto = c.end-upto.result in
    let tables = c.self.inside.tables in
    let h = subst (FollowsLog log) (sym c.self.view_is) c.requires.follows in
    let was = h.begun (subst (λ (f : Follower). 0 < left_of f.progress) (sym c.self.view_is) c.requires.begun) in
    let went = c.follow_rest.ensures in
    let stops = c.follow_rest.new.stops in
    let ts = c.follow_rest.new.tables in
    let before : c.deref_mut.result.now ≡ c.self.inside.stops.items = c.deref_mut.ensures.value in
    let stand = went.holds (length tables) (subst (λ xs. HoldsTo (length tables) (cores log) xs tables) (sym before) was.holds) in
    let holds = subst (λ n. HoldsTo n (cores log) stops ts) (sym went.many) stand in
    let back = written_back c.self.inside.stops.len stops c.self.inside.stops.items (went.counts ∙ ap length before)
    (let ok = c.self.inside.stops.ok in omega arith) in
    record {
      within = stops_further from upto c.self.inside.stops.items stops (went.counts ∙ ap length before)
          (subst (λ n. StopWithin from n c.self.inside.stops.items) (sym c.end-upto.ensures) was.within)
          (subst (λ xs. AreFurther xs stops) before went.on) went.upto;
      holds = holds;
      left = counted_by (length ts) from c.count_behind-left.result (cores (slice_range log from upto)) c.deref.result.now stops
          (c.deref.ensures.value ∙ back) holds.counts c.count_behind-left.ensures;
    }

pub returns-then-left-eq0 : goal.returns-then-left-eq0
returns-then-left-eq0 g c =
    let log = c.args.log.now in
    let h = subst (FollowsLog log) (sym c.self.view_is) c.requires.follows in
    let went = c.follow_rest.ensures in
    let stops = c.follow_rest.new.stops in
    let ts = c.follow_rest.new.tables in
    let back = written_back c.self.inside.stops.len stops c.self.inside.stops.items (went.counts ∙ ap length c.deref_mut.ensures.value)
    (let ok = c.self.inside.stops.ok in omega arith) in
    let is = c.resting_at-self-inside.ensures in
    record {
      follows = subst (FollowsLog log) (λ i. record { progress = sym is i; stops = sym back i; tables = ts })
          (follows_whole log c.self.inside.progress.applied c.end-upto.result c.count_behind-left.result stops ts
          (let inside = h.progress.inside in omega (arith, inside, c.end-upto.ensures)) (let some = h.some in omega (arith, some, went.many))
          (stopped g (goal.at.returns-then-left-eq0 g c).After-count_behind-left) c.if-left-eq0.true);
      ok = is ∙ ap resting_at (c.end-upto.ensures ∙ ap (λ (f : Follower). end_of f.progress) c.self.view_is);
      err = tt;
    }

pub returns : goal.returns
returns g c =
    let log = c.args.log.now in
    let h = subst (FollowsLog log) (sym c.self.view_is) c.requires.follows in
    let was = h.begun (subst (λ (f : Follower). 0 < left_of f.progress) (sym c.self.view_is) c.requires.begun) in
    let went = c.follow_rest.ensures in
    let from = c.self.inside.progress.applied in
    let upto = c.end-upto.result in
    let left = c.count_behind-left.result in
    let stops = c.follow_rest.new.stops in
    let ts = c.follow_rest.new.tables in
    let old : Follower = record { progress = c.self.inside.progress; stops = c.self.inside.stops.items; tables = c.self.inside.tables } in
    let back = written_back c.self.inside.stops.len stops c.self.inside.stops.items (went.counts ∙ ap length c.deref_mut.ensures.value)
    (let ok = c.self.inside.stops.ok in omega arith) in
    let now = stopped g (goal.at.returns g c).After-count_behind-left in
    let fewer : left ≤ left_of c.self.inside.progress =
    left_fewer log old upto left stops ts was c.end-upto.ensures now (subst (λ xs. AreFurther xs stops) c.deref_mut.ensures.value went.on) went.many in
    let most : left_of c.self.inside.progress < length (parts_between log from upto) =
    subst (λ n. left_of c.self.inside.progress < length (parts_between log from n)) (sym c.end-upto.ensures)
    (begun_fewer log c.self.inside.progress h.progress (subst (λ (f : Follower). 0 < left_of f.progress) (sym c.self.view_is) c.requires.begun)) in
    let more : 0 < left = let some = c.if-left-eq0.false in omega arith in
    let follows = follows_begun log from upto left stops ts (let inside = h.progress.inside in omega (arith, inside, c.end-upto.ensures))
    (let some = h.some in omega (arith, some, went.many)) now (let on = h.progress.on in omega (arith, on, c.end-upto.ensures)) more
    (λ e. absurd (omega (arith, e, fewer, most))) in
    subst (λ (f : Follower). GoesOnTo log f
    (record {
      progress = record { applied = from; stage = Begun upto left; ran_short = true };
      stops = take c.self.inside.stops.len (stops ++ drop (length stops) c.self.inside.stops.items);
      tables = ts;
    }) (Err (record {}))) c.self.view_is
    (record {
      follows = subst (λ xs. FollowsLog log (record { progress = record { applied = from; stage = Begun upto left; ran_short = true }; stops = xs; tables = ts }))
          (sym back) follows;
      ok = tt;
      err = record { batch = λ i. record { applied = from; stage = Begun (c.end-upto.ensures i) left; ran_short = true }; some_left = more; fewer = fewer };
    })
