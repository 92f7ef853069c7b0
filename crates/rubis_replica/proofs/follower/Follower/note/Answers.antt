use Rattle.rubis_replica.proofs.Common.{rules, true, ◌<◌, ap, refl, sym, ◌∙◌, subst, arith, inl, inr, Err, length, slice_range, cores}
use Rattle.rubis_replica.specs.Follow.{ComesTo, Follower, FollowsLog, HasStops, IsTriedTo, StandWithin, short}
use Rattle.rubis_replica.specs.declared.progress.Progress.{Progress}
use Rattle.rubis_replica.specs.declared.progress.Stage.TheVariants.{Begun}
use Rattle.rubis_replica.proofs.Standing.{counted_by, err_of, follows_begun, follows_none, follows_whole}
use Rattle.rubis_replica.proofs.follower.Follower.note.Given as given
use Rattle.rubis_replica.proofs.follower.Follower.note.Goals as goal
use Rattle.rubis_replica.proofs.follower.Follower.note.Goals.{After-count_behind-left}

-- each shard stands at its stop
stopped : (g : given.Over) (c : After-count_behind-left g)
    → HasStops c.args.log.now
    (record {
      progress = record { applied = c.self.inside.progress.applied; stage = Begun c.args.upto c.count_behind-left.result; ran_short = true };
      stops = c.self.inside.stops.items;
      tables = c.self.inside.tables;
    })
stopped g c =
    let log = c.args.log.now in
    let upto = c.args.upto in
    let h = subst (λ (f : Follower). IsTriedTo log upto f c.args.ended) (sym c.self.view_is) c.requires.tried in
    let stops = c.self.inside.stops.items in
    let ts = c.self.inside.tables in
    let stand : StandWithin log upto (record { progress = c.self.inside.progress; stops = stops; tables = ts }) = err_of _ c.args.ended (search rules) h.err in
    record {
      within = stand.0;
      holds = stand.1;
      left = counted_by (length ts) c.self.inside.progress.applied c.count_behind-left.result
          (cores (slice_range log c.self.inside.progress.applied upto)) c.deref.result.now stops c.deref.ensures.value stand.1.counts
          c.count_behind-left.ensures;
    }

pub returns-then-left-eq0 : goal.returns-then-left-eq0
returns-then-left-eq0 g c =
    let log = c.args.log.now in
    let h = subst (λ (f : Follower). IsTriedTo log c.args.upto f c.args.ended) (sym c.self.view_is) c.requires.tried in
    let stops = c.self.inside.stops.items in
    let ts = c.self.inside.tables in
    let is = c.resting_at-self-inside-then-left-eq0.ensures in
    record {
      follows = subst (λ (p : Progress). FollowsLog log (record { progress = p; stops = stops; tables = ts })) (sym is)
          (follows_whole log c.self.inside.progress.applied c.args.upto c.count_behind-left.result stops ts h.within h.some
          (stopped g (goal.at.returns-then-left-eq0 g c).After-count_behind-left) c.if-left-eq0.true);
      ok = is;
      err = tt;
    }

pub returns-then-left-count_parts : goal.returns-then-left-count_parts
returns-then-left-count_parts g c =
    let log = c.args.log.now in
    let h = subst (λ (f : Follower). IsTriedTo log c.args.upto f c.args.ended) (sym c.self.view_is) c.requires.tried in
    let stops = c.self.inside.stops.items in
    let ts = c.self.inside.tables in
    let p = c.self.inside.progress in
    record {
      follows = follows_none log p.applied c.args.upto c.count_behind-left.result stops ts h.within h.some
          (stopped g (goal.at.returns-then-left-count_parts g c).After-count_behind-left) (short p) refl
          (record { on = h.can.0.on; inside = h.can.0.inside; stage = h.can.0.stage }) h.can.1
          (c.if-left-count_parts.true ∙ c.count_parts.ensures.count);
      ok = tt;
      err = inl (ap (λ (f : Follower). short f.progress) c.self.view_is);
    }

pub returns : goal.returns
returns g c =
    let log = c.args.log.now in
    let upto = c.args.upto in
    let h = subst (λ (f : Follower). IsTriedTo log upto f c.args.ended) (sym c.self.view_is) c.requires.tried in
    let left = c.count_behind-left.result in
    let stops = c.self.inside.stops.items in
    let ts = c.self.inside.tables in
    let more : 0 < left = let some = c.if-left-eq0.false in omega arith in
    let new : Follower = record { progress = record { applied = c.self.inside.progress.applied; stage = Begun upto left; ran_short = true }; stops = stops; tables = ts } in
    let follows = follows_begun log c.self.inside.progress.applied upto left stops ts h.within h.some
    (stopped g (goal.at.returns g c).After-count_behind-left) h.on more (λ e. c.if-left-count_parts.false (e ∙ sym c.count_parts.ensures.count)) in
    subst (λ (f : Follower). ComesTo log upto f new (Err (record {}))) c.self.view_is
    (record { follows = follows; ok = tt; err = inr (record { batch = refl; some_left = more; some_done = follows.progress.stage.1 }) })
