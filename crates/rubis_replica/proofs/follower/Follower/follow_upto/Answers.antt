use Rattle.std.proofs.Common.{◌≡◌, ◌≤◌, ap, sym, subst}
use Rattle.rubis_replica.specs.Follow.{Follower, FollowsLog, left_of}
use Rattle.rubis_replica.proofs.Standing.{comes_from, tried}
use Rattle.rubis_replica.proofs.follower.Follower.follow_upto.Goals as goal

pub note-requires-clause-tried : goal.note-requires-clause-tried
note-requires-clause-tried g c κs within =
    let log = c.args.log.now in
    let h = subst (FollowsLog log) (sym c.self.view_is) c.requires.follows in
    tried log c.args.upto (record { progress = c.self.inside.progress; stops = c.self.inside.stops.items; tables = c.self.inside.tables })
    c.apply_batch-ended.new.stops.items c.apply_batch-ended.new.tables c.apply_batch-ended.result
    (record {
      rests = subst (λ (f : Follower). left_of f.progress ≡ 0) (sym c.self.view_is) c.requires.rests;
      follows = h;
      on = subst (λ (f : Follower). f.progress.applied ≤ c.args.upto) (sym c.self.view_is) c.requires.on;
      within = c.requires.within;
      few = c.requires.few;
    }) c.apply_batch-ended.ensures.ok c.apply_batch-ended.ensures.err

pub returns : goal.returns
returns g c =
    comes_from c.args.log.now c.args.upto c.args.self.now
    (record { progress = c.self.inside.progress; stops = c.apply_batch-ended.new.stops.items; tables = c.apply_batch-ended.new.tables }) c.note.new.self c.note.result
    (ap (λ (f : Follower). f.progress) c.self.view_is) c.note.ensures
