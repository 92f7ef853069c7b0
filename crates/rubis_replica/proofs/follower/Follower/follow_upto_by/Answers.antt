use Rattle.rubis_replica.proofs.Common.{◌≡◌, ◌∙◌, ap, sym, subst, Intake}
use Rattle.rubis_replica.specs.Follow.{CanFollow, ComesTo, Follower, IsTriedTo}
use Rattle.rubis_replica.proofs.Standing.{comes_from, tried}
use Rattle.rubis_replica.proofs.follower.Follower.follow_upto_by.Goals as goal

pub note-requires-clause-tried : goal.note-requires-clause-tried
note-requires-clause-tried g c κs within =
    let log = c.args.intake.now.state.log in
    let upto = c.args.upto in
    let was : Follower = record { progress = c.self.inside.progress; stops = c.self.inside.stops.items; tables = c.self.inside.tables } in
    let stops = c.apply_by_hands-ended.new.stops.items in
    let ts = c.apply_by_hands-ended.new.tables in
    let same : c.log.result.now ≡ log = c.log.ensures.value ∙ ap (λ (i : Intake). i.state.log) c.apply_by_hands-ended.ensures.intake in
    let applied = c.apply_by_hands-ended.ensures.applied in
    subst (λ l. IsTriedTo l upto (record { progress = c.self.inside.progress; stops = stops; tables = ts }) c.apply_by_hands-ended.result) (sym same)
    (tried log upto was stops ts c.apply_by_hands-ended.result (subst (CanFollow log upto) (sym c.self.view_is) c.requires) applied.ok applied.err)

pub returns-clause-follows : goal.returns-clause-follows
returns-clause-follows g c =
    let log = c.args.intake.now.state.log in
    let upto = c.args.upto in
    let mid : Follower =
    record { progress = c.self.inside.progress; stops = c.apply_by_hands-ended.new.stops.items; tables = c.apply_by_hands-ended.new.tables } in
    let same : c.log.result.now ≡ log = c.log.ensures.value ∙ ap (λ (i : Intake). i.state.log) c.apply_by_hands-ended.ensures.intake in
    comes_from log upto c.args.self.now mid c.note.new.self c.note.result (ap (λ (f : Follower). f.progress) c.self.view_is)
    (subst (λ l. ComesTo l upto mid c.note.new.self c.note.result) same c.note.ensures)
