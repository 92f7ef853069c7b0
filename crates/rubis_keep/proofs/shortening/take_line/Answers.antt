use Rattle.rubis_keep.proofs.Common.{false, true, takes-at}
use Rattle.rubis_keys.specs.Desks.{standing_at}
use Rattle.rubis_keep.proofs.ShortenFacts.{line-ends, line-more, line-starts}
use Rattle.rubis_keep.proofs.shortening.take_line.Goals as goal

pub turns-init : goal.turns-init
turns-init g c = line-starts _ _ _ _ _ _ c.new-records.ensures

pub returns-then-not-branch-clause-takes : goal.returns-then-not-branch-clause-takes
returns-then-not-branch-clause-takes g c =
    line-ends c.advance.new.self c.turns.invariant (takes-at _ c.turns.records c.advance.new.self _ false c.if-not-branch.true c.in_ok-advance.ensures.takes)

pub turns-preserved-then-branch : goal.turns-preserved-then-branch
turns-preserved-then-branch g c =
    let found = takes-at _ c.turns.records c.advance.new.self _ true c.if-not-branch.false c.in_ok-advance.ensures.takes in
    let takes = rw c.fields.ensures at c.in_ok-take_record.ensures.takes in
    line-more c.advance.new.self c.take_record.new.desk.desk.site.place (standing_at c.take_record.new.desk) c.in_ok-take_record.field-0 true
    c.turns.invariant found c.in_ok-take_record.ensures.place takes (λ no_more. absurd (cc no_more)) (λ no_more. absurd (cc no_more))

pub turns-preserved : goal.turns-preserved
turns-preserved g c =
    let found = takes-at _ c.turns.records c.advance.new.self _ true c.if-not-branch.false c.in_ok-advance.ensures.takes in
    let takes = rw c.fields.ensures at c.in_ok-take_record.ensures.takes in
    line-more c.advance.new.self c.take_record.new.desk.desk.site.place (standing_at c.take_record.new.desk) c.in_ok-take_record.field-0 c.turns.changed
    c.turns.invariant found c.in_ok-take_record.ensures.place takes (λ same. same) (λ same. c.if-branch.false)

pub turns-smaller-then-branch : goal.turns-smaller-then-branch
turns-smaller-then-branch g c = c.in_ok-advance.ensures.nearer c.if-not-branch.false c.turns.invariant.rest c.turns.invariant.gives

pub turns-smaller : goal.turns-smaller
turns-smaller g c = c.in_ok-advance.ensures.nearer c.if-not-branch.false c.turns.invariant.rest c.turns.invariant.gives
