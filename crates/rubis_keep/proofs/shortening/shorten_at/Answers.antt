use Rattle.rubis_keep.proofs.Common.{◌≡◌, ◌∙◌, ◌++◌, [], ap, refl, rules, subst, take, Appends, appends-more, appends-none}
use Rattle.rubis_keys.specs.Desks.{standing_at}
use Rattle.rubis_keep.proofs.HistoryFacts.{consumes-more, consumes-none}
use Rattle.rubis_keep.proofs.ShortenFacts.{piece-taken, short-ends, short-more, short-starts}
use Rattle.rubis_keep.proofs.shortening.shorten_at.Goals as goal

pub loop-turn-init : goal.loop-turn-init
loop-turn-init g c = record {
  next = search rules;
  ends = search rules;
  place = refl;
  come = ([], [], consumes-none _, appends-none _, λ sound. rw c.new-line.ensures.items (short-starts c.args.desk.now.desk.site.place (standing_at c.args.desk.now)));
}

pub returns-in-Ok-eq0 : goal.returns-in-Ok-eq0
returns-in-Ok-eq0 g c =
    let come = c.loop-turn.invariant.come in
    let none : c.in-Ok-eq0.field-0 ≡ 0 = search rules in
    short-ends c.args.desk.now.desk.site.place (standing_at c.args.desk.now) (standing_at c.loop-turn.desk) _ _ _ _ _ come.0 c.loop-turn.line.items come.2
    c.in-Ok-eq0.ensures.bytes.0 (ap (λ n. take n c.read_through_signals.new.buf) none) (c.in-Ok-eq0.ensures.bytes.1 none (search rules)) come.3 come.4

pub loop-turn-preserved : goal.loop-turn-preserved
loop-turn-preserved g c =
    let before = c.loop-turn.invariant in
    let come = before.come in
    let more = take c.in-Ok.given c.read_through_signals.new.buf in
    record {
      next = search rules;
      ends = search rules;
      place = c.in_ok-take_piece-in-Ok.ensures.place ∙ before.place;
      come = (
        come.0 ++ more,
        come.1 ++ c.take_piece.new.text.items,
        consumes-more _ _ _ come.0 more come.2 c.in-Ok.ensures.bytes.0,
        appends-more _ _ _ come.1 c.take_piece.new.text.items come.3 (subst (Appends _ _) c.deref.ensures.value c.in_default.ensures.ok),
        short-more c.args.desk.now.desk.site.place (standing_at c.args.desk.now) (standing_at c.loop-turn.desk) (standing_at c.take_piece.new.desk) come.0 more
            c.loop-turn.line.items c.take_piece.new.line.items come.1 c.take_piece.new.text.items come.4
            (piece-taken (standing_at c.take_piece.new.desk) c.take_piece.new.line.items c.clear.new.self.items c.take_piece.new.text.items more before.place
            c.clear.ensures.items
            c.in_ok-take_piece-in-Ok.ensures.short),
      );
    }
