use Rattle.rubis_script.proofs.Common.{◌++◌, rows_text, ends_write}
use Rattle.rubis_script.proofs.WindowFacts.{off_front, off_more, off_waited, rows_end, rows_part}
use Rattle.rubis_script.proofs.rows_out.write_rows.Goals as goal

pub loop-preserved : goal.loop-preserved
loop-preserved g c =
    let (first, split, added) = c.in_ok-more.ensures.next in
    let part = rows_part c.loop.sink c.put_next.new.sink c.drain_full.new.self c.loop.rows first c.put_next.new.self (g.W.Write.contents c.loop.writer)
    (g.W.Write.contents c.drain_full.new.writer) split added (off_waited _ _ _ _ c.in_ok-drain_full.ensures.ok) in
    record {
      next = tt;
      ends = tt;
      written = off_more (c.args.sink.now ++ rows_text c.args.rows.now) (c.loop.sink ++ rows_text c.loop.rows) (c.drain_full.new.self ++ rows_text c.put_next.new.self)
          (g.W.Write.contents c.args.writer.now) (g.W.Write.contents c.loop.writer) (g.W.Write.contents c.drain_full.new.writer) c.loop.invariant.written part;
    }

pub returns-then-not-more : goal.returns-then-not-more
returns-then-not-more g c =
    let (first, split, added) = c.in_ok-more.ensures.next in
    let text = c.args.sink.now ++ rows_text c.args.rows.now in
    let part = rows_part c.loop.sink c.put_next.new.sink c.drain_full.new.self c.loop.rows first c.put_next.new.self (g.W.Write.contents c.loop.writer)
    (g.W.Write.contents c.drain_full.new.writer) split added (off_waited _ _ _ _ c.in_ok-drain_full.ensures.ok) in
    rows_end text c.drain_full.new.self c.put_next.new.self (g.W.Write.contents c.args.writer.now) (g.W.Write.contents c.drain_full.new.writer)
    (c.in_ok-more.ensures.last c.if-not-more.true)
    (off_more text (c.loop.sink ++ rows_text c.loop.rows) (c.drain_full.new.self ++ rows_text c.put_next.new.self)
    (g.W.Write.contents c.args.writer.now) (g.W.Write.contents c.loop.writer) (g.W.Write.contents c.drain_full.new.writer) c.loop.invariant.written part)

pub returns-in_err-drain_full : goal.returns-in_err-drain_full
returns-in_err-drain_full g c =
    let (first, split, added) = c.in_ok-more.ensures.next in
    let front = c.in_err-drain_full.ensures.err in
    let part = rows_part c.loop.sink c.put_next.new.sink front.1 c.loop.rows first c.put_next.new.self (g.W.Write.contents c.loop.writer)
    (g.W.Write.contents c.drain_full.new.writer) split added (off_front _ _ _ front) in
    ends_write _ _ _ c.from_residual-in_err-drain_full.result c.in_err-drain_full.field-0.0 c.from_residual-in_err-drain_full.ensures
    c.in_err-drain_full.ensures.faults (
      front.1 ++ rows_text c.put_next.new.self,
      off_more (c.args.sink.now ++ rows_text c.args.rows.now) (c.loop.sink ++ rows_text c.loop.rows) (front.1 ++ rows_text c.put_next.new.self)
          (g.W.Write.contents c.args.writer.now) (g.W.Write.contents c.loop.writer) (g.W.Write.contents c.drain_full.new.writer) c.loop.invariant.written part,
    )
