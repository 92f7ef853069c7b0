use Rattle.std.proofs.Common.{◌≡◌, ◌++◌, ◌∙◌, ap, map, sym}
use Rattle.std.proofs.lemmas.List.{append-nil}
use Rattle.csv.specs.Writing.{row_text, writer_under}
use Rattle.rubis_engine.specs.Rows.{IsBetweenRows, held}
use Rattle.rubis_engine.specs.Text.{plain_writer}
use Rattle.rubis_engine.proofs.RowFacts.{begun-start, on_ok}
use Rattle.rubis_engine.proofs.quoted_rows.put_whole_row.Goals.{in-Err, in-Ok}
use Rattle.rubis_engine.proofs.quoted_rows.put_whole_row.Goals as goal

pub returns-clause-text : goal.returns-clause-text
returns-clause-text c =
    let old = c.args.rows.now in
    let new = c.flush.new.self in
    let before : held old ≡ (writer_under old).items =
    ap (λ t. (writer_under old).items ++ t) c.requires.written ∙ append-nil (writer_under old).items in
    let row = (c.in_ok-put_row.ensures (held old) (begun-start old c.requires.setup c.requires.none c.requires.blank)).0 in
    let all = c.flush.ensures.bytes ∙ row
    ∙ ap (λ t. t ++ row_text plain_writer (map (λ f. f.now) c.args.first.now ++ c.args.fields.now)) before in
    elim c.match-flush.branch [
      | in-Ok w ↦ rw w.result-is (rw w.in-Ok.is at (on_ok c.flush.result
          (λ none. sym (append-nil (writer_under new).items) ∙ ap (λ t. (writer_under new).items ++ t) (sym none) ∙ all)
          c.flush.ensures.pending))
      | in-Err w ↦ rw w.result-is tt
    ]

pub returns-clause-between : goal.returns-clause-between
returns-clause-between c =
    let old = c.args.rows.now in
    let row = c.in_ok-put_row.ensures (held old) (begun-start old c.requires.setup c.requires.none c.requires.blank) in
    elim c.match-flush.branch [
      | in-Ok w ↦ rw w.result-is (rw w.in-Ok.is at (on_ok {Q = IsBetweenRows c.flush.new.self} c.flush.result
          (λ none. record {
            setup = c.flush.ensures.setup ∙ row.1;
            none = c.flush.ensures.fields ∙ row.2;
            blank = c.flush.ensures.wrote ∙ row.3;
            written = none;
          })
          c.flush.ensures.pending))
      | in-Err w ↦ rw w.result-is tt
    ]
