use Rattle.std.proofs.Common.{◌∙◌, []}
use Rattle.rubis_engine.proofs.RowFacts.{on_ok_four}
use Rattle.rubis_engine.proofs.quoted_rows.put_row.Goals as goal

pub returns : goal.returns
returns c =
    let end = c.end_row.ensures in
    on_ok_four c.end_row.result
    (λ text setup none wrote start begun.
    let begins = c.in_ok-put_slices.ensures start [] begun in
    let goes_on = c.in_ok-put_fields.ensures start _ begins in
    (text start _ goes_on, setup ∙ goes_on.setup, none, wrote))
    end.text end.setup end.fields end.wrote
