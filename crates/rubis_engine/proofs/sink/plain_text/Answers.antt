use Rattle.std.proofs.Common.{◌∙◌, map, sym}
use Rattle.rubis_engine.proofs.RowFacts.{found-makes, if-found}
use Rattle.rubis_engine.proofs.sink.plain_text.Goals as goal

pub returns-clause-row : goal.returns-clause-row
returns-clause-row c =
    let first = map (λ f. f.now) c.args.first.now in
    let found = c.plain_text.ensures in
    let makes = found-makes first c.args.fields.now c.plain_text.result found.text found.plain (sym c.are_plain.ensures ∙ c.if-not-are_plain.false)
    (rw (← c.len.ensures) c.if-len-lt2.false) in
    if-found c.plain_text.result _ _ (λ text h. h.0) makes

pub returns-clause-some : goal.returns-clause-some
returns-clause-some c =
    let first = map (λ f. f.now) c.args.first.now in
    let found = c.plain_text.ensures in
    let makes = found-makes first c.args.fields.now c.plain_text.result found.text found.plain (sym c.are_plain.ensures ∙ c.if-not-are_plain.false)
    (rw (← c.len.ensures) c.if-len-lt2.false) in
    if-found c.plain_text.result _ _ (λ text h. h.1) makes
