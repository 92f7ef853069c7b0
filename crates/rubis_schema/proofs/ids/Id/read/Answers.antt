use Rattle.std.proofs.Common.{inl, inr, ap, ◌∙◌, arith}
use Rattle.std.specs.Prelude.{true, false}
use Rattle.rubis_schema.specs.NumberForms.{number_of}
use Rattle.rubis_schema.specs.FieldForms.{number_before}
use Rattle.rubis_schema.proofs.Before.{id_no_site, id_no_seq, id_tested, fails, passes}
use Rattle.rubis_schema.proofs.ids.Id.read.Goals as goal

pub returns-in_err-site : goal.returns-in_err-site
returns-in_err-site c =
    c.from_residual.ensures
    ∙ id_no_site c.args.sites c.args.bytes.now
    (c.in_err-site.ensures.value ∙ ap (λ n. number_before 46 n c.args.bytes.now) c.from.ensures)

pub returns-in_err-seq : goal.returns-in_err-seq
returns-in_err-seq c =
    c.from_residual-in_err-seq.ensures
    ∙ id_no_seq c.args.sites c.in_ok-site.site c.args.bytes.now c.in_ok-site.digits.now
    (c.in_ok-site.ensures.value ∙ ap (λ n. number_before 46 n c.args.bytes.now) c.from.ensures)
    (c.in_err-seq.ensures.value ∙ ap (λ n. number_of n c.in_ok-site.digits.now) c.from-2.ensures)

pub returns-then-site-from : goal.returns-then-site-from
returns-then-site-from c =
    let wide = c.from-3.ensures in
    id_tested c.args.sites c.in_ok-site.site c.in_ok-seq.seq c.args.bytes.now c.in_ok-site.digits.now false
    (c.in_ok-site.ensures.value ∙ ap (λ n. number_before 46 n c.args.bytes.now) c.from.ensures)
    (c.in_ok-seq.ensures.value ∙ ap (λ n. number_of n c.in_ok-site.digits.now) c.from-2.ensures)
    (fails c.args.sites c.in_ok-site.site c.in_ok-seq.seq (elim c.then-site-from.either [
      | inl past ↦ inl (omega (arith, past, wide))
      | inr none ↦ inr none.1
    ]))

pub returns : goal.returns
returns c =
    let wide = c.from-3.ensures in
    let below = c.if-site-from.false in
    let some = c.if-seq-eq0.false in
    id_tested c.args.sites c.in_ok-site.site c.in_ok-seq.seq c.args.bytes.now c.in_ok-site.digits.now true
    (c.in_ok-site.ensures.value ∙ ap (λ n. number_before 46 n c.args.bytes.now) c.from.ensures)
    (c.in_ok-seq.ensures.value ∙ ap (λ n. number_of n c.in_ok-site.digits.now) c.from-2.ensures)
    (passes c.args.sites c.in_ok-site.site c.in_ok-seq.seq (omega arith) (omega arith))
