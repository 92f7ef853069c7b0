use Rattle.std.proofs.Common.{◌≢◌, ◌<◌, ◌-◌, ◌∙◌, length, get_or, drop, inl, inr, ap, arith, rules}
use Rattle.std.specs.Prelude.{false, true}
use Rattle.std.proofs.lemmas.List.{take_rest}
use Rattle.rubis_schema.specs.NumberForms.{number_of}
use Rattle.rubis_schema.specs.declared.limits.TheConstants.{SEQ_MAX}
use Rattle.rubis_schema.proofs.Before.{above_zero, digit_first, fails, id_no_seq, id_no_site, id_tested, no_digit_first, passes}
use Rattle.rubis_schema.proofs.ids.read_short.Goals as goal
use Rattle.rubis_schema.proofs.ids.read_short.Goals.{then-byte-lt48-via-then-byte-lt48, then-byte-lt48-via-else-byte-lt48+then-byte-gt57}

pub returns-then-byte-lt48 : goal.returns-then-byte-lt48
returns-then-byte-lt48 c =
    id_no_site c.args.sites c.args.bytes.now (no_digit_first c.args.bytes.now (elim c.then-byte-lt48.branch [
      | then-byte-lt48-via-then-byte-lt48 w ↦ inl w.if-byte-lt48.true
      | then-byte-lt48-via-else-byte-lt48+then-byte-gt57 w ↦ inr w.if-byte-gt57.true
    ]))

pub returns-in_err-seq : goal.returns-in_err-seq
returns-in_err-seq c =
    let bytes = c.args.bytes.now in
    let many : 1 < length bytes = omega (arith, c.requires.short.0) in
    c.from_residual.ensures
    ∙ id_no_seq c.args.sites (get_or bytes 0 0 - 48) bytes (drop 2 bytes)
    (digit_first bytes many c.requires.point c.if-byte-lt48.false c.if-byte-gt57.false)
    (c.in_err-seq.ensures ∙ ap (number_of SEQ_MAX) (take_rest bytes 2))

pub returns-then-site-sites : goal.returns-then-site-sites
returns-then-site-sites c =
    let bytes = c.args.bytes.now in
    let site = get_or bytes 0 0 - 48 in
    let many : 1 < length bytes = omega (arith, c.requires.short.0) in
    id_tested c.args.sites site c.in_ok-seq.seq bytes (drop 2 bytes) false
    (digit_first bytes many c.requires.point c.if-byte-lt48.false c.if-byte-gt57.false)
    (c.in_ok-seq.ensures ∙ ap (number_of SEQ_MAX) (take_rest bytes 2))
    (fails c.args.sites site c.in_ok-seq.seq (inl c.if-site-sites.true))

pub returns : goal.returns
returns c =
    let bytes = c.args.bytes.now in
    let site = get_or bytes 0 0 - 48 in
    let many : 1 < length bytes = omega (arith, c.requires.short.0) in
    let seq = c.in_ok-seq.ensures ∙ ap (number_of SEQ_MAX) (take_rest bytes 2) in
    let first : get_or (drop 2 bytes) 0 0 ≢ 48 = search rules in
    id_tested c.args.sites site c.in_ok-seq.seq bytes (drop 2 bytes) true
    (digit_first bytes many c.requires.point c.if-byte-lt48.false c.if-byte-gt57.false) seq
    (passes c.args.sites site c.in_ok-seq.seq (omega (arith, c.if-site-sites.false)) (above_zero SEQ_MAX (omega arith) (drop 2 bytes) c.in_ok-seq.seq seq first))
