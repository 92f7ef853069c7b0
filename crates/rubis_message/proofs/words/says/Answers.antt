use Rattle.std.proofs.Common.{sym, arith}
use Rattle.std.specs.Cmp.Lexicographic.{bytes_decides}
use Rattle.std.proofs.lemmas.List.{ext_get_or}
use Rattle.rubis_message.proofs.words.says.Goals as goal

-- two texts of one length, with the same byte at each place
pub returns : goal.returns
returns c =
    let long = c.if-field-word.false in
    let past = c.loop-at-test.false in
    sym ((bytes_decides c.args.field.now c.args.word.now).1
    (ext_get_or 0 c.args.field.now c.args.word.now long (λ k less. c.loop-at.invariant k (omega (arith, less, long, past)))))
