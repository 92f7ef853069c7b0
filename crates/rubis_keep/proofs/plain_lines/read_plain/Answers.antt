use Rattle.std.proofs.Common.{◌≡◌, false, rules}
use Rattle.rubis_keep.specs.Lines.{is_marked}
use Rattle.rubis_keep.proofs.PlainFacts.{row-back}
use Rattle.rubis_keep.proofs.plain_lines.read_plain.Goals as goal

pub returns-then-is_written : goal.returns-then-is_written
returns-then-is_written c =
    let (written, some) = c.is_written.ensures c.if-is_written.true in
    let unmarked : is_marked c.args.line.now ≡ false = search rules in
    row-back c.in_ok-fields.fields c.args.line.now unmarked written some
