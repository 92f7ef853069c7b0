use Rattle.std.proofs.Common.{◌≤◌, length, rules}
use Rattle.rubis_keep.proofs.PlainFacts.{row-of}
use Rattle.rubis_keep.proofs.plain_lines.is_written.Goals as goal

pub returns-in-Some : goal.returns-in-Some
returns-in-Some c e =
    let some : 2 ≤ length c.args.fields.now = rw (← c.len.ensures) c.if-len-lt2.false in
    (row-of c.args.fields.now c.in-Some.ensures.text c.in-Some.ensures.plain some (search rules), some)
