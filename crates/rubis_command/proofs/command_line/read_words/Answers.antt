use Rattle.std.proofs.Common.{inl, inr, map, string_bytes, subst}
use Rattle.clap.specs.Words.{fault_of, kind_of}
use Rattle.rubis_command.specs.CommandLine.{IsFaultAmong, command_line}
use Rattle.rubis_command.proofs.command_line.read_words.Goals as goal

pub returns-in-Err-Words-clause-status : goal.returns-in-Err-Words-clause-status
returns-in-Err-Words-clause-status g c =
    let among = subst (IsFaultAmong (fault_of command_line (map string_bytes c.args.words.now))) c.in-Err-Words.field-0-is c.in-Err-Words.ensures.fault in
    inr (inl (kind_of c.in-Err-Words.error, among, c.tell.ensures))
