use Rattle.rubis_engine.proofs.ReadBack.{rows_back, sent_line}
use Rattle.rubis_engine.proofs.lines.sent_lines_are_read_as_sent.Goals as goal

pub returns-clause-sent : goal.returns-clause-sent
returns-clause-sent c = sent_line

pub returns-clause-read : goal.returns-clause-read
returns-clause-read c = rows_back
