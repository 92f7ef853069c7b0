use Rattle.std.proofs.Common.{◌+◌}
use Rattle.rubis_reading.specs.Streams.{state_of_csv}
use Rattle.rubis_reading.proofs.EndFacts.{none-after, quoted-none}
use Rattle.rubis_reading.proofs.QuoteFacts.{ends-from}
use Rattle.rubis_reading.proofs.cuts.last_line.Goals as goal

pub returns-then-is_quoted-clause-last : goal.returns-then-is_quoted-clause-last
returns-then-is_quoted-clause-last c = quoted-none (state_of_csv c.args.at) c.args.run.now _ c.if-is_quoted.ensures c.requires

pub returns-in-Some-clause-ends : goal.returns-in-Some-clause-ends
returns-in-Some-clause-ends c some =
    ends-from (state_of_csv c.args.at) c.args.run.now c.in-Some.last c.if-is_quoted.ensures c.requires c.in-Some.ensures.0.high c.in-Some.ensures.1

pub returns-in-Some-clause-last : goal.returns-in-Some-clause-last
returns-in-Some-clause-last c = none-after (state_of_csv c.args.at) c.args.run.now (c.in-Some.last + 1) c.in-Some.ensures.0.after

pub returns-in-None-clause-last : goal.returns-in-None-clause-last
returns-in-None-clause-last c = none-after (state_of_csv c.args.at) c.args.run.now 0 c.in-None.ensures
