use Rattle.std.proofs.Common.{subst, sym}
use Rattle.rubis_reading.specs.Streams.{state_of_csv, IsLike, stands}
use Rattle.rubis_reading.proofs.QuoteFacts.{none-length, over-none, over-quoted, over-run, some-length}
use Rattle.rubis_reading.proofs.cuts.over.Goals as goal

pub returns-then-is_quoted : goal.returns-then-is_quoted
returns-then-is_quoted c = over-quoted (state_of_csv c.args.at) c.args.run.now c.if-is_quoted.ensures c.requires

pub returns-then-is_empty : goal.returns-then-is_empty
returns-then-is_empty c = over-none (state_of_csv c.args.at) c.args.run.now (none-length c.args.run.now c.if-is_empty.ensures)

pub returns : goal.returns
returns c = subst (λ s. IsLike s (stands (state_of_csv c.args.at) c.args.run.now)) (sym c.in_field.ensures)
    (over-run (state_of_csv c.args.at) c.args.run.now c.if-is_quoted.ensures c.requires (some-length c.args.run.now c.if-is_empty.ensures))
