use Rattle.csv.specs.Records.{fields_of}
use Rattle.rubis_engine.proofs.ReadingFacts.{holds-fewer, holds-takes}
use Rattle.rubis_engine.proofs.input_record.InputRecord.read_from.Goals as goal

pub returns-clause-takes : goal.returns-clause-takes
returns-clause-takes g c =
    holds-takes g.R.Read.remaining c.args.reader.now c.read_byte_record.new.self c.in-Ok.found (fields_of c.read_byte_record.new.row)
    c.in-Ok.ensures.ready c.in-Ok.ensures.reads

pub returns-clause-fewer : goal.returns-clause-fewer
returns-clause-fewer g c =
    holds-fewer g.R.Read.remaining c.args.reader.now c.read_byte_record.new.self c.in-Ok.found (fields_of c.read_byte_record.new.row) c.in-Ok.ensures.reads
