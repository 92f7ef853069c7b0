use Rattle.std.proofs.Common.{arith}
use Rattle.rubis_message.proofs.Records.{packet_is, request_is}
use Rattle.rubis_message.proofs.laws.records_are_read_as_written.Goals as goal

pub returns : goal.returns
returns c = record { requests = request_is; packets = λ sites top. packet_is sites (omega (arith, top)) top }
