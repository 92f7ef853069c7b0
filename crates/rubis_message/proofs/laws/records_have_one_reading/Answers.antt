use Rattle.rubis_message.proofs.Records.{apart, one_packet, one_request}
use Rattle.rubis_message.proofs.laws.records_have_one_reading.Goals as goal

pub returns : goal.returns
returns c = record { requests = one_request; packets = one_packet; apart = apart }
