use Rattle.std.proofs.Common.{◌≡◌, Some, arith, rules}
use Rattle.rubis_message.specs.Readings.{request_of}
use Rattle.rubis_message.proofs.Records.{request_is}
use Rattle.rubis_message.proofs.readers.Reader.request_left.Goals as goal

pub returns-clause-limits : goal.returns-clause-limits
unfolding request_of
returns-clause-limits g c =
    let is : request_of c.args.sites c.args.self.now ≡ Some c.in_ok-request.request = search rules in
    ((request_is c.args.sites (omega arith) c.args.self.now c.in_ok-request.request).0 is).0
