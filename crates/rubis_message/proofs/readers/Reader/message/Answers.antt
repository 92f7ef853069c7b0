use Rattle.std.proofs.Common.{sym, ◌∙◌, arith}
use Rattle.rubis_message.specs.Message.{stamp_of}
use Rattle.rubis_message.proofs.Records.{message_meets}
use Rattle.rubis_message.proofs.readers.Reader.message.Goals as goal

pub of-requires : goal.of-requires
of-requires g c =
    message_meets c.args.sites (omega arith) (omega arith) c.args.self.now c.stamp.new.self c.shadow.new.self
    (stamp_of c.in_ok-site.red c.stamp.new.deps c.in_ok-site.site) c.in_ok-shadow.shadow
    c.in_ok-site.ensures.ok c.in_ok-shadow.ensures (sym c.agree.ensures ∙ c.if-not-agree.false)
