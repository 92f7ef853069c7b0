use Rattle.std.proofs.Common.{◌≤◌, arith, length}
use Rattle.rubis_steps.proofs.Leading.{stream_list_more}
use Rattle.rubis_steps.proofs.shops.Shop.list_stream.Goals as goal

pub loop-self-preserved : goal.loop-self-preserved
loop-self-preserved c =
    let few : length c.loop-self.self.streams.items ≤ c.args.site = omega (arith, c.loop-self-test.true, c.len.ensures) in
    let more = stream_list_more c.args.self.now c.loop-self.self c.args.site c.push.new.self c.new.result c.in_ok-push.ensures.items c.new.ensures.items few
    c.loop-self.invariant.same c.loop-self.invariant.here in
    record { same = more.0; here = more.1 }
