use Rattle.std.proofs.Common.{◌∙◌, ◌≤◌, ap, arith, length}
use Rattle.rubis_carrier.specs.Shops.{empty}
use Rattle.rubis_steps.proofs.Leading.{list_more}
use Rattle.rubis_steps.proofs.shops.Shop.list.Goals as goal

pub loop-self-preserved : goal.loop-self-preserved
loop-self-preserved c =
    let few : length c.loop-self.self.folders.items ≤ c.args.folder = omega (arith, c.loop-self-test.true, c.len.ensures) in
    let more = list_more c.args.self.now c.loop-self.self c.args.folder c.push.new.self c.new-next.result c.in_ok-push.ensures.items
    (c.new-next.ensures ∙ ap empty (c.len-in-loop-self.ensures ∙ c.loop-self.self.folders.ok.0)) few c.loop-self.invariant.same c.loop-self.invariant.here in
    record { same = more.0; here = more.1 }
