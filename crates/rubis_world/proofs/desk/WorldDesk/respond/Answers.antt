use Rattle.rubis_world.proofs.Common.{rules, ◌≡◌, Some, length, on_ok_weaker, world_input, Asked, Delivered, At, Deliver}
use Rattle.rubis_world.proofs.desk.WorldDesk.respond.Goals as goal

pub returns-in-Asked-default-Some : goal.returns-in-Asked-default-Some
returns-in-Asked-default-Some g c =
    let site = c.in-Asked-default-Some.site in
    let request = c.in-Asked-default-Some.request in
    let read : world_input (length c.args.self.now.world.world.sites) c.args.fields.now ≡ Asked site (Some request) = search rules in
    rw read (on_ok_weaker c.tell.result (λ told. told c.args.self.now.world (At site request) c.at-came.ensures.answers.step) c.tell.ensures)

pub returns-in-Delivered : goal.returns-in-Delivered
returns-in-Delivered g c =
    let site = c.in-Delivered.site in
    let which = c.in-Delivered.which in
    let read : world_input (length c.args.self.now.world.world.sites) c.args.fields.now ≡ Delivered site which = search rules in
    rw read (on_ok_weaker c.tell-in-Delivered.result (λ told. told c.args.self.now.world (Deliver site which) c.deliver-came.ensures.answers.step)
    c.tell-in-Delivered.ensures)
