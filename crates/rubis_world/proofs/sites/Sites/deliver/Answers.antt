use Rattle.rubis_world.proofs.Common.{rules, ◌≡◌, Some, length, packet_at}
use Rattle.rubis_world.proofs.Moves.{is_deliverable}
use Rattle.rubis_world.proofs.sites.Sites.deliver.Goals as goal

pub bring-requires-clause-fits : goal.bring-requires-clause-fits
bring-requires-clause-fits g c κs h =
    let there : packet_at c.args.self.now.world.sent c.args.number ≡ Some c.in-Some.packet.now = search rules in
    is_deliverable (length c.args.self.now.world.sites) c.args.self.now.world.sent c.args.number c.in-Some.packet.now c.in_ok-packet.packet c.requires there
    c.in_ok-packet.ensures
