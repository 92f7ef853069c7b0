use Rattle.std.proofs.Common.{◌≡◌, subst, sym}
use Rattle.std.specs.List.{All}
use Rattle.rubis_message.specs.Message.{Message, sites_of}
use Rattle.rubis_growths.proofs.Lists.{of_rest}
use Rattle.rubis_growths.proofs.peers.Peer.take_in.Goals as goal

pub invariant_of-result : goal.invariant_of-result
invariant_of-result g c =
    let first = c.arrive_all-answers.ensures.first in
    let all = subst (All (λ (m : Message). sites_of m ≡ 2)) first.parts c.args.window.two in
    let rest = of_rest (λ (m : Message). sites_of m ≡ 2) first.taken c.arrive_all-answers.result.rest all in
    record { two = subst (All (λ (m : Message). sites_of m ≡ 2)) (sym c.into-messages.ensures) rest }
