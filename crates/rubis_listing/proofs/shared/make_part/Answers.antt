use Rattle.std.proofs.Common.{[], ◌+◌, ◌*◌, subst}
use Rattle.rubis_listing.specs.Parts.{between}
use Rattle.rubis_listing.proofs.shared.make_part.Goals as goal

pub returns : goal.returns
returns g c =
    let laws = g.met.S.SharedSink g.world.𝓛 g.world.𝓜 g.world.𝓡 ((λ s x. x), (λ x. x), (λ x. x), λ x. x) in
    let first = c.args.from + c.args.at * 512 in
    let part = c.put.new.sink in
    subst (λ n. g.S.SharedSink.holds (between c.args.source.now first (first + n)) part) c.min.ensures
    (laws.holds_more [] (between c.args.source.now first (first + c.min.result)) c.empty-part.result part c.empty-part.ensures c.in_ok-put.ensures)
