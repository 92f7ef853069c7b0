use Rattle.std.proofs.Common.{sym, ap, ◌∙◌}
use Rattle.rubis_shard.proofs.InMaps.{found_at, found_there, four}
use Rattle.rubis_shard.proofs.row_map.Rows.row.Goals as goal

pub returns-in-User : goal.returns-in-User
unfolding found_at
returns-in-User c =
    c.get.ensures.value ∙ ap (found_at (four c.args.self.now)) (sym c.in-User.is)
    ∙ sym (found_there (four c.args.self.now) c.args.key.now c.place_of.result c.place_of.ensures.placed c.place_of.ensures.key)

pub returns-in-Other : goal.returns-in-Other
unfolding found_at
returns-in-Other c =
    c.get-in-Other.ensures.value ∙ ap (found_at (four c.args.self.now)) (sym c.in-Other.is)
    ∙ sym (found_there (four c.args.self.now) c.args.key.now c.place_of.result c.place_of.ensures.placed c.place_of.ensures.key)

pub returns-in-Nick : goal.returns-in-Nick
unfolding found_at
returns-in-Nick c =
    c.get-in-Nick.ensures.value ∙ ap (found_at (four c.args.self.now)) (sym c.in-Nick.is)
    ∙ sym (found_there (four c.args.self.now) c.args.key.now c.place_of.result c.place_of.ensures.placed c.place_of.ensures.key)

pub returns-in-Cat : goal.returns-in-Cat
unfolding found_at
returns-in-Cat c =
    c.get-in-Cat.ensures.value ∙ ap (found_at (four c.args.self.now)) (sym c.in-Cat.is)
    ∙ sym (found_there (four c.args.self.now) c.args.key.now c.place_of.result c.place_of.ensures.placed c.place_of.ensures.key)
