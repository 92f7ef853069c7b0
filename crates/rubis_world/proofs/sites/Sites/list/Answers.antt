use Rattle.std.specs.Prelude.{Ok}
use Rattle.rubis_message.specs.declared.answers.Happened.TheVariants as happened
use Rattle.rubis_world.proofs.Moves.{are_at_places, asked_alone, lists_behind, shows_fault, shows_on}
use Rattle.rubis_world.proofs.sites.Sites.list.Goals as goal

pub returns-in_err-rows-clause-step : goal.returns-in_err-rows-clause-step
returns-in_err-rows-clause-step g c =
    shows_fault c.self.inside.keep c.self.inside.sites.items c.self.inside.packets.items c.args.site c.index_mut.result.now c.list.new.self c.args.self.now
    c.self.view_is c.requires.site c.index_mut.ensures.value c.self.invariant
    c.args.listing.now c.in_err-rows.field-0.0 c.from_residual.result c.from_residual.ensures c.in_err-rows.ensures.step

pub invariant_of-self-2 : goal.invariant_of-self-2
invariant_of-self-2 g c =
    are_at_places c.self.inside.keep c.self.inside.sites.items c.self.inside.packets.items c.args.site c.index_mut.result.now c.list.new.self c.args.self.now
    c.self.view_is c.requires.site c.index_mut.ensures.value c.self.invariant c.list.ensures.place

pub returns-clause-step : goal.returns-clause-step
returns-clause-step g c =
    shows_on c.self.inside.keep c.self.inside.sites.items c.self.inside.packets.items c.args.site c.index_mut.result.now c.list.new.self c.args.self.now
    c.self.view_is c.requires.site c.index_mut.ensures.value c.self.invariant
    c.args.listing.now c.in_ok-rows.rows c.in_ok-rows.ensures.step

pub returns-in_err-rows-clause-tables : goal.returns-in_err-rows-clause-tables
returns-in_err-rows-clause-tables g c =
    asked_alone c.self.inside.keep c.self.inside.sites.items c.self.inside.packets.items c.args.site c.index_mut.result.now c.list.new.self c.args.self.now
    c.self.view_is c.requires.site c.index_mut.ensures.value c.self.invariant
    c.self.inside.packets.items c.from_residual.result c.requires.ready
    (lists_behind c.index_mut.result.now c.list.new.self c.in_err-rows.field-0.0 c.from_residual.result c.from_residual.ensures _ c.args.listing.now
    c.in_err-rows.ensures.progress)

pub returns-clause-tables : goal.returns-clause-tables
returns-clause-tables g c =
    asked_alone c.self.inside.keep c.self.inside.sites.items c.self.inside.packets.items c.args.site c.index_mut.result.now c.list.new.self c.args.self.now
    c.self.view_is c.requires.site c.index_mut.ensures.value c.self.invariant
    c.self.inside.packets.items (Ok (happened.Rows c.in_ok-rows.rows)) c.requires.ready (λ none e. absurd cc)
