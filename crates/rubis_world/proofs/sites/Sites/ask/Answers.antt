use Rattle.rubis_world.proofs.Common.{rules, Ok}
use Rattle.rubis_model.specs.Site.{asked}
use Rattle.rubis_message.specs.declared.answers.Happened.TheVariants as happened
use Rattle.rubis_message.specs.declared.tokens.Packet.TheVariants as packet
use Rattle.rubis_world.proofs.Moves.{are_at_places, asked_alone, read_behind, sends_fault, sends_on}
use Rattle.rubis_world.proofs.sites.Sites.ask.Goals as goal

pub returns-in_err-message : goal.returns-in_err-message
returns-in_err-message g c = record {
  answers =
      sends_fault c.self.inside.keep c.self.inside.sites.items c.self.inside.packets.items c.args.site c.index_mut.result.now c.request.new.self c.args.self.now
      c.self.view_is c.requires.ready.there c.index_mut.ensures.value c.self.invariant
      packet.Msg (λ p s. asked p s c.args.ask) c.reserve.new.self.items c.in_err-message.field-0.0 c.from_residual-in_err-message.result
      c.from_residual-in_err-message.ensures c.in_err-message.ensures.step c.reserve.ensures.items;
  tables =
      asked_alone c.self.inside.keep c.self.inside.sites.items c.self.inside.packets.items c.args.site c.index_mut.result.now c.request.new.self c.args.self.now
      c.self.view_is c.requires.ready.there c.index_mut.ensures.value c.self.invariant
      c.reserve.new.self.items c.from_residual-in_err-message.result c.requires.ready.none_left
      (read_behind c.index_mut.result.now c.request.new.self c.in_err-message.field-0.0 c.from_residual-in_err-message.result
      c.from_residual-in_err-message.ensures c.in_err-message.ensures.fault);
}

pub invariant_of-self-2 : goal.invariant_of-self-2
invariant_of-self-2 g c =
    are_at_places c.self.inside.keep c.self.inside.sites.items c.self.inside.packets.items c.args.site c.index_mut.result.now c.request.new.self c.args.self.now
    c.self.view_is c.requires.ready.there c.index_mut.ensures.value c.self.invariant c.request.ensures.place

pub returns : goal.returns
returns g c = record {
  answers =
      sends_on c.self.inside.keep c.self.inside.sites.items c.self.inside.packets.items c.args.site c.index_mut.result.now c.request.new.self c.args.self.now
      c.self.view_is c.requires.ready.there c.index_mut.ensures.value c.self.invariant
      packet.Msg (λ p s. asked p s c.args.ask) c.push_reserved.new.self.items c.in_ok-message.message c.len.result c.in_ok-message.ensures.step (cc)
      (search rules);
  tables =
      asked_alone c.self.inside.keep c.self.inside.sites.items c.self.inside.packets.items c.args.site c.index_mut.result.now c.request.new.self c.args.self.now
      c.self.view_is c.requires.ready.there c.index_mut.ensures.value c.self.invariant
      c.push_reserved.new.self.items (Ok (happened.Sent c.len.result)) c.requires.ready.none_left (λ none e. absurd cc);
}
