use Rattle.rubis_world.proofs.Common.{rules, Ok}
use Rattle.rubis_message.specs.declared.tokens.Token.{Token}
use Rattle.rubis_model.specs.Site.{passed}
use Rattle.rubis_message.specs.declared.answers.Happened.TheVariants as happened
use Rattle.rubis_message.specs.declared.tokens.Packet.TheVariants as packet
use Rattle.rubis_world.proofs.Moves.{are_at_places, asked_alone, never_behind, needs_none_behind, needs_none_never, sends_fault, sends_on}
use Rattle.rubis_world.proofs.sites.Sites.pass.Goals as goal

pub returns-in_err-token-clause-step : goal.returns-in_err-token-clause-step
returns-in_err-token-clause-step c = record {
  answers =
      sends_fault c.self.inside.keep c.self.inside.sites.items c.self.inside.packets.items c.args.site c.index_mut.result.now c.pass.new.self c.args.self.now
      c.self.view_is c.requires.there c.index_mut.ensures.value c.self.invariant
      packet.Token (λ p s. passed p s c.args.to) c.reserve.new.self.items c.in_err-token.field-0.0 c.from_residual-in_err-token.result
      c.from_residual-in_err-token.ensures c.in_err-token.ensures.step c.reserve.ensures.items;
  tables =
      asked_alone c.self.inside.keep c.self.inside.sites.items c.self.inside.packets.items c.args.site c.index_mut.result.now c.pass.new.self c.args.self.now
      c.self.view_is c.requires.there c.index_mut.ensures.value c.self.invariant
      c.reserve.new.self.items c.from_residual-in_err-token.result c.requires.none_left
      (needs_none_behind c.index_mut.result.now c.pass.new.self c.in_err-token.field-0.0 c.from_residual-in_err-token.result
      c.from_residual-in_err-token.ensures Token c.in_err-token.ensures.progress);
}

pub invariant_of-self-2 : goal.invariant_of-self-2
invariant_of-self-2 c =
    are_at_places c.self.inside.keep c.self.inside.sites.items c.self.inside.packets.items c.args.site c.index_mut.result.now c.pass.new.self c.args.self.now
    c.self.view_is c.requires.there c.index_mut.ensures.value c.self.invariant c.pass.ensures.place

pub returns-clause-step : goal.returns-clause-step
returns-clause-step c = record {
  answers =
      sends_on c.self.inside.keep c.self.inside.sites.items c.self.inside.packets.items c.args.site c.index_mut.result.now c.pass.new.self c.args.self.now
      c.self.view_is c.requires.there c.index_mut.ensures.value c.self.invariant
      packet.Token (λ p s. passed p s c.args.to) c.push_reserved.new.self.items c.in_ok-token.token c.len.result c.in_ok-token.ensures.step (cc) (search rules);
  tables =
      asked_alone c.self.inside.keep c.self.inside.sites.items c.self.inside.packets.items c.args.site c.index_mut.result.now c.pass.new.self c.args.self.now
      c.self.view_is c.requires.there c.index_mut.ensures.value c.self.invariant
      c.push_reserved.new.self.items (Ok (happened.Sent c.len.result)) c.requires.none_left (λ none e. absurd cc);
}

pub returns-in_err-token-clause-never : goal.returns-in_err-token-clause-never
returns-in_err-token-clause-never c =
    never_behind c.self.inside.keep c.self.inside.sites.items c.self.inside.packets.items c.args.site c.index_mut.result.now c.pass.new.self c.args.self.now
    c.self.view_is c.requires.there c.index_mut.ensures.value c.self.invariant
    c.from_residual-in_err-token.result c.requires.none_left
    (needs_none_never c.index_mut.result.now c.pass.new.self c.in_err-token.field-0.0 c.from_residual-in_err-token.result
    c.from_residual-in_err-token.ensures Token c.in_err-token.ensures.progress)
