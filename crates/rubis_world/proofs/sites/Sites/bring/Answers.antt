use Rattle.std.specs.Prelude.{Ok}
use Rattle.rubis_message.specs.declared.answers.Happened.TheVariants as happened
use Rattle.rubis_message.specs.declared.answers.Taken.{Taken}
use Rattle.rubis_model.specs.Site.{arrived, took}
use Rattle.rubis_world.proofs.Moves.{are_at_places, asked_alone, needs_none_behind, needs_none_never, never_behind, takes_fault, takes_in_behind}
use Rattle.rubis_world.proofs.Moves.{takes_in_never, takes_on}
use Rattle.rubis_world.proofs.sites.Sites.bring.Goals as goal

pub returns-in_err-arrival-in-Msg-clause-step : goal.returns-in_err-arrival-in-Msg-clause-step
returns-in_err-arrival-in-Msg-clause-step g c = record {
  answers =
      rw c.in-Msg.is (takes_fault c.self.inside.keep c.self.inside.sites.items c.self.inside.packets.items c.args.site c.index_mut.result.now c.arrive.new.self
      c.args.self.now c.self.view_is c.requires.ready.there c.index_mut.ensures.value c.self.invariant
      happened.Came (λ p s. arrived p s c.in-Msg.message) c.in_err-arrival-in-Msg.field-0.0 c.from_residual.result c.from_residual.ensures
      c.in_err-arrival-in-Msg.ensures.step);
  tables =
      asked_alone c.self.inside.keep c.self.inside.sites.items c.self.inside.packets.items c.args.site c.index_mut.result.now c.arrive.new.self c.args.self.now
      c.self.view_is c.requires.ready.there c.index_mut.ensures.value c.self.invariant
      c.self.inside.packets.items c.from_residual.result c.requires.ready.none_left
      (takes_in_behind c.index_mut.result.now c.arrive.new.self c.in_err-arrival-in-Msg.field-0.0 c.from_residual.result c.from_residual.ensures
      c.in_err-arrival-in-Msg.ensures.progress);
}

pub invariant_of-self-in-Msg : goal.invariant_of-self-in-Msg
invariant_of-self-in-Msg g c =
    are_at_places c.self.inside.keep c.self.inside.sites.items c.self.inside.packets.items c.args.site c.index_mut.result.now c.arrive.new.self c.args.self.now
    c.self.view_is c.requires.ready.there c.index_mut.ensures.value c.self.invariant c.arrive.ensures.place

pub returns-in_ok-arrival-in-Msg-clause-step : goal.returns-in_ok-arrival-in-Msg-clause-step
returns-in_ok-arrival-in-Msg-clause-step g c = record {
  answers =
      rw c.in-Msg.is (takes_on c.self.inside.keep c.self.inside.sites.items c.self.inside.packets.items c.args.site c.index_mut.result.now c.arrive.new.self
      c.args.self.now c.self.view_is c.requires.ready.there c.index_mut.ensures.value c.self.invariant
      happened.Came (λ p s. arrived p s c.in-Msg.message) c.in_ok-arrival-in-Msg.arrival c.in_ok-arrival-in-Msg.ensures.step);
  tables =
      asked_alone c.self.inside.keep c.self.inside.sites.items c.self.inside.packets.items c.args.site c.index_mut.result.now c.arrive.new.self c.args.self.now
      c.self.view_is c.requires.ready.there c.index_mut.ensures.value c.self.invariant
      c.self.inside.packets.items (Ok (happened.Came c.in_ok-arrival-in-Msg.arrival)) c.requires.ready.none_left (λ none e. absurd cc);
}

pub returns-in_err-arrival-in-Msg-clause-never : goal.returns-in_err-arrival-in-Msg-clause-never
returns-in_err-arrival-in-Msg-clause-never g c =
    never_behind c.self.inside.keep c.self.inside.sites.items c.self.inside.packets.items c.args.site c.index_mut.result.now c.arrive.new.self c.args.self.now
    c.self.view_is c.requires.ready.there c.index_mut.ensures.value c.self.invariant
    c.from_residual.result c.requires.ready.none_left
    (takes_in_never c.index_mut.result.now c.arrive.new.self c.in_err-arrival-in-Msg.field-0.0 c.from_residual.result c.from_residual.ensures
    c.in_err-arrival-in-Msg.ensures.progress)

pub returns-in_err-taken-in-Token-clause-step : goal.returns-in_err-taken-in-Token-clause-step
returns-in_err-taken-in-Token-clause-step g c = record {
  answers =
      rw c.in-Token.is (takes_fault c.self.inside.keep c.self.inside.sites.items c.self.inside.packets.items c.args.site c.index_mut-in-Token.result.now
      c.token.new.self c.args.self.now c.self.view_is c.requires.ready.there c.index_mut-in-Token.ensures.value c.self.invariant
      happened.Token (λ p s. took p s c.in-Token.token) c.in_err-taken-in-Token.field-0.0 c.from_residual-in_err-taken-in-Token.result
      c.from_residual-in_err-taken-in-Token.ensures c.in_err-taken-in-Token.ensures.step);
  tables =
      asked_alone c.self.inside.keep c.self.inside.sites.items c.self.inside.packets.items c.args.site c.index_mut-in-Token.result.now c.token.new.self
      c.args.self.now c.self.view_is c.requires.ready.there c.index_mut-in-Token.ensures.value c.self.invariant
      c.self.inside.packets.items c.from_residual-in_err-taken-in-Token.result c.requires.ready.none_left
      (needs_none_behind c.index_mut-in-Token.result.now c.token.new.self c.in_err-taken-in-Token.field-0.0 c.from_residual-in_err-taken-in-Token.result
      c.from_residual-in_err-taken-in-Token.ensures Taken c.in_err-taken-in-Token.ensures.progress);
}

pub invariant_of-self-in-Token : goal.invariant_of-self-in-Token
invariant_of-self-in-Token g c =
    are_at_places c.self.inside.keep c.self.inside.sites.items c.self.inside.packets.items c.args.site c.index_mut-in-Token.result.now c.token.new.self
    c.args.self.now c.self.view_is c.requires.ready.there c.index_mut-in-Token.ensures.value c.self.invariant c.token.ensures.place

pub returns-in_ok-taken-in-Token-clause-step : goal.returns-in_ok-taken-in-Token-clause-step
returns-in_ok-taken-in-Token-clause-step g c = record {
  answers =
      rw c.in-Token.is (takes_on c.self.inside.keep c.self.inside.sites.items c.self.inside.packets.items c.args.site c.index_mut-in-Token.result.now
      c.token.new.self c.args.self.now c.self.view_is c.requires.ready.there c.index_mut-in-Token.ensures.value c.self.invariant
      happened.Token (λ p s. took p s c.in-Token.token) c.in_ok-taken-in-Token.taken c.in_ok-taken-in-Token.ensures.step);
  tables =
      asked_alone c.self.inside.keep c.self.inside.sites.items c.self.inside.packets.items c.args.site c.index_mut-in-Token.result.now c.token.new.self
      c.args.self.now c.self.view_is c.requires.ready.there c.index_mut-in-Token.ensures.value c.self.invariant
      c.self.inside.packets.items (Ok (happened.Token c.in_ok-taken-in-Token.taken)) c.requires.ready.none_left (λ none e. absurd cc);
}

pub returns-in_err-taken-in-Token-clause-never : goal.returns-in_err-taken-in-Token-clause-never
returns-in_err-taken-in-Token-clause-never g c =
    never_behind c.self.inside.keep c.self.inside.sites.items c.self.inside.packets.items c.args.site c.index_mut-in-Token.result.now c.token.new.self
    c.args.self.now c.self.view_is c.requires.ready.there c.index_mut-in-Token.ensures.value c.self.invariant
    c.from_residual-in_err-taken-in-Token.result c.requires.ready.none_left
    (needs_none_never c.index_mut-in-Token.result.now c.token.new.self c.in_err-taken-in-Token.field-0.0 c.from_residual-in_err-taken-in-Token.result
    c.from_residual-in_err-taken-in-Token.ensures Taken c.in_err-taken-in-Token.ensures.progress)
