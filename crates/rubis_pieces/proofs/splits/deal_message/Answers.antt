use Rattle.rubis_pieces.proofs.Common.{rules, arith, parts_of, core_of}
use Rattle.rubis_pieces.proofs.Dealt.{place_turn, place_past, message_end}
use Rattle.rubis_pieces.proofs.splits.deal_message.Goals as goal

pub loop-place-preserved-in_default : goal.loop-place-preserved-in_default
loop-place-preserved-in_default c = record {
  many = c.loop-place.invariant.many;
  dealt = place_past _ c.args.entry.now.number c.loop-place.place c.args.entry.now.id (parts_of (core_of c.args.entry.now))
      c.args.list.now.items c.loop-place.list.items
      (search rules) c.loop-place.invariant.dealt;
}

pub loop-place-preserved : goal.loop-place-preserved
loop-place-preserved c = record {
  many = search rules;
  dealt = place_turn _ c.args.entry.now.number c.loop-place.place _ c.args.entry.now.id (parts_of (core_of c.args.entry.now))
      c.in-Some.effect c.in_ok-effect.effect
      c.args.list.now.items c.loop-place.list.items c.deal.new.list.items c.loop-place.invariant.many (search rules) (search
      rules)
      c.loop-place.invariant.dealt c.in_ok-deal.ensures.dealt;
}

pub returns-clause-dealt : goal.returns-clause-dealt
returns-clause-dealt c =
    message_end _ c.args.entry.now.number c.loop-place.place (core_of c.args.entry.now) c.args.list.now.items
    c.loop-place.list.items (omega arith) c.loop-place.invariant.dealt
