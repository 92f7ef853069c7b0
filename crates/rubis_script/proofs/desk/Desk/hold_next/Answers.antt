use Rattle.std.proofs.Common.{◌≡◌, ◌∙◌, ◌++◌, ◌+◌, ◌∷◌, [], ap, sym}
use Rattle.std.specs.Result.{is_ok}
use Rattle.rubis_script.specs.Desks.{left_at}
use Rattle.rubis_script.specs.Windows.{made_of_held}
use Rattle.rubis_script.proofs.DeskFacts.{held-pushed}
use Rattle.rubis_script.proofs.LeadFacts.{settled_steps}
use Rattle.rubis_script.proofs.WindowFacts.{holds_more, kept_answers}
use Rattle.rubis_script.proofs.desk.Desk.hold_next.Goals as goal

pub invariant_of-self-clause-same : goal.invariant_of-self-clause-same
invariant_of-self-clause-same g c = c.make_room.new.self.same

pub invariant_of-self-clause-held : goal.invariant_of-self-clause-held
invariant_of-self-clause-held g c =
    let mid = c.make_room.new.self in
    held-pushed (is_ok c.push.result) mid.window.items c.push.new.self.items c.args.message mid.sites c.push.ensures.items mid.held
    (c.requires ∙ sym (mid.same ∙ ap (λ p. p.sites) c.in_ok-make_room.ensures.same.0))

pub returns-clause-takes : goal.returns-clause-takes
returns-clause-takes g c =
    let d = c.args.self.now in
    let mid = c.make_room.new.self in
    let left = mid.window.items in
    let n = c.args.reply.now.number in
    let sink = c.args.reply.now.sink in
    let sink2 = c.make_room.new.reply.sink in
    let kept = c.in_ok-make_room.ensures.kept in
    let place = c.in_ok-make_room.ensures.same.0 in
    let items : c.push.new.self.items ≡ left ++ c.args.message ∷ [] = rw c.if-is_err.ensures.negation at c.push.ensures.items in
    record {
      text = λ fields is. kept_answers (left_at d n) (made_of_held mid.site left mid.first n) (made_of_held mid.site c.push.new.self.items mid.first (n + 1))
          sink sink2 sink2 fields (kept.text n)
          (rw items (holds_more mid.site mid.first n left c.args.message fields sink2 c.in_ok-make_room.ensures.next.0 (rw place is)));
      leads = settled_steps d.site mid.site n d.window.items left c.push.new.self.items c.args.message kept.leads items;
    }
