use Rattle.rubis_audit.proofs.Common.{◌∙◌, ap, sym, Some, None, cond, ◌==◌, option_or, same_id}
use Rattle.std.proofs.lemmas.Result.{on_ok_weaker}
use Rattle.rubis_audit.proofs.Judging.{by_id_push, by_red_push, more_formed, none_known, seen_known}
use Rattle.rubis_audit.proofs.seen.Seen.note.Goals as goal

pub returns : goal.returns
returns c =
    let m = c.args.message.now in
    on_ok_weaker c.note_red.result (λ reds all h clear. record {
      formed = more_formed all m h.formed c.requires.conditions;
      ids = λ i. c.in_ok-note_id.ensures i ∙ ap (λ o. option_or o (cond (same_id i m.stamp.id) (Some m) None)) (h.ids i) ∙ sym (by_id_push i all m);
      reds = λ r. reds r ∙ ap (λ o. option_or o (cond (r == m.stamp.red) (Some m) None)) (h.reds r) ∙ sym (by_red_push r all m);
    }) c.note_red.ensures

pub returns-then-is_some : goal.returns-then-is_some
returns-then-is_some c = λ all h clear. seen_known c.args.self.now c.args.known all c.args.message.now
    (sym c.is_some.ensures ∙ c.if-is_some.true) c.requires.known h clear

pub note_id-requires : goal.note_id-requires
note_id-requires c = none_known c.args.known _ (sym c.is_some.ensures ∙ c.if-is_some.false) c.requires.known
