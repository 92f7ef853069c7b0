use Rattle.rubis_release.proofs.Common.{◌≡◌, length, sym, ap, ◌∙◌, subst, rules, filter, is_some}
use Rattle.indexmap.proofs.CallerLemmas.{filter-RetainsPairs}
use Rattle.rubis_release.specs.Waiting.{Slots, somes, HaveTheirIds, AreApart}
use Rattle.rubis_release.proofs.Slots.{somes_kept, own_kept, full_kept}
use Rattle.rubis_release.proofs.waiting.close.Goals as goal

pub returns-then-none : goal.returns-then-none
returns-then-none c =
    let is = c.truncate.ensures.entries in
    record {
      same = ap somes is ∙ sym (c.requires c.if-none.true);
      own = λ h. subst HaveTheirIds (sym is) tt;
      apart = c.truncate.ensures.unique;
      full = ap (λ (es : Slots). length (somes es)) is ∙ sym (ap length is);
    }

pub returns : goal.returns
returns c =
    let es : Slots = c.args.slots.now.entries in
    let is : c.give_room_back.new.slots.entries ≡ filter (λ e. is_some e.1) es =
    c.give_room_back.ensures ∙ filter-RetainsPairs _ _ _ (λ k v b w g call. search rules) _ _ c.retain.ensures.filtered in
    record {
      same = ap somes is ∙ somes_kept es;
      own = λ h. subst HaveTheirIds (sym is) (own_kept es h);
      apart = subst AreApart (sym c.give_room_back.ensures) c.retain.ensures.unique;
      full = ap (λ (fs : Slots). length (somes fs)) is ∙ full_kept es ∙ sym (ap length is);
    }
