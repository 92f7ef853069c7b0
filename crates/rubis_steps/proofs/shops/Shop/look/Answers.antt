use Rattle.std.proofs.Common.{◌≡◌, ◌∙◌, ◌≤◌, ◌<◌, refl, sym, ap, subst, get_or, List, length}
use Rattle.std.proofs.lemmas.Bool.{ltb-true}
use Rattle.rubis_steps.specs.declared.folders.Folder.{Folder as CodeFolder}
use Rattle.rubis_steps.proofs.Leading.{folder_past, folder_read}
use Rattle.rubis_steps.proofs.shops.Shop.look.Goals as goal

pub returns-in-Some : goal.returns-in-Some
returns-in-Some g c =
    let fs = c.args.self.now.folders.items in
    let k = c.args.folder in
    let it = c.in-Some.it.now in
    let found = c.in-Some.ensures.lookup in
    let lt : k < length fs = subst (λ (fs : List CodeFolder). k < length fs) c.deref.ensures.value (ltb-true k (length c.deref.result.now) (sym found.0)) in
    let read : it ≡ get_or fs k it = found.1 ∙ ap (λ fs. get_or fs k it) c.deref.ensures.value in
    (it, sym (folder_read fs k lt read), record { shown = c.in-Some.it; shows = refl; says = record { met = c.test.ensures } })

pub returns : goal.returns
returns g c =
    let s = c.args.self.now in
    let k = c.args.folder in
    let out : length s.folders.items ≤ k = subst (λ (fs : List CodeFolder). length fs ≤ k) c.deref.ensures.value c.in-None.ensures.lookup.3 in (
      c.new.result,
      c.new.ensures ∙ sym (folder_past s.folders.items k out),
      record { shown = _; shows = refl; says = record { met = c.test-in-None.ensures } },
    )
