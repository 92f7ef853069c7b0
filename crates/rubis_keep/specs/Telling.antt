-- Histories that grow, and what is told one after the other.
use Rattle.std.proofs.Common.{◌≡◌, ◌∙◌, ◌++◌, ◌∷◌, [], ℕ, Bool, List, Option, Some, None, append_assoc, ap, cond, refl, subst, sym}
use Rattle.std.proofs.lemmas.List.{append-nil}
use Rattle.rubis_keep.specs.History.{Answers, FolderEvent, Grows, History, Tells, told_of}
use Rattle.rubis_keep.specs.History.FolderEvent.{Shown, Told}

pub grows-none : (a : Option History) → Grows a a []
grows-none None = tt
grows-none (Some h) = ap (λ (es : List FolderEvent). record { start = h.start; events = es }) (sym (append-nil h.events))

pub grows-more : (a b c : Option History) (xs ys : List FolderEvent) → Grows a b xs → Grows b c ys → Grows a c (xs ++ ys)
grows-more None b c xs ys f g = tt
grows-more (Some h) None c xs ys f g = absurd f
grows-more (Some h) (Some h2) None xs ys f g = absurd g
grows-more (Some h) (Some h2) (Some h3) xs ys f g =
    g ∙ ap (λ (t : History). record { start = t.start; events = t.events ++ ys }) f
    ∙ ap (λ (es : List FolderEvent). record { start = h.start; events = es }) (append_assoc h.events xs ys)

pub answers-append : (live : Bool) (xs ys : List FolderEvent) (due mid due2 : List ℕ) → Answers live xs due mid → Answers live ys mid due2
    → Answers live (xs ++ ys) due due2
answers-append live [] ys due mid due2 a b = subst (λ d. Answers live ys d due2) a b
answers-append live (Told c ∷ xs) ys due mid due2 a b = answers-append live xs ys (cond live (due ++ c ∷ []) due) mid due2 a b
answers-append live (Shown c ∷ xs) ys due mid due2 a b = (a.0, a.1, answers-append live xs ys a.0 mid due2 a.2 b)
answers-append live (e ∷ xs) ys due mid due2 a b = absurd a

pub told-append : (xs ys : List FolderEvent) → told_of (xs ++ ys) ≡ told_of xs ++ told_of ys
told-append [] ys = refl
told-append (Told b ∷ xs) ys = ap (λ t. b ∷ t) (told-append xs ys)
told-append (e ∷ xs) ys = told-append xs ys

pub tells-more : (live : Bool) (a b c : Option History) {xs ys due : List ℕ} → Tells live a b xs [] → Tells live b c ys due → Tells live a c (xs ++ ys) due
tells-more live a b c {xs} {due} f g = (
  f.0 ++ g.0,
  grows-more a b c f.0 g.0 f.1 g.1,
  answers-append live f.0 g.0 [] [] due f.2 g.2,
  told-append f.0 g.0 ∙ ap (λ t. t ++ told_of g.0) f.3 ∙ ap (λ t. xs ++ t) g.3,
)

pub tells-none : (live : Bool) (a : Option History) → Tells live a a [] []
tells-none live a = ([], grows-none a, refl, refl)
