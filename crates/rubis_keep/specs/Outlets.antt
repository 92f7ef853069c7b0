-- The answers of a site are an outlet.
use Rattle.std.proofs.Common.{◌≡◌, ◌∙◌, ◌⊎◌, ◌+◌, ◌++◌, ◌==◌, [], ◌∷◌, ℕ, List, Option, Some, None, inl, inr, refl, sym, ap, arith, subst, append_assoc}
use Rattle.std.proofs.Common.{length, length-append}
use Rattle.std.proofs.lemmas.List.{append-nil}
use Rattle.std.proofs.lemmas.List.Elements.{filter-append}
use Rattle.rubis_serving.specs.Outlets.{IsOutlet}
use Rattle.rubis_keep.specs.Turns.{CountsOn, HasPut, HasTorn, HasTornOff, IsPutOver, PutsFront, PutsOver}
use Rattle.rubis_keep.specs.Faults.{CountsLines, ends_in}
use Rattle.rubis_keep.specs.History.{History, Tells}
use Rattle.rubis_keep.specs.Telling.{tells-more, tells-none}
use Rattle.rubis_keep.specs.declared.answers.Answers.{Answers}

pub none-left : (xs ys : List ℕ) → xs ++ ys ≡ [] → xs ≡ []
none-left [] ys e = refl
none-left (x ∷ xs) ys e = absurd (cc e)

pub none-right : (xs ys : List ℕ) → xs ++ ys ≡ [] → ys ≡ []
none-right [] ys e = e
none-right (x ∷ xs) ys e = absurd (cc e)

-- ---- texts that are put one after the other

over-none : (old : List ℕ) → IsPutOver old old [] []
over-none old = (append-nil old, inl refl)

over-more : (old left left2 added added2 text text2 : List ℕ) → IsPutOver old left added text → IsPutOver left left2 added2 text2
    → IsPutOver old left2 (added ++ added2) (text ++ text2)
over-more old left left2 added added2 text text2 (e, one) (f, two) = (
  sym (append_assoc old added added2) ∙ ap (λ t. t ++ added2) e ∙ append_assoc text left added2 ∙ ap (λ t. text ++ t) f ∙ sym (append_assoc text text2 left2),
  ends one two,
)
  where
    ends : (added ≡ []) ⊎ (left ≡ []) → (added2 ≡ []) ⊎ (left2 ≡ []) → (added ++ added2 ≡ []) ⊎ (left2 ≡ [])
    ends one (inr none) = inr none
    ends (inl none) (inl none2) = inl (λ i. none i ++ none2 i)
    ends (inr none) (inl none2) = inr (none-right text2 left2 (sym f ∙ (λ i. none i ++ none2 i)))

pub over-text : (a b c : Option (List ℕ)) (added added2 text text2 : List ℕ) → PutsOver a b added text → PutsOver b c added2 text2
    → PutsOver a c (added ++ added2) (text ++ text2)
over-text None b c added added2 text text2 f g = tt
over-text (Some old) b c added added2 text text2 f g =
    let h = subst (λ o. PutsOver o c added2 text2) f.1 g in
    (h.0, h.1, over-more old f.0 h.0 added added2 text text2 f.2 h.2)

pub over-no_text : (before : Option (List ℕ)) → PutsOver before before [] []
over-no_text None = tt
over-no_text (Some old) = (old, refl, over-none old)

pub ends-append : (xs ys : List ℕ) → ends_in (xs ++ ys) ≡ ends_in xs + ends_in ys
ends-append xs ys = ap length (filter-append (λ b. b == 10) xs ys) ∙ length-append _ _

pub counts-none : (lines : ℕ) → CountsOn lines lines [] []
counts-none lines none few = omega arith

pub counts-both : (a b c : ℕ) (xs ys : List ℕ) → CountsLines a b xs → CountsLines b c ys → CountsLines a c (xs ++ ys)
counts-both a b c xs ys f g few =
    let size = ends-append xs ys in
    let first = f (omega (arith, few, size)) in
    let second = g (omega (arith, few, size, first)) in
    omega (arith, size, first, second)

pub counts-more : (a b c : ℕ) (added added2 text text2 : List ℕ) → CountsOn a b added text → CountsOn b c added2 text2
    → CountsOn a c (added ++ added2) (text ++ text2)
counts-more a b c added added2 text text2 f g none =
    counts-both a b c text text2 (f (none-left added added2 none)) (g (none-right added added2 none))

pub front-none : (before : Option (List ℕ)) (text : List ℕ) → PutsFront before [] text
front-none None text = tt
front-none (Some old) text = inl refl

-- ---- the answers of a site

module _ {O F : Type 0} {before : O → Option (List ℕ)} {history : F → Option History} where
  pub put-none : (a : Answers O F) → HasPut before history [] a a
  put-none a = record {
    added = [];
    over = over-no_text (before a.before);
    counted = counts-none a.lines;
    told = tells-none a.is_live (history a.files);
    live = refl;
    fault = refl;
  }

  pub put-more : (xs ys : List ℕ) (a b c : Answers O F) → HasPut before history xs a b → HasPut before history ys b c → HasPut before history (xs ++ ys) a c
  put-more xs ys a b c p q = record {
    added = p.added ++ q.added;
    over = over-text (before a.before) (before b.before) (before c.before) p.added q.added xs ys p.over q.over;
    counted = counts-more a.lines b.lines c.lines p.added q.added xs ys p.counted q.counted;
    told = tells-more a.is_live (history a.files) (history b.files) (history c.files) p.told
        (subst (λ l. Tells l (history b.files) (history c.files) q.added []) p.live q.told);
    live = q.live ∙ p.live;
    fault = q.fault ∙ p.fault;
  }

  pub torn-none : (xs : List ℕ) (a : Answers O F) → HasTorn before history xs a a
  torn-none xs a = record {
    added = [];
    front = front-none (before a.before) xs;
    due = [];
    told = tells-none a.is_live (history a.files);
    noted = inl refl;
  }

  pub off-at : (xs : List ℕ) (a b : Answers O F) → HasTorn before history xs a b → HasTornOff before history xs a b
  off-at xs a b t = record { front = []; next = xs; later = []; parts = append-nil xs; mid = a; put = put-none a; torn = t }

  pub off-none : (xs : List ℕ) (a : Answers O F) → HasTornOff before history xs a a
  off-none xs a = off-at xs a a (torn-none xs a)

  pub off-later : (xs ys : List ℕ) (a b c : Answers O F) → HasPut before history xs a b → HasTornOff before history ys b c
      → HasTornOff before history (xs ++ ys) a c
  off-later xs ys a b c p t = record {
    front = xs ++ t.front;
    next = t.next;
    later = t.later;
    parts = append_assoc xs t.front (t.next ++ t.later) ∙ ap (λ r. xs ++ r) t.parts;
    mid = t.mid;
    put = put-more xs t.front a b t.mid p t.put;
    torn = t.torn;
  }

  pub off-longer : (xs ys : List ℕ) (a b : Answers O F) → HasTornOff before history xs a b → HasTornOff before history (xs ++ ys) a b
  off-longer xs ys a b t = record {
    front = t.front;
    next = t.next;
    later = t.later ++ ys;
    parts = ap (λ r. t.front ++ r) (sym (append_assoc t.next t.later ys)) ∙ sym (append_assoc t.front (t.next ++ t.later) ys) ∙ ap (λ r. r ++ ys) t.parts;
    mid = t.mid;
    put = t.put;
    torn = t.torn;
  }

pub answers_are_outlets : {O F : Type 0} (before : O → Option (List ℕ)) (history : F → Option History) → IsOutlet (HasPut before history) (HasTornOff before history)
answers_are_outlets before history = record { none = put-none; more = put-more; torn_none = off-none; torn_later = off-later; torn_longer = off-longer }
