-- What is said of each text that a reader may have, step by step.
use Rattle.std.proofs.Common.{◌≡◌, ◌∙◌, ◌++◌, [], ℕ, List, Option, None, Some, Ok, ap, append-nil, append_assoc, drop, false, inl, inr, refl, subst, sym, true}
use Rattle.std.specs.Prelude.{Err, IsErrAnd, MatchResult, Result}
use mathlib.Core.Bool.{true≢false}
use Rattle.std.specs.Io.KnownBytes.{Consumes, IsAtEnd, Keeps}
use Rattle.std.proofs.Transfers.{drop-appended}
use Rattle.rubis_engine.specs.Seam.{IsKnownText, IsNew, IsTextOf, Lefts, MayHave, OfEach, left}
use Rattle.rubis_engine.specs.declared.seam.Incoming.{Incoming}

module _ {R : Type 0} {rem : R → Option (List ℕ)} where
  -- nothing came
  pub each-same : {s : Incoming R} {P : Lefts R → Type 0} → ((text : List ℕ) → IsTextOf text s → P (left text)) → OfEach rem s s P
  each-same p = record { known = λ text k. k; each = λ text h. (h, p text h) }

  -- it stayed what it was
  pub each-kept : {a b : Incoming R} {P : Lefts R → Type 0} → b ≡ a → ((l : Lefts R) → P l) → OfEach rem a b P
  each-kept same p = record {
    known = λ text k. subst (IsKnownText rem text) (sym same) k;
    each = λ text h. (subst (IsTextOf text) same h, p (left text));
  }

  -- by one step and then another
  pub each-then : {a b c : Incoming R} {P Q S : Lefts R → Type 0} → OfEach rem a b P → OfEach rem b c Q → ((l : Lefts R) → P l → Q l → S l)
      → OfEach rem a c S
  each-then f g so = record {
    known = λ text k. g.known text (f.known text k);
    each = λ text h.
        let two = g.each text h in
        let one = f.each text two.0 in
        (one.0, so (left text) one.1 two.1);
  }

  -- what follows
  pub each-so : {a b : Incoming R} {P Q : Lefts R → Type 0} → ((l : Lefts R) → P l → Q l) → OfEach rem a b P → OfEach rem a b Q
  each-so so f = record { known = f.known; each = λ text h. let one = f.each text h in (one.0, so (left text) one.1) }

  -- of one text at least
  pub each-one : {a b : Incoming R} {P : Lefts R → Type 0} → OfEach rem a b P → (text : List ℕ) × P (left text)
  each-one {b = b} f = (b.came.bytes, (f.each b.came.bytes (record { rest = []; parts = sym (append-nil b.came.bytes); ended = λ e. refl })).1)

  -- a new reader's text is one of which what came is the front
  pub may-have : {a b : Incoming R} {P : Lefts R → Type 0} (text : List ℕ) → OfEach rem a b P → IsNew a → MayHave rem text a b → IsTextOf text b
  may-have text f new (inr is) = is
  may-have text f (none, on) (inl known) =
      let is : IsTextOf text _ = record { rest = text; parts = ap (λ t. t ++ text) (sym none); ended = λ e. absurd (true≢false (sym e ∙ on)) } in
      (f.known text (record { is = is; known = known })).is

-- what is left behind known bytes that were consumed
pub consumed-rest : (bytes left : List ℕ) (before after : Option (List ℕ)) → Consumes before after bytes → before ≡ Some left
    → (left2 : List ℕ) × (after ≡ Some left2) × (left ≡ bytes ++ left2)
consumed-rest bytes left None after taken e = absurd cc
consumed-rest bytes left (Some xs) None taken e = absurd taken
consumed-rest bytes left (Some xs) (Some ys) taken e = (ys, refl, sym (some e) ∙ taken)
  where
    some : Some xs ≡ Some left → xs ≡ left
    some e = cc e

-- those that were kept lost none
pub consumed-none : (before after : Option (List ℕ)) → Keeps before after → Consumes before after []
consumed-none None after keeps = tt
consumed-none (Some xs) None keeps = absurd keeps
consumed-none (Some xs) (Some ys) keeps = sym keeps

pub none-consumed : (before after : Option (List ℕ)) → Consumes before after [] → Keeps before after
none-consumed None after none = tt
none-consumed (Some xs) None none = absurd none
none-consumed (Some xs) (Some ys) none = sym none

module _ {R : Type 0} (a b : Incoming R) (bytes : List ℕ) (on : a.is_ended ≡ false) (came : b.came.bytes ≡ a.came.bytes ++ bytes) where
  -- it may have had before what it may have now
  abbrev before : (text : List ℕ) → IsTextOf text b → IsTextOf text a
  before text h = record {
    rest = bytes ++ h.rest;
    parts = h.parts ∙ ap (λ t. t ++ h.rest) came ∙ append_assoc a.came.bytes bytes h.rest;
    ended = λ e. absurd (true≢false (sym e ∙ on));
  }

  -- these bytes came, or nothing did
  pub came-each : {rem : R → Option (List ℕ)} → Consumes (rem a.reader) (rem b.reader) bytes → (b.is_ended ≡ true → IsAtEnd (rem b.reader))
      → OfEach rem a b (λ l. Consumes (l a) (l b) bytes × (b.is_ended ≡ true → IsAtEnd (l b)))
  came-each {rem} consumed none = record {
    known = λ text k.
        let (rest, source, split) = consumed-rest bytes k.is.rest (rem a.reader) (rem b.reader) consumed k.known in
        record {
          is = record {
            rest = rest;
            parts = k.is.parts ∙ ap (λ t. a.came.bytes ++ t) split ∙ sym (append_assoc a.came.bytes bytes rest) ∙ ap (λ t. t ++ rest) (sym came);
            ended = λ e. subst IsAtEnd source (none e);
          };
          known = source;
        };
    each = λ text h.
        let was = drop-appended a.came.bytes text (bytes ++ h.rest) (before text h).parts in
        let now = drop-appended b.came.bytes text h.rest h.parts in
        (before text h, (was ∙ ap (λ t. bytes ++ t) (sym now), λ e. now ∙ h.ended e));
  }

-- it holds at that error
pub err-match : {T E : Type 0} (P : T → Type 0) {Q : Type 0} (r : Result T E) (e : E) → IsErrAnd r (λ f. f ≡ e) → Q → MatchResult r P (λ _. Q)
err-match P (Ok v) e h q = absurd h
err-match P (Err f) e h q = q
