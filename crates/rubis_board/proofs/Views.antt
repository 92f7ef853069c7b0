-- The views of all passes, read at one pass and at the others, and how a piece is posted.
use Rattle.std.proofs.Common.{◌≡◌, ◌+◌, List, [], ◌∷◌, ◌++◌, length, refl, ap, ◌∙◌, arith, ℕ, zero, suc, set, sym, subst, append_assoc, ◌<◌, ◌≤◌, false}
use Rattle.std.proofs.Common.{true≢false}
use Rattle.std.proofs.lemmas.List.{append-nil, length-append}
use Rattle.rubis_pieces.specs.declared.pieces.Piece.{Piece}
use Rattle.rubis_board.specs.declared.rule.Item.{Item}
use Rattle.rubis_board.specs.declared.rule.Item.TheVariants.{Work, Mark}
use Rattle.rubis_board.specs.Rule.{content, marks_in, MarksAreLast, spent, sum_over, all_taken, Each, AgreesWith, first_view, Ruled, view_of, posting}
use Rattle.rubis_board.specs.Rule.{HasPosted}
use mathlib.Core.Option.{some, some-injective, some-ne-none}
use lib.ListN.{get_elem?}
use Rattle.std.specs.List.Sorted.{IsPermutation}
use Rattle.std.proofs.lemmas.List.Sorted.{IsPermutation-refl, IsPermutation-trans, IsPermutation-sym, IsPermutation-append_left, IsPermutation-append_right}
use Rattle.std.proofs.lemmas.List.Sorted.{IsPermutation-append_comm}
use Rattle.rubis_board.specs.declared.rule.PassView.{PassView}
use Rattle.crossbeam_queue.specs.Fifo.{Pushes, Learns}

pub content_append : (xs ys : List Item) → content (xs ++ ys) ≡ content xs ++ content ys
content_append [] ys = refl
content_append (Work p ∷ xs) ys = ap (λ l. p ∷ l) (content_append xs ys)
content_append (Mark ∷ xs) ys = content_append xs ys

pub content_marked : (xs : List Item) → content (xs ++ Mark ∷ []) ≡ content xs
content_marked xs = content_append xs (Mark ∷ []) ∙ append-nil (content xs)

pub marks_marked : (xs : List Item) → marks_in (xs ++ Mark ∷ []) ≡ marks_in xs + 1
marks_marked [] = refl
marks_marked (Work p ∷ xs) = marks_marked xs
marks_marked (Mark ∷ xs) = let h = marks_marked xs in omega arith

pub marks_worked : (xs : List Item) (p : Piece) → marks_in (xs ++ Work p ∷ []) ≡ marks_in xs
marks_worked [] p = refl
marks_worked (Work q ∷ xs) p = marks_worked xs p
marks_worked (Mark ∷ xs) p = let h = marks_worked xs p in omega arith

pub last_marked : (xs : List Item) → MarksAreLast xs → MarksAreLast (xs ++ Mark ∷ [])
last_marked [] h = (refl, tt)
last_marked (Work p ∷ xs) h = last_marked xs h
last_marked (Mark ∷ xs) h = (content_marked xs ∙ h.0, last_marked xs h.1)

pub last_worked : (xs : List Item) (p : Piece) → marks_in xs ≡ 0 → MarksAreLast (xs ++ Work p ∷ [])
last_worked [] p h = tt
last_worked (Work q ∷ xs) p h = last_worked xs p h
last_worked (Mark ∷ xs) p h = absurd (omega arith)

pub length_items : (xs : List Item) → length xs ≡ length (content xs) + marks_in xs
length_items [] = refl
length_items (Work p ∷ xs) = let h = length_items xs in omega arith
length_items (Mark ∷ xs) = let h = length_items xs in omega arith

-- ---- the views of all passes, read at one pass and at the others

-- two blocks at the front change places
pub swapped : (a b c : List Piece) → IsPermutation (a ++ (b ++ c)) (b ++ (a ++ c))
swapped a b c =
    subst (λ (y : List Piece × List Piece). IsPermutation y.0 y.1) (λ i. (append_assoc a b c i, append_assoc b a c i))
    (IsPermutation-append_left c _ _ (IsPermutation-append_comm a b))

-- all views but one
abbrev pub without : List PassView → ℕ → List PassView
without [] i = []
without (x ∷ xs) zero = xs
without (x ∷ xs) (suc i) = x ∷ without xs i

pub total_at : (f : PassView → ℕ) (views : List PassView) (i : ℕ) (v : PassView) → get_elem? views i ≡ some v
    → sum_over f views ≡ f v + sum_over f (without views i)
total_at f [] i v e = absurd (some-ne-none v (sym e))
total_at f (x ∷ xs) zero v e = ap (λ y. f y + sum_over f xs) (some-injective x v e)
total_at f (x ∷ xs) (suc i) v e = let h = total_at f xs i v e in omega arith

pub taken_at : (views : List PassView) (i : ℕ) (v : PassView) → get_elem? views i ≡ some v
    → IsPermutation (all_taken views) (v.taken ++ all_taken (without views i))
taken_at [] i v e = absurd (some-ne-none v (sym e))
taken_at (x ∷ xs) zero v e =
    subst (λ (y : PassView). IsPermutation (x.taken ++ all_taken xs) (y.taken ++ all_taken xs)) (some-injective x v e)
    (IsPermutation-refl _)
taken_at (x ∷ xs) (suc i) v e =
    IsPermutation-trans _ _ _ (IsPermutation-append_right x.taken _ _ (taken_at xs i v e))
    (swapped x.taken v.taken (all_taken (without xs i)))

without_set : (views : List PassView) (i : ℕ) (w : PassView) → without (set views i w) i ≡ without views i
without_set [] i w = refl
without_set (x ∷ xs) zero w = refl
without_set (x ∷ xs) (suc i) w = ap (λ l. x ∷ l) (without_set xs i w)

there_set : (views : List PassView) (i : ℕ) (v w : PassView) → get_elem? views i ≡ some v → get_elem? (set views i w) i ≡ some w
there_set [] i v w e = absurd (some-ne-none v (sym e))
there_set (x ∷ xs) zero v w e = refl
there_set (x ∷ xs) (suc i) v w e = there_set xs i v w e

pub set_apart : (views : List PassView) (i j : ℕ) (a b : PassView) → ¬ (j ≡ i) → set (set views i a) j b ≡ set (set views j b) i a
set_apart [] i j a b n = refl
set_apart (x ∷ xs) zero zero a b n = absurd (n refl)
set_apart (x ∷ xs) zero (suc j) a b n = refl
set_apart (x ∷ xs) (suc i) zero a b n = refl
set_apart (x ∷ xs) (suc i) (suc j) a b n = ap (λ l. x ∷ l) (set_apart xs i j a b (λ e. n (ap suc e)))

pub at_apart : (views : List PassView) (i j : ℕ) (a : PassView) → ¬ (j ≡ i) → get_elem? (set views i a) j ≡ get_elem? views j
at_apart [] i j a n = refl
at_apart (x ∷ xs) zero zero a n = absurd (n refl)
at_apart (x ∷ xs) zero (suc j) a n = refl
at_apart (x ∷ xs) (suc i) zero a n = refl
at_apart (x ∷ xs) (suc i) (suc j) a n = at_apart xs i j a (λ e. n (ap suc e))

pub total_set : (f : PassView → ℕ) (views : List PassView) (i : ℕ) (v w : PassView) → get_elem? views i ≡ some v
    → sum_over f (set views i w) ≡ f w + sum_over f (without views i)
total_set f views i v w e =
    total_at f (set views i w) i w (there_set views i v w e) ∙ ap (λ l. f w + sum_over f l) (without_set views i w)

pub taken_set : (views : List PassView) (i : ℕ) (v w : PassView) → get_elem? views i ≡ some v
    → IsPermutation (w.taken ++ all_taken (without views i)) (all_taken (set views i w))
taken_set views i v w e =
    IsPermutation-sym _ _
    (subst (λ (l : List PassView). IsPermutation (all_taken (set views i w)) (w.taken ++ all_taken l)) (without_set views i w)
    (taken_at (set views i w) i w (there_set views i v w e)))

pub total_snoc : (f : PassView → ℕ) (views : List PassView) (w : PassView) → sum_over f (views ++ w ∷ []) ≡ sum_over f views + f w
total_snoc f [] w = omega arith
total_snoc f (x ∷ xs) w = let h = total_snoc f xs w in omega arith

-- a pass that took nothing adds nothing
pub taken_snoc : (views : List PassView) (w : PassView) → w.taken ≡ [] → all_taken (views ++ w ∷ []) ≡ all_taken views
taken_snoc [] w e = ap (λ l. l ++ []) e
taken_snoc (x ∷ xs) w e = ap (λ l. x.taken ++ l) (taken_snoc xs w e)

module _ (P : PassView → Type 0) where
  pub each_at : (views : List PassView) (i : ℕ) (v : PassView) → get_elem? views i ≡ some v → Each P views → P v
  each_at [] i v e h = absurd (some-ne-none v (sym e))
  each_at (x ∷ xs) zero v e h = subst P (some-injective x v e) h.0
  each_at (x ∷ xs) (suc i) v e h = each_at xs i v e h.1

  pub each_without : (views : List PassView) (i : ℕ) → Each P views → Each P (without views i)
  each_without [] i h = tt
  each_without (x ∷ xs) zero h = h.1
  each_without (x ∷ xs) (suc i) h = (h.0, each_without xs i h.1)

  pub each_snoc : (views : List PassView) (w : PassView) → Each P views → P w → Each P (views ++ w ∷ [])
  each_snoc [] w h p = (p, tt)
  each_snoc (x ∷ xs) w h p = (h.0, each_snoc xs w h.1 p)

  -- a view in place i, and the others
  pub each_put : (views : List PassView) (i : ℕ) (w : PassView) → Each P (without views i) → P w → Each P (set views i w)
  each_put [] i w h p = tt
  each_put (x ∷ xs) zero w h p = (p, h)
  each_put (x ∷ xs) (suc i) w h p = (h.0, each_put xs i w h.1 p)

pub each_of : (P Q : PassView → Type 0) → ((v : PassView) → P v → Q v) → (views : List PassView) → Each P views → Each Q views
each_of P Q go [] h = tt
each_of P Q go (x ∷ xs) h = (go x h.0, each_of P Q go xs h.1)

-- passes that have no part between them were all joined to another
pub record AreSpent (views : List PassView) : Type 0 where
  pub taken : all_taken views ≡ []
  pub marks : sum_over (λ v. v.marks) views ≡ 0
  pub each : Each (λ v. v ≡ spent) views

pub none_left : (posted rest : List Piece) (views : List PassView) → Each (AgreesWith posted rest) views
    → sum_over (λ v. v.parts) views ≡ 0 → AreSpent views
none_left posted rest [] h e = record { taken = refl; marks = refl; each = tt }
none_left posted rest (x ∷ xs) h e =
    let is : x ≡ spent = h.0.idle (omega arith) in
    let less : sum_over (λ v. v.parts) xs ≡ 0 = omega arith in
    let others = none_left posted rest xs h.1 less in
    record {
      taken = ap (λ (y : PassView). y.taken ++ all_taken xs) is ∙ others.taken;
      marks = (let m = ap (λ (y : PassView). y.marks) is in let n = others.marks in omega arith);
      each = (is, others.each);
    }

-- ---- what the rule says at one pass, and what is left to show when its view changes

abbrev pub parts_of : PassView → ℕ
parts_of v = v.parts

abbrev pub marks_of : PassView → ℕ
marks_of v = v.marks

-- it has a part, has not seen None, and knows what was posted
pub fits_fresh : (posted rest : List Piece) (v : PassView) → 0 < v.parts → v.posted ≡ posted → v.seen_none ≡ false
    → AgreesWith posted rest v
fits_fresh posted rest v some_part same unseen =
    record {
      idle = λ none. absurd (omega arith);
      common = λ _. same;
      empty = λ seen. absurd (true≢false (sym seen ∙ unseen));
    }

pub fits_spent : (posted rest : List Piece) (v : PassView) → v ≡ spent → AgreesWith posted rest v
fits_spent posted rest v is =
    record {
      idle = λ _. is;
      common = λ some_part. absurd (let none = ap parts_of is in omega arith);
      empty = λ seen. absurd (true≢false (sym seen ∙ ap (λ (u : PassView). u.seen_none) is));
    }

pub begins : Ruled [] (first_view ∷ [])
begins =
    record {
      posted = [];
      before = [];
      suffix = refl;
      taken = IsPermutation-refl [];
      parts = refl;
      each = (fits_fresh [] [] first_view (omega arith) refl refl, tt);
      marks_last = tt;
      marks_few = omega arith;
    }

-- under the rule, the pass at that place knows that
pub record Here (items : List Item) (views : List PassView) (place : ℕ) (v : PassView) : Type 0 where
  pub ruled : Ruled items views
  pub at : get_elem? views place ≡ some v

module _ {items : List Item} {views : List PassView} {place : ℕ} {v : PassView} (here : Here items views place v) where
  pub own : AgreesWith here.ruled.posted (content items) v
  own = each_at (AgreesWith here.ruled.posted (content items)) views place v here.at here.ruled.each

  pub theirs : Each (AgreesWith here.ruled.posted (content items)) (without views place)
  theirs = each_without (AgreesWith here.ruled.posted (content items)) views place here.ruled.each

  pub taken_by_all : IsPermutation here.ruled.before (v.taken ++ all_taken (without views place))
  taken_by_all = IsPermutation-trans _ _ _ here.ruled.taken (taken_at views place v here.at)

  -- a pass with all parts is the only one
  pub alone : v.parts ≡ 16 → AreSpent (without views place)
  alone all =
      let sum = total_at parts_of views place v here.at in
      let whole = here.ruled.parts in
      none_left here.ruled.posted (content items) (without views place) theirs (omega arith)

  module _ (w : PassView) where
    -- its parts stay
    pub parts_kept : w.parts ≡ v.parts → sum_over parts_of (set views place w) ≡ 16
    parts_kept same =
        let new = total_set parts_of views place v w here.at in
        let old = total_at parts_of views place v here.at in
        let whole = here.ruled.parts in
        omega arith

    -- the pass has `more` further marks
    pub marks_more : (count more : ℕ) → w.marks ≡ v.marks + more → count ≤ marks_in items + more
        → count ≤ sum_over marks_of (set views place w)
    marks_more count more grown few =
        let new = total_set marks_of views place v w here.at in
        let old = total_at marks_of views place v here.at in
        let enough = here.ruled.marks_few in
        omega arith

    -- what all took, when this pass took that
    pub taken_now : (before : List Piece) → IsPermutation before (w.taken ++ all_taken (without views place))
        → IsPermutation before (all_taken (set views place w))
    taken_now before h = IsPermutation-trans _ _ _ h (taken_set views place v w here.at)

-- ---- a piece is posted, by the pass that has all parts

module _ (place : ℕ) (v : PassView) (may_post : v ≡ posting v.posted) where
  all_parts : v.parts ≡ 16
  all_parts = ap parts_of may_post

  after : Piece → PassView
  after p = view_of v.parts (v.posted ++ p ∷ []) v.taken v.seen_none v.marks

  module _ (items : List Item) (views : List PassView) (here : Here items views place v) where
    no_mark : marks_in items ≡ 0
    no_mark =
        let others = (alone here all_parts).marks in
        let sum = total_at marks_of views place v here.at in
        let mine = ap marks_of may_post in
        let few = here.ruled.marks_few in
        omega arith

    fits_all : (p : Piece)
        → Each (AgreesWith (here.ruled.posted ++ p ∷ []) (content (items ++ Work p ∷ []))) (set views place (after p))
    unfolding after
    fits_all p =
        let posted : List Piece = here.ruled.posted ++ p ∷ [] in
        let rest : List Piece = content (items ++ Work p ∷ []) in
        let same : v.posted ≡ here.ruled.posted = (own here).common (omega (arith, all_parts)) in
        each_put (AgreesWith posted rest) views place (after p)
        (each_of (λ u. u ≡ spent) (AgreesWith posted rest) (fits_spent posted rest) (without views place) (alone here all_parts).each)
        (fits_fresh posted rest (after p) (omega (arith, all_parts)) (ap (λ l. l ++ p ∷ []) same)
        (ap (λ (u : PassView). u.seen_none) may_post))

    ruled_after : (p : Piece) → Ruled (items ++ Work p ∷ []) (set views place (after p))
    unfolding after
    ruled_after p =
        let ruled = here.ruled in
        record {
          posted = ruled.posted ++ p ∷ [];
          before = ruled.before;
          suffix = ap (λ l. l ++ p ∷ []) ruled.suffix ∙ append_assoc ruled.before (content items) (p ∷ [])
              ∙ ap (λ l. ruled.before ++ l) (sym (content_append items (Work p ∷ [])));
          taken = taken_now here (after p) ruled.before (taken_by_all here);
          parts = parts_kept here (after p) refl;
          each = fits_all p;
          marks_last = last_worked items p no_mark;
          marks_few = marks_more here (after p) _ 0 (omega arith) (omega (arith, marks_worked items p, no_mark));
        }

    few_items : length items ≤ length v.posted
    few_items =
        let same = ap length ((own here).common (omega (arith, all_parts))) in
        let long = length_items items in
        let none = no_mark in
        let cut = ap length here.ruled.suffix in
        let sum = length-append here.ruled.before (content items) in
        omega arith

  pub posts : (room : ℕ) (p : Piece) → Pushes Ruled room place v (Work p) (HasPosted v (Work p))
  unfolding after
  posts room p items views _ ruled at = (after p, ruled_after items views (record { ruled = ruled; at = at }) p, refl)

  -- there are no more items in the queue than pieces were posted
  pub full : Learns Ruled place v (λ items. length items ≤ length v.posted)
  full items views ruled at = few_items items views (record { ruled = ruled; at = at })
