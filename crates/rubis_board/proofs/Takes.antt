-- A pass takes what is first in the queue, or marks the queue; passes are split and joined.
use Rattle.std.proofs.Common.{◌≡◌, ℕ, ◌+◌, ◌<◌, Bool, true, false, List, [], ◌∷◌, ◌++◌, length, set, sym, refl, ap, ◌∙◌, subst, append_assoc, arith, ◌||◌}
use Rattle.std.proofs.lemmas.List.{append-nil}
use Rattle.std.specs.List.Sorted.{IsPermutation}
use Rattle.std.proofs.lemmas.List.Sorted.{IsPermutation-trans, IsPermutation-append_left, IsPermutation-append_right, IsPermutation-append_comm}
use Rattle.crossbeam_queue.specs.Fifo.{Pushes, Pops, Learns, Forks, Merges}
use Rattle.rubis_pieces.specs.declared.pieces.Piece.{Piece}
use Rattle.rubis_board.specs.declared.rule.PassView.{PassView}
use Rattle.rubis_board.specs.declared.rule.Item.{Item}
use Rattle.rubis_board.specs.declared.rule.Item.TheVariants.{Work, Mark}
use Rattle.rubis_board.specs.Rule.{view_of, content, all_taken, Each, AgreesWith, Ruled, IsPartOf, HasMarked, HasTaken, Knows, spent, marks_in, sum_over}
use Rattle.rubis_board.specs.Rule.{split_view, new_view, both}
use Rattle.rubis_board.proofs.Views.{content_marked, marks_marked, last_marked, without, each_put, each_of, fits_fresh, Here, own, theirs, taken_by_all, alone}
use Rattle.rubis_board.proofs.Views.{parts_kept, marks_more, taken_now, swapped, total_at, taken_at, set_apart, at_apart, total_set, taken_set, total_snoc}
use Rattle.rubis_board.proofs.Views.{taken_snoc, each_without, each_snoc, parts_of, marks_of, fits_spent, content_append}
use mathlib.Core.Option.{some}
use lib.ListN.{get_elem?}
use Rattle.rubis_pieces.specs.Pieces.{MovesAll}
use Rattle.rubis_board.specs.Laws.{QueueStep, StepsAll, moves_of}
use Rattle.rubis_board.specs.Laws.QueueStep.{Pushed, Popped}

-- a piece that is first leaves the board
fits_less : (posted rest : List Piece) (p : Piece) (u : PassView) → AgreesWith posted (p ∷ rest) u → AgreesWith posted rest u
fits_less posted rest p u f =
    record { idle = f.idle; common = f.common; empty = λ seen. absurd (let none = ap length (f.empty seen) in omega arith) }

-- while there is one, no pass has seen None
unseen : (posted rest : List Piece) (p : Piece) (u : PassView) (seen : Bool) → u.seen_none ≡ seen → AgreesWith posted (p ∷ rest) u
    → u.seen_none ≡ false
unseen posted rest p u true is f = absurd (let none = ap length (f.empty is) in omega arith)
unseen posted rest p u false is f = is

put_last : (a c : List Piece) (p : Piece) → IsPermutation ((a ++ c) ++ p ∷ []) ((a ++ p ∷ []) ++ c)
put_last a c p =
    subst (λ (y : List Piece × List Piece). IsPermutation y.0 y.1)
    (λ i. (sym (append_assoc a c (p ∷ [])) i, sym (append_assoc a (p ∷ []) c) i))
    (IsPermutation-append_right a _ _ (IsPermutation-append_comm c (p ∷ [])))

module _ (place : ℕ) (v : PassView) (some_part : 0 < v.parts) where
  module _ (items : List Item) (views : List PassView) (here : Here items views place v) where
    marked_after : Ruled (items ++ Mark ∷ []) (set views place (view_of v.parts v.posted v.taken v.seen_none (v.marks + 1)))
    marked_after =
        let w : PassView = view_of v.parts v.posted v.taken v.seen_none (v.marks + 1) in
        let ruled = here.ruled in
        let same : content items ≡ content (items ++ Mark ∷ []) = sym (content_marked items) in
        record {
          posted = ruled.posted;
          before = ruled.before;
          suffix = ruled.suffix ∙ ap (λ l. ruled.before ++ l) same;
          taken = taken_now here w ruled.before (taken_by_all here);
          parts = parts_kept here w refl;
          each =
              subst (λ l. Each (AgreesWith ruled.posted l) (set views place w)) same
              (each_put (AgreesWith ruled.posted (content items)) views place w (theirs here)
              (record { idle = λ none. absurd (omega arith); common = (own here).common; empty = (own here).empty }));
          marks_last = last_marked items ruled.marks_last;
          marks_few = marks_more here w _ 1 refl (let one = marks_marked items in omega arith);
        }

    knows_here : Knows v
    knows_here =
        let others : List Piece = all_taken (without views place) in
        let all : IsPermutation v.posted ((v.taken ++ others) ++ content items) =
        subst (λ l. IsPermutation l ((v.taken ++ others) ++ content items))
        (sym ((own here).common some_part ∙ here.ruled.suffix))
        (IsPermutation-append_left (content items) _ _ (taken_by_all here)) in
        record {
          part = (others ++ content items, subst (IsPermutation v.posted) (append_assoc v.taken others (content items)) all);
          whole = λ all_parts seen. subst (IsPermutation v.posted)
              (ap (λ l. (v.taken ++ others) ++ l) ((own here).empty seen) ∙ append-nil (v.taken ++ others)
              ∙ ap (λ l. v.taken ++ l) (alone here all_parts).taken ∙ append-nil v.taken) all;
        }

  module _ (p : Piece) (items : List Item) (views : List PassView) (here : Here (Work p ∷ items) views place v) where
    others : List Piece
    others = all_taken (without views place)

    taken_with : IsPermutation (here.ruled.before ++ p ∷ []) ((v.taken ++ p ∷ []) ++ others)
    unfolding others
    taken_with =
        IsPermutation-trans _ _ _ (IsPermutation-append_left (p ∷ []) _ _ (taken_by_all here)) (put_last v.taken others p)

    suffix_with : here.ruled.posted ≡ (here.ruled.before ++ p ∷ []) ++ content items
    suffix_with = here.ruled.suffix ∙ sym (append_assoc here.ruled.before (p ∷ []) (content items))

    part_with : IsPartOf (v.taken ++ p ∷ []) v.posted
    part_with = (
      others ++ content items,
      subst (λ (y : List Piece × List Piece). IsPermutation y.0 y.1)
          (λ i. (sym ((own here).common some_part ∙ suffix_with) i, append_assoc (v.taken ++ p ∷ []) others (content items) i))
          (IsPermutation-append_left (content items) _ _ taken_with),
    )

    ruled_with : Ruled items (set views place (view_of v.parts v.posted (v.taken ++ p ∷ []) false v.marks))
    unfolding others
    ruled_with =
        let w : PassView = view_of v.parts v.posted (v.taken ++ p ∷ []) false v.marks in
        let ruled = here.ruled in
        record {
          posted = ruled.posted;
          before = ruled.before ++ p ∷ [];
          suffix = suffix_with;
          taken = taken_now here w (ruled.before ++ p ∷ []) taken_with;
          parts = parts_kept here w refl;
          each = each_put (AgreesWith ruled.posted (content items)) views place w
              (each_of _ _ (fits_less ruled.posted (content items) p) (without views place) (theirs here))
              (fits_fresh ruled.posted (content items) w some_part ((own here).common some_part) refl);
          marks_last = ruled.marks_last;
          marks_few = marks_more here w _ 0 (omega arith) (omega arith);
        }

    takes_piece : (w : PassView) × Ruled items (set views place w) × HasTaken v (Work p) w
    takes_piece = (
      view_of v.parts v.posted (v.taken ++ p ∷ []) false v.marks,
      ruled_with,
      (unseen here.ruled.posted (content items) p v v.seen_none refl (own here), refl, part_with),
    )

  takes_mark : (items : List Item) (views : List PassView) → Here (Mark ∷ items) views place v
      → (w : PassView) × Ruled items (set views place w) × HasTaken v Mark w
  takes_mark items views here =
      let w : PassView = view_of v.parts v.posted v.taken true v.marks in
      let ruled = here.ruled in (
        w,
        record {
          posted = ruled.posted;
          before = ruled.before;
          suffix = ruled.suffix;
          taken = taken_now here w ruled.before (taken_by_all here);
          parts = parts_kept here w refl;
          each = each_put (AgreesWith ruled.posted (content items)) views place w (theirs here)
              (record { idle = λ none. absurd (omega arith); common = (own here).common; empty = λ _. ruled.marks_last.0 });
          marks_last = ruled.marks_last.1;
          marks_few = marks_more here w _ 0 (omega arith) (omega arith);
        },
        refl,
      )

  pub takes : Pops Ruled place v (HasTaken v)
  takes (Work p) items views ruled at = takes_piece p items views (record { ruled = ruled; at = at })
  takes Mark items views ruled at = takes_mark items views (record { ruled = ruled; at = at })

  pub marks : (room : ℕ) → Pushes Ruled room place v Mark (HasMarked v Mark)
  marks room items views _ ruled at = (
    view_of v.parts v.posted v.taken v.seen_none (v.marks + 1),
    marked_after items views (record { ruled = ruled; at = at }),
    refl,
  )

  pub knows : Learns Ruled place v (λ items. Knows v)
  knows items views ruled at = knows_here items views (record { ruled = ruled; at = at })

-- ---- passes are split and joined

split_after : (items : List Item) (views : List PassView) (place : ℕ) (v : PassView) → 1 < v.parts → Here items views place v
    → Ruled items (set views place (split_view v) ++ new_view v ∷ [])
split_after items views place v two_parts here =
    let w : PassView = split_view v in
    let r : PassView = new_view v in
    let now : List PassView = set views place w in
    let ruled = here.ruled in
    let F : PassView → Type 0 = AgreesWith ruled.posted (content items) in
    let same : v.posted ≡ ruled.posted = (own here).common (omega arith) in
    record {
      posted = ruled.posted;
      before = ruled.before;
      suffix = ruled.suffix;
      taken =
          subst (IsPermutation ruled.before) (sym (taken_snoc now r refl)) (taken_now here w ruled.before (taken_by_all here));
      parts = (
          let new = total_set parts_of views place v w here.at in
          let old = total_at parts_of views place v here.at in
          let whole = ruled.parts in
          let sum = total_snoc parts_of now r in
          omega arith);
      each =
          each_snoc F now r
          (each_put F views place w (theirs here)
          (record { idle = λ none. absurd (omega arith); common = λ _. same; empty = (own here).empty }))
          (fits_fresh ruled.posted (content items) r (omega arith) same refl);
      marks_last = ruled.marks_last;
      marks_few = (
          let few = marks_more here w (marks_in items) 0 (omega arith) (omega arith) in
          let sum = total_snoc marks_of now r in
          omega arith);
    }

pub forks : (place : ℕ) (v : PassView) → 1 < v.parts → Forks Ruled place v (split_view v) (new_view v)
forks place v two_parts items views ruled at = split_after items views place v two_parts (record { ruled = ruled; at = at })

either_seen : (a b : Bool) (A : Type 0) → (a ≡ true → A) → (b ≡ true → A) → (a || b) ≡ true → A
either_seen true b A f g is = f refl
either_seen false b A f g is = g is

module _ (items : List Item) (views : List PassView) (ruled : Ruled items views) (place : ℕ) (v : PassView) (other : ℕ)
    (u : PassView) (at : get_elem? views place ≡ some v) (there : get_elem? views other ≡ some u)
    (apart : ¬ (other ≡ place)) where
  abbrev here : Here items views place v
  here = record { ruled = ruled; at = at }

  abbrev beside : Here items views other u
  beside = record { ruled = ruled; at = there }

  -- the other pass is spent first
  abbrev one : List PassView
  one = set views other spent

  here_still : get_elem? one place ≡ some v
  here_still = at_apart views other place spent (λ e. apart (sym e)) ∙ at

  -- and then this one has what both took
  taken_by_both : IsPermutation ruled.before (all_taken (set one place (both v u)))
  taken_by_both =
      let rest : List Piece = all_taken (without one place) in
      let to_both : IsPermutation ((v.taken ++ u.taken) ++ rest) (all_taken (set one place (both v u))) =
      taken_set one place v (both v u) here_still in
      IsPermutation-trans _ _ _ (taken_by_all beside)
      (IsPermutation-trans _ _ _
      (IsPermutation-append_right u.taken _ _
      (IsPermutation-trans _ _ _ (taken_set views other u spent there) (taken_at one place v here_still)))
      (IsPermutation-trans _ _ _ (swapped u.taken v.taken rest)
      (subst (λ l. IsPermutation l (all_taken (set one place (both v u)))) (append_assoc v.taken u.taken rest) to_both)))

  -- a number of which a spent pass has none, and the joined one the sum
  sum_kept : (f : PassView → ℕ) → f spent ≡ 0 → f (both v u) ≡ f v + f u → sum_over f (set one place (both v u)) ≡ sum_over f views
  sum_kept f none sum =
      let a = total_at f views other u there in
      let b = total_set f views other u spent there in
      let c = total_at f one place v here_still in
      let d = total_set f one place v (both v u) here_still in
      omega arith

  join_after : 0 < v.parts → 0 < u.parts → Ruled items (set one place (both v u))
  join_after some_part their_part =
      let F : PassView → Type 0 = AgreesWith ruled.posted (content items) in
      record {
        posted = ruled.posted;
        before = ruled.before;
        suffix = ruled.suffix;
        taken = taken_by_both;
        parts = sum_kept parts_of refl refl ∙ ruled.parts;
        each =
            each_put F one place (both v u)
            (each_without F one place
            (each_put F views other spent (theirs beside) (fits_spent ruled.posted (content items) spent refl)))
            (record {
              idle = λ none. absurd (omega arith);
              common = λ _. (own here).common some_part;
              empty = either_seen v.seen_none u.seen_none (content items ≡ []) (own here).empty (own beside).empty;
            });
        marks_last = ruled.marks_last;
        marks_few = (let same = sum_kept marks_of refl refl in let few = ruled.marks_few in omega arith);
      }

pub merges : (place : ℕ) (v : PassView) (other : ℕ) (u : PassView) → 0 < v.parts → 0 < u.parts
    → Merges Ruled place v other u (both v u) spent
merges place v other u some_part their_part items views ruled at apart there =
    let now : get_elem? views other ≡ some u = sym (at_apart views place other (both v u) apart) ∙ there in
    subst (Ruled items) (sym (set_apart views place other (both v u) spent apart))
    (join_after items views ruled place v other u at now apart some_part their_part)

-- ---- what is on the board, after many steps on the queue

pub moves : (before : List Item) (steps : List QueueStep) (after : List Item) → StepsAll before steps after
    → MovesAll (content before) (moves_of steps) (content after)
moves before [] after is = ap content is
moves before (Pushed (Work p) ∷ steps) after is =
    (content is.0, ap content is.1 ∙ content_append before (Work p ∷ []), moves is.0 steps after is.2)
moves before (Pushed Mark ∷ steps) after is =
    subst (λ l. MovesAll l (moves_of steps) (content after)) (ap content is.1 ∙ content_marked before) (moves is.0 steps after is.2)
moves before (Popped (Work p) ∷ steps) after is = (content is.0, ap content is.1, moves is.0 steps after is.2)
moves before (Popped Mark ∷ steps) after is =
    subst (λ l. MovesAll l (moves_of steps) (content after)) (sym (ap content is.1)) (moves is.0 steps after is.2)
