-- A batch that is shared by those who fold it, and shards of a set that are given to be folded, and come back.
use Rattle.rubis_replica.proofs.Common.{◌≡◌, ℕ, ◌+◌, ◌-◌, ◌<◌, ◌≤◌, true, List, drop, length, map, sym, ap, subst, arith, ◌||◌, suc, false, [], ◌∷◌}
use Rattle.rubis_replica.proofs.Common.{◌++◌, vec_len, refl, ◌∙◌, Err, OnErr, OnOk, Result, slice_index, slice_range, vec_capacity, IsPermutation}
use Rattle.rubis_replica.proofs.Common.{AllocError, All-nil, IsMessage, Message, cores, bare, IsRoom, having, AppliesTo, AppliesWhole, Intake}
use Rattle.rubis_replica.proofs.Common.{arc_value, PassState}
use Rattle.std.proofs.Common.{subst₂}
use Rattle.std.specs.Global.{Vec}
use Rattle.std.specs.List.{All, AllZip}
use Rattle.std.proofs.lemmas.List.{length-take, length-append}
use Rattle.std.proofs.lemmas.List.Elements.{All-weaker, All-cons}
use Rattle.std.proofs.lemmas.List.Sorted.{All-permutation}
use Rattle.std.proofs.lemmas.Option.{slice_get_within}
use Rattle.rubis_shard.specs.Holdings.{AreInOrder, AreHomes}
use Rattle.rubis_shard.specs.States.{ShardState}
use Rattle.rubis_shard.specs.declared.part_homes.PartHomes.{PartHomes}
use Rattle.rubis_pieces.specs.declared.gathers.CountedShards.{CountedShards}
use Rattle.rubis_pieces.specs.declared.pieces.Done.{Done}
use Rattle.rubis_pieces.specs.declared.pieces.Piece.{Piece}
use Rattle.rubis_workers.specs.Work.{IsFollowedOn}
use Rattle.rubis_workers.specs.Logs.{IsPending, WereFolded}
use Rattle.rubis_workers.specs.declared.team.Teamwork.{Teamwork}
use Rattle.rubis_workers.proofs.Applied.{nothing}
use Rattle.rubis_workers.proofs.Counts.{all_bare}
use Rattle.atomic_table.specs.Seated.{TableId}
use Rattle.rubis_board.specs.Rule.{joined_pass, new_part, one_part_less}
use Rattle.rubis_crew.specs.States.{ComesBack, CrewId, LeadState, given_too}
use Rattle.rubis_crew.specs.declared.job.Back.{Back}
use Rattle.rubis_crew.specs.declared.job.Given.{Given}
use Rattle.rubis_replica.specs.Folding.{CanApply, FitsBatch, FitsSet, HasWorked, IsApplied, IsBatch, IsFoldedOn, IsShared, IsSpan, messages_of, AreOf, AreOut}
use Rattle.rubis_replica.specs.Folding.{CanShare, ComesOf, HasFolded, IsFoldable, IsIdle, IsOf, ReturnsPart}
use Rattle.rubis_replica.specs.declared.folding.SharedBatch.{SharedBatch}
use Rattle.rubis_replica.specs.declared.folding.Span.{Span}
use Rattle.rubis_replica.specs.declared.folding.Part.{Part}
use Rattle.rubis_replica.specs.declared.folding.PartDone.{PartDone}

-- messages with the homes of their parts, and the intake that has them in its log
pub shared : (intake : Intake) (s : Span) (shards : ℕ) (b : SharedBatch) → b.intake ≡ intake → b.span ≡ s → IsSpan intake.state.log s
    → AreHomes shards (cores (slice_range intake.state.log s.from s.upto)) b.homes.items
    → All IsMessage (slice_range intake.state.log s.from s.upto) → IsShared intake s shards b
shared intake s shards b same is span homes conditions = record {
  intake = same;
  span = is;
  batch = record {
    span = subst₂ (λ (i : Intake) (t : Span). IsSpan i.state.log t) (sym same) (sym is) span;
    homes = subst₂ (λ (i : Intake) (t : Span). AreHomes shards (cores (slice_range i.state.log t.from t.upto)) b.homes.items) (sym same) (sym is)
        homes;
  };
  conditions = subst₂ (λ (i : Intake) (t : Span). All IsMessage (slice_range i.state.log t.from t.upto)) (sym same) (sym is) conditions;
}

-- the batch fits the pieces of a board on which the shards of a set for it are posted
pub all_fit : (b : SharedBatch) (ss : List ShardState) (posted : List Piece) → FitsSet b ss → IsPermutation (map bare ss) posted
    → All (FitsBatch b) posted
all_fit b ss posted h moved =
    All-permutation (FitsBatch b) (map bare ss) posted moved
    (all_bare (FitsBatch b) ss
    (λ k s e.
    let (number, shards) = h.set.order k s e in
    let inside = slice_get_within ss k s e in
    record { number = omega (arith, number, shards, inside); batch = subst (IsBatch b) (sym shards) h.batch; few = h.few }))

-- the shards of tables are a set for it
pub fits_set : (b : SharedBatch) (ts ss : List ShardState) (stops : Vec ℕ) → IsBatch b (length ts) → CanApply b.intake.state.log b.span ts stops
    → AreInOrder ts → ss ≡ ts → FitsSet b ss
fits_set b ts ss stops batch can order same =
    subst (FitsSet b) (sym same)
    (record {
      set = record { some = can.some; order = order };
      batch = batch;
      few = (let taken = length-take (b.span.upto - b.span.from) (drop b.span.from b.intake.state.log) in
          let some = can.some_pending in
          let within = can.within in
          let few = can.few in omega (arith, taken, some, within, few));
    })

-- ---- what a worker does
-- it fits the pieces
pub task_fits : (b : SharedBatch) (posted : List Piece) (batch : List Message) (homes : List PartHomes) (first : ℕ) → All (FitsBatch b) posted
    → batch ≡ messages_of b → homes ≡ b.homes.items → first ≡ b.span.from + 1
    → All (λ (p : Piece). (p.shard.number < p.shard.shards) × AreHomes p.shard.shards (cores batch) homes × (first + length batch ≤ 1000001)) posted
task_fits b posted batch homes first all same there is =
    All-weaker (FitsBatch b)
    (λ (p : Piece). (p.shard.number < p.shard.shards) × AreHomes p.shard.shards (cores batch) homes × (first + length batch ≤ 1000001))
    (λ p f. (
      f.number,
      subst₂ (λ (ms : List Message) (hs : List PartHomes). AreHomes p.shard.shards (cores ms) hs) (sym same) (sym there) f.batch.homes,
      (let few = f.few in let long = ap length same in omega (arith, few, long, is)),
    )) posted all

-- and what it did is what is wanted
pub as_folded : (b : SharedBatch) (batch : List Message) (first : ℕ) (taken : List Piece) (list : List Done) → batch ≡ messages_of b
    → first ≡ b.span.from + 1 → AllZip (IsFollowedOn first (cores batch)) taken list → AllZip (IsFoldedOn b) taken list
as_folded b batch first taken list same is =
    subst₂ (λ (ms : List Message) (n : ℕ). AllZip (IsFollowedOn n (cores ms)) taken list) same is

-- the caller's thread, before others come back
pub mine_worked : (b : SharedBatch) (t : Teamwork (Unit {0})) → t.pass.seen_none ≡ true → AllZip (IsFoldedOn b) t.pass.taken t.list.items
    → length t.pass.posted ≤ vec_capacity t.list → t.others ≡ 0 → HasWorked b t
mine_worked b t seen worked room none =
    record { seen_none = seen; worked = worked; room = room; others = omega (arith, none) }

-- ---- the tables
-- the messages as those who put the shards back see them
pub is_pending : (b x : SharedBatch) (log : List Message) (ts : List ShardState) (stops : Vec ℕ) → log ≡ x.intake.state.log → x ≡ b
    → CanApply b.intake.state.log b.span ts stops → All IsMessage (messages_of b) → IsPending log x.span.from x.span.upto
is_pending b x log ts stops same is can conditions =
    subst (λ l. IsPending l x.span.from x.span.upto) (sym same)
    (subst (λ (y : SharedBatch). IsPending y.intake.state.log y.span.from y.span.upto) (sym is)
    (record { few = can.few; within = can.within; pending = can.some_pending; conditions = conditions }))

pub were_folded : (b x : SharedBatch) (log : List Message) (ss ts : List ShardState) (folded : Result CountedShards (List ShardState))
    → log ≡ x.intake.state.log → x ≡ b → ss ≡ ts → WereFolded b.intake.state.log b.span.from b.span.upto ss folded
    → WereFolded log x.span.from x.span.upto ts folded
were_folded b x log ss ts folded same is back were =
    subst (λ l. WereFolded l x.span.from x.span.upto ts folded) (sym same)
    (subst (λ (y : SharedBatch). WereFolded y.intake.state.log y.span.from y.span.upto ts folded) (sym is)
    (subst (λ (zs : List ShardState). WereFolded b.intake.state.log b.span.from b.span.upto zs folded) back were))

pub is_applied : (b x : SharedBatch) (log : List Message) (old new : List ShardState) (before stops : Vec ℕ) (result : Result (Unit {0}) AllocError)
    → log ≡ x.intake.state.log → x ≡ b → OnOk result (AppliesWhole log x.span.from x.span.upto old new)
    → OnErr result (AppliesTo log x.span.from x.span.upto old new stops.items) → vec_capacity stops ≡ vec_capacity before
    → IsApplied b.intake.state.log b.span old before new stops result
is_applied b x log old new before stops result same is ok err room =
    subst (λ (y : SharedBatch). IsApplied y.intake.state.log y.span old before new stops result) is
    (subst (λ l. IsApplied l x.span old before new stops result) same (record { ok = ok; err = err; room = room }))

-- nothing was applied
pub none_is_applied : (log : List Message) (s : Span) (old new : List ShardState) (before stops : Vec ℕ) → CanApply log s old before → new ≡ old
    → length stops.items ≡ length old → ((k : ℕ) → k < length old → slice_index stops.items k ≡ s.from)
    → vec_capacity stops ≡ vec_capacity before → IsApplied log s old before new stops (Err (record {}))
none_is_applied log s old new before stops can same counts each room = record {
  ok = tt;
  err = nothing log s.from s.upto old new stops.items (let some = can.some_pending in omega (arith, some)) same counts each;
  room = room;
}

-- ---- parts of a board that are given to helpers, and what comes of them

-- ---- lists
-- all but the last, and the last
pub all_front : {A : Type 0} (P : A → Type 0) (xs : List A) (x : A) → All P (xs ++ x ∷ []) → All P xs
all_front P [] x h = All-nil P
all_front P (y ∷ xs) x h = All-cons P y xs (h 0 y (omega arith)) (all_front P xs x (λ k d l. h (suc k) d (omega (arith, l))))

pub all_last : {A : Type 0} (P : A → Type 0) (xs : List A) (x : A) → All P (xs ++ x ∷ []) → P x
all_last P [] x h = h 0 x (omega arith)
all_last P (y ∷ xs) x h = all_last P xs x (λ k d l. h (suc k) d (omega (arith, l)))

zip_both : {A B : Type 0} (R : A → B → Type 0) (xs xs' : List A) (ys ys' : List B) → AllZip R xs ys → AllZip R xs' ys'
    → AllZip R (xs ++ xs') (ys ++ ys')
zip_both R [] xs' [] ys' h k = k
zip_both R [] xs' (y ∷ ys) ys' h k = absurd h
zip_both R (x ∷ xs) xs' [] ys' h k = absurd h
zip_both R (x ∷ xs) xs' (y ∷ ys) ys' h k = (h.0, zip_both R xs xs' ys ys' h.1 k)

-- ---- a pass that took nothing
pub shares_too : (board : TableId) (b : SharedBatch) (p q : PassState) → CanShare board b p → q.board ≡ p.board → q.posted ≡ p.posted
    → q.taken ≡ [] → q.seen_none ≡ false → CanShare board b q
shares_too board b p q can same posted taken seen = record {
  board_is = same ∙ can.board_is;
  span = can.span;
  pieces = subst (All (FitsBatch b)) (sym posted) can.pieces;
  taken = taken;
  seen_none = seen;
}

module _ {G : Type 0} where
  -- a new part that it shares can be worked at
  pub part_fits : (board : TableId) (b : SharedBatch) (p : PassState) (x : Part G) → CanShare board b p → x.board ≡ board
      → arc_value x.batch ≡ b → x.pass ≡ new_part p → IsRoom (length p.posted) x.room → IsFoldable x
  part_fits board b p x can same batch is room = record {
    share =
        subst₂ (λ (c : TableId) (d : SharedBatch). CanShare c d x.pass) (sym same) (sym batch)
        (subst (CanShare board b) (sym is) (shares_too board b p (new_part p) can refl refl refl refl));
    one = ap (λ (q : PassState). q.parts) is;
    room = subst (λ (q : PassState). IsRoom (length q.posted) x.room) (sym is) room;
  }

  module _ (board : TableId) (posted : List Piece) (b : SharedBatch) where
    of_more : (xs : List (Given (Part G))) (x : Given (Part G)) → AreOf board posted b xs → IsOf board posted b x → AreOf board posted b (xs ++ x ∷ [])
    of_more [] x all one = (one, tt)
    of_more (y ∷ xs) x all one = (all.0, of_more xs x all.1 one)

    of_without : (before after : List (Given (Part G))) (x : Given (Part G)) → AreOf board posted b (before ++ x ∷ after)
        → AreOf board posted b (before ++ after)
    of_without [] after x all = all.1
    of_without (y ∷ before) after x all = (all.0, of_without before after x all.1)

    of_one : (before after : List (Given (Part G))) (x : Given (Part G)) → AreOf board posted b (before ++ x ∷ after) → IsOf board posted b x
    of_one [] after x all = all.0
    of_one (y ∷ before) after x all = of_one before after x all.1

  -- ---- a part was given
  pub one_given : (id : CrewId) (board : TableId) (b : SharedBatch) (p mine : PassState) (x : Part G) (old new : LeadState (Part G))
      → AreOut id board b p old → mine ≡ one_part_less p → x.pass ≡ new_part p → arc_value x.batch ≡ b → new ≡ given_too old x
      → AreOut id board b mine new × (length new.given ≡ length old.given + 1)
  one_given id board b p mine x old new out left is batch given =
      let now : new.given ≡ old.given ++ record { number = old.next; job = x } ∷ [] = ap (λ (l : LeadState (Part G)). l.given) given in (
        record {
          same = ap (λ (l : LeadState (Part G)). l.crew) given ∙ out.same;
          board_is = ap (λ (q : PassState). q.board) left ∙ out.board_is;
          given =
              subst₂ (λ (ps : List Piece) (xs : List (Given (Part G))). AreOf board ps b xs) (sym (ap (λ (q : PassState). q.posted) left)) (sym now)
              (of_more board p.posted b old.given (record { number = old.next; job = x }) out.given
              (record {
                board_is = ap (λ (q : PassState). q.board) is ∙ out.board_is;
                posted_are = ap (λ (q : PassState). q.posted) is;
                parts = ap (λ (q : PassState). q.parts) is;
                batch = batch;
              }));
        },
        ap length now ∙ length-append old.given (record { number = old.next; job = x } ∷ []),
      )

  -- ---- what came of a part
  -- nothing, where no helper took it
  pub untaken : (x : Part G) (d : PartDone) → IsFoldable x → d.pass ≡ x.pass → d.list ≡ x.room → ComesOf x d
  untaken x d fits same list = record {
    pass = subst (λ (q : PassState). q ≡ having x.pass q.taken q.seen_none) (sym same) refl;
    worked =
        subst₂ (AllZip (IsFoldedOn (arc_value x.batch))) (sym (ap (λ (q : PassState). q.taken) same ∙ fits.share.taken))
        (sym (ap (λ r. r.items) list ∙ fits.room.0)) tt;
  }

  pub comes_back : (old new : LeadState (Part G)) (back : Back PartDone) → ComesBack HasFolded old back new → ReturnsPart old back.result new
  comes_back old new back (job, is, worked) = (record { number = back.number; job = job }, is, worked.0)

  -- it is of the board that all are of
  pub of_board : (id : CrewId) (board : TableId) (b : SharedBatch) (p : PassState) (old new : LeadState (Part G)) (d : PartDone)
      → AreOut id board b p old → ReturnsPart old d new → d.pass.board ≡ board
  of_board id board b p old new d out (x, (before, after, was, now), comes) =
      ap (λ (q : PassState). q.board) comes.pass
      ∙ (of_one board p.posted b before after x (subst (AreOf board p.posted b) was out.given)).board_is

  pub of_batch : (id : CrewId) (board : TableId) (b : SharedBatch) (p : PassState) (old new : LeadState (Part G)) (d : PartDone)
      → AreOut id board b p old → ReturnsPart old d new → AllZip (IsFoldedOn b) d.pass.taken d.list.items
  of_batch id board b p old new d out (x, (before, after, was, now), comes) =
      subst (λ (c : SharedBatch). AllZip (IsFoldedOn c) d.pass.taken d.list.items)
      (of_one board p.posted b before after x (subst (AreOf board p.posted b) was out.given)).batch comes.worked

  -- the pass has its part back
  pub one_back : (id : CrewId) (board : TableId) (b : SharedBatch) (p q : PassState) (old new : LeadState (Part G)) (d : PartDone)
      → AreOut id board b p old → ReturnsPart old d new → q ≡ joined_pass p d.pass
      → AreOut id board b q new × (q.parts + length new.given ≡ p.parts + length old.given)
  one_back id board b p q old new d out (x, (before, after, was, now), comes) joined =
      let all = subst (AreOf board p.posted b) was out.given in
      let given : new.given ≡ before ++ after = ap (λ (l : LeadState (Part G)). l.given) now in (
        record {
          same = ap (λ (l : LeadState (Part G)). l.crew) now ∙ out.same;
          board_is = ap (λ (r : PassState). r.board) joined ∙ out.board_is;
          given =
              subst₂ (λ (ps : List Piece) (xs : List (Given (Part G))). AreOf board ps b xs) (sym (ap (λ (r : PassState). r.posted) joined)) (sym given)
              (of_without board p.posted b before after x all);
        },
        (let one = ap (λ (r : PassState). r.parts) comes.pass ∙ (of_one board p.posted b before after x all).parts in
            let sum = ap (λ (r : PassState). r.parts) joined in
            let more = ap length was ∙ length-append before (x ∷ after) in
            let less = ap length given ∙ length-append before after in omega (arith, one, sum, more, less)),
      )

  -- none is given yet
  pub none_out : (id : CrewId) (board : TableId) (b : SharedBatch) (p : PassState) (l : LeadState (Part G)) → CanShare board b p
      → IsIdle id l → AreOut id board b p l
  none_out id board b p l can idle = record { same = idle.0; board_is = can.board_is; given = subst (AreOf board p.posted b) (sym idle.1) tt }

-- ---- those who work at a board, with what one more did
pub worked_too : (b : SharedBatch) (ours team : Teamwork (Unit {0})) (pass : PassState) (list : Vec Done) → HasWorked b ours
    → AllZip (IsFoldedOn b) pass.taken list.items → team.pass ≡ joined_pass ours.pass pass → team.list.items ≡ ours.list.items ++ list.items
    → length ours.pass.posted ≤ vec_capacity team.list → team.others ≤ vec_len team.list → HasWorked b team
worked_too b ours team pass list has more joined items room others = record {
  seen_none = ap (λ (p : PassState). p.seen_none) joined ∙ ap (λ s. s || pass.seen_none) has.seen_none;
  worked =
      subst₂ (AllZip (IsFoldedOn b)) (sym (ap (λ (p : PassState). p.taken) joined)) (sym items)
      (zip_both (IsFoldedOn b) ours.pass.taken pass.taken ours.list.items list.items has.worked more);
  room = (let same = ap (λ (p : PassState). length p.posted) joined in omega (arith, same, room));
  others = others;
}
