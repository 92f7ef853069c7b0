-- Tables that follow a log: a batch that is whole or has begun, and a log that grows.
use Rattle.rubis_replica.proofs.Common.{◌≡◌, ℕ, ◌<◌, List, [], ◌∷◌, length, refl, inl, inr, arith, subst, ◌≤◌, ◌++◌, take, drop, sym, ap, ◌∙◌, suc}
use Rattle.rubis_replica.proofs.Common.{Bool, true, false, cond, append_assoc, All, OnErr, OnOk, Result, Ok, Err, Some, slice_index, slice_range}
use Rattle.rubis_replica.proofs.Common.{None, ◌==◌, ◌||◌, Option, nat_le, All-nil, AllInLimits, IsMessage, Message, sites_of, cores, fold_of, Place}
use Rattle.rubis_replica.proofs.Common.{Replica, arrived, is_full, is_repeat, not_ours, passed, passing, Intake, IsIntake, AllocError, append-nil}
use Rattle.rubis_replica.proofs.Common.{union, AreFurther, HoldsTo, StopWithin, AppliesTo, AppliesWhole, parts_between, Shadow, Refusal, Token}
use Rattle.std.proofs.Common.{get_or, length-append, zero}
use Rattle.std.specs.Prelude.{◌⊎◌}
use Rattle.std.proofs.Math.Seq.{take-length}
use Rattle.std.proofs.lemmas.List.Elements.{All-from_get_or, All-take}
use Rattle.rubis_shadow.proofs.InLimits.{opening_in_limits}
use Rattle.rubis_model.specs.Log.{Core, core, parts_of}
use Rattle.rubis_model.specs.Site.{Has, first_ready, settle, after_made, made}
use Rattle.rubis_workers.proofs.Applied.{log_within, cores_front, cores_slice, between_inside, slice_inside}
use Rattle.std.specs.List.{flat_map}
use Rattle.std.specs.Result.{is_ok}
use Rattle.std.proofs.lemmas.List.{length-map, take-append-le, take_all}
use Rattle.rubis_shadow.specs.declared.keyed_change.Effect.{Effect}
use Rattle.rubis_model.proofs.Settling.{cores_append}
use Rattle.rubis_workers.specs.Shard.{HoldsLog, shard_of_log, ShardState}
use Rattle.rubis_workers.specs.Pieces.{parts_behind}
use Rattle.rubis_workers.proofs.Pieces.{behind_few, holds_none, holds_whole, fewer_behind}
use Rattle.rubis_workers.proofs.Shard.{union_of_log}
use Rattle.rubis_replica.specs.Follow.{CanFollow, ComesTo, Follower, FollowsLog, HasStops, IsTriedTo, BatchBegins, IsProgress, IsStage, end_of, keeping}
use Rattle.rubis_replica.specs.Follow.{left_of, resting_at, short}
use Rattle.rubis_replica.specs.declared.progress.Progress.{Progress}
use Rattle.rubis_replica.specs.declared.progress.Stage.{Stage}
use Rattle.rubis_replica.specs.declared.progress.Stage.TheVariants.{Level, Keeping, Begun}

has_get : (log : List Message) (i : ℕ) (d : Message) → i < length log → Has (get_or log i d) log
has_get [] i d h = absurd (omega arith)
has_get (x ∷ log) ℕ.zero d h = inl refl
has_get (x ∷ log) (ℕ.suc i) d h = inr (has_get log i d (omega arith))

all_by : (P : Message → Type 0) (log : List Message) → ((m : Message) → Has m log → P m) → All P log
all_by P [] h = All-nil P
all_by P (x ∷ log) h = All-from_get_or P (x ∷ log) x (λ i l. h (get_or (x ∷ log) i x) (has_get (x ∷ log) i x l))

-- each message of a site's log counts its sites
pub log_counts : (i : Intake) → IsIntake i → All (λ m. sites_of m ≡ i.place.sites) i.state.log
log_counts i h = all_by (λ m. sites_of m ≡ i.place.sites) i.state.log (λ m k. (h.kept.log_sites m k).counts)

-- the tables of a site's log are within its limits
pub log_in_limits : (i : Intake) → IsIntake i → AllInLimits i.place.sites (fold_of (cores i.state.log)).tables
log_in_limits i h = within i.state.log (log_counts i h) (all_by IsMessage i.state.log (λ m k. (h.kept.log_sites m k).conditions))
  where
    within : (log : List Message) → All (λ m. sites_of m ≡ i.place.sites) log → All IsMessage log → AllInLimits i.place.sites (fold_of (cores log)).tables
    within [] counts formed = opening_in_limits i.place.sites
    within (m ∷ log) counts formed =
        subst (λ (xs : List Message). AllInLimits i.place.sites (fold_of (cores xs)).tables) (take-length (m ∷ log))
        (log_within (m ∷ log) 0 (length (m ∷ log)) (omega arith) (omega arith) (All-take IsMessage _ (m ∷ log) formed) i.place.sites counts
        (opening_in_limits i.place.sites))

-- ---- tables that follow a log: a batch that is whole or has begun, and a log that grows

-- ---- all is applied up to a message
pub rests_follow : (log : List Message) (upto : ℕ) (f : Follower) → upto ≤ length log → 0 < length f.tables
    → HoldsLog (length f.tables) (cores (take upto log)) f.tables → FollowsLog log (record f { progress = resting_at upto })
rests_follow log upto f l some holds = record {
  progress = record { on = omega arith; inside = l; stage = tt };
  some = some;
  rests = λ z. holds;
  begun = λ less. absurd (omega (arith, less));
}

-- ---- a batch as far as memory went
module _ (log : List Message) (from upto left : ℕ) (stops : List ℕ) (ts : List ShardState) (l : upto ≤ length log) (some : 0 < length ts)
    (s : HasStops log (record { progress = record { applied = from; stage = Begun upto left; ran_short = true }; stops = stops; tables = ts })) where
  long_log : upto ≤ length (cores log)
  long_log = let many = length-map log core in omega (arith, l, many)

  counted : left ≡ parts_behind (length ts) stops from (slice_range (cores log) from upto)
  counted = s.left ∙ ap (parts_behind (length ts) stops from) (cores_slice log from upto)

  parts : length (parts_between log from upto) ≡ length (flat_map parts_of (slice_range (cores log) from upto))
  parts = ap (λ (ms : List Core). length (flat_map parts_of ms)) (cores_slice log from upto)

  -- no part is left
  pub follows_whole : left ≡ 0 → FollowsLog log (record { progress = resting_at upto; stops = stops; tables = ts })
  follows_whole none =
      rests_follow log upto (record { progress = resting_at upto; stops = stops; tables = ts }) l some
      (subst (λ (ms : List Core). HoldsLog (length ts) ms ts) (sym (cores_front log upto))
      (holds_whole (length ts) from upto stops (cores log) ts long_log s.within s.holds (sym counted ∙ none)))

  -- no part is done
  pub follows_none : (p : Progress) → p.applied ≡ from → IsProgress log p → left_of p ≡ 0 → left ≡ length (parts_between log from upto)
      → FollowsLog log (record { progress = p; stops = stops; tables = ts })
  follows_none p at h rests all = record {
    progress = h;
    some = some;
    rests = λ z. subst (λ n. HoldsLog (length ts) (cores (take n log)) ts) (sym at)
        (subst (λ (ms : List Core). HoldsLog (length ts) ms ts) (sym (cores_front log from))
        (holds_none (length ts) from upto stops (cores log) ts long_log s.within s.holds (sym counted ∙ all ∙ parts)));
    begun = λ less. absurd (omega (arith, less, rests));
  }

  -- some but not all are
  pub follows_begun : from ≤ upto → 0 < left → ¬ (left ≡ length (parts_between log from upto))
      → FollowsLog log (record { progress = record { applied = from; stage = Begun upto left; ran_short = true }; stops = stops; tables = ts })
  follows_begun on more differ = record {
    progress = record {
      on = on;
      inside = l;
      stage = (more, (let few = behind_few (length ts) stops from (slice_range (cores log) from upto) in omega (arith, few, counted, parts, differ)));
    };
    some = some;
    rests = λ z. absurd (omega (arith, z, more));
    begun = λ less. s;
  }

-- not all of a batch that has begun is left
pub begun_fewer : (log : List Message) (p : Progress) → IsProgress log p → 0 < left_of p → left_of p < length (parts_between log p.applied (end_of p))
begun_fewer log p h = on p.stage h.stage
  where
    on : (s : Stage) → IsStage log p.applied s → 0 < left_of (record p { stage = s }) →
        left_of (record p { stage = s }) < length (parts_between log p.applied (end_of (record p { stage = s })))
    on Level h l = absurd (omega (arith, l))
    on (Keeping upto) h l = absurd (omega (arith, l))
    on (Begun upto left) h l = h.1

-- and of one that went on no more is left than was
pub left_fewer : (log : List Message) (f : Follower) (upto left : ℕ) (stops : List ℕ) (ts : List ShardState) → HasStops log f → upto ≡ end_of f.progress
    → HasStops log (record { progress = record { applied = f.progress.applied; stage = Begun upto left; ran_short = true }; stops = stops; tables = ts })
    → AreFurther f.stops stops → length ts ≡ length f.tables → left ≤ left_of f.progress
left_fewer log f upto left stops ts was e now further many =
    let ms = cores (slice_range log f.progress.applied upto) in
    let less = fewer_behind (length f.tables) f.stops stops f.progress.applied ms further in
    let same = ap (λ n. parts_behind n stops f.progress.applied ms) many in
    let first = ap (λ n. parts_behind (length f.tables) f.stops f.progress.applied (cores (slice_range log f.progress.applied n))) e in
    omega (arith, now.left, less, same, first, was.left)

-- ---- a batch that is kept
pub keeps : (log : List Message) (before : ℕ) (f : Follower) → FollowsLog log f → f.progress ≡ resting_at before → before < length log
    → FollowsLog log (record f { progress = keeping before (length log) })
keeps log before f h is l = record {
  progress = record { on = omega (arith, l); inside = omega arith; stage = l };
  some = h.some;
  rests = λ z. subst (λ (p : Progress). HoldsLog (length f.tables) (cores (take p.applied log)) f.tables) is (h.rests (ap left_of is));
  begun = λ less. absurd (omega (arith, less));
}

-- ---- a log that grows
pub follows_more : (log more : List Message) (f : Follower) → FollowsLog log f → FollowsLog (log ++ more) f
follows_more log more f h =
    let on = h.progress.on in
    let inside = h.progress.inside in
    record {
      progress = record { on = on; inside = omega (arith, inside, length-append log more); stage = stage_inside f.progress.stage on inside h.progress.stage };
      some = h.some;
      rests = λ z. subst (λ (xs : List Message). HoldsLog (length f.tables) (cores xs) f.tables)
          (sym (take-append-le f.progress.applied log more (omega (arith, on, inside)))) (h.rests z);
      begun = λ l.
          let s = h.begun l in
          record {
            within = s.within;
            holds = stops_inside log more f.progress.applied (end_of f.progress) f.stops f.tables inside s.within s.holds;
            left = s.left ∙ ap (λ xs. parts_behind (length f.tables) f.stops f.progress.applied (cores xs))
                (sym (slice_inside f.progress.applied (end_of f.progress) log more on inside));
          };
    }
  where
    stage_inside : (s : Stage) → f.progress.applied ≤ end_of (record f.progress { stage = s }) →
        end_of (record f.progress { stage = s }) ≤ length log
        → IsStage log f.progress.applied s → IsStage (log ++ more) f.progress.applied s
    stage_inside Level on l h = tt
    stage_inside (Keeping upto) on l h = h
    stage_inside (Begun upto left) on l h =
        (h.0, subst (λ (es : List Effect). left < length es) (sym (between_inside f.progress.applied upto log more on l)) h.1)

    stops_inside : (log more : List Message) (from upto : ℕ) (stops : List ℕ) (ts : List ShardState) → upto ≤ length log
        → StopWithin from upto stops → HoldsTo (length ts) (cores log) stops ts → HoldsTo (length ts) (cores (log ++ more)) stops ts
    stops_inside log more from upto stops ts l within holds = record {
      many = holds.many;
      counts = holds.counts;
      each = λ k less.
          let stop = (within k (let n = holds.counts in omega (arith, less, n))).1 in
          let many = length-map log core in
          holds.each k less
          ∙ ap (λ (ms : List Core). Some (shard_of_log (length ts) ms k)) (sym (ap (take (slice_index stops k)) (cores_append log more)
          ∙ take-append-le (slice_index stops k) (cores log) (cores more) (omega (arith, stop, l, many))));
    }

-- ---- from the clauses of the calls
pub ok_of : {A E : Type 0} (P : Type 0) (r : Result A E) → is_ok r ≡ true → OnOk r P → P
ok_of P (Ok x) e h = h
ok_of P (Err x) e h = cc

pub err_of : {A E : Type 0} (P : Type 0) (r : Result A E) → is_ok r ≡ false → OnErr r P → P
err_of P (Ok x) e h = cc
err_of P (Err x) e h = h

-- as many parts are left as were counted
pub counted_by : (shards from left : ℕ) (ms : List Core) (read stops : List ℕ) → read ≡ stops → length stops ≡ shards
    → left ≡ parts_behind (length read) read from ms → left ≡ parts_behind shards stops from ms
counted_by shards from left ms read stops same many e =
    e ∙ (λ i. parts_behind (length (same i)) (same i) from ms) ∙ ap (λ n. parts_behind n stops from ms) many

-- stops that went on are in the batch still
pub stops_further : (from upto : ℕ) (old new : List ℕ) → length new ≡ length old → StopWithin from upto old → AreFurther old new
    → StopWithin 0 upto new → StopWithin from upto new
stops_further from upto old new many within further ends k l =
    let was = (within k (omega (arith, l, many))).0 in
    let more = further k in
    (omega (arith, was, more), (ends k l).1)

-- what was written into a list of the same length
pub written_back : (len : ℕ) (new old : List ℕ) → length new ≡ length old → len ≡ length old
    → take len (new ++ drop (length new) old) ≡ new
written_back len new old many is =
    take-append-le len new (drop (length new) old) (omega (arith, many, is)) ∙ take_all len new (omega (arith, many, is))

-- ---- a batch was applied, and isn't noted yet
pub tried : (log : List Message) (upto : ℕ) (f : Follower) (stops : List ℕ) (ts : List ShardState) (ended : Result (Unit {0}) AllocError)
    → CanFollow log upto f → OnOk ended (AppliesWhole log f.progress.applied upto f.tables ts)
    → OnErr ended (AppliesTo log f.progress.applied upto f.tables ts stops)
    → IsTriedTo log upto (record { progress = f.progress; stops = stops; tables = ts }) ended
tried log upto f stops ts (Ok x) h ok err = record {
  can = (h.follows.progress, h.rests);
  on = h.on;
  within = h.within;
  few = h.few;
  some = (let many = ok.many in let some = h.follows.some in omega (arith, many, some));
  ok = subst (λ n. HoldsLog n (cores (take upto log)) ts) (sym ok.many) (ok.holds (h.follows.rests h.rests));
  err = tt;
}
tried log upto f stops ts (Err e) h ok err = record {
  can = (h.follows.progress, h.rests);
  on = h.on;
  within = h.within;
  few = h.few;
  some = (let many = err.many in let some = h.follows.some in omega (arith, many, some));
  ok = tt;
  err = (err.within, subst (λ n. HoldsTo n (cores log) stops ts) (sym err.many) (err.holds (h.follows.rests h.rests)));
}

-- and noted it is what it was, from the same progress
pub comes_from : (log : List Message) (upto : ℕ) (old mid new : Follower) (result : Result (Unit {0}) AllocError) → mid.progress ≡ old.progress
    → ComesTo log upto mid new result → ComesTo log upto old new result
comes_from log upto old mid new result same h = record {
  follows = h.follows;
  ok = h.ok;
  err = subst (λ (p : Progress). OnErr result ((new.progress ≡ short p) ⊎ BatchBegins log p.applied upto new.progress)) same h.err;
}

-- ---- a site's log grows at its end, and the tables that follow it follow it still

abbrev pub Extends : List Message → List Message → Type 0
Extends log new = (more : List Message) × (new ≡ log ++ more)

-- the settled log is the log and some more
pub settle_extends : (n : ℕ) (log waiting : List Message) → Extends log (settle n log waiting).0
settle_extends zero log waiting = ([], sym (append-nil log))
settle_extends (suc n) log waiting =
    elim (first_ready log waiting) as
    (λ o. Extends log (elim o as (λ _. List Message × List Message) [ None ↦ (log, waiting) | Some p ↦ settle n (log ++ p.0 ∷ []) p.1 ]).0) [
      | None ↦ ([], sym (append-nil log))
      | Some p ↦ let r = settle_extends n (log ++ p.0 ∷ []) p.1 in (p.0 ∷ r.0, r.1 ∙ append_assoc log (p.0 ∷ []) r.0)
    ]

-- ---- a message that arrives

none_more : (s : Replica) → Extends s.log s.log
none_more s = ([], sym (append-nil s.log))

one_of : {A : Type 0} (b : Bool) (log : List Message) (x y : Replica × A) → Extends log x.0.log → Extends log y.0.log → Extends log (cond b x y).0.log
one_of true log x y h g = h
one_of false log x y h g = g

pub arrived_extends : (p : Place) (s : Replica) (m : Message) → Extends s.log (arrived p s m).0.log
arrived_extends p s m =
    one_of (not_ours p s m) s.log _ _ (none_more s)
    (one_of (is_repeat s m) s.log _ _ (none_more s)
    (one_of (is_full p.keep s) s.log _ _ (none_more s) (settle_extends (length (s.waiting ++ m ∷ [])) s.log (s.waiting ++ m ∷ []))))

-- ---- the tables

pub follows_extended : (log new : List Message) (f : Follower) → Extends log new → FollowsLog log f → FollowsLog new f
follows_extended log new f e h = subst (λ (l : List Message). FollowsLog l f) (sym e.1) (follows_more log e.0 f h)

-- ---- a site's log grows at its end, and the tables that follow it follow it still

-- ---- a message that the site makes

made_extends : (p : Place) (s : Replica) (x : Shadow) → Extends s.log (after_made p s x).log
made_extends p s x =
    let r = settle_extends (length s.waiting) (s.log ++ made p s x ∷ []) s.waiting in
    (made p s x ∷ r.0, r.1 ∙ append_assoc s.log (made p s x ∷ []) r.0)

pub follows_made : (p : Place) (s new : Replica) (x : Shadow) (f : Follower) → new ≡ after_made p s x → FollowsLog s.log f → FollowsLog new.log f
follows_made p s new x f e =
    let more = made_extends p s x in
    follows_extended s.log new.log f (more.0, ap (λ (r : Replica). r.log) e ∙ more.1)

-- ---- a message that arrives

pub follows_arrived : (p : Place) (s new : Replica) (m : Message) (f : Follower) → new ≡ (arrived p s m).0 → FollowsLog s.log f → FollowsLog new.log f
follows_arrived p s new m f e =
    let more = arrived_extends p s m in
    follows_extended s.log new.log f (more.0, ap (λ (r : Replica). r.log) e ∙ more.1)

-- ---- the token, which leaves the log

same_log : {A : Type 0} (b : Bool) (log : List Message) (x y : Replica × A) → x.0.log ≡ log → y.0.log ≡ log → (cond b x y).0.log ≡ log
same_log true log x y h g = h
same_log false log x y h g = g

passing_log : (p : Place) (s : Replica) (to : ℕ) (held : Option ℕ) → (passing p s to held).0.log ≡ s.log
passing_log p s to None = refl
passing_log p s to (Some issued) = same_log (nat_le p.sites to || (to == p.site)) s.log _ _ refl (same_log (nat_le 1000000000 s.last) s.log _ _ refl refl)

pub follows_passed : (p : Place) (s new : Replica) (to : ℕ) (a : Result Token Refusal) (f : Follower) → (new, a) ≡ passed p s to
    → FollowsLog s.log f → FollowsLog new.log f
follows_passed p s new to a f e = subst (λ l. FollowsLog l f) (sym (ap (λ r. r.0.log) e ∙ passing_log p s to s.held))

-- ---- the opening tables

pub follows_opening : (log : List Message) (f : Follower) → log ≡ [] → f.progress ≡ resting_at 0 → 0 < length f.tables
    → HoldsLog (length f.tables) [] f.tables → FollowsLog log f
follows_opening log f e p some holds =
    subst (λ (l : List Message). FollowsLog l f) (sym e)
    (subst (λ (q : Progress). FollowsLog [] (record f { progress = q })) (sym p) (rests_follow [] 0 f (omega arith) some holds))

-- ---- with all of the log applied

-- all of it stands
pub all_at : (log : List Message) (f : Follower) → f.progress ≡ resting_at (length log) → take f.progress.applied log ≡ log
all_at log f e = ap (λ (p : Progress). take p.applied log) e ∙ take-length log

-- the tables are those of the whole log
pub tables_of_log : (log : List Message) (f : Follower) → FollowsLog log f → f.progress ≡ resting_at (length log)
    → union f.tables ≡ (fold_of (cores log)).tables
tables_of_log log f h e =
    union_of_log (length f.tables) (cores (take f.progress.applied log)) f.tables h.some (h.rests (ap left_of e))
    ∙ ap (λ xs. (fold_of (cores xs)).tables) (all_at log f e)
