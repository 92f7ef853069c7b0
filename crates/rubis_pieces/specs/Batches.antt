-- A batch folded on the shards of a set, as far as memory went: the shards gathered by number, and what is left of it.
use Rattle.std.specs.Prelude.{◌≡◌, ℕ, ◌<◌, ◌≤◌, List, Bool, false, true, Some, slice_get, map, length, [], ◌∷◌, flat_map, cond, nat_lt, ◌+◌, drop, take, ◌-◌}
use Rattle.std.specs.Prelude.{◌++◌, ⊤, nat_eq, sum_by}
use Rattle.rubis_pieces.specs.declared.pieces.Done.{Done}
use Rattle.rubis_pieces.specs.declared.gathers.FaultKind.{FaultKind}
use Rattle.rubis_pieces.specs.declared.gathers.FaultKind.TheVariants.{Stranger, Twice, Missing}
use Rattle.rubis_shard.specs.States.{ShardState, with_parts}
use Rattle.rubis_pieces.specs.declared.pieces.Left.{Left}
use Rattle.std.specs.List.Sorted.{IsPermutation}
use Rattle.rubis_pieces.specs.declared.gathers.CountedShards.{CountedShards}
use Rattle.rubis_pieces.specs.declared.gathers.Gathered.{Gathered}
use Rattle.std.specs.Global.{Vec}
use Rattle.rubis_shadow.specs.declared.numbered.Numbered.{Numbered}
use Rattle.rubis_model.specs.Log.{Core, numbered_from, parts_of, share}
use Rattle.rubis_shard.specs.Holdings.{parts_at, shard_of_log, HoldsLog}
use Rattle.rubis_shard.specs.declared.shares.Share.{Share}
use Rattle.std.specs.List.{All}
use Rattle.rubis_schema.specs.Keys.{home}
use Rattle.rubis_pieces.specs.Pieces.{IsShareOf}
use Rattle.rubis_pieces.specs.declared.pieces.Piece.{Piece}

abbrev pub numbers_of : List Done → List ℕ
numbers_of ds = map (λ (d : Done). d.shard.number) ds

abbrev pub AllUnseen : List Bool → Type 0
AllUnseen seen = (k : ℕ) (b : Bool) → slice_get seen k ≡ Some b → b ≡ false

-- some place below i has the number
abbrev pub StandsBelow : ℕ → List ℕ → ℕ → Type 0
StandsBelow i ns n = (j : ℕ) × (j < i) × (slice_get ns j ≡ Some n)

-- the numbers at the places below i are below the count of shards, and none stands twice
pub record IsSoundTo (shards i : ℕ) (ns : List ℕ) : Type 0 where
  pub below : (j n : ℕ) → j < i → slice_get ns j ≡ Some n → n < shards
  pub once : (j n : ℕ) → j < i → slice_get ns j ≡ Some n → StandsBelow j ns n → ⊥

-- each number once
pub record IsGatherable (shards : ℕ) (ns : List ℕ) : Type 0 where
  pub sound : IsSoundTo shards (length ns) ns
  pub all : (k : ℕ) → k < shards → StandsBelow (length ns) ns k
  pub many : length ns ≡ shards

-- what a walk through the list finds first: a number that is none of the set, or a duplicate; after it the smallest absent number
abbrev pub IsFault : ℕ → List ℕ → FaultKind → Type 0
IsFault shards ns (Stranger p) = (i : ℕ) × IsSoundTo shards i ns × (slice_get ns i ≡ Some p) × (shards ≤ p)
IsFault shards ns (Twice p) = (i : ℕ) × IsSoundTo shards i ns × (slice_get ns i ≡ Some p) × StandsBelow i ns p
IsFault shards ns (Missing p) = IsSoundTo shards (length ns) ns × (p < shards) × (StandsBelow (length ns) ns p → ⊥)
    × ((k : ℕ) → k < p → StandsBelow (length ns) ns k)

-- the flags say which numbers stand below i
pub record IsSeenTo (i : ℕ) (ns : List ℕ) (seen : List Bool) : Type 0 where
  pub yes : (k : ℕ) → slice_get seen k ≡ Some true → StandsBelow i ns k
  pub no : (k : ℕ) → slice_get seen k ≡ Some false → StandsBelow i ns k → ⊥

-- ---- room for gathering

-- a flag for each shard, none of which is set, and room for as many shards and shares
pub record HasRoomForEach (seen : List Bool) (shards : List ShardState) (shard_room : ℕ) (left : List Left) (left_room : ℕ) : Type 0
  where
    pub unseen : AllUnseen seen
    pub no_shards : shards ≡ []
    pub no_left : left ≡ []
    pub for_shards : length seen ≤ shard_room
    pub for_left : length seen ≤ left_room

-- ---- shards by number, and what is left of their shares

-- the share, where it isn't folded whole
abbrev pub share_left : Done → List Left
share_left d = cond (nat_lt d.done (length d.share.effects)) (record { share = d.share; done = d.done } ∷ []) []

-- the same list in order of number, each number once
pub record IsInOrder (shards : ℕ) (list ds : List Done) : Type 0 where
  pub moved : IsPermutation list ds
  pub many : length ds ≡ shards
  pub placed : (k : ℕ) → k < shards → slice_get (numbers_of ds) k ≡ Some k

-- the shards of the list in order of number, and those of their shares that aren't folded whole
abbrev pub IsGathered : ℕ → List Done → Gathered → Type 0
IsGathered shards list g =
    (ds : List Done) × IsInOrder shards list ds × (g.shards ≡ map (λ (d : Done). d.shard) ds) × (g.left ≡ flat_map share_left ds)

-- the shards of the list in order of number, with how much is done of each
abbrev pub IsCounted : ℕ → List Done → CountedShards → Type 0
IsCounted shards list c =
    (ds : List Done) × IsInOrder shards list ds × (c.shards ≡ map (λ (d : Done). d.shard) ds) × (c.dones ≡ map (λ (d : Done). d.done) ds)

-- ---- the shares of a batch

-- each part in the share of its home, in their order
pub record AreDealt (shards : ℕ) (ns : List Numbered) (shares : List Share) : Type 0 where
  pub many : length shares ≡ shards
  pub each : (k : ℕ) → k < shards → slice_get shares k ≡ Some (record { number = k; effects = parts_at shards k ns })

-- the shares of a batch whose first message is that entry of the log, in order of number
abbrev pub AreShares : ℕ → ℕ → List Core → List Share → Type 0
AreShares shards first batch shares = AreDealt shards (numbered_from first batch) shares

-- a part of a batch is of 1,024 messages, or of those that are left
abbrev pub batch_part : {X : Type 0} → ℕ → List X → List X
batch_part from batch = take 1024 (drop from batch)

-- the shares of each part of a batch, in order
abbrev pub AreOfParts : ℕ → ℕ → List Core → List (Vec Share) → Type 0
AreOfParts shards first batch [] = batch ≡ []
AreOfParts shards first batch (part ∷ parts) =
    AreShares shards first (take 1024 batch) part.items × AreOfParts shards (first + length (take 1024 batch)) (drop 1024 batch) parts

-- ---- a batch folded on the shards of a set, as far as memory went, and what is left of it

-- a beginning of the share is folded on the shard, as long as it says
pub record IsFolded (s : ShardState) (h : Share) (d : Done) : Type 0 where
  pub share : d.share ≡ h
  pub done : d.done ≤ length h.effects
  pub shard : d.shard ≡ with_parts s (take d.done h.effects)

-- each share is its shard's
abbrev pub Belong : List ShardState → List Share → Type 0
Belong [] [] = ⊤
Belong (s ∷ ss) (h ∷ hs) = IsShareOf s h × Belong ss hs
Belong ss hs = ⊥

-- of each share a beginning is folded on its shard
abbrev pub AreSharesFolded : List ShardState → List Share → List Done → Type 0
AreSharesFolded [] [] [] = ⊤
AreSharesFolded (s ∷ ss) (h ∷ hs) (d ∷ ds) = IsFolded s h d × AreSharesFolded ss hs ds
AreSharesFolded ss hs ds = ⊥

-- the shards afterwards, and what is left of their shares
abbrev pub AreFoldedTo : List ShardState → List Share → Gathered → Type 0
AreFoldedTo ss hs g = (ds : List Done) × AreSharesFolded ss hs ds × (g.shards ≡ map (λ (d : Done). d.shard) ds)
    × (g.left ≡ flat_map share_left ds)

-- the parts that are still to be folded on shard k
abbrev pub rest_of : List Left → ℕ → List Numbered
rest_of [] k = []
rest_of (l ∷ ls) k = cond (nat_eq l.share.number k) (drop l.done l.share.effects) (rest_of ls k)

-- shares of the batch that aren't folded whole, in order of number from n on
abbrev pub AreLeft : ℕ → ℕ → ℕ → List Core → List Left → Type 0
AreLeft n shards first batch [] = ⊤
AreLeft n shards first batch (l ∷ ls) =
    (n ≤ l.share.number) × (l.share.number < shards) × (l.share.effects ≡ share shards first batch l.share.number)
    × (l.done < length l.share.effects)
    × AreLeft (l.share.number + 1) shards first batch ls

-- of each shard's share of the batch a beginning is folded on, and `left` says how much of which shares
pub record IsBegun (first : ℕ) (batch : List Core) (old new : List ShardState) (left : List Left) : Type 0 where
  pub many : length new ≡ length old
  pub each : (k : ℕ) (s : ShardState) → slice_get old k ≡ Some s → (d : ℕ)
      × (slice_get new k ≡ Some (with_parts s (take d (share (length old) first batch k))))
      × (rest_of left k ≡ drop d (share (length old) first batch k))
  pub rest : AreLeft 0 (length old) first batch left

-- the shards hold the log, but for the parts that are left: with these folded on, each would be that of the log
pub record HoldsBut (shards : ℕ) (log : List Core) (left : List Left) (ts : List ShardState) : Type 0 where
  pub many : length ts ≡ shards
  pub each : (k : ℕ) → k < shards → (s : ShardState) × (slice_get ts k ≡ Some s)
      × (with_parts s (rest_of left k) ≡ shard_of_log shards log k)

-- shards that hold a log come to hold it with the batch after it, but for what is left
abbrev pub TakesBatch : ℕ → List Core → List ShardState → List ShardState → List Left → Type 0
TakesBatch first batch old new left =
    (shards : ℕ) (log : List Core) → first ≡ 1 + length log → HoldsLog shards log old → HoldsBut shards (log ++ batch) left new

-- and wholly, where nothing is left
abbrev pub TakesWholeBatch : ℕ → List Core → List ShardState → List ShardState → List Left → Type 0
TakesWholeBatch first batch old new left =
    left ≡ [] → (shards : ℕ) (log : List Core) → first ≡ 1 + length log → HoldsLog shards log old
    → HoldsLog shards (log ++ batch) new

-- shares with parts still to be folded, in order of number from n on; the shard of that number is the home of each part
abbrev pub AreUnfinished : ℕ → ℕ → List Left → Type 0
AreUnfinished n shards [] = ⊤
AreUnfinished n shards (l ∷ ls) =
    (n ≤ l.share.number) × (l.share.number < shards) × All (λ p. home shards p.effect.key ≡ l.share.number) l.share.effects
    × (l.done < length l.share.effects)
    × AreUnfinished (l.share.number + 1) shards ls

-- how many parts are still to be folded
abbrev pub parts_left : List Left → ℕ
parts_left ls = sum_by (λ (l : Left). length l.share.effects - l.done) ls

-- no more parts are left than the batch has; where all are, the shards are as they were
pub record LeavesNoMore (batch : List Core) (old new : List ShardState) (left : List Left) : Type 0 where
  pub few : parts_left left ≤ length (flat_map parts_of batch)
  pub none : parts_left left ≡ length (flat_map parts_of batch) → new ≡ old

-- ---- pieces, and what work makes of one

-- the share is the shard's own: it has its number, and each part's key has its home there
abbrev pub IsPiece : Piece → Type 0
IsPiece p = IsShareOf p.shard p.share

-- a beginning of the piece's share is folded on its shard, as long as it says
abbrev pub IsWorked : Piece → Done → Type 0
IsWorked p d = IsFolded p.shard p.share d

-- each shard with the share in its place
abbrev pub pieces_of : List ShardState → List Share → List Piece
pieces_of [] shares = []
pieces_of (s ∷ ts) [] = []
pieces_of (s ∷ ts) (share ∷ shares) = record { shard = s; share = share } ∷ pieces_of ts shares
