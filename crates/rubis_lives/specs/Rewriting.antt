-- What was kept is rewritten without what changed nothing: what a site answers afterwards, and what is left of its files at each moment.
use Rattle.std.specs.Prelude.{◌≡◌, ◌≢◌, ◌+◌, ◌<◌, ◌++◌, ◌∷◌, ◌⊎◌, [], ℕ, Bool, List, MatchBool, cond, false, length, map, true}
use Rattle.rubis_message.specs.Inputs.{input_of}
use Rattle.rubis_model.specs.Rebuild.{sent_on_inputs}
use Rattle.rubis_model.specs.Site.{Place, opening_at}
use Rattle.rubis_keep.specs.History.{Files, FileState, IsSafe, IsFrontOf}
use Rattle.rubis_keep.specs.Shortened.{LeavesOut}
use Rattle.rubis_keys.specs.Keys.{keyed_answers, keyed_opening}
use Rattle.rubis_keys.specs.Laws.{after_records, bare_of}
use Rattle.rubis_lives.specs.Histories.{SurvivesIn}

-- ---- what a site answers afterwards

-- a site that reads `short` in place of `full`, and then more records, comes to the state to which it would have come, with what it knows under
-- keys, and sends the packets that it would have sent, in their order. It answers these records as it would have answered them, but for their numbers
pub record KeepsThePromise (p : Place) (short full more : List (List (List ℕ))) : Type 0 where
  pub state : after_records p (short ++ more) ≡ after_records p (full ++ more)
  pub sent : sent_on_inputs p (opening_at p.site) (map (input_of p.sites) (bare_of p (keyed_opening p.site) (short ++ more)))
      ≡ sent_on_inputs p (opening_at p.site) (map (input_of p.sites) (bare_of p (keyed_opening p.site) (full ++ more)))
  pub was : keyed_answers p (keyed_opening p.site) 1 (full ++ more)
      ≡ keyed_answers p (keyed_opening p.site) 1 full ++ keyed_answers p (after_records p full) (1 + length full) more
  pub is : keyed_answers p (keyed_opening p.site) 1 (short ++ more)
      ≡ keyed_answers p (keyed_opening p.site) 1 short ++ keyed_answers p (after_records p full) (1 + length short) more

-- a site that reads a shortened recording keeps the promise of the full one
abbrev pub ShorteningKeepsThePromise : Type 0
ShorteningKeepsThePromise = (p : Place) (short full more : List (List (List ℕ))) → LeavesOut true p (keyed_opening p.site) short full
    → KeepsThePromise p short full more

-- ---- what is left of its files

-- a byte is written to a new file beside `kept`; `out` is emptied, and flushed; the new file is flushed, and takes the name `kept`; and the
-- names in the folder are flushed
pub data Rewriting : Type 0 where
  Wrote : (byte : ℕ) → Rewriting
  Emptied : Rewriting
  EmptyFlushed : Rewriting
  FreshFlushed : Rewriting
  Renamed : Rewriting
  NamesFlushed : Rewriting

-- what was written to the new file, and what of that survives a power failure; whether `out` is empty and the new file has its name, and
-- whether that survives
pub record Rewritten : Type 0 where
  pub fresh : List ℕ
  pub flushed : List ℕ
  pub is_empty : Bool
  pub stays_empty : Bool
  pub is_named : Bool
  pub stays_named : Bool

abbrev pub untouched : Rewritten
untouched = record { fresh = []; flushed = []; is_empty = false; stays_empty = false; is_named = false; stays_named = false }

abbrev pub after_one : Rewritten → Rewriting → Rewritten
after_one r (Wrote b) = record r { fresh = r.fresh ++ b ∷ [] }
after_one r Emptied = record r { is_empty = true }
after_one r EmptyFlushed = record r { stays_empty = r.is_empty }
after_one r FreshFlushed = record r { flushed = r.fresh }
after_one r Renamed = record r { is_named = true }
after_one r NamesFlushed = record r { stays_named = r.is_named }

abbrev pub after_some : Rewritten → List Rewriting → Rewritten
after_some r [] = r
after_some r (e ∷ later) = after_some (after_one r e) later

-- what `rubis keep --shorten` does once all that was kept is answered and flushed, where these lines are what is left of it
abbrev pub rewriting : List ℕ → List Rewriting
rewriting short = map (λ b. Wrote b) short ++ Emptied ∷ EmptyFlushed ∷ FreshFlushed ∷ Renamed ∷ NamesFlushed ∷ []

-- what a kill leaves of files that stood so
abbrev pub killed_in : FileState → Rewritten → Files
killed_in s r = record { log = cond r.is_named r.fresh s.kept; out = cond r.is_empty [] s.out }

-- what a power failure may leave: of the new file a prefix that is no shorter than what was flushed; under the name `kept` the new file,
-- or the old one until the names are flushed; and of `out` a prefix until it is flushed
abbrev pub IsOfFresh : Rewritten → List ℕ → Type 0
IsOfFresh r log = IsFrontOf r.flushed log × IsFrontOf log r.fresh

abbrev pub IsOfKept : FileState → List ℕ → Type 0
IsOfKept s log = IsFrontOf s.flushed log × IsFrontOf log (s.kept ++ s.cut)

-- what a power failure may leave, as far as the rewriting has come
abbrev pub MayBeLeft : FileState → Rewritten → Files → Type 0
MayBeLeft s r files = MatchBool r.stays_named (IsOfFresh r files.log) (IsOfKept s files.log ⊎ ((r.is_named ≡ true) × IsOfFresh r files.log))
    × MatchBool r.stays_empty (files.out ≡ []) (IsFrontOf files.out s.out)

abbrev pub IsLeftIn : FileState → Rewritten → Files → Type 0
IsLeftIn s r files = (files ≡ killed_in s r) ⊎ MayBeLeft s r files

-- it is what was kept, with a prefix of the answers to it; or all of the new lines, with no answers yet
abbrev pub IsOldOrNew : FileState → List ℕ → Files → Type 0
IsOldOrNew s short files = SurvivesIn s files ⊎ (files ≡ record { log = short; out = [] })

-- so it is at each moment of the rewriting, whether the process is killed or the power fails
abbrev pub RewritingLeavesFiles : Type 0
RewritingLeavesFiles = (text : List (List (List ℕ)) → List ℕ) (s : FileState) (short : List ℕ) (first later : List Rewriting) (files : Files) → IsSafe text s
    → s.flushed ≡ s.kept → first ++ later ≡ rewriting short → IsLeftIn s (after_some untouched first) files → IsOldOrNew s short files

-- ---- orders that are refused

-- answers are left beside lines of which they aren't the answers, where the new file takes its name before `out` is empty
abbrev pub NamedBeforeEmptied : Type 0
NamedBeforeEmptied = (s : FileState) (short : List ℕ) → s.out ≢ [] → length short < length s.flushed
    → IsOldOrNew s short (killed_in s (after_some untouched (map (λ b. Wrote b) short ++ FreshFlushed ∷ Renamed ∷ []))) → ⊥

-- and what was kept is lost, where it does before it is flushed
abbrev pub NamedBeforeFlushed : Type 0
NamedBeforeFlushed = (s : FileState) (short : List ℕ) → short ≢ [] → s.flushed ≢ []
    → ((files : Files) → IsLeftIn s (after_some untouched (map (λ b. Wrote b) short ++ Emptied ∷ EmptyFlushed ∷ Renamed ∷ [])) files → IsOldOrNew s short files) → ⊥
