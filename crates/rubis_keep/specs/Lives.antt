-- What a site that keeps lines has answered, and what its files are between two turns of a run.
use Rattle.std.specs.Prelude.{◌≡◌, ◌+◌, ◌++◌, [], ℕ, List, Option, Some, false, length, true}
use Rattle.rubis_model.specs.Site.{Place}
use Rattle.rubis_engine.specs.Accounts.{Account, Ending}
use Rattle.rubis_engine.specs.Accounts.Ending.{AtEnd}
use Rattle.rubis_engine.specs.Text.{input_records}
use Rattle.rubis_keys.specs.Keys.{KeyedSite}
use Rattle.rubis_keep.specs.Turns.{Answering, HoldsNothing, still_to_put}
use Rattle.rubis_keep.specs.History.{FileState, IsSafe, records_in, IsFrontOf, IsLeft}
use Rattle.rubis_keep.specs.Lines.{HasSoundLines, begun_after, whole_lines, HasWholeRecords}
use Rattle.rubis_keep.specs.Shortened.{state_after}

-- the records of `kept` are answered by `told`, and led the site, which had begun in state s at place p, to where it is: `all` is the account of
-- all its records
pub record HasAnsweredKept (all : Account) (p : Place) (s : KeyedSite) (a : Answering) (told kept : List ℕ) : Type 0 where
  pub text : (ending : Ending) (more : List (List (List ℕ))) → all.text ending (input_records kept ++ more) ≡ told ++ still_to_put a ending more
  pub place : a.place ≡ p
  pub state : a.state ≡ state_after p s (input_records kept)
  pub count : a.answered ≡ length (input_records kept)
  pub whole : HasWholeRecords kept
  pub idle : HoldsNothing a

-- all that was kept is answered again, `out` has the answers, which begin as those of before, and none of these are left
pub record HasReplayed (all : Account) (p : Place) (s : KeyedSite) (a : Answering) (kept old : List ℕ) (out : Option (List ℕ)) (len : ℕ) : Type 0 where
  pub found : IsFrontOf old (all.text AtEnd (records_in kept))
  pub told : List ℕ
  pub answered : HasAnsweredKept all p s a told (whole_lines kept)
  pub before_is : a.before ≡ Some []
  pub out_is : out ≡ Some told
  pub length_is : len ≡ length (whole_lines kept)

-- all that was kept is flushed, answered and shown
pub record Rested (all : Account) (p : Place) (s : KeyedSite) (a : Answering) (f : FileState) : Type 0 where
  pub answered : HasAnsweredKept all p s a f.out f.kept
  pub found : a.before ≡ Some []
  pub live : a.is_live ≡ true
  pub sound : HasSoundLines [] f.kept
  pub ends : begun_after [] f.kept ≡ []
  pub flushed : f.flushed ≡ f.kept
  pub cut : f.cut ≡ []
  pub begun : f.begun ≡ true
  pub shown : f.shown ≡ f.out

-- what was kept is flushed, and nothing is shown: the files as a run finds them that answers `kept` again
pub record Found (kept : List ℕ) (s : FileState) : Type 0 where
  pub kept_is : s.kept ≡ kept
  pub flushed : s.flushed ≡ kept
  pub cut : s.cut ≡ []
  pub begun : s.begun ≡ false
  pub shown : s.shown ≡ []

-- the files as a start finds them: safe, and with the beginning of the answers to what was kept
pub record IsAtStart (text : List (List (List ℕ)) → List ℕ) (s : FileState) : Type 0 where
  pub safe : IsSafe text s
  pub begun : s.begun ≡ false
  pub left : IsLeft text (record { log = s.kept; out = s.out })
