-- What the calls of a site in a folder promise, as the lives of that site are made of it.
use Rattle.std.specs.Prelude.{◌≡◌, ◌≤◌, ◌++◌, ◌⊎◌, [], ℕ, List, Option, Some, true}
use Rattle.rubis_schema.specs.declared.limits.TheConstants.{KEEP_MAX}
use Rattle.rubis_model.specs.Site.{Place}
use Rattle.rubis_engine.specs.Accounts.{Account}
use Rattle.rubis_keep.specs.Saying.{keyed_account}
use Rattle.rubis_keys.specs.Keys.{keyed_opening}
use Rattle.rubis_lives.specs.Histories.{RaisesKeep, ShortensKept, keeping_at_most, IsLife}
use Rattle.rubis_keep.specs.History.{FolderEvent, FileState, History, StaysSafe, now, Ended, Lived}
use Rattle.rubis_keep.specs.Lines.{HasSoundLines}
use Rattle.rubis_keep.specs.Lives.{IsAtStart}
use Rattle.rubis_keep.specs.Shortened.{Shortens}
use Rattle.rubis_lives.specs.Shops.{process_text, process_words}

-- what a site with nothing done makes of its records
abbrev pub kept_account : Place → Account
kept_account p = keyed_account p (keyed_opening p.site) 1

-- a call of `keep_site`, as far as it came before its process was killed, is a life
abbrev pub CallsAreLives : Type 0
CallsAreLives = (p : Place) (h h2 : History) (first later : List FolderEvent) → (IsAtStart (process_text p) (now h) → StaysSafe (process_words p) (Some h) (Some h2))
    → h2.events ≡ h.events ++ (first ++ later) → IsLife (process_words p) (now h) first

-- what `shorten` writes to a file that was empty may replace what was kept
abbrev pub ShortenedMayReplace : Type 0
ShortenedMayReplace = (p : Place) (kept written : List ℕ) → HasSoundLines [] kept → Shortens true p (keyed_opening p.site) (Some kept) (Some []) (Some written)
    → ShortensKept p kept written

-- A run without input has come to its end and left these files, which are flushed; and then one that keeps more messages. It ends with both
-- files as they were, or the site keeps more from then on
abbrev pub RaisedCallsRaise : Type 0
RaisedCallsRaise = (p : Place) (keep : ℕ) (kept old : List ℕ) (done : Option (List ℕ)) (s : FileState) (input later log out : Option (List ℕ))
    → p.keep ≤ keep → keep ≤ KEEP_MAX → s.flushed ≡ s.kept
    → Lived (kept_account p) kept old (Some []) done (Some s.kept) (Some s.out)
    → (Lived (kept_account (keeping_at_most p keep)) s.kept s.out input later log out → RaisesKeep p s keep)
    × (Ended (kept_account (keeping_at_most p keep)) s.kept s.out input later log out → ((log ≡ Some s.kept) × (out ≡ Some s.out)) ⊎ RaisesKeep p s keep)
