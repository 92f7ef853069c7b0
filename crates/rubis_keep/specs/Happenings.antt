-- What happens to the files of a site by one call.
use Rattle.std.specs.Prelude.{[], ◌∷◌, List, map}
use Rattle.rubis_keep.specs.History.{FolderEvent}
use Rattle.rubis_keep.specs.History.FolderEvent.{Began as HasBegun, CutTo as WasCutTo, Flushed as WasFlushed, Kept as WasKept}
use Rattle.rubis_keep.specs.History.FolderEvent.{Replied as WasReplied, Settled as WasSettled, Shown as WasShown, Told as WasTold}
use Rattle.rubis_keep.specs.declared.seam.Happening.{Happening}
use Rattle.rubis_keep.specs.declared.seam.Happening.TheVariants.{Began, CutTo, Flushed, Kept, Replied, Settled, Shown, Told}

abbrev pub events_of : Happening → List FolderEvent
events_of (Kept bytes) = map (λ b. WasKept b) bytes.now
events_of Flushed = WasFlushed ∷ []
events_of (CutTo len) = WasCutTo len ∷ []
events_of (Told bytes) = map (λ b. WasTold b) bytes.now
events_of Settled = WasSettled ∷ []
events_of (Began records counts) = HasBegun records counts.now ∷ []
events_of (Shown bytes) = map (λ b. WasShown b) bytes.now
events_of (Replied question text) = WasReplied question.now text.now ∷ []
