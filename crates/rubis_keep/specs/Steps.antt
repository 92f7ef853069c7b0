-- What happens in a folder by one call.
use Rattle.rubis_keep.specs.Deeds.{FolderDeed, FolderStep}
use Rattle.rubis_keep.specs.Deeds.FolderDeed.{Answers as IsAnswered, AnswersAnew as IsAnsweredAnew}
use Rattle.rubis_keep.specs.Deeds.FolderDeed.{Rewrites as IsRewritten, Runs as IsRun, SetsUp as IsSetUp}
use Rattle.rubis_keep.specs.Deeds.FolderStep.{Began as HasBegun, Ended as HasEnded, Found as WasFound, FoundKeys as WereFound}
use Rattle.rubis_keep.specs.declared.folder_seam.Deed.{Deed}
use Rattle.rubis_keep.specs.declared.folder_seam.Deed.TheVariants.{Answers, AnswersAnew, Rewrites, Runs, SetsUp}
use Rattle.rubis_keep.specs.declared.folder_seam.Step.{Step}
use Rattle.rubis_keep.specs.declared.folder_seam.Step.TheVariants.{Began, Ended, Found, FoundKeys}

abbrev pub deed_of : Deed → FolderDeed
deed_of (SetsUp setup) = IsSetUp setup
deed_of (Answers config) = IsAnswered config.now
deed_of (AnswersAnew config) = IsAnsweredAnew config.now
deed_of (Rewrites config knows_keys) = IsRewritten config.now knows_keys
deed_of (Runs config settles) = IsRun config.now settles

abbrev pub step_of : Step → FolderStep
step_of (Found setup) = WasFound setup
step_of (FoundKeys some) = WereFound some
step_of (Began deed) = HasBegun (deed_of deed)
step_of (Ended deed) = HasEnded (deed_of deed)
