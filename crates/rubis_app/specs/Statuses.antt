-- The program's exit status for a site in a folder.
use Rattle.std.specs.Prelude.{ℕ}
use Rattle.rubis_keep.specs.declared.fault.FolderFault.{FolderFault}
use Rattle.rubis_keep.specs.declared.fault.FolderFault.TheVariants as folder

-- the status of a site in a folder that isn't run, or ended early: a folder without a name, without a site to shorten, or of another
-- site than was asked for is a mistake, and all else a fault of the run
abbrev pub status_of : FolderFault → ℕ
status_of folder.NoName = 2
status_of folder.NoSite = 2
status_of folder.NotBelow = 2
status_of (folder.IsOther setup) = 2
status_of (folder.IsOld version) = 2
status_of folder.HasKeys = 2
status_of other = 1
