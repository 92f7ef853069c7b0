-- The line that says how a site is set up.
use Rattle.std.specs.Prelude.{◌++◌, ℕ, List, codes, decimal}
use Rattle.rubis_keep.specs.declared.setup.Setup.{Setup}

abbrev pub setup_line : Setup → List ℕ
setup_line s =
    codes "setup," ++ decimal s.site ++ codes "," ++ decimal s.sites ++ codes "," ++ decimal s.keep ++ codes "," ++ decimal s.answers ++ codes "\n"
