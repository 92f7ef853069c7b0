-- The version of a message calls for no quotes.
use Rattle.std.proofs.Common.{◌≡◌, refl, true}
use Rattle.rubis_schema.specs.FieldList.{is_plain}
use Rattle.rubis_shadow.specs.Shadows.{version_of}
use Rattle.rubis_shadow.specs.declared.shadows.Shadow.{Shadow}
use Rattle.rubis_shadow.specs.declared.shadows.Shadow.TheVariants.{User}

pub version_plain : (s : Shadow) → is_plain (version_of s) ≡ true
version_plain (User n) = refl
version_plain s = refl
