use Rattle.std.proofs.Common.{arith, inl, refl}
use Rattle.rubis_reading.specs.Streams.{stands}
use Rattle.rubis_reading.proofs.cuts.Looked.none.Goals as goal

pub returns : goal.returns
unfolding stands
returns c text = record {
  within = omega arith;
  upto = omega arith;
  like = inl refl;
  found = λ some. absurd (omega (arith, some));
  none = λ k lt upto h. absurd (omega (arith, lt, upto));
}
