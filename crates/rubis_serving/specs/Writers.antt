-- Writers are outlets.
use Rattle.std.specs.Prelude.{[], ℕ, List, Option, refl}
use Rattle.csv.proofs.WriteFacts.{appends-more, appends-none}
use Rattle.rubis_engine.proofs.RunFacts.{front-longer, front-second}
use Rattle.rubis_serving.specs.Outlets.{IsOutlet, writes, writes_front}

pub are_outlets : {W : Type 0} (contents : W → Option (List ℕ)) → IsOutlet (writes contents) (writes_front contents)
are_outlets contents = record {
  none = λ o. appends-none (contents o);
  more = λ xs ys a b c. appends-more (contents a) (contents b) (contents c) xs ys;
  torn_none = λ xs o. ([], xs, appends-none (contents o), refl);
  torn_later = λ xs ys a b c. front-second (contents a) (contents b) (contents c) xs ys;
  torn_longer = λ xs ys a b. front-longer (contents a) (contents b) xs ys;
}
