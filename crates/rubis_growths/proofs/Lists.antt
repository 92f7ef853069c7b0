-- What holds of all elements of a list.
use Rattle.std.proofs.Common.{List, [], ◌∷◌, ◌++◌, inl, inr, subst, sym}
use Rattle.std.specs.List.{All}
use Rattle.std.proofs.lemmas.List.Elements.{All-head, All-tail}
use Rattle.rubis_model.specs.Site.{Has}

-- what holds of all of a list holds of its end
pub of_rest : {A : Type 0} (P : A → Type 0) (taken rest : List A) → All P (taken ++ rest) → All P rest
of_rest P [] rest a = a
of_rest P (x ∷ taken) rest a = of_rest P taken rest (All-tail P x (taken ++ rest) a)

-- and of each element
pub of_each : {A : Type 0} (P : A → Type 0) (all : List A) (x : A) → All P all → Has x all → P x
of_each P [] x a h = absurd h
of_each P (y ∷ all) x a (inl e) = subst P (sym e) (All-head P y all a)
of_each P (y ∷ all) x a (inr h) = of_each P all x (All-tail P y all a) h
