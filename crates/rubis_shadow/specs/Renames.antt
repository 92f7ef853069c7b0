-- Another nickname of a user.
use Rattle.std.specs.Prelude.{◌≡◌, ◌&&◌, nat_eq, ℕ, List, Bool, Decides}
use Rattle.std.specs.Cmp.{IsEquivalence}
use Rattle.std.specs.Cmp.Lexicographic.{pointwise, bytes_decides}
use Rattle.std.proofs.Common.{refl, sym, ap}
use Rattle.std.proofs.lemmas.Bool.Decides.{Decides-and, Decides-like, same_from_decides}
use Rattle.rubis_schema.specs.KeyLaws.{Decides-same_id}
use Rattle.rubis_schema.specs.Keys.{same_id}
use Rattle.rubis_schema.specs.declared.ids.Id.{Id}

-- the user, the nickname that it has, and the one that it gets
pub record NewRename : Type 0 where
  pub user : Id
  pub from : List ℕ
  pub to : List ℕ

-- the users are the same, and so are both nicknames
abbrev pub same_rename : NewRename → NewRename → Bool
same_rename r s = same_id r.user s.user && (pointwise nat_eq r.from s.from && pointwise nat_eq r.to s.to)

pub Decides-same_rename : (r s : NewRename) → Decides (same_rename r s) (r ≡ s)
Decides-same_rename r s = Decides-like _
    (λ h i. record { user = h.0 i; from = h.1.0 i; to = h.1.1 i })
    (λ e. (ap (λ x. x.user) e, (ap (λ x. x.from) e, ap (λ x. x.to) e)))
    (Decides-and _ _ (Decides-same_id r.user s.user)
    (Decides-and _ _ (bytes_decides r.from s.from) (bytes_decides r.to s.to)))

-- a test that decides equality is an equivalence
pub equiv_from_decides : {A : Type 0} (same : A → A → Bool) → ((a b : A) → Decides (same a b) (a ≡ b)) → IsEquivalence same
equiv_from_decides same decides = record {
  refl = λ a. (decides a a).1 refl;
  symm = λ a b. same_from_decides _ _ (decides a b) (Decides-like _ sym sym (decides b a));
  congr = λ a b c e. ap (λ x. same x c) ((decides a b).0 e);
}

pub same_rename_equiv : IsEquivalence same_rename
same_rename_equiv = equiv_from_decides same_rename Decides-same_rename
