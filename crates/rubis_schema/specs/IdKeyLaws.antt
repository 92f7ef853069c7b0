-- The laws of the keys of rows with ids.
use Rattle.std.proofs.Common.{◌≡◌, Bool, true, false, refl, sym, ap, ◌∙◌, subst}
use Rattle.std.specs.Prelude.{Decides, ◌&&◌, nat_eq}
use Rattle.std.proofs.lemmas.Bool.Decides.{Decides-eqb}
use Rattle.std.specs.Cmp.{IsEquivalence}
pub use Rattle.rubis_schema.specs.Keys.{same_id_key}
use Rattle.rubis_schema.specs.Keys.{key_in, row_key, table_place, key_eq}
use Rattle.rubis_schema.specs.KeyLaws.{key_eq_equiv}
use Rattle.rubis_schema.specs.declared.id_keys.IdKey.{IdKey}
use Rattle.rubis_schema.specs.declared.id_keys.IdTable.{IdTable}
use Rattle.rubis_schema.specs.declared.id_keys.IdTable.TheVariants as table

-- two keys are equal if and only if they are equal as row keys
pub same_as_row_keys : (k l : IdKey) → same_id_key k l ≡ key_eq (row_key k) (row_key l)
same_as_row_keys k l = at k.table l.table
  where
    at : (s t : IdTable) → (nat_eq (table_place s) (table_place t) && (nat_eq k.site l.site && nat_eq k.seq l.seq))
        ≡ key_eq (key_in s (record { site = k.site; seq = k.seq })) (key_in t (record { site = l.site; seq = l.seq }))
    at table.User table.User = refl
    at table.Item table.Item = refl
    at table.Bid table.Bid = refl
    at table.Purchase table.Purchase = refl
    at table.Comment table.Comment = refl
    at s t = refl

table_of_place : (s t : IdTable) → table_place s ≡ table_place t → s ≡ t
table_of_place table.User table.User e = refl
table_of_place table.Item table.Item e = refl
table_of_place table.Bid table.Bid e = refl
table_of_place table.Purchase table.Purchase e = refl
table_of_place table.Comment table.Comment e = refl
table_of_place s t e = absurd cc

and_parts : (a b : Bool) → (a && b) ≡ true → (a ≡ true) × (b ≡ true)
and_parts true true e = (refl, refl)
and_parts true false e = absurd cc
and_parts false b e = absurd cc

pub Decides-same_id_key : (k l : IdKey) → Decides (same_id_key k l) (k ≡ l)
Decides-same_id_key k l = (yes, λ e. subst (λ m. same_id_key k m ≡ true) e itself)
  where
    itself : same_id_key k k ≡ true
    itself = λ i. (Decides-eqb (table_place k.table) (table_place k.table)).1 refl i && ((Decides-eqb k.site k.site).1 refl i &&
        (Decides-eqb k.seq k.seq).1 refl i)

    yes : same_id_key k l ≡ true → k ≡ l
    yes e =
        let both = and_parts (nat_eq (table_place k.table) (table_place l.table)) _ e in
        let rest = and_parts (nat_eq k.site l.site) _ both.1 in
        let t = table_of_place k.table l.table ((Decides-eqb _ _).0 both.0) in
        let s = (Decides-eqb k.site l.site).0 rest.0 in
        let q = (Decides-eqb k.seq l.seq).0 rest.1 in
        λ i. record { seq = q i; site = s i; table = t i }

pub same_id_key_equiv : IsEquivalence same_id_key
same_id_key_equiv = record {
  refl = λ k. (Decides-same_id_key k k).1 refl;
  symm = λ k l. same_as_row_keys k l ∙ key_eq_equiv.symm (row_key k) (row_key l) ∙ sym (same_as_row_keys l k);
  congr = λ k l m e. ap (λ x. same_id_key x m) ((Decides-same_id_key k l).0 e);
}
