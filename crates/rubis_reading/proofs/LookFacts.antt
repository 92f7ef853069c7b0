-- What is known of a text that was looked through for ends of records.
use Rattle.rubis_reading.proofs.Common.{◌≡◌, ◌≤◌, ◌+◌, ◌∷◌, [], ◌++◌, ◌∙◌, ℕ, List, ap, arith, drop, length, length-append, refl, subst, sym, take}
use Rattle.rubis_reading.proofs.Common.{take-append-drop, true, false, take-append-le, take-append_seam, if◌then◌else◌, is_bom, strip_bom, State}
use Rattle.csv.specs.declared.parser.State.TheVariants as st
use Rattle.rubis_reading.specs.Streams.{HasLooked, state_of_csv, EndsFrom, IsLike, stands}
use Rattle.rubis_reading.specs.declared.cuts.Looked.{Looked}
use Rattle.rubis_reading.proofs.EndFacts.{front-back}
use Rattle.rubis_reading.proofs.QuoteFacts.{front-ends, like-then, stands-append, stands-like, take-all}

-- where the machine stands after the rest of a text, wherever it stood before
pub looked-rest : (s new : State) (text : List ℕ) (place : ℕ) → IsLike s (stands st.StartRecord (take place text))
    → IsLike new (stands s (drop place text)) → IsLike new (stands st.StartRecord (take (length text) text))
looked-rest s new text place like over =
    let before = stands st.StartRecord (take place text) in
    let whole : stands before (drop place text) ≡ stands st.StartRecord (take (length text) text) =
    sym (stands-append st.StartRecord (take place text) (drop place text))
    ∙ ap (stands st.StartRecord) (take-append-drop place text ∙ sym (take-all text)) in
    subst (λ t. IsLike new t) whole (like-then new (stands s (drop place text)) (stands before (drop place text)) over
    (stands-like s before (drop place text) like))

-- bytes are put behind
pub looked-more : (text more : List ℕ) (l : Looked) → HasLooked text l → HasLooked (text ++ more) l
looked-more text more l h =
    let longer = length-append text more in
    let seam = take-append_seam text more in
    record {
      within = omega (arith, h.within, longer);
      upto = h.upto;
      like = subst (λ t. IsLike (state_of_csv l.at) (stands st.StartRecord t)) (sym (take-append-le l.place text more h.within)) h.like;
      found = λ some. front-ends st.StartRecord (length text) l.end (text ++ more)
          (subst (λ t. EndsFrom st.StartRecord t l.end) (sym seam) (h.found some));
      none = λ k lt upto e. h.none k lt upto (subst (λ t. EndsFrom st.StartRecord t k) seam
          (front-back st.StartRecord (length text) k (text ++ more) (omega (arith, longer)) (omega (arith, upto, h.within)) e));
    }

-- and the other way round
pub looked-front : (text more : List ℕ) (l : Looked) → l.place ≤ length text → HasLooked (text ++ more) l → HasLooked text l
looked-front text more l within h =
    let longer = length-append text more in
    let seam = take-append_seam text more in
    record {
      within = within;
      upto = h.upto;
      like = subst (λ t. IsLike (state_of_csv l.at) (stands st.StartRecord t)) (take-append-le l.place text more within) h.like;
      found = λ some. subst (λ t. EndsFrom st.StartRecord t l.end) seam
          (front-back st.StartRecord (length text) l.end (text ++ more) (omega (arith, longer)) (omega (arith, h.upto, within)) (h.found some));
      none = λ k lt upto e. h.none k lt upto (front-ends st.StartRecord (length text) k (text ++ more)
          (subst (λ t. EndsFrom st.StartRecord t k) (sym seam) e));
    }

-- ---- a byte order mark before it

-- of three bytes it is known whether they are one
strip-more : (text more : List ℕ) → 3 ≤ length text → strip_bom (text ++ more) ≡ strip_bom text ++ more
unfolding strip_bom
strip-more [] more long = absurd (omega (arith, long))
strip-more (a ∷ []) more long = absurd (omega (arith, long))
strip-more (a ∷ b ∷ []) more long = absurd (omega (arith, long))
strip-more (a ∷ b ∷ c ∷ rest) more long =
    elim (is_bom a b c) as (λ m. (if m then rest ++ more else a ∷ b ∷ c ∷ (rest ++ more)) ≡ (if m then rest else a ∷ b ∷ c ∷ rest) ++ more) [
      | true ↦ refl
      | false ↦ refl
    ]

pub marked-more : (text more : List ℕ) (l : Looked) → 3 ≤ length text → HasLooked (strip_bom text) l → HasLooked (strip_bom (text ++ more)) l
marked-more text more l long h = subst (λ t. HasLooked t l) (sym (strip-more text more long)) (looked-more (strip_bom text) more l h)
