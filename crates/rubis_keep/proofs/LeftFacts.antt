-- What of an input was read and isn't looked at yet.
use Rattle.std.proofs.Common.{◌≡◌, ◌≢◌, ◌<◌, ◌≤◌, ◌+◌, ◌∷◌, Bool, true, false, ◌-◌, zero, suc, ◌∙◌, ◌++◌, [], ℕ, List, arith, length, Option, Some, None, drop, take, refl, sym, ap, append_assoc}
use Rattle.std.proofs.lemmas.List.{drop-drop, drop-take, length-take, take-append-drop}
use Rattle.std.specs.Io.KnownBytes.{Consumes, IsAtEnd}
use Rattle.rubis_keep.specs.Turns.{CameOrEnded, left_to_read}

-- more was read
pub left-filled : (unread : List ℕ) (input input2 : Option (List ℕ)) → Consumes input input2 unread → Consumes (left_to_read [] input) (left_to_read unread input2) []
left-filled unread None input2 c = tt
left-filled unread (Some xs) None c = absurd c
left-filled unread (Some xs) (Some ys) c = c

-- some of it was looked at
pub left-taken : (unread : List ℕ) (n : ℕ) (input0 input : Option (List ℕ)) → Consumes input0 (left_to_read unread input) []
    → Consumes input0 (left_to_read (drop n unread) input) (take n unread)
left-taken unread n None input c = tt
left-taken unread n (Some xs) None c = absurd c
left-taken unread n (Some xs) (Some ys) c = c ∙ ap (λ t. t ++ ys) (sym (take-append-drop n unread)) ∙ append_assoc (take n unread) (drop n unread) ys

-- what is left of bytes between two places, after some of them
pub left-passed : (piece : List ℕ) (at end n : ℕ) → at ≤ end → n ≤ length (take (end - at) (drop at piece))
    → take (end - (at + n)) (drop (at + n) piece) ≡ drop n (take (end - at) (drop at piece))
left-passed piece at end n h l =
    let size = length-take (end - at) (drop at piece) in
    let parts : end - at ≡ n + (end - (at + n)) = omega (arith, h, l, size) in
    ap (take (end - (at + n))) (sym (drop-drop n at piece)) ∙ sym (drop-take n (end - (at + n)) (drop at piece)) ∙ ap (λ m. drop n (take m (drop at piece)))
    (sym parts)

abbrev pub none-of : List ℕ
none-of = []

pub drop-none : (n : ℕ) → drop n none-of ≡ []
drop-none zero = refl
drop-none (suc n) = refl

pub left-end : {unread : List ℕ} (input : Option (List ℕ)) → unread ≡ [] → IsAtEnd input → IsAtEnd (left_to_read unread input)
left-end None e end = tt
left-end (Some xs) e end = ap (λ t. t ++ xs) e ∙ end

-- some are taken of some
pub taken-some : (xs : List ℕ) (n : ℕ) → 0 < length xs → 0 < n → take n xs ≢ []
taken-some [] n some more none = absurd (omega (arith, some))
taken-some (x ∷ xs) zero some more none = absurd (omega (arith, more))
taken-some (x ∷ xs) (suc n) some more none = cc none

pub came-or-ended : (more : Bool) (input input2 : Option (List ℕ)) (bytes : List ℕ) → Consumes input input2 bytes → (more ≡ true → bytes ≢ [])
    → (more ≡ false → IsAtEnd input2) → CameOrEnded more input input2
came-or-ended true input input2 bytes taken some end = (bytes, taken, some refl)
came-or-ended false input input2 bytes taken some end = end refl
