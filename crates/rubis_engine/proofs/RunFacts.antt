-- How a run goes on, and how it ends.
use Rattle.std.proofs.Common.{◌≡◌, ◌∙◌, ◌+◌, ◌∷◌, [], ◌++◌, ℕ, zero, suc, List, Some, None, take, refl, ap, arith, sym, Option, subst, ◌≤◌, ◌-◌, drop, length}
use Rattle.std.proofs.Common.{append_assoc, Bool, false}
use Rattle.std.specs.List.{slice_get}
use Rattle.std.proofs.lemmas.List.{take_all, take_more, drop-take, length-drop, take-append-drop, take-take, take_rest}
use Rattle.std.proofs.lemmas.Option.{get_or_from_slice_get, slice_get_within}
use Rattle.csv.specs.Records.{field_at}
use Rattle.csv.proofs.WriteFacts.{appends-none, appends-more}
use Rattle.rubis_engine.specs.Accounts.{Account, AnswersRecord}
use Rattle.rubis_engine.specs.Progress.{BreaksOff, WritesRecord, ByEnd, AppendsFront, IsDone, IsRun, WrotePrefix}
use Rattle.rubis_engine.specs.declared.service.Course.{Course}
use Rattle.std.specs.Prelude.{IfErr, IsErr, IsErrAnd, OnErr, OnOk, Result, Ok, Err, IfNone, IfOk, IsErrOf, is_some}
use Rattle.rubis_engine.specs.declared.fault.RunFault.{RunFault}
use Rattle.rubis_engine.specs.declared.fault.RunFault.TheVariants as fault
use Rattle.std.specs.Io.KnownBytes.{Appends, Keeps}
use Rattle.rubis_engine.specs.declared.record_list.Records.{Records}
use Rattle.rubis_engine.specs.Reading.{Advances}
use Rattle.rubis_engine.specs.Text.{input_records}
use Rattle.rubis_engine.specs.declared.fault.Count.{Count}

-- the two words for the item at a place
pub field_at-slice_get : (fields : List (List ℕ)) (i : ℕ) → field_at fields i ≡ slice_get fields i
unfolding field_at
field_at-slice_get [] i = refl
field_at-slice_get (f ∷ fs) zero = refl
field_at-slice_get (f ∷ fs) (suc i) = field_at-slice_get fs i

-- the item at a place comes after those before it
pub take-next : (fields : List (List ℕ)) (i : ℕ) (x : List ℕ) → slice_get fields i ≡ Some x → take (i + 1) fields ≡ take i fields ++ x ∷ []
take-next fields i x e = rw (get_or_from_slice_get fields i x x e) at (take_more fields i x (slice_get_within fields i x e))

-- past the last there is none to come
pub take-none : (fields : List (List ℕ)) (i : ℕ) → slice_get fields i ≡ None → take (i + 1) fields ≡ take i fields
take-none [] i e = take_all (i + 1) [] (omega arith) ∙ sym (take_all i [] (omega arith))
take-none (f ∷ fs) zero e = cc e
take-none (f ∷ fs) (suc i) e =
    let step : suc i + 1 ≡ suc (i + 1) = omega arith in
    rw step (ap (λ rest. f ∷ rest) (take-none fs i e))

-- ---- answers of which nothing was written out yet

pub answers-waiting : (course : Course) (old new : Account) (sink sink2 : List ℕ) (now : Option (List ℕ)) (fields : List (List ℕ))
    → AnswersRecord course old new sink sink2 fields → WritesRecord course old new sink sink2 now now fields
answers-waiting course old new sink sink2 now fields h = record { out = []; appended = appends-none now; answers = h }

pub breaks-unwritten : (old : Account) (sink : List ℕ) (fields : List (List ℕ)) (now : Option (List ℕ)) → BreaksOff old sink fields now now
breaks-unwritten old sink fields now more = ([], _, appends-none now, refl)

-- ---- how the end of one step becomes that of another

-- what follows at each end
pub ends_so : {T : Type 0} {P Q : T → Type 0} {L L2 R R2 M M2 : Type 0} (r : Result T RunFault)
    → ((v : T) → P v → Q v) → (L → L2) → (R → R2) → (M → M2) → ByEnd r P L R M → ByEnd r Q L2 R2 M2
ends_so (Ok v) done too_long read broke h = done v h
ends_so (Err fault.TooLong) done too_long read broke h = too_long h
ends_so (Err fault.Read) done too_long read broke h = read h
ends_so (Err fault.Memory) done too_long read broke h = broke h
ends_so (Err fault.Write) done too_long read broke h = broke h

same_end : {T : Type 0} (P : T → Type 0) (L R M : Type 0) (r : Result T RunFault) (e : RunFault) → IsErr r × IsErrAnd r (λ f. f ≡ e)
    → ByEnd {T = T} (Err e) P L R M → ByEnd r P L R M
same_end P L R M (Ok v) e handed h = absurd handed.1
same_end {T = T} P L R M (Err f) e handed h = subst (λ x. ByEnd {T = T} (Err x) P L R M) (sym handed.1) h

at_error : {T U : Type 0} (P : T → Type 0) (Q : U → Type 0) (L L2 R R2 M M2 : Type 0) (e : RunFault) → (L → L2) → (R → R2) → (M → M2)
    → ByEnd {T = T} (Err e) P L R M → ByEnd {T = U} (Err e) Q L2 R2 M2
at_error P Q L L2 R R2 M M2 fault.TooLong too_long read broke h = too_long h
at_error P Q L L2 R R2 M M2 fault.Read too_long read broke h = read h
at_error P Q L L2 R R2 M M2 fault.Memory too_long read broke h = broke h
at_error P Q L L2 R R2 M M2 fault.Write too_long read broke h = broke h

-- an error of a step is handed on
pub ends_on : {T U : Type 0} (P : T → Type 0) (Q : U → Type 0) {L L2 R R2 M M2 : Type 0} (r : Result U RunFault) (e : RunFault)
    → IsErr r × IsErrAnd r (λ f. f ≡ e) → (L → L2) → (R → R2) → (M → M2) → ByEnd {T = T} (Err e) P L R M → ByEnd r Q L2 R2 M2
ends_on P Q {L = L} {L2 = L2} {R = R} {R2 = R2} {M = M} {M2 = M2} r e handed too_long read broke h =
    same_end Q L2 R2 M2 r e handed (at_error P Q L L2 R R2 M M2 e too_long read broke h)

-- memory ran out in it
pub ends_memory : {U : Type 0} (Q : U → Type 0) (L R : Type 0) {M : Type 0} (r : Result U RunFault) → IsErr r × IsErrAnd r (λ f. f ≡ fault.Memory) → M
    → ByEnd r Q L R M
ends_memory Q L R {M = M} r handed h = same_end Q L R M r fault.Memory handed h

-- the writer failed in it
pub ends_write : {U : Type 0} (Q : U → Type 0) (L R : Type 0) {M : Type 0} (r : Result U RunFault) (e : RunFault) → IsErr r × IsErrAnd r (λ f. f ≡ e)
    → e ≡ fault.Write → M → ByEnd r Q L R M
ends_write {U = U} Q L R {M = M} r e handed is h = same_end Q L R M r e handed (subst (λ x. ByEnd {T = U} (Err x) Q L R M) (sym is) h)

-- the writer is all that can fail
pub ends_writer : {T F : Type 0} (P L R M : Type 0) (r : Result T RunFault) → OnOk r P → (F → M) → OnErr r F → IfErr r (λ e. e ≡ fault.Write)
    → ByEnd r (λ v. P) L R M
ends_writer P L R M (Ok v) done broke front failed = done
ends_writer {T = T} P L R M (Err e) done broke front failed = subst (λ x. ByEnd {T = T} (Err x) (λ v. P) L R M) (sym failed) (broke front)

-- ---- a text that is written as far as the writer takes it

pub take-more : (at n : ℕ) (bytes : List ℕ) → take at bytes ++ take n (take (length bytes - at) (drop at bytes)) ≡ take (at + n) bytes
take-more at n bytes =
    ap (λ t. take at bytes ++ take n t) (take_rest bytes at)
    ∙ ap (λ t. t ++ take n (drop at bytes)) (sym (take-take at (at + n) bytes (omega arith)))
    ∙ ap (λ t. take at (take (at + n) bytes) ++ t) (sym (drop-take at n bytes))
    ∙ take-append-drop at (take (at + n) bytes)

pub more-bound : (at n : ℕ) (bytes : List ℕ) → at ≤ length bytes → n ≤ length (take (length bytes - at) (drop at bytes)) → at + n ≤ length bytes
more-bound at n bytes h l = let e = ap length (take_rest bytes at) in let f = length-drop at bytes in omega (arith, e, f)

-- more was taken
pub front-on : (old mid new : Option (List ℕ)) (at n : ℕ) (bytes : List ℕ) → Appends old mid (take at bytes)
    → Appends mid new (take n (take (length bytes - at) (drop at bytes))) → Appends old new (take (at + n) bytes)
front-on old mid new at n bytes f g = subst (Appends old new) (take-more at n bytes) (appends-more old mid new _ _ f g)

-- nothing was
pub front-kept : (old mid new : Option (List ℕ)) (bytes : List ℕ) → Appends old mid bytes → Keeps mid new → Appends old new bytes
front-kept None mid new bytes f k = tt
front-kept (Some x) None new bytes f k = absurd f
front-kept (Some x) (Some y) None bytes f k = absurd k
front-kept (Some x) (Some y) (Some z) bytes f k = k ∙ f

-- what was taken so far is a prefix
pub front-of : (old new : Option (List ℕ)) (at : ℕ) (bytes : List ℕ) → Appends old new (take at bytes) → AppendsFront old new bytes
front-of old new at bytes f = (take at bytes, drop at bytes, f, take-append-drop at bytes)

-- of two texts the first was written, and a prefix of the second
pub front-second : (old mid new : Option (List ℕ)) (first second : List ℕ) → Appends old mid first → AppendsFront mid new second
    → AppendsFront old new (first ++ second)
front-second old mid new first second f s =
    (first ++ s.0, s.1, appends-more old mid new first s.0 f s.2, append_assoc first s.0 s.1 ∙ ap (λ t. first ++ t) s.3)

-- a prefix of a text is one of a longer text
pub front-longer : (a b : Option (List ℕ)) (text rest : List ℕ) → AppendsFront a b text → AppendsFront a b (text ++ rest)
front-longer a b text rest f = (f.0, f.1 ++ rest, f.2, sym (append_assoc f.0 f.1 rest) ∙ ap (λ t. t ++ rest) f.3)

-- ---- at an error

pub on_err : {T E P : Type 0} (r : Result T E) → P → OnErr r P
on_err (Ok v) p = tt
on_err (Err e) p = p

-- ---- how a run goes on

-- a read, once it is known whether it found a record
pub takes-at : {R : Type 0} (rem : R → Option (List ℕ)) (a b : Records R) (found v : Bool) → found ≡ v
    → Advances rem a b found → Advances rem a b v
takes-at rem a b found v e t = subst (λ (x : Bool). Advances rem a b x) e t

-- nothing more was written
pub prefix-same : (all : List (List (List ℕ)) → List ℕ) (old now now2 : Option (List ℕ)) (records : List (List (List ℕ)))
    → WrotePrefix all old now records → now2 ≡ now → WrotePrefix all old now2 records
prefix-same all old now now2 records w same = (w.0, w.1, rw same w.2, w.3)

-- what follows from two facts of an answer
pub if_ok_both : {T E : Type 0} {P Q S : T → Type 0} (r : Result T E) → ((x : T) → P x → Q x → S x) → IfOk r P → IfOk r Q → IfOk r S
if_ok_both (Ok v) f p q = f v p q
if_ok_both (Err e) f p q = tt

-- what holds always holds of a call that went well
pub on_ok : {T E : Type 0} {P : Type 0} (r : Result T E) → P → OnOk r P
on_ok (Ok v) p = p
on_ok (Err e) p = tt

-- what follows from what is so of an answer
pub if_ok_so : {T E : Type 0} (P Q : T → Type 0) (r : Result T E) → ((x : T) → P x → Q x) → IfOk r P → IfOk r Q
if_ok_so P Q (Ok v) f p = f v p
if_ok_so P Q (Err e) f p = tt

-- an error that `?` hands on is the one that was met
pub handed_on : {A E : Type 0} (r : Result A E) (met given : E) → IsErr r × IsErrAnd r (λ e. e ≡ met) → IsErrOf r given → met ≡ given
handed_on (Ok x) met given h e = absurd cc
handed_on (Err x) met given h e = let same : x ≡ given = cc in sym h.1 ∙ same

-- ---- a record that was found

pub if_none : {A P : Type 0} (o : Option A) → IfNone o P → o ≡ None → P
if_none None h e = h
if_none (Some x) h e = absurd cc

-- what holds where there is nothing, where none was found
pub if_not_some : {A P : Type 0} (o : Option A) → IfNone o P → is_some o ≡ false → P
if_not_some None h e = h
if_not_some (Some x) h e = absurd cc

-- ---- how a run ends

-- a run that ended well is done
pub run_done : (all : Account) (limit : ℕ) (input : List ℕ) (old new : Option (List ℕ)) (result : Result Count RunFault)
    → IsRun all limit input old new result → IfOk result (λ count. IsDone all limit old new (input_records input) count.records)
run_done all limit input old new (Ok count) h = h
run_done all limit input old new (Err e) h = tt
