-- A list of messages and the list of their cores.
use Rattle.rubis_laws.proofs.Common.{◌≡◌, List, [], ◌∷◌, ◌++◌, refl, sym, ap, ◌∙◌, subst, inl, inr, reverse, reverse-append, Message, Core, core, cores, Has}
use Rattle.rubis_laws.proofs.Common.{SameSet, cores_push, contained, contains}
use Rattle.rubis_laws.proofs.Rows.Sets.{Member, member_of, contains_of}

-- newest first
pub back_push : (m : Message) (past : List Message) → cores (reverse (m ∷ past)) ≡ cores (reverse past) ++ core m ∷ []
back_push m past = ap cores (reverse-append (m ∷ []) past) ∙ cores_push (reverse past) m

pub has_core : (m : Message) (a : List Message) → Has m a → Member (cores a) (core m)
has_core m [] h = absurd h
has_core m (x ∷ a) (inl e) = inl (ap core (sym e))
has_core m (x ∷ a) (inr h) = inr (has_core m a h)

-- whose core it is
pub core_of : (c : Core) (a : List Message) → Member (cores a) c → (m : Message) × (Has m a) × (core m ≡ c)
core_of c [] h = absurd h
core_of c (x ∷ a) (inl e) = (x, inl refl, e)
core_of c (x ∷ a) (inr h) = let w = core_of c a h in (w.0, inr w.1, w.2)

-- ---- equal sets of messages have equal sets of cores
same_half : (a b : List Message) → SameSet a b → (c : Core) → Member (cores a) c → Member (cores b) c
same_half a b s c h =
    let w = core_of c a h in
    subst (Member (cores b)) w.2 (has_core w.0 b (contained b w.0 ((s w.0).0 (contains a w.0 w.1))))

pub same_cores : (a b : List Message) → SameSet a b → SameSet (cores a) (cores b)
same_cores a b s c = (
  λ h. contains_of (cores b) {m = c} (same_half a b s c (member_of (cores a) {m = c} h)),
  λ h. contains_of (cores a) (same_half b a (λ m. ((s m).1, (s m).0)) c (member_of (cores b) h)),
)
