-- What an event changes: which packets are new, and what is in the memory of those that run folders.
use Rattle.std.proofs.Common.{◌≡◌, ◌∙◌, ◌≢◌, ◌⊎◌, inl, inr, ⊎_elim, ◌++◌, ◌∷◌, [], ℕ, true, false, cond, eqb, List, refl, sym, ap, subst}
use Rattle.std.specs.Prelude.{not, ◌==◌}
use Rattle.std.proofs.lemmas.Bool.{cases_eq}
use Rattle.rubis_model.specs.Site.{Has}
use Rattle.rubis_model.proofs.Settling.{push_cases}
use Rattle.rubis_carrier.specs.declared.values.Carrier.{Carrier}
use Rattle.rubis_carrier.specs.declared.values.ShopPacket.{ShopPacket}
use Rattle.rubis_carrier.specs.Events.{IsFirstEvent, May, after_step, first_event, next_message, next_pass, opening_folder, others, without}
use Rattle.rubis_carrier.specs.declared.values.ShopEvent.{ShopEvent}
use Rattle.rubis_carrier.specs.declared.values.ShopEvent.TheVariants.{Accepts, Appends, Arrives, Closes, Fills, Finds, Gives, GoesOn, IsAsked, IsCopied}
use Rattle.rubis_carrier.specs.declared.values.ShopEvent.TheVariants.{IsKilled, IsLost, IsRaised, KeeperStarts, LosesEnd, MachineStarts, Opens, OpensAlone}
use Rattle.rubis_carrier.specs.declared.values.ShopEvent.TheVariants.{Passes, Reads, Rebuilds, Refuses, Sends, ServerLosesAll, Serves, Starts, StreamLosesEnd}
use Rattle.rubis_carrier.specs.declared.values.ShopEvent.TheVariants.{TakesBack, TakesOver, TellsNothing, TellsOk, TellsPublished, TellsUnknown, WritesAnew}
use Rattle.rubis_carrier.specs.declared.values.ShopEvent.TheVariants.{Yields}
use Rattle.rubis_carrier.specs.Shops.{sender, Folder, PacketPlace, Shop, asks, folder, folder_in, put_folder, put_stream, stream, stream_in, there}
use Rattle.rubis_carrier.specs.Shops.PacketPlace.{InFolder, InStream, UnderWay}
use Rattle.rubis_carrier.proofs.PacketFacts.{eqb_other, eqb_same, filter_has, folder_cases, has_filter, has_take, opened_cases, stream_cases}
use Rattle.rubis_carrier.proofs.Sound.{IsSomewhere, offered}

-- ---- packets

-- what the event makes
abbrev pub IsNew : Shop → ShopEvent → ShopPacket → Type 0
IsNew s (Accepts k r) x = x ≡ next_message (folder s k) r
IsNew s (Passes k to) x = x ≡ next_pass (folder s k) to
IsNew s e x = ⊥

in_folder : (s : Shop) (e : ShopEvent) (k : ℕ) (f : Folder) (x : ShopPacket) → (Has x f.kept → IsSomewhere s x ⊎ IsNew s e x) → (j : ℕ)
    → Has x (folder_in (put_folder k f s.folders) j).kept → IsSomewhere s x ⊎ IsNew s e x
in_folder s e k f x here = folder_cases (λ j g. Has x g.kept → IsSomewhere s x ⊎ IsNew s e x) k f s.folders here (λ j n h. inl (InFolder j, h))

in_stream : (s : Shop) (e : ShopEvent) (i : ℕ) (xs : List ShopPacket) (x : ShopPacket) → (Has x xs → IsSomewhere s x ⊎ IsNew s e x) → (j : ℕ)
    → Has x (stream_in (put_stream i xs s.streams) j) → IsSomewhere s x ⊎ IsNew s e x
in_stream s e i xs x here = stream_cases (λ j ys. Has x ys → IsSomewhere s x ⊎ IsNew s e x) i xs s.streams here (λ j n h. inl (InStream j, h))

pub opened_from : (s : Shop) (k : ℕ) (x : ShopPacket) (j : ℕ) → Has x (folder (opening_folder k s) j).kept → IsSomewhere s x
opened_from s k x = opened_cases (λ j g. Has x g.kept → IsSomewhere s x) s k (λ h. (InFolder k, h)) (λ j n h. (InFolder j, h))

-- what stands somewhere after the event stood somewhere before, or is new
pub from_step : (c : Carrier) (s : Shop) (e : ShopEvent) (h : PacketPlace) (x : ShopPacket) → May c s e → Has x (there (after_step s e) h) → IsSomewhere s x ⊎ IsNew s e x
from_step c s (Starts k) (InFolder j) x m a = in_folder s (Starts k) k _ x (λ b. inl (InFolder k, b)) j a
from_step c s (Opens k) (InFolder j) x m a = inl (opened_from s k x j a)
from_step c s (TakesOver k) (InFolder j) x m a = inl (opened_from s k x j a)
from_step c s (OpensAlone k) (InFolder j) x m a = inl (opened_from s k x j a)
from_step c s (Closes k) (InFolder j) x m a = in_folder s (Closes k) k _ x (λ b. inl (InFolder k, b)) j a
from_step c s (GoesOn k) (InFolder j) x m a = in_folder s (GoesOn k) k _ x (λ b. inl (InFolder k, b)) j a
from_step c s (KeeperStarts k) (InFolder j) x m a = inl (InFolder j, a)
from_step c s (IsKilled k) (InFolder j) x m a = in_folder s (IsKilled k) k _ x (λ b. inl (InFolder k, b)) j a
from_step c s (MachineStarts k) (InFolder j) x m a = in_folder s (MachineStarts k) k _ x (λ b. inl (InFolder k, b)) j a
from_step c s (Fills k) (InFolder j) x m a = inl (InFolder j, a)
from_step c s (IsRaised k) (InFolder j) x m a = inl (InFolder j, a)
from_step c s (IsAsked r life n) (InFolder j) x m a = inl (InFolder j, a)
from_step c s (Serves k r) (InFolder j) x m a = in_folder s (Serves k r) k _ x (λ b. inl (InFolder k, b)) j a
from_step c s (Gives k r) (InFolder j) x m a = in_folder s (Gives k r) k _ x (λ b. inl (InFolder k, b)) j a
from_step c s (Accepts k r) (InFolder j) x m a =
    in_folder s (Accepts k r) k _ x (λ b. ⊎_elim (λ o. inl (InFolder k, o)) (λ n. inr n) (push_cases x _ (folder s k).kept b)) j a
from_step c s (Refuses k r) (InFolder j) x m a = in_folder s (Refuses k r) k _ x (λ b. inl (InFolder k, b)) j a
from_step c s (TellsOk k r n) (InFolder j) x m a = inl (InFolder j, a)
from_step c s (TellsPublished k r n) (InFolder j) x m a = inl (InFolder j, a)
from_step c s (TellsNothing k r) (InFolder j) x m a = in_folder s (TellsNothing k r) k _ x (λ b. inl (InFolder k, b)) j a
from_step c s (TellsUnknown k r) (InFolder j) x m a = inl (InFolder j, a)
from_step c s (Yields i) (InFolder j) x m a = inl (InFolder j, a)
from_step c s (TakesBack i) (InFolder j) x m a = inl (InFolder j, a)
from_step c s (Passes k to) (InFolder j) x m a =
    in_folder s (Passes k to) k _ x (λ b. ⊎_elim (λ o. inl (InFolder k, o)) (λ n. inr n) (push_cases x _ (folder s k).kept b)) j a
from_step c s (Appends k y) (InFolder j) x m a = inl (InFolder j, a)
from_step c s (Sends k y) (InFolder j) x m a = inl (InFolder j, a)
from_step c s (Arrives y) (InFolder j) x m a = inl (InFolder j, a)
from_step c s (Reads k y) (InFolder j) x m a =
    in_folder s (Reads k y) k _ x (λ b. inl (⊎_elim (λ o. (InFolder k, o)) (λ n. subst (IsSomewhere s) (sym n) (offered c s y m.2))
    (push_cases x y (folder s k).kept b))) j a
from_step c s (LosesEnd k n) (InFolder j) x m a = in_folder s (LosesEnd k n) k _ x (λ b. inl (InFolder k, has_take n x (folder s k).kept b)) j a
from_step c s (IsLost k) (InFolder j) x m a = in_folder s (IsLost k) k _ x (λ b. absurd b) j a
from_step c s (IsCopied k l) (InFolder j) x m a = in_folder s (IsCopied k l) l _ x (λ b. inl (InFolder k, b)) j a
from_step c s (StreamLosesEnd i n) (InFolder j) x m a = inl (InFolder j, a)
from_step c s ServerLosesAll (InFolder j) x m a = inl (InFolder j, a)
from_step c s (Finds k y) (InFolder j) x m a =
    in_folder s (Finds k y) k _ x (λ b. inl (⊎_elim (λ o. (InFolder k, o)) (λ n. subst (IsSomewhere s) (sym n) m.1) (push_cases x y (folder s k).kept b))) j a
from_step c s (Rebuilds k l) (InFolder j) x m a = in_folder s (Rebuilds k l) k _ x (λ b. inl (InFolder l, b)) j a
from_step c s (WritesAnew k) (InFolder j) x m a = inl (InFolder j, a)
from_step c s (Appends k y) (InStream i) x m a =
    in_stream s (Appends k y) (sender y) _ x (λ b. inl (⊎_elim (λ o. (InStream (sender y), o))
    (λ n. (InFolder k, subst (λ z. Has z (folder s k).kept) (sym n) m.2)) (push_cases x y (stream s (sender y)) b))) i a
from_step c s (Arrives y) (InStream i) x m a =
    in_stream s (Arrives y) (sender y) _ x (λ b. inl (⊎_elim (λ o. (InStream (sender y), o))
    (λ n. (UnderWay, subst (λ z. Has z s.under_way) (sym n) m.1)) (push_cases x y (stream s (sender y)) b))) i a
from_step c s (StreamLosesEnd i n) (InStream j) x m a = in_stream s (StreamLosesEnd i n) i _ x (λ b. inl (InStream i, has_take n x (stream s i) b)) j a
from_step c s ServerLosesAll (InStream i) x m a = absurd a
from_step c s (WritesAnew k) (InStream i) x m a =
    in_stream s (WritesAnew k) (folder s k).site _ x (λ b. inl (InFolder k, has_filter _ x (folder s k).kept b)) i a
from_step c s (Starts k) (InStream i) x m a = inl (InStream i, a)
from_step c s (Opens k) (InStream i) x m a = inl (InStream i, a)
from_step c s e (InStream i) x m a = inl (InStream i, a)
from_step c s (Opens k) UnderWay x m a = inl (UnderWay, has_filter _ x s.under_way a)
from_step c s (TakesOver k) UnderWay x m a = inl (UnderWay, has_filter _ x s.under_way a)
from_step c s (OpensAlone k) UnderWay x m a = inl (UnderWay, has_filter _ x s.under_way a)
from_step c s (Sends k y) UnderWay x m a =
    inl (⊎_elim (λ e. (InFolder k, subst (λ z. Has z (folder s k).kept) (sym e) m.2)) (λ old. (UnderWay, old)) a)
from_step c s (Starts k) UnderWay x m a = inl (UnderWay, a)
from_step c s e UnderWay x m a = inl (UnderWay, a)

-- ---- asks

-- an ask of a list without another one
pub has_without : (r q : ℕ) (asks : List ℕ) → Has q (without r asks) → Has q asks × (q ≢ r)
has_without r q [] h = absurd h
has_without r q (a ∷ asks) h = elim (eqb a r) as (λ b. eqb a r ≡ b → Has q (cond (not b) (a ∷ without r asks) (without r asks)) → Has q (a ∷ asks) × (q ≢ r)) [
  | true ↦ λ e g. let rest = has_without r q asks g in (inr rest.0, rest.1)
  | false ↦ λ e g. ⊎_elim (λ here. (inl here, λ same. away here same e)) (λ later. let rest = has_without r q asks later in (inr rest.0, rest.1)) g
] refl h
  where
    away : q ≡ a → q ≡ r → eqb a r ≡ false → ⊥
    away here same e =
        let is : eqb a r ≡ true = subst (λ n. eqb n r ≡ true) (sym same ∙ here) (eqb_same r) in
        cc (is, e)

-- others stay
pub without_other : (r q : ℕ) (asks : List ℕ) → (q ≡ r → ⊥) → Has q asks → Has q (without r asks)
without_other r q asks n h = filter_has (λ a. not (a == r)) q asks h (ap not (eqb_other q r n))

-- it is there, or not
pub has_or : (r : ℕ) (asks : List ℕ) → Has r asks ⊎ ¬ (Has r asks)
has_or r [] = inr (λ h. h)
has_or r (q ∷ asks) = ⊎_elim (λ e. inl (inl e)) (λ n. ⊎_elim (λ h. inl (inr h)) (λ m. inr (λ h. ⊎_elim n m h)) (has_or r asks)) (cases_eq r q)

-- ---- lists in which each ask is once

abbrev pub AreApart : List ℕ → Type 0
AreApart [] = Unit {0}
AreApart (r ∷ asks) = (Has r asks → ⊥) × AreApart asks

-- one more, that isn't there
pub apart_more : (r : ℕ) (asks : List ℕ) → AreApart asks → (Has r asks → ⊥) → AreApart (asks ++ r ∷ [])
apart_more r [] a n = (λ h. h, tt)
apart_more r (q ∷ asks) a n = (λ h. ⊎_elim (λ old. a.0 old) (λ e. n (inl (sym e))) (push_cases q r asks h), apart_more r asks a.1 (λ h. n (inr h)))

pub apart_others : (asks : List ℕ) → AreApart asks → AreApart (others asks)
apart_others [] a = tt
apart_others (r ∷ asks) a = a.1

-- those behind the first are others
pub has_others : (q : ℕ) (asks : List ℕ) → AreApart asks → Has q (others asks) → Has q asks × (q ≢ first_event asks)
has_others q [] a h = absurd h
has_others q (r ∷ asks) a h = (inr h, λ e. a.0 (subst (λ n. Has n asks) e h))

-- the first of a list is in it
pub first_in : {r : ℕ} (asks : List ℕ) → IsFirstEvent r asks → (first_event asks ≡ r) × Has r asks
first_in [] f = absurd (cc f.1)
first_in (q ∷ asks) f = (cc f.1, inl (cc f.1))
