-- A packet that stands in a place of its site stands there later too, and comes to each folder of another site, by folders that are started and packets that
-- are carried.
use Rattle.std.proofs.Common.{◌≡◌, ◌≢◌, inr, ◌++◌, ◌∷◌, [], ℕ, List, refl, sym, ap, subst, ◌∙◌, ◌<◌, ◌+◌, arith, inl, ◌≤◌, Bool, true, false, cond, eqb, max}
use Rattle.rubis_model.specs.Site.{Has}
use Rattle.rubis_model.proofs.Settling.{has_left, has_last}
use Rattle.rubis_carrier.specs.Laws.{GivenAgainOnlyWhereLost, CanHave, IsAppended, IsOf, NothingAcceptedIsLost, TheFirstSiteHolds, TheTokenComesBack}
use Rattle.rubis_carrier.specs.declared.values.Carrier.{Carrier}
use Rattle.rubis_carrier.specs.declared.values.ShopPacket.{ShopPacket}
use Rattle.rubis_carrier.specs.Events.{AreSteps, Harms, IsUnharmed, May, after_step, opening_folder, after_steps, AllCarry, FolderHasRoom, IsAtItsPlace, IsOffered, with_packet_kept, started}
use Rattle.rubis_carrier.specs.Events.{Carries}
use Rattle.rubis_carrier.specs.declared.values.ShopEvent.{ShopEvent}
use Rattle.rubis_carrier.specs.declared.values.ShopEvent.TheVariants.{Accepts, Appends, Arrives, Closes, Fills, Finds, Gives, GoesOn, IsAsked, IsCopied}
use Rattle.rubis_carrier.specs.declared.values.ShopEvent.TheVariants.{IsKilled, IsLost, IsRaised, KeeperStarts, LosesEnd, MachineStarts, Opens, OpensAlone}
use Rattle.rubis_carrier.specs.declared.values.ShopEvent.TheVariants.{Passes, Reads, Rebuilds, Refuses, Sends, ServerLosesAll, Serves, Starts, StreamLosesEnd}
use Rattle.rubis_carrier.specs.declared.values.ShopEvent.TheVariants.{TakesBack, TakesOver, TellsNothing, TellsOk, TellsPublished, TellsUnknown, WritesAnew}
use Rattle.rubis_carrier.specs.declared.values.ShopEvent.TheVariants.{Yields}
use Rattle.rubis_carrier.specs.Shops.{sender, Folder, PacketPlace, Shop, folder, folder_in, put_folder, put_stream, shop_start, stream, stream_in, there, HoldsToken, passed_turn}
use Rattle.rubis_carrier.specs.Shops.{taken_turn}
use Rattle.rubis_carrier.specs.Shops.PacketPlace.{InFolder, InStream, UnderWay}
use Rattle.rubis_carrier.proofs.PacketFacts.{folder_cases, opened_cases, stream_cases, folder_here, stream_here, taken_within}
use Rattle.rubis_carrier.proofs.Sound.{ids_once, IsKnown, Sound, sound_after, sound_run}
use Rattle.std.specs.Prelude.{zero, suc}
use Rattle.rubis_carrier.specs.declared.values.Carrier.TheVariants.{Files, Server}
use Rattle.rubis_carrier.specs.declared.values.ShopPacket.TheVariants.{Message, Pass}

-- ---- lists of events

pub run_append : (s : Shop) (a b : List ShopEvent) → after_steps s (a ++ b) ≡ after_steps (after_steps s a) b
run_append s [] b = refl
run_append s (e ∷ a) b = run_append (after_step s e) a b

pub steps_left : (c : Carrier) (s : Shop) (a b : List ShopEvent) → AreSteps c s (a ++ b) → AreSteps c s a
steps_left c s [] b m = tt
steps_left c s (e ∷ a) b m = (m.0, steps_left c (after_step s e) a b m.1)

pub steps_right : (c : Carrier) (s : Shop) (a b : List ShopEvent) → AreSteps c s (a ++ b) → AreSteps c (after_steps s a) b
steps_right c s [] b m = m
steps_right c s (e ∷ a) b m = steps_right c (after_step s e) a b m.1

pub steps_append : (c : Carrier) (s : Shop) (a b : List ShopEvent) → AreSteps c s a → AreSteps c (after_steps s a) b → AreSteps c s (a ++ b)
steps_append c s [] b m n = n
steps_append c s (e ∷ a) b m n = (m.0, steps_append c (after_step s e) a b m.1 n)

-- ---- one event

-- folder k is replaced by one that has all that it had
same_or_more : (s : Shop) (k : ℕ) (f : Folder) → ((x : ShopPacket) → Has x (folder s k).kept → Has x f.kept) → (j : ℕ) (x : ShopPacket)
    → Has x (folder s j).kept → Has x (folder_in (put_folder k f s.folders) j).kept
same_or_more s k f more j x = folder_cases (λ n g. Has x (folder s n).kept → Has x g.kept) k f s.folders (more x) (λ n d h. h) j

-- folder k is replaced, and this is another one
another : (s : Shop) (k : ℕ) (f : Folder) (j : ℕ) → j ≢ k → (x : ShopPacket) → Has x (folder s j).kept
    → Has x (folder_in (put_folder k f s.folders) j).kept
another s k f j n x h =
    folder_cases (λ i g. i ≢ k → Has x (folder s i).kept → Has x g.kept) k f s.folders (λ d. absurd (d refl)) (λ i d e a. a) j n h

opened_kept : (s : Shop) (k j : ℕ) (x : ShopPacket) → Has x (folder s j).kept → Has x (folder (opening_folder k s) j).kept
opened_kept s k j x = opened_cases (λ i g. Has x (folder s i).kept → Has x g.kept) s k (λ h. h) (λ i d h. h) j

stream_more : (s : Shop) (i : ℕ) (xs : List ShopPacket) → ((x : ShopPacket) → Has x (stream s i) → Has x xs) → (j : ℕ) (x : ShopPacket)
    → Has x (stream s j) → Has x (stream_in (put_stream i xs s.streams) j)
stream_more s i xs more j x = stream_cases (λ n ys. Has x (stream s n) → Has x ys) i xs s.streams (more x) (λ n d h. h) j

stream_other : (s : Shop) (i : ℕ) (xs : List ShopPacket) (j : ℕ) → j ≢ i → (x : ShopPacket) → Has x (stream s j)
    → Has x (stream_in (put_stream i xs s.streams) j)
stream_other s i xs j n x h =
    stream_cases (λ k ys. k ≢ i → Has x (stream s k) → Has x ys) i xs s.streams (λ d. absurd (d refl)) (λ k d e a. a) j n h

folder_step : (c : Carrier) (s : Shop) (e : ShopEvent) (j : ℕ) → May c s e → (Harms e (InFolder j) → ⊥) → (x : ShopPacket)
    → Has x (folder s j).kept → Has x (folder (after_step s e) j).kept
folder_step c s (Starts k) j m n x h = same_or_more s k _ (λ z a. a) j x h
folder_step c s (Opens k) j m n x h = opened_kept s k j x h
folder_step c s (TakesOver k) j m n x h = opened_kept s k j x h
folder_step c s (OpensAlone k) j m n x h = opened_kept s k j x h
folder_step c s (Closes k) j m n x h = same_or_more s k _ (λ z a. a) j x h
folder_step c s (GoesOn k) j m n x h = same_or_more s k _ (λ z a. a) j x h
folder_step c s (KeeperStarts k) j m n x h = h
folder_step c s (IsKilled k) j m n x h = same_or_more s k _ (λ z a. a) j x h
folder_step c s (MachineStarts k) j m n x h = same_or_more s k _ (λ z a. a) j x h
folder_step c s (Fills k) j m n x h = h
folder_step c s (IsRaised k) j m n x h = h
folder_step c s (IsAsked r life d) j m n x h = h
folder_step c s (Serves k r) j m n x h = same_or_more s k _ (λ z a. a) j x h
folder_step c s (Gives k r) j m n x h = same_or_more s k _ (λ z a. a) j x h
folder_step c s (Accepts k r) j m n x h = same_or_more s k _ (λ z a. has_left z (folder s k).kept _ a) j x h
folder_step c s (Refuses k r) j m n x h = same_or_more s k _ (λ z a. a) j x h
folder_step c s (TellsOk k r d) j m n x h = h
folder_step c s (TellsPublished k r d) j m n x h = h
folder_step c s (TellsNothing k r) j m n x h = same_or_more s k _ (λ z a. a) j x h
folder_step c s (TellsUnknown k r) j m n x h = h
folder_step c s (Yields i) j m n x h = h
folder_step c s (TakesBack i) j m n x h = h
folder_step c s (Passes k to) j m n x h = same_or_more s k _ (λ z a. has_left z (folder s k).kept _ a) j x h
folder_step c s (Appends k y) j m n x h = h
folder_step c s (Sends k y) j m n x h = h
folder_step c s (Arrives y) j m n x h = h
folder_step c s (Reads k y) j m n x h = same_or_more s k _ (λ z a. has_left z (folder s k).kept _ a) j x h
folder_step c s (LosesEnd k d) j m n x h = another s k _ j (λ e. n (ap InFolder e)) x h
folder_step c s (IsLost k) j m n x h = another s k _ j (λ e. n (ap InFolder e)) x h
folder_step c s (IsCopied k i) j m n x h = another s i _ j (λ e. n (ap InFolder e)) x h
folder_step c s (StreamLosesEnd i d) j m n x h = h
folder_step c s ServerLosesAll j m n x h = h
folder_step c s (Finds k y) j m n x h = same_or_more s k _ (λ z a. has_left z (folder s k).kept _ a) j x h
folder_step c s (Rebuilds k l) j m n x h = same_or_more s k _ (λ z a. m.left z a) j x h
folder_step c s (WritesAnew k) j m n x h = h

stream_step : (c : Carrier) (s : Shop) (e : ShopEvent) (i : ℕ) → May c s e → (Harms e (InStream i) → ⊥) → (x : ShopPacket)
    → Has x (stream s i) → Has x (stream (after_step s e) i)
stream_step c s (Appends k y) i m n x h = stream_more s (sender y) _ (λ z a. has_left z (stream s (sender y)) _ a) i x h
stream_step c s (Arrives y) i m n x h = stream_more s (sender y) _ (λ z a. has_left z (stream s (sender y)) _ a) i x h
stream_step c s (StreamLosesEnd j d) i m n x h = stream_other s j _ i (λ e. n (ap InStream e)) x h
stream_step c s ServerLosesAll i m n x h = absurd (n tt)
stream_step c s (WritesAnew k) i m n x h = stream_more s (folder s k).site _ m.1.has i x h
stream_step c s (Starts k) i m n x h = h
stream_step c s e i m n x h = h

way_step : (s : Shop) (e : ShopEvent) → (Harms e UnderWay → ⊥) → (x : ShopPacket) → Has x s.under_way → Has x (after_step s e).under_way
way_step s (Opens k) n x h = absurd (n refl)
way_step s (TakesOver k) n x h = absurd (n refl)
way_step s (OpensAlone k) n x h = absurd (n refl)
way_step s (Sends k y) n x h = inr h
way_step s (Starts k) n x h = h
way_step s e n x h = h

whole_step : (c : Carrier) (s : Shop) (e : ShopEvent) (h : PacketPlace) → May c s e → (Harms e h → ⊥) → (x : ShopPacket) → Has x (there s h) → Has x (there (after_step s e) h)
whole_step c s e (InFolder j) m n x a = folder_step c s e j m n x a
whole_step c s e (InStream i) m n x a = stream_step c s e i m n x a
whole_step c s e UnderWay m n x a = way_step s e n x a

pub whole_after : (c : Carrier) (s : Shop) (later : List ShopEvent) (h : PacketPlace) → AreSteps c s later → IsUnharmed h later → (x : ShopPacket)
    → Has x (there s h) → Has x (there (after_steps s later) h)
whole_after c s [] h m w x a = a
whole_after c s (e ∷ rest) h m w x a = whole_after c (after_step s e) rest h m.1 w.1 x (whole_step c s e h m.0 w.0 x a)

-- after these events, and then those
pub whole_then : (c : Carrier) (before later : List ShopEvent) (h : PacketPlace) → AreSteps c shop_start (before ++ later) → IsUnharmed h later → (x : ShopPacket)
    → Has x (there (after_steps shop_start before) h) → Has x (there (after_steps shop_start (before ++ later)) h)
whole_then c before later h m w x a = subst (λ s. Has x (there s h)) (sym (run_append shop_start before later))
    (whole_after c (after_steps shop_start before) later h (steps_right c shop_start before later m) w x a)

-- ---- the law

pub given_again : GivenAgainOnlyWhereLost
given_again c before later m h g x y a b e other n f still = other (ids_once c (before ++ later) m f g x y still b e n)

-- ---- a packet that stands in a place of its site comes to each folder of another site, by folders that are started and packets that are carried

-- ---- a folder is started, if it isn't

-- some steps lead to where the folder runs, and all packets stand where they stood
record IsAwake (c : Carrier) (s : Shop) (k : ℕ) : Type 0 where
  events : List ShopEvent
  carry : AllCarry events
  steps : AreSteps c s events
  runs : 0 < (folder (after_steps s events) k).life
  kept : (j : ℕ) → (folder (after_steps s events) j).kept ≡ (folder s j).kept
  site : (j : ℕ) → (folder (after_steps s events) j).site ≡ (folder s j).site
  streams : (after_steps s events).streams ≡ s.streams
  uncompared : (after_steps s events).uncompared ≡ s.uncompared
  full : (after_steps s events).full ≡ s.full

awake : (c : Carrier) (s : Shop) (k : ℕ) → IsAwake c s k
awake c s k = go (folder s k).life refl
  where
    go : (life : ℕ) → (folder s k).life ≡ life → IsAwake c s k
    go (suc n) e = record {
      events = [];
      carry = tt;
      steps = tt;
      runs = omega (arith, e);
      kept = λ j. refl;
      site = λ j. refl;
      streams = refl;
      uncompared = refl;
      full = refl;
    }
    go zero e = record {
      events = Starts k ∷ [];
      carry = (tt, tt);
      steps = (e, tt);
      runs = subst (λ (f : Folder). 0 < f.life) (sym (folder_here k (started (folder s k) (s.begun + 1)) s.folders)) (omega arith);
      kept = folder_cases (λ j f. f.kept ≡ (folder s j).kept) k (started (folder s k) (s.begun + 1)) s.folders refl (λ j n. refl);
      site = folder_cases (λ j f. f.site ≡ (folder s j).site) k (started (folder s k) (s.begun + 1)) s.folders refl (λ j n. refl);
      streams = refl;
      uncompared = refl;
      full = refl;
    }

-- ---- it reads the packet

-- in two parts
both_carry : (a b : List ShopEvent) → AllCarry a → AllCarry b → AllCarry (a ++ b)
both_carry [] b m n = n
both_carry (e ∷ a) b m n = (m.0, both_carry a b m.1 n)

can_then : (c : Carrier) (s : Shop) (k : ℕ) (x : ShopPacket) (a : List ShopEvent) → AllCarry a → AreSteps c s a → CanHave c (after_steps s a) k x → CanHave c s k x
can_then c s k x a carry m h = (
  a ++ h.0,
  both_carry a h.0 carry h.1,
  steps_append c s a h.0 m h.2,
  subst (λ (t : Shop). Has x (folder t k).kept) (sym (run_append s a h.0)) h.3,
)

-- once it runs
offered_awake : (c : Carrier) {s : Shop} {k : ℕ} (w : IsAwake c s k) (x : ShopPacket) → IsOffered c s x → IsOffered c (after_steps s w.events) x
offered_awake Files w x o = (o.0, w.site o.0 ∙ o.1, subst (Has x) (sym (w.kept o.0)) o.2)
offered_awake Server w x o = subst (λ d. Has x (stream_in d (sender x))) (sym w.streams) o

room_still : (s t : Shop) (k : ℕ) (x : ShopPacket) → t.full ≡ s.full → FolderHasRoom s k x → FolderHasRoom t k x
room_still s t k (Message i n r) e room = λ f. room (subst (Has k) e f)
room_still s t k (Pass i u j a) e room = tt

can_read : (c : Carrier) (s : Shop) (k : ℕ) (x : ShopPacket) → sender x ≢ (folder s k).site → IsOffered c s x → FolderHasRoom s k x → CanHave c s k x
can_read c s k x n o room =
    let w = awake c s k in
    let t = after_steps s w.events in
    can_then c s k x w.events w.carry w.steps (
      Reads k x ∷ [],
      (tt, tt),
      ((w.runs, (λ e. n (e ∙ w.site k)), offered_awake c w x o, room_still s t k x w.full room), tt),
      subst (λ (f : Folder). Has x f.kept) (sym (folder_here k (with_packet_kept (folder t k) x) t.folders)) (has_last x (folder t k).kept),
    )

-- ---- from where it stands

-- a folder that appends it appends it at its place
abbrev pub IsFree : Carrier → Shop → ShopPacket → PacketPlace → Type 0
IsFree c s x (InFolder g) = c ≡ Server → (t : Shop) → t.uncompared ≡ s.uncompared → Has (sender x) t.uncompared → IsAtItsPlace t x
IsFree c s x (InStream i) = Unit {0}
IsFree c s x UnderWay = Unit {0}

-- a folder of its sender puts it into the stream over a server
pub can_have : (c : Carrier) (s : Shop) (k : ℕ) (x : ShopPacket) (h : PacketPlace) → sender x ≢ (folder s k).site → IsOf c s (sender x) h → Has x (there s h)
    → IsFree c s x h → FolderHasRoom s k x → CanHave c s k x
can_have c s k x (InStream i) n of h free room = can_read c s k x n (subst (λ d. IsOffered d s x) (sym of.1) (subst (λ j. Has x (stream s j)) of.0 h)) room
can_have c s k x UnderWay n of h free room = absurd of
can_have Files s k x (InFolder g) n of h free room = can_read Files s k x n (g, of, h) room
can_have Server s k x (InFolder g) n of h free room =
    let w = awake Server s g in
    let t = after_steps s w.events in
    let appended = stream t (sender x) ++ x ∷ [] in
    let append : AreSteps Server t (Appends g x ∷ []) = (
      (
        refl,
        w.runs,
        subst (Has x) (sym (w.kept g)) h,
        free refl t w.uncompared,
      ),
      tt,
    ) in
    can_then Server s k x w.events w.carry w.steps (can_then Server t k x (Appends g x ∷ []) (tt, tt) append
    (can_read Server (after_step t (Appends g x)) k x (λ e. n (e ∙ w.site k))
    (subst (Has x) (sym (stream_here (sender x) appended t.streams)) (has_last x (stream t (sender x)))) (room_still s t k x w.full room)))

-- ---- the law

message_free : (c : Carrier) (s : Shop) (i n r : ℕ) (h : PacketPlace) → IsAppended c s i h → IsFree c s (Message i n r) h
message_free c s i n r (InFolder g) a = λ e t same u. absurd (a e (subst (Has i) same u))
message_free c s i n r (InStream j) a = tt
message_free c s i n r UnderWay a = tt

pub nothing_lost : NothingAcceptedIsLost
nothing_lost c before later m r i n h a w =
    let s = after_steps shop_start (before ++ later) in
    let still = whole_then c before later h m w (Message i n r) a in
    (still, λ of appended k other room. can_have c s k (Message i n r) h (λ e. other (sym e)) of still (message_free c s i n r h appended) room)

-- ---- the last pass, where it stands in a place that is whole, comes to the site that it is for

-- ---- who holds the token

greater : (b : Bool) (n m t : ℕ) → n ≤ t → m ≤ t → cond b (max n m) m ≤ t
greater true n m t p q = omega arith
greater false n m t p q = q

-- no turn that a site passed is greater than the greatest
passed_known : (i turn : ℕ) (kept : List ShopPacket) → ((x : ShopPacket) → Has x kept → IsKnown turn x) → passed_turn i kept ≤ turn
passed_known i turn [] k = omega arith
passed_known i turn (Message j n r ∷ rest) k = passed_known i turn rest (λ x h. k x (inr h))
passed_known i turn (Pass j t l a ∷ rest) k =
    greater (eqb j i) t (passed_turn i rest) turn (k (Pass j t l a) (inl refl)).1 (passed_known i turn rest (λ x h. k x (inr h)))

-- the site to which the last pass went holds the token, once it has taken that turn
holds_last : {s : Shop} → Sound s → (k : ℕ) → 1 ≤ s.turn → s.turn ≤ taken_turn (folder s k).site (folder s k).kept → HoldsToken (folder s k).site (folder s k).kept
holds_last {s} q k one t =
    let most = passed_known (folder s k).site s.turn (folder s k).kept (λ x h. q.known (InFolder k) x h) in
    (omega (arith, most, t), inr (omega (arith, one, t)))

-- ---- the pass comes to it

-- carrying changes no turn, nor of which site a folder is
carried : (c : Carrier) (s : Shop) (e : ShopEvent) → Carries e → ((after_step s e).turn ≡ s.turn) × ((k : ℕ) → (folder (after_step s e) k).site ≡ (folder s k).site)
carried c s (Starts k) m = (refl, folder_cases (λ j f. f.site ≡ (folder s j).site) k (started (folder s k) (s.begun + 1)) s.folders refl (λ j n. refl))
carried c s (Appends k x) m = (refl, λ j. refl)
carried c s (Reads k x) m = (refl, folder_cases (λ j f. f.site ≡ (folder s j).site) k (with_packet_kept (folder s k) x) s.folders refl (λ j n. refl))
carried c s (Opens k) m = absurd m
carried c s e m = absurd m

all_carried : (c : Carrier) (s : Shop) (events : List ShopEvent) → AllCarry events → ((after_steps s events).turn ≡ s.turn) ×
    ((k : ℕ) → (folder (after_steps s events) k).site ≡ (folder s k).site)
all_carried c s [] m = (refl, λ k. refl)
all_carried c s (e ∷ rest) m =
    let one = carried c s e m.0 in
    let more = all_carried c (after_step s e) rest m.1 in
    (more.0 ∙ one.0, λ k. more.1 k ∙ one.1 k)

pass_free : (c : Carrier) (s : Shop) (i t j a : ℕ) (h : PacketPlace) → IsFree c s (Pass i t j a) h
pass_free c s i t j a (InFolder g) = λ e u same d. tt
pass_free c s i t j a (InStream k) = tt
pass_free c s i t j a UnderWay = tt

pub comes_back : TheTokenComesBack
comes_back c before later m i t j a h has whole e of k site =
    let s = after_steps shop_start (before ++ later) in
    let q = sound_run c (before ++ later) m in
    let x = Pass i t j a in
    let still = whole_then c before later h m whole x has in
    let known = q.known h x still in
    let can = can_have c s k x h (λ d. known.2 (sym site ∙ sym d)) of still (pass_free c s i t j a h) tt in
    let u = after_steps s can.0 in
    let all = all_carried c s can.0 can.1 in
    let last : t ≤ taken_turn (folder u k).site (folder u k).kept =
    subst (λ n. t ≤ taken_turn n (folder u k).kept) (sym (all.1 k ∙ site)) (taken_within i t j a (folder u k).kept can.3) in
    (can.0, can.1, can.2, holds_last (sound_after c s can.0 can.2 q) k (omega (arith, known.0, e, all.0)) (omega (arith, last, e, all.0)))

pub first_holds : TheFirstSiteHolds
first_holds c events m none k site =
    let s = after_steps shop_start events in
    let most = passed_known 0 s.turn (folder s k).kept (λ x h. (sound_run c events m).known (InFolder k) x h) in
    (omega (arith, most, none), inl refl)
