-- A token that is looked for at its place, and not by its turn, is lost for good.
use Rattle.std.proofs.lemmas.Bool.{and_parts, eqb-true}
use Rattle.std.specs.Prelude.{◌==◌, ◌&&◌}
use Rattle.std.proofs.Common.{◌≡◌, ◌∙◌, inr, ⊎_elim, ◌≤◌, ◌+◌, ◌++◌, ◌∷◌, [], ℕ, Bool, true, List, refl, sym, ap, subst, arith}
use Rattle.rubis_model.specs.Site.{Has}
use Rattle.rubis_carrier.specs.declared.values.Carrier.TheVariants.{Server}
use Rattle.rubis_carrier.specs.declared.values.ShopPacket.{ShopPacket}
use Rattle.rubis_carrier.specs.declared.values.ShopPacket.TheVariants.{Message, Pass}
use Rattle.rubis_carrier.specs.Events.{AllCarry, AreSteps, Carries, May, after_step, with_packet_kept, after_steps, started}
use Rattle.rubis_carrier.specs.declared.values.ShopEvent.{ShopEvent}
use Rattle.rubis_carrier.specs.declared.values.ShopEvent.TheVariants.{Accepts, Appends, Gives, IsAsked, IsKilled, Opens, Passes, Reads, ServerLosesAll, Serves}
use Rattle.rubis_carrier.specs.declared.values.ShopEvent.TheVariants.{Starts}
use Rattle.rubis_carrier.specs.Laws.{CanHold}
use Rattle.rubis_carrier.specs.Shops.{HoldsToken, highest, taken_turn, Folder, PacketPlace, Shop, folder, folder_in, put_folder, shop_start, there}
use Rattle.rubis_carrier.specs.Shops.PacketPlace.{InFolder, InStream, UnderWay}
use Rattle.rubis_carrier.proofs.Changes.{IsNew, from_step}
use Rattle.rubis_carrier.proofs.Computed.{are_steps_true}
use Rattle.rubis_carrier.proofs.Examples.ExampleRuns.{asked_once, first_message}
use Rattle.rubis_carrier.proofs.PacketFacts.{number_more, taken_message, folder_cases}

-- ---- the run

abbrev second_message : ShopPacket
second_message = Message 0 2 2

-- site 0 passes the token to site 1 after its first message
abbrev the_pass : ShopPacket
the_pass = Pass 0 1 1 1

-- a second message follows, and site 2 reads both; the server loses all while site 0 is stopped, and site 2 puts back what it has. Site
-- 1 reads that. Then site 0 comes back, and puts its pass into the stream again
abbrev passing : List ShopEvent
passing =
    Passes 0 1 ∷ IsAsked 2 1 1 ∷ Serves 0 2 ∷ Gives 0 2 ∷ Accepts 0 2 ∷ Appends 0 first_message ∷ Appends 0 the_pass ∷ Appends 0 second_message
    ∷ Starts 2 ∷ Reads 2 first_message ∷ Reads 2 second_message ∷ IsKilled 0 ∷ ServerLosesAll ∷ Appends 2 first_message ∷ Appends 2 second_message
    ∷ Starts 1 ∷ Reads 1 first_message ∷ Reads 1 second_message ∷ Starts 0 ∷ Appends 0 the_pass ∷ []

abbrev passed_on : Shop
passed_on = after_steps shop_start (asked_once ++ passing)

passed_on_may : AreSteps Server shop_start (asked_once ++ passing)
passed_on_may = are_steps_true Server shop_start (asked_once ++ passing) refl

-- site 1 reads the pass by its turn, and holds the token
comes_back : CanHold Server passed_on 1
comes_back = (Reads 1 the_pass ∷ [], (tt, tt), are_steps_true Server passed_on (Reads 1 the_pass ∷ []) refl, (omega arith, inr (omega arith)))

-- ---- by its place

-- a site reads a pass only where it has no later message of the sender
abbrev IsAtPlace : Shop → ShopEvent → Type 0
IsAtPlace s (Reads k (Pass i t j a)) = highest i (folder s k).kept ≤ a
IsAtPlace s e = Unit {0}

abbrev AreStepsByPlace : Shop → List ShopEvent → Type 0
AreStepsByPlace s [] = Unit {0}
AreStepsByPlace s (e ∷ rest) = May Server s e × IsAtPlace s e × AreStepsByPlace (after_step s e) rest

-- it is a message, or a pass of site 0 after its first message
abbrev IsFine : ShopPacket → Type 0
IsFine (Message i n r) = Unit {0}
IsFine (Pass i t j a) = (i ≡ 0) × (a ≡ 1)

abbrev AllFine : Shop → Type 0
AllFine s = (h : PacketPlace) (x : ShopPacket) → Has x (there s h) → IsFine x

fine_step : (s : Shop) (e : ShopEvent) → May Server s e → AllFine s → ((x : ShopPacket) → IsNew s e x → IsFine x) → AllFine (after_step s e)
fine_step s e m f new h x a = ⊎_elim (λ old. f old.0 x old.1) (new x) (from_step Server s e h x m a)

-- site 1 has two messages of site 0, and no token
record IsStuck (s : Shop) : Type 0 where
  fine : AllFine s
  ahead : 2 ≤ highest 0 (folder s 1).kept
  site : (folder s 1).site ≡ 1
  none : taken_turn 1 (folder s 1).kept ≡ 0

-- what a folder needs for that
record IsBehind (f : Folder) : Type 0 where
  ahead : 2 ≤ highest 0 f.kept
  site : f.site ≡ 1
  none : taken_turn 1 f.kept ≡ 0

at_one : {s : Shop} → IsStuck s → (k : ℕ) (f : Folder) → (k ≡ 1 → IsBehind f) → IsBehind (folder_in (put_folder k f s.folders) 1)
at_one {s} q k f here = folder_cases (λ j g. j ≡ 1 → IsBehind g) k f s.folders here
    (λ j n e. subst (λ i. IsBehind (folder s i)) (sym e) (record { ahead = q.ahead; site = q.site; none = q.none })) 1 refl

stuck : (s : Shop) → AllFine s → IsBehind (folder s 1) → IsStuck s
stuck s f b = record { fine = f; ahead = b.ahead; site = b.site; none = b.none }

stuck_reads : {s : Shop} (k : ℕ) (x : ShopPacket) → May Server s (Reads k x) → IsAtPlace s (Reads k x) → IsStuck s → IsStuck (after_step s (Reads k x))
stuck_reads {s} k (Message i n r) m p q = stuck (after_step s (Reads k (Message i n r))) (fine_step s (Reads k (Message i n r)) m q.fine (λ x z. absurd z))
    (at_one q k (with_packet_kept (folder s k) (Message i n r)) (λ e. subst (λ j. IsBehind (with_packet_kept (folder s j) (Message i n r))) (sym e) (record {
      ahead = omega (arith, q.ahead, number_more 0 (folder s 1).kept (Message i n r ∷ []));
      site = q.site;
      none = taken_message 1 i n r (folder s 1).kept ∙ q.none;
    })))
stuck_reads {s} k (Pass i t j a) m p q = stuck (after_step s (Reads k (Pass i t j a))) (fine_step s (Reads k (Pass i t j a)) m q.fine (λ x z. absurd z))
    (at_one q k (with_packet_kept (folder s k) (Pass i t j a)) (λ e. absurd (late e)))
  where
    late : k ≡ 1 → ⊥
    late e =
        let is = q.fine (InStream i) (Pass i t j a) m.2 in
        let place : highest 0 (folder s 1).kept ≤ a = subst (λ d. highest d (folder s 1).kept ≤ a) is.0 (subst (λ n. highest i (folder s n).kept ≤ a) e p) in
        omega (arith, place, is.1, q.ahead)

stuck_step : {s : Shop} (e : ShopEvent) → Carries e → May Server s e → IsAtPlace s e → IsStuck s → IsStuck (after_step s e)
stuck_step {s} (Starts k) c m p q = stuck (after_step s (Starts k)) (fine_step s (Starts k) m q.fine (λ x z. absurd z))
    (at_one q k (started (folder s k) (s.begun + 1)) (λ e. subst (λ j. IsBehind (started (folder s j) (s.begun + 1))) (sym e)
    (record { ahead = q.ahead; site = q.site; none = q.none })))
stuck_step {s} (Appends k x) c m p q = stuck (after_step s (Appends k x)) (fine_step s (Appends k x) m q.fine (λ z y. absurd y))
    (record { ahead = q.ahead; site = q.site; none = q.none })
stuck_step (Reads k x) c m p q = stuck_reads k x m p q
stuck_step (Opens k) c m p q = absurd c
stuck_step e c m p q = absurd c

stuck_after : (s : Shop) (more : List ShopEvent) → AllCarry more → AreStepsByPlace s more → IsStuck s → IsStuck (after_steps s more)
stuck_after s [] c m q = q
stuck_after s (e ∷ rest) c m q = stuck_after (after_step s e) rest c.1 m.2 (stuck_step e c.0 m.0 m.1 q)

-- ---- so it is lost for good

-- what an event makes is fine, by a test
abbrev makes_fine : Shop → ShopEvent → Bool
makes_fine s (Passes k to) = ((folder s k).site == 0) && (highest (folder s k).site (folder s k).kept == 1)
makes_fine s e = true

new_fine : (s : Shop) (e : ShopEvent) → makes_fine s e ≡ true → (x : ShopPacket) → IsNew s e x → IsFine x
new_fine s (Passes k to) t x e =
    let both = and_parts ((folder s k).site == 0) (highest (folder s k).site (folder s k).kept == 1) t in
    subst IsFine (sym e) (eqb-true (folder s k).site 0 both.0, eqb-true (highest (folder s k).site (folder s k).kept) 1 both.1)
new_fine s (Accepts k r) t x e = subst IsFine (sym e) tt
new_fine s (Starts k) t x z = absurd z
new_fine s e t x z = absurd z

-- and what all of them make
abbrev make_fine : Shop → List ShopEvent → Bool
make_fine s [] = true
make_fine s (e ∷ rest) = makes_fine s e && make_fine (after_step s e) rest

fine_after : (s : Shop) (events : List ShopEvent) → AreSteps Server s events → make_fine s events ≡ true → AllFine s → AllFine (after_steps s events)
fine_after s [] m t f = f
fine_after s (e ∷ rest) m t f =
    let both = and_parts (makes_fine s e) (make_fine (after_step s e) rest) t in
    fine_after (after_step s e) rest m.1 both.1 (fine_step s e m.0 f (new_fine s e both.0))

all_fine : AllFine passed_on
all_fine = fine_after shop_start (asked_once ++ passing) passed_on_may refl none_yet
  where
    none_yet : AllFine shop_start
    none_yet (InFolder k) x h = absurd h
    none_yet (InStream i) x h = absurd h
    none_yet UnderWay x h = absurd h

-- site 1 never holds the token: by whatever folders that are started, and packets that are carried
lost_for_good : (more : List ShopEvent) → AllCarry more → AreStepsByPlace passed_on more
    → HoldsToken (folder (after_steps passed_on more) 1).site (folder (after_steps passed_on more) 1).kept → ⊥
lost_for_good more c m h =
    let q = stuck_after passed_on more c m (stuck passed_on all_fine (record { ahead = omega arith; site = refl; none = refl })) in
    let none : taken_turn (folder (after_steps passed_on more) 1).site (folder (after_steps passed_on more) 1).kept ≡ 0 =
    ap (λ i. taken_turn i (folder (after_steps passed_on more) 1).kept) q.site ∙ q.none in
    ⊎_elim (λ e. absurd (omega (arith, e, q.site))) (λ l. absurd (omega (arith, l, none))) h.1
