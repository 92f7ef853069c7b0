-- What a site has to know before it takes asks: each rule of `MayOpen` is needed. Where a step that it refuses is done all the same,
-- allowed steps lead to where two messages of one site have one number.
use Rattle.std.proofs.Common.{◌≡◌, inl, ◌++◌, ◌∷◌, [], ℕ, true, false, List, refl, subst}
use Rattle.rubis_model.specs.Site.{Has}
use Rattle.rubis_carrier.specs.declared.values.Carrier.{Carrier}
use Rattle.rubis_carrier.specs.declared.values.Carrier.TheVariants.{Files, Server}
use Rattle.rubis_carrier.specs.Events.{AreSteps, after_step, opened_site, opening_folder, replaced, after_steps, are_steps, may}
use Rattle.rubis_carrier.specs.declared.values.ShopEvent.{ShopEvent}
use Rattle.rubis_carrier.specs.declared.values.ShopEvent.TheVariants.{Accepts, Appends, Arrives, Closes, Fills, Gives, GoesOn, IsAsked, IsCopied, IsKilled}
use Rattle.rubis_carrier.specs.declared.values.ShopEvent.TheVariants.{IsRaised, LosesEnd, Opens, OpensAlone, Reads, Sends, Serves, Starts, StreamLosesEnd}
use Rattle.rubis_carrier.specs.Laws.{AreGivenOnce}
use Rattle.rubis_carrier.specs.Shops.{IsNotAhead, MayOpen, PacketPlace, Shop, folder, shop_start, there, with_folder}
use Rattle.rubis_carrier.specs.Shops.PacketPlace.{InFolder, InStream}
use Rattle.rubis_carrier.proofs.Computed.{are_steps_true, may_not}
use Rattle.rubis_carrier.proofs.Examples.ExampleRuns.{asked_once, asking, asking_at, first_message, not_the_same, opening_first, other_message}

-- the folder may not open; if it does all the same, as it would if it were alone and remembered, these steps may follow, and then a
-- message of site 0 that stands at this place has the number of another one that stands at that place
record IsNeeded (c : Carrier) (s : Shop) (k : ℕ) (later : List ShopEvent) (h g : PacketPlace) : Type 0 where
  refused : may c s (Opens k) ≡ false
  goes_on : are_steps c (opening_folder k s) later ≡ true
  first : Has first_message (there (after_steps (opening_folder k s) later) h)
  other : Has other_message (there (after_steps (opening_folder k s) later) g)
  compared : (after_steps (opening_folder k s) later).uncompared ≡ []

gives_twice : {c : Carrier} {s : Shop} {k : ℕ} {later : List ShopEvent} {h g : PacketPlace} → IsNeeded c s k later h g
    → ¬ (MayOpen s k) × AreSteps c (opening_folder k s) later × ¬ (AreGivenOnce (after_steps (opening_folder k s) later))
gives_twice {c} {s} {k} {later} {h} {g} q = (
  may_not c s (Opens k) q.refused,
  are_steps_true c (opening_folder k s) later q.goes_on,
  λ once. not_the_same (once h g first_message other_message q.first q.other refl (λ u. subst (Has 0) q.compared u)),
)

-- ---- a folder that was put back

-- site 1 has read the first message of site 0, whose folder was put back to before it, and is started
abbrev put_back : List ShopEvent
put_back = asked_once ++ Starts 1 ∷ Reads 1 first_message ∷ LosesEnd 0 0 ∷ Starts 0 ∷ []

put_back_may : AreSteps Files shop_start put_back
put_back_may = are_steps_true Files shop_start put_back refl

-- it may not take asks; if it does all the same, it gives number 1 again
put_back_is_needed : IsNeeded Files (after_steps shop_start put_back) 0 (asking 2 3) (InFolder 1) (InFolder 0)
put_back_is_needed = record { refused = refl; goes_on = refl; first = inl refl; other = inl refl; compared = refl }

-- ---- a server that lost its end too

-- the stream of site 0 had the message, and site 1 has read it there; then the folder and the stream lost it. They are equal: whoever
-- compares the folder with the stream alone sees nothing. But site 1 is ahead
abbrev losing_both : List ShopEvent
losing_both = Appends 0 first_message ∷ Starts 1 ∷ Reads 1 first_message ∷ StreamLosesEnd 0 0 ∷ LosesEnd 0 0 ∷ Starts 0 ∷ []

lost_both_may : AreSteps Server shop_start (asked_once ++ losing_both)
lost_both_may = are_steps_true Server shop_start (asked_once ++ losing_both) refl

stream_says_nothing : IsNotAhead (after_steps shop_start (asked_once ++ losing_both)) 0 (InStream 0)
stream_says_nothing x a e = absurd a

lost_both_is_needed : IsNeeded Server (after_steps shop_start (asked_once ++ losing_both)) 0 (asking 2 3) (InFolder 1) (InFolder 0)
lost_both_is_needed = record { refused = refl; goes_on = refl; first = inl refl; other = inl refl; compared = refl }

-- the same, but site 1 is stopped. Whoever compares a folder with the streams, and with the sites that run, sees nothing
abbrev reader_stopped : Shop
reader_stopped = after_steps shop_start (asked_once ++ losing_both ++ IsKilled 1 ∷ [])

nothing_runs_there : (folder reader_stopped 1).life ≡ 0
nothing_runs_there = refl

stopped_is_needed : IsNeeded Server reader_stopped 0 (asking 2 3) (InFolder 1) (InFolder 0)
stopped_is_needed = record { refused = refl; goes_on = refl; first = inl refl; other = inl refl; compared = refl }

-- ---- a copy of a folder that is open

-- folder 5 is a copy of folder 0, which is open: it has as much, and is started. One ask goes to each of the two
copy_is_needed : IsNeeded Files (after_steps shop_start (Starts 0 ∷ Opens 0 ∷ IsCopied 0 5 ∷ Starts 5 ∷ [])) 5 (asking 1 1 ++ asking_at 5 2 2) (InFolder 0) (InFolder 5)
copy_is_needed = record { refused = refl; goes_on = refl; first = inl refl; other = inl refl; compared = refl }

-- ---- a machine that remembers too long

-- a folder opens, and the machines of the other folders of its site still remember those as the last that took asks
abbrev forgets_none : Shop → ℕ → Shop
forgets_none s k = with_folder k (opened_site (folder s k)) s

-- folder 0 was open, and is stopped; folder 5, a copy, is compared with it, opens, and takes an ask; then it is stopped too. Its machine
-- would still say of folder 0 that it has all that was told, and folder 0 would open, compared with nothing
abbrev copied : Shop
copied = after_steps shop_start (Starts 0 ∷ Opens 0 ∷ IsKilled 0 ∷ IsCopied 0 5 ∷ Starts 5 ∷ [])

abbrev remembering : Shop
remembering = after_steps (forgets_none copied 5) (asking_at 5 1 2 ++ IsKilled 5 ∷ Starts 0 ∷ [])

remembers_too_long : may Files remembering (Opens 0) ≡ true
remembers_too_long = refl

remembering_goes_on : AreSteps Files (forgets_none remembering 0) (asking 2 3)
remembering_goes_on = are_steps_true Files (forgets_none remembering 0) (asking 2 3) refl

remembering_gives_twice : AreGivenOnce (after_steps (forgets_none remembering 0) (asking 2 3)) → ⊥
remembering_gives_twice once = not_the_same (once (InFolder 5) (InFolder 0) first_message other_message (inl refl) (inl refl) refl (λ u. u))

-- where the other folders are forgotten, it isn't remembered
forgets : (folder (after_step copied (Opens 5)) 0).remembered ≡ false
forgets = refl

-- ---- a packet that was changed on the disk

-- site 1 has read the first message of site 0, whose folder then has another message in its place
abbrev changing : Shop
changing = after_steps shop_start (asked_once ++ Starts 1 ∷ Reads 1 first_message ∷ [])

-- where sums are looked at, the packets in front of it are left
changed_is_found : (folder (after_step changing (LosesEnd 0 0)) 0).kept ≡ []
changed_is_found = refl

-- where they aren't, a folder has whatever stands there
abbrev changed_unseen : Shop
changed_unseen = with_folder 0 (replaced (folder changing 0) (other_message ∷ [])) changing

changed_has_two : AreGivenOnce changed_unseen → ⊥
changed_has_two once = not_the_same (once (InFolder 1) (InFolder 0) first_message other_message (inl refl) (inl refl) refl (λ u. u))

-- ---- where nothing is left of a number, it is given again

lost_and_again : (folder (after_steps shop_start (asked_once ++ LosesEnd 0 0 ∷ Starts 0 ∷ Opens 0 ∷ asking 2 2)) 0).kept ≡ other_message ∷ []
lost_and_again = refl

lost_and_again_may : AreSteps Files shop_start (asked_once ++ LosesEnd 0 0 ∷ Starts 0 ∷ Opens 0 ∷ asking 2 2)
lost_and_again_may = are_steps_true Files shop_start (asked_once ++ LosesEnd 0 0 ∷ Starts 0 ∷ Opens 0 ∷ asking 2 2) refl

-- ---- a folder that is opened with `--alone`

-- it may, though site 1 is ahead; then the site is one of those of which a folder was opened uncompared
alone_may : AreSteps Files shop_start (put_back ++ OpensAlone 0 ∷ asking 2 3)
alone_may = are_steps_true Files shop_start (put_back ++ OpensAlone 0 ∷ asking 2 3) refl

alone_is_noted : (after_steps shop_start (put_back ++ OpensAlone 0 ∷ asking 2 3)).uncompared ≡ 0 ∷ []
alone_is_noted = refl

-- ---- an append that comes late

-- the append of the first message is under way as the folder loses that, and opens, compared with all that can be seen
abbrev late : Shop
late = after_steps shop_start (asked_once ++ Sends 0 first_message ∷ LosesEnd 0 0 ∷ Starts 0 ∷ [])

late_may_open : may Server late (Opens 0) ≡ true
late_may_open = refl

-- then it arrives no more
late_is_refused : may Server (after_steps (after_step late (Opens 0)) (asking 2 2)) (Arrives first_message) ≡ false
late_is_refused = refl

-- a server that takes it all the same has one message of that number, and the folder another one
abbrev late_taken : Shop
late_taken = after_steps (record (after_step late (Opens 0)) { under_way = first_message ∷ [] }) (asking 2 2 ++ Arrives first_message ∷ [])

late_gives_twice : AreGivenOnce late_taken → ⊥
late_gives_twice once = not_the_same (once (InStream 0) (InFolder 0) first_message other_message (inl refl) (inl refl) refl (λ u. u))

-- ---- a process that doesn't know of the other folder

-- folder 5, a copy, opens while the process of folder 0 goes on: where that takes an ask, the site is noted
abbrev going_on_there : List ShopEvent
going_on_there = opening_first ++ IsCopied 0 5 ∷ Starts 5 ∷ Closes 0 ∷ Opens 5 ∷ asking_at 5 1 2 ++ GoesOn 0 ∷ asking 2 1

going_on_may : AreSteps Files shop_start going_on_there
going_on_may = are_steps_true Files shop_start going_on_there refl

closed_is_refused : may Files (after_steps shop_start (opening_first ++ IsAsked 1 1 1 ∷ Serves 0 1 ∷ Gives 0 1 ∷ Closes 0 ∷ [])) (Accepts 0 1) ≡ false
closed_is_refused = refl

going_on_is_noted : (after_steps shop_start going_on_there).uncompared ≡ 0 ∷ []
going_on_is_noted = refl

gone_on_twice : Has first_message (folder (after_steps shop_start going_on_there) 5).kept × Has other_message (folder (after_steps shop_start going_on_there) 0).kept
gone_on_twice = (inl refl, inl refl)

-- ---- a full site

-- it takes no ask, and no message of another site, until it is stopped and may keep more
full_is_refused : may Files (after_steps shop_start (opening_first ++ IsAsked 1 1 1 ∷ Serves 0 1 ∷ Gives 0 1 ∷ Fills 0 ∷ [])) (Accepts 0 1) ≡ false
full_is_refused = refl

full_reads_nothing : may Files (after_steps shop_start (asked_once ++ Starts 1 ∷ Fills 1 ∷ [])) (Reads 1 first_message) ≡ false
full_reads_nothing = refl

raised_reads : AreSteps Files shop_start (asked_once ++ Starts 1 ∷ Fills 1 ∷ IsKilled 1 ∷ IsRaised 1 ∷ Starts 1 ∷ Reads 1 first_message ∷ [])
raised_reads = are_steps_true Files shop_start (asked_once ++ Starts 1 ∷ Fills 1 ∷ IsKilled 1 ∷ IsRaised 1 ∷ Starts 1 ∷ Reads 1 first_message ∷ []) refl
