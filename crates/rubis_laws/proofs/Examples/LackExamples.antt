-- Worked examples of what a log lacks, computed on the definitions; and that each premise is needed.
use Rattle.rubis_laws.proofs.Common.{◌≡◌, ℕ, List, [], ◌∷◌, Some, None, refl, codes, Ok, Err, Id, NotOurs, Shadow, Message, Agree, after_all, answers_to}
use Rattle.rubis_laws.proofs.Common.{awaited, awaited_red, lacked, merged, Log, Place, Replica, opening_at, verdict, Arrival}

abbrev id : ℕ → ℕ → Id
id s q = record { site = s; seq = q }

abbrev message : ℕ → ℕ → ℕ → List ℕ → Shadow → Message
message s q red deps x = record { stamp = record { id = id s q; red = red; deps = deps }; shadow = x }

abbrev log : ℕ → List Message → Log
log site messages = record { site = site; messages = messages; rows = None }

-- site 0 makes a user and then a lamp, site 1 a chair of that user's
abbrev ann : Message
ann = message 0 1 1 (0 ∷ 0 ∷ []) (Shadow.User (codes "ann"))

abbrev lamp : Message
lamp = message 0 2 0 (1 ∷ 0 ∷ []) (Shadow.Item (record { seller = id 0 1; name = codes "lamp"; cat = 7; stock = 1; start = 100; price = 0 }))

abbrev chair : Message
chair = message 1 1 0 (1 ∷ 0 ∷ []) (Shadow.Item (record { seller = id 0 1; name = codes "chair"; cat = 7; stock = 1; start = 100; price = 0 }))

-- another user, made at site 0 after these
abbrev bob : Message
bob = message 0 3 2 (2 ∷ 0 ∷ []) (Shadow.User (codes "bob"))

abbrev logs : List Log
logs = log 0 (ann ∷ lamp ∷ bob ∷ []) ∷ log 1 (ann ∷ chair ∷ []) ∷ log 2 [] ∷ []

they_agree : verdict logs ≡ Agree
they_agree = refl

all_merged : merged logs ≡ ann ∷ lamp ∷ bob ∷ chair ∷ []
all_merged = refl

first_lacks : lacked logs (ann ∷ lamp ∷ bob ∷ []) ≡ chair ∷ []
first_lacks = refl

second_lacks : lacked logs (ann ∷ chair ∷ []) ≡ lamp ∷ bob ∷ []
second_lacks = refl

third_lacks : lacked logs [] ≡ ann ∷ lamp ∷ bob ∷ chair ∷ []
third_lacks = refl

abbrev at : ℕ → Place
at site = record { site = site; sites = 3; keep = 10 }

abbrev replica : List Message → List Message → Replica
replica log waiting = record { log = log; waiting = waiting; held = None; last = 0 }

-- each is released as it arrives
second_is_sent : answers_to (at 1) (replica (ann ∷ chair ∷ []) []) (lacked logs (ann ∷ chair ∷ [])) ≡ Ok (Arrival.Released 1) ∷ Ok (Arrival.Released 1) ∷ []
second_is_sent = refl

second_has_all : after_all (at 1) (replica (ann ∷ chair ∷ []) []) (lacked logs (ann ∷ chair ∷ [])) ≡ replica (ann ∷ chair ∷ lamp ∷ bob ∷ []) []
second_has_all = refl

-- ---- each premise is needed

-- in another order they wait
in_another_order : answers_to (at 1) (replica (ann ∷ chair ∷ []) []) (bob ∷ lamp ∷ []) ≡ Ok Arrival.Held ∷ Ok (Arrival.Released 2) ∷ []
in_another_order = refl

-- where bob's waited already, it is released with the one that it waited for, and is there when it comes again
one_waits : answers_to (at 1) (replica (ann ∷ chair ∷ []) (bob ∷ [])) (lacked logs (ann ∷ chair ∷ [])) ≡ Ok (Arrival.Released 2) ∷ Ok Arrival.Repeat ∷ []
one_waits = refl

-- a site that lost its own messages takes none of them back
lost : answers_to (at 0) (opening_at 0) (lacked logs []) ≡ Err NotOurs ∷ Err NotOurs ∷ Err NotOurs ∷ Ok Arrival.Held ∷ []
lost = refl

-- ---- what a message waits for

waits_for_one : awaited (ann ∷ chair ∷ []) bob 0 ≡ Some (id 0 2)
waits_for_one = refl

waits_for_none_of_site_1 : awaited (ann ∷ chair ∷ []) bob 1 ≡ None
waits_for_none_of_site_1 = refl

waits_for_a_number : awaited_red [] bob ≡ Some 1
waits_for_a_number = refl
