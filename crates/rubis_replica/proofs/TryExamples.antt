-- Tries that are computed, and lists that are none.
use Rattle.rubis_replica.proofs.Common.{[], ◌∷◌, refl, ap, ◌∙◌, Option, Some, None, Ok, Err, Token, Place, Replica}
use Rattle.rubis_schema.specs.declared.refusals.Refusal.TheVariants.{NoToken}
use Rattle.rubis_model.specs.Site.{opening_at}
use Rattle.rubis_replica.specs.Tries.{AllLead, Answer, Try}
use Rattle.rubis_replica.specs.Tries.Call.{Apply, Pass}
use Rattle.rubis_replica.specs.Tries.Value.{Applied, Handed}

abbrev first_of_two : Place
first_of_two = record { site = 0; sites = 2; keep = 9 }

abbrev without_token : Replica
without_token = record { log = []; waiting = []; held = None; last = 0 }

abbrev token : Token
token = record { turn = 1; to = 1; issued = 0 }

abbrev passing : Option Answer → Try
passing answer = record { call = Pass 1; answer = answer }

-- a pass that is refused for memory, made again once the site has caught up, and then once more
made_again : AllLead first_of_two (opening_at 0)
    (passing None ∷ record { call = Apply; answer = Some (Ok Applied) } ∷ passing (Some (Ok (Handed token))) ∷ passing (Some (Err NoToken)) ∷ [])
    without_token
made_again = (opening_at 0, refl, (opening_at 0, (refl, refl), (without_token, (refl, refl), (without_token, (refl, refl), refl))))

-- a site that gave the token away and said that there was no memory isn't where tries lead
passed_and_denied : AllLead first_of_two (opening_at 0) (passing None ∷ []) without_token → ⊥
passed_and_denied h = let e = ap (λ (s : Replica). s.held) (h.2 ∙ h.1) in cc
