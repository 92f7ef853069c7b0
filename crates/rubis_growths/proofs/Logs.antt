-- Logs that an auditor is given.
use Rattle.std.proofs.Common.{◌≡◌, [], ◌∷◌, inl, inr, subst}
use Rattle.std.specs.List.{All}
use Rattle.rubis_message.specs.Message.{sites_of}
use Rattle.rubis_model.specs.Verdict.{Log}
use Rattle.rubis_model.specs.Site.{Has}
use Rattle.rubis_audit.specs.Walks.{HaveMessagesAmong}
use Rattle.rubis_growths.proofs.Lists.{of_each}

-- each message of the only log counts two sites
pub among_one : (log : Log) → All (λ m. sites_of m ≡ 2) log.messages → HaveMessagesAmong 2 (log ∷ [])
among_one log all found (inl e) m h = of_each (λ m. sites_of m ≡ 2) log.messages m all (subst (λ (l : Log). Has m l.messages) e h)
among_one log all found (inr none) m h = absurd none
