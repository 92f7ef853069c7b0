use Rattle.std.proofs.Common.{◌≡◌, ◌∙◌, subst, sym}
use Rattle.std.specs.List.{All}
use Rattle.rubis_message.specs.Message.{Message, sites_of}
use Rattle.rubis_model.specs.Verdict.{Log}
use Rattle.rubis_growths.proofs.Logs.{among_one}
use Rattle.rubis_growths.proofs.audits.verdict_on.Goals as goal

pub audit-requires-clause-among : goal.audit-requires-clause-among
audit-requires-clause-among c =
    let all = subst (All (λ (m : Message). sites_of m ≡ 2)) (sym (c.in_ok-shared.ensures ∙ c.as_slice.ensures)) c.requires in
    among_one c.new-log.result (subst (λ (l : Log). All (λ (m : Message). sites_of m ≡ 2) l.messages) (sym c.new-log.ensures) all)
