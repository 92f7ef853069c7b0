-- A nickname with zeros after it.
use Rattle.std.proofs.Common.{◌≡◌, ℕ, ◌-◌, List, ◌++◌, length, take, replicate, ap, sym, subst, ◌∙◌}
use Rattle.std.proofs.Math.Seq.{take-append_seam}
use Rattle.rubis_schema.specs.FieldForms.{IsNick, IsPadded, padded}
use Rattle.rubis_schema.specs.declared.limits.TheConstants.{NICK_MAX}

pub nick_padded : (text copied rest : List ℕ) → IsNick text → copied ≡ text → rest ≡ replicate (NICK_MAX - length text) 0 →
    IsPadded (copied ++ rest) (length text)
nick_padded text copied rest h c e =
    let t : take (length text) (copied ++ rest) ≡ text = ap (λ x. take (length text) (x ++ rest)) c ∙ take-append_seam text rest in
    record {
      nick = subst IsNick (sym t) h;
      behind = ap padded t ∙ (λ i. sym c i ++ sym e i);
      counted = ap length t;
    }
