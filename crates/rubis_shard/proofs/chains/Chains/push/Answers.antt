use Rattle.rubis_shard.proofs.Common.{◌≡◌, ◌+◌, ◌++◌, ◌∷◌, [], ℕ, cond, length, ap, ◌∙◌, arith, Some, lookup, same_id_key}
use Rattle.rubis_shard.specs.Chains.{is_in}
use Rattle.rubis_shard.proofs.Linking.{links_push}
use Rattle.rubis_shard.proofs.chains.Chains.push.Goals as goal

pub returns-clause-ok : goal.returns-clause-ok
returns-clause-ok c = λ cs links.
    let s = c.args.self.now in
    let place : c.len-rows.result + 1 ≡ length s.before.items + 1 = omega (arith, c.len-rows.ensures, s.before.ok.0) in
    links_push cs c.args.chain c.in_ok-before.before s _ c.in_ok-before.ensures.before
    (c.push_reserved.ensures.items ∙ ap (λ xs. xs ++ c.in_ok-before.before ∷ []) c.in_ok-reserve.ensures.items)
    (λ k. c.in_ok-before.ensures.noted k ∙ ap (λ (n : ℕ). cond (is_in c.args.chain k) (Some n) (lookup (same_id_key k) s.last.entries)) place)
    links
