use Rattle.rubis_shard.proofs.Common.{◌≡◌, ◌+◌, ◌++◌, ◌∷◌, [], suc, length-append, take, sym, ap, subst, ◌∙◌, arith, option_map, Option, Some}
use Rattle.rubis_shard.proofs.Common.{deref_pair, row_key, IdKey}
use Rattle.rubis_shard.specs.Chains.{chains_of, Links, chain_written}
use Rattle.rubis_shard.proofs.Linking.{chain_at, chains_length, linked_links, take_next}
use Rattle.rubis_shard.proofs.chains.Chains.link.Goals as goal

pub loop-at-init : goal.loop-at-init
loop-at-init c =
    let es = c.args.rows.now.entries in
    record {
      size = sym c.len-at.ensures;
      below = omega (arith, c.len-at.ensures, c.requires.many, chains_length row_key es, c.len-at-end.ensures.len);
      links = subst (λ k. Links (take k (chains_of (chain_written row_key es))) c.args.self.now) (sym c.len-at.ensures) c.requires.links;
    }

pub loop-at-preserved : goal.loop-at-preserved
loop-at-preserved c =
    let es = c.args.rows.now.entries in
    let cs = chains_of (chain_written row_key es) in
    let at = c.loop-at.at in
    let held = c.loop-at.invariant in
    let here = chain_at row_key es at c.in-Some.key.now c.in-Some.row.now (sym c.get_index.ensures.entry ∙ ap (option_map deref_pair) c.in-Some.is)
    ∙ ap (λ (k : Option IdKey). Some k) (sym c.chain_of.ensures) in
    let next : suc at ≡ at + 1 = omega arith in
    let pushed : Links (take at cs ++ c.chain_of.result ∷ []) c.push.new.self = c.in_ok-push.ensures.ok (take at cs) held.links in
    record {
      size = omega (arith, pushed.many, length-append (take at cs) (c.chain_of.result ∷ []), held.links.many, held.size);
      below = omega arith;
      links = subst (λ xs. Links xs c.push.new.self) (sym (take_next cs at c.chain_of.result here) ∙ ap (λ k. take k cs) next) pushed;
    }

pub returns-in_err-push-clause-linked : goal.returns-in_err-push-clause-linked
returns-in_err-push-clause-linked c =
    let es = c.args.rows.now.entries in
    let held = c.loop-at.invariant in
    linked_links (chains_of (chain_written row_key es)) c.loop-at.at c.push.new.self (c.in_err-push.ensures.err _ held.links)
    (omega (arith, held.below, chains_length row_key es, c.len-at-end.ensures.len))

pub returns-clause-linked : goal.returns-clause-linked
returns-clause-linked c =
    let es = c.args.rows.now.entries in
    let held = c.loop-at.invariant in
    linked_links (chains_of (chain_written row_key es)) c.loop-at.at c.loop-at.self held.links
    (omega (arith, held.below, chains_length row_key es, c.len-at-end.ensures.len))

pub returns-clause-all : goal.returns-clause-all
returns-clause-all c = omega (arith, c.loop-at.invariant.size, c.loop-at.invariant.below, c.len-at-end.ensures.len)
