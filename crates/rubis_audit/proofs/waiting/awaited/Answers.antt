use Rattle.rubis_audit.proofs.Common.{◌≡◌, ◌<◌, ◌∙◌, ap, arith, subst, sym, slice_index, MessageCounts, dep, sites_of}
use Rattle.rubis_audit.proofs.Merging.{awaited_none, awaited_some}
use Rattle.rubis_audit.proofs.waiting.awaited.Goals as goal

pub returns-then-count : goal.returns-then-count
returns-then-count c log e =
    let m = c.args.message.now in
    let site = c.args.site in
    let l : site < sites_of m = subst (λ n. site < n) (sym c.requires.sites) c.requires.site in
    let d : c.count.result ≡ dep m site = c.count.ensures ∙ ap (λ counts. slice_index counts site) c.deps.ensures.value in
    awaited_some log m site c.count-count.result l (c.count-count.ensures ∙ ap (λ (k : MessageCounts). slice_index k.counts site) e)
    (omega (arith, d, c.if-count.true))

pub returns : goal.returns
returns c log e =
    let m = c.args.message.now in
    let site = c.args.site in
    let l : site < sites_of m = subst (λ n. site < n) (sym c.requires.sites) c.requires.site in
    let d : c.count.result ≡ dep m site = c.count.ensures ∙ ap (λ counts. slice_index counts site) c.deps.ensures.value in
    awaited_none log m site c.count-count.result l (c.count-count.ensures ∙ ap (λ (k : MessageCounts). slice_index k.counts site) e)
    (omega (arith, d, c.if-count.false))
