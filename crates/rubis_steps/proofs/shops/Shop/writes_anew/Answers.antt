use Rattle.std.proofs.Common.{◌∙◌, ap}
use Rattle.rubis_carrier.specs.Shops.{own, with_stream}
use Rattle.rubis_steps.specs.Views.{folder_at, shop_of}
use Rattle.rubis_steps.proofs.Leading.{stream_replaced}
use Rattle.rubis_steps.proofs.shops.Shop.writes_anew.Goals as goal

pub returns : goal.returns
returns c =
    let old = c.args.self.now in
    let kept = (folder_at old c.args.folder).kept in
    let i = c.site-site.result in
    stream_replaced c.in_ok-stream.stream (λ xs. own i kept) c.in_ok-list_stream.ensures c.index_mut.ensures.value
    (c.in_ok-stream.ensures ∙ ap (λ xs. own i xs) c.kept.ensures)
    ∙ ap (λ i. with_stream i (own i kept) (shop_of old)) c.site-site.ensures
