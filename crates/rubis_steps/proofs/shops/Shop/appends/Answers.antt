use Rattle.std.proofs.Common.{◌∙◌, ◌++◌, ◌∷◌, [], ap}
use Rattle.rubis_carrier.specs.Shops.{with_stream}
use Rattle.rubis_steps.specs.Views.{shop_of, stream_at}
use Rattle.rubis_steps.proofs.Leading.{stream_replaced}
use Rattle.rubis_steps.proofs.shops.Shop.appends.Goals as goal

pub returns : goal.returns
returns c =
    let old = c.args.self.now in
    let x = c.args.packet in
    stream_replaced c.push.new.self (λ xs. xs ++ x ∷ []) c.in_ok-list_stream.ensures c.index_mut.ensures.value c.in_ok-push.ensures.items
    ∙ ap (λ j. with_stream j (stream_at old j ++ x ∷ []) (shop_of old)) c.sender-site.ensures
