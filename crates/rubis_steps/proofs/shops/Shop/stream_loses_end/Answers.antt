use Rattle.std.proofs.Common.{take}
use Rattle.rubis_steps.proofs.Leading.{stream_replaced}
use Rattle.rubis_steps.proofs.shops.Shop.stream_loses_end.Goals as goal

pub returns : goal.returns
returns c = stream_replaced c.truncate.new.self (take c.args.count) c.in_ok-list_stream.ensures c.index_mut.ensures.value c.truncate.ensures.items
