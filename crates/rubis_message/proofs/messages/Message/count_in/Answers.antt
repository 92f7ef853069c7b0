use Rattle.std.proofs.Common.{◌∙◌}
use Rattle.rubis_clock.specs.Clocks.{advanced}
use Rattle.rubis_message.proofs.messages.Message.count_in.Goals as goal

pub returns : goal.returns
returns c =
    let deps = c.args.self.now.stamp.deps in
    c.advance_by.ensures deps ∙ (λ j. advanced c.args.clock.now (record { id = c.id.ensures.value j; red = c.red.ensures.value j; deps = deps }))
