use Rattle.rubis_script.proofs.Common.{◌≡◌, ◌∙◌, ◌++◌, ap, arith, length, subst, sym, TakesFirst, rows_text}
use Rattle.rubis_engine.proofs.RunFacts.{if_not_some}
use Rattle.rubis_script.proofs.LeadFacts.{settles_all, taken_all}
use Rattle.rubis_script.proofs.WindowFacts.{answers-few, flush_keeps, told-kept}
use Rattle.rubis_script.specs.Desks.{left_at}
use Rattle.rubis_script.specs.Windows.{arrivals_rows}
use Rattle.rubis_script.proofs.desk.Desk.take_in.Goals as goal

pub write_arrivals-requires : goal.write_arrivals-requires
write_arrivals-requires g c =
    let site = c.args.self.now.site in
    let messages = c.replace-messages.result.items in
    let arrived = c.arrive_within-arrived.result in
    let same : length messages ≡ length c.args.self.now.window.items = ap (λ w. length w.items) c.replace-messages.ensures.value in
    let few = answers-few site.place site.state c.arrive_within-arrived.new.self.state messages arrived.rest arrived.answers c.arrive_within-arrived.ensures.first in
    let shown : length c.as_slice.result.now ≡ length arrived.answers = ap length c.as_slice.ensures in
    omega (arith, few, same, shown, c.args.self.now.numbered)

pub returns-clause-flushed : goal.returns-clause-flushed
returns-clause-flushed g c =
    let d = c.args.self.now in
    let site = d.site in
    let messages = d.window.items in
    let sink = c.args.reply.now.sink in
    let arrived = c.arrive_within-arrived.result in
    let new = c.arrive_within-arrived.new.self in
    let rest = if_not_some arrived.fault c.arrive_within-arrived.ensures.none (sym c.is_some.ensures ∙ c.if-is_some.false) in
    let first = subst (λ w. TakesFirst site.place site.state new.state w.items arrived.answers arrived.rest)
    c.replace-messages.ensures.value c.arrive_within-arrived.ensures.first in
    let none = ap (λ w. w.items) c.replace-messages.ensures.after ∙ c.new.ensures.items in
    record {
      text = λ number. told-kept (left_at d number) new c.replace-messages.new.dest.items d.first number sink c.write_arrivals.new.sink none
          (flush_keeps site new messages arrived.rest number d.first arrived.answers sink c.write_arrivals.new.sink
          c.arrive_within-arrived.ensures.place first rest
          (subst (λ told. c.write_arrivals.new.sink ≡ sink ++ rows_text (arrivals_rows d.first told)) c.as_slice.ensures
          c.in_ok-write_arrivals.ensures));
      leads = settles_all site new messages c.replace-messages.new.dest.items c.arrive_within-arrived.ensures.place
          (taken_all site.place site.state new.state messages arrived.rest arrived.answers first rest) none;
    }
