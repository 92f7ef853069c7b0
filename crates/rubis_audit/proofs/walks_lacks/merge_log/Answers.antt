use Rattle.rubis_audit.proofs.Common.{◌≡◌, ◌+◌, ◌<◌, ◌∙◌, ap, arith, get_or, length, subst, sym, map}
use Rattle.rubis_audit.proofs.Merging.{Merges, counts_same, is_ready, merges_end, merges_skip, merges_start, merges_take, one_at, origin_within}
use Rattle.rubis_audit.proofs.Walking.{entry_is}
use Rattle.rubis_audit.proofs.walks_lacks.merge_log.Goals as goal
use Rattle.rubis_audit.proofs.walks_lacks.merge_log.Goals.{After-is_new, then-is_new+in_ok-put_last, else-is_new}

pub loop-shared-init : goal.loop-shared-init
loop-shared-init c log e = (
  c.messages-shared-items.ensures ∙ ap (λ l. l.messages) (one_at c.args.logs.now c.args.at c.index-logs-at.result log c.requires.place c.index-logs-at.is e),
  merges_start c.args.sites c.args.logs.now c.args.at log (map (λ m. m.now) c.args.merged.now.items) c.args.clock.now c.requires.place e c.requires.so_far,
)

-- how far the logs are merged, and that the message stands at its place in its log
merges : (c : After-is_new) →
    Merges c.args.sites c.args.logs.now c.args.at c.index-logs-at.result c.loop-shared.shared-index
    (map (λ m. m.now) c.loop-shared.merged.items) c.loop-shared.clock
merges c = (c.loop-shared.invariant c.index-logs-at.result c.index-logs-at.is).1

within : (c : After-is_new) → c.loop-shared.shared-index < length c.index-logs-at.result.messages
within c = subst (λ xs. c.loop-shared.shared-index < length xs) (c.loop-shared.invariant c.index-logs-at.result c.index-logs-at.is).0 c.loop-shared-test.true

entry : (c : After-is_new) → c.deref-message.result.now ≡ get_or c.index-logs-at.result.messages c.loop-shared.shared-index c.deref-message.result.now
entry c =
    entry_is _ c.index-logs-at.result.messages c.loop-shared.shared-index c.shared-item.result c.deref-message.result.now
    (c.loop-shared.invariant c.index-logs-at.result c.index-logs-at.is).0 c.shared-item.is
    c.deref-message.ensures

pub is_new-requires : goal.is_new-requires
is_new-requires c =
    let inv = c.loop-shared.invariant c.index-logs-at.result c.index-logs-at.is in
    counts_same c.args.sites c.args.logs.now c.args.at c.index-logs-at.result c.loop-shared.shared-index c.deref-message.result.now _ c.loop-shared.clock
    c.requires.passed.among c.requires.place
    c.index-logs-at.is (subst (λ xs. c.loop-shared.shared-index < length xs) inv.0 c.loop-shared-test.true)
    (entry_is _ c.index-logs-at.result.messages c.loop-shared.shared-index c.shared-item.result c.deref-message.result.now inv.0 c.shared-item.is
    c.deref-message.ensures) inv.1

pub count_in-requires-clause-origin : goal.count_in-requires-clause-origin
count_in-requires-clause-origin c =
    let p = (goal.at.count_in-requires-clause-origin c).After-is_new in
    origin_within c.args.sites c.args.logs.now c.args.at c.index-logs-at.result c.loop-shared.shared-index c.deref-message.result.now _ c.loop-shared.clock
    c.requires.passed.faultless c.requires.passed.among
    c.requires.place c.index-logs-at.is (within p) (entry p) c.is_new.ensures.conditions (merges p)

pub count_in-requires-clause-ready : goal.count_in-requires-clause-ready
count_in-requires-clause-ready c =
    let p = (goal.at.count_in-requires-clause-ready c).After-is_new in
    is_ready c.args.sites c.args.logs.now c.args.at c.index-logs-at.result c.loop-shared.shared-index c.deref-message.result.now _ c.loop-shared.clock
    c.requires.passed.faultless c.requires.passed.among
    c.requires.place c.index-logs-at.is (within p) (entry p) c.is_new.ensures.conditions (merges p) (sym c.if-is_new.true ∙ c.is_new.ensures.new)

pub loop-shared-preserved : goal.loop-shared-preserved
loop-shared-preserved c log e =
    let n = c.loop-shared.shared-index in
    let v = c.deref-message.result.now in
    let messages = map (λ m. m.now) c.loop-shared.merged.items in
    let clock = c.loop-shared.clock in
    let inv = c.loop-shared.invariant log e in
    let k = subst (λ xs. n < length xs) inv.0 c.loop-shared-test.true in
    let i = entry_is _ log.messages n c.shared-item.result v inv.0 c.shared-item.is c.deref-message.ensures in (
      inv.0,
      elim c.if-is_new.branch [
        | then-is_new+in_ok-put_last w ↦
            subst (λ q. Merges c.args.sites c.args.logs.now c.args.at log (n + 1) (map (λ m. m.now) q.items) c.if-is_new.clock) (sym w.merged-is)
            (subst (λ q. Merges c.args.sites c.args.logs.now c.args.at log (n + 1) q c.if-is_new.clock) (sym w.in_ok-put_last.ensures)
            (merges_take c.args.sites c.args.logs.now c.args.at log n v messages clock c.requires.passed.faultless c.requires.passed.among c.requires.place e k i
            c.is_new.ensures.conditions inv.1 (sym w.if-is_new.true ∙ c.is_new.ensures.new) c.if-is_new.clock
            (w.clock-is ∙ w.count_in.ensures)))
        | else-is_new w ↦
            subst (λ q. Merges c.args.sites c.args.logs.now c.args.at log (n + 1) (map (λ m. m.now) q.items) c.if-is_new.clock) (sym w.merged-is)
            (subst (λ q. Merges c.args.sites c.args.logs.now c.args.at log (n + 1) messages q) (sym w.clock-is)
            (merges_skip c.args.sites c.args.logs.now c.args.at log n v messages clock c.requires.passed.faultless c.requires.passed.among c.requires.place e k i
            c.is_new.ensures.conditions inv.1 (sym w.if-is_new.false ∙ c.is_new.ensures.new)))
      ],
    )

pub returns : goal.returns
returns c =
    let log = c.index-logs-at.result in
    let n = c.loop-shared.shared-index in
    let inv = c.loop-shared.invariant log c.index-logs-at.is in
    let whole = ap length inv.0 in
    merges_end c.args.sites c.args.logs.now c.args.at log n (map (λ m. m.now) c.loop-shared.merged.items) c.loop-shared.clock
    (omega (arith, whole, c.loop-shared-test.false)) inv.1
