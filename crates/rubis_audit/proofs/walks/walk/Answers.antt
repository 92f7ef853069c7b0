use Rattle.rubis_audit.proofs.Common.{◌≡◌, ◌<◌, ◌∙◌, ap, arith, false, get_or, length, rules, subst, sym, take, true, option_copied, checks, first_of}
use Rattle.rubis_audit.proofs.Common.{IsAmong, union}
use Rattle.rubis_audit.specs.Walks.{messages_of_logs}
use Rattle.rubis_audit.proofs.Walking.{among_at, counts_of, entry_is, few_entries, found_is, no_clash, ready_at, sites_at, walked_end, walked_found}
use Rattle.rubis_audit.proofs.Walking.{walked_nothing, walks_more, walks_none}
use Rattle.rubis_audit.proofs.walks.walk.Goals as goal
use Rattle.rubis_audit.proofs.walks.walk.Goals.{After-fault_of}

pub returns-then-is_nothing : goal.returns-then-is_nothing
returns-then-is_nothing c =
    let nothing = c.is_nothing.ensures c.if-is_nothing.true in
    walked_nothing c.args.seen.now c.args.logs.now c.args.at c.index-logs-at.result c.requires.place c.index-logs-at.is nothing.0 nothing.1 c.requires.walked

pub loop-n-init : goal.loop-n-init
loop-n-init c = record {
  items = c.messages-shared-items.ensures;
  walk =
      walks_none c.args.sites c.args.seen.now c.in_ok-past.past.clock (option_copied c.in_ok-past.past.last_red) c.in_ok-past.past.tables
      (messages_of_logs (take c.args.at c.args.logs.now)) c.index-logs-at.result
      c.requires.walked.known c.requires.walked.sees c.in_ok-past.ensures.0 c.in_ok-past.ensures.1 c.in_ok-past.ensures.2;
}

pub fault_of-requires-clause-sites : goal.fault_of-requires-clause-sites
fault_of-requires-clause-sites c =
    let log = c.index-logs-at.result in
    let v = c.deref-v.result.now in
    sites_at c.args.sites c.args.logs.now c.args.at log c.loop-n.n v c.requires.among c.requires.place c.index-logs-at.is
    (subst (λ xs. c.loop-n.n < length xs) c.loop-n.invariant.items c.loop-n-test.true)
    (entry_is _ log.messages c.loop-n.n c.shared-item.result v c.loop-n.invariant.items c.shared-item.is c.deref-v.ensures)
    ∙ sym (counts_of c.args.sites c.loop-n.seen c.loop-n.past.clock _ c.loop-n.past.tables _ log c.loop-n.n c.loop-n.invariant.walk)

-- where a fault was looked for: the message stands at its place in the log, it belongs to one of the sites, and its fault is what the checks find
within : (c : After-fault_of) → c.loop-n.n < length c.index-logs-at.result.messages
within c = subst (λ xs. c.loop-n.n < length xs) c.loop-n.invariant.items c.loop-n-test.true

entry : (c : After-fault_of) → c.deref-v.result.now ≡ get_or c.index-logs-at.result.messages c.loop-n.n c.deref-v.result.now
entry c = entry_is _ c.index-logs-at.result.messages c.loop-n.n c.shared-item.result c.deref-v.result.now c.loop-n.invariant.items c.shared-item.is
    c.deref-v.ensures

among : (c : After-fault_of) → IsAmong c.args.sites c.deref-v.result.now
among c =
    among_at c.args.sites c.args.logs.now c.args.at c.index-logs-at.result c.loop-n.n c.deref-v.result.now c.requires.among c.requires.place c.index-logs-at.is
    (within c) (entry c)
    c.fault_of.ensures.conditions

found : (c : After-fault_of) →
    first_of (checks (messages_of_logs (take c.args.at c.args.logs.now)) c.index-logs-at.result.site
    (take c.loop-n.n c.index-logs-at.result.messages) c.deref-v.result.now) ≡ c.fault_of.result
found c =
    found_is c.args.sites c.loop-n.seen c.loop-n.past.clock (option_copied c.loop-n.past.last_red) c.loop-n.past.tables _ c.index-logs-at.result c.loop-n.n
    c.deref-v.result.now c.fault_of.result
    c.loop-n.invariant.walk (among c) c.fault_of.ensures.conditions (rw c.site.ensures at c.fault_of.ensures.fault)

pub returns-in-Some : goal.returns-in-Some
returns-in-Some c =
    let p = (goal.at.returns-in-Some c).After-fault_of in
    walked_found c.args.sites c.loop-n.seen c.loop-n.seen c.loop-n.past.clock _ c.loop-n.past.tables c.args.logs.now c.args.at c.index-logs-at.result c.loop-n.n
    c.deref-v.result.now c.in-Some.kind
    c.requires.place c.index-logs-at.is c.loop-n.invariant.walk (within p) (entry p) (found p ∙ c.in-Some.is)

pub overflow_cast-n : goal.overflow_cast-n
overflow_cast-n c =
    let m = subst (λ xs. c.loop-n.n < length xs) c.loop-n.invariant.items c.loop-n-test.true in
    let few = few_entries c.args.sites c.loop-n.seen c.loop-n.past.clock (option_copied c.loop-n.past.last_red) c.loop-n.past.tables
    (messages_of_logs (take c.args.at c.args.logs.now)) c.index-logs-at.result c.loop-n.n m c.loop-n.invariant.walk in
    search rules

pub take-requires-clause-origin : goal.take-requires-clause-origin
take-requires-clause-origin c =
    let p = (goal.at.take-requires-clause-origin c).After-fault_of in
    subst (λ k. c.deref-v.result.now.stamp.id.site < k)
    (sym (counts_of c.args.sites c.loop-n.seen c.loop-n.past.clock _ c.loop-n.past.tables _ c.index-logs-at.result c.loop-n.n c.loop-n.invariant.walk))
    (among p).id.site

pub take-requires-clause-ready : goal.take-requires-clause-ready
take-requires-clause-ready c =
    let p = (goal.at.take-requires-clause-ready c).After-fault_of in
    ready_at c.args.sites c.loop-n.seen c.loop-n.past.clock _ c.loop-n.past.tables _ c.index-logs-at.result c.loop-n.n c.deref-v.result.now
    c.loop-n.invariant.walk (among p) c.fault_of.ensures.conditions
    (found p ∙ c.in_default.is)

pub loop-n-preserved : goal.loop-n-preserved
loop-n-preserved c =
    let p = (goal.at.loop-n-preserved c).After-fault_of in
    let v = c.deref-v.result.now in
    record {
      items = c.loop-n.invariant.items;
      walk =
          walks_more c.args.sites c.loop-n.seen c.note.new.self c.loop-n.past.clock c.take.new.self.clock (option_copied c.loop-n.past.last_red)
          (option_copied c.take.new.self.last_red)
          c.loop-n.past.tables c.take.new.self.tables _ c.index-logs-at.result c.loop-n.n v (within p) (entry p) c.loop-n.invariant.walk
          (among p) c.fault_of.ensures.conditions (found p ∙ c.in_default.is)
          (λ all sees. c.in_ok-note.ensures all sees
          (no_clash c.site.result c.loop-n.past.clock (option_copied c.loop-n.past.last_red) (union c.loop-n.past.tables) all v
          (sym (c.fault_of.ensures.fault all sees) ∙ c.in_default.is))) c.in_ok-take.ensures.clock c.in_ok-take.ensures.last c.in_ok-take.ensures.tables;
    }

pub returns-then-branch : goal.returns-then-branch
returns-then-branch c =
    let log = c.index-logs-at.result in
    let whole = ap length c.loop-n.invariant.items in
    let wrong : c.in_ok-wrong_rows.field-0 ≡ true = c.if-branch.true in
    rw wrong at (walked_end c.args.sites c.loop-n.seen c.loop-n.past.clock _ c.loop-n.past.tables c.args.logs.now c.args.at log c.loop-n.n
    c.in_ok-wrong_rows.field-0
    c.requires.place c.index-logs-at.is c.loop-n.invariant.walk (omega (arith, whole, c.loop-n-test.false)) c.in_ok-wrong_rows.ensures)

pub returns : goal.returns
returns c =
    let log = c.index-logs-at.result in
    let whole = ap length c.loop-n.invariant.items in
    let right : c.in_ok-wrong_rows.field-0 ≡ false = c.if-branch.false in
    rw right at (walked_end c.args.sites c.loop-n.seen c.loop-n.past.clock _ c.loop-n.past.tables c.args.logs.now c.args.at log c.loop-n.n
    c.in_ok-wrong_rows.field-0
    c.requires.place c.index-logs-at.is c.loop-n.invariant.walk (omega (arith, whole, c.loop-n-test.false)) c.in_ok-wrong_rows.ensures)
