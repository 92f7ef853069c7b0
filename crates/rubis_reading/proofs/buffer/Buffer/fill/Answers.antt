use Rattle.rubis_reading.proofs.Common.{rules, ◌≡◌, ◌<◌, ◌≤◌, ◌++◌, ◌∙◌, ◌+◌, ◌-◌, ℕ, List, ap, arith, drop, length, length-append, slice_range}
use Rattle.rubis_reading.proofs.Common.{subst, sym, take, false, true, Consumes, nat_tests, take-append-le}
use Rattle.std.specs.Prelude.{nat_lt}
use Rattle.std.proofs.lemmas.List.{with_items_is}
use Rattle.rubis_engine.proofs.SeamFacts.{each-one, each-so}
use Rattle.rubis_reading.proofs.ChunkFacts.{filled, unfilled, written-length}
use Rattle.rubis_reading.proofs.buffer.Buffer.fill.Goals as goal

pub returns-in-Ok-clause-asked : goal.returns-in-Ok-clause-asked
returns-in-Ok-clause-asked g c =
    let xs : List ℕ = c.deref_mut.result.now in
    let end : ℕ = c.self.inside.end in
    let given : ℕ = c.in-Ok.given in
    let few : given ≤ length c.read.new.buf = search rules in
    let within : end ≤ length xs = search rules in
    let some : 0 < length c.read.new.buf = search rules in
    let was : c.args.self.now ≡ slice_range xs c.self.inside.start end = search rules in
    let none : nat_lt 0 given ≡ false → given ≡ 0 = λ e. grind (arith, nat_tests) in
    let given_some : nat_lt 0 given ≡ true → 0 < given = λ e. grind (arith, nat_tests) in
    let past : List ℕ = drop (length xs - end) (drop end xs) in
    let written : List ℕ = take end xs ++ (c.read.new.buf ++ past) in
    let back = with_items_is c.self.inside.buffer written
    (written-length xs c.read.new.buf end within (search rules)
    ∙ (let ok = c.self.inside.buffer.ok in let len = c.deref_mut.ensures.len in omega arith)) in
    each-so (λ l came. let before = l c.args.reader.now in let after = l c.read.new.self in
    filled before after xs (c.read.new.buf ++ past) c.self.inside.start end given c.args.self.now _ (nat_lt 0 given) c.self.inside.on within was
    (ap (λ ys. slice_range ys c.self.inside.start (end + given)) back)
    (subst (Consumes before after) (sym (take-append-le given c.read.new.buf past few)) came.0)
    (λ e. came.1 e some) none given_some (omega (arith, few, length-append c.read.new.buf past))) c.in-Ok.ensures.bytes

pub returns-in-Ok-clause-put : goal.returns-in-Ok-clause-put
returns-in-Ok-clause-put g c = let (text, filled) = each-one (returns-in-Ok-clause-asked g c) in filled.put

pub returns-in-Err-clause-asked : goal.returns-in-Err-clause-asked
returns-in-Err-clause-asked g c =
    let xs : List ℕ = c.deref_mut.result.now in
    let end : ℕ = c.self.inside.end in
    let within : end ≤ length xs = search rules in
    let was : c.args.self.now ≡ slice_range xs c.self.inside.start end = search rules in
    let past : List ℕ = drop (length xs - end) (drop end xs) in
    let written : List ℕ = take end xs ++ (c.read.new.buf ++ past) in
    let back = with_items_is c.self.inside.buffer written
    (written-length xs c.read.new.buf end within (search rules)
    ∙ (let ok = c.self.inside.buffer.ok in let len = c.deref_mut.ensures.len in omega arith)) in
    each-so (λ l keeps. (
      ap (λ ys. slice_range ys c.self.inside.start end) back
          ∙ unfilled xs (c.read.new.buf ++ past) c.self.inside.start end c.self.inside.on within ∙ sym was,
      keeps,
    )) c.in-Err.ensures.bytes
