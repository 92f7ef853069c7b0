use Rattle.rubis_reading.proofs.Common.{◌≡◌, ◌∙◌, ◌≤◌, ◌<◌, ◌+◌, ap, arith, drop, get_or, length, length-drop, subst, sym, take, Some, length-take-le}
use Rattle.rubis_engine.proofs.RunFacts.{if_none}
use Rattle.csv.specs.declared.parser.State.TheVariants as st
use Rattle.rubis_reading.specs.Streams.{state_of_csv, EndsFrom, HasNoQuote, IsLike, NoEndAfter, stands}
use Rattle.rubis_reading.proofs.EndFacts.{none-between, none-later}
use Rattle.rubis_reading.proofs.QuoteFacts.{after-quote, first-none, first-some, front-ends, rest-ends}
use Rattle.rubis_reading.proofs.LookFacts.{looked-rest}
use Rattle.rubis_reading.proofs.cuts.look_on.Goals.{then-line-gt0-2, else-line-gt0-2}
use Rattle.rubis_reading.proofs.cuts.look_on.Goals as goal

pub quotes-init : goal.quotes-init
quotes-init c = record {
  like = c.requires.like;
  within = c.requires.within;
  upto = c.requires.upto;
  found = c.requires.found;
  none = c.requires.none;
}

pub last_line-line-requires : goal.last_line-line-requires
last_line-line-requires c = if_none c.memchr.result (first-none c.memchr.result c.split_at.result.1.now c.memchr.ensures) c.in_default.is

pub last_line-line-requires-in-quotes : goal.last_line-line-requires-in-quotes
last_line-line-requires-in-quotes c = subst HasNoQuote (sym c.split_at-in-quotes.ensures.front)
    (first-some (Some c.in-Some.quote) c.split_at.result.1.now c.in-Some.ensures).1

pub over-requires : goal.over-requires
over-requires c = if_none c.memchr.result (first-none c.memchr.result c.split_at.result.1.now c.memchr.ensures) c.in_default.is

pub over-requires-in-quotes : goal.over-requires-in-quotes
over-requires-in-quotes c = subst HasNoQuote (sym c.split_at-in-quotes.ensures.front) (first-some (Some c.in-Some.quote) c.split_at.result.1.now c.in-Some.ensures).1

pub quotes-preserved : goal.quotes-preserved
quotes-preserved c =
    let text = c.args.text.now in
    let place = c.quotes.place in
    let s = state_of_csv c.quotes.at in
    let quote = c.in-Some.quote in
    let rest = c.split_at.result.1.now in
    let back : rest ≡ drop place text = c.split_at.ensures.back in
    let found = first-some (Some quote) rest c.in-Some.ensures in
    let run : c.split_at-in-quotes.result.0.now ≡ take quote (drop place text) = c.split_at-in-quotes.ensures.front ∙ ap (take quote) back in
    let lt : quote < length (drop place text) = subst (λ r. quote < length r) back found.0 in
    let is : get_or (drop place text) quote 0 ≡ 34 = subst (λ r. get_or r quote 0 ≡ 34) back found.2 in
    let over = subst (λ r. IsLike (state_of_csv c.over-in-quotes.result) (stands s r)) run c.over-in-quotes.ensures in
    record {
      like = after-quote s (state_of_csv c.over-in-quotes.result) (state_of_csv c.after-at.result) text place quote c.quotes.invariant.like lt is over c.after-at.ensures;
      within = omega (arith, lt, length-drop place text, c.quotes.invariant.within);
      upto = elim c.if-line-gt0-2.branch [
        | then-line-gt0-2 w ↦ subst (λ e. e ≤ place + (quote + 1)) (sym w.end-is) (omega (
          arith,
          c.last_line-line-in-quotes.ensures.within,
          ap length run,
          length-take-le quote (drop place text) (omega (arith, lt)),
        ))
        | else-line-gt0-2 w ↦ subst (λ e. e ≤ place + (quote + 1)) (sym w.end-is) (omega (arith, c.quotes.invariant.upto))
      ];
      found = λ some.
          elim c.if-line-gt0-2.branch [
            | then-line-gt0-2 w ↦ subst (λ e. EndsFrom st.StartRecord text e) (sym w.end-is) (
                let line = c.last_line-line-in-quotes.result in
                rest-ends s text place line c.quotes.invariant.within c.quotes.invariant.like
                (front-ends s quote line (drop place text) (subst (λ r. EndsFrom s r line) run (c.last_line-line-in-quotes.ensures.ends w.if-line-gt0-2.true))))
            | else-line-gt0-2 w ↦ subst (λ e. EndsFrom st.StartRecord text e) (sym w.end-is) (c.quotes.invariant.found (subst (λ e. 0 < e) w.end-is some))
          ];
      none = λ k later upto h.
          let line = c.last_line-line-in-quotes.result in
          let last = subst (λ r. NoEndAfter s r line) run c.last_line-line-in-quotes.ensures.last in
          elim c.if-line-gt0-2.branch [
            | then-line-gt0-2 w ↦
                none-between s text place quote line (place + line) c.quotes.invariant.within c.quotes.invariant.like lt is last
                (λ j after within e. absurd (omega (arith, after, within))) (λ j after past. omega (arith, after, past)) k (subst (λ e. e < k) w.end-is later)
                (omega (arith, upto)) h
            | else-line-gt0-2 w ↦
                none-between s text place quote line c.quotes.end c.quotes.invariant.within c.quotes.invariant.like lt is last
                c.quotes.invariant.none (λ j after past. omega (arith, w.if-line-gt0-2.false, past)) k (subst (λ e. e < k) w.end-is later)
                (omega (arith, upto)) h
          ];
    }

pub returns-then-line-gt0-clause-all : goal.returns-then-line-gt0-clause-all
returns-then-line-gt0-clause-all c =
    let line = c.last_line-line.result in
    let place = c.quotes.place in
    none-later (state_of_csv c.quotes.at) c.args.text.now place line (place + line) c.quotes.invariant.within c.quotes.invariant.like
    (subst (λ r. NoEndAfter (state_of_csv c.quotes.at) r line) c.split_at.ensures.back c.last_line-line.ensures.last)
    (λ j after within e. absurd (omega (arith, after, within))) (λ j after past. omega (arith, after, past))

pub returns-else-line-gt0-clause-all : goal.returns-else-line-gt0-clause-all
returns-else-line-gt0-clause-all c =
    let line = c.last_line-line.result in
    none-later (state_of_csv c.quotes.at) c.args.text.now c.quotes.place line c.quotes.end c.quotes.invariant.within c.quotes.invariant.like
    (subst (λ r. NoEndAfter (state_of_csv c.quotes.at) r line) c.split_at.ensures.back c.last_line-line.ensures.last)
    c.quotes.invariant.none (λ j after past. omega (arith, c.if-line-gt0.false, past))

pub returns-then-line-gt0-clause-looked : goal.returns-then-line-gt0-clause-looked
returns-then-line-gt0-clause-looked c =
    let text = c.args.text.now in
    let line = c.last_line-line.result in
    let place = c.quotes.place in
    let s = state_of_csv c.quotes.at in
    let size = ap length c.split_at.ensures.back ∙ length-drop place text in
    record {
      within = omega arith;
      upto = omega (arith, c.last_line-line.ensures.within, size, c.quotes.invariant.within);
      like = looked-rest s (state_of_csv c.over.result) text place c.quotes.invariant.like
          (subst (λ r. IsLike (state_of_csv c.over.result) (stands s r)) c.split_at.ensures.back c.over.ensures);
      found = λ some. rest-ends s text place line c.quotes.invariant.within c.quotes.invariant.like
          (subst (λ r. EndsFrom s r line) c.split_at.ensures.back (c.last_line-line.ensures.ends c.if-line-gt0.true));
      none = λ k lt upto. none-later s text place line (place + line) c.quotes.invariant.within c.quotes.invariant.like
          (subst (λ r. NoEndAfter s r line) c.split_at.ensures.back c.last_line-line.ensures.last)
          (λ j after within e. absurd (omega (arith, after, within))) (λ j after past. omega (arith, after, past)) k lt;
    }

pub returns-else-line-gt0-clause-looked : goal.returns-else-line-gt0-clause-looked
returns-else-line-gt0-clause-looked c =
    let text = c.args.text.now in
    let line = c.last_line-line.result in
    let place = c.quotes.place in
    let s = state_of_csv c.quotes.at in
    record {
      within = omega arith;
      upto = omega (arith, c.quotes.invariant.upto, c.quotes.invariant.within);
      like = looked-rest s (state_of_csv c.over.result) text place c.quotes.invariant.like
          (subst (λ r. IsLike (state_of_csv c.over.result) (stands s r)) c.split_at.ensures.back c.over.ensures);
      found = c.quotes.invariant.found;
      none = λ k lt upto. none-later s text place line c.quotes.end c.quotes.invariant.within c.quotes.invariant.like
          (subst (λ r. NoEndAfter s r line) c.split_at.ensures.back c.last_line-line.ensures.last)
          c.quotes.invariant.none (λ j after past. omega (arith, c.if-line-gt0.false, past)) k lt;
    }
