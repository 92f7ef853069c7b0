use Rattle.rubis_listing.proofs.Common.{rules, arith, ◌≡◌, ◌≤◌, ◌∙◌, ◌+◌, ◌++◌, ap, sym, None, log_from}
use Rattle.rubis_listing.specs.Parts.{later_rows, between, rows_from, size_of}
use Rattle.rubis_listing.proofs.Making.{countable_none, countable_rest, next_rows, between_none}
use Rattle.rubis_listing.proofs.listing_rows.ListingRows.put_next.Goals as goal

pub invariant_of-self : goal.invariant_of-self
invariant_of-self g c =
    let source = c.self.inside.source in
    let at = c.self.inside.at in
    let upto = at + c.min.result in
    let inv = c.self.invariant.0 in
    let within : upto ≤ size_of source = omega (arith, c.min.ensures, c.len-end.ensures, inv) in
    (within, countable_rest source at upto c.self.inside.later (omega arith) within c.self.invariant.1)

pub invariant_of-self-in_err-self-inside : goal.invariant_of-self-in_err-self-inside
unfolding log_from
invariant_of-self-in_err-self-inside g c =
    (omega arith, countable_none (rows_from c.self.inside.source c.self.inside.at) c.self.inside.later c.self.invariant.1)

pub returns-then-upto-end-clause-next : goal.returns-then-upto-end-clause-next
returns-then-upto-end-clause-next g c =
    let source = c.self.inside.source in
    let at = c.self.inside.at in
    let upto = at + c.min.result in
    let inv = c.self.invariant.0 in
    let within : upto ≤ size_of source = omega (arith, c.min.ensures, c.len-end.ensures, inv) in (
      between source at upto,
      sym c.self.view_is ∙ next_rows source at upto (later_rows c.self.inside.later) (omega arith) within,
      c.in_ok-put_shared.ensures,
    )

pub returns-in_default-clause-next : goal.returns-in_default-clause-next
returns-in_default-clause-next g c =
    let source = c.self.inside.source in
    let at = c.self.inside.at in
    let upto = at + c.min.result in
    let inv = c.self.invariant.0 in
    let within : upto ≤ size_of source = omega (arith, c.min.ensures, c.len-end.ensures, inv) in (
      between source at upto,
      sym c.self.view_is ∙ next_rows source at upto (later_rows c.self.inside.later) (omega arith) within,
      c.in_ok-put_shared.ensures,
    )

pub returns-in_default-clause-last : goal.returns-in_default-clause-last
returns-in_default-clause-last g c ended =
    let source = c.self.inside.source in
    let upto = c.self.inside.at + c.min.result in
    let inv = c.self.invariant.0 in
    let behind : c.len-end.result ≤ upto = c.if-upto-end.false in
    let last : upto ≡ size_of source = omega (arith, behind, c.min.ensures, c.len-end.ensures, inv) in
    let gone : c.self.inside.later ≡ None = search rules in
    ap (λ rows. rows ++ later_rows c.self.inside.later)
    (ap (λ n. between source n (size_of source)) last ∙ between_none source (size_of source)) ∙ ap later_rows gone
