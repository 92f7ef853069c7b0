-- How a run goes on by records, and how it ends.
use Rattle.std.proofs.Common.{◌≡◌, ◌∙◌, ◌≤◌, ◌+◌, ◌++◌, ◌∷◌, [], ℕ, List, Option, ap, append-nil, append_assoc, arith, length-append}
use Rattle.std.proofs.Common.{refl, subst, sym}
use Rattle.std.specs.Prelude.{MatchOption, None, Some}
use Rattle.rubis_engine.specs.Accounts.{Keeps, LeadsAlike, LeadsOn}
use Rattle.rubis_engine.specs.Accounts.Ending.{AtEnd}
use Rattle.rubis_engine.specs.declared.service.Course.TheVariants.{Ends, GoesOn}
use Rattle.rubis_serving.specs.Outlets.{IsOutlet, PutsRecord, PutsSome}
use Rattle.rubis_serving.specs.Serving.{At, Closes, Fills, Goes, LeadsTo, Serving, Tears, coming, still}

-- what follows in each case
pub match_so : {A : Type 0} {P P2 : Type 0} {Q Q2 : A → Type 0} (o : Option A) → (P → P2) → ((x : A) → Q x → Q2 x) → MatchOption o P Q
    → MatchOption o P2 Q2
match_so None f g h = f h
match_so (Some x) f g h = g x h

-- all of a text was put
pub all-some : {O : Type 0} (puts : List ℕ → O → O → Type 0) (waited waits : List ℕ) (a b : O) → puts waited a b → waits ≡ [] → PutsSome puts waited waits a b
all-some puts waited waits a b put empty = (waited, put, sym (append-nil waited) ∙ ap (λ t. waited ++ t) (sym empty))

module _ {S O : Type 0} {k : Serving S O} (laws : IsOutlet k.puts k.tears) where
  -- ---- many records

  pub goes-none : (x : At S O) → Goes k [] x x
  goes-none x = record {
    text = [];
    put = laws.none x.outlet;
    told = λ ending more. refl;
    count = omega arith;
    read = λ more. omega arith;
    led = λ more last led. led;
  }

  pub goes-more : {rows rows2 : List (List (List ℕ))} {x y z : At S O} → Goes k rows x y → Goes k rows2 y z → Goes k (rows ++ rows2) x z
  goes-more {rows} {rows2} {x} {y} {z} f g =
      let size = length-append rows rows2 in
      record {
        text = f.text ++ g.text;
        put = laws.more f.text g.text x.outlet y.outlet z.outlet f.put g.put;
        told = λ ending more. ap (coming k x ending) (append_assoc rows rows2 more) ∙ f.told ending (rows2 ++ more)
            ∙ ap (λ t. f.text ++ t) (g.told ending more) ∙ sym (append_assoc f.text g.text (coming k z ending more));
        count = omega (arith, f.count, g.count, size);
        read = λ more.
            let whole = ap (still k x).read (append_assoc rows rows2 more) ∙ f.read (rows2 ++ more) in
            let next = g.read more in
            omega (arith, whole, next, size);
        led = λ more last led. subst (λ r. LeadsTo k x r last) (sym (append_assoc rows rows2 more)) (f.led (rows2 ++ more) last (g.led more last led));
      }

  pub goes-closes : {limit count : ℕ} {rows later : List (List (List ℕ))} {x y : At S O} {last : S} {outlet : O} → Goes k rows x y
      → Closes k limit later y last outlet count → Closes k limit (rows ++ later) x last outlet count
  goes-closes {later = later} {x = x} {y = y} {last = last} {outlet = outlet} f h =
      let read = f.read later in
      record {
        put = subst (λ t. k.puts t x.outlet outlet) (sym (f.told AtEnd later))
            (laws.more f.text (coming k y AtEnd later) x.outlet y.outlet outlet f.put h.put);
        read = omega (arith, read, h.read, f.count);
        led = f.led later last h.led;
        within = h.within;
      }

  pub goes-fills : {limit : ℕ} {rows later : List (List (List ℕ))} {x y z : At S O} → Goes k rows x y → Fills k limit later y z
      → Fills k limit (rows ++ later) x z
  goes-fills {rows = rows} f h = record {
    front = rows ++ h.front;
    next = h.next;
    rest = h.rest;
    parts = ap (λ r. rows ++ r) h.parts ∙ sym (append_assoc rows h.front (h.next ∷ h.rest));
    goes = goes-more f h.goes;
    settled = h.settled;
    full = h.full;
    some = h.some;
  }

  -- the text that comes after what was put is torn
  pub goes-torn : {rows : List (List (List ℕ))} {x y : At S O} (outlet : O) (later : List (List (List ℕ))) → Goes k rows x y
      → k.tears (coming k y AtEnd later) y.outlet outlet → k.tears (coming k x AtEnd (rows ++ later)) x.outlet outlet
  goes-torn {x = x} {y = y} outlet later f torn =
      subst (λ t. k.tears t x.outlet outlet) (sym (f.told AtEnd later))
      (laws.torn_later f.text (coming k y AtEnd later) x.outlet y.outlet outlet f.put torn)

  pub goes-tears : {rows rows2 : List (List (List ℕ))} {x y : At S O} (outlet : O) → Goes k rows x y → Tears k rows2 y outlet
      → Tears k (rows ++ rows2) x outlet
  goes-tears {rows} {rows2} {x} outlet f h = record {
    torn = λ more. subst (λ r. k.tears (coming k x AtEnd r) x.outlet outlet) (sym (append_assoc rows rows2 more))
        (goes-torn outlet (rows2 ++ more) f (h.torn more));
  }

  pub tears-none : (rows : List (List (List ℕ))) (x : At S O) → Tears k rows x x.outlet
  tears-none rows x = record { torn = λ more. laws.torn_none (coming k x AtEnd (rows ++ more)) x.outlet }

  -- some of what waits was put
  pub tears-waiting : (x : At S O) (outlet : O) → k.tears x.sink x.outlet outlet → Tears k [] x outlet
  tears-waiting x outlet torn = record { torn = λ more. laws.torn_longer x.sink ((still k x).text AtEnd more) x.outlet outlet torn }

  -- ---- one record

  -- what is still to be made stays what it was
  pub goes-kept : {x : At S O} (s2 : S) (sink2 : List ℕ) → Keeps (still k x) (k.account s2 (x.answered + 1)) x.sink sink2 → LeadsAlike k.leads x.service s2
      → Goes k [] x (record x { service = s2; sink = sink2 })
  goes-kept {x} s2 sink2 keeps alike = record {
    text = [];
    put = laws.none x.outlet;
    told = λ ending more. (keeps more).0 ending;
    count = omega arith;
    read = λ more. let same = (keeps more).1 in omega (arith, same);
    led = λ more last led. alike (x.answered + 1) more last led;
  }

  pub goes-put : {x : At S O} (sink2 : List ℕ) (outlet : O) → PutsSome k.puts x.sink sink2 x.outlet outlet → Goes k [] x (record x { sink = sink2; outlet = outlet })
  goes-put {x} sink2 outlet (out, put, parts) = record {
    text = out;
    put = put;
    told = λ ending more. ap (λ t. t ++ (still k x).text ending more) parts ∙ append_assoc out sink2 ((still k x).text ending more);
    count = omega arith;
    read = λ more. omega arith;
    led = λ more last led. led;
  }

  -- it was answered, and the run goes on
  pub goes-one : {x : At S O} (s2 : S) (sink2 : List ℕ) (outlet : O) (fields : List (List ℕ))
      → PutsRecord k.puts GoesOn (still k x) (k.account s2 (x.answered + 1 + 1)) x.sink sink2 x.outlet outlet fields
      → LeadsOn GoesOn k.leads (x.answered + 1) fields x.service s2
      → Goes k (fields ∷ []) x (record { service = s2; outlet = outlet; sink = sink2; answered = x.answered + 1 })
  goes-one {x} s2 sink2 outlet fields wrote on = record {
    text = wrote.out;
    put = wrote.put;
    told = λ ending more. (wrote.answers more).0 ending ∙ append_assoc wrote.out sink2 ((k.account s2 (x.answered + 1 + 1)).text ending more);
    count = omega arith;
    read = λ more. let next = (wrote.answers more).1 in omega (arith, next);
    led = on;
  }

  -- it ended the run
  pub closes-one : {x : At S O} (s2 : S) (sink2 : List ℕ) (mid outlet : O) (fields : List (List ℕ))
      → PutsRecord k.puts Ends (still k x) (k.account s2 (x.answered + 1 + 1)) x.sink sink2 x.outlet mid fields
      → LeadsOn Ends k.leads (x.answered + 1) fields x.service s2 → k.puts sink2 mid outlet → (more : List (List (List ℕ)))
      → Closes k (x.answered + 1) (fields ∷ more) x s2 outlet (x.answered + 1)
  closes-one {x} s2 sink2 mid outlet fields wrote on put more =
      let one = (wrote.answers more).1 in
      record {
        put = subst (λ t. k.puts t x.outlet outlet) (sym (wrote.answers more).0) (laws.more wrote.out sink2 x.outlet mid outlet wrote.put put);
        read = omega (arith, one);
        led = on more;
        within = omega arith;
      }

-- ---- more records were to come

pub fills-sooner : {S O : Type 0} {k : Serving S O} {limit : ℕ} {rows : List (List (List ℕ))} {x y : At S O} → Fills k limit rows x y
    → (more : List (List (List ℕ))) → Fills k limit (rows ++ more) x y
fills-sooner h more = record {
  front = h.front;
  next = h.next;
  rest = h.rest ++ more;
  parts = ap (λ r. r ++ more) h.parts ∙ append_assoc h.front (h.next ∷ h.rest) more;
  goes = h.goes;
  settled = h.settled;
  full = h.full;
  some = h.some;
}

pub tears-sooner : {S O : Type 0} {k : Serving S O} (rows : List (List (List ℕ))) {x : At S O} {outlet : O} → Tears k rows x outlet
    → (more : List (List (List ℕ))) → Tears k (rows ++ more) x outlet
tears-sooner {k = k} rows {x} {outlet} h more = record {
  torn = λ later. subst (λ r. k.tears (coming k x AtEnd r) x.outlet outlet) (sym (append_assoc rows more later)) (h.torn (more ++ later));
}

-- a greater limit
pub closes-within : {S O : Type 0} {k : Serving S O} {limit limit2 count : ℕ} {records : List (List (List ℕ))} {x : At S O} {last : S} {outlet : O}
    → count ≤ limit2 → Closes k limit records x last outlet count → Closes k limit2 records x last outlet count
closes-within within h = record { put = h.put; read = h.read; led = h.led; within = within }

-- ---- records that are named otherwise

module _ {S O : Type 0} {k : Serving S O} {rows rows2 : List (List (List ℕ))} {x : At S O} (is : rows ≡ rows2) where
  pub goes-as : {y : At S O} → Goes k rows x y → Goes k rows2 x y
  goes-as {y} h = subst (λ r. Goes k r x y) is h

  pub tears-as : {outlet : O} → Tears k rows x outlet → Tears k rows2 x outlet
  tears-as {outlet} h = subst (λ r. Tears k r x outlet) is h

  pub closes-as : {limit count : ℕ} {last : S} {outlet : O} → Closes k limit rows x last outlet count → Closes k limit rows2 x last outlet count
  closes-as {limit} {count} {last} {outlet} h = subst (λ r. Closes k limit r x last outlet count) is h
