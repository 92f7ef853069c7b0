-- A message is what is kept of it, and one that counts more sites meets the conditions of a message.
use Rattle.std.proofs.Common.{◌≡◌, sym, ap, subst, ℕ, ◌+◌, ◌-◌, ◌≤◌, Option, Some, None, refl, ◌∙◌, arith, Bool, true, false, cond, Result, Ok, Err}
use Rattle.rubis_message.specs.Message.{Message, IsMessage, message_of, sites_of, widened}
use Rattle.std.specs.Prelude.{IfSome, nat_le, replicate}
use Rattle.std.proofs.lemmas.Bool.{and_parts, leb-true}
use Rattle.std.proofs.lemmas.List.{get_or_append_left, length-append, length-replicate}
use Rattle.std.proofs.lemmas.List.Elements.{All-append, All-replicate}
use Rattle.rubis_schema.specs.Ids.{IsId}
use Rattle.rubis_schema.specs.declared.ids.Id.{Id}
use Rattle.rubis_schema.specs.declared.limits.TheConstants.{COUNT_MAX, COUNTED_MAX}
use Rattle.rubis_shadow.specs.Shadows.{InLimits}
use Rattle.rubis_shadow.specs.declared.shadows.Shadow.{Shadow}
use Rattle.rubis_shadow.specs.declared.shadows.Shadow.TheVariants.{User, Item, Bid, Buy, Close, Comment}
use Rattle.rubis_clock.specs.Clocks as stamps
use Rattle.rubis_clock.specs.declared.stamps.Stamp.{Stamp}

pub message_is : (m : Message) → IsMessage m → message_of m.stamp.red m.stamp.deps m.stamp.id.site m.shadow ≡ m
message_is m h = ap (λ n. record
    { stamp = record { id = record { site = m.stamp.id.site; seq = n }; red = m.stamp.red; deps = m.stamp.deps }; shadow = m.shadow }) (sym h.own)

pub parts_meet : (m : Message) → IsMessage m → IsMessage (message_of m.stamp.red m.stamp.deps m.stamp.id.site m.shadow)
parts_meet m h = subst IsMessage (sym (message_is m h)) h

-- ---- a message that counts more sites meets the conditions of a message

pub sites_widened : (sites : ℕ) (m : Message) → sites_of m ≤ sites → sites_of (widened sites m) ≡ sites
sites_widened sites m l =
    let a = length-append m.stamp.deps (replicate (sites - sites_of m) 0) in
    let b = length-replicate {A = ℕ} (sites - sites_of m) 0 in
    omega (arith, a, b, l)

more : (few sites : ℕ) (i : Id) → few ≤ sites → IsId few i → IsId sites i
more few sites i l h = record { site = (let s = h.site in omega (arith, s, l)); positive = h.positive; small = h.small }

more_some : (few sites : ℕ) (i : Option Id) → few ≤ sites → IfSome i (IsId few) → IfSome i (IsId sites)
more_some few sites None l h = h
more_some few sites (Some i) l h = more few sites i l h

-- by kind; the others have one id, and what doesn't hang on the sites
more_limits : (few sites : ℕ) (x : Shadow) → few ≤ sites → InLimits few x → InLimits sites x
more_limits few sites (User n) l h = h
more_limits few sites (Item n) l h = record { seller = more few sites n.seller l h.seller; cat = h.cat; stock = h.stock; start = h.start; price = h.price }
more_limits few sites (Bid b) l h = record { item = more few sites b.item l h.item; bidder = more few sites b.bidder l h.bidder; amount = h.amount }
more_limits few sites (Buy p) l h = record { item = more few sites p.item l h.item; buyer = more few sites p.buyer l h.buyer; quantity = h.quantity }
more_limits few sites (Close c) l h = (more few sites c.item l h.0, h.1, more_some few sites c.winner l h.2)
more_limits few sites (Comment c) l h =
    record { item = more few sites c.item l h.item; from = more few sites c.from l h.from; to = more few sites c.to l h.to; rating = h.rating }
more_limits few sites x l h = (more few sites _ l h.0, h.1)

pub widened_is : (sites : ℕ) (m : Message) → IsMessage m → sites_of m ≤ sites → sites ≤ COUNTED_MAX → IsMessage (widened sites m)
widened_is sites m h l few = record {
  sites = subst (λ n. n ≤ COUNTED_MAX) (sym long) few;
  id = subst (λ n. IsId n m.stamp.id) (sym long) (more (sites_of m) sites m.stamp.id l h.id);
  own = h.own ∙ ap (λ n. n + 1) (sym (get_or_append_left m.stamp.deps (replicate (sites - sites_of m) 0) 0 m.stamp.id.site h.id.site));
  counts = All-append (λ n. n ≤ COUNT_MAX) m.stamp.deps (replicate (sites - sites_of m) 0) h.counts
      (All-replicate (λ n. n ≤ COUNT_MAX) (sites - sites_of m) 0 (omega arith));
  red = h.red;
  colour = h.colour;
  shadow = subst (λ n. InLimits n m.shadow) (sym long) (more_limits (sites_of m) sites m.shadow l h.shadow);
}
  where
    long : sites_of (widened sites m) ≡ sites
    long = sites_widened sites m l

was_ok : (b : Bool) (x y s : Stamp) → cond {A = Result Stamp Stamp} b (Ok x) (Err s) ≡ Ok y → (b ≡ true) × (x ≡ y)
was_ok true x y s e = (refl, cc)
was_ok false x y s e = absurd cc

-- what the widening of its stamp gives
pub widened_meets : (sites : ℕ) (m : Message) (y : Stamp) → IsMessage m → stamps.widening_stamp sites m.stamp ≡ Ok y →
    IsMessage (record { stamp = y; shadow = m.shadow })
widened_meets sites m y h e =
    let w = was_ok (stamps.widens sites m.stamp) (stamps.widened_counts sites m.stamp) y m.stamp e in
    let t = and_parts (nat_le (sites_of m) sites) (nat_le sites COUNTED_MAX) w.0 in
    subst (λ (s : Stamp). IsMessage (record { stamp = s; shadow = m.shadow })) w.1
    (widened_is sites m h (leb-true (sites_of m) sites t.0) (leb-true sites COUNTED_MAX t.1))
