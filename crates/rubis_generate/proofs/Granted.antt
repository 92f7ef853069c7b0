-- What is known of an ask that isn't refused.
use Rattle.std.proofs.Common.{◌≡◌, ℕ, List, [], Bool, true, false, cond, not, refl, sym, subst, ◌∙◌, Option, Some, None}
use Rattle.std.specs.Prelude.{Ok, bytes_eq, find, is_none, is_some}
use Rattle.std.specs.Cmp.Lexicographic.{bytes_decides}
use Rattle.std.specs.Option.{option_map_or}
use Rattle.std.proofs.lemmas.Bool.{or_parts}
use mathlib.Core.Bool.{true≢false}
use Rattle.rubis_schema.specs.declared.row_keys.RowKey.TheVariants as key
use Rattle.rubis_schema.specs.declared.rows.UserRow.{UserRow}
use Rattle.rubis_schema.specs.declared.refusals.Refusal.{Refusal}
use Rattle.rubis_schema.specs.declared.refusals.Refusal.TheVariants.{Full, NoToken, RedBehind, NickTaken, NoUser}
use Rattle.rubis_shadow.specs.Shadows.{IsAsk, InLimits, is_red}
use Rattle.rubis_shadow.specs.declared.shadows.Ask.{Ask}
use Rattle.rubis_shadow.specs.declared.shadows.Ask.TheVariants.{User, Bid, Buy, Close, Restock, Rename}
use Rattle.rubis_shadow.specs.declared.shadows.AskedClose.{AskedClose}
use Rattle.rubis_shadow.specs.declared.shadows.AskedRename.{AskedRename}
use Rattle.rubis_shadow.specs.declared.shadows.Shadow.{Shadow}
use Rattle.rubis_generate.specs.Decision.{closing, decision, is_due, order_of, refused_or, shadow_of, Rows, user_in}
use Rattle.rubis_generate.specs.declared.standing.Standing.{Standing}

no_refusal : (o : Option Refusal) (x y : Shadow) → refused_or o x ≡ Ok y → (o ≡ None) × (x ≡ y)
no_refusal None x y e = (refl, cc)
no_refusal (Some r) x y e = absurd cc

-- no refusal is due, and the shadow is the ask's
pub granted : (t : Rows) (s : Standing) (ask : Ask) (x : Shadow) → decision t s ask ≡ Ok x
    → (find (is_due t s ask) (order_of ask) ≡ None) × (shadow_of t ask ≡ x)
granted t s ask x e = no_refusal _ (shadow_of t ask) x e

past : (b : Bool) (r : Refusal) (o : Option Refusal) → cond b (Some r) o ≡ None → (b ≡ false) × (o ≡ None)
past true r o e = absurd cc
past false r o e = (refl, e)

unturned : (b : Bool) → not b ≡ false → b ≡ true
unturned true e = refl
unturned false e = absurd cc

-- ---- by the ask's order of refusals
room_by : (t : Rows) (s : Standing) (ask : Ask) → find (is_due t s ask) (order_of ask) ≡ None → s.full ≡ false
room_by t s (User n) e = (past s.full Full _ e).0
room_by t s ask e = (past s.full Full _ e).0

-- the first three refusals of a red ask
first_three : (a b c : Bool) (o : Option Refusal) → cond a (Some Full) (cond (not b) (Some NoToken) (cond (not c) (Some RedBehind) o)) ≡ None
    → (b ≡ true) × (c ≡ true)
first_three a b c o e =
    let second = past (not b) NoToken _ (past a Full _ e).1 in
    (unturned b second.0, unturned c (past (not c) RedBehind o second.1).0)

right_by : (t : Rows) (s : Standing) (ask : Ask) → find (is_due t s ask) (order_of ask) ≡ None → is_red (shadow_of t ask) ≡ true
    → (s.holds ≡ true) × (s.current ≡ true)
right_by t s (User n) e r = first_three s.full s.holds s.current _ e
right_by t s (Bid b) e r = first_three s.full s.holds s.current _ e
right_by t s (Buy p) e r = first_three s.full s.holds s.current _ e
right_by t s (Close c) e r = first_three s.full s.holds s.current _ e
right_by t s (Rename c) e r = first_three s.full s.holds s.current _ e
right_by t s ask e r = absurd (true≢false (sym r))

-- the site isn't full where a shadow was decided
pub not_full : (t : Rows) (s : Standing) (ask : Ask) (x : Shadow) → decision t s ask ≡ Ok x → s.full ≡ false
not_full t s ask x e = room_by t s ask (granted t s ask x e).0

-- a red shadow is decided only where the site holds the token and is up to date
pub red_allowed : (t : Rows) (s : Standing) (ask : Ask) (x : Shadow) → decision t s ask ≡ Ok x → is_red x ≡ true
    → (s.holds ≡ true) × (s.current ≡ true)
red_allowed t s ask x e r =
    let w = granted t s ask x e in
    right_by t s ask w.0 (subst (λ (y : Shadow). is_red y ≡ true) (sym w.1) r)

-- ---- limits

-- a rename that isn't refused gives another nickname
unequal : (n : List ℕ) (o : Option UserRow) → is_none o ≡ false → option_map_or (λ (u : UserRow). bytes_eq u.nick n) o false ≡ false
    → ¬ (option_map_or (λ (u : UserRow). u.nick) o [] ≡ n)
unequal n None p q e = true≢false p
unequal n (Some u) p q e = true≢false (sym ((bytes_decides u.nick n).1 e) ∙ q)

renames : (t : Rows) (s : Standing) (r : AskedRename) → find (is_due t s (Rename r)) (order_of (Rename r)) ≡ None
    → ¬ (option_map_or (λ (u : UserRow). u.nick) (user_in t r.user) [] ≡ r.nick)
renames t s r e =
    let behind = past (not s.current) RedBehind _ (past (not s.holds) NoToken _ (past s.full Full _ e).1).1 in
    let user = past _ NoUser _ behind.1 in
    let nick = past _ NickTaken _ user.1 in
    unequal r.nick (user_in t r.user) (or_parts (is_none (user_in t r.user)) false user.0).0 (or_parts (is_some (t (key.Nick r.nick))) _ nick.0).1

-- the shadow of an ask within the limits that isn't refused is within them, if that of a close is
pub shadow_limits : (sites : ℕ) (t : Rows) (s : Standing) (ask : Ask) → find (is_due t s ask) (order_of ask) ≡ None → IsAsk sites ask
    → ((c : AskedClose) → ask ≡ Close c → IsAsk sites (Close c) → InLimits sites (closing t c.item)) → InLimits sites (shadow_of t ask)
shadow_limits sites t s (Close c) e g close = close c refl g
shadow_limits sites t s (Restock r) e g close = (g.0, g.2)
shadow_limits sites t s (Rename r) e g close = (g, renames t s r e)
shadow_limits sites t s ask e g close = g
