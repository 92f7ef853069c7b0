-- What a site's records make it send and take in, and the names that it gives.
use Rattle.std.proofs.Common.{◌≡◌, ◌∙◌, ◌≢◌, ◌⊎◌, inl, inr, ⊎_elim, ◌≤◌, ◌<◌, ◌+◌, ◌-◌, ◌++◌, ◌∷◌, [], ℕ, Bool, true, false, cond, eqb, List, length, refl, sym}
use Rattle.std.proofs.Common.{ap, subst, arith, Option, Some, None, append-nil, append_assoc}
use Rattle.std.specs.Prelude.{Result, Ok, Err, ◌==◌, ◌&&◌, ◌||◌, not, nat_lt, nat_le}
use Rattle.std.proofs.lemmas.Bool.{cond_both, eqb-true, ltb-false, leb-false, not-false}
use Rattle.rubis_schema.specs.declared.refusals.Refusal.{Refusal}
use Rattle.rubis_schema.specs.declared.refusals.Refusal.TheVariants.{BadTarget, Full, LastTurn, NotForMe, NotOurs}
use Rattle.rubis_shadow.specs.Shadows.{is_red}
use Rattle.rubis_shadow.specs.declared.shadows.Shadow.{Shadow}
use Rattle.rubis_message.specs.Message.{Message}
use Rattle.rubis_message.specs.declared.answers.Arrival.TheVariants as arrival
use Rattle.rubis_message.specs.declared.answers.Arrival.{Arrival}
use Rattle.rubis_message.specs.declared.answers.Taken.{Taken as ModelTaken}
use Rattle.rubis_message.specs.declared.answers.Taken.TheVariants as taken_as
use Rattle.rubis_message.specs.declared.requests.Request.TheVariants as request
use Rattle.rubis_message.specs.declared.tokens.Packet.TheVariants as packet
use Rattle.rubis_message.specs.declared.tokens.Token.{Token}
use Rattle.rubis_model.specs.Processes.{site_after}
use Rattle.rubis_message.specs.Inputs.{input_of}
use Rattle.rubis_message.specs.declared.inputs.Input.{Input}
use Rattle.rubis_model.specs.Site.{input_step, Has, counted, settle, Place, Replica, after_came, after_made, arrival_of, arrived, generating, is_full}
use Rattle.rubis_model.specs.Site.{is_repeat, issued_after, made, not_ours, opening_at, passing, rows_at, standing_of, token_for, took}
use Rattle.rubis_message.specs.declared.inputs.Input.TheVariants.{Asked, Came, Neither}
use Rattle.rubis_generate.specs.Decision.{decision}
use Rattle.rubis_model.proofs.Settling.{push_cases, counted_no, counted_yes, counted_push, settle_keeps}
use Rattle.rubis_carrier.specs.declared.values.ShopPacket.{ShopPacket}
use Rattle.rubis_carrier.specs.Shops.{HoldsToken, highest, taken_turn, passed_turn as passed_on}
use Rattle.rubis_carrier.specs.Sites.{SitesGiveTheseNames, came_by, known_as, packets_by, packets_of, passed_by, sent_for_ask, took_by}
use Rattle.rubis_carrier.proofs.PacketFacts.{highest_next, highest_other, highest_pass, passed_message, passed_next, passed_other, taken_message, taken_next}
use Rattle.rubis_carrier.proofs.PacketFacts.{taken_other, eqb_other, eqb_same}

-- ---- what a site's state has of its packets

-- no own message that the site hasn't made waits
abbrev WaitsFor : ℕ → ℕ → List Message → Type 0
WaitsFor i most waiting = (x : Message) → Has x waiting → x.stamp.id.site ≡ i → x.stamp.id.seq ≤ most

-- the greatest number is the count of the site's own messages, and the greatest turn the last that it took; it has passed that on, or
-- holds it
record IsHistory (p : Place) (s : Replica) (kept : List ShopPacket) : Type 0 where
  number : highest p.site kept ≡ counted p.site s.log
  waits : WaitsFor p.site (counted p.site s.log) s.waiting
  turn : taken_turn p.site kept ≡ s.last
  past : passed_on p.site kept ≤ s.last + 1
  holds : (issued : ℕ) → s.held ≡ Some issued → (passed_on p.site kept ≤ s.last) × ((p.site ≡ 0) ⊎ (0 < s.last))

-- settling releases no message of the site itself
settled_counts : {i most : ℕ} (n : ℕ) (log waiting : List Message) → counted i log ≡ most → WaitsFor i most waiting
    → (counted i (settle n log waiting).0 ≡ most) × WaitsFor i most (settle n log waiting).1
settled_counts {i} {most} n log waiting c w =
    settle_keeps (λ l v. (counted i l ≡ most) × WaitsFor i most v) (λ l v x t k.
    let away : x.0.stamp.id.site ≡ i → ⊥ =
    λ own.
    let next : x.0.stamp.id.seq ≡ counted i l + 1 = subst (λ j. x.0.stamp.id.seq ≡ counted j l + 1) own t.0.next in
    omega (arith, k.1 x.0 t.1 own, next, k.0) in
    (counted_push i l x.0 ∙ counted_no i x.0 l away ∙ k.0, λ y h. k.1 y (t.2 y h))) n log waiting (c, w)

-- nothing more is kept
same_packets : {p : Place} {s : Replica} {kept : List ShopPacket} → IsHistory p s kept → IsHistory p s (kept ++ [])
same_packets {p} {s} {kept} h = subst (IsHistory p s) (sym (append-nil kept)) h

-- ---- asks

held_still : (x : Shadow) (held : Option ℕ) {issued : ℕ} → issued_after x held ≡ Some issued → (n : ℕ) × (held ≡ Some n)
held_still x None {issued} e = by_colour (is_red x) e
  where
    by_colour : (b : Bool) → cond b None None ≡ Some issued → (n : ℕ) × (None ≡ Some n)
    by_colour true f = absurd (cc f)
    by_colour false f = absurd (cc f)
held_still x (Some n) e = (n, refl)

after_asked : (ask : Message → ℕ) {p : Place} {s : Replica} {kept : List ShopPacket} → IsHistory p s kept → (r : Result Shadow Refusal)
    → IsHistory p (generating p s r).0 (kept ++ sent_for_ask ask (generating p s r).1)
after_asked ask q (Err r) = same_packets q
after_asked ask {p} {s} {kept} q (Ok x) =
    let i = p.site in
    let m = made p s x in
    let more : counted i (s.log ++ m ∷ []) ≡ counted i s.log + 1 = counted_push i s.log m ∙ counted_yes i m s.log refl in
    let done = settled_counts (length s.waiting) (s.log ++ m ∷ []) s.waiting more (λ y h own. omega (arith, q.waits y h own)) in
    let number : highest i (kept ++ known_as ask m ∷ []) ≡ counted i s.log + 1 =
    highest_next i (counted i s.log + 1) (ask m) kept (omega (arith, q.number)) in
    record {
      number = number ∙ sym done.0;
      waits = subst (λ n. WaitsFor i n (after_made p s x).waiting) (sym done.0) done.1;
      turn = taken_message i i (counted i s.log + 1) (ask m) kept ∙ q.turn;
      past = omega (arith, passed_message i i (counted i s.log + 1) (ask m) kept, q.past);
      holds = λ issued e.
          let was = held_still x s.held e in
          let held = q.holds was.0 was.1 in
          (omega (arith, passed_message i i (counted i s.log + 1) (ask m) kept, held.0), held.1);
    }

-- ---- messages that come

-- a message of another site is kept, or one of this site isn't
came_more : (ask : Message → ℕ) {p : Place} {s : Replica} (m : Message) {kept : List ShopPacket} → IsHistory p s kept
    → IsHistory p s (kept ++ cond (m.stamp.id.site == p.site) [] (known_as ask m ∷ []))
came_more ask {p} {s} m {kept} q = cond_both (m.stamp.id.site == p.site) [] (known_as ask m ∷ []) (λ more. IsHistory p s (kept ++ more)) (λ e. same_packets q)
    (λ e. record {
      number = highest_other p.site m.stamp.id.site m.stamp.id.seq (ask m) kept e ∙ q.number;
      waits = q.waits;
      turn = taken_message p.site m.stamp.id.site m.stamp.id.seq (ask m) kept ∙ q.turn;
      past = omega (arith, passed_message p.site m.stamp.id.site m.stamp.id.seq (ask m) kept, q.past);
      holds = λ issued h.
          let was = q.holds issued h in
          (omega (arith, passed_message p.site m.stamp.id.site m.stamp.id.seq (ask m) kept, was.0), was.1);
    })

-- the message waits, and what is ready is released
with_waiting : {p : Place} {s : Replica} (m : Message) {kept : List ShopPacket} → IsHistory p s kept → not_ours p s m ≡ false
    → IsHistory p (after_came s m) kept
with_waiting {p} {s} m q ours =
    let i = p.site in
    let done = settled_counts (length (s.waiting ++ m ∷ [])) s.log (s.waiting ++ m ∷ []) refl
    (λ y h own. ⊎_elim (λ old. q.waits y old own) (λ e. subst (λ (z : Message). z.stamp.id.seq ≤ counted i s.log) (sym e)
    (not_greater (subst (λ (z : Message). z.stamp.id.site ≡ i) e own))) (push_cases y m s.waiting h)) in
    record {
      number = q.number ∙ sym done.0;
      waits = subst (λ n. WaitsFor i n (after_came s m).waiting) (sym done.0) done.1;
      turn = q.turn;
      past = q.past;
      holds = q.holds;
    }
  where
    both : (a b : Bool) → (a && b) ≡ false → a ≡ true → b ≡ false
    both true b e h = e
    both false b e h = absurd (cc h)

    not_greater : m.stamp.id.site ≡ p.site → m.stamp.id.seq ≤ counted p.site s.log
    not_greater own =
        let here : (m.stamp.id.site == p.site) ≡ true = subst (λ j. (j == p.site) ≡ true) (sym own) (eqb_same p.site) in
        ltb-false (counted p.site s.log) m.stamp.id.seq
        (both (m.stamp.id.site == p.site) (nat_lt (counted p.site s.log) m.stamp.id.seq) ours here)

after_message : (ask : Message → ℕ) {p : Place} {s : Replica} {kept : List ShopPacket} → IsHistory p s kept → (m : Message)
    → IsHistory p (arrived p s m).0 (kept ++ came_by ask p m (arrived p s m).1)
after_message ask {p} {s} {kept} q m =
    cond_both {A = Replica × Result Arrival Refusal} (not_ours p s m) (s, Err NotOurs)
    (cond (is_repeat s m) (s, Ok arrival.Repeat)
    (cond (is_full p.keep s) (s, Err Full) (after_came s m, Ok (arrival_of (length (after_came s m).log - length s.log)))))
    (λ x. IsHistory p x.0 (kept ++ came_by ask p m x.1)) (λ e. same_packets q)
    (λ ours. cond_both {A = Replica × Result Arrival Refusal} (is_repeat s m) (s, Ok arrival.Repeat)
    (cond (is_full p.keep s) (s, Err Full) (after_came s m, Ok (arrival_of (length (after_came s m).log - length s.log))))
    (λ x. IsHistory p x.0 (kept ++ came_by ask p m x.1)) (λ e. came_more ask m q)
    (λ e. cond_both {A = Replica × Result Arrival Refusal} (is_full p.keep s) (s, Err Full)
    (after_came s m, Ok (arrival_of (length (after_came s m).log - length s.log)))
    (λ x. IsHistory p x.0 (kept ++ came_by ask p m x.1)) (λ f. same_packets q) (λ f. came_more ask m (with_waiting m q ours))))

-- ---- the token

after_token : (from : Token → ℕ) {p : Place} → ((t : Token) → from t ≢ p.site) → (s : Replica) (kept : List ShopPacket) → IsHistory p s kept → (t : Token)
    → IsHistory p (took p s t).0 (kept ++ took_by from t (took p s t).1)
after_token from {p} away s kept q t =
    cond_both {A = Replica × Result ModelTaken Refusal} (not (t.to == p.site)) (s, Err NotForMe)
    (cond (nat_le t.turn s.last) (s, Ok taken_as.Repeat) (record s { held = Some t.issued; last = t.turn }, Ok taken_as.Holding))
    (λ x. IsHistory p x.0 (kept ++ took_by from t x.1)) (λ e. same_packets q)
    (λ mine. cond_both {A = Replica × Result ModelTaken Refusal} (nat_le t.turn s.last) (s, Ok taken_as.Repeat)
    (record s { held = Some t.issued; last = t.turn }, Ok taken_as.Holding)
    (λ x. IsHistory p x.0 (kept ++ took_by from t x.1)) (λ e. same_packets q) (λ new.
    let later = leb-false t.turn s.last new in
    let here : eqb t.to p.site ≡ true = not-false (t.to == p.site) mine in
    let past = passed_other p.site (from t) t.turn t.to 0 kept (eqb_other (from t) p.site (away t)) in
    record {
      number = highest_pass p.site (from t) t.turn t.to 0 kept ∙ q.number;
      waits = q.waits;
      turn = taken_next p.site (from t) t.turn t.to 0 kept here (omega (arith, q.turn, later));
      past = omega (arith, past, q.past, later);
      holds = λ issued h. (omega (arith, past, q.past, later), inr (omega (arith, later)));
    }))

-- neither of two tests
not_either : (a b : Bool) → (a || b) ≡ false → b ≡ false
not_either true b e = absurd (cc e)
not_either false b e = e

after_pass : {p : Place} {s : Replica} {kept : List ShopPacket} → IsHistory p s kept → (to : ℕ) (held : Option ℕ) → s.held ≡ held
    → IsHistory p (passing p s to held).0 (kept ++ passed_by p s (passing p s to held).1)
after_pass q to None e = same_packets q
after_pass {p} {s} {kept} q to (Some issued) e =
    cond_both {A = Replica × Result Token Refusal} (nat_le p.sites to || (to == p.site)) (s, Err BadTarget)
    (cond (nat_le 1000000000 s.last) (s, Err LastTurn) (record s { held = None }, Ok (token_for s to issued)))
    (λ x. IsHistory p x.0 (kept ++ passed_by p s x.1)) (λ f. same_packets q)
    (λ other. cond_both {A = Replica × Result Token Refusal} (nat_le 1000000000 s.last) (s, Err LastTurn) (record s { held = None }, Ok (token_for s to issued))
    (λ x. IsHistory p x.0 (kept ++ passed_by p s x.1)) (λ f. same_packets q) (λ f.
    let i = p.site in
    let a = counted i s.log in
    let held = q.holds issued e in
    let past = passed_next i i (s.last + 1) to a kept (eqb_same i) (omega (arith, held.0)) in
    record {
      number = highest_pass i i (s.last + 1) to a kept ∙ q.number;
      waits = q.waits;
      turn = taken_other i i (s.last + 1) to a kept (not_either (nat_le p.sites to) (to == i) other) ∙ q.turn;
      past = omega (arith, past);
      holds = λ n h. absurd (cc h);
    }))

-- ---- all records

module _ (ask : Message → ℕ) (from : Token → ℕ) (p : Place) (away : (t : Token) → from t ≢ p.site) where
  after_input : (s : Replica) (n : ℕ) (kept : List ShopPacket) → IsHistory p s kept → (input : Input)
      → IsHistory p (input_step p s n input).0 (kept ++ packets_by ask from p s input)
  after_input s n kept q (Asked (request.Ask a)) = after_asked ask q (decision (rows_at s.log) (standing_of p.keep s) a)
  after_input s n kept q (Asked (request.Pass to)) = after_pass q to s.held refl
  after_input s n kept q (Asked (request.List l)) = same_packets q
  after_input s n kept q (Came (packet.Msg m)) = after_message ask q m
  after_input s n kept q (Came (packet.Token t)) = after_token from away s kept q t
  after_input s n kept q Neither = same_packets q

  after_records : (records : List (List (List ℕ))) (s : Replica) (n : ℕ) (kept : List ShopPacket) → IsHistory p s kept
      → IsHistory p (site_after p s n records) (kept ++ packets_of ask from p s n records)
  after_records [] s n kept q = same_packets q
  after_records (fields ∷ rest) s n kept q =
      let input = input_of p.sites fields in
      subst (IsHistory p (site_after p (input_step p s n input).0 (n + 1) rest)) (append_assoc kept (packets_by ask from p s input)
      (packets_of ask from p (input_step p s n input).0 (n + 1) rest))
      (after_records rest (input_step p s n input).0 (n + 1) (kept ++ packets_by ask from p s input) (after_input s n kept q input))

-- a site that has read nothing
at_first : (p : Place) → IsHistory p (opening_at p.site) []
at_first p = record {
  number = refl;
  waits = λ x h own. absurd h;
  turn = refl;
  past = omega arith;
  holds = λ issued e. (omega arith, inl (first_holds (p.site == 0) e (λ t. eqb-true p.site 0 t)));
}
  where
    first_holds : {issued : ℕ} → (b : Bool) → cond b (Some 0) None ≡ Some issued → (b ≡ true → p.site ≡ 0) → p.site ≡ 0
    first_holds true e f = f refl
    first_holds false e f = absurd (cc e)

-- ---- what it gives next

gives_message : {p : Place} {s : Replica} {kept : List ShopPacket} → IsHistory p s kept → (r : Result Shadow Refusal) (m : Message)
    → (generating p s r).1 ≡ Ok m → (m.stamp.id.site ≡ p.site) × (m.stamp.id.seq ≡ highest p.site kept + 1)
gives_message q (Err r) m e = absurd (cc e)
gives_message {p} {s} q (Ok x) m e =
    let is : made p s x ≡ m = cc e in
    (ap (λ (y : Message). y.stamp.id.site) (sym is), ap (λ (y : Message). y.stamp.id.seq) (sym is) ∙ ap (λ n. n + 1) (sym q.number))

true_not_false : true ≡ false → ⊥
true_not_false e = cc e

gives_pass : {p : Place} {s : Replica} {kept : List ShopPacket} → IsHistory p s kept → (to : ℕ) (t : Token) (held : Option ℕ) → s.held ≡ held
    → (passing p s to held).1 ≡ Ok t → HoldsToken p.site kept × (t.turn ≡ taken_turn p.site kept + 1) × (to ≢ p.site)
gives_pass q to t None e f = absurd (cc f)
gives_pass {p} {s} {kept} q to t (Some issued) e was =
    let claim = HoldsToken p.site kept × (t.turn ≡ taken_turn p.site kept + 1) × (to ≢ p.site) in
    (cond_both {A = Replica × Result Token Refusal} (nat_le p.sites to || (to == p.site)) (s, Err BadTarget)
    (cond (nat_le 1000000000 s.last) (s, Err LastTurn) (record s { held = None }, Ok (token_for s to issued))) (λ x. x.1 ≡ Ok t → claim) (λ b f. absurd (cc f))
    (λ other. cond_both {A = Replica × Result Token Refusal} (nat_le 1000000000 s.last) (s, Err LastTurn) (record s { held = None }, Ok (token_for s to issued))
    (λ x. x.1 ≡ Ok t → claim) (λ b f. absurd (cc f)) (λ b f.
    let held = q.holds issued e in
    let is : token_for s to issued ≡ t = cc f in
    let elsewhere : to ≢ p.site =
    λ same. true_not_false (sym (eqb_same p.site) ∙ subst (λ n. (n == p.site) ≡ false) same (not_either (nat_le p.sites to) (to == p.site) other)) in (
      (omega (arith, held.0, q.turn), ⊎_elim (λ z. inl z) (λ l. inr (omega (arith, l, q.turn))) held.1),
      ap (λ (y : Token). y.turn) (sym is) ∙ ap (λ n. n + 1) (sym q.turn),
      elsewhere,
    )))) was

pub these_names : SitesGiveTheseNames
these_names ask from p away records =
    let q = after_records ask from p away records (opening_at p.site) 1 [] (at_first p) in
    let s = site_after p (opening_at p.site) 1 records in
    record {
      messages = λ a m e. gives_message q (decision (rows_at s.log) (standing_of p.keep s) a) m e;
      passes = λ to t e. gives_pass q to t s.held refl e;
    }
