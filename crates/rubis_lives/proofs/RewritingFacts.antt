-- What was kept is rewritten without what changed nothing.
use Rattle.rubis_lives.proofs.Common.{◌≡◌, ◌∙◌, ◌+◌, ◌++◌, ◌∷◌, [], ℕ, List, refl, sym, ap, append_assoc, ◌≤◌, length, inl, inr, subst, arith}
use Rattle.rubis_lives.proofs.Common.{append-nil, ⊎_elim, ◌⊎◌, Bool, true, false, cond, Option, Some, None, length-append, flat_map-append, input_of}
use Rattle.rubis_lives.proofs.Common.{input_step, Place, Replica, generating, opening_at, passing, rows_at, standing_of}
use Rattle.rubis_lives.proofs.Common.{plain_writer, row_text, rows_text, IsShortened, ◌||◌, ◌==◌, MatchBool, map, nat_le, Result, Ok, Err, Refusal}
use Rattle.rubis_lives.proofs.Common.{BadTarget, LastTurn, Shadow, decision, Message, Input, Asked, Came, Neither, Token, sent_on, sent_on_inputs}
use Rattle.rubis_lives.proofs.Common.{sending, Files, FileState, IsSafe, IsFrontOf}
use Rattle.rubis_model.specs.Site.{settle, made}
use Rattle.std.proofs.lemmas.Bool.{cond_both}
use Rattle.rubis_model.proofs.Settling.{settle_keeps}
use Rattle.rubis_lives.specs.Histories.{SiteTextsExtend, SurvivesIn}
use Rattle.rubis_lives.specs.Shops.{IsPrefix}
use Rattle.rubis_lives.proofs.KeyFacts.{Records, after-short, bare-short}
use Rattle.rubis_keys.proofs.BareFacts.{answers_more}
use Rattle.rubis_keys.specs.Keys.{keyed_after, keyed_answers, keyed_opening}
use Rattle.rubis_keys.specs.Laws.{bare_of}
use Rattle.rubis_keep.proofs.ShortenFacts.{leaves-append, leaves-none}
use Rattle.rubis_message.specs.declared.requests.Request.TheVariants as request
use Rattle.rubis_message.specs.declared.tokens.Packet.TheVariants as packet
use Rattle.rubis_lives.specs.Rewriting.{IsLeftIn, IsOfFresh, IsOfKept, IsOldOrNew, NamedBeforeEmptied, NamedBeforeFlushed, Rewriting, RewritingLeavesFiles}
use Rattle.rubis_lives.specs.Rewriting.{Rewritten, ShorteningKeepsThePromise, after_one, after_some, killed_in, rewriting, untouched}
use Rattle.rubis_lives.specs.Rewriting.Rewriting.{Emptied, EmptyFlushed, FreshFlushed, NamesFlushed, Renamed, Wrote}

pub site-texts-extend : SiteTextsExtend
site-texts-extend p s n records more =
    let r = keyed_answers p (keyed_after p s n records) (n + length records) more in
    (rows_text r, sym (flat_map-append (row_text plain_writer) (keyed_answers p s n records) r) ∙ ap rows_text (sym (answers_more p s n records more)))

-- ---- records that are read, and those that are left out of them

-- ---- prefixes

pub prefix-more : (xs ys zs : Records) → IsPrefix xs ys → IsPrefix ys zs → IsPrefix xs zs
prefix-more xs ys zs p q = (p.0 ++ q.0, sym (append_assoc xs p.0 q.0) ∙ ap (λ t. t ++ q.0) p.1 ∙ q.1)

-- of two prefixes of one list the shorter one is a prefix of the longer one
pub prefix-within : (xs ys zs : Records) → IsPrefix xs zs → IsPrefix ys zs → length xs ≤ length ys → IsPrefix xs ys
prefix-within [] ys zs p q l = (ys, refl)
prefix-within (x ∷ xs) [] zs p q l = absurd (omega (arith, l))
prefix-within (x ∷ xs) (y ∷ ys) [] p q l = absurd (cc p.1)
prefix-within (x ∷ xs) (y ∷ ys) (z ∷ zs) p q l =
    let first : x ≡ y = cc (p.1, q.1) in
    let inner = prefix-within xs ys zs (p.0, cc p.1) (q.0, cc q.1) (omega (arith, l)) in
    (inner.0, ap (λ t. x ∷ t) inner.1 ∙ ap (λ t. t ∷ ys) first)

none-left : (xs rest ys : Records) → xs ++ rest ≡ ys → length xs ≡ length ys → rest ≡ []
none-left [] [] ys e l = refl
none-left [] (r ∷ rest) ys e l = absurd (omega (arith, l, ap length e))
none-left (x ∷ xs) rest [] e l = absurd (cc e)
none-left (x ∷ xs) rest (y ∷ ys) e l = none-left xs rest ys (cc e) (omega (arith, l))

pub prefix-same : (xs ys zs : Records) → IsPrefix xs zs → IsPrefix ys zs → length xs ≡ length ys → xs ≡ ys
prefix-same xs ys zs p q l =
    let inner = prefix-within xs ys zs p q (omega (arith, l)) in
    sym (append-nil xs) ∙ ap (λ t. xs ++ t) (sym (none-left xs inner.0 ys inner.1 l)) ∙ inner.1

-- ---- records that change nothing

-- some more of them may be left out
pub shortened-again : (p : Place) (s : Replica) (a b full : Records) → IsShortened p s a b → IsShortened p s b full → IsShortened p s a full
shortened-again p s a b [] h k = subst (IsShortened p s a) k h
shortened-again p s a b (x ∷ full) h (inl k) = inl (k.0, shortened-again p s a b full h k.1)
shortened-again p s a b (x ∷ full) h (inr k) =
    ⊎_elim (λ m. inl (m.0, shortened-again p s a k.0 full m.1 (subst (λ t. IsShortened p t k.0 full) m.0 k.2)))
    (λ m. inr (m.0, m.1, shortened-again p (input_step p s 1 (input_of p.sites x)).0 m.0 k.0 full m.2 k.2))
    (subst (IsShortened p s a) k.1 h)

-- a record more may be left in
pub shortened-more : (p : Place) (s : Replica) (short full : Records) (x : List (List ℕ)) → IsShortened p s short full
    → IsShortened p s (short ++ x ∷ []) (full ++ x ∷ [])
shortened-more p s short [] x h = subst (λ t. IsShortened p s (t ++ x ∷ []) (x ∷ [])) (sym h) (inr ([], refl, refl))
shortened-more p s short (y ∷ full) x (inl h) = inl (h.0, shortened-more p s short full x h.1)
shortened-more p s short (y ∷ full) x (inr h) =
    inr (h.0 ++ x ∷ [], ap (λ t. t ++ x ∷ []) h.1, shortened-more p (input_step p s 1 (input_of p.sites y)).0 h.0 full x h.2)

-- a prefix of what is left is left of a prefix
pub shortened-first : (p : Place) (s : Replica) (full short xs : Records) → IsShortened p s short full → IsPrefix xs short
    → (first rest : Records) × (first ++ rest ≡ full) × IsShortened p s xs first
shortened-first p s full short [] h e = ([], full, refl, refl)
shortened-first p s [] short (a ∷ xs) h e = absurd (cc (e.1, h))
shortened-first p s (z ∷ full) short (a ∷ xs) (inl h) e =
    let w = shortened-first p s full short (a ∷ xs) h.1 e in
    (z ∷ w.0, w.1, ap (λ l. z ∷ l) w.2, inl (h.0, w.3))
shortened-first p s (z ∷ full) short (a ∷ xs) (inr h) e =
    let same : a ≡ z = cc (e.1, h.1) in
    let rest : xs ++ e.0 ≡ h.0 = cc (e.1, h.1) in
    let w = shortened-first p (input_step p s 1 (input_of p.sites z)).0 full h.0 xs h.2 (e.0, rest) in
    (z ∷ w.0, w.1, ap (λ l. z ∷ l) w.2, inr (xs, ap (λ t. t ∷ xs) same, w.3))

-- ---- what was kept is rewritten without what changed nothing

-- ---- what changes nothing sends nothing

settle-longer : (n : ℕ) (log waiting : List Message) → length log ≤ length (settle n log waiting).0
settle-longer n log waiting =
    settle_keeps (λ l w. length log ≤ length l) (λ l w p t h. let e = length-append l (p.0 ∷ []) in omega (arith, h, e)) n log waiting (omega arith)

none-made : (p : Place) {s : Replica} (r : Result Shadow Refusal) → (generating p s r).0 ≡ s → sending packet.Msg (generating p s r).1 ≡ []
none-made p {s} (Ok x) same =
    let more = settle-longer (length s.waiting) (s.log ++ made p s x ∷ []) s.waiting in
    let size = length-append s.log (made p s x ∷ []) in
    absurd (omega (arith, more, size, ap (λ (t : Replica). length t.log) same))
none-made p (Err r) same = refl

none-passed : (p : Place) {s : Replica} (to : ℕ) (held : Option ℕ) → s.held ≡ held → (passing p s to held).0 ≡ s
    → sending packet.Token (passing p s to held).1 ≡ []
none-passed p to None is same = refl
none-passed p {s} to (Some issued) is same =
    cond_both (nat_le p.sites to || (to == p.site)) (s, Err BadTarget) _
    (λ (a : Replica × Result Token Refusal). a.0 ≡ s → sending packet.Token a.1 ≡ []) (λ _ q. refl)
    (λ _. cond_both (nat_le 1000000000 s.last) (s, Err LastTurn) _
    (λ (a : Replica × Result Token Refusal). a.0 ≡ s → sending packet.Token a.1 ≡ []) (λ _ q. refl)
    (λ _ q. let gone : None ≡ s.held = ap (λ (t : Replica). t.held) q in absurd (cc (gone, is)))) same

none-sent : (p : Place) {s : Replica} (x : Input) → (input_step p s 1 x).0 ≡ s → sent_on p s x ≡ []
none-sent p {s} (Asked (request.Ask a)) same = none-made p (decision (rows_at s.log) (standing_of p.keep s) a) same
none-sent p {s} (Asked (request.Pass to)) same = none-passed p to s.held refl same
none-sent p (Asked (request.List l)) same = refl
none-sent p (Came x) same = refl
none-sent p Neither same = refl

short-sent : (p : Place) (s : Replica) (short full : Records) → IsShortened p s short full
    → sent_on_inputs p s (map (input_of p.sites) short) ≡ sent_on_inputs p s (map (input_of p.sites) full)
short-sent p s short [] h = ap (λ (l : Records). sent_on_inputs p s (map (input_of p.sites) l)) h
short-sent p s short (x ∷ full) (inl h) =
    short-sent p s short full h.1 ∙ ap (λ t. sent_on_inputs p t (map (input_of p.sites) full)) (sym h.0)
    ∙ ap (λ l. l ++ sent_on_inputs p (input_step p s 1 (input_of p.sites x)).0 (map (input_of p.sites) full)) (sym (none-sent p (input_of p.sites x) h.0))
short-sent p s short (x ∷ full) (inr h) =
    ap (λ (l : Records). sent_on_inputs p s (map (input_of p.sites) l)) h.1
    ∙ ap (λ l. sent_on p s (input_of p.sites x) ++ l) (short-sent p (input_step p s 1 (input_of p.sites x)).0 h.0 full h.2)

pub shortening-keeps : ShorteningKeepsThePromise
shortening-keeps p short full more h =
    let o = keyed_opening p.site in
    let longer = leaves-append true p o short more full more h (leaves-none true p _ more) in
    record {
      state = after-short p o (short ++ more) (full ++ more) longer;
      sent = short-sent p (opening_at p.site) (bare_of p o (short ++ more)) (bare_of p o (full ++ more)) (bare-short p o (short ++ more) (full ++ more) longer);
      was = answers_more p o 1 full more;
      is = answers_more p o 1 short more
          ∙ ap (λ t. keyed_answers p o 1 short ++ keyed_answers p t (1 + length short) more) (after-short p o short full h);
    }

-- ---- what is left of the files

abbrev Wrotes : List ℕ → List Rewriting
Wrotes short = map (λ b. Wrote b) short

-- how the new file stands before it has its name
abbrev begun : List ℕ → Rewritten
begun bytes = record { fresh = bytes; flushed = []; is_empty = false; stays_empty = false; is_named = false; stays_named = false }

some-written : (done bytes : List ℕ) → after_some (begun done) (Wrotes bytes) ≡ begun (done ++ bytes)
some-written done [] = ap begun (sym (append-nil done))
some-written done (b ∷ bytes) = some-written (done ++ b ∷ []) bytes ∙ ap begun (append_assoc done (b ∷ []) bytes)

after-more : (r : Rewritten) (a b : List Rewriting) → after_some r (a ++ b) ≡ after_some (after_some r a) b
after-more r [] b = refl
after-more r (e ∷ a) b = after-more (after_one r e) a b

-- a prefix of these writes and of what follows them
front-of : (bytes : List ℕ) (next first later : List Rewriting) → first ++ later ≡ Wrotes bytes ++ next
    → ((some : List ℕ) × (first ≡ Wrotes some)) ⊎ ((tail rest : List Rewriting) × (first ≡ Wrotes bytes ++ tail) × (tail ++ rest ≡ next))
front-of bytes next [] later e = inl ([], refl)
front-of [] next (x ∷ first) later e = inr (x ∷ first, later, refl, e)
front-of (b ∷ bytes) next (x ∷ first) later e =
    let same : x ≡ Wrote b = cc e in
    ⊎_elim (λ w. inl (b ∷ w.0, ap (λ t. x ∷ t) w.1 ∙ ap (λ t. t ∷ Wrotes w.0) same))
    (λ w. inr (w.0, w.1, ap (λ t. x ∷ t) w.2 ∙ ap (λ t. t ∷ (Wrotes bytes ++ w.0)) same, w.3)) (front-of bytes next first later (cc e))

module _ (text : List (List (List ℕ)) → List ℕ) (s : FileState) (safe : IsSafe text s) (rest : s.flushed ≡ s.kept) where
  -- the old lines, with a prefix of their answers
  old : (files : Files) → files.log ≡ s.kept → IsFrontOf files.out s.out → SurvivesIn s files
  old files e f = (
    ([], append-nil s.flushed ∙ rest ∙ sym e),
    (s.cut, ap (λ t. t ++ s.cut) e),
    f,
  )

  none : IsFrontOf [] s.out
  none = (s.out, refl)

  all : IsFrontOf s.out s.out
  all = ([], append-nil s.out)

  -- while the new file hasn't its name, and `out` may be empty
  unnamed : (short : List ℕ) (r : Rewritten) (files : Files) → r.is_named ≡ false → r.stays_named ≡ false → IsLeftIn s r files → IsOldOrNew s short files
  unnamed short r files e f (inl is) =
      inl (old files (ap (λ (t : Files). t.log) is ∙ ap (λ b. cond b r.fresh s.kept) e)
      (subst (λ t. IsFrontOf t s.out) (sym (ap (λ (t : Files). t.out) is)) (emptied r.is_empty)))
    where
      emptied : (b : Bool) → IsFrontOf (cond b [] s.out) s.out
      emptied true = none
      emptied false = all
  unnamed short r files e f (inr may) =
      let log = kept-log (subst (λ b. MatchBool b (IsOfFresh r files.log) (IsOfKept s files.log ⊎ ((r.is_named ≡ true) × IsOfFresh r files.log))) f may.0) in
      inl (log.0, log.1, some-out r.stays_empty may.1)
    where
      kept-log : IsOfKept s files.log ⊎ ((r.is_named ≡ true) × IsOfFresh r files.log) → IsOfKept s files.log
      kept-log (inl k) = k
      kept-log (inr k) = absurd (cc (k.0, e))

      some-out : (b : Bool) → MatchBool b (files.out ≡ []) (IsFrontOf files.out s.out) → IsFrontOf files.out s.out
      some-out true k = subst (λ t. IsFrontOf t s.out) (sym k) none
      some-out false k = k

  same-front : (short log : List ℕ) → IsFrontOf short log → IsFrontOf log short → log ≡ short
  same-front short log f g =
      let long = length-append short f.0 in
      let more = length-append log g.0 in
      let none : g.0 ≡ [] = no-more g.0 (omega (arith, long, more, ap length f.1, ap length g.1)) in
      sym (append-nil log) ∙ ap (λ t. log ++ t) (sym none) ∙ g.1
    where
      no-more : (xs : List ℕ) → length xs ≡ 0 → xs ≡ []
      no-more [] e = refl
      no-more (x ∷ xs) e = absurd (omega (arith, e))

  -- once it has its name, and all of it is flushed, and `out` is empty
  named : (short : List ℕ) (r : Rewritten) (files : Files) → r.fresh ≡ short → r.flushed ≡ short → r.is_named ≡ true → r.is_empty ≡ true
      → r.stays_empty ≡ true → IsLeftIn s r files → IsOldOrNew s short files
  named short r files e f is empty stays (inl same) =
      inr (ap (λ (l : List ℕ). record { log = l; out = files.out }) (ap (λ (t : Files). t.log) same ∙ ap (λ b. cond b r.fresh s.kept) is ∙ e)
      ∙ ap (λ (o : List ℕ). record { log = short; out = o }) (ap (λ (t : Files). t.out) same ∙ ap (λ b. cond b [] s.out) empty))
  named short r files e f is empty stays (inr may) =
      let out : files.out ≡ [] = subst (λ b. MatchBool b (files.out ≡ []) (IsFrontOf files.out s.out)) stays may.1 in
      log-of out r.stays_named may.0
    where
      fresh : files.out ≡ [] → IsOfFresh r files.log → IsOldOrNew s short files
      fresh out k =
          let same = same-front short files.log (subst (λ t. IsFrontOf t files.log) f k.0) (subst (IsFrontOf files.log) e k.1) in
          inr (ap (λ (l : List ℕ). record { log = l; out = files.out }) same ∙ ap (λ (o : List ℕ). record { log = short; out = o }) out)

      either : files.out ≡ [] → IsOfKept s files.log ⊎ ((r.is_named ≡ true) × IsOfFresh r files.log) → IsOldOrNew s short files
      either out (inl k) = inl (k.0, k.1, subst (λ t. IsFrontOf t s.out) (sym out) none)
      either out (inr k) = fresh out k.1

      log-of : files.out ≡ [] → (b : Bool) → MatchBool b (IsOfFresh r files.log) (IsOfKept s files.log ⊎ ((r.is_named ≡ true) × IsOfFresh r files.log))
          → IsOldOrNew s short files
      log-of out true k = fresh out k
      log-of out false k = either out k

  -- how far it is behind its last write
  behind : (short : List ℕ) (tail later : List Rewriting) (files : Files) → tail ++ later ≡ Emptied ∷ EmptyFlushed ∷ FreshFlushed ∷ Renamed ∷ NamesFlushed ∷ []
      → IsLeftIn s (after_some (begun short) tail) files → IsOldOrNew s short files
  behind short [] later files e left = unnamed short (begun short) files refl refl left
  behind short (a ∷ []) later files e left =
      let one : a ≡ Emptied = cc e in
      let l = subst (λ t. IsLeftIn s (after_some (begun short) (t ∷ [])) files) one left in
      unnamed short (after_some (begun short) (Emptied ∷ [])) files refl refl l
  behind short (a ∷ b ∷ []) later files e left =
      let one : a ≡ Emptied = cc e in
      let two : b ≡ EmptyFlushed = cc e in
      let l = subst (λ t. IsLeftIn s (after_some (begun short) (t ∷ EmptyFlushed ∷ [])) files) one
      (subst (λ t. IsLeftIn s (after_some (begun short) (a ∷ t ∷ [])) files) two left) in
      unnamed short (after_some (begun short) (Emptied ∷ EmptyFlushed ∷ [])) files refl refl l
  behind short (a ∷ b ∷ c ∷ []) later files e left =
      let is : a ∷ b ∷ c ∷ [] ≡ Emptied ∷ EmptyFlushed ∷ FreshFlushed ∷ [] = cc e in
      unnamed short (after_some (begun short) (Emptied ∷ EmptyFlushed ∷ FreshFlushed ∷ [])) files refl refl
      (subst (λ t. IsLeftIn s (after_some (begun short) t) files) is left)
  behind short (a ∷ b ∷ c ∷ d ∷ []) later files e left =
      let is : a ∷ b ∷ c ∷ d ∷ [] ≡ Emptied ∷ EmptyFlushed ∷ FreshFlushed ∷ Renamed ∷ [] = cc e in
      named short (after_some (begun short) (Emptied ∷ EmptyFlushed ∷ FreshFlushed ∷ Renamed ∷ [])) files refl refl refl refl refl
      (subst (λ t. IsLeftIn s (after_some (begun short) t) files) is left)
  behind short (a ∷ b ∷ c ∷ d ∷ x ∷ []) later files e left =
      let is : a ∷ b ∷ c ∷ d ∷ x ∷ [] ≡ Emptied ∷ EmptyFlushed ∷ FreshFlushed ∷ Renamed ∷ NamesFlushed ∷ [] = cc e in
      named short (after_some (begun short) (Emptied ∷ EmptyFlushed ∷ FreshFlushed ∷ Renamed ∷ NamesFlushed ∷ [])) files refl refl refl refl refl
      (subst (λ t. IsLeftIn s (after_some (begun short) t) files) is left)
  behind short (a ∷ b ∷ c ∷ d ∷ x ∷ y ∷ tail) later files e left = absurd (cc e)

  leaves : (short : List ℕ) (first later : List Rewriting) (files : Files) → first ++ later ≡ rewriting short
      → IsLeftIn s (after_some untouched first) files → IsOldOrNew s short files
  leaves short first later files e left =
      ⊎_elim
      (λ w. unnamed short (begun w.0) files refl refl
      (subst (λ r. IsLeftIn s r files) (ap (after_some untouched) w.1 ∙ some-written [] w.0) left))
      (λ w. behind short w.0 w.1 files w.3
      (subst (λ r. IsLeftIn s r files)
      (ap (after_some untouched) w.2 ∙ after-more untouched (Wrotes short) w.0 ∙ ap (λ r. after_some r w.0) (some-written [] short)) left))
      (front-of short (Emptied ∷ EmptyFlushed ∷ FreshFlushed ∷ Renamed ∷ NamesFlushed ∷ []) first later e)

pub rewriting-leaves : RewritingLeavesFiles
rewriting-leaves text s short first later files safe rest e left = leaves text s safe rest short first later files e left

-- ---- orders that are refused

pub named-before-emptied : NamedBeforeEmptied
named-before-emptied s short told shorter left =
    go (after_some untouched (Wrotes short ++ FreshFlushed ∷ Renamed ∷ []))
    (after-more untouched (Wrotes short) (FreshFlushed ∷ Renamed ∷ []) ∙ ap (λ r. after_some r (FreshFlushed ∷ Renamed ∷ [])) (some-written [] short)) left
  where
    go : (r : Rewritten) → r ≡ after_some (begun short) (FreshFlushed ∷ Renamed ∷ []) → IsOldOrNew s short (killed_in s r) → ⊥
    go r e (inl old) =
        let log : (killed_in s r).log ≡ short = ap (λ r. (killed_in s r).log) e in
        let long = length-append s.flushed old.0.0 in
        omega (arith, shorter, long, ap length old.0.1, ap length log)
    go r e (inr new) = told (sym (ap (λ r. (killed_in s r).out) e) ∙ ap (λ (f : Files). f.out) new)

pub named-before-flushed : NamedBeforeFlushed
named-before-flushed s short some kept all = no (all files left)
  where
    files : Files
    files = record { log = []; out = [] }

    left : IsLeftIn s (after_some untouched (Wrotes short ++ Emptied ∷ EmptyFlushed ∷ Renamed ∷ [])) files
    left = subst (λ r. IsLeftIn s r files)
        (sym (after-more untouched (Wrotes short) (Emptied ∷ EmptyFlushed ∷ Renamed ∷ [])
        ∙ ap (λ r. after_some r (Emptied ∷ EmptyFlushed ∷ Renamed ∷ [])) (some-written [] short)))
        (inr (inr (refl, (([], refl), (short, refl))), refl))

    empty-front : (xs : List ℕ) → IsFrontOf xs [] → xs ≡ []
    empty-front [] f = refl
    empty-front (x ∷ xs) f = absurd (cc f.1)

    no : IsOldOrNew s short files → ⊥
    no (inl old) = kept (empty-front s.flushed old.0)
    no (inr new) = some (sym (ap (λ (f : Files). f.log) new))
