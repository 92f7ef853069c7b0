-- What every event keeps of a shop, and that so a name is given once.
use Rattle.std.proofs.Common.{◌≡◌, ◌∙◌, ◌≢◌, ◌⊎◌, inl, inr, ⊎_elim, ◌≤◌, ◌+◌, ◌++◌, ◌∷◌, [], ℕ, Bool, true, false, cond, eqb, List, refl, sym, ap, subst, arith}
use Rattle.std.proofs.Common.{max}
use Rattle.std.specs.Prelude.{take, not, ◌==◌}
use Rattle.std.proofs.lemmas.Bool.{eqb-false, eqb-true}
use Rattle.rubis_model.specs.Site.{Has}
use Rattle.rubis_model.proofs.Settling.{has_last, push_cases}
use Rattle.rubis_carrier.specs.Laws.{AreGivenOnce, IdsAreGivenOnce}
use Rattle.rubis_carrier.specs.declared.values.Carrier.{Carrier}
use Rattle.rubis_carrier.specs.declared.values.Carrier.TheVariants.{Files, Server}
use Rattle.rubis_carrier.specs.declared.values.ShopPacket.{ShopPacket}
use Rattle.rubis_carrier.specs.declared.values.ShopPacket.TheVariants.{Message, Pass}
use Rattle.rubis_carrier.specs.declared.values.ShopRequest.{ShopRequest}
use Rattle.rubis_carrier.specs.declared.values.Notice.{Notice}
use Rattle.rubis_carrier.specs.Events.{AreSteps, IsOffered, May, accepting, after_step, with_packet_kept, next_message, next_pass, opening_folder, opening_uncompared, after_steps}
use Rattle.rubis_carrier.specs.declared.values.ShopEvent.{ShopEvent}
use Rattle.rubis_carrier.specs.declared.values.ShopEvent.TheVariants.{Accepts, Appends, Arrives, Closes, Fills, Finds, Gives, GoesOn, IsAsked, IsCopied}
use Rattle.rubis_carrier.specs.declared.values.ShopEvent.TheVariants.{IsKilled, IsLost, IsRaised, KeeperStarts, LosesEnd, MachineStarts, Opens, OpensAlone}
use Rattle.rubis_carrier.specs.declared.values.ShopEvent.TheVariants.{Passes, Reads, Rebuilds, Refuses, Sends, ServerLosesAll, Serves, Starts, StreamLosesEnd}
use Rattle.rubis_carrier.specs.declared.values.ShopEvent.TheVariants.{TakesBack, TakesOver, TellsNothing, TellsOk, TellsPublished, TellsUnknown, WritesAnew}
use Rattle.rubis_carrier.specs.declared.values.ShopEvent.TheVariants.{Yields}
use Rattle.rubis_carrier.specs.Shops.{IsReached, highest, name, passed_turn, sender, taken_turn, Folder, IsCompared, IsNotAhead, MayOpen, PacketPlace, Shop, folder, folder_in}
use Rattle.rubis_carrier.specs.Shops.{put_folder, put_stream, shop_start, stream, stream_in, there, with_folder}
use Rattle.rubis_carrier.specs.Shops.PacketPlace.{InFolder, InStream, UnderWay}
use Rattle.rubis_carrier.proofs.PacketFacts.{reached_more, reached_within, eqb_same, filter_holds, folder_cases, has_filter, has_take, opened_cases}
use Rattle.rubis_carrier.proofs.PacketFacts.{stream_cases}

-- the packet stands somewhere
abbrev pub IsSomewhere : Shop → ShopPacket → Type 0
IsSomewhere s x = (h : PacketPlace) × Has x (there s h)

-- the turn of a pass is at least 1 and no greater than the greatest, and no site passes to itself
abbrev pub IsKnown : ℕ → ShopPacket → Type 0
IsKnown turn (Message i n r) = Unit {0}
IsKnown turn (Pass i t j a) = (1 ≤ t) × (t ≤ turn) × (j ≢ i)

known_more : (turn later : ℕ) (x : ShopPacket) → turn ≤ later → IsKnown turn x → IsKnown later x
known_more turn later (Message i n r) t k = tt
known_more turn later (Pass i u j b) t k = (k.0, omega (arith, t, k.1), k.2)

-- each folder of the site was compared as it was opened
abbrev pub WasCompared : Shop → ℕ → Type 0
WasCompared s i = ¬ (Has i s.uncompared)

-- names are given once; a remembered folder has all of its site, and an open one is remembered, where all were compared; of each site
-- one at most is remembered
pub record Sound (s : Shop) : Type 0 where
  pub once : AreGivenOnce s
  pub known : (h : PacketPlace) (x : ShopPacket) → Has x (there s h) → IsKnown s.turn x
  pub whole : (k : ℕ) → (folder s k).remembered ≡ true → WasCompared s (folder s k).site → (h : PacketPlace) → IsNotAhead s k h
  pub opened : (k : ℕ) → (folder s k).is_open ≡ true → WasCompared s (folder s k).site → (folder s k).remembered ≡ true
  pub one : (k j : ℕ) → (folder s k).remembered ≡ true → (folder s j).remembered ≡ true → (folder s k).site ≡ (folder s j).site → k ≡ j

-- ---- events that make nothing

-- a folder in the place of folder k: it has nothing that isn't somewhere; if it is remembered, so was the other one, and it has all of that;
-- and if it is open, it is remembered, or its site isn't compared any more
pub record FolderIsLess (s : Shop) (uncompared : List ℕ) (k : ℕ) (f : Folder) : Type 0 where
  pub from : (x : ShopPacket) → Has x f.kept → IsSomewhere s x
  pub was : f.remembered ≡ true → (folder s k).remembered ≡ true
  pub site : f.remembered ≡ true → (folder s k).site ≡ f.site
  pub kept : f.remembered ≡ true → (x : ShopPacket) → IsReached (folder s k).site (folder s k).kept x → IsReached f.site f.kept x
  pub opened : f.is_open ≡ true → ¬ (Has f.site uncompared) → f.remembered ≡ true

same_folder : {s : Shop} → Sound s → (uncompared : List ℕ) → ((i : ℕ) → Has i s.uncompared → Has i uncompared) → (k : ℕ)
    → FolderIsLess s uncompared k (folder s k)
same_folder {s} q uncompared more k = record {
  from = λ x h. (InFolder k, h);
  was = λ r. r;
  site = λ r. refl;
  kept = λ r x h. h;
  opened = λ o n. q.opened k o (λ u. n (more (folder s k).site u));
}

record IsLess (s t : Shop) : Type 0 where
  folders : (k : ℕ) → FolderIsLess s t.uncompared k (folder t k)
  streams : (i : ℕ) (x : ShopPacket) → Has x (stream t i) → IsSomewhere s x
  under_way : (x : ShopPacket) → Has x t.under_way → IsSomewhere s x
  turn : s.turn ≤ t.turn
  uncompared : (i : ℕ) → Has i s.uncompared → Has i t.uncompared

less_from : {s t : Shop} → IsLess s t → (h : PacketPlace) (x : ShopPacket) → Has x (there t h) → IsSomewhere s x
less_from l (InFolder k) x h = (l.folders k).from x h
less_from l (InStream i) x h = l.streams i x h
less_from l UnderWay x h = l.under_way x h

less_sound : {s t : Shop} → Sound s → IsLess s t → Sound t
less_sound {s} {t} q l = record {
  once = λ h g x y a b e n.
      let from = less_from l h x a in
      let other = less_from l g y b in
      q.once from.0 other.0 x y from.1 other.1 e (λ u. n (l.uncompared (sender x) u));
  known = λ h x a.
      let from = less_from l h x a in
      known_more s.turn t.turn x l.turn (q.known from.0 x from.1);
  whole = λ k r n h x a e.
      let from = less_from l h x a in
      let site = (l.folders k).site r in
      let all = q.whole k ((l.folders k).was r) (λ u. n (subst (λ i. Has i t.uncompared) site (l.uncompared (folder s k).site u))) in
      (l.folders k).kept r x (all from.0 x from.1 (e ∙ sym site));
  opened = λ k. (l.folders k).opened;
  one = λ k j a b e. q.one k j ((l.folders k).was a) ((l.folders j).was b) ((l.folders k).site a ∙ e ∙ sym ((l.folders j).site b));
}

-- ---- a folder that is open sends a packet

name_sender : (x y : ShopPacket) → name x ≡ name y → sender x ≡ sender y
name_sender (Message i n r) (Message j m q) e = cc e
name_sender (Message i n r) (Pass j t k a) e = absurd (cc e)
name_sender (Pass i t k a) (Message j m q) e = absurd (cc e)
name_sender (Pass i t k a) (Pass j u l b) e = cc e

-- folder k, which is open, has sent the packet y, whose name it hadn't given
record HasSent (s t : Shop) (k : ℕ) (y : ShopPacket) : Type 0 where
  is_open : (folder s k).is_open ≡ true
  own : sender y ≡ (folder s k).site
  new : (x : ShopPacket) → IsReached (folder s k).site (folder s k).kept x → name x ≡ name y → ⊥
  from : (h : PacketPlace) (x : ShopPacket) → Has x (there t h) → IsSomewhere s x ⊎ (x ≡ y)
  kept : (j : ℕ) (x : ShopPacket) → IsReached (folder s j).site (folder s j).kept x → IsReached (folder t j).site (folder t j).kept x
  sent : IsReached (folder t k).site (folder t k).kept y
  site : (j : ℕ) → (folder t j).site ≡ (folder s j).site
  was : (j : ℕ) → (folder t j).remembered ≡ true → (folder s j).remembered ≡ true
  opened : (j : ℕ) → (folder t j).is_open ≡ true → WasCompared s (folder t j).site → (folder t j).remembered ≡ true
  known : IsKnown t.turn y
  turn : s.turn ≤ t.turn
  uncompared : t.uncompared ≡ s.uncompared

-- nothing that is somewhere has its name
is_new : (s t : Shop) (k : ℕ) (y : ShopPacket) → Sound s → HasSent s t k y → WasCompared s (folder s k).site → (x : ShopPacket) → IsSomewhere s x
    → name x ≡ name y → ⊥
is_new s t k y q l c x at e = l.new x (q.whole k (q.opened k l.is_open c) c at.0 x at.1 (name_sender x y e ∙ l.own)) e

sent_sound : {s t : Shop} {k : ℕ} {y : ShopPacket} → Sound s → HasSent s t k y → Sound t
sent_sound {s} {t} {k} {y} q l = record {
  once = λ h g x z a b e n.
      let c : WasCompared s (sender x) = was (sender x) n in
      ⊎_elim (λ old. ⊎_elim (λ other. q.once old.0 other.0 x z old.1 other.1 e c)
      (λ same. absurd (is_new s t k y q l (at_k x (name_sender x z e ∙ ap sender same) c) x old (e ∙ ap name same))) (l.from g z b))
      (λ same. ⊎_elim (λ other. absurd (is_new s t k y q l (at_k x (ap sender same) c) z other (sym e ∙ ap name same)))
      (λ both. same ∙ sym both) (l.from g z b)) (l.from h x a);
  known = λ h x a.
      ⊎_elim (λ old. known_more s.turn t.turn x l.turn (q.known old.0 x old.1)) (λ same. subst (IsKnown t.turn) (sym same) l.known) (l.from h x a);
  whole = λ j r n h x a e.
      let c : WasCompared s (folder s j).site = subst (WasCompared s) (l.site j) (was (folder t j).site n) in
      ⊎_elim (λ old. l.kept j x (q.whole j (l.was j r) c old.0 x old.1 (e ∙ l.site j))) (λ same.
      let sites : (folder s j).site ≡ (folder s k).site = sym (l.site j) ∙ sym e ∙ ap sender same ∙ l.own in
      let here : j ≡ k = q.one j k (l.was j r) (q.opened k l.is_open (subst (WasCompared s) sites c)) sites in
      subst (λ n. IsReached (folder t n).site (folder t n).kept x) (sym here) (subst (IsReached (folder t k).site (folder t k).kept) (sym same) l.sent))
      (l.from h x a);
  opened = λ j o n. l.opened j o (was (folder t j).site n);
  one = λ i j a b e. q.one i j (l.was i a) (l.was j b) (sym (l.site i) ∙ e ∙ l.site j);
}
  where
    was : (i : ℕ) → WasCompared t i → WasCompared s i
    was i n u = n (subst (Has i) (sym l.uncompared) u)

    at_k : (x : ShopPacket) → sender x ≡ sender y → WasCompared s (sender x) → WasCompared s (folder s k).site
    at_k x e c = subst (WasCompared s) (e ∙ l.own) c

-- what becomes of folder k as it sends y
record Keeps (f g : Folder) (y : ShopPacket) : Type 0 where
  kept : g.kept ≡ f.kept ++ y ∷ []
  site : g.site ≡ f.site
  remembered : g.remembered ≡ f.remembered
  opened : g.is_open ≡ f.is_open

module _ (s : Shop) (q : Sound s) (k : ℕ) (f : Folder) (y : ShopPacket) (l : Keeps (folder s k) f y) where
  -- folder j after that
  abbrev now : ℕ → Folder
  now j = folder_in (put_folder k f s.folders) j

  put_from : (j : ℕ) (x : ShopPacket) → Has x (now j).kept → IsSomewhere s x ⊎ (x ≡ y)
  put_from j x = folder_cases (λ n g. Has x g.kept → IsSomewhere s x ⊎ (x ≡ y)) k f s.folders
      (λ h. ⊎_elim (λ a. inl (InFolder k, a)) (λ e. inr e) (push_cases x y (folder s k).kept (subst (Has x) l.kept h)))
      (λ n d h. inl (InFolder n, h)) j

  put_kept : (j : ℕ) (x : ShopPacket) → IsReached (folder s j).site (folder s j).kept x → IsReached (now j).site (now j).kept x
  put_kept j x = folder_cases (λ n g. IsReached (folder s n).site (folder s n).kept x → IsReached g.site g.kept x) k f s.folders
      (λ h. subst (λ i. IsReached i f.kept x) (sym l.site) (subst (λ xs. IsReached (folder s k).site xs x) (sym l.kept)
      (reached_more (folder s k).site (folder s k).kept (y ∷ []) x h))) (λ n d h. h) j

  put_sent : sender y ≡ (folder s k).site → IsReached (now k).site (now k).kept y
  put_sent own = folder_cases (λ n g. n ≡ k → IsReached g.site g.kept y) k f s.folders
      (λ e. subst (λ i. IsReached i f.kept y) (own ∙ sym l.site)
      (reached_within y f.kept (subst (Has y) (sym l.kept) (has_last y (folder s k).kept)))) (λ n d e. absurd (d e)) k refl

  put_site : (j : ℕ) → (now j).site ≡ (folder s j).site
  put_site = folder_cases (λ n g. g.site ≡ (folder s n).site) k f s.folders l.site (λ n d. refl)

  put_was : (j : ℕ) → (now j).remembered ≡ true → (folder s j).remembered ≡ true
  put_was = folder_cases (λ n g. g.remembered ≡ true → (folder s n).remembered ≡ true) k f s.folders (λ r. sym l.remembered ∙ r) (λ n d r. r)

  put_opened : (j : ℕ) → (now j).is_open ≡ true → WasCompared s (now j).site → (now j).remembered ≡ true
  put_opened = folder_cases (λ n g. g.is_open ≡ true → WasCompared s g.site → g.remembered ≡ true) k f s.folders
      (λ o c. l.remembered ∙ q.opened k (sym l.opened ∙ o) (subst (WasCompared s) l.site c)) (λ n d. q.opened n)

  sends : (turn : ℕ) → (folder s k).is_open ≡ true → sender y ≡ (folder s k).site
      → ((x : ShopPacket) → IsReached (folder s k).site (folder s k).kept x → name x ≡ name y → ⊥) → IsKnown turn y → s.turn ≤ turn
      → HasSent s (record (with_folder k f s) { turn = turn }) k y
  sends turn o own new known later = record {
    is_open = o;
    own = own;
    new = new;
    from = elim [ InFolder j ↦ put_from j | InStream i ↦ λ x h. inl (InStream i, h) | UnderWay ↦ λ x h. inl (UnderWay, h) ];
    kept = put_kept;
    sent = put_sent own;
    site = put_site;
    was = put_was;
    opened = put_opened;
    known = known;
    turn = later;
    uncompared = refl;
  }

-- the next message, and the next pass, have names that no packet has which the folder has reached
new_message : (f : Folder) (r : ℕ) (x : ShopPacket) → IsReached f.site f.kept x → name x ≡ name (next_message f r) → ⊥
new_message f r (Message i n q) h e =
    let number : n ≡ highest f.site f.kept + 1 = cc e in
    omega (arith, number, h)
new_message f r (Pass i t j a) h e = cc e

new_pass : (f : Folder) (to : ℕ) → passed_turn f.site f.kept ≤ taken_turn f.site f.kept → (x : ShopPacket) → IsReached f.site f.kept x → name x ≡ name (next_pass f to)
    → ⊥
new_pass f to l (Message i n q) h e = cc e
new_pass f to l (Pass i t j a) h e =
    let turn : t ≡ taken_turn f.site f.kept + 1 = cc e in
    later t (passed_turn f.site f.kept) (taken_turn f.site f.kept) turn h l
  where
    later : (t a b : ℕ) → t ≡ b + 1 → t ≤ max a b → a ≤ b → ⊥
    later t a b e h l = omega (arith, e, h, l)

-- ---- a folder opens

cond_false : (b c : Bool) → cond b false c ≡ true → (b ≡ false) × (c ≡ true)
cond_false true c e = absurd (cc e)
cond_false false c e = (refl, e)

-- if it may, or else a folder of its site was opened uncompared
module _ (s : Shop) (q : Sound s) (k : ℕ) (uncompared : List ℕ) (more : (i : ℕ) → Has i s.uncompared → Has i uncompared)
    (allowed : ¬ (Has (folder s k).site uncompared) → MayOpen s k) where
  compared_still : (i : ℕ) → ¬ (Has i uncompared) → WasCompared s i
  compared_still i n u = n (more i u)

  others_not : (j : ℕ) → j ≢ k → (folder s j).is_open ≡ true → ¬ (Has (folder s j).site uncompared)
      → cond (eqb (folder s j).site (folder s k).site) false (folder s j).remembered ≡ true
  others_not j n o c = elim (eqb (folder s j).site (folder s k).site) as
      (λ b. eqb (folder s j).site (folder s k).site ≡ b → cond b false (folder s j).remembered ≡ true) [
        | true ↦ λ e.
            let same = eqb-true (folder s j).site (folder s k).site e in
            absurd (n ((allowed (subst (λ i. ¬ (Has i uncompared)) same c)).alone j o same))
        | false ↦ λ e. q.opened j o (compared_still (folder s j).site c)
      ] refl

  is_compared : ¬ (Has (folder s k).site uncompared) → IsCompared s k
  is_compared c = ⊎_elim (λ r h seen. q.whole k r (compared_still (folder s k).site c) h) (λ a. a) (allowed c).knows

  -- which folders are remembered then
  which : (j : ℕ) → (folder (opening_folder k s) j).remembered ≡ true → (j ≡ k) ⊎ (((folder s j).site ≢ (folder s k).site) × ((folder s j).remembered ≡ true))
  which = opened_cases (λ j g. g.remembered ≡ true → (j ≡ k) ⊎ (((folder s j).site ≢ (folder s k).site) × ((folder s j).remembered ≡ true)))
      s k (λ r. inl refl)
      (λ j n r.
      let both = cond_false (eqb (folder s j).site (folder s k).site) (folder s j).remembered r in
      inr (eqb-false (folder s j).site (folder s k).site both.0, both.1))

  opens_sound : Sound (record (opening_folder k s) { uncompared = uncompared })
  opens_sound =
      let kept : (j : ℕ) → (folder (opening_folder k s) j).kept ≡ (folder s j).kept =
      opened_cases (λ j g. g.kept ≡ (folder s j).kept) s k refl (λ j n. refl) in
      let site : (j : ℕ) → (folder (opening_folder k s) j).site ≡ (folder s j).site =
      opened_cases (λ j g. g.site ≡ (folder s j).site) s k refl (λ j n. refl) in
      let from : (h : PacketPlace) (x : ShopPacket) → Has x (there (opening_folder k s) h) → Has x (there s h) =
      elim [ InFolder j ↦ λ x. subst (Has x) (kept j) | InStream i ↦ λ x a. a | UnderWay ↦ λ x. has_filter _ x s.under_way ] in
      -- what is under way of the site arrives no more
      let behind : ¬ (Has (folder s k).site uncompared) → (h : PacketPlace) (x : ShopPacket) → Has x (there (opening_folder k s) h) → sender x ≡ (folder s k).site
      → IsReached (folder s k).site (folder s k).kept x =
      λ c. elim [
        | InFolder j ↦ λ x a. is_compared c (InFolder j) tt x (from (InFolder j) x a)
        | InStream i ↦ λ x a. is_compared c (InStream i) tt x a
        | UnderWay ↦ λ x a e. absurd (arrives_no_more x (filter_holds (λ y. not (sender y == (folder s k).site)) x s.under_way a) e)
      ] in
      record {
        once = λ h g x y a b e n. q.once h g x y (from h x a) (from g y b) e (compared_still (sender x) n);
        known = λ h x a. q.known h x (from h x a);
        whole = λ j r n h x a e.
            let c : ¬ (Has (folder s j).site uncompared) = subst (λ i. ¬ (Has i uncompared)) (site j) n in
            subst (λ i. IsReached i (folder (opening_folder k s) j).kept x) (sym (site j))
            (subst (λ xs. IsReached (folder s j).site xs x) (sym (kept j)) (⊎_elim
            (λ here. subst (λ n. IsReached (folder s n).site (folder s n).kept x) (sym here)
            (behind (subst (λ n. ¬ (Has (folder s n).site uncompared)) here c) h x a (e ∙ site j ∙ ap (λ n. (folder s n).site) here)))
            (λ other. q.whole j other.1 (compared_still (folder s j).site c) h x (from h x a) (e ∙ site j)) (which j r)));
        opened = opened_cases (λ j g. g.is_open ≡ true → ¬ (Has g.site uncompared) → g.remembered ≡ true) s k (λ o c. refl) others_not;
        one = λ i j a b e.
            let same : (folder s i).site ≡ (folder s j).site = sym (site i) ∙ e ∙ site j in
            ⊎_elim
            (λ here. ⊎_elim (λ also. here ∙ sym also)
            (λ away. absurd (away.0 (sym same ∙ ap (λ n. (folder s n).site) here))) (which j b))
            (λ away. ⊎_elim (λ also. absurd (away.0 (same ∙ ap (λ n. (folder s n).site) also)))
            (λ far. q.one i j away.1 far.1 same) (which j b))
            (which i a);
      }
    where
      arrives_no_more : (x : ShopPacket) → not (sender x == (folder s k).site) ≡ true → sender x ≡ (folder s k).site → ⊥
      arrives_no_more x t e =
          let same : eqb (sender x) (folder s k).site ≡ true = subst (λ i. eqb i (folder s k).site ≡ true) (sym e) (eqb_same (folder s k).site) in
          cc (t, same)

uncompared_sound : {s : Shop} → Sound s → (k : ℕ) → Sound (opening_uncompared k s)
uncompared_sound {s} q k = opens_sound s q k ((folder s k).site ∷ s.uncompared) (λ i u. inr u) (λ n. absurd (n (inl refl)))

-- ---- one event

-- an event that only replaces folder k, and what is in the memory of others
less_folder : {s : Shop} → Sound s → (k : ℕ) (f : Folder) → FolderIsLess s s.uncompared k f → (requests : List ShopRequest) (told : List Notice) (begun : ℕ)
    → Sound (record (with_folder k f s) { requests = requests; told = told; begun = begun })
less_folder {s} q k f l requests told begun = less_sound q (record {
  folders = folder_cases (FolderIsLess s s.uncompared) k f s.folders l (λ j n. same_folder q s.uncompared (λ i u. u) j);
  streams = λ i x h. (InStream i, h);
  under_way = λ x h. (UnderWay, h);
  turn = omega arith;
  uncompared = λ i u. u;
})

-- an event that only replaces streams, by packets that are somewhere
less_streams : {s : Shop} → Sound s → (streams : List (List ShopPacket)) → ((i : ℕ) (x : ShopPacket) → Has x (stream_in streams i) → IsSomewhere s x)
    → Sound (record s { streams = streams })
less_streams {s} q streams from = less_sound q (record {
  folders = same_folder q s.uncompared (λ i u. u);
  streams = from;
  under_way = λ x h. (UnderWay, h);
  turn = omega arith;
  uncompared = λ i u. u;
})

stream_from : (s : Shop) (i : ℕ) (xs : List ShopPacket) → ((x : ShopPacket) → Has x xs → IsSomewhere s x) → (j : ℕ) (x : ShopPacket)
    → Has x (stream_in (put_stream i xs s.streams) j) → IsSomewhere s x
stream_from s i xs from = stream_cases (λ j ys. (x : ShopPacket) → Has x ys → IsSomewhere s x) i xs s.streams from (λ j n x h. (InStream j, h))

-- one that replaces neither
less_else : {s : Shop} → Sound s → (requests : List ShopRequest) (told : List Notice) (yielding full : List ℕ) (under_way : List ShopPacket)
    → ((x : ShopPacket) → Has x under_way → IsSomewhere s x)
    → Sound (record s { requests = requests; told = told; yielding = yielding; full = full; under_way = under_way })
less_else {s} q requests told yielding full under_way from = less_sound q (record {
  folders = same_folder q s.uncompared (λ i u. u);
  streams = λ i x h. (InStream i, h);
  under_way = from;
  turn = omega arith;
  uncompared = λ i u. u;
})

-- what a site finds of a packet is somewhere
pub offered : (c : Carrier) (s : Shop) (x : ShopPacket) → IsOffered c s x → IsSomewhere s x
offered Files s x o = (InFolder o.0, o.2)
offered Server s x o = (InStream (sender x), o)

pub gone : {A : Type 0} → false ≡ true → A
gone e = absurd (cc e)

-- a folder of which only what is in memory is another; or its site takes no asks; or its machine knows nothing of it
same_as : {s : Shop} → Sound s → (k : ℕ) (f : Folder) → f.kept ≡ (folder s k).kept → f.site ≡ (folder s k).site → f.remembered ≡ (folder s k).remembered
    → f.is_open ≡ (folder s k).is_open → FolderIsLess s s.uncompared k f
same_as {s} q k f a b r o = record {
  from = λ x h. (InFolder k, subst (Has x) a h);
  was = λ e. sym r ∙ e;
  site = λ e. sym b;
  kept = λ e x h. subst (λ i. IsReached i f.kept x) (sym b) (subst (λ xs. IsReached (folder s k).site xs x) (sym a) h);
  opened = λ e c. r ∙ q.opened k (sym o ∙ e) (subst (WasCompared s) b c);
}

shut : (s : Shop) (k : ℕ) (f : Folder) → f.kept ≡ (folder s k).kept → f.site ≡ (folder s k).site → f.remembered ≡ (folder s k).remembered → f.is_open ≡ false
    → FolderIsLess s s.uncompared k f
shut s k f a b r o = record {
  from = λ x h. (InFolder k, subst (Has x) a h);
  was = λ e. sym r ∙ e;
  site = λ e. sym b;
  kept = λ e x h. subst (λ i. IsReached i f.kept x) (sym b) (subst (λ xs. IsReached (folder s k).site xs x) (sym a) h);
  opened = λ e c. gone (sym o ∙ e);
}

unknown_less : (s : Shop) (k : ℕ) (f : Folder) → f.remembered ≡ false → f.is_open ≡ false → ((x : ShopPacket) → Has x f.kept → IsSomewhere s x)
    → FolderIsLess s s.uncompared k f
unknown_less s k f r o from = record {
  from = from;
  was = λ e. gone (sym r ∙ e);
  site = λ e. gone (sym r ∙ e);
  kept = λ e. gone (sym r ∙ e);
  opened = λ e c. gone (sym o ∙ e);
}

pub sound_step : (c : Carrier) {s : Shop} (e : ShopEvent) → May c s e → Sound s → Sound (after_step s e)
sound_step c {s} (Starts k) m q = less_folder q k _ (shut s k _ refl refl refl refl) _ _ _
sound_step c {s} (Opens k) m q = opens_sound s q k s.uncompared (λ i u. u) (λ n. m)
sound_step c (TakesOver k) m q = uncompared_sound q k
sound_step c (OpensAlone k) m q = uncompared_sound q k
sound_step c {s} (Closes k) m q = less_folder q k _ (shut s k _ refl refl refl refl) _ _ _
sound_step c {s} (GoesOn k) m q = less_sound q (record {
  folders = folder_cases (FolderIsLess s _) k _ s.folders
      (record { from = λ x h. (InFolder k, h); was = λ r. r; site = λ r. refl; kept = λ r x h. h; opened = λ o n. absurd (n (inl refl)) })
      (λ j n. same_folder q _ (λ i u. inr u) j);
  streams = λ i x h. (InStream i, h);
  under_way = λ x h. (UnderWay, h);
  turn = omega arith;
  uncompared = λ i u. inr u;
})
sound_step c (KeeperStarts k) m q = q
sound_step c (Fills k) m q = less_else q _ _ _ _ _ (λ x h. (UnderWay, h))
sound_step c (IsRaised k) m q = less_else q _ _ _ _ _ (λ x h. (UnderWay, h))
sound_step c {s} (IsKilled k) m q = less_folder q k _ (shut s k _ refl refl refl refl) _ _ _
sound_step c {s} (MachineStarts k) m q = less_folder q k _ (unknown_less s k _ refl refl (λ x h. (InFolder k, h))) _ _ _
sound_step c (IsAsked r life n) m q = less_else q _ _ _ _ _ (λ x h. (UnderWay, h))
sound_step c (Serves k r) m q = less_folder q k _ (same_as q k _ refl refl refl refl) _ _ _
sound_step c (Gives k r) m q = less_folder q k _ (same_as q k _ refl refl refl refl) _ _ _
sound_step c {s} (Accepts k r) m q =
    let y = next_message (folder s k) r in
    let l : Keeps (folder s k) (accepting (folder s k) r) y = record { kept = refl; site = refl; remembered = refl; opened = refl } in
    sent_sound q (sends s q k _ y l s.turn m.0 refl (new_message (folder s k) r) tt (omega arith))
sound_step c (Refuses k r) m q = less_folder q k _ (same_as q k _ refl refl refl refl) _ _ _
sound_step c (TellsOk k r n) m q = less_else q _ _ _ _ _ (λ x h. (UnderWay, h))
sound_step c (TellsPublished k r n) m q = less_else q _ _ _ _ _ (λ x h. (UnderWay, h))
sound_step c (TellsNothing k r) m q = less_folder q k _ (same_as q k _ refl refl refl refl) _ _ _
sound_step c (TellsUnknown k r) m q = less_else q _ _ _ _ _ (λ x h. (UnderWay, h))
sound_step c (Yields i) m q = less_else q _ _ _ _ _ (λ x h. (UnderWay, h))
sound_step c (TakesBack i) m q = less_else q _ _ _ _ _ (λ x h. (UnderWay, h))
sound_step c {s} (Passes k to) m q =
    let y = next_pass (folder s k) to in
    let l : Keeps (folder s k) (with_packet_kept (folder s k) y) y = record { kept = refl; site = refl; remembered = refl; opened = refl } in
    sent_sound q (sends s q k _ y l _ m.0 refl (new_pass (folder s k) to m.1.0) (omega arith, omega arith, m.2) (omega arith))
sound_step c {s} (Appends k x) m q = less_streams q _ (stream_from s (sender x) (stream s (sender x) ++ x ∷ [])
    (λ z h. ⊎_elim (λ a. (InStream (sender x), a)) (λ e. (InFolder k, subst (λ v. Has v (folder s k).kept) (sym e) m.2))
    (push_cases z x (stream s (sender x)) h)))
sound_step c {s} (Sends k x) m q = less_else q _ _ _ _ _
    (λ z h. ⊎_elim (λ e. (InFolder k, subst (λ v. Has v (folder s k).kept) (sym e) m.2)) (λ old. (UnderWay, old)) h)
sound_step c {s} (Arrives x) m q = less_streams q _ (stream_from s (sender x) (stream s (sender x) ++ x ∷ [])
    (λ z h. ⊎_elim (λ a. (InStream (sender x), a)) (λ e. (UnderWay, subst (λ v. Has v s.under_way) (sym e) m.1))
    (push_cases z x (stream s (sender x)) h)))
sound_step c {s} (Reads k x) m q = less_folder q k _ (record {
  from = λ z h. ⊎_elim (λ a. (InFolder k, a)) (λ e. subst (IsSomewhere s) (sym e) (offered c s x m.2)) (push_cases z x (folder s k).kept h);
  was = λ r. r;
  site = λ r. refl;
  kept = λ r z h. reached_more (folder s k).site (folder s k).kept (x ∷ []) z h;
  opened = q.opened k;
}) _ _ _
sound_step c {s} (LosesEnd k n) m q = less_folder q k _ (unknown_less s k _ refl refl (λ x h. (InFolder k, has_take n x (folder s k).kept h))) _ _ _
sound_step c {s} (IsLost k) m q = less_folder q k _ (unknown_less s k _ refl refl (λ x h. absurd h)) _ _ _
sound_step c {s} (IsCopied k j) m q = less_folder q j _ (unknown_less s j _ refl refl (λ x h. (InFolder k, h))) _ _ _
sound_step c {s} (StreamLosesEnd i n) m q = less_streams q _ (stream_from s i (take n (stream s i)) (λ x h. (InStream i, has_take n x (stream s i) h)))
sound_step c ServerLosesAll m q = less_streams q _ (λ i x h. absurd h)
sound_step c {s} (Finds k x) m q = less_folder q k _ (unknown_less s k _ refl refl
    (λ z h. ⊎_elim (λ a. (InFolder k, a)) (λ e. subst (IsSomewhere s) (sym e) m.1) (push_cases z x (folder s k).kept h))) _ _ _
sound_step c {s} (Rebuilds k j) m q = less_folder q k _ (unknown_less s k _ refl refl (λ x h. (InFolder j, h))) _ _ _
sound_step c {s} (WritesAnew k) m q = less_streams q _ (stream_from s (folder s k).site _
    (λ x h. (InFolder k, has_filter (λ z. sender z == (folder s k).site) x (folder s k).kept h)))

sound_start : Sound shop_start
sound_start = record {
  once = λ h g x y a b e. absurd (nothing h x a);
  known = λ h x a. absurd (nothing h x a);
  whole = λ k r. gone r;
  opened = λ k o. gone o;
  one = λ k j a b e. gone a;
}
  where
    nothing : (h : PacketPlace) (x : ShopPacket) → Has x (there shop_start h) → ⊥
    nothing (InFolder k) x h = h
    nothing (InStream i) x h = h
    nothing UnderWay x h = h

pub sound_after : (c : Carrier) (s : Shop) (events : List ShopEvent) → AreSteps c s events → Sound s → Sound (after_steps s events)
sound_after c s [] m q = q
sound_after c s (e ∷ rest) m q = sound_after c (after_step s e) rest m.1 (sound_step c e m.0 q)

pub sound_run : (c : Carrier) (events : List ShopEvent) → AreSteps c shop_start events → Sound (after_steps shop_start events)
sound_run c events m = sound_after c shop_start events m sound_start

pub ids_once : IdsAreGivenOnce
ids_once c events m = (sound_run c events m).once
