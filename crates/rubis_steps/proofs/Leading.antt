-- What the code changes is what the model does: folders and streams by number, of which those that aren't listed have nothing.
use Rattle.std.proofs.Common.{◌≡◌, ◌∙◌, ◌≤◌, ◌<◌, ◌+◌, ◌++◌, ◌∷◌, [], ℕ, List, refl, sym, ap, ap₂, arith, length, get_or, set, map, drop, take, ◌-◌}
use Rattle.std.specs.Prelude.{zero, suc, ◌&&◌, ◌||◌, ◌==◌, true, false, Bool}
use Rattle.std.specs.Global.{Vec}
use Rattle.std.specs.Vec.{with_item}
use Rattle.std.specs.List.{list_all, list_any}
use Rattle.std.proofs.lemmas.List.{drop-set-lt, drop_more, get_or-map, get_or_past, length-map, map-set, map_push, take_more, take_more_set}
use Rattle.std.proofs.lemmas.Grind.{drop_more_same}
use Rattle.rubis_carrier.specs.declared.values.ShopPacket.{ShopPacket}
use Rattle.rubis_carrier.specs.declared.values.ShopRequest.{ShopRequest}
use Rattle.rubis_carrier.specs.Shops.{Folder, empty, folder, folder_in, put, put_folder, put_stream, request_in, stream_in, with_folder, with_stream, sender}
use Rattle.rubis_carrier.specs.Events.{forgotten, of_others, opened_site, opening_folder, are_reached, has_packet, is_offered, reaches_all}
use Rattle.rubis_carrier.specs.declared.values.Carrier.TheVariants.{Files}
use Rattle.rubis_steps.specs.Views.{folders_reached, in_own_folder, is_found, streams_reached, folder_at, folder_of, folders_of, packets_seen, shop_of, stream_at}
use Rattle.rubis_steps.specs.Views.{streams_of}
use Rattle.rubis_carrier.proofs.PacketFacts.{forget_in}
use Rattle.rubis_steps.specs.declared.folders.Folder.{Folder as CodeFolder}
use Rattle.rubis_steps.specs.declared.shops.Shop.{Shop as CodeShop}
use Rattle.rubis_steps.specs.Answers.{HasListed, IsStreamListed}

-- ---- any list by number

module _ {A : Type 0} where
  -- where it is listed, it is put there; and one more that has nothing changes nothing
  pub put_set : (nothing : ℕ → A) (k : ℕ) (x : A) (xs : List A) → k < length xs → put nothing k x xs ≡ set xs k x
  put_set nothing zero x [] l = absurd (omega (arith, l))
  put_set nothing zero x (y ∷ ys) l = refl
  put_set nothing (suc k) x [] l = absurd (omega (arith, l))
  put_set nothing (suc k) x (y ∷ ys) l = ap (λ zs. y ∷ zs) (put_set (λ j. nothing (suc j)) k x ys (omega (arith, l)))

  pub put_more : (nothing : ℕ → A) (k : ℕ) (x : A) (xs : List A) → length xs ≤ k → put nothing k x (xs ++ nothing (length xs) ∷ []) ≡ put nothing k x xs
  put_more nothing zero x [] l = refl
  put_more nothing (suc k) x [] l = refl
  put_more nothing zero x (y ∷ ys) l = absurd (omega (arith, l))
  put_more nothing (suc k) x (y ∷ ys) l = ap (λ zs. y ∷ zs) (put_more (λ j. nothing (suc j)) k x ys (omega (arith, l)))

  pub at_more : (nothing : ℕ → A) (k : ℕ) (xs : List A) → get_or (xs ++ nothing (length xs) ∷ []) k (nothing k) ≡ get_or xs k (nothing k)
  at_more nothing zero [] = refl
  at_more nothing (suc k) [] = refl
  at_more nothing zero (y ∷ ys) = refl
  at_more nothing (suc k) (y ∷ ys) = at_more (λ j. nothing (suc j)) k ys

-- all, and some, of what stands for each
pub all_map : {A B : Type 0} (f : A → B) (q : B → Bool) (xs : List A) → list_all q (map f xs) ≡ list_all (λ x. q (f x)) xs
all_map f q [] = refl
all_map f q (x ∷ xs) = ap (λ b. q (f x) && b) (all_map f q xs)

pub any_map : {A B : Type 0} (f : A → B) (q : B → Bool) (xs : List A) → list_any q (map f xs) ≡ list_any (λ x. q (f x)) xs
any_map f q [] = refl
any_map f q (x ∷ xs) = ap (λ b. q (f x) || b) (any_map f q xs)

pub second : {a b r : Bool} → a ≡ true → r ≡ b → r ≡ (a && b)
second {b} e f = f ∙ ap (λ t. t && b) (sym e)

pub first_false : {a : Bool} (b : Bool) {r : Bool} → a ≡ false → r ≡ a → r ≡ (a && b)
first_false b e f = f ∙ e ∙ ap (λ t. t && b) (sym e)

pub some_first : {a : Bool} (b : Bool) {r : Bool} → a ≡ true → r ≡ a → r ≡ (a || b)
some_first b e f = f ∙ e ∙ ap (λ t. t || b) (sym e)

pub none_first : {a b r : Bool} → a ≡ false → r ≡ b → r ≡ (a || b)
none_first {b} e f = f ∙ ap (λ t. t || b) (sym e)

-- ---- what stands somewhere

pub compared_is : (s : CodeShop) (i number turn : ℕ) → (folders_reached i number turn s.folders.items && streams_reached i number turn s.streams.items) ≡
    reaches_all i number turn (shop_of s)
compared_is s i number turn = sym (ap₂ (λ a b. a && b) (all_map folder_of (λ f. are_reached i number turn f.kept) s.folders.items)
    (all_map packets_seen (λ xs. are_reached i number turn xs) s.streams.items))

pub offered_is : (s : CodeShop) (x : ShopPacket) → in_own_folder x s.folders.items ≡ is_offered Files (shop_of s) x
offered_is s x = sym (any_map folder_of (λ f. (f.site == sender x) && has_packet x f.kept) s.folders.items)

pub found_is : (s : CodeShop) (x : ShopPacket) → is_found x s.folders.items s.streams.items ≡
    (list_any (λ f. has_packet x f.kept) (shop_of s).folders || list_any (λ xs. has_packet x xs) (shop_of s).streams)
found_is s x = sym (ap₂ (λ a b. a || b) (any_map folder_of (λ f. has_packet x f.kept) s.folders.items)
    (any_map packets_seen (λ xs. has_packet x xs) s.streams.items))

-- ---- folders and streams

pub is_listed : (s : CodeShop) (k : ℕ) → k < length s.folders.items → HasListed k s s
is_listed s k l = record { listed = l; here = refl; same = λ f. refl }

-- one more folder
pub list_more : (init old : CodeShop) (k : ℕ) (fs : Vec CodeFolder) (g : CodeFolder) → fs.items ≡ old.folders.items ++ g ∷ []
    → folder_of g ≡ empty (length old.folders.items) → length old.folders.items ≤ k
    → ((f : Folder) → with_folder k f (shop_of old) ≡ with_folder k f (shop_of init)) → folder_at old k ≡ folder_at init k
    → ((f : Folder) → with_folder k f (shop_of (record old { folders = fs })) ≡ with_folder k f (shop_of init)) ×
    (folder_at (record old { folders = fs }) k ≡ folder_at init k)
list_more init old k fs g e empty_is l same here =
    let pushed : map folder_of fs.items ≡ folders_of old.folders ++ empty (length (folders_of old.folders)) ∷ [] =
    ap (map folder_of) e ∙ map_push folder_of old.folders.items g ∙ ap (λ x. folders_of old.folders ++ x ∷ [])
    (empty_is ∙ ap empty (sym (length-map old.folders.items folder_of))) in (
      λ f. ap (λ gs. record (shop_of old) { folders = put_folder k f gs }) pushed
          ∙ ap (λ gs. record (shop_of old) { folders = gs })
          (put_more empty k f (folders_of old.folders) (omega (arith, l, length-map old.folders.items folder_of)))
          ∙ same f,
      ap (λ gs. folder_in gs k) pushed ∙ at_more empty k (folders_of old.folders) ∙ here,
    )

pub stream_list_more : (init old : CodeShop) (i : ℕ) (xs : Vec (Vec ShopPacket)) (v : Vec ShopPacket) → xs.items ≡ old.streams.items ++ v ∷ [] → v.items ≡ []
    → length old.streams.items ≤ i → ((ys : List ShopPacket) → with_stream i ys (shop_of old) ≡ with_stream i ys (shop_of init))
    → stream_at old i ≡ stream_at init i → ((ys : List ShopPacket) → with_stream i ys (shop_of (record old { streams = xs })) ≡ with_stream i ys (shop_of init))
    × (stream_at (record old { streams = xs }) i ≡ stream_at init i)
stream_list_more init old i xs v e none l same here =
    let pushed : map packets_seen xs.items ≡ streams_of old.streams ++ [] ∷ [] =
    ap (map packets_seen) e ∙ map_push packets_seen old.streams.items v ∙ ap (λ x. streams_of old.streams ++ x ∷ []) none in (
      λ ys. ap (λ zs. record (shop_of old) { streams = put_stream i ys zs }) pushed
          ∙ ap (λ zs. record (shop_of old) { streams = zs })
          (put_more (λ j. []) i ys (streams_of old.streams) (omega (arith, l, length-map old.streams.items packets_seen)))
          ∙ same ys,
      ap (λ zs. stream_in zs i) pushed ∙ at_more (λ j. []) i (streams_of old.streams) ∙ here,
    )

-- what stands there
pub folder_read : (fs : List CodeFolder) (k : ℕ) {f : CodeFolder} → k < length fs → f ≡ get_or fs k f → folder_in (map folder_of fs) k ≡ folder_of f
folder_read fs k {f} lt read = get_or-map folder_of fs k f (empty k) lt ∙ ap folder_of (sym read)

pub folder_past : (fs : List CodeFolder) (k : ℕ) → length fs ≤ k → folder_in (map folder_of fs) k ≡ empty k
folder_past fs k out = get_or_past (map folder_of fs) k (empty k) (omega (arith, length-map fs folder_of, out))

pub stream_read : (xs : List (Vec ShopPacket)) (i : ℕ) {v : Vec ShopPacket} → i < length xs → v ≡ get_or xs i v → stream_in (map packets_seen xs) i ≡ v.items
stream_read xs i {v} lt read = get_or-map packets_seen xs i v [] lt ∙ ap packets_seen (sym read)

-- a folder that is listed is replaced
pub replaced_is : {old mid : CodeShop} {k : ℕ} {f : CodeFolder} (g : CodeFolder) (F : Folder → Folder) → HasListed k old mid → f ≡ get_or mid.folders.items k f
    → folder_of g ≡ F (folder_of f) → shop_of (record mid { folders = with_item mid.folders k g }) ≡ with_folder k (F (folder_at old k)) (shop_of old)
replaced_is {old} {mid} {k} {f} g F l read e =
    let fs = mid.folders.items in
    let its : folder_at mid k ≡ folder_of f = folder_read fs k l.listed read in
    ap (λ gs. record (shop_of mid) { folders = gs })
    (map-set folder_of fs k g ∙ sym (put_set empty k (folder_of g) (map folder_of fs) (omega (arith, length-map fs folder_of, l.listed))))
    ∙ ap (λ h. with_folder k h (shop_of mid)) (e ∙ ap F (sym its ∙ l.here)) ∙ l.same (F (folder_at old k))

-- and a stream
pub stream_replaced : {old mid : CodeShop} {i : ℕ} {v : Vec ShopPacket} (w : Vec ShopPacket) (F : List ShopPacket → List ShopPacket) → IsStreamListed i old mid
    → v ≡ get_or mid.streams.items i v → w.items ≡ F v.items → shop_of (record mid { streams = with_item mid.streams i w }) ≡ with_stream i
    (F (stream_at old i)) (shop_of old)
stream_replaced {old} {mid} {i} {v} w F l read e =
    let xs = mid.streams.items in
    let its : stream_at mid i ≡ v.items = stream_read xs i l.listed read in
    ap (λ zs. record (shop_of mid) { streams = zs })
    (map-set packets_seen xs i w ∙ sym (put_set (λ j. []) i w.items (map packets_seen xs) (omega (arith, length-map xs packets_seen, l.listed))))
    ∙ ap (λ h. with_stream i h (shop_of mid)) (e ∙ ap F (sym its ∙ l.here)) ∙ l.same (F (stream_at old i))

-- ---- a folder opens

-- all folders of the site were forgotten, and what was under way of it; that one was listed, and opens
pub opens_is : (old : CodeShop) {first mid : CodeShop} {k : ℕ} {f : CodeFolder} (g : CodeFolder) → shop_of first ≡ record (shop_of old) {
  folders = map (forgotten (folder_at old k).site) (folders_of old.folders);
  under_way = of_others (folder_at old k).site old.under_way.items;
} → HasListed k first mid
    → f ≡ get_or mid.folders.items k f → folder_of g ≡ opened_site (folder_of f) → shop_of (record mid { folders = with_item mid.folders k g }) ≡ opening_folder k
    (shop_of old)
opens_is old {k} g e l read is =
    replaced_is g opened_site l read is ∙ ap (λ s. with_folder k (opened_site (folder s k)) s) e
    ∙ ap (λ h. record (shop_of old) {
      folders = put_folder k (opened_site h) (map (forgotten (folder_at old k).site) (folders_of old.folders));
      under_way = of_others (folder_at old k).site old.under_way.items;
    }) (forget_in (folder_at old k).site (folders_of old.folders) k)

-- ---- asks

pub request_read : (rs : List ShopRequest) (r : ℕ) {q : ShopRequest} → r - 1 < length rs → ¬ (r ≡ 0) → q ≡ get_or rs (r - 1) q → request_in rs r ≡ q
request_read rs zero lt n read = absurd (n refl)
request_read rs (suc r) {q} lt n read =
    let e : suc r - 1 ≡ r = omega arith in
    let lt' : r < length rs = omega (arith, lt, e) in
    get_or_any rs r _ q lt' ∙ sym (read ∙ ap (λ j. get_or rs j q) e)
  where
    get_or_any : (rs : List ShopRequest) (r : ℕ) (a b : ShopRequest) → r < length rs → get_or rs r a ≡ get_or rs r b
    get_or_any [] r a b l = absurd (omega (arith, l))
    get_or_any (x ∷ rs) zero a b l = refl
    get_or_any (x ∷ rs) (suc r) a b l = get_or_any rs r a b (omega (arith, l))

-- ---- all folders of a site are forgotten

-- one folder more
pub forget_more : (i : ℕ) (init fs : List CodeFolder) (at : ℕ) (f g : CodeFolder) → at < length fs → length fs ≡ length init → f ≡ get_or fs at f
    → folder_of g ≡ forgotten i (folder_of f) → map folder_of (take at fs) ≡ map (forgotten i) (map folder_of (take at init)) → drop at fs ≡ drop at init
    → (map folder_of (take (at + 1) (set fs at g)) ≡ map (forgotten i) (map folder_of (take (at + 1) init))) ×
    (drop (at + 1) (set fs at g) ≡ drop (at + 1) init)
forget_more i init fs at f g lt many read e before rest =
    let same : get_or init at f ≡ f =
    ap (λ zs. get_or zs 0 f) (sym (drop_more init at f (omega (arith, lt, many))) ∙ sym rest ∙ drop_more fs at f lt) ∙ sym read in (
      ap (map folder_of) (take_more_set fs at g lt) ∙ map_push folder_of (take at fs) g ∙ ap (λ zs. zs ++ folder_of g ∷ []) before
          ∙ ap (λ z. map (forgotten i) (map folder_of (take at init)) ++ z ∷ []) (e ∙ ap (λ x. forgotten i (folder_of x)) (sym same))
          ∙ sym (map_push (forgotten i) (map folder_of (take at init)) (folder_of (get_or init at f)))
          ∙ ap (map (forgotten i)) (sym (map_push folder_of (take at init) (get_or init at f)))
          ∙ ap (λ zs. map (forgotten i) (map folder_of zs)) (sym (take_more init at f (omega (arith, lt, many)))),
      drop-set-lt (at + 1) fs at g (omega arith) ∙ drop_more_same fs init at rest,
    )
