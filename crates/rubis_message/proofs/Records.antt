-- The forms of requests and packets: each reads back what is written so, and takes nothing else.
use Rattle.std.proofs.Common.{◌≡◌, ℕ, ◌<◌, ◌≤◌, ◌^◌, Bool, true, false, cond, not, List, [], ◌∷◌, ◌++◌, refl, sym, ap, subst, ◌∙◌, arith, decimal}
use Rattle.std.specs.Prelude.{◌↔◌, ⊤, ◌==◌, nat_lt, Some, None, bytes_eq, codes, Decides, IfOk, IsErrOf, Result, Ok, Err}
use Rattle.std.specs.Cmp.Lexicographic.{bytes_decides}
use mathlib.Core.Bool.{true≢false}
use Rattle.std.proofs.lemmas.Bool.Decides.{Decides-eqb, nat_tests}
use Rattle.rubis_schema.specs.Ids.{IsId, id_text}
use Rattle.rubis_schema.specs.FieldForms.{IsName, IsNick, IsText}
use Rattle.rubis_schema.specs.declared.limits.TheConstants.{AMOUNT_MAX, CATEGORIES, CAT_MAX, COUNTED_MAX, COUNT_MAX, PASS_MAX, QUANTITY_MAX, TURN_MAX}
use Rattle.rubis_schema.specs.declared.listings.Listing.{Listing}
use Rattle.rubis_schema.specs.declared.listings.Listing.TheVariants as listing
use Rattle.rubis_shadow.specs.Shadows.{is_red, IsQuantity, IsAmount, IsNewItem, IsNewBid, IsPurchase, IsComment, InLimits, version_of}
use Rattle.rubis_shadow.specs.declared.shadows.Ask.TheVariants as ask
use Rattle.rubis_shadow.specs.declared.shadows.Shadow.{Shadow}
use Rattle.rubis_shadow.specs.declared.shadows.Shadow.TheVariants as shadow
use Rattle.rubis_clock.specs.declared.stamps.Stamp.{Stamp}
use Rattle.rubis_message.specs.Message.{Message, IsMessage}
use Rattle.rubis_message.specs.Grammar.{token_version, HasShadowTexts, IsListing, IsMessageAmong, IsPacket, IsRequest, IsStamp, IsToken, asked_close_fields}
use Rattle.rubis_message.specs.Grammar.{asked_rename_fields, asked_restock_fields, bid_fields, close_fields, comment_fields, item_fields, listing_fields}
use Rattle.rubis_message.specs.Grammar.{message_fields, message_record, packet_record, purchase_fields, request_record, rename_fields, restock_fields}
use Rattle.rubis_message.specs.Grammar.{shadow_fields, stamp_fields, token_fields, token_record}
use Rattle.rubis_message.specs.Readings.{followed_by, give, none, mapped, one, take_id, take_number, take_positive, agrees, listing_by, packet_of, request_by}
use Rattle.rubis_message.specs.Readings.{request_of, shadow_by, take_asked_close, take_asked_rename, take_asked_restock, take_bid, take_close, take_comment}
use Rattle.rubis_message.specs.Readings.{take_item, take_kind, take_listing, take_message, take_packet, take_purchase, take_rename, take_request, take_restock}
use Rattle.rubis_message.specs.Readings.{take_shadow, take_shown, take_stamp, take_token, all_shown, kind_of, kind_text, kinds, shown_of, shown_text}
use Rattle.rubis_message.specs.declared.faults.ReadFault.{ReadFault}
use Rattle.rubis_message.specs.declared.faults.ReadFault.TheVariants.{BadRecord}
use Rattle.rubis_message.specs.declared.kinds.RecordKind.{RecordKind}
use Rattle.rubis_message.specs.declared.kinds.RecordKind.TheVariants as kind
use Rattle.rubis_message.specs.declared.words.Shown.{Shown}
use Rattle.rubis_message.specs.declared.words.Shown.TheVariants as shown
use Rattle.rubis_message.specs.declared.requests.Request.{Request}
use Rattle.rubis_message.specs.declared.requests.Request.TheVariants as request
use Rattle.rubis_message.specs.declared.tokens.Token.{Token}
use Rattle.rubis_message.specs.declared.tokens.Packet.{Packet}
use Rattle.rubis_message.specs.declared.tokens.Packet.TheVariants as packet
use Rattle.rubis_schema.proofs.FieldLaws.{id_is, name_is, nick_is, rating_is, text_is}
use Rattle.rubis_message.proofs.Fields.{deps_is, winner_is}
use Rattle.rubis_message.proofs.Forms.{IsBehind, IsForm, alone, behind, by_word, check_back, check_only, given, in_words, made_back, made_only, said_is}
use Rattle.rubis_message.proofs.Forms.{number_form, one_is, one_value, positive_form, site_form, then_back, then_only, whole_back, whole_only}

-- ---- words

pub kind_form : IsForm (λ _. ⊤) (λ k. kind_text k ∷ []) take_kind
unfolding take_kind kind_of
kind_form = one_is (said_is kind_text kinds
    (elim [
      | kind.User ↦ refl
      | kind.Item ↦ refl
      | kind.Bid ↦ refl
      | kind.Buy ↦ refl
      | kind.Close ↦ refl
      | kind.Comment ↦ refl
      | kind.Pass ↦ refl
      | kind.List ↦ refl
      | kind.Restock ↦ refl
      | kind.Rename ↦ refl
    ]))

pub shown_form : IsForm (λ _. ⊤) (λ s. shown_text s ∷ []) take_shown
unfolding take_shown shown_of
shown_form = one_is (said_is shown_text all_shown
    (elim [
      | shown.Users ↦ refl
      | shown.Items ↦ refl
      | shown.Bids ↦ refl
      | shown.Purchases ↦ refl
      | shown.Comments ↦ refl
      | shown.Categories ↦ refl
      | shown.Log ↦ refl
      | shown.Misfits ↦ refl
      | shown.Tables ↦ refl
    ]))

-- ---- fields

cat_form : IsForm (λ n. n < CATEGORIES) (λ n. decimal n ∷ []) (take_number CAT_MAX)
cat_form = in_words (number_form CAT_MAX (omega arith)) _ (λ n h. omega (arith, h)) (λ n h. omega (arith, h))

count_form : IsForm (λ n. n ≤ COUNT_MAX) (λ n. decimal n ∷ []) (take_number COUNT_MAX)
count_form = number_form COUNT_MAX (omega arith)

quantity_form : IsForm IsQuantity (λ n. decimal n ∷ []) (take_positive QUANTITY_MAX)
quantity_form =
    in_words (positive_form QUANTITY_MAX (omega arith)) _ (λ n h. record { positive = h.1; small = h.0 })
    (λ n h. (h.small, h.positive))

amount_form : IsForm IsAmount (λ n. decimal n ∷ []) (take_positive AMOUNT_MAX)
amount_form =
    in_words (positive_form AMOUNT_MAX (omega arith)) _ (λ n h. record { positive = h.1; small = h.0 })
    (λ n h. (h.small, h.positive))

price_form : IsForm (λ n. n ≤ AMOUNT_MAX) (λ n. decimal n ∷ []) (take_number AMOUNT_MAX)
price_form = number_form AMOUNT_MAX (omega arith)

-- ---- records

module _ (sites : ℕ) (few : sites < 2 ^ 8) where
  id_form : IsForm (IsId sites) (λ id. id_text id ∷ []) (take_id sites)
  id_form = one_is (id_is sites few)

  pub item_form : IsForm (λ n. IsNewItem sites n × IsName n.name) item_fields (take_item sites)
  unfolding take_item
  item_form = record {
    back = λ n rest h.
        then_back id_form n.seller _ _ h.0.seller
        ∙ then_back (one_is name_is) n.name _ _ h.1
        ∙ then_back cat_form n.cat _ _ h.0.cat
        ∙ then_back quantity_form n.stock _ _ h.0.stock
        ∙ then_back amount_form n.start _ _ h.0.start
        ∙ then_back price_form n.price _ _ h.0.price;
    only = λ fields rest n e.
        then_only id_form _ fields rest n e (λ seller t0 h0 is0 e0.
        then_only (one_is name_is) _ t0 rest n e0 (λ name t1 h1 is1 e1.
        then_only cat_form _ t1 rest n e1 (λ cat t2 h2 is2 e2.
        then_only quantity_form _ t2 rest n e2 (λ stock t3 h3 is3 e3.
        then_only amount_form _ t3 rest n e3 (λ start t4 h4 is4 e4.
        then_only price_form _ t4 rest n e4 (λ price t5 h5 is5 e5.
        given (λ y more. (IsNewItem sites y × IsName y.name) × (fields ≡ item_fields y ++ more)) _ n t5 rest e5
        ((record { seller = h0; cat = h2; stock = h3; start = h4; price = h5 }, h1), cc)))))));
  }

  pub bid_form : IsForm (IsNewBid sites) bid_fields (take_bid sites)
  unfolding take_bid
  bid_form = record {
    back = λ b rest h.
        then_back id_form b.item _ _ h.item
        ∙ then_back id_form b.bidder _ _ h.bidder
        ∙ then_back amount_form b.amount _ _ h.amount;
    only = λ fields rest b e.
        then_only id_form _ fields rest b e (λ item t0 h0 is0 e0.
        then_only id_form _ t0 rest b e0 (λ bidder t1 h1 is1 e1.
        then_only amount_form _ t1 rest b e1 (λ amount t2 h2 is2 e2.
        given (λ y more. (IsNewBid sites y) × (fields ≡ bid_fields y ++ more)) _ b t2 rest e2
        (record { item = h0; bidder = h1; amount = h2 }, cc))));
  }

  pub purchase_form : IsForm (IsPurchase sites) purchase_fields (take_purchase sites)
  unfolding take_purchase
  purchase_form = record {
    back = λ x rest h.
        then_back id_form x.item _ _ h.item
        ∙ then_back id_form x.buyer _ _ h.buyer
        ∙ then_back quantity_form x.quantity _ _ h.quantity;
    only = λ fields rest x e.
        then_only id_form _ fields rest x e (λ item t0 h0 is0 e0.
        then_only id_form _ t0 rest x e0 (λ buyer t1 h1 is1 e1.
        then_only quantity_form _ t1 rest x e1 (λ quantity t2 h2 is2 e2.
        given (λ y more. (IsPurchase sites y) × (fields ≡ purchase_fields y ++ more)) _ x t2 rest e2
        (record { item = h0; buyer = h1; quantity = h2 }, cc))));
  }

  pub asked_close_form : IsForm (λ c. IsId sites c.item × IsId sites c.seller) asked_close_fields (take_asked_close sites)
  unfolding take_asked_close
  asked_close_form = record {
    back = λ c rest h.
        then_back id_form c.item _ _ h.0
        ∙ then_back id_form c.seller _ _ h.1;
    only = λ fields rest c e.
        then_only id_form _ fields rest c e (λ item t0 h0 is0 e0.
        then_only id_form _ t0 rest c e0 (λ seller t1 h1 is1 e1.
        given (λ y more. (IsId sites y.item × IsId sites y.seller) × (fields ≡ asked_close_fields y ++ more)) _ c t1 rest e1
        ((h0, h1), cc)));
  }

  pub close_form : IsForm (λ c. InLimits sites (shadow.Close c)) close_fields (take_close sites)
  unfolding take_close
  close_form = record {
    back = λ c rest h.
        then_back id_form c.item _ _ h.0
        ∙ then_back cat_form c.cat _ _ h.1
        ∙ then_back (one_is (winner_is sites few)) c.winner _ _ h.2;
    only = λ fields rest c e.
        then_only id_form _ fields rest c e (λ item t0 h0 is0 e0.
        then_only cat_form _ t0 rest c e0 (λ cat t1 h1 is1 e1.
        then_only (one_is (winner_is sites few)) _ t1 rest c e1 (λ winner t2 h2 is2 e2.
        given (λ y more. (InLimits sites (shadow.Close y)) × (fields ≡ close_fields y ++ more)) _ c t2 rest e2
        ((h0, h1, h2), cc))));
  }

  pub comment_form : IsForm (λ c. IsComment sites c × IsText c.text) comment_fields (take_comment sites)
  unfolding take_comment
  comment_form = record {
    back = λ c rest h.
        then_back id_form c.item _ _ h.0.item
        ∙ then_back id_form c.from _ _ h.0.from
        ∙ then_back id_form c.to _ _ h.0.to
        ∙ then_back (one_is rating_is) c.rating _ _ h.0.rating
        ∙ then_back (one_is text_is) c.text _ _ h.1;
    only = λ fields rest c e.
        then_only id_form _ fields rest c e (λ item t0 h0 is0 e0.
        then_only id_form _ t0 rest c e0 (λ from t1 h1 is1 e1.
        then_only id_form _ t1 rest c e1 (λ to t2 h2 is2 e2.
        then_only (one_is rating_is) _ t2 rest c e2 (λ rating t3 h3 is3 e3.
        then_only (one_is text_is) _ t3 rest c e3 (λ text t4 h4 is4 e4.
        given (λ y more. (IsComment sites y × IsText y.text) × (fields ≡ comment_fields y ++ more)) _ c t4 rest e4
        ((record { item = h0; from = h1; to = h2; rating = h3 }, h4), cc))))));
  }

  pub asked_restock_form : IsForm (λ r. IsId sites r.item × IsId sites r.seller × IsQuantity r.quantity) asked_restock_fields (take_asked_restock sites)
  unfolding take_asked_restock
  asked_restock_form = record {
    back = λ r rest h.
        then_back id_form r.item _ _ h.0
        ∙ then_back id_form r.seller _ _ h.1
        ∙ then_back quantity_form r.quantity _ _ h.2;
    only = λ fields rest r e.
        then_only id_form _ fields rest r e (λ item t0 h0 is0 e0.
        then_only id_form _ t0 rest r e0 (λ seller t1 h1 is1 e1.
        then_only quantity_form _ t1 rest r e1 (λ quantity t2 h2 is2 e2.
        given (λ y more. (IsId sites y.item × IsId sites y.seller × IsQuantity y.quantity) × (fields ≡ asked_restock_fields y ++ more)) _ r t2 rest e2
        ((h0, h1, h2), cc))));
  }

  pub restock_form : IsForm (λ r. IsId sites r.item × IsQuantity r.quantity) restock_fields (take_restock sites)
  unfolding take_restock
  restock_form = record {
    back = λ r rest h.
        then_back id_form r.item _ _ h.0
        ∙ then_back quantity_form r.quantity _ _ h.1;
    only = λ fields rest r e.
        then_only id_form _ fields rest r e (λ item t0 h0 is0 e0.
        then_only quantity_form _ t0 rest r e0 (λ quantity t1 h1 is1 e1.
        given (λ y more. (IsId sites y.item × IsQuantity y.quantity) × (fields ≡ restock_fields y ++ more)) _ r t1 rest e1
        ((h0, h1), cc)));
  }

  pub asked_rename_form : IsForm (λ r. IsId sites r.user × IsNick r.nick) asked_rename_fields (take_asked_rename sites)
  unfolding take_asked_rename
  asked_rename_form = record {
    back = λ r rest h.
        then_back id_form r.user _ _ h.0
        ∙ then_back (one_is nick_is) r.nick _ _ h.1;
    only = λ fields rest r e.
        then_only id_form _ fields rest r e (λ user t0 h0 is0 e0.
        then_only (one_is nick_is) _ t0 rest r e0 (λ nick t1 h1 is1 e1.
        given (λ y more. (IsId sites y.user × IsNick y.nick) × (fields ≡ asked_rename_fields y ++ more)) _ r t1 rest e1
        ((h0, h1), cc)));
  }

  differ : (a b : List ℕ) (t : Bool) → bytes_eq a b ≡ t → ¬ (a ≡ b) → not t ≡ true
  differ a b true e n = absurd (n ((bytes_decides a b).0 e))
  differ a b false e n = refl

  differing : (a b : List ℕ) (t : Bool) → bytes_eq a b ≡ t → not t ≡ true → ¬ (a ≡ b)
  differing a b true e n same = true≢false (sym n)
  differing a b false e n same = true≢false (sym ((bytes_decides a b).1 same) ∙ e)

  pub rename_form : IsForm (λ r. InLimits sites (shadow.Rename r) × (IsNick r.from × IsNick r.to)) rename_fields (take_rename sites)
  unfolding take_rename
  rename_form = record {
    back = λ r rest h.
        then_back id_form r.user _ _ h.0.0
        ∙ then_back (one_is nick_is) r.from _ _ h.1.0
        ∙ then_back (one_is nick_is) r.to _ _ h.1.1
        ∙ check_back _ rest _ (differ r.from r.to _ refl h.0.1);
    only = λ fields rest r e.
        then_only id_form _ fields rest r e (λ user t0 h0 is0 e0.
        then_only (one_is nick_is) _ t0 rest r e0 (λ from t1 h1 is1 e1.
        then_only (one_is nick_is) _ t1 rest r e1 (λ to t2 h2 is2 e2.
        let c = check_only _ t2 rest _ r e2 in
        given (λ y more. (InLimits sites (shadow.Rename y) × (IsNick y.from × IsNick y.to)) × (fields ≡ rename_fields y ++ more)) _ r t2 rest c.1
        (((h0, differing from to _ refl c.0), (h1, h2)), cc))));
  }

  -- ---- requests

  listing_behind : (k : Shown) → IsBehind (IsListing sites) listing_fields (shown_text k) (listing_by sites k)
  listing_behind shown.Users = alone _ _ _ listing.Users tt (λ more. refl)
  listing_behind shown.Items = behind cat_form listing.Items _ _ _ (λ x h. h) (λ x more. refl)
  listing_behind shown.Bids = behind id_form listing.Bids _ _ _ (λ x h. h) (λ x more. refl)
  listing_behind shown.Purchases = behind id_form listing.Purchases _ _ _ (λ x h. h) (λ x more. refl)
  listing_behind shown.Comments = behind id_form listing.Comments _ _ _ (λ x h. h) (λ x more. refl)
  listing_behind shown.Categories = alone _ _ _ listing.Categories tt (λ more. refl)
  listing_behind shown.Log = alone _ _ _ listing.Log tt (λ more. refl)
  listing_behind shown.Misfits = alone _ _ _ listing.Misfits tt (λ more. refl)
  listing_behind shown.Tables = alone _ _ _ listing.Tables tt (λ more. refl)

  listing_back : (x : Listing) (rest : List (List ℕ)) → IsListing sites x
      → take_listing sites (listing_fields x ++ rest) ≡ Some (x, rest)
  unfolding take_listing take_shown shown_of
  listing_back listing.Users rest h = refl
  listing_back (listing.Items x) rest h = made_back cat_form listing.Items x rest h
  listing_back (listing.Bids x) rest h = made_back id_form listing.Bids x rest h
  listing_back (listing.Purchases x) rest h = made_back id_form listing.Purchases x rest h
  listing_back (listing.Comments x) rest h = made_back id_form listing.Comments x rest h
  listing_back listing.Categories rest h = refl
  listing_back listing.Log rest h = refl
  listing_back listing.Misfits rest h = refl
  listing_back listing.Tables rest h = refl

  pub listing_form : IsForm (IsListing sites) listing_fields (take_listing sites)
  unfolding take_listing
  listing_form = by_word _ _ shown_text take_shown (listing_by sites) shown_form listing_behind listing_back

  pass_form : IsForm (λ n. n ≤ PASS_MAX) (λ n. decimal n ∷ []) (take_number PASS_MAX)
  pass_form = number_form PASS_MAX (omega arith)

  request_behind : (k : RecordKind) → IsBehind (IsRequest sites) request_record (kind_text k) (request_by sites k)
  request_behind kind.User = behind (one_is nick_is) (λ y. request.Ask (ask.User y)) _ _ _ (λ x h. (tt, h)) (λ x more. refl)
  request_behind kind.Item = behind item_form (λ y. request.Ask (ask.Item y)) _ _ _ (λ x h. (h.0, h.1)) (λ x more. refl)
  request_behind kind.Bid = behind bid_form (λ y. request.Ask (ask.Bid y)) _ _ _ (λ x h. (h, tt)) (λ x more. refl)
  request_behind kind.Buy = behind purchase_form (λ y. request.Ask (ask.Buy y)) _ _ _ (λ x h. (h, tt)) (λ x more. refl)
  request_behind kind.Close = behind asked_close_form (λ y. request.Ask (ask.Close y)) _ _ _ (λ x h. (h, tt)) (λ x more. refl)
  request_behind kind.Comment = behind comment_form (λ y. request.Ask (ask.Comment y)) _ _ _ (λ x h. (h.0, h.1)) (λ x more. refl)
  request_behind kind.Pass = behind pass_form request.Pass _ _ _ (λ x h. h) (λ x more. refl)
  request_behind kind.List = behind listing_form request.List _ _ _ (λ x h. h) (λ x more. refl)
  request_behind kind.Restock = behind asked_restock_form (λ y. request.Ask (ask.Restock y)) _ _ _ (λ x h. (h, tt)) (λ x more. refl)
  request_behind kind.Rename = behind asked_rename_form (λ y. request.Ask (ask.Rename y)) _ _ _ (λ x h. (h.0, h.1)) (λ x more. refl)

  request_back : (x : Request) (rest : List (List ℕ)) → IsRequest sites x
      → take_request sites (request_record x ++ rest) ≡ Some (x, rest)
  unfolding take_request take_kind kind_of
  request_back (request.Ask (ask.User x)) rest h = made_back (one_is nick_is) (λ y. request.Ask (ask.User y)) x rest h.1
  request_back (request.Ask (ask.Item x)) rest h = made_back item_form (λ y. request.Ask (ask.Item y)) x rest (h.0, h.1)
  request_back (request.Ask (ask.Bid x)) rest h = made_back bid_form (λ y. request.Ask (ask.Bid y)) x rest h.0
  request_back (request.Ask (ask.Buy x)) rest h = made_back purchase_form (λ y. request.Ask (ask.Buy y)) x rest h.0
  request_back (request.Ask (ask.Close x)) rest h = made_back asked_close_form (λ y. request.Ask (ask.Close y)) x rest h.0
  request_back (request.Ask (ask.Comment x)) rest h = made_back comment_form (λ y. request.Ask (ask.Comment y)) x rest (h.0, h.1)
  request_back (request.Ask (ask.Restock x)) rest h = made_back asked_restock_form (λ y. request.Ask (ask.Restock y)) x rest h.0
  request_back (request.Ask (ask.Rename x)) rest h = made_back asked_rename_form (λ y. request.Ask (ask.Rename y)) x rest (h.0, h.1)
  request_back (request.Pass to) rest h = made_back pass_form request.Pass to rest h
  request_back (request.List l) rest h = made_back listing_form request.List l rest h

  pub request_form : IsForm (IsRequest sites) request_record (take_request sites)
  unfolding take_request
  request_form = by_word _ _ kind_text take_kind (request_by sites) kind_form request_behind request_back

  -- ---- packets

  shadow_behind : (k : RecordKind) → IsBehind (λ s. InLimits sites s × HasShadowTexts s) shadow_fields (kind_text k) (shadow_by sites k)
  shadow_behind kind.User = behind (one_is nick_is) shadow.User _ _ _ (λ x h. (tt, h)) (λ x more. refl)
  shadow_behind kind.Item = behind item_form shadow.Item _ _ _ (λ x h. (h.0, h.1)) (λ x more. refl)
  shadow_behind kind.Bid = behind bid_form shadow.Bid _ _ _ (λ x h. (h, tt)) (λ x more. refl)
  shadow_behind kind.Buy = behind purchase_form shadow.Buy _ _ _ (λ x h. (h, tt)) (λ x more. refl)
  shadow_behind kind.Close = behind close_form shadow.Close _ _ _ (λ x h. (h, tt)) (λ x more. refl)
  shadow_behind kind.Comment = behind comment_form shadow.Comment _ _ _ (λ x h. (h.0, h.1)) (λ x more. refl)
  shadow_behind kind.Pass = λ fields rest x e. absurd cc
  shadow_behind kind.List = λ fields rest x e. absurd cc
  shadow_behind kind.Restock = behind restock_form shadow.Restock _ _ _ (λ x h. (h, tt)) (λ x more. refl)
  shadow_behind kind.Rename = behind rename_form shadow.Rename _ _ _ (λ x h. (h.0, h.1)) (λ x more. refl)

  shadow_back : (x : Shadow) (rest : List (List ℕ)) → InLimits sites x × HasShadowTexts x
      → take_shadow sites (shadow_fields x ++ rest) ≡ Some (x, rest)
  unfolding take_shadow take_kind kind_of
  shadow_back (shadow.User x) rest h = made_back (one_is nick_is) shadow.User x rest h.1
  shadow_back (shadow.Item x) rest h = made_back item_form shadow.Item x rest (h.0, h.1)
  shadow_back (shadow.Bid x) rest h = made_back bid_form shadow.Bid x rest h.0
  shadow_back (shadow.Buy x) rest h = made_back purchase_form shadow.Buy x rest h.0
  shadow_back (shadow.Close x) rest h = made_back close_form shadow.Close x rest h.0
  shadow_back (shadow.Comment x) rest h = made_back comment_form shadow.Comment x rest (h.0, h.1)
  shadow_back (shadow.Restock x) rest h = made_back restock_form shadow.Restock x rest h.0
  shadow_back (shadow.Rename x) rest h = made_back rename_form shadow.Rename x rest (h.0, h.1)

  pub shadow_form : IsForm (λ s. InLimits sites s × HasShadowTexts s) shadow_fields (take_shadow sites)
  unfolding take_shadow
  shadow_form = by_word _ _ kind_text take_kind (shadow_by sites) kind_form shadow_behind shadow_back

  -- ---- stamps
  pub stamp_form : IsForm (IsStamp sites) stamp_fields (take_stamp sites)
  unfolding take_stamp
  stamp_form = record {
    back = λ s rest h.
        then_back (site_form sites few) s.id.site _ _ h.id.site
        ∙ then_back quantity_form s.id.seq _ _ (record { positive = h.id.positive; small = h.id.small })
        ∙ then_back count_form s.red _ _ h.red
        ∙ then_back (one_is (deps_is sites)) s.deps _ _ (omega (arith, h.id.site), (h.counted, h.counts))
        ∙ check_back _ rest _ ((Decides-eqb _ _).1 h.own);
    only = λ fields rest s e.
        then_only (site_form sites few) _ fields rest s e (λ site t0 h0 is0 e0.
        then_only quantity_form _ t0 rest s e0 (λ seq t1 h1 is1 e1.
        then_only count_form _ t1 rest s e1 (λ red t2 h2 is2 e2.
        then_only (one_is (deps_is sites)) _ t2 rest s e2 (λ deps t3 h3 is3 e3.
        let c = check_only _ t3 rest _ s e3 in
        given (λ y more. IsStamp sites y × (fields ≡ stamp_fields y ++ more)) _ s t3 rest c.1 (
          record {
            counted = h3.1.0;
            id = record { site = h0; positive = h1.positive; small = h1.small };
            own = (Decides-eqb _ _).0 c.0;
            counts = h3.1.1;
            red = h2;
          },
          cc,
        )))));
  }

  agrees_by : (b : Bool) (red : ℕ) → Decides (cond b (nat_lt 0 red) (red == 0)) (b ≡ nat_lt 0 red)
  agrees_by true red = ((λ e. sym e), (λ e. sym e))
  agrees_by false red = ((λ e. grind (arith, nat_tests)), (λ e. grind (arith, nat_tests)))

  stamp_in : (m : Message) → IsMessageAmong sites m → IsStamp sites m.stamp
  stamp_in m h = record {
    counted = h.1;
    id = subst (λ n. IsId n m.stamp.id) h.1 h.0.id;
    own = h.0.own;
    counts = h.0.counts;
    red = h.0.red;
  }

  pub in_message : (m : Message) → sites ≤ COUNTED_MAX → IsStamp sites m.stamp → InLimits sites m.shadow
      → is_red m.shadow ≡ nat_lt 0 m.stamp.red → IsMessage m
  in_message m top s l colour = record {
    sites = omega (arith, s.counted, top);
    id = subst (λ n. IsId n m.stamp.id) (sym s.counted) s.id;
    own = s.own;
    counts = s.counts;
    red = s.red;
    colour = colour;
    shadow = subst (λ n. InLimits n m.shadow) (sym s.counted) l;
  }

  -- a message among `sites` sites, of this version
  abbrev IsMessageIn : List ℕ → Message → Type 0
  IsMessageIn version m = IsMessageAmong sites m × (version ≡ version_of m.shadow)

  message_back : (version : List ℕ) (m : Message) (rest : List (List ℕ)) → IsMessageIn version m
      → take_message sites version (message_fields m ++ rest) ≡ Some (m, rest)
  unfolding take_message
  message_back version m rest h =
      then_back stamp_form m.stamp _ _ (stamp_in m h.0)
      ∙ then_back shadow_form m.shadow _ _ (subst (λ n. InLimits n m.shadow) h.0.1 h.0.0.shadow, h.0.2)
      ∙ check_back _ rest _ ((bytes_decides version (version_of m.shadow)).1 h.1)
      ∙ check_back _ rest _ ((agrees_by (is_red m.shadow) m.stamp.red).1 h.0.0.colour)

  message_form : sites ≤ COUNTED_MAX → (version : List ℕ)
      → IsForm (IsMessageIn version) message_fields (take_message sites version)
  unfolding take_message
  message_form top version = record {
    back = message_back version;
    only = λ fields rest m e.
        then_only stamp_form _ fields rest m e (λ stamp t0 h0 is0 e0.
        then_only shadow_form _ t0 rest m e0 (λ shadow t1 h1 is1 e1.
        let v = check_only _ t1 rest _ m e1 in
        let c = check_only _ t1 rest _ m v.1 in
        let colour = (agrees_by (is_red shadow) stamp.red).0 c.0 in
        given (λ y more. IsMessageIn version y × (fields ≡ message_fields y ++ more)) _ m t1 rest c.1 (
          (
            (in_message (record { stamp = stamp; shadow = shadow }) top h0 h1.0 colour, h0.counted, h1.1),
            (bytes_decides version (version_of shadow)).0 v.0,
          ),
          cc,
        )));
  }

  abbrev IsTokenIn : List ℕ → Token → Type 0
  IsTokenIn version t = IsToken sites t × (version ≡ token_version)

  token_form : (version : List ℕ) → IsForm (IsTokenIn version) token_fields (take_token sites version)
  unfolding take_token
  token_form version = record {
    back = λ t rest h.
        check_back _ _ _ ((bytes_decides version token_version).1 h.1)
        ∙ then_back (number_form TURN_MAX (omega arith)) t.turn _ _ h.0.turn
        ∙ then_back (site_form sites few) t.to _ _ h.0.to
        ∙ then_back count_form t.issued _ _ h.0.issued;
    only = λ fields rest t e.
        let v = check_only _ fields rest _ t e in
        then_only (number_form TURN_MAX (omega arith)) _ fields rest t v.1 (λ turn t0 h0 is0 e0.
        then_only (site_form sites few) _ t0 rest t e0 (λ to t1 h1 is1 e1.
        then_only count_form _ t1 rest t e1 (λ issued t2 h2 is2 e2.
        given (λ y more. IsTokenIn version y × (fields ≡ token_fields y ++ more)) _ t t2 rest e2
        ((record { turn = h0; to = h1; issued = h2 }, (bytes_decides version token_version).0 v.0), cc))));
  }

  abbrev IsSent : List ℕ → List ℕ → List (List ℕ) → Packet → List (List ℕ) → Type 0
  IsSent word version fields p rest = IsPacket sites p × (word ∷ version ∷ fields ≡ packet_record p ++ rest)

  packet_behind : sites ≤ COUNTED_MAX → (word version : List ℕ) (fields rest : List (List ℕ)) (p : Packet) (a b : Bool)
      → bytes_eq word (codes "msg") ≡ a → bytes_eq word (codes "token") ≡ b
      → cond a (mapped packet.Msg (take_message sites version))
      (cond b (mapped packet.Token (take_token sites version)) none) fields ≡ Some (p, rest) → IsSent word version fields p rest
  packet_behind top word version fields rest p true b says other e =
      made_only (message_form top version) packet.Msg (IsSent word version fields) fields rest p e
      (λ m more h is. (h.0, (λ i. (bytes_decides word (codes "msg")).0 says i ∷ h.1 i ∷ is i)))
  packet_behind top word version fields rest p false true says other e =
      made_only (token_form version) packet.Token (IsSent word version fields) fields rest p e
      (λ t more h is. (h.0, (λ i. (bytes_decides word (codes "token")).0 other i ∷ h.1 i ∷ is i)))
  packet_behind top word version fields rest p false false says other e = absurd cc

  field_form : IsForm (λ (field : List ℕ). ⊤) (λ field. field ∷ []) (one Some)
  field_form = one_is (record { back = λ x h. refl; only = λ field x e. let same : field ≡ x = cc in (tt, same) })

  packet_back : (p : Packet) (rest : List (List ℕ)) → IsPacket sites p
      → take_packet sites (packet_record p ++ rest) ≡ Some (p, rest)
  unfolding take_packet
  packet_back (packet.Msg m) rest h =
      ap (λ o. followed_by o (λ x. give (packet.Msg x))) (message_back (version_of m.shadow) m rest (h, refl))
  packet_back (packet.Token t) rest h = made_back (token_form token_version) packet.Token t rest (h, refl)

  pub packet_form : sites ≤ COUNTED_MAX → IsForm (IsPacket sites) packet_record (take_packet sites)
  unfolding take_packet
  packet_form top = record {
    back = packet_back;
    only = λ fields rest p e.
        then_only field_form _ fields rest p e (λ word t0 h0 is0 e0.
        then_only field_form _ t0 rest p e0 (λ version t1 h1 is1 e1.
        let w = packet_behind top word version t1 rest p _ _ refl refl e1 in
        (w.0, is0 ∙ ap (λ t. word ∷ t) is1 ∙ w.1)));
  }

  -- ---- what the readers promise

  pub one_request : (q r : Request) → IsRequest sites q → IsRequest sites r → request_record q ≡ request_record r → q ≡ r
  one_request = one_value (IsRequest sites) request_record (take_request sites) request_back

  pub one_packet : (p q : Packet) → IsPacket sites p → IsPacket sites q → packet_record p ≡ packet_record q → p ≡ q
  one_packet = one_value (IsPacket sites) packet_record (take_packet sites) packet_back

  pub request_is : (fields : List (List ℕ)) (r : Request)
      → (request_of sites fields ≡ Some r) ↔ (IsRequest sites r × (fields ≡ request_record r))
  unfolding request_of
  request_is fields r = (whole_only request_form fields r, λ h. whole_back request_form fields r h.0 h.1)

  pub no_request : (fields : List (List ℕ)) → request_of sites fields ≡ None → (r : Request) → IsRequest sites r
      → fields ≡ request_record r → ⊥
  no_request fields none r h is = let back = (request_is fields r).1 (h, is) in absurd cc

  -- what was read of these fields, or why nothing was
  pub request_read : (fields left : List (List ℕ)) (result : Result Request ReadFault) → left ≡ fields
      → IfOk result (λ r. request_of sites left ≡ Some r) → IfOk result (λ r. IsRequest sites r × (fields ≡ request_record r))
  request_read fields left (Ok r) same some = (request_is fields r).0 (subst (λ f. request_of sites f ≡ Some r) same some)
  request_read fields left (Err e) same some = tt

  pub none_read : (fields left : List (List ℕ)) (result : Result Request ReadFault) → left ≡ fields
      → (IsErrOf result BadRecord → request_of sites left ≡ None) → IsErrOf result BadRecord → (r : Request) → IsRequest sites r → fields ≡ request_record r → ⊥
  none_read fields left result same none bad = no_request fields (subst (λ f. request_of sites f ≡ None) same (none bad))

  pub packet_is : sites ≤ COUNTED_MAX → (fields : List (List ℕ)) (p : Packet)
      → (packet_of sites fields ≡ Some p) ↔ (IsPacket sites p × (fields ≡ packet_record p))
  unfolding packet_of
  packet_is top fields p = (whole_only (packet_form top) fields p, λ h. whole_back (packet_form top) fields p h.0 h.1)

  pub no_packet : sites ≤ COUNTED_MAX → (fields : List (List ℕ)) → packet_of sites fields ≡ None → (p : Packet)
      → IsPacket sites p → fields ≡ packet_record p → ⊥
  no_packet top fields none p h is = let back = (packet_is top fields p).1 (h, is) in absurd cc

  pub message_meets : sites ≤ COUNTED_MAX → (fields behind rest : List (List ℕ)) (stamp : Stamp) (shadow : Shadow)
      → take_stamp sites fields ≡ Some (stamp, behind) → take_shadow sites behind ≡ Some (shadow, rest)
      → agrees shadow stamp.red ≡ true → IsMessage (record { stamp = stamp; shadow = shadow })
  message_meets top fields behind rest stamp shadow s t same =
      in_message (record { stamp = stamp; shadow = shadow }) top (stamp_form.only fields behind stamp s).0
      (shadow_form.only behind rest shadow t).0.0 ((agrees_by (is_red shadow) stamp.red).0 same)

-- the first words differ
no_message : (r : Request) (m : Message) → ¬ (request_record r ≡ message_record m)
no_message (request.Ask (ask.User n)) m e = absurd cc
no_message r m e = absurd cc

no_token : (r : Request) (t : Token) → ¬ (request_record r ≡ token_record t)
no_token (request.Ask (ask.User n)) t e = absurd cc
no_token r t e = absurd cc

pub apart : (r : Request) (p : Packet) → ¬ (request_record r ≡ packet_record p)
apart r (packet.Msg m) e = no_message r m e
apart r (packet.Token t) e = no_token r t e
