-- Two messages are the same if and only if `==` says so.
use Rattle.std.specs.Prelude.{◌≡◌, ◌&&◌, Bool, Decides, Option, Some, None}
use Rattle.std.specs.Option.{option_eq}
use mathlib.Core.Bool.{true≢false}
use Rattle.std.specs.Cmp.{IsEquivalence}
use Rattle.std.specs.Cmp.Lexicographic.{bytes_decides}
use Rattle.std.proofs.Common.{refl, sym, ap}
use Rattle.std.proofs.lemmas.Bool.Decides.{Decides-and, Decides-eqb, Decides-int_eq, Decides-like}
use Rattle.rubis_schema.specs.KeyLaws.{Decides-same_id}
use Rattle.rubis_schema.specs.Keys.{same_id}
use Rattle.rubis_schema.specs.declared.ids.Id.{Id}
use Rattle.rubis_schema.specs.declared.rows.PurchaseRow.{PurchaseRow}
use Rattle.rubis_schema.specs.declared.rows.CommentRow.{CommentRow}
use Rattle.rubis_schema.specs.contracts.rows.PurchaseRowPartialEq.TheImpl as purchase
use Rattle.rubis_schema.specs.contracts.rows.CommentRowPartialEq.TheImpl as comment
use Rattle.rubis_shadow.specs.Renames.{Decides-same_rename, equiv_from_decides}
use Rattle.rubis_schema.specs.declared.offers.NewItem.{NewItem}
use Rattle.rubis_shadow.specs.declared.shadows.NewBid.{NewBid}
use Rattle.rubis_shadow.specs.declared.shadows.NewClose.{NewClose}
use Rattle.rubis_shadow.specs.declared.shadows.NewRestock.{NewRestock}
use Rattle.rubis_shadow.specs.declared.shadows.Shadow.{Shadow}
use Rattle.rubis_shadow.specs.declared.shadows.Shadow.TheVariants.{User, Item, Bid, Buy, Close, Comment, Restock, Rename}
use Rattle.rubis_schema.specs.contracts.offers.NewItemPartialEq.TheImpl as item
use Rattle.rubis_shadow.specs.contracts.shadows.NewBidPartialEq.TheImpl as bid
use Rattle.rubis_shadow.specs.contracts.shadows.NewClosePartialEq.TheImpl as close
use Rattle.rubis_shadow.specs.contracts.shadows.NewRestockPartialEq.TheImpl as restock
use Rattle.rubis_shadow.specs.contracts.shadows.ShadowPartialEq.TheImpl as shadow
use Rattle.rubis_clock.specs.declared.stamps.Stamp.{Stamp}
use Rattle.rubis_clock.specs.contracts.stamps.StampPartialEq.TheImpl as stamp
use Rattle.rubis_message.specs.Message.{Message}

-- the stamps are the same, and so are the shadows
abbrev pub same_message : Message → Message → Bool
same_message m n = (stamp.ghosts).eq m.stamp n.stamp && (shadow.ghosts).eq m.shadow n.shadow

Decides-stamp : (a b : Stamp) → Decides ((stamp.ghosts).eq a b) (a ≡ b)
Decides-stamp a b = Decides-like _
    (λ h i. record { id = h.0 i; red = h.1.0 i; deps = h.1.1 i })
    (λ e. (ap (λ s. s.id) e, (ap (λ s. s.red) e, ap (λ s. s.deps) e)))
    (Decides-and _ _ (Decides-same_id a.id b.id)
    (Decides-and _ _ (Decides-eqb a.red b.red) (bytes_decides a.deps b.deps)))

Decides-bid : (a b : NewBid) → Decides ((bid.ghosts).eq a b) (a ≡ b)
Decides-bid a b = Decides-like _
    (λ h i. record { item = h.0 i; bidder = h.1.0 i; amount = h.1.1 i })
    (λ e. (ap (λ s. s.item) e, (ap (λ s. s.bidder) e, ap (λ s. s.amount) e)))
    (Decides-and _ _ (Decides-same_id a.item b.item)
    (Decides-and _ _ (Decides-same_id a.bidder b.bidder) (Decides-eqb a.amount b.amount)))

Decides-purchase : (a b : PurchaseRow) → Decides ((purchase.ghosts).eq a b) (a ≡ b)
Decides-purchase a b = Decides-like _
    (λ h i. record { item = h.0 i; buyer = h.1.0 i; quantity = h.1.1 i })
    (λ e. (ap (λ s. s.item) e, (ap (λ s. s.buyer) e, ap (λ s. s.quantity) e)))
    (Decides-and _ _ (Decides-same_id a.item b.item)
    (Decides-and _ _ (Decides-same_id a.buyer b.buyer) (Decides-eqb a.quantity b.quantity)))

Decides-item : (a b : NewItem) → Decides ((item.ghosts).eq a b) (a ≡ b)
Decides-item a b = Decides-like _
    (λ h i. record {
      seller = h.0 i;
      name = h.1.0 i;
      cat = h.1.1.0 i;
      stock = h.1.1.1.0 i;
      start = h.1.1.1.1.0 i;
      price = h.1.1.1.1.1 i;
    })
    (λ e. (
      ap (λ s. s.seller) e,
      (
        ap (λ s. s.name) e,
        (
          ap (λ s. s.cat) e,
          (ap (λ s. s.stock) e, (ap (λ s. s.start) e, ap (λ s. s.price) e)),
        ),
      ),
    ))
    (Decides-and _ _ (Decides-same_id a.seller b.seller)
    (Decides-and _ _ (bytes_decides a.name b.name)
    (Decides-and _ _ (Decides-eqb a.cat b.cat)
    (Decides-and _ _ (Decides-eqb a.stock b.stock)
    (Decides-and _ _ (Decides-eqb a.start b.start) (Decides-eqb a.price b.price))))))

pub Decides-winner : (a b : Option Id) → Decides (option_eq same_id a b) (a ≡ b)
Decides-winner None None = (λ e. refl, λ e. refl)
Decides-winner (Some a) (Some b) = Decides-like _ (ap Some) (λ e. cc) (Decides-same_id a b)
Decides-winner None (Some b) = (λ e. absurd cc, λ e. absurd cc)
Decides-winner (Some a) None = (λ e. absurd cc, λ e. absurd cc)

Decides-close : (a b : NewClose) → Decides ((close.ghosts).eq a b) (a ≡ b)
Decides-close a b = Decides-like _
    (λ h i. record { item = h.0 i; cat = h.1.0 i; winner = h.1.1 i })
    (λ e. (ap (λ s. s.item) e, (ap (λ s. s.cat) e, ap (λ s. s.winner) e)))
    (Decides-and _ _ (Decides-same_id a.item b.item)
    (Decides-and _ _ (Decides-eqb a.cat b.cat) (Decides-winner a.winner b.winner)))

Decides-comment : (a b : CommentRow) → Decides ((comment.ghosts).eq a b) (a ≡ b)
Decides-comment a b = Decides-like _
    (λ h i. record { item = h.0 i; from = h.1.0 i; to = h.1.1.0 i; rating = h.1.1.1.0 i; text = h.1.1.1.1 i })
    (λ e. (ap (λ s. s.item) e, (ap (λ s. s.from) e, (ap (λ s. s.to) e, (ap (λ s. s.rating) e, ap (λ s. s.text) e)))))
    (Decides-and _ _ (Decides-same_id a.item b.item)
    (Decides-and _ _ (Decides-same_id a.from b.from)
    (Decides-and _ _ (Decides-same_id a.to b.to)
    (Decides-and _ _ (Decides-int_eq a.rating b.rating) (bytes_decides a.text b.text)))))

Decides-restock : (a b : NewRestock) → Decides ((restock.ghosts).eq a b) (a ≡ b)
Decides-restock a b = Decides-like _
    (λ h i. record { item = h.0 i; quantity = h.1 i })
    (λ e. (ap (λ s. s.item) e, ap (λ s. s.quantity) e))
    (Decides-and _ _ (Decides-same_id a.item b.item) (Decides-eqb a.quantity b.quantity))

Decides-shadow : (a b : Shadow) → Decides ((shadow.ghosts).eq a b) (a ≡ b)
Decides-shadow (User a) (User b) = Decides-like _ (ap User) (λ e. cc) (bytes_decides a b)
Decides-shadow (Item a) (Item b) = Decides-like _ (ap Item) (λ e. cc) (Decides-item a b)
Decides-shadow (Bid a) (Bid b) = Decides-like _ (ap Bid) (λ e. cc) (Decides-bid a b)
Decides-shadow (Buy a) (Buy b) = Decides-like _ (ap Buy) (λ e. cc) (Decides-purchase a b)
Decides-shadow (Close a) (Close b) = Decides-like _ (ap Close) (λ e. cc) (Decides-close a b)
Decides-shadow (Comment a) (Comment b) = Decides-like _ (ap Comment) (λ e. cc) (Decides-comment a b)
Decides-shadow (Restock a) (Restock b) = Decides-like _ (ap Restock) (λ e. cc) (Decides-restock a b)
Decides-shadow (Rename a) (Rename b) = Decides-like _ (ap Rename) (λ e. cc) (Decides-same_rename a b)
Decides-shadow a b = (λ e. absurd (true≢false (sym e)), λ e. absurd cc)

-- `same_message` is true if and only if the messages are equal
pub Decides-same_message : (m n : Message) → Decides (same_message m n) (m ≡ n)
Decides-same_message m n = Decides-like _
    (λ h i. record { stamp = h.0 i; shadow = h.1 i })
    (λ e. (ap (λ s. s.stamp) e, ap (λ s. s.shadow) e))
    (Decides-and _ _ (Decides-stamp m.stamp n.stamp) (Decides-shadow m.shadow n.shadow))

pub same_message_equiv : IsEquivalence same_message
same_message_equiv = equiv_from_decides same_message Decides-same_message
