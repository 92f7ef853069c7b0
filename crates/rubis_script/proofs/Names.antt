-- The names of refusals call for no quotes, and are short.
use Rattle.rubis_script.proofs.Common.{◌≡◌, ◌≤◌, length, refl, true, arith, Refusal}
use Rattle.rubis_schema.specs.FieldList.{is_plain}
use Rattle.rubis_schema.specs.Refusals.{refusal_name}
use Rattle.rubis_schema.specs.declared.refusals.Refusal.TheVariants as refusal

pub name_plain : (r : Refusal) → is_plain (refusal_name r) ≡ true
name_plain refusal.BadRecord = refl
name_plain refusal.Full = refl
name_plain refusal.NoToken = refl
name_plain refusal.RedBehind = refl
name_plain refusal.NickTaken = refl
name_plain refusal.NoUser = refl
name_plain refusal.NoItem = refl
name_plain refusal.Closed = refl
name_plain refusal.LowBid = refl
name_plain refusal.StockShort = refl
name_plain refusal.NotSeller = refl
name_plain refusal.OwnItem = refl
name_plain refusal.NoBuyNow = refl
name_plain refusal.SelfComment = refl
name_plain refusal.BadTarget = refl
name_plain refusal.LastTurn = refl
name_plain refusal.NotOurs = refl
name_plain refusal.NotForMe = refl
name_plain refusal.BadEvent = refl
name_plain refusal.NoSuchPacket = refl

pub name_short : (r : Refusal) → length (refusal_name r) ≤ 12
name_short refusal.BadRecord = omega arith
name_short refusal.Full = omega arith
name_short refusal.NoToken = omega arith
name_short refusal.RedBehind = omega arith
name_short refusal.NickTaken = omega arith
name_short refusal.NoUser = omega arith
name_short refusal.NoItem = omega arith
name_short refusal.Closed = omega arith
name_short refusal.LowBid = omega arith
name_short refusal.StockShort = omega arith
name_short refusal.NotSeller = omega arith
name_short refusal.OwnItem = omega arith
name_short refusal.NoBuyNow = omega arith
name_short refusal.SelfComment = omega arith
name_short refusal.BadTarget = omega arith
name_short refusal.LastTurn = omega arith
name_short refusal.NotOurs = omega arith
name_short refusal.NotForMe = omega arith
name_short refusal.BadEvent = omega arith
name_short refusal.NoSuchPacket = omega arith
