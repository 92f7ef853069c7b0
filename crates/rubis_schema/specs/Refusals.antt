-- The refusals: the number and the name that an answer shows.
use Rattle.std.specs.Prelude.{ℕ, List, codes}
use Rattle.rubis_schema.specs.declared.refusals.Refusal.{Refusal}
use Rattle.rubis_schema.specs.declared.refusals.Refusal.TheVariants.{BadRecord, Full, NoToken, RedBehind, NickTaken, NoUser, NoItem, Closed}
use Rattle.rubis_schema.specs.declared.refusals.Refusal.TheVariants.{LowBid, StockShort, NotSeller, OwnItem, NoBuyNow, SelfComment}
use Rattle.rubis_schema.specs.declared.refusals.Refusal.TheVariants.{BadTarget, LastTurn, NotOurs, NotForMe, BadEvent, NoSuchPacket}

-- a refusal's number in answers
abbrev pub code_of : Refusal → ℕ
code_of BadRecord = 1
code_of Full = 2
code_of NoToken = 3
code_of RedBehind = 4
code_of NickTaken = 5
code_of NoUser = 6
code_of NoItem = 7
code_of Closed = 8
code_of LowBid = 9
code_of StockShort = 10
code_of NotSeller = 11
code_of OwnItem = 12
code_of NoBuyNow = 13
code_of SelfComment = 14
code_of BadTarget = 15
code_of LastTurn = 16
code_of NotOurs = 20
code_of NotForMe = 21
code_of BadEvent = 30
code_of NoSuchPacket = 31

-- a refusal's name in answers
abbrev pub refusal_name : Refusal → List ℕ
refusal_name BadRecord = codes "BadRecord"
refusal_name Full = codes "Full"
refusal_name NoToken = codes "NoToken"
refusal_name RedBehind = codes "RedBehind"
refusal_name NickTaken = codes "NickTaken"
refusal_name NoUser = codes "NoUser"
refusal_name NoItem = codes "NoItem"
refusal_name Closed = codes "Closed"
refusal_name LowBid = codes "LowBid"
refusal_name StockShort = codes "StockShort"
refusal_name NotSeller = codes "NotSeller"
refusal_name OwnItem = codes "OwnItem"
refusal_name NoBuyNow = codes "NoBuyNow"
refusal_name SelfComment = codes "SelfComment"
refusal_name BadTarget = codes "BadTarget"
refusal_name LastTurn = codes "LastTurn"
refusal_name NotOurs = codes "NotOurs"
refusal_name NotForMe = codes "NotForMe"
refusal_name BadEvent = codes "BadEvent"
refusal_name NoSuchPacket = codes "NoSuchPacket"
