-- What a record is to a site: a request, a packet, or neither.
use Rattle.std.specs.Prelude.{◌≡◌, ⊤, ℕ, List, Option, Some, None}
use Rattle.rubis_message.specs.Grammar.{IsPacket, IsRequest}
use Rattle.rubis_message.specs.Readings.{packet_of, request_of}
use Rattle.rubis_message.specs.declared.inputs.Input.{Input}
use Rattle.rubis_message.specs.declared.inputs.Input.TheVariants.{Asked, Came, Neither}
use Rattle.rubis_message.specs.declared.requests.Request.{Request}
use Rattle.rubis_message.specs.declared.tokens.Packet.{Packet}

-- a request, or else a packet, or else neither
abbrev pub input_by : Option Request → Option Packet → Input
input_by (Some r) p = Asked r
input_by None (Some p) = Came p
input_by None None = Neither

-- what a record is to a site
abbrev pub input_of : ℕ → List (List ℕ) → Input
input_of sites fields = input_by (request_of sites fields) (packet_of sites fields)

-- it is of a system of that many sites
abbrev pub FitsIn : ℕ → Input → Type 0
FitsIn sites (Came p) = IsPacket sites p
FitsIn sites (Asked r) = IsRequest sites r
FitsIn sites Neither = ⊤

-- the record is that to a site
pub record IsInput (sites : ℕ) (fields : List (List ℕ)) (input : Input) : Type 0 where
  pub means : input_of sites fields ≡ input
  pub fits : FitsIn sites input
