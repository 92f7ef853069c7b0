-- What a record is, by its first field.
use Rattle.std.proofs.Common.{◌≡◌, ◌∙◌, ◌≤◌, true, false, cond, ℕ, List, [], ◌∷◌, refl, sym, ap, subst, arith}
use Rattle.std.specs.Prelude.{IfOk, Option, None, Some, Result, Ok, Err, bytes_eq, codes}
use Rattle.std.specs.Cmp.Lexicographic.{bytes_decides}
use Rattle.rubis_schema.specs.declared.limits.TheConstants.{COUNTED_MAX}
use Rattle.rubis_message.specs.Readings.{mapped, no_more, none, kind_of, packet_of, request_of, take_kind, take_message, take_packet, take_request, take_token}
use Rattle.rubis_message.specs.Inputs.{IsInput, input_by, input_of}
use Rattle.rubis_message.specs.declared.faults.ReadFault.{ReadFault}
use Rattle.rubis_message.specs.declared.faults.ReadFault.TheVariants.{BadRecord}
use Rattle.rubis_message.specs.declared.inputs.Input.{Input}
use Rattle.rubis_message.specs.declared.inputs.Input.TheVariants.{Asked, Neither}
use Rattle.rubis_message.specs.declared.requests.Request.{Request}
use Rattle.rubis_message.specs.declared.tokens.Packet.{Packet}
use Rattle.rubis_message.specs.declared.tokens.Packet.TheVariants as packet
use Rattle.rubis_message.proofs.Records.{packet_is, request_is}

-- a record that begins with the word
pub begins : (word field : List ℕ) (rest fields : List (List ℕ)) → fields ≡ field ∷ rest → true ≡ bytes_eq field word → fields ≡ word ∷ rest
begins word field rest fields is says = is ∙ ap (λ f. f ∷ rest) ((bytes_decides field word).0 (sym says))

no_fields_packet : (sites : ℕ) → packet_of sites [] ≡ None
unfolding packet_of take_packet
no_fields_packet sites = refl

no_fields_request : (sites : ℕ) → request_of sites [] ≡ None
unfolding request_of take_request take_kind
no_fields_request sites = refl

-- no request begins with the word of a packet
msg_no_request : (sites : ℕ) (rest : List (List ℕ)) → request_of sites (codes "msg" ∷ rest) ≡ None
unfolding request_of take_request take_kind kind_of
msg_no_request sites rest = refl

token_no_request : (sites : ℕ) (rest : List (List ℕ)) → request_of sites (codes "token" ∷ rest) ≡ None
unfolding request_of take_request take_kind kind_of
token_no_request sites rest = refl

-- and no packet with another word
by_version : (sites : ℕ) (field : List ℕ) (more : List (List ℕ)) → false ≡ bytes_eq field (codes "msg") → false ≡ bytes_eq field (codes "token")
    → packet_of sites (field ∷ more) ≡ None
unfolding packet_of take_packet
by_version sites field [] no_msg no_token = refl
by_version sites field (version ∷ more) no_msg no_token =
    ap (λ b. no_more (cond b (mapped packet.Msg (take_message sites version))
    (cond (bytes_eq field (codes "token")) (mapped packet.Token (take_token sites version)) none) more)) (sym no_msg)
    ∙ ap (λ b. no_more (cond b (mapped packet.Token (take_token sites version)) none more)) (sym no_token)

pub other_no_packet : (sites : ℕ) (field : List ℕ) (rest fields : List (List ℕ)) → fields ≡ field ∷ rest → false ≡ bytes_eq field (codes "msg")
    → false ≡ bytes_eq field (codes "token") → packet_of sites fields ≡ None
other_no_packet sites field rest fields is no_msg no_token = ap (packet_of sites) is ∙ by_version sites field rest no_msg no_token

pub none_no_packet : (sites : ℕ) (fields : List (List ℕ)) → fields ≡ [] → packet_of sites fields ≡ None
none_no_packet sites fields is = ap (packet_of sites) is ∙ no_fields_packet sites

-- the packet that a record is, by what follows its word
pub after_word : (sites : ℕ) (word field : List ℕ) (rest fields : List (List ℕ)) (o : Option Packet) → fields ≡ field ∷ rest
    → true ≡ bytes_eq field word → packet_of sites (word ∷ rest) ≡ o → packet_of sites fields ≡ o
after_word sites word field rest fields o is says read = ap (packet_of sites) (begins word field rest fields is says) ∙ read

-- ---- what a record is

-- what isn't read is neither
pub unread_is : {E : Type 0} (sites : ℕ) (fields : List (List ℕ)) (fault : ReadFault) (r : Result Input E)
    → IfOk r (λ input. (input ≡ Neither) × (fault ≡ BadRecord)) → (fault ≡ BadRecord → IsInput sites fields Neither) → IfOk r (IsInput sites fields)
unread_is sites fields fault (Ok input) unread neither = subst (λ i. IsInput sites fields i) (sym unread.0) (neither unread.1)
unread_is sites fields fault (Err e) unread neither = tt

pub none_is_neither : (sites : ℕ) (fields : List (List ℕ)) → fields ≡ [] → IsInput sites fields Neither
none_is_neither sites fields is = record {
  means = ap (input_of sites) is ∙ ap (λ r. input_by r (packet_of sites [])) (no_fields_request sites) ∙ ap (input_by None) (no_fields_packet sites);
  fits = tt;
}

-- a record that is no request
no_request : (sites : ℕ) (fields : List (List ℕ)) (o : Option Packet) → sites ≤ COUNTED_MAX → request_of sites fields ≡ None
    → packet_of sites fields ≡ o → IsInput sites fields (input_by None o)
no_request sites fields None few none read = record {
  means = ap (λ r. input_by r (packet_of sites fields)) none ∙ ap (input_by None) read;
  fits = tt;
}
no_request sites fields (Some p) few none read = record {
  means = ap (λ r. input_by r (packet_of sites fields)) none ∙ ap (input_by None) read;
  fits = ((packet_is sites (omega arith) few fields p).0 read).0;
}

pub msg_is : (sites : ℕ) (field : List ℕ) (rest fields : List (List ℕ)) (o : Option Packet) → sites ≤ COUNTED_MAX → fields ≡ field ∷ rest
    → true ≡ bytes_eq field (codes "msg") → packet_of sites (codes "msg" ∷ rest) ≡ o → IsInput sites fields (input_by None o)
msg_is sites field rest fields o few is says read =
    let starts = begins (codes "msg") field rest fields is says in
    no_request sites fields o few (ap (request_of sites) starts ∙ msg_no_request sites rest) (ap (packet_of sites) starts ∙ read)

pub token_is : (sites : ℕ) (field : List ℕ) (rest fields : List (List ℕ)) (o : Option Packet) → sites ≤ COUNTED_MAX → fields ≡ field ∷ rest
    → true ≡ bytes_eq field (codes "token") → packet_of sites (codes "token" ∷ rest) ≡ o → IsInput sites fields (input_by None o)
token_is sites field rest fields o few is says read =
    let starts = begins (codes "token") field rest fields is says in
    no_request sites fields o few (ap (request_of sites) starts ∙ token_no_request sites rest) (ap (packet_of sites) starts ∙ read)

pub asked_is : (sites : ℕ) (fields : List (List ℕ)) (r : Request) → sites ≤ COUNTED_MAX → request_of sites fields ≡ Some r
    → IsInput sites fields (Asked r)
asked_is sites fields r few read = record {
  means = ap (λ o. input_by o (packet_of sites fields)) read;
  fits = ((request_is sites (omega arith) fields r).0 read).0;
}

pub other_is_neither : (sites : ℕ) (field : List ℕ) (rest fields : List (List ℕ)) → fields ≡ field ∷ rest → false ≡ bytes_eq field (codes "msg")
    → false ≡ bytes_eq field (codes "token") → request_of sites fields ≡ None → IsInput sites fields Neither
other_is_neither sites field rest fields is no_msg no_token none = record {
  means = ap (λ o. input_by o (packet_of sites fields)) none ∙ ap (input_by None) (other_no_packet sites field rest fields is no_msg no_token);
  fits = tt;
}
