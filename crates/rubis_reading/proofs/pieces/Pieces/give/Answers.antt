use Rattle.rubis_reading.proofs.Common.{◌≡◌, ◌∙◌, ◌-◌, ◌++◌, ◌∷◌, [], ap, arith, drop, refl, subst, take, None, LeadState}
use Rattle.rubis_reading.specs.Chunked.{IsChunk}
use Rattle.rubis_reading.specs.declared.pieces.GivenPiece.{GivenPiece}
use Rattle.rubis_reading.specs.declared.readings.Reading.{Reading}
use Rattle.rubis_reading.proofs.PieceFacts.{of_more, passed_within}
use Rattle.rubis_reading.proofs.pieces.Pieces.give.Goals as goal

pub split_at-requires : goal.split_at-requires
split_at-requires g c =
    let h = c.requires in
    omega (arith, passed_within _ _ _ _ _ _ h.pieces, h.from)

pub returns-clause-pieces : goal.returns-clause-pieces
returns-clause-pieces g c =
    let many = c.first_records-many.result in
    let rest : c.split_at.result.1.now ≡ drop c.args.self.now.from c.args.text.now = c.split_at.ensures.back in
    let chunk = subst (IsChunk many) rest (c.first_records-many.ensures (omega (arith, c.if-many-lt2.false))) in
    let text : c.in_ok-from_slice.field-0.items ≡ take many (drop c.args.self.now.from c.args.text.now) =
    c.in_ok-from_slice.ensures.items ∙ c.split_at-2.ensures.front ∙ ap (take many) rest in
    let lead = c.in-Ok.ensures.given.1 in
    let p : GivenPiece = record { many = many; read = None } in
    of_more c.args.text.now c.args.self.now _ _ many c.requires chunk (text, refl, refl)
    (let (number, few, below) = c.in-Ok.ensures.number in omega (arith, number, few))
    (ap (λ (l : LeadState Reading). l.given) lead) (ap (λ (l : LeadState Reading). l.next) lead)
    (c.push_back_reserved.ensures.items ∙ ap (λ l. l ++ p ∷ []) c.in_ok-try_reserve.ensures.items) refl refl refl refl
