use Rattle.std.proofs.Common.{inr, refl}
use Rattle.rubis_keep.proofs.DifferenceFacts.{may-differ-more}
use Rattle.rubis_keep.proofs.PutFacts.{differs-unlike}
use Rattle.rubis_keep.proofs.answers.Answers.put_text.Goals as goal

pub returns-in-Ok-clause-ok : goal.returns-in-Ok-clause-ok
returns-in-Ok-clause-ok g c =
    let (added, over, counted, told) = rw c.deref.ensures.value at c.in-Ok.ensures.put in
    record { added = added; over = over; counted = counted; told = told; live = refl; fault = refl }

pub returns-in-Err-clause-err : goal.returns-in-Err-clause-err
returns-in-Err-clause-err g c =
    let (added, front, (due, told)) = rw c.deref.ensures.value at c.in-Err.ensures.put in
    record {
      added = added;
      front = front;
      due = due;
      told = told;
      noted = inr (c.in-Err.e, refl, may-differ-more c.in-Err.e _ _ (λ d. differs-unlike _ _ _ d) (rw c.deref.ensures.value at c.in-Err.ensures.differs));
    }
