-- How the messages of a log are counted, one after the other.
use Rattle.rubis_keep.proofs.Common.{arith, ◌≡◌, ◌+◌, ◌++◌, ◌∷◌, [], ℕ, List, map, range_with_len, Message, counted}
use Rattle.std.proofs.lemmas.List.FromFn.{map-range_with_len_more}

pub counts_more : (log : List Message) (site : ℕ) → map (λ i. counted i log) (range_with_len 0 (site + 1)) ≡ map (λ i. counted i log) (range_with_len 0 site)
    ++ counted site log ∷ []
counts_more log site = map-range_with_len_more (λ i. counted i log) 0 site site (omega arith)
