use Rattle.std.proofs.Common.{◌≡◌, ◌≤◌, ◌++◌, ℕ, List}
use Rattle.std.specs.Prelude.{Some}
use Rattle.rubis_engine.specs.Reading.{Gives, bytes_left}
use Rattle.rubis_engine.specs.Text.{input_records}
use Rattle.rubis_serving.specs.Serving.{Goes, at, serving}
use Rattle.rubis_serving.proofs.run.answer_piece.Given as goal

abbrev pub invariant-records : goal.invariant-records
invariant-records g l = record {
  within : l.run.answered ≤ l.limit;
  same : g.S.Service.setup l.service ≡ g.S.Service.setup l.fn.service;
  goes : (done left : List (List (List ℕ))) × (input_records l.text ≡ done ++ left) × Gives (λ s. Some s.now) l.piece left
      × Goes (serving g.S.Service.account g.S.Service.leads g.O.Outlet.puts g.O.Outlet.tears) done (at l.fn.service l.fn.run l.fn.outlet) (at l.service l.run l.outlet);
}

abbrev pub decreases-records : goal.decreases-records
decreases-records g l = bytes_left (λ s. Some s.now) l.piece
