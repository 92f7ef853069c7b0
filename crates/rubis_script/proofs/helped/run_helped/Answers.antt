use Rattle.rubis_script.proofs.Common.{◌∙◌, held_text, ends_memory, are_outlets}
use Rattle.rubis_engine.proofs.SeamFacts.{each-same}
use Rattle.rubis_script.proofs.helped.run_helped.Goals as goal

pub returns-in_err-reading : goal.returns-in_err-reading
returns-in_err-reading g c =
    each-same (λ text h. ends_memory _ _ _ c.from_residual.result c.from_residual.ensures
    (λ later pending. (are_outlets g.W.Write.contents).torn_none _ c.args.writer.now))

pub returns-in_default : goal.returns-in_default
returns-in_default g c = each-same (λ text h later pending. (are_outlets g.W.Write.contents).torn_none _ c.args.writer.now)

pub serve_helped-served-requires-clause-held : goal.serve_helped-served-requires-clause-held
serve_helped-served-requires-clause-held g c κs within =
    let (crew, sites, window) = c.new-pieces.ensures.setup in
    record {
      pieces = c.new-pieces.ensures.none (held_text c.args.chunks.now);
      sites = sites ∙ c.sites.ensures.same;
      window = window;
    }
