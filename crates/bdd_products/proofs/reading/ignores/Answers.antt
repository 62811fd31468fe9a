use Rattle.std.proofs.Common.{◌∙◌}
use Rattle.bdd_bits.specs.Contents.{function_at}
use Rattle.bdd_sets.proofs.SpentLemmas.{function_kept}
use Rattle.bdd_products.proofs.QuantLemmas.{unread}
use Rattle.bdd_products.proofs.reading.ignores.Goals as goal

pub returns-clause-ignored : goal.returns-clause-ignored
returns-clause-ignored c =
    let old = c.args.diagrams.now in
    let new = c.exists.new.diagrams in
    let made = c.in_ok-rest.ensures.makes in
    λ is. unread c.args.levels.now (function_at old c.args.line.now) (function_at new c.in_ok-rest.rest) made.meaning (c.equal-same.ensures.0 is ∙ function_kept old new made.keeps c.args.line.now c.requires)
