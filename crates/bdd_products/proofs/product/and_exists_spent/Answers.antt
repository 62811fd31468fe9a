use Rattle.spec_model.specs.Diagrams.{Function, and_exists_over}
use Rattle.bdd_bits.specs.Contents.{function_at}
use Rattle.bdd_sets.proofs.SpentLemmas.{still_root, one_spent}
use Rattle.bdd_products.proofs.product.and_exists_spent.Goals as goal

pub release-requires : goal.release-requires
release-requires c = still_root c.args.diagrams.now c.and_exists-whole.new.diagrams c.and_exists-whole.result _ c.and_exists-whole.ensures.makes c.args.a c.requires.a_kept

pub returns : goal.returns
returns c = λ base f first. one_spent (λ (k : Function). and_exists_over c.args.levels.now k (function_at c.args.diagrams.now c.args.line.now)) base c.args.diagrams.now c.and_exists-whole.new.diagrams _ c.args.a f c.and_exists-whole.result first c.and_exists-whole.ensures.makes c.release.ensures.released c.release.ensures.nodes
