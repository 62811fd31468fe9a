use Rattle.std.proofs.Common.{Ok, take}
use Rattle.spec_model.specs.Views.{formula}
use Rattle.bit_compile.specs.Making.{Makes}
use Rattle.line_functions.specs.Asking.{game_seen}
use Rattle.line_functions.proofs.ProductLemmas.{product_of}
use Rattle.line_functions.proofs.making.product_root.Given as goal

-- with the slots so far
abbrev pub invariant-loop-one : goal.invariant-loop-one
invariant-loop-one l = Makes l.fn.diagrams l.diagrams (Ok l.product) (product_of (game_seen l.scene) (formula l.e) (take l.one-index l.named))
