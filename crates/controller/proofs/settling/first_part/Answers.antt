use Rattle.std.proofs.Common.{◌∙◌, List, length, sym, ap, subst, arith}
use Rattle.strategy_parts.specs.Owned.{RegionsAre}
use Rattle.controller.proofs.Settled.{layer_at, parts_in}
use Rattle.controller.proofs.settling.first_part.Goals as goal

pub least_index-requires : goal.least_index-requires
least_index-requires g c =
    let k = g.G.Regions.kept c.args.g.now in
    let some = c.requires.layers in
    (some.0 c.args.rank, subst (λ rs. RegionsAre k rs (some.0 c.args.rank)) (sym c.deref.ensures.value) (layer_at k c.args.layers.now some.0 some.1 c.args.rank c.requires.rank c.index-layers-rank.result))

pub returns-clause-first : goal.returns-clause-first
returns-clause-first g c = λ x n s i are have inside lists least below.
    let k = g.G.Regions.kept c.args.g.now in
    let held = subst (λ rs. RegionsAre k rs (x c.args.rank)) (sym c.deref.ensures.value) (layer_at k c.args.layers.now x are c.args.rank c.requires.rank c.index-layers-rank.result) in
    let counted = ap (λ (rs : List _). length rs) c.deref.ensures.value ∙ parts_in n c.args.layers.now have c.args.rank c.requires.rank c.index-layers-rank.result in
    c.least_index.ensures.least (x c.args.rank) s i held inside lists least (omega (arith, counted, below))
