use Rattle.std.proofs.Common.{◌<◌, ℕ, sym, refl, subst}
use Rattle.bdd_bits.specs.Contents.{Contents}
use Rattle.bdd_bits.proofs.OrderLemmas.{level_below}
use Rattle.bdd_bits.proofs.CallLemmas.{bit_gives}
use Rattle.bdd_bits.proofs.diagrams.Diagrams.var.Goals as goal

pub var-requires : goal.var-requires
var-requires c =
    let below = subst (λ (d : Contents). c.args.bit < d.state.table.levels) (sym c.self.view_is) c.requires in
    subst (λ (l : ℕ). l < c.self.inside.over_levels.state.table.levels) (sym c.level-level.ensures.level) (level_below _ c.self.inside.order c.self.invariant.0 c.args.bit below)

pub returns : goal.returns
returns c = rw (← c.self.view_is) (bit_gives _ _ _ _ _ c.self.invariant.0 c.level-level.ensures.level refl c.var.ensures)
