use Rattle.std.proofs.Common.{◌≡◌, ◌-◌, ◌++◌, ◌∙◌, ap, arith}
use Rattle.bit_compile.specs.Proper.{levels_from}
use Rattle.bdd_sets.proofs.LevelLemmas.{levels_more, no_level}
use Rattle.bdd_sets.proofs.levels.with_levels.Goals as goal

pub loop-level-init : goal.loop-level-init
loop-level-init c = no_level c.args.list.items c.args.first

pub loop-level-preserved : goal.loop-level-preserved
loop-level-preserved c = levels_more c.args.list.items c.loop-level.list.items _ c.args.first c.loop-level.level (omega (arith, c.loop-level.auto)) c.loop-level.invariant c.in_ok-push.ensures.items

pub returns : goal.returns
returns c =
    let all : c.loop-level.level - c.args.first ≡ c.args.count = omega (arith, c.loop-level.auto, c.loop-level-test.false) in
    c.loop-level.invariant ∙ ap (λ n. c.args.list.items ++ levels_from c.args.first n) all
