use Rattle.std.proofs.Common.{◌<◌, ◌++◌, List, ℕ, length, ◌∙◌, ap, arith}
use Rattle.game_values.specs.declared.seen.At.TheVariants.{Next}
use Rattle.bit_compile.specs.Codes.{level_at}
use Rattle.bit_compile.specs.Proper.{levels_from}
use Rattle.bdd_sets.proofs.LevelLemmas.{leads_more}
use Rattle.bdd_sets.proofs.levels.next_ones.Goals as goal

pub loop-k-preserved : goal.loop-k-preserved
loop-k-preserved c =
    let ds = c.args.codes.now in
    let k = c.loop-k.k in
    let known : k < length ds = omega (arith, c.count-k-end.ensures, c.loop-k-test.true) in
    let row = λ (w : ℕ) (xs : List ℕ). ap (λ (l : ℕ). xs ++ levels_from l w) c.level-level.ensures.level in
    let first = c.in_ok-present.ensures ∙ (row c.width.result c.loop-k.to.items ∙ ap (λ (w : ℕ). c.loop-k.to.items ++ levels_from (level_at ds Next k) w) c.width.ensures.width) in
    let second = c.in_ok-to.ensures ∙ (row c.width-in-loop-k.result c.in_ok-present.present.items ∙ ap (λ (w : ℕ). c.in_ok-present.present.items ++ levels_from (level_at ds Next k) w) c.width-in-loop-k.ensures.width) in
    leads_more ds k c.loop-k.to.items c.loop-k.invariant known c.in_ok-present.present.items c.in_ok-to.to.items first second
