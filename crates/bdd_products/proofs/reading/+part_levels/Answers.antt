use Rattle.std.proofs.Common.{ap, ◌∙◌, sym, ◌||◌}
use Rattle.bdd_bits.specs.Contents.{function_at}
use Rattle.bdd_ops.specs.Functions.{is_among}
use Rattle.bit_compile.proofs.MakingLemmas.{root_stays}
use Rattle.bdd_sets.proofs.SpentLemmas.{function_kept}
use Rattle.bdd_products.proofs.KeepingLemmas.{on_ok}
use Rattle.bdd_products.proofs.LevelLemmas.{parted_first, parted_second, parted_halves, ignored_all, ignored_halves}
use Rattle.bdd_products.proofs.reading.+part_levels.Goals as goal

pub returns-then-free-clause-parted : goal.returns-then-free-clause-parted
returns-then-free-clause-parted g c =
    on_ok c.add_all.result _ _ (λ is m. ap (λ xs. is_among m c.args.own.now.items || is_among m xs) is ∙ parted_second c.args.own.now.items c.args.ignored.now.items c.args.levels.now m) c.add_all.ensures.added

pub returns-then-free-clause-ignored : goal.returns-then-free-clause-ignored
returns-then-free-clause-ignored g c =
    on_ok c.add_all.result _ _ (λ is m among. ignored_all c.args.ignored.now.items c.args.levels.now (function_at c.args.diagrams.now c.args.line.now) (c.in_ok-free.ensures.ignored c.if-free.true) m (sym (ap (is_among m) is) ∙ among)) c.add_all.ensures.added

pub returns-then-levels-lt2-clause-parted : goal.returns-then-levels-lt2-clause-parted
returns-then-levels-lt2-clause-parted g c =
    on_ok c.add_all-then-levels-lt2.result _ _ (λ is m. ap (λ xs. is_among m xs || is_among m c.args.ignored.now.items) is ∙ parted_first c.args.own.now.items c.args.ignored.now.items c.args.levels.now m) c.add_all-then-levels-lt2.ensures.added

pub returns-clause-parted : goal.returns-clause-parted
returns-clause-parted g c =
    on_ok c.part_levels-2.result _ _
    (λ second m. parted_halves (is_among m c.args.own.now.items || is_among m c.args.ignored.now.items) (is_among m c.part_levels.new.own.items || is_among m c.part_levels.new.ignored.items) (is_among m c.part_levels-2.new.own.items || is_among m c.part_levels-2.new.ignored.items)
    c.args.levels.now c.split_at.result.0.now c.split_at.result.1.now _ m c.split_at.ensures.front c.split_at.ensures.back (c.in_ok-part_levels.ensures.parted m) (second m))
    c.part_levels-2.ensures.parted

pub returns-clause-ignored : goal.returns-clause-ignored
returns-clause-ignored g c =
    let old = c.args.diagrams.now in
    let tried = c.ignores.new.diagrams in
    let half = c.part_levels.new.diagrams in
    let line = c.args.line.now in
    let leaves = c.in_ok-free.ensures.leaves in
    let one = function_kept old tried leaves.keeps line c.requires in
    let two = function_kept tried half c.in_ok-part_levels.ensures.leaves.keeps line (root_stays old.state tried.state line leaves.roots c.requires) in
    on_ok c.part_levels-2.result _ _
    (λ second m among. ignored_halves c.args.ignored.now.items c.part_levels.new.ignored.items c.part_levels-2.new.ignored.items (function_at old line) (function_at tried line) (function_at half line) one (two ∙ one) c.in_ok-part_levels.ensures.ignored second m among)
    c.part_levels-2.ensures.ignored
