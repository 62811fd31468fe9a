use Rattle.std.proofs.Common.{List, Err, ap, sym, subst, arith}
use Rattle.spec_model.specs.GameViews.{game_data}
use Rattle.regions.specs.declared.types.Halt.{Halt}
use Rattle.bdd_store.specs.State.{SameRoots}
use Rattle.bdd_ops.specs.Contents.{Contents}
use Rattle.bit_compile.specs.Domains.{level_count}
use Rattle.line_functions.specs.Functions.{functions_of}
use Rattle.spec_order.specs.Scenes.{HasLines}
use Rattle.spec_order.proofs.RefusalLemmas.{handed_halt, compiling, lines_made, lines_counted}
use Rattle.spec_order.proofs.ordering.report_on.Goals as goal

pub line_functions-requires-clause-levels : goal.line_functions-requires-clause-levels
line_functions-requires-clause-levels c = let same = c.requires.bits.has_levels in omega (arith, same)

pub returns-in_err-roots-clause-refused : goal.returns-in_err-roots-clause-refused
returns-in_err-roots-clause-refused c =
    let g = game_data c.args.game.now in
    let budget = c.args.to.now.state.table.budget in
    handed_halt g budget c.from_residual.result c.in_err-roots.field-0.0 c.from_residual.ensures.1
    (λ is. compiling g (level_count c.args.codes.now) budget c.args.bits c.line_functions.new.diagrams _ (ap level_count c.requires.scene.bits) c.requires.bits c.requires.declared c.in_err-roots.ensures.made.keeps c.in_err-roots.ensures.cause (ap (λ (h : Halt). Err h) is))

pub searched-report-requires-clause-lines : goal.searched-report-requires-clause-lines
searched-report-requires-clause-lines c =
    let g = game_data c.args.game.now in
    subst (HasLines g c.into_levels-from.result) (sym c.deref.ensures.value)
    (subst (λ (from : Contents). HasLines g from c.in_ok-roots.roots.items) (sym c.into_levels-from.ensures)
    (lines_made g c.args.codes.now c.args.to.now.state.table.budget c.args.bits c.line_functions.new.diagrams c.in_ok-roots.roots c.requires.scene c.requires.bits c.requires.declared c.in_ok-roots.ensures.made))

pub release_all-requires : goal.release_all-requires
release_all-requires c =
    lines_counted c.args.bits c.line_functions.new.diagrams c.searched-report.new.from c.in_ok-roots.roots (functions_of (game_data c.args.game.now)) c.in_ok-roots.ensures.made
    (subst (λ (from : Contents). SameRoots from.state c.searched-report.new.from.state) c.into_levels-from.ensures c.searched-report.ensures.roots)
