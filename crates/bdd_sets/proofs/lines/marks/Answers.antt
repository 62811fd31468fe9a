use Rattle.std.proofs.Common.{◌≡◌, Bool, List, IfOk, ℕ, map, sym, subst}
use Rattle.spec_model.specs.Syntax.{Formula}
use Rattle.spec_model.specs.GameViews.{game_data}
use Rattle.spec_model.specs.Moves.{has_next}
use Rattle.spec_model.specs.Steps.{waits_for_output}
use Rattle.game_values.proofs.WholeTables.{tables_whole, map-flags}
use Rattle.bdd_sets.specs.declared.lines.Side.{Side}
use Rattle.bdd_sets.specs.Lines.{is_late}
use Rattle.bdd_sets.specs.LineScenes.{line_data}
use Rattle.bdd_sets.proofs.lines.marks.Goals as goal

pub waits-requires : goal.waits-requires
waits-requires c = rw c.deref-in-Assumptions.ensures.value (tables_whole _ c.args.game.now.hidden.items c.requires.hidden)

pub returns-in-Assumptions : goal.returns-in-Assumptions
returns-in-Assumptions c =
    let g = game_data c.args.game.now in
    let ls = c.args.lines.now in
    let flags = subst (λ (w : List Bool). IfOk c.waits.result (λ flags. flags.items ≡ w)) (map-flags (waits_for_output g) ls) (rw (c.deref.ensures.value, c.deref-in-Assumptions.ensures.value) at c.waits.ensures) in
    subst (λ (side : Side). IfOk c.waits.result (λ late. late.items ≡ map (λ (l : ℕ × Formula). is_late g side l.1) (line_data ls))) (sym c.in-Assumptions.is) flags

pub returns-in-Guarantees : goal.returns-in-Guarantees
returns-in-Guarantees c =
    let g = game_data c.args.game.now in
    let ls = c.args.lines.now in
    let flags = subst (λ (w : List Bool). IfOk c.nexts.result (λ flags. flags.items ≡ w)) (map-flags has_next ls) c.nexts.ensures in
    subst (λ (side : Side). IfOk c.nexts.result (λ late. late.items ≡ map (λ (l : ℕ × Formula). is_late g side l.1) (line_data ls))) (sym c.in-Guarantees.is) flags
