use Rattle.std.proofs.Common.{◌≤◌, ◌++◌, ◌∷◌, [], ℕ, Ok, List, map, take, sym, subst}
use Rattle.std.specs.Borrow.{Bor}
use Rattle.spec_model.specs.declared.expr.Expr.{Expr}
use Rattle.spec_model.specs.Views.{formula}
use Rattle.spec_model.specs.Diagrams.{Function}
use Rattle.spec_model.specs.Syntax.{Formula}
use Rattle.spec_model.specs.WellMade.{scope_of, is_step_formula}
use Rattle.bit_compile.specs.Domains.{level_count}
use Rattle.bit_compile.proofs.Causes.{cause_ok}
use Rattle.bit_compile.proofs.CyclesLemmas.{take_all}
use Rattle.bit_compile.proofs.Filled.{contains_map}
use Rattle.bdd_sets.specs.Lists.{MakesList}
use Rattle.bdd_sets.proofs.CauseLemmas.{cause_by, list_cause}
use Rattle.bdd_sets.proofs.ListLemmas.{list_refused_by}
use Rattle.bdd_sets.proofs.NamedLemmas.{contains_got}
use Rattle.line_functions.specs.Functions.{line_function, IsOfLine, IsOfOne}
use Rattle.line_functions.specs.Asking.{game_seen, formulas_seen}
use Rattle.line_functions.proofs.FormulaLemmas.{formula_next, functions_longer, lines_named}
use Rattle.line_functions.proofs.making.roots_of.Goals as goal

abbrev seen : Bor Expr → Formula
seen e = formula e.now

pub line_root-made-requires-clause-levels : goal.line_root-made-requires-clause-levels
line_root-made-requires-clause-levels c = subst (λ (n : ℕ). level_count c.args.scene.now.codes.now ≤ n) (sym c.loop-e.invariant.made.keeps.levels) c.requires.levels

pub line_root-made-requires-clause-formula : goal.line_root-made-requires-clause-formula
line_root-made-requires-clause-formula c =
    (formula_next (is_step_formula (scope_of (game_seen c.args.scene.now))) seen c.args.lines.now c.loop-e.e-index c.e-item.result c.loop-e-test.true c.e-item.is c.loop-e.invariant.formulas).0

pub returns-in_err-roots-clause-made : goal.returns-in_err-roots-clause-made
returns-in_err-roots-clause-made c =
    let g = game_seen c.args.scene.now in
    let first = c.args.diagrams.now in
    let so_far = map (line_function g) (formulas_seen (take c.loop-e.e-index c.args.lines.now)) in
    let f = line_function g (seen c.e-item.result) in
    list_refused_by first c.push_made.new.diagrams c.from_residual.result c.in_err-roots.field-0.0 (so_far ++ f ∷ []) (map (line_function g) (formulas_seen c.args.lines.now)) c.from_residual.ensures.1
    (c.in_err-roots.ensures.made first c.loop-e.diagrams so_far f c.loop-e.invariant.made c.line_root-made.ensures.made)

pub loop-e-preserved : goal.loop-e-preserved
loop-e-preserved c =
    let g = game_seen c.args.scene.now in
    let first = c.args.diagrams.now in
    let inv = c.loop-e.invariant in
    let i = c.loop-e.e-index in
    let lines = c.args.lines.now in
    let e = c.e-item.result in
    let so_far = map (line_function g) (formulas_seen (take i lines)) in
    let more = c.in_ok-roots.ensures.made first c.loop-e.diagrams so_far (line_function g (seen e)) inv.made c.line_root-made.ensures.made in
    record {
      made = subst (λ (fs : List Function). MakesList first c.push_made.new.diagrams (Ok c.in_ok-roots.roots) fs)
          (functions_longer (line_function g) seen lines i e c.loop-e-test.true c.e-item.is) more;
      formulas = (formula_next (is_step_formula (scope_of g)) seen lines i e c.loop-e-test.true c.e-item.is inv.formulas).1;
    }

pub returns-clause-made : goal.returns-clause-made
returns-clause-made c =
    subst (λ (es : List (Bor Expr)). MakesList c.args.diagrams.now c.loop-e.diagrams (Ok c.loop-e.roots) (map (line_function (game_seen c.args.scene.now)) (formulas_seen es)))
    (take_all c.args.lines.now c.loop-e.e-index c.loop-e-test.false) c.loop-e.invariant.made

pub returns-in_err-roots-clause-cause : goal.returns-in_err-roots-clause-cause
returns-in_err-roots-clause-cause c =
    let g = game_seen c.args.scene.now in
    let first = c.args.diagrams.now in
    let new = c.push_made.new.diagrams in
    let lines = c.args.lines.now in
    let i = c.loop-e.e-index in
    let e = c.e-item.result in
    let named = IsOfOne g (formulas_seen lines) in
    let of_line = IsOfLine g (seen e) in
    let here = contains_map seen lines e (contains_got lines i e c.loop-e-test.true c.e-item.is) in
    cause_by first new c.from_residual.result c.in_err-roots.field-0.0 named c.from_residual.ensures.1
    (list_cause of_line named (λ f is. (seen e, here, is)) first c.loop-e.diagrams c.loop-e.roots _ c.loop-e.invariant.made (λ f there. lines_named g seen lines i f there)
    c.line_root-made.new.diagrams new c.line_root-made.result _ c.in_err-roots.ensures.handed c.line_root-made.ensures.cause)

pub returns-clause-cause : goal.returns-clause-cause
returns-clause-cause c = cause_ok c.args.diagrams.now c.loop-e.diagrams c.loop-e.roots (IsOfOne (game_seen c.args.scene.now) (formulas_seen c.args.lines.now))
