use Rattle.std.proofs.Common.{List, map, refl, subst}
use Rattle.spec_model.specs.declared.game.Hidden.{Hidden}
use Rattle.spec_model.specs.Views.{formula}
use Rattle.spec_model.specs.GameViews.{game_data, hidden_data}
use Rattle.spec_model.specs.Diagrams.{Function}
use Rattle.spec_model.specs.Games.{HiddenData}
use Rattle.spec_model.specs.WellMade.{scope_of}
use Rattle.game_values.specs.declared.seen.At.TheVariants.{Now}
use Rattle.bit_compile.specs.CompileLaws.{IsFormulaOf}
use Rattle.bit_compile.specs.Compiled.{compiled, entries_of, truth_in}
use Rattle.bit_compile.proofs.Knowing.{step_known, domains_made}
use Rattle.bit_compile.proofs.CompiledFormulas.{formula_compiled, root_is}
use Rattle.bit_compile.proofs.SceneLemmas.{whole_scene}
use Rattle.bit_compile.specs.Crowding.{MakesNamed}
use Rattle.bit_compile.specs.Named.{IsOfFormula, IsOfTables}
use Rattle.bit_compile.proofs.NamedFormulas.{either}
use Rattle.bit_compile.proofs.formulas.compile.Goals as goal

pub truth_root-requires-clause-scene : goal.truth_root-requires-clause-scene
truth_root-requires-clause-scene c = whole_scene (record { codes = c.args.codes; game = c.args.game; hidden = c.deref.result }) c.requires.made c.requires.codes c.deref.ensures.value

pub truth_root-requires-clause-known : goal.truth_root-requires-clause-known
truth_root-requires-clause-known c =
    let g = game_data c.args.game.now in
    step_known g (scope_of g) refl (domains_made g.variables c.requires.made.domains) (formula c.args.e.now) c.requires.formula

pub returns-clause-compiled : goal.returns-clause-compiled
returns-clause-compiled c =
    let g = game_data c.args.game.now in
    let e = formula c.args.e.now in
    let named : List HiddenData → Function → Type 0 = λ hs. either (IsOfFormula g (entries_of g hs) Now e) (IsOfTables g hs) in
    subst (λ (ts : List Hidden). MakesNamed c.args.diagrams.now c.truth_root.new.diagrams c.truth_root.result (truth_in g (entries_of g (map hidden_data ts)) Now e) (named (map hidden_data ts))) c.deref.ensures.value c.truth_root.ensures

pub returns-clause-meaning : goal.returns-clause-meaning
returns-clause-meaning c =
    let g = game_data c.args.game.now in
    let e = formula c.args.e.now in
    root_is (IsFormulaOf g e) c.args.diagrams.now c.truth_root.new.diagrams c.truth_root.result (compiled g e) (formula_compiled g c.requires.made e c.requires.formula) (returns-clause-compiled c).made
