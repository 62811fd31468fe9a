use Rattle.std.proofs.Common.{[]}
use Rattle.regions.specs.declared.types.When.TheVariants.{First}
use Rattle.bit_compile.proofs.Causes.{cause_ok, cause_wider}
use Rattle.bdd_sets.specs.NamedGame.{IsOfGame}
use Rattle.bdd_sets.specs.MadeMembers.{IsOfLines}
use Rattle.bdd_sets.specs.Lines.{first_lines, first_functions}
use Rattle.bdd_sets.specs.LineScenes.{game_seen}
use Rattle.bdd_sets.proofs.NamedLemmas.{of_first}
use Rattle.bdd_sets.proofs.ListLemmas.{no_list}
use Rattle.bdd_sets.proofs.LineLemmas.{first_formulas}
use Rattle.bdd_sets.proofs.lines.first_roots.Goals as goal

pub with_lines-requires-clause-formulas : goal.with_lines-requires-clause-formulas
with_lines-requires-clause-formulas c = rw c.first_of-lines.ensures (first_formulas (game_seen c.args.scene.now) c.args.side c.requires.scene.made)

pub returns-in-First-clause-made : goal.returns-in-First-clause-made
returns-in-First-clause-made c =
    let old = c.args.diagrams.now in
    let all = c.with_lines.ensures.made old [] (no_list old c.new-none.result c.new-none.ensures.items) in
    rw c.in-First.is (rw (c.first_of-lines.ensures, c.in-First.is) at all)

pub returns-in-First-clause-cause : goal.returns-in-First-clause-cause
returns-in-First-clause-cause c =
    let old = c.args.diagrams.now in
    let g = game_seen c.args.scene.now in
    let to = c.args.scene.now.to.now in
    let side = c.args.side in
    let all = c.with_lines.ensures.cause old [] (no_list old c.new-none.result c.new-none.ensures.items) in
    cause_wider (IsOfLines g (first_functions g to side First) (first_lines g side)) (IsOfGame g) (of_first g to First c.requires.scene.to side) old c.with_lines.new.diagrams c.with_lines.result (rw (c.first_of-lines.ensures, c.in-First.is) at all)

pub returns-in-Later-clause-cause : goal.returns-in-Later-clause-cause
returns-in-Later-clause-cause c = cause_ok c.args.diagrams.now c.args.diagrams.now c.new-none.result (IsOfGame (game_seen c.args.scene.now))
