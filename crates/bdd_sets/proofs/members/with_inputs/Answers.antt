use Rattle.std.proofs.Common.{ℕ, ◌++◌, ◌∷◌, [], Ok, List, inl, refl, sym, subst}
use Rattle.spec_model.specs.Diagrams.{Function}
use Rattle.game_values.specs.declared.seen.At.TheVariants.{Next}
use Rattle.bit_compile.specs.Domains.{state_domains}
use Rattle.bit_compile.specs.Proper.{proper}
use Rattle.bdd_sets.specs.declared.lines.Side.TheVariants.{Assumptions, Guarantees}
use Rattle.bdd_sets.specs.Members.{AreRoots}
use Rattle.bdd_sets.specs.Updates.{update_functions}
use Rattle.bdd_sets.specs.NamedGame.{update}
use Rattle.bdd_sets.specs.Lists.{MakesList}
use Rattle.bdd_sets.specs.Lines.{side_functions, functions_judged}
use Rattle.bdd_sets.specs.LineScenes.{game_seen}
use Rattle.bdd_sets.proofs.ProperLemmas.{proper_tells}
use Rattle.bdd_sets.proofs.MadeLemmas.{first_stays, first_is, members_fit, members_made, back_list, back_cause, members_back}
use Rattle.bdd_sets.proofs.NamedLemmas.{side_named}
use Rattle.bdd_sets.proofs.members.with_inputs.Goals as goal

pub input_roots-requires-clause-update : goal.input_roots-requires-clause-update
input_roots-requires-clause-update c =
    let r = c.requires.lists in
    subst (λ (ms : List ℕ). AreRoots c.args.diagrams.now ms) (sym c.deref.ensures.value) (first_stays r.0 r.1 c.args.diagrams.now c.args.update c.args.outputs r.2 r.3 r.4 r.5)

pub returns-in-Ok : goal.returns-in-Ok
returns-in-Ok c = λ base mid first second told.
    let g = game_seen c.args.scene.now in
    let to = c.args.scene.now.to.now in
    let when = c.args.when in
    let us = update_functions g when in
    let p = proper (state_domains g) Next in
    let old = c.args.diagrams.now in
    let new = c.input_roots.new.diagrams in
    let asm = functions_judged g to Assumptions when ++ p ∷ [] in
    let gar = functions_judged g to Guarantees when ++ p ∷ [] in
    let same = first_is base mid old c.args.update c.args.outputs us gar first second in
    let third = subst (λ (hs : List Function). MakesList old new (Ok c.in-Ok.inputs) (asm ++ hs)) same (rw c.deref.ensures.value at c.in-Ok.ensures.made) in
    members_made base mid old new c.args.update c.args.outputs c.in-Ok.inputs us gar (asm ++ us) first second third g to when refl (members_fit g to when c.requires.scene.made c.requires.scene.to (proper_tells g Next) us told)

pub returns-in-Err : goal.returns-in-Err
returns-in-Err c = λ base mid first second told.
    let g = game_seen c.args.scene.now in
    let to = c.args.scene.now.to.now in
    let when = c.args.when in
    let old = c.args.diagrams.now in
    let whole = c.input_roots.new.diagrams in
    let half = c.release_list.new.diagrams in
    let new = c.release_list-in-Err.new.diagrams in
    let h = c.in-Err.halt in
    let named = side_named g to when c.requires.scene.to Guarantees in
    let list = back_list g to when mid old c.args.outputs (side_functions g to Guarantees when) second named whole half h c.release_list.ensures.released c.release_list.ensures.nodes _ [] c.in-Err.ensures.made in
    let cause = back_cause g to when mid old c.args.outputs (side_functions g to Guarantees when) second named whole half h c.release_list.ensures.released c.release_list.ensures.nodes c.in-Err.ensures.cause in
    members_back g to when base mid c.args.update (update_functions g when) first (λ f there. update when (inl there)) half new h c.release_list-in-Err.ensures.released c.release_list-in-Err.ensures.nodes [] list cause
