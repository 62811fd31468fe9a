use Rattle.std.proofs.Common.{ℕ, List, sym, subst}
use Rattle.spec_model.specs.Diagrams.{Function}
use Rattle.spec_model.specs.GameViews.{game_data}
use Rattle.bdd_sets.specs.MoveBits.{LeadsToNext}
use Rattle.bdd_sets.specs.NextOrders.{FitsNext}
use Rattle.bdd_sets.specs.ToldMoves.{TellsMoves, follows}
use Rattle.bdd_sets.specs.Members.{all_true}
use Rattle.bdd_sets.specs.Updates.{update_functions}
use Rattle.bdd_sets.proofs.ShiftLemmas.{fits_kept}
use Rattle.bdd_sets.proofs.MadeLemmas.{members_refused_by}
use Rattle.bdd_sets.proofs.members.members_at.Goals as goal

pub returns-in_err-update : goal.returns-in_err-update
returns-in_err-update c = members_refused_by (game_data c.args.game.now) c.args.levels.now.to.items c.args.when c.args.diagrams.now c.update_members.new.diagrams c.from_residual.result c.in_err-update.field-0.0 (update_functions (game_data c.args.game.now) c.args.when) c.from_residual.ensures.1 c.in_err-update.ensures.made c.in_err-update.ensures.cause

pub with_lines_of-requires-clause-scene : goal.with_lines_of-requires-clause-scene
with_lines_of-requires-clause-scene c = record { made = c.requires.made; codes = c.requires.codes; to = subst (λ (to : List ℕ). LeadsToNext (game_data c.args.game.now) to) (sym c.deref.ensures.value) c.requires.lists.to }

pub with_lines_of-requires-clause-fits : goal.with_lines_of-requires-clause-fits
with_lines_of-requires-clause-fits c =
    let g = game_data c.args.game.now in
    subst (λ (to : List ℕ). FitsNext g to c.update_members.new.diagrams) (sym c.deref.ensures.value)
    (fits_kept g c.args.levels.now.to.items c.args.diagrams.now c.update_members.new.diagrams c.in_ok-update.ensures.made.keeps c.requires.fits)

pub with_lines_of-requires-clause-list : goal.with_lines_of-requires-clause-list
with_lines_of-requires-clause-list c = (c.args.diagrams.now, update_functions (game_data c.args.game.now) c.args.when, c.in_ok-update.ensures.made)

pub returns : goal.returns
returns c =
    let g = game_data c.args.game.now in
    let made = c.in_ok-update.ensures.made in
    rw c.deref.ensures.value at (c.with_lines_of.ensures c.args.diagrams.now made (subst (λ (fs : List Function). TellsMoves g c.args.when (all_true fs) (follows g)) made.meaning c.in_ok-update.ensures.told))
