use Rattle.std.proofs.Common.{ℕ, Ok, Err, arith, subst, ◌∙◌}
use Rattle.spec_model.specs.GameViews.{game_data}
use Rattle.game_values.specs.declared.seen.At.TheVariants.{Now}
use Rattle.bdd_bits.specs.Orders.{IsDeclared}
use Rattle.bit_compile.specs.Named.{IsOfProper}
use Rattle.bdd_sets.specs.NamedGame.{IsOfGame}
use Rattle.region_bdd.specs.Object.{roots_of_own}
use Rattle.region_bdd.specs.Making.{times_in_sets, FitSets, times_in_formulas, FitFormulas, FitOwn}
use Rattle.bdd_bits.proofs.CallLemmas.{same_then}
use Rattle.region_bdd.proofs.MakingLaws.{own_made, later_members, early_after, part_refused, handed_part, part_wider, sets_named, proper_named}
use Rattle.bdd_sets.proofs.ShiftLemmas.{fits_kept}
use Rattle.region_bdd.proofs.making.own.Goals as goal

pub returns-in_err-all-clause-part : goal.returns-in_err-all-clause-part
returns-in_err-all-clause-part c =
    let g = game_data c.args.game.now in
    let ds = c.args.codes.now in
    let old = c.args.diagrams.now in
    let h = c.in_err-all.field-0.0 in
    handed_part roots_of_own (FitOwn g c.args.levels.now.to.items) times_in_sets (FitSets ds) (IsOfGame g) old c.sets.new.diagrams c.from_residual.result h c.from_residual.ensures.1
    (part_wider times_in_sets (FitSets ds) (IsOfProper ds Now) (IsOfGame g) (proper_named g ds c.requires.codes) old c.sets.new.diagrams (Err h) c.in_err-all.ensures)

pub make-early-requires : goal.make-early-requires
make-early-requires c = later_members (game_data c.args.game.now) c.sets.new.diagrams c.formulas.new.diagrams c.args.levels.now.to.items (IsOfGame (game_data c.args.game.now)) c.in-Ok.parts c.in-Ok.ensures

pub returns-in-Ok-clause-part : goal.returns-in-Ok-clause-part
returns-in-Ok-clause-part c =
    let g = game_data c.args.game.now in
    let ds = c.args.codes.now in
    let old = c.args.diagrams.now in
    let mid = c.sets.new.diagrams in
    let p : ℕ × ℕ = (c.in_ok-all.all, c.in_ok-all.nothing) in
    own_made g c.args.levels.now.to.items ds (IsOfGame g) old mid c.formulas.new.diagrams c.make-early.new.diagrams c.in_ok-all.nothing c.in_ok-all.all c.in-Ok.parts c.make-early.result c.requires.codes
    (part_wider times_in_sets (FitSets ds) (IsOfProper ds Now) (IsOfGame g) (proper_named g ds c.requires.codes) old mid (Ok p) c.in_ok-all.ensures)
    c.in-Ok.ensures c.make-early.ensures.added c.make-early.ensures.keeps
    (λ declared. (let none = c.requires.named (subst IsDeclared (c.make-early.ensures.keeps.order ∙ (c.in-Ok.ensures.keeps.order ∙ c.in_ok-all.ensures.keeps.order)) declared) in (c.make-early.ensures.lines none, c.make-early.ensures.plain none)))

pub returns-in-Ok-clause-early : goal.returns-in-Ok-clause-early
returns-in-Ok-clause-early c =
    let g = game_data c.args.game.now in
    early_after g c.sets.new.diagrams c.formulas.new.diagrams c.make-early.new.diagrams c.args.levels.now.to.items (IsOfGame g) c.in-Ok.parts c.args.levels.now c.make-early.result c.in-Ok.ensures c.make-early.ensures.keeps c.make-early.ensures.fits

pub returns-in-Err-clause-part : goal.returns-in-Err-clause-part
returns-in-Err-clause-part c =
    let g = game_data c.args.game.now in
    let ds = c.args.codes.now in
    let old = c.args.diagrams.now in
    let mid = c.sets.new.diagrams in
    let to = c.args.levels.now.to.items in
    let p : ℕ × ℕ = (c.in_ok-all.all, c.in_ok-all.nothing) in
    let first = part_wider times_in_sets (FitSets ds) (IsOfProper ds Now) (IsOfGame g) (proper_named g ds c.requires.codes) old mid (Ok p) c.in_ok-all.ensures in
    part_refused times_in_sets (FitSets ds) (IsOfGame g) old mid p first
    times_in_formulas (FitFormulas g to) roots_of_own (FitOwn g to) c.formulas.new.diagrams c.release-in-Err.new.self c.in-Err.halt c.in-Err.ensures
    (sets_named g ds mid p c.requires.codes first.fit)
    (λ n. (let one = c.release.ensures.released n in let two = c.release-in-Err.ensures.released n in omega (arith, one, two)))
    (same_then _ _ _ c.release.ensures.nodes c.release-in-Err.ensures.nodes)

pub formulas-requires-clause-fits : goal.formulas-requires-clause-fits
formulas-requires-clause-fits c = fits_kept (game_data c.args.game.now) c.args.levels.now.to.items c.args.diagrams.now c.sets.new.diagrams c.in_ok-all.ensures.keeps c.requires.fits
