use Rattle.std.proofs.Common.{◌≡◌, ◌⊎◌, Bool, true, false, ◌++◌, Ok, List, ℕ, take, map, get_or, inl, inr, sym, ◌∙◌, ap, subst}
use Rattle.std.proofs.lemmas.List.{append-nil}
use Rattle.spec_model.specs.Diagrams.{Function}
use Rattle.spec_model.specs.declared.expr.Expr.{Expr}
use Rattle.spec_model.specs.Syntax.{Formula}
use Rattle.spec_model.specs.Moves.{has_next}
use Rattle.spec_model.specs.Views.{formula}
use Rattle.spec_model.specs.WellMade.{scope_of, is_step_formula}
use Rattle.bit_compile.proofs.CyclesLemmas.{take_all}
use Rattle.bdd_sets.specs.Lists.{MakesList}
use Rattle.bdd_sets.specs.Lines.{is_late, line_functions, functions_of}
use Rattle.bdd_sets.specs.LineScenes.{line_data, game_seen}
use Rattle.bdd_sets.proofs.ListLemmas.{list_refused_by}
use Rattle.bdd_sets.proofs.ShiftLemmas.{fits_still}
use Rattle.bdd_sets.proofs.LineLemmas.{late_or_now, formula_at, mark_at, functions_next}
use Rattle.bit_compile.proofs.Filled.{contains_map}
use Rattle.bit_compile.proofs.Causes.{cause_ok, cause_wider}
use Rattle.bit_compile.specs.Named.{IsNamedOf}
use Rattle.std.specs.List.{Contains}
use Rattle.bdd_sets.specs.MadeMembers.{IsOfLines}
use Rattle.bdd_sets.proofs.CauseLemmas.{cause_by, cause_memory}
use Rattle.bdd_sets.proofs.NamedLemmas.{contains_got, lines_fewer}
use Rattle.bdd_sets.proofs.lines.with_lines.Goals as goal

pub loop-k-init : goal.loop-k-init
loop-k-init c = λ base fs made. subst (λ (hs : List Function). MakesList base c.args.diagrams.now (Ok c.args.so_far) hs) (sym (append-nil fs)) made

pub with_line-requires-clause-fits : goal.with_line-requires-clause-fits
with_line-requires-clause-fits c =
    let r = c.requires.so_far in
    let keeps = (c.loop-k.invariant r.0 r.1 r.2).keeps in
    fits_still (game_seen c.args.scene.now) c.args.scene.now.to.now c.args.diagrams.now c.loop-k.diagrams (keeps.levels ∙ sym r.2.keeps.levels) (keeps.order ∙ sym r.2.keeps.order) c.requires.fits

pub with_line-requires-clause-so_far : goal.with_line-requires-clause-so_far
with_line-requires-clause-so_far c =
    let r = c.requires.so_far in
    (r.0, _, c.loop-k.invariant r.0 r.1 r.2)

pub with_line-requires-clause-formula : goal.with_line-requires-clause-formula
with_line-requires-clause-formula c =
    let g = game_seen c.args.scene.now in
    subst (λ (l : ℕ × Expr). is_step_formula (scope_of g) (formula l.1) ≡ true) c.index-lines-k.is (formula_at g c.args.lines.now c.loop-k.k c.index-lines-k.result c.loop-k-test.true c.index-lines-k.is c.requires.formulas)

pub with_line-requires-clause-late : goal.with_line-requires-clause-late
with_line-requires-clause-late c =
    let g = game_seen c.args.scene.now in
    let late = is_late g c.args.side in
    let ls = c.args.lines.now in
    let i = c.loop-k.k in
    let l = c.index-lines-k.result in
    let d = c.index.result.now in
    let marks : c.in-Ok.late.items ≡ map (λ (l : ℕ × Formula). late l.1) (line_data ls) = c.in-Ok.ensures in
    let mark : d ≡ late (formula l.1) = c.index.ensures ∙ (ap (λ (bs : List Bool). get_or bs i d) marks ∙ mark_at late ls i l d c.loop-k-test.true c.index-lines-k.is) in
    subst (λ (l : ℕ × Expr). d ≡ false → has_next (formula l.1) ≡ false) c.index-lines-k.is (λ e. late_or_now g c.args.side (formula l.1) (sym mark ∙ e))

pub loop-k-preserved : goal.loop-k-preserved
loop-k-preserved c = λ base fs made.
    let g = game_seen c.args.scene.now in
    let to = c.args.scene.now.to.now in
    let late = is_late g c.args.side in
    let ls = c.args.lines.now in
    let i = c.loop-k.k in
    let l = c.index-lines-k.result in
    let so_far = fs ++ functions_of g to c.args.when late (line_data (take i ls)) in
    let d = c.index.result.now in
    let marks : c.in-Ok.late.items ≡ map (λ (l : ℕ × Formula). late l.1) (line_data ls) = c.in-Ok.ensures in
    let mark : d ≡ late (formula l.1) = c.index.ensures ∙ (ap (λ (bs : List Bool). get_or bs i d) marks ∙ mark_at late ls i l d c.loop-k-test.true c.index-lines-k.is) in
    let more = c.in_ok-roots.ensures.made base so_far (c.loop-k.invariant base fs made) in
    let here = ap (λ (l : ℕ × Expr). so_far ++ line_functions g to c.args.when c.index.result.now (formula l.1)) (sym c.index-lines-k.is) in
    let marked = ap (λ (b : Bool). so_far ++ line_functions g to c.args.when b (formula l.1)) mark in
    subst (λ (hs : List Function). MakesList base c.with_line.new.diagrams (Ok c.in_ok-roots.roots) hs) (here ∙ (marked ∙ functions_next g to c.args.when late fs ls i l c.loop-k-test.true c.index-lines-k.is)) more

pub returns-in_err-roots-clause-made : goal.returns-in_err-roots-clause-made
returns-in_err-roots-clause-made c = λ base fs made.
    let g = game_seen c.args.scene.now in
    let to = c.args.scene.now.to.now in
    let late = is_late g c.args.side in
    let ls = c.args.lines.now in
    let so_far = fs ++ functions_of g to c.args.when late (line_data (take c.loop-k.k ls)) in
    list_refused_by base c.with_line.new.diagrams c.from_residual.result c.in_err-roots.field-0.0 _ (fs ++ functions_of g to c.args.when late (line_data ls)) c.from_residual.ensures.1 (c.in_err-roots.ensures.made base so_far (c.loop-k.invariant base fs made))

pub returns-clause-made : goal.returns-clause-made
returns-clause-made c = λ base fs made.
    let g = game_seen c.args.scene.now in
    subst (λ (ls : List (ℕ × Expr)). MakesList base c.loop-k.diagrams (Ok c.loop-k.roots) (fs ++ functions_of g c.args.scene.now.to.now c.args.when (is_late g c.args.side) (line_data ls))) (take_all c.args.lines.now c.loop-k.k c.loop-k-test.false) (c.loop-k.invariant base fs made)

pub returns-in_default-clause-cause : goal.returns-in_default-clause-cause
returns-in_default-clause-cause c = λ base fs made.
    let g = game_seen c.args.scene.now in
    let ls = line_data c.args.lines.now in
    cause_memory base c.release_list.new.diagrams (IsOfLines g (fs ++ functions_of g c.args.scene.now.to.now c.args.when (is_late g c.args.side) ls) ls)

pub returns-in_err-roots-clause-cause : goal.returns-in_err-roots-clause-cause
returns-in_err-roots-clause-cause c = λ base fs made.
    let g = game_seen c.args.scene.now in
    let to = c.args.scene.now.to.now in
    let late = is_late g c.args.side in
    let ls = c.args.lines.now in
    let i = c.loop-k.k in
    let l = c.index-lines-k.result in
    let new = c.with_line.new.diagrams in
    let so_far = fs ++ functions_of g to c.args.when late (line_data (take i ls)) in
    let named = IsOfLines g (fs ++ functions_of g to c.args.when late (line_data ls)) (line_data ls) in
    let here = contains_map {Y = ℕ × Formula} (λ (l : ℕ × Expr). (l.0, formula l.1)) ls l (contains_got ls i l c.loop-k-test.true c.index-lines-k.is) in
    let line_of : ℕ × Formula = (l.0, formula l.1) in
    let of_line = IsNamedOf g (formula (get_or ls i l).1) in
    let step : Function → Type 0 = λ f. Contains so_far f ⊎ of_line f in
    let wider : (f : Function) → step f → named f = λ f is. elim is [ inl there ↦ inl (lines_fewer g to c.args.when late fs ls i f there) | inr line ↦ inr (line_of, here, subst (λ (k : ℕ × Expr). IsNamedOf g (formula k.1) f) (sym c.index-lines-k.is) line) ] in
    cause_by base new c.from_residual.result c.in_err-roots.field-0.0 named c.from_residual.ensures.1 (cause_wider step named wider base new _ (c.in_err-roots.ensures.cause base so_far (c.loop-k.invariant base fs made)))

pub returns-clause-cause : goal.returns-clause-cause
returns-clause-cause c = λ base fs made.
    let g = game_seen c.args.scene.now in
    let ls = line_data c.args.lines.now in
    cause_ok base c.loop-k.diagrams c.loop-k.roots (IsOfLines g (fs ++ functions_of g c.args.scene.now.to.now c.args.when (is_late g c.args.side) ls) ls)
