use Rattle.std.proofs.Common.{◌∙◌, sym, ap, arith, Bool, subst, inl}
use Rattle.spec_model.specs.Views.{formula}
use Rattle.bdd_bits.specs.Contents.{function_at}
use Rattle.bit_compile.specs.Domains.{level_count}
use Rattle.bit_compile.specs.Making.{Makes}
use Rattle.bit_compile.specs.Compiled.{compiled}
use Rattle.bit_compile.proofs.MakingLemmas.{is_root}
use Rattle.bdd_sets.specs.Lines.{line_function}
use Rattle.bdd_sets.specs.LineScenes.{game_seen}
use Rattle.bdd_sets.proofs.SpentLemmas.{refused_by}
use Rattle.bdd_sets.proofs.ShiftLemmas.{fits_kept}
use Rattle.bdd_sets.proofs.LineLemmas.{line_rises}
use Rattle.bit_compile.specs.Named.{IsNamedOf}
use Rattle.bit_compile.proofs.Causes.{cause_ok, cause_wider}
use Rattle.bdd_sets.specs.Members.{IsThis}
use Rattle.bdd_sets.proofs.CauseLemmas.{cause_by}
use Rattle.bdd_sets.proofs.lines.line_root.Goals as goal

pub compile-requires-clause-levels : goal.compile-requires-clause-levels
compile-requires-clause-levels c = let same = ap level_count c.requires.scene.codes in let levels = c.requires.fits.levels in omega (arith, same, levels)

pub returns-in_err-whole-clause-made : goal.returns-in_err-whole-clause-made
returns-in_err-whole-clause-made c = refused_by c.args.diagrams.now c.compile.new.diagrams c.from_residual.result c.in_err-whole.field-0.0 (compiled (game_seen c.args.scene.now) (formula c.args.e.now)) _ c.from_residual.ensures.1 c.in_err-whole.ensures.compiled.made

pub shift_spent-requires-clause-kept : goal.shift_spent-requires-clause-kept
shift_spent-requires-clause-kept c = is_root c.args.diagrams.now c.compile.new.diagrams c.in_ok-whole.whole _ c.in_ok-whole.ensures.compiled.made

pub shift_spent-requires-clause-rising : goal.shift_spent-requires-clause-rising
shift_spent-requires-clause-rising c =
    let fits = fits_kept (game_seen c.args.scene.now) c.args.scene.now.to.now c.args.diagrams.now c.compile.new.diagrams c.in_ok-whole.ensures.compiled.made.keeps c.requires.fits in
    line_rises (game_seen c.args.scene.now) (formula c.args.e.now) (function_at c.compile.new.diagrams c.in_ok-whole.whole) c.in_ok-whole.ensures.meaning (c.requires.late c.if-late.false)
    c.compile.new.diagrams.state.table.levels c.compile.new.diagrams.order c.args.scene.now.to.now fits.levels c.requires.scene.to fits.rising

pub returns-else-late-clause-made : goal.returns-else-late-clause-made
returns-else-late-clause-made c =
    let g = game_seen c.args.scene.now in
    let e = formula c.args.e.now in
    let moved = c.shift_spent.ensures.made c.args.diagrams.now (compiled g e) c.in_ok-whole.ensures.compiled.made in
    subst (λ (late : Bool). Makes c.args.diagrams.now c.shift_spent.new.diagrams c.shift_spent.result (line_function g c.args.scene.now.to.now late e)) (sym c.if-late.false) moved

pub returns-in_err-whole-clause-cause : goal.returns-in_err-whole-clause-cause
returns-in_err-whole-clause-cause c = cause_by c.args.diagrams.now c.compile.new.diagrams c.from_residual.result c.in_err-whole.field-0.0 (IsNamedOf (game_seen c.args.scene.now) (formula c.args.e.now)) c.from_residual.ensures.1 c.in_err-whole.ensures.compiled.cause

pub returns-then-late-clause-cause : goal.returns-then-late-clause-cause
returns-then-late-clause-cause c = cause_ok c.args.diagrams.now c.compile.new.diagrams c.in_ok-whole.whole (IsNamedOf (game_seen c.args.scene.now) (formula c.args.e.now))

pub returns-else-late-clause-cause : goal.returns-else-late-clause-cause
returns-else-late-clause-cause c =
    let g = game_seen c.args.scene.now in
    let e = formula c.args.e.now in
    let old = c.args.diagrams.now in
    cause_wider (IsThis (compiled g e)) (IsNamedOf g e) (λ f is. inl (inl (inl is))) old c.shift_spent.new.diagrams c.shift_spent.result (c.shift_spent.ensures.cause old (compiled g e) c.in_ok-whole.ensures.compiled.made)
