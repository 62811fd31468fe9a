use Rattle.std.proofs.Common.{inl, inr, ℕ, Ok, List, sym, subst}
use Rattle.spec_model.specs.Diagrams.{Function, ite as choice, shifted}
use Rattle.bdd_bits.specs.Contents.{function_at}
use Rattle.bdd_bits.specs.Calls.{RisesOver}
use Rattle.bit_compile.specs.Making.{Makes}
use Rattle.bit_compile.proofs.MakingLemmas.{is_root, root_added}
use Rattle.bdd_sets.specs.Members.{move_functions, avoiding, lists_at, IsThis}
use Rattle.bdd_sets.proofs.SpentLemmas.{refused_by, still_root, function_kept}
use Rattle.bdd_products.proofs.EarlyLemmas.{roots_added, fits_after}
use Rattle.bit_compile.specs.Crowding.{HasCause}
use Rattle.bit_compile.specs.NamedCodes.{NoFunction}
use Rattle.bit_compile.proofs.Causes.{cause_wider, no_name}
use Rattle.bdd_sets.specs.NamedMoves.{IsOfAvoiding}
use Rattle.bdd_sets.specs.NamedGame.{IsOfStep}
use Rattle.bdd_sets.proofs.CauseLemmas.{cause_by, cause_moved}
use Rattle.bdd_products.proofs.early.system_states.Goals as goal

pub shift-requires-clause-rising : goal.shift-requires-clause-rising
shift-requires-clause-rising c = subst (λ (to : List ℕ). RisesOver c.args.diagrams.now.state.table.levels c.args.diagrams.now.order to (function_at c.args.diagrams.now c.args.t.now)) (sym c.deref.ensures.value) c.requires.rising

pub returns-in_err-target-clause-made : goal.returns-in_err-target-clause-made
returns-in_err-target-clause-made c = refused_by c.args.diagrams.now c.shift.new.diagrams c.from_residual.result c.in_err-target.field-0.0 (shifted c.deref.result.now (function_at c.args.diagrams.now c.args.t.now)) _ c.from_residual.ensures.1 c.in_err-target.ensures.makes

pub avoided-requires-clause-target : goal.avoided-requires-clause-target
avoided-requires-clause-target c = (c.args.diagrams.now, shifted c.deref.result.now (function_at c.args.diagrams.now c.args.t.now), c.in_ok-target.ensures.makes, c.requires.later)

pub returns-in_err-out-clause-made : goal.returns-in_err-out-clause-made
returns-in_err-out-clause-made c =
    let old = c.args.diagrams.now in
    let f = shifted c.deref.result.now (function_at old c.args.t.now) in
    let out = avoiding (move_functions old c.args.roots.now.later) c.args.levels.now.reply.items c.args.levels.now.all.items f in
    refused_by old c.avoided.new.diagrams c.from_residual-in_err-out.result c.in_err-out.field-0.0 out _ c.from_residual-in_err-out.ensures.1 (c.in_err-out.ensures.made old f c.in_ok-target.ensures.makes c.requires.later)

pub ite_spent-requires-clause-a_kept : goal.ite_spent-requires-clause-a_kept
ite_spent-requires-clause-a_kept c =
    let old = c.args.diagrams.now in
    is_root old c.avoided.new.diagrams c.in_ok-out.out _ (c.in_ok-out.ensures.made old _ c.in_ok-target.ensures.makes c.requires.later)

pub ite_spent-requires-clause-b_kept : goal.ite_spent-requires-clause-b_kept
ite_spent-requires-clause-b_kept c =
    let old = c.args.diagrams.now in
    still_root old c.avoided.new.diagrams (Ok c.in_ok-out.out) _ (c.in_ok-out.ensures.made old _ c.in_ok-target.ensures.makes c.requires.later) c.args.roots.now.nothing c.requires.nothing

pub ite_spent-requires-clause-c_kept : goal.ite_spent-requires-clause-c_kept
ite_spent-requires-clause-c_kept c =
    let old = c.args.diagrams.now in
    still_root old c.avoided.new.diagrams (Ok c.in_ok-out.out) _ (c.in_ok-out.ensures.made old _ c.in_ok-target.ensures.makes c.requires.later) c.args.roots.now.proper c.requires.proper

pub returns-clause-made : goal.returns-clause-made
returns-clause-made c =
    let old = c.args.diagrams.now in
    let f = shifted c.deref.result.now (function_at old c.args.t.now) in
    let out = avoiding (move_functions old c.args.roots.now.later) c.args.levels.now.reply.items c.args.levels.now.all.items f in
    let reached = c.in_ok-out.ensures.made old f c.in_ok-target.ensures.makes c.requires.later in
    let whole = c.ite_spent.ensures.made old out reached in
    let nothing = function_kept old c.avoided.new.diagrams reached.keeps c.args.roots.now.nothing c.requires.nothing in
    let proper = function_kept old c.avoided.new.diagrams reached.keeps c.args.roots.now.proper c.requires.proper in
    let with_nothing = subst (λ (k : Function). Makes old c.ite_spent.new.diagrams c.ite_spent.result (choice out k (function_at c.avoided.new.diagrams c.args.roots.now.proper))) nothing whole in
    let with_proper = subst (λ (k : Function). Makes old c.ite_spent.new.diagrams c.ite_spent.result (choice out (function_at old c.args.roots.now.nothing) k)) proper with_nothing in
    rw c.deref.ensures.value at with_proper

pub avoided-requires-clause-kept : goal.avoided-requires-clause-kept
avoided-requires-clause-kept c =
    let old = c.args.diagrams.now in
    roots_added old c.shift.new.diagrams c.args.early.now (root_added old c.shift.new.diagrams c.in_ok-target.target _ (c.in_ok-target.ensures.makes)) c.requires.kept

pub avoided-requires-clause-fits : goal.avoided-requires-clause-fits
avoided-requires-clause-fits c =
    let old = c.args.diagrams.now in
    fits_after old c.shift.new.diagrams c.in_ok-target.target _ c.args.roots.now.later c.args.levels.now c.args.early.now (c.in_ok-target.ensures.makes) c.requires.later c.requires.kept c.requires.fits

pub returns-in_err-target-clause-cause : goal.returns-in_err-target-clause-cause
returns-in_err-target-clause-cause c = λ plain.
    let old = c.args.diagrams.now in
    let t = function_at old c.args.t.now in
    let lists = lists_at old c.args.roots.now.later in
    let levels = c.args.levels.now in
    let f = shifted c.deref.result.now t in
    let named = λ (to : List ℕ). IsOfStep lists levels (shifted to t) in
    subst (λ (to : List ℕ). HasCause old c.shift.new.diagrams c.from_residual.result (named to)) c.deref.ensures.value
    (cause_by old c.shift.new.diagrams c.from_residual.result c.in_err-target.field-0.0 (named c.deref.result.now) c.from_residual.ensures.1
    (cause_wider NoFunction (named c.deref.result.now) (no_name (named c.deref.result.now)) old c.shift.new.diagrams _ (cause_moved c.deref.result.now old c.shift.new.diagrams c.args.t.now f _ c.requires.t c.in_err-target.ensures)))

pub returns-in_err-out-clause-cause : goal.returns-in_err-out-clause-cause
returns-in_err-out-clause-cause c = λ plain.
    let old = c.args.diagrams.now in
    let t = function_at old c.args.t.now in
    let lists = lists_at old c.args.roots.now.later in
    let levels = c.args.levels.now in
    let f = shifted c.deref.result.now t in
    let named = λ (to : List ℕ). IsOfStep lists levels (shifted to t) in
    subst (λ (to : List ℕ). HasCause old c.avoided.new.diagrams c.from_residual-in_err-out.result (named to)) c.deref.ensures.value
    (cause_by old c.avoided.new.diagrams c.from_residual-in_err-out.result c.in_err-out.field-0.0 (named c.deref.result.now) c.from_residual-in_err-out.ensures.1
    (cause_wider (IsOfAvoiding lists levels.reply.items f) (named c.deref.result.now) (λ g is. inl is) old c.avoided.new.diagrams _ (c.in_err-out.ensures.cause plain old f c.in_ok-target.ensures.makes c.requires.later)))

pub returns-clause-cause : goal.returns-clause-cause
returns-clause-cause c = λ plain.
    let old = c.args.diagrams.now in
    let t = function_at old c.args.t.now in
    let lists = lists_at old c.args.roots.now.later in
    let levels = c.args.levels.now in
    let f = shifted c.deref.result.now t in
    let named = λ (to : List ℕ). IsOfStep lists levels (shifted to t) in
    let out = avoiding (move_functions old c.args.roots.now.later) levels.reply.items levels.all.items f in
    let reached = c.in_ok-out.ensures.made old f c.in_ok-target.ensures.makes c.requires.later in
    subst (λ (to : List ℕ). HasCause old c.ite_spent.new.diagrams c.ite_spent.result (named to)) c.deref.ensures.value
    (cause_wider (IsThis out) (named c.deref.result.now) (λ g is. inr is) old c.ite_spent.new.diagrams c.ite_spent.result (c.ite_spent.ensures.cause old out reached))
