use Rattle.std.proofs.Common.{inl, inr, ℕ, true, Ok, List, sym, subst}
use Rattle.spec_model.specs.Diagrams.{Function, shifted}
use Rattle.bdd_bits.specs.Contents.{function_at}
use Rattle.bdd_ops.specs.Functions.{joined, join_of}
use Rattle.bdd_ops.specs.Calls.{negated}
use Rattle.bdd_bits.specs.Calls.{RisesOver}
use Rattle.bit_compile.specs.Making.{Makes}
use Rattle.bit_compile.proofs.MakingLemmas.{is_root, root_added}
use Rattle.bdd_sets.specs.Members.{move_functions, avoiding, lists_at, IsThis}
use Rattle.bdd_sets.proofs.SpentLemmas.{refused_by, still_root, function_kept}
use Rattle.bdd_products.proofs.EarlyLemmas.{roots_added, fits_after}
use Rattle.bit_compile.specs.Crowding.{HasCause}
use Rattle.bit_compile.specs.NamedCodes.{NoFunction}
use Rattle.bit_compile.proofs.Causes.{cause_wider, no_name}
use Rattle.bdd_sets.specs.NamedMoves.{IsOfAvoiding}
use Rattle.bdd_sets.specs.NamedGame.{IsOfRest}
use Rattle.bdd_sets.proofs.CauseLemmas.{cause_by, cause_moved}
use Rattle.bdd_products.proofs.early.environment_states.Goals as goal

pub shift-requires-clause-rising : goal.shift-requires-clause-rising
shift-requires-clause-rising c = subst (λ (to : List ℕ). RisesOver c.args.diagrams.now.state.table.levels c.args.diagrams.now.order to (function_at c.args.diagrams.now c.args.t.now)) (sym c.deref.ensures.value) c.requires.rising

pub returns-in_err-next-clause-made : goal.returns-in_err-next-clause-made
returns-in_err-next-clause-made c = refused_by c.args.diagrams.now c.shift.new.diagrams c.from_residual.result c.in_err-next.field-0.0 (shifted c.deref.result.now (function_at c.args.diagrams.now c.args.t.now)) _ c.from_residual.ensures.1 c.in_err-next.ensures.makes

pub not_spent-requires : goal.not_spent-requires
not_spent-requires c = is_root c.args.diagrams.now c.shift.new.diagrams c.in_ok-next.next _ c.in_ok-next.ensures.makes

pub returns-in_err-target-clause-made : goal.returns-in_err-target-clause-made
returns-in_err-target-clause-made c =
    let old = c.args.diagrams.now in
    let f = shifted c.deref.result.now (function_at old c.args.t.now) in
    refused_by old c.not_spent.new.diagrams c.from_residual-in_err-target.result c.in_err-target.field-0.0 (negated f) _ c.from_residual-in_err-target.ensures.1 (c.in_err-target.ensures.made old f c.in_ok-next.ensures.makes)

pub avoided-requires-clause-target : goal.avoided-requires-clause-target
avoided-requires-clause-target c =
    let old = c.args.diagrams.now in
    let f = shifted c.deref.result.now (function_at old c.args.t.now) in
    (old, negated f, c.in_ok-target.ensures.made old f c.in_ok-next.ensures.makes, c.requires.later)

pub returns-in_err-out-clause-made : goal.returns-in_err-out-clause-made
returns-in_err-out-clause-made c =
    let old = c.args.diagrams.now in
    let f = shifted c.deref.result.now (function_at old c.args.t.now) in
    let out = avoiding (move_functions old c.args.roots.now.later) c.args.levels.now.reply.items c.args.levels.now.all.items (negated f) in
    let target = c.in_ok-target.ensures.made old f c.in_ok-next.ensures.makes in
    refused_by old c.avoided.new.diagrams c.from_residual-in_err-out.result c.in_err-out.field-0.0 out _ c.from_residual-in_err-out.ensures.1 (c.in_err-out.ensures.made old (negated f) target c.requires.later)

pub and_spent-requires-clause-a_kept : goal.and_spent-requires-clause-a_kept
and_spent-requires-clause-a_kept c =
    let old = c.args.diagrams.now in
    let f = shifted c.deref.result.now (function_at old c.args.t.now) in
    let target = c.in_ok-target.ensures.made old f c.in_ok-next.ensures.makes in
    is_root old c.avoided.new.diagrams c.in_ok-out.out _ (c.in_ok-out.ensures.made old (negated f) target c.requires.later)

pub and_spent-requires-clause-b_kept : goal.and_spent-requires-clause-b_kept
and_spent-requires-clause-b_kept c =
    let old = c.args.diagrams.now in
    let f = shifted c.deref.result.now (function_at old c.args.t.now) in
    let target = c.in_ok-target.ensures.made old f c.in_ok-next.ensures.makes in
    still_root old c.avoided.new.diagrams (Ok c.in_ok-out.out) _ (c.in_ok-out.ensures.made old (negated f) target c.requires.later) c.args.roots.now.proper c.requires.proper

pub returns-clause-made : goal.returns-clause-made
returns-clause-made c =
    let old = c.args.diagrams.now in
    let f = shifted c.deref.result.now (function_at old c.args.t.now) in
    let out = avoiding (move_functions old c.args.roots.now.later) c.args.levels.now.reply.items c.args.levels.now.all.items (negated f) in
    let target = c.in_ok-target.ensures.made old f c.in_ok-next.ensures.makes in
    let reached = c.in_ok-out.ensures.made old (negated f) target c.requires.later in
    let whole = c.and_spent.ensures.made old out reached in
    let proper = function_kept old c.avoided.new.diagrams reached.keeps c.args.roots.now.proper c.requires.proper in
    let with_proper = subst (λ (k : Function). Makes old c.and_spent.new.diagrams c.and_spent.result (joined (join_of true) out k)) proper whole in
    rw c.deref.ensures.value at with_proper

pub avoided-requires-clause-kept : goal.avoided-requires-clause-kept
avoided-requires-clause-kept c =
    let old = c.args.diagrams.now in
    roots_added old c.not_spent.new.diagrams c.args.early.now (root_added old c.not_spent.new.diagrams c.in_ok-target.target _ (c.in_ok-target.ensures.made old (shifted c.deref.result.now (function_at old c.args.t.now)) c.in_ok-next.ensures.makes)) c.requires.kept

pub avoided-requires-clause-fits : goal.avoided-requires-clause-fits
avoided-requires-clause-fits c =
    let old = c.args.diagrams.now in
    fits_after old c.not_spent.new.diagrams c.in_ok-target.target _ c.args.roots.now.later c.args.levels.now c.args.early.now (c.in_ok-target.ensures.made old (shifted c.deref.result.now (function_at old c.args.t.now)) c.in_ok-next.ensures.makes) c.requires.later c.requires.kept c.requires.fits

pub returns-in_err-next-clause-cause : goal.returns-in_err-next-clause-cause
returns-in_err-next-clause-cause c = λ plain.
    let old = c.args.diagrams.now in
    let t = function_at old c.args.t.now in
    let lists = lists_at old c.args.roots.now.later in
    let levels = c.args.levels.now in
    let f = shifted c.deref.result.now t in
    let named = λ (to : List ℕ). IsOfRest lists levels (shifted to t) in
    subst (λ (to : List ℕ). HasCause old c.shift.new.diagrams c.from_residual.result (named to)) c.deref.ensures.value
    (cause_by old c.shift.new.diagrams c.from_residual.result c.in_err-next.field-0.0 (named c.deref.result.now) c.from_residual.ensures.1
    (cause_wider NoFunction (named c.deref.result.now) (no_name (named c.deref.result.now)) old c.shift.new.diagrams _ (cause_moved c.deref.result.now old c.shift.new.diagrams c.args.t.now f _ c.requires.t c.in_err-next.ensures)))

pub returns-in_err-target-clause-cause : goal.returns-in_err-target-clause-cause
returns-in_err-target-clause-cause c = λ plain.
    let old = c.args.diagrams.now in
    let t = function_at old c.args.t.now in
    let lists = lists_at old c.args.roots.now.later in
    let levels = c.args.levels.now in
    let f = shifted c.deref.result.now t in
    let named = λ (to : List ℕ). IsOfRest lists levels (shifted to t) in
    subst (λ (to : List ℕ). HasCause old c.not_spent.new.diagrams c.from_residual-in_err-target.result (named to)) c.deref.ensures.value
    (cause_by old c.not_spent.new.diagrams c.from_residual-in_err-target.result c.in_err-target.field-0.0 (named c.deref.result.now) c.from_residual-in_err-target.ensures.1
    (cause_wider (IsThis f) (named c.deref.result.now) (λ g is. inl is) old c.not_spent.new.diagrams _ (c.in_err-target.ensures.cause old f c.in_ok-next.ensures.makes)))

pub returns-in_err-out-clause-cause : goal.returns-in_err-out-clause-cause
returns-in_err-out-clause-cause c = λ plain.
    let old = c.args.diagrams.now in
    let t = function_at old c.args.t.now in
    let lists = lists_at old c.args.roots.now.later in
    let levels = c.args.levels.now in
    let f = shifted c.deref.result.now t in
    let named = λ (to : List ℕ). IsOfRest lists levels (shifted to t) in
    let target = c.in_ok-target.ensures.made old f c.in_ok-next.ensures.makes in
    subst (λ (to : List ℕ). HasCause old c.avoided.new.diagrams c.from_residual-in_err-out.result (named to)) c.deref.ensures.value
    (cause_by old c.avoided.new.diagrams c.from_residual-in_err-out.result c.in_err-out.field-0.0 (named c.deref.result.now) c.from_residual-in_err-out.ensures.1
    (cause_wider (IsOfAvoiding lists levels.reply.items (negated f)) (named c.deref.result.now) (λ g is. inr (inl is)) old c.avoided.new.diagrams _ (c.in_err-out.ensures.cause plain old (negated f) target c.requires.later)))

pub returns-clause-cause : goal.returns-clause-cause
returns-clause-cause c = λ plain.
    let old = c.args.diagrams.now in
    let t = function_at old c.args.t.now in
    let lists = lists_at old c.args.roots.now.later in
    let levels = c.args.levels.now in
    let f = shifted c.deref.result.now t in
    let named = λ (to : List ℕ). IsOfRest lists levels (shifted to t) in
    let out = avoiding (move_functions old c.args.roots.now.later) levels.reply.items levels.all.items (negated f) in
    let target = c.in_ok-target.ensures.made old f c.in_ok-next.ensures.makes in
    let reached = c.in_ok-out.ensures.made old (negated f) target c.requires.later in
    subst (λ (to : List ℕ). HasCause old c.and_spent.new.diagrams c.and_spent.result (named to)) c.deref.ensures.value
    (cause_wider (IsThis out) (named c.deref.result.now) (λ g is. inr (inr is)) old c.and_spent.new.diagrams c.and_spent.result (c.and_spent.ensures.cause old out reached))
