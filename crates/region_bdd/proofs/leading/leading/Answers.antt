use Rattle.std.proofs.Common.{ℕ, Err, inl, inr, List, sym, subst}
use Rattle.spec_model.specs.Diagrams.{Function, shifted}
use Rattle.bdd_bits.specs.Contents.{function_at}
use Rattle.bdd_ops.specs.Calls.{negated}
use Rattle.bdd_bits.specs.Calls.{RisesOver}
use Rattle.bit_compile.specs.Making.{Makes}
use Rattle.bit_compile.specs.Crowding.{HasCause}
use Rattle.bit_compile.specs.NamedCodes.{NoFunction}
use Rattle.bit_compile.proofs.MakingLemmas.{is_root}
use Rattle.bit_compile.proofs.Causes.{cause_wider, no_name}
use Rattle.bdd_sets.specs.Members.{move_functions, reply_of, lists_at, IsThis}
use Rattle.bdd_sets.specs.NamedMoves.{IsOfAvoiding}
use Rattle.bdd_sets.specs.NamedGame.{IsOfRest}
use Rattle.bdd_sets.proofs.CauseLemmas.{cause_by, cause_moved}
use Rattle.bdd_sets.proofs.SpentLemmas.{refused_by}
use Rattle.region_bdd.proofs.leading.leading.Goals as goal

pub shift-requires-clause-rising : goal.shift-requires-clause-rising
shift-requires-clause-rising c = subst (λ (to : List ℕ). RisesOver c.args.diagrams.now.state.table.levels c.args.diagrams.now.order to (function_at c.args.diagrams.now c.args.t.now)) (sym c.deref.ensures.value) c.requires.rising

pub returns-in_err-next-clause-made : goal.returns-in_err-next-clause-made
returns-in_err-next-clause-made c = refused_by c.args.diagrams.now c.shift.new.diagrams c.from_residual.result c.in_err-next.field-0.0 (shifted c.deref.result.now (function_at c.args.diagrams.now c.args.t.now)) _ c.from_residual.ensures.1 c.in_err-next.ensures.makes

pub returns-in_err-next-clause-cause : goal.returns-in_err-next-clause-cause
returns-in_err-next-clause-cause c =
    let old = c.args.diagrams.now in
    let new = c.shift.new.diagrams in
    let h = c.in_err-next.field-0.0 in
    let N : Function → Type 0 = IsOfRest (lists_at old c.args.members.now) c.args.levels.now (shifted c.args.levels.now.to.items (function_at old c.args.t.now)) in
    cause_by old new c.from_residual.result h N c.from_residual.ensures.1
    (cause_wider NoFunction N (no_name N) old new (Err h) (cause_moved c.deref.result.now old new c.args.t.now (shifted c.deref.result.now (function_at old c.args.t.now)) (Err h) c.requires.t c.in_err-next.ensures))

pub not_spent-requires : goal.not_spent-requires
not_spent-requires c = is_root c.args.diagrams.now c.shift.new.diagrams c.in_ok-next.next _ c.in_ok-next.ensures.makes

pub returns-in_err-target-clause-made : goal.returns-in_err-target-clause-made
returns-in_err-target-clause-made c =
    let old = c.args.diagrams.now in
    let f = shifted c.deref.result.now (function_at old c.args.t.now) in
    refused_by old c.not_spent.new.diagrams c.from_residual-in_err-target.result c.in_err-target.field-0.0 (negated f) _ c.from_residual-in_err-target.ensures.1 (c.in_err-target.ensures.made old f c.in_ok-next.ensures.makes)

pub returns-in_err-target-clause-cause : goal.returns-in_err-target-clause-cause
returns-in_err-target-clause-cause c =
    let old = c.args.diagrams.now in
    let new = c.not_spent.new.diagrams in
    let h = c.in_err-target.field-0.0 in
    let r = c.from_residual-in_err-target.result in
    let m = lists_at old c.args.members.now in
    let levels = c.args.levels.now in
    let f = shifted c.deref.result.now (function_at old c.args.t.now) in
    subst (λ (to : List ℕ). HasCause old new r (IsOfRest m levels (shifted to (function_at old c.args.t.now)))) c.deref.ensures.value
    (cause_by old new r h (IsOfRest m levels f) c.from_residual-in_err-target.ensures.1
    (cause_wider (IsThis f) (IsOfRest m levels f) (λ g is. inl is) old new (Err h) (c.in_err-target.ensures.cause old f c.in_ok-next.ensures.makes)))

pub kept_out-requires : goal.kept_out-requires
kept_out-requires c =
    let old = c.args.diagrams.now in
    let f = shifted c.deref.result.now (function_at old c.args.t.now) in
    (old, negated f, c.in_ok-target.ensures.made old f c.in_ok-next.ensures.makes, c.requires.members)

pub returns-clause-made : goal.returns-clause-made
returns-clause-made c =
    let old = c.args.diagrams.now in
    let f = shifted c.deref.result.now (function_at old c.args.t.now) in
    let made = c.kept_out.ensures.made old (negated f) (c.in_ok-target.ensures.made old f c.in_ok-next.ensures.makes) c.requires.members in
    subst (λ (to : List ℕ). Makes old c.kept_out.new.diagrams c.kept_out.result (negated (reply_of (move_functions old c.args.members.now) c.args.levels.now.reply.items (negated (shifted to (function_at old c.args.t.now)))))) c.deref.ensures.value made

pub returns-clause-cause : goal.returns-clause-cause
returns-clause-cause c =
    let old = c.args.diagrams.now in
    let new = c.kept_out.new.diagrams in
    let m = lists_at old c.args.members.now in
    let levels = c.args.levels.now in
    let f = shifted c.deref.result.now (function_at old c.args.t.now) in
    subst (λ (to : List ℕ). HasCause old new c.kept_out.result (IsOfRest m levels (shifted to (function_at old c.args.t.now)))) c.deref.ensures.value
    (cause_wider (IsOfAvoiding m levels.reply.items (negated f)) (IsOfRest m levels f) (λ g is. inr (inl is)) old new c.kept_out.result (c.kept_out.ensures.cause old (negated f) (c.in_ok-target.ensures.made old f c.in_ok-next.ensures.makes) c.requires.members))
