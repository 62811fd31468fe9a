use Rattle.std.proofs.Common.{inl, inr, ℕ, Ok, List, sym, subst, ap, ◌∙◌, ◌≡◌}
use Rattle.spec_model.specs.Diagrams.{Function}
use Rattle.bdd_ops.specs.Calls.{negated}
use Rattle.bit_compile.specs.Making.{Makes}
use Rattle.bit_compile.proofs.MakingLemmas.{is_root}
use Rattle.bdd_sets.specs.Members.{AreRoots, all_true, functions_at, move_functions, reply_of, avoiding, lists_at, IsEither, IsBesideAll}
use Rattle.bdd_sets.proofs.SpentLemmas.{refused_by, roots_stay, held_beside, twice_beside, avoiding_made, functions_kept}
use Rattle.bdd_sets.proofs.CauseLemmas.{cause_by, all_of_all}
use Rattle.bit_compile.proofs.Causes.{cause_wider}
use Rattle.bdd_sets.specs.NamedMoves.{IsFirstOfAll, IsOfAvoiding, kept_out as kept_away, inputs}
use Rattle.bdd_sets.proofs.moves.avoided.Goals as goal

pub returns-in_err-out-clause-made : goal.returns-in_err-out-clause-made
returns-in_err-out-clause-made c = λ base f first are.
    refused_by base c.kept_out.new.diagrams c.from_residual.result c.in_err-out.field-0.0 (negated (reply_of (move_functions base c.args.members.now) c.args.levels.now.reply.items f)) (avoiding (move_functions base c.args.members.now) c.args.levels.now.reply.items c.args.levels.now.all.items f) c.from_residual.ensures.1 (c.in_err-out.ensures.made base f first are)

pub beside-requires-clause-kept : goal.beside-requires-clause-kept
beside-requires-clause-kept c = let r = c.requires in is_root r.0 c.kept_out.new.diagrams c.in_ok-out.out _ (c.in_ok-out.ensures.made r.0 r.1 r.2 r.3)

pub beside-requires-clause-members : goal.beside-requires-clause-members
beside-requires-clause-members c =
    let r = c.requires in
    let are = roots_stay r.0 c.kept_out.new.diagrams (Ok c.in_ok-out.out) _ (c.in_ok-out.ensures.made r.0 r.1 r.2 r.3) c.args.members.now.inputs.items r.3.inputs in
    subst (λ (ms : List ℕ). AreRoots c.kept_out.new.diagrams ms) (sym c.deref.ensures.value) are

pub returns-in_err-out-2-clause-made : goal.returns-in_err-out-2-clause-made
returns-in_err-out-2-clause-made c = λ base f first are.
    let out = negated (reply_of (move_functions base c.args.members.now) c.args.levels.now.reply.items f) in
    refused_by base c.beside.new.diagrams c.from_residual-in_err-out-2.result c.in_err-out-2.field-0.0 out (avoiding (move_functions base c.args.members.now) c.args.levels.now.reply.items c.args.levels.now.all.items f) c.from_residual-in_err-out-2.ensures.1 (c.in_err-out-2.ensures.refused base out (c.in_ok-out.ensures.made base f first are))

pub exists_spent-requires-clause-a_kept : goal.exists_spent-requires-clause-a_kept
exists_spent-requires-clause-a_kept c =
    let r = c.requires in
    let root = is_root r.0 c.kept_out.new.diagrams c.in_ok-out.out _ (c.in_ok-out.ensures.made r.0 r.1 r.2 r.3) in
    held_beside c.kept_out.new.diagrams c.beside.new.diagrams c.in_ok-out.out c.in_ok-out-2.out c.in_ok-out-2.legal _ c.in_ok-out-2.ensures.same c.in_ok-out-2.ensures.made root

pub exists_spent-requires-clause-b_kept : goal.exists_spent-requires-clause-b_kept
exists_spent-requires-clause-b_kept c = is_root c.kept_out.new.diagrams c.beside.new.diagrams c.in_ok-out-2.legal _ c.in_ok-out-2.ensures.made

pub exists_spent-requires-clause-apart : goal.exists_spent-requires-clause-apart
exists_spent-requires-clause-apart c =
    let r = c.requires in
    let root = is_root r.0 c.kept_out.new.diagrams c.in_ok-out.out _ (c.in_ok-out.ensures.made r.0 r.1 r.2 r.3) in
    twice_beside c.kept_out.new.diagrams c.beside.new.diagrams c.in_ok-out.out c.in_ok-out-2.out c.in_ok-out-2.legal _ c.in_ok-out-2.ensures.same c.in_ok-out-2.ensures.made root

pub returns-clause-made : goal.returns-clause-made
returns-clause-made c = λ base f first are.
    let mid = c.kept_out.new.diagrams in
    let out = negated (reply_of (move_functions base c.args.members.now) c.args.levels.now.reply.items f) in
    let legal = all_true (functions_at mid c.deref.result.now) in
    let made = c.in_ok-out.ensures.made base f first are in
    let made' = subst (λ (n : ℕ). Makes base mid (Ok n) out) (sym c.in_ok-out-2.ensures.same) made in
    let all = c.exists_spent.ensures.made base mid out legal made' c.in_ok-out-2.ensures.made in
    let plain = rw (c.deref.ensures.value, c.deref-2.ensures.value) at all in
    subst (λ (k : Function). Makes base c.exists_spent.new.diagrams c.exists_spent.result k) (avoiding_made base mid c.args.members.now c.args.levels.now.reply.items c.args.levels.now.all.items f are made.keeps) plain

pub returns-in_err-out-clause-cause : goal.returns-in_err-out-clause-cause
returns-in_err-out-clause-cause c = λ base f first are.
    let m = c.args.members.now in
    let reply = c.args.levels.now.reply.items in
    let old = c.args.diagrams.now in
    let named = IsOfAvoiding (lists_at base m) reply f in
    cause_by base c.kept_out.new.diagrams c.from_residual.result c.in_err-out.field-0.0 named c.from_residual.ensures.1 (c.in_err-out.ensures.cause base f first are)

pub returns-in_err-out-2-clause-cause : goal.returns-in_err-out-2-clause-cause
returns-in_err-out-2-clause-cause c = λ base f first are.
    let m = c.args.members.now in
    let reply = c.args.levels.now.reply.items in
    let old = c.args.diagrams.now in
    let named = IsOfAvoiding (lists_at base m) reply f in
    let out = negated (reply_of (move_functions base m) reply f) in
    let mid = c.kept_out.new.diagrams in
    let made = c.in_ok-out.ensures.made base f first are in
    let ins : functions_at mid c.deref.result.now ≡ functions_at base m.inputs.items = ap (functions_at mid) c.deref.ensures.value ∙ functions_kept base mid made.keeps m.inputs.items are.inputs in
    let step = IsBesideAll out (functions_at mid c.deref.result.now) in
    let wider : (g : Function) → step g → named g = λ g is. elim is [ inl here ↦ kept_away here | inr there ↦ inputs (subst (λ (fs : List Function). IsFirstOfAll fs g) ins there) ] in
    cause_by base c.beside.new.diagrams c.from_residual-in_err-out-2.result c.in_err-out-2.field-0.0 named c.from_residual-in_err-out-2.ensures.1 (cause_wider step named wider base c.beside.new.diagrams _ (c.in_err-out-2.ensures.cause base out made))

pub returns-clause-cause : goal.returns-clause-cause
returns-clause-cause c = λ base f first are.
    let m = c.args.members.now in
    let reply = c.args.levels.now.reply.items in
    let old = c.args.diagrams.now in
    let named = IsOfAvoiding (lists_at base m) reply f in
    let out = negated (reply_of (move_functions base m) reply f) in
    let mid = c.kept_out.new.diagrams in
    let made = c.in_ok-out.ensures.made base f first are in
    let made' = subst (λ (n : ℕ). Makes base mid (Ok n) out) (sym c.in_ok-out-2.ensures.same) made in
    let ins : functions_at mid c.deref.result.now ≡ functions_at base m.inputs.items = ap (functions_at mid) c.deref.ensures.value ∙ functions_kept base mid made.keeps m.inputs.items are.inputs in
    let legal = all_true (functions_at mid c.deref.result.now) in
    let step = IsEither out legal in
    let wider : (g : Function) → step g → named g = λ g is. elim is [ inl here ↦ kept_away here | inr there ↦ inputs (subst (λ (h : Function). IsFirstOfAll (functions_at base m.inputs.items) h) (sym (there ∙ ap all_true ins)) (all_of_all (functions_at base m.inputs.items))) ] in
    cause_wider step named wider base c.exists_spent.new.diagrams c.exists_spent.result (c.exists_spent.ensures.cause base mid out legal made' c.in_ok-out-2.ensures.made)
