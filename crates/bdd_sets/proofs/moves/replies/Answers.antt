use Rattle.std.proofs.Common.{inl, inr, ◌≡◌, ℕ, true, Ok, List, sym, subst, ap, ◌∙◌}
use Rattle.spec_model.specs.Diagrams.{Function}
use Rattle.bdd_ops.specs.Functions.{joined, join_of}
use Rattle.bit_compile.specs.Making.{Makes}
use Rattle.bit_compile.proofs.MakingLemmas.{is_root}
use Rattle.bdd_sets.specs.Members.{AreRoots, all_true, functions_at, move_functions, reply_of, lists_at, IsEither, IsBesideAll}
use Rattle.bdd_sets.proofs.SpentLemmas.{refused_by, roots_stay, held_beside, twice_beside, reply_made, functions_kept}
use Rattle.bdd_sets.proofs.CauseLemmas.{cause_by, all_of_all}
use Rattle.bit_compile.proofs.Causes.{cause_wider}
use Rattle.bdd_sets.specs.NamedMoves.{IsFirstOfAll, IsOfAvoiding, aimed, outputs, led, updates}
use Rattle.bdd_sets.proofs.moves.replies.Goals as goal

pub beside-requires-clause-kept : goal.beside-requires-clause-kept
beside-requires-clause-kept c = let r = c.requires in is_root r.0 c.args.diagrams.now c.args.target r.1 r.2

pub beside-requires-clause-members : goal.beside-requires-clause-members
beside-requires-clause-members c =
    let r = c.requires in
    let are = roots_stay r.0 c.args.diagrams.now (Ok c.args.target) r.1 r.2 c.args.members.now.outputs.items r.3.outputs in
    subst (λ (ms : List ℕ). AreRoots c.args.diagrams.now ms) (sym c.deref.ensures.value) are

pub returns-in_err-target-clause-made : goal.returns-in_err-target-clause-made
returns-in_err-target-clause-made c = λ base f first are.
    refused_by base c.beside.new.diagrams c.from_residual.result c.in_err-target.field-0.0 f (reply_of (move_functions base c.args.members.now) c.args.levels.now.reply.items f) c.from_residual.ensures.1 (c.in_err-target.ensures.refused base f first)

pub join_spent-requires-clause-a_kept : goal.join_spent-requires-clause-a_kept
join_spent-requires-clause-a_kept c =
    let r = c.requires in
    held_beside c.args.diagrams.now c.beside.new.diagrams c.args.target c.in_ok-target.target c.in_ok-target.legal _ c.in_ok-target.ensures.same c.in_ok-target.ensures.made (is_root r.0 c.args.diagrams.now c.args.target r.1 r.2)

pub join_spent-requires-clause-b_kept : goal.join_spent-requires-clause-b_kept
join_spent-requires-clause-b_kept c = is_root c.args.diagrams.now c.beside.new.diagrams c.in_ok-target.legal _ c.in_ok-target.ensures.made

pub join_spent-requires-clause-apart : goal.join_spent-requires-clause-apart
join_spent-requires-clause-apart c =
    let r = c.requires in
    twice_beside c.args.diagrams.now c.beside.new.diagrams c.args.target c.in_ok-target.target c.in_ok-target.legal _ c.in_ok-target.ensures.same c.in_ok-target.ensures.made (is_root r.0 c.args.diagrams.now c.args.target r.1 r.2)

pub returns-in_err-reached-clause-made : goal.returns-in_err-reached-clause-made
returns-in_err-reached-clause-made c = λ base f first are.
    let old = c.args.diagrams.now in
    let outs = all_true (functions_at old c.deref.result.now) in
    let first' = subst (λ (n : ℕ). Makes base old (Ok n) f) (sym c.in_ok-target.ensures.same) first in
    refused_by base c.join_spent.new.diagrams c.from_residual-in_err-reached.result c.in_err-reached.field-0.0 (joined (join_of true) f outs) (reply_of (move_functions base c.args.members.now) c.args.levels.now.reply.items f) c.from_residual-in_err-reached.ensures.1 (c.in_err-reached.ensures.made base old f outs first' c.in_ok-target.ensures.made)

pub beside-requires-2-clause-kept : goal.beside-requires-2-clause-kept
beside-requires-2-clause-kept c =
    let r = c.requires in
    let old = c.args.diagrams.now in
    let outs = all_true (functions_at old c.deref.result.now) in
    let first' = subst (λ (n : ℕ). Makes r.0 old (Ok n) r.1) (sym c.in_ok-target.ensures.same) r.2 in
    is_root r.0 c.join_spent.new.diagrams c.in_ok-reached.reached (joined (join_of true) r.1 outs) (c.in_ok-reached.ensures.made r.0 old r.1 outs first' c.in_ok-target.ensures.made)

pub beside-requires-2-clause-members : goal.beside-requires-2-clause-members
beside-requires-2-clause-members c =
    let r = c.requires in
    let old = c.args.diagrams.now in
    let outs = all_true (functions_at old c.deref.result.now) in
    let first' = subst (λ (n : ℕ). Makes r.0 old (Ok n) r.1) (sym c.in_ok-target.ensures.same) r.2 in
    let are = roots_stay r.0 c.join_spent.new.diagrams (Ok c.in_ok-reached.reached) (joined (join_of true) r.1 outs) (c.in_ok-reached.ensures.made r.0 old r.1 outs first' c.in_ok-target.ensures.made) c.args.members.now.update.items r.3.update in
    subst (λ (ms : List ℕ). AreRoots c.join_spent.new.diagrams ms) (sym c.deref-2.ensures.value) are

pub returns-in_err-reached-2-clause-made : goal.returns-in_err-reached-2-clause-made
returns-in_err-reached-2-clause-made c = λ base f first are.
    let old = c.args.diagrams.now in
    let outs = all_true (functions_at old c.deref.result.now) in
    let first' = subst (λ (n : ℕ). Makes base old (Ok n) f) (sym c.in_ok-target.ensures.same) first in
    let one = c.in_ok-reached.ensures.made base old f outs first' c.in_ok-target.ensures.made in
    refused_by base c.beside-2.new.diagrams c.from_residual-in_err-reached-2.result c.in_err-reached-2.field-0.0 (joined (join_of true) f outs) (reply_of (move_functions base c.args.members.now) c.args.levels.now.reply.items f) c.from_residual-in_err-reached-2.ensures.1 (c.in_err-reached-2.ensures.refused base (joined (join_of true) f outs) one)

pub exists_spent-requires-clause-a_kept : goal.exists_spent-requires-clause-a_kept
exists_spent-requires-clause-a_kept c =
    let r = c.requires in
    let old = c.args.diagrams.now in
    let outs = all_true (functions_at old c.deref.result.now) in
    let first' = subst (λ (n : ℕ). Makes r.0 old (Ok n) r.1) (sym c.in_ok-target.ensures.same) r.2 in
    let root = is_root r.0 c.join_spent.new.diagrams c.in_ok-reached.reached (joined (join_of true) r.1 outs) (c.in_ok-reached.ensures.made r.0 old r.1 outs first' c.in_ok-target.ensures.made) in
    held_beside c.join_spent.new.diagrams c.beside-2.new.diagrams c.in_ok-reached.reached c.in_ok-reached-2.reached c.in_ok-reached-2.update _ c.in_ok-reached-2.ensures.same c.in_ok-reached-2.ensures.made root

pub exists_spent-requires-clause-b_kept : goal.exists_spent-requires-clause-b_kept
exists_spent-requires-clause-b_kept c = is_root c.join_spent.new.diagrams c.beside-2.new.diagrams c.in_ok-reached-2.update _ c.in_ok-reached-2.ensures.made

pub exists_spent-requires-clause-apart : goal.exists_spent-requires-clause-apart
exists_spent-requires-clause-apart c =
    let r = c.requires in
    let old = c.args.diagrams.now in
    let outs = all_true (functions_at old c.deref.result.now) in
    let first' = subst (λ (n : ℕ). Makes r.0 old (Ok n) r.1) (sym c.in_ok-target.ensures.same) r.2 in
    let root = is_root r.0 c.join_spent.new.diagrams c.in_ok-reached.reached (joined (join_of true) r.1 outs) (c.in_ok-reached.ensures.made r.0 old r.1 outs first' c.in_ok-target.ensures.made) in
    twice_beside c.join_spent.new.diagrams c.beside-2.new.diagrams c.in_ok-reached.reached c.in_ok-reached-2.reached c.in_ok-reached-2.update _ c.in_ok-reached-2.ensures.same c.in_ok-reached-2.ensures.made root

pub returns-clause-made : goal.returns-clause-made
returns-clause-made c = λ base f first are.
    let old = c.args.diagrams.now in
    let mid = c.join_spent.new.diagrams in
    let outs = all_true (functions_at old c.deref.result.now) in
    let ups = all_true (functions_at mid c.deref-2.result.now) in
    let first' = subst (λ (n : ℕ). Makes base old (Ok n) f) (sym c.in_ok-target.ensures.same) first in
    let one = c.in_ok-reached.ensures.made base old f outs first' c.in_ok-target.ensures.made in
    let one' = subst (λ (n : ℕ). Makes base mid (Ok n) (joined (join_of true) f outs)) (sym c.in_ok-reached-2.ensures.same) one in
    let all = c.exists_spent.ensures.made base mid (joined (join_of true) f outs) ups one' c.in_ok-reached-2.ensures.made in
    let plain = rw (c.deref.ensures.value, c.deref-2.ensures.value, c.deref-3.ensures.value) at all in
    subst (λ (k : Function). Makes base c.exists_spent.new.diagrams c.exists_spent.result k) (reply_made base old mid c.args.members.now c.args.levels.now.reply.items f are first.keeps one.keeps) plain

pub returns-in_err-target-clause-cause : goal.returns-in_err-target-clause-cause
returns-in_err-target-clause-cause c = λ base f first are.
    let m = c.args.members.now in
    let reply = c.args.levels.now.reply.items in
    let old = c.args.diagrams.now in
    let named = IsOfAvoiding (lists_at base m) reply f in
    let outs = all_true (functions_at old c.deref.result.now) in
    let same : functions_at old c.deref.result.now ≡ functions_at base m.outputs.items = ap (functions_at old) c.deref.ensures.value ∙ functions_kept base old first.keeps m.outputs.items are.outputs in
    let step = IsBesideAll f (functions_at old c.deref.result.now) in
    let wider : (g : Function) → step g → named g = λ g is. elim is [ inl here ↦ aimed here | inr there ↦ outputs (subst (λ (fs : List Function). IsFirstOfAll fs g) same there) ] in
    cause_by base c.beside.new.diagrams c.from_residual.result c.in_err-target.field-0.0 named c.from_residual.ensures.1 (cause_wider step named wider base c.beside.new.diagrams _ (c.in_err-target.ensures.cause base f first))

pub returns-in_err-reached-clause-cause : goal.returns-in_err-reached-clause-cause
returns-in_err-reached-clause-cause c = λ base f first are.
    let m = c.args.members.now in
    let reply = c.args.levels.now.reply.items in
    let old = c.args.diagrams.now in
    let named = IsOfAvoiding (lists_at base m) reply f in
    let outs = all_true (functions_at old c.deref.result.now) in
    let same : functions_at old c.deref.result.now ≡ functions_at base m.outputs.items = ap (functions_at old) c.deref.ensures.value ∙ functions_kept base old first.keeps m.outputs.items are.outputs in
    let first' = subst (λ (n : ℕ). Makes base old (Ok n) f) (sym c.in_ok-target.ensures.same) first in
    let step = IsEither f outs in
    let wider : (g : Function) → step g → named g = λ g is. elim is [ inl here ↦ aimed here | inr there ↦ outputs (subst (λ (h : Function). IsFirstOfAll (functions_at base m.outputs.items) h) (sym (there ∙ ap all_true same)) (all_of_all (functions_at base m.outputs.items))) ] in
    cause_by base c.join_spent.new.diagrams c.from_residual-in_err-reached.result c.in_err-reached.field-0.0 named c.from_residual-in_err-reached.ensures.1 (cause_wider step named wider base c.join_spent.new.diagrams _ (c.in_err-reached.ensures.cause base old f outs first' c.in_ok-target.ensures.made))

pub returns-in_err-reached-2-clause-cause : goal.returns-in_err-reached-2-clause-cause
returns-in_err-reached-2-clause-cause c = λ base f first are.
    let m = c.args.members.now in
    let reply = c.args.levels.now.reply.items in
    let old = c.args.diagrams.now in
    let named = IsOfAvoiding (lists_at base m) reply f in
    let outs = all_true (functions_at old c.deref.result.now) in
    let same : functions_at old c.deref.result.now ≡ functions_at base m.outputs.items = ap (functions_at old) c.deref.ensures.value ∙ functions_kept base old first.keeps m.outputs.items are.outputs in
    let first' = subst (λ (n : ℕ). Makes base old (Ok n) f) (sym c.in_ok-target.ensures.same) first in
    let reached = joined (join_of true) f outs in
    let one = c.in_ok-reached.ensures.made base old f outs first' c.in_ok-target.ensures.made in
    let mid = c.join_spent.new.diagrams in
    let is_led : (g : Function) → g ≡ reached → named g = λ g is. led (is ∙ ap (λ (fs : List Function). joined (join_of true) f (all_true fs)) same) in
    let ups : functions_at mid c.deref-2.result.now ≡ functions_at base m.update.items = ap (functions_at mid) c.deref-2.ensures.value ∙ functions_kept base mid one.keeps m.update.items are.update in
    let step = IsBesideAll reached (functions_at mid c.deref-2.result.now) in
    let wider : (g : Function) → step g → named g = λ g is. elim is [ inl here ↦ is_led g here | inr there ↦ updates (subst (λ (fs : List Function). IsFirstOfAll fs g) ups there) ] in
    cause_by base c.beside-2.new.diagrams c.from_residual-in_err-reached-2.result c.in_err-reached-2.field-0.0 named c.from_residual-in_err-reached-2.ensures.1 (cause_wider step named wider base c.beside-2.new.diagrams _ (c.in_err-reached-2.ensures.cause base reached one))

pub returns-clause-cause : goal.returns-clause-cause
returns-clause-cause c = λ base f first are.
    let m = c.args.members.now in
    let reply = c.args.levels.now.reply.items in
    let old = c.args.diagrams.now in
    let named = IsOfAvoiding (lists_at base m) reply f in
    let outs = all_true (functions_at old c.deref.result.now) in
    let same : functions_at old c.deref.result.now ≡ functions_at base m.outputs.items = ap (functions_at old) c.deref.ensures.value ∙ functions_kept base old first.keeps m.outputs.items are.outputs in
    let first' = subst (λ (n : ℕ). Makes base old (Ok n) f) (sym c.in_ok-target.ensures.same) first in
    let reached = joined (join_of true) f outs in
    let one = c.in_ok-reached.ensures.made base old f outs first' c.in_ok-target.ensures.made in
    let mid = c.join_spent.new.diagrams in
    let is_led : (g : Function) → g ≡ reached → named g = λ g is. led (is ∙ ap (λ (fs : List Function). joined (join_of true) f (all_true fs)) same) in
    let ups : functions_at mid c.deref-2.result.now ≡ functions_at base m.update.items = ap (functions_at mid) c.deref-2.ensures.value ∙ functions_kept base mid one.keeps m.update.items are.update in
    let one' = subst (λ (n : ℕ). Makes base mid (Ok n) reached) (sym c.in_ok-reached-2.ensures.same) one in
    let all = all_true (functions_at mid c.deref-2.result.now) in
    let step = IsEither reached all in
    let wider : (g : Function) → step g → named g = λ g is. elim is [ inl here ↦ is_led g here | inr there ↦ updates (subst (λ (h : Function). IsFirstOfAll (functions_at base m.update.items) h) (sym (there ∙ ap all_true ups)) (all_of_all (functions_at base m.update.items))) ] in
    cause_wider step named wider base c.exists_spent.new.diagrams c.exists_spent.result (c.exists_spent.ensures.cause base mid reached all one' c.in_ok-reached-2.ensures.made)
