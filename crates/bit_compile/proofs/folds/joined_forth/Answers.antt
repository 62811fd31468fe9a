use Rattle.std.proofs.Common.{◌+◌, ◌∙◌, List, ap, refl, sym, subst, drop, map, rules}
use Rattle.spec_model.specs.Diagrams.{Bits, Function}
use Rattle.bdd_store.specs.State.{IsRoot}
use Rattle.bdd_ops.specs.Functions.{joined, join_of}
use Rattle.bdd_bits.specs.Contents.{function_at}
use Rattle.bit_compile.specs.declared.cases.CaseRoot.{CaseRoot}
use Rattle.bit_compile.specs.Making.{Makes}
use Rattle.bit_compile.specs.CaseRoots.{folded, is_all}
use Rattle.game_values.proofs.Lists.{map_drop}
use Rattle.bit_compile.proofs.Between.{function_stays, root_after}
use Rattle.bit_compile.proofs.Folding.{fold_first, fold_step, fold_done, finished, own, turn, all_next, past_end, refused_makes, so_far_kept, still_root}
use Rattle.bit_compile.proofs.Causes.{cause_back, cause_handed, cause_never, cause_ok, no_name}
use Rattle.bit_compile.proofs.NamedSteps.{first_more, take_mapped, folded-none}
use Rattle.bit_compile.specs.NamedCodes.{NoFunction}
use Rattle.bit_compile.specs.Named.{IsFirstOf}
use Rattle.bit_compile.proofs.folds.joined_forth.Goals as goal

pub loop-case-preserved : goal.loop-case-preserved
loop-case-preserved c =
    let first = c.args.diagrams.now in
    let l = c.loop-case.diagrams in
    let inv = c.loop-case.invariant in
    let x = c.case-item.result in
    let xs = c.args.cases.now in
    let join = join_of (is_all c.args.fold) in
    let f : CaseRoot → Function = λ z. function_at first z.root in
    let parts = all_next (λ z. IsRoot first.state z.root) xs c.loop-case.case-index x c.loop-case-test.true c.case-item.is inv.kept in
    let whole = function_at l c.loop-case.whole in
    let is = ap (λ (g : Function). joined join whole g) (function_stays first l x.root inv.made.keeps parts.0) in
    let made = turn first l c.join_root-more.new.diagrams c.release.new.self c.loop-case.whole c.join_root-more.result _ (joined join whole (f x)) inv.made c.join_root-more.ensures.made is c.release.ensures.released c.release.ensures.nodes in
    let next = subst (λ r. Makes first c.release.new.self r (joined join whole (f x))) c.in_ok-next.was made in
    let left = ap (λ (fs : List Function). joined join whole (folded c.args.fold fs)) (sym (map_drop f xs c.loop-case.case-index x c.loop-case-test.true c.case-item.is)) ∙ inv.same in
    record {
      made = own first c.release.new.self c.in_ok-next.next (joined join whole (f x)) next;
      kept = parts.1;
      so_far = first_more c.args.fold (map f xs) c.loop-case.case-index whole (function_at c.release.new.self c.in_ok-next.next) (f x) inv.so_far next.meaning (take_mapped f xs c.loop-case.case-index x c.loop-case-test.true c.case-item.is);
      same = fold_step c.args.fold whole (function_at c.release.new.self c.in_ok-next.next) (f x) (map f (drop (c.loop-case.case-index + 1) xs)) _ left next.meaning;
    }

pub loop-case-init : goal.loop-case-init
loop-case-init c =
    let first = c.args.diagrams.now in
    let fs = map (λ (z : CaseRoot). function_at first z.root) c.args.cases.now in
    let start = c.in_ok-whole.ensures.made.meaning ∙ ap (λ b. (λ (s : Bits). b)) c.starts_true-start.ensures in
    record {
      made = own first c.constant.new.diagrams c.in_ok-whole.whole (λ (s : Bits). c.starts_true-start.result) c.in_ok-whole.ensures.made;
      kept = c.requires;
      so_far = start ∙ folded-none c.args.fold;
      same = ap (λ (g : Function). joined (join_of (is_all c.args.fold)) g (folded c.args.fold fs)) start ∙ fold_first c.args.fold fs;
    }

pub returns-clause-made : goal.returns-clause-made
returns-clause-made c =
    let first = c.args.diagrams.now in
    let l = c.loop-case.diagrams in
    let f : CaseRoot → Function = λ z. function_at first z.root in
    let none = ap (map f) (past_end c.args.cases.now c.loop-case.case-index c.loop-case-test.false) in
    finished first l c.loop-case.whole _ c.loop-case.invariant.made (fold_done c.args.fold (function_at l c.loop-case.whole) (map f (drop c.loop-case.case-index c.args.cases.now)) _ none c.loop-case.invariant.same)

pub join_root-more-requires-clause-a_kept : goal.join_root-more-requires-clause-a_kept
join_root-more-requires-clause-a_kept c = so_far_kept c.args.diagrams.now c.loop-case.diagrams c.loop-case.whole c.loop-case.invariant.made

pub join_root-more-requires-clause-b_kept : goal.join_root-more-requires-clause-b_kept
join_root-more-requires-clause-b_kept c =
    let parts = all_next (λ z. IsRoot c.args.diagrams.now.state z.root) c.args.cases.now c.loop-case.case-index c.case-item.result c.loop-case-test.true c.case-item.is c.loop-case.invariant.kept in
    still_root c.args.diagrams.now c.loop-case.diagrams c.loop-case.whole c.case-item.result.root c.loop-case.invariant.made parts.0

pub release-requires : goal.release-requires
release-requires c = root_after c.loop-case.diagrams c.join_root-more.new.diagrams c.join_root-more.result _ c.join_root-more.ensures.made c.loop-case.whole (so_far_kept c.args.diagrams.now c.loop-case.diagrams c.loop-case.whole c.loop-case.invariant.made)

pub returns-in_err-next-clause-made : goal.returns-in_err-next-clause-made
returns-in_err-next-clause-made c =
    let first = c.args.diagrams.now in
    let made = turn first c.loop-case.diagrams c.join_root-more.new.diagrams c.release.new.self c.loop-case.whole c.join_root-more.result _ _ c.loop-case.invariant.made c.join_root-more.ensures.made refl c.release.ensures.released c.release.ensures.nodes in
    refused_makes first c.release.new.self c.join_root-more.result c.from_residual-in_err-next.result c.in_err-next.field-0.0 _ _ made c.in_err-next.was (search rules)

pub returns-in_err-whole-clause-cause : goal.returns-in_err-whole-clause-cause
returns-in_err-whole-clause-cause c =
    let old = c.args.diagrams.now in
    let named = IsFirstOf c.args.fold (map (λ (z : CaseRoot). function_at old z.root) c.args.cases.now) in
    cause_handed old c.constant.new.diagrams c.constant.result c.from_residual.result c.in_err-whole.field-0.0 named c.in_err-whole.was (search rules)
    (cause_never old c.constant.new.diagrams c.constant.result named c.constant.ensures.never)

pub returns-in_err-next-clause-cause : goal.returns-in_err-next-clause-cause
returns-in_err-next-clause-cause c =
    let old = c.args.diagrams.now in
    let l = c.loop-case.diagrams in
    let inv = c.loop-case.invariant in
    let named = IsFirstOf c.args.fold (map (λ (z : CaseRoot). function_at old z.root) c.args.cases.now) in
    cause_handed old c.release.new.self c.join_root-more.result c.from_residual-in_err-next.result c.in_err-next.field-0.0 named c.in_err-next.was (search rules)
    (cause_back NoFunction named (no_name named) old l c.loop-case.whole (function_at l c.loop-case.whole) inv.made (c.loop-case.case-index, inv.so_far) c.join_root-more.new.diagrams c.release.new.self c.join_root-more.result c.release.ensures.nodes c.join_root-more.ensures.cause)

pub returns-clause-cause : goal.returns-clause-cause
returns-clause-cause c =
    let old = c.args.diagrams.now in
    cause_ok old c.loop-case.diagrams c.loop-case.whole (IsFirstOf c.args.fold (map (λ (z : CaseRoot). function_at old z.root) c.args.cases.now))
