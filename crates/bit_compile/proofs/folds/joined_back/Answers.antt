use Rattle.std.proofs.Common.{◌∙◌, List, ap, sym, subst, drop, map, arith}
use Rattle.spec_model.specs.Diagrams.{Bits, Function}
use Rattle.bdd_store.specs.State.{IsRoot}
use Rattle.bdd_ops.specs.Functions.{joined, join_of}
use Rattle.bdd_bits.specs.Contents.{function_at}
use Rattle.bit_compile.specs.declared.cases.CaseRoot.{CaseRoot}
use Rattle.bit_compile.specs.Making.{Makes}
use Rattle.bit_compile.specs.CaseRoots.{folded, is_all}
use Rattle.bit_compile.proofs.Between.{function_stays}
use Rattle.bit_compile.proofs.Folding.{drop_before, kept_before, fold_cons, own, turn, past_end}
use Rattle.bit_compile.proofs.NamedSteps.{folded-none}
use Rattle.bit_compile.proofs.folds.joined_back.Goals as goal

pub loop-last-preserved : goal.loop-last-preserved
loop-last-preserved c =
    let first = c.args.diagrams.now in
    let l = c.loop-last.diagrams in
    let inv = c.loop-last.invariant in
    let x = c.index-cases-last.result in
    let xs = c.args.cases.now in
    let last = c.loop-last.last in
    let join = join_of (is_all c.args.fold) in
    let f : CaseRoot → Function = λ z. function_at first z.root in
    let root = kept_before (λ z. IsRoot first.state z.root) xs last x (omega arith) inv.within c.index-cases-last.is c.requires in
    let whole = function_at l c.loop-last.whole in
    let is = ap (λ (g : Function). joined join g whole) (function_stays first l x.root inv.made.keeps root) in
    let made = turn first l c.join_root-more.new.diagrams c.release.new.self c.loop-last.whole c.join_root-more.result _ (joined join (f x) whole) inv.made c.join_root-more.ensures.made is c.release.ensures.released c.release.ensures.nodes in
    let next = subst (λ r. Makes first c.release.new.self r (joined join (f x) whole)) c.in_ok-next.was made in
    record {
      made = own first c.release.new.self c.in_ok-next.next (joined join (f x) whole) next;
      within = omega arith;
      same = next.meaning
          ∙ (ap (λ (g : Function). joined join (f x) g) inv.same
          ∙ (fold_cons c.args.fold (f x) (map f (drop last xs)) ∙ sym (ap (λ (zs : List CaseRoot). folded c.args.fold (map f zs)) (drop_before xs last x (omega arith) inv.within c.index-cases-last.is))));
    }

pub loop-last-init : goal.loop-last-init
loop-last-init c =
    let first = c.args.diagrams.now in
    let f : CaseRoot → Function = λ z. function_at first z.root in
    let start = c.in_ok-whole.ensures.made.meaning ∙ ap (λ b. (λ (s : Bits). b)) c.starts_true-start.ensures in
    let none = ap (λ (zs : List CaseRoot). folded c.args.fold (map f zs)) (past_end c.args.cases.now _ (omega arith)) in
    record {
      made = own first c.constant.new.diagrams c.in_ok-whole.whole (λ (s : Bits). c.starts_true-start.result) c.in_ok-whole.ensures.made;
      within = omega arith;
      same = start ∙ (folded-none c.args.fold ∙ sym none);
    }
