use Rattle.std.proofs.Common.{ℕ, ◌++◌, [], ◌∷◌, Ok, List, take, sym, subst}
use Rattle.std.proofs.lemmas.List.{append-nil}
use Rattle.spec_model.specs.Diagrams.{Function}
use Rattle.bdd_store.specs.State.{IsRoot}
use Rattle.bdd_bits.specs.Contents.{function_at}
use Rattle.bit_compile.specs.Making.{Makes}
use Rattle.bit_compile.proofs.CyclesLemmas.{take_all}
use Rattle.bdd_sets.specs.Members.{functions_at}
use Rattle.bdd_sets.specs.Lists.{MakesList}
use Rattle.bdd_sets.proofs.SpentLemmas.{item_is, function_kept}
use Rattle.bdd_sets.proofs.ListLemmas.{list_before, list_refused_by}
use Rattle.bdd_sets.proofs.MadeLemmas.{functions_more}
use Rattle.bdd_sets.proofs.CauseLemmas.{never_by}
use Rattle.bdd_sets.proofs.members.with_kept.Goals as goal

pub loop-root-init : goal.loop-root-init
loop-root-init c = λ base fs made are. subst (λ (hs : List Function). MakesList base c.args.diagrams.now (Ok c.args.so_far) hs) (sym (append-nil fs)) made

pub keep-again-requires : goal.keep-again-requires
keep-again-requires c =
    let r = c.requires in
    let ms = c.args.roots.now in
    let i = c.loop-root.root-index in
    let m = c.root-item.result in
    let root : IsRoot r.0.state m = subst (λ (n : ℕ). IsRoot r.0.state n) (item_is ms i m c.loop-root-test.true c.root-item.is) (r.3 i c.loop-root-test.true) in
    list_before r.0 c.loop-root.diagrams c.loop-root.list _ (c.loop-root.invariant r.0 r.1 r.2 r.3) m root

pub push_made-requires : goal.push_made-requires
push_made-requires c =
    let r = c.requires in
    (r.0, c.loop-root.diagrams, _, _, c.loop-root.invariant r.0 r.1 r.2 r.3, c.keep-again.ensures.made)

pub loop-root-preserved : goal.loop-root-preserved
loop-root-preserved c = λ base fs made are.
    let ms = c.args.roots.now in
    let i = c.loop-root.root-index in
    let m = c.root-item.result in
    let l = c.loop-root.diagrams in
    let inv = c.loop-root.invariant base fs made are in
    let root : IsRoot base.state m = subst (λ (n : ℕ). IsRoot base.state n) (item_is ms i m c.loop-root-test.true c.root-item.is) (are i c.loop-root-test.true) in
    let again = subst (λ (k : Function). Makes l c.keep-again.new.diagrams c.keep-again.result k) (function_kept base l inv.keeps m root) c.keep-again.ensures.made in
    let more = c.in_ok-list.ensures.made base l (fs ++ functions_at base (take i ms)) (function_at base m) inv again in
    subst (λ (hs : List Function). MakesList base c.push_made.new.diagrams (Ok c.in_ok-list.list) hs) (functions_more base fs ms i m c.loop-root-test.true c.root-item.is) more

pub returns-in_err-list-clause-made : goal.returns-in_err-list-clause-made
returns-in_err-list-clause-made c = λ base fs made are.
    let ms = c.args.roots.now in
    let i = c.loop-root.root-index in
    let l = c.loop-root.diagrams in
    let f = function_at l c.root-item.result in
    let so_far = fs ++ functions_at base (take i ms) in
    list_refused_by base c.push_made.new.diagrams c.from_residual.result c.in_err-list.field-0.0 (so_far ++ f ∷ []) (fs ++ functions_at base ms) c.from_residual.ensures.1 (c.in_err-list.ensures.made base l so_far f (c.loop-root.invariant base fs made are) c.keep-again.ensures.made)

pub returns-clause-made : goal.returns-clause-made
returns-clause-made c = λ base fs made are.
    subst (λ (ms : List ℕ). MakesList base c.loop-root.diagrams (Ok c.loop-root.list) (fs ++ functions_at base ms)) (take_all c.args.roots.now c.loop-root.root-index c.loop-root-test.false) (c.loop-root.invariant base fs made are)

pub returns-in_err-list-clause-never : goal.returns-in_err-list-clause-never
returns-in_err-list-clause-never c = never_by c.from_residual.result c.in_err-list.field-0.0 c.from_residual.ensures.1 (λ e. c.keep-again.ensures.never (c.in_err-list.ensures.handed e).0)
