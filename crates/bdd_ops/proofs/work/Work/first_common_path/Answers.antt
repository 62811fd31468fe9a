use Rattle.std.proofs.Common.{◌≡◌, ◌∙◌, sym, ap, subst, map, ℕ, List}
use Rattle.std.proofs.lemmas.Bool.{false≢true}
use Rattle.std.specs.List.{All}
use Rattle.bdd_store.specs.State.{IsEdge}
use Rattle.bdd_store.specs.declared.edge.Edge.{Edge}
use Rattle.bdd_ops.specs.Contents.{Contents, AreRight}
use Rattle.spec_model.specs.DiagramReads.{bits_of}
use Rattle.bdd_ops.specs.Paths.{IsFirst, HasNone}
use Rattle.bdd_ops.specs.Together.{Together, all_of, all_in}
use Rattle.bdd_ops.proofs.FirstLemmas.{first_agreeing, none_agreeing}
use Rattle.bdd_ops.proofs.RowLemmas.{edges_live}
use Rattle.bdd_ops.proofs.work.Work.first_common_path.Goals as goal

pub leave-requires-clause-live : goal.leave-requires-clause-live
leave-requires-clause-live c =
    let are : AreRight c.args.self.now = subst (λ (x : Contents). AreRight x) c.self.view_is c.self.invariant.0 in
    let roots : c.args.all.now.roots ≡ map (λ (e : Edge). e.0) c.all.inside.roots.items = ap (λ (x : Together). x.roots) (sym c.all.view_is) in
    let live : All (λ e. IsEdge c.args.self.now.state e.0) c.all.inside.roots.items = edges_live c.args.self.now c.all.inside.roots.items c.args.all.now.roots roots are.store.roots_live c.requires.kept in
    subst (λ (es : List Edge). All (λ e. IsEdge c.args.self.now.state e.0) es) (sym c.deref.ensures.value) live

pub returns-then-leave-clause-first : goal.returns-then-leave-clause-first
returns-then-leave-clause-first c = λ found.
    let n : ℕ = c.args.self.now.state.table.levels in
    let roots : c.args.all.now.roots ≡ map (λ (e : Edge). e.0) c.all.inside.roots.items = ap (λ (x : Together). x.roots) (sym c.all.view_is) in
    first_agreeing c.args.fixed.now (all_of c.args.self.now c.args.all.now.roots) (all_in c.args.self.now c.leave.new.left.items) 0 n (bits_of c.first_from_edges.new.out)
    (λ s agrees. c.leave.ensures.same c.if-leave.true s agrees ∙ (ap (λ (es : List Edge). all_in c.args.self.now es s) c.deref.ensures.value ∙ ap (λ (ns : List ℕ). all_of c.args.self.now ns s) (sym roots))) (subst (λ (es : List Edge). IsFirst c.args.fixed.now (all_in c.args.self.now es) 0 n (bits_of c.first_from_edges.new.out)) c.deref-then-leave.ensures.value (c.first_from_edges.ensures.first found))

pub returns-then-leave-clause-none : goal.returns-then-leave-clause-none
returns-then-leave-clause-none c = λ none.
    let roots : c.args.all.now.roots ≡ map (λ (e : Edge). e.0) c.all.inside.roots.items = ap (λ (x : Together). x.roots) (sym c.all.view_is) in
    none_agreeing c.args.fixed.now (all_of c.args.self.now c.args.all.now.roots) (all_in c.args.self.now c.leave.new.left.items) 0
    (λ s agrees. c.leave.ensures.same c.if-leave.true s agrees ∙ (ap (λ (es : List Edge). all_in c.args.self.now es s) c.deref.ensures.value ∙ ap (λ (ns : List ℕ). all_of c.args.self.now ns s) (sym roots))) (subst (λ (es : List Edge). HasNone c.args.fixed.now (all_in c.args.self.now es) 0) c.deref-then-leave.ensures.value (c.first_from_edges.ensures.none none))

pub returns-else-leave-clause-none : goal.returns-else-leave-clause-none
returns-else-leave-clause-none c = λ same s agrees makes.
    let roots : c.args.all.now.roots ≡ map (λ (e : Edge). e.0) c.all.inside.roots.items = ap (λ (x : Together). x.roots) (sym c.all.view_is) in
    false≢true (sym (c.leave.ensures.none c.if-leave.false s agrees) ∙ (ap (λ (es : List Edge). all_in c.args.self.now es s) c.deref.ensures.value ∙ ap (λ (ns : List ℕ). all_of c.args.self.now ns s) (sym roots) ∙ makes))
