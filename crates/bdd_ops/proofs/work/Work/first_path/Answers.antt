use Rattle.std.proofs.Common.{◌≡◌, ◌∙◌, ℕ, ap, subst}
use Rattle.spec_model.specs.Diagrams.{Function, constant}
use Rattle.spec_model.specs.DiagramReads.{bits_of}
use Rattle.bdd_ops.specs.Contents.{function_at}
use Rattle.bdd_ops.specs.Paths.{IsFirst}
use Rattle.bdd_ops.specs.Ways.{IsWay, IsLed}
use Rattle.bdd_ops.proofs.WayLemmas.{way_ends, fewer_behind}
use Rattle.bdd_ops.proofs.work.Work.first_path.Goals as goal

pub returns-then-truth-clause-first : goal.returns-then-truth-clause-first
returns-then-truth-clause-first c = λ found.
    let levels : ℕ = c.args.self.now.state.table.levels in
    let f : Function = function_at c.args.self.now c.edge-root.result.0 in
    let end : c.search.level ≡ levels = c.if-level-fixed.true ∙ c.requires.fixed_each in
    let way : IsWay c.args.fixed.now f levels (bits_of c.search.out) = subst (λ (n : ℕ). IsWay c.args.fixed.now f n (bits_of c.search.out)) end c.search.invariant.way in
    let led : IsLed c.args.self.now f levels (bits_of c.search.out) c.search.edge.0 = subst (λ (n : ℕ). IsLed c.args.self.now f n (bits_of c.search.out) c.search.edge.0) end c.search.invariant.led in
    subst (λ (n : ℕ). IsFirst c.args.fixed.now (function_at c.args.self.now n) 0 levels (bits_of c.search.out)) c.edge-root.ensures.value
    (way_ends c.args.self.now c.args.fixed.now f (bits_of c.search.out) levels c.search.edge.0 c.requires.fixed_each way led (c.truth.ensures ∙ ap constant c.if-truth.true))

pub search-smaller : goal.search-smaller
search-smaller c =
    fewer_behind c.args.self.now c.args.fixed.now (function_at c.args.self.now c.edge-root.result.0) c.search.out c.search.level c.in-Some.branch.level c.in-Some.branch.bit c.in-Some.branch.part (c.search.auto.out ∙ c.requires.out_each) c.in-Some.ensures
