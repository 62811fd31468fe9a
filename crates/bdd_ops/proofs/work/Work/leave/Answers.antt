use Rattle.std.proofs.Common.{◌∙◌, sym, ap, subst, List}
use Rattle.bdd_store.specs.declared.edge.Edge.{Edge}
use Rattle.bdd_ops.specs.Together.{all_in, IsRow, SettlesRow}
use Rattle.bdd_ops.proofs.RowLemmas.{row_from_live}
use Rattle.bdd_ops.proofs.work.Work.leave.Goals as goal

pub without_true-requires-clause-live : goal.without_true-requires-clause-live
without_true-requires-clause-live c =
    let row : IsRow c.args.self.now 0 c.copy_from_slice.new.self = subst (λ (es : List Edge). IsRow c.args.self.now 0 es) (sym c.copy_from_slice.ensures.after) (row_from_live c.args.self.now c.args.edges.now c.requires.live) in
    (c.settle.ensures.settles c.if-not-settle.false 0 row).row.live

pub returns-clause-same : goal.returns-clause-same
returns-clause-same c = λ same s agrees.
    let row : IsRow c.args.self.now 0 c.copy_from_slice.new.self = subst (λ (es : List Edge). IsRow c.args.self.now 0 es) (sym c.copy_from_slice.ensures.after) (row_from_live c.args.self.now c.args.edges.now c.requires.live) in
    let settles : SettlesRow c.args.self.now c.args.fixed.now 0 c.copy_from_slice.new.self c.settle.new.row = c.settle.ensures.settles c.if-not-settle.false 0 row in
    c.without_true.ensures.same s ∙ (settles.same s agrees ∙ ap (λ (es : List Edge). all_in c.args.self.now es s) c.copy_from_slice.ensures.after)

pub returns-then-not-settle-clause-none : goal.returns-then-not-settle-clause-none
returns-then-not-settle-clause-none c = λ same s agrees.
    let row : IsRow c.args.self.now 0 c.copy_from_slice.new.self = subst (λ (es : List Edge). IsRow c.args.self.now 0 es) (sym c.copy_from_slice.ensures.after) (row_from_live c.args.self.now c.args.edges.now c.requires.live) in
    ap (λ (es : List Edge). all_in c.args.self.now es s) (sym c.copy_from_slice.ensures.after) ∙ c.settle.ensures.none c.if-not-settle.true 0 row s agrees
