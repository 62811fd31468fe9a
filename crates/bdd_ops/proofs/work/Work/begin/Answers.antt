use Rattle.std.proofs.Common.{◌≡◌, ◌++◌, true, ◌∙◌, sym, ap, subst, List, [], length, arith}
use Rattle.std.proofs.lemmas.Bool.{false≢true}
use Rattle.bdd_store.specs.declared.edge.Edge.{Edge}
use Rattle.bdd_ops.specs.Together.{all_in, IsRow, SettlesRow}
use Rattle.bdd_ops.specs.Searching.{row_at}
use Rattle.bdd_ops.proofs.RowLemmas.{row_from_live}
use Rattle.bdd_ops.proofs.PlaceLemmas.{row_behind}
use Rattle.bdd_ops.proofs.work.Work.begin.Goals as goal

pub returns-clause-first : goal.returns-clause-first
returns-clause-first c = λ found.
    let row : IsRow c.args.self.now 0 c.copy_from_slice.new.self = subst (λ (es : List Edge). IsRow c.args.self.now 0 es) (sym c.copy_from_slice.ensures.after) (row_from_live c.args.self.now c.args.edges.now c.requires.live) in
    let settles : SettlesRow c.args.self.now c.args.fixed.now 0 c.args.edges.now c.settle.new.row = subst (λ (es : List Edge). SettlesRow c.args.self.now c.args.fixed.now 0 es c.settle.new.row) c.copy_from_slice.ensures.after (c.settle.ensures.settles found 0 row) in
    let long : length c.settle.new.row ≡ length c.args.edges.now = omega arith in
    let here : row_at (c.settle.new.row ++ c.split_at_mut-row.result.1.now) (length c.args.edges.now) 0 ≡ c.settle.new.row = row_behind [] c.settle.new.row c.split_at_mut-row.result.1.now (length c.args.edges.now) 0 (omega arith) long in
    subst (λ (es : List Edge). SettlesRow c.args.self.now c.args.fixed.now 0 c.args.edges.now es) (sym here) settles

pub returns-clause-none : goal.returns-clause-none
returns-clause-none c = λ same s agrees makes.
    let row : IsRow c.args.self.now 0 c.copy_from_slice.new.self = subst (λ (es : List Edge). IsRow c.args.self.now 0 es) (sym c.copy_from_slice.ensures.after) (row_from_live c.args.self.now c.args.edges.now c.requires.live) in
    let is_true : all_in c.args.self.now c.copy_from_slice.new.self s ≡ true = ap (λ (es : List Edge). all_in c.args.self.now es s) c.copy_from_slice.ensures.after ∙ makes in
    false≢true (sym (c.settle.ensures.none same 0 row s agrees) ∙ is_true)
