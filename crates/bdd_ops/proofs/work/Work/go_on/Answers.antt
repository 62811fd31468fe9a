use Rattle.std.proofs.Common.{◌≡◌, ◌+◌, ◌++◌, ◌∙◌, List, length, sym, subst, arith}
use Rattle.bdd_store.specs.declared.edge.Edge.{Edge}
use Rattle.bdd_ops.specs.Together.{all_in, HasNoneWith}
use Rattle.bdd_ops.specs.Searching.{row_at, IsNext}
use Rattle.bdd_ops.proofs.PlaceLemmas.{row_kept, row_read, row_behind}
use Rattle.bdd_ops.proofs.work.Work.go_on.Goals as goal

pub returns-clause-kept : goal.returns-clause-kept
returns-clause-kept c = λ i le.
    let cut = c.split_at_mut-above in
    row_kept c.args.rows.now cut.result.0.now cut.result.1.now (c.leads.new.next ++ c.split_at_mut-next.result.1.now) c.args.width c.args.depth i cut.ensures.value cut.ensures.front_len le

pub returns-clause-next : goal.returns-clause-next
returns-clause-next c = λ found.
    let cut = c.split_at_mut-above in
    let old : c.row_at.result.now ≡ row_at c.args.rows.now c.args.width c.args.depth = c.row_at.ensures ∙ row_read c.args.rows.now cut.result.0.now cut.result.1.now c.args.width c.args.depth cut.ensures.value cut.ensures.front_len in
    let long : length c.leads.new.next ≡ c.args.width = omega (arith, c.split_at_mut-next.ensures.front_len, c.leads.auto.next) in
    let new : row_at (cut.result.0.now ++ (c.leads.new.next ++ c.split_at_mut-next.result.1.now)) c.args.width (c.args.depth + 1) ≡ c.leads.new.next = row_behind cut.result.0.now c.leads.new.next c.split_at_mut-next.result.1.now c.args.width (c.args.depth + 1) cut.ensures.front_len long in
    subst (λ (row : List Edge). IsNext c.args.self.now c.args.fixed.now c.args.level c.args.bit row (row_at (cut.result.0.now ++ (c.leads.new.next ++ c.split_at_mut-next.result.1.now)) c.args.width (c.args.depth + 1))) old
    (subst (λ (row : List Edge). IsNext c.args.self.now c.args.fixed.now c.args.level c.args.bit c.row_at.result.now row) (sym new) (c.leads.ensures.next found))

pub returns-clause-none : goal.returns-clause-none
returns-clause-none c = λ none.
    let cut = c.split_at_mut-above in
    let old : c.row_at.result.now ≡ row_at c.args.rows.now c.args.width c.args.depth = c.row_at.ensures ∙ row_read c.args.rows.now cut.result.0.now cut.result.1.now c.args.width c.args.depth cut.ensures.value cut.ensures.front_len in
    subst (λ (row : List Edge). HasNoneWith c.args.fixed.now (all_in c.args.self.now row) c.args.level c.args.bit) old (c.leads.ensures.none none)
