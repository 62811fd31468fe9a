use Rattle.std.proofs.Common.{◌≡◌, ℕ, List, Bool, Vec, false, map, get_or, sym, ap, ◌∙◌, arith}
use Rattle.std.specs.declared.alloc.Global.{Global}
use Rattle.spec_model.specs.declared.value.Value.TheVariants as value
use Rattle.game_play.specs.Sights.{cell_in}
use Rattle.game_play.proofs.Sights.{entries_here, entries_none}
use Rattle.game_play.proofs.sight.entry.Goals.{else-table-hidden-via-then-table-hidden+else-table-cells, else-table-hidden-via-else-table-hidden}
use Rattle.game_play.proofs.sight.entry.Goals as goal

pub returns-then-table-cells : goal.returns-then-table-cells
returns-then-table-cells c =
    let h = c.index-hidden-table.result in
    let cells = c.args.cells.now in
    let at : List (Vec Bool Global) → ℕ → Bool = λ ts n. get_or (map (λ (table : List Bool). get_or table n false) (map (λ (t : Vec Bool Global). t.items) ts)) c.args.part false in
    let tables : c.deref.result.now ≡ h.tables.items = c.deref.ensures.value ∙ ap (λ (d : _). d.tables.items) (sym c.index-hidden-table.is) in
    c.entry_in.ensures
    ∙ (ap (λ (ts : List (Vec Bool Global)). at ts c.cell_in.result) tables
    ∙ (ap (λ (n : ℕ). at h.tables.items n) (c.cell_in.ensures ∙ ap cell_in c.value_or.ensures)
    ∙ ap (λ (es : List Bool). get_or es c.args.part false) (sym (entries_here c.args.hidden.now cells c.args.table c.if-table-hidden.true c.if-table-cells.true h c.index-hidden-table.is (value.Bool false)))))

pub returns-else-table-hidden : goal.returns-else-table-hidden
returns-else-table-hidden c =
    ap (λ (es : List Bool). get_or es c.args.part false)
    (sym (entries_none c.args.hidden.now c.args.cells.now c.args.table
    (λ a b. elim c.else-table-hidden.branch [
      | else-table-hidden-via-then-table-hidden+else-table-cells w ↦ absurd (omega (arith, b, w.if-table-cells.false))
      | else-table-hidden-via-else-table-hidden w ↦ absurd (omega (arith, a, w.if-table-hidden.false))
    ])))
