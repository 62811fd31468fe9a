use Rattle.std.proofs.Common.{List, Bool, Vec, false, [], map, get_or, sym, ap, ◌∙◌, arith}
use Rattle.std.proofs.lemmas.List.{get_or-map, length-map}
use Rattle.std.specs.declared.alloc.Global.{Global}
use Rattle.game_values.proofs.cells.entry_in.Goals as goal

pub returns-then-part-tables : goal.returns-then-part-tables
returns-then-part-tables c =
    let items : Vec Bool Global → List Bool = λ t. t.items in
    let f : List Bool → Bool = λ table. get_or table c.args.cell false in
    let t = c.index-tables-part.result in
    let below = c.if-part-tables.true in
    c.bit_in.ensures
    ∙ (ap f (c.deref.ensures.value ∙ ap items c.index-tables-part.is)
    ∙ sym (get_or-map f (map items c.args.tables.now) c.args.part [] false (omega (arith, below, length-map c.args.tables.now items)) ∙ ap f (get_or-map items c.args.tables.now c.args.part t [] below)))
