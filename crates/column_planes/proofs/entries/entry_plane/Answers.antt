use Rattle.std.proofs.Common.{◌≡◌, ◌+◌, ◌-◌, ◌*◌, Bool, false, List, Vec, length, map, take, drop, get_or, ap, subst, ◌∙◌, arith}
use Rattle.std.specs.declared.alloc.Global.{Global}
use Rattle.spec_model.specs.Syntax.{Entry}
use Rattle.spec_model.specs.GameViews.{hidden_data}
use Rattle.column_planes.specs.Columns.{IsPlaneOf, column_data}
use Rattle.column_planes.proofs.Coded.{entries_of-hidden}
use Rattle.column_planes.proofs.Blocks.{entry_bits, one_if}
use Rattle.column_planes.proofs.entries.entry_plane.Goals as goal

pub returns-clause-plane : goal.returns-clause-plane
returns-clause-plane c = λ read.
    let cs = column_data c.args.c in
    let at = c.first_place.result in
    let table = c.args.table in
    let part = c.args.part in
    let bits = c.args.c.bits in
    let first = 4096 * table + at in
    let n : first + bits - first ≡ bits = omega arith in
    let h = get_or c.args.c.hidden.now table c.index-c-table.result in
    let sized = c.write_entries.ensures.lengths in
    let front = c.split_at_mut-codes.ensures.front_len in
    let many : length c.write_entries.new.codes ≡ bits = omega (arith, sized, front) in
    subst (λ m. IsPlaneOf cs bits m (Entry table part) c.equal_codes.new.out) c.first_place.ensures.value
    (entry_bits cs at bits table part (first + bits - first) (hidden_data h) c.write_entries.new.codes c.equal_codes.new.out
    (λ cell. entries_of-hidden c.args.c.hidden.now table c.index-c-table.result cell (omega (arith, c.if-c-table.false)))
    (omega (arith, c.if-c-start.false)) many n
    (λ j below.
    c.write_entries.ensures.truths j (omega (arith, below, front))
    ∙ ap one_if
    (ap (λ (ts : List (Vec Bool Global)). get_or (map (λ (t : List Bool). get_or t (get_or (take (first + bits - first) (drop first cs.cells)) j 0) false) (map (λ (v : Vec Bool Global). v.items) ts)) part false) c.deref.ensures.value))
    c.equal_codes.ensures.bits)
