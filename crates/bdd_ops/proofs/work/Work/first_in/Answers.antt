use Rattle.std.proofs.Common.{◌≡◌, ◌≤◌, ◌<◌, ◌+◌, ◌-◌, ◌∙◌, ℕ, Bool, true, List, length, sym, ap, subst, arith}
use Rattle.spec_model.specs.DiagramReads.{bits_of}
use Rattle.bdd_store.specs.declared.edge.Edge.{Edge}
use Rattle.bdd_ops.specs.Paths.{IsFirst}
use Rattle.bdd_ops.specs.Together.{all_in}
use Rattle.bdd_ops.specs.Searching.{row_at, next_of, cost_of, pending, IsSearch}
use Rattle.bdd_ops.proofs.PlaceLemmas.{room_at}
use Rattle.bdd_ops.proofs.SearchLemmas.{split_facts, search_finds, search_steps_on, search_steps_fail, search_steps_back, fewer_steps_on, fewer_steps_fail, fewer_steps_end, fewer_steps_back, bits_at}
use Rattle.bdd_ops.proofs.work.Work.first_in.Goals as goal

pub row_at-row-requires : goal.row_at-row-requires
row_at-row-requires c =
    let s = c.search.invariant.stands in
    let deep : c.search.depth ≤ c.args.self.now.state.table.levels = omega (arith, s.deep c.search.depth (omega arith), s.within) in
    room_at c.args.self.now.state.table.levels c.args.width c.search.depth (length c.search.rows) deep (omega (arith, c.requires.room, c.search.auto.rows))

pub returns-then-all_true-clause-first : goal.returns-then-all_true-clause-first
returns-then-all_true-clause-first c = λ found.
    let bits = bits_of c.search.out in
    let makes : all_in c.args.self.now (row_at c.search.rows c.args.width c.search.depth) bits ≡ true = ap (λ (row : List Edge). all_in c.args.self.now row bits) (sym c.row_at-row.ensures) ∙ (c.all_true.ensures bits ∙ c.if-all_true.true) in
    subst (λ (row : List Edge). IsFirst c.args.fixed.now (all_in c.args.self.now row) 0 c.args.self.now.state.table.levels bits) c.search.invariant.first
    (search_finds c.args.self.now c.args.fixed.now (row_at c.search.rows c.args.width) bits c.search.depth c.search.next c.search.invariant.stands c.requires.each.0 makes)

pub search-smaller-then-top-fixed : goal.search-smaller-then-top-fixed
search-smaller-then-top-fixed c =
    let levels : ℕ = c.args.self.now.state.table.levels in
    fewer_steps_end c.in-Some.bit c.search.next (levels - c.search.depth) (pending (bits_at c.args.self.now (row_at c.search.rows c.args.width) c.search.out) levels c.search.depth) c.in-Some.is

pub go_on-requires-clause-shallow : goal.go_on-requires-clause-shallow
go_on-requires-clause-shallow c = (split_facts c.args.self.now c.args.fixed.now (row_at c.search.rows c.args.width) (bits_of c.search.out) c.search.depth c.least_level-top.result c.row_at-row.result.now c.search.next c.search.invariant.stands c.row_at-row.ensures c.least_level-top.ensures.top (omega (arith, c.least_level-top.ensures.within, c.if-top-fixed.false, c.requires.each.0))).2

pub go_on-requires-clause-room : goal.go_on-requires-clause-room
go_on-requires-clause-room c =
    room_at c.args.self.now.state.table.levels c.args.width (c.search.depth + 1) (length c.search.rows) (omega (arith, (split_facts c.args.self.now c.args.fixed.now (row_at c.search.rows c.args.width) (bits_of c.search.out) c.search.depth c.least_level-top.result c.row_at-row.result.now c.search.next c.search.invariant.stands c.row_at-row.ensures c.least_level-top.ensures.top (omega (arith, c.least_level-top.ensures.within, c.if-top-fixed.false, c.requires.each.0))).2)) (omega (arith, c.requires.room, c.search.auto.rows))

pub search-preserved-then-go_on : goal.search-preserved-then-go_on
search-preserved-then-go_on c =
    let facts = split_facts c.args.self.now c.args.fixed.now (row_at c.search.rows c.args.width) (bits_of c.search.out) c.search.depth c.least_level-top.result c.row_at-row.result.now c.search.next c.search.invariant.stands c.row_at-row.ensures c.least_level-top.ensures.top (omega (arith, c.least_level-top.ensures.within, c.if-top-fixed.false, c.requires.each.0)) in
    record {
      stands = search_steps_on c.args.self.now c.args.fixed.now (row_at c.search.rows c.args.width) (row_at c.go_on.new.rows c.args.width) c.search.out c.search.depth c.least_level-top.result c.in-Some.bit c.search.next (omega (arith, c.search.auto.out, c.requires.each.1)) c.in-Some.is c.search.invariant.stands c.go_on.ensures.kept facts.0 facts.1 (c.go_on.ensures.next c.if-go_on.true);
      first = c.go_on.ensures.kept 0 (omega arith) ∙ c.search.invariant.first;
    }

pub search-smaller-then-go_on : goal.search-smaller-then-go_on
search-smaller-then-go_on c =
    let facts = split_facts c.args.self.now c.args.fixed.now (row_at c.search.rows c.args.width) (bits_of c.search.out) c.search.depth c.least_level-top.result c.row_at-row.result.now c.search.next c.search.invariant.stands c.row_at-row.ensures c.least_level-top.ensures.top (omega (arith, c.least_level-top.ensures.within, c.if-top-fixed.false, c.requires.each.0)) in
    fewer_steps_on c.args.self.now c.args.fixed.now (row_at c.search.rows c.args.width) (row_at c.go_on.new.rows c.args.width) c.search.out c.search.depth c.least_level-top.result c.in-Some.bit c.search.next (omega (arith, c.search.auto.out, c.requires.each.1)) c.in-Some.is c.search.invariant.stands c.go_on.ensures.kept facts.0 facts.1

pub search-preserved-then-bit : goal.search-preserved-then-bit
search-preserved-then-bit c = record {
  stands = subst (λ (b : Bool). IsSearch c.args.self.now c.args.fixed.now (row_at c.go_on.new.rows c.args.width) (bits_of c.search.out) c.search.depth (next_of b)) c.if-bit.true
      (search_steps_fail c.args.self.now c.args.fixed.now (row_at c.search.rows c.args.width) (row_at c.go_on.new.rows c.args.width) (bits_of c.search.out) c.search.depth c.least_level-top.result c.in-Some.bit c.search.next c.in-Some.is c.search.invariant.stands c.go_on.ensures.kept (split_facts c.args.self.now c.args.fixed.now (row_at c.search.rows c.args.width) (bits_of c.search.out) c.search.depth c.least_level-top.result c.row_at-row.result.now c.search.next c.search.invariant.stands c.row_at-row.ensures c.least_level-top.ensures.top (omega (arith, c.least_level-top.ensures.within, c.if-top-fixed.false, c.requires.each.0))).0 (c.go_on.ensures.none c.if-go_on.false));
  first = c.go_on.ensures.kept 0 (omega arith) ∙ c.search.invariant.first;
}

pub search-preserved : goal.search-preserved
search-preserved c = record {
  stands = subst (λ (b : Bool). IsSearch c.args.self.now c.args.fixed.now (row_at c.go_on.new.rows c.args.width) (bits_of c.search.out) c.search.depth (next_of b)) c.if-bit.false
      (search_steps_fail c.args.self.now c.args.fixed.now (row_at c.search.rows c.args.width) (row_at c.go_on.new.rows c.args.width) (bits_of c.search.out) c.search.depth c.least_level-top.result c.in-Some.bit c.search.next c.in-Some.is c.search.invariant.stands c.go_on.ensures.kept (split_facts c.args.self.now c.args.fixed.now (row_at c.search.rows c.args.width) (bits_of c.search.out) c.search.depth c.least_level-top.result c.row_at-row.result.now c.search.next c.search.invariant.stands c.row_at-row.ensures c.least_level-top.ensures.top (omega (arith, c.least_level-top.ensures.within, c.if-top-fixed.false, c.requires.each.0))).0 (c.go_on.ensures.none c.if-go_on.false));
  first = c.go_on.ensures.kept 0 (omega arith) ∙ c.search.invariant.first;
}

pub search-smaller-then-bit : goal.search-smaller-then-bit
search-smaller-then-bit c =
    let levels : ℕ = c.args.self.now.state.table.levels in
    subst (λ (b : Bool). cost_of (next_of b) (levels - c.search.depth) + pending (bits_at c.args.self.now (row_at c.go_on.new.rows c.args.width) c.search.out) levels c.search.depth < cost_of c.search.next (levels - c.search.depth) + pending (bits_at c.args.self.now (row_at c.search.rows c.args.width) c.search.out) levels c.search.depth) c.if-bit.true
    (fewer_steps_fail c.args.self.now (row_at c.search.rows c.args.width) (row_at c.go_on.new.rows c.args.width) c.search.out c.search.depth c.in-Some.bit c.search.next c.in-Some.is (split_facts c.args.self.now c.args.fixed.now (row_at c.search.rows c.args.width) (bits_of c.search.out) c.search.depth c.least_level-top.result c.row_at-row.result.now c.search.next c.search.invariant.stands c.row_at-row.ensures c.least_level-top.ensures.top (omega (arith, c.least_level-top.ensures.within, c.if-top-fixed.false, c.requires.each.0))).2 c.go_on.ensures.kept)

pub search-smaller : goal.search-smaller
search-smaller c =
    let levels : ℕ = c.args.self.now.state.table.levels in
    subst (λ (b : Bool). cost_of (next_of b) (levels - c.search.depth) + pending (bits_at c.args.self.now (row_at c.go_on.new.rows c.args.width) c.search.out) levels c.search.depth < cost_of c.search.next (levels - c.search.depth) + pending (bits_at c.args.self.now (row_at c.search.rows c.args.width) c.search.out) levels c.search.depth) c.if-bit.false
    (fewer_steps_fail c.args.self.now (row_at c.search.rows c.args.width) (row_at c.go_on.new.rows c.args.width) c.search.out c.search.depth c.in-Some.bit c.search.next c.in-Some.is (split_facts c.args.self.now c.args.fixed.now (row_at c.search.rows c.args.width) (bits_of c.search.out) c.search.depth c.least_level-top.result c.row_at-row.result.now c.search.next c.search.invariant.stands c.row_at-row.ensures c.least_level-top.ensures.top (omega (arith, c.least_level-top.ensures.within, c.if-top-fixed.false, c.requires.each.0))).2 c.go_on.ensures.kept)

pub search-preserved-in-None : goal.search-preserved-in-None
search-preserved-in-None c = record {
  stands = search_steps_back c.args.self.now c.args.fixed.now (row_at c.search.rows c.args.width) c.search.out c.go_back-next.new.out c.search.depth c.row_at.result.now c.search.next c.go_back-next.result (omega (arith, c.search.auto.out, c.requires.each.1)) (omega (arith, c.if-depth-eq0.false)) c.in-None.is c.search.invariant.stands c.row_at.ensures c.go_back-next.ensures.next c.go_back-next.ensures.written;
  first = c.search.invariant.first;
}

pub search-smaller-in-None : goal.search-smaller-in-None
search-smaller-in-None c =
    fewer_steps_back c.args.self.now c.args.fixed.now (row_at c.search.rows c.args.width) c.search.out c.go_back-next.new.out c.search.depth c.row_at.result.now c.search.next c.go_back-next.result (omega (arith, c.if-depth-eq0.false)) c.in-None.is c.search.invariant.stands c.row_at.ensures c.go_back-next.ensures.next c.go_back-next.ensures.written
