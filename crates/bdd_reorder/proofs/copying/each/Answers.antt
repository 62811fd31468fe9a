use Rattle.std.proofs.Common.{◌≡◌, ◌<◌, ◌+◌, ◌∙◌, ◌++◌, ℕ, List, [], ◌∷◌, Ok, Err, take, ap, sym, subst, refl, arith}
use Rattle.std.specs.List.{AllByRecursion, Contains}
use Rattle.std.proofs.lemmas.List.{map-append}
use Rattle.spec_model.specs.Diagrams.{Diagram}
use Rattle.node_table.specs.Table.{Table, diagram_at}
use Rattle.bdd_store.specs.State.{IsRoot, diagram_of}
use Rattle.bdd_reorder.specs.declared.memo.Copied.{Copied}
use Rattle.bdd_reorder.specs.Keeping.{times_in}
use Rattle.bdd_reorder.specs.Making.{MakesCopy, functions_at, diagrams_at}
use Rattle.bdd_reorder.specs.Copying.{IsCopy}
use Rattle.bdd_reorder.proofs.ElementLemmas.{all_at, take_next, take_all, contains_map, map_contains, contains_take}
use Rattle.bdd_reorder.proofs.ReadyLemmas.{ready_after}
use Rattle.bdd_reorder.proofs.ListCopyLemmas.{rearranged, copies_counted, more_meaning, more_added, more_keeps, next_refused, all_copied}
use Rattle.bdd_reorder.proofs.copying.each.Goals as goal

pub loop-root-init : goal.loop-root-init
loop-root-init c =
    let to = c.args.to.now in
    let none = c.in_ok-copies.ensures.items in
    record {
      meaning = ap (functions_at to) none;
      added = λ n. (let zero = ap (times_in n) none in omega (arith, zero));
      keeps = record { levels = refl; budget = refl; meaning = λ n root. refl };
      table = refl;
      roots = λ n. refl;
      empty = c.requires.empty;
      idle = c.new-frames.ensures.items;
      counted = c.in_ok-copies.ensures.len;
      room = omega (arith, c.in_ok-copies.ensures.exact);
    }

pub one-requires : goal.one-requires
one-requires c =
    let from = c.args.from.now in
    let to = c.args.to.now in
    let levels = c.args.levels.now in
    let l = c.loop-root in
    let root = c.root-item.result in
    let kept : IsRoot from.state root = all_at (IsRoot from.state) c.args.roots.now root c.requires.kept (l.root-index, c.loop-root-test.true, sym c.root-item.is) in
    let stays : (n : ℕ) → IsRoot from.state n → IsRoot l.from.state n = λ n is. subst (λ (k : ℕ). 0 < k) (sym (l.invariant.roots n)) is in
    let copies : AllByRecursion (IsCopy from.state.table l.to levels) l.memo.copies.items = subst (λ (xs : List Copied). AllByRecursion (IsCopy from.state.table l.to levels) xs) (sym l.invariant.empty) tt in
    record {
      ready = ready_after from l.from to l.to levels c.args.truth.now c.args.memo.now.copies.items l.memo.copies.items l.invariant.table stays l.invariant.keeps.levels copies c.requires.ready;
      empty = (l.invariant.empty, l.invariant.idle);
      kept = stays root kept;
    }

pub loop-root-preserved : goal.loop-root-preserved
loop-root-preserved c =
    let from = c.args.from.now in
    let to = c.args.to.now in
    let levels = c.args.levels.now in
    let roots = c.args.roots.now in
    let l = c.loop-root in
    let new = c.one.new.to in
    let root = c.root-item.result in
    let ds = diagrams_at from (take l.root-index roots) in
    let d = diagram_of from.state root in
    let made : MakesCopy l.to new (Ok c.in-Ok.copy) levels d = subst (λ (t : Table). MakesCopy l.to new (Ok c.in-Ok.copy) levels (diagram_at t root)) l.invariant.table c.in-Ok.ensures.copied in
    let longer : diagrams_at from (take (l.root-index + 1) roots) ≡ ds ++ d ∷ [] = ap (diagrams_at from) (take_next roots l.root-index root c.loop-root-test.true c.root-item.is) ∙ map-append (diagram_of from.state) (take l.root-index roots) (root ∷ []) in
    let inv = l.invariant in
    record {
      meaning = more_meaning to l.to levels ds l.copies.items inv.meaning inv.added inv.keeps new d c.in-Ok.copy c.push_reserved.new.self.items made c.push_reserved.ensures.items ∙ ap (rearranged levels) (sym longer);
      added = more_added to l.to levels ds l.copies.items inv.meaning inv.added inv.keeps new d c.in-Ok.copy c.push_reserved.new.self.items made c.push_reserved.ensures.items;
      keeps = more_keeps to l.to levels ds l.copies.items inv.meaning inv.added inv.keeps new d c.in-Ok.copy made;
      table = c.one.ensures.from_table ∙ inv.table;
      roots = λ n. c.one.ensures.from_roots n ∙ inv.roots n;
      empty = c.one.ensures.empty.0;
      idle = c.one.ensures.empty.1;
      counted = c.push_reserved.ensures.len ∙ ap (λ n. n + 1) inv.counted;
      room = omega (arith, inv.room, c.push_reserved.ensures.capacity);
    }

pub release_all-requires : goal.release_all-requires
release_all-requires c = λ n.
    let l = c.loop-root in
    let all = copies_counted c.args.to.now l.to c.args.levels.now (diagrams_at c.args.from.now (take l.root-index c.args.roots.now)) l.copies.items l.invariant.meaning l.invariant.added l.invariant.keeps n in
    let same = c.in-Err.ensures.copied.added n in
    omega (arith, all, same)

pub returns-in-Err-clause-copied : goal.returns-in-Err-clause-copied
returns-in-Err-clause-copied c =
    let from = c.args.from.now in
    let to = c.args.to.now in
    let levels = c.args.levels.now in
    let roots = c.args.roots.now in
    let l = c.loop-root in
    let inv = l.invariant in
    let root = c.root-item.result in
    let ds = diagrams_at from (take l.root-index roots) in
    let d = diagram_of from.state root in
    let whole = c.one.new.to in
    let among : (e : Diagram) → Contains ds e → Contains (diagrams_at from roots) e = λ e there.
    (let found = map_contains (diagram_of from.state) (take l.root-index roots) e there in
    subst (Contains (diagrams_at from roots)) found.2 (contains_map (diagram_of from.state) roots found.0 (contains_take roots l.root-index found.0 found.1))) in
    let there : Contains (diagrams_at from roots) d = contains_map (diagram_of from.state) roots root (l.root-index, c.loop-root-test.true, sym c.root-item.is) in
    let refused : MakesCopy l.to whole (Err c.in-Err.fault) levels d = subst (λ (t : Table). MakesCopy l.to whole (Err c.in-Err.fault) levels (diagram_at t root)) inv.table c.in-Err.ensures.copied in
    next_refused to l.to levels ds l.copies.items inv.meaning inv.added inv.keeps whole c.release_all.new.diagrams (diagrams_at from roots) d c.in-Err.fault among there refused c.release_all.ensures.released c.release_all.ensures.table

pub returns-clause-copied : goal.returns-clause-copied
returns-clause-copied c =
    let from = c.args.from.now in
    let l = c.loop-root in
    let inv = l.invariant in
    all_copied c.args.to.now l.to c.args.levels.now (diagrams_at from (take l.root-index c.args.roots.now)) l.copies.items inv.meaning inv.added inv.keeps l.copies (diagrams_at from c.args.roots.now) refl
    (ap (diagrams_at from) (take_all c.args.roots.now l.root-index c.loop-root-test.false))
