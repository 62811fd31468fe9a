-- With other guarantees a specification needs no more hidden tables.
use Rattle.std.proofs.Common.{◌≡◌, ◌≤◌, ℕ, List, [], ◌∷◌, not, filter, flat_map, cond, length, ap, ◌∙◌, arith}
use Rattle.std.proofs.lemmas.Grind.{flat_map-append}
use Rattle.std.proofs.lemmas.List.{append-nil}
use Rattle.std.proofs.lemmas.List.Sums.{sum_by-append}
use Rattle.spec_model.specs.Syntax.{Statement, Specification}
use Rattle.spec_model.specs.Moves.{is_guarantee}
use Rattle.spec_model.specs.Sizes.{distinct}
use Rattle.spec_model.specs.WellTyped.{is_hidden, all_hidden}
use Rattle.spec_model.specs.Cores.{stays, with_guarantees, forced, forced_line, forced_lines}
use Rattle.spec_model.proofs.Restricted.{sum_by-filter-le, fewer_distinct, same_trees, trees_of}

pub part_needs_no_more : (s : Specification) (kept : List ℕ) → all_hidden (with_guarantees s kept) ≤ all_hidden s
part_needs_no_more s kept =
    let stayed : List Statement = filter (stays kept) s.lines in
    let same = ap (λ fs. length (distinct fs)) (same_trees s stayed stayed) in
    let trees = fewer_distinct (trees_of s stayed s) (stays kept) s.lines in
    let hidden = sum_by-filter-le (λ (l : Statement). cond (is_hidden l.content) 1 0) (stays kept) s.lines in
    omega arith

pub forced_needs_no_more : (s : Specification) → all_hidden (forced s) ≤ all_hidden s
forced_needs_no_more s =
    let others : List Statement = filter (λ l. not (is_guarantee l.role)) s.lines in
    let last : List Statement = forced_line s.lines ∷ [] in
    let lines : List Statement = forced_lines s.lines in
    let trees_left = flat_map-append (trees_of s lines (forced s)) others last ∙ append-nil _ ∙ same_trees s lines others in
    let same = ap (λ fs. length (distinct fs)) trees_left in
    let trees = fewer_distinct (trees_of s lines s) (λ l. not (is_guarantee l.role)) s.lines in
    let parts = sum_by-append (λ (l : Statement). cond (is_hidden l.content) 1 0) others last in
    let hidden = sum_by-filter-le (λ (l : Statement). cond (is_hidden l.content) 1 0) (λ l. not (is_guarantee l.role)) s.lines in
    omega arith
