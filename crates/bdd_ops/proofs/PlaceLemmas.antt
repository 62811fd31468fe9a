-- Rows of edges behind one another.
use Rattle.std.proofs.Common.{◌≡◌, ℕ, ◌≤◌, ◌+◌, ◌-◌, ◌*◌, sym, ◌∙◌, ap, arith, List, ◌++◌, length, take, drop}
use Rattle.std.proofs.Math.Seq.{drop-append_seam, take-append_seam}
use Rattle.std.proofs.lemmas.List.{length-drop, drop-append-le, take-append-le}
use Rattle.std.proofs.lemmas.Nat.{row_fits}
use Rattle.bdd_store.specs.declared.edge.Edge.{Edge}
use Rattle.bdd_ops.specs.Searching.{row_at}

row_front : (front more : List Edge) (width i : ℕ) → i * width + width ≤ length front → row_at (front ++ more) width i ≡ row_at front width i
row_front front more width i fits =
    let left : length (drop (i * width) front) ≡ length front - i * width = length-drop (i * width) front in
    ap (take width) (drop-append-le (i * width) front more (omega (arith, fits))) ∙ take-append-le width (drop (i * width) front) more (omega (arith, left, fits))

-- a row in front of a cut stays
pub row_kept : (rows front back more : List Edge) (width depth i : ℕ) → rows ≡ front ++ back → length front ≡ (depth + 1) * width → i ≤ depth → row_at (front ++ more) width i ≡ row_at rows width i
row_kept rows front back more width depth i value cut le =
    let one : i * width + width ≤ (depth + 1) * width = row_fits i width (depth + 1) width (omega (arith, le)) (omega arith) in
    let fits : i * width + width ≤ length front = omega (arith, one, cut) in
    row_front front more width i fits ∙ (sym (row_front front back width i fits) ∙ ap (λ (r : List Edge). row_at r width i) (sym value))

pub row_read : (rows front back : List Edge) (width depth : ℕ) → rows ≡ front ++ back → length front ≡ (depth + 1) * width → row_at front width depth ≡ row_at rows width depth
row_read rows front back width depth value cut =
    let one : depth * width + width ≤ (depth + 1) * width = row_fits depth width (depth + 1) width (omega arith) (omega arith) in
    sym (row_front front back width depth (omega (arith, one, cut))) ∙ ap (λ (r : List Edge). row_at r width depth) (sym value)

-- the row behind the cut
pub row_behind : (front row more : List Edge) (width depth : ℕ) → length front ≡ depth * width → length row ≡ width → row_at (front ++ (row ++ more)) width depth ≡ row
row_behind front row more width depth cut long =
    ap (λ (n : ℕ). take width (drop n (front ++ (row ++ more)))) (sym cut)
    ∙ (ap (take width) (drop-append_seam front (row ++ more))
    ∙ (ap (λ (n : ℕ). take n (row ++ more)) (sym long) ∙ take-append_seam row more))

-- as many rows as there are levels, and one
pub room_at : (levels width depth room : ℕ) → depth ≤ levels → (levels + 1) * width ≤ room → depth * width + width ≤ room
room_at levels width depth room le has =
    let fits : depth * width + width ≤ (levels + 1) * width = row_fits depth width (levels + 1) width (omega (arith, le)) (omega arith) in
    omega (arith, fits, has)
