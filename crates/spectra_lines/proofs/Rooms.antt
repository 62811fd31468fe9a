-- The room that is left behind the formulas of expressions.
use Rattle.std.proofs.Common.{◌≡◌, ℕ, ◌+◌, ◌-◌, ◌^◌, ◌<◌, ◌≤◌, nat_le, Bool, true, false, ◌&&◌, if◌then◌else◌, List, [], ◌∷◌, Option, Some, None, is_some, refl, sym, ap, ◌∙◌, arith}
use Rattle.std.proofs.Math.Nat.{min-eq_left, min-eq_right}
use Rattle.std.proofs.lemmas.Bool.{false≢true, and_parts, and_from}
use Rattle.std.proofs.lemmas.Bool.Decides.{nat_tests}
use Rattle.spec_model.specs.FormulaSizes.{nodes_in, levels_in}
use Rattle.spectra_resolved.specs.Resolved.{ResolvedTree}
use Rattle.spectra_judge.specs.Known.{Known}
use Rattle.spectra_cases.specs.Formulas.{formula_of}
use Rattle.spectra_cases.specs.Sizes.{held, size_of}
use Rattle.spectra_lines.specs.Limits.{most_levels, fits, all_fit, is_flat, are_flat, nodes_of, behind, room_behind}
use Rattle.spectra_lines.specs.Rooms.{behind_size, behind_formulas}

-- ---- numbers that are held

held_same : (n r : ℕ) → nat_le n r ≡ true → r < 2 ^ 32 → held n ≡ n
held_same n r fits small = let less : n ≤ 18_446_744_073_709_551_615 = grind (arith, nat_tests) in min-eq_left less

-- a number that is held is as small as it is itself
held_le : (n r : ℕ) → r < 2 ^ 32 → nat_le (held n) r ≡ nat_le n r
held_le n r small = by (nat_le n r) (nat_le n 18_446_744_073_709_551_615) refl refl
  where
    beyond : nat_le n 18_446_744_073_709_551_615 ≡ false → held n ≡ 18_446_744_073_709_551_615
    beyond more = let less : 18_446_744_073_709_551_615 ≤ n = grind (arith, nat_tests) in min-eq_right less

    by : (b c : Bool) → nat_le n r ≡ b → nat_le n 18_446_744_073_709_551_615 ≡ c → nat_le (held n) r ≡ nat_le n r
    by true c fits within = ap (λ m. nat_le m r) (held_same n r fits small)
    by false true fits within = let less : n ≤ 18_446_744_073_709_551_615 = grind (arith, nat_tests) in ap (λ m. nat_le m r) (min-eq_left less)
    by false false fits within = let is = beyond within in let no : nat_le 18_446_744_073_709_551_615 r ≡ false = grind (arith, nat_tests) in ap (λ m. nat_le m r) is ∙ no ∙ sym fits

no_room : (a b : Bool) (x y : Option ℕ) → a ≡ b → (if a && false then x else None) ≡ (if b && false then y else None)
no_room true b x y e = by b
  where
    by : (b : Bool) → None ≡ (if b && false then y else None)
    by true = refl
    by false = refl
no_room false b x y e = by b
  where
    by : (b : Bool) → None ≡ (if b && false then y else None)
    by true = refl
    by false = refl

-- room for nodes and levels that are held is room for them
sized : (l n r : ℕ) → r < 2 ^ 32 → (if nat_le (held l) most_levels && nat_le (held n) r then Some (r - held n) else None) ≡ (if nat_le l most_levels && nat_le n r then Some (r - n) else None)
sized l n r small = by (nat_le n r) refl
  where
    flat : nat_le (held l) most_levels ≡ nat_le l most_levels
    flat = held_le l most_levels (omega arith)

    by : (b : Bool) → nat_le n r ≡ b → (if nat_le (held l) most_levels && nat_le (held n) r then Some (r - held n) else None) ≡ (if nat_le l most_levels && nat_le n r then Some (r - n) else None)
    by true within = let same = held_same n r within small in λ i. if flat i && nat_le (same i) r then Some (r - same i) else None
    by false within =
        let past = held_le n r small ∙ within in
        (λ i. if nat_le (held l) most_levels && past i then Some (r - held n) else None)
        ∙ no_room (nat_le (held l) most_levels) (nat_le l most_levels) (Some (r - held n)) (Some (r - n)) flat
        ∙ (λ i. if nat_le l most_levels && sym within i then Some (r - n) else None)

back : (n r left : ℕ) → nat_le n r ≡ true → r - n ≡ left → left + n ≡ r
back n r left within e = grind (arith, nat_tests)

taken : (n r left : ℕ) (a b : Bool) → nat_le n r ≡ b → (if a && b then Some (r - n) else None) ≡ Some left → (left + n ≡ r) × (a ≡ true)
taken n r left true true within e = (back n r left within (cc), refl)
taken n r left true false within e = absurd (cc)
taken n r left false b within e = absurd (cc)

-- ---- formulas

module _ (known : Known) (params : ℕ) where
  abbrev nodes : ResolvedTree → ℕ
  nodes t = nodes_in (formula_of known params t)

  abbrev levels : ResolvedTree → ℕ
  levels t = levels_in (formula_of known params t)

  -- what is left behind a formula of its size is left behind the formula, where what is put in fits
  pub behind_is : (r : ℕ) (t : ResolvedTree) → r < 2 ^ 32 → fits t ≡ true → behind_size r (size_of (formula_of known params t)) ≡ behind known params (Some r) t
  behind_is r t small fit = sized (levels t) (nodes t) r small ∙ (λ i. if (sym fit i && nat_le (levels t) most_levels) && nat_le (nodes t) r then Some (r - nodes t) else None)

  -- and none where it doesn't
  pub behind_none : (r : ℕ) (t : ResolvedTree) → fits t ≡ false → behind known params (Some r) t ≡ None
  behind_none r t large = λ i. if (large i && nat_le (levels t) most_levels) && nat_le (nodes t) r then Some (r - nodes t) else None

  -- what is left and what was taken are all
  pub one_room : (r : ℕ) (t : ResolvedTree) (left : ℕ) → behind known params (Some r) t ≡ Some left → (left + nodes_in (formula_of known params t) ≡ r) × (is_flat known params t ≡ true)
  one_room r t left is = taken (nodes t) r left (is_flat known params t) (nat_le (nodes t) r) refl is

  pub none_behind : (ts : List ResolvedTree) → room_behind known params None ts ≡ None
  none_behind [] = refl
  none_behind (t ∷ ts) = none_behind ts

  -- none is left behind several of which one doesn't fit
  large_one : (r : ℕ) (t : ResolvedTree) (ts : List ResolvedTree) (b : Bool) → fits t ≡ b → (all_fit ts ≡ false → room_behind known params (behind known params (Some r) t) ts ≡ None)
      → (b && all_fit ts) ≡ false → room_behind known params (behind known params (Some r) t) ts ≡ None
  large_one r t ts true fit rest none = rest none
  large_one r t ts false large rest none = ap (λ room. room_behind known params room ts) (behind_none r t large) ∙ none_behind ts

  pub large_behind : (room : Option ℕ) (ts : List ResolvedTree) → all_fit ts ≡ false → room_behind known params room ts ≡ None
  large_behind room [] none = absurd (false≢true (sym none))
  large_behind None (t ∷ ts) none = none_behind ts
  large_behind (Some r) (t ∷ ts) none = large_one r t ts (fits t) refl (large_behind (behind known params (Some r) t) ts) none

  -- of several all is left but their nodes
  abbrev RoomFor : ℕ → List ResolvedTree → Type 0
  RoomFor r ts = (left : ℕ) × (Some left ≡ room_behind known params (Some r) ts) × (left + nodes_of known params ts ≡ r) × (are_flat known params ts ≡ true)

  room_more : (r : ℕ) (t : ResolvedTree) (ts : List ResolvedTree) (o : Option ℕ) → behind known params (Some r) t ≡ o → ((left : ℕ) → is_some (room_behind known params (Some left) ts) ≡ true → RoomFor left ts)
      → is_some (room_behind known params o ts) ≡ true → RoomFor r (t ∷ ts)
  room_more r t ts None is rest has = absurd (false≢true (sym (ap is_some (none_behind ts)) ∙ has))
  room_more r t ts (Some left) is rest has =
      let all = rest left has in
      let one = one_room r t left is in
      (all.0, all.1 ∙ sym (ap (λ room. room_behind known params room ts) is), (let a = one.0 in let b = all.2 in omega (arith, a, b)), and_from _ _ one.1 all.3)

  pub some_room : (r : ℕ) (ts : List ResolvedTree) → is_some (room_behind known params (Some r) ts) ≡ true
      → (left : ℕ) × (Some left ≡ room_behind known params (Some r) ts) × (left + nodes_of known params ts ≡ r) × (are_flat known params ts ≡ true)
  some_room r [] has = (r, refl, omega arith, refl)
  some_room r (t ∷ ts) has = room_more r t ts (behind known params (Some r) t) refl (λ left. some_room left ts) has

-- ---- the expressions of a line

module _ (known : Known) where
  pub no_formulas : (ts : List ResolvedTree) → behind_formulas known None ts ≡ None
  no_formulas [] = refl
  no_formulas (t ∷ ts) = refl

  less_left : (r n left : ℕ) → left + n ≡ r → r < 2 ^ 32 → left < 2 ^ 32
  less_left r n left is small = omega (arith, is, small)

  all_more : (r : ℕ) (t : ResolvedTree) (ts : List ResolvedTree) (o : Option ℕ) → behind known 0 (Some r) t ≡ o → r < 2 ^ 32
      → ((left : ℕ) → left < 2 ^ 32 → behind_formulas known (Some left) ts ≡ room_behind known 0 (Some left) ts) → behind_formulas known o ts ≡ room_behind known 0 o ts
  all_more r t ts None is small rest = no_formulas ts ∙ sym (none_behind known 0 ts)
  all_more r t ts (Some left) is small rest = rest left (less_left r (nodes_in (formula_of known 0 t)) left (one_room known 0 r t left is).0 small)

  -- what is left behind formulas of their sizes is left behind them, where all that is put in fits
  pub behind_all : (r : ℕ) (ts : List ResolvedTree) → r < 2 ^ 32 → all_fit ts ≡ true → behind_formulas known (Some r) ts ≡ room_behind known 0 (Some r) ts
  behind_all r [] small fit = refl
  behind_all r (t ∷ ts) small fit =
      let parts = and_parts (fits t) (all_fit ts) fit in
      ap (λ room. behind_formulas known room ts) (behind_is known 0 r t small parts.0)
      ∙ all_more r t ts (behind known 0 (Some r) t) refl small (λ left less. behind_all left ts less parts.1)

-- ---- what is made where there is room

pub if_some : {A : Type 0} (b : Bool) (x y : A) → Some x ≡ (if b then Some y else None) → (b ≡ true) × (x ≡ y)
if_some true x y is = (refl, cc)
if_some false x y is = absurd (cc)

pub if_none : {A : Type 0} (b : Bool) (y : A) → None ≡ (if b then Some y else None) → b ≡ false
if_none true y is = absurd (cc)
if_none false y is = refl
