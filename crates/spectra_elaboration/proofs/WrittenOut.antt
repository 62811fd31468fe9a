-- What is written out: that it is as it was where there is no quantifier, and how large it is.
use Rattle.std.proofs.Common.{◌≡◌, ℕ, ◌+◌, ◌-◌, ◌≤◌, max, ℤ, pos, int_le, nat_abs, ◌+ℤ◌, ◌-ℤ◌, nat_le, Bool, true, false, ◌&&◌, ◌||◌, if◌then◌else◌, List, [], ◌∷◌, ◌++◌, Option, Some, None, refl, sym, ap, subst, ◌∙◌, add-one, arith}
use Rattle.std.proofs.lemmas.Bool.{false≢true, and_parts}
use Rattle.std.proofs.lemmas.Bool.Decides.{nat_tests}
use Rattle.spectra_resolved.specs.declared.tree.Leaf.{Leaf}
use Rattle.spectra_resolved.specs.declared.tree.Leaf.TheVariants as leaf
use Rattle.spectra_resolved.specs.declared.tree.Extent.{Extent}
use Rattle.spectra_resolved.specs.declared.tree.Extent.TheVariants as extents
use Rattle.spectra_resolved.specs.Resolved.{ResolvedTree, tree, Form, ResolvedTrees}
use Rattle.spectra_copies.specs.Numbers.{number_in}
use Rattle.spectra_copies.specs.declared.ranges.Bound.{Bound}
use Rattle.spectra_copies.specs.declared.ranges.Range.{Range}
use Rattle.spectra_copies.specs.Ranges.{is_short, range_of, numbers_from, numbers_between}
use Rattle.spectra_copies.specs.declared.ranges.Range.TheVariants as ranges
use Rattle.spectra_copies.specs.Copies.{bound_with, written_leaf, joined_trees, copies_for, copies_of, written, form_out, each_out, has_quantifier, form_quantified, some_quantified}
use Rattle.spectra_copies.specs.Nodes.{tree_nodes, form_nodes, each_nodes}
use Rattle.spectra_copies.specs.Levels.{tree_levels, form_levels, each_levels, is_row, form_is_row, is_row_word, within_limits, within_room}

or_parts : (p q : Bool) → (p || q) ≡ false → (p ≡ false) × (q ≡ false)
or_parts true q is = absurd (false≢true (sym is))
or_parts false q is = (refl, is)

-- ---- without quantifiers nothing is written out

pub leaf_stays : (l : Leaf) → written_leaf [] l ≡ l
leaf_stays (leaf.Bound at) = refl
leaf_stays (leaf.Define k) = refl
leaf_stays (leaf.Parameter k) = refl
leaf_stays (leaf.Truth b) = refl
leaf_stays (leaf.Number z) = refl
leaf_stays (leaf.EnumName n) = refl
leaf_stays (leaf.Variable k) = refl
leaf_stays (leaf.Own k) = refl
leaf_stays (leaf.Hole h) = refl

module _ (c : List (Option ℤ)) where
  mutual
    pub plain_stays : (t : ResolvedTree) → has_quantifier t ≡ false → written c [] t ≡ t
    plain_stays (tree first at form) none = ap (tree first at) (form_stays form none)

    form_stays : (form : Form) → form_quantified form ≡ false → form_out c [] form ≡ form
    form_stays (Form.LeafOf l) none = ap Form.LeafOf (leaf_stays l)
    form_stays (Form.PredicateOf k ts) none = ap (Form.PredicateOf k) (each_stays ts none)
    form_stays (Form.MisuseOf m ts) none = ap (Form.MisuseOf m) (each_stays ts none)
    form_stays (Form.Next t) none = ap Form.Next (plain_stays t none)
    form_stays (Form.Prefix word t) none = ap (Form.Prefix word) (plain_stays t none)
    form_stays (Form.Binary word a b) none = let parts = or_parts (has_quantifier a) (has_quantifier b) none in λ i. Form.Binary word (plain_stays a parts.0 i) (plain_stays b parts.1 i)
    form_stays (Form.Mod t number_at n) none = ap (λ u. Form.Mod u number_at n) (plain_stays t none)
    form_stays (Form.And ts operators) none = ap (λ us. Form.And us operators) (each_stays ts none)
    form_stays (Form.Or ts operators) none = ap (λ us. Form.Or us operators) (each_stays ts none)
    form_stays (Form.Index array n t) none = ap (Form.Index array n) (plain_stays t none)
    form_stays (Form.Quantified word variable extent low high ts) none = absurd (false≢true (sym none))

    each_stays : (ts : ResolvedTrees) → some_quantified ts ≡ false → each_out c [] ts ≡ ts
    each_stays ResolvedTrees.none none = refl
    each_stays (ResolvedTrees.one_more t ts) none = let parts = or_parts (has_quantifier t) (some_quantified ts) none in λ i. ResolvedTrees.one_more (plain_stays t parts.0 i) (each_stays ts parts.1 i)

-- ---- what is written out is no smaller, and has as many levels

nodes_joined : (ts us : ResolvedTrees) → each_nodes (joined_trees ts us) ≡ each_nodes ts + each_nodes us
nodes_joined ResolvedTrees.none us = omega arith
nodes_joined (ResolvedTrees.one_more t ts) us = let rest = nodes_joined ts us in omega (arith, rest)

levels_joined : (ts us : ResolvedTrees) → each_levels (joined_trees ts us) ≡ max (each_levels ts) (each_levels us)
levels_joined ResolvedTrees.none us = omega arith
levels_joined (ResolvedTrees.one_more t ts) us = let rest = levels_joined ts us in omega (arith, rest)

-- copies for a number and others, all of which have so many levels, and so many nodes at least
copies_nodes : (copy : ℤ → ResolvedTrees) (least : ℕ) → ((z : ℤ) → least ≤ each_nodes (copy z)) → (z : ℤ) (zs : List ℤ) → least ≤ each_nodes (copies_for copy (z ∷ zs))
copies_nodes copy least all z zs = let here = all z in let both = nodes_joined (copy z) (copies_for copy zs) in omega (arith, here, both)

copies_levels : (copy : ℤ → ResolvedTrees) (levels : ℕ) → ((z : ℤ) → each_levels (copy z) ≡ levels) → (z : ℤ) (zs : List ℤ) → each_levels (copies_for copy (z ∷ zs)) ≡ levels
copies_levels copy levels all z [] = let here = all z in let both = levels_joined (copy z) ResolvedTrees.none in omega (arith, here, both)
copies_levels copy levels all z (y ∷ zs) =
    let here = all z in
    let rest = copies_levels copy levels all y zs in
    let both = levels_joined (copy z) (copies_for copy (y ∷ zs)) in
    omega (arith, here, rest, both)

-- a range has a first number
record Begins (zs : List ℤ) : Type 0 where
  first : ℤ
  rest : List ℤ
  is : zs ≡ first ∷ rest

begins : (low high : ℤ) → int_le low high ≡ true → Begins (numbers_between low high)
begins low high is =
    record {
      first = low;
      rest = numbers_from (low +ℤ pos 1) (nat_abs (high -ℤ low));
      is = ap (λ q. if q then numbers_from low (nat_abs (high -ℤ low) + 1) else []) is ∙ ap (numbers_from low) (add-one (nat_abs (high -ℤ low)));
    }

-- the first and the last number of a right range
right_range : (o p : Option ℤ) (low high : ℤ) → range_of o p ≡ ranges.Right low high → int_le low high ≡ true
right_range (Some a) (Some b) low high is = by (is_short a b) refl is
  where
    by : (q : Bool) → is_short a b ≡ q → (if q then ranges.Right a b else ranges.Wrong) ≡ ranges.Right low high → int_le low high ≡ true
    by true short e =
        let first : a ≡ low = cc in
        let last : b ≡ high = cc in
        (λ i. int_le (sym first i) (sym last i)) ∙ (and_parts (int_le a b) _ short).0
    by false short e = absurd (cc)
right_range (Some a) None low high is = absurd (cc)
right_range None p low high is = absurd (cc)

module _ (copy : ℤ → ResolvedTrees) (without : ResolvedTrees) (range : Range) (short : (low high : ℤ) → range ≡ ranges.Right low high → int_le low high ≡ true) where
  range_nodes : (least : ℕ) → ((z : ℤ) → least ≤ each_nodes (copy z)) → least ≤ each_nodes without → (extent : Extent) → least ≤ each_nodes (copies_of extent range copy without)
  range_nodes least all own extents.Right = own
  range_nodes least all own extents.Wrong = own
  range_nodes least all own extents.Open = by range refl
    where
      by : (r : Range) → range ≡ r → least ≤ each_nodes (copies_of extents.Open r copy without)
      by ranges.Open is = own
      by ranges.Wrong is = own
      by (ranges.Right low high) is =
          let numbers = begins low high (short low high is) in
          let more = copies_nodes copy least all numbers.first numbers.rest in
          subst (λ zs. least ≤ each_nodes (copies_for copy zs)) (sym numbers.is) more

  range_levels : (levels : ℕ) → ((z : ℤ) → each_levels (copy z) ≡ levels) → each_levels without ≡ levels → (extent : Extent) → each_levels (copies_of extent range copy without) ≡ levels
  range_levels levels all own extents.Right = own
  range_levels levels all own extents.Wrong = own
  range_levels levels all own extents.Open = by range refl
    where
      by : (r : Range) → range ≡ r → each_levels (copies_of extents.Open r copy without) ≡ levels
      by ranges.Open is = own
      by ranges.Wrong is = own
      by (ranges.Right low high) is =
          let numbers = begins low high (short low high is) in
          ap (λ zs. each_levels (copies_for copy zs)) numbers.is ∙ copies_levels copy levels all numbers.first numbers.rest

module _ (c : List (Option ℤ)) where
  -- the range of a quantifier that is written out
  abbrev pub RangeOf : List Bound → (low high : ResolvedTree) → Range
  RangeOf q low high = range_of (number_in c (written c q low)) (number_in c (written c q high))

  range_short : (q : List Bound) (a b : ResolvedTree) (low high : ℤ) → RangeOf q a b ≡ ranges.Right low high → int_le low high ≡ true
  range_short q a b = right_range (number_in c (written c q a)) (number_in c (written c q b))

  mutual
    pub written_nodes : (q : List Bound) (t : ResolvedTree) → tree_nodes t ≤ tree_nodes (written c q t)
    written_nodes q (tree first at form) = form_nodes_out q form

    form_nodes_out : (q : List Bound) (form : Form) → form_nodes form ≤ form_nodes (form_out c q form)
    form_nodes_out q (Form.LeafOf l) = omega arith
    form_nodes_out q (Form.PredicateOf k ts) = let all = each_nodes_out q ts in omega (arith, all)
    form_nodes_out q (Form.MisuseOf m ts) = let all = each_nodes_out q ts in omega (arith, all)
    form_nodes_out q (Form.Next t) = let own = written_nodes q t in omega (arith, own)
    form_nodes_out q (Form.Prefix word t) = let own = written_nodes q t in omega (arith, own)
    form_nodes_out q (Form.Binary word a b) = let first = written_nodes q a in let second = written_nodes q b in omega (arith, first, second)
    form_nodes_out q (Form.Mod t number_at n) = let own = written_nodes q t in omega (arith, own)
    form_nodes_out q (Form.And ts operators) = let all = each_nodes_out q ts in omega (arith, all)
    form_nodes_out q (Form.Or ts operators) = let all = each_nodes_out q ts in omega (arith, all)
    form_nodes_out q (Form.Index array n t) = let own = written_nodes q t in omega (arith, own)
    form_nodes_out q (Form.Quantified word variable extent low high ts) =
        let first = written_nodes q low in
        let second = written_nodes q high in
        let all =
        range_nodes (λ z. each_out c (q ++ bound_with variable z ∷ []) ts) (each_out c q ts) (RangeOf q low high) (range_short q low high) (each_nodes ts)
        (λ z. each_nodes_out (q ++ bound_with variable z ∷ []) ts) (each_nodes_out q ts) extent in
        omega (arith, first, second, all)

    each_nodes_out : (q : List Bound) (ts : ResolvedTrees) → each_nodes ts ≤ each_nodes (each_out c q ts)
    each_nodes_out q ResolvedTrees.none = omega arith
    each_nodes_out q (ResolvedTrees.one_more t ts) = let first = written_nodes q t in let rest = each_nodes_out q ts in omega (arith, first, rest)

  row_out : (q : List Bound) (form : Form) → form_is_row (form_out c q form) ≡ form_is_row form
  row_out q (Form.LeafOf l) = refl
  row_out q (Form.PredicateOf k ts) = refl
  row_out q (Form.MisuseOf m ts) = refl
  row_out q (Form.Next t) = refl
  row_out q (Form.Prefix word t) = refl
  row_out q (Form.Binary word a b) = refl
  row_out q (Form.Mod t number_at n) = refl
  row_out q (Form.And ts operators) = refl
  row_out q (Form.Or ts operators) = refl
  row_out q (Form.Index array n t) = refl
  row_out q (Form.Quantified word variable extent low high ts) = refl

  is_row_out : (q : List Bound) (t : ResolvedTree) → is_row (written c q t) ≡ is_row t
  is_row_out q (tree first at form) = row_out q form

  mutual
    pub written_levels : (q : List Bound) (t : ResolvedTree) → tree_levels (written c q t) ≡ tree_levels t
    written_levels q (tree first at form) = form_levels_out q form

    form_levels_out : (q : List Bound) (form : Form) → form_levels (form_out c q form) ≡ form_levels form
    form_levels_out q (Form.LeafOf l) = refl
    form_levels_out q (Form.PredicateOf k ts) = refl
    form_levels_out q (Form.MisuseOf m ts) = refl
    form_levels_out q (Form.Next t) = ap (λ n. 1 + n) (written_levels q t)
    form_levels_out q (Form.Prefix word t) = ap (λ n. 1 + n) (written_levels q t)
    form_levels_out q (Form.Binary word a b) = λ i. 1 + max (if is_row_word word && is_row_out q a i then written_levels q a i - 1 else written_levels q a i) (written_levels q b i)
    form_levels_out q (Form.Mod t number_at n) = ap (λ n. 1 + n) (written_levels q t)
    form_levels_out q (Form.And ts operators) = ap (λ n. 1 + n) (each_levels_out q ts)
    form_levels_out q (Form.Or ts operators) = ap (λ n. 1 + n) (each_levels_out q ts)
    form_levels_out q (Form.Index array n t) = ap (λ n. 1 + n) (written_levels q t)
    form_levels_out q (Form.Quantified word variable extent low high ts) =
        let all =
        range_levels (λ z. each_out c (q ++ bound_with variable z ∷ []) ts) (each_out c q ts) (RangeOf q low high) (range_short q low high) (each_levels ts)
        (λ z. each_levels_out (q ++ bound_with variable z ∷ []) ts) (each_levels_out q ts) extent in
        λ i. 1 + max (written_levels q low i) (max (written_levels q high i) (all i))

    each_levels_out : (q : List Bound) (ts : ResolvedTrees) → each_levels (each_out c q ts) ≡ each_levels ts
    each_levels_out q ResolvedTrees.none = refl
    each_levels_out q (ResolvedTrees.one_more t ts) = λ i. max (written_levels q t i) (each_levels_out q ts i)

-- ---- within limits

-- An expression that is written out is within limits of nodes and levels where it is so before, and where its copies have room.
pub out_within : (c : List (Option ℤ)) (q : List Bound) (room levels : ℕ) (t : ResolvedTree) → nat_le (tree_levels t) levels ≡ true → within_room room (written c q t) ≡ within_limits room levels (written c q t)
out_within c q room levels t flat = λ i. if two (nat_le (tree_nodes (written c q t)) room) i then Some (written c q t) else None
  where
    and-true : (p : Bool) → p ≡ (p && true)
    and-true true = refl
    and-true false = refl

    two : (p : Bool) → p ≡ (p && nat_le (tree_levels (written c q t)) levels)
    two p = and-true p ∙ ap (λ r. p && r) (sym (ap (λ n. nat_le n levels) (written_levels c q t) ∙ flat))

-- what has no room before has none then
pub out_without : (c : List (Option ℤ)) (q : List Bound) (room levels : ℕ) (t : ResolvedTree) → None ≡ within_limits room levels t → None ≡ within_limits room levels (written c q t)
out_without c q room levels t none = by (nat_le (tree_nodes t) room) (nat_le (tree_levels t) levels) refl refl none
  where
    off : (p r : Bool) → (p && r) ≡ false → None ≡ (if p && r then Some (written c q t) else None)
    off p r is = λ i. if sym is i then Some (written c q t) else None

    and-false : (p : Bool) → (p && false) ≡ false
    and-false true = refl
    and-false false = refl

    by : (p r : Bool) → nat_le (tree_nodes t) room ≡ p → nat_le (tree_levels t) levels ≡ r → None ≡ (if nat_le (tree_nodes t) room && nat_le (tree_levels t) levels then Some t else None)
        → None ≡ within_limits room levels (written c q t)
    by true true few flat e = absurd (let some : None ≡ Some t = e ∙ (λ i. if few i && flat i then Some t else None) in cc)
    by false r few flat e =
        let more = written_nodes c q t in
        let many : nat_le (tree_nodes (written c q t)) room ≡ false = past (tree_nodes t) (tree_nodes (written c q t)) few more in
        off (nat_le (tree_nodes (written c q t)) room) (nat_le (tree_levels (written c q t)) levels) (ap (λ x. x && nat_le (tree_levels (written c q t)) levels) many)
      where
        past : (n m : ℕ) → nat_le n room ≡ false → n ≤ m → nat_le m room ≡ false
        past n m high le = by' (nat_le m room) refl
          where
            by' : (p : Bool) → nat_le m room ≡ p → p ≡ false
            by' true is = grind (arith, nat_tests)
            by' false is = refl
    by true false few flat e =
        off (nat_le (tree_nodes (written c q t)) room) (nat_le (tree_levels (written c q t)) levels)
        (ap (λ x. nat_le (tree_nodes (written c q t)) room && x) (ap (λ n. nat_le n levels) (written_levels c q t) ∙ flat) ∙ and-false (nat_le (tree_nodes (written c q t)) room))

-- what is within limits is no deeper
pub within_flat : (room levels : ℕ) (t u : ResolvedTree) → Some u ≡ within_limits room levels t → (u ≡ t) × (nat_le (tree_levels t) levels ≡ true)
within_flat room levels t u some = by (nat_le (tree_nodes t) room) (nat_le (tree_levels t) levels) refl refl some
  where
    by : (p r : Bool) → nat_le (tree_nodes t) room ≡ p → nat_le (tree_levels t) levels ≡ r → Some u ≡ (if nat_le (tree_nodes t) room && nat_le (tree_levels t) levels then Some t else None)
        → (u ≡ t) × (nat_le (tree_levels t) levels ≡ true)
    by true true few flat e = (let same : Some u ≡ Some t = e ∙ (λ i. if few i && flat i then Some t else None) in cc, flat)
    by false r few flat e = absurd (let same : Some u ≡ None = e ∙ (λ i. if few i && nat_le (tree_levels t) levels then Some t else None) in cc)
    by true false few flat e = absurd (let same : Some u ≡ None = e ∙ (λ i. if few i && flat i then Some t else None) in cc)
