-- Expressions without definitions stay as they are where bodies are put in, and are written out in the same way by whichever
-- numbers.
use Rattle.std.proofs.Common.{◌≡◌, ℕ, ℤ, Bool, true, false, List, [], ◌∷◌, ◌++◌, map, Option, Some, None, refl, sym, ap, ◌∙◌}
use Rattle.std.proofs.lemmas.Bool.{false≢true, and_parts}
use Rattle.spectra_trees.specs.declared.tree.BinaryWord.{BinaryWord}
use Rattle.spectra_resolved.specs.declared.spot.Spot.{Spot}
use Rattle.spectra_resolved.specs.declared.spot.Mark.{Mark}
use Rattle.spectra_resolved.specs.declared.tree.Leaf.{Leaf}
use Rattle.spectra_resolved.specs.declared.tree.Leaf.TheVariants as leaf
use Rattle.spectra_resolved.specs.declared.tree.Extent.{Extent}
use Rattle.spectra_resolved.specs.declared.tree.Extent.TheVariants as extents
use Rattle.spectra_resolved.specs.Resolved.{ResolvedTree, tree, Form, ResolvedTrees}
use Rattle.spectra_copies.specs.Places.{placed, marked}
use Rattle.spectra_copies.specs.Numbers.{joined_number, remainder_number, leaf_number, number_in, form_number}
use Rattle.spectra_copies.specs.declared.ranges.Bound.{Bound}
use Rattle.spectra_copies.specs.Ranges.{range_of, number_at}
use Rattle.spectra_copies.specs.Copies.{bound_with, number_leaf, written_leaf, extent_of, copies_of, written, form_out, each_out}
use Rattle.spectra_judge.specs.PutIn.{Parts, seen_inside, is_put_in, form_put_in, each_put_in}
use Rattle.spectra_elaboration.specs.Putting.{Put, leaf_put, filled, form_filled, each_filled}

abbrev pub HasNoDefine : Parts → Type 0
HasNoDefine good = (k : ℕ) → good.leaf (leaf.Define k) ≡ false

none_inside : (extent : Extent) (variable : Spot) (good : Parts) → HasNoDefine good → HasNoDefine (seen_inside extent variable good)
none_inside extents.Open variable good none k = none k
none_inside extents.Wrong variable good none k = none k
none_inside extents.Right variable good none k = none k

-- ---- bodies put in

same_places : (spots : List Spot) → map (placed None) spots ≡ spots
same_places [] = refl
same_places (s ∷ spots) = ap (λ more. s ∷ more) (same_places spots)

module _ (put : Put) where
  bare_leaf : (good : Parts) → HasNoDefine good → (first : Spot) (at : Mark) (l : Leaf) → good.leaf l ≡ true → leaf_put put [] first at l ≡ tree first at (Form.LeafOf l)
  bare_leaf good none first at (leaf.Define k) is = absurd (false≢true (sym (none k) ∙ is))
  bare_leaf good none first at (leaf.Parameter k) is = refl
  bare_leaf good none first at (leaf.Truth b) is = refl
  bare_leaf good none first at (leaf.Number z) is = refl
  bare_leaf good none first at (leaf.EnumName k) is = refl
  bare_leaf good none first at (leaf.Variable k) is = refl
  bare_leaf good none first at (leaf.Own k) is = refl
  bare_leaf good none first at (leaf.Bound v) is = refl
  bare_leaf good none first at (leaf.Hole h) is = refl

  mutual
    pub bare : (good : Parts) → HasNoDefine good → (t : ResolvedTree) → is_put_in good t ≡ true → filled put None [] t ≡ t
    bare good none (tree first at form) is = bare_form good none first at form is

    bare_form : (good : Parts) → HasNoDefine good → (first : Spot) (at : Mark) (form : Form) → form_put_in good form ≡ true → form_filled put None [] first at form ≡ tree first at form
    bare_form good none first at (Form.LeafOf l) is = bare_leaf good none first at l is
    bare_form good none first at (Form.PredicateOf k ts) is = absurd (false≢true is)
    bare_form good none first at (Form.MisuseOf m ts) is = absurd (false≢true is)
    bare_form good none first at (Form.Next t) is = ap (λ t. tree first at (Form.Next t)) (bare good none t is)
    bare_form good none first at (Form.Prefix word t) is = ap (λ t. tree first at (Form.Prefix word t)) (bare good none t is)
    bare_form good none first at (Form.Binary word a b) is =
        let parts = and_parts (is_put_in good a) (is_put_in good b) is in λ i. tree first at (Form.Binary word (bare good none a parts.0 i) (bare good none b parts.1 i))
    bare_form good none first at (Form.Mod t number_at n) is = ap (λ t. tree first at (Form.Mod t number_at n)) (bare good none t is)
    bare_form good none first at (Form.And ts operators) is = λ i. tree first at (Form.And (bare_each good none ts is i) (same_places operators i))
    bare_form good none first at (Form.Or ts operators) is = λ i. tree first at (Form.Or (bare_each good none ts is i) (same_places operators i))
    bare_form good none first at (Form.Index array n t) is = let parts = and_parts (good.array array n) (is_put_in good t) is in ap (λ t. tree first at (Form.Index array n t)) (bare good none t parts.1)
    bare_form good none first at (Form.Quantified word variable extent low high ts) is =
        let parts = and_parts (is_put_in good low) _ is in
        let more = and_parts (is_put_in good high) (each_put_in (seen_inside extent variable good) ts) parts.1 in
        λ i. tree first at (Form.Quantified word variable extent (bare good none low parts.0 i) (bare good none high more.0 i) (bare_each (seen_inside extent variable good) (none_inside extent variable good none) ts more.1 i))

    bare_each : (good : Parts) → HasNoDefine good → (ts : ResolvedTrees) → each_put_in good ts ≡ true → each_filled put None [] ts ≡ ts
    bare_each good none ResolvedTrees.none is = refl
    bare_each good none (ResolvedTrees.one_more t ts) is =
        let parts = and_parts (is_put_in good t) (each_put_in good ts) is in λ i. ResolvedTrees.one_more (bare good none t parts.0 i) (bare_each good none ts parts.1 i)

-- ---- quantifiers written out

module _ (c : List (Option ℤ)) where
  leaf_same : (good : Parts) → HasNoDefine good → (q : List Bound) (l : Leaf) → good.leaf l ≡ true → leaf_number c (written_leaf q l) ≡ leaf_number [] (written_leaf q l)
  leaf_same good none q (leaf.Define k) is = absurd (false≢true (sym (none k) ∙ is))
  leaf_same good none q (leaf.Bound at) is = by (number_at q at)
    where
      by : (o : Option ℤ) → leaf_number c (number_leaf o (leaf.Bound at)) ≡ leaf_number [] (number_leaf o (leaf.Bound at))
      by (Some z) = refl
      by None = refl
  leaf_same good none q (leaf.Truth b) is = refl
  leaf_same good none q (leaf.Number z) is = refl
  leaf_same good none q (leaf.EnumName k) is = refl
  leaf_same good none q (leaf.Variable k) is = refl
  leaf_same good none q (leaf.Parameter k) is = refl
  leaf_same good none q (leaf.Own k) is = refl
  leaf_same good none q (leaf.Hole h) is = refl

  mutual
    number_same : (good : Parts) → HasNoDefine good → (q : List Bound) (t : ResolvedTree) → is_put_in good t ≡ true → number_in c (written [] q t) ≡ number_in [] (written [] q t)
    number_same good none q (tree first at form) is = form_number_same good none q form is

    form_number_same : (good : Parts) → HasNoDefine good → (q : List Bound) (form : Form) → form_put_in good form ≡ true → form_number c (form_out [] q form) ≡ form_number [] (form_out [] q form)
    form_number_same good none q (Form.LeafOf l) is = leaf_same good none q l is
    form_number_same good none q (Form.Binary word a b) is =
        let parts = and_parts (is_put_in good a) (is_put_in good b) is in λ i. joined_number word (number_same good none q a parts.0 i) (number_same good none q b parts.1 i)
    form_number_same good none q (Form.Mod t number_at n) is = ap (remainder_number n) (number_same good none q t is)
    form_number_same good none q (Form.PredicateOf k ts) is = refl
    form_number_same good none q (Form.MisuseOf m ts) is = refl
    form_number_same good none q (Form.Next t) is = refl
    form_number_same good none q (Form.Prefix word t) is = refl
    form_number_same good none q (Form.And ts operators) is = refl
    form_number_same good none q (Form.Or ts operators) is = refl
    form_number_same good none q (Form.Index array n t) is = refl
    form_number_same good none q (Form.Quantified word variable extent low high ts) is = refl

  mutual
    pub out_same : (good : Parts) → HasNoDefine good → (q : List Bound) (t : ResolvedTree) → is_put_in good t ≡ true → written c q t ≡ written [] q t
    out_same good none q (tree first at form) is = ap (tree first at) (form_out_same good none q form is)

    form_out_same : (good : Parts) → HasNoDefine good → (q : List Bound) (form : Form) → form_put_in good form ≡ true → form_out c q form ≡ form_out [] q form
    form_out_same good none q (Form.LeafOf l) is = refl
    form_out_same good none q (Form.PredicateOf k ts) is = absurd (false≢true is)
    form_out_same good none q (Form.MisuseOf m ts) is = absurd (false≢true is)
    form_out_same good none q (Form.Next t) is = ap (λ t. Form.Next t) (out_same good none q t is)
    form_out_same good none q (Form.Prefix word t) is = ap (λ t. Form.Prefix word t) (out_same good none q t is)
    form_out_same good none q (Form.Binary word a b) is =
        let parts = and_parts (is_put_in good a) (is_put_in good b) is in λ i. Form.Binary word (out_same good none q a parts.0 i) (out_same good none q b parts.1 i)
    form_out_same good none q (Form.Mod t number_at n) is = ap (λ t. Form.Mod t number_at n) (out_same good none q t is)
    form_out_same good none q (Form.And ts operators) is = ap (λ ts. Form.And ts operators) (each_out_same good none q ts is)
    form_out_same good none q (Form.Or ts operators) is = ap (λ ts. Form.Or ts operators) (each_out_same good none q ts is)
    form_out_same good none q (Form.Index array n t) is = let parts = and_parts (good.array array n) (is_put_in good t) is in ap (λ t. Form.Index array n t) (out_same good none q t parts.1)
    form_out_same good none q (Form.Quantified word variable extent low high ts) is =
        let parts = and_parts (is_put_in good low) _ is in
        let more = and_parts (is_put_in good high) (each_put_in (seen_inside extent variable good) ts) parts.1 in
        let least = out_same good none q low parts.0 in
        let most = out_same good none q high more.0 in
        let low_number = ap (number_in c) least ∙ number_same good none q low parts.0 in
        let high_number = ap (number_in c) most ∙ number_same good none q high more.0 in
        let inner = none_inside extent variable good none in
        let copies = λ (z : ℤ). each_out_same (seen_inside extent variable good) inner (q ++ bound_with variable z ∷ []) ts more.1 in
        let body = each_out_same (seen_inside extent variable good) inner q ts more.1 in
        λ i. Form.Quantified word variable (extent_of extent (range_of (low_number i) (high_number i))) (least i) (most i) (copies_of extent (range_of (low_number i) (high_number i)) (λ z. copies z i) (body i))

    each_out_same : (good : Parts) → HasNoDefine good → (q : List Bound) (ts : ResolvedTrees) → each_put_in good ts ≡ true → each_out c q ts ≡ each_out [] q ts
    each_out_same good none q ResolvedTrees.none is = refl
    each_out_same good none q (ResolvedTrees.one_more t ts) is =
        let parts = and_parts (is_put_in good t) (each_put_in good ts) is in λ i. ResolvedTrees.one_more (out_same good none q t parts.0 i) (each_out_same good none q ts parts.1 i)
