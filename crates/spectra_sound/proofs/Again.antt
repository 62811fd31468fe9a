-- What is written out stays as it is when it is written out again.
use Rattle.std.proofs.Common.{◌≡◌, ℤ, Bool, true, false, if◌then◌else◌, List, [], ◌∷◌, ◌++◌, Option, Some, None, refl, sym, ap, ◌∙◌}
use Rattle.spectra_resolved.specs.declared.spot.Spot.{Spot}
use Rattle.spectra_resolved.specs.declared.tree.Leaf.{Leaf}
use Rattle.spectra_resolved.specs.declared.tree.Leaf.TheVariants as leaf
use Rattle.spectra_resolved.specs.declared.tree.QuantifierWord.{QuantifierWord}
use Rattle.spectra_resolved.specs.declared.tree.Extent.{Extent}
use Rattle.spectra_resolved.specs.declared.tree.Extent.TheVariants as extents
use Rattle.spectra_resolved.specs.Resolved.{ResolvedTree, tree, Form, ResolvedTrees}
use Rattle.spectra_resolved.specs.Spots.{same_place}
use Rattle.spectra_copies.specs.Numbers.{number_in}
use Rattle.spectra_copies.specs.declared.ranges.Bound.{Bound}
use Rattle.spectra_copies.specs.declared.ranges.Range.{Range}
use Rattle.spectra_copies.specs.Ranges.{range_of, numbers_between, number_or, number_at}
use Rattle.spectra_copies.specs.declared.ranges.Range.TheVariants as ranges
use Rattle.spectra_copies.specs.Copies.{bound_with, number_leaf, written_leaf, joined_trees, copies_for, extent_of, copies_of, written, form_out, each_out}
use Rattle.spectra_elaboration.proofs.OutWhole.{number_or-append}

-- ---- numbers of variables

none_some : {X : Type 0} {x : X} → Some x ≡ None → ⊥
none_some e = cc

-- each place without a number in the one has none in the other
abbrev pub HasLess : (p q : List Bound) → Type 0
HasLess p q = (at : Spot) → number_at p at ≡ None → number_at q at ≡ None

less_pushed : (p q : List Bound) (b : Bound) → HasLess p q → HasLess (p ++ b ∷ []) q
less_pushed p q b less at none = by (same_place b.at at) (sym (number_or-append None p b at) ∙ none)
  where
    by : (c : Bool) → (if c then Some b.number else number_or None p at) ≡ None → number_at q at ≡ None
    by true e = absurd (none_some e)
    by false e = less at e

-- ---- expressions

leaf_again : (p q : List Bound) → HasLess p q → (l : Leaf) → written_leaf q (written_leaf p l) ≡ written_leaf p l
leaf_again p q less (leaf.Truth b) = refl
leaf_again p q less (leaf.Number z) = refl
leaf_again p q less (leaf.EnumName k) = refl
leaf_again p q less (leaf.Variable k) = refl
leaf_again p q less (leaf.Parameter k) = refl
leaf_again p q less (leaf.Own k) = refl
leaf_again p q less (leaf.Define k) = refl
leaf_again p q less (leaf.Hole h) = refl
leaf_again p q less (leaf.Bound at) = by (number_at p at) refl
  where
    by : (o : Option ℤ) → number_at p at ≡ o → written_leaf q (number_leaf o (leaf.Bound at)) ≡ number_leaf o (leaf.Bound at)
    by (Some z) is = refl
    by None is = ap (λ o. number_leaf o (leaf.Bound at)) (less at is)

joined_again : (c : List (Option ℤ)) (q : List Bound) (ts us : ResolvedTrees) → each_out c q ts ≡ ts → each_out c q us ≡ us → each_out c q (joined_trees ts us) ≡ joined_trees ts us
joined_again c q ResolvedTrees.none us a b = b
joined_again c q (ResolvedTrees.one_more t ts) us a b = λ i. ResolvedTrees.one_more (first i) (joined_again c q ts us rest b i)
  where
    head : ResolvedTrees → ResolvedTree
    head ResolvedTrees.none = t
    head (ResolvedTrees.one_more x xs) = x

    tail : ResolvedTrees → ResolvedTrees
    tail ResolvedTrees.none = ts
    tail (ResolvedTrees.one_more x xs) = xs

    first : written c q t ≡ t
    first = ap head a

    rest : each_out c q ts ≡ ts
    rest = ap tail a

copies_again : (c : List (Option ℤ)) (q : List Bound) (copy : ℤ → ResolvedTrees) → ((z : ℤ) → each_out c q (copy z) ≡ copy z) → (zs : List ℤ) → each_out c q (copies_for copy zs) ≡ copies_for copy zs
copies_again c q copy each [] = refl
copies_again c q copy each (z ∷ zs) = joined_again c q (copy z) (copies_for copy zs) (each z) (copies_again c q copy each zs)

-- a quantifier whose range is looked at once more
module _ (c : List (Option ℤ)) (q : List Bound) (word : QuantifierWord) (variable : Spot) (low high : ResolvedTree) (low_stays : written c q low ≡ low) (high_stays : written c q high ≡ high) where
  pub extent_again : (extent : Extent) (range : Range) (copy : ℤ → ResolvedTrees) (body : ResolvedTrees) → range ≡ range_of (number_in c low) (number_in c high) → ((z : ℤ) → each_out c q (copy z) ≡ copy z) → each_out c q body ≡ body →
      form_out c q (Form.Quantified word variable (extent_of extent range) low high (copies_of extent range copy body)) ≡ Form.Quantified word variable (extent_of extent range) low high (copies_of extent range copy body)
  extent_again extents.Open (ranges.Right a b) copy body is each whole = λ i. Form.Quantified word variable extents.Right (low_stays i) (high_stays i) (copies_again c q copy each (numbers_between a b) i)
  extent_again extents.Open ranges.Wrong copy body is each whole = λ i. Form.Quantified word variable extents.Wrong (low_stays i) (high_stays i) (whole i)
  extent_again extents.Open ranges.Open copy body is each whole =
      (λ i. Form.Quantified word variable (extent_of extents.Open (now i)) (low_stays i) (high_stays i) (copies_of extents.Open (now i) (λ z. each_out c (q ++ bound_with variable z ∷ []) body) (whole i)))
    where
      now : range_of (number_in c (written c q low)) (number_in c (written c q high)) ≡ ranges.Open
      now = (λ i. range_of (number_in c (low_stays i)) (number_in c (high_stays i))) ∙ sym is
  extent_again extents.Wrong range copy body is each whole = λ i. Form.Quantified word variable extents.Wrong (low_stays i) (high_stays i) (whole i)
  extent_again extents.Right range copy body is each whole = λ i. Form.Quantified word variable extents.Right (low_stays i) (high_stays i) (whole i)

module _ (c : List (Option ℤ)) (q : List Bound) where
  mutual
    pub out_again : (p : List Bound) → HasLess p q → (t : ResolvedTree) → written c q (written c p t) ≡ written c p t
    out_again p less (tree first at form) = ap (tree first at) (form_again p less form)

    form_again : (p : List Bound) → HasLess p q → (form : Form) → form_out c q (form_out c p form) ≡ form_out c p form
    form_again p less (Form.LeafOf l) = ap Form.LeafOf (leaf_again p q less l)
    form_again p less (Form.PredicateOf k ts) = ap (Form.PredicateOf k) (each_again p less ts)
    form_again p less (Form.MisuseOf m ts) = ap (Form.MisuseOf m) (each_again p less ts)
    form_again p less (Form.Next t) = ap Form.Next (out_again p less t)
    form_again p less (Form.Prefix word t) = ap (Form.Prefix word) (out_again p less t)
    form_again p less (Form.Binary word a b) = λ i. Form.Binary word (out_again p less a i) (out_again p less b i)
    form_again p less (Form.Mod t number_at n) = ap (λ u. Form.Mod u number_at n) (out_again p less t)
    form_again p less (Form.And ts operators) = ap (λ us. Form.And us operators) (each_again p less ts)
    form_again p less (Form.Or ts operators) = ap (λ us. Form.Or us operators) (each_again p less ts)
    form_again p less (Form.Index first n t) = ap (Form.Index first n) (out_again p less t)
    form_again p less (Form.Quantified word variable extent low high ts) =
        extent_again c q word variable (written c p low) (written c p high) (out_again p less low) (out_again p less high) extent (range_of (number_in c (written c p low)) (number_in c (written c p high)))
        (λ z. each_out c (p ++ bound_with variable z ∷ []) ts) (each_out c p ts) refl
        (λ z. each_again (p ++ bound_with variable z ∷ []) (less_pushed p q (bound_with variable z) less) ts) (each_again p less ts)

    each_again : (p : List Bound) → HasLess p q → (ts : ResolvedTrees) → each_out c q (each_out c p ts) ≡ each_out c p ts
    each_again p less ResolvedTrees.none = refl
    each_again p less (ResolvedTrees.one_more t ts) = λ i. ResolvedTrees.one_more (out_again p less t i) (each_again p less ts i)

-- an expression that is written out stays as it is
pub written_twice : (c : List (Option ℤ)) (q : List Bound) (t : ResolvedTree) → written c q (written c q t) ≡ written c q t
written_twice c q t = out_again c q q (λ at none. none) t
