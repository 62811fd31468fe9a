-- A name that is misused in an expression is misused in it written out.
use Rattle.std.proofs.Common.{◌≡◌, suc, ℤ, pos, ◌+◌, ◌+ℤ◌, ◌-ℤ◌, Bool, true, false, if◌then◌else◌, List, [], ◌∷◌, ◌++◌, Option, Some, None, refl, sym, ap, ◌∙◌, arith}
use Rattle.std.specs.Prelude.{int_le, nat_abs}
use Rattle.std.proofs.lemmas.Bool.{and_parts, false≢true}
use Rattle.spectra_resolved.specs.declared.tree.Extent.{Extent}
use Rattle.spectra_resolved.specs.declared.tree.Extent.TheVariants as extents
use Rattle.spectra_resolved.specs.declared.spot.Spot.{Spot}
use Rattle.spectra_resolved.specs.Resolved.{ResolvedTree, tree, Form, ResolvedTrees}
use Rattle.spectra_resolved.specs.Resolving.{misuses, form_misuses, misuses_of_each}
use Rattle.spectra_copies.specs.Numbers.{number_in}
use Rattle.spectra_copies.specs.declared.ranges.Bound.{Bound}
use Rattle.spectra_copies.specs.declared.ranges.Range.{Range}
use Rattle.spectra_copies.specs.Ranges.{is_short, range_of, numbers_from, numbers_between}
use Rattle.spectra_copies.specs.declared.ranges.Range.TheVariants as ranges
use Rattle.spectra_copies.specs.Copies.{bound_with, joined_trees, copies_for, copies_of, written, form_out, each_out}
use Rattle.spectra_judge.proofs.Empty.{not_empty, empty_parts}

-- ---- a range has a number

abbrev low_of : Range → ℤ → ℤ
low_of (ranges.Right low high) z = low
low_of range z = z

abbrev high_of : Range → ℤ → ℤ
high_of (ranges.Right low high) z = high
high_of range z = z

abbrev is_right : Range → Bool
is_right (ranges.Right low high) = true
is_right range = false

range_rises : (a b : Option ℤ) (low high : ℤ) → range_of a b ≡ ranges.Right low high → int_le low high ≡ true
range_rises (Some x) (Some y) low high is = by (is_short x y) refl is
  where
    by : (s : Bool) → is_short x y ≡ s → (if s then ranges.Right x y else ranges.Wrong) ≡ ranges.Right low high → int_le low high ≡ true
    by true short is = (λ i. int_le (sym (ap (λ r. low_of r x) is) i) (sym (ap (λ r. high_of r y) is) i)) ∙ (and_parts (int_le x y) _ short).0
    by false short is = absurd (false≢true (ap is_right is))
range_rises (Some x) None low high is = absurd (false≢true (ap is_right is))
range_rises None b low high is = absurd (false≢true (ap is_right is))

first_number : (low high : ℤ) → int_le low high ≡ true → (zs : List ℤ) × (numbers_between low high ≡ low ∷ zs)
first_number low high rises =
    let one : nat_abs (high -ℤ low) + 1 ≡ suc (nat_abs (high -ℤ low)) = omega arith in
    (numbers_from (low +ℤ pos 1) (nat_abs (high -ℤ low)), ap (λ b. if b then numbers_from low (nat_abs (high -ℤ low) + 1) else []) rises ∙ ap (numbers_from low) one)

-- ---- expressions

joined_left : (ts us : ResolvedTrees) → misuses_of_each (joined_trees ts us) ≡ [] → misuses_of_each ts ≡ []
joined_left ResolvedTrees.none us none = refl
joined_left (ResolvedTrees.one_more t ts) us none =
    let parts = empty_parts (misuses t) (misuses_of_each (joined_trees ts us)) none in (λ i. parts.0 i ++ joined_left ts us parts.1 i)

copies_before : (extent : Extent) (range : Range) (copy : ℤ → ResolvedTrees) (body ts : ResolvedTrees) → ((low high : ℤ) → range ≡ ranges.Right low high → int_le low high ≡ true) →
    ((z : ℤ) → misuses_of_each (copy z) ≡ [] → misuses_of_each ts ≡ []) → (misuses_of_each body ≡ [] → misuses_of_each ts ≡ []) → misuses_of_each (copies_of extent range copy body) ≡ [] → misuses_of_each ts ≡ []
copies_before extents.Open (ranges.Right low high) copy body ts rises each whole none =
    let first = first_number low high (rises low high refl) in
    each low (joined_left (copy low) (copies_for copy first.0) (sym (ap (λ zs. misuses_of_each (copies_for copy zs)) first.1) ∙ none))
copies_before extents.Open ranges.Wrong copy body ts rises each whole none = whole none
copies_before extents.Open ranges.Open copy body ts rises each whole none = whole none
copies_before extents.Wrong range copy body ts rises each whole none = whole none
copies_before extents.Right range copy body ts rises each whole none = whole none

module _ (c : List (Option ℤ)) where
  mutual
    pub none_before : (q : List Bound) (t : ResolvedTree) → misuses (written c q t) ≡ [] → misuses t ≡ []
    none_before q (tree first at form) none = form_before q at.spot form none

    form_before : (q : List Bound) (at : Spot) (form : Form) → form_misuses at (form_out c q form) ≡ [] → form_misuses at form ≡ []
    form_before q at (Form.LeafOf l) none = refl
    form_before q at (Form.PredicateOf k ts) none = each_before q ts none
    form_before q at (Form.MisuseOf m ts) none = absurd (not_empty _ _ none)
    form_before q at (Form.Next t) none = none_before q t none
    form_before q at (Form.Prefix word t) none = none_before q t none
    form_before q at (Form.Binary word a b) none =
        let parts = empty_parts (misuses (written c q a)) (misuses (written c q b)) none in (λ i. none_before q a parts.0 i ++ none_before q b parts.1 i)
    form_before q at (Form.Mod t number_at n) none = none_before q t none
    form_before q at (Form.And ts operators) none = each_before q ts none
    form_before q at (Form.Or ts operators) none = each_before q ts none
    form_before q at (Form.Index first n t) none = none_before q t none
    form_before q at (Form.Quantified word variable extent low high ts) none =
        let left = empty_parts (misuses (written c q low)) _ none in
        let right = empty_parts (misuses (written c q high)) _ left.1 in
        let inside =
        copies_before extent (range_of (number_in c (written c q low)) (number_in c (written c q high))) (λ z. each_out c (q ++ bound_with variable z ∷ []) ts) (each_out c q ts) ts
        (λ a b is. range_rises (number_in c (written c q low)) (number_in c (written c q high)) a b is) (λ z none. each_before (q ++ bound_with variable z ∷ []) ts none) (λ none. each_before q ts none) right.1 in
        (λ i. none_before q low left.0 i ++ (none_before q high right.0 i ++ inside i))

    each_before : (q : List Bound) (ts : ResolvedTrees) → misuses_of_each (each_out c q ts) ≡ [] → misuses_of_each ts ≡ []
    each_before q ResolvedTrees.none none = refl
    each_before q (ResolvedTrees.one_more t ts) none =
        let parts = empty_parts (misuses (written c q t)) (misuses_of_each (each_out c q ts)) none in (λ i. none_before q t parts.0 i ++ each_before q ts parts.1 i)
