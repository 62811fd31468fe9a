-- Where everything is put in, it is so too when it is written out.
use Rattle.std.proofs.Common.{◌≡◌, ℕ, ◌==◌, ℤ, Bool, true, false, ◌&&◌, ◌||◌, if◌then◌else◌, List, [], ◌∷◌, ◌++◌, Option, Some, None, refl, sym, ap, ◌∙◌}
use Rattle.std.proofs.lemmas.Bool.{false≢true, and_parts, and_from}
use Rattle.std.proofs.lemmas.Bool.Decides.{Decides-eqb}
use Rattle.spectra_resolved.specs.declared.spot.Spot.{Spot}
use Rattle.spectra_resolved.specs.Spots.{same_place}
use Rattle.spectra_resolved.specs.declared.tree.Leaf.{Leaf}
use Rattle.spectra_resolved.specs.declared.tree.Leaf.TheVariants as leaf
use Rattle.spectra_resolved.specs.declared.tree.Extent.{Extent}
use Rattle.spectra_resolved.specs.declared.tree.Extent.TheVariants as extents
use Rattle.spectra_resolved.specs.Resolved.{ResolvedTree, tree, Form, ResolvedTrees}
use Rattle.spectra_judge.specs.PutIn.{Parts, is_bound_at, seen_inside, is_put_in, form_put_in, each_put_in}
use Rattle.spectra_copies.specs.declared.ranges.Bound.{Bound}
use Rattle.spectra_copies.specs.declared.ranges.Range.{Range}
use Rattle.spectra_copies.specs.Ranges.{numbers_between, number_or, number_at}
use Rattle.spectra_copies.specs.declared.ranges.Range.TheVariants as ranges
use Rattle.spectra_copies.specs.Copies.{bound_with, number_leaf, written_leaf, joined_trees, copies_for, extent_of, copies_of, written, form_out, each_out}
use Rattle.spectra_elaboration.proofs.WrittenOut.{RangeOf, leaf_stays}

-- what passes a test passes another one when it is written out, and so does every number
pub record Covers (q : List Bound) (good more : Parts) : Type 0 where
  pub leaves : (l : Leaf) → good.leaf l ≡ true → more.leaf (written_leaf q l) ≡ true
  pub arrays : (first count : ℕ) → good.array first count ≡ true → more.array first count ≡ true
  pub numbers : (z : ℤ) → more.leaf (leaf.Number z) ≡ true

-- in the body of a quantifier that isn't written out
abbrev pub OpenInside : Spot → Parts → Parts
OpenInside variable good = record good { leaf = λ l. is_bound_at variable l || good.leaf l }

eq-turned : (m n : ℕ) → (m == n) ≡ (n == m)
eq-turned m n = by (m == n) (n == m) refl refl
  where
    by : (p r : Bool) → (m == n) ≡ p → (n == m) ≡ r → p ≡ r
    by true true is are = refl
    by true false is are = absurd (false≢true (sym are ∙ (Decides-eqb n m).1 (sym ((Decides-eqb m n).0 is))))
    by false true is are = absurd (false≢true (sym is ∙ (Decides-eqb m n).1 (sym ((Decides-eqb n m).0 are))))
    by false false is are = refl

same_place-turned : (a b : Spot) → same_place a b ≡ same_place b a
same_place-turned a b = λ i. eq-turned a.file b.file i && (eq-turned a.line b.line i && eq-turned a.column b.column i)

pub number_or-append : (n : Option ℤ) (q : List Bound) (b : Bound) (at : Spot) → number_or n (q ++ b ∷ []) at ≡ (if same_place b.at at then Some b.number else number_or n q at)
number_or-append n [] b at = refl
number_or-append n (x ∷ q) b at = number_or-append (if same_place x.at at then Some x.number else n) q b at

false_or : (p r : Bool) → p ≡ false → (p || r) ≡ true → r ≡ true
false_or true r off is = absurd (false≢true (sym off))
false_or false r off is = is

true_or : (p r : Bool) → p ≡ true → (p || r) ≡ true
true_or true r is = refl
true_or false r is = absurd (false≢true is)

or_true : (p r : Bool) → r ≡ true → (p || r) ≡ true
or_true true r is = refl
or_true false r is = is

module _ (q : List Bound) (good more : Parts) (covers : Covers q good more) (variable : Spot) where
  pub kept_inside : Covers q (OpenInside variable good) (OpenInside variable more)
  kept_inside = record { leaves = kept; arrays = covers.arrays; numbers = covers.numbers }
    where
      bound : (at : Spot) (o : Option ℤ) → number_at q at ≡ o → (is_bound_at variable (leaf.Bound at) || good.leaf (leaf.Bound at)) ≡ true
          → (is_bound_at variable (number_leaf o (leaf.Bound at)) || more.leaf (number_leaf o (leaf.Bound at))) ≡ true
      bound at (Some z) is e = covers.numbers z
      bound at None is e = by (same_place at variable) refl
        where
          by : (p : Bool) → same_place at variable ≡ p → (same_place at variable || more.leaf (leaf.Bound at)) ≡ true
          by true here = true_or (same_place at variable) (more.leaf (leaf.Bound at)) here
          by false here =
              or_true (same_place at variable) (more.leaf (leaf.Bound at))
              (ap (λ o. more.leaf (number_leaf o (leaf.Bound at))) (sym is) ∙ covers.leaves (leaf.Bound at) (false_or (same_place at variable) (good.leaf (leaf.Bound at)) here e))

      kept : (l : Leaf) → (is_bound_at variable l || good.leaf l) ≡ true → (is_bound_at variable (written_leaf q l) || more.leaf (written_leaf q l)) ≡ true
      kept (leaf.Bound at) e = bound at (number_at q at) refl e
      kept (leaf.Define k) e = covers.leaves (leaf.Define k) e
      kept (leaf.Parameter k) e = covers.leaves (leaf.Parameter k) e
      kept (leaf.Truth b) e = covers.leaves (leaf.Truth b) e
      kept (leaf.Number z) e = covers.leaves (leaf.Number z) e
      kept (leaf.EnumName n) e = covers.leaves (leaf.EnumName n) e
      kept (leaf.Variable k) e = covers.leaves (leaf.Variable k) e
      kept (leaf.Own k) e = covers.leaves (leaf.Own k) e
      kept (leaf.Hole h) e = covers.leaves (leaf.Hole h) e

  pub numbered_inside : (z : ℤ) → Covers (q ++ bound_with variable z ∷ []) (OpenInside variable good) more
  numbered_inside z = record { leaves = numbered; arrays = covers.arrays; numbers = covers.numbers }
    where
      bound : (at : Spot) (p : Bool) → same_place variable at ≡ p → (is_bound_at variable (leaf.Bound at) || good.leaf (leaf.Bound at)) ≡ true
          → more.leaf (number_leaf (if p then Some z else number_at q at) (leaf.Bound at)) ≡ true
      bound at true is e = covers.numbers z
      bound at false is e = covers.leaves (leaf.Bound at) (false_or (same_place at variable) (good.leaf (leaf.Bound at)) (same_place-turned at variable ∙ is) e)

      numbered : (l : Leaf) → (is_bound_at variable l || good.leaf l) ≡ true → more.leaf (written_leaf (q ++ bound_with variable z ∷ []) l) ≡ true
      numbered (leaf.Bound at) e = ap (λ o. more.leaf (number_leaf o (leaf.Bound at))) (number_or-append None q (bound_with variable z) at) ∙ bound at (same_place variable at) refl e
      numbered (leaf.Define k) e = covers.leaves (leaf.Define k) e
      numbered (leaf.Parameter k) e = covers.leaves (leaf.Parameter k) e
      numbered (leaf.Truth b) e = covers.leaves (leaf.Truth b) e
      numbered (leaf.Number z') e = covers.leaves (leaf.Number z') e
      numbered (leaf.EnumName n) e = covers.leaves (leaf.EnumName n) e
      numbered (leaf.Variable k) e = covers.leaves (leaf.Variable k) e
      numbered (leaf.Own k) e = covers.leaves (leaf.Own k) e
      numbered (leaf.Hole h) e = covers.leaves (leaf.Hole h) e

joined_whole : (good : Parts) (ts us : ResolvedTrees) → each_put_in good ts ≡ true → each_put_in good us ≡ true → each_put_in good (joined_trees ts us) ≡ true
joined_whole good ResolvedTrees.none us first rest = rest
joined_whole good (ResolvedTrees.one_more t ts) us first rest =
    let parts = and_parts (is_put_in good t) (each_put_in good ts) first in
    and_from (is_put_in good t) (each_put_in good (joined_trees ts us)) parts.0 (joined_whole good ts us parts.1 rest)

copies_whole : (good : Parts) (copy : ℤ → ResolvedTrees) → ((z : ℤ) → each_put_in good (copy z) ≡ true) → (zs : List ℤ) → each_put_in good (copies_for copy zs) ≡ true
copies_whole good copy all [] = refl
copies_whole good copy all (z ∷ zs) = joined_whole good (copy z) (copies_for copy zs) (all z) (copies_whole good copy all zs)

-- the copies of a quantifier, by what its body is with a number and without one
range_whole : (good more : Parts) (variable : Spot) (ts : ResolvedTrees) (copy : ℤ → ResolvedTrees) (without : ResolvedTrees)
    → (each_put_in good ts ≡ true → each_put_in more without ≡ true)
    → (each_put_in (OpenInside variable good) ts ≡ true → each_put_in (OpenInside variable more) without ≡ true)
    → (each_put_in (OpenInside variable good) ts ≡ true → (z : ℤ) → each_put_in more (copy z) ≡ true)
    → (extent : Extent) (range : Range) → each_put_in (seen_inside extent variable good) ts ≡ true → each_put_in (seen_inside (extent_of extent range) variable more) (copies_of extent range copy without) ≡ true
range_whole good more variable ts copy without same kept numbered extents.Right range e = same e
range_whole good more variable ts copy without same kept numbered extents.Wrong range e = kept e
range_whole good more variable ts copy without same kept numbered extents.Open ranges.Open e = kept e
range_whole good more variable ts copy without same kept numbered extents.Open ranges.Wrong e = kept e
range_whole good more variable ts copy without same kept numbered extents.Open (ranges.Right low high) e = copies_whole more copy (numbered e) (numbers_between low high)

module _ (c : List (Option ℤ)) where
  mutual
    pub written_whole : (q : List Bound) (good more : Parts) → Covers q good more → (t : ResolvedTree) → is_put_in good t ≡ true → is_put_in more (written c q t) ≡ true
    written_whole q good more covers (tree first at form) e = form_out_whole q good more covers form e

    form_out_whole : (q : List Bound) (good more : Parts) → Covers q good more → (form : Form) → form_put_in good form ≡ true → form_put_in more (form_out c q form) ≡ true
    form_out_whole q good more covers (Form.LeafOf l) e = covers.leaves l e
    form_out_whole q good more covers (Form.PredicateOf k ts) e = absurd (false≢true e)
    form_out_whole q good more covers (Form.MisuseOf m ts) e = absurd (false≢true e)
    form_out_whole q good more covers (Form.Next t) e = written_whole q good more covers t e
    form_out_whole q good more covers (Form.Prefix word t) e = written_whole q good more covers t e
    form_out_whole q good more covers (Form.Binary word a b) e =
        let parts = and_parts (is_put_in good a) (is_put_in good b) e in
        and_from (is_put_in more (written c q a)) (is_put_in more (written c q b)) (written_whole q good more covers a parts.0) (written_whole q good more covers b parts.1)
    form_out_whole q good more covers (Form.Mod t number_at n) e = written_whole q good more covers t e
    form_out_whole q good more covers (Form.And ts operators) e = each_out_whole q good more covers ts e
    form_out_whole q good more covers (Form.Or ts operators) e = each_out_whole q good more covers ts e
    form_out_whole q good more covers (Form.Index array n t) e =
        let parts = and_parts (good.array array n) (is_put_in good t) e in
        and_from (more.array array n) (is_put_in more (written c q t)) (covers.arrays array n parts.0) (written_whole q good more covers t parts.1)
    form_out_whole q good more covers (Form.Quantified word variable extent low high ts) e =
        let range = RangeOf c q low high in
        let inside = seen_inside (extent_of extent range) variable more in
        let copies = copies_of extent range (λ z. each_out c (q ++ bound_with variable z ∷ []) ts) (each_out c q ts) in
        let parts = and_parts (is_put_in good low) (is_put_in good high && each_put_in (seen_inside extent variable good) ts) e in
        let rest = and_parts (is_put_in good high) (each_put_in (seen_inside extent variable good) ts) parts.1 in
        and_from (is_put_in more (written c q low)) (is_put_in more (written c q high) && each_put_in inside copies) (written_whole q good more covers low parts.0)
        (and_from (is_put_in more (written c q high)) (each_put_in inside copies) (written_whole q good more covers high rest.0)
        (range_whole good more variable ts (λ z. each_out c (q ++ bound_with variable z ∷ []) ts) (each_out c q ts)
        (λ is. each_out_whole q good more covers ts is)
        (λ is. each_out_whole q (OpenInside variable good) (OpenInside variable more) (kept_inside q good more covers variable) ts is)
        (λ is z. each_out_whole (q ++ bound_with variable z ∷ []) (OpenInside variable good) more (numbered_inside q good more covers variable z) ts is)
        extent range rest.1))

    each_out_whole : (q : List Bound) (good more : Parts) → Covers q good more → (ts : ResolvedTrees) → each_put_in good ts ≡ true → each_put_in more (each_out c q ts) ≡ true
    each_out_whole q good more covers ResolvedTrees.none e = refl
    each_out_whole q good more covers (ResolvedTrees.one_more t ts) e =
        let parts = and_parts (is_put_in good t) (each_put_in good ts) e in
        and_from (is_put_in more (written c q t)) (each_put_in more (each_out c q ts)) (written_whole q good more covers t parts.0) (each_out_whole q good more covers ts parts.1)

-- what everything is put in in stays so when it is written out
pub written_out_whole : (good : Parts) → ((z : ℤ) → good.leaf (leaf.Number z) ≡ true) → (t : ResolvedTree) → is_put_in good t ≡ true → is_put_in good (written [] [] t) ≡ true
written_out_whole good numbers t e = written_whole [] [] good good (record { leaves = λ l is. ap good.leaf (leaf_stays l) ∙ is; arrays = λ first count is. is; numbers = numbers }) t e
