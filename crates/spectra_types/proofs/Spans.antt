-- That ends of spans are capped makes no difference to which expressions have a span that is too wide.
use Rattle.std.proofs.Common.{◌≡◌, ℤ, pos, negsuc, ◌+ℤ◌, ◌-ℤ◌, ◌*ℤ◌, Bool, true, false, ◌||◌, List, [], ◌∷◌, ◌++◌, Some, drop, refl, sym, ap, ◌∙◌, arith}
use Rattle.std.specs.Prelude.{int_le}
use Rattle.std.proofs.lemmas.Int.{ints, clamps}
use Rattle.std.proofs.lemmas.Bool.{or_parts}
use Rattle.spectra_trees.specs.declared.tree.BinaryWord.{BinaryWord}
use Rattle.spectra_trees.specs.declared.tree.BinaryWord.TheVariants as binary
use Rattle.spectra_resolved.specs.declared.spot.Spot.{Spot}
use Rattle.spectra_resolved.specs.declared.spot.Mark.{Mark}
use Rattle.spectra_resolved.specs.declared.tree.Leaf.{Leaf}
use Rattle.spectra_resolved.specs.declared.tree.Leaf.TheVariants as leaf
use Rattle.spectra_resolved.specs.Resolved.{ResolvedTree, tree, Form, ResolvedTrees}
use Rattle.spectra_judge.specs.Findings.{fault_if}
use Rattle.spectra_judge.specs.Kinds.{Kind, Whole, capped, is_whole, is_wide, added, subtracted, multiplied, least_of, greatest_of, reduced}
use Rattle.spectra_judge.specs.Operators.{is_past, is_past_prefix, takes, gives}
use Rattle.spectra_judge.specs.Standings.{bans_of}
use Rattle.spectra_judge.specs.declared.around.Around.{Around}
use Rattle.spectra_judge.specs.Around.{nothing_open, under_next, in_bound, within, next_faults}
use Rattle.spectra_judge.specs.Known.{Known, Setting, wanted}
use Rattle.spectra_judge.specs.Judged.{kind_of, leaf_kind, wrong, wide, binary_faults, operator_faults, leaf_faults, first_of, is_wrong, faults, operand_faults, copy_faults, argument_faults}
use Rattle.spectra_judge.proofs.Empty.{not_empty, empty_parts, no_fault}
use Rattle.spectra_judge.proofs.Spans.{IsNear, narrow, sum_ends, difference_ends, product_ends}
use Rattle.spectra_types.specs.Spans.{sum_of, difference_of, product_of, given_by, span_of, is_wide_leaf, has_wide, have_wide}
use Rattle.spectra_types.specs.Laws.{SpansAreExact}

-- ---- one operator

-- a near number isn't capped
kept : (z : ℤ) → IsNear z → capped z ≡ z
kept (pos n) is = let high = is.1 in omega (arith, ints)
kept (negsuc n) is = let low = is.0 in omega (arith, ints)

-- what is between near ends is near
four_near : (p q r s : ℤ) → IsNear (least_of p q r s) → IsNear (greatest_of p q r s) → IsNear p × IsNear q × IsNear r × IsNear s
four_near p q r s least greatest =
    let l = least.0 in
    let h = greatest.1 in
    ((omega (arith, ints, clamps), omega (arith, ints, clamps)), (omega (arith, ints, clamps), omega (arith, ints, clamps)), (omega (arith, ints, clamps), omega (arith, ints, clamps)), (omega (arith, ints, clamps), omega (arith, ints, clamps)))

sum_same : (j k : Kind) → is_wide (added j k) ≡ false → added j k ≡ sum_of j k
sum_same (Whole a b) (Whole c d) e = let ends = sum_ends a b c d e in λ i. Whole (ends.0 i) (ends.1 i)
sum_same _ _ e = refl

difference_same : (j k : Kind) → is_wide (subtracted j k) ≡ false → subtracted j k ≡ difference_of j k
difference_same (Whole a b) (Whole c d) e = let ends = difference_ends a b c d e in λ i. Whole (ends.0 i) (ends.1 i)
difference_same _ _ e = refl

product_same : (j k : Kind) → is_wide (multiplied j k) ≡ false → multiplied j k ≡ product_of j k
product_same (Whole a b) (Whole c d) e = let ends = product_ends a b c d e in λ i. Whole (ends.0 i) (ends.1 i)
product_same _ _ e = refl

same_sum : (j k : Kind) → is_wide (sum_of j k) ≡ false → added j k ≡ sum_of j k
same_sum (Whole a b) (Whole c d) e = let is = narrow (a +ℤ c) (b +ℤ d) e in let l = kept (a +ℤ c) is.low_near in let h = kept (b +ℤ d) is.high_near in λ i. Whole (l i) (h i)
same_sum _ _ e = refl

same_difference : (j k : Kind) → is_wide (difference_of j k) ≡ false → subtracted j k ≡ difference_of j k
same_difference (Whole a b) (Whole c d) e = let is = narrow (a -ℤ d) (b -ℤ c) e in let l = kept (a -ℤ d) is.low_near in let h = kept (b -ℤ c) is.high_near in λ i. Whole (l i) (h i)
same_difference _ _ e = refl

same_product : (j k : Kind) → is_wide (product_of j k) ≡ false → multiplied j k ≡ product_of j k
same_product (Whole a b) (Whole c d) e =
    let is = narrow (least_of (a *ℤ c) (a *ℤ d) (b *ℤ c) (b *ℤ d)) (greatest_of (a *ℤ c) (a *ℤ d) (b *ℤ c) (b *ℤ d)) e in
    let each = four_near (a *ℤ c) (a *ℤ d) (b *ℤ c) (b *ℤ d) is.low_near is.high_near in
    let p = kept (a *ℤ c) each.0 in
    let q = kept (a *ℤ d) each.1 in
    let r = kept (b *ℤ c) each.2 in
    let s = kept (b *ℤ d) each.3 in λ i. Whole (least_of (p i) (q i) (r i) (s i)) (greatest_of (p i) (q i) (r i) (s i))
same_product _ _ e = refl

given_same : (word : BinaryWord) (j k : Kind) → is_wide (gives word j k) ≡ false → gives word j k ≡ given_by word j k
given_same binary.Add j k e = sum_same j k e
given_same binary.Sub j k e = difference_same j k e
given_same binary.Mul j k e = product_same j k e
given_same _ j k e = refl

same_given : (word : BinaryWord) (j k : Kind) → is_wide (given_by word j k) ≡ false → gives word j k ≡ given_by word j k
same_given binary.Add j k e = same_sum j k e
same_given binary.Sub j k e = same_difference j k e
same_given binary.Mul j k e = same_product j k e
same_given _ j k e = refl

-- ---- expressions

-- none is too wide by the one, and so none by the other, and they give the same
record Stays (one other : ResolvedTree → Kind) (t : ResolvedTree) : Type 0 where
  pub same : one t ≡ other t
  pub none : has_wide other t ≡ false

-- by two kinds of whole that are the same where an operator isn't too wide by the first of them
module _ (known : Known) where
  abbrev capped_kind : ResolvedTree → Kind
  capped_kind t = kind_of known t

  abbrev exact_kind : ResolvedTree → Kind
  exact_kind t = span_of known t

  mutual
    to_exact : (t : ResolvedTree) → has_wide capped_kind t ≡ false → Stays capped_kind exact_kind t
    to_exact (tree first at (Form.LeafOf l)) e = record { same = refl; none = e }
    to_exact (tree first at (Form.PredicateOf k ts)) e = record { same = refl; none = each_to_exact ts e }
    to_exact (tree first at (Form.MisuseOf m ts)) e = record { same = refl; none = each_to_exact ts e }
    to_exact (tree first at (Form.Next t)) e = let is = to_exact t e in record { same = is.same; none = is.none }
    to_exact (tree first at (Form.Prefix word t)) e = record { same = refl; none = (to_exact t e).none }
    to_exact (tree first at (Form.Binary word a b)) e =
        let parts = or_parts (is_wide (gives word (kind_of known a) (kind_of known b))) _ e in
        let more = or_parts (has_wide capped_kind a) (has_wide capped_kind b) parts.1 in
        let left = to_exact a more.0 in
        let right = to_exact b more.1 in
        let here : gives word (kind_of known a) (kind_of known b) ≡ given_by word (span_of known a) (span_of known b) =
        given_same word (kind_of known a) (kind_of known b) parts.0 ∙ (λ i. given_by word (left.same i) (right.same i)) in
        let narrow_here = sym (ap is_wide here) ∙ parts.0 in record { same = here; none = λ i. narrow_here i || (left.none i || right.none i) }
    to_exact (tree first at (Form.Mod t number_at n)) e =
        let parts = or_parts (is_wide (reduced n)) (has_wide capped_kind t) e in
        let is = to_exact t parts.1 in
        let narrow_here = parts.0 in record { same = refl; none = λ i. narrow_here i || is.none i }
    to_exact (tree first at (Form.And ts operators)) e = record { same = refl; none = each_to_exact ts e }
    to_exact (tree first at (Form.Or ts operators)) e = record { same = refl; none = each_to_exact ts e }
    to_exact (tree first at (Form.Index array n t)) e = record { same = refl; none = (to_exact t e).none }
    to_exact (tree first at (Form.Quantified word variable extent low high ts)) e =
        let parts = or_parts (has_wide capped_kind low) _ e in
        let more = or_parts (has_wide capped_kind high) (have_wide capped_kind ts) parts.1 in
        let here = (to_exact low parts.0).none in
        let next = (to_exact high more.0).none in
        let rest = each_to_exact ts more.1 in record { same = refl; none = λ i. here i || (next i || rest i) }

    each_to_exact : (ts : ResolvedTrees) → have_wide capped_kind ts ≡ false → have_wide exact_kind ts ≡ false
    each_to_exact ResolvedTrees.none e = refl
    each_to_exact (ResolvedTrees.one_more t ts) e =
        let parts = or_parts (has_wide capped_kind t) (have_wide capped_kind ts) e in
        let here = (to_exact t parts.0).none in
        let rest = each_to_exact ts parts.1 in λ i. here i || rest i

  mutual
    from_exact : (t : ResolvedTree) → has_wide exact_kind t ≡ false → Stays exact_kind capped_kind t
    from_exact (tree first at (Form.LeafOf l)) e = record { same = refl; none = e }
    from_exact (tree first at (Form.PredicateOf k ts)) e = record { same = refl; none = each_from_exact ts e }
    from_exact (tree first at (Form.MisuseOf m ts)) e = record { same = refl; none = each_from_exact ts e }
    from_exact (tree first at (Form.Next t)) e = let is = from_exact t e in record { same = is.same; none = is.none }
    from_exact (tree first at (Form.Prefix word t)) e = record { same = refl; none = (from_exact t e).none }
    from_exact (tree first at (Form.Binary word a b)) e =
        let parts = or_parts (is_wide (given_by word (span_of known a) (span_of known b))) _ e in
        let more = or_parts (has_wide exact_kind a) (has_wide exact_kind b) parts.1 in
        let left = from_exact a more.0 in
        let right = from_exact b more.1 in
        let here : given_by word (span_of known a) (span_of known b) ≡ gives word (kind_of known a) (kind_of known b) =
        sym (same_given word (span_of known a) (span_of known b) parts.0) ∙ (λ i. gives word (left.same i) (right.same i)) in
        let narrow_here = sym (ap is_wide here) ∙ parts.0 in record { same = here; none = λ i. narrow_here i || (left.none i || right.none i) }
    from_exact (tree first at (Form.Mod t number_at n)) e =
        let parts = or_parts (is_wide (reduced n)) (has_wide exact_kind t) e in
        let is = from_exact t parts.1 in
        let narrow_here = parts.0 in record { same = refl; none = λ i. narrow_here i || is.none i }
    from_exact (tree first at (Form.And ts operators)) e = record { same = refl; none = each_from_exact ts e }
    from_exact (tree first at (Form.Or ts operators)) e = record { same = refl; none = each_from_exact ts e }
    from_exact (tree first at (Form.Index array n t)) e = record { same = refl; none = (from_exact t e).none }
    from_exact (tree first at (Form.Quantified word variable extent low high ts)) e =
        let parts = or_parts (has_wide exact_kind low) _ e in
        let more = or_parts (has_wide exact_kind high) (have_wide exact_kind ts) parts.1 in
        let here = (from_exact low parts.0).none in
        let next = (from_exact high more.0).none in
        let rest = each_from_exact ts more.1 in record { same = refl; none = λ i. here i || (next i || rest i) }

    each_from_exact : (ts : ResolvedTrees) → have_wide exact_kind ts ≡ false → have_wide capped_kind ts ≡ false
    each_from_exact ResolvedTrees.none e = refl
    each_from_exact (ResolvedTrees.one_more t ts) e =
        let parts = or_parts (has_wide exact_kind t) (have_wide exact_kind ts) e in
        let here = (from_exact t parts.0).none in
        let rest = each_from_exact ts parts.1 in λ i. here i || rest i

-- ---- faults

module _ (s : Setting) where
  abbrev judged : ResolvedTree → Kind
  judged t = kind_of s.known t

  leaf_narrow : (o : Around) (at : Mark) (l : Leaf) → leaf_faults s o at l ≡ [] → is_wide_leaf (leaf_kind s.known l) l ≡ false
  leaf_narrow o at (leaf.Number z) none = no_fault (is_wide (Whole z z)) 14 at.spot none
  leaf_narrow o at _ none = refl

  mutual
    none_wide : (o : Around) (t : ResolvedTree) → faults s o t ≡ [] → has_wide judged t ≡ false
    none_wide o (tree first at (Form.LeafOf l)) none = leaf_narrow o at l none
    none_wide o (tree first at (Form.PredicateOf k ts)) none = arguments_narrow o (wanted s.known (Some k)) ts none
    none_wide o (tree first at (Form.MisuseOf m ts)) none = absurd (not_empty _ _ none)
    none_wide o (tree first at (Form.Next t)) none = none_wide (under_next at o) t (empty_parts (next_faults s.bans o at) _ none).1
    none_wide o (tree first at (Form.Prefix word t)) none =
        let inner = within (is_past_prefix word) at o in
        let behind = empty_parts (operator_faults s (is_past_prefix word) o.next at) _ none in none_wide inner t (empty_parts (faults s inner t) _ behind.1).0
    none_wide o (tree first at (Form.Binary word a b)) none =
        let inner = within (is_past word) at o in
        let left = empty_parts (faults s inner a) _ none in
        let behind = empty_parts (operator_faults s (is_past word) o.next at) _ left.1 in
        let right = empty_parts (faults s inner b) (binary_faults word (kind_of s.known a) (kind_of s.known b) at.spot) behind.1 in
        let last = empty_parts (wrong (takes word (kind_of s.known a) (kind_of s.known b)) at.spot) _ right.1 in
        let here = no_fault (is_wide (gives word (kind_of s.known a) (kind_of s.known b))) 14 at.spot last.1 in
        let first_none = none_wide inner a left.0 in
        let second_none = none_wide inner b right.0 in λ i. here i || (first_none i || second_none i)
    none_wide o (tree first at (Form.Mod t number_at n)) none =
        let left = empty_parts (faults s o t) _ none in
        let more = empty_parts (wrong (is_whole (kind_of s.known t)) at.spot) _ left.1 in
        let last = empty_parts (fault_if (int_le n (pos 0)) 14 number_at) (wide (reduced n) at.spot) more.1 in
        let here = no_fault (is_wide (reduced n)) 14 at.spot last.1 in
        let inner_none = none_wide o t left.0 in λ i. here i || inner_none i
    none_wide o (tree first at (Form.And ts operators)) none = operands_narrow o at.spot (at.spot ∷ operators) ts none
    none_wide o (tree first at (Form.Or ts operators)) none = operands_narrow o at.spot (at.spot ∷ operators) ts none
    none_wide o (tree first at (Form.Index array n t)) none = none_wide o t (empty_parts (faults s o t) _ none).0
    none_wide o (tree first at (Form.Quantified word variable extent low high ts)) none =
        let parts = empty_parts _ _ none in
        let bounds = empty_parts (faults s (in_bound at o) low ++ wrong (is_whole (kind_of s.known low)) (first_of low)) _ parts.0 in
        let here = none_wide (in_bound at o) low (empty_parts (faults s (in_bound at o) low) _ bounds.0).0 in
        let next = none_wide (in_bound at o) high (empty_parts (faults s (in_bound at o) high) _ bounds.1).0 in
        let rest = copies_narrow o ts (empty_parts (fault_if (is_wrong extent) 14 at.spot) _ parts.1).1 in λ i. here i || (next i || rest i)

    operands_narrow : (o : Around) (at : Spot) (operators : List Spot) (ts : ResolvedTrees) → operand_faults s o at operators ts ≡ [] → have_wide judged ts ≡ false
    operands_narrow o at operators ResolvedTrees.none none = refl
    operands_narrow o at operators (ResolvedTrees.one_more t ts) none =
        let left = empty_parts (faults s o t) _ none in
        let more = empty_parts _ (operand_faults s o at (drop 1 operators) ts) left.1 in
        let here = none_wide o t left.0 in
        let rest = operands_narrow o at (drop 1 operators) ts more.1 in λ i. here i || rest i

    copies_narrow : (o : Around) (ts : ResolvedTrees) → copy_faults s o ts ≡ [] → have_wide judged ts ≡ false
    copies_narrow o ResolvedTrees.none none = refl
    copies_narrow o (ResolvedTrees.one_more t ts) none =
        let left = empty_parts (faults s o t) _ none in
        let more = empty_parts _ (copy_faults s o ts) left.1 in
        let here = none_wide o t left.0 in
        let rest = copies_narrow o ts more.1 in λ i. here i || rest i

    arguments_narrow : (o : Around) (kinds : List Kind) (ts : ResolvedTrees) → argument_faults s o kinds ts ≡ [] → have_wide judged ts ≡ false
    arguments_narrow o kinds ResolvedTrees.none none = refl
    arguments_narrow o kinds (ResolvedTrees.one_more t ts) none =
        let left = empty_parts (faults s o t) _ none in
        let more = empty_parts _ (argument_faults s o (drop 1 kinds) ts) left.1 in
        let here = none_wide o t left.0 in
        let rest = arguments_narrow o (drop 1 kinds) ts more.1 in λ i. here i || rest i

-- ---- the law

same_test : (a b : Bool) → (a ≡ false → b ≡ false) → (b ≡ false → a ≡ false) → a ≡ b
same_test true true p q = refl
same_test false false p q = refl
same_test false true p q = sym (p refl)
same_test true false p q = q refl

pub spans_are_exact : SpansAreExact
spans_are_exact known t =
    record {
      wide = same_test _ _ (λ e. (to_exact known t e).none) (λ e. (from_exact known t e).none);
      kind = λ e. sym (from_exact known t e).same;
      right = λ st none.
          let s : Setting = record { known = known; bans = bans_of st } in (to_exact known t (none_wide s nothing_open t (empty_parts (faults s nothing_open t) _ none).0)).none;
    }
