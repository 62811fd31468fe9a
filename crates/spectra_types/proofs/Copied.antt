-- A quantifier that is written out has the value of the one that is written, by what its parts have.
use Rattle.std.proofs.Common.{◌≡◌, ℕ, ℤ, Bool, true, false, ◌||◌, if◌then◌else◌, List, [], ◌∷◌, ◌++◌, map, flat_map, Option, Some, None, drop, get_or, refl, sym, ap, ◌∙◌}
use Rattle.std.specs.List.{list_any}
use Rattle.std.proofs.lemmas.Bool.{false≢true, true≢false, or_parts}
use Rattle.spec_model.specs.declared.value.Value.TheVariants as value
use Rattle.spec_model.specs.Values.{truth_of, number_of}
use Rattle.spectra_resolved.specs.declared.spot.Spot.{Spot}
use Rattle.spectra_resolved.specs.declared.spot.Mark.{Mark}
use Rattle.spectra_resolved.specs.declared.tree.QuantifierWord.{QuantifierWord}
use Rattle.spectra_resolved.specs.declared.tree.Extent.TheVariants as extents
use Rattle.spectra_resolved.specs.Spots.{same_place}
use Rattle.spectra_resolved.specs.declared.tree.Leaf.{Leaf}
use Rattle.spectra_resolved.specs.declared.tree.Leaf.TheVariants as leaf
use Rattle.spectra_resolved.specs.Resolved.{ResolvedTree, Form, ResolvedTrees}
use Rattle.spectra_copies.specs.Numbers.{number_in}
use Rattle.spectra_copies.specs.declared.ranges.Bound.{Bound}
use Rattle.spectra_copies.specs.declared.ranges.Range.{Range}
use Rattle.spectra_copies.specs.Ranges.{is_short, range_of, numbers_between, number_or, number_at}
use Rattle.spectra_copies.specs.declared.ranges.Range.TheVariants as ranges
use Rattle.spectra_copies.specs.Copies.{bound_with, number_leaf, written_leaf, joined_trees, copies_for, extent_of, copies_of, written, form_out, each_out}
use Rattle.spectra_judge.specs.Findings.{fault_if}
use Rattle.spectra_judge.specs.Kinds.{Kind}
use Rattle.spectra_judge.specs.declared.around.Around.{Around}
use Rattle.spectra_judge.specs.Known.{Setting}
use Rattle.spectra_judge.specs.Judged.{is_wrong, faults, form_faults, operand_faults, copy_faults, argument_faults}
use Rattle.spectra_judge.proofs.Empty.{empty_parts, no_fault}
use Rattle.spectra_types.specs.Senses.{Sense, Numbers, numbered, Senses, leaf_sense, truths, quantified, sense, form_sense, senses}
use Rattle.spectra_types.proofs.Places.{place_is}

-- ---- numbers

abbrev pub with_numbers : Senses → Numbers → Senses
with_numbers s n = record s { number = n }

-- with those of the quantifiers around that are written out, the innermost last
abbrev pub over : Numbers → List Bound → Numbers
over n [] = n
over n (b ∷ bs) = over (numbered n b.at b.number) bs

pub over-push : (n : Numbers) (q : List Bound) (b : Bound) → over n (q ++ b ∷ []) ≡ numbered (over n q) b.at b.number
over-push n [] b = refl
over-push n (c ∷ q) b = over-push (numbered n c.at c.number) q b

-- one variable's number beside another's
beside : (n : Numbers) (a b : Spot) (x y : ℤ) → same_place a b ≡ false → numbered (numbered n b y) a x ≡ numbered (numbered n a x) b y
beside n a b x y apart = λ i at. one at i
  where
    by : (at : Spot) (c d : Bool) → same_place a at ≡ c → same_place b at ≡ d → (if c then x else (if d then y else n at)) ≡ (if d then y else (if c then x else n at))
    by at true true first second = absurd (false≢true (sym apart ∙ ap (same_place a) (place_is b at second) ∙ first))
    by at true false first second = refl
    by at false true first second = refl
    by at false false first second = refl

    one : (at : Spot) → numbered (numbered n b y) a x at ≡ numbered (numbered n a x) b y at
    one at = by at (same_place a at) (same_place b at) refl refl

pub over-beside : (n : Numbers) (q : List Bound) (variable : Spot) (z : ℤ) → list_any (λ (b : Bound). same_place b.at variable) q ≡ false → over (numbered n variable z) q ≡ numbered (over n q) variable z
over-beside n [] variable z apart = refl
over-beside n (b ∷ q) variable z apart =
    let parts = or_parts (same_place b.at variable) _ apart in
    ap (λ n. over n q) (beside n b.at variable b.number z parts.0) ∙ over-beside (numbered n b.at b.number) q variable z parts.1

-- ---- parts without parts

abbrev picked : Option ℤ → ℤ → ℤ
picked (Some z) d = z
picked None d = d

picked-over : (o : Option ℤ) (m n : Numbers) (q : List Bound) (at : Spot) → picked o (n at) ≡ m at → picked (number_or o q at) (n at) ≡ over m q at
picked-over o m n [] at is = is
picked-over o m n (b ∷ q) at is = picked-over (if same_place b.at at then Some b.number else o) (numbered m b.at b.number) n q at (by (same_place b.at at))
  where
    by : (c : Bool) → picked (if c then Some b.number else o) (n at) ≡ (if c then b.number else m at)
    by true = refl
    by false = is

pub leaf_out : (s : Senses) (n : Numbers) (q : List Bound) (l : Leaf) (p : ℕ) → leaf_sense (with_numbers s n) (written_leaf q l) p ≡ leaf_sense (with_numbers s (over n q)) l p
leaf_out s n q (leaf.Bound at) p = by (number_at q at) ∙ ap (λ z. value.Int z) (picked-over None n n q at refl)
  where
    by : (o : Option ℤ) → leaf_sense (with_numbers s n) (number_leaf o (leaf.Bound at)) p ≡ value.Int (picked o (n at))
    by (Some z) = refl
    by None = refl
leaf_out s n q (leaf.Truth b) p = refl
leaf_out s n q (leaf.Number z) p = refl
leaf_out s n q (leaf.EnumName k) p = refl
leaf_out s n q (leaf.Variable k) p = refl
leaf_out s n q (leaf.Parameter k) p = refl
leaf_out s n q (leaf.Own k) p = refl
leaf_out s n q (leaf.Define k) p = refl
leaf_out s n q (leaf.Hole h) p = refl

-- ---- ranges

pub range_right : (a b : Option ℤ) (low high : ℤ) → range_of a b ≡ ranges.Right low high → (a ≡ Some low) × (b ≡ Some high)
range_right (Some x) (Some y) low high is = by (is_short x y) is
  where
    by : (c : Bool) → (if c then ranges.Right x y else ranges.Wrong) ≡ ranges.Right low high → (Some x ≡ Some low) × (Some y ≡ Some high)
    by true is = (cc, cc)
    by false is = absurd (cc)
range_right (Some x) None low high is = absurd (cc)
range_right None b low high is = absurd (cc)

-- ---- copies

-- what holds for each of several numbers
abbrev pub ForEach : (ℤ → Type 0) → List ℤ → Type 0
ForEach P [] = Unit {0}
ForEach P (z ∷ zs) = P z × ForEach P zs

pub for_each : (P R : ℤ → Type 0) → ((z : ℤ) → P z → R z) → (zs : List ℤ) → ForEach P zs → ForEach R zs
for_each P R to [] all = tt
for_each P R to (z ∷ zs) all = (to z all.0, for_each P R to zs all.1)

joined_truths : (s : Senses) (ts us : ResolvedTrees) (p : ℕ) → truths (senses s (joined_trees ts us)) p ≡ truths (senses s ts) p ++ truths (senses s us) p
joined_truths s ResolvedTrees.none us p = refl
joined_truths s (ResolvedTrees.one_more t ts) us p = ap (λ bs. truth_of (sense s t p) ∷ bs) (joined_truths s ts us p)

pub copies_truths : (s : Senses) (copy : ℤ → ResolvedTrees) (f : ℤ → List Bool) (p : ℕ) (zs : List ℤ) → ForEach (λ z. truths (senses s (copy z)) p ≡ f z) zs → truths (senses s (copies_for copy zs)) p ≡ flat_map f zs
copies_truths s copy f p [] all = refl
copies_truths s copy f p (z ∷ zs) all =
    let here = all.0 in
    let rest = copies_truths s copy f p zs all.1 in joined_truths s (copy z) (copies_for copy zs) p ∙ (λ i. here i ++ rest i)

-- ---- several expressions without a fault

module _ (set : Setting) where
  abbrev pub AreRight : Around → ResolvedTrees → Type 0
  AreRight o ResolvedTrees.none = Unit {0}
  AreRight o (ResolvedTrees.one_more t ts) = (faults set o t ≡ []) × AreRight o ts

  pub operands_right : (o : Around) (at : Spot) (operators : List Spot) (ts : ResolvedTrees) → operand_faults set o at operators ts ≡ [] → AreRight o ts
  operands_right o at operators ResolvedTrees.none none = tt
  operands_right o at operators (ResolvedTrees.one_more t ts) none =
      let left = empty_parts (faults set o t) _ none in
      let more = empty_parts _ (operand_faults set o at (drop 1 operators) ts) left.1 in (left.0, operands_right o at (drop 1 operators) ts more.1)

  pub arguments_right : (o : Around) (kinds : List Kind) (ts : ResolvedTrees) → argument_faults set o kinds ts ≡ [] → AreRight o ts
  arguments_right o kinds ResolvedTrees.none none = tt
  arguments_right o kinds (ResolvedTrees.one_more t ts) none =
      let left = empty_parts (faults set o t) _ none in
      let more = empty_parts _ (argument_faults set o (drop 1 kinds) ts) left.1 in (left.0, arguments_right o (drop 1 kinds) ts more.1)

  pub copies_right : (o : Around) (ts : ResolvedTrees) → copy_faults set o ts ≡ [] → AreRight o ts
  copies_right o ResolvedTrees.none none = tt
  copies_right o (ResolvedTrees.one_more t ts) none =
      let left = empty_parts (faults set o t) _ none in
      let more = empty_parts _ (copy_faults set o ts) left.1 in (left.0, copies_right o ts more.1)

  joined_right : (o : Around) (ts us : ResolvedTrees) → AreRight o (joined_trees ts us) → AreRight o ts × AreRight o us
  joined_right o ResolvedTrees.none us all = (tt, all)
  joined_right o (ResolvedTrees.one_more t ts) us all = let rest = joined_right o ts us all.1 in ((all.0, rest.0), rest.1)

  pub each_copy_right : (o : Around) (copy : ℤ → ResolvedTrees) (zs : List ℤ) → AreRight o (copies_for copy zs) → ForEach (λ z. AreRight o (copy z)) zs
  each_copy_right o copy [] all = tt
  each_copy_right o copy (z ∷ zs) all = let parts = joined_right o (copy z) (copies_for copy zs) all in (parts.0, each_copy_right o copy zs parts.1)

-- ---- a quantifier written out

-- by what its bounds and its body are, written out
module _ (c : List (Option ℤ)) (set : Setting) (s : Senses) (n : Numbers) (q : List Bound) (o : Around) (at : Mark) (word : QuantifierWord) (variable : Spot) (low high : ResolvedTree) (ts : ResolvedTrees) (p : ℕ)
    (least : sense (with_numbers s n) (written c q low) p ≡ sense (with_numbers s (over n q)) low p)
    (most : sense (with_numbers s n) (written c q high) p ≡ sense (with_numbers s (over n q)) high p)
    (low_told : (z : ℤ) → number_in c (written c q low) ≡ Some z → sense (with_numbers s n) (written c q low) p ≡ value.Int z)
    (high_told : (z : ℤ) → number_in c (written c q high) ≡ Some z → sense (with_numbers s n) (written c q high) p ≡ value.Int z) where
  abbrev copied : ℤ → ResolvedTrees
  copied z = each_out c (q ++ bound_with variable z ∷ []) ts

  abbrev range : Range
  range = range_of (number_in c (written c q low)) (number_in c (written c q high))

  -- the body with a number
  abbrev spoken : ℤ → List Bool
  spoken z = truths (senses (with_numbers s (numbered (over n q) variable z)) ts) p

  -- a copy has the values of the body with its number
  abbrev SameCopy : ℤ → Type 0
  SameCopy z = senses (with_numbers s n) (copied z) ≡ senses (with_numbers s (over n (q ++ bound_with variable z ∷ []))) ts

  abbrev SameBody : Numbers → Type 0
  SameBody m = senses (with_numbers s m) (each_out c q ts) ≡ senses (with_numbers s (over m q)) ts

  right_is : (x y : ℤ) → range ≡ ranges.Right x y → ForEach SameCopy (numbers_between x y) →
      truths (senses (with_numbers s n) (copies_for copied (numbers_between x y))) p
      ≡ flat_map spoken (numbers_between (number_of (sense (with_numbers s (over n q)) low p)) (number_of (sense (with_numbers s (over n q)) high p)))
  right_is x y is copies =
      let bounds = range_right (number_in c (written c q low)) (number_in c (written c q high)) x y is in
      let from : x ≡ number_of (sense (with_numbers s (over n q)) low p) = sym (ap number_of (sym least ∙ low_told x bounds.0)) in
      let to : y ≡ number_of (sense (with_numbers s (over n q)) high p) = sym (ap number_of (sym most ∙ high_told y bounds.1)) in
      let all =
      for_each SameCopy (λ z. truths (senses (with_numbers s n) (copied z)) p ≡ spoken z)
      (λ z same. ap (λ (as' : List Sense). truths as' p) same ∙ ap (λ (m : Numbers). truths (senses (with_numbers s m) ts) p) (over-push n q (bound_with variable z)))
      (numbers_between x y) copies in
      copies_truths (with_numbers s n) copied spoken p (numbers_between x y) all ∙ (λ i. flat_map spoken (numbers_between (from i) (to i)))

  pub quantified_out : ((x y : ℤ) → range ≡ ranges.Right x y → AreRight set o (copies_for copied (numbers_between x y)) → ForEach SameCopy (numbers_between x y)) →
      (range ≡ ranges.Open → AreRight set o (each_out c q ts) → (list_any (λ (b : Bound). same_place b.at variable) q ≡ false) × ((m : Numbers) → SameBody m)) →
      form_faults set o at (form_out c q (Form.Quantified word variable extents.Open low high ts)) ≡ [] →
      form_sense (with_numbers s n) (form_out c q (Form.Quantified word variable extents.Open low high ts)) p ≡ form_sense (with_numbers s (over n q)) (Form.Quantified word variable extents.Open low high ts) p
  quantified_out copies body none = by range refl (empty_parts _ _ none).1
    where
      by : (r : Range) → range ≡ r → (fault_if (is_wrong (extent_of extents.Open r)) 14 at.spot ++ copy_faults set o (copies_of extents.Open r copied (each_out c q ts))) ≡ [] →
          form_sense (with_numbers s n) (Form.Quantified word variable (extent_of extents.Open r) (written c q low) (written c q high) (copies_of extents.Open r copied (each_out c q ts))) p
          ≡ form_sense (with_numbers s (over n q)) (Form.Quantified word variable extents.Open low high ts) p
      by ranges.Wrong is none' = absurd (true≢false (no_fault true 14 at.spot (empty_parts (fault_if true 14 at.spot) _ none').0))
      by (ranges.Right x y) is none' =
          let right = copies_right set o (copies_for copied (numbers_between x y)) (empty_parts (fault_if false 14 at.spot) _ none').1 in
          ap (λ bs. value.Bool (quantified word bs)) (right_is x y is (copies x y is right))
      by ranges.Open is none' =
          let right = copies_right set o (each_out c q ts) (empty_parts (fault_if false 14 at.spot) _ none').1 in
          let kept = body is right in
          let each = λ (z : ℤ). kept.1 (numbered n variable z) ∙ ap (λ (m : Numbers). senses (with_numbers s m) ts) (over-beside n q variable z kept.0) in
          λ i. value.Bool (quantified word (flat_map (λ z. truths (each z i) p) (numbers_between (number_of (least i)) (number_of (most i)))))
