-- Lines of patterns, in which no definition stands, with everything put in.
use Rattle.std.proofs.Common.{◌≡◌, ℕ, true, false, List, [], ◌∷◌, All, map, length, Option, None, refl}
use Rattle.std.specs.List.{list_all}
use Rattle.std.proofs.lemmas.Bool.{and_parts, and_from, false≢true}
use Rattle.std.proofs.lemmas.List.Elements.{All-nil, All-cons}
use Rattle.spectra_resolved.specs.declared.spot.Spot.{Spot}
use Rattle.spectra_resolved.specs.declared.spot.Mark.{Mark}
use Rattle.spectra_resolved.specs.declared.tree.Leaf.{Leaf}
use Rattle.spectra_resolved.specs.declared.tree.Leaf.TheVariants as leaf
use Rattle.spectra_resolved.specs.declared.tree.Extent.{Extent}
use Rattle.spectra_resolved.specs.declared.tree.Extent.TheVariants as extents
use Rattle.spectra_resolved.specs.Resolved.{ResolvedTree, tree, Form, ResolvedTrees}
use Rattle.spectra_resolved.specs.Texts.{ResolvedPatternLine, Initial, Safety, Recurring}
use Rattle.spectra_copies.specs.Places.{placed, marked}
use Rattle.spectra_judge.specs.PutIn.{Parts, seen_inside, is_put_in, form_put_in, each_put_in, in_pattern}
use Rattle.spectra_elaboration.specs.Putting.{Bodies, Put, put_deep, leaf_put, filled, form_filled, each_filled, with_bodies, put_in}
use Rattle.spectra_elaboration.proofs.OutWhole.{written_out_whole}
use Rattle.spectra_cases.specs.Laws.{IsWrittenOut}
use Rattle.spectra_patterns.specs.Patterns.{line_tree}
use Rattle.spectra_lines.specs.Contents.{Facts, pattern_line_put}
use Rattle.spectra_sound.proofs.Again.{written_twice}

-- ---- expressions without definitions

abbrev NoDefine : Parts → Type 0
NoDefine good = (k : ℕ) → good.leaf (leaf.Define k) ≡ true → ⊥

none_inside : (extent : Extent) (variable : Spot) (good : Parts) → NoDefine good → NoDefine (seen_inside extent variable good)
none_inside extents.Open variable good none k is = none k is
none_inside extents.Wrong variable good none k is = none k is
none_inside extents.Right variable good none k is = none k is

module _ (put : Put) (brought : Option Spot) where
  leaf_stays : (good : Parts) → NoDefine good → (first : Spot) (at : Mark) (l : Leaf) → good.leaf l ≡ true → is_put_in good (leaf_put put [] first at l) ≡ true
  leaf_stays good none first at (leaf.Truth b) is = is
  leaf_stays good none first at (leaf.Number z) is = is
  leaf_stays good none first at (leaf.EnumName k) is = is
  leaf_stays good none first at (leaf.Variable k) is = is
  leaf_stays good none first at (leaf.Parameter k) is = is
  leaf_stays good none first at (leaf.Own k) is = is
  leaf_stays good none first at (leaf.Bound spot) is = is
  leaf_stays good none first at (leaf.Hole h) is = is
  leaf_stays good none first at (leaf.Define k) is = absurd (none k is)

  mutual
    stays : (good : Parts) → NoDefine good → (t : ResolvedTree) → is_put_in good t ≡ true → is_put_in good (filled put brought [] t) ≡ true
    stays good none (tree first at form) is = form_stays good none (placed brought first) (marked brought at) form is

    form_stays : (good : Parts) → NoDefine good → (first : Spot) (at : Mark) (form : Form) → form_put_in good form ≡ true → is_put_in good (form_filled put brought [] first at form) ≡ true
    form_stays good none first at (Form.LeafOf l) is = leaf_stays good none first at l is
    form_stays good none first at (Form.PredicateOf k ts) is = absurd (false≢true is)
    form_stays good none first at (Form.MisuseOf m ts) is = absurd (false≢true is)
    form_stays good none first at (Form.Next t) is = stays good none t is
    form_stays good none first at (Form.Prefix word t) is = stays good none t is
    form_stays good none first at (Form.Binary word a b) is = let parts = and_parts (is_put_in good a) (is_put_in good b) is in and_from _ _ (stays good none a parts.0) (stays good none b parts.1)
    form_stays good none first at (Form.Mod t number_at n) is = stays good none t is
    form_stays good none first at (Form.And ts operators) is = each_stays good none ts is
    form_stays good none first at (Form.Or ts operators) is = each_stays good none ts is
    form_stays good none first at (Form.Index array n t) is = let parts = and_parts (good.array array n) (is_put_in good t) is in and_from _ _ parts.0 (stays good none t parts.1)
    form_stays good none first at (Form.Quantified word variable extent low high ts) is =
        let parts = and_parts (is_put_in good low) _ is in
        let more = and_parts (is_put_in good high) _ parts.1 in
        and_from _ _ (stays good none low parts.0)
        (and_from _ _ (stays good none high more.0) (each_stays (seen_inside extent variable good) (none_inside extent variable good none) ts more.1))

    each_stays : (good : Parts) → NoDefine good → (ts : ResolvedTrees) → each_put_in good ts ≡ true → each_put_in good (each_filled put brought [] ts) ≡ true
    each_stays good none ResolvedTrees.none is = refl
    each_stays good none (ResolvedTrees.one_more t ts) is = let parts = and_parts (is_put_in good t) (each_put_in good ts) is in and_from _ _ (stays good none t parts.0) (each_stays good none ts parts.1)

-- what is put in and written out is put in
pub tree_stays : (b : Bodies) (names params own : ℕ) (t : ResolvedTree) → is_put_in (in_pattern names params own) t ≡ true → is_put_in (in_pattern names params own) (put_in b t) ≡ true
tree_stays b names params own t is =
    let good = in_pattern names params own in
    written_out_whole good (λ n. refl) (with_bodies b t) (stays (put_deep (length b) b) None good (λ k is. false≢true is) t is)

-- what is put in is written out
pub tree_written : (b : Bodies) (t : ResolvedTree) → IsWrittenOut (put_in b t)
tree_written b t = written_twice [] [] (with_bodies b t)

-- ---- lines

module _ (f : Facts) where
  pub lines_put : (names params own : ℕ) (ls : List ResolvedPatternLine) → list_all (λ l. is_put_in (in_pattern names params own) (line_tree l)) ls ≡ true →
      list_all (λ l. is_put_in (in_pattern names params own) (line_tree l)) (map (pattern_line_put f) ls) ≡ true
  lines_put names params own [] all = refl
  lines_put names params own (Initial at t ∷ ls) all = let parts = and_parts (is_put_in (in_pattern names params own) t) _ all in and_from _ _ (tree_stays f.bodies names params own t parts.0) (lines_put names params own ls parts.1)
  lines_put names params own (Safety at t ∷ ls) all = let parts = and_parts (is_put_in (in_pattern names params own) t) _ all in and_from _ _ (tree_stays f.bodies names params own t parts.0) (lines_put names params own ls parts.1)
  lines_put names params own (Recurring at t ∷ ls) all = let parts = and_parts (is_put_in (in_pattern names params own) t) _ all in and_from _ _ (tree_stays f.bodies names params own t parts.0) (lines_put names params own ls parts.1)

  abbrev IsOut : ResolvedPatternLine → Type 0
  IsOut l = IsWrittenOut (line_tree l)

  pub lines_out : (ls : List ResolvedPatternLine) → All IsOut (map (pattern_line_put f) ls)
  lines_out [] = All-nil IsOut
  lines_out (Initial at t ∷ ls) = All-cons IsOut _ _ (tree_written f.bodies t) (lines_out ls)
  lines_out (Safety at t ∷ ls) = All-cons IsOut _ _ (tree_written f.bodies t) (lines_out ls)
  lines_out (Recurring at t ∷ ls) = All-cons IsOut _ _ (tree_written f.bodies t) (lines_out ls)
