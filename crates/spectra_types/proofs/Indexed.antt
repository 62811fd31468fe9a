-- An expression in which no element is read stays one where no array may stand.
use Rattle.std.proofs.Common.{◌≡◌, ℕ, Bool, true, false, ◌&&◌, List, length, refl}
use Rattle.std.proofs.lemmas.Bool.{false≢true, true≢false, and_parts, and_from, or_parts}
use Rattle.spectra_resolved.specs.declared.spot.Spot.{Spot}
use Rattle.spectra_resolved.specs.declared.tree.Leaf.{Leaf}
use Rattle.spectra_resolved.specs.declared.tree.Leaf.TheVariants as leaf
use Rattle.spectra_resolved.specs.declared.tree.Extent.{Extent}
use Rattle.spectra_resolved.specs.declared.tree.Extent.TheVariants as extents
use Rattle.spectra_resolved.specs.Resolved.{ResolvedTree, tree, Form, ResolvedTrees, listed}
use Rattle.spectra_judge.specs.PutIn.{Parts, seen_inside}
use Rattle.spectra_elaboration.specs.Written.{is_use, is_written_leaf, is_written, form_written, each_written}
use Rattle.spectra_types.specs.Conditions.{has_index, form_indexed, some_indexed}

-- arrays may stand there or not
abbrev pub with_arrays : Bool → Parts → Parts
with_arrays some good = record { leaf = good.leaf; array = λ first n. some && good.array first n }

module _ (arities : List ℕ) (params : ℕ) where
  leaf_stays : (good : Parts) (l : Leaf) → is_written_leaf arities good params l ≡ true → is_written_leaf arities (with_arrays false good) params l ≡ true
  leaf_stays good (leaf.Truth b) is = is
  leaf_stays good (leaf.Number z) is = is
  leaf_stays good (leaf.EnumName n) is = is
  leaf_stays good (leaf.Variable k) is = is
  leaf_stays good (leaf.Parameter k) is = is
  leaf_stays good (leaf.Own k) is = is
  leaf_stays good (leaf.Define k) is = is
  leaf_stays good (leaf.Bound at) is = is
  leaf_stays good (leaf.Hole h) is = is

  inside_unread : (e : Extent) (variable : Spot) (good : Parts) (ts : ResolvedTrees) → ((good : Parts) → each_written arities good params ts ≡ true → each_written arities (with_arrays false good) params ts ≡ true) →
      each_written arities (seen_inside e variable good) params ts ≡ true → each_written arities (seen_inside e variable (with_arrays false good)) params ts ≡ true
  inside_unread extents.Open variable good ts each is = each (seen_inside extents.Open variable good) is
  inside_unread extents.Wrong variable good ts each is = each (seen_inside extents.Wrong variable good) is
  inside_unread extents.Right variable good ts each is = each good is

  mutual
    unread : (good : Parts) (t : ResolvedTree) → has_index t ≡ false → is_written arities good params t ≡ true → is_written arities (with_arrays false good) params t ≡ true
    unread good (tree first at form) none is = form_unread good form none is

    form_unread : (good : Parts) (form : Form) → form_indexed form ≡ false → form_written arities good params form ≡ true → form_written arities (with_arrays false good) params form ≡ true
    form_unread good (Form.LeafOf l) none is = leaf_stays good l is
    form_unread good (Form.PredicateOf k ts) none is = let parts = and_parts (is_use arities k (length (listed ts))) (each_written arities good params ts) is in and_from _ _ parts.0 (each_unread good ts none parts.1)
    form_unread good (Form.MisuseOf m ts) none is = absurd (false≢true is)
    form_unread good (Form.Next t) none is = unread good t none is
    form_unread good (Form.Prefix word t) none is = unread good t none is
    form_unread good (Form.Binary word a b) none is =
        let tests = or_parts (has_index a) (has_index b) none in
        let parts = and_parts (is_written arities good params a) (is_written arities good params b) is in and_from _ _ (unread good a tests.0 parts.0) (unread good b tests.1 parts.1)
    form_unread good (Form.Mod t number_at n) none is = unread good t none is
    form_unread good (Form.And ts operators) none is = each_unread good ts none is
    form_unread good (Form.Or ts operators) none is = each_unread good ts none is
    form_unread good (Form.Index first n t) none is = absurd (true≢false none)
    form_unread good (Form.Quantified word variable extent low high ts) none is =
        let tests = or_parts (has_index low) _ none in
        let more = or_parts (has_index high) (some_indexed ts) tests.1 in
        let parts = and_parts (is_written arities good params low) _ is in
        let last = and_parts (is_written arities good params high) (each_written arities (seen_inside extent variable good) params ts) parts.1 in
        and_from _ _ (unread good low tests.0 parts.0) (and_from _ _ (unread good high more.0 last.0) (inside_unread extent variable good ts (λ good is. each_unread good ts more.1 is) last.1))

    each_unread : (good : Parts) (ts : ResolvedTrees) → some_indexed ts ≡ false → each_written arities good params ts ≡ true → each_written arities (with_arrays false good) params ts ≡ true
    each_unread good ResolvedTrees.none none is = is
    each_unread good (ResolvedTrees.one_more t ts) none is =
        let tests = or_parts (has_index t) (some_indexed ts) none in
        let parts = and_parts (is_written arities good params t) (each_written arities good params ts) is in and_from _ _ (unread good t tests.0 parts.0) (each_unread good ts tests.1 parts.1)

  -- where an array may stand if an element is read
  pub stays_where : (some : Bool) (good : Parts) (t : ResolvedTree) → (some ≡ false → has_index t ≡ false) → is_written arities good params t ≡ true → is_written arities (with_arrays some good) params t ≡ true
  stays_where true good t none is = is
  stays_where false good t none is = unread good t (none refl) is
