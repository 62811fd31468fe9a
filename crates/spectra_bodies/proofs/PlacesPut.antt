-- What is put in for an expression stands at places of it.
use Rattle.std.proofs.Common.{◌≡◌, ℕ, zero, suc, Bool, true, false, ◌&&◌, if◌then◌else◌, ℤ, List, [], ◌∷◌, ◌++◌, length, map, drop, get_or, Option, Some, None, refl}
use Rattle.std.specs.List.{list_all}
use Rattle.std.proofs.lemmas.Bool.{and_parts, and_from}
use Rattle.spectra_resolved.specs.declared.spot.Spot.{Spot}
use Rattle.spectra_resolved.specs.declared.spot.Mark.{Mark}
use Rattle.spectra_resolved.specs.declared.stand.Stand.{Stand}
use Rattle.spectra_resolved.specs.Spots.{brought_at}
use Rattle.spectra_resolved.specs.declared.tree.Leaf.{Leaf}
use Rattle.spectra_resolved.specs.declared.tree.Leaf.TheVariants as leaf
use Rattle.spectra_resolved.specs.declared.tree.Hole.{Hole}
use Rattle.spectra_resolved.specs.declared.tree.Hole.TheVariants as hole
use Rattle.spectra_resolved.specs.Resolved.{ResolvedTree, tree, Form, ResolvedTrees, listed}
use Rattle.spectra_judge.specs.Kinds.{Kind, Anything}
use Rattle.spectra_judge.specs.Operators.{is_past, is_past_prefix}
use Rattle.spectra_judge.specs.Standings.{bans_of}
use Rattle.spectra_judge.specs.declared.around.Around.{Around}
use Rattle.spectra_judge.specs.Around.{nothing_open, under_next, in_bound, within}
use Rattle.spectra_judge.specs.Known.{Known, Setting, wanted}
use Rattle.spectra_judge.specs.Judged.{first_of}
use Rattle.spectra_holes.specs.Holed.{is_lost, hole_for, part_holed, form_holed, each_holed, arguments_holed, holed}
use Rattle.spectra_resolved.specs.declared.tree.Extent.{Extent}
use Rattle.spectra_resolved.specs.declared.tree.Extent.TheVariants as extents
use Rattle.spectra_copies.specs.Places.{placed, marked}
use Rattle.spectra_copies.specs.Numbers.{number_in}
use Rattle.spectra_copies.specs.declared.ranges.Bound.{Bound}
use Rattle.spectra_copies.specs.declared.ranges.Range.{Range}
use Rattle.spectra_copies.specs.Ranges.{range_of, numbers_between}
use Rattle.spectra_copies.specs.declared.ranges.Range.TheVariants as ranges
use Rattle.spectra_copies.specs.Copies.{bound_with, joined_trees, copies_for, copies_of, written, form_out, each_out}
use Rattle.spectra_elaboration.specs.Putting.{Bodies, Put, misuse_hole, leaf_put, filled, form_filled, each_filled, body_of, body_put, put_deep, with_bodies, put_in}
use Rattle.spectra_bodies.specs.Places.{all_places, form_places, each_places}
use Rattle.spectra_bodies.proofs.Standing.{first_is_there}

-- ---- with holes

module _ (good : Spot → Bool) (s : Setting) where
  one_lost : (lost : Bool) (t kept : ResolvedTree) → all_places good t ≡ true → all_places good kept ≡ true → all_places good (if lost then hole_for t else kept) ≡ true
  one_lost true t kept all left =
      let first = first_is_there good t all in
      and_from (good (first_of t) && good (first_of t)) true (and_from (good (first_of t)) (good (first_of t)) first first) refl
  one_lost false t kept all left = left

  mutual
    part_places : (o : Around) (t : ResolvedTree) → all_places good t ≡ true → all_places good (part_holed s o t) ≡ true
    part_places o (tree first at form) all =
        let parts = and_parts (good first && good at.spot) (form_places good form) all in
        and_from (good first && good at.spot) (form_places good (form_holed s o at form)) parts.0 (form_kept o at form parts.1)

    form_kept : (o : Around) (at : Mark) (form : Form) → form_places good form ≡ true → form_places good (form_holed s o at form) ≡ true
    form_kept o at (Form.LeafOf l) all = refl
    form_kept o at (Form.PredicateOf k ts) all = arguments_kept o (wanted s.known (Some k)) ts all
    form_kept o at (Form.MisuseOf m ts) all = refl
    form_kept o at (Form.Next t) all = part_places (under_next at o) t all
    form_kept o at (Form.Prefix word t) all = part_places (within (is_past_prefix word) at o) t all
    form_kept o at (Form.Binary word a b) all =
        let inner = within (is_past word) at o in
        let parts = and_parts (all_places good a) (all_places good b) all in
        and_from (all_places good (part_holed s inner a)) (all_places good (part_holed s inner b)) (part_places inner a parts.0) (part_places inner b parts.1)
    form_kept o at (Form.Mod t number_at n) all =
        let parts = and_parts (all_places good t) (good number_at) all in
        and_from (all_places good (part_holed s o t)) (good number_at) (part_places o t parts.0) parts.1
    form_kept o at (Form.And ts operators) all =
        let parts = and_parts (each_places good ts) (list_all good operators) all in
        and_from (each_places good (each_holed s o ts)) (list_all good operators) (each_kept o ts parts.0) parts.1
    form_kept o at (Form.Or ts operators) all =
        let parts = and_parts (each_places good ts) (list_all good operators) all in
        and_from (each_places good (each_holed s o ts)) (list_all good operators) (each_kept o ts parts.0) parts.1
    form_kept o at (Form.Index array n t) all = part_places o t all
    form_kept o at (Form.Quantified word variable extent low high ts) all =
        let inner = in_bound at o in
        let parts = and_parts (all_places good low) (all_places good high && each_places good ts) all in
        let rest = and_parts (all_places good high) (each_places good ts) parts.1 in
        and_from (all_places good (part_holed s inner low)) (all_places good (part_holed s inner high) && each_places good (each_holed s o ts)) (part_places inner low parts.0)
        (and_from (all_places good (part_holed s inner high)) (each_places good (each_holed s o ts)) (part_places inner high rest.0) (each_kept o ts rest.1))

    each_kept : (o : Around) (ts : ResolvedTrees) → each_places good ts ≡ true → each_places good (each_holed s o ts) ≡ true
    each_kept o ResolvedTrees.none all = refl
    each_kept o (ResolvedTrees.one_more t ts) all =
        let parts = and_parts (all_places good t) (each_places good ts) all in
        and_from (all_places good (part_holed s o t)) (each_places good (each_holed s o ts)) (part_places o t parts.0) (each_kept o ts parts.1)

    arguments_kept : (o : Around) (kinds : List Kind) (ts : ResolvedTrees) → each_places good ts ≡ true → each_places good (arguments_holed s o kinds ts) ≡ true
    arguments_kept o kinds ResolvedTrees.none all = refl
    arguments_kept o kinds (ResolvedTrees.one_more t ts) all =
        let parts = and_parts (all_places good t) (each_places good ts) all in
        let lost = is_lost s o (get_or kinds 0 Anything) t in
        and_from (all_places good (if lost then hole_for t else part_holed s o t)) (each_places good (arguments_holed s o (drop 1 kinds) ts))
        (one_lost lost t (part_holed s o t) parts.0 (part_places o t parts.0)) (arguments_kept o (drop 1 kinds) ts parts.1)

-- ---- a test of which all places are good

module _ (good : Spot → Bool) (always : (at : Spot) → good at ≡ true) where
  each_spot : (places : List Spot) → list_all good places ≡ true
  each_spot [] = refl
  each_spot (at ∷ places) = and_from (good at) (list_all good places) (always at) (each_spot places)

  mutual
    everywhere : (t : ResolvedTree) → all_places good t ≡ true
    everywhere (tree first at form) =
        and_from (good first && good at.spot) (form_places good form) (and_from (good first) (good at.spot) (always first) (always at.spot)) (form_everywhere form)

    form_everywhere : (form : Form) → form_places good form ≡ true
    form_everywhere (Form.LeafOf l) = refl
    form_everywhere (Form.PredicateOf k ts) = each_everywhere ts
    form_everywhere (Form.MisuseOf m ts) = each_everywhere ts
    form_everywhere (Form.Next t) = everywhere t
    form_everywhere (Form.Prefix word t) = everywhere t
    form_everywhere (Form.Binary word a b) = and_from (all_places good a) (all_places good b) (everywhere a) (everywhere b)
    form_everywhere (Form.Mod t number_at n) = and_from (all_places good t) (good number_at) (everywhere t) (always number_at)
    form_everywhere (Form.And ts operators) = and_from (each_places good ts) (list_all good operators) (each_everywhere ts) (each_spot operators)
    form_everywhere (Form.Or ts operators) = and_from (each_places good ts) (list_all good operators) (each_everywhere ts) (each_spot operators)
    form_everywhere (Form.Index array n t) = everywhere t
    form_everywhere (Form.Quantified word variable extent low high ts) =
        and_from (all_places good low) (all_places good high && each_places good ts) (everywhere low) (and_from (all_places good high) (each_places good ts) (everywhere high) (each_everywhere ts))

    each_everywhere : (ts : ResolvedTrees) → each_places good ts ≡ true
    each_everywhere ResolvedTrees.none = refl
    each_everywhere (ResolvedTrees.one_more t ts) = and_from (all_places good t) (each_places good ts) (everywhere t) (each_everywhere ts)

-- ---- with everything put in

module _ (good : Spot → Bool) where
  -- uses of definitions stand at good places, where they and their arguments do
  abbrev PutsThere : Put → Type 0
  PutsThere put = (h : Hole) (k : ℕ) (at : Spot) (ts : List ResolvedTree) → good at ≡ true → list_all (all_places good) ts ≡ true → all_places good (put h k at ts) ≡ true

  leaf_places : (first : Spot) (at : Mark) (l : Leaf) → good first ≡ true → good at.spot ≡ true → all_places good (tree first at (Form.LeafOf l)) ≡ true
  leaf_places first at l p q = and_from (good first && good at.spot) true (and_from (good first) (good at.spot) p q) refl

  marked_spot : (brought : Option Spot) (at : Mark) → good (placed brought at.spot) ≡ true → good (marked brought at).spot ≡ true
  marked_spot (Some name) at here = here
  marked_spot None at here = here

  argument_places : (arguments : List ResolvedTree) (k : ℕ) (t : ResolvedTree) → list_all (all_places good) arguments ≡ true → all_places good t ≡ true → all_places good (get_or arguments k t) ≡ true
  argument_places [] k t all none = none
  argument_places (x ∷ arguments) zero t all none = (and_parts (all_places good x) (list_all (all_places good) arguments) all).0
  argument_places (x ∷ arguments) (suc k) t all none = argument_places arguments k t (and_parts (all_places good x) (list_all (all_places good) arguments) all).1 none

  listed_places : (ts : ResolvedTrees) → each_places good ts ≡ true → list_all (all_places good) (listed ts) ≡ true
  listed_places ResolvedTrees.none all = refl
  listed_places (ResolvedTrees.one_more t ts) all =
      let parts = and_parts (all_places good t) (each_places good ts) all in
      and_from (all_places good t) (list_all (all_places good) (listed ts)) parts.0 (listed_places ts parts.1)

  module _ (put : Put) (puts : PutsThere put) (brought : Option Spot) (arguments : List ResolvedTree) (filling : list_all (all_places good) arguments ≡ true) where
    -- the test of a place as it is put in
    abbrev there : Spot → Bool
    there at = good (placed brought at)

    placed_each : (places : List Spot) → list_all there places ≡ true → list_all good (map (placed brought) places) ≡ true
    placed_each [] all = refl
    placed_each (at ∷ places) all =
        let parts = and_parts (there at) (list_all there places) all in
        and_from (there at) (list_all good (map (placed brought) places)) parts.0 (placed_each places parts.1)

    leaf_there : (first : Spot) (at : Mark) (l : Leaf) → good first ≡ true → good at.spot ≡ true → all_places good (leaf_put put arguments first at l) ≡ true
    leaf_there first at (leaf.Define k) p q = puts hole.Anything k at.spot [] q refl
    leaf_there first at (leaf.Parameter k) p q = argument_places arguments k (tree first at (Form.LeafOf (leaf.Parameter k))) filling (leaf_places first at (leaf.Parameter k) p q)
    leaf_there first at (leaf.Truth b) p q = leaf_places first at (leaf.Truth b) p q
    leaf_there first at (leaf.Number z) p q = leaf_places first at (leaf.Number z) p q
    leaf_there first at (leaf.EnumName k) p q = leaf_places first at (leaf.EnumName k) p q
    leaf_there first at (leaf.Variable k) p q = leaf_places first at (leaf.Variable k) p q
    leaf_there first at (leaf.Own k) p q = leaf_places first at (leaf.Own k) p q
    leaf_there first at (leaf.Bound variable) p q = leaf_places first at (leaf.Bound variable) p q
    leaf_there first at (leaf.Hole h) p q = leaf_places first at (leaf.Hole h) p q

    -- over parts that stand there
    above : (first : Spot) (at : Mark) (form : Form) → good first ≡ true → good at.spot ≡ true → form_places good form ≡ true → all_places good (tree first at form) ≡ true
    above first at form p q all = and_from (good first && good at.spot) (form_places good form) (and_from (good first) (good at.spot) p q) all

    mutual
      filled_places : (t : ResolvedTree) → all_places there t ≡ true → all_places good (filled put brought arguments t) ≡ true
      filled_places (tree first at form) all =
          let parts = and_parts (there first && there at.spot) (form_places there form) all in
          let own = and_parts (there first) (there at.spot) parts.0 in
          form_filled_places (placed brought first) (marked brought at) form own.0 (marked_spot brought at own.1) parts.1

      form_filled_places : (first : Spot) (at : Mark) (form : Form) → good first ≡ true → good at.spot ≡ true → form_places there form ≡ true → all_places good (form_filled put brought arguments first at form) ≡ true
      form_filled_places first at (Form.LeafOf l) p q all = leaf_there first at l p q
      form_filled_places first at (Form.PredicateOf k ts) p q all =
          puts hole.Truth k at.spot (listed (each_filled put brought arguments ts)) q (listed_places (each_filled put brought arguments ts) (each_filled_places ts all))
      form_filled_places first at (Form.MisuseOf m ts) p q all = leaf_places first at (leaf.Hole (misuse_hole m)) p q
      form_filled_places first at (Form.Next t) p q all = above first at (Form.Next (filled put brought arguments t)) p q (filled_places t all)
      form_filled_places first at (Form.Prefix word t) p q all = above first at (Form.Prefix word (filled put brought arguments t)) p q (filled_places t all)
      form_filled_places first at (Form.Binary word a b) p q all =
          let x = filled put brought arguments a in
          let y = filled put brought arguments b in
          let parts = and_parts (all_places there a) (all_places there b) all in
          above first at (Form.Binary word x y) p q (and_from (all_places good x) (all_places good y) (filled_places a parts.0) (filled_places b parts.1))
      form_filled_places first at (Form.Mod t number_at n) p q all =
          let x = filled put brought arguments t in
          let parts = and_parts (all_places there t) (there number_at) all in
          above first at (Form.Mod x (placed brought number_at) n) p q (and_from (all_places good x) (there number_at) (filled_places t parts.0) parts.1)
      form_filled_places first at (Form.And ts operators) p q all =
          let xs = each_filled put brought arguments ts in
          let between = map (placed brought) operators in
          let parts = and_parts (each_places there ts) (list_all there operators) all in
          above first at (Form.And xs between) p q (and_from (each_places good xs) (list_all good between) (each_filled_places ts parts.0) (placed_each operators parts.1))
      form_filled_places first at (Form.Or ts operators) p q all =
          let xs = each_filled put brought arguments ts in
          let between = map (placed brought) operators in
          let parts = and_parts (each_places there ts) (list_all there operators) all in
          above first at (Form.Or xs between) p q (and_from (each_places good xs) (list_all good between) (each_filled_places ts parts.0) (placed_each operators parts.1))
      form_filled_places first at (Form.Index array n t) p q all = above first at (Form.Index array n (filled put brought arguments t)) p q (filled_places t all)
      form_filled_places first at (Form.Quantified word variable extent low high ts) p q all =
          let x = filled put brought arguments low in
          let y = filled put brought arguments high in
          let zs = each_filled put brought arguments ts in
          let parts = and_parts (all_places there low) (all_places there high && each_places there ts) all in
          let rest = and_parts (all_places there high) (each_places there ts) parts.1 in
          above first at (Form.Quantified word variable extent x y zs) p q
          (and_from (all_places good x) (all_places good y && each_places good zs) (filled_places low parts.0) (and_from (all_places good y) (each_places good zs) (filled_places high rest.0) (each_filled_places ts rest.1)))

      each_filled_places : (ts : ResolvedTrees) → each_places there ts ≡ true → each_places good (each_filled put brought arguments ts) ≡ true
      each_filled_places ResolvedTrees.none all = refl
      each_filled_places (ResolvedTrees.one_more t ts) all =
          let parts = and_parts (all_places there t) (each_places there ts) all in
          and_from (all_places good (filled put brought arguments t)) (each_places good (each_filled put brought arguments ts)) (filled_places t parts.0) (each_filled_places ts parts.1)

  deep_there : (b : Bodies) (deep : ℕ) → PutsThere (put_deep deep b)
  deep_there b zero h k at ts here all = leaf_places at (brought_at at) (leaf.Hole h) here here
  deep_there b (suc deep) h k at ts here all = by (deep_there b deep) (body_of b k)
    where
      by : PutsThere (put_deep deep b) → (body : Option ResolvedTree) → all_places good (body_put (put_deep deep b) h at ts body) ≡ true
      by deeper None = leaf_places at (brought_at at) (leaf.Hole h) here here
      by deeper (Some body) = filled_places (put_deep deep b) deeper (Some at) ts all body (everywhere (λ _. good at) (λ _. here) body)

-- ---- written out

module _ (good : Spot → Bool) where
  joined_places : (ts us : ResolvedTrees) → each_places good ts ≡ true → each_places good us ≡ true → each_places good (joined_trees ts us) ≡ true
  joined_places ResolvedTrees.none us first rest = rest
  joined_places (ResolvedTrees.one_more t ts) us first rest =
      let parts = and_parts (all_places good t) (each_places good ts) first in
      and_from (all_places good t) (each_places good (joined_trees ts us)) parts.0 (joined_places ts us parts.1 rest)

  copies_places : (copy : ℤ → ResolvedTrees) → ((z : ℤ) → each_places good (copy z) ≡ true) → (zs : List ℤ) → each_places good (copies_for copy zs) ≡ true
  copies_places copy all [] = refl
  copies_places copy all (z ∷ zs) = joined_places (copy z) (copies_for copy zs) (all z) (copies_places copy all zs)

  range_places : (copy : ℤ → ResolvedTrees) (without : ResolvedTrees) → ((z : ℤ) → each_places good (copy z) ≡ true) → each_places good without ≡ true → (extent : Extent) (range : Range)
      → each_places good (copies_of extent range copy without) ≡ true
  range_places copy without all own extents.Right range = own
  range_places copy without all own extents.Wrong range = own
  range_places copy without all own extents.Open ranges.Open = own
  range_places copy without all own extents.Open ranges.Wrong = own
  range_places copy without all own extents.Open (ranges.Right low high) = copies_places copy all (numbers_between low high)

  -- copies stand where the body does
  mutual
    out_places : (c : List (Option ℤ)) (q : List Bound) (t : ResolvedTree) → all_places good t ≡ true → all_places good (written c q t) ≡ true
    out_places c q (tree first at form) all =
        let parts = and_parts (good first && good at.spot) (form_places good form) all in
        and_from (good first && good at.spot) (form_places good (form_out c q form)) parts.0 (form_out_places c q form parts.1)

    form_out_places : (c : List (Option ℤ)) (q : List Bound) (form : Form) → form_places good form ≡ true → form_places good (form_out c q form) ≡ true
    form_out_places c q (Form.LeafOf l) all = refl
    form_out_places c q (Form.PredicateOf k ts) all = each_out_places c q ts all
    form_out_places c q (Form.MisuseOf m ts) all = each_out_places c q ts all
    form_out_places c q (Form.Next t) all = out_places c q t all
    form_out_places c q (Form.Prefix word t) all = out_places c q t all
    form_out_places c q (Form.Binary word a b) all =
        let parts = and_parts (all_places good a) (all_places good b) all in
        and_from (all_places good (written c q a)) (all_places good (written c q b)) (out_places c q a parts.0) (out_places c q b parts.1)
    form_out_places c q (Form.Mod t number_at n) all =
        let parts = and_parts (all_places good t) (good number_at) all in
        and_from (all_places good (written c q t)) (good number_at) (out_places c q t parts.0) parts.1
    form_out_places c q (Form.And ts operators) all =
        let parts = and_parts (each_places good ts) (list_all good operators) all in
        and_from (each_places good (each_out c q ts)) (list_all good operators) (each_out_places c q ts parts.0) parts.1
    form_out_places c q (Form.Or ts operators) all =
        let parts = and_parts (each_places good ts) (list_all good operators) all in
        and_from (each_places good (each_out c q ts)) (list_all good operators) (each_out_places c q ts parts.0) parts.1
    form_out_places c q (Form.Index array n t) all = out_places c q t all
    form_out_places c q (Form.Quantified word variable extent low high ts) all =
        let range = range_of (number_in c (written c q low)) (number_in c (written c q high)) in
        let copies = copies_of extent range (λ z. each_out c (q ++ bound_with variable z ∷ []) ts) (each_out c q ts) in
        let parts = and_parts (all_places good low) (all_places good high && each_places good ts) all in
        let rest = and_parts (all_places good high) (each_places good ts) parts.1 in
        and_from (all_places good (written c q low)) (all_places good (written c q high) && each_places good copies) (out_places c q low parts.0)
        (and_from (all_places good (written c q high)) (each_places good copies) (out_places c q high rest.0)
        (range_places (λ z. each_out c (q ++ bound_with variable z ∷ []) ts) (each_out c q ts) (λ z. each_out_places c (q ++ bound_with variable z ∷ []) ts rest.1) (each_out_places c q ts rest.1) extent range))

    each_out_places : (c : List (Option ℤ)) (q : List Bound) (ts : ResolvedTrees) → each_places good ts ≡ true → each_places good (each_out c q ts) ≡ true
    each_out_places c q ResolvedTrees.none all = refl
    each_out_places c q (ResolvedTrees.one_more t ts) all =
        let parts = and_parts (all_places good t) (each_places good ts) all in
        and_from (all_places good (written c q t)) (each_places good (each_out c q ts)) (out_places c q t parts.0) (each_out_places c q ts parts.1)

  -- what is put in for an expression as it is written
  pub put_in_there : (b : Bodies) (known : Known) (st : Stand) (t : ResolvedTree) → all_places good t ≡ true → all_places good (put_in b (holed known st t)) ≡ true
  put_in_there b known st t all =
      out_places [] [] (with_bodies b (holed known st t))
      (filled_places good (put_deep (length b) b) (deep_there good b (length b)) None [] refl (holed known st t)
      (part_places good (record { known = known; bans = bans_of st }) nothing_open t all))
