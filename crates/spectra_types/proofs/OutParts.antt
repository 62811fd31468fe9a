-- What is in an expression that is written out: the uses and the places of quantifiers' variables that are in the one that is
-- written, and no element is read where none was.
use Rattle.std.proofs.Common.{◌≡◌, ◌⊎◌, inl, inr, ℕ, suc, ◌+◌, ℤ, pos, nat_abs, ◌+ℤ◌, ◌-ℤ◌, Bool, true, false, ◌||◌, ◌&&◌, if◌then◌else◌, int_le, List, [], ◌∷◌, ◌++◌, Option, Some, None, refl, sym, ap, subst, ◌∙◌, append_assoc, arith}
use Rattle.std.specs.Prelude.{Contains, int_lt}
use Rattle.std.proofs.lemmas.Bool.{false≢true, true≢false, and_parts, or_parts, or_from}
use Rattle.std.proofs.lemmas.List.Elements.{Contains-append_left, Contains-append_right, Contains-append_cases}
use Rattle.spectra_resolved.specs.declared.spot.Spot.{Spot}
use Rattle.spectra_resolved.specs.declared.tree.Extent.{Extent}
use Rattle.spectra_resolved.specs.declared.tree.Extent.TheVariants as extents
use Rattle.spectra_resolved.specs.declared.tree.Leaf.{Leaf}
use Rattle.spectra_resolved.specs.declared.tree.Leaf.TheVariants as leaf
use Rattle.spectra_resolved.specs.Resolved.{ResolvedTree, tree, Form, ResolvedTrees}
use Rattle.spectra_uses.specs.Uses.{misuse_uses, uses_in, form_uses, each_uses}
use Rattle.spectra_copies.specs.Numbers.{number_in}
use Rattle.spectra_copies.specs.declared.ranges.Bound.{Bound}
use Rattle.spectra_copies.specs.declared.ranges.Range.{Range}
use Rattle.spectra_copies.specs.declared.ranges.Range.TheVariants as ranges
use Rattle.spectra_copies.specs.Ranges.{is_short, range_of, numbers_from, numbers_between, number_at}
use Rattle.spectra_copies.specs.Copies.{bound_with, number_leaf, written_leaf, joined_trees, copies_for, extent_of, copies_of, written, form_out, each_out}
use Rattle.spectra_types.specs.Conditions.{has_index, form_indexed, some_indexed}
use Rattle.spectra_types.proofs.Placed.{places_in, form_quantifiers, each_places}

-- ---- uses

leaf_uses : (q : List Bound) (l : Leaf) (u : ℕ) → Contains (form_uses (Form.LeafOf l)) u → Contains (form_uses (Form.LeafOf (written_leaf q l))) u
leaf_uses q (leaf.Define k) u is = is
leaf_uses q (leaf.Truth b) u is = is
leaf_uses q (leaf.Number z) u is = is
leaf_uses q (leaf.EnumName k) u is = is
leaf_uses q (leaf.Variable k) u is = is
leaf_uses q (leaf.Parameter k) u is = is
leaf_uses q (leaf.Own k) u is = is
leaf_uses q (leaf.Hole h) u is = is
leaf_uses q (leaf.Bound at) u is = by (number_at q at)
  where
    by : (o : Option ℤ) → Contains (form_uses (Form.LeafOf (number_leaf o (leaf.Bound at)))) u
    by (Some z) = is
    by None = is

-- what holds of both parts of a list, one for one
both_lists : {X : Type 0} (as' bs xs ys : List X) (u : X) → (Contains as' u → Contains xs u) → (Contains bs u → Contains ys u) → Contains (as' ++ bs) u → Contains (xs ++ ys) u
both_lists as' bs xs ys u first second is = by (Contains-append_cases as' bs u is)
  where
    by : Contains as' u ⊎ Contains bs u → Contains (xs ++ ys) u
    by (inl here) = Contains-append_left xs ys u (first here)
    by (inr later) = Contains-append_right xs ys u (second later)

joined_uses : (ts us : ResolvedTrees) → each_uses (joined_trees ts us) ≡ each_uses ts ++ each_uses us
joined_uses ResolvedTrees.none us = refl
joined_uses (ResolvedTrees.one_more t ts) us = ap (λ ks. uses_in t ++ ks) (joined_uses ts us) ∙ sym (append_assoc (uses_in t) (each_uses ts) (each_uses us))

-- a range has a number
range_some : (a b : Option ℤ) (x y : ℤ) → range_of a b ≡ ranges.Right x y → is_short x y ≡ true
range_some (Some v) (Some w) x y is = by (is_short v w) refl is
  where
    by : (c : Bool) → is_short v w ≡ c → (if c then ranges.Right v w else ranges.Wrong) ≡ ranges.Right x y → is_short x y ≡ true
    by true e is = subst (λ r. short r ≡ true) is e
      where
        short : Range → Bool
        short (ranges.Right low high) = is_short low high
        short _ = false
    by false e is = absurd (cc)
range_some (Some v) None x y is = absurd (cc)
range_some None b x y is = absurd (cc)

copied_use : (copy : ℤ → ResolvedTrees) (x y : ℤ) (u : ℕ) → is_short x y ≡ true → ((z : ℤ) → Contains (each_uses (copy z)) u) → Contains (each_uses (copies_for copy (numbers_between x y))) u
copied_use copy x y u some each = by (int_le x y) (and_parts (int_le x y) (int_lt (y -ℤ x) (pos 256)) some).0
  where
    by : (b : Bool) → b ≡ true → Contains (each_uses (copies_for copy (if b then numbers_from x (nat_abs (y -ℤ x) + 1) else []))) u
    by false e = absurd (false≢true e)
    by true e =
        let one_more : suc (nat_abs (y -ℤ x)) ≡ nat_abs (y -ℤ x) + 1 = omega arith in
        subst (λ n. Contains (each_uses (copies_for copy (numbers_from x n))) u) one_more
        (subst (λ ks. Contains ks u) (sym (joined_uses (copy x) (copies_for copy (numbers_from (x +ℤ pos 1) (nat_abs (y -ℤ x))))))
        (Contains-append_left (each_uses (copy x)) (each_uses (copies_for copy (numbers_from (x +ℤ pos 1) (nat_abs (y -ℤ x))))) u (each x)))

module _ (c : List (Option ℤ)) where
  uses_copied : (q : List Bound) (variable : Spot) (ts : ResolvedTrees) (u : ℕ) (e : Extent) (a b : Option ℤ) (r : Range) → range_of a b ≡ r → (Contains (each_uses ts) u → Contains (each_uses (each_out c q ts)) u) →
      ((z : ℤ) → Contains (each_uses ts) u → Contains (each_uses (each_out c (q ++ bound_with variable z ∷ []) ts)) u) → Contains (each_uses ts) u →
      Contains (each_uses (copies_of e r (λ z. each_out c (q ++ bound_with variable z ∷ []) ts) (each_out c q ts))) u
  uses_copied q variable ts u extents.Open a b (ranges.Right x y) range body copies is = copied_use (λ z. each_out c (q ++ bound_with variable z ∷ []) ts) x y u (range_some a b x y range) (λ z. copies z is)
  uses_copied q variable ts u extents.Open a b ranges.Open range body copies is = body is
  uses_copied q variable ts u extents.Open a b ranges.Wrong range body copies is = body is
  uses_copied q variable ts u extents.Wrong a b r range body copies is = body is
  uses_copied q variable ts u extents.Right a b r range body copies is = body is

  mutual
    pub uses_out : (q : List Bound) (t : ResolvedTree) (u : ℕ) → Contains (uses_in t) u → Contains (uses_in (written c q t)) u
    uses_out q (tree first at form) u is = form_uses_out q form u is

    form_uses_out : (q : List Bound) (form : Form) (u : ℕ) → Contains (form_uses form) u → Contains (form_uses (form_out c q form)) u
    form_uses_out q (Form.LeafOf l) u is = leaf_uses q l u is
    form_uses_out q (Form.PredicateOf k ts) u is = both_lists (k ∷ []) (each_uses ts) (k ∷ []) (each_uses (each_out c q ts)) u (λ is. is) (λ is. each_uses_out q ts u is) is
    form_uses_out q (Form.MisuseOf m ts) u is = both_lists (misuse_uses m) (each_uses ts) (misuse_uses m) (each_uses (each_out c q ts)) u (λ is. is) (λ is. each_uses_out q ts u is) is
    form_uses_out q (Form.Next t) u is = uses_out q t u is
    form_uses_out q (Form.Prefix word t) u is = uses_out q t u is
    form_uses_out q (Form.Binary word a b) u is = both_lists (uses_in a) (uses_in b) (uses_in (written c q a)) (uses_in (written c q b)) u (λ is. uses_out q a u is) (λ is. uses_out q b u is) is
    form_uses_out q (Form.Mod t number_at n) u is = uses_out q t u is
    form_uses_out q (Form.And ts operators) u is = each_uses_out q ts u is
    form_uses_out q (Form.Or ts operators) u is = each_uses_out q ts u is
    form_uses_out q (Form.Index first n t) u is = uses_out q t u is
    form_uses_out q (Form.Quantified word variable extent low high ts) u is =
        both_lists (uses_in low) (uses_in high ++ each_uses ts) (uses_in (written c q low)) _ u (λ is. uses_out q low u is)
        (λ is. both_lists (uses_in high) (each_uses ts) (uses_in (written c q high)) _ u (λ is. uses_out q high u is)
        (λ is. uses_copied q variable ts u extent (number_in c (written c q low)) (number_in c (written c q high)) _ refl (λ is. each_uses_out q ts u is) (λ z is. each_uses_out (q ++ bound_with variable z ∷ []) ts u is) is) is)
        is

    each_uses_out : (q : List Bound) (ts : ResolvedTrees) (u : ℕ) → Contains (each_uses ts) u → Contains (each_uses (each_out c q ts)) u
    each_uses_out q ResolvedTrees.none u is = is
    each_uses_out q (ResolvedTrees.one_more t ts) u is = both_lists (uses_in t) (each_uses ts) (uses_in (written c q t)) (each_uses (each_out c q ts)) u (λ is. uses_out q t u is) (λ is. each_uses_out q ts u is) is

-- ---- places

joined_places : (ts us : ResolvedTrees) → each_places (joined_trees ts us) ≡ each_places ts ++ each_places us
joined_places ResolvedTrees.none us = refl
joined_places (ResolvedTrees.one_more t ts) us = ap (λ ks. places_in t ++ ks) (joined_places ts us) ∙ sym (append_assoc (places_in t) (each_places ts) (each_places us))

either_place : (xs ys places : List Spot) (v : Spot) → (Contains xs v → Contains places v) → (Contains ys v → Contains places v) → Contains (xs ++ ys) v → Contains places v
either_place xs ys places v first second is = by (Contains-append_cases xs ys v is)
  where
    by : Contains xs v ⊎ Contains ys v → Contains places v
    by (inl here) = first here
    by (inr later) = second later

copied_place : (copy : ℤ → ResolvedTrees) (places : List Spot) (v : Spot) → ((z : ℤ) → Contains (each_places (copy z)) v → Contains places v) → (zs : List ℤ) → Contains (each_places (copies_for copy zs)) v → Contains places v
copied_place copy places v each [] is = absurd (let below = is.1 in omega (arith, below))
copied_place copy places v each (z ∷ zs) is =
    either_place (each_places (copy z)) (each_places (copies_for copy zs)) places v (each z) (λ later. copied_place copy places v each zs later) (subst (λ ks. Contains ks v) (joined_places (copy z) (copies_for copy zs)) is)

module _ (c : List (Option ℤ)) where
  places_copied : (q : List Bound) (variable : Spot) (ts : ResolvedTrees) (v : Spot) (e : Extent) (r : Range) → (Contains (each_places (each_out c q ts)) v → Contains (each_places ts) v) →
      ((z : ℤ) → Contains (each_places (each_out c (q ++ bound_with variable z ∷ []) ts)) v → Contains (each_places ts) v) →
      Contains (each_places (copies_of e r (λ z. each_out c (q ++ bound_with variable z ∷ []) ts) (each_out c q ts))) v → Contains (each_places ts) v
  places_copied q variable ts v extents.Open (ranges.Right x y) body copies is = copied_place (λ z. each_out c (q ++ bound_with variable z ∷ []) ts) (each_places ts) v copies (numbers_between x y) is
  places_copied q variable ts v extents.Open ranges.Open body copies is = body is
  places_copied q variable ts v extents.Open ranges.Wrong body copies is = body is
  places_copied q variable ts v extents.Wrong r body copies is = body is
  places_copied q variable ts v extents.Right r body copies is = body is

  mutual
    pub places_out : (q : List Bound) (t : ResolvedTree) (v : Spot) → Contains (places_in (written c q t)) v → Contains (places_in t) v
    places_out q (tree first at form) v is = form_places_out q form v is

    form_places_out : (q : List Bound) (form : Form) (v : Spot) → Contains (form_quantifiers (form_out c q form)) v → Contains (form_quantifiers form) v
    form_places_out q (Form.LeafOf l) v is = is
    form_places_out q (Form.PredicateOf k ts) v is = each_places_out q ts v is
    form_places_out q (Form.MisuseOf m ts) v is = each_places_out q ts v is
    form_places_out q (Form.Next t) v is = places_out q t v is
    form_places_out q (Form.Prefix word t) v is = places_out q t v is
    form_places_out q (Form.Binary word a b) v is = both_lists (places_in (written c q a)) (places_in (written c q b)) (places_in a) (places_in b) v (λ is. places_out q a v is) (λ is. places_out q b v is) is
    form_places_out q (Form.Mod t number_at n) v is = places_out q t v is
    form_places_out q (Form.And ts operators) v is = each_places_out q ts v is
    form_places_out q (Form.Or ts operators) v is = each_places_out q ts v is
    form_places_out q (Form.Index first n t) v is = places_out q t v is
    form_places_out q (Form.Quantified word variable extent low high ts) v is =
        both_lists (variable ∷ []) _ (variable ∷ []) (places_in low ++ (places_in high ++ each_places ts)) v (λ is. is)
        (λ is. both_lists (places_in (written c q low)) _ (places_in low) (places_in high ++ each_places ts) v (λ is. places_out q low v is)
        (λ is. both_lists (places_in (written c q high)) _ (places_in high) (each_places ts) v (λ is. places_out q high v is)
        (λ is. places_copied q variable ts v extent (range_of (number_in c (written c q low)) (number_in c (written c q high))) (λ is. each_places_out q ts v is) (λ z is. each_places_out (q ++ bound_with variable z ∷ []) ts v is) is) is) is)
        is

    each_places_out : (q : List Bound) (ts : ResolvedTrees) (v : Spot) → Contains (each_places (each_out c q ts)) v → Contains (each_places ts) v
    each_places_out q ResolvedTrees.none v is = is
    each_places_out q (ResolvedTrees.one_more t ts) v is = both_lists (places_in (written c q t)) (each_places (each_out c q ts)) (places_in t) (each_places ts) v (λ is. places_out q t v is) (λ is. each_places_out q ts v is) is

-- ---- elements

joined_indexed : (ts us : ResolvedTrees) → some_indexed ts ≡ false → some_indexed us ≡ false → some_indexed (joined_trees ts us) ≡ false
joined_indexed ResolvedTrees.none us first second = second
joined_indexed (ResolvedTrees.one_more t ts) us first second =
    let parts = or_parts (has_index t) (some_indexed ts) first in or_from (has_index t) (some_indexed (joined_trees ts us)) parts.0 (joined_indexed ts us parts.1 second)

copied_indexed : (copy : ℤ → ResolvedTrees) → ((z : ℤ) → some_indexed (copy z) ≡ false) → (zs : List ℤ) → some_indexed (copies_for copy zs) ≡ false
copied_indexed copy each [] = refl
copied_indexed copy each (z ∷ zs) = joined_indexed (copy z) (copies_for copy zs) (each z) (copied_indexed copy each zs)

module _ (c : List (Option ℤ)) where
  indexed_copied : (q : List Bound) (variable : Spot) (ts : ResolvedTrees) (e : Extent) (r : Range) → some_indexed (each_out c q ts) ≡ false → ((z : ℤ) → some_indexed (each_out c (q ++ bound_with variable z ∷ []) ts) ≡ false) →
      some_indexed (copies_of e r (λ z. each_out c (q ++ bound_with variable z ∷ []) ts) (each_out c q ts)) ≡ false
  indexed_copied q variable ts extents.Open (ranges.Right x y) body copies = copied_indexed (λ z. each_out c (q ++ bound_with variable z ∷ []) ts) copies (numbers_between x y)
  indexed_copied q variable ts extents.Open ranges.Open body copies = body
  indexed_copied q variable ts extents.Open ranges.Wrong body copies = body
  indexed_copied q variable ts extents.Wrong r body copies = body
  indexed_copied q variable ts extents.Right r body copies = body

  mutual
    pub index_out : (q : List Bound) (t : ResolvedTree) → has_index t ≡ false → has_index (written c q t) ≡ false
    index_out q (tree first at form) none = form_index_out q form none

    form_index_out : (q : List Bound) (form : Form) → form_indexed form ≡ false → form_indexed (form_out c q form) ≡ false
    form_index_out q (Form.LeafOf l) none = refl
    form_index_out q (Form.PredicateOf k ts) none = each_index_out q ts none
    form_index_out q (Form.MisuseOf m ts) none = each_index_out q ts none
    form_index_out q (Form.Next t) none = index_out q t none
    form_index_out q (Form.Prefix word t) none = index_out q t none
    form_index_out q (Form.Binary word a b) none =
        let parts = or_parts (has_index a) (has_index b) none in or_from (has_index (written c q a)) (has_index (written c q b)) (index_out q a parts.0) (index_out q b parts.1)
    form_index_out q (Form.Mod t number_at n) none = index_out q t none
    form_index_out q (Form.And ts operators) none = each_index_out q ts none
    form_index_out q (Form.Or ts operators) none = each_index_out q ts none
    form_index_out q (Form.Index first n t) none = absurd (true≢false none)
    form_index_out q (Form.Quantified word variable extent low high ts) none =
        let parts = or_parts (has_index low) _ none in
        let more = or_parts (has_index high) (some_indexed ts) parts.1 in
        or_from (has_index (written c q low)) _ (index_out q low parts.0)
        (or_from (has_index (written c q high)) _ (index_out q high more.0) (indexed_copied q variable ts extent (range_of (number_in c (written c q low)) (number_in c (written c q high))) (each_index_out q ts more.1) (λ z. each_index_out (q ++ bound_with variable z ∷ []) ts more.1)))

    each_index_out : (q : List Bound) (ts : ResolvedTrees) → some_indexed ts ≡ false → some_indexed (each_out c q ts) ≡ false
    each_index_out q ResolvedTrees.none none = refl
    each_index_out q (ResolvedTrees.one_more t ts) none =
        let parts = or_parts (has_index t) (some_indexed ts) none in or_from (has_index (written c q t)) (some_indexed (each_out c q ts)) (index_out q t parts.0) (each_index_out q ts parts.1)
