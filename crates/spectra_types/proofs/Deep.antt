-- Definitions that stand behind those that they use are what their bodies are in exactly one way.
use Rattle.std.proofs.Common.{◌≡◌, ℕ, zero, suc, ◌+◌, ◌==◌, ◌<◌, nat_lt, ℤ, pos, Bool, true, false, ◌||◌, if◌then◌else◌, List, [], ◌∷◌, ◌++◌, length, get_or, Option, Some, None, slice_get, refl, sym, ap, ◌∙◌, arith}
use Rattle.std.specs.Prelude.{Contains, nat_abs, flat_map}
use Rattle.std.specs.List.{list_any, list_all}
use Rattle.std.specs.Int.{int_rem_euclid}
use Rattle.std.proofs.lemmas.Bool.{false≢true, and_parts}
use Rattle.std.proofs.lemmas.Bool.Decides.{nat_tests}
use Rattle.std.proofs.lemmas.List.Elements.{Contains-append_left, Contains-append_right}
use Rattle.spec_model.specs.declared.value.Value.TheVariants as value
use Rattle.spec_model.specs.Values.{truth_of, number_of}
use Rattle.spectra_resolved.specs.declared.spot.Spot.{Spot}
use Rattle.spectra_resolved.specs.Spots.{same_place}
use Rattle.spectra_resolved.specs.declared.tree.Extent.{Extent}
use Rattle.spectra_resolved.specs.declared.tree.Extent.TheVariants as extents
use Rattle.spectra_resolved.specs.declared.tree.Leaf.{Leaf}
use Rattle.spectra_resolved.specs.declared.tree.Leaf.TheVariants as leaf
use Rattle.spectra_resolved.specs.Resolved.{ResolvedTree, tree, Form, ResolvedTrees, listed}
use Rattle.spectra_copies.specs.Ranges.{numbers_between}
use Rattle.spectra_judge.specs.PutIn.{Parts, seen_inside}
use Rattle.spectra_uses.specs.Uses.{uses_in, form_uses, each_uses}
use Rattle.spectra_uses.specs.Orders.{StandsBefore}
use Rattle.spectra_elaboration.specs.Written.{is_use, is_written_leaf, is_written, form_written, each_written}
use Rattle.spectra_types.specs.Senses.{Sense, Numbers, numbered, Senses, nothing, inside, leaf_sense, prefix_sense, binary_sense, truths, quantified, sense, form_sense, senses}
use Rattle.spectra_types.proofs.Places.{place_turned}
use Rattle.spectra_types.proofs.Orders.{AreOrdered, AreBodies, body_there, stands_earlier, stands_somewhere}

-- ---- an expression asks only what variables, parameters, the definitions that it uses and the quantifiers that it sees are

-- no own variable of a pattern may stand there
abbrev pub HasNoOwn : Parts → Type 0
HasNoOwn good = (k : ℕ) → good.leaf (leaf.Own k) ≡ false

pub none_inside : (extent : Extent) (variable : Spot) (good : Parts) → HasNoOwn good → HasNoOwn (seen_inside extent variable good)
none_inside extents.Open variable good no_own k = no_own k
none_inside extents.Wrong variable good no_own k = no_own k
none_inside extents.Right variable good no_own k = no_own k

-- the quantifiers whose variables may stand there have the same numbers
abbrev pub SeesSame : Parts → Numbers → Numbers → Type 0
SeesSame good n m = (at : Spot) → good.leaf (leaf.Bound at) ≡ true → n at ≡ m at

pub sees_more : (variable : Spot) (good : Parts) (n m : Numbers) (z : ℤ) → SeesSame good n m → SeesSame (seen_inside extents.Open variable good) (numbered n variable z) (numbered m variable z)
sees_more variable good n m z same at seen = by (same_place variable at) refl
  where
    other : (c : Bool) → same_place at variable ≡ c → same_place variable at ≡ false → (c || good.leaf (leaf.Bound at)) ≡ true → good.leaf (leaf.Bound at) ≡ true
    other true is not_it seen = absurd (false≢true (sym not_it ∙ place_turned at variable is))
    other false is not_it seen = seen

    by : (b : Bool) → same_place variable at ≡ b → (if b then z else n at) ≡ (if b then z else m at)
    by true is = refl
    by false is = same at (other (same_place at variable) refl is seen)

module _ (arities : List ℕ) (params : ℕ) (one other : Senses) (variables : one.variable ≡ other.variable) (parameters : one.parameter ≡ other.parameter) where
  abbrev Agree : List ℕ → Type 0
  Agree used = (k : ℕ) → Contains used k → k < length arities → one.definition k ≡ other.definition k

  agree_left : (us vs : List ℕ) → Agree (us ++ vs) → Agree us
  agree_left us vs same k in' below = same k (Contains-append_left us vs k in') below

  agree_right : (us vs : List ℕ) → Agree (us ++ vs) → Agree vs
  agree_right us vs same k in' below = same k (Contains-append_right us vs k in') below

  is_small : (k n : ℕ) → is_use arities k n ≡ true → k < length arities
  is_small k n use' = let e = (and_parts (nat_lt k (length arities)) (get_or arities k 0 == n) use').0 in grind (arith, nat_tests)

  -- each with its numbers
  abbrev a_with : Numbers → Senses
  a_with n = record one { number = n }

  abbrev b_with : Numbers → Senses
  b_with n = record other { number = n }

  same_leaf : (good : Parts) → HasNoOwn good → (n m : Numbers) → SeesSame good n m → (l : Leaf) → is_written_leaf arities good params l ≡ true → Agree (form_uses (Form.LeafOf l)) → (p : ℕ) →
      leaf_sense (a_with n) l p ≡ leaf_sense (b_with m) l p
  same_leaf good no_own n m sees (leaf.Define k) e same p = λ i. same k (0, omega arith, refl) (is_small k 0 e) i [] p
  same_leaf good no_own n m sees (leaf.Parameter k) e same p = λ i. parameters i k p
  same_leaf good no_own n m sees (leaf.Truth b) e same p = refl
  same_leaf good no_own n m sees (leaf.Number z) e same p = refl
  same_leaf good no_own n m sees (leaf.EnumName k) e same p = refl
  same_leaf good no_own n m sees (leaf.Variable k) e same p = λ i. variables i k p
  same_leaf good no_own n m sees (leaf.Own k) e same p = absurd (false≢true (sym (no_own k) ∙ e))
  same_leaf good no_own n m sees (leaf.Bound at) e same p = ap (λ z. value.Int z) (sees at e)
  same_leaf good no_own n m sees (leaf.Hole h) e same p = refl

  mutual
    pub same_sense : (good : Parts) → HasNoOwn good → (n m : Numbers) → SeesSame good n m → (t : ResolvedTree) → is_written arities good params t ≡ true → Agree (uses_in t) → (p : ℕ) → sense (a_with n) t p ≡ sense (b_with m) t p
    same_sense good no_own n m sees (tree first at form) e same p = same_form good no_own n m sees form e same p

    same_form : (good : Parts) → HasNoOwn good → (n m : Numbers) → SeesSame good n m → (form : Form) → form_written arities good params form ≡ true → Agree (form_uses form) → (p : ℕ) → form_sense (a_with n) form p ≡ form_sense (b_with m) form p
    same_form good no_own n m sees (Form.LeafOf l) e same p = same_leaf good no_own n m sees l e same p
    same_form good no_own n m sees (Form.PredicateOf k ts) e same p =
        let parts = and_parts (is_use arities k (length (listed ts))) (each_written arities good params ts) e in
        let is = same k (0, omega arith, refl) (is_small k (length (listed ts)) parts.0) in
        let all = same_each good no_own n m sees ts parts.1 (agree_right (k ∷ []) (each_uses ts) same) in λ i. is i (all i) p
    same_form good no_own n m sees (Form.MisuseOf u ts) e same p = absurd (false≢true e)
    same_form good no_own n m sees (Form.Next t) e same p = same_sense good no_own n m sees t e same (suc p)
    same_form good no_own n m sees (Form.Prefix word t) e same p = λ i. prefix_sense word (λ q. same_sense good no_own n m sees t e same q i) p
    same_form good no_own n m sees (Form.Binary word a b) e same p =
        let parts = and_parts (is_written arities good params a) (is_written arities good params b) e in
        λ i. binary_sense word (λ q. same_sense good no_own n m sees a parts.0 (agree_left (uses_in a) (uses_in b) same) q i) (λ q. same_sense good no_own n m sees b parts.1 (agree_right (uses_in a) (uses_in b) same) q i) p
    same_form good no_own n m sees (Form.Mod t number_at by) e same p = λ i. value.Int (int_rem_euclid (number_of (same_sense good no_own n m sees t e same p i)) by)
    same_form good no_own n m sees (Form.And ts operators) e same p = λ i. value.Bool (list_all (λ b. b) (truths (same_each good no_own n m sees ts e same i) p))
    same_form good no_own n m sees (Form.Or ts operators) e same p = λ i. value.Bool (list_any (λ b. b) (truths (same_each good no_own n m sees ts e same i) p))
    same_form good no_own n m sees (Form.Index first count t) e same p =
        let parts = and_parts (good.array first count) (is_written arities good params t) e in
        λ i. variables i (first + nat_abs (number_of (same_sense good no_own n m sees t parts.1 same p i))) p
    same_form good no_own n m sees (Form.Quantified word variable extents.Wrong low high ts) e same p = refl
    same_form good no_own n m sees (Form.Quantified word variable extents.Right low high ts) e same p =
        let parts = and_parts (is_written arities good params low) _ e in
        let more = and_parts (is_written arities good params high) (each_written arities good params ts) parts.1 in
        let rest = agree_right (uses_in low) (uses_in high ++ each_uses ts) same in
        let all = same_each good no_own n m sees ts more.1 (agree_right (uses_in high) (each_uses ts) rest) in
        λ i. value.Bool (quantified word (truths (all i) p))
    same_form good no_own n m sees (Form.Quantified word variable extents.Open low high ts) e same p =
        let parts = and_parts (is_written arities good params low) _ e in
        let more = and_parts (is_written arities good params high) (each_written arities (seen_inside extents.Open variable good) params ts) parts.1 in
        let rest = agree_right (uses_in low) (uses_in high ++ each_uses ts) same in
        let least = same_sense good no_own n m sees low parts.0 (agree_left (uses_in low) (uses_in high ++ each_uses ts) same) p in
        let most = same_sense good no_own n m sees high more.0 (agree_left (uses_in high) (each_uses ts) rest) p in
        let all = λ (z : ℤ). same_each (seen_inside extents.Open variable good) (none_inside extents.Open variable good no_own) (numbered n variable z) (numbered m variable z) (sees_more variable good n m z sees) ts more.1 (agree_right (uses_in high) (each_uses ts) rest) in
        λ i. value.Bool (quantified word (flat_map (λ z. truths (all z i) p) (numbers_between (number_of (least i)) (number_of (most i)))))

    pub same_each : (good : Parts) → HasNoOwn good → (n m : Numbers) → SeesSame good n m → (ts : ResolvedTrees) → each_written arities good params ts ≡ true → Agree (each_uses ts) → senses (a_with n) ts ≡ senses (b_with m) ts
    same_each good no_own n m sees ResolvedTrees.none e same = refl
    same_each good no_own n m sees (ResolvedTrees.one_more t ts) e same =
        let parts = and_parts (is_written arities good params t) (each_written arities good params ts) e in
        λ i. (λ p. same_sense good no_own n m sees t parts.0 (agree_left (uses_in t) (each_uses ts) same) p i) ∷ same_each good no_own n m sees ts parts.1 (agree_right (uses_in t) (each_uses ts) same) i

-- ---- bodies in one another

-- the value of a body, where there is one
abbrev body_sense : Senses → Option ResolvedTree → Sense
body_sense s (Some body) = sense s body
body_sense s None = nothing

module _ (variable : ℕ → Sense) (arities : List ℕ) (good : Parts) (no_own : HasNoOwn good) (bodies : List ResolvedTree) (ordered : AreOrdered arities good bodies) where
  -- what definitions are, where bodies stand in one another so often
  abbrev deep_definition : ℕ → ℕ → List Sense → Sense
  deep_definition zero k as' = nothing
  deep_definition (suc deep) k as' = body_sense (inside (record { variable = variable; parameter = λ k. nothing; own = λ k. nothing; definition = deep_definition deep; number = λ at. pos 0 }) as') (slice_get bodies k)

  abbrev deep_senses : ℕ → Senses
  deep_senses deep = record { variable = variable; parameter = λ k. nothing; own = λ k. nothing; definition = deep_definition deep; number = λ at. pos 0 }

  -- what such a definition that stands before a place is, it is at that depth
  at_depth : (s : Senses) → s.variable ≡ variable → AreBodies bodies s → (deep k : ℕ) → StandsBefore ordered.order deep k → s.definition k ≡ deep_definition deep k
  at_depth s variables are zero k stands = let before = stands.before in absurd (omega (arith, before))
  at_depth s variables are (suc deep) k stands =
      let is = body_there arities good bodies ordered (suc deep) k stands in
      let one : (as' : List Sense) (p : ℕ) → s.definition k as' p ≡ deep_definition (suc deep) k as' p =
      λ as' p. are k is.body is.there as' p
      ∙ (same_sense arities (get_or arities k 0) (inside s as') (inside (deep_senses deep) as') variables refl good no_own (λ at. pos 0) (λ at. pos 0) (λ at seen. refl) is.body (ordered.written.each k is.body is.there)
      (λ u used small. at_depth s variables are deep u (stands_earlier arities good bodies ordered deep k stands is u used small)) p
      ∙ sym (ap (λ found. body_sense (inside (deep_senses deep) as') found p) is.there)) in
      λ i as' p. one as' p i

  -- it is the same from that depth on
  deeper : (deep k : ℕ) → StandsBefore ordered.order deep k → deep_definition deep k ≡ deep_definition (suc deep) k
  deeper zero k stands = let before = stands.before in absurd (omega (arith, before))
  deeper (suc deep) k stands =
      let is = body_there arities good bodies ordered (suc deep) k stands in
      let body = λ (d : ℕ) (as' : List Sense) (p : ℕ). ap (λ found. body_sense (inside (deep_senses d) as') found p) is.there in
      let one : (as' : List Sense) (p : ℕ) → deep_definition (suc deep) k as' p ≡ deep_definition (suc (suc deep)) k as' p =
      λ as' p. body deep as' p
      ∙ (same_sense arities (get_or arities k 0) (inside (deep_senses deep) as') (inside (deep_senses (suc deep)) as') refl refl good no_own (λ at. pos 0) (λ at. pos 0) (λ at seen. refl) is.body (ordered.written.each k is.body is.there)
      (λ u used small. deeper deep u (stands_earlier arities good bodies ordered deep k stands is u used small)) p
      ∙ sym (body (suc deep) as' p)) in
      λ i as' p. one as' p i

  abbrev pub found_senses : Senses
  found_senses = deep_senses (length bodies)

  stands : (k : ℕ) → k < length bodies → StandsBefore ordered.order (length bodies) k
  stands k below = let size = ordered.written.size in stands_somewhere arities good bodies ordered k (omega (arith, below, size))

  pub are_bodies : (k : ℕ) (body : ResolvedTree) → slice_get bodies k ≡ Some body → k < length bodies → (as' : List Sense) (p : ℕ) → found_senses.definition k as' p ≡ sense (inside found_senses as') body p
  are_bodies k body there below as' p =
      (λ i. deeper (length bodies) k (stands k below) i as' p) ∙ ap (λ found. body_sense (inside found_senses as') found p) there

  pub only_found : (s : Senses) → s.variable ≡ variable → AreBodies bodies s → (k : ℕ) → k < length bodies → (as' : List Sense) (p : ℕ) → s.definition k as' p ≡ found_senses.definition k as' p
  only_found s variables are k below as' p = λ i. at_depth s variables are (length bodies) k (stands k below) i as' p
