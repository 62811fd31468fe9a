-- An expression with bodies for names has the value of the one that is written.
use Rattle.std.proofs.Common.{◌≡◌, ℕ, zero, suc, ◌+◌, ◌==◌, ◌<◌, nat_lt, ℤ, pos, Bool, true, false, ◌||◌, if◌then◌else◌, ◌⊎◌, inl, inr, List, [], ◌∷◌, ◌++◌, length, map, flat_map, get_or, Option, Some, None, refl, sym, ap, subst, ◌∙◌, arith}
use Rattle.std.specs.Prelude.{Contains, nat_abs}
use Rattle.std.specs.List.{list_any, list_all}
use Rattle.std.specs.Int.{int_rem_euclid}
use Rattle.std.proofs.lemmas.Bool.{false≢true, and_parts}
use Rattle.std.proofs.lemmas.Bool.Decides.{nat_tests}
use Rattle.std.proofs.lemmas.List.{length-map}
use Rattle.std.proofs.lemmas.List.Elements.{Contains-append_left, Contains-append_right}
use Rattle.spec_model.specs.declared.value.Value.TheVariants as value
use Rattle.spec_model.specs.Values.{truth_of, number_of}
use Rattle.spectra_resolved.specs.declared.spot.Spot.{Spot}
use Rattle.spectra_resolved.specs.declared.spot.Mark.{Mark}
use Rattle.spectra_resolved.specs.Spots.{same_place}
use Rattle.spectra_resolved.specs.declared.tree.Extent.TheVariants as extents
use Rattle.spectra_resolved.specs.declared.tree.Leaf.{Leaf}
use Rattle.spectra_resolved.specs.declared.tree.Leaf.TheVariants as leaf
use Rattle.spectra_resolved.specs.declared.tree.Hole.{Hole}
use Rattle.spectra_resolved.specs.declared.tree.Hole.TheVariants as hole
use Rattle.spectra_resolved.specs.Resolved.{ResolvedTree, tree, Form, ResolvedTrees, listed}
use Rattle.spectra_judge.specs.PutIn.{Parts, is_bound_at, seen_inside}
use Rattle.spectra_uses.specs.Uses.{uses_in, form_uses, each_uses}
use Rattle.spectra_uses.specs.Orders.{StandsBefore}
use Rattle.spectra_copies.specs.Places.{placed, marked}
use Rattle.spectra_copies.specs.Ranges.{numbers_between}
use Rattle.spectra_elaboration.specs.Putting.{Bodies, Put, leaf_put, filled, form_filled, each_filled, body_put, put_deep, with_bodies}
use Rattle.spectra_elaboration.specs.Written.{is_use, is_written_leaf, is_written, form_written, each_written}
use Rattle.spectra_types.specs.Senses.{Sense, Numbers, numbered, Senses, nothing, leaf_sense, prefix_sense, binary_sense, truths, quantified, sense, form_sense, senses}
use Rattle.spectra_types.proofs.Placed.{places_in, form_quantifiers, each_places, ArePlacedApart}
use Rattle.spectra_types.proofs.Places.{place_is}
use Rattle.spectra_types.proofs.Orders.{AreOrdered, AreBodies, IsThere, Uses, uses_directly, uses_through, body_there, stands_earlier, stands_somewhere, never_itself}
use Rattle.spectra_types.proofs.Deep.{HasNoOwn, none_inside, SeesSame, same_sense, same_each}

-- those of several are those of each
each_is : (s : Senses) (ts : ResolvedTrees) → map (λ t. sense s t) (listed ts) ≡ senses s ts
each_is s ResolvedTrees.none = refl
each_is s (ResolvedTrees.one_more t ts) = ap (λ as'. (λ p. sense s t p) ∷ as') (each_is s ts)

count_filled : (put : Put) (brought : Option Spot) (arguments : List ResolvedTree) (ts : ResolvedTrees) → length (listed (each_filled put brought arguments ts)) ≡ length (listed ts)
count_filled put brought arguments ResolvedTrees.none = refl
count_filled put brought arguments (ResolvedTrees.one_more t ts) = ap suc (count_filled put brought arguments ts)

-- an argument has the value of what stands for its parameter
argument_is : (s : Senses) (ts : List ResolvedTree) (k : ℕ) → k < length ts → (d : ResolvedTree) → sense s (get_or ts k d) ≡ get_or (map (λ t. sense s t) ts) k nothing
argument_is s [] k below d = absurd (omega (arith, below))
argument_is s (t ∷ ts) zero below d = refl
argument_is s (t ∷ ts) (suc k) below d = argument_is s ts k (omega (arith, below)) d

-- numbers that differ only at places of a set
abbrev AgreeOutside : (Spot → Type 0) → Numbers → Numbers → Type 0
AgreeOutside V n m = (at : Spot) → ((v : Spot) → V v → same_place v at ≡ false) → m at ≡ n at

numbered_agrees : (V : Spot → Type 0) (n m : Numbers) (variable : Spot) (z : ℤ) → V variable → AgreeOutside V n m → AgreeOutside V n (numbered m variable z)
numbered_agrees V n m variable z is same at out = by (same_place variable at) (out variable is)
  where
    by : (b : Bool) → b ≡ false → (if b then z else m at) ≡ n at
    by true e = absurd (false≢true (sym e))
    by false e = same at out

module _ (arities : List ℕ) (s : Senses) where
  abbrev with_numbers : Numbers → Senses
  with_numbers n = record s { number = n }

  -- expressions that have the same values where only numbers at places of a set change
  abbrev AreClear : (Spot → Type 0) → Numbers → List ResolvedTree → Type 0
  AreClear V n ts = (m : Numbers) → AgreeOutside V n m → map (λ t. sense (with_numbers m) t) ts ≡ map (λ t. sense (with_numbers n) t) ts

  -- the use of a definition, put in, has the value of the definition with such arguments
  abbrev PutsSense : (Spot → Type 0) → Put → ℕ → Type 0
  PutsSense V put k = (h : Hole) (at : Spot) (ts : List ResolvedTree) (n : Numbers) → length ts ≡ get_or arities k 0 → AreClear V n ts → (p : ℕ) →
      sense (with_numbers n) (put h k at ts) p ≡ s.definition k (map (λ t. sense (with_numbers n) t) ts) p

  -- `W` has the places of a body and of what it uses, and `V` those of what it uses
  module _ (put : Put) (brought : Option Spot) (arguments : List ResolvedTree) (params : ℕ) (around : ℕ → Sense) (W V : Spot → Type 0) (n0 : Numbers)
      (inner : (v : Spot) → V v → W v)
      (fits : (m : Numbers) → AgreeOutside W n0 m → (k : ℕ) → k < params → (d : ResolvedTree) → sense (with_numbers m) (get_or arguments k d) ≡ around k) where
    abbrev outer : Numbers → Senses
    outer n = record s { parameter = around; number = n }

    -- a definition that is used there is put in so, and its places and those that it uses are such
    record PutsOne (k : ℕ) : Type 1 where
      places : Spot → Type 0
      these : (v : Spot) → places v → V v
      puts : PutsSense places put k

    abbrev Puts : List ℕ → Type 1
    Puts used = (k : ℕ) → Contains used k → k < length arities → PutsOne k

    used_left : (us vs : List ℕ) → Puts (us ++ vs) → Puts us
    used_left us vs puts k in' below = puts k (Contains-append_left us vs k in') below

    used_right : (us vs : List ℕ) → Puts (us ++ vs) → Puts vs
    used_right us vs puts k in' below = puts k (Contains-append_right us vs k in') below

    -- the body's own places
    record IsOwn (w : Spot) : Type 0 where
      mine : W w
      apart : (v : Spot) → V v → same_place v w ≡ false

    abbrev AreOwn : List Spot → Type 0
    AreOwn places = (w : Spot) → Contains places w → IsOwn w

    own_left : (us vs : List Spot) → AreOwn (us ++ vs) → AreOwn us
    own_left us vs own w in' = own w (Contains-append_left us vs w in')

    own_right : (us vs : List Spot) → AreOwn (us ++ vs) → AreOwn vs
    own_right us vs own w in' = own w (Contains-append_right us vs w in')

    -- no place of what is used is seen there
    abbrev Unseen : Parts → Type 0
    Unseen good = (v : Spot) → V v → (at : Spot) → good.leaf (leaf.Bound at) ≡ true → same_place v at ≡ false

    unseen_inside : (variable : Spot) (good : Parts) → IsOwn variable → Unseen good → Unseen (seen_inside extents.Open variable good)
    unseen_inside variable good own unseen v is at seen = by (same_place at variable) refl seen
      where
        by : (b : Bool) → same_place at variable ≡ b → (b || good.leaf (leaf.Bound at)) ≡ true → same_place v at ≡ false
        by true same seen = ap (same_place v) (place_is at variable same) ∙ own.apart v is
        by false same seen = unseen v is at seen

    -- where a part may stand
    record Stands (good : Parts) : Type 0 where
      no_own : HasNoOwn good
      unseen : Unseen good

    stands_inside : (variable : Spot) (good : Parts) → IsOwn variable → Stands good → Stands (seen_inside extents.Open variable good)
    stands_inside variable good own stands = record { no_own = none_inside extents.Open variable good stands.no_own; unseen = unseen_inside variable good own stands.unseen }

    use_sense : (h : Hole) (k : ℕ) (at : Spot) (ts : List ResolvedTree) (many : ℕ) (n : Numbers) → is_use arities k many ≡ true → length ts ≡ many → ((below : k < length arities) → PutsOne k) →
        ((places : Spot → Type 0) → ((v : Spot) → places v → V v) → AreClear places n ts) →
        (p : ℕ) → sense (with_numbers n) (put h k at ts) p ≡ s.definition k (map (λ t. sense (with_numbers n) t) ts) p
    use_sense h k at ts many n use' size puts clear p =
        let parts = and_parts (nat_lt k (length arities)) (get_or arities k 0 == many) use' in
        let below : k < length arities = (let e = parts.0 in grind (arith, nat_tests)) in
        let is : get_or arities k 0 ≡ many = (let e = parts.1 in grind (arith, nat_tests)) in
        let one = puts below in
        one.puts h at ts n (size ∙ sym is) (clear one.places one.these) p

    leaf_filled : (good : Parts) (n : Numbers) → AgreeOutside W n0 n → (first : Spot) (at : Mark) (l : Leaf) → is_written_leaf arities good params l ≡ true → Puts (form_uses (Form.LeafOf l)) → (p : ℕ) →
        sense (with_numbers n) (leaf_put put arguments first at l) p ≡ leaf_sense (outer n) l p
    leaf_filled good n agrees first at (leaf.Define k) e puts p = use_sense hole.Anything k at.spot [] 0 n e refl (puts k (0, omega arith, refl)) (λ places these m same. refl) p
    leaf_filled good n agrees first at (leaf.Parameter k) e puts p = (let below : k < params = grind (arith, nat_tests) in λ i. fits n agrees k below (tree first at (Form.LeafOf (leaf.Parameter k))) i p)
    leaf_filled good n agrees first at (leaf.Truth b) e puts p = refl
    leaf_filled good n agrees first at (leaf.Number z) e puts p = refl
    leaf_filled good n agrees first at (leaf.EnumName k) e puts p = refl
    leaf_filled good n agrees first at (leaf.Variable k) e puts p = refl
    leaf_filled good n agrees first at (leaf.Own k) e puts p = refl
    leaf_filled good n agrees first at (leaf.Bound variable) e puts p = refl
    leaf_filled good n agrees first at (leaf.Hole h) e puts p = refl

    -- of numbers that change only at places of what is used
    further : (n m : Numbers) (places : Spot → Type 0) → ((v : Spot) → places v → V v) → AgreeOutside W n0 n → AgreeOutside places n m → AgreeOutside W n0 m
    further n m places these agrees same at out = same at (λ v is. out v (inner v (these v is))) ∙ agrees at out

    seen_same : (good : Parts) → Stands good → (n m : Numbers) (places : Spot → Type 0) → ((v : Spot) → places v → V v) → AgreeOutside places n m → SeesSame good m n
    seen_same good stands n m places these same at seen = same at (λ v is. stands.unseen v (these v is) at seen)

    mutual
      filled_sense : (good : Parts) → Stands good → (t : ResolvedTree) → is_written arities good params t ≡ true → Puts (uses_in t) → AreOwn (places_in t) → (n : Numbers) → AgreeOutside W n0 n → (p : ℕ) →
          sense (with_numbers n) (filled put brought arguments t) p ≡ sense (outer n) t p
      filled_sense good stands (tree first at form) e puts own n agrees p = form_is good stands (placed brought first) (marked brought at) form e puts own n agrees p

      form_is : (good : Parts) → Stands good → (first : Spot) (at : Mark) (form : Form) → form_written arities good params form ≡ true → Puts (form_uses form) → AreOwn (form_quantifiers form) → (n : Numbers) → AgreeOutside W n0 n → (p : ℕ) →
          sense (with_numbers n) (form_filled put brought arguments first at form) p ≡ form_sense (outer n) form p
      form_is good stands first at (Form.LeafOf l) e puts own n agrees p = leaf_filled good n agrees first at l e puts p
      form_is good stands first at (Form.PredicateOf k ts) e puts own n agrees p =
          let parts = and_parts (is_use arities k (length (listed ts))) (each_written arities good params ts) e in
          let made = each_filled put brought arguments ts in
          let rest = used_right (k ∷ []) (each_uses ts) puts in
          let is = each_sense good stands ts parts.1 rest own n agrees in
          use_sense hole.Truth k at.spot (listed made) (length (listed ts)) n parts.0 (count_filled put brought arguments ts) (puts k (0, omega arith, refl))
          (λ places these m same.
          each_is (with_numbers m) made
          ∙ (each_sense good stands ts parts.1 rest own m (further n m places these agrees same)
          ∙ (same_each arities params (outer n) (outer n) refl refl good stands.no_own m n (seen_same good stands n m places these same) ts parts.1 (λ u used small. refl)
          ∙ (sym is ∙ sym (each_is (with_numbers n) made)))))
          p
          ∙ ap (λ as'. s.definition k as' p) (each_is (with_numbers n) made ∙ is)
      form_is good stands first at (Form.MisuseOf m ts) e puts own n agrees p = absurd (false≢true e)
      form_is good stands first at (Form.Next t) e puts own n agrees p = filled_sense good stands t e puts own n agrees (suc p)
      form_is good stands first at (Form.Prefix word t) e puts own n agrees p = λ i. prefix_sense word (λ q. filled_sense good stands t e puts own n agrees q i) p
      form_is good stands first at (Form.Binary word a b) e puts own n agrees p =
          let parts = and_parts (is_written arities good params a) (is_written arities good params b) e in
          λ i. binary_sense word (λ q. filled_sense good stands a parts.0 (used_left (uses_in a) (uses_in b) puts) (own_left (places_in a) (places_in b) own) n agrees q i)
          (λ q. filled_sense good stands b parts.1 (used_right (uses_in a) (uses_in b) puts) (own_right (places_in a) (places_in b) own) n agrees q i) p
      form_is good stands first at (Form.Mod t number_at m) e puts own n agrees p = λ i. value.Int (int_rem_euclid (number_of (filled_sense good stands t e puts own n agrees p i)) m)
      form_is good stands first at (Form.And ts operators) e puts own n agrees p = λ i. value.Bool (list_all (λ b. b) (truths (each_sense good stands ts e puts own n agrees i) p))
      form_is good stands first at (Form.Or ts operators) e puts own n agrees p = λ i. value.Bool (list_any (λ b. b) (truths (each_sense good stands ts e puts own n agrees i) p))
      form_is good stands first at (Form.Index array count t) e puts own n agrees p =
          let parts = and_parts (good.array array count) (is_written arities good params t) e in
          λ i. s.variable (array + nat_abs (number_of (filled_sense good stands t parts.1 puts own n agrees p i))) p
      form_is good stands first at (Form.Quantified word variable extents.Wrong low high ts) e puts own n agrees p = refl
      form_is good stands first at (Form.Quantified word variable extents.Right low high ts) e puts own n agrees p =
          let parts = and_parts (is_written arities good params low) _ e in
          let more = and_parts (is_written arities good params high) (each_written arities good params ts) parts.1 in
          let rest = used_right (uses_in high) (each_uses ts) (used_right (uses_in low) (uses_in high ++ each_uses ts) puts) in
          let places = own_right (places_in high) (each_places ts) (own_right (places_in low) (places_in high ++ each_places ts) (own_right (variable ∷ []) (places_in low ++ (places_in high ++ each_places ts)) own)) in
          let all = each_sense good stands ts more.1 rest places n agrees in
          λ i. value.Bool (quantified word (truths (all i) p))
      form_is good stands first at (Form.Quantified word variable extents.Open low high ts) e puts own n agrees p =
          let parts = and_parts (is_written arities good params low) _ e in
          let more = and_parts (is_written arities good params high) (each_written arities (seen_inside extents.Open variable good) params ts) parts.1 in
          let rest = used_right (uses_in low) (uses_in high ++ each_uses ts) puts in
          let here = own variable (0, omega arith, refl) in
          let places = own_right (variable ∷ []) (places_in low ++ (places_in high ++ each_places ts)) own in
          let later = own_right (places_in low) (places_in high ++ each_places ts) places in
          let least = filled_sense good stands low parts.0 (used_left (uses_in low) (uses_in high ++ each_uses ts) puts) (own_left (places_in low) (places_in high ++ each_places ts) places) n agrees p in
          let most = filled_sense good stands high more.0 (used_left (uses_in high) (each_uses ts) rest) (own_left (places_in high) (each_places ts) later) n agrees p in
          let all = λ (z : ℤ). each_sense (seen_inside extents.Open variable good) (stands_inside variable good here stands) ts more.1 (used_right (uses_in high) (each_uses ts) rest)
          (own_right (places_in high) (each_places ts) later) (numbered n variable z) (numbered_agrees W n0 n variable z here.mine agrees) in
          λ i. value.Bool (quantified word (flat_map (λ z. truths (all z i) p) (numbers_between (number_of (least i)) (number_of (most i)))))

      each_sense : (good : Parts) → Stands good → (ts : ResolvedTrees) → each_written arities good params ts ≡ true → Puts (each_uses ts) → AreOwn (each_places ts) → (n : Numbers) → AgreeOutside W n0 n →
          senses (with_numbers n) (each_filled put brought arguments ts) ≡ senses (outer n) ts
      each_sense good stands ResolvedTrees.none e puts own n agrees = refl
      each_sense good stands (ResolvedTrees.one_more t ts) e puts own n agrees =
          let parts = and_parts (is_written arities good params t) (each_written arities good params ts) e in
          λ i. (λ p. filled_sense good stands t parts.0 (used_left (uses_in t) (each_uses ts) puts) (own_left (places_in t) (each_places ts) own) n agrees p i)
          ∷ each_sense good stands ts parts.1 (used_right (uses_in t) (each_uses ts) puts) (own_right (places_in t) (each_places ts) own) n agrees i

  -- ---- bodies in one another

  module _ (good : Parts) (no_own : HasNoOwn good) (closed : (at : Spot) → good.leaf (leaf.Bound at) ≡ false) (bodies : List ResolvedTree) (ordered : AreOrdered arities good bodies) (means : AreBodies bodies s)
      (apart : (j k : ℕ) (a : IsThere bodies j) (b : IsThere bodies k) → (j ≡ k → ⊥) → ArePlacedApart a.body b.body) where
    abbrev b : Bodies
    b = map (λ body. Some body) bodies

    abbrev UsesOf : ℕ → ℕ → Type 0
    UsesOf k u = Uses arities good bodies ordered k u

    -- the places of what a definition uses, and its own
    record IsBelow (k : ℕ) (v : Spot) : Type 0 where
      user : ℕ
      uses : UsesOf k user
      there : IsThere bodies user
      place : Contains (places_in there.body) v

    data IsTaken (k : ℕ) (v : Spot) : Type 0 where
      itself : (is : IsThere bodies k) → Contains (places_in is.body) v → IsTaken k v
      among_used : IsBelow k v → IsTaken k v

    taken_below : (k u : ℕ) (is : IsThere bodies k) → Contains (uses_in is.body) u → u < length arities → (v : Spot) → IsTaken u v → IsBelow k v
    taken_below k u is used small v (itself there at) = record { user = u; uses = uses_directly arities good bodies ordered k u is used small; there = there; place = at }
    taken_below k u is used small v (among_used more) = record { user = more.user; uses = uses_through arities good bodies ordered k u more.user is used small more.uses; there = more.there; place = more.place }

    deep_sense : (deep k : ℕ) → StandsBefore ordered.order deep k → PutsSense (IsTaken k) (put_deep deep b) k
    deep_sense zero k stands h at ts n size clear p = let before = stands.before in absurd (omega (arith, before))
    deep_sense (suc deep) k stands h at ts n size clear p =
        let as' = map (λ t. sense (with_numbers n) t) ts in
        let params = get_or arities k 0 in
        let is = body_there arities good bodies ordered (suc deep) k stands in
        let below = ordered.within stands.at k stands.there in
        let fits : (m : Numbers) → AgreeOutside (IsTaken k) n m → (j : ℕ) → j < params → (d : ResolvedTree) → sense (with_numbers m) (get_or ts j d) ≡ get_or as' j nothing =
        λ m same j small d. argument_is (with_numbers m) ts j (omega (arith, small, size)) d ∙ ap (λ (as' : List Sense). get_or as' j nothing) (clear m same) in
        let base : Senses = record s { parameter = λ j. get_or as' j nothing } in
        let written = ordered.written.each k is.body is.there in
        let other : (u : ℕ) → UsesOf k u → u ≡ k → ⊥ = λ u uses same. never_itself arities good bodies ordered k below (subst (UsesOf k) same uses) in
        subst (λ body. sense (with_numbers n) (body_put (put_deep deep b) h at ts body) p ≡ s.definition k as' p) (sym is.given)
        (filled_sense (put_deep deep b) (Some at) ts params (λ j. get_or as' j nothing) (IsTaken k) (IsBelow k) n (λ v more. among_used more) fits
        good (record { no_own = no_own; unseen = λ v more at seen. absurd (false≢true (sym (closed at) ∙ seen)) }) is.body written
        (λ u used small.
        record {
          places = IsTaken u;
          these = taken_below k u is used small;
          puts = deep_sense deep u (stands_earlier arities good bodies ordered deep k stands is u used small);
        })
        (λ w place. record { mine = itself is place; apart = λ v more. apart more.user k more.there is (other more.user more.uses) v w more.place place })
        n (λ at out. refl) p
        ∙ (same_sense arities params base base refl refl good no_own n (λ at. pos 0) (λ at seen. absurd (false≢true (sym (closed at) ∙ seen))) is.body written (λ u used small. refl) p
        ∙ sym (means k is.body is.there as' p)))

    -- in a line nothing stands for parameters
    pub line_sense : (t : ResolvedTree) → is_written arities good 0 t ≡ true → ((k : ℕ) (is : IsThere bodies k) → ArePlacedApart is.body t) → (p : ℕ) → sense s (with_bodies b t) p ≡ sense s t p
    line_sense t e away p =
        let many = length-map bodies (λ (body : ResolvedTree). Some body) in
        filled_sense (put_deep (length b) b) None [] 0 s.parameter (λ v. Unit {0}) (λ v. (k : ℕ) × (is : IsThere bodies k) × Contains (places_in is.body) v) s.number (λ v is. tt)
        (λ m same j small d. absurd (omega (arith, small)))
        good (record { no_own = no_own; unseen = λ v is at seen. absurd (false≢true (sym (closed at) ∙ seen)) }) t e
        (λ u used small.
        record {
          places = IsTaken u;
          these = from_taken u;
          puts = subst (λ count. PutsSense (IsTaken u) (put_deep count b) u) (sym many) (deep_sense (length bodies) u (stands_somewhere arities good bodies ordered u small));
        })
        (λ w place. record { mine = tt; apart = λ v is. away is.0 is.1 v w is.2 place })
        s.number (λ at out. refl) p
      where
        from_taken : (u : ℕ) (v : Spot) → IsTaken u v → (k : ℕ) × (is : IsThere bodies k) × Contains (places_in is.body) v
        from_taken u v (itself is at) = (u, is, at)
        from_taken u v (among_used more) = (more.user, more.there, more.place)
