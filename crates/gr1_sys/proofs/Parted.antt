-- The parts of a layer as lists, and as the equations have them.
use Rattle.std.proofs.Common.{◌≡◌, ℕ, zero, suc, ◌+◌, ◌-◌, ◌≤◌, ◌<◌, ◌⊎◌, inl, inr, List, [], ◌∷◌, ◌++◌, map, length, get_or, slice_get, Some, None, ap, sym, ◌∙◌, refl, subst, arith}
use Rattle.std.proofs.lemmas.List.{get_or-map, map-append, get_or_append_left, get_or-append_right}
use Rattle.spec_model.specs.Steps.{below}
use Rattle.spec_model.specs.Sets.{StateSet, no_states, both, either, rest, pre_sys}
use Rattle.regions.specs.Kept.{Kept, Item, Region, Meaning, weight, HoldsBesides, MakesRegion, Spends, IsExact, IsSameGame}
use Rattle.regions.proofs.Holding.{set_is, spent}
use Rattle.gr1_law.specs.Layers.{goal_set, assumption_set, goal_sets, assumption_sets, union}
use Rattle.gr1_sys.specs.declared.layers.SysLayer.{SysLayer}
use Rattle.gr1_sys.specs.declared.givens.Given.{Given}
use Rattle.gr1_sys.specs.Solution.{greatest_of, part_of, layer_of}
use Rattle.gr1_sys.specs.Held.{weight_as, MakesRegions, set_at, part_at, waiting, layer_sets, rank_sets, last_region, IsGiven}
use Rattle.gr1_sys.proofs.Lists.{length_map, length_below, as_held, sets_stay, weight_as-more, region_stays, set_kept, each_stays}
use Rattle.gr1_sys.proofs.Waits.{waiting_is}

-- ---- numbered sets as a list

pub map_below-more : {X : Type 0} (f : ℕ → X) (n : ℕ) → map f (below (n + 1)) ≡ map f (below n) ++ f n ∷ []
map_below-more f n = let next : n + 1 ≡ suc n = omega arith in ap (λ m. map f (below m)) next ∙ map-append f (below n) (n ∷ [])

less_or_last : (i n : ℕ) → i < suc n → (i < n) ⊎ (i ≡ n)
less_or_last i n before = grind (arith, before)

pub get_or-map_below : (f : ℕ → StateSet) (n i : ℕ) → i < n → get_or (map f (below n)) i no_states ≡ f i
get_or-map_below f zero i before = absurd (omega arith)
get_or-map_below f (suc n) i before =
    ap (λ ss. get_or ss i no_states) (map-append f (below n) (n ∷ [])) ∙ by_place (less_or_last i n before) (λ earlier. get_or-map_below f n i earlier)
  where
    counted : length (map f (below n)) ≡ n
    counted = length_map f (below n) ∙ length_below n

    by_place : (i < n) ⊎ (i ≡ n) → (i < n → get_or (map f (below n)) i no_states ≡ f i) → get_or (map f (below n) ++ f n ∷ []) i no_states ≡ f i
    by_place (inl earlier) before = get_or_append_left (map f (below n)) (f n ∷ []) no_states i (omega (arith, counted, earlier)) ∙ before earlier
    by_place (inr last) before =
        get_or-append_right (map f (below n)) (f n ∷ []) n i no_states counted (omega arith) ∙ (let first : i - n ≡ 0 = omega arith in ap (λ m. get_or (f n ∷ []) m no_states) first ∙ ap f (sym last))

pub union_same : (f h : ℕ → StateSet) (n : ℕ) → ((i : ℕ) → i < n → f i ≡ h i) → union f n ≡ union h n
union_same f h zero same = refl
union_same f h (suc n) same = ap (λ t. either t (f n)) (union_same f h n (λ i before. same i (omega arith))) ∙ ap (λ t. either (union h n) t) (same n (omega arith))

pub map_below-same : (f h : ℕ → StateSet) (n : ℕ) → ((i : ℕ) → i < n → f i ≡ h i) → map f (below n) ≡ map h (below n)
map_below-same f h zero same = refl
map_below-same f h (suc n) same =
    map-append f (below n) (n ∷ []) ∙ (ap (λ ts. ts ++ f n ∷ []) (map_below-same f h n (λ i before. same i (omega arith))) ∙ (ap (λ t. map h (below n) ++ t ∷ []) (same n (omega arith)) ∙ sym (map-append h (below n) (n ∷ []))))

pub layer_sets-same : (f h : ℕ → StateSet) (n : ℕ) → ((i : ℕ) → i < n → f i ≡ h i) → layer_sets f n ≡ layer_sets h n
layer_sets-same f h n same = ap (λ t. t ∷ map f (below n)) (union_same f h n same) ∙ ap (λ ts. union h n ∷ ts) (map_below-same f h n same)

module _ {R M : Type 0} where
  pub nothing_made : (k : Kept R M) (rs : List R) → rs ≡ [] → k.jam ≡ None → MakesRegions k k rs []
  unfolding weight_as
  nothing_made k rs e free = subst (λ (qs : List R). MakesRegions k k qs []) (sym e) (record { held = λ w. omega arith; counted = refl; jam = free })

  -- a layer from its parts and their union
  pub layer_made : (k k1 k2 : Kept R M) (xs : List R) (y : R) (f : ℕ → StateSet) (m : ℕ) → IsExact k1 → MakesRegions k k1 xs (map f (below m)) →
      MakesRegion k1 k2 y (union (set_at k1 xs) (length xs)) → MakesRegions k k2 (y ∷ xs) (layer_sets f m)
  layer_made k k1 k2 xs y f m exact parts joined =
      let sets_are = as_held k1 xs (map f (below m)) exact parts.counted (λ w. omega (arith, parts.held w)) in
      let counted : length xs ≡ m = parts.counted ∙ (length_map f (below m) ∙ length_below m) in
      let union_is : union (set_at k1 xs) (length xs) ≡ union f m =
      ap (λ ss. union (λ i. get_or ss i no_states) (length xs)) sets_are ∙ (ap (λ n. union (λ i. get_or (map f (below m)) i no_states) n) counted ∙ union_same (λ i. get_or (map f (below m)) i no_states) f m (λ i before. get_or-map_below f m i before)) in
      let made : MakesRegion k1 k2 y (union f m) = subst (λ t. MakesRegion k1 k2 y t) union_is joined in
      record {
        held = λ w. omega (arith, made.held w, parts.held w, weight_as-more y xs (union f m) (map f (below m)) w);
        counted = (let e = parts.counted in omega arith);
        jam = made.jam;
      }

  -- regions were made above one that is spent
  pub made_above : (k k1 k2 k3 : Kept R M) (base : R) (b : StateSet) (rs : List R) (ss : List StateSet) → IsExact k2 → MakesRegion k k1 base b → MakesRegions k1 k2 rs ss → Spends k2 k3 (Region base) → MakesRegions k k3 rs ss
  made_above k k1 k2 k3 base b rs ss exact made above gone =
      let left = spent k2 k3 base b exact gone (λ w. omega (arith, above.held w, made.held w)) in
      record { held = λ w. omega (arith, left w, above.held w, made.held w); counted = above.counted; jam = gone.jam ∙ above.jam }

  pub halted_above : (k k1 k2 k3 : Kept R M) (base : R) (b : StateSet) → IsExact k2 → MakesRegion k k1 base b → HoldsBesides k1 k2 [] → Spends k2 k3 (Region base) → HoldsBesides k k3 []
  halted_above k k1 k2 k3 base b exact made halted gone =
      let left = spent k2 k3 base b exact gone (λ w. omega (arith, halted w, made.held w)) in
      λ w. omega (arith, left w, halted w, made.held w)

module _ {G R M : Type 0} where
  -- the parts of a layer are those of the equations
  pub rank_made : (k k1 : Kept R M) (base reach low : R) (given : Given G R M) (z : StateSet) (j r : ℕ) → IsExact k1 → IsSameGame k k1 → IsGiven k given →
      MakesRegion k k1 base (either (pre_sys k.game (k.set low)) (k.set reach)) →
      k.set reach ≡ both (goal_set k.game j) (pre_sys k.game z) → k.set low ≡ layer_of k.game z j r →
      layer_sets (part_at k1 base given.lapses.items) (length given.lapses.items) ≡ rank_sets k.game z j r
  rank_made k k1 base reach low given z j r exact same is_given made reach_is low_is =
      ap (layer_sets (part_at k1 base given.lapses.items)) counted ∙ layer_sets-same (part_at k1 base given.lapses.items) (part_of k.game z (layer_of k.game z j r) j) (length (assumption_sets k.game)) each
    where
      more : (w : Item R M → Meaning → ℕ) → weight k w ≤ weight k1 w
      more w = omega (arith, made.held w)

      lapse_sets : map k1.set given.lapses.items ≡ map (rest k.game) (assumption_sets k.game)
      lapse_sets = sets_stay k k1 given.lapses.items exact more is_given.lapses ∙ is_given.lapse_sets

      counted : length given.lapses.items ≡ length (assumption_sets k.game)
      counted = sym (length_map k1.set given.lapses.items) ∙ (ap (λ (ss : List StateSet). length ss) lapse_sets ∙ length_map (rest k.game) (assumption_sets k.game))

      base_is : k1.set base ≡ either (pre_sys k.game (layer_of k.game z j r)) (both (goal_set k.game j) (pre_sys k.game z))
      base_is =
          set_is k1 base (either (pre_sys k.game (k.set low)) (k.set reach)) exact (λ w. omega (arith, made.held w)) ∙
          (ap (λ t. either (pre_sys k.game t) (k.set reach)) low_is ∙ ap (λ t. either (pre_sys k.game (layer_of k.game z j r)) t) reach_is)

      each : (i : ℕ) → i < length (assumption_sets k.game) → part_at k1 base given.lapses.items i ≡ part_of k.game z (layer_of k.game z j r) j i
      each i before =
          let lapse_is : set_at k1 given.lapses.items i ≡ rest k.game (assumption_set k.game i) =
          ap (λ ss. get_or ss i no_states) lapse_sets ∙ get_or-map (rest k.game) (assumption_sets k.game) i no_states no_states before in
          ap (λ h. greatest_of h (waiting h (k1.set base) (set_at k1 given.lapses.items i))) same.game ∙
          (ap (λ t. greatest_of k.game (waiting k.game t (set_at k1 given.lapses.items i))) base_is ∙
          (ap (λ t. greatest_of k.game (waiting k.game (either (pre_sys k.game (layer_of k.game z j r)) (both (goal_set k.game j) (pre_sys k.game z))) t)) lapse_is ∙
          ap (greatest_of k.game) (waiting_is k.game z (layer_of k.game z j r) j i)))

  pub given_counted : (k : Kept R M) (given : Given G R M) → IsGiven k given → length given.lapses.items ≡ length (assumption_sets k.game)
  given_counted k given is_given = sym (length_map k.set given.lapses.items) ∙ (ap (λ (ss : List StateSet). length ss) is_given.lapse_sets ∙ length_map (rest k.game) (assumption_sets k.game))

  -- what is given stays
  pub given_stays : (old new : Kept R M) (given : Given G R M) → IsExact new → IsSameGame old new → ((w : Item R M → Meaning → ℕ) → weight old w ≤ weight new w) → IsGiven old given → IsGiven new given
  given_stays old new given exact same more is_given =
      record {
        none = region_stays old new given.none more is_given.none;
        empty = set_kept old new given.none exact more is_given.none ∙ is_given.empty;
        goals = each_stays old new given.goals.items more is_given.goals;
        goal_sets = sets_stay old new given.goals.items exact more is_given.goals ∙ (is_given.goal_sets ∙ ap goal_sets (sym same.game));
        lapses = each_stays old new given.lapses.items more is_given.lapses;
        lapse_sets = sets_stay old new given.lapses.items exact more is_given.lapses ∙ (is_given.lapse_sets ∙ ap (λ h. map (rest h) (assumption_sets h)) (sym same.game));
      }

  -- the last layer of some
  pub last_region_is : (none : R) (first : SysLayer G R M) (ls : List (SysLayer G R M)) (n : ℕ) → n ≡ length ls → (l : SysLayer G R M) → Some l ≡ slice_get (first ∷ ls) n → l.y ≡ last_region none (first ∷ ls)
  last_region_is none first [] zero e l is = let same : l ≡ first = cc in ap (λ (s : SysLayer G R M). s.y) same
  last_region_is none first [] (suc n) e l is = absurd (omega arith)
  last_region_is none first (next ∷ ls) zero e l is = absurd (omega arith)
  last_region_is none first (next ∷ ls) (suc n) e l is = last_region_is first.y next ls n (omega arith) l is

  pub last_region_found : (none : R) (ls : List (SysLayer G R M)) (l : SysLayer G R M) → Some l ≡ slice_get ls (length ls - 1) → l.y ≡ last_region none ls
  last_region_found none [] l is = cc
  last_region_found none (first ∷ ls) l is = last_region_is none first ls (length (first ∷ ls) - 1) (omega arith) l is
