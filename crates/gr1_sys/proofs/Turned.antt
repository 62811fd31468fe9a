-- The layers of all goals for one value of Z, and the value that follows.
use Rattle.std.proofs.Common.{◌≡◌, ℕ, zero, suc, ◌+◌, ◌-◌, ◌≤◌, ◌<◌, ◌⊎◌, inl, inr, List, [], ◌∷◌, ◌++◌, map, length, get_or, slice_index, None, Vec, vec_len, ap, sym, ◌∙◌, refl, subst, arith}
use Rattle.std.proofs.lemmas.List.{append-nil, append_assoc, get_or-map, map-append, get_or_append_left, get_or-append_right}
use Rattle.std.specs.declared.alloc.Global.{Global}
use Rattle.spec_model.specs.Games.{GameData}
use Rattle.spec_model.specs.Steps.{below, states_of}
use Rattle.spec_model.specs.Sets.{StateSet, no_states, both, pre_sys}
use Rattle.regions.specs.Kept.{Kept, Item, Region, Meaning, weight, HasRegion, MakesRegion, Spends, IsExact, IsSameGame}
use Rattle.regions.proofs.Holding.{set_is}
use Rattle.gr1_law.specs.Layers.{goal_sets, goal_set, assumption_sets, IsLeastNumber}
use Rattle.gr1_sys.specs.declared.layers.SysLayer.{SysLayer}
use Rattle.gr1_sys.specs.declared.givens.Given.{Given}
use Rattle.gr1_sys.specs.Solution.{part_of, layer_of, meet, following}
use Rattle.gr1_sys.specs.Held.{MakesRegions, HasEach, IsGiven, rank_sets, flatten, sets_of, ranks_of, layer_regions, goal_regions, all_regions, last_region, last_set, HaveParts, AllHaveParts, HasClimbed, HaveClimbed, TurnsTo}
use Rattle.gr1_sys.proofs.Lists.{length_map, length_below, length_push, length_both, as_held, set_kept, set_at_is, makes_both, each_append, one_of, weight_as-more}
use Rattle.gr1_sys.proofs.Parted.{nothing_made, made_above}
use Rattle.gr1_sys.proofs.Popped.{all_regions-push}
use Rattle.gr1_sys.proofs.Winning.{layer_of-last}

less_or_last : (i n : ℕ) → i < n + 1 → (i < n) ⊎ (i ≡ n)
less_or_last i n before = grind (arith, before)

pub meet-same : (g : GameData) (f h : ℕ → StateSet) (n : ℕ) → ((i : ℕ) → i < n → f i ≡ h i) → meet g f n ≡ meet g h n
meet-same g f h zero same = refl
meet-same g f h (suc n) same = ap (λ t. both t (f n)) (meet-same g f h n (λ i before. same i (omega arith))) ∙ ap (λ t. both (meet g h n) t) (same n (omega arith))

sets_of-push : {X : Type 0} (sets : ℕ → ℕ → List StateSet) (vs : List (Vec X Global)) (v : Vec X Global) → sets_of sets (vs ++ v ∷ []) ≡ sets_of sets vs ++ flatten (sets (length vs)) (vec_len v)
sets_of-push sets [] v = append-nil (flatten (sets 0) (vec_len v))
sets_of-push sets (first ∷ vs) v =
    let next : suc (length vs) ≡ length (first ∷ vs) = omega arith in
    ap (λ ss. flatten (sets 0) (vec_len first) ++ ss) (sets_of-push (λ j. sets (suc j)) vs v) ∙
    (sym (append_assoc (flatten (sets 0) (vec_len first)) (sets_of (λ j. sets (suc j)) vs) (flatten (sets (suc (length vs))) (vec_len v))) ∙
    ap (λ n. (flatten (sets 0) (vec_len first) ++ sets_of (λ j. sets (suc j)) vs) ++ flatten (sets n) (vec_len v)) next)

-- two lists of one length that agree with others behind them agree
pub split_same : {X : Type 0} (front back cs ds : List X) → length front ≡ length cs → front ++ back ≡ cs ++ ds → (front ≡ cs) × (back ≡ ds)
split_same [] back [] ds e same = (refl, same)
split_same [] back (c ∷ cs) ds e same = absurd (omega arith)
split_same (a ∷ front) back [] ds e same = absurd (omega arith)
split_same (a ∷ front) back (c ∷ cs) ds e same =
    let tails : front ++ back ≡ cs ++ ds = cc in
    let heads : a ≡ c = cc in
    let rest = split_same front back cs ds (omega arith) tails in
    (ap (λ x. x ∷ front) heads ∙ ap (λ xs. c ∷ xs) rest.0, rest.1)

module _ {R M : Type 0} where
  -- a region that others were made above is still held
  pub above_held : (k k1 k2 : Kept R M) (r : R) (s : StateSet) (rs : List R) (ss : List StateSet) → MakesRegion k k1 r s → MakesRegions k1 k2 rs ss → HasRegion k2 r
  above_held k k1 k2 r s rs ss made above w = omega (arith, made.held (λ i m. w i), above.held (λ i m. w i))

  pub reach_is : (k k1 : Kept R M) (reach goal ready : R) (z : StateSet) (j : ℕ) → IsExact k1 → IsSameGame k k1 → MakesRegion k k1 reach (both (k.set goal) (k.set ready)) →
      k.set goal ≡ goal_set k.game j → k.set ready ≡ pre_sys k.game z → k1.set reach ≡ both (goal_set k1.game j) (pre_sys k1.game z)
  reach_is k k1 reach goal ready z j exact same made goal_is ready_is =
      set_is k1 reach (both (k.set goal) (k.set ready)) exact (λ w. omega (arith, made.held w)) ∙
      (ap (λ t. both t (k.set ready)) goal_is ∙ (ap (λ t. both (goal_set k.game j) t) ready_is ∙ ap (λ h. both (goal_set h j) (pre_sys h z)) (sym same.game)))

  pub ready_is : (k k1 : Kept R M) (ready : R) (z : StateSet) → IsExact k1 → IsSameGame k k1 → MakesRegion k k1 ready (pre_sys k.game z) → k1.set ready ≡ pre_sys k1.game z
  ready_is k k1 ready z exact same made = set_is k1 ready (pre_sys k.game z) exact (λ w. omega (arith, made.held w)) ∙ ap (λ h. pre_sys h z) (sym same.game)

module _ {G R M : Type 0} where
  pub climbed_above : (g : GameData) (k k1 k2 k3 : Kept R M) (reach : R) (s : StateSet) (z : StateSet) (j : ℕ) (ls : List (SysLayer G R M)) → IsExact k2 → k1.game ≡ g → MakesRegion k k1 reach s →
      HasClimbed k1.game k1 k2 z j ls → Spends k2 k3 (Region reach) → HasClimbed g k k3 z j ls
  climbed_above g k k1 k2 k3 reach s z j ls exact same made climbed gone =
      subst (λ h. HasClimbed h k k3 z j ls) same
      (record { made = made_above k k1 k2 k3 reach s (goal_regions ls) (flatten (rank_sets k1.game z j) (length ls)) exact made climbed.made gone; parts = climbed.parts; greatest = climbed.greatest })

  pub all_climbed_above : (g : GameData) (k k1 k2 k3 : Kept R M) (ready : R) (s : StateSet) (z : StateSet) (goals : List (Vec (SysLayer G R M) Global)) → IsExact k2 → k1.game ≡ g → MakesRegion k k1 ready s →
      HaveClimbed k1.game k1 k2 z goals → Spends k2 k3 (Region ready) → HaveClimbed g k k3 z goals
  all_climbed_above g k k1 k2 k3 ready s z goals exact same made climbed gone =
      subst (λ h. HaveClimbed h k k3 z goals) same
      (record { made = made_above k k1 k2 k3 ready s (all_regions goals) (sets_of (rank_sets k1.game z) goals) exact made climbed.made gone; parts = climbed.parts; greatest = climbed.greatest })

  -- ---- goal by goal

  pub none_climbed : (k : Kept R M) (z : StateSet) (goals : List (Vec (SysLayer G R M) Global)) → goals ≡ [] → k.jam ≡ None → HaveClimbed k.game k k z goals
  none_climbed k z goals e free =
      subst (λ (vs : List (Vec (SysLayer G R M) Global)). HaveClimbed k.game k k z vs) (sym e)
      (record { made = nothing_made k [] refl free; parts = tt; greatest = λ j below. absurd (omega (arith, below)) })

  AllHaveParts-push : (m : ℕ) (vs : List (Vec (SysLayer G R M) Global)) (v : Vec (SysLayer G R M) Global) → AllHaveParts m vs → HaveParts m v.items → AllHaveParts m (vs ++ v ∷ [])
  AllHaveParts-push m [] v all parts = (parts, tt)
  AllHaveParts-push m (first ∷ vs) v all parts = (all.0, AllHaveParts-push m vs v all.1 parts)

  pub more_climbed : (g : GameData) (first k new : Kept R M) (z : StateSet) (vs : List (Vec (SysLayer G R M) Global)) (v : Vec (SysLayer G R M) Global) → HaveClimbed g first k z vs →
      HasClimbed g k new z (length vs) v.items → HaveClimbed g first new z (vs ++ v ∷ [])
  more_climbed g first k new z vs v climbed last =
      record {
        made = subst (λ (rs : List R). MakesRegions first new rs (sets_of (rank_sets g z) (vs ++ v ∷ []))) (sym (all_regions-push vs v))
            (subst (MakesRegions first new (all_regions vs ++ goal_regions v.items)) (sym (sets_of-push (rank_sets g z) vs v))
            (makes_both first k new (all_regions vs) (goal_regions v.items) (sets_of (rank_sets g z) vs) (flatten (rank_sets g z (length vs)) (vec_len v)) climbed.made counted_made));
        parts = AllHaveParts-push (length (assumption_sets g)) vs v climbed.parts last.parts;
        greatest = λ j before. by_place j (less_or_last j (length vs) (omega (arith, before, length_push vs v)));
      }
    where
      counted : length v.items ≡ vec_len v
      counted = omega arith

      counted_made : MakesRegions k new (goal_regions v.items) (flatten (rank_sets g z (length vs)) (vec_len v))
      counted_made = subst (λ n. MakesRegions k new (goal_regions v.items) (flatten (rank_sets g z (length vs)) n)) counted last.made

      by_place : (j : ℕ) → (j < length vs) ⊎ (j ≡ length vs) → IsLeastNumber (λ r. layer_of g z j r ≡ layer_of g z j (suc r)) (slice_index (ranks_of (vs ++ v ∷ [])) j)
      by_place j (inl before) =
          subst (IsLeastNumber (λ r. layer_of g z j r ≡ layer_of g z j (suc r)))
          (sym (ap (λ ns. get_or ns j 0) (map-append vec_len vs (v ∷ [])) ∙ get_or_append_left (map vec_len vs) (vec_len v ∷ []) 0 j (omega (arith, before, length_map vec_len vs)))) (climbed.greatest j before)
      by_place j (inr here) =
          let place : j - length vs ≡ 0 = omega arith in
          subst (IsLeastNumber (λ r. layer_of g z j r ≡ layer_of g z j (suc r)))
          (sym (ap (λ ns. get_or ns j 0) (map-append vec_len vs (v ∷ [])) ∙ (get_or-append_right (map vec_len vs) (vec_len v ∷ []) (length vs) j 0 (length_map vec_len vs) (omega arith) ∙ ap (λ n. get_or (vec_len v ∷ []) n 0) place)))
          (subst (λ i. IsLeastNumber (λ r. layer_of g z i r ≡ layer_of g z i (suc r)) (vec_len v)) (sym here) (subst (IsLeastNumber (λ r. layer_of g z (length vs) r ≡ layer_of g z (length vs) (suc r))) counted last.greatest))

  pub each_goal : (k : Kept R M) (vs : List (Vec (SysLayer G R M) Global)) (i : ℕ) (d : Vec (SysLayer G R M) Global) → HasEach k (all_regions vs) → i < length vs → HasEach k (goal_regions (get_or vs i d).items)
  each_goal k [] i d each before = absurd (omega arith)
  each_goal k (v ∷ vs) zero d each before = (each_append k (goal_regions v.items) (all_regions vs) each).0
  each_goal k (v ∷ vs) (suc i) d each before = each_goal k vs i d (each_append k (goal_regions v.items) (all_regions vs) each).1 (omega arith)

  -- ---- the last layers

  -- the regions of layers that each have so many parts are as many as their sets
  regions_counted : (f : R → StateSet) (y : ℕ → StateSet) (x : ℕ → List StateSet) (m : ℕ) → ((r : ℕ) → length (x r) ≡ m) → (ls : List (SysLayer G R M)) → HaveParts m ls →
      length (map f (goal_regions ls)) ≡ length (flatten (λ r. y r ∷ x r) (length ls))
  regions_counted f y x m each [] parts = refl
  regions_counted f y x m each (l ∷ ls) parts =
      let rest = regions_counted f (λ r. y (suc r)) (λ r. x (suc r)) m (λ r. each (suc r)) ls parts.1 in
      omega (arith, rest, parts.0, each 0, length_map f (goal_regions (l ∷ ls)), length_map f (goal_regions ls), length_both (layer_regions l) (goal_regions ls), length_both (y 0 ∷ x 0) (flatten (λ r. y (suc r) ∷ x (suc r)) (length ls)))

  last_stands : (f : R → StateSet) (none : R) (y : ℕ → StateSet) (x : ℕ → List StateSet) (m : ℕ) → ((r : ℕ) → length (x r) ≡ m) → f none ≡ y 0 → (ls : List (SysLayer G R M)) → HaveParts m ls →
      map f (goal_regions ls) ≡ flatten (λ r. y (suc r) ∷ x r) (length ls) → f (last_region none ls) ≡ y (length ls)
  last_stands f none y x m each first [] parts are = first
  last_stands f none y x m each first (l ∷ ls) parts are =
      let split = split_same (f l.y ∷ map f l.x.items) (map f (goal_regions ls)) (y 1 ∷ x 0) (flatten (λ r. y (suc (suc r)) ∷ x (suc r)) (length ls)) (omega (arith, parts.0, each 0, length_map f l.x.items)) (sym (map-append f (layer_regions l) (goal_regions ls)) ∙ are) in
      let y_is : f l.y ≡ y 1 = cc (split.0) in
      last_stands f l.y (λ r. y (suc r)) (λ r. x (suc r)) m (λ r. each (suc r)) y_is ls parts.1 split.1

  pub goal_stands : (f : R → StateSet) (y : ℕ → ℕ → StateSet) (x : ℕ → ℕ → List StateSet) (m : ℕ) → ((j r : ℕ) → length (x j r) ≡ m) → (vs : List (Vec (SysLayer G R M) Global)) → AllHaveParts m vs →
      map f (all_regions vs) ≡ sets_of (λ j r. y j r ∷ x j r) vs → (i : ℕ) (d : Vec (SysLayer G R M) Global) → i < length vs →
      HaveParts m (get_or vs i d).items × (map f (goal_regions (get_or vs i d).items) ≡ flatten (λ r. y i r ∷ x i r) (vec_len (get_or vs i d)))
  goal_stands f y x m each [] parts are i d before = absurd (omega arith)
  goal_stands f y x m each (v ∷ vs) parts are i d before =
      at i before (split_same (map f (goal_regions v.items)) (map f (all_regions vs)) (flatten (λ r. y 0 r ∷ x 0 r) (vec_len v)) (sets_of (λ j r. y (suc j) r ∷ x (suc j) r) vs)
      (regions_counted f (y 0) (x 0) m (each 0) v.items parts.0 ∙ ap (λ n. length (flatten (λ r. y 0 r ∷ x 0 r) n)) counted) (sym (map-append f (goal_regions v.items) (all_regions vs)) ∙ are))
      (λ k rest. goal_stands f (λ j. y (suc j)) (λ j. x (suc j)) m (λ j. each (suc j)) vs parts.1 rest k d)
    where
      counted : length v.items ≡ vec_len v
      counted = omega arith

      at : (i : ℕ) → i < length (v ∷ vs) → (map f (goal_regions v.items) ≡ flatten (λ r. y 0 r ∷ x 0 r) (vec_len v)) × (map f (all_regions vs) ≡ sets_of (λ j r. y (suc j) r ∷ x (suc j) r) vs) →
          ((k : ℕ) → map f (all_regions vs) ≡ sets_of (λ j r. y (suc j) r ∷ x (suc j) r) vs → k < length vs → HaveParts m (get_or vs k d).items × (map f (goal_regions (get_or vs k d).items) ≡ flatten (λ r. y (suc k) r ∷ x (suc k) r) (vec_len (get_or vs k d)))) →
          HaveParts m (get_or (v ∷ vs) i d).items × (map f (goal_regions (get_or (v ∷ vs) i d).items) ≡ flatten (λ r. y i r ∷ x i r) (vec_len (get_or (v ∷ vs) i d)))
      at zero before split rest = (parts.0, split.0)
      at (suc k) before split rest = rest k split.1 (omega arith)

  -- the set of a goal's last layer
  pub last_set_is : (k : Kept R M) (none : R) (vs : List (Vec (SysLayer G R M) Global)) (i : ℕ) (v : Vec (SysLayer G R M) Global) → i < length vs → v ≡ get_or vs i v → last_set k none vs i ≡ k.set (last_region none v.items)
  last_set_is k none vs i v before is =
      get_or-map (λ (v : Vec (SysLayer G R M) Global). k.set (last_region none v.items)) vs i v no_states before ∙ ap (λ (v : Vec (SysLayer G R M) Global). k.set (last_region none v.items)) (sym is)

  pub last_set_stands : (g : GameData) (k : Kept R M) (none : R) (z : StateSet) (vs : List (Vec (SysLayer G R M) Global)) → k.set none ≡ no_states → AllHaveParts (length (assumption_sets g)) vs →
      map k.set (all_regions vs) ≡ sets_of (rank_sets g z) vs → ((j : ℕ) → j < length vs → IsLeastNumber (λ r. layer_of g z j r ≡ layer_of g z j (suc r)) (slice_index (ranks_of vs) j)) →
      (j : ℕ) → (v : Vec (SysLayer G R M) Global) → j < length vs → last_set k none vs j ≡ layer_of g z j (length (states_of g))
  last_set_stands g k none z vs empty parts are greatest j v before =
      let stands = goal_stands k.set (λ j r. layer_of g z j (suc r)) (λ j r. map (part_of g z (layer_of g z j r) j) (below (length (assumption_sets g)))) (length (assumption_sets g)) (λ j r. length_map (part_of g z (layer_of g z j r) j) (below (length (assumption_sets g))) ∙ length_below (length (assumption_sets g))) vs parts are j v before in
      get_or-map (λ (v : Vec (SysLayer G R M) Global). k.set (last_region none v.items)) vs j v no_states before ∙
      (last_stands k.set none (layer_of g z j) (λ r. map (part_of g z (layer_of g z j r) j) (below (length (assumption_sets g)))) (length (assumption_sets g)) (λ r. length_map (part_of g z (layer_of g z j r) j) (below (length (assumption_sets g))) ∙ length_below (length (assumption_sets g))) empty (get_or vs j v).items stands.0
      (subst (λ n. map k.set (goal_regions (get_or vs j v).items) ≡ flatten (rank_sets g z j) n) (counted (get_or vs j v)) stands.1) ∙
      (ap (layer_of g z j) (sym (counted (get_or vs j v)) ∙ sym (get_or-map vec_len vs j v 0 before)) ∙ layer_of-last g z j (slice_index (ranks_of vs) j) (greatest j before).here))
    where
      counted : (v : Vec (SysLayer G R M) Global) → vec_len v ≡ length v.items
      counted v = omega arith

  -- likewise, once the layers of all goals are made
  pub last_sets_stand : (g : GameData) (first k : Kept R M) (none : R) (z : StateSet) (goals : List (Vec (SysLayer G R M) Global)) → IsExact k → k.set none ≡ no_states → HaveClimbed g first k z goals →
      (j : ℕ) → j < length goals → last_set k none goals j ≡ layer_of g z j (length (states_of g))
  last_sets_stand g first k none z goals exact empty climbed j before = by_goals goals refl
    where
      by_goals : (vs : List (Vec (SysLayer G R M) Global)) → goals ≡ vs → last_set k none goals j ≡ layer_of g z j (length (states_of g))
      by_goals [] e = absurd (omega (arith, before, ap (λ (vs : List (Vec (SysLayer G R M) Global)). length vs) e))
      by_goals (v ∷ vs) e =
          last_set_stands g k none z goals empty climbed.parts (as_held k (all_regions goals) (sets_of (rank_sets g z) goals) exact climbed.made.counted (λ w. omega (arith, climbed.made.held w))) climbed.greatest j v before

  -- the layers of a turn with the value that follows
  pub turns_to : (k k1 k2 : Kept R M) (none : R) (z : StateSet) (goals : List (Vec (SysLayer G R M) Global)) (next : R) → IsExact k1 → k1.game ≡ k.game → k1.set none ≡ no_states →
      HaveClimbed k.game k k1 z goals → length goals ≡ length (goal_sets k.game) → MakesRegion k1 k2 next (meet k1.game (last_set k1 none goals) (length goals)) → TurnsTo k k2 z goals next
  turns_to k k1 k2 none z goals next exact same empty climbed counted met =
      let met_is : meet k1.game (last_set k1 none goals) (length goals) ≡ following k.game z =
      ap (λ h. meet h (last_set k1 none goals) (length goals)) same ∙ (ap (meet k.game (last_set k1 none goals)) counted ∙
      meet-same k.game (last_set k1 none goals) (λ j. layer_of k.game z j (length (states_of k.game))) (length (goal_sets k.game)) (λ j before. last_sets_stand k.game k k1 none z goals exact empty climbed j (omega (arith, before, counted)))) in
      let made : MakesRegion k1 k2 next (following k.game z) = subst (MakesRegion k1 k2 next) met_is met in
      record {
        made = record {
          held = λ w. omega (arith, made.held w, climbed.made.held w, weight_as-more next (all_regions goals) (following k.game z) (sets_of (rank_sets k.game z) goals) w);
          counted = (let e = climbed.made.counted in omega arith);
          jam = made.jam;
        };
        parts = climbed.parts;
        counted = counted;
        greatest = climbed.greatest;
      }

  -- one of the goals that are given
  pub goal_is : (first k : Kept R M) (given : Given G R M) (listed : List R) (item : R) (i : ℕ) → IsExact k → IsSameGame first k → ((w : Item R M → Meaning → ℕ) → weight first w ≤ weight k w) → IsGiven first given →
      listed ≡ given.goals.items → i < length listed → item ≡ get_or listed i item → HasRegion first item × (k.set item ≡ goal_set k.game i)
  goal_is first k given listed item i exact same more is_given e before is =
      let goals_is : length listed ≡ length given.goals.items = ap (λ (rs : List R). length rs) e in
      let within : i < length given.goals.items = omega (arith, before, goals_is) in
      let item_is = is ∙ ap (λ (rs : List R). get_or rs i item) e in
      let here = one_of first given.goals.items i item is_given.goals within item_is in
      (here, set_kept first k item exact more here ∙ (sym (set_at_is first given.goals.items i item within item_is) ∙ (ap (λ ss. get_or ss i no_states) is_given.goal_sets ∙ ap (λ h. goal_set h i) (sym same.game))))
