-- Which sets are named at a moment.
use Rattle.std.proofs.Common.{◌≡◌, ℕ, zero, suc, ◌≤◌, ◌<◌, List, [], ◌∷◌, map, length, get_or, Vec, vec_len, ap, sym, ◌∙◌, refl, subst, arith}
use Rattle.std.proofs.lemmas.List.{get_or-map}
use Rattle.std.specs.declared.alloc.Global.{Global}
use Rattle.spec_model.specs.Games.{GameData}
use Rattle.spec_model.specs.Steps.{below, states_of}
use Rattle.spec_model.specs.Sets.{StateSet, no_states, rest}
use Rattle.regions.specs.Kept.{Kept, Item, Meaning, weight, HasRegion, IsExact}
use Rattle.gr1_law.specs.Layers.{assumption_set, goal_sets, assumption_sets, union}
use Rattle.gr1_sys.specs.declared.givens.SysSets.{SysSets}
use Rattle.gr1_sys.specs.declared.givens.SysSets.TheVariants.{Goals, Lapses}
use Rattle.gr1_sys.specs.Solution.{iterate, greatest_of, part_of, layer_of, meet}
use Rattle.gr1_sys.specs.Held.{waiting, part_at, set_at, rank_sets, flatten, sets_of}
use Rattle.gr1_sys.specs.Givens.{wanted, given_sets}
use Rattle.gr1_sys.specs.Moment.{IsGoal, IsAssumption, IsNamed, iterated, nothing, goal, lapse, joined, part, common, part_iterate, base_of}
use Rattle.gr1_sys.specs.Told.{AreOfPart, AreLapses}
use Rattle.gr1_sys.proofs.Lists.{set_kept, length_map, length_below}
use Rattle.gr1_sys.proofs.Parted.{union_same, get_or-map_below}
use Rattle.gr1_sys.proofs.Waits.{waiting_is}
use Rattle.gr1_sys.proofs.Turned.{meet-same}
use Rattle.gr1_sys.proofs.Told.{AreNamed, named-append, named_below}

module _ (g : GameData) (z : StateSet) where
  -- a part of a layer is the last iterate
  pub part_named : (j r i : ℕ) → IsGoal g j → IsAssumption g i → IsNamed g z (part_of g z (layer_of g z j r) j i)
  unfolding greatest_of
  part_named j r i goal_in index_in = iterated (part j r i (length (states_of g)) goal_in index_in refl)

  -- ---- the layers

  pub rank_named : (j r : ℕ) → IsGoal g j → AreNamed g z (rank_sets g z j r)
  rank_named j r goal_in = (joined j r (length (assumption_sets g)) goal_in (omega arith) refl, named_below g z (part_of g z (layer_of g z j r) j) (length (assumption_sets g)) (λ i before. part_named j r i goal_in before))

  pub flatten_named : (sets : ℕ → List StateSet) (n : ℕ) → ((r : ℕ) → AreNamed g z (sets r)) → AreNamed g z (flatten sets n)
  flatten_named sets zero each = tt
  flatten_named sets (suc n) each = named-append g z (sets 0) (flatten (λ r. sets (suc r)) n) (each 0) (flatten_named (λ r. sets (suc r)) n (λ r. each (suc r)))

  goals_named : {X : Type 0} (sets : ℕ → ℕ → List StateSet) (vs : List (Vec X Global)) → ((j r : ℕ) → j < length vs → AreNamed g z (sets j r)) → AreNamed g z (sets_of sets vs)
  goals_named sets [] each = tt
  goals_named sets (v ∷ vs) each =
      named-append g z (flatten (sets 0) (vec_len v)) (sets_of (λ j. sets (suc j)) vs) (flatten_named (sets 0) (vec_len v) (λ r. each 0 r (omega arith))) (goals_named (λ j. sets (suc j)) vs (λ j r before. each (suc j) r (omega (arith, before))))

  -- those of some of the goals, from the first on
  pub layers_named : {X : Type 0} (vs : List (Vec X Global)) → length vs ≤ length (goal_sets g) → AreNamed g z (sets_of (rank_sets g z) vs)
  layers_named vs few = goals_named (rank_sets g z) vs (λ j r before. rank_named j r (omega (arith, few, before)))

  -- ---- what is given

  mapped_named : (f : StateSet → StateSet) (ss : List StateSet) → ((i : ℕ) → i < length ss → IsNamed g z (f (get_or ss i no_states))) → AreNamed g z (map f ss)
  mapped_named f [] each = tt
  mapped_named f (s ∷ ss) each = (each 0 (omega arith), mapped_named f ss (λ i before. each (suc i) (omega (arith, before))))

  list_named : (ss : List StateSet) → ((i : ℕ) → i < length ss → IsNamed g z (get_or ss i no_states)) → AreNamed g z ss
  list_named [] each = tt
  list_named (s ∷ ss) each = (each 0 (omega arith), list_named ss (λ i before. each (suc i) (omega (arith, before))))

  pub wanted_named : (kind : SysSets) → AreNamed g z (wanted g kind)
  wanted_named Goals = list_named (goal_sets g) (λ j before. goal j before refl)
  wanted_named Lapses = mapped_named (rest g) (assumption_sets g) (λ i before. lapse i before refl)

  pub given_named : AreNamed g z (given_sets g)
  given_named = named-append g z (wanted g Goals) (no_states ∷ wanted g Lapses) (wanted_named Goals) (nothing refl, wanted_named Lapses)

  one_named : (ss : List StateSet) → AreNamed g z ss → (i : ℕ) → IsNamed g z (get_or ss i no_states)
  one_named [] named i = nothing refl
  one_named (s ∷ ss) named zero = named.0
  one_named (s ∷ ss) named (suc i) = one_named ss named.1 i

  pub some_wanted : (kind : SysSets) (n : ℕ) → AreNamed g z (map (λ i. get_or (wanted g kind) i no_states) (below n))
  some_wanted kind n = named_below g z (λ i. get_or (wanted g kind) i no_states) n (λ i before. one_named (wanted g kind) (wanted_named kind) i)

  -- ---- the parts of a layer

  -- the iterates of a part's equation, as the solver has it
  pub part_iterated : (j r i n : ℕ) (base away t : StateSet) → AreOfPart g z j r i base away → t ≡ iterate g (waiting g base away) n → t ≡ part_iterate g z j r i n
  part_iterated j r i n base away t are is =
      is ∙ (ap (λ b. iterate g (waiting g b away) n) are.base_is ∙ (ap (λ l. iterate g (waiting g (base_of g z j r) l) n) are.away_is ∙ ap (λ f. iterate g f n) (waiting_is g z (layer_of g z j r) j i)))

  -- so is the greatest set
  pub part_is : (j r i : ℕ) (base away : StateSet) → base ≡ base_of g z j r → away ≡ rest g (assumption_set g i) → greatest_of g (waiting g base away) ≡ part_of g z (layer_of g z j r) j i
  part_is j r i base away base_is away_is =
      ap (λ b. greatest_of g (waiting g b away)) base_is ∙ (ap (λ l. greatest_of g (waiting g (base_of g z j r) l)) away_is ∙ ap (greatest_of g) (waiting_is g z (layer_of g z j r) j i))

  -- the states of some parts together
  pub union_named : (sets : ℕ → StateSet) (j r m n : ℕ) → IsGoal g j → n ≤ length (assumption_sets g) → ((i : ℕ) → i < n → sets i ≡ part_of g z (layer_of g z j r) j i) → m ≤ n → IsNamed g z (union sets m)
  union_named sets j r m n goal_in few are within = joined j r m goal_in (omega (arith, few, within)) (union_same sets (part_of g z (layer_of g z j r) j) m (λ i before. are i (omega arith)))

  -- the states in the last layers of some goals
  pub meet_named : (sets : ℕ → StateSet) (m n : ℕ) → n ≤ length (goal_sets g) → ((j : ℕ) → j < n → sets j ≡ layer_of g z j (length (states_of g))) → m ≤ n → IsNamed g z (meet g sets m)
  meet_named sets m n few are within = common m (omega (arith, few, within)) (meet-same g sets (λ j. layer_of g z j (length (states_of g))) m (λ j before. are j (omega arith)))

module _ {R M : Type 0} where
  -- the base and the lapse of a part stay while others come and go
  pub part_still : (first k : Kept R M) (z : StateSet) (j r i : ℕ) (base away : R) → IsExact k → k.game ≡ first.game → ((w : Item R M → Meaning → ℕ) → weight first w ≤ weight k w) → HasRegion first base → HasRegion first away →
      AreOfPart first.game z j r i (first.set base) (first.set away) → AreOfPart k.game z j r i (k.set base) (k.set away)
  part_still first k z j r i base away exact game more has_base has_lapse are =
      record {
        goal_in = subst (λ h. IsGoal h j) (sym game) are.goal_in;
        index_in = subst (λ h. IsAssumption h i) (sym game) are.index_in;
        base_is = set_kept first k base exact more has_base ∙ (are.base_is ∙ ap (λ h. base_of h z j r) (sym game));
        away_is = set_kept first k away exact more has_lapse ∙ (are.away_is ∙ ap (λ h. rest h (assumption_set h i)) (sym game));
      }

  -- there is a lapse for each assumption
  pub lapse_count : (k : Kept R M) (lapses : List R) → AreLapses k.game (map k.set lapses) → length lapses ≡ length (assumption_sets k.game)
  lapse_count k lapses are = sym (length_map k.set lapses) ∙ (ap (λ (ss : List StateSet). length ss) are ∙ length_map (rest k.game) (assumption_sets k.game))

  -- one of the lapses, with the base
  pub lapse_at : (k : Kept R M) (lapses : List R) (i : ℕ) → AreLapses k.game (map k.set lapses) → i < length lapses → set_at k lapses i ≡ rest k.game (assumption_set k.game i)
  lapse_at k lapses i are before =
      let counted = lapse_count k lapses are in
      ap (λ ss. get_or ss i no_states) are ∙ get_or-map (rest k.game) (assumption_sets k.game) i no_states no_states (omega (arith, counted, before))

  pub parts_are : (k : Kept R M) (z : StateSet) (j r : ℕ) (base : R) (lapses : List R) → k.set base ≡ base_of k.game z j r → AreLapses k.game (map k.set lapses) → (i : ℕ) → i < length lapses →
      part_at k base lapses i ≡ part_of k.game z (layer_of k.game z j r) j i
  parts_are k z j r base lapses base_is are i before = part_is k.game z j r i (k.set base) (set_at k lapses i) base_is (lapse_at k lapses i are before)

  pub parts_named : (k : Kept R M) (z : StateSet) (j r : ℕ) (base : R) (lapses : List R) (n : ℕ) → IsGoal k.game j → k.set base ≡ base_of k.game z j r → AreLapses k.game (map k.set lapses) → n ≤ length lapses →
      AreNamed k.game z (map (part_at k base lapses) (below n))
  parts_named k z j r base lapses n goal_in base_is are within =
      let counted = lapse_count k lapses are in
      named_below k.game z (part_at k base lapses) n
      (λ i before. subst (IsNamed k.game z) (sym (parts_are k z j r base lapses base_is are i (omega (arith, before, within)))) (part_named k.game z j r i goal_in (omega (arith, before, within, counted))))

  -- one of the regions of a list whose sets are numbered
  pub set_of_list : (k : Kept R M) (rs : List R) (f : ℕ → StateSet) (n : ℕ) → map k.set rs ≡ map f (below n) → (i : ℕ) → i < length rs → set_at k rs i ≡ f i
  set_of_list k rs f n are i before =
      let counted : length rs ≡ n = sym (length_map k.set rs) ∙ (ap (λ (ss : List StateSet). length ss) are ∙ (length_map f (below n) ∙ length_below n)) in
      ap (λ ss. get_or ss i no_states) are ∙ get_or-map_below f n i (omega (arith, counted, before))
