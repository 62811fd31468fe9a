-- The lists of moves by number: layer by layer, goal by goal, assumption by assumption.
use Rattle.std.proofs.Common.{◌≡◌, ℕ, zero, suc, ◌+◌, ◌*◌, ◌≤◌, ◌<◌, List, [], ◌∷◌, ◌++◌, map, length, get_or, slice_get, Vec, vec_len, Some, refl, sym, ap, ◌∙◌, subst, arith}
use Rattle.std.proofs.lemmas.List.{map-append}
use Rattle.std.proofs.lemmas.Nat.{mul-le}
use Rattle.std.proofs.Math.Nat.{add-mul, mul_assoc, suc-mul, zero-mul}
use Rattle.std.specs.declared.alloc.Global.{Global}
use Rattle.spec_model.specs.Steps.{below}
use Rattle.spec_model.specs.Sets.{StateSet, no_states}
use Rattle.regions.specs.declared.types.When.{When}
use Rattle.regions.specs.declared.types.When.TheVariants.{Later}
use Rattle.regions.specs.Kept.{Kept, Item, Move, Meaning, Inputs, weight, IsHeldAs}
use Rattle.gr1_sys.proofs.Parted.{get_or-map_below}
use Rattle.gr1_env.specs.declared.layers.EnvGoal.{EnvGoal}
use Rattle.gr1_env.specs.declared.layers.EnvLayer.{EnvLayer}
use Rattle.gr1_env.specs.Held.{gather, list_regions}
use Rattle.gr1_env.specs.Solved.{goal_counts, counts_of}
use Rattle.gr1_env.proofs.Counting.{mapped_at}
use Rattle.strategy_parts.specs.Owned.{weight_as, move_items}
use Rattle.strategy_parts.proofs.Owning.{length_map, length_both, weight_as-append, weight_as-more}
use Rattle.counterstrategy.specs.Forced.{MovesLead}
use Rattle.counterstrategy.specs.Owned.{list_items, goal_lists, all_lists, AreLike}

-- ---- several lists, one behind the other

get_front : {X : Type 0} (xs ys : List X) (i : ℕ) → i < length xs → slice_get (xs ++ ys) i ≡ slice_get xs i
get_front [] ys i below = absurd (omega arith)
get_front (x ∷ xs) ys zero below = refl
get_front (x ∷ xs) ys (suc i) below = get_front xs ys i (omega arith)

get_back : {X : Type 0} (xs ys : List X) (i : ℕ) → slice_get (xs ++ ys) (length xs + i) ≡ slice_get ys i
get_back [] ys i = ap (λ n. slice_get ys n) (let e : zero + i ≡ i = omega arith in e)
get_back (x ∷ xs) ys i = ap (λ n. slice_get (x ∷ (xs ++ ys)) n) (let e : length (x ∷ xs) + i ≡ suc (length xs + i) = omega arith in e) ∙ get_back xs ys i

module _ {X Y : Type 0} (f : X → List Y) (c : ℕ) where
  -- each element gives as many
  abbrev pub AreEqual : List X → Type 0
  AreEqual xs = (i : ℕ) (x : X) → slice_get xs i ≡ Some x → length (f x) ≡ c

  pub gathered_count : (xs : List X) → AreEqual xs → length (gather (λ n. f) xs) ≡ length xs * c
  gathered_count [] equal = sym (zero-mul c)
  gathered_count (x ∷ xs) equal =
      let rest = gathered_count xs (λ i. equal (suc i)) in
      let first = equal 0 x refl in
      let more = suc-mul (length xs) c in
      let both = length_both (f x) (gather (λ n. f) xs) in
      omega (arith, both, rest, first, more)

  pub gathered_at : (xs : List X) → AreEqual xs → (a : ℕ) (x : X) → slice_get xs a ≡ Some x → (i : ℕ) → i < c → slice_get (gather (λ n. f) xs) (a * c + i) ≡ slice_get (f x) i
  gathered_at [] equal a x is i inner = cc
  gathered_at (y ∷ xs) equal zero x is i inner =
      let same : y ≡ x = cc in
      let first = equal 0 y refl in
      let none = zero-mul c in
      let place : zero * c + i ≡ i = omega (arith, none) in
      ap (λ n. slice_get (f y ++ gather (λ n. f) xs) n) place ∙ (get_front (f y) (gather (λ n. f) xs) i (omega (arith, first, inner)) ∙ ap (λ z. slice_get (f z) i) same)
  gathered_at (y ∷ xs) equal (suc a) x is i inner =
      let first = equal 0 y refl in
      let more = suc-mul a c in
      let place : suc a * c + i ≡ length (f y) + (a * c + i) = omega (arith, first, more) in
      ap (λ n. slice_get (f y ++ gather (λ n. f) xs) n) place ∙ (get_back (f y) (gather (λ n. f) xs) (a * c + i) ∙ gathered_at xs (λ i. equal (suc i)) a x is i inner)

-- ---- the lists of iterates

flat : (a j i goals asms : ℕ) → (a * goals + j) * asms + i ≡ a * (goals * asms) + (j * asms + i)
flat a j i goals asms =
    let split = add-mul (a * goals) j asms in
    let assoc = mul_assoc a goals asms in
    omega (arith, split, assoc)

inside : (j i goals asms : ℕ) → j < goals → i < asms → j * asms + i < goals * asms
inside j i goals asms j_in i_in =
    let most = mul-le (suc j) asms goals asms (omega arith) (omega arith) in
    let more = suc-mul j asms in
    omega (arith, most, more)

module _ {G R M : Type 0} (ls : List (EnvLayer G R M)) (goals asms : ℕ) (layers_equal : (a : ℕ) (l : EnvLayer G R M) → slice_get ls a ≡ Some l → length l.goals.items ≡ goals)
    (holds_equal : (a j : ℕ) (l : EnvLayer G R M) (e : EnvGoal G R M) → slice_get ls a ≡ Some l → slice_get l.goals.items j ≡ Some e → length e.x.items ≡ asms) where
  lists_equal : (a : ℕ) (l : EnvLayer G R M) → slice_get ls a ≡ Some l → length (goal_lists l.goals.items) ≡ goals * asms
  lists_equal a l is =
      gathered_count (λ (e : EnvGoal G R M). e.x.items) asms l.goals.items (λ j e e_is. holds_equal a j l e is e_is) ∙ ap (λ n. n * asms) (layers_equal a l is)

  -- the list of an assumption of a goal of a layer stands where it is looked for
  pub list_at : (a j i : ℕ) (l : EnvLayer G R M) (e : EnvGoal G R M) → slice_get ls a ≡ Some l → slice_get l.goals.items j ≡ Some e → j < goals → i < asms → slice_get (all_lists ls) ((a * goals + j) * asms + i) ≡ slice_get e.x.items i
  list_at a j i l e l_is e_is j_in i_in =
      ap (λ n. slice_get (all_lists ls) n) (flat a j i goals asms)
      ∙ (gathered_at (λ (l : EnvLayer G R M). goal_lists l.goals.items) (goals * asms) ls lists_equal a l l_is (j * asms + i) (inside j i goals asms j_in i_in)
      ∙ gathered_at (λ (e : EnvGoal G R M). e.x.items) asms l.goals.items (λ j e e_is. holds_equal a j l e l_is e_is) j e e_is i i_in)

module _ {G R M : Type 0} where
  -- how many iterates there are, by number
  pub counts_are : (ls : List (EnvLayer G R M)) (a j : ℕ) (l : EnvLayer G R M) (e : EnvGoal G R M) → slice_get ls a ≡ Some l → slice_get l.goals.items j ≡ Some e → counts_of ls (suc a) j ≡ map (λ (v : Vec R Global). vec_len v) e.x.items
  counts_are ls a j l e l_is e_is =
      ap (λ ns. get_or ns j []) (mapped_at (λ (l : EnvLayer G R M). goal_counts l.goals.items) [] ls a l l_is)
      ∙ mapped_at (λ (e : EnvGoal G R M). map (λ (v : Vec R Global). vec_len v) e.x.items) [] l.goals.items j e e_is

-- ---- the moves of one list

module _ {R M : Type 0} where
  pub moves_held : (new : Kept R M) (when : When) (ms : List M) (ss : List StateSet) (sets : ℕ → StateSet) → length ms ≡ length ss → ((w : Item R M → Meaning → ℕ) → weight_as (move_items ms) (map (Inputs when) ss) w ≤ weight new w) →
      ((i : ℕ) → i < length ss → get_or ss i no_states ≡ sets i) → MovesLead new when ms sets
  moves_held new when [] ss sets e held are = tt
  moves_held new when (m ∷ ms) [] sets e held are = absurd (omega arith)
  moves_held new when (m ∷ ms) (s ∷ ss) sets e held are = (
    subst (λ (t : StateSet). IsHeldAs new (Move m) (Inputs when t)) (are 0 (omega arith)) (λ w. omega (arith, held w, weight_as-more (Move m) (move_items ms) (Inputs when s) (map (Inputs when) ss) w)),
    moves_held new when ms ss (λ i. sets (suc i)) (omega arith) (λ w. omega (arith, held w, weight_as-more (Move m) (move_items ms) (Inputs when s) (map (Inputs when) ss) w)) (λ i below. are (suc i) (omega (arith, below))),
  )

-- one list of moves is as long as its list of regions, and held as those into its sets
pub record IsListFor {R M : Type 0} (old new : Kept R M) (c : Vec M Global) (v : Vec R Global) : Type 0 where
  pub counted : length c.items ≡ length v.items
  pub held : (w : Item R M → Meaning → ℕ) → weight_as (move_items c.items) (map (Inputs Later) (map old.set v.items)) w ≤ weight new w

module _ {R M : Type 0} (old new : Kept R M) where
  abbrev list_meanings : List (Vec R Global) → List Meaning
  list_meanings vs = map (Inputs Later) (map old.set (list_regions vs))

  pub lists_counted : (cs : List (Vec M Global)) (vs : List (Vec R Global)) → AreLike cs vs → length (list_items {R = R} cs) ≡ length (list_regions vs)
  lists_counted [] [] like = refl
  lists_counted [] (v ∷ vs) like = absurd like
  lists_counted (c ∷ cs) [] like = absurd like
  lists_counted (c ∷ cs) (v ∷ vs) like =
      let rest = lists_counted cs vs like.1 in
      let here = like.0 in
      let moves : length (move_items {R = R} c.items) ≡ length c.items = length_map {X = M} {Y = Item R M} Move c.items in
      omega (arith, rest, here, moves, length_both (move_items {R = R} c.items) (list_items cs), length_both v.items (list_regions vs))

  pub meant_counted : (rs : List R) → length (map (Inputs Later) (map old.set rs)) ≡ length rs
  meant_counted rs = length_map {X = StateSet} {Y = Meaning} (Inputs Later) (map old.set rs) ∙ length_map {X = R} {Y = StateSet} old.set rs

  split_lists : (c : Vec M Global) (cs : List (Vec M Global)) (v : Vec R Global) (vs : List (Vec R Global)) → length c.items ≡ length v.items → (w : Item R M → Meaning → ℕ) →
      weight_as (list_items (c ∷ cs)) (list_meanings (v ∷ vs)) w ≡ weight_as (move_items c.items) (map (Inputs Later) (map old.set v.items)) w + weight_as (list_items cs) (list_meanings vs) w
  split_lists c cs v vs e w =
      let moves : length (move_items {R = R} c.items) ≡ length c.items = length_map {X = M} {Y = Item R M} Move c.items in
      ap (λ ms. weight_as (list_items (c ∷ cs)) ms w) (ap (map (Inputs Later)) (map-append old.set v.items (list_regions vs)) ∙ map-append (Inputs Later) (map old.set v.items) (map old.set (list_regions vs)))
      ∙ weight_as-append (move_items c.items) (list_items cs) (map (Inputs Later) (map old.set v.items)) (list_meanings vs) w (moves ∙ (e ∙ sym (meant_counted v.items)))

  pub chain_at : (cs : List (Vec M Global)) (vs : List (Vec R Global)) → AreLike cs vs → ((w : Item R M → Meaning → ℕ) → weight_as (list_items cs) (list_meanings vs) w ≤ weight new w) →
      (p : ℕ) (v : Vec R Global) → slice_get vs p ≡ Some v → (c : Vec M Global) × (slice_get cs p ≡ Some c) × IsListFor old new c v
  chain_at [] [] like held p v is = absurd (none_at p is)
    where
      none_at : (p : ℕ) → slice_get [] p ≡ Some v → ⊥
      none_at p e = cc
  chain_at [] (u ∷ vs) like held p v is = absurd like
  chain_at (c ∷ cs) [] like held p v is = absurd like
  chain_at (c ∷ cs) (u ∷ vs) like held zero v is =
      let same : u ≡ v = cc in
      (c, refl, subst (IsListFor old new c) same (record { counted = like.0; held = λ w. omega (arith, held w, split_lists c cs u vs like.0 w) }))
  chain_at (c ∷ cs) (u ∷ vs) like held (suc p) v is = chain_at cs vs like.1 (λ w. omega (arith, held w, split_lists c cs u vs like.0 w)) p v is

  -- moves into a list whose regions stood for the first of some sets
  pub list_leads : (c : Vec M Global) (v : Vec R Global) (sets : ℕ → StateSet) → IsListFor old new c v → map old.set v.items ≡ map sets (below (vec_len v)) → MovesLead new Later c.items sets
  list_leads c v sets is shown =
      let counted : length c.items ≡ length (map old.set v.items) = is.counted ∙ sym (length_map {X = R} {Y = StateSet} old.set v.items) in
      moves_held new Later c.items (map old.set v.items) sets counted is.held
      (λ i before. ap (λ ss. get_or ss i no_states) shown ∙ get_or-map_below sets (vec_len v) i (let e = length_map {X = R} {Y = StateSet} old.set v.items in omega (arith, before, e)))
