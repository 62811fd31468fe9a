-- A table that is filled by held diagrams and one operation's results is so whatever its nodes are numbered.
use Rattle.std.proofs.Common.{◌≡◌, ◌⊎◌, inl, inr, ℕ, zero, suc, ◌+◌, ◌-◌, ◌<◌, ◌≤◌, ◌==◌, Bool, true, false, List, [], ◌∷◌, ◌++◌, length, map, get_or, cond, refl, sym, ◌∙◌, subst, arith}
use Rattle.std.specs.Prelude.{count_by}
use Rattle.std.specs.List.{AllByRecursion, Contains}
use Rattle.std.proofs.lemmas.List.{length-map}
use Rattle.std.proofs.lemmas.List.Sums.{sum_by-cons}
use Rattle.std.proofs.lemmas.List.Elements.{Contains-append_left, Contains-append_right, Contains-append_cases}
use Rattle.std.proofs.lemmas.Bool.{cases_lt, false≢true}
use Rattle.spec_model.specs.Diagrams.{Diagram, constant, branch, Function, value, IsPartOf, IsReduced, IsWithin}
use Rattle.node_table.specs.Table.{Table, level_at, low_at, high_at, IsLive, diagram_at}
use Rattle.node_table.proofs.Meaning.{diagram_at-constant, diagram_at-inner, diagram_at-reduced, diagram_at-within, one_node}
use Rattle.bit_compile.specs.Crowding.{arguments_of, IsUnfinishedOf, StandsIn, IsCrowdedBy}
use Rattle.bit_compile.specs.Filling.{AreDifferent, IsConstant, IsPartOfOne, IsNamedDiagram, FillTogether, IsFilledBy}

-- ---- elements

pub contains_first : {X : Type 0} (x : X) (xs : List X) → Contains (x ∷ xs) x
contains_first x xs = (0, omega arith, refl)

pub contains_later : {X : Type 0} (x y : X) (xs : List X) → Contains xs y → Contains (x ∷ xs) y
contains_later x y xs there = (suc there.0, (let below = there.1 in omega (arith, below)), there.2)

-- an element is the first or a later one
pub first_or_later : {X : Type 0} (x y : X) (xs : List X) → Contains (x ∷ xs) y → (x ≡ y) ⊎ Contains xs y
first_or_later x y xs (zero, below, is) = inl is
first_or_later x y xs (suc k, below, is) = inr (k, omega (arith, below), is)

pub contains_map : {X Y : Type 0} (f : X → Y) (xs : List X) (x : X) → Contains xs x → Contains (map f xs) (f x)
contains_map f [] x there = absurd (let below = there.1 in omega (arith, below))
contains_map f (y ∷ xs) x there = elim (first_or_later y x xs there) [
  | inl same ↦ subst (λ z. Contains (map f (y ∷ xs)) (f z)) same (contains_first (f y) (map f xs))
  | inr later ↦ contains_later (f y) (f x) (map f xs) (contains_map f xs x later)
]

pub map_contains : {X Y : Type 0} (f : X → Y) (xs : List X) (y : Y) → Contains (map f xs) y → (x : X) × Contains xs x × (f x ≡ y)
map_contains f [] y there = absurd (let below = there.1 in omega (arith, below))
map_contains f (x ∷ xs) y there = elim (first_or_later (f x) y (map f xs) there) [
  | inl same ↦ (x, contains_first x xs, same)
  | inr later ↦ (let rest = map_contains f xs y later in (rest.0, contains_later x rest.0 xs rest.1, rest.2))
]

pub all_at : {X : Type 0} (P : X → Type 0) (xs : List X) (x : X) → AllByRecursion P xs → Contains xs x → P x
all_at P [] x all there = absurd (let below = there.1 in omega (arith, below))
all_at P (y ∷ xs) x all there = elim (first_or_later y x xs there) [
  | inl same ↦ subst P same all.0
  | inr later ↦ all_at P xs x all.1 later
]

all_append : {X : Type 0} (P : X → Type 0) (xs ys : List X) → AllByRecursion P xs → AllByRecursion P ys → AllByRecursion P (xs ++ ys)
all_append P [] ys first second = second
all_append P (x ∷ xs) ys first second = (first.0, all_append P xs ys first.1 second)

all_map : {X Y : Type 0} (P : X → Type 0) (Q : Y → Type 0) (f : X → Y) → ((x : X) → P x → Q (f x)) → (xs : List X) → AllByRecursion P xs → AllByRecursion Q (map f xs)
all_map P Q f each [] all = tt
all_map P Q f each (x ∷ xs) all = (each x all.0, all_map P Q f each xs all.1)

all_both : {X : Type 0} (P Q : X → Type 0) (xs : List X) → AllByRecursion P xs → AllByRecursion Q xs → AllByRecursion (λ x. P x × Q x) xs
all_both P Q [] first second = tt
all_both P Q (x ∷ xs) first second = ((first.0, second.0), all_both P Q xs first.1 second.1)

-- ---- the places that are marked

abbrev places_from : ℕ → List Bool → List ℕ
places_from n [] = []
places_from n (true ∷ bs) = n ∷ places_from (suc n) bs
places_from n (false ∷ bs) = places_from (suc n) bs

places_counted : (n : ℕ) (bs : List Bool) → length (places_from n bs) ≡ count_by (λ b. b) bs
places_counted n [] = refl
places_counted n (true ∷ bs) = let rest = places_counted (suc n) bs in let sums = sum_by-cons (λ (b : Bool). cond b 1 0) true bs in omega (arith, rest, sums)
places_counted n (false ∷ bs) = let rest = places_counted (suc n) bs in let sums = sum_by-cons (λ (b : Bool). cond b 1 0) false bs in omega (arith, rest, sums)

place_there : (n : ℕ) (bs : List Bool) (k : ℕ) → get_or bs k false ≡ true → Contains (places_from n bs) (n + k)
place_there n [] k is = absurd (false≢true is)
place_there n (true ∷ bs) zero is = subst (λ (m : ℕ). Contains (n ∷ places_from (suc n) bs) m) (omega arith) (contains_first n (places_from (suc n) bs))
place_there n (false ∷ bs) zero is = absurd (false≢true is)
place_there n (true ∷ bs) (suc k) is =
    let next : suc n + k ≡ n + suc k = omega arith in
    contains_later n (n + suc k) (places_from (suc n) bs) (subst (λ (m : ℕ). Contains (places_from (suc n) bs) m) next (place_there (suc n) bs k is))
place_there n (false ∷ bs) (suc k) is =
    let next : suc n + k ≡ n + suc k = omega arith in
    subst (λ (m : ℕ). Contains (places_from (suc n) bs) m) next (place_there (suc n) bs k is)

place_is : (n : ℕ) (bs : List Bool) (m : ℕ) → Contains (places_from n bs) m → (k : ℕ) × (n + k ≡ m) × (get_or bs k false ≡ true)
place_is n [] m there = absurd (let below = there.1 in omega (arith, below))
place_is n (true ∷ bs) m there = elim (first_or_later n m (places_from (suc n) bs) there) [
  | inl same ↦ (0, omega (arith, same), refl)
  | inr later ↦ (let rest = place_is (suc n) bs m later in let is = rest.1 in (suc rest.0, omega (arith, is), rest.2))
]
place_is n (false ∷ bs) m there = let rest = place_is (suc n) bs m there in let is = rest.1 in (suc rest.0, omega (arith, is), rest.2)

-- ---- the nodes of a filled table

module _ (t : Table) (N : Function → Type 0) (c : IsCrowdedBy t (λ d. N (value d))) where
  abbrev at : ℕ → Diagram
  at n = diagram_at t n

  abbrev nodes : List ℕ
  nodes = places_from 0 t.live

  node_live : (n : ℕ) → Contains nodes n → IsLive t n
  node_live n there = let place = place_is 0 t.live n there in let same : place.0 ≡ n = omega (arith, place.1) in subst (IsLive t) same place.2

  live_node : (n : ℕ) → IsLive t n → Contains nodes n
  live_node n live = let same : 0 + n ≡ n = omega arith in subst (λ (k : ℕ). Contains nodes k) same (place_there 0 t.live n live)

  -- a part of a node's diagram is a node's
  part_live : (fuel n : ℕ) (d : Diagram) → t.levels - level_at t n ≤ fuel → IsLive t n → IsPartOf d (at n) → (m : ℕ) × IsLive t m × (at m ≡ d)
  part_live zero n d le live part =
      elim (cases_lt n 2) [
        | inl less ↦ let e : d ≡ constant (n == 1) = subst (IsPartOf d) (diagram_at-constant t c.filled.sound n less) part in (n, live, diagram_at-constant t c.filled.sound n less ∙ sym e)
        | inr inner ↦ absurd (let fit = c.filled.sound.fit n inner live in omega (arith, le, fit.below))
      ]
  part_live (suc fuel) n d le live part =
      elim (cases_lt n 2) [
        | inl less ↦ let e : d ≡ constant (n == 1) = subst (IsPartOf d) (diagram_at-constant t c.filled.sound n less) part in (n, live, diagram_at-constant t c.filled.sound n less ∙ sym e)
        | inr inner ↦
            let fit = c.filled.sound.fit n inner live in
            let parts : IsPartOf d (branch (level_at t n) (at (low_at t n)) (at (high_at t n))) = subst (IsPartOf d) (diagram_at-inner t c.filled.sound n inner live) part in
            elim parts [
              | inl e ↦ (n, live, diagram_at-inner t c.filled.sound n inner live ∙ sym e)
              | inr (inl low) ↦ part_live fuel (low_at t n) d (omega (arith, le, fit.below, fit.low_later)) fit.low_live low
              | inr (inr high) ↦ part_live fuel (high_at t n) d (omega (arith, le, fit.below, fit.high_later)) fit.high_live high
            ]
      ]

  -- ---- no two are the same

  nodes_differ : (n : ℕ) (bs : List Bool) → ((m : ℕ) → Contains (places_from n bs) m → IsLive t m) → AreDifferent (map at (places_from n bs))
  nodes_differ n [] live = tt
  nodes_differ n (false ∷ bs) live = nodes_differ (suc n) bs live
  nodes_differ n (true ∷ bs) live =
      let later : List ℕ = places_from (suc n) bs in (
        λ there. (
            let again = map_contains at later (at n) there in
            let place = place_is (suc n) bs again.0 again.1 in
            let same = one_node t c.filled.sound again.0 n (live again.0 (contains_later n again.0 later again.1)) (live n (contains_first n later)) again.2 in
            let is = place.1 in
            absurd (omega (arith, same, is))),
        nodes_differ (suc n) bs (λ m there. live m (contains_later n m later there)),
      )

  -- ---- which of them are needed for what

  abbrev IsOwn : ℕ → Type 0
  IsOwn r = IsLive t r × N (value (at r))

  abbrev IsMade : ℕ → Type 0
  IsMade n = IsLive t n × IsUnfinishedOf c.running (at n)

  abbrev IsPartOfListed : List ℕ → ℕ → Type 0
  IsPartOfListed listed n = (r : ℕ) × Contains listed r × IsPartOf (at n) (at r)

  abbrev IsCovered : (roots made : List ℕ) → ℕ → Type 0
  IsCovered roots made n = (n < 2) ⊎ (IsPartOfListed roots n ⊎ IsPartOfListed made n)

  record Sorted (ns : List ℕ) : Type 0 where
    roots : List ℕ
    made : List ℕ
    are_own : AllByRecursion IsOwn roots
    are_made : AllByRecursion IsMade made
    cover : (n : ℕ) → Contains ns n → IsCovered roots made n

  covered_more : (roots made more_roots more_made : List ℕ) → ((r : ℕ) → Contains roots r → Contains more_roots r) → ((n : ℕ) → Contains made n → Contains more_made n) → (n : ℕ) → IsCovered roots made n → IsCovered more_roots more_made n
  covered_more roots made more_roots more_made in_roots in_made n (inl less) = inl less
  covered_more roots made more_roots more_made in_roots in_made n (inr (inl stands)) = inr (inl (stands.0, in_roots stands.0 stands.1, stands.2))
  covered_more roots made more_roots more_made in_roots in_made n (inr (inr stands)) = inr (inr (stands.0, in_made stands.0 stands.1, stands.2))

  sorted_next : (n : ℕ) (ns : List ℕ) → IsLive t n → Sorted ns → (n < 2) ⊎ (StandsIn t (λ d. N (value d)) n ⊎ StandsIn t (IsUnfinishedOf c.running) n) → Sorted (n ∷ ns)
  sorted_next n ns live s (inl less) =
      record {
        roots = s.roots;
        made = s.made;
        are_own = s.are_own;
        are_made = s.are_made;
        cover = λ m there. elim (first_or_later n m ns there) [ inl same ↦ inl (subst (λ (k : ℕ). k < 2) same less) | inr later ↦ s.cover m later ];
      }
  sorted_next n ns live s (inr (inl stands)) =
      record {
        roots = stands.root ∷ s.roots;
        made = s.made;
        are_own = ((stands.live, stands.held), s.are_own);
        are_made = s.are_made;
        cover = λ m there. elim (first_or_later n m ns there) [
          | inl same ↦ inr (inl (stands.root, contains_first stands.root s.roots, subst (λ (k : ℕ). IsPartOf (at k) (at stands.root)) same stands.part))
          | inr later ↦ covered_more s.roots s.made (stands.root ∷ s.roots) s.made (λ r in_roots. contains_later stands.root r s.roots in_roots) (λ k in_made. in_made) m (s.cover m later)
        ];
      }
  sorted_next n ns live s (inr (inr stands)) =
      record {
        roots = s.roots;
        made = stands.root ∷ s.made;
        are_own = s.are_own;
        are_made = ((stands.live, stands.held), s.are_made);
        cover = λ m there. elim (first_or_later n m ns there) [
          | inl same ↦ inr (inr (stands.root, contains_first stands.root s.made, subst (λ (k : ℕ). IsPartOf (at k) (at stands.root)) same stands.part))
          | inr later ↦ covered_more s.roots s.made s.roots (stands.root ∷ s.made) (λ r in_roots. in_roots) (λ k in_made. contains_later stands.root k s.made in_made) m (s.cover m later)
        ];
      }

  sorted : (ns : List ℕ) → ((n : ℕ) → Contains ns n → IsLive t n) → Sorted ns
  sorted [] live = record { roots = []; made = []; are_own = tt; are_made = tt; cover = λ n there. absurd (let below = there.1 in omega (arith, below)) }
  sorted (n ∷ ns) live =
      let here = live n (contains_first n ns) in
      sorted_next n ns here (sorted ns (λ m there. live m (contains_later n m ns there))) (c.needed n here)

  all_sorted : Sorted nodes
  all_sorted = sorted nodes node_live

  -- ---- together

  module _ (more : List ℕ) (own : AllByRecursion IsOwn more) where
    abbrev roots : List ℕ
    roots = more ++ all_sorted.roots

    are_roots : AllByRecursion IsOwn roots
    are_roots = all_append IsOwn more all_sorted.roots own all_sorted.are_own

    abbrev sets : List Diagram
    sets = map at roots

    abbrev results : List Diagram
    results = map at all_sorted.made

    part_of_one : (n : ℕ) → IsCovered all_sorted.roots all_sorted.made n → IsConstant (at n) ⊎ IsPartOfOne (sets ++ results) (at n)
    part_of_one n (inl less) = inl (n == 1, diagram_at-constant t c.filled.sound n less)
    part_of_one n (inr (inl stands)) = inr (at stands.0, Contains-append_left sets results (at stands.0) (contains_map at roots stands.0 (Contains-append_right more all_sorted.roots stands.0 stands.1)), stands.2)
    part_of_one n (inr (inr stands)) = inr (at stands.0, Contains-append_right sets results (at stands.0) (contains_map at all_sorted.made stands.0 stands.1), stands.2)

    -- a listed diagram is a node's
    listed_live : (whole : Diagram) → Contains (sets ++ results) whole → (r : ℕ) × IsLive t r × (at r ≡ whole)
    listed_live whole there = elim (Contains-append_cases sets results whole there) [
      | inl in_sets ↦ (let found = map_contains at roots whole in_sets in (found.0, (all_at IsOwn roots found.0 are_roots found.1).0, found.2))
      | inr in_results ↦ (let found = map_contains at all_sorted.made whole in_results in (found.0, (all_at IsMade all_sorted.made found.0 all_sorted.are_made found.1).0, found.2))
    ]

    node_of : (d : Diagram) → (m : ℕ) × IsLive t m × (at m ≡ d) → Contains (map at nodes) d
    node_of d found = subst (λ (e : Diagram). Contains (map at nodes) e) found.2 (contains_map at nodes found.0 (live_node found.0 found.1))

    constant_node : (b : Bool) → Contains (map at nodes) (constant b)
    constant_node false = node_of (constant false) (0, c.filled.sound.false_live, diagram_at-constant t c.filled.sound 0 (omega arith))
    constant_node true = node_of (constant true) (1, c.filled.sound.true_live, diagram_at-constant t c.filled.sound 1 (omega arith))

    is_node : (d : Diagram) → IsConstant d ⊎ IsPartOfOne (sets ++ results) d → Contains (map at nodes) d
    is_node d (inl known) = subst (λ (e : Diagram). Contains (map at nodes) e) (sym known.1) (constant_node known.0)
    is_node d (inr part) =
        let whole = listed_live part.0 part.1 in
        node_of d (part_live (t.levels - level_at t whole.0) whole.0 d (omega arith) whole.1 (subst (IsPartOf d) (sym whole.2) part.2))

    node_is : (d : Diagram) → Contains (map at nodes) d → IsConstant d ⊎ IsPartOfOne (sets ++ results) d
    node_is d there =
        let found = map_contains at nodes d there in
        subst (λ (e : Diagram). IsConstant e ⊎ IsPartOfOne (sets ++ results) e) found.2 (part_of_one found.0 (all_sorted.cover found.0 found.1))

    filled_together : FillTogether t.levels t.budget N sets
    filled_together =
        record {
          named = all_map IsOwn (IsNamedDiagram N) at (λ r own. (diagram_at-reduced t c.filled.sound r own.0, own.1)) roots are_roots;
          running = c.running;
          on_named = all_both IsReduced (λ d. N (value d)) (arguments_of c.running) c.reduced c.on_held;
          unfinished = results;
          results = all_map IsMade (λ d. IsReduced d × IsUnfinishedOf c.running d) at (λ n made. (diagram_at-reduced t c.filled.sound n made.0, made.1)) all_sorted.made all_sorted.are_made;
          parts = map at nodes;
          different = nodes_differ 0 t.live node_live;
          are_parts = λ d. (node_is d, is_node d);
          within = λ d there. (let found = map_contains at nodes d there in subst (IsWithin t.levels) found.2 (diagram_at-within t c.filled.sound found.0 (node_live found.0 found.1)));
          counted = length-map nodes at ∙ (places_counted 0 t.live ∙ c.filled.count);
        }

    -- with the diagrams of these nodes among them
    pub fills_with : (ds : List Diagram) × FillTogether t.levels t.budget N ds × ((r : ℕ) → Contains more r → Contains ds (at r))
    fills_with = (sets, filled_together, λ r there. contains_map at roots r (Contains-append_left more all_sorted.roots r there))

pub filled_by : (t : Table) (N : Function → Type 0) → IsCrowdedBy t (λ d. N (value d)) → IsFilledBy t.levels t.budget N
filled_by t N c = let fills = fills_with t N c [] tt in (fills.0, fills.1)

-- ---- named in a wider sense

all_wider : (M N : Function → Type 0) → ((f : Function) → M f → N f) → (ds : List Diagram) → AllByRecursion (IsNamedDiagram M) ds → AllByRecursion (IsNamedDiagram N) ds
all_wider M N wider [] all = tt
all_wider M N wider (d ∷ ds) all = ((all.0.0, wider (value d) all.0.1), all_wider M N wider ds all.1)

pub fill_wider : (M N : Function → Type 0) → ((f : Function) → M f → N f) → (levels budget : ℕ) (ds : List Diagram) → FillTogether levels budget M ds → FillTogether levels budget N ds
fill_wider M N wider levels budget ds fill =
    record {
      named = all_wider M N wider ds fill.named;
      running = fill.running;
      on_named = all_wider M N wider (arguments_of fill.running) fill.on_named;
      unfinished = fill.unfinished;
      results = fill.results;
      parts = fill.parts;
      different = fill.different;
      are_parts = fill.are_parts;
      within = fill.within;
      counted = fill.counted;
    }
