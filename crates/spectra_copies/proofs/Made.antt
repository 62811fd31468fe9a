-- What is made of an expression, from what is made of its parts.
use Rattle.std.proofs.Common.{◌≡◌, ℕ, ◌+◌, ◌<◌, ◌≤◌, List, [], ◌∷◌, ◌++◌, length, map, drop, get_or, nat_le, true, false, if◌then◌else◌, Option, Some, None, Result, Ok, Err, IsErrAnd, sym, ap, subst, ◌∙◌, append_assoc, append-nil, add-one, arith}
use Rattle.std.proofs.lemmas.List.{drop_all}
use Rattle.std.proofs.lemmas.Bool.Decides.{nat_tests}
use Rattle.std.proofs.Math.Seq.{drop-cons}
use Rattle.spectra_resolved.specs.declared.spot.Spot.{Spot}
use Rattle.spectra_resolved.specs.declared.spot.Mark.{Mark}
use Rattle.spectra_resolved.specs.declared.tree.Resolved.{Resolved}
use Rattle.spectra_resolved.specs.declared.tree.Link.{Link}
use Rattle.spectra_resolved.specs.Resolved.{ResolvedTree, tree, Form, ResolvedTrees, listed}
use Rattle.spectra_resolved.specs.Chained.{LinkData, trees}
use Rattle.spectra_resolved.specs.Views.{resolved_data, link_data}
use Rattle.spectra_copies.specs.declared.counted.Counted.{Counted}
use Rattle.spectra_copies.specs.declared.refusal.Refusal.{Refusal}
use Rattle.spectra_copies.specs.declared.refusal.Refusal.TheVariants.{Large, Memory}
use Rattle.spectra_copies.specs.Nodes.{tree_nodes, each_nodes}
use Rattle.spectra_copies.specs.Levels.{within_room}
use Rattle.spectra_copies.specs.Links.{link_nodes}
use Rattle.spectra_copies.specs.Making.{Makes, MakesEach, MakesLinks}
use Rattle.spectra_copies.specs.Operands.{has_one, over_one, has_several, over_each}
use Rattle.spectra_copies.proofs.Over.{one_nodes, several_nodes}

-- want of memory says nothing of the room
pub no_room : {P : Type 0} → Memory ≡ Large → P
no_room e = absurd (distinct e)
  where
    distinct : Memory ≡ Large → ⊥
    distinct e = cc

-- ---- what an answer says

module _ (room : ℕ) where
  pub same : (a b : ResolvedTree) (r : Result Counted Refusal) → a ≡ b → Makes room a r → Makes room b r
  same a b r e made = subst (λ t. Makes room t r) e made

  pub tree_is : (t : ResolvedTree) (made : Counted) → Makes room t (Ok made) → resolved_data made.tree.value ≡ t
  unfolding Makes
  tree_is t made m = m.0

  pub small : (t : ResolvedTree) (made : Counted) → Makes room t (Ok made) → made.nodes ≤ room
  unfolding Makes
  small t made m = m.1

  pub nodes_are : (t : ResolvedTree) (made : Counted) → Makes room t (Ok made) → made.nodes ≡ tree_nodes t
  nodes_are t made m = made.counted ∙ ap tree_nodes (tree_is t made m)

  pub large : (t : ResolvedTree) (halt : Refusal) → Makes room t (Err halt) → halt ≡ Large → room < tree_nodes t
  unfolding Makes
  large t halt m = m

  pub stop : (t : ResolvedTree) (halt : Refusal) (r : Result Counted Refusal) → IsErrAnd r (λ y. y ≡ halt) → (halt ≡ Large → room < tree_nodes t) → Makes room t r
  unfolding Makes
  stop t halt (Ok made) is few = absurd is
  stop t halt (Err y) is few = λ e. few (sym is ∙ e)

  -- what is made fits the room
  pub in_room : (t : ResolvedTree) (made : Counted) → Makes room t (Ok made) → Some (resolved_data made.tree.value) ≡ within_room room t
  in_room t made m =
      let low = small t made m in
      let nodes = nodes_are t made m in
      let fits : nat_le (tree_nodes t) room ≡ true = let few : tree_nodes t ≤ room = omega (arith, low, nodes) in grind (arith, nat_tests) in
      ap Some (tree_is t made m) ∙ sym (ap (λ b. if b then Some t else None) fits)

  pub past_room : (t : ResolvedTree) (halt : Refusal) → Makes room t (Err halt) → halt ≡ Large → None ≡ within_room room t
  past_room t halt m e =
      let past : nat_le (tree_nodes t) room ≡ false = let few = large t halt m e in grind (arith, nat_tests) in
      sym (ap (λ b. if b then Some t else None) past)

  pub each_are : (ts : ResolvedTrees) (old new : List Resolved) (nodes : ℕ) → MakesEach room ts old new (Ok nodes) → map resolved_data new ≡ map resolved_data old ++ listed ts
  unfolding MakesEach
  each_are ts old new nodes m = m.0

  pub each_count : (ts : ResolvedTrees) (old new : List Resolved) (nodes : ℕ) → MakesEach room ts old new (Ok nodes) → nodes ≡ each_nodes ts
  unfolding MakesEach
  each_count ts old new nodes m = m.1.0

  pub small_each : (ts : ResolvedTrees) (old new : List Resolved) (nodes : ℕ) → MakesEach room ts old new (Ok nodes) → nodes ≤ room
  unfolding MakesEach
  small_each ts old new nodes m = m.1.1

  pub made_each : (ts : ResolvedTrees) (old new : List Resolved) (nodes : ℕ) → map resolved_data new ≡ map resolved_data old ++ listed ts → nodes ≡ each_nodes ts → nodes ≤ room → MakesEach room ts old new (Ok nodes)
  unfolding MakesEach
  made_each ts old new nodes are count few = (are, (count, few))

  pub large_each : (ts : ResolvedTrees) (old new : List Resolved) (halt : Refusal) → MakesEach room ts old new (Err halt) → halt ≡ Large → room < each_nodes ts
  unfolding MakesEach
  large_each ts old new halt m = m

  pub stop_each : (ts : ResolvedTrees) (old new : List Resolved) (halt : Refusal) (r : Result ℕ Refusal) → IsErrAnd r (λ y. y ≡ halt) → (halt ≡ Large → room < each_nodes ts) → MakesEach room ts old new r
  unfolding MakesEach
  stop_each ts old new halt (Ok nodes) is few = absurd is
  stop_each ts old new halt (Err y) is few = λ e. few (sym is ∙ e)

  pub links_are : (ls : List LinkData) (old new : List Link) (nodes : ℕ) → MakesLinks room ls old new (Ok nodes) → map link_data new ≡ map link_data old ++ ls
  unfolding MakesLinks
  links_are ls old new nodes m = m.0

  pub links_count : (ls : List LinkData) (old new : List Link) (nodes : ℕ) → MakesLinks room ls old new (Ok nodes) → nodes ≡ link_nodes ls
  unfolding MakesLinks
  links_count ls old new nodes m = m.1.0

  pub small_links : (ls : List LinkData) (old new : List Link) (nodes : ℕ) → MakesLinks room ls old new (Ok nodes) → nodes ≤ room
  unfolding MakesLinks
  small_links ls old new nodes m = m.1.1

  pub large_links : (ls : List LinkData) (old new : List Link) (halt : Refusal) → MakesLinks room ls old new (Err halt) → halt ≡ Large → room < link_nodes ls
  unfolding MakesLinks
  large_links ls old new halt m = m

  pub stop_links : (ls : List LinkData) (old new : List Link) (halt : Refusal) (r : Result ℕ Refusal) → IsErrAnd r (λ y. y ≡ halt) → (halt ≡ Large → room < link_nodes ls) → MakesLinks room ls old new r
  unfolding MakesLinks
  stop_links ls old new halt (Ok nodes) is few = absurd is
  stop_links ls old new halt (Err y) is few = λ e. few (sym is ∙ e)

-- ---- loops

-- what is left of a list is the next one, and all behind it
pub left_at : {X : Type 0} (xs : List X) (k : ℕ) (x : X) → k < length xs → x ≡ get_or xs k x → drop k xs ≡ x ∷ drop (k + 1) xs
left_at xs k x below is = drop-cons xs k x below ∙ (λ j. sym is j ∷ drop (sym (add-one k) j) xs)

-- what is made so far, with one more
pushed : {Y : Type 0} (done new left rest all : List Y) (y : Y) → new ≡ done ++ y ∷ [] → left ≡ y ∷ rest → done ++ left ≡ all → new ++ rest ≡ all
pushed done new left rest all y added is so_far =
    ap (λ ys. ys ++ rest) added
    ∙ append_assoc done (y ∷ []) rest
    ∙ ap (λ ys. done ++ ys) (sym is)
    ∙ so_far

-- operators, by what each one becomes
module _ (Own : LinkData → LinkData) where
  -- those that are left
  abbrev pub LinksFrom : List Link → ℕ → List LinkData
  LinksFrom ls k = map Own (map link_data (drop k ls))

  module _ (ls : List Link) (k : ℕ) where
    module _ (l : Link) (below : k < length ls) (is : l ≡ get_or ls k l) where
      pub link_left : LinksFrom ls k ≡ Own (link_data l) ∷ LinksFrom ls (k + 1)
      link_left = ap (λ xs. map Own (map link_data xs)) (left_at ls k l below is)

      pub link_nodes_left : link_nodes (LinksFrom ls k) ≡ (1 + tree_nodes (Own (link_data l)).second) + link_nodes (LinksFrom ls (k + 1))
      link_nodes_left = ap link_nodes link_left

      pub link_pushed : (done new all : List LinkData) (y : LinkData) → y ≡ Own (link_data l) → new ≡ done ++ y ∷ [] → done ++ LinksFrom ls k ≡ all → new ++ LinksFrom ls (k + 1) ≡ all
      link_pushed done new all y own added so_far =
          pushed done new (LinksFrom ls k) (LinksFrom ls (k + 1)) all y added (link_left ∙ ap (λ x. x ∷ LinksFrom ls (k + 1)) (sym own)) so_far

    module _ (end : length ls ≤ k) where
      pub none_links : LinksFrom ls k ≡ []
      none_links = ap (λ xs. map Own (map link_data xs)) (drop_all k ls end)

      pub all_links : (done all : List LinkData) → done ++ LinksFrom ls k ≡ all → done ≡ all
      all_links done all so_far = sym (append-nil done) ∙ ap (λ xs. done ++ xs) (sym none_links) ∙ so_far

      pub no_link_nodes : link_nodes (LinksFrom ls k) ≡ 0
      no_link_nodes = ap link_nodes none_links

-- expressions, one by one
pub record OneByOne (Own : ResolvedTree → ResolvedTree) (Each : ResolvedTrees → ResolvedTrees) : Type 0 where
  pub none : Each ResolvedTrees.none ≡ ResolvedTrees.none
  pub more : (t : ResolvedTree) (ts : ResolvedTrees) → Each (ResolvedTrees.one_more t ts) ≡ ResolvedTrees.one_more (Own t) (Each ts)

-- expressions, by what each one becomes
module _ (Own : ResolvedTree → ResolvedTree) (Each : ResolvedTrees → ResolvedTrees) (each : OneByOne Own Each) where
  -- those that are left
  abbrev pub TreesFrom : List Resolved → ℕ → ResolvedTrees
  TreesFrom ts k = Each (trees (map resolved_data (drop k ts)))

  module _ (ts : List Resolved) (k : ℕ) where
    module _ (t : Resolved) (below : k < length ts) (is : t ≡ get_or ts k t) where
      pub tree_left : TreesFrom ts k ≡ ResolvedTrees.one_more (Own (resolved_data t)) (TreesFrom ts (k + 1))
      tree_left = ap (λ us. Each (trees (map resolved_data us))) (left_at ts k t below is) ∙ each.more (resolved_data t) (trees (map resolved_data (drop (k + 1) ts)))

      pub each_nodes_left : each_nodes (TreesFrom ts k) ≡ tree_nodes (Own (resolved_data t)) + each_nodes (TreesFrom ts (k + 1))
      each_nodes_left = ap each_nodes tree_left

      pub tree_pushed : (done new all : List ResolvedTree) (y : ResolvedTree) → y ≡ Own (resolved_data t) → new ≡ done ++ y ∷ []
          → done ++ listed (TreesFrom ts k) ≡ all → new ++ listed (TreesFrom ts (k + 1)) ≡ all
      tree_pushed done new all y own added so_far =
          pushed done new (listed (TreesFrom ts k)) (listed (TreesFrom ts (k + 1))) all y added
          (ap listed tree_left ∙ ap (λ x. x ∷ listed (TreesFrom ts (k + 1))) (sym own)) so_far

    module _ (end : length ts ≤ k) where
      pub none_trees : TreesFrom ts k ≡ ResolvedTrees.none
      none_trees = ap (λ xs. Each (trees (map resolved_data xs))) (drop_all k ts end) ∙ each.none

      pub all_trees : (done all : List ResolvedTree) → done ++ listed (TreesFrom ts k) ≡ all → done ≡ all
      all_trees done all so_far = sym (append-nil done) ∙ ap (λ us. done ++ listed us) (sym none_trees) ∙ so_far

      pub no_each_nodes : each_nodes (TreesFrom ts k) ≡ 0
      no_each_nodes = ap each_nodes none_trees

-- ---- nodes above their operands

-- `Whole` is what an operator becomes, over its operands.
module _ (room : ℕ) (brought : Option Spot) (first : Spot) (at : Mark) (form : Form) (Whole : ResolvedTree) (r : Result Counted Refusal) where
  module _ (t : ResolvedTree) (one : has_one form ≡ true) (whole : Whole ≡ tree first at (over_one brought form t)) where
    pub one_made : (operand : Counted) → Makes room t (Ok operand) → Makes room (tree first at (over_one brought form (resolved_data operand.tree.value))) r → Makes room Whole r
    one_made operand own m =
        same room _ Whole r (ap (λ x. tree first at (over_one brought form x)) (tree_is room t operand own) ∙ sym whole) m

    pub one_stops : (halt : Refusal) → Makes room t (Err halt) → IsErrAnd r (λ y. y ≡ halt) → Makes room Whole r
    one_stops halt own err =
        stop room Whole halt r err (λ e. let few = large room t halt own e in let size = ap tree_nodes whole in let over = one_nodes brought form t one in omega (arith, few, size, over))

  module _ (ts : ResolvedTrees) (several : has_several form ≡ true) (whole : Whole ≡ tree first at (over_each brought form ts)) where
    pub several_made : (us : ResolvedTrees) → us ≡ ts → Makes room (tree first at (over_each brought form us)) r → Makes room Whole r
    several_made us own m = same room _ Whole r (ap (λ xs. tree first at (over_each brought form xs)) own ∙ sym whole) m

    pub several_stops : (old new : List Resolved) (halt : Refusal) → MakesEach room ts old new (Err halt) → IsErrAnd r (λ y. y ≡ halt) → Makes room Whole r
    several_stops old new halt own err =
        stop room Whole halt r err
        (λ e. let few = large_each room ts old new halt own e in let size = ap tree_nodes whole in let over = several_nodes brought form ts several in omega (arith, few, size, over))
