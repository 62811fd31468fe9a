-- What the program makes where there is room for it.
use Rattle.std.specs.Prelude.{◌≡◌, ℕ, ◌<◌, ◌≤◌, ◌++◌, nat_le, true, false, map, List, Result, MatchResult}
use Rattle.spectra_resolved.specs.Resolved.{ResolvedTree, ResolvedTrees, listed}
use Rattle.spectra_resolved.specs.declared.tree.Resolved.{Resolved}
use Rattle.spectra_resolved.specs.declared.tree.Link.{Link}
use Rattle.spectra_resolved.specs.Chained.{LinkData}
use Rattle.spectra_resolved.specs.Views.{resolved_data, link_data}
use Rattle.spectra_copies.specs.declared.counted.Counted.{Counted}
use Rattle.spectra_copies.specs.declared.refusal.Refusal.{Refusal}
use Rattle.spectra_copies.specs.declared.refusal.Refusal.TheVariants.{Large, Deep}
use Rattle.spectra_copies.specs.Nodes.{tree_nodes, each_nodes}
use Rattle.spectra_copies.specs.Levels.{tree_levels, each_levels}
use Rattle.spectra_copies.specs.Links.{link_nodes, are_flat_above}

-- an expression, where it has no more nodes than there is room for; it is too large only where it has more
unfoldable pub Makes : (room : ℕ) → ResolvedTree → Result Counted Refusal → Type 0
Makes room t r = MatchResult r (λ made. (resolved_data made.tree.value ≡ t) × (made.nodes ≤ room)) (λ halt. halt ≡ Large → room < tree_nodes t)

-- operands behind others, with how many nodes they have
unfoldable pub MakesEach : (room : ℕ) → ResolvedTrees → (old new : List Resolved) → Result ℕ Refusal → Type 0
MakesEach room ts old new r =
    MatchResult r (λ nodes. (map resolved_data new ≡ map resolved_data old ++ listed ts) × ((nodes ≡ each_nodes ts) × (nodes ≤ room))) (λ halt. halt ≡ Large → room < each_nodes ts)

-- operators with their second operands behind others, with how many nodes they have
unfoldable pub MakesLinks : (room : ℕ) → List LinkData → (old new : List Link) → Result ℕ Refusal → Type 0
MakesLinks room ls old new r =
    MatchResult r (λ nodes. (map link_data new ≡ map link_data old ++ ls) × ((nodes ≡ link_nodes ls) × (nodes ≤ room))) (λ halt. halt ≡ Large → room < link_nodes ls)

-- What is made has no more levels than there may be; it is too deep only where it has more.
unfoldable pub IsFlat : (levels : ℕ) → ResolvedTree → Result Counted Refusal → Type 0
IsFlat levels t r = MatchResult r (λ made. nat_le (tree_levels t) levels ≡ true) (λ halt. halt ≡ Deep → nat_le (tree_levels t) levels ≡ false)

unfoldable pub AreFlat : (levels : ℕ) → ResolvedTrees → Result ℕ Refusal → Type 0
AreFlat levels ts r = MatchResult r (λ made. nat_le (each_levels ts) levels ≡ true) (λ halt. halt ≡ Deep → nat_le (each_levels ts) levels ≡ false)

unfoldable pub AreFlatLinks : (first : ℕ) → List LinkData → Result ℕ Refusal → Type 0
AreFlatLinks first ls r = MatchResult r (λ made. are_flat_above first ls ≡ true) (λ halt. halt ≡ Deep → are_flat_above first ls ≡ false)
