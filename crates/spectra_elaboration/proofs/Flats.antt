-- The levels of what is made, from those of its parts.
use Rattle.std.proofs.Common.{◌≡◌, ℕ, ◌+◌, ◌<◌, ◌≤◌, max, nat_le, Bool, true, false, ◌&&◌, if◌then◌else◌, List, ◌∷◌, length, map, drop, get_or, Some, None, Result, Ok, Err, IsErrAnd, IsErrOf, refl, sym, ap, subst, ◌∙◌, arith}
use Rattle.std.proofs.lemmas.Bool.Decides.{nat_tests}
use Rattle.spectra_resolved.specs.declared.tree.Resolved.{Resolved}
use Rattle.spectra_resolved.specs.Resolved.{ResolvedTree, ResolvedTrees}
use Rattle.spectra_resolved.specs.Chained.{LinkData, chained}
use Rattle.spectra_resolved.specs.Views.{resolved_data}
use Rattle.spectra_judge.proofs.Lists.{mapped_left}
use Rattle.spectra_copies.specs.declared.counted.Counted.{Counted}
use Rattle.spectra_copies.specs.declared.refusal.Refusal.{Refusal}
use Rattle.spectra_copies.specs.declared.refusal.Refusal.TheVariants.{Large, Deep, Memory}
use Rattle.spectra_elaboration.specs.declared.frames.Frame.{Frame}
use Rattle.spectra_elaboration.specs.declared.rows.Piece.{Piece}
use Rattle.spectra_elaboration.specs.Putting.{Bodies}
use Rattle.spectra_elaboration.specs.Frames.{filled_at}
use Rattle.spectra_elaboration.specs.Rows.{piece_link, piece_at, pieces_at}
use Rattle.spectra_copies.specs.Nodes.{tree_nodes}
use Rattle.spectra_copies.specs.Levels.{tree_levels, each_levels, is_row, within_limits}
use Rattle.spectra_copies.specs.Links.{ends_row, ends_at, link_levels, are_flat_above}
use Rattle.spectra_copies.specs.Making.{Makes, IsFlat, AreFlat, AreFlatLinks}
use Rattle.spectra_copies.proofs.Made.{tree_is, small, nodes_are, large, OneByOne, TreesFrom, tree_left, none_trees}
use Rattle.spectra_elaboration.proofs.RowLevels.{max_le, le-suc, row_levels}
use Rattle.spectra_elaboration.proofs.Unwound.{ends_same}
use Rattle.spectra_elaboration.proofs.Pieces.{PiecesFrom, piece_left, no_pieces}

-- ---- what an answer says

pub not_deep : {P : Type 0} → Memory ≡ Deep → P
not_deep e = absurd (distinct e)
  where
    distinct : Memory ≡ Deep → ⊥
    distinct e = cc

pub deep_not_large : {P : Type 0} → Deep ≡ Large → P
deep_not_large e = absurd (distinct e)
  where
    distinct : Deep ≡ Large → ⊥
    distinct e = cc

module _ (levels : ℕ) where
  pub flat_ok : (t : ResolvedTree) (made : Counted) → IsFlat levels t (Ok made) → nat_le (tree_levels t) levels ≡ true
  unfolding IsFlat
  flat_ok t made m = m

  pub flat_deep : (t : ResolvedTree) (halt : Refusal) → IsFlat levels t (Err halt) → halt ≡ Deep → nat_le (tree_levels t) levels ≡ false
  unfolding IsFlat
  flat_deep t halt m = m

  pub flat_of : (t : ResolvedTree) (r : Result Counted Refusal) → nat_le (tree_levels t) levels ≡ true → (IsErrOf r Deep → ⊥) → IsFlat levels t r
  unfolding IsFlat
  flat_of t (Ok made) is never = is
  flat_of t (Err halt) is never = λ e. absurd (never (ap Err e))

  pub stop_flat : (t : ResolvedTree) (halt : Refusal) (r : Result Counted Refusal) → IsErrAnd r (λ y. y ≡ halt) → (halt ≡ Deep → nat_le (tree_levels t) levels ≡ false) → IsFlat levels t r
  unfolding IsFlat
  stop_flat t halt (Ok made) is few = absurd is
  stop_flat t halt (Err y) is few = λ e. few (sym is ∙ e)

  pub each_ok : (ts : ResolvedTrees) (nodes : ℕ) → AreFlat levels ts (Ok nodes) → nat_le (each_levels ts) levels ≡ true
  unfolding AreFlat
  each_ok ts nodes m = m

  pub each_deep : (ts : ResolvedTrees) (halt : Refusal) → AreFlat levels ts (Err halt) → halt ≡ Deep → nat_le (each_levels ts) levels ≡ false
  unfolding AreFlat
  each_deep ts halt m = m

  pub stop_each_flat : (ts : ResolvedTrees) (halt : Refusal) (r : Result ℕ Refusal) → IsErrAnd r (λ y. y ≡ halt) → (halt ≡ Deep → nat_le (each_levels ts) levels ≡ false) → AreFlat levels ts r
  unfolding AreFlat
  stop_each_flat ts halt (Ok nodes) is few = absurd is
  stop_each_flat ts halt (Err y) is few = λ e. few (sym is ∙ e)

  pub links_ok : (ls : List LinkData) (nodes : ℕ) → AreFlatLinks levels ls (Ok nodes) → are_flat_above levels ls ≡ true
  unfolding AreFlatLinks
  links_ok ls nodes m = m

  pub links_deep : (ls : List LinkData) (halt : Refusal) → AreFlatLinks levels ls (Err halt) → halt ≡ Deep → are_flat_above levels ls ≡ false
  unfolding AreFlatLinks
  links_deep ls halt m = m

  pub stop_links_flat : (ls : List LinkData) (halt : Refusal) (r : Result ℕ Refusal) → IsErrAnd r (λ y. y ≡ halt) → (halt ≡ Deep → are_flat_above levels ls ≡ false) → AreFlatLinks levels ls r
  unfolding AreFlatLinks
  stop_links_flat ls halt (Ok nodes) is few = absurd is
  stop_links_flat ls halt (Err y) is few = λ e. few (sym is ∙ e)

-- ---- operators in rows

none_fits : (levels : ℕ) → nat_le 0 levels ≡ true
none_fits levels = grind (arith, nat_tests)

pub one_level : (levels : ℕ) → 0 < levels → nat_le 1 levels ≡ true
one_level levels some = grind (arith, nat_tests)

and-false : (p : Bool) → (p && false) ≡ false
and-false true = refl
and-false false = refl

-- operators behind what is no row itself
module _ (head : ResolvedTree) (ls : List LinkData) (apart : is_row head ≡ false) (first limit : ℕ) (is : first + link_levels ls ≡ limit) where
  whole : (p q : Bool) → nat_le (tree_levels head) first ≡ p → are_flat_above first ls ≡ q → nat_le (tree_levels (chained head ls)) limit ≡ (p && q)
  whole p q own more = ap (nat_le (tree_levels (chained head ls))) (sym is) ∙ row_levels head ls first apart ∙ (λ i. own i && more i)

  pub rows_flat : nat_le (tree_levels head) first ≡ true → are_flat_above first ls ≡ true → nat_le (tree_levels (chained head ls)) limit ≡ true
  rows_flat own more = whole true true own more

  pub rows_deep_first : nat_le (tree_levels head) first ≡ false → nat_le (tree_levels (chained head ls)) limit ≡ false
  rows_deep_first own = whole false (are_flat_above first ls) own refl

  pub rows_deep_links : are_flat_above first ls ≡ false → nat_le (tree_levels (chained head ls)) limit ≡ false
  rows_deep_links more = whole (nat_le (tree_levels head) first) false refl more ∙ and-false (nat_le (tree_levels head) first)

module _ (b : Bodies) (fs : List Frame) (ps : List Piece) (k : ℕ) where
  -- what the end of a row adds to the levels
  abbrev pub LevelsBehind : ℕ → ℕ
  LevelsBehind levels = levels + (if ends_at (map piece_link (drop k ps)) then 1 else 0)

  module _ (p : Piece) (below : k < length ps) (is : p ≡ get_or ps k p) (levels : ℕ) where
    ends : ends_at (map piece_link (drop k ps)) ≡ ends_row (piece_at b fs p) (pieces_at b fs (drop (k + 1) ps))
    ends = ap ends_at (mapped_left piece_link ps k p below is) ∙ sym (ends_same b fs p (drop (k + 1) ps))

    flat_left : (q : Bool) → nat_le (tree_levels (filled_at b fs p.frame (resolved_data p.link.now.second))) levels ≡ q
        → are_flat_above levels (PiecesFrom b fs ps k) ≡ (q && are_flat_above (LevelsBehind levels) (PiecesFrom b fs ps (k + 1)))
    flat_left q own =
        ap (are_flat_above levels) (piece_left b fs ps k p below is)
        ∙ (λ i. own i && are_flat_above (levels + (if sym ends i then 1 else 0)) (PiecesFrom b fs ps (k + 1)))

    pub links_flat_on : nat_le (tree_levels (filled_at b fs p.frame (resolved_data p.link.now.second))) levels ≡ true
        → are_flat_above (LevelsBehind levels) (PiecesFrom b fs ps (k + 1)) ≡ are_flat_above levels (PiecesFrom b fs ps k)
    links_flat_on own = sym (flat_left true own)

    pub links_flat_off : nat_le (tree_levels (filled_at b fs p.frame (resolved_data p.link.now.second))) levels ≡ false → are_flat_above levels (PiecesFrom b fs ps k) ≡ false
    links_flat_off own = flat_left false own

  pub links_flat_end : (levels : ℕ) → length ps ≤ k → are_flat_above levels (PiecesFrom b fs ps k) ≡ true
  links_flat_end levels end = ap (are_flat_above levels) (no_pieces b fs ps k end)

-- ---- operands

module _ (Own : ResolvedTree → ResolvedTree) (Each : ResolvedTrees → ResolvedTrees) (each : OneByOne Own Each) where
  module _ (ts : List Resolved) (k : ℕ) (t : Resolved) (below : k < length ts) (is : t ≡ get_or ts k t) (levels : ℕ) where
    each_flat_left : (p : Bool) → nat_le (tree_levels (Own (resolved_data t))) levels ≡ p
        → nat_le (each_levels (TreesFrom Own Each each ts k)) levels ≡ (p && nat_le (each_levels (TreesFrom Own Each each ts (k + 1))) levels)
    each_flat_left p own =
        ap (λ us. nat_le (each_levels us) levels) (tree_left Own Each each ts k t below is)
        ∙ max_le (tree_levels (Own (resolved_data t))) (each_levels (TreesFrom Own Each each ts (k + 1))) levels
        ∙ (λ i. own i && nat_le (each_levels (TreesFrom Own Each each ts (k + 1))) levels)

    pub each_flat_on : nat_le (tree_levels (Own (resolved_data t))) levels ≡ true
        → nat_le (each_levels (TreesFrom Own Each each ts (k + 1))) levels ≡ nat_le (each_levels (TreesFrom Own Each each ts k)) levels
    each_flat_on own = sym (each_flat_left true own)

    pub each_flat_off : nat_le (tree_levels (Own (resolved_data t))) levels ≡ false → nat_le (each_levels (TreesFrom Own Each each ts k)) levels ≡ false
    each_flat_off own = each_flat_left false own

  pub each_flat_end : (ts : List Resolved) (k levels : ℕ) → length ts ≤ k → nat_le (each_levels (TreesFrom Own Each each ts k)) levels ≡ true
  each_flat_end ts k levels end = ap (λ us. nat_le (each_levels us) levels) (none_trees Own Each each ts k end) ∙ none_fits levels

-- ---- operators above their operands

module _ (levels : ℕ) (whole : ResolvedTree) (r : Result Counted Refusal) where
  -- an operator is a level above operands of so many
  above : (n : ℕ) (p : Bool) → tree_levels whole ≡ 1 + n → nat_le n levels ≡ p → nat_le (tree_levels whole) (levels + 1) ≡ p
  above n p size own = ap (λ m. nat_le m (levels + 1)) size ∙ le-suc n levels ∙ own

  pub above_flat : (n : ℕ) → tree_levels whole ≡ 1 + n → nat_le n levels ≡ true → (IsErrOf r Deep → ⊥) → IsFlat (levels + 1) whole r
  above_flat n size own never = flat_of (levels + 1) whole r (above n true size own) never

  pub above_deep : (n : ℕ) (halt : Refusal) → tree_levels whole ≡ 1 + n → IsErrAnd r (λ y. y ≡ halt) → (halt ≡ Deep → nat_le n levels ≡ false) → IsFlat (levels + 1) whole r
  above_deep n halt size err own = stop_flat (levels + 1) whole halt r err (λ e. above n false size (own e))

-- the greatest of three is past a limit where one is
pub most_of : (a b c n : ℕ) (p q r : Bool) → nat_le a n ≡ p → nat_le b n ≡ q → nat_le c n ≡ r → nat_le (max a (max b c)) n ≡ (p && (q && r))
most_of a b c n p q r first second third = max_le a (max b c) n ∙ ap (λ x. nat_le a n && x) (max_le b c n) ∙ (λ i. first i && (second i && third i))

-- ---- within limits

by_limits : (room levels : ℕ) (t : ResolvedTree) (p q : Bool) → nat_le (tree_nodes t) room ≡ p → nat_le (tree_levels t) levels ≡ q → within_limits room levels t ≡ (if p && q then Some t else None)
by_limits room levels t p q own flat = λ i. if own i && flat i then Some t else None

fits_in : (n room : ℕ) → n ≤ room → nat_le n room ≡ true
fits_in n room low = grind (arith, nat_tests)

pub fits_not : (n room : ℕ) → room < n → nat_le n room ≡ false
fits_not n room high = grind (arith, nat_tests)

pub made_within : (room levels : ℕ) (t : ResolvedTree) (made : Counted) → Makes room t (Ok made) → IsFlat levels t (Ok made) → Some (resolved_data made.tree.value) ≡ within_limits room levels t
made_within room levels t made is flat =
    let nodes = nodes_are room t made is in
    let low = small room t made is in
    ap Some (tree_is room t made is) ∙ sym (by_limits room levels t true true (fits_in (tree_nodes t) room (omega (arith, nodes, low))) (flat_ok levels t made flat))

pub large_without : (room levels : ℕ) (t : ResolvedTree) (halt : Refusal) → Makes room t (Err halt) → halt ≡ Large → None ≡ within_limits room levels t
large_without room levels t halt is e = sym (by_limits room levels t false (nat_le (tree_levels t) levels) (fits_not (tree_nodes t) room (large room t halt is e)) refl)

pub deep_without : (room levels : ℕ) (t : ResolvedTree) (halt : Refusal) → IsFlat levels t (Err halt) → halt ≡ Deep → None ≡ within_limits room levels t
deep_without room levels t halt is e = sym (by_limits room levels t (nat_le (tree_nodes t) room) false refl (flat_deep levels t halt is e) ∙ off (nat_le (tree_nodes t) room))
  where
    off : (p : Bool) → (if p && false then Some t else None) ≡ None
    off true = refl
    off false = refl
