-- The slots of a game, their levels, and their declared order.
use Rattle.std.proofs.Common.{◌≡◌, ℕ, zero, suc, ◌+◌, ◌*◌, ◌<◌, ◌^◌, List, [], ◌∷◌, ◌++◌, map, length, length-append, refl, sym, ◌∙◌, ap, subst, arith, not}
use Rattle.std.specs.List.{range_with_len}
use Rattle.std.specs.List.Sorted.{IsPermutation}
use Rattle.std.proofs.lemmas.List.{length-map}
use Rattle.std.proofs.lemmas.List.FromFn.{length-range_with_len}
use Rattle.std.proofs.lemmas.List.Sums.{sum_by-cons}
use Rattle.std.proofs.lemmas.List.Sorted.{IsPermutation-append_right}
use Rattle.spec_model.specs.Values.{DomainData}
use Rattle.spec_model.specs.Moves.{is_env, domains_of}
use Rattle.spec_model.specs.Games.{GameData}
use Rattle.bdd_ops.specs.Contents.{Contents}
use Rattle.bit_compile.specs.Domains.{table_domain, state_domains, width_of, level_count}
use Rattle.bit_compile.specs.Compiled.{place_of}
use Rattle.bit_compile.proofs.Places.{length-owned}
use Rattle.variable_order.specs.Levels.{width_at, total, slots_of, IsOrder}
use Rattle.variable_order.specs.Stores.{FitsSlots}
use Rattle.variable_order.proofs.LevelLemmas.{range_more}
use Rattle.spec_order.specs.Orders.{widths_of, declared, slots_for}
use Rattle.spec_order.proofs.PlaceLemmas.{owned, is_sys, both_owned, places_shuffled}

-- ---- ranges

range-append : (a m n : ℕ) → range_with_len a (m + n) ≡ range_with_len a m ++ range_with_len (a + m) n
range-append a zero n =
    let none : 0 + n ≡ n = omega arith in
    let same : a ≡ a + 0 = omega arith in
    ap (range_with_len a) none ∙ ap (λ (b : ℕ). range_with_len b n) same
range-append a (suc m) n =
    let more : suc m + n ≡ suc (m + n) = omega arith in
    let same : a + 1 + m ≡ a + suc m = omega arith in
    ap (range_with_len a) more ∙ ap (λ (xs : List ℕ). a ∷ xs) (range-append (a + 1) m n ∙ ap (λ (b : ℕ). range_with_len (a + 1) m ++ range_with_len b n) same)

pub range-next : (k : ℕ) → range_with_len 0 (k + 1) ≡ range_with_len 0 k ++ k ∷ []
range-next k =
    let next : k + 1 ≡ suc k = omega arith in
    let same : 0 + k ≡ k = omega arith in
    ap (range_with_len 0) next ∙ (range_more 0 k ∙ ap (λ (x : ℕ). range_with_len 0 k ++ x ∷ []) same)

-- ---- levels

total-later : (w : ℕ) (ws : List ℕ) (a n : ℕ) → total (w ∷ ws) (range_with_len (suc a) n) ≡ total ws (range_with_len a n)
total-later w ws a zero = refl
total-later w ws a (suc n) =
    let one = sum_by-cons (width_at (w ∷ ws)) (suc a) (range_with_len (suc a + 1) n) in
    let other = sum_by-cons (width_at ws) a (range_with_len (a + 1) n) in
    let head : width_at (w ∷ ws) (suc a) ≡ width_at ws a = refl in
    let next : suc a + 1 ≡ suc (a + 1) = omega arith in
    let shift = ap (λ (k : ℕ). total (w ∷ ws) (range_with_len k n)) next in
    let rest = total-later w ws (a + 1) n in
    omega (arith, one, other, head, shift, rest)

-- both present and next bits of each
abbrev pub both_widths : List DomainData → List ℕ
both_widths ds = map (λ d. 2 * width_of d) ds

-- all slots together have the levels of the domains
total-all : (ds : List DomainData) → total (both_widths ds) (slots_of (both_widths ds)) ≡ level_count ds
total-all [] = refl
total-all (d ∷ ds) =
    let one = sum_by-cons (width_at (2 * width_of d ∷ both_widths ds)) 0 (range_with_len (0 + 1) (length (both_widths ds))) in
    let head : width_at (2 * width_of d ∷ both_widths ds) 0 ≡ 2 * width_of d = refl in
    let next : 0 + 1 ≡ suc 0 = omega arith in
    let shift = ap (λ (k : ℕ). total (2 * width_of d ∷ both_widths ds) (range_with_len k (length (both_widths ds)))) next in
    let later = total-later (2 * width_of d) (both_widths ds) 0 (length (both_widths ds)) in
    let rest = total-all ds in
    omega (arith, one, head, shift, later, rest)

module _ (g : GameData) where
  pub total_levels : total (widths_of g) (slots_of (widths_of g)) ≡ level_count (state_domains g)
  total_levels = total-all (state_domains g)

  -- two stores of the game's levels have those of its slots
  pub fits_slots : (from to : Contents) → from.state.table.levels ≡ level_count (state_domains g) → to.state.table.levels ≡ level_count (state_domains g) → level_count (state_domains g) < 2 ^ 32 → FitsSlots from to (widths_of g)
  fits_slots from to from_levels to_levels small = record {
    from_levels = from_levels ∙ sym total_levels;
    to_levels = to_levels ∙ sym total_levels;
    few = (let all = total_levels in omega (arith, all, small));
  }

  -- ---- orders

  pub length-slots : (order : List ℕ) → length (slots_for g order) ≡ length g.hidden + length order
  length-slots order =
      let both = length-append (range_with_len 0 (length g.hidden)) (map (place_of g) order) in
      let tables = length-range_with_len 0 (length g.hidden) in
      let variables = length-map order (place_of g) in
      omega (arith, both, tables, variables)

  -- a slot for each hidden table and for each variable
  length-widths : length (widths_of g) ≡ length g.hidden + length g.variables
  length-widths =
      let widths = length-map (state_domains g) (λ (d : DomainData). 2 * width_of d) in
      let one = length-append (map table_domain g.hidden) (domains_of is_env g.variables ++ domains_of (λ o. not (is_env o)) g.variables) in
      let two = length-append (domains_of is_env g.variables) (domains_of (λ o. not (is_env o)) g.variables) in
      let tables = length-map g.hidden table_domain in
      let inputs = length-owned is_env g.variables in
      let outputs = length-owned (λ o. not (is_env o)) g.variables in
      let all = both_owned g.variables in
      omega (arith, widths, one, two, tables, inputs, outputs, all)

  -- the declared order has each slot once
  pub declared_is_order : IsOrder (widths_of g) (slots_for g (declared g))
  declared_is_order =
      let h : ℕ = length g.hidden in
      let n : ℕ = length g.variables in
      let behind : IsPermutation (range_with_len (0 + h) n) (map (place_of g) (declared g)) = subst (λ (xs : List ℕ). IsPermutation xs (map (place_of g) (declared g))) slots_behind (places_shuffled g) in
      subst (λ (xs : List ℕ). IsPermutation xs (slots_for g (declared g))) (sym (ap (range_with_len 0) length-widths ∙ range-append 0 h n))
      (IsPermutation-append_right (range_with_len 0 h) (range_with_len (0 + h) n) (map (place_of g) (declared g)) behind)
    where
      slots_behind : range_with_len (length g.hidden) (owned is_env g.variables) ++ range_with_len (length g.hidden + owned is_env g.variables) (owned is_sys g.variables) ≡ range_with_len (0 + length g.hidden) (length g.variables)
      slots_behind =
          let start : length g.hidden ≡ 0 + length g.hidden = omega arith in
          sym (range-append (length g.hidden) (owned is_env g.variables) (owned is_sys g.variables)) ∙ (ap (range_with_len (length g.hidden)) (both_owned g.variables) ∙ ap (λ (a : ℕ). range_with_len a (length g.variables)) start)
