-- The search for the first bits, through a row of edges for each level that it stands at.
use Rattle.std.proofs.Common.{◌≡◌, ℕ, zero, suc, ◌<◌, ◌≤◌, ◌+◌, ◌-◌, ◌*◌, inl, inr, sym, ◌∙◌, ap, subst, refl, arith, add-one, Bool, true, false, Option, Some, None, List, [], ◌∷◌, length, get_or, set, get_or-set_same, get_or-set_other, min}
use Rattle.std.proofs.lemmas.Bool.{cases_lt, false≢true}
use Rattle.spec_model.specs.Diagrams.{Bits}
use Rattle.spec_model.specs.DiagramReads.{bits_of}
use Rattle.bdd_store.specs.declared.edge.Edge.{Edge}
use Rattle.bdd_ops.specs.Contents.{Contents}
use Rattle.bdd_ops.specs.Steps.{level_at}
use Rattle.bdd_ops.specs.Paths.{fixed_at, IsFirst, HasNone}
use Rattle.bdd_ops.specs.Together.{IsRow, all_in, first_bit, AreFirst, IsFirstWith, HasNoneWith}
use Rattle.bdd_ops.specs.Searching.{top_of, level_for, IsNext, IsTried, IsLeft, IsSearch, cost, cost_of, next_of, pending}
use Rattle.bdd_ops.proofs.PathLemmas.{bit_cases}
use Rattle.bdd_ops.proofs.FirstLemmas.{with_first, with_none, first_past, found_with_false, found_with_true, found_with_none, first_after_write, first_restored}

-- ---- the least level of a row

top_first : (c : Contents) (row : List Edge) (k : ℕ) (d : Edge) → k < length row → top_of c row ≤ level_at c (get_or row k d).0
top_first c [] k d inside = absurd (omega (arith, inside))
top_first c (e ∷ es) zero d inside = let le : min (level_at c e.0) (top_of c es) ≤ level_at c e.0 = omega arith in le
top_first c (e ∷ es) (suc k) d inside =
    let rest : top_of c es ≤ level_at c (get_or es k d).0 = top_first c es k d (omega (arith, inside)) in
    let le : min (level_at c e.0) (top_of c es) ≤ top_of c es = omega arith in
    let both : min (level_at c e.0) (top_of c es) ≤ level_at c (get_or es k d).0 = omega (arith, rest, le) in both

top_last : (c : Contents) (row : List Edge) (level : ℕ) → level ≤ c.state.table.levels → ((k : ℕ) (d : Edge) → k < length row → level ≤ level_at c (get_or row k d).0) → level ≤ top_of c row
top_last c [] level le from = le
top_last c (e ∷ es) level le from =
    let here : level ≤ level_at c e.0 = from 0 e (omega arith) in
    let rest : level ≤ top_of c es = top_last c es level le (λ k d inside. from (suc k) d (omega (arith, inside))) in
    let both : level ≤ min (level_at c e.0) (top_of c es) = omega (arith, here, rest) in both

pub top_within : (c : Contents) (row : List Edge) → top_of c row ≤ c.state.table.levels
top_within c [] = omega arith
top_within c (e ∷ es) =
    let rest : top_of c es ≤ c.state.table.levels = top_within c es in
    let both : min (level_at c e.0) (top_of c es) ≤ c.state.table.levels = omega (arith, rest) in both

-- no level up to it is before it
pub top_most : (c : Contents) (row : List Edge) (level : ℕ) → level ≤ c.state.table.levels → IsRow c level row → level ≤ top_of c row
top_most c row level le is = top_last c row level le is.from

-- the greatest level at which no edge stands before it is the least at which one stands
pub top_is : (c : Contents) (row : List Edge) (result : ℕ) → result ≤ c.state.table.levels → IsRow c result row → ((level : ℕ) → level ≤ c.state.table.levels → IsRow c level row → level ≤ result) → result ≡ top_of c row
top_is c row result within is least =
    let up : result ≤ top_of c row = top_most c row result within is in
    let down : top_of c row ≤ result = least (top_of c row) (top_within c row) (record { live = is.live; from = top_first c row }) in
    omega (arith, up, down)

pub top_row : (c : Contents) (row : List Edge) (level : ℕ) → IsRow c level row → IsRow c (top_of c row) row
top_row c row level is = record { live = is.live; from = top_first c row }

-- ---- other rows and bits that are the same so far

pub level_next : (c : Contents) (rows : ℕ → List Edge) (depth : ℕ) → level_for c rows (depth + 1) ≡ top_of c (rows depth) + 1
level_next c rows depth = ap (level_for c rows) (add-one depth)

tried_kept : (c : Contents) (fixed : List (Option Bool)) (bits bits' : Bits) (level : ℕ) (old new : List Edge) → IsTried c fixed bits level old new → ((k : ℕ) → k ≤ top_of c old → bits' k ≡ bits k) → IsTried c fixed bits' level old new
tried_kept c fixed bits bits' level old new tried same = record {
  below = tried.below;
  above = tried.above;
  idle = λ k above below. same k (omega (arith, below)) ∙ tried.idle k above below;
  leads = subst (λ (b : Bool). IsNext c fixed (top_of c old) b old new) (sym (same (top_of c old) (omega arith))) tried.leads;
  low_none = λ is. tried.low_none (sym (same (top_of c old) (omega arith)) ∙ is);
}

module _ (c : Contents) (fixed : List (Option Bool)) (rows rows' : ℕ → List Edge) (depth : ℕ) (same : (i : ℕ) → i ≤ depth → rows' i ≡ rows i) where
  level_same : (i : ℕ) → i ≤ depth → level_for c rows i ≡ level_for c rows' i
  level_same zero le = refl
  level_same (suc i) le = ap (λ (row : List Edge). top_of c row + 1) (sym (same i (omega (arith, le))))

  pub same_search : (bits : Bits) (next : Option Bool) → IsSearch c fixed rows bits depth next → IsSearch c fixed rows' bits depth next
  same_search bits next s = record {
    each = λ i le. subst (λ (row : List Edge). IsRow c (level_for c rows' i) row) (sym (same i le)) (subst (λ (n : ℕ). IsRow c n (rows i)) (level_same i le) (s.each i le));
    tried = λ i less.
        let le : i ≤ depth = omega (arith, less) in
        let below : i + 1 ≤ depth = omega (arith, less) in
        subst (λ (row : List Edge). IsTried c fixed bits (level_for c rows' i) row (rows' (i + 1))) (sym (same i le))
        (subst (λ (row : List Edge). IsTried c fixed bits (level_for c rows' i) (rows i) row) (sym (same (i + 1) below))
        (subst (λ (n : ℕ). IsTried c fixed bits n (rows i) (rows (i + 1))) (level_same i le) (s.tried i less)));
    rising = λ i j less le.
        let before : i ≤ depth = omega (arith, less, le) in
        subst (λ (row : List Edge). top_of c row < level_for c rows' j) (sym (same i before)) (subst (λ (n : ℕ). top_of c (rows i) < n) (level_same j le) (s.rising i j less le));
    deep = λ i le. subst (λ (n : ℕ). i ≤ n) (level_same i le) (s.deep i le);
    within = subst (λ (n : ℕ). n ≤ c.state.table.levels) (level_same depth (omega arith)) s.within;
    idle = subst (λ (n : ℕ). AreFirst fixed n c.state.table.levels bits) (level_same depth (omega arith)) s.idle;
    left = subst (λ (row : List Edge). IsLeft c fixed (level_for c rows' depth) row next) (sym (same depth (omega arith))) (subst (λ (n : ℕ). IsLeft c fixed n (rows depth) next) (level_same depth (omega arith)) s.left);
  }

-- ---- the start

pub search_begins : (c : Contents) (fixed : List (Option Bool)) (rows : ℕ → List Edge) (bits : Bits) → IsRow c 0 (rows 0) → AreFirst fixed 0 c.state.table.levels bits → IsSearch c fixed rows bits 0 (Some false)
search_begins c fixed rows bits row idle =
    let first : (P : ℕ → Type 0) → P 0 → (i : ℕ) → i ≤ 0 → P i = λ P p i le. subst P (omega (arith, le)) p in
    record {
      each = first (λ i. IsRow c (level_for c rows i) (rows i)) row;
      tried = λ i less. absurd (omega (arith, less));
      rising = λ i j less le. absurd (omega (arith, less, le));
      deep = λ i le. omega (arith, le);
      within = omega arith;
      idle = idle;
      left = λ is. absurd (false≢true is);
    }

-- ---- a step

module _ (c : Contents) (fixed : List (Option Bool)) (rows : ℕ → List Edge) (out : List Bool) (depth : ℕ) (long : length out ≡ c.state.table.levels) where
  abbrev top : ℕ
  top = top_of c (rows depth)

  abbrev level : ℕ
  level = level_for c rows depth

  pub level_before : (next : Option Bool) → IsSearch c fixed rows (bits_of out) depth next → level ≤ top
  level_before next s = top_most c (rows depth) level s.within (s.each depth (omega arith))

  -- the bits before the row's top stay
  bits_stay : (b : Bool) (k : ℕ) → k < top → bits_of (set out top b) k ≡ bits_of out k
  bits_stay b k less = get_or-set_other out top k b false (λ same. absurd (omega (arith, less, same)))

  -- ---- down

  module _ (bit : Bool) (s : IsSearch c fixed rows (bits_of out) depth (Some bit)) (below : top < c.state.table.levels) (next : IsNext c fixed top bit (rows depth) (rows (depth + 1))) where
    bit_there : bits_of (set out top bit) top ≡ bit
    bit_there = get_or-set_same out top bit false (omega (arith, below, long))

    tried_here : IsTried c fixed (bits_of (set out top bit)) level (rows depth) (rows (depth + 1))
    tried_here = record {
      below = below;
      above = level_before (Some bit) s;
      idle = λ k above less. bits_stay bit k less ∙ s.idle k above (omega (arith, less, below));
      leads = subst (λ (b : Bool). IsNext c fixed top b (rows depth) (rows (depth + 1))) (sym bit_there) next;
      low_none = λ is. s.left (sym bit_there ∙ is);
    }

    -- what holds so far, and of one more
    one_more : (P : ℕ → Type 0) → ((i : ℕ) → i ≤ depth → P i) → P (depth + 1) → (i : ℕ) → i ≤ depth + 1 → P i
    one_more P so_far last i le =
        elim (cases_lt depth i) [
          | inl behind ↦ let same : depth + 1 ≡ i = omega (arith, behind, le) in subst P same last
          | inr before ↦ so_far i before
        ]

    pub search_goes_on : IsSearch c fixed rows (bits_of (set out top bit)) (depth + 1) (Some false)
    search_goes_on =
        let le : level ≤ top = level_before (Some bit) s in
        let here : level_for c rows (depth + 1) ≡ top + 1 = level_next c rows depth in
        record {
          each = one_more (λ i. IsRow c (level_for c rows i) (rows i)) s.each (subst (λ (n : ℕ). IsRow c n (rows (depth + 1))) (sym here) next.row);
          tried = λ i less. elim (cases_lt i depth) [
            | inl before ↦
                let earlier : top_of c (rows i) < level = s.rising i depth before (omega arith) in
                tried_kept c fixed (bits_of out) (bits_of (set out top bit)) (level_for c rows i) (rows i) (rows (i + 1)) (s.tried i before) (λ k within. bits_stay bit k (omega (arith, within, earlier, le)))
            | inr last ↦
                let same : depth ≡ i = omega (arith, less, last) in
                subst (λ (n : ℕ). IsTried c fixed (bits_of (set out top bit)) (level_for c rows n) (rows n) (rows (n + 1))) same tried_here
          ];
          rising = λ i j less within. elim (cases_lt depth j) [
            | inl behind ↦
                let same : depth + 1 ≡ j = omega (arith, behind, within) in
                let up_to : top_of c (rows i) ≤ top = elim (cases_lt i depth) [
                  | inl before ↦ let earlier : top_of c (rows i) < level = s.rising i depth before (omega arith) in omega (arith, earlier, le)
                  | inr last ↦ let at : depth ≡ i = omega (arith, less, same, last) in subst (λ (n : ℕ). top_of c (rows n) ≤ top) at (omega arith)
                ] in
                subst (λ (n : ℕ). top_of c (rows i) < level_for c rows n) same (subst (λ (n : ℕ). top_of c (rows i) < n) (sym here) (omega (arith, up_to)))
            | inr before ↦ s.rising i j less before
          ];
          deep = one_more (λ i. i ≤ level_for c rows i) s.deep (subst (λ (n : ℕ). depth + 1 ≤ n) (sym here) (let so_far : depth ≤ level = s.deep depth (omega arith) in omega (arith, so_far, le)));
          within = subst (λ (n : ℕ). n ≤ c.state.table.levels) (sym here) (omega (arith, below));
          idle = subst (λ (n : ℕ). AreFirst fixed n c.state.table.levels (bits_of (set out top bit))) (sym here) (first_after_write fixed top c.state.table.levels out bit (λ k above less. s.idle k (omega (arith, above, le)) less));
          left = λ is. absurd (false≢true is);
        }

  -- ---- back

  module _ (s : IsSearch c fixed rows (bits_of out) (depth + 1) None) where
    tried_last : IsTried c fixed (bits_of out) level (rows depth) (rows (depth + 1))
    tried_last = s.tried depth (omega arith)

    -- the bit that stands there has none
    bit_none : HasNoneWith fixed (all_in c (rows depth)) top (bits_of out top)
    bit_none =
        with_none fixed (all_in c (rows depth)) (all_in c (rows (depth + 1))) top (bits_of out top) tried_last.leads.same
        (subst (λ (n : ℕ). HasNone fixed (all_in c (rows (depth + 1))) n) (level_next c rows depth) s.left)

    left_behind : (b : Bool) → bits_of out top ≡ b → IsLeft c fixed level (rows depth) (next_of b)
    left_behind true is =
        found_with_none fixed (all_in c (rows depth)) level top tried_last.above (tried_last.low_none is)
        (subst (λ (b : Bool). HasNoneWith fixed (all_in c (rows depth)) top b) is bit_none)
    left_behind false is = λ again. subst (λ (b : Bool). HasNoneWith fixed (all_in c (rows depth)) top b) is bit_none

    pub search_goes_back : IsSearch c fixed rows (bits_of (set out top (first_bit (fixed_at fixed top)))) depth (next_of (bits_of out top))
    search_goes_back =
        let inside : top < length out = omega (arith, tried_last.below, long) in
        record {
          each = λ i le. s.each i (omega (arith, le));
          tried = λ i less.
              let earlier : top_of c (rows i) < level = s.rising i depth less (omega arith) in
              let le : level ≤ top = tried_last.above in
              tried_kept c fixed (bits_of out) (bits_of (set out top (first_bit (fixed_at fixed top)))) (level_for c rows i) (rows i) (rows (i + 1)) (s.tried i (omega (arith, less))) (λ k within. bits_stay (first_bit (fixed_at fixed top)) k (omega (arith, within, earlier, le)));
          rising = λ i j less le. s.rising i j less (omega (arith, le));
          deep = λ i le. s.deep i (omega (arith, le));
          within = omega (arith, tried_last.above, tried_last.below);
          idle = first_restored fixed level top c.state.table.levels out inside tried_last.idle (subst (λ (n : ℕ). AreFirst fixed n c.state.table.levels (bits_of out)) (level_next c rows depth) s.idle);
          left = left_behind (bits_of out top) refl;
        }

-- ---- what is left at one row

search_left : (c : Contents) (fixed : List (Option Bool)) (rows : ℕ → List Edge) (bits : Bits) (depth : ℕ) (next next' : Option Bool) → IsSearch c fixed rows bits depth next → IsLeft c fixed (level_for c rows depth) (rows depth) next' → IsSearch c fixed rows bits depth next'
search_left c fixed rows bits depth next next' s left = record {
  each = s.each;
  tried = s.tried;
  rising = s.rising;
  deep = s.deep;
  within = s.within;
  idle = s.idle;
  left = left;
}

-- a bit that has none
pub search_fails : (c : Contents) (fixed : List (Option Bool)) (rows : ℕ → List Edge) (bits : Bits) (depth : ℕ) (bit : Bool) → IsSearch c fixed rows bits depth (Some bit) → HasNoneWith fixed (all_in c (rows depth)) (top_of c (rows depth)) bit → IsSearch c fixed rows bits depth (next_of bit)
search_fails c fixed rows bits depth false s none = search_left c fixed rows bits depth (Some false) (Some true) s (λ is. none)
search_fails c fixed rows bits depth true s none =
    search_left c fixed rows bits depth (Some true) None s
    (found_with_none fixed (all_in c (rows depth)) (level_for c rows depth) (top_of c (rows depth)) (top_most c (rows depth) (level_for c rows depth) s.within (s.each depth (omega arith))) (s.left refl) none)

-- a row that is false
pub search_ends : (c : Contents) (fixed : List (Option Bool)) (rows : ℕ → List Edge) (bits : Bits) (depth : ℕ) (next : Option Bool) → IsSearch c fixed rows bits depth next → ((t : Bits) → all_in c (rows depth) t ≡ false) → IsSearch c fixed rows bits depth None
search_ends c fixed rows bits depth next s is_false = search_left c fixed rows bits depth next None s (λ t agrees makes. false≢true (sym (is_false t) ∙ makes))

-- ---- the first bits

one_above : (c : Contents) (fixed : List (Option Bool)) (bits : Bits) (level : ℕ) (old new : List Edge) → IsTried c fixed bits level old new → IsFirst fixed (all_in c new) (top_of c old + 1) (c.state.table.levels - (top_of c old + 1)) bits → IsFirst fixed (all_in c old) level (c.state.table.levels - level) bits
one_above c fixed bits level old new tried first =
    let top : ℕ = top_of c old in
    let levels : ℕ = c.state.table.levels in
    let with_bit : IsFirstWith fixed (all_in c old) top (levels - (top + 1)) (bits top) bits = with_first fixed (all_in c old) (all_in c new) top (levels - (top + 1)) (bits top) bits tried.leads.same tried.leads.allowed refl first in
    elim (bit_cases (bits top)) [
      | inl is ↦ found_with_true fixed (all_in c old) level top levels bits tried.above tried.below tried.idle (tried.low_none is) (subst (λ (b : Bool). IsFirstWith fixed (all_in c old) top (levels - (top + 1)) b bits) is with_bit)
      | inr is ↦ found_with_false fixed (all_in c old) level top levels bits tried.above tried.below tried.idle (subst (λ (b : Bool). IsFirstWith fixed (all_in c old) top (levels - (top + 1)) b bits) is with_bit)
    ]

all_above : (c : Contents) (fixed : List (Option Bool)) (rows : ℕ → List Edge) (bits : Bits) (depth : ℕ) → ((i : ℕ) → i < depth → IsTried c fixed bits (level_for c rows i) (rows i) (rows (i + 1))) → IsFirst fixed (all_in c (rows depth)) (level_for c rows depth) (c.state.table.levels - level_for c rows depth) bits → IsFirst fixed (all_in c (rows 0)) 0 (c.state.table.levels - 0) bits
all_above c fixed rows bits zero tried first = first
all_above c fixed rows bits (suc depth) tried first =
    let one : IsTried c fixed bits (level_for c rows depth) (rows depth) (rows (suc depth)) = subst (λ (n : ℕ). IsTried c fixed bits (level_for c rows depth) (rows depth) (rows n)) (add-one depth) (tried depth (omega arith)) in
    all_above c fixed rows bits depth (λ i less. tried i (omega (arith, less))) (one_above c fixed bits (level_for c rows depth) (rows depth) (rows (suc depth)) one first)

-- a row of constants that are true
pub search_finds : (c : Contents) (fixed : List (Option Bool)) (rows : ℕ → List Edge) (bits : Bits) (depth : ℕ) (next : Option Bool) → IsSearch c fixed rows bits depth next → length fixed ≡ c.state.table.levels → all_in c (rows depth) bits ≡ true → IsFirst fixed (all_in c (rows 0)) 0 c.state.table.levels bits
search_finds c fixed rows bits depth next s long makes =
    let all : c.state.table.levels - 0 ≡ c.state.table.levels = omega arith in
    subst (λ (n : ℕ). IsFirst fixed (all_in c (rows 0)) 0 n bits) all
    (all_above c fixed rows bits depth s.tried (first_past fixed (all_in c (rows depth)) (level_for c rows depth) c.state.table.levels bits long s.within s.idle makes))

-- and the first row, where nothing is left
pub search_none : (c : Contents) (fixed : List (Option Bool)) (rows : ℕ → List Edge) (bits : Bits) (depth : ℕ) → depth ≡ 0 → IsSearch c fixed rows bits depth None → HasNone fixed (all_in c (rows 0)) 0
search_none c fixed rows bits depth none s = subst (λ (n : ℕ). HasNone fixed (all_in c (rows n)) (level_for c rows n)) none s.left

-- ---- steps that are left

cost_some : (count : ℕ) → 2 ≤ cost count
cost_some zero = omega arith
cost_some (suc count) = let some : 5 ≤ 2 * cost count + 5 = omega arith in omega (arith, some)

pending_same : (bits bits' : ℕ → Bool) (levels depth : ℕ) → ((i : ℕ) → i < depth → bits' i ≡ bits i) → pending bits' levels depth ≡ pending bits levels depth
pending_same bits bits' levels zero same = refl
pending_same bits bits' levels (suc depth) same =
    let rest : pending bits' levels depth ≡ pending bits levels depth = pending_same bits bits' levels depth (λ i less. same i (omega (arith, less))) in
    let here : cost_of (next_of (bits' depth)) (levels - depth) ≡ cost_of (next_of (bits depth)) (levels - depth) = ap (λ (b : Bool). cost_of (next_of b) (levels - depth)) (same depth (omega arith)) in
    let sum : pending bits' levels depth + cost_of (next_of (bits' depth)) (levels - depth) ≡ pending bits levels depth + cost_of (next_of (bits depth)) (levels - depth) = omega (arith, rest, here) in sum

pub pending_more : (bits : ℕ → Bool) (levels depth : ℕ) → pending bits levels (depth + 1) ≡ pending bits levels depth + cost_of (next_of (bits depth)) (levels - depth)
pending_more bits levels depth = ap (pending bits levels) (add-one depth)

cost_more : (count : ℕ) → 0 < count → cost count ≡ 2 * cost (count - 1) + 5
cost_more zero some = absurd (omega (arith, some))
cost_more (suc count) some = let same : suc count - 1 ≡ count = omega arith in ap (λ (n : ℕ). 2 * cost n + 5) (sym same)

-- a bit and what comes behind it, with the search below, cost less than the bit
bit_cost : (bit : Bool) (count : ℕ) → 0 < count → cost (count - 1) + cost_of (next_of bit) count < cost_of (Some bit) count
bit_cost true count some = let less : cost (count - 1) + 1 < 3 + cost (count - 1) = omega arith in less
bit_cost false count some = let less : cost (count - 1) + (3 + cost (count - 1)) < cost count = omega (arith, cost_more count some) in less

-- each step leaves fewer
pub fewer_on : (bits bits' : ℕ → Bool) (bit : Bool) (levels depth : ℕ) → depth < levels → ((i : ℕ) → i < depth → bits' i ≡ bits i) → bits' depth ≡ bit → cost_of (Some false) (levels - (depth + 1)) + pending bits' levels (depth + 1) < cost_of (Some bit) (levels - depth) + pending bits levels depth
fewer_on bits bits' bit levels depth below same is =
    let more : pending bits' levels (depth + 1) ≡ pending bits levels depth + cost_of (next_of bit) (levels - depth) =
    pending_more bits' levels depth ∙ (ap (λ (b : Bool). pending bits' levels depth + cost_of (next_of b) (levels - depth)) is ∙ ap (λ (n : ℕ). n + cost_of (next_of bit) (levels - depth)) (pending_same bits bits' levels depth same)) in
    let one : levels - (depth + 1) ≡ levels - depth - 1 = omega arith in
    let search : cost (levels - (depth + 1)) ≡ cost (levels - depth - 1) = ap cost one in
    let least : cost (levels - depth - 1) + cost_of (next_of bit) (levels - depth) < cost_of (Some bit) (levels - depth) = bit_cost bit (levels - depth) (omega (arith, below)) in
    let sum : cost (levels - (depth + 1)) + pending bits' levels (depth + 1) < cost_of (Some bit) (levels - depth) + pending bits levels depth = omega (arith, more, search, least) in sum

pub fewer_back : (bits bits' : ℕ → Bool) (levels depth : ℕ) → ((i : ℕ) → i < depth → bits' i ≡ bits i) → cost_of (next_of (bits depth)) (levels - depth) + pending bits' levels depth < cost_of None (levels - (depth + 1)) + pending bits levels (depth + 1)
fewer_back bits bits' levels depth same =
    let more : pending bits levels (depth + 1) ≡ pending bits levels depth + cost_of (next_of (bits depth)) (levels - depth) = pending_more bits levels depth in
    let rest : pending bits' levels depth ≡ pending bits levels depth = pending_same bits bits' levels depth same in
    let sum : cost_of (next_of (bits depth)) (levels - depth) + pending bits' levels depth < 1 + pending bits levels (depth + 1) = omega (arith, more, rest) in sum

pub fewer_fails : (bit : Bool) (count : ℕ) → 0 < count → cost_of (next_of bit) count < cost_of (Some bit) count
fewer_fails bit count some = omega (arith, bit_cost bit count some)

pub fewer_ends : (bit : Bool) (count : ℕ) → cost_of None count < cost_of (Some bit) count
fewer_ends true count = let less : 1 < 3 + cost (count - 1) = omega arith in less
fewer_ends false count = let less : 1 < cost count = omega (arith, cost_some count) in less

-- ---- the loop's steps

-- the level at which a row is split is below, and the row isn't the last one
pub split_facts : (c : Contents) (fixed : List (Option Bool)) (rows : ℕ → List Edge) (bits : Bits) (depth least : ℕ) (row : List Edge) (next : Option Bool) → IsSearch c fixed rows bits depth next → row ≡ rows depth → least ≡ top_of c row → least < c.state.table.levels → (least ≡ top_of c (rows depth)) × (least < c.state.table.levels) × (depth < c.state.table.levels)
split_facts c fixed rows bits depth least row next s reads is below =
    let is_top : least ≡ top_of c (rows depth) = is ∙ ap (top_of c) reads in
    let le : level_for c rows depth ≤ top_of c (rows depth) = top_most c (rows depth) (level_for c rows depth) s.within (s.each depth (omega arith)) in
    (is_top, below, omega (arith, s.deep depth (omega arith), le, is_top, below))

pub search_steps_on : (c : Contents) (fixed : List (Option Bool)) (rows rows' : ℕ → List Edge) (out : List Bool) (depth least : ℕ) (bit : Bool) (next : Option Bool) → length out ≡ c.state.table.levels → next ≡ Some bit → IsSearch c fixed rows (bits_of out) depth next → ((i : ℕ) → i ≤ depth → rows' i ≡ rows i) → least ≡ top_of c (rows depth) → least < c.state.table.levels → IsNext c fixed least bit (rows depth) (rows' (depth + 1)) → IsSearch c fixed rows' (bits_of (set out least bit)) (depth + 1) (Some false)
search_steps_on c fixed rows rows' out depth least bit next long is s same top_is below leads =
    let here : rows' depth ≡ rows depth = same depth (omega arith) in
    let same_top : least ≡ top_of c (rows' depth) = top_is ∙ ap (top_of c) (sym here) in
    let stands : IsSearch c fixed rows' (bits_of out) depth (Some bit) = same_search c fixed rows rows' depth same (bits_of out) (Some bit) (subst (λ (n : Option Bool). IsSearch c fixed rows (bits_of out) depth n) is s) in
    let leads' : IsNext c fixed (top_of c (rows' depth)) bit (rows' depth) (rows' (depth + 1)) =
    subst (λ (n : ℕ). IsNext c fixed n bit (rows' depth) (rows' (depth + 1))) same_top (subst (λ (row : List Edge). IsNext c fixed least bit row (rows' (depth + 1))) (sym here) leads) in
    subst (λ (n : ℕ). IsSearch c fixed rows' (bits_of (set out n bit)) (depth + 1) (Some false)) (sym same_top)
    (search_goes_on c fixed rows' out depth long bit stands (subst (λ (n : ℕ). n < c.state.table.levels) same_top below) leads')

pub search_steps_fail : (c : Contents) (fixed : List (Option Bool)) (rows rows' : ℕ → List Edge) (bits : Bits) (depth least : ℕ) (bit : Bool) (next : Option Bool) → next ≡ Some bit → IsSearch c fixed rows bits depth next → ((i : ℕ) → i ≤ depth → rows' i ≡ rows i) → least ≡ top_of c (rows depth) → HasNoneWith fixed (all_in c (rows depth)) least bit → IsSearch c fixed rows' bits depth (next_of bit)
search_steps_fail c fixed rows rows' bits depth least bit next is s same top_is none =
    let stands : IsSearch c fixed rows bits depth (Some bit) = subst (λ (n : Option Bool). IsSearch c fixed rows bits depth n) is s in
    same_search c fixed rows rows' depth same bits (next_of bit) (search_fails c fixed rows bits depth bit stands (subst (λ (n : ℕ). HasNoneWith fixed (all_in c (rows depth)) n bit) top_is none))

pub search_steps_back : (c : Contents) (fixed : List (Option Bool)) (rows : ℕ → List Edge) (out out' : List Bool) (depth : ℕ) (row : List Edge) (next result : Option Bool) → length out ≡ c.state.table.levels → 0 < depth → next ≡ None → IsSearch c fixed rows (bits_of out) depth next → row ≡ rows (depth - 1) → result ≡ next_of (bits_of out (top_of c row)) → out' ≡ set out (top_of c row) (first_bit (fixed_at fixed (top_of c row))) → IsSearch c fixed rows (bits_of out') (depth - 1) result
search_steps_back c fixed rows out out' depth row next result long some is s reads answers written =
    let one : depth ≡ depth - 1 + 1 = omega (arith, some) in
    let stands : IsSearch c fixed rows (bits_of out) (depth - 1 + 1) None = subst (λ (n : ℕ). IsSearch c fixed rows (bits_of out) n None) one (subst (λ (n : Option Bool). IsSearch c fixed rows (bits_of out) depth n) is s) in
    subst (λ (n : Option Bool). IsSearch c fixed rows (bits_of out') (depth - 1) n) (sym answers)
    (subst (λ (o : List Bool). IsSearch c fixed rows (bits_of o) (depth - 1) (next_of (bits_of out (top_of c row)))) (sym written)
    (subst (λ (r : List Edge). IsSearch c fixed rows (bits_of (set out (top_of c r) (first_bit (fixed_at fixed (top_of c r))))) (depth - 1) (next_of (bits_of out (top_of c r)))) (sym reads)
    (search_goes_back c fixed rows out (depth - 1) long stands)))

-- and what is left behind each

abbrev pub bits_at : Contents → (ℕ → List Edge) → List Bool → ℕ → Bool
bits_at c rows out i = bits_of out (top_of c (rows i))

-- a write at the top of a row, or later, changes none of the bits above
above_stay : (c : Contents) (fixed : List (Option Bool)) (rows : ℕ → List Edge) (out : List Bool) (depth least : ℕ) (b : Bool) → ((i : ℕ) → i < depth → top_of c (rows i) < least) → (i : ℕ) → i < depth → bits_of (set out least b) (top_of c (rows i)) ≡ bits_of out (top_of c (rows i))
above_stay c fixed rows out depth least b before i less =
    let earlier : top_of c (rows i) < least = before i less in
    get_or-set_other out least (top_of c (rows i)) b false (λ same. absurd (omega (arith, earlier, same)))

pub fewer_steps_on : (c : Contents) (fixed : List (Option Bool)) (rows rows' : ℕ → List Edge) (out : List Bool) (depth least : ℕ) (bit : Bool) (next : Option Bool) → length out ≡ c.state.table.levels → next ≡ Some bit → IsSearch c fixed rows (bits_of out) depth next → ((i : ℕ) → i ≤ depth → rows' i ≡ rows i) → least ≡ top_of c (rows depth) → least < c.state.table.levels →
    cost_of (Some false) (c.state.table.levels - (depth + 1)) + pending (bits_at c rows' (set out least bit)) c.state.table.levels (depth + 1) < cost_of next (c.state.table.levels - depth) + pending (bits_at c rows out) c.state.table.levels depth
fewer_steps_on c fixed rows rows' out depth least bit next long is s same top_is below =
    let le : level_for c rows depth ≤ top_of c (rows depth) = top_most c (rows depth) (level_for c rows depth) s.within (s.each depth (omega arith)) in
    let deep : depth ≤ level_for c rows depth = s.deep depth (omega arith) in
    let before : (i : ℕ) → i < depth → top_of c (rows i) < least = λ i less. let earlier : top_of c (rows i) < level_for c rows depth = s.rising i depth less (omega arith) in omega (arith, earlier, le, top_is) in
    let stay : (i : ℕ) → i < depth → bits_at c rows' (set out least bit) i ≡ bits_at c rows out i = λ i less.
    ap (λ (row : List Edge). bits_of (set out least bit) (top_of c row)) (same i (omega (arith, less))) ∙ above_stay c fixed rows out depth least bit before i less in
    let here : bits_at c rows' (set out least bit) depth ≡ bit =
    ap (λ (row : List Edge). bits_of (set out least bit) (top_of c row)) (same depth (omega arith)) ∙ (ap (λ (n : ℕ). bits_of (set out least bit) n) (sym top_is) ∙ get_or-set_same out least bit false (omega (arith, below, long))) in
    subst (λ (n : Option Bool). cost_of (Some false) (c.state.table.levels - (depth + 1)) + pending (bits_at c rows' (set out least bit)) c.state.table.levels (depth + 1) < cost_of n (c.state.table.levels - depth) + pending (bits_at c rows out) c.state.table.levels depth) (sym is)
    (fewer_on (bits_at c rows out) (bits_at c rows' (set out least bit)) bit c.state.table.levels depth (omega (arith, deep, le, top_is, below)) stay here)

pub fewer_steps_fail : (c : Contents) (rows rows' : ℕ → List Edge) (out : List Bool) (depth : ℕ) (bit : Bool) (next : Option Bool) → next ≡ Some bit → depth < c.state.table.levels → ((i : ℕ) → i ≤ depth → rows' i ≡ rows i) →
    cost_of (next_of bit) (c.state.table.levels - depth) + pending (bits_at c rows' out) c.state.table.levels depth < cost_of next (c.state.table.levels - depth) + pending (bits_at c rows out) c.state.table.levels depth
fewer_steps_fail c rows rows' out depth bit next is below same =
    let rest : pending (bits_at c rows' out) c.state.table.levels depth ≡ pending (bits_at c rows out) c.state.table.levels depth =
    pending_same (bits_at c rows out) (bits_at c rows' out) c.state.table.levels depth (λ i less. ap (λ (row : List Edge). bits_of out (top_of c row)) (same i (omega (arith, less)))) in
    let less : cost_of (next_of bit) (c.state.table.levels - depth) < cost_of next (c.state.table.levels - depth) = subst (λ (n : Option Bool). cost_of (next_of bit) (c.state.table.levels - depth) < cost_of n (c.state.table.levels - depth)) (sym is) (fewer_fails bit (c.state.table.levels - depth) (omega (arith, below))) in
    omega (arith, rest, less)

pub fewer_steps_end : (bit : Bool) (next : Option Bool) (count rest : ℕ) → next ≡ Some bit → cost_of None count + rest < cost_of next count + rest
fewer_steps_end bit next count rest is =
    let less : cost_of None count < cost_of next count = subst (λ (n : Option Bool). cost_of None count < cost_of n count) (sym is) (fewer_ends bit count) in
    omega (arith, less)

pub fewer_steps_back : (c : Contents) (fixed : List (Option Bool)) (rows : ℕ → List Edge) (out out' : List Bool) (depth : ℕ) (row : List Edge) (next result : Option Bool) → 0 < depth → next ≡ None → IsSearch c fixed rows (bits_of out) depth next → row ≡ rows (depth - 1) → result ≡ next_of (bits_of out (top_of c row)) → out' ≡ set out (top_of c row) (first_bit (fixed_at fixed (top_of c row))) →
    cost_of result (c.state.table.levels - (depth - 1)) + pending (bits_at c rows out') c.state.table.levels (depth - 1) < cost_of next (c.state.table.levels - depth) + pending (bits_at c rows out) c.state.table.levels depth
fewer_steps_back c fixed rows out out' depth row next result some is s reads answers written =
    let levels : ℕ = c.state.table.levels in
    let one : depth - 1 + 1 ≡ depth = omega (arith, some) in
    let tried = s.tried (depth - 1) (omega (arith, some)) in
    let top_here : top_of c row ≡ top_of c (rows (depth - 1)) = ap (top_of c) reads in
    let before : (i : ℕ) → i < depth - 1 → top_of c (rows i) < top_of c row = λ i less.
    let earlier : top_of c (rows i) < level_for c rows (depth - 1) = s.rising i (depth - 1) less (omega arith) in
    let le : level_for c rows (depth - 1) ≤ top_of c (rows (depth - 1)) = tried.above in
    omega (arith, earlier, le, top_here) in
    let stay : (i : ℕ) → i < depth - 1 → bits_at c rows out' i ≡ bits_at c rows out i = λ i less.
    ap (λ (o : List Bool). bits_of o (top_of c (rows i))) written ∙ above_stay c fixed rows out (depth - 1) (top_of c row) (first_bit (fixed_at fixed (top_of c row))) before i less in
    let answer : result ≡ next_of (bits_at c rows out (depth - 1)) = answers ∙ ap (λ (n : ℕ). next_of (bits_of out n)) top_here in
    subst (λ (n : Option Bool). cost_of result (levels - (depth - 1)) + pending (bits_at c rows out') levels (depth - 1) < cost_of n (levels - depth) + pending (bits_at c rows out) levels depth) (sym is)
    (subst (λ (n : Option Bool). cost_of n (levels - (depth - 1)) + pending (bits_at c rows out') levels (depth - 1) < cost_of None (levels - depth) + pending (bits_at c rows out) levels depth) (sym answer)
    (subst (λ (n : ℕ). cost_of (next_of (bits_at c rows out (depth - 1))) (levels - (depth - 1)) + pending (bits_at c rows out') levels (depth - 1) < cost_of None (levels - n) + pending (bits_at c rows out) levels n) one
    (fewer_back (bits_at c rows out) (bits_at c rows out') levels (depth - 1) stay)))
