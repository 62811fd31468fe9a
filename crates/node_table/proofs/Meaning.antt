-- What the nodes of a sound table stand for.
use Rattle.std.proofs.Common.{◌≡◌, ℕ, zero, suc, ◌-◌, ◌<◌, ◌≤◌, ◌==◌, Bool, cond, refl, sym, ◌∙◌, ap, subst, inl, inr, arith}
use Rattle.std.proofs.lemmas.Bool.{cases_lt, cases_eq, lt-ltb, le-ltb, ne_eqb, eq-eqb, false≢true, true≢false}
use Rattle.spec_model.specs.Diagrams.{Diagram, constant, branch, IsLater, IsReduced, IsWithin, IsPartOf}
use Rattle.node_table.specs.declared.node.Node.{Node}
use Rattle.node_table.specs.Table.{Table, node_at, level_at, low_at, high_at, IsLive, IsMarked, IsSound, grown, diagram_at}

-- ---- one level down

grown-constant : (t : Table) (depth n : ℕ) → n < 2 → grown t depth n ≡ constant (n == 1)
grown-constant t zero n less = refl
grown-constant t (suc depth) n less = ap (λ b. cond b (constant (n == 1)) (branch (level_at t n) (grown t depth (low_at t n)) (grown t depth (high_at t n)))) (lt-ltb n 2 less)

grown-inner : (t : Table) (depth n : ℕ) → 2 ≤ n → grown t (suc depth) n ≡ branch (level_at t n) (grown t depth (low_at t n)) (grown t depth (high_at t n))
grown-inner t depth n inner = ap (λ b. cond b (constant (n == 1)) (branch (level_at t n) (grown t depth (low_at t n)) (grown t depth (high_at t n)))) (le-ltb n 2 inner)

same_branch : (level level' : ℕ) (a a' b b' : Diagram) → level ≡ level' → a ≡ a' → b ≡ b' → branch level a b ≡ branch level' a' b'
same_branch level level' a a' b b' e f g = cc

module _ (t : Table) (sound : IsSound t) where
  -- how many levels may stand below a node
  abbrev depth_of : ℕ → ℕ
  depth_of n = t.levels - level_at t n

  low_down : (n : ℕ) → 2 ≤ n → IsLive t n → depth_of (low_at t n) < depth_of n
  low_down n inner live = let fit = sound.fit n inner live in omega (arith, fit.below, fit.low_later)

  high_down : (n : ℕ) → 2 ≤ n → IsLive t n → depth_of (high_at t n) < depth_of n
  high_down n inner live = let fit = sound.fit n inner live in omega (arith, fit.below, fit.high_later)

  -- levels further down change nothing
  grown_same : (depth depth' n : ℕ) → depth_of n ≤ depth → depth_of n ≤ depth' → IsLive t n → grown t depth n ≡ grown t depth' n
  grown_same zero depth' n le le' live =
      elim (cases_lt n 2) [
        | inl less ↦ sym (grown-constant t depth' n less)
        | inr inner ↦ absurd (omega (arith, le, low_down n inner live))
      ]
  grown_same (suc depth) zero n le le' live =
      elim (cases_lt n 2) [
        | inl less ↦ grown-constant t (suc depth) n less
        | inr inner ↦ absurd (omega (arith, le', low_down n inner live))
      ]
  grown_same (suc depth) (suc depth') n le le' live =
      elim (cases_lt n 2) [
        | inl less ↦ grown-constant t (suc depth) n less ∙ sym (grown-constant t (suc depth') n less)
        | inr inner ↦
            let fit = sound.fit n inner live in
            grown-inner t depth n inner ∙ (same_branch _ _ _ _ _ _ refl
            (grown_same depth depth' (low_at t n) (omega (arith, le, low_down n inner live)) (omega (arith, le', low_down n inner live)) fit.low_live)
            (grown_same depth depth' (high_at t n) (omega (arith, le, high_down n inner live)) (omega (arith, le', high_down n inner live)) fit.high_live)
            ∙ sym (grown-inner t depth' n inner))
      ]

  pub diagram_at-constant : (n : ℕ) → n < 2 → diagram_at t n ≡ constant (n == 1)
  diagram_at-constant n less = grown-constant t t.levels n less

  inner_grown : (levels n : ℕ) → t.levels ≡ levels → 2 ≤ n → IsLive t n → grown t levels n ≡ branch (level_at t n) (diagram_at t (low_at t n)) (diagram_at t (high_at t n))
  inner_grown zero n e inner live = absurd (omega (arith, e, low_down n inner live))
  inner_grown (suc depth) n e inner live =
      let fit = sound.fit n inner live in
      grown-inner t depth n inner ∙ same_branch _ _ _ _ _ _ refl
      (grown_same depth t.levels (low_at t n) (omega (arith, e, low_down n inner live)) (omega arith) fit.low_live)
      (grown_same depth t.levels (high_at t n) (omega (arith, e, high_down n inner live)) (omega arith) fit.high_live)

  -- a node stands for its level and what its parts stand for
  pub diagram_at-inner : (n : ℕ) → 2 ≤ n → IsLive t n → diagram_at t n ≡ branch (level_at t n) (diagram_at t (low_at t n)) (diagram_at t (high_at t n))
  diagram_at-inner n inner live = inner_grown t.levels n refl inner live

  -- ---- one node for each diagram

  -- two constants of one value are one node
  same_constant : (n m : ℕ) → n < 2 → m < 2 → (n == 1) ≡ (m == 1) → n ≡ m
  same_constant n m less less' e =
      elim (cases_eq n 1) [
        | inl one ↦ elim (cases_eq m 1) [ inl one' ↦ one ∙ sym one' | inr ne ↦ absurd (true≢false (sym (eq-eqb n 1 one) ∙ (e ∙ ne_eqb m 1 ne))) ]
        | inr ne ↦ elim (cases_eq m 1) [ inl one' ↦ absurd (false≢true (sym (ne_eqb n 1 ne) ∙ (e ∙ eq-eqb m 1 one'))) | inr ne' ↦ (omega (arith, ne, ne')) ]
      ]

  same_value : (b c : Bool) → constant b ≡ constant c → b ≡ c
  same_value b c e = cc

  -- the parts of a branch
  same_level : (level level' : ℕ) (a a' b b' : Diagram) → branch level a b ≡ branch level' a' b' → level ≡ level'
  same_level level level' a a' b b' e = cc

  same_low : (level level' : ℕ) (a a' b b' : Diagram) → branch level a b ≡ branch level' a' b' → a ≡ a'
  same_low level level' a a' b b' e = cc

  same_high : (level level' : ℕ) (a a' b b' : Diagram) → branch level a b ≡ branch level' a' b' → b ≡ b'
  same_high level level' a a' b b' e = cc

  never_constant : (b : Bool) (level : ℕ) (low high : Diagram) → constant b ≡ branch level low high → ⊥
  never_constant b level low high e = cc

  same_triple : (x y : Node) → x.level ≡ y.level → x.low ≡ y.low → x.high ≡ y.high → x ≡ y
  same_triple x y e f g = λ i. record { level = e i; low = f i; high = g i }

  node_of_diagram : (fuel n m : ℕ) → depth_of n ≤ fuel → IsLive t n → IsLive t m → diagram_at t n ≡ diagram_at t m → n ≡ m
  node_of_diagram zero n m le live live' e =
      elim (cases_lt n 2) [
        | inl less ↦ elim (cases_lt m 2) [
          | inl less' ↦ same_constant n m less less' (same_value _ _ (sym (diagram_at-constant n less) ∙ (e ∙ diagram_at-constant m less')))
          | inr inner' ↦ absurd (never_constant _ _ _ _ (sym (diagram_at-constant n less) ∙ (e ∙ diagram_at-inner m inner' live')))
        ]
        | inr inner ↦ absurd (omega (arith, le, low_down n inner live))
      ]
  node_of_diagram (suc fuel) n m le live live' e =
      elim (cases_lt n 2) [
        | inl less ↦ elim (cases_lt m 2) [
          | inl less' ↦ same_constant n m less less' (same_value _ _ (sym (diagram_at-constant n less) ∙ (e ∙ diagram_at-constant m less')))
          | inr inner' ↦ absurd (never_constant _ _ _ _ (sym (diagram_at-constant n less) ∙ (e ∙ diagram_at-inner m inner' live')))
        ]
        | inr inner ↦ elim (cases_lt m 2) [
          | inl less' ↦ absurd (never_constant _ _ _ _ (sym (diagram_at-constant m less') ∙ (sym e ∙ diagram_at-inner n inner live)))
          | inr inner' ↦
              let both : branch (level_at t n) (diagram_at t (low_at t n)) (diagram_at t (high_at t n)) ≡ branch (level_at t m) (diagram_at t (low_at t m)) (diagram_at t (high_at t m)) =
              sym (diagram_at-inner n inner live) ∙ (e ∙ diagram_at-inner m inner' live') in
              let fit = sound.fit n inner live in
              let fit' = sound.fit m inner' live' in
              sound.unlike n m inner inner' live live' (same_triple (node_at t n) (node_at t m)
              (same_level _ _ _ _ _ _ both)
              (node_of_diagram fuel (low_at t n) (low_at t m) (omega (arith, le, low_down n inner live)) fit.low_live fit'.low_live (same_low _ _ _ _ _ _ both))
              (node_of_diagram fuel (high_at t n) (high_at t m) (omega (arith, le, high_down n inner live)) fit.high_live fit'.high_live (same_high _ _ _ _ _ _ both)))
        ]
      ]

  -- live nodes that stand for one diagram are one
  pub one_node : (n m : ℕ) → IsLive t n → IsLive t m → diagram_at t n ≡ diagram_at t m → n ≡ m
  one_node n m live live' e = node_of_diagram (depth_of n) n m (omega arith) live live' e

  -- ---- reduced diagrams

  pub later_at : (level n : ℕ) → IsLive t n → level < level_at t n → IsLater level (diagram_at t n)
  later_at level n live less =
      elim (cases_lt n 2) [
        | inl small ↦ subst (IsLater level) (sym (diagram_at-constant n small)) tt
        | inr inner ↦ subst (IsLater level) (sym (diagram_at-inner n inner live)) less
      ]

  reduced_below : (fuel n : ℕ) → depth_of n ≤ fuel → IsLive t n → IsReduced (diagram_at t n) × IsWithin t.levels (diagram_at t n)
  reduced_below zero n le live =
      elim (cases_lt n 2) [
        | inl less ↦ (subst IsReduced (sym (diagram_at-constant n less)) tt, subst (IsWithin t.levels) (sym (diagram_at-constant n less)) tt)
        | inr inner ↦ absurd (omega (arith, le, low_down n inner live))
      ]
  reduced_below (suc fuel) n le live =
      elim (cases_lt n 2) [
        | inl less ↦ (subst IsReduced (sym (diagram_at-constant n less)) tt, subst (IsWithin t.levels) (sym (diagram_at-constant n less)) tt)
        | inr inner ↦
            let fit = sound.fit n inner live in
            let low = reduced_below fuel (low_at t n) (omega (arith, le, low_down n inner live)) fit.low_live in
            let high = reduced_below fuel (high_at t n) (omega (arith, le, high_down n inner live)) fit.high_live in (
              subst IsReduced (sym (diagram_at-inner n inner live))
                  (λ e. fit.unlike (one_node (low_at t n) (high_at t n) fit.low_live fit.high_live e), later_at (level_at t n) (low_at t n) fit.low_live fit.low_later, later_at (level_at t n) (high_at t n) fit.high_live fit.high_later, low.0, high.0),
              subst (IsWithin t.levels) (sym (diagram_at-inner n inner live)) (fit.below, low.1, high.1),
            )
      ]

  -- what a live node stands for is reduced, and its levels are those of the table
  pub diagram_at-reduced : (n : ℕ) → IsLive t n → IsReduced (diagram_at t n)
  diagram_at-reduced n live = (reduced_below (depth_of n) n (omega arith) live).0

  pub diagram_at-within : (n : ℕ) → IsLive t n → IsWithin t.levels (diagram_at t n)
  diagram_at-within n live = (reduced_below (depth_of n) n (omega arith) live).1

  -- ---- parts

  part_of_marked : (fuel n k : ℕ) → depth_of n ≤ fuel → IsLive t n → IsLive t k → IsMarked t n → IsPartOf (diagram_at t k) (diagram_at t n) → IsMarked t k
  part_of_marked zero n k le live live' marked part =
      elim (cases_lt n 2) [
        | inl less ↦ let e : diagram_at t k ≡ constant (n == 1) = subst (IsPartOf (diagram_at t k)) (diagram_at-constant n less) part in
            subst (IsMarked t) (sym (one_node k n live' live (e ∙ sym (diagram_at-constant n less)))) marked
        | inr inner ↦ absurd (omega (arith, le, low_down n inner live))
      ]
  part_of_marked (suc fuel) n k le live live' marked part =
      elim (cases_lt n 2) [
        | inl less ↦ let e : diagram_at t k ≡ constant (n == 1) = subst (IsPartOf (diagram_at t k)) (diagram_at-constant n less) part in
            subst (IsMarked t) (sym (one_node k n live' live (e ∙ sym (diagram_at-constant n less)))) marked
        | inr inner ↦
            let fit = sound.fit n inner live in
            let parts : IsPartOf (diagram_at t k) (branch (level_at t n) (diagram_at t (low_at t n)) (diagram_at t (high_at t n))) = subst (IsPartOf (diagram_at t k)) (diagram_at-inner n inner live) part in
            elim parts [
              | inl e ↦ subst (IsMarked t) (sym (one_node k n live' live (e ∙ sym (diagram_at-inner n inner live)))) marked
              | inr (inl low) ↦ part_of_marked fuel (low_at t n) k (omega (arith, le, low_down n inner live)) fit.low_live live' (sound.low_marked n inner marked) low
              | inr (inr high) ↦ part_of_marked fuel (high_at t n) k (omega (arith, le, high_down n inner live)) fit.high_live live' (sound.high_marked n inner marked) high
            ]
      ]

  -- what a marked node reaches is marked
  pub marked_parts : (n k : ℕ) → IsLive t n → IsLive t k → IsMarked t n → IsPartOf (diagram_at t k) (diagram_at t n) → IsMarked t k
  marked_parts n k live live' marked part = part_of_marked (depth_of n) n k (omega arith) live live' marked part

-- each diagram is a part of itself
pub part_itself : (d : Diagram) → IsPartOf d d
part_itself (constant b) = refl
part_itself (branch level low high) = inl refl

-- ---- two tables

-- where some nodes, with all that they reach, are as they were, they stand for what they stood for
module _ (t u : Table) (same : ℕ → Type 0) (nodes : (n : ℕ) → same n → node_at u n ≡ node_at t n) (parts : (n : ℕ) → same n → 2 ≤ n → same (low_at t n) × same (high_at t n)) where
  grown_stays : (depth n : ℕ) → same n → grown u depth n ≡ grown t depth n
  grown_stays zero n here = refl
  grown_stays (suc depth) n here =
      elim (cases_lt n 2) [
        | inl less ↦ grown-constant u (suc depth) n less ∙ sym (grown-constant t (suc depth) n less)
        | inr inner ↦
            let e : node_at u n ≡ node_at t n = nodes n here in
            let below = parts n here inner in
            grown-inner u depth n inner ∙ (same_branch _ _ _ _ _ _ (ap (λ (x : Node). x.level) e)
            (ap (grown u depth) (ap (λ (x : Node). x.low) e) ∙ grown_stays depth (low_at t n) below.0)
            (ap (grown u depth) (ap (λ (x : Node). x.high) e) ∙ grown_stays depth (high_at t n) below.1)
            ∙ sym (grown-inner t depth n inner))
      ]

  pub diagram_stays : u.levels ≡ t.levels → (n : ℕ) → same n → diagram_at u n ≡ diagram_at t n
  diagram_stays e n here = ap (λ levels. grown u levels n) e ∙ grown_stays t.levels n here
