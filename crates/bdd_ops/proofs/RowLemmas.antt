-- Rows of edges, place by place and as conjunctions.
use Rattle.std.proofs.Common.{◌≡◌, ℕ, zero, suc, ◌<◌, ◌≤◌, ◌+◌, inl, inr, sym, ◌∙◌, ap, subst, refl, arith, Bool, true, false, ◌&&◌, Option, List, [], ◌∷◌, length, get_or, set, get_or-set_same, get_or-set_other, min, map}
use Rattle.std.proofs.lemmas.Bool.{cases_eq}
use Rattle.std.specs.List.{All}
use Rattle.std.proofs.lemmas.List.{get_or_default, get_or-map, length-map}
use Rattle.spec_model.specs.Diagrams.{Bits, Function, constant, value}
use Rattle.bdd_store.specs.declared.edge.Edge.{Edge}
use Rattle.bdd_store.specs.State.{IsEdge, IsRoot, diagram_of}
use Rattle.bdd_ops.specs.Contents.{Contents, function_at}
use Rattle.bdd_ops.specs.Steps.{IsSplitAt, level_at}
use Rattle.bdd_ops.specs.Paths.{Agrees}
use Rattle.bdd_ops.proofs.PathLemmas.{at_bit}
use Rattle.bdd_ops.specs.Together.{all_in, IsRow, IsChosen, IsSettled, SettlesRow, SettlesSome, IsLeast}

-- ---- conjunctions

and_same : (a b x y : Bool) → a ≡ b → x ≡ y → (a && x) ≡ (b && y)
and_same a b x y p q = rw (p, q) refl

and_false : (a : Bool) → (a && false) ≡ false
and_false true = refl
and_false false = refl

-- edges with the same values at each place are true together
pub all_same : (c : Contents) (xs ys : List Edge) (s : Bits) → length ys ≡ length xs → ((k : ℕ) (d : Edge) → k < length xs → function_at c (get_or ys k d).0 s ≡ function_at c (get_or xs k d).0 s) → all_in c ys s ≡ all_in c xs s
all_same c [] [] s long same = refl
all_same c [] (y ∷ ys) s long same = absurd (omega arith)
all_same c (x ∷ xs) [] s long same = absurd (omega arith)
all_same c (x ∷ xs) (y ∷ ys) s long same =
    and_same (function_at c y.0 s) (function_at c x.0 s) (all_in c ys s) (all_in c xs s) (same 0 x (omega arith)) (all_same c xs ys s (omega arith) (λ k d below. same (suc k) d (omega arith)))

-- where one edge is false, they aren't all true
pub one_false : (c : Contents) (xs : List Edge) (s : Bits) (k : ℕ) (d : Edge) → k < length xs → function_at c (get_or xs k d).0 s ≡ false → all_in c xs s ≡ false
one_false c [] s k d below is = absurd (omega arith)
one_false c (x ∷ xs) s zero d below is = ap (λ a. a && all_in c xs s) is
one_false c (x ∷ xs) s (suc k) d below is =
    ap (λ a. function_at c x.0 s && a) (one_false c xs s k d (omega arith) is) ∙ and_false (function_at c x.0 s)

-- where each edge is true, all are
pub each_true : (c : Contents) (xs : List Edge) (s : Bits) → ((k : ℕ) (d : Edge) → k < length xs → function_at c (get_or xs k d).0 s ≡ true) → all_in c xs s ≡ true
each_true c [] s is = refl
each_true c (x ∷ xs) s is =
    and_same (function_at c x.0 s) true (all_in c xs s) true (is 0 x (omega arith)) (each_true c xs s (λ k d below. is (suc k) d (omega arith)))

-- ---- places

-- what holds of two rows at each place up to one, after a write there
pub pairs_more : (R : Edge → Edge → Type 0) (xs ys : List Edge) (i : ℕ) (x y : Edge) → i < length xs → i < length ys → x ≡ get_or xs i x → R x y → ((k : ℕ) (d : Edge) → k < i → R (get_or xs k d) (get_or ys k d)) → (k : ℕ) (d : Edge) → k < i + 1 → R (get_or xs k d) (get_or (set ys i y) k d)
pairs_more R xs ys i x y in_xs in_ys reads is before k d below =
    elim (cases_eq k i) [
      | inl same ↦
          let here : get_or xs k d ≡ x = ap (λ (n : ℕ). get_or xs n d) same ∙ (get_or_default xs i d x in_xs ∙ sym reads) in
          let there : get_or (set ys i y) k d ≡ y = ap (λ (n : ℕ). get_or (set ys i y) n d) same ∙ get_or-set_same ys i y d in_ys in
          subst (λ (e : Edge). R e (get_or (set ys i y) k d)) (sym here) (subst (λ (f : Edge). R x f) (sym there) is)
      | inr other ↦ subst (λ (f : Edge). R (get_or xs k d) f) (sym (get_or-set_other ys i k y d other)) (before k d (omega arith))
    ]

-- a write changes no later place
pub rest_more : (xs ys : List Edge) (i : ℕ) (y : Edge) → ((k : ℕ) (d : Edge) → i ≤ k → get_or ys k d ≡ get_or xs k d) → (k : ℕ) (d : Edge) → i + 1 ≤ k → get_or (set ys i y) k d ≡ get_or xs k d
rest_more xs ys i y rest k d above =
    get_or-set_other ys i k y d (λ same. absurd (omega arith)) ∙ rest k d (omega arith)

-- ---- edges

-- a bit leads to a part at its level
pub chosen_high : (c : Contents) (level : ℕ) (bit : Bool) (e low high : Edge) → bit ≡ true → IsSplitAt c level e.0 low.0 high.0 → IsChosen c level bit e high
chosen_high c level bit e low high is at = record {
  live = at.high_live;
  after = at.high_after;
  same = λ s here. sym (ap (λ (f : Function). f s) at.function ∙ at_bit level (function_at c low.0) (function_at c high.0) s true (here ∙ is));
}

pub chosen_low : (c : Contents) (level : ℕ) (bit : Bool) (e low high : Edge) → bit ≡ false → IsSplitAt c level e.0 low.0 high.0 → IsChosen c level bit e low
chosen_low c level bit e low high is at = record {
  live = at.low_live;
  after = at.low_after;
  same = λ s here. sym (ap (λ (f : Function). f s) at.function ∙ at_bit level (function_at c low.0) (function_at c high.0) s false (here ∙ is));
}

-- an edge is what fixed bits leave of it before any are passed
pub settled_first : (c : Contents) (fixed : List (Option Bool)) (e : Edge) → IsEdge c.state e.0 → IsSettled c fixed e e
settled_first c fixed e live = record { live = live; later = omega arith; same = λ s agrees. refl }

-- ---- rows

-- the row of what a bit leaves
pub row_chosen : (c : Contents) (level : ℕ) (bit : Bool) (old new : List Edge) → length new ≡ length old → ((k : ℕ) (d : Edge) → k < length old → IsChosen c level bit (get_or old k d) (get_or new k d)) → IsRow c (level + 1) new
row_chosen c level bit old new long each = record {
  live = λ k d below. (each k d (omega arith)).live;
  from = λ k d below. let after : level < level_at c (get_or new k d).0 = (each k d (omega arith)).after in omega arith;
}

pub all_chosen : (c : Contents) (level : ℕ) (bit : Bool) (old new : List Edge) → length new ≡ length old → ((k : ℕ) (d : Edge) → k < length old → IsChosen c level bit (get_or old k d) (get_or new k d)) → (s : Bits) → s level ≡ bit → all_in c new s ≡ all_in c old s
all_chosen c level bit old new long each s here = all_same c old new s long (λ k d below. (each k d below).same s here)

-- bits that agree from a level on do from a later one
pub agrees_above : (fixed : List (Option Bool)) (low high : ℕ) (s : Bits) → low ≤ high → Agrees fixed low s → Agrees fixed high s
agrees_above fixed low high s le agrees k above = agrees k (omega arith)

-- the row of what fixed bits leave
pub row_settled : (c : Contents) (fixed : List (Option Bool)) (old new : List Edge) → length new ≡ length old → ((k : ℕ) (d : Edge) → k < length old → IsSettled c fixed (get_or old k d) (get_or new k d)) → (level : ℕ) → IsRow c level old → SettlesRow c fixed level old new
row_settled c fixed old new long each level row = record {
  row = record {
    live = λ k d below. (each k d (omega arith)).live;
    from = λ k d below.
        let was : level ≤ level_at c (get_or old k d).0 = row.from k d (omega arith) in
        let later : level_at c (get_or old k d).0 ≤ level_at c (get_or new k d).0 = (each k d (omega arith)).later in
        omega arith;
  };
  same = λ s agrees. all_same c old new s long (λ k d below. (each k d below).same s (agrees_above fixed level (level_at c (get_or old k d).0) s (row.from k d below) agrees));
}

-- where fixed bits leave a false edge, the row isn't true
pub row_false : (c : Contents) (fixed : List (Option Bool)) (old : List Edge) (i : ℕ) (e f : Edge) → i < length old → e ≡ get_or old i e → IsSettled c fixed e f → diagram_of c.state f.0 ≡ constant false → (level : ℕ) → IsRow c level old → (s : Bits) → Agrees fixed level s → all_in c old s ≡ false
row_false c fixed old i e f below reads settled is level row s agrees =
    let from : level ≤ level_at c e.0 = subst (λ (x : Edge). level ≤ level_at c x.0) (sym reads) (row.from i e below) in
    let is_false : function_at c e.0 s ≡ false = sym (settled.same s (agrees_above fixed level (level_at c e.0) s from agrees)) ∙ ap (λ d. value d s) is in
    one_false c old s i e below (ap (λ (x : Edge). function_at c x.0 s) (sym reads) ∙ is_false)

-- one edge more is settled
pub settles_more : (c : Contents) (fixed : List (Option Bool)) (old new : List Edge) (i : ℕ) (e f : Edge) → i < length new → length new ≡ length old → e ≡ get_or new i e → IsSettled c fixed e f → SettlesSome c fixed old new i → SettlesSome c fixed old (set new i f) (i + 1)
settles_more c fixed old new i e f inside long reads settled some =
    let was : e ≡ get_or old i e = reads ∙ some.rest i e (omega arith) in
    record {
      each = pairs_more (IsSettled c fixed) old new i e f (omega arith) inside was settled some.each;
      rest = rest_more old new i f some.rest;
    }

-- any live edges stand at level 0 or later
pub row_from_live : (c : Contents) (row : List Edge) → All (λ e. IsEdge c.state e.0) row → IsRow c 0 row
row_from_live c row live = record { live = live; from = λ k d below. omega arith }

-- the edges of kept roots are live
pub edges_live : (c : Contents) (row : List Edge) (roots : List ℕ) → roots ≡ map (λ (e : Edge). e.0) row → ((n : ℕ) → IsRoot c.state n → IsEdge c.state n) → All (λ n. IsRoot c.state n) roots → All (λ e. IsEdge c.state e.0) row
edges_live c row roots is live kept k d below =
    let named : All (λ n. IsRoot c.state n) (map (λ (e : Edge). e.0) row) = subst (λ (ns : List ℕ). All (λ n. IsRoot c.state n) ns) is kept in
    let inside : k < length (map (λ (e : Edge). e.0) row) = omega (arith, length-map row (λ (e : Edge). e.0)) in
    let root : IsRoot c.state (get_or row k d).0 = subst (λ (n : ℕ). IsRoot c.state n) (get_or-map (λ (e : Edge). e.0) row k d d.0 below) (named k d.0 inside) in
    live (get_or row k d).0 root

-- ---- the least level

min_left : (a b : ℕ) → min a b ≤ a
min_left a b = omega arith

min_right : (a b : ℕ) → min a b ≤ b
min_right a b = omega arith

pub least_more : (c : Contents) (row : List Edge) (levels i least next : ℕ) (e : Edge) → i < length row → e ≡ get_or row i e → next ≡ min least (level_at c e.0) → IsLeast c row levels i least → IsLeast c row levels (i + 1) next
least_more c row levels i least next e inside reads is so_far = record {
  within = let bound : least ≤ levels = so_far.within in omega (arith, min_left least (level_at c e.0));
  from = λ k d below.
      elim (cases_eq k i) [
        | inl same ↦
            let here : get_or row k d ≡ e = ap (λ (n : ℕ). get_or row n d) same ∙ (get_or_default row i d e inside ∙ sym reads) in
            let le : next ≤ level_at c e.0 = omega (arith, min_right least (level_at c e.0)) in
            subst (λ (x : Edge). next ≤ level_at c x.0) (sym here) le
        | inr other ↦
            let before : least ≤ level_at c (get_or row k d).0 = so_far.from k d (omega arith) in
            omega (arith, min_left least (level_at c e.0))
      ];
  no_less = λ level within row_is.
      let below_least : level ≤ least = so_far.no_less level within row_is in
      let below_edge : level ≤ level_at c e.0 = subst (λ (x : Edge). level ≤ level_at c x.0) (sym reads) (row_is.from i e inside) in
      omega arith;
}
