-- A climb over the slots of a game is one over orders of its variables.
use Rattle.std.proofs.Common.{◌≡◌, ◌⊎◌, inl, inr, ℕ, ◌+◌, ◌-◌, ◌<◌, ◌≤◌, Option, Some, None, List, [], ◌∷◌, map, length, drop, get_or, slice_index, refl, sym, ◌∙◌, ap, subst, arith}
use Rattle.std.specs.List.{All, AllByRecursion, Contains, range_with_len}
use Rattle.std.specs.List.Sorted.{IsPermutation}
use Rattle.std.proofs.lemmas.List.{drop_at}
use Rattle.std.proofs.lemmas.List.FromFn.{length-range_with_len, get_or-range_with_len, length-map-range_with_len, get_or-map-range_with_len}
use Rattle.std.proofs.lemmas.List.Elements.{All-from_get_or, All-contains_itself, recursion_from_All}
use Rattle.std.proofs.lemmas.List.Sorted.{IsPermutation-refl, IsPermutation-map, All-permutation}
use Rattle.spec_model.specs.Games.{GameData}
use Rattle.bit_compile.specs.Compiled.{place_of}
use Rattle.variable_order.specs.Sizes.{HasNodes}
use Rattle.variable_order.specs.Climbing.{moved, IsMove, IsBest, Reaches, starts, next}
use Rattle.variable_order.proofs.OneLemmas.{one_number, goes_down, one_climb}
use Rattle.line_functions.specs.Functions.{functions_of}
use Rattle.spec_order.specs.declared.report.Better.{Better}
use Rattle.spec_order.specs.declared.report.OrderReport.{OrderReport}
use Rattle.spec_order.specs.Orders.{widths_of, declared, slots_for, HasNodesUnder, IsUnbettered, IsClimbTo}
use Rattle.spec_order.specs.Reports.{IsBetter, IsBestDeclared, IsOutcome, IsReportOn, IsSameOutcome, IsSameReport}
use Rattle.spec_order.specs.Scenes.{IsClimbOf, AreAt}
use Rattle.spec_order.proofs.MovedLemmas.{moved-after, moved_shuffled}
use Rattle.spec_order.proofs.PlaceLemmas.{one_place}
use Rattle.spec_order.proofs.SlotLemmas.{length-slots}

module _ (g : GameData) where
  abbrev fixed : ℕ
  fixed = length g.hidden

  abbrev start : List ℕ
  start = slots_for g (declared g)

  -- ---- moves

  moved-slots : (order : List ℕ) (i j a b : ℕ) → i ≡ fixed + a → j ≡ fixed + b → a < length order → moved (slots_for g order) i j ≡ slots_for g (moved order a b)
  moved-slots order i j a b from to within =
      let tables = length-range_with_len 0 fixed in
      moved-after (place_of g) (range_with_len 0 fixed) order i j a b (omega (arith, from, tables)) (omega (arith, to, tables)) within

  -- what no move of a slot betters, no move of a variable does
  unbettered : (order : List ℕ) (n : ℕ) → IsBest fixed (widths_of g) (functions_of g) (slots_for g order) n → IsUnbettered g order n
  unbettered order n best = λ i j move.
      let long = length-slots g order in
      let least = best (fixed + i) (fixed + j) (record {
        from_low = omega arith;
        from_high = (let high = move.from_high in omega (arith, long, high));
        to_low = omega arith;
        to_high = (let high = move.to_high in omega (arith, long, high));
        apart = λ same. move.apart (omega (arith, same));
      }) in
      (least.0, subst (λ (slots : List ℕ). HasNodes (widths_of g) (functions_of g) slots least.0) (moved-slots order (fixed + i) (fixed + j) i j refl refl move.from_high) least.1, least.2)

  -- the slots are those of an order of the variables
  abbrev IsOfVariables : List ℕ → Type 0
  IsOfVariables slots = (order : List ℕ) × (slots ≡ slots_for g order) × IsPermutation (declared g) order

  move_on : (slots : List ℕ) (i j : ℕ) → IsMove fixed slots i j → IsOfVariables slots → IsOfVariables (moved slots i j)
  move_on slots i j move are =
      let order : List ℕ = are.0 in
      let low = move.from_low in
      let to_low = move.to_low in
      let high = move.from_high in
      let long = ap length are.1 ∙ length-slots g order in
      let within : i - fixed < length order = omega (arith, low, high, long) in (
        moved order (i - fixed) (j - fixed),
        ap (λ (xs : List ℕ). moved xs i j) are.1 ∙ moved-slots order i j (i - fixed) (j - fixed) (omega (arith, low)) (omega (arith, to_low)) within,
        moved_shuffled (declared g) order (i - fixed) (j - fixed) within are.2,
      )

  reached : (n : ℕ) {slots : List ℕ} {k : ℕ} → Reaches fixed (widths_of g) (functions_of g) start n slots k → IsOfVariables slots
  reached n starts = (declared g, refl, IsPermutation-refl (declared g))
  reached n (next m i j before best) = move_on _ i j best.first.move (reached n before)

  -- ---- the variables of the last slots

  abbrev places : List ℕ
  places = map (place_of g) (declared g)

  behind_tables : (list : List ℕ) → list ≡ drop fixed start → list ≡ places
  behind_tables list is = is ∙ drop_at (range_with_len 0 fixed) places fixed (length-range_with_len 0 fixed)

  -- the slots of the hidden tables stand before them
  pub tables_before : (list : List ℕ) → list ≡ start → fixed ≤ length list
  tables_before list is = let same = ap length is in let long = length-slots g (declared g) in omega (arith, same, long)

  -- as many as there are variables
  pub slots_few : (list : List ℕ) → list ≡ drop fixed start → length g.variables ≤ 32 → length list ≤ 32
  slots_few list is few =
      let same = ap length (behind_tables list is) in
      let long = length-map-range_with_len (place_of g) 0 (length g.variables) in
      omega (arith, same, long, few)

  all_declared : All (λ k. k < length g.variables) (declared g)
  all_declared =
      All-from_get_or (λ k. k < length g.variables) (declared g) 0
      (λ i below. (let long = length-range_with_len 0 (length g.variables) in let here = get_or-range_with_len 0 (length g.variables) i 0 (omega (arith, below, long)) in omega (arith, below, long, here)))

  all_within : (order : List ℕ) → IsPermutation (declared g) order → All (λ k. k < length g.variables) order
  all_within order is = All-permutation (λ k. k < length g.variables) (declared g) order is all_declared

  same_order : (f : ℕ → ℕ) (f_is : (k : ℕ) → k < length g.variables → f k ≡ place_of g k) (order others : List ℕ) → AllByRecursion (λ k. k < length g.variables) order → AllByRecursion (λ k. k < length g.variables) others → map f order ≡ map (place_of g) others → order ≡ others
  same_order f f_is [] [] known within same = refl
  same_order f f_is [] (k ∷ others) known within same = absurd (let longer = ap length same in omega (arith, longer))
  same_order f f_is (j ∷ order) [] known within same = absurd (let longer = ap length same in omega (arith, longer))
  same_order f f_is (j ∷ order) (k ∷ others) known within same =
      let head : f j ≡ place_of g k = ap (λ (xs : List ℕ). get_or xs 0 0) same in
      let one : j ≡ k = one_place g j k known.0 within.0 (sym (f_is j known.0) ∙ head) in
      ap (λ (i : ℕ). i ∷ order) one ∙ ap (λ (xs : List ℕ). k ∷ xs) (same_order f f_is order others known.1 within.1 (ap (drop 1) same))

  place_read : (k : ℕ) → k < length g.variables → slice_index places k ≡ place_of g k
  place_read k below = get_or-map-range_with_len (place_of g) 0 (length g.variables) k k 0 below (omega arith)

  same_variables : (order others : List ℕ) → IsPermutation (declared g) order → IsPermutation (declared g) others → slots_for g order ≡ slots_for g others → order ≡ others
  same_variables order others is other_is same =
      let tables = range_with_len 0 fixed in
      let long = length-range_with_len 0 fixed in
      let behind = sym (drop_at tables (map (place_of g) order) fixed long) ∙ (ap (drop fixed) same ∙ drop_at tables (map (place_of g) others) fixed long) in
      same_order (place_of g) (λ k below. refl) order others
      (recursion_from_All (λ i. i < length g.variables) order (all_within order is)) (recursion_from_All (λ i. i < length g.variables) others (all_within others other_is)) behind

  module _ (n : ℕ) (last : List ℕ) (k : ℕ) (climb : IsClimbOf g n last k) where
    abbrev found : IsOfVariables last
    found = reached n climb.reached

    pub tables_before_last : fixed ≤ length last
    tables_before_last = let same = ap length found.1 in let long = length-slots g found.0 in omega (arith, same, long)

    behind : drop fixed last ≡ map (place_of g) found.0
    behind = ap (drop fixed) found.1 ∙ drop_at (range_with_len 0 fixed) (map (place_of g) found.0) fixed (length-range_with_len 0 fixed)

    -- each of them is a declared variable's
    pub slots_there : (list slots : List ℕ) → list ≡ drop fixed start → slots ≡ drop fixed last → All (Contains list) slots
    slots_there list slots list_is slots_are =
        let declared_is = behind_tables list list_is in
        let there : All (Contains places) (map (place_of g) found.0) = All-permutation (Contains places) places (map (place_of g) found.0) (IsPermutation-map (place_of g) (declared g) found.0 found.2) (All-contains_itself places) in
        subst (λ (xs : List ℕ). All (Contains xs) slots) (sym declared_is) (subst (λ (xs : List ℕ). All (Contains places) xs) (sym (slots_are ∙ behind)) there)

    -- by their places among these they are an order of the variables
    order_is : (list slots order : List ℕ) → list ≡ drop fixed start → slots ≡ drop fixed last → AreAt list order slots → order ≡ found.0
    order_is list slots order list_is slots_are at =
        let declared_is = behind_tables list list_is in
        let here : AreAt places order slots = subst (λ (xs : List ℕ). AreAt xs order slots) declared_is at in
        let long = length-map-range_with_len (place_of g) 0 (length g.variables) in
        let known : All (λ i. i < length g.variables) order = subst (λ (m : ℕ). All (λ i. i < m) order) long here.known in
        same_order (slice_index places) place_read order found.0 (recursion_from_All (λ i. i < length g.variables) order known)
        (recursion_from_All (λ i. i < length g.variables) found.0 (all_within found.0 found.2)) (here.are ∙ (slots_are ∙ behind))

    -- ---- what is told

    module _ (size : HasNodesUnder g (declared g) n) where
      abbrev down : HasNodes (widths_of g) (functions_of g) last k × (((last ≡ start) × (k ≡ n)) ⊎ (k < n))
      down = goes_down fixed (widths_of g) start (functions_of g) n size last k climb

      pub declared_best : n ≤ k → IsBestDeclared g n
      declared_best least = elim down.1 [
        | inl same ↦ (let here : IsClimbTo g n (declared g) n = subst (λ (m : ℕ). IsClimbOf g n start m) same.1 (subst (λ (slots : List ℕ). IsClimbOf g n slots k) same.0 climb) in record { climb = here; best = unbettered (declared g) n here.best })
        | inr less ↦ absurd (omega (arith, least, less))
      ]

      pub better_found : (list slots : List ℕ) (b : Better) → list ≡ drop fixed start → slots ≡ drop fixed last → AreAt list b.order.items slots → b.nodes ≡ k → k < n → IsBetter g n b
      better_found list slots b list_is slots_are at nodes_are less =
          let is : b.order.items ≡ found.0 = order_is list slots b.order.items list_is slots_are at in
          let last_is : last ≡ slots_for g b.order.items = found.1 ∙ ap (slots_for g) (sym is) in
          let here : IsClimbTo g n b.order.items b.nodes = subst (λ (m : ℕ). IsClimbTo g n b.order.items m) (sym nodes_are) (subst (λ (slots : List ℕ). IsClimbOf g n slots k) last_is climb) in
          record {
            order = subst (IsPermutation (declared g)) (sym is) found.2;
            nodes = subst (λ (m : ℕ). HasNodesUnder g b.order.items m) (sym nodes_are) (subst (λ (slots : List ℕ). HasNodes (widths_of g) (functions_of g) slots k) last_is down.0);
            fewer = omega (arith, nodes_are, less);
            climb = here;
            best = unbettered b.order.items b.nodes here.best;
          }

  -- ---- one report

  same_outcome : (n : ℕ) (a b : Option Better) → IsOutcome g n a → IsOutcome g n b → IsSameOutcome a b
  same_outcome n None None first second = tt
  same_outcome n None (Some b) first second =
      let same = (one_climb fixed (widths_of g) (functions_of g) start n start (slots_for g b.order.items) n b.nodes first.climb second.climb).1 in
      let less = second.fewer in
      absurd (omega (arith, same, less))
  same_outcome n (Some a) None first second =
      let same = (one_climb fixed (widths_of g) (functions_of g) start n (slots_for g a.order.items) start a.nodes n first.climb second.climb).1 in
      let less = first.fewer in
      absurd (omega (arith, same, less))
  same_outcome n (Some a) (Some b) first second =
      let same = one_climb fixed (widths_of g) (functions_of g) start n (slots_for g a.order.items) (slots_for g b.order.items) a.nodes b.nodes first.climb second.climb in
      (same.1, same_variables a.order.items b.order.items first.order second.order same.0)

  pub same_report : (a b : OrderReport) → IsReportOn g a → IsReportOn g b → IsSameReport a b
  same_report a b first second =
      let same : a.nodes ≡ b.nodes = one_number (widths_of g) start (functions_of g) a.nodes b.nodes first.nodes second.nodes in
      record { nodes = same; better = same_outcome b.nodes a.better b.better (subst (λ (n : ℕ). IsOutcome g n a.better) same first.better) second.better }
