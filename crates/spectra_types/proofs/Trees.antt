-- In a text without faults the formula of an expression has the value of the expression that is written.
use Rattle.std.proofs.Common.{◌≡◌, ◌⊎◌, inl, inr, ℕ, zero, suc, ◌+◌, ◌-◌, ◌<◌, ◌≤◌, nat_le, ℤ, Bool, true, false, ◌||◌, is_some, List, [], ◌∷◌, Option, Some, None, length, map, sum, get_or, slice_get, refl, sym, ap, subst, ◌∙◌, arith}
use Rattle.std.specs.List.{list_all, list_any}
use Rattle.std.specs.Prelude.{Contains}
use Rattle.std.proofs.lemmas.Bool.{false≢true, and_parts, or_parts}
use Rattle.std.proofs.lemmas.Bool.Decides.{nat_tests}
use Rattle.std.proofs.lemmas.List.{length-map}
use Rattle.std.proofs.lemmas.Option.{same_Some}
use Rattle.std.proofs.lemmas.Int.{ints}
use Rattle.std.proofs.Math.Nat.{min-eq_left}
use Rattle.spec_model.specs.declared.value.Value.TheVariants as value
use Rattle.spec_model.specs.Meaning.{Reading, value_at}
use Rattle.spectra_resolved.specs.declared.stand.Stand.{Stand}
use Rattle.spectra_resolved.specs.declared.spot.Spot.{Spot}
use Rattle.spectra_resolved.specs.declared.spot.Mark.{Mark}
use Rattle.spectra_resolved.specs.declared.tree.Leaf.{Leaf}
use Rattle.spectra_resolved.specs.declared.tree.Leaf.TheVariants as leaf
use Rattle.spectra_resolved.specs.Resolved.{ResolvedTree}
use Rattle.spectra_resolved.specs.Texts.{ResolvedVariable, ResolvedDefinition, ResolvedText}
use Rattle.spectra_judge.specs.Kinds.{Kind, is_truth, is_whole}
use Rattle.spectra_judge.specs.declared.standing.Bans.{Bans}
use Rattle.spectra_judge.specs.Standings.{bans_of, is_wanted}
use Rattle.spectra_judge.specs.declared.around.Around.{Around}
use Rattle.spectra_judge.specs.Around.{nothing_open}
use Rattle.spectra_judge.specs.Known.{Known, Setting, is_system}
use Rattle.spectra_judge.specs.Judged.{leaf_kind, kind_of, leaf_faults, first_of, wrong, faults, faults_of}
use Rattle.spectra_judge.specs.PutIn.{Parts, is_array, is_put_in}
use Rattle.spectra_judge.proofs.Empty.{empty_parts, right}
use Rattle.spectra_copies.specs.Numbers.{leaf_number, number_in}
use Rattle.spectra_copies.specs.Copies.{written}
use Rattle.spectra_cases.specs.Formulas.{leaf_formula, formula_of}
use Rattle.spectra_cases.proofs.Arrays.{array_inside, array_cases}
use Rattle.spectra_holes.specs.Holed.{holed}
use Rattle.spectra_uses.specs.Uses.{uses_in, all_uses}
use Rattle.spectra_uses.specs.Cycles.{reaches}
use Rattle.spectra_uses.specs.Orders.{IsOrderOf}
use Rattle.spectra_elaboration.specs.Putting.{Bodies, with_bodies, put_in}
use Rattle.spectra_elaboration.specs.Written.{AreWritten, is_written}
use Rattle.spectra_elaboration.proofs.Chained.{map_twice}
use Rattle.spectra_elaboration.proofs.Meant.{holed_is_as_written}
use Rattle.spectra_notes.specs.Notes.{stand_of, body_faults, known_inside, noted, known_in_line}
use Rattle.spectra_bodies.specs.PutIn.{bodies}
use Rattle.spectra_bodies.specs.Faults.{declared_faults}
use Rattle.spectra_bodies.proofs.AsWritten.{bodies_are_as_written, lines_are_put_in}
use Rattle.spectra_bounds.specs.Numbers.{constants}
use Rattle.spectra_lines.specs.Contents.{Facts, tree_put}
use Rattle.spectra_meant.proofs.Numbers.{none_some}
use Rattle.spectra_sound.specs.Sound.{Sizes, sizes_of, is_part, is_sound_tree, IsSound}
use Rattle.spectra_types.specs.Meanings.{facts_of, variables_in, specification_of}
use Rattle.spectra_types.proofs.Bodies.{body_at, free, order, order_is, single, meant, all_written}
use Rattle.spectra_types.proofs.Domains.{variables_meant}
use Rattle.spectra_types.proofs.Elements.{variables_count, kinds_are}
use Rattle.spectra_types.proofs.Lines.{arrays_alike}
use Rattle.spectra_types.specs.Senses.{Sense, Numbers, Senses, inside, leaf_sense, sense, AreOf}
use Rattle.spectra_types.specs.SameText.{HasSense}
use Rattle.spectra_types.specs.Conditions.{has_index, reads_elements, HaveValues, FitsText}
use Rattle.spectra_types.proofs.Placed.{is_apart, places_in, ArePlacedApart, HasOwnPlaces}
use Rattle.spectra_types.proofs.Orders.{AreOrdered, AreBodies, IsThere, ordered_by}
use Rattle.spectra_types.proofs.Numbers.{AreNumbers, AreWithin, number_is, numbers_are}
use Rattle.spectra_types.proofs.Copied.{with_numbers}
use Rattle.spectra_types.proofs.Written.{out_sense}
use Rattle.spectra_types.proofs.OutParts.{places_out, index_out}
use Rattle.spectra_types.proofs.Bounded.{bound_some, no_variable}
use Rattle.spectra_types.proofs.PutOut.{put_sense, put_right}
use Rattle.spectra_types.proofs.Within.{IsNumberOf, IsOfKind, whole_number, AreElements, HaveValues as HaveNumbers}
use Rattle.spectra_types.proofs.SenseFormulas.{formula_has}
use Rattle.spectra_types.proofs.Putting.{line_sense}
use Rattle.spectra_types.proofs.Values.{kinds_hold}
use Rattle.spectra_types.proofs.Indexed.{with_arrays, stays_where}
use Rattle.spectra_types.proofs.Judged as out
use Rattle.spectra_types.proofs.Judged.{IsOut, definition_at, body_right, numbers_within}

abbrev body_of : ResolvedDefinition → ResolvedTree
body_of d = d.body

-- how many elements an array has
few_elements : (vs : List ResolvedVariable) → list_all (λ (v : ResolvedVariable). nat_le v.count 256) vs ≡ true → (first n : ℕ) → is_array (map (λ (v : ResolvedVariable). v.count) vs) first n ≡ true → n ≤ 256
few_elements [] few first n is = absurd (false≢true is)
few_elements (v ∷ vs) few first n is =
    let parts = and_parts (nat_le v.count 256) _ few in
    let least = parts.0 in
    array_cases v.count (map (λ (v : ResolvedVariable). v.count) vs) first n is
    (λ here. let all = here.all in let most : v.count ≤ 256 = grind (arith, nat_tests) in omega (arith, all, most))
    (λ later. few_elements vs parts.1 (first - v.count) n later.array)

-- a test that fails at each of several
none_at : {X : Type 0} (p : X → Bool) (xs : List X) (k : ℕ) (x : X) → list_any p xs ≡ false → slice_get xs k ≡ Some x → p x ≡ false
none_at p [] k x none there = absurd (cc)
none_at p (y ∷ xs) zero x none there = ap p (sym (same_Some y x there)) ∙ (or_parts (p y) (list_any p xs) none).0
none_at p (y ∷ xs) (suc k) x none there = none_at p xs k x (or_parts (p y) (list_any p xs) none).1 there

module _ (text : ResolvedText) (sound : IsSound (out.judged text)) (none : declared_faults (out.judged text) ≡ []) where
  abbrev judged : ResolvedText
  judged = out.judged text

  abbrev c : List (Option ℤ)
  c = (constants text.definitions).numbers

  abbrev z : Sizes
  z = sizes_of judged

  abbrev f : Facts
  f = facts_of judged

  abbrev pub trees : List ResolvedTree
  trees = map body_of judged.definitions

  uses_are : map uses_in trees ≡ all_uses judged.definitions
  uses_are = map_twice uses_in body_of judged.definitions

  pub as_many : length trees ≡ length judged.definitions
  as_many = length-map judged.definitions body_of

  count : length trees ≡ length (all_uses judged.definitions)
  count = as_many ∙ sym (length-map judged.definitions (λ (d : ResolvedDefinition). uses_in d.body))

  pub orders : IsOrderOf (map uses_in trees) (length trees) (order judged sound none).0
  orders = subst (λ us. IsOrderOf us (length trees) (order judged sound none).0) (sym uses_are) (subst (λ n. IsOrderOf (all_uses judged.definitions) n (order judged sound none).0) (sym as_many) (order_is judged sound none))

  pub never_round : (k : ℕ) → k < length trees → reaches (map uses_in trees) (length trees) k k ≡ false
  never_round k below = (λ i. reaches (uses_are i) (count i) k k) ∙ free judged sound none k (let is = count in omega (arith, below, is))

  all_put : bodies judged ≡ map (λ body. Some body) trees
  all_put =
      bodies_are_as_written judged z.arities (is_part z) (order judged sound none).0 (order_is judged sound none) (single judged sound none) (meant judged sound none) (all_written judged sound none) none
      ∙ sym (map_twice (λ (body : ResolvedTree). Some body) body_of judged.definitions)

  -- ---- what may stand in expressions

  -- whether an element is read somewhere
  abbrev some : Bool
  some = reads_elements text

  abbrev good : Parts
  good = with_arrays some (is_part z)

  no_index_out : (t made : ResolvedTree) → IsOut c t made → has_index t ≡ false → has_index made ≡ false
  no_index_out t made (inl same) none = ap has_index same ∙ none
  no_index_out t made (inr out) none = ap has_index out ∙ index_out c [] t none

  no_index : (k : ℕ) (body : ResolvedTree) → slice_get trees k ≡ Some body → some ≡ false → has_index body ≡ false
  no_index k body there unread =
      let found = body_at judged.definitions k body there in
      let one = definition_at text k found.0 found.1 in
      let written_one = none_at (λ (d : ResolvedDefinition). has_index d.body) text.definitions k one.definition (or_parts _ _ unread).0 one.there in
      ap has_index (sym found.2) ∙ no_index_out one.definition.body found.0.body one.out written_one

  written_where : AreWritten z.arities good trees
  written_where =
      let all = all_written judged sound none in
      record { size = all.size; each = λ k body there. stays_where z.arities (get_or z.arities k 0) some (is_part z) body (no_index k body there) (all.each k body there) }

  pub ordered : AreOrdered z.arities good trees
  ordered = ordered_by z.arities good trees (order judged sound none).0 written_where orders never_round

  everything_put : (at : Stand) (t : ResolvedTree) → is_written z.arities good 0 t ≡ true → faults_of f.known at t ≡ [] → is_put_in good (tree_put f at t) ≡ true
  everything_put at t written first =
      lines_are_put_in judged z.arities good (order judged sound none).0 (λ n. refl) (order_is judged sound none) (single judged sound none) (meant judged sound none) written_where none at t written first

  place_back : (t made : ResolvedTree) → IsOut c t made → (v : Spot) → Contains (places_in made) v → Contains (places_in t) v
  place_back t made (inl same) v is = subst (λ t. Contains (places_in t) v) same is
  place_back t made (inr out) v is = places_out c [] t v (subst (λ t. Contains (places_in t) v) out is)

  -- ---- values

  -- what is asked of an expression of a line
  pub record IsLineTree (t : ResolvedTree) : Type 0 where
    pub apart : is_apart [] t ≡ true
    pub away : (k : ℕ) (d : ResolvedDefinition) → slice_get text.definitions k ≡ Some d → ArePlacedApart d.body t
    pub unread : some ≡ false → has_index t ≡ false

  module _ (own : HasOwnPlaces text) (r : Reading) (s : Senses) (are : AreOf text.definitions r s) where
    numbers : AreNumbers c s
    numbers = numbers_are text.definitions s (λ k d there p. are.definitions k d there [] p)

    -- an expression that is written out has the value of the one that is written
    tree_out : (set : Setting) → set.known.defines ≡ (noted judged).defines → (S : Senses) → AreNumbers c S → (t made : ResolvedTree) → IsOut c t made → is_apart [] t ≡ true → faults set nothing_open made ≡ [] → (p : ℕ) → sense S made p ≡ sense S t p
    tree_out set defines S are_numbers t made (inl same) apart first p = ap (λ t. sense S t p) same
    tree_out set defines S are_numbers t made (inr is) apart first p =
        let within = subst (AreWithin c) (sym defines) (numbers_within text sound none) in
        ap (λ t. sense S t p) is
        ∙ out_sense c set S (λ n o t z faultless number p. (number_is c set within (with_numbers S n) are_numbers o t z faultless number).value_is p) [] [] (λ v e. refl) nothing_open t apart (ap (faults set nothing_open) (sym is) ∙ first) S.number p

    -- each definition of the text judged is what its body is
    pub definitions_are : (k : ℕ) (d : ResolvedDefinition) → slice_get judged.definitions k ≡ Some d → (as' : List Sense) (p : ℕ) → s.definition k as' p ≡ sense (inside s as') d.body p
    definitions_are k d there as' p =
        let one = definition_at text k d there in
        let known = known_inside judged (noted judged).defines d in
        let set : Setting = record { known = known; bans = bans_of (stand_of d.word) } in
        are.definitions k one.definition one.there as' p
        ∙ sym (tree_out set refl (inside s as') numbers one.definition.body d.body one.out (own.in_definitions k one.definition one.there) (empty_parts (faults set nothing_open d.body) _ (body_right text sound none k d there)).0 p)

    means : AreBodies trees s
    means k body there as' p =
        let found = body_at judged.definitions k body there in definitions_are k found.0 found.1 as' p ∙ ap (λ t. sense (inside s as') t p) found.2

    -- places in bodies
    bodies_apart : (j k : ℕ) (a : IsThere trees j) (b : IsThere trees k) → (j ≡ k → ⊥) → ArePlacedApart a.body b.body
    bodies_apart j k a b different v w in_a in_b =
        let first = body_at judged.definitions j a.body a.there in
        let second = body_at judged.definitions k b.body b.there in
        let one = definition_at text j first.0 first.1 in
        let other = definition_at text k second.0 second.1 in
        own.of_definitions j k one.definition other.definition one.there other.there different v w
        (place_back one.definition.body first.0.body one.out v (subst (λ t. Contains (places_in t) v) (sym first.2) in_a))
        (place_back other.definition.body second.0.body other.out w (subst (λ t. Contains (places_in t) w) (sym second.2) in_b))

    line_apart : (t made : ResolvedTree) → IsOut c t made → ((k : ℕ) (d : ResolvedDefinition) → slice_get text.definitions k ≡ Some d → ArePlacedApart d.body t) → (k : ℕ) (is : IsThere trees k) → ArePlacedApart is.body made
    line_apart t made out away k is v w in_body in_made =
        let found = body_at judged.definitions k is.body is.there in
        let one = definition_at text k found.0 found.1 in
        away k one.definition one.there v w (place_back one.definition.body found.0.body one.out v (subst (λ t. Contains (places_in t) v) (sym found.2) in_body)) (place_back t made out w in_made)

    module _ (fits : FitsText text (specification_of judged).variables r) where
      leaves : (l : Leaf) → good.leaf l ≡ true → (p : ℕ) → value_at r (leaf_formula 0 l) p ≡ leaf_sense s l p
      leaves (leaf.Truth b) is p = refl
      leaves (leaf.Number n) is p = refl
      leaves (leaf.EnumName n) is p = let few = sound.few_names in let below : n < length judged.names = grind (arith, nat_tests) in ap (λ m. value.Name m) (min-eq_left (omega (arith, few, below)))
      leaves (leaf.Variable k) is p = λ i. sym are.variables i k p
      leaves (leaf.Parameter k) is p = absurd (false≢true is)
      leaves (leaf.Own k) is p = absurd (false≢true is)
      leaves (leaf.Define k) is p = absurd (false≢true is)
      leaves (leaf.Bound at) is p = absurd (false≢true is)
      leaves (leaf.Hole h) is p = absurd (false≢true is)

      -- where an element is read, variables have values of their kinds
      kinds : some ≡ true → (k : ℕ) → k < sum z.counts → (p : ℕ) → IsOfKind (leaf_kind f.known (leaf.Variable k)) (s.variable k p)
      kinds read k below p =
          let many = variables_count judged judged.variables in
          subst (λ (u : ℕ → Sense). IsOfKind (leaf_kind f.known (leaf.Variable k)) (u k p)) (sym are.variables)
          (kinds_hold (specification_of judged).variables f.known.variables r (kinds_are judged (length judged.names) judged.variables (variables_meant judged sound none)) (fits read) k (omega (arith, below, many)) p)

      have : (bans : Bans) (first n : ℕ) → good.array first n ≡ true → HaveNumbers good (record { known = f.known; bans = bans }) s
      have bans first n there = record { leaves = leaf_in; arrays = elements }
        where
          read : some ≡ true
          read = (and_parts some (is_array z.counts first n) there).0

          leaf_in : (l : Leaf) → good.leaf l ≡ true → is_whole (leaf_kind f.known l) ≡ true → (p : ℕ) → IsNumberOf (leaf_kind f.known l) (leaf_sense s l p)
          leaf_in (leaf.Number m) is whole p = record { number = m; is = refl; within = record { low = m; high = m; is = refl; from_low = omega (arith, ints); to_high = omega (arith, ints) } }
          leaf_in (leaf.Variable k) is whole p = (let below : k < sum z.counts = grind (arith, nat_tests) in whole_number (leaf_kind f.known (leaf.Variable k)) (s.variable k p) whole (kinds read k below p))
          leaf_in (leaf.Truth b) is whole p = absurd (false≢true whole)
          leaf_in (leaf.EnumName k) is whole p = absurd (false≢true whole)
          leaf_in (leaf.Parameter k) is whole p = absurd (false≢true is)
          leaf_in (leaf.Own k) is whole p = absurd (false≢true is)
          leaf_in (leaf.Define k) is whole p = absurd (false≢true is)
          leaf_in (leaf.Bound at) is whole p = absurd (false≢true is)
          leaf_in (leaf.Hole h) is whole p = absurd (false≢true is)

          elements : (array count : ℕ) → good.array array count ≡ true → AreElements f.known s array count
          elements array count is =
              let parts = and_parts some (is_array z.counts array count) is in
              let inside_all = array_inside z.counts array count parts.1 in
              let within = inside_all.within in
              record {
                some = inside_all.some;
                few = few_elements judged.variables sound.few_elements array count parts.1;
                values = λ i below p. subst (λ kind. IsOfKind kind (s.variable (array + i) p)) (arrays_alike judged array count i parts.1 below).kind (kinds read (array + i) (omega (arith, below, within)) p);
              }

      bounds : (bans : Bans) (o : Around) (at : Mark) (l : Leaf) → is_some o.bound ≡ true → good.leaf l ≡ true → leaf_faults (record { known = f.known; bans = bans }) o at l ≡ [] → is_whole (leaf_kind f.known l) ≡ true → is_some (leaf_number [] l) ≡ true
      bounds bans o at (leaf.Number n) there is none whole = refl
      bounds bans o at (leaf.Variable k) there is none whole = absurd (no_variable (record { known = f.known; bans = bans }) o at (is_system f.known k) there none)
      bounds bans o at (leaf.Truth b) there is none whole = absurd (false≢true whole)
      bounds bans o at (leaf.EnumName k) there is none whole = absurd (false≢true whole)
      bounds bans o at (leaf.Parameter k) there is none whole = absurd (false≢true is)
      bounds bans o at (leaf.Own k) there is none whole = absurd (false≢true is)
      bounds bans o at (leaf.Define k) there is none whole = absurd (false≢true is)
      bounds bans o at (leaf.Bound v) there is none whole = absurd (false≢true is)
      bounds bans o at (leaf.Hole h) there is none whole = absurd (false≢true is)

      pub tree_has : (at : Stand) → ((k : Kind) → is_wanted at k ≡ true → is_truth k ≡ true) → (t made : ResolvedTree) → IsOut c t made → IsLineTree t → is_sound_tree z 0 made ≡ true → faults_of f.known at made ≡ [] → faults_of f.known at (tree_put f at made) ≡ [] → HasSense r s t (formula_of f.known 0 (tree_put f at made))
      tree_has at truth t made out line is_sound first put_first p =
          let set : Setting = record { known = f.known; bans = bans_of at } in
          let b : Bodies = map (λ body. Some body) trees in
          let written_made = stays_where z.arities 0 some (is_part z) made (λ none. no_index_out t made out (line.unread none)) is_sound in
          let stays : holed f.known at made ≡ made = holed_is_as_written z.arities (is_part z) 0 f.known at (meant judged sound none) made is_sound first in
          let is : tree_put f at made ≡ put_in b made = λ i. put_in (all_put i) (stays i) in
          let put : is_put_in good (put_in b made) ≡ true = ap (is_put_in good) (sym is) ∙ everything_put at made written_made first in
          let parts = empty_parts (faults set nothing_open (put_in b made)) _ (ap (faults_of f.known at) (sym is) ∙ put_first) in
          let tells = λ (n : Numbers) (o : Around) (t : ResolvedTree) (z : ℤ) (faultless : faults set o t ≡ []) (number : number_in [] t ≡ Some z) (p : ℕ).
          (number_is [] set (λ k z is. absurd (none_some is)) (with_numbers s n) (λ k z is. absurd (none_some is)) o t z faultless number).value_is p in
          let bounded = bound_some good set (bounds (bans_of at)) in
          subst (λ u. value_at r (formula_of f.known 0 u) p ≡ sense s t p) (sym is)
          (formula_has r s 0 good set leaves (λ first n there i below p. λ j. sym are.variables j (first + i) p) (have (bans_of at)) nothing_open (put_in b made) (record { put = put; out = put_right good set s tells bounded [] nothing_open (with_bodies b made) put parts.0; none = parts.0 }) (truth _ (right _ (first_of (put_in b made)) parts.1)) p
          ∙ (put_sense good set s tells bounded [] nothing_open (with_bodies b made) put parts.0 s.number p
          ∙ (line_sense z.arities s good (λ k. refl) (λ at. refl) trees ordered means bodies_apart made written_made (line_apart t made out line.away) p
          ∙ tree_out set refl s numbers t made out line.apart (empty_parts (faults set nothing_open made) _ first).0 p)))
