-- The number of the parts that a search found.
use Rattle.std.proofs.Common.{◌≡◌, ◌⊎◌, inl, inr, ℕ, ◌+◌, Bool, true, false, Result, Ok, Err, IfOk, List, [], ◌∷◌, length, map, sym, ap, subst, arith}
use Rattle.std.specs.List.{AllByRecursion, Contains}
use Rattle.std.proofs.lemmas.Bool.{false≢true}
use Rattle.std.proofs.lemmas.List.{length-map}
use Rattle.spec_model.specs.Diagrams.{Diagram, constant, branch, value, IsPartOf, IsReduced}
use Rattle.node_table.specs.Table.{Table, diagram_at}
use Rattle.bdd_reorder.specs.Counting.{AreDifferent, IsConstant, IsPartOfOne, HaveParts}
use Rattle.bdd_reorder.specs.Searching.{IsNumbered, IsSeen, HasParts, AreApart, IsSearched}
use Rattle.bdd_reorder.proofs.ElementLemmas.{contains_first, contains_later, first_or_later, none_in, contains_map, map_contains}

not_both : {E : Type 0} → constant true ≡ constant false → E
not_both e = absurd (false≢true (sym (ap (λ (d : Diagram). value d (λ n. false)) e)))

abbrev branches : Diagram → Bool
branches (constant b) = false
branches (branch level low high) = true

not_branch : {E : Type 0} (b : Bool) (level : ℕ) (low high : Diagram) → branch level low high ≡ constant b → E
not_branch b level low high e = absurd (false≢true (sym (ap branches e)))

-- each of the list
each_of : {X : Type 0} (P : X → Type 0) (xs : List X) → ((x : X) → Contains xs x → P x) → AllByRecursion P xs
each_of P [] each = tt
each_of P (x ∷ xs) each = (each x (contains_first x xs), each_of P xs (λ y there. each y (contains_later x y xs there)))

module _ (t : Table) where
  differ : (ns : List ℕ) → AreApart t ns → AreDifferent (map (diagram_at t) ns)
  differ [] apart = tt
  differ (n ∷ ns) apart = (λ there. (let m = map_contains (diagram_at t) ns (diagram_at t n) there in apart.0 m.0 m.1 m.2), differ ns apart.1)

  module _ (ds : List Diagram) (ns : List ℕ) (s : IsSearched t ds ns []) where
    -- the diagram is a constant or was found
    abbrev IsAmong : Diagram → Type 0
    IsAmong d = IsConstant d ⊎ IsNumbered t ns d

    among : (d : Diagram) → IsSeen t ns [] d → IsAmong d
    among d (inl is) = inl is
    among d (inr (inl there)) = inr there
    among d (inr (inr there)) = none_in there.0 there.1

    parts_among : (level : ℕ) (low high : Diagram) → IsAmong (branch level low high) → IsAmong low × IsAmong high
    parts_among level low high (inl is) = not_branch is.0 level low high is.1
    parts_among level low high (inr there) =
        let parts = subst (HasParts (IsSeen t ns [])) there.2 (s.each there.0 there.1).parts in
        (among low parts.0, among high parts.1)

    all_among : (d : Diagram) → IsAmong d → (x : Diagram) → IsPartOf x d → IsAmong x
    all_among (constant b) is x part = inl (b, part)
    all_among (branch level low high) is x (inl same) = subst IsAmong (sym same) is
    all_among (branch level low high) is x (inr (inl in_low)) = all_among low (parts_among level low high is).0 x in_low
    all_among (branch level low high) is x (inr (inr in_high)) = all_among high (parts_among level low high is).1 x in_high

    reduced_among : (d : Diagram) → IsAmong d → IsReduced d
    reduced_among d (inl is) = subst IsReduced (sym is.1) tt
    reduced_among d (inr there) = subst IsReduced there.2 (s.each there.0 there.1).reduced

    not_constant : (b : Bool) (d : Diagram) → HasParts (IsSeen t ns []) d → d ≡ constant b → ⊥
    not_constant b (constant e) parts is = parts
    not_constant b (branch level low high) parts is = not_branch b level low high is

    not_found : (b : Bool) → Contains (map (diagram_at t) ns) (constant b) → ⊥
    not_found b there = let m = map_contains (diagram_at t) ns (constant b) there in not_constant b (diagram_at t m.0) (s.each m.0 m.1).parts m.2

    not_first : Contains (constant true ∷ map (diagram_at t) ns) (constant false) → ⊥
    not_first there = elim (first_or_later (constant true) (constant false) (map (diagram_at t) ns) there) [ inl same ↦ not_both same | inr later ↦ not_found false later ]

    abbrev parts : List Diagram
    parts = constant false ∷ constant true ∷ map (diagram_at t) ns

    from_parts : (d : Diagram) → Contains parts d → IsConstant d ⊎ IsPartOfOne ds d
    from_parts d there = elim (first_or_later (constant false) d (constant true ∷ map (diagram_at t) ns) there) [
      | inl is ↦ inl (false, sym is)
      | inr later ↦ elim (first_or_later (constant true) d (map (diagram_at t) ns) later) [
        | inl is ↦ inl (true, sym is)
        | inr inner ↦ (let m = map_contains (diagram_at t) ns d inner in inr (subst (IsPartOfOne ds) m.2 (s.only m.0 m.1)))
      ]
    ]

    constant_part : (b : Bool) → Contains parts (constant b)
    constant_part false = contains_first (constant false) (constant true ∷ map (diagram_at t) ns)
    constant_part true = contains_later (constant false) (constant true) (constant true ∷ map (diagram_at t) ns) (contains_first (constant true) (map (diagram_at t) ns))

    among_parts : (d : Diagram) → IsAmong d → Contains parts d
    among_parts d (inl c) = subst (Contains parts) (sym c.1) (constant_part c.0)
    among_parts d (inr found) =
        subst (Contains parts) found.2
        (contains_later (constant false) (diagram_at t found.0) (constant true ∷ map (diagram_at t) ns) (contains_later (constant true) (diagram_at t found.0) (map (diagram_at t) ns) (contains_map (diagram_at t) ns found.0 found.1)))

    to_parts : (d : Diagram) → IsConstant d ⊎ IsPartOfOne ds d → Contains parts d
    to_parts d (inl c) = among_parts d (inl c)
    to_parts d (inr part) = among_parts d (all_among part.0 (among part.0 (s.seen part.0 part.1)) d part.2)

    pub have_parts : (count : ℕ) → count ≡ length ns + 2 → HaveParts ds count
    have_parts count is = record {
      reduced = each_of IsReduced ds (λ d there. reduced_among d (among d (s.seen d there)));
      parts = parts;
      different = (not_first, (not_found true, differ ns s.apart));
      are_parts = λ d. (from_parts d, to_parts d);
      counted = (let same = length-map ns (diagram_at t) in omega (arith, is, same));
    }

pub counted_ok : {E : Type 0} (t : Table) (ds : List Diagram) (ns : List ℕ) → IsSearched t ds ns [] → (r : Result ℕ E) → IfOk r (λ count. count ≡ length ns + 2) → IfOk r (λ count. HaveParts ds count)
counted_ok t ds ns s (Ok count) is = have_parts t ds ns s count is
counted_ok t ds ns s (Err h) is = tt
