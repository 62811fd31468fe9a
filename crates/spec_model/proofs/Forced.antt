-- What is well typed and has room for one line more is well typed with the guarantee that is forced.
use Rattle.std.proofs.Common.{◌≡◌, ◌≤◌, ℕ, suc, ◌+◌, Bool, true, false, not, nat_le, List, [], ◌∷◌, ◌++◌, None, map, flat_map, filter, cond, length, refl, ap, ◌∙◌, arith, max, fold}
use Rattle.std.proofs.lemmas.Bool.{and_parts, and_from, leb-true, le-leb}
use Rattle.std.proofs.lemmas.Grind.{flat_map-append}
use Rattle.std.proofs.lemmas.List.{append-nil, length_push}
use Rattle.std.proofs.lemmas.List.Folds.{list_all-append}
use Rattle.std.proofs.lemmas.List.Sums.{sum_by-append}
use Rattle.std.specs.Prelude.{sum_by}
use Rattle.std.specs.List.{list_all}
use Rattle.spec_model.specs.declared.spec.Role.TheVariants.{Guarantee}
use Rattle.spec_model.specs.declared.value.Value.TheVariants as value
use Rattle.spec_model.specs.Syntax.{Constant, Recurring, Statement, Specification}
use Rattle.spec_model.specs.Moves.{is_guarantee}
use Rattle.spec_model.specs.Sizes.{distinct}
use Rattle.spec_model.specs.WellTyped.{is_typed_line, fits_role, are_rising, is_hidden}
use Rattle.spec_model.specs.Cores.{forced}
use Rattle.spec_model.specs.Laws.{ForcedIsWellTyped}
use Rattle.spec_model.proofs.Restricted.{list_all-filter, sum_by-filter-le, length-filter-le, fewer_distinct, rising-filter, typed_lines, flat_lines, same_nodes, same_trees, is_flat, nodes_of, trees_of}

-- ---- the greatest number

le-fold : (a : ℕ) (ns : List ℕ) → a ≤ fold max a ns
le-fold a [] = omega arith
le-fold a (n ∷ ns) = let rest = le-fold (max a n) ns in omega arith

abbrev pub numbers_of : List Statement → List ℕ
numbers_of ls = map (λ (l : Statement). l.number) ls

pub fold_below : (a m : ℕ) (ls : List Statement) → a ≤ m → list_all (λ l. nat_le l.number m) ls ≡ true → fold max a (numbers_of ls) ≤ m
fold_below a m [] le e = le
fold_below a m (l ∷ ls) le e =
    let parts = and_parts (nat_le l.number m) _ e in
    let here = leb-true l.number m parts.0 in
    fold_below (max a l.number) m ls (omega arith) parts.1

each_below : (a b : ℕ) (ls : List Statement) → fold max a (numbers_of ls) ≤ b → list_all (λ l. nat_le (suc l.number) (1 + b)) ls ≡ true
each_below a b [] le = refl
each_below a b (l ∷ ls) le =
    let greater = le-fold (max a l.number) (numbers_of ls) in
    and_from _ _ (le-leb (suc l.number) (1 + b) (omega arith)) (each_below (max a l.number) b ls le)

-- ---- rising numbers

-- as many lines as numbers
counted : (least m : ℕ) (ls : List Statement) → are_rising least ls ≡ true → list_all (λ l. nat_le l.number m) ls ≡ true → least ≤ m + 1 → least + length ls ≤ m + 1
counted least m [] rise below le = omega arith
counted least m (l ∷ ls) rise below le =
    let parts = and_parts (nat_le least l.number) _ rise in
    let inner = and_parts (nat_le l.number 4097) _ parts.1 in
    let bound = and_parts (nat_le l.number m) _ below in
    let above = leb-true least l.number parts.0 in
    let under = leb-true l.number m bound.0 in
    let rest = counted (suc l.number) m ls inner.1 bound.1 (omega arith) in
    omega arith

rising_push : (least : ℕ) (ls : List Statement) (last : Statement) → are_rising least ls ≡ true → list_all (λ l. nat_le (suc l.number) last.number) ls ≡ true → nat_le last.number 4097 ≡ true → least ≤ last.number →
    are_rising least (ls ++ last ∷ []) ≡ true
rising_push least [] last rise below most le = and_from _ _ (le-leb least last.number le) (and_from _ _ most refl)
rising_push least (l ∷ ls) last rise below most le =
    let parts = and_parts (nat_le least l.number) _ rise in
    let inner = and_parts (nat_le l.number 4097) _ parts.1 in
    let bound = and_parts (nat_le (suc l.number) last.number) _ below in
    let next = leb-true (suc l.number) last.number bound.0 in
    and_from _ _ parts.0 (and_from _ _ inner.0 (rising_push (suc l.number) ls last inner.1 bound.1 most next))

-- ---- the specification

module _ (s : Specification) where
  abbrev stays_too : Statement → Bool
  stays_too l = not (is_guarantee l.role)

  abbrev others : List Statement
  others = filter stays_too s.lines

  abbrev greatest : ℕ
  greatest = fold max 0 (numbers_of s.lines)

  abbrev last : Statement
  last = record { number = 1 + greatest; name = None; role = Guarantee; content = Recurring (Constant (value.Bool false)) }

  abbrev lines' : List Statement
  lines' = others ++ last ∷ []

  both : (p : Statement → Bool) → list_all p others ≡ true → p last ≡ true → list_all p lines' ≡ true
  both p first second = list_all-append p others (last ∷ []) ∙ and_from _ _ first (and_from _ _ second refl)

  forced_rises : are_rising 1 s.lines ≡ true → list_all (λ l. nat_le l.number 4096) s.lines ≡ true → are_rising 1 lines' ≡ true
  forced_rises rise below =
      let most = fold_below 0 4096 s.lines (omega arith) below in
      rising_push 1 others last (rising-filter stays_too 1 s.lines rise) (list_all-filter _ stays_too s.lines (each_below 0 greatest s.lines (omega arith))) (le-leb (1 + greatest) 4097 (omega arith)) (omega arith)

  forced_trees : flat_map (trees_of s lines' (forced s)) lines' ≡ flat_map (trees_of s lines' s) others
  forced_trees = flat_map-append (trees_of s lines' (forced s)) others (last ∷ []) ∙ append-nil _ ∙ same_trees s lines' others

pub forced_is_well_typed : (s : Specification) → ForcedIsWellTyped s
forced_is_well_typed s typed room =
    record {
      few_names = typed.few_names;
      different_names = typed.different_names;
      spelled_names = typed.spelled_names;
      few_variables = typed.few_variables;
      different_variables = typed.different_variables;
      spelled_variables = typed.spelled_variables;
      domains = typed.domains;
      patterns = typed.patterns;
      triggers = typed.triggers;
      lines = both s (is_typed_line (forced s)) (typed_lines s (lines' s) (others s) (list_all-filter _ (stays_too s) s.lines typed.lines)) refl;
      roles = both s fits_role (list_all-filter _ (stays_too s) s.lines typed.roles) refl;
      few_lines =
          let few = counted 1 4096 s.lines typed.rising room.numbers (omega arith) in
          let le = length-filter-le (stays_too s) s.lines in
          let one = length_push (others s) (last s) in
          omega arith;
      rising = forced_rises s typed.rising room.numbers;
      few_nodes =
          let few = room.few_nodes in
          let parts = sum_by-append (nodes_of s (lines' s) (forced s)) (others s) (last s ∷ []) in
          let one : sum_by (nodes_of s (lines' s) (forced s)) (last s ∷ []) ≡ 1 = refl in
          let same = same_nodes s (lines' s) (others s) in
          let le = sum_by-filter-le (nodes_of s (lines' s) s) (stays_too s) s.lines in
          omega arith;
      few_levels = both s (is_flat s (lines' s) (forced s)) (flat_lines s (lines' s) (others s) (list_all-filter _ (stays_too s) s.lines typed.few_levels)) refl;
      few_pattern_levels = typed.few_pattern_levels;
      few_hidden =
          let few = typed.few_hidden in
          let same = ap (λ fs. length (distinct fs)) (forced_trees s) in
          let trees = fewer_distinct (trees_of s (lines' s) s) (stays_too s) s.lines in
          let parts = sum_by-append (λ (l : Statement). cond (is_hidden l.content) 1 0) (others s) (last s ∷ []) in
          let hidden = sum_by-filter-le (λ (l : Statement). cond (is_hidden l.content) 1 0) (stays_too s) s.lines in
          omega arith;
    }
