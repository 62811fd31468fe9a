-- That making a formula ends: each part has fewer nodes beside its indexes.
use Rattle.std.proofs.Common.{◌≡◌, ℕ, zero, suc, ◌+◌, ◌-◌, ◌*◌, ◌<◌, ◌≤◌, Bool, true, false, if◌then◌else◌, List, [], ◌∷◌, ◌++◌, length, map, take, drop, get_or, slice_get, IfSome, Result, Ok, Err, OnOk, refl, sym, ap, subst, ◌∙◌, arith, length-append}
use Rattle.std.proofs.lemmas.Bool.{and_parts}
use Rattle.spectra_resolved.specs.declared.tree.Link.{Link}
use Rattle.spectra_resolved.specs.declared.tree.Resolved.{Resolved}
use Rattle.spectra_resolved.specs.Resolved.{ResolvedTree}
use Rattle.spectra_resolved.specs.Chained.{LinkData, joined, chained, trees}
use Rattle.spectra_resolved.specs.Views.{resolved_data, link_data}
use Rattle.spectra_copies.specs.Levels.{is_row_word}
use Rattle.spectra_copies.specs.Nodes.{tree_nodes, each_nodes}
use Rattle.spectra_judge.specs.Known.{Known}
use Rattle.spectra_cases.specs.declared.choosing.Choice.{Choice}
use Rattle.spectra_cases.specs.declared.choosing.Whole.{Whole}
use Rattle.spectra_cases.specs.Formulas.{binary_formula, side, formula_of}
use Rattle.spectra_cases.specs.Choices.{choices, operated, built}
use Rattle.spectra_cases.specs.Wholes.{choice_data, whole_choices}
use Rattle.spectra_cases.proofs.Spread.{choices_long}
use Rattle.spectra_cases.proofs.Rows.{are_row, parted, chained_last, joined_choices, none_joined, built_apart}
use Rattle.spectra_cases.proofs.Measured.{not_row_at}
use Rattle.spectra_cases.proofs.Measures.{small_at, choices_few, rest, whole_nodes, whole_few, whole_small, spare}
use Rattle.spectra_cases.proofs.Cases.{mapped_long}

-- what holds in any case
pub on_ok : {X Y : Type 0} (r : Result X Y) (P : Type 0) → P → OnOk r P
on_ok (Ok x) P holds = holds
on_ok (Err y) P holds = tt

-- the last of those up to a place
pub taken_last : (ls : List Link) (before : ℕ) (P : Link → Type 0) → before ≤ length ls → (0 < before → IfSome (slice_get ls (before - 1)) P) → IfSome (slice_get (take before ls) (length (take before ls) - 1)) P
taken_last ls zero P few last = tt
taken_last [] (suc n) P few last = absurd (omega arith)
taken_last (l ∷ ls) (suc n) P few last =
    let less : suc n - 1 ≡ n = omega arith in
    let long : length (take (suc n) (l ∷ ls)) - 1 ≡ n = let all = taken_long (l ∷ ls) (suc n) few in omega arith in
    subst (λ m. IfSome (slice_get (take (suc n) (l ∷ ls)) m) P) (sym long)
    (subst (λ o. IfSome o P) (sym (taken_at (l ∷ ls) (suc n) n (omega arith))) (subst (λ m. IfSome (slice_get (l ∷ ls) m) P) less (last (omega arith))))
  where
    taken_long : (xs : List Link) (m : ℕ) → m ≤ length xs → length (take m xs) ≡ m
    taken_long xs zero e = refl
    taken_long [] (suc m) e = absurd (omega arith)
    taken_long (x ∷ xs) (suc m) e = ap suc (taken_long xs m (omega arith))

    taken_at : (xs : List Link) (m i : ℕ) → i < m → slice_get (take m xs) i ≡ slice_get xs i
    taken_at xs zero i e = absurd (omega arith)
    taken_at [] (suc m) i e = refl
    taken_at (x ∷ xs) (suc m) zero e = refl
    taken_at (x ∷ xs) (suc m) (suc i) e = taken_at xs m i (omega arith)

module _ (k : Known) where
  -- ---- a last operator that is none of a row

  module _ (t : ResolvedTree) (ls : List Link) (l : Link) (some : 0 < length ls) (is : l ≡ get_or ls (length ls - 1) l) (last : IfSome (slice_get ls (length ls - 1)) (λ l. is_row_word l.word ≡ false)) where
    abbrev first_operand : ResolvedTree
    first_operand = chained t (map link_data (take (length ls - 1) ls))

    apart : is_row_word l.word ≡ false
    apart = not_row_at ls (length ls - 1) l last (omega arith) is

    whole_is : chained t (map link_data ls) ≡ joined first_operand (link_data l)
    whole_is = chained_last t ls l some is

    pub apart_long : length (choices k (chained t (map link_data ls)) false) ≡ 0
    apart_long = ap (λ x. length (choices k x false)) whole_is ∙ ap length (none_joined k first_operand (link_data l) false apart)

    pub apart_nodes : tree_nodes (chained t (map link_data ls)) ≡ tree_nodes first_operand + tree_nodes (resolved_data l.second) + 1
    apart_nodes = let nodes : tree_nodes (chained t (map link_data ls)) ≡ 1 + (tree_nodes first_operand + tree_nodes (resolved_data l.second)) = ap tree_nodes whole_is in omega (arith, nodes)

    pub apart_rest : rest k (chained t (map link_data ls)) ≡ tree_nodes first_operand + tree_nodes (resolved_data l.second) + 1
    apart_rest =
        let none = apart_long in
        let nodes = apart_nodes in omega (arith, none, nodes)

    pub apart_formula : (p : ℕ) → formula_of k p (chained t (map link_data ls)) ≡ operated k p l.word first_operand (resolved_data l.second)
    apart_formula p =
        let a = first_operand in
        let b = resolved_data l.second in
        ap (formula_of k p) whole_is
        ∙ ap (λ r. if r then side k p a false (λ f. side k p b false (λ g. binary_formula l.word f g)) else operated k p l.word a b) apart

    pub apart_built : (p : ℕ) (picks : List ℕ) → built k p (chained t (map link_data ls)) picks ≡ operated k p l.word first_operand (resolved_data l.second)
    apart_built p picks = ap (λ x. built k p x picks) whole_is ∙ built_apart k p first_operand (link_data l) picks apart

  -- ---- a row

  joined_rest : (t : ResolvedTree) (l : LinkData) → is_row_word l.word ≡ true → (rest k t + 1 ≤ rest k (joined t l)) × (rest k l.second + 1 ≤ rest k (joined t l))
  joined_rest t l row =
      let long = ap length (joined_choices k t l false row) ∙ length-append (choices k t false) (choices k l.second false) in
      let few = choices_few k t false in
      let less = choices_few k l.second false in (omega (arith, long, few, less), omega (arith, long, few, less))

  row_more : (t : ResolvedTree) (ls : List Link) → are_row (map link_data ls) ≡ true → rest k t + length ls ≤ rest k (chained t (map link_data ls))
  row_more t [] row = omega arith
  row_more t (l ∷ ls) row =
      let parts = and_parts (is_row_word l.word) (are_row (map link_data ls)) row in
      let here = (joined_rest t (link_data l) parts.0).0 in
      let later = row_more (joined t (link_data l)) ls parts.1 in omega (arith, here, later)

  row_part : (t : ResolvedTree) (ls : List Link) (i : ℕ) (l : Link) → are_row (map link_data ls) ≡ true → i < length ls → l ≡ get_or ls i l → rest k (resolved_data l.second) + 1 ≤ rest k (chained t (map link_data ls))
  row_part t [] i l row below is = absurd (omega arith)
  row_part t (m ∷ ls) zero l row below is =
      let parts = and_parts (is_row_word m.word) (are_row (map link_data ls)) row in
      let here = (joined_rest t (link_data m) parts.0).1 in
      let later = row_more (joined t (link_data m)) ls parts.1 in
      subst (λ (x : Link). rest k (resolved_data x.second) + 1 ≤ rest k (chained t (map link_data (m ∷ ls)))) (sym is) (omega (arith, here, later))
  row_part t (m ∷ ls) (suc i) l row below is = row_part (joined t (link_data m)) ls i l (and_parts (is_row_word m.word) (are_row (map link_data ls)) row).1 (omega arith) is

  -- an operand of the row at the end
  pub part_rest : (t : ResolvedTree) (ls : List Link) (before i : ℕ) (l : Link) → are_row (map link_data (drop before ls)) ≡ true → i < length (drop before ls) → l ≡ get_or (drop before ls) i l
      → rest k (resolved_data l.second) + 1 ≤ rest k (chained t (map link_data ls))
  part_rest t ls before i l row below is =
      subst (λ x. rest k (resolved_data l.second) + 1 ≤ rest k x) (sym (parted t ls before)) (row_part (chained t (map link_data (take before ls))) (drop before ls) i l row below is)

  -- what stands before it
  pub front_rest : (t : ResolvedTree) (ls : List Link) (before : ℕ) → before ≤ length ls → are_row (map link_data (drop before ls)) ≡ true
      → 16 * rest k (chained t (map link_data (take before ls))) + 2 + spare (take before ls) < 16 * rest k (chained t (map link_data ls)) + 3 + spare ls
  front_rest t [] zero few row = omega arith
  front_rest t [] (suc n) few row = absurd (omega arith)
  front_rest t (l ∷ ls) zero few row = let more = row_more t (l ∷ ls) row in omega (arith, more)
  front_rest t (l ∷ ls) (suc n) few row =
      let more = row_more (chained t (map link_data (take (suc n) (l ∷ ls)))) (drop (suc n) (l ∷ ls)) row in
      let same : rest k (chained t (map link_data (l ∷ ls))) ≡ rest k (chained (chained t (map link_data (take (suc n) (l ∷ ls)))) (map link_data (drop (suc n) (l ∷ ls)))) = ap (rest k) (parted t (l ∷ ls) (suc n)) in
      omega (arith, more, same)

  -- ---- two parts of a comparison, and the part of an equation

  pub compared_rest : (t u : ResolvedTree) → (rest k t ≤ tree_nodes t + tree_nodes u - length (choices k t false ++ choices k u false)) × (rest k u ≤ tree_nodes t + tree_nodes u - length (choices k t false ++ choices k u false))
  compared_rest t u =
      let long = length-append (choices k t false) (choices k u false) in
      let few = choices_few k t false in
      let less = choices_few k u false in (omega (arith, long, few, less), omega (arith, long, few, less))

  pub equal_rest : (t : ResolvedTree) (under : Bool) → rest k t ≡ tree_nodes t - length (choices k t under)
  equal_rest t under = ap (λ n. tree_nodes t - n) (choices_long k t false under)

  -- ---- the index of a case

  pub case_less : (w : Whole) (cs : List Choice) (i : ℕ) (choice : Choice) → map choice_data cs ≡ whole_choices k w → i < length cs → choice ≡ get_or cs i choice → tree_nodes (resolved_data choice.index.now) + (i + 1) ≤ whole_nodes k w
  case_less w cs i choice all below is =
      let long : length (whole_choices k w) ≡ length cs = sym (ap length all) ∙ mapped_long choice_data cs in
      let few = whole_few k w in
      let less = small_at (whole_nodes k w - length (whole_choices k w)) (whole_choices k w) i (choice_data choice) (whole_small k w) (omega (arith, long)) (read cs i choice below is ∙ (λ j. get_or (all j) i (choice_data choice))) in
      omega (arith, long, few, less)
    where
      read : (xs : List Choice) (j : ℕ) (x : Choice) → j < length xs → x ≡ get_or xs j x → choice_data x ≡ get_or (map choice_data xs) j (choice_data x)
      read [] j x less same = absurd (omega arith)
      read (y ∷ xs) zero x less same = ap choice_data same
      read (y ∷ xs) (suc j) x less same = read xs j x (omega arith) same

  pub all_few : (w : Whole) (cs : List Choice) → map choice_data cs ≡ whole_choices k w → length cs ≤ whole_nodes k w
  all_few w cs all =
      let long : length (whole_choices k w) ≡ length cs = sym (ap length all) ∙ mapped_long choice_data cs in
      let few = whole_few k w in omega (arith, long, few)

pub spare_few : {X : Type 0} (xs : List X) → spare xs ≤ 3
spare_few [] = omega arith
spare_few (x ∷ xs) = omega arith

-- one of several expressions
pub each_more : (ts : List Resolved) (i : ℕ) (t : Resolved) → i < length ts → t ≡ get_or ts i t → tree_nodes (resolved_data t) ≤ each_nodes (trees (map resolved_data ts))
each_more [] i t below is = absurd (omega arith)
each_more (u ∷ ts) zero t below is = let same = ap (λ (x : Resolved). tree_nodes (resolved_data x)) is in omega (arith, same)
each_more (u ∷ ts) (suc i) t below is = let later = each_more ts i t (omega arith) is in omega (arith, later)
