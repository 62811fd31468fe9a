-- How many things the items of several files declare, and how many parameters each definition and each pattern has.
use Rattle.std.proofs.Common.{◌≡◌, ℕ, zero, suc, ◌+◌, ◌-◌, ◌≤◌, ◌==◌, nat_lt, Bool, true, false, if◌then◌else◌, List, [], ◌∷◌, ◌++◌, Option, Some, None, length, map, flat_map, sum, refl, sym, ap, ◌∙◌, arith}
use Rattle.std.proofs.lemmas.Bool.{ltb-false, lt-ltb, false≢true}
use Rattle.std.proofs.lemmas.List.{length-append, length-map, map-append}
use Rattle.std.proofs.lemmas.List.Sums.{sum_by-append}
use Rattle.spectra_trees.specs.declared.tree.Place.{Place}
use Rattle.spectra_trees.specs.Faults.{WideArray, number_of}
use Rattle.spectra_trees.specs.Data.{NameData, Expression, PartData, PartShape, LengthData, ItemData}
use Rattle.spectra_resolved.specs.Findings.{fault}
use Rattle.spectra_resolved.specs.Spots.{spot_at}
use Rattle.spectra_resolved.specs.Looks.{Names, Looking}
use Rattle.spectra_resolved.specs.Texts.{ResolvedVariable, ResolvedDefinition, ResolvedPattern}
use Rattle.spectra_items.specs.Lengths.{elements_of, count_of, length_faults}
use Rattle.spectra_items.specs.Meanings.{variables_in, aliases_in, definitions_in, patterns_in, lines_in, define_of, monitor_line, monitor_lines, monitor_bodies, at_large}
use Rattle.spectra_declared.specs.Items.{FiledItem}
use Rattle.spectra_declared.specs.Declarations.{past, variables_of, lines_of, spot_of_item, enums_in}
use Rattle.spectra_declared.specs.Wholes.{text_of_items}
use Rattle.spectra_sound.specs.Sound.{Sizes, elements_in, sizes_of}
use Rattle.spectra_sound.proofs.Empty.{not_empty}

-- ---- weights

-- how much items weigh together
abbrev pub total : (ItemData → ℕ) → List FiledItem → ℕ
total weight [] = 0
total weight (i ∷ items) = weight i.1 + total weight items

pub within : (weight : ItemData → ℕ) (room : ℕ) (items : List FiledItem) → past weight room items ≡ [] → total weight items ≤ room
within weight room [] e = omega arith
within weight room (i ∷ items) e = by (λ e. within weight (room - weight i.1) items e) (nat_lt room (weight i.1)) refl e
  where
    by : (past weight (room - weight i.1) items ≡ [] → total weight items ≤ room - weight i.1) → (b : Bool) → nat_lt room (weight i.1) ≡ b → (if b then fault 18 (spot_of_item i) ∷ [] else past weight (room - weight i.1) items) ≡ [] → weight i.1 + total weight items ≤ room
    by more true is e = absurd (not_empty _ _ e)
    by more false is e = let fits = ltb-false room (weight i.1) is in let rest = more e in omega (arith, fits, rest)

-- what a list of each item adds up to is what the items weigh together
pub counted_sum : {X : Type 0} (f : FiledItem → List X) (part : X → ℕ) (weight : ItemData → ℕ) (items : List FiledItem) → ((file : ℕ) (i : ItemData) → sum (map part (f (file, i))) ≡ weight i) →
    sum (map part (flat_map f items)) ≡ total weight items
counted_sum f part weight [] each = refl
counted_sum f part weight ((file, i) ∷ items) each =
    let here = each file i in
    let rest = counted_sum f part weight items each in
    ap sum (map-append part (f (file, i)) (flat_map f items)) ∙ sum_by-append (λ x. x) (map part (f (file, i))) (map part (flat_map f items)) ∙ (λ k. here k + rest k)

pub counted_length : {X : Type 0} (f : FiledItem → List X) (weight : ItemData → ℕ) (items : List FiledItem) → ((file : ℕ) (i : ItemData) → length (f (file, i)) ≡ weight i) → length (flat_map f items) ≡ total weight items
counted_length f weight [] each = refl
counted_length f weight ((file, i) ∷ items) each =
    let here = each file i in let rest = counted_length f weight items each in length-append (f (file, i)) (flat_map f items) ∙ (λ k. here k + rest k)

-- ---- what items declare

abbrev pub types_of : ItemData → ℕ
types_of (ItemData.Alias t) = 1
types_of _ = 0

-- how many parameters each of its definitions has
abbrev pub arities_in : ItemData → List ℕ
arities_in (ItemData.Define d) = map (λ b. 0) d.bodies
arities_in (ItemData.Predicate p) = length p.params ∷ []
arities_in _ = []

abbrev pub pattern_arities_in : ItemData → List ℕ
pattern_arities_in (ItemData.Pattern p) = length p.params ∷ []
pattern_arities_in _ = []

-- how many elements each of its variables has
abbrev pub counts_in : ItemData → List ℕ
counts_in (ItemData.Variable x) = count_of x.length ∷ []
counts_in (ItemData.Monitor x) = 1 ∷ []
counts_in _ = []

abbrev pub sizes_in : List FiledItem → Sizes
sizes_in items =
    record {
      names = length (enums_in items);
      counts = flat_map (λ (i : FiledItem). counts_in i.1) items;
      types = total types_of items;
      arities = flat_map (λ (i : FiledItem). arities_in i.1) items;
      patterns = flat_map (λ (i : FiledItem). pattern_arities_in i.1) items;
    }

-- arrays without faults have elements
abbrev pub has_elements : Option LengthData → Bool
has_elements (Some l) = nat_lt 0 (elements_of l)
has_elements None = true

abbrev pub HasElements : ItemData → Type 0
HasElements (ItemData.Variable x) = has_elements x.length ≡ true
HasElements _ = Unit {0}

some : (n : ℕ) → (n == 0) ≡ false → nat_lt 0 n ≡ true
some zero is = absurd (false≢true (sym is))
some (suc n) is = lt-ltb 0 (suc n) (omega arith)

pub elements_there : (file : ℕ) (o : Option LengthData) → length_faults file o ≡ [] → has_elements o ≡ true
elements_there file None none = refl
elements_there file (Some l) none = by (elements_of l == 0) refl none
  where
    by : (b : Bool) → (elements_of l == 0) ≡ b → (if b then fault (number_of WideArray) (spot_at file l.bracket) ∷ [] else []) ≡ [] → nat_lt 0 (elements_of l) ≡ true
    by true is none = absurd (not_empty _ _ none)
    by false is none = some (elements_of l) is

module _ (s : Names) where
  counts_are : (file : ℕ) (i : ItemData) → map (λ (v : ResolvedVariable). v.count) (variables_in s file i) ≡ counts_in i
  counts_are file (ItemData.Variable x) = refl
  counts_are file (ItemData.Alias x) = refl
  counts_are file (ItemData.Define x) = refl
  counts_are file (ItemData.Predicate x) = refl
  counts_are file (ItemData.Pattern x) = refl
  counts_are file (ItemData.Monitor x) = refl
  counts_are file (ItemData.Statement x) = refl

  pub count_elements : (file : ℕ) (i : ItemData) → elements_in (variables_in s file i) ≡ variables_of i
  count_elements file (ItemData.Variable x) = omega arith
  count_elements file (ItemData.Alias x) = refl
  count_elements file (ItemData.Define x) = refl
  count_elements file (ItemData.Predicate x) = refl
  count_elements file (ItemData.Pattern x) = refl
  count_elements file (ItemData.Monitor x) = refl
  count_elements file (ItemData.Statement x) = refl

  count_types : (file : ℕ) (i : ItemData) → length (aliases_in s file i) ≡ types_of i
  count_types file (ItemData.Variable x) = refl
  count_types file (ItemData.Alias x) = refl
  count_types file (ItemData.Define x) = refl
  count_types file (ItemData.Predicate x) = refl
  count_types file (ItemData.Pattern x) = refl
  count_types file (ItemData.Monitor x) = refl
  count_types file (ItemData.Statement x) = refl

  no_params : (look : Looking) (file : ℕ) (bodies : List (NameData × Expression)) → map (λ (d : ResolvedDefinition). length d.params) (map (define_of look file) bodies) ≡ map (λ b. 0) bodies
  no_params look file [] = refl
  no_params look file (b ∷ bodies) = ap (λ ns. 0 ∷ ns) (no_params look file bodies)

  arities_are : (file : ℕ) (i : ItemData) → map (λ (d : ResolvedDefinition). length d.params) (definitions_in s file i) ≡ arities_in i
  arities_are file (ItemData.Variable x) = refl
  arities_are file (ItemData.Alias x) = refl
  arities_are file (ItemData.Define x) = no_params (at_large s) file x.bodies
  arities_are file (ItemData.Predicate x) = ap (λ n. n ∷ []) (length-map x.params _)
  arities_are file (ItemData.Pattern x) = refl
  arities_are file (ItemData.Monitor x) = refl
  arities_are file (ItemData.Statement x) = refl

  pattern_arities_are : (file : ℕ) (i : ItemData) → map (λ (p : ResolvedPattern). p.params) (patterns_in s file i) ≡ pattern_arities_in i
  pattern_arities_are file (ItemData.Variable x) = refl
  pattern_arities_are file (ItemData.Alias x) = refl
  pattern_arities_are file (ItemData.Define x) = refl
  pattern_arities_are file (ItemData.Predicate x) = refl
  pattern_arities_are file (ItemData.Pattern x) = refl
  pattern_arities_are file (ItemData.Monitor x) = refl
  pattern_arities_are file (ItemData.Statement x) = refl

pub mapped : {X : Type 0} {Y : Type 0} (g : X → Y) (f : FiledItem → List X) (h : ItemData → List Y) (items : List FiledItem) → ((file : ℕ) (i : ItemData) → map g (f (file, i)) ≡ h i) →
    map g (flat_map f items) ≡ flat_map (λ (i : FiledItem). h i.1) items
mapped g f h [] each = refl
mapped g f h ((file, i) ∷ items) each =
    let here = each file i in let rest = mapped g f h items each in map-append g (f (file, i)) (flat_map f items) ∙ (λ k. here k ++ rest k)

-- the sizes of a text are those of its items
pub sizes_are : (s : Names) (items : List FiledItem) → s.enums ≡ enums_in items → sizes_of (text_of_items s items) ≡ sizes_in items
sizes_are s items enums =
    let counts = mapped (λ (v : ResolvedVariable). v.count) (λ i. variables_in s i.0 i.1) counts_in items (counts_are s) in
    let types = counted_length (λ i. aliases_in s i.0 i.1) types_of items (count_types s) in
    let arities = mapped (λ (d : ResolvedDefinition). length d.params) (λ i. definitions_in s i.0 i.1) arities_in items (arities_are s) in
    let patterns = mapped (λ (p : ResolvedPattern). p.params) (λ i. patterns_in s i.0 i.1) pattern_arities_in items (pattern_arities_are s) in
    λ k. record { names = length (enums k); counts = counts k; types = types k; arities = arities k; patterns = patterns k }

-- ---- lines

pub at_most : {X : Type 0} (f : FiledItem → List X) (weight : ItemData → ℕ) (items : List FiledItem) → ((file : ℕ) (i : ItemData) → length (f (file, i)) ≤ weight i) → length (flat_map f items) ≤ total weight items
at_most f weight [] each = omega arith
at_most f weight ((file, i) ∷ items) each =
    let here = each file i in let rest = at_most f weight items each in let long = length-append (f (file, i)) (flat_map f items) in omega (arith, here, rest, long)

part_lines : (look : Looking) (file : ℕ) (p : PartShape) → length (monitor_bodies look file p) ≤ 1
part_lines look file (PartShape.Own t n) = omega arith
part_lines look file (PartShape.Initial e) = omega arith
part_lines look file (PartShape.Always e) = omega arith
part_lines look file (PartShape.Recurring e) = omega arith

each_part : (look : Looking) (file : ℕ) (monitor : Place) (ps : List PartData) → length (flat_map (monitor_lines look file monitor) ps) ≤ length ps
each_part look file monitor [] = omega arith
each_part look file monitor (p ∷ ps) =
    let long = length-append (monitor_lines look file monitor p) (flat_map (monitor_lines look file monitor) ps) in
    let same = length-map (monitor_bodies look file p.form) (monitor_line file monitor p.at) in
    let here = part_lines look file p.form in
    let rest = each_part look file monitor ps in omega (arith, long, same, here, rest)

pub count_lines : (s : Names) (file : ℕ) (i : ItemData) → length (lines_in s file i) ≤ lines_of i
count_lines s file (ItemData.Statement x) = omega arith
count_lines s file (ItemData.Monitor x) = each_part (at_large s) file x.at x.parts
count_lines s file (ItemData.Variable x) = omega arith
count_lines s file (ItemData.Alias x) = omega arith
count_lines s file (ItemData.Define x) = omega arith
count_lines s file (ItemData.Predicate x) = omega arith
count_lines s file (ItemData.Pattern x) = omega arith
