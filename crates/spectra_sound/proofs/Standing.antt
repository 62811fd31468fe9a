-- What names stand for: nothing that isn't there.
use Rattle.std.proofs.Common.{◌≡◌, ℕ, ◌+◌, ◌-◌, ◌<◌, ◌≤◌, max, nat_lt, Bool, true, false, if◌then◌else◌, List, [], ◌∷◌, ◌++◌, Option, Some, None, length, map, flat_map, get_or, option_to_list, sum, append_assoc, refl, sym, ap, ◌∙◌, arith}
use Rattle.std.specs.List.{list_all}
use Rattle.std.proofs.lemmas.Bool.{and_from, or_left, or_right, lt-ltb, ltb-true, le-leb}
use Rattle.std.proofs.lemmas.Bool.Decides.{Decides-eqb}
use Rattle.std.proofs.lemmas.List.{append-nil, length-append, length-map}
use Rattle.std.proofs.lemmas.List.Sums.{sum_by-append, sum_by-cons}
use Rattle.std.proofs.lemmas.List.Folds.{list_all-append}
use Rattle.spec_model.proofs.AllStates.{Every}
use Rattle.spectra_trees.specs.Data.{NameData, Expression, LengthData, ItemData}
use Rattle.spectra_resolved.specs.declared.tree.Leaf.TheVariants as leaves
use Rattle.spectra_resolved.specs.declared.table.Named.{Named}
use Rattle.spectra_resolved.specs.declared.table.Named.TheVariants as names
use Rattle.spectra_resolved.specs.Spots.{mentioned}
use Rattle.spectra_resolved.specs.Spaces.{Entry}
use Rattle.spectra_items.specs.Lengths.{elements_of, count_of}
use Rattle.spectra_declared.specs.declared.declaring.Space.{Space}
use Rattle.spectra_declared.specs.declared.declaring.Space.TheVariants as spaces
use Rattle.spectra_declared.specs.declared.declaring.Counts.{Counts}
use Rattle.spectra_declared.specs.Items.{FiledItem, enum_names_of}
use Rattle.spectra_declared.specs.Declarations.{no_counts, counted, enum_entry, define_entries, own_entries, enum_entries, is_named_first, entries_of, entries_from, entries, variable_named, enums_in}
use Rattle.spectra_judge.specs.PutIn.{is_array}
use Rattle.spectra_elaboration.specs.Written.{is_use}
use Rattle.spectra_sound.specs.Sound.{Sizes}
use Rattle.spectra_sound.proofs.Numbers.{IsThere, AreThere, numbered, items_there}
use Rattle.spectra_sound.proofs.Sizes.{total, types_of, counts_in, arities_in, pattern_arities_in, sizes_in, has_elements, HasElements}

-- what a name may stand for
abbrev pub is_right : Sizes → Named → Bool
is_right z (names.Leaf (leaves.EnumName k)) = nat_lt k z.names
is_right z (names.Leaf (leaves.Variable k)) = nat_lt k (sum z.counts)
is_right z (names.Leaf (leaves.Define k)) = is_use z.arities k 0
is_right z (names.Leaf _) = false
is_right z (names.Array k n) = is_array z.counts k n
is_right z (names.Predicate k n) = is_use z.arities k n
is_right z (names.Type k) = nat_lt k z.types
is_right z (names.Pattern k n) = is_use z.patterns k n
is_right z names.Plain = true

abbrev are_right : Sizes → List Entry → Bool
are_right z es = list_all (λ (e : Entry). is_right z e.1) es

-- a number at its place
use_at : (before rest : List ℕ) (n k : ℕ) → k ≡ length before → is_use (before ++ n ∷ rest) k n ≡ true
use_at before rest n k is = ap (λ j. is_use (before ++ n ∷ rest) j n) is ∙ there before
  where
    found : (before : List ℕ) → get_or (before ++ n ∷ rest) (length before) 0 ≡ n
    found [] = refl
    found (m ∷ before) = found before

    there : (before : List ℕ) → is_use (before ++ n ∷ rest) (length before) n ≡ true
    there before =
        let long = length-append before (n ∷ rest) in
        and_from _ _ (lt-ltb (length before) (length (before ++ n ∷ rest)) (omega (arith, long))) ((Decides-eqb (get_or (before ++ n ∷ rest) (length before) 0) n).1 (found before))

-- an array at its place
array_at : (before rest : List ℕ) (n k : ℕ) → 0 < n → k ≡ sum before → is_array (before ++ n ∷ rest) k n ≡ true
array_at [] rest n k some is = or_left _ _ (and_from _ _ ((Decides-eqb k 0).1 is) (and_from _ _ (lt-ltb 0 n some) ((Decides-eqb n n).1 refl)))
array_at (b ∷ before) rest n k some is =
    let long : sum (b ∷ before) ≡ b + sum before = sum_by-cons (λ x. x) b before in
    or_right _ _ (and_from _ _ (le-leb b k (omega (arith, is, long))) (array_at before rest n (k - b) some (omega (arith, is, long))))

-- a variable at its place
variable_at : (before rest : List ℕ) (n k : ℕ) → 0 < n → k ≡ sum before → nat_lt k (sum (before ++ n ∷ rest)) ≡ true
variable_at before rest n k some is =
    let long = sum_by-append (λ x. x) before (n ∷ rest) in let one = sum_by-cons (λ x. x) n rest in lt-ltb k (sum (before ++ n ∷ rest)) (omega (arith, some, is, long, one))

-- what stands before items: how many elements each variable has, and how many parameters each definition and each pattern
record Before : Type 0 where
  pub counts : List ℕ
  pub arities : List ℕ
  pub patterns : List ℕ

abbrev and_item : Before → ItemData → Before
and_item b i = record { counts = b.counts ++ counts_in i; arities = b.arities ++ arities_in i; patterns = b.patterns ++ pattern_arities_in i }

-- items behind others: so much stands before them
record IsAt (z : Sizes) (c : Counts) (b : Before) (items : List FiledItem) : Type 0 where
  pub variables : c.variables ≡ sum b.counts
  pub definitions : c.definitions ≡ length b.arities
  pub patterns : c.patterns ≡ length b.patterns
  pub counts : z.counts ≡ b.counts ++ flat_map (λ (i : FiledItem). counts_in i.1) items
  pub arities : z.arities ≡ b.arities ++ flat_map (λ (i : FiledItem). arities_in i.1) items
  pub pattern_arities : z.patterns ≡ b.patterns ++ flat_map (λ (i : FiledItem). pattern_arities_in i.1) items
  pub types : c.types + total types_of items ≤ z.types

module _ (z : Sizes) where
  define_right : (file k : ℕ) (before : List ℕ) (bodies : List (NameData × Expression)) (rest : List ℕ) → k ≡ length before → z.arities ≡ before ++ (map (λ b. 0) bodies ++ rest) → are_right z (define_entries file k bodies) ≡ true
  define_right file k before [] rest is all = refl
  define_right file k before (b ∷ bodies) rest is all =
      and_from _ _ (ap (λ ns. is_use ns k 0) all ∙ use_at before (map (λ b. 0) bodies ++ rest) 0 k is)
      (define_right file (k + 1) (before ++ 0 ∷ []) bodies rest (let long = length-append before (0 ∷ []) in omega (arith, is, long))
      (all ∙ sym (append_assoc before (0 ∷ []) (map (λ b. 0) bodies ++ rest))))

  below : (k n most : ℕ) → k + (1 + n) ≤ most → nat_lt k most ≡ true
  below k n most few = lt-ltb k most (omega (arith, few))

  -- a variable, or an array without a fault
  variable_right : (before rest : List ℕ) (k : ℕ) (o : Option LengthData) → has_elements o ≡ true → k ≡ sum before → z.counts ≡ before ++ count_of o ∷ rest → is_right z (variable_named k o) ≡ true
  variable_right before rest k None there is all = ap (λ ns. nat_lt k (sum ns)) all ∙ variable_at before rest 1 k (omega arith) is
  variable_right before rest k (Some l) there is all =
      let some : 0 < elements_of l = ltb-true 0 (elements_of l) there in
      let same : max (elements_of l) 1 ≡ elements_of l = omega (arith, some) in
      ap (λ ns. is_array ns k (elements_of l)) (all ∙ ap (λ n. before ++ n ∷ rest) same) ∙ array_at before rest (elements_of l) k some is

  own_right : (space : Space) (c : Counts) (b : Before) (file : ℕ) (i : ItemData) (items : List FiledItem) → IsAt z c b ((file, i) ∷ items) → HasElements i → are_right z (own_entries space c file i) ≡ true
  own_right spaces.Values c b file (ItemData.Variable x) items at there = and_from _ true (variable_right b.counts (flat_map (λ (i : FiledItem). counts_in i.1) items) c.variables x.length there at.variables at.counts) refl
  own_right spaces.Values c b file (ItemData.Monitor x) items at there =
      and_from _ true (ap (λ ns. nat_lt c.variables (sum ns)) at.counts ∙ variable_at b.counts (flat_map (λ (i : FiledItem). counts_in i.1) items) 1 c.variables (omega arith) at.variables) refl
  own_right spaces.Values c b file (ItemData.Define d) items at there = define_right file c.definitions b.arities d.bodies _ at.definitions at.arities
  own_right spaces.Values c b file (ItemData.Predicate p) items at there =
      and_from _ true (ap (λ ns. is_use ns c.definitions (length p.params)) at.arities ∙ use_at b.arities _ (length p.params) c.definitions at.definitions) refl
  own_right spaces.Values c b file (ItemData.Alias x) items at there = refl
  own_right spaces.Values c b file (ItemData.Pattern x) items at there = refl
  own_right spaces.Values c b file (ItemData.Statement x) items at there = refl
  own_right spaces.Types c b file (ItemData.Alias x) items at there = and_from _ true (below c.types (total types_of items) z.types at.types) refl
  own_right spaces.Types c b file (ItemData.Variable x) items at there = refl
  own_right spaces.Types c b file (ItemData.Define x) items at there = refl
  own_right spaces.Types c b file (ItemData.Predicate x) items at there = refl
  own_right spaces.Types c b file (ItemData.Pattern x) items at there = refl
  own_right spaces.Types c b file (ItemData.Monitor x) items at there = refl
  own_right spaces.Types c b file (ItemData.Statement x) items at there = refl
  own_right spaces.Patterns c b file (ItemData.Pattern p) items at there =
      and_from _ true (ap (λ ns. is_use ns c.patterns (length p.params)) at.pattern_arities ∙ use_at b.patterns _ (length p.params) c.patterns at.patterns) refl
  own_right spaces.Patterns c b file (ItemData.Variable x) items at there = refl
  own_right spaces.Patterns c b file (ItemData.Alias x) items at there = refl
  own_right spaces.Patterns c b file (ItemData.Define x) items at there = refl
  own_right spaces.Patterns c b file (ItemData.Predicate x) items at there = refl
  own_right spaces.Patterns c b file (ItemData.Monitor x) items at there = refl
  own_right spaces.Patterns c b file (ItemData.Statement x) items at there = refl
  own_right spaces.Lines c b file (ItemData.Statement l) items at there = by l.name
    where
      by : (o : Option NameData) → are_right z (map (λ n. (mentioned file n, names.Plain)) (option_to_list o)) ≡ true
      by None = refl
      by (Some n) = refl
  own_right spaces.Lines c b file (ItemData.Variable x) items at there = refl
  own_right spaces.Lines c b file (ItemData.Alias x) items at there = refl
  own_right spaces.Lines c b file (ItemData.Define x) items at there = refl
  own_right spaces.Lines c b file (ItemData.Predicate x) items at there = refl
  own_right spaces.Lines c b file (ItemData.Pattern x) items at there = refl
  own_right spaces.Lines c b file (ItemData.Monitor x) items at there = refl

  -- the next items
  next_at : (c : Counts) (b : Before) (file : ℕ) (i : ItemData) (items : List FiledItem) → IsAt z c b ((file, i) ∷ items) → IsAt z (counted c i) (and_item b i) items
  next_at c b file i items at =
      record {
        variables = variables i at.variables;
        definitions = definitions i at.definitions;
        patterns = patterns i at.patterns;
        counts = at.counts ∙ sym (append_assoc b.counts (counts_in i) _);
        arities = at.arities ∙ sym (append_assoc b.arities (arities_in i) _);
        pattern_arities = at.pattern_arities ∙ sym (append_assoc b.patterns (pattern_arities_in i) _);
        types = types i at.types;
      }
    where
      none_more : (k : ℕ) (ns : List ℕ) → k ≡ length ns → k ≡ length (ns ++ [])
      none_more k ns is = let long = length-append ns [] in omega (arith, is, long)

      no_sum : c.variables ≡ sum b.counts → c.variables ≡ sum (b.counts ++ [])
      no_sum is = is ∙ ap sum (sym (append-nil b.counts))

      and_sum : (n : ℕ) → c.variables ≡ sum b.counts → c.variables + n ≡ sum (b.counts ++ n ∷ [])
      and_sum n is = let long = sum_by-append (λ x. x) b.counts (n ∷ []) in let one = sum_by-cons (λ x. x) n [] in omega (arith, is, long, one)

      variables : (i : ItemData) → c.variables ≡ sum b.counts → (counted c i).variables ≡ sum (b.counts ++ counts_in i)
      variables (ItemData.Variable x) is = and_sum (count_of x.length) is
      variables (ItemData.Monitor x) is = and_sum 1 is
      variables (ItemData.Define x) is = no_sum is
      variables (ItemData.Predicate x) is = no_sum is
      variables (ItemData.Alias x) is = no_sum is
      variables (ItemData.Pattern x) is = no_sum is
      variables (ItemData.Statement x) is = no_sum is

      definitions : (i : ItemData) → c.definitions ≡ length b.arities → (counted c i).definitions ≡ length (b.arities ++ arities_in i)
      definitions (ItemData.Define d) is = let long = length-append b.arities (map (λ b. 0) d.bodies) in let count = length-map {B = ℕ} d.bodies (λ b. 0) in omega (arith, is, long, count)
      definitions (ItemData.Predicate p) is = let long = length-append b.arities (length p.params ∷ []) in omega (arith, is, long)
      definitions (ItemData.Variable x) is = none_more _ b.arities is
      definitions (ItemData.Alias x) is = none_more _ b.arities is
      definitions (ItemData.Pattern x) is = none_more _ b.arities is
      definitions (ItemData.Monitor x) is = none_more _ b.arities is
      definitions (ItemData.Statement x) is = none_more _ b.arities is

      patterns : (i : ItemData) → c.patterns ≡ length b.patterns → (counted c i).patterns ≡ length (b.patterns ++ pattern_arities_in i)
      patterns (ItemData.Pattern p) is = let long = length-append b.patterns (length p.params ∷ []) in omega (arith, is, long)
      patterns (ItemData.Define x) is = none_more _ b.patterns is
      patterns (ItemData.Predicate x) is = none_more _ b.patterns is
      patterns (ItemData.Variable x) is = none_more _ b.patterns is
      patterns (ItemData.Alias x) is = none_more _ b.patterns is
      patterns (ItemData.Monitor x) is = none_more _ b.patterns is
      patterns (ItemData.Statement x) is = none_more _ b.patterns is

      types : (i : ItemData) → c.types + (types_of i + total types_of items) ≤ z.types → (counted c i).types + total types_of items ≤ z.types
      types (ItemData.Alias x) few = omega (arith, few)
      types (ItemData.Variable x) few = omega (arith, few)
      types (ItemData.Monitor x) few = omega (arith, few)
      types (ItemData.Define x) few = omega (arith, few)
      types (ItemData.Predicate x) few = omega (arith, few)
      types (ItemData.Pattern x) few = omega (arith, few)
      types (ItemData.Statement x) few = omega (arith, few)

  -- ---- enum names

  module _ (enums : List (List ℕ)) (same : z.names ≡ length enums) where
    mentions_right : (file : ℕ) (ns : List NameData) → Every (IsThere enums) ns → are_right z (map (enum_entry enums file) ns) ≡ true
    mentions_right file [] all = refl
    mentions_right file (n ∷ ns) all = and_from _ _ (lt-ltb _ _ (let low = (numbered enums n.text all.0).below in omega (arith, low, same))) (mentions_right file ns all.1)

    enums_right : (space : Space) (file : ℕ) (i : ItemData) → Every (IsThere enums) (enum_names_of i) → are_right z (enum_entries space enums file i) ≡ true
    enums_right spaces.Values file i all = mentions_right file (enum_names_of i) all
    enums_right spaces.Types file i all = refl
    enums_right spaces.Patterns file i all = refl
    enums_right spaces.Lines file i all = refl

    both_right : (b : Bool) (xs ys : List Entry) → are_right z xs ≡ true → are_right z ys ≡ true → are_right z (if b then xs ++ ys else ys ++ xs) ≡ true
    both_right true xs ys own other = list_all-append _ xs ys ∙ and_from _ _ own other
    both_right false xs ys own other = list_all-append _ ys xs ∙ and_from _ _ other own

    right_from : (space : Space) (c : Counts) (b : Before) (items : List FiledItem) → IsAt z c b items → Every (AreThere enums) items → Every (λ (i : FiledItem). HasElements i.1) items → are_right z (entries_from space enums c items) ≡ true
    right_from space c b [] at all there = refl
    right_from space c b ((file, i) ∷ items) at all there =
        list_all-append _ (entries_of space enums c (file, i)) (entries_from space enums (counted c i) items)
        ∙ and_from _ _ (both_right (is_named_first i) (own_entries space c file i) (enum_entries space enums file i) (own_right space c b file i items at there.0) (enums_right space file i all.0))
        (right_from space (counted c i) (and_item b i) items (next_at c b file i items at) all.1 there.1)

-- no name of a space stands for what isn't there
pub entries_right : (space : Space) (items : List FiledItem) → Every (λ (i : FiledItem). HasElements i.1) items → are_right (sizes_in items) (entries space (enums_in items) items) ≡ true
entries_right space items there =
    right_from (sizes_in items) (enums_in items) refl space no_counts (record { counts = []; arities = []; patterns = [] }) items
    (record { variables = refl; definitions = refl; patterns = refl; counts = refl; arities = refl; pattern_arities = refl; types = omega arith })
    (items_there [] items) there
