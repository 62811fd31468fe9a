-- What is banned in a line's expression, or in one of a pattern's line, isn't in its formula.
use Rattle.std.proofs.Common.{◌≡◌, inl, inr, ℕ, ◌+◌, ◌<◌, nat_lt, Bool, true, false, ◌&&◌, ◌||◌, List, [], ◌++◌, Option, Some, None, is_some, refl, sym, ◌∙◌, arith}
use Rattle.std.proofs.lemmas.Bool.{false≢true}
use Rattle.std.proofs.lemmas.Bool.Decides.{nat_tests}
use Rattle.spec_model.specs.Syntax.{Variable, NextOf}
use Rattle.spec_model.specs.Moves.{has_next, some_has_next}
use Rattle.spec_model.specs.WellTyped.{reads_some, some_reads, shifts_some, some_shifts}
use Rattle.spectra_resolved.specs.declared.spot.Mark.{Mark}
use Rattle.spectra_resolved.specs.declared.tree.Leaf.{Leaf}
use Rattle.spectra_resolved.specs.declared.tree.Leaf.TheVariants as leaf
use Rattle.spectra_resolved.specs.Resolved.{ResolvedTree}
use Rattle.spectra_judge.specs.Findings.{fault_if}
use Rattle.spectra_judge.specs.declared.standing.Bans.{Bans}
use Rattle.spectra_judge.specs.Standings.{bans_of, is_wanted}
use Rattle.spectra_judge.specs.declared.around.Around.{Around}
use Rattle.spectra_judge.specs.Around.{nothing_open, outer_of, under_next, in_next, in_past, in_bounds, variable_faults, shifted, meeting}
use Rattle.spectra_judge.specs.Known.{Known, Setting, is_system}
use Rattle.spectra_judge.specs.Judged.{kind_of, wrong, first_of, leaf_faults, faults}
use Rattle.spectra_judge.specs.PutIn.{Parts, is_array, is_put_in, in_line, in_pattern}
use Rattle.spectra_judge.proofs.Empty.{empty_parts, no_fault}
use Rattle.spectra_judge.proofs.Chained.{or-right}
use Rattle.spectra_cases.specs.Formulas.{leaf_formula, formula_of}
use Rattle.spectra_cases.specs.Laws.{LineKeepsBans, PatternKeepsBans}
use Rattle.spectra_cases.proofs.Arrays.{array_inside}
use Rattle.spectra_cases.proofs.Banned.{IsSome, IsWithin, put_more, HasNone, Stops, formula_none, none_in}

-- ---- the tests

nexts : IsSome has_next some_has_next
nexts = record {
  constant = λ v. refl;
  negation = λ f. refl;
  conjunction = λ fs. refl;
  disjunction = λ fs. refl;
  implication = λ f g. refl;
  equivalence = λ f g. refl;
  comparison = λ c f g. refl;
  sum = λ f g. refl;
  difference = λ f g. refl;
  product = λ f g. refl;
  remainder = λ f n. refl;
  past = λ op fs. refl;
  none = refl;
  more = λ f fs. refl;
}

reads : (test : ℕ → Bool) → IsSome (reads_some test) (some_reads test)
reads test = record {
  constant = λ v. refl;
  negation = λ f. refl;
  conjunction = λ fs. refl;
  disjunction = λ fs. refl;
  implication = λ f g. refl;
  equivalence = λ f g. refl;
  comparison = λ c f g. refl;
  sum = λ f g. refl;
  difference = λ f g. refl;
  product = λ f g. refl;
  remainder = λ f n. refl;
  past = λ op fs. refl;
  none = refl;
  more = λ f fs. refl;
}

shifts : (test : ℕ → Bool) → IsSome (shifts_some test) (some_shifts test)
shifts test = record {
  constant = λ v. refl;
  negation = λ f. refl;
  conjunction = λ fs. refl;
  disjunction = λ fs. refl;
  implication = λ f g. refl;
  equivalence = λ f g. refl;
  comparison = λ c f g. refl;
  sum = λ f g. refl;
  difference = λ f g. refl;
  product = λ f g. refl;
  remainder = λ f n. refl;
  past = λ op fs. refl;
  none = refl;
  more = λ f fs. refl;
}

-- ---- single parts

-- a banned thing that is no fault isn't there
absent : (banned there : Bool) → banned ≡ true → (banned && there) ≡ false → there ≡ false
absent true there is none = none
absent false there is none = absurd (false≢true is)

both : (b : Bool) → b ≡ true → b ≡ false → ⊥
both b is isn't = false≢true (sym isn't ∙ is)

leaf_without_next : (p : ℕ) (l : Leaf) → has_next (leaf_formula p l) ≡ false
leaf_without_next p (leaf.Truth b) = refl
leaf_without_next p (leaf.Number z) = refl
leaf_without_next p (leaf.EnumName n) = refl
leaf_without_next p (leaf.Variable k) = refl
leaf_without_next p (leaf.Parameter k) = refl
leaf_without_next p (leaf.Own k) = refl
leaf_without_next p (leaf.Define k) = refl
leaf_without_next p (leaf.Bound spot) = refl
leaf_without_next p (leaf.Hole h) = refl

leaf_shifts_none : (test : ℕ → Bool) (p : ℕ) (l : Leaf) → shifts_some test (leaf_formula p l) ≡ false
leaf_shifts_none test p (leaf.Truth b) = refl
leaf_shifts_none test p (leaf.Number z) = refl
leaf_shifts_none test p (leaf.EnumName n) = refl
leaf_shifts_none test p (leaf.Variable k) = refl
leaf_shifts_none test p (leaf.Parameter k) = refl
leaf_shifts_none test p (leaf.Own k) = refl
leaf_shifts_none test p (leaf.Define k) = refl
leaf_shifts_none test p (leaf.Bound spot) = refl
leaf_shifts_none test p (leaf.Hole h) = refl

-- ---- expressions with variables of quantifiers besides

abbrev is_bound : Leaf → Bool
is_bound (leaf.Bound spot) = true
is_bound _ = false

abbrev opened : Parts → Parts
opened good = record good { leaf = λ l. is_bound l || good.leaf l }

opened_within : (good : Parts) → IsWithin good (opened good)
opened_within good = record { leaf = λ l e. or-right (is_bound l) (good.leaf l) e; array = λ first n e. e }

opened_leaf : (p : ℕ) (test : ℕ → Bool) (good : Parts) (NoFault : Leaf → Type 0) → ((l : Leaf) → good.leaf l ≡ true → NoFault l → reads_some test (leaf_formula p l) ≡ false)
    → (l : Leaf) → (is_bound l || good.leaf l) ≡ true → NoFault l → reads_some test (leaf_formula p l) ≡ false
opened_leaf p test good NoFault each (leaf.Truth b) put none = each (leaf.Truth b) put none
opened_leaf p test good NoFault each (leaf.Number z) put none = each (leaf.Number z) put none
opened_leaf p test good NoFault each (leaf.EnumName n) put none = each (leaf.EnumName n) put none
opened_leaf p test good NoFault each (leaf.Variable k) put none = each (leaf.Variable k) put none
opened_leaf p test good NoFault each (leaf.Parameter k) put none = each (leaf.Parameter k) put none
opened_leaf p test good NoFault each (leaf.Own k) put none = each (leaf.Own k) put none
opened_leaf p test good NoFault each (leaf.Define k) put none = each (leaf.Define k) put none
opened_leaf p test good NoFault each (leaf.Bound spot) put none = refl
opened_leaf p test good NoFault each (leaf.Hole h) put none = each (leaf.Hole h) put none

module _ (s : Setting) (p : ℕ) (good : Parts) (some : (first n : ℕ) → good.array first n ≡ true → 0 < n) where
  -- where a `next` is banned, there is none
  no_next : s.bans.next ≡ true → (t : ResolvedTree) (o : Around) → is_put_in good t ≡ true → faults s o t ≡ [] → has_next (formula_of s.known p t) ≡ false
  no_next banned t o put none =
      formula_none s p (opened good) (λ spot. refl) has_next some_has_next nexts (λ next. Unit {0}) has t
      (none_in s p (opened good) (λ spot. refl) has_next some_has_next nexts (λ next. Unit {0}) has t) (inr (stops, refl)) o tt (put_more t good (opened good) (opened_within good) put) none
    where
      has : HasNone s p (opened good) (λ spot. refl) has_next some_has_next nexts (λ next. Unit {0})
      has = record {
        deeper = λ next at u. tt;
        leaf = λ l o at u put none. leaf_without_next p l;
        some = some;
        element = λ first n i o at u put below none. refl;
      }

      stops : Stops s p (opened good) (λ spot. refl) has_next some_has_next nexts (λ next. Unit {0})
      stops t o at put free inner outer outers is_outer eq make makes =
          let later = in_past o at.spot ++ in_bounds true 10 o at in
          absurd (both s.bans.next banned (no_fault s.bans.next 10 at.spot (empty_parts (fault_if s.bans.next 10 at.spot) (in_next o.next at ++ later) free).0))

  -- what is read nowhere, and what is read under no `next`
  module _ (test : ℕ → Bool) (Under : Option Mark → Type 0) (deeper : (next : Option Mark) (at : Mark) → Under next → Under (Some at))
      (leaf_none : (l : Leaf) (o : Around) (at : Mark) → Under o.next → good.leaf l ≡ true → leaf_faults s o at l ≡ [] → reads_some test (leaf_formula p l) ≡ false)
      (element_none : (first n i : ℕ) (o : Around) (at : Mark) → Under o.next → good.array first n ≡ true → i < n → variable_faults s.bans o at (is_system s.known first) ≡ [] → test (first + i) ≡ false) where
    read_none : HasNone s p (opened good) (λ spot. refl) (reads_some test) (some_reads test) (reads test) Under
    read_none = record {
      deeper = λ next at u. deeper next (outer_of next at) u;
      leaf = λ l o at u put none. opened_leaf p test good (λ m. leaf_faults s o at m ≡ []) (λ m is free. leaf_none m o at u is free) l put none;
      some = some;
      element = element_none;
    }

  none_read : (test : ℕ → Bool) → ((l : Leaf) (o : Around) (at : Mark) → good.leaf l ≡ true → leaf_faults s o at l ≡ [] → reads_some test (leaf_formula p l) ≡ false)
      → ((first n i : ℕ) (o : Around) (at : Mark) → good.array first n ≡ true → i < n → variable_faults s.bans o at (is_system s.known first) ≡ [] → test (first + i) ≡ false)
      → (t : ResolvedTree) (o : Around) → is_put_in good t ≡ true → faults s o t ≡ [] → reads_some test (formula_of s.known p t) ≡ false
  none_read test leaf_none element_none t o put none =
      let has = read_none test (λ next. Unit {0}) (λ next at u. tt) (λ l o at u. leaf_none l o at) (λ first n i o at u. element_none first n i o at) in
      formula_none s p (opened good) (λ spot. refl) (reads_some test) (some_reads test) (reads test) (λ next. Unit {0}) has t
      (none_in s p (opened good) (λ spot. refl) (reads_some test) (some_reads test) (reads test) (λ next. Unit {0}) has t) (inl (λ f. refl)) o tt (put_more t good (opened good) (opened_within good) put) none

  none_shifted : (test : ℕ → Bool) → ((l : Leaf) (o : Around) (at : Mark) → is_some o.next ≡ true → good.leaf l ≡ true → leaf_faults s o at l ≡ [] → reads_some test (leaf_formula p l) ≡ false)
      → ((first n i : ℕ) (o : Around) (at : Mark) → is_some o.next ≡ true → good.array first n ≡ true → i < n → variable_faults s.bans o at (is_system s.known first) ≡ [] → test (first + i) ≡ false)
      → (t : ResolvedTree) (o : Around) → is_put_in good t ≡ true → faults s o t ≡ [] → shifts_some test (formula_of s.known p t) ≡ false
  none_shifted test leaf_none element_none t o put none =
      formula_none s p (opened good) (λ spot. refl) (shifts_some test) (some_shifts test) (shifts test) (λ next. Unit {0}) has t
      (none_in s p (opened good) (λ spot. refl) (shifts_some test) (some_shifts test) (shifts test) (λ next. Unit {0}) has t) (inr (stops, refl)) o tt (put_more t good (opened good) (opened_within good) put) none
    where
      has : HasNone s p (opened good) (λ spot. refl) (shifts_some test) (some_shifts test) (shifts test) (λ next. Unit {0})
      has = record {
        deeper = λ next at u. tt;
        leaf = λ l o at u put none. leaf_shifts_none test p l;
        some = some;
        element = λ first n i o at u put below none. refl;
      }

      stops : Stops s p (opened good) (λ spot. refl) (shifts_some test) (some_shifts test) (shifts test) (λ next. Unit {0})
      stops t o at put free inner outer outers is_outer eq make makes =
          none_in s p (opened good) (λ spot. refl) (reads_some test) (some_reads test) (reads test) (λ next. is_some next ≡ true) (read_none test (λ next. is_some next ≡ true) (λ next at u. refl) leaf_none element_none) t true
          (inl (λ f. refl)) (under_next at o) refl put inner outer outers is_outer (λ f i e. eq (NextOf f) i e) (λ f. make (NextOf f)) (λ f e. makes (NextOf f) e)

-- ---- what is no fault under a `next`

not_shifted : (banned : Bool) (n : ℕ) (next : Option Mark) (at : Mark) → is_some next ≡ true → shifted banned n next at ≡ [] → banned ≡ false
not_shifted banned n (Some next) at some none = no_fault banned n (meeting next at next) none
not_shifted banned n None at some none = absurd (false≢true some)

-- ---- lines

module _ (known : Known) (names : ℕ) (counts : List ℕ) (bans : Bans) where
  abbrev s : Setting
  s = record { known = known; bans = bans }

  -- a variable of the system that is no fault where it is banned
  variable_read : bans.system ≡ true → (o : Around) (at : Mark) (own : Bool) → variable_faults bans o at own ≡ [] → own ≡ false
  variable_read banned o at own none =
      let third = shifted (bans.shifted_system && own) 12 o.next at ++ in_bounds true 9 o at in
      let parts = empty_parts (fault_if bans.variable 9 at.spot) (fault_if (bans.system && own) 13 at.spot ++ third) none in
      let more = empty_parts (fault_if (bans.system && own) 13 at.spot) third parts.1 in
      absent bans.system own banned (no_fault (bans.system && own) 13 at.spot more.0)

  variable_shifted : bans.shifted_system ≡ true → (o : Around) (at : Mark) (own : Bool) → is_some o.next ≡ true → variable_faults bans o at own ≡ [] → own ≡ false
  variable_shifted banned o at own some none =
      let third = shifted (bans.shifted_system && own) 12 o.next at in
      let last = in_bounds true 9 o at in
      let parts = empty_parts (fault_if bans.variable 9 at.spot) (fault_if (bans.system && own) 13 at.spot ++ (third ++ last)) none in
      let more = empty_parts (fault_if (bans.system && own) 13 at.spot) (third ++ last) parts.1 in
      absent bans.shifted_system own banned (not_shifted (bans.shifted_system && own) 12 o.next at some (empty_parts third last more.1).0)

  system_read : bans.system ≡ true → (l : Leaf) (o : Around) (at : Mark) → (in_line names counts).leaf l ≡ true → leaf_faults s o at l ≡ [] → reads_some (is_system known) (leaf_formula 0 l) ≡ false
  system_read banned (leaf.Truth b) o at put none = refl
  system_read banned (leaf.Number z) o at put none = refl
  system_read banned (leaf.EnumName n) o at put none = refl
  system_read banned (leaf.Variable k) o at put none = variable_read banned o at (is_system known k) none
  system_read banned (leaf.Parameter k) o at put none = absurd (false≢true put)
  system_read banned (leaf.Own k) o at put none = absurd (false≢true put)
  system_read banned (leaf.Define k) o at put none = refl
  system_read banned (leaf.Bound spot) o at put none = refl
  system_read banned (leaf.Hole h) o at put none = refl

  system_shifted : bans.shifted_system ≡ true → (l : Leaf) (o : Around) (at : Mark) → is_some o.next ≡ true → (in_line names counts).leaf l ≡ true → leaf_faults s o at l ≡ [] → reads_some (is_system known) (leaf_formula 0 l) ≡ false
  system_shifted banned (leaf.Truth b) o at some put none = refl
  system_shifted banned (leaf.Number z) o at some put none = refl
  system_shifted banned (leaf.EnumName n) o at some put none = refl
  system_shifted banned (leaf.Variable k) o at some put none = variable_shifted banned o at (is_system known k) some none
  system_shifted banned (leaf.Parameter k) o at some put none = absurd (false≢true put)
  system_shifted banned (leaf.Own k) o at some put none = absurd (false≢true put)
  system_shifted banned (leaf.Define k) o at some put none = refl
  system_shifted banned (leaf.Bound spot) o at some put none = refl
  system_shifted banned (leaf.Hole h) o at some put none = refl

pub line_keeps_bans : LineKeepsBans
line_keeps_bans known names counts at t alike put none =
    let bans = bans_of at in
    let in_stand : Setting = record { known = known; bans = bans } in
    let good = in_line names counts in
    let some = λ (first n : ℕ) (is : is_array counts first n ≡ true). (array_inside counts first n is).some in
    let parts = empty_parts (faults in_stand nothing_open t) (wrong (is_wanted at (kind_of known t)) (first_of t)) none in
    record {
      next = λ banned. no_next in_stand 0 good some banned t nothing_open put parts.0;
      system = λ banned. none_read in_stand 0 good some (is_system known) (system_read known names counts bans banned)
          (λ first n i o place is below free. (alike first n i is below).owner ∙ variable_read known names counts bans banned o place (is_system known first) free) t nothing_open put parts.0;
      shifted = λ banned. none_shifted in_stand 0 good some (is_system known) (system_shifted known names counts bans banned)
          (λ first n i o place some_next is below free. (alike first n i is below).owner ∙ variable_shifted known names counts bans banned o place (is_system known first) some_next free) t nothing_open put parts.0;
    }

-- ---- patterns

module _ (known : Known) (names params own : ℕ) (bans : Bans) where
  abbrev in_line_of : Setting
  in_line_of = record { known = known; bans = bans }

  abbrev is_parameter : ℕ → Bool
  is_parameter k = nat_lt k params

  not_own : (k : ℕ) → nat_lt (params + k) params ≡ false
  not_own k = grind (arith, nat_tests)

  parameter_read : bans.parameter ≡ true → (l : Leaf) (o : Around) (at : Mark) → (in_pattern names params own).leaf l ≡ true → leaf_faults in_line_of o at l ≡ [] → reads_some is_parameter (leaf_formula params l) ≡ false
  parameter_read banned (leaf.Truth b) o at put none = refl
  parameter_read banned (leaf.Number z) o at put none = refl
  parameter_read banned (leaf.EnumName n) o at put none = refl
  parameter_read banned (leaf.Variable k) o at put none = absurd (false≢true put)
  parameter_read banned (leaf.Parameter k) o at put none =
      let wrong = bans.variable || bans.parameter in
      let later = shifted bans.shifted_parameter 10 o.next at ++ in_bounds bans.bound_parameter 9 o at in
      absurd (both wrong (or-right bans.variable bans.parameter banned) (no_fault wrong 9 at.spot (empty_parts (fault_if wrong 9 at.spot) later none).0))
  parameter_read banned (leaf.Own k) o at put none = not_own k
  parameter_read banned (leaf.Define k) o at put none = refl
  parameter_read banned (leaf.Bound spot) o at put none = refl
  parameter_read banned (leaf.Hole h) o at put none = refl

  parameter_shifted : bans.shifted_parameter ≡ true → (l : Leaf) (o : Around) (at : Mark) → is_some o.next ≡ true → (in_pattern names params own).leaf l ≡ true → leaf_faults in_line_of o at l ≡ []
      → reads_some is_parameter (leaf_formula params l) ≡ false
  parameter_shifted banned (leaf.Truth b) o at some put none = refl
  parameter_shifted banned (leaf.Number z) o at some put none = refl
  parameter_shifted banned (leaf.EnumName n) o at some put none = refl
  parameter_shifted banned (leaf.Variable k) o at some put none = absurd (false≢true put)
  parameter_shifted banned (leaf.Parameter k) o at some put none =
      let third = shifted bans.shifted_parameter 10 o.next at in
      let last = in_bounds bans.bound_parameter 9 o at in
      let parts = empty_parts (fault_if (bans.variable || bans.parameter) 9 at.spot) (third ++ last) none in
      absurd (both bans.shifted_parameter banned (not_shifted bans.shifted_parameter 10 o.next at some (empty_parts third last parts.1).0))
  parameter_shifted banned (leaf.Own k) o at some put none = not_own k
  parameter_shifted banned (leaf.Define k) o at some put none = refl
  parameter_shifted banned (leaf.Bound spot) o at some put none = refl
  parameter_shifted banned (leaf.Hole h) o at some put none = refl

-- a pattern's line has no array
no_array : (first n : ℕ) → false ≡ true → 0 < n
no_array first n is = absurd (false≢true is)

pub pattern_keeps_bans : PatternKeepsBans
pattern_keeps_bans known names params own at t put none =
    let bans = bans_of at in
    let in_stand : Setting = record { known = known; bans = bans } in
    let good = in_pattern names params own in
    let parts = empty_parts (faults in_stand nothing_open t) (wrong (is_wanted at (kind_of known t)) (first_of t)) none in
    record {
      next = λ banned. no_next in_stand params good no_array banned t nothing_open put parts.0;
      parameter = λ banned. none_read in_stand params good no_array (λ k. nat_lt k params) (parameter_read known names params own bans banned)
          (λ first n i o place is below free. absurd (false≢true is)) t nothing_open put parts.0;
      shifted = λ banned. none_shifted in_stand params good no_array (λ k. nat_lt k params) (parameter_shifted known names params own bans banned)
          (λ first n i o place some_next is below free. absurd (false≢true is)) t nothing_open put parts.0;
    }
