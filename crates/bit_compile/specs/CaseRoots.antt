-- Roots for the values that a formula may have, and what makes them.
use Rattle.std.specs.Prelude.{◌≡◌, ◌==◌, ◌<◌, ◌+◌, ◌≤◌, ℕ, Bool, true, false, if◌then◌else◌, List, Vec, map, length, count_by, nat_abs, Result, Err, IfOk, OnErr}
use Rattle.std.specs.declared.alloc.Global.{Global}
use Rattle.std.specs.List.{list_any, AllByRecursion}
use Rattle.spec_model.specs.declared.value.Value.{Value}
use Rattle.spec_model.specs.declared.value.Value.TheVariants as value
use Rattle.spec_model.specs.Values.{truth_of, number_of, rank_of, same_value, values_of}
use Rattle.spec_model.specs.Meaning.{compare_values}
use Rattle.spec_model.specs.Views.{domain_data}
use Rattle.spec_model.specs.Diagrams.{Function}
use Rattle.bdd_store.specs.State.{State, IsRoot, roots_at, SameRoots, IsFull}
use Rattle.bdd_bits.specs.Contents.{Contents, function_at}
use Rattle.bdd_bits.specs.Calls.{KeepsRoots}
use Rattle.regions.specs.declared.types.Halt.{Halt}
use Rattle.regions.specs.declared.types.Halt.TheVariants as halt
use Rattle.bit_compile.specs.declared.cases.CaseRoot.{CaseRoot}
use Rattle.bit_compile.specs.declared.cases.Source.{Source}
use Rattle.bit_compile.specs.declared.cases.Source.TheVariants as source
use Rattle.bit_compile.specs.declared.pairs.Test.{Test}
use Rattle.bit_compile.specs.declared.pairs.Test.TheVariants as test
use Rattle.bit_compile.specs.declared.folds.Fold.{Fold}
use Rattle.bit_compile.specs.declared.folds.Fold.TheVariants.{All, Some}
use Rattle.bit_compile.specs.Crowding.{HasCause}
use Rattle.bit_compile.specs.Domains.{level_count}
use Rattle.bit_compile.specs.Laid.{IsCountable}
use Rattle.bit_compile.specs.Compiled.{Case, is_code, is_not, some_pair, gives, is_letter, in_table, leads}
pub use Rattle.bit_compile.specs.Compiled.{folded}

-- the value of a root, and where it is had
abbrev pub case_at : Contents → CaseRoot → Case
case_at c x = record { value = x.value; holds = function_at c x.root }

abbrev pub cases_at : Contents → List CaseRoot → List Case
cases_at c xs = map (case_at c) xs

-- how many of the roots are at the node
abbrev pub roots_in : List CaseRoot → ℕ → ℕ
roots_in xs n = count_by (λ x. n == x.root) xs

abbrev pub AreKept : State → List CaseRoot → Type 0
AreKept s xs = AllByRecursion (λ x. IsRoot s x.root) xs

-- so many roots are kept at each node
abbrev pub HasTogether : State → List CaseRoot → Type 0
HasTogether s xs = (n : ℕ) → roots_in xs n ≤ roots_at s n

-- these roots are kept besides, one for each case
pub record AddsCases (old new : Contents) (xs : List CaseRoot) (cases : List Case) : Type 0 where
  pub are : cases_at new xs ≡ cases
  pub added : (n : ℕ) → roots_at new.state n ≡ roots_at old.state n + roots_in xs n

-- a refusal leaves what is kept, and `Budget` comes only where the store holds exactly its budget of nodes
pub record Leaves {V : Type 0} (old new : Contents) (result : Result V Halt) : Type 0 where
  pub refused : OnErr result (SameRoots old.state new.state)
  pub keeps : KeepsRoots old new
  pub full : result ≡ Err halt.Budget → IsFull new.state

-- a root for each case, or a refusal that leaves what is kept and has this cause
pub record MakesCases (old new : Contents) (result : Result (Vec CaseRoot Global) Halt) (cases : List Case) (IsNamed : Function → Type 0) : Type 0 where
  pub made : IfOk result (λ v. AddsCases old new v.items cases)
  pub leaves : Leaves old new result
  pub cause : HasCause old new result IsNamed

-- ---- tests of pairs

abbrev pub passes : Test → Value → Value → Bool
passes (test.Compared c) x y = compare_values c x y
passes (test.Gives op v) x y = gives op v x y
passes (test.InTable table letters) x y = in_table table.now letters x y
passes (test.Leads next letters to) x y = leads next.now letters to x y

-- ---- where a value is had

-- a truth value
abbrev pub truth_had : Function → Value → Function
truth_had f v = if truth_of v then f else is_not f

abbrev pub had_by : Contents → Source → Value → Function
had_by c source.Everywhere v = λ s. true
had_by c (source.Truth root) v = truth_had (function_at c root.now) v
had_by c (source.Coded codes at k domain) v = is_code codes.now at k (rank_of (domain_data domain.now) v)
had_by c (source.Pairs op a b) v = some_pair (gives op v) (cases_at c a.now) (cases_at c b.now)
had_by c (source.Leads next letters a b) v = some_pair (leads next.now letters v) (cases_at c a.now) (cases_at c b.now)
had_by c (source.Letters atoms) v = is_letter (map (λ a. function_at c a.root) atoms.now) (nat_abs (number_of v))

-- the roots are kept, and the value has a code
abbrev pub IsReady : Contents → Source → Value → Type 0
IsReady c source.Everywhere v = Unit {0}
IsReady c (source.Truth root) v = IsRoot c.state root.now
IsReady c (source.Coded codes at k domain) v =
    (k < length codes.now) × (level_count codes.now ≤ c.state.table.levels) × IsCountable (domain_data domain.now) × (list_any (same_value v) (values_of (domain_data domain.now)) ≡ true)
IsReady c (source.Pairs op a b) v = AreKept c.state a.now × AreKept c.state b.now
IsReady c (source.Leads next letters a b) v = AreKept c.state a.now × AreKept c.state b.now
IsReady c (source.Letters atoms) v = AreKept c.state atoms.now

-- the case of each value
abbrev pub cases_by : Contents → Source → List Value → List Case
cases_by c made_by vs = map (λ v. record { value = v; holds = had_by c made_by v }) vs

-- ---- several functions as one

-- each function, as the case of true
abbrev pub true_cases : List Function → List Case
true_cases fs = map (λ f. record { value = value.Bool true; holds = f }) fs

abbrev pub is_all : Fold → Bool
is_all All = true
is_all Some = false
