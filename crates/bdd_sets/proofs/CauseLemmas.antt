-- What is told of a budget that ends a call, where arguments are given back.
use Rattle.std.proofs.Common.{◌≡◌, ℕ, suc, ◌+◌, ◌<◌, ◌≤◌, cond, false, List, [], ◌∷◌, Vec, Result, Ok, Err, IsErrAnd, take, length, refl, sym, ◌∙◌, ap, subst, arith, inl, inr, ◌⊎◌}
use Rattle.std.specs.List.{Contains}
use Rattle.std.specs.declared.alloc.Global.{Global}
use Rattle.std.proofs.lemmas.Bool.{cases_lt, false≢true}
use Rattle.std.proofs.lemmas.Bool.Decides.{eqb_tells}
use Rattle.std.proofs.lemmas.List.{take-map}
use Rattle.spec_model.specs.Diagrams.{Diagram, Function}
use Rattle.node_table.specs.Table.{Table, IsLive}
use Rattle.bdd_store.specs.State.{IsRoot, diagram_of, roots_at}
use Rattle.bdd_bits.specs.Orders.{levels_of, moved_levels}
use Rattle.bdd_bits.specs.Calls.{KeepsRoots, SameNodes}
use Rattle.bdd_bits.proofs.CallLemmas.{same_order}
use Rattle.bdd_ops.specs.Functions.{join_of}
use Rattle.bdd_bits.specs.Contents.{Contents, function_of, function_at}
use Rattle.bdd_ops.specs.Steps.{IsChoiceOfParts, IsUnfinished, IsRelatedPart, IsShiftedPart}
use Rattle.regions.specs.declared.types.Halt.{Halt}
use Rattle.regions.specs.declared.types.Halt.TheVariants as halt
use Rattle.bit_compile.specs.Making.{Makes, MakesOnce}
use Rattle.bit_compile.specs.Crowding.{HasCause, IsHeldSince, IsCrowdedBy, choice, related, moved}
use Rattle.bit_compile.specs.NamedCodes.{NoFunction}
use Rattle.bit_compile.proofs.Between.{halt_or}
use Rattle.bit_compile.proofs.Causes.{cause_back, cause_never, cause_once, crowded_wider, no_name, root_kept}
use Rattle.bit_compile.proofs.CyclesLemmas.{take_all}
use Rattle.bdd_sets.specs.Members.{all_true, functions_at, IsThis, IsEither}
use Rattle.bdd_sets.specs.Lists.{one_at, times_in, MakesList}
use Rattle.bdd_sets.specs.NamedMoves.{IsFirstOfAll}
use Rattle.bdd_sets.proofs.ListLemmas.{is_memory}

-- ---- operations on kept roots

pub cause_choice : (old new : Contents) (a b c : ℕ) (f : Function) (r : Result ℕ Halt) → IsRoot old.state a → IsRoot old.state b → IsRoot old.state c → MakesOnce old new r f (IsChoiceOfParts (diagram_of old.state a) (diagram_of old.state b) (diagram_of old.state c)) → HasCause old new r NoFunction
cause_choice old new a b c f r root_a root_b root_c makes =
    cause_once old new f (choice (diagram_of old.state a) (diagram_of old.state b) (diagram_of old.state c)) NoFunction
    (root_kept old.state a root_a, (root_kept old.state b root_b, (root_kept old.state c root_c, tt))) r makes

pub cause_related : (levels : List ℕ) (old new : Contents) (a b : ℕ) (f : Function) (r : Result ℕ Halt) → IsRoot old.state a → IsRoot old.state b → MakesOnce old new r f (IsUnfinished (join_of false) (IsRelatedPart (levels_of old.order levels) (diagram_of old.state a) (diagram_of old.state b))) → HasCause old new r NoFunction
cause_related levels old new a b f r root_a root_b makes =
    cause_once old new f (related (levels_of old.order levels) (diagram_of old.state a) (diagram_of old.state b)) NoFunction (root_kept old.state a root_a, (root_kept old.state b root_b, tt)) r makes

pub cause_moved : (to : List ℕ) (old new : Contents) (a : ℕ) (f : Function) (r : Result ℕ Halt) → IsRoot old.state a → MakesOnce old new r f (IsShiftedPart (moved_levels old.order to) (diagram_of old.state a)) → HasCause old new r NoFunction
cause_moved to old new a f r root makes = cause_once old new f (moved (moved_levels old.order to) (diagram_of old.state a)) NoFunction (root_kept old.state a root, tt) r makes

-- ---- arguments that are given back

pub spent_cause : (base old mid new : Contents) (a : ℕ) (f : Function) (r : Result ℕ Halt) → Makes base old (Ok a) f → SameNodes mid new → HasCause old mid r NoFunction → HasCause base new r (IsThis f)
spent_cause base old mid new a f r first nodes cause = cause_back NoFunction (IsThis f) (no_name (IsThis f)) base old a f first refl mid new r nodes cause

pub both_cause : (base before old mid mid' new : Contents) (a b : ℕ) (f g : Function) (r : Result ℕ Halt) → Makes base before (Ok a) f → Makes before old (Ok b) g → SameNodes mid mid' → SameNodes mid' new → HasCause old mid r NoFunction → HasCause base new r (IsEither f g)
both_cause base before old mid mid' new a b f g r first second nodes_b nodes_a cause =
    cause_back (IsThis g) (IsEither f g) (λ h is. inr is) base before a f first (inl refl) mid' new r nodes_a
    (cause_back NoFunction (IsThis g) (no_name (IsThis g)) before old b g second refl mid mid' r nodes_b cause)

-- a refusal that is handed on
pub cause_by : {V W : Type 0} (base new : Contents) (r : Result V Halt) (halt : Halt) (N : Function → Type 0) → IsErrAnd r (λ y. y ≡ halt) → HasCause {V = W} base new (Err halt) N → HasCause base new r N
cause_by base new (Ok x) halt N is cause = absurd is
cause_by base new (Err y) halt N is cause =
    record {
      crowded = λ e. cause.crowded (ap (λ (k : Halt). Err k) (sym is ∙ ap (halt_or y) e));
      rooted = λ e. cause.rooted (ap (λ (k : Halt). Err k) (sym is ∙ ap (halt_or y) e));
    }

pub cause_memory : {V : Type 0} (base new : Contents) (N : Function → Type 0) → HasCause {V = V} base new (Err halt.Memory) N
cause_memory base new N = cause_never base new (Err halt.Memory) N (λ e. false≢true (sym (ap is_memory e)))

pub never_by : {V W : Type 0} (r : Result V Halt) (h : Halt) → IsErrAnd r (λ y. y ≡ h) → (◌≡◌ {A = Result W Halt} (Err h) (Err halt.Budget) → ⊥) → r ≡ Err halt.Budget → ⊥
never_by (Ok x) h is never e = is
never_by (Err y) h is never e = never (ap (λ (k : Halt). Err k) (sym is ∙ ap (halt_or y) e))

-- ---- conjunctions

pub first_of_all : (c : Contents) (ms : List ℕ) (i : ℕ) (f : Function) → f ≡ all_true (functions_at c (take i ms)) → IsFirstOfAll (functions_at c ms) f
first_of_all c ms i f is = (i, is ∙ ap all_true (sym (take-map (function_at c) i ms)))

pub all_of_all : (fs : List Function) → IsFirstOfAll fs (all_true fs)
all_of_all fs = (length fs, ap all_true (sym (take_all fs (length fs) (omega arith))))

-- ---- lists of roots

one_root : (c : Contents) (n root : ℕ) → 0 < one_at n root → function_at c root ≡ function_at c n
one_root c n root some = elim (eqb_tells n root) [
  | inl same ↦ ap (function_at c) (sym same.1)
  | inr other ↦ absurd (let none : one_at n root ≡ 0 = ap (λ b. cond b 1 0) other.0 in omega (arith, some, none))
]

-- a root of the list has one of its functions
pub root_there : (c : Contents) (n : ℕ) (roots : List ℕ) → 0 < times_in n roots → Contains (functions_at c roots) (function_at c n)
root_there c n [] some = absurd (omega (arith, some))
root_there c n (root ∷ roots) some = elim (cases_lt 0 (one_at n root)) [
  | inl here ↦ (0, omega arith, one_root c n root here)
  | inr none ↦ (let rest = root_there c n roots (omega (arith, some, none)) in let below = rest.1 in (suc rest.0, omega (arith, below), rest.2))
]

-- ---- roots that were made before

-- so many roots were made at each node, each of a named function
module _ (M N : Function → Type 0) (wider : (f : Function) → M f → N f) (base old : Contents) (count : ℕ → ℕ) (added : (n : ℕ) → roots_at old.state n ≡ roots_at base.state n + count n) (keeps : KeepsRoots base old) (named : (n : ℕ) → 0 < count n → N (function_at old n)) where
  by_count : (d : Diagram) (r : ℕ) → IsRoot old.state r → d ≡ diagram_of old.state r → (0 < count r) ⊎ (count r ≤ 0) → IsHeldSince base N d
  by_count d r root is (inl some) = inr (subst N (sym (ap (function_of old) is) ∙ same_order base old d keeps.order) (named r some))
  by_count d r root is (inr none) =
      let more = added r in
      let before : IsRoot base.state r = omega (arith, more, root, none) in
      inl (r, before, is ∙ keeps.meaning r before)

  count_held : (d : Diagram) → IsHeldSince old M d → IsHeldSince base N d
  count_held d (inl held) = by_count d held.0 held.1 held.2 (cases_lt 0 (count held.0))
  count_held d (inr is) = inr (subst N (same_order base old d keeps.order) (wider (function_of old d) is))

  -- what ends a call after they were made, and given back
  pub count_cause : {V W : Type 0} (whole new : Contents) (r : Result V Halt) (result : Result W Halt) → (result ≡ Err halt.Budget → (r ≡ Err halt.Budget) × (new.state.table ≡ whole.state.table)) → HasCause old whole r M → HasCause base new result N
  count_cause whole new r result handed cause =
      record {
        crowded = λ e. (let came = handed e in subst (λ (t : Table). IsCrowdedBy t (IsHeldSince base N)) (sym came.1) (crowded_wider whole.state.table (IsHeldSince old M) (IsHeldSince base N) count_held (cause.crowded came.0)));
        rooted = λ e n root. (let came = handed e in let more = added n in subst (λ (t : Table). IsLive t n) (sym came.1) (cause.rooted came.0 n (omega (arith, more, root))));
      }

-- the same of a list of roots
module _ (M N : Function → Type 0) (wider : (f : Function) → M f → N f) (base old : Contents) (made : Vec ℕ Global) (fs : List Function) (first : MakesList base old (Ok made) fs) (named : (f : Function) → Contains fs f → N f) where
  pub list_cause : {V W : Type 0} (whole new : Contents) (r : Result V Halt) (result : Result W Halt) → (result ≡ Err halt.Budget → (r ≡ Err halt.Budget) × (new.state.table ≡ whole.state.table)) → HasCause old whole r M → HasCause base new result N
  list_cause =
      count_cause M N wider base old (λ n. times_in n made.items) first.added first.keeps
      (λ n some. named (function_at old n) (subst (λ (hs : List Function). Contains hs (function_at old n)) first.meaning (root_there old n made.items some)))
