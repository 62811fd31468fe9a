-- What is told of a budget that ends a call, carried from a function's calls to the function.
use Rattle.std.proofs.Common.{◌≡◌, ℕ, suc, ◌+◌, ◌<◌, ◌≤◌, ◌==◌, Bool, true, false, Result, Ok, Err, is_ok, List, [], ◌∷◌, cond, refl, sym, ◌∙◌, ap, subst, arith, inl, inr, ◌⊎◌}
use Rattle.std.specs.List.{AllByRecursion}
use Rattle.std.proofs.lemmas.Bool.{cases_lt, false≢true}
use Rattle.std.proofs.lemmas.Bool.Decides.{eqb_tells}
use Rattle.spec_model.specs.Diagrams.{Diagram, Function, value, IsReduced}
use Rattle.node_table.specs.Table.{Table, IsLive, diagram_at}
use Rattle.node_table.proofs.Meaning.{diagram_at-reduced}
use Rattle.bdd_store.specs.State.{State, IsRoot, roots_at, diagram_of, SameRoots}
use Rattle.bdd_bits.specs.Contents.{Contents, function_of, function_at}
use Rattle.bdd_bits.specs.Orders.{level_of}
use Rattle.bdd_bits.proofs.CallLemmas.{same_order}
use Rattle.bdd_ops.specs.Functions.{join_of}
use Rattle.bdd_ops.specs.Steps.{IsJoinOfParts}
use Rattle.bdd_ops.specs.Calls.{HasRoots, IsNegatedPart, IsNeeded, IsCrowded}
use Rattle.bdd_bits.specs.Calls.{KeepsRoots, SameNodes}
use Rattle.regions.specs.declared.types.Halt.{Halt}
use Rattle.regions.specs.declared.types.Halt.TheVariants as halt
use Rattle.bit_compile.specs.declared.cases.CaseRoot.{CaseRoot}
use Rattle.bit_compile.specs.Making.{Makes, MakesOnce}
use Rattle.bit_compile.specs.NamedCodes.{NoFunction}
use Rattle.bit_compile.specs.Crowding.{Running, bit, negation, join, StandsIn, IsCrowdedBy, IsHeldSince, IsUnfinishedOf, HasCause, arguments_of}
use Rattle.bit_compile.specs.Compiled.{Case}
use Rattle.bit_compile.specs.CaseRoots.{cases_at, roots_in, AddsCases}
use Rattle.bit_compile.proofs.MakingLemmas.{root_stays, root_added}
use Rattle.bit_compile.proofs.Between.{halt_or, roots_in-cons}

-- ---- diagrams that are held in a wider sense

all_wider : (H K : Diagram → Type 0) → ((d : Diagram) → H d → K d) → (ds : List Diagram) → AllByRecursion H ds → AllByRecursion K ds
all_wider H K wider [] all = tt
all_wider H K wider (d ∷ ds) all = (wider d all.0, all_wider H K wider ds all.1)

module _ (t : Table) (H K : Diagram → Type 0) (wider : (d : Diagram) → H d → K d) where
  stands_wider : (n : ℕ) → StandsIn t H n → StandsIn t K n
  stands_wider n s = record { root = s.root; live = s.live; held = wider (diagram_at t s.root) s.held; part = s.part }

  needed_wider : (Made : Type 0) (n : ℕ) → (n < 2) ⊎ (StandsIn t H n ⊎ Made) → (n < 2) ⊎ (StandsIn t K n ⊎ Made)
  needed_wider Made n (inl constant) = inl constant
  needed_wider Made n (inr (inl stands)) = inr (inl (stands_wider n stands))
  needed_wider Made n (inr (inr made)) = inr (inr made)

  pub crowded_wider : IsCrowdedBy t H → IsCrowdedBy t K
  crowded_wider c =
      record {
        filled = c.filled;
        running = c.running;
        on_held = all_wider H K wider (arguments_of c.running) c.on_held;
        reduced = c.reduced;
        needed = λ n live. needed_wider (StandsIn t (IsUnfinishedOf c.running) n) n (c.needed n live);
      }

-- ---- where no root was made before the call

-- a call that is not refused for want of nodes
pub cause_never : {V : Type 0} (old new : Contents) (r : Result V Halt) (N : Function → Type 0) → (r ≡ Err halt.Budget → ⊥) → HasCause old new r N
cause_never old new r N never = record { crowded = λ e. absurd (never e); rooted = λ e. absurd (never e) }

pub cause_ok : {V : Type 0} (old new : Contents) (v : V) (N : Function → Type 0) → HasCause old new (Ok v) N
cause_ok old new v N = cause_never old new (Ok v) N (λ e. false≢true (sym (ap is_ok e)))

-- a refusal that is handed on
pub cause_handed : {V W : Type 0} (old new : Contents) (r : Result V Halt) (r' : Result W Halt) (h : Halt) (N : Function → Type 0) → r ≡ Err h → r' ≡ Err h → HasCause old new r N → HasCause old new r' N
cause_handed old new r r' h N is is' cause =
    record { crowded = λ e. cause.crowded (before e); rooted = λ e. cause.rooted (before e) }
  where
    before : r' ≡ Err halt.Budget → r ≡ Err halt.Budget
    before e = is ∙ ap (λ (k : Halt). Err k) (ap (halt_or h) (sym is' ∙ e))

module _ (M N : Function → Type 0) (wider : (f : Function) → M f → N f) where
  held_wider : (old : Contents) (d : Diagram) → IsHeldSince old M d → IsHeldSince old N d
  held_wider old d (inl root) = inl root
  held_wider old d (inr named) = inr (wider (function_of old d) named)

  pub cause_wider : {V : Type 0} (old new : Contents) (r : Result V Halt) → HasCause old new r M → HasCause old new r N
  cause_wider old new r cause =
      record {
        crowded = λ e. crowded_wider new.state.table (IsHeldSince old M) (IsHeldSince old N) (held_wider old) (cause.crowded e);
        rooted = cause.rooted;
      }

  -- ---- where one was

  module _ (old mid : Contents) (b : ℕ) (g : Function) (first : Makes old mid (Ok b) g) (named : N g) where
    by_root : (d : Diagram) (r : ℕ) → IsRoot mid.state r → d ≡ diagram_of mid.state r → ((r == b) ≡ true) × (r ≡ b) ⊎ ((r == b) ≡ false) × (r ≡ b → ⊥) → IsHeldSince old N d
    by_root d r root is (inl same) = inr (subst N (sym (sym (same_order old mid d first.keeps.order) ∙ (ap (function_of mid) (is ∙ ap (λ (k : ℕ). diagram_of mid.state k) same.1) ∙ first.meaning))) named)
    by_root d r root is (inr other) =
        let more : roots_at mid.state r ≡ roots_at old.state r + 0 = subst (λ (c : Bool). roots_at mid.state r ≡ roots_at old.state r + cond c 1 0) other.0 (first.added r) in
        let before : IsRoot old.state r = omega (arith, more, root) in
        inl (r, before, is ∙ first.keeps.meaning r before)

    held_back : (d : Diagram) → IsHeldSince mid M d → IsHeldSince old N d
    held_back d (inl held) = by_root d held.0 held.1 held.2 (eqb_tells held.0 b)
    held_back d (inr is) = inr (subst N (same_order old mid d first.keeps.order) (wider (function_of mid d) is))

    pub cause_back : {V : Type 0} (whole new : Contents) (r : Result V Halt) → SameNodes whole new → HasCause mid whole r M → HasCause old new r N
    cause_back whole new r nodes cause =
        record {
          crowded = λ e. subst (λ (t : Table). IsCrowdedBy t (IsHeldSince old N)) (sym nodes.table) (crowded_wider whole.state.table (IsHeldSince mid M) (IsHeldSince old N) held_back (cause.crowded e));
          rooted = λ e n root. subst (λ (t : Table). IsLive t n) (sym nodes.table) (cause.rooted e n (root_added old mid b g first n root));
        }

  -- ---- where several were

  among : (c : Contents) (xs : List CaseRoot) (r : ℕ) → AllByRecursion (λ (x : Case). N x.holds) (cases_at c xs) → 0 < roots_in xs r → N (function_at c r)
  among c [] r all some = absurd (omega (arith, some))
  among c (x ∷ xs) r all some = elim (eqb_tells r x.root) [
    | inl same ↦ subst N (ap (function_at c) (sym same.1)) all.0
    | inr other ↦
        let cons = roots_in-cons x xs r ∙ ap (λ (b : Bool). cond b (suc (roots_in xs r)) (roots_in xs r)) other.0 in
        among c xs r all.1 (omega (arith, some, cons))
  ]

  module _ (old mid : Contents) (xs : List CaseRoot) (cs : List Case) (adds : AddsCases old mid xs cs) (keeps : KeepsRoots old mid) (named : AllByRecursion (λ (x : Case). N x.holds) cs) where
    by_count : (d : Diagram) (r : ℕ) → IsRoot mid.state r → d ≡ diagram_of mid.state r → (0 < roots_at old.state r) ⊎ (roots_at old.state r ≤ 0) → IsHeldSince old N d
    by_count d r root is (inl before) = inl (r, before, is ∙ keeps.meaning r before)
    by_count d r root is (inr none) =
        let more = adds.added r in
        let some : 0 < roots_in xs r = omega (arith, more, root, none) in
        let all : AllByRecursion (λ (x : Case). N x.holds) (cases_at mid xs) = subst (λ (ds : List Case). AllByRecursion (λ (x : Case). N x.holds) ds) (sym adds.are) named in
        inr (subst N (sym (ap (function_of mid) is) ∙ same_order old mid d keeps.order) (among mid xs r all some))

    held_among : (d : Diagram) → IsHeldSince mid M d → IsHeldSince old N d
    held_among d (inl held) = by_count d held.0 held.1 held.2 (cases_lt 0 (roots_at old.state held.0))
    held_among d (inr is) = inr (subst N (same_order old mid d keeps.order) (wider (function_of mid d) is))

    pub cause_among : {V : Type 0} (whole new : Contents) (r : Result V Halt) → SameNodes whole new → HasCause mid whole r M → HasCause old new r N
    cause_among whole new r nodes cause =
        record {
          crowded = λ e. subst (λ (t : Table). IsCrowdedBy t (IsHeldSince old N)) (sym nodes.table) (crowded_wider whole.state.table (IsHeldSince mid M) (IsHeldSince old N) held_among (cause.crowded e));
          rooted = λ e n root. subst (λ (t : Table). IsLive t n) (sym nodes.table) (cause.rooted e n (let more = adds.added n in omega (arith, more, root)));
        }

-- ---- after a refusal, whose nodes are given back

pub cause_after : {V : Type 0} (old mid new : Contents) (r : Result V Halt) (N : Function → Type 0) → SameRoots old.state mid.state → KeepsRoots old mid → HasCause mid new r N → HasCause old new r N
cause_after old mid new r N same keeps cause =
    record {
      crowded = λ e. crowded_wider new.state.table (IsHeldSince mid N) (IsHeldSince old N) back (cause.crowded e);
      rooted = λ e n root. cause.rooted e n (root_stays old.state mid.state n same root);
    }
  where
    back : (d : Diagram) → IsHeldSince mid N d → IsHeldSince old N d
    back d (inl held) =
        let before : IsRoot old.state held.0 = subst (λ (k : ℕ). 0 < k) (same held.0) held.1 in
        inl (held.0, before, held.2 ∙ keeps.meaning held.0 before)
    back d (inr named) = inr (subst N (same_order old mid d keeps.order) named)

-- ---- one operation

-- the diagram is that of a kept root
abbrev pub IsKeptRoot : State → Diagram → Type 0
IsKeptRoot old d = (r : ℕ) × IsRoot old r × (d ≡ diagram_of old r)

pub root_kept : (old : State) (n : ℕ) → IsRoot old n → IsKeptRoot old (diagram_of old n)
root_kept old n root = (n, root, refl)

module _ (old new : Contents) (f : Function) (running : Running) (N : Function → Type 0) (kept : AllByRecursion (IsKeptRoot old.state) (arguments_of running)) where
  needed_once : (n : ℕ) → SameRoots old.state new.state → KeepsRoots old new → HasRoots new.state → IsNeeded new.state (IsUnfinishedOf running) n → (n < 2) ⊎ (StandsIn new.state.table (IsHeldSince old N) n ⊎ StandsIn new.state.table (IsUnfinishedOf running) n)
  needed_once n same keeps rooted (inl constant) = inl constant
  needed_once n same keeps rooted (inr (inl stands)) =
      let r = stands.0 in
      let before : IsRoot old.state r = subst (λ (k : ℕ). 0 < k) (same r) stands.1 in
      inr (inl (record { root = r; live = rooted r stands.1; held = inl (r, before, keeps.meaning r before); part = stands.2 }))
  needed_once n same keeps rooted (inr (inr made)) = inr (inr (record { root = made.0; live = made.1; held = made.2; part = made.3 }))

  -- a kept root's diagram is that of a node, and reduced
  reduced_root : SameRoots old.state new.state → KeepsRoots old new → IsCrowded new.state (IsUnfinishedOf running) → (d : Diagram) → IsKeptRoot old.state d → IsReduced d
  reduced_root same keeps cause d k =
      subst IsReduced (keeps.meaning k.0 k.1 ∙ sym k.2) (diagram_at-reduced new.state.table cause.full.sound k.0 (cause.rooted k.0 (root_stays old.state new.state k.0 same k.1)))

  pub cause_once : (r : Result ℕ Halt) → MakesOnce old new r f (IsUnfinishedOf running) → HasCause old new r N
  cause_once (Ok k) makes = cause_ok old new k N
  cause_once (Err h) makes =
      record {
        crowded = λ e. (let cause = makes.cause e in record {
          filled = cause.full;
          running = running;
          on_held = all_wider (IsKeptRoot old.state) (IsHeldSince old N) (λ d k. inl k) (arguments_of running) kept;
          reduced = all_wider (IsKeptRoot old.state) IsReduced (reduced_root makes.makes.refused makes.makes.keeps cause) (arguments_of running) kept;
          needed = λ n edge. needed_once n makes.makes.refused makes.makes.keeps cause.rooted (cause.needed n edge);
        });
        rooted = λ e n root. (makes.cause e).rooted n (root_stays old.state new.state n makes.makes.refused root);
      }

-- each operation on roots that are kept
pub cause_bit : (old new : Contents) (level : ℕ) (f : Function) (N : Function → Type 0) (r : Result ℕ Halt) → MakesOnce old new r f (λ made. value made ≡ (λ s. s (level_of old.order level))) → HasCause old new r N
cause_bit old new level f N r makes = cause_once old new f (bit (level_of old.order level)) N tt r makes

pub cause_not : (old new : Contents) (a : ℕ) (f : Function) (N : Function → Type 0) (r : Result ℕ Halt) → IsRoot old.state a → MakesOnce old new r f (IsNegatedPart (diagram_of old.state a)) → HasCause old new r N
cause_not old new a f N r root makes = cause_once old new f (negation (diagram_of old.state a)) N (root_kept old.state a root, tt) r makes

pub cause_join : (all : Bool) (old new : Contents) (a b : ℕ) (f : Function) (N : Function → Type 0) (r : Result ℕ Halt) → IsRoot old.state a → IsRoot old.state b → MakesOnce old new r f (IsJoinOfParts (join_of all) (diagram_of old.state a) (diagram_of old.state b)) → HasCause old new r N
cause_join all old new a b f N r root_a root_b makes =
    cause_once old new f (join all (diagram_of old.state a) (diagram_of old.state b)) N (root_kept old.state a root_a, (root_kept old.state b root_b, tt)) r makes

-- no set is named
pub no_name : (N : Function → Type 0) (f : Function) → NoFunction f → N f
no_name N f none = absurd none
