-- What is kept besides the roots at first, through several steps.
use Rattle.std.proofs.Common.{◌≡◌, ℕ, ◌+◌, ◌==◌, ◌<◌, ◌⊎◌, inl, inr, sym, ◌∙◌, ap, subst, refl, arith, true, false, cond, Result, Ok, Err, IfOk, List, [], ◌∷◌, ◌++◌}
use Rattle.std.proofs.lemmas.Bool.{cases_lt, eq-eqb}
use Rattle.std.proofs.lemmas.Bool.Decides.{eqb_tells}
use Rattle.spec_model.specs.Diagrams.{Function, value}
use Rattle.node_table.specs.Table.{diagram_at}
use Rattle.bdd_store.specs.declared.fault.StoreFault.{StoreFault}
use Rattle.bdd_store.specs.State.{IsRoot, roots_at}
use Rattle.bdd_ops.specs.Contents.{Contents, function_at}
use Rattle.bdd_ops.specs.Calls.{KeepsRoots}
use Rattle.bdd_reorder.specs.Keeping.{one_at, times_in, made_at, KeepsBesides}

pub one_itself : (n : ℕ) → one_at n n ≡ 1
one_itself n = ap (λ b. cond b 1 0) (eq-eqb n n refl)

pub times-push : (roots : List ℕ) (x n : ℕ) → times_in n (roots ++ x ∷ []) ≡ times_in n roots + one_at n x
times-push [] x n = omega arith
times-push (r ∷ roots) x n = let more = times-push roots x n in omega (arith, more)

-- what is counted once is the root
one_is : (n root : ℕ) → 0 < one_at n root → ((n == root) ≡ true) × (n ≡ root) ⊎ ((n == root) ≡ false) × (n ≡ root → ⊥) → n ≡ root
one_is n root some (inl same) = same.1
one_is n root some (inr other) = let none : one_at n root ≡ 0 = ap (λ b. cond b 1 0) other.0 in absurd (omega (arith, some, none))

pub is_one : (n root : ℕ) → 0 < one_at n root → n ≡ root
is_one n root some = one_is n root some (eqb_tells n root)

-- what the result counts has its function
pub made_named : (new : Contents) (N : Function → Type 0) (r : Result ℕ StoreFault) → IfOk r (λ root. N (function_at new root)) → (n : ℕ) → 0 < made_at n r → N (function_at new n)
made_named new N (Ok root) named n some = subst (λ (k : ℕ). N (function_at new k)) (sym (is_one n root some)) named
made_named new N (Err fault) named n some = absurd (omega (arith, some))

pub nothing_besides : (c : Contents) (N : Function → Type 0) → KeepsBesides c c N (λ n. 0)
nothing_besides c N = record {
  keeps = record { levels = refl; budget = refl; meaning = λ n root. refl };
  added = λ n. omega arith;
  named = λ n some. absurd (omega (arith, some));
}

module _ (old mid new : Contents) (N : Function → Type 0) (a b : ℕ → ℕ) (first : KeepsBesides old mid N a) where
  pub root_stays : (n : ℕ) → IsRoot old.state n → IsRoot mid.state n
  root_stays n root = let more = first.added n in omega (arith, more, root)

  pub function_stays : (n : ℕ) → IsRoot old.state n → function_at mid n ≡ function_at old n
  function_stays n root = ap value (first.keeps.meaning n root)

  pub is_root : (n : ℕ) → 0 < a n → IsRoot mid.state n
  is_root n some = let more = first.added n in omega (arith, more, some)

  pub keeps_then : KeepsRoots mid new → KeepsRoots old new
  keeps_then keeps = record {
    levels = keeps.levels ∙ first.keeps.levels;
    budget = keeps.budget ∙ first.keeps.budget;
    meaning = λ n root. keeps.meaning n (root_stays n root) ∙ first.keeps.meaning n root;
  }

  -- one step after another
  pub besides_then : KeepsBesides mid new N b → KeepsBesides old new N (λ n. a n + b n)
  besides_then second = record {
    keeps = keeps_then second.keeps;
    added = λ n. (let one = first.added n in let two = second.added n in omega (arith, one, two));
    named = λ n some. elim (cases_lt 0 (b n)) [
      | inl later ↦ second.named n later
      | inr none ↦
          let before : 0 < a n = omega (arith, some, none) in
          subst N (sym (ap value (second.keeps.meaning n (is_root n before)))) (first.named n before)
    ];
  }

-- the same kept besides, of functions in a wider sense, and counted otherwise
pub besides_wider : (old new : Contents) (M N : Function → Type 0) (a b : ℕ → ℕ) → ((f : Function) → M f → N f) → ((n : ℕ) → b n ≡ a n) → KeepsBesides old new M a → KeepsBesides old new N b
besides_wider old new M N a b wider same keeps = record {
  keeps = keeps.keeps;
  added = λ n. (let one = keeps.added n in let two = same n in omega (arith, one, two));
  named = λ n some. (let two = same n in wider (function_at new n) (keeps.named n (omega (arith, some, two))));
}

-- where the table stays, kept roots do
pub table_keeps : (old new : Contents) → new.state.table ≡ old.state.table → KeepsRoots old new
table_keeps old new table = record { levels = ap (λ t. t.levels) table; budget = ap (λ t. t.budget) table; meaning = λ n root. ap (λ t. diagram_at t n) table }

-- some of what is kept besides is given back
pub besides_less : (old whole new : Contents) (N : Function → Type 0) (a b less : ℕ → ℕ) → KeepsRoots whole new → ((n : ℕ) → roots_at whole.state n ≡ roots_at new.state n + less n) → ((n : ℕ) → a n ≡ b n + less n) →
    KeepsBesides old whole N a → KeepsBesides old new N b
besides_less old whole new N a b less stays back counted keeps = record {
  keeps = keeps_then old whole new N a b keeps stays;
  added = λ n. (let one = keeps.added n in let two = back n in let three = counted n in omega (arith, one, two, three));
  named = λ n some. (let three = counted n in
      let before : 0 < a n = omega (arith, some, three) in
      subst N (sym (ap value (stays.meaning n (is_root old whole new N a b keeps n before)))) (keeps.named n before));
}
