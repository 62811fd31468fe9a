-- What a call leaves, from what its steps left.
use Rattle.std.proofs.Common.{◌≡◌, ℕ, inl, inr, sym, ◌∙◌, ap, subst, ◌+◌, ◌==◌, if◌then◌else◌, ◌<◌, List, [], arith, slice_index, Result, Ok, Err, IfOk, OnErr}
use Rattle.spec_model.specs.Diagrams.{Diagram, Function, value}
use Rattle.node_table.specs.Table.{diagram_at}
use Rattle.bdd_store.specs.declared.edge.Edge.{Edge}
use Rattle.bdd_store.specs.declared.fault.StoreFault.{StoreFault}
use Rattle.bdd_store.specs.declared.fault.StoreFault.TheVariants.{Full}
use Rattle.bdd_store.specs.State.{State, IsEdge, IsRoot, diagram_of, AddsRoot, SameRoots}
use Rattle.bdd_store.proofs.Held.{start_held}
use Rattle.bdd_store.proofs.Reclaiming.{fixed_small}
use Rattle.bdd_ops.specs.Contents.{Contents, function_at}
use Rattle.bdd_ops.specs.Steps.{Works, IsSpent, HasFunction}
use Rattle.bdd_ops.specs.Calls.{KeepsRoots, HasRoots, IsCrowded, GivesRoot}
use Rattle.bdd_ops.proofs.StayLemmas.{Stays, held_there}

-- what is held by kept roots
root_there : (old new : Contents) (starts : List ℕ) (n : ℕ) → Works old new starts → ((k : ℕ) → IsRoot old.state k → IsEdge old.state k) → IsRoot old.state n → Stays old new n
root_there old new starts n works roots_live root = held_there old new starts n works (start_held old.state starts n (inl root) (roots_live n root))

-- steps keep what roots are
works_keep : (old new : Contents) (starts : List ℕ) → ((n : ℕ) → IsRoot old.state n → IsEdge old.state n) → Works old new starts → KeepsRoots old new
works_keep old new starts roots_live works = record {
  levels = works.keeps.levels;
  budget = works.keeps.budget;
  meaning = λ n root. (root_there old new starts n works roots_live root).1;
}

-- a spent store with nothing on the stack is crowded
crowded : (new : Contents) (MayMake : Diagram → Type 0) → HasRoots new.state → IsSpent new [] MayMake → IsCrowded new.state MayMake
crowded new MayMake rooted is = record {
  full = is.full;
  rooted = rooted;
  needed = λ n live. elim (is.needed n live) [
    | inl held ↦ elim held.needed [
      | inl fixed ↦ inl (fixed_small new.state.table is.full.sound n fixed.0 live fixed.1)
      | inr under ↦ elim under.1 [ inl root ↦ inr (inl (under.0, root, under.3)) | inr none ↦ absurd (omega (arith, none.1)) ]
    ]
    | inr made ↦ inr (inr made)
  ];
}

-- a refused step
pub refused_call : (old new : Contents) (fault : StoreFault) (f : Function) (MayMake : Diagram → Type 0) → ((n : ℕ) → IsRoot old.state n → IsEdge old.state n) → old.state.stack ≡ [] → Works old new old.state.stack → (fault ≡ Full → IsSpent new old.state.stack MayMake) → GivesRoot old new (Err fault) f MayMake
refused_call old new fault f MayMake roots_live idle works full = record {
  meaning = tt;
  added = tt;
  refused = works.roots;
  keeps = works_keep old new old.state.stack roots_live works;
  full = λ is. crowded new MayMake (λ n root. (root_there old new old.state.stack n works roots_live (subst (λ (k : ℕ). 0 < k) (works.roots n) root)).0) (subst (λ (xs : List ℕ). IsSpent new xs MayMake) idle (full (cc)));
}

-- the same of a step's result
pub refused_on : (old new : Contents) (given : Result Edge StoreFault) (result : Result ℕ StoreFault) (fault : StoreFault) (f : Function) (MayMake : Diagram → Type 0) → result ≡ Err fault → given ≡ Err fault → ((n : ℕ) → IsRoot old.state n → IsEdge old.state n) → old.state.stack ≡ [] → Works old new old.state.stack → (given ≡ Err Full → IsSpent new old.state.stack MayMake) → GivesRoot old new result f MayMake
refused_on old new given result fault f MayMake is was roots_live idle works full =
    subst (λ (r : Result ℕ StoreFault). GivesRoot old new r f MayMake) (sym is) (refused_call old new fault f MayMake roots_live idle works (λ same. full (was ∙ ap Err same)))

table_same : (mid new : Contents) (n : ℕ) → new.state.table ≡ mid.state.table → function_at new n ≡ function_at mid n
table_same mid new n same = ap (λ t. value (diagram_at t n)) same

-- the root of what the steps gave
pub given_call : (old mid new : Contents) (n : ℕ) (result : Result ℕ StoreFault) (f : Function) (MayMake : Diagram → Type 0) → ((n : ℕ) → IsRoot old.state n → IsEdge old.state n) → Works old mid old.state.stack → HasFunction mid f n → new.state.table ≡ mid.state.table →
    IfOk result (λ r. (r ≡ n) × AddsRoot mid.state new.state r) → OnErr result (SameRoots mid.state new.state) → (result ≡ Err Full → ⊥) → GivesRoot old new result f MayMake
given_call old mid new n (Ok r) f MayMake roots_live works has same held refused memory = record {
  meaning = ap (function_at new) held.0 ∙ (table_same mid new n same ∙ has.function);
  added = λ k. held.1 k ∙ ap (λ m. m + (if k == r then 1 else 0)) (works.roots k);
  refused = tt;
  keeps = record {
    levels = ap (λ t. t.levels) same ∙ works.keeps.levels;
    budget = ap (λ t. t.budget) same ∙ works.keeps.budget;
    meaning = λ k root. ap (λ t. diagram_at t k) same ∙ (root_there old mid old.state.stack k works roots_live root).1;
  };
  full = λ is. absurd (memory is);
}
given_call old mid new n (Err fault) f MayMake roots_live works has same held refused memory = record {
  meaning = tt;
  added = tt;
  refused = λ k. refused k ∙ works.roots k;
  keeps = record {
    levels = ap (λ t. t.levels) same ∙ works.keeps.levels;
    budget = ap (λ t. t.budget) same ∙ works.keeps.budget;
    meaning = λ k root. ap (λ t. diagram_at t k) same ∙ (root_there old mid old.state.stack k works roots_live root).1;
  };
  full = λ is. absurd (memory is);
}

starts_same : (old mid new : Contents) → mid.state.table ≡ old.state.table → mid.state.kept ≡ old.state.kept → KeepsRoots mid new → KeepsRoots old new
starts_same old mid new table kept keeps = record {
  levels = keeps.levels ∙ ap (λ t. t.levels) table;
  budget = keeps.budget ∙ ap (λ t. t.budget) table;
  meaning = λ n root. keeps.meaning n (subst (λ (k : List ℕ). 0 < slice_index k n) (sym kept) root) ∙ ap (λ t. diagram_at t n) table;
}

crowded_more : (s : State) (First MayMake : Diagram → Type 0) → ((d : Diagram) → First d → MayMake d) → IsCrowded s First → IsCrowded s MayMake
crowded_more s First MayMake more is = record {
  full = is.full;
  rooted = is.rooted;
  needed = λ n live. elim (is.needed n live) [
    | inl small ↦ inl small
    | inr (inl in_root) ↦ inr (inl in_root)
    | inr (inr made) ↦ inr (inr (made.0, made.1, more (diagram_of s made.0) made.2, made.3))
  ];
}

-- a call's answer, said of what was there before the nodes and roots that it began with were looked up
pub same_start : (old mid new : Contents) (result : Result ℕ StoreFault) (f g : Function) (First MayMake : Diagram → Type 0) → mid.state.table ≡ old.state.table → mid.state.kept ≡ old.state.kept → f ≡ g → ((d : Diagram) → First d → MayMake d) → GivesRoot mid new result f First → GivesRoot old new result g MayMake
same_start old mid new (Ok r) f g First MayMake table kept same more gives = record {
  meaning = gives.meaning ∙ same;
  added = rw (← kept) gives.added;
  refused = tt;
  keeps = starts_same old mid new table kept gives.keeps;
  full = λ is. crowded_more new.state First MayMake more (gives.full is);
}
same_start old mid new (Err fault) f g First MayMake table kept same more gives = record {
  meaning = tt;
  added = tt;
  refused = rw (← kept) gives.refused;
  keeps = starts_same old mid new table kept gives.keeps;
  full = λ is. crowded_more new.state First MayMake more (gives.full is);
}

-- a refusal for memory that changed no node and no root
pub refused_memory : (old new : Contents) (fault : StoreFault) (f : Function) (MayMake : Diagram → Type 0) → new.state.table ≡ old.state.table → new.state.kept ≡ old.state.kept → (fault ≡ Full → ⊥) → GivesRoot old new (Err fault) f MayMake
refused_memory old new fault f MayMake table kept memory = record {
  meaning = tt;
  added = tt;
  refused = λ n. ap (λ k. slice_index k n) kept;
  keeps = record { levels = ap (λ t. t.levels) table; budget = ap (λ t. t.budget) table; meaning = λ n root. ap (λ t. diagram_at t n) table };
  full = λ is. absurd (memory (cc));
}
