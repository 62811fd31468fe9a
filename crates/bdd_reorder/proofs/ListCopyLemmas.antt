-- Copies of several diagrams, one after the other.
use Rattle.std.proofs.Common.{◌≡◌, ℕ, ◌+◌, ◌<◌, ◌≤◌, inl, inr, sym, ◌∙◌, ap, subst, refl, arith, Vec, Result, Ok, Err, IsErrAnd, List, [], ◌∷◌, ◌++◌, map}
use Rattle.std.specs.List.{AllByRecursion, Contains}
use Rattle.std.proofs.lemmas.List.{map-append}
use Rattle.std.proofs.lemmas.Bool.{cases_lt}
use Rattle.std.specs.declared.alloc.Global.{Global}
use Rattle.spec_model.specs.Diagrams.{Diagram, Function, value, shifted}
use Rattle.node_table.specs.Table.{Table, diagram_at}
use Rattle.bdd_store.specs.declared.fault.StoreFault.{StoreFault}
use Rattle.bdd_store.specs.declared.fault.StoreFault.TheVariants as fault
use Rattle.bdd_store.specs.State.{IsRoot, roots_at, diagram_of}
use Rattle.bdd_ops.specs.Contents.{Contents, function_at}
use Rattle.bdd_ops.specs.Calls.{KeepsRoots}
use Rattle.bdd_reorder.specs.Keeping.{one_at, times_in, KeepsBesides}
use Rattle.bdd_reorder.specs.Crowding.{IsCrowdedSince}
use Rattle.bdd_reorder.specs.Rearranged.{IsOfPart, IsOfCopy}
use Rattle.bdd_reorder.specs.Making.{MakesCopy, MakesCopies, functions_at, diagrams_at}
use Rattle.bdd_reorder.proofs.ElementLemmas.{contains_first, contains_later, contains_map, map_contains}
use Rattle.bdd_reorder.proofs.KeepingLemmas.{is_one, one_itself, times-push}
use Rattle.bdd_reorder.proofs.CrowdingLemmas.{crowded_back}
use Rattle.bdd_reorder.proofs.StepLemmas.{not_full}

pub list_kept : (c : Contents) (roots : List ℕ) → ((n : ℕ) → times_in n roots ≤ roots_at c.state n) → (n : ℕ) → 0 < times_in n roots → IsRoot c.state n
list_kept c roots counted n some = let all = counted n in omega (arith, all, some)

pub times_contains : (n : ℕ) (roots : List ℕ) → 0 < times_in n roots → Contains roots n
times_contains n [] some = absurd (omega (arith, some))
times_contains n (r ∷ roots) some = elim (cases_lt 0 (one_at n r)) [
  | inl here ↦ subst (Contains (r ∷ roots)) (sym (is_one n r here)) (contains_first r roots)
  | inr none ↦ contains_later r n roots (times_contains n roots (omega (arith, some, none)))
]

-- kept roots of a list have the functions that they had
pub functions_stay : (old new : Contents) (roots : List ℕ) → ((n : ℕ) → 0 < times_in n roots → IsRoot old.state n) → KeepsRoots old new → functions_at new roots ≡ functions_at old roots
functions_stay old new [] kept keeps = refl
functions_stay old new (r ∷ roots) kept keeps =
    let one : one_at r r ≡ 1 = one_itself r in
    let first : function_at new r ≡ function_at old r = ap value (keeps.meaning r (kept r (omega (arith, one)))) in
    ap (λ (f : Function). f ∷ functions_at new roots) first ∙ ap (λ (fs : List Function). function_at old r ∷ fs) (functions_stay old new roots (λ n some. kept n (omega (arith, some))) keeps)

-- roots of a list stay the diagrams that they were
pub diagrams_stay : (old new : Contents) (roots : List ℕ) → AllByRecursion (IsRoot old.state) roots → KeepsRoots old new → diagrams_at new roots ≡ diagrams_at old roots
diagrams_stay old new [] kept keeps = refl
diagrams_stay old new (r ∷ roots) kept keeps =
    ap (λ (d : Diagram). d ∷ diagrams_at new roots) (keeps.meaning r kept.0) ∙ ap (λ (ds : List Diagram). diagram_of old.state r ∷ ds) (diagrams_stay old new roots kept.1 keeps)

abbrev fault_in : StoreFault → Result (Vec ℕ Global) StoreFault → StoreFault
fault_in h (Ok v) = h
fault_in h (Err k) = k

abbrev pub rearranged : List ℕ → List Diagram → List Function
rearranged levels ds = map (λ d. shifted levels (value d)) ds

module _ (s0 s1 : Contents) (levels : List ℕ) (ds : List Diagram) (copies : List ℕ) (meaning : functions_at s1 copies ≡ rearranged levels ds) (added : (n : ℕ) → roots_at s1.state n ≡ roots_at s0.state n + times_in n copies) (keeps : KeepsRoots s0 s1) where
  pub copies_counted : (n : ℕ) → times_in n copies ≤ roots_at s1.state n
  copies_counted n = let more = added n in omega (arith, more)

  copies_kept : (n : ℕ) → 0 < times_in n copies → IsRoot s1.state n
  copies_kept n some = let more = added n in omega (arith, more, some)

  roots_stay : (n : ℕ) → IsRoot s0.state n → IsRoot s1.state n
  roots_stay n root = let more = added n in omega (arith, more, root)

  keeps_on : (s2 : Contents) → KeepsRoots s1 s2 → KeepsRoots s0 s2
  keeps_on s2 next = record {
    levels = next.levels ∙ keeps.levels;
    budget = next.budget ∙ keeps.budget;
    meaning = λ n root. next.meaning n (roots_stay n root) ∙ keeps.meaning n root;
  }

  -- one copy more
  pub more_meaning : (s2 : Contents) (d : Diagram) (r : ℕ) (more : List ℕ) → MakesCopy s1 s2 (Ok r) levels d → more ≡ copies ++ r ∷ [] → functions_at s2 more ≡ rearranged levels (ds ++ d ∷ [])
  more_meaning s2 d r more made pushed =
      ap (functions_at s2) pushed
      ∙ (map-append (function_at s2) copies (r ∷ [])
      ∙ (ap (λ (fs : List Function). fs ++ function_at s2 r ∷ []) (functions_stay s1 s2 copies copies_kept made.keeps ∙ meaning)
      ∙ (ap (λ (f : Function). rearranged levels ds ++ f ∷ []) made.meaning ∙ sym (map-append (λ (e : Diagram). shifted levels (value e)) ds (d ∷ [])))))

  pub more_added : (s2 : Contents) (d : Diagram) (r : ℕ) (more : List ℕ) → MakesCopy s1 s2 (Ok r) levels d → more ≡ copies ++ r ∷ [] → (n : ℕ) → roots_at s2.state n ≡ roots_at s0.state n + times_in n more
  more_added s2 d r more made pushed n = let one = added n in let two = made.added n in let push = times-push copies r n in let same = ap (times_in n) pushed in omega (arith, one, two, push, same)

  pub more_keeps : (s2 : Contents) (d : Diagram) (r : ℕ) → MakesCopy s1 s2 (Ok r) levels d → KeepsRoots s0 s2
  more_keeps s2 d r made = keeps_on s2 made.keeps

  -- where the next one is refused, all are given back
  module _ (whole new : Contents) (all : List Diagram) (d : Diagram) (h : StoreFault) (among : (e : Diagram) → Contains ds e → Contains all e) (is_one : Contains all d) (made : MakesCopy s1 whole (Err h) levels d) (back : (n : ℕ) → roots_at whole.state n ≡ roots_at new.state n + times_in n copies) (table : new.state.table ≡ whole.state.table) where
    named : (bit n : ℕ) → 0 < times_in n copies → IsOfCopy levels all d bit (function_at s1 n)
    named bit n some =
        let there = subst (λ (fs : List Function). Contains fs (function_at s1 n)) meaning (contains_map (function_at s1) copies n (times_contains n copies some)) in
        let found = map_contains (λ (e : Diagram). shifted levels (value e)) ds (function_at s1 n) there in
        inl (found.0, among found.0 found.1, sym found.2)

    pub next_refused : MakesCopies s0 new (Err h) levels all
    next_refused = record {
      meaning = tt;
      added = tt;
      refused = λ n. (let one = added n in let two = made.added n in let three = back n in omega (arith, one, two, three));
      keeps = keeps_on new (record {
        levels = ap (λ t. t.levels) table ∙ made.keeps.levels;
        budget = ap (λ t. t.budget) table ∙ made.keeps.budget;
        meaning = λ n root. ap (λ t. diagram_at t n) table ∙ made.keeps.meaning n root;
      });
      full = λ e.
          let full = made.full (ap (λ (k : StoreFault). Err k) (ap (fault_in h) e)) in
          let crowded = full.1 in
          let besides : KeepsBesides s0 s1 (IsOfCopy levels all d crowded.0) (λ n. times_in n copies) = record { keeps = keeps; added = added; named = named crowded.0 } in
          record {
            whole = d;
            is_one = is_one;
            reduced = full.0;
            level = crowded.0;
            crowded = subst (λ (t : Table). IsCrowdedSince s0.state t (IsOfCopy levels all d crowded.0)) (sym table) (crowded_back s0 s1 (IsOfPart levels d crowded.0) (IsOfCopy levels all d crowded.0) (λ n. times_in n copies) (λ f is. inr is) besides whole.state.table crowded.1);
          };
    }

  -- all are made
  pub all_copied : (v : Vec ℕ Global) (all : List Diagram) → v.items ≡ copies → ds ≡ all → MakesCopies s0 s1 (Ok v) levels all
  all_copied v all is same = record {
    meaning = ap (functions_at s1) is ∙ (meaning ∙ ap (rearranged levels) same);
    added = λ n. (let one = added n in let two = ap (times_in n) is in omega (arith, one, two));
    refused = tt;
    keeps = keeps;
    full = λ e. not_full v e;
  }

-- want of memory before the first one
pub none_copied : (c : Contents) (r : Result (Vec ℕ Global) StoreFault) (levels : List ℕ) (ds : List Diagram) (h : StoreFault) → (h ≡ fault.Full → ⊥) → IsErrAnd r (λ y. y ≡ h) → MakesCopies c c r levels ds
none_copied c (Ok v) levels ds h never is = absurd is
none_copied c (Err y) levels ds h never is = record {
  meaning = tt;
  added = tt;
  refused = λ n. refl;
  keeps = record { levels = refl; budget = refl; meaning = λ n root. refl };
  full = λ e. absurd (never (sym is ∙ ap (fault_in y) e));
}
