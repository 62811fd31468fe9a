-- Why a search for an order ends.
use Rattle.std.proofs.Common.{◌≡◌, inl, inr, ℕ, ◌+◌, ◌≤◌, List, [], ◌∷◌, map, Vec, Result, Ok, Err, IfErr, IsErrAnd, length, sym, ◌∙◌, ap, subst, refl, arith}
use Rattle.std.specs.declared.alloc.Global.{Global}
use Rattle.std.specs.List.{Contains}
use Rattle.spec_model.specs.Diagrams.{Diagram, Function, value, shifted}
use Rattle.spec_model.specs.Values.{DomainData}
use Rattle.spec_model.specs.Games.{GameData}
use Rattle.node_table.specs.Table.{Table}
use Rattle.bdd_store.specs.declared.fault.StoreFault.{StoreFault}
use Rattle.bdd_store.specs.declared.fault.StoreFault.TheVariants as store
use Rattle.bdd_store.specs.State.{State, roots_at, diagram_of, IsNewStore, SameRoots}
use Rattle.bdd_ops.specs.Contents.{Contents}
use Rattle.bdd_bits.specs.Orders.{BitOrder, IsDeclared as IsDeclaredOrder}
use Rattle.bdd_bits.specs.Contents.{Contents as Bits, over_levels, IsDeclared}
use Rattle.bdd_bits.specs.Calls.{KeepsRoots}
use Rattle.bdd_bits.proofs.CallLemmas.{declared_function}
use Rattle.regions.specs.declared.types.Halt.{Halt}
use Rattle.regions.specs.declared.types.Halt.TheVariants as halt
use Rattle.bit_compile.specs.Domains.{state_domains, level_count}
use Rattle.bit_compile.specs.Crowding.{HasCause}
use Rattle.bit_compile.proofs.Filled.{contains_map, fill_wider}
use Rattle.bdd_sets.specs.Members.{functions_at as bit_functions_at}
use Rattle.bdd_sets.specs.Lists as lists
use Rattle.bdd_sets.specs.Lists.{MakesList}
use Rattle.bdd_reorder.specs.Keeping as keeping
use Rattle.bdd_reorder.specs.Crowding as copies
use Rattle.bdd_reorder.specs.Rearranged.{IsOfCopy}
use Rattle.bdd_reorder.specs.Making.{functions_at, diagrams_at}
use Rattle.variable_order.specs.Levels.{levels_under}
use Rattle.variable_order.specs.Sizes.{under}
use Rattle.variable_order.specs.Climbing.{moved}
use Rattle.variable_order.specs.CrowdedClimbs.{IsCrowdedByClimb}
use Rattle.variable_order.proofs.SizeLemmas.{values_at, roots_kept}
use Rattle.line_functions.specs.Functions.{functions_of, IsOfLines}
use Rattle.spec_order.specs.declared.fault.OrderFault.{OrderFault}
use Rattle.spec_order.specs.declared.fault.OrderFault.TheVariants as faults
use Rattle.spec_order.specs.Orders.{widths_of, declared, slots_for, HasNodesUnder}
use Rattle.spec_order.specs.Crowded.{IsTried, first, next, IsOfCopied, IsFullOrder}
use Rattle.spec_order.specs.Scenes.{IsScene, HasLines, of_store, of_halt, MayHalt}
use Rattle.spec_order.proofs.FillLemmas.{compiled_by_named, copied_by_named, fills}

-- ---- refusals that are handed on

module _ (g : GameData) (budget : ℕ) where
  store_halts : (fault : StoreFault) → (fault ≡ store.Full → IsFullOrder g budget) → MayHalt g budget (of_store fault)
  store_halts store.Full cause = cause refl
  store_halts store.Memory cause = tt

  halt_halts : (h : Halt) → (h ≡ halt.Budget → IsFullOrder g budget) → MayHalt g budget (of_halt h)
  halt_halts halt.Budget cause = cause refl
  halt_halts halt.Memory cause = tt

  pub handed_store : {V : Type 0} (r : Result V OrderFault) (fault : StoreFault) → IsErrAnd r (λ y. y ≡ of_store fault) → (fault ≡ store.Full → IsFullOrder g budget) → IfErr r (MayHalt g budget)
  handed_store (Ok v) fault is cause = tt
  handed_store (Err y) fault is cause = subst (MayHalt g budget) (sym is) (store_halts fault cause)

  pub handed_halt : {V : Type 0} (r : Result V OrderFault) (h : Halt) → IsErrAnd r (λ y. y ≡ of_halt h) → (h ≡ halt.Budget → IsFullOrder g budget) → IfErr r (MayHalt g budget)
  handed_halt (Ok v) h is cause = tt
  handed_halt (Err y) h is cause = subst (MayHalt g budget) (sym is) (halt_halts h cause)

  pub handed_memory : {V : Type 0} (r : Result V OrderFault) → IsErrAnd r (λ y. y ≡ faults.Memory) → IfErr r (MayHalt g budget)
  handed_memory (Ok v) is = tt
  handed_memory (Err y) is = subst (MayHalt g budget) (sym is) tt

  -- a search isn't ended by a limit
  pub no_limit : {V : Type 0} (r : Result V OrderFault) → IfErr r (MayHalt g budget) → r ≡ Err faults.Limit → ⊥
  no_limit {V} r cause e = subst (λ (x : Result V OrderFault). IfErr x (MayHalt g budget)) e cause

  pub full_by : {V : Type 0} (r : Result V OrderFault) → IfErr r (MayHalt g budget) → r ≡ Err faults.Budget → IsFullOrder g budget
  full_by {V} r cause e = subst (λ (x : Result V OrderFault). IfErr x (MayHalt g budget)) e cause

-- ---- what the lines' functions are made of

pub compiling : {V : Type 0} (g : GameData) (levels budget : ℕ) (old new : Bits) (r : Result V Halt) → levels ≡ level_count (state_domains g) → IsNewStore old.state levels budget → IsDeclared old → KeepsRoots old new → HasCause old new r (IsOfLines g) → r ≡ Err halt.Budget → IsFullOrder g budget
compiling g levels budget old new r are new_store declared keeps cause e =
    inl (fills new.state.table (level_count (state_domains g)) budget (IsOfLines g) (keeps.levels ∙ (new_store.has_levels ∙ are)) (keeps.budget ∙ new_store.has_budget) (compiled_by_named old declared new.state.table (IsOfLines g) new_store.no_root (cause.crowded e)))

-- ---- copies

module _ (g : GameData) (from : Contents) (roots : List ℕ) (lines : HasLines g from roots) (old : State) (none : (n : ℕ) → roots_at old n ≡ 0) (t : Table) (budget : ℕ) (t_levels : t.levels ≡ level_count (state_domains g)) (t_budget : t.budget ≡ budget) where
  abbrev ds : List Diagram
  ds = diagrams_at from roots

  line_values : map value ds ≡ functions_of g
  line_values = values_at from roots ∙ lines.functions

  -- what a copy holds is named
  held : (slots : List ℕ) (line : Diagram) (level : ℕ) (f : Function) → IsOfCopy (levels_under (widths_of g) slots) ds line level f → IsOfCopied g slots line level f
  held slots line level f (inl one) =
      let d : Diagram = one.0 in
      let there : Contains (functions_of g) (value d) = subst (λ (fs : List Function). Contains fs (value d)) line_values (contains_map value ds d one.1) in
      inl (subst (λ (h : Function). Contains (under (widths_of g) slots (functions_of g)) h) (sym one.2) (contains_map (shifted (levels_under (widths_of g) slots)) (functions_of g) (value d) there))
  held slots line level f (inr part) = inr part

  copying : (slots : List ℕ) → IsTried g slots → copies.IsCrowdedByCopy old t (levels_under (widths_of g) slots) ds → IsFullOrder g budget
  copying slots tried c =
      let N : Function → Type 0 = IsOfCopy (levels_under (widths_of g) slots) ds c.whole c.level in
      inr (record {
        slots = slots;
        tried = tried;
        line = c.whole;
        reduced = c.reduced;
        is_line = subst (λ (fs : List Function). Contains fs (value c.whole)) line_values (contains_map value ds c.whole c.is_one);
        level = c.level;
        filled = (let filled = fills t (level_count (state_domains g)) budget N t_levels t_budget (copied_by_named old t N none c.crowded) in (filled.0, fill_wider N (IsOfCopied g slots c.whole c.level) (held slots c.whole c.level) (level_count (state_domains g)) budget filled.0 filled.1));
      })

  -- while the declared order is counted
  pub copying_declared : (widths slots : List ℕ) → widths ≡ widths_of g → slots ≡ slots_for g (declared g) → copies.IsCrowdedByCopy old t (levels_under widths slots) ds → IsFullOrder g budget
  copying_declared widths slots widths_are slots_are c =
      copying (slots_for g (declared g)) first (subst (λ (ws : List ℕ). copies.IsCrowdedByCopy old t (levels_under ws (slots_for g (declared g))) ds) widths_are (subst (λ (xs : List ℕ). copies.IsCrowdedByCopy old t (levels_under widths xs) ds) slots_are c))

  -- while a climb from there is on its way
  pub copying_tried : (n : ℕ) → HasNodesUnder g (declared g) n → IsCrowdedByClimb old t (length g.hidden) (widths_of g) (functions_of g) ds (slots_for g (declared g)) n → IsFullOrder g budget
  copying_tried n size c = copying (moved c.order c.crowded.i c.crowded.j) (next n c.k c.crowded.i c.crowded.j size c.reached c.crowded.move) c.crowded.crowded

-- ---- the lines' functions in a new store

-- a root is as often in a list by either count
same_times : (n : ℕ) (roots : List ℕ) → lists.times_in n roots ≡ keeping.times_in n roots
same_times n [] = refl
same_times n (root ∷ roots) = ap (λ (k : ℕ). keeping.one_at n root + k) (same_times n roots)

-- over levels roots have the functions that they have over bits
same_functions : (c : Bits) (roots : List ℕ) → IsDeclared c → functions_at (over_levels c) roots ≡ bit_functions_at c roots
same_functions c roots declared = λ i. map (λ n. sym (declared_function c (diagram_of c.state n) declared) i) roots

-- those that were made are the store's
pub lines_made : (g : GameData) (codes : List DomainData) (budget : ℕ) (old new : Bits) (v : Vec ℕ Global) → IsScene g codes → IsNewStore old.state (level_count codes) budget → IsDeclared old → MakesList old new (Ok v) (functions_of g) → HasLines g (over_levels new) v.items
lines_made g codes budget old new v scene new_store declared made = record {
  kept = roots_kept new.state v.items (λ n some. (let same = same_times n v.items in let more = made.added n in omega (arith, same, more, some)));
  functions = same_functions new v.items (subst (λ (o : BitOrder). IsDeclaredOrder o) (sym made.keeps.order) declared) ∙ made.meaning;
  levels = made.keeps.levels ∙ (new_store.has_levels ∙ ap level_count scene.bits);
}

-- they can be given back
pub lines_counted : (old mid : Bits) (new : Contents) (v : Vec ℕ Global) (fs : List Function) → MakesList old mid (Ok v) fs → SameRoots mid.state new.state → (n : ℕ) → keeping.times_in n v.items ≤ roots_at new.state n
lines_counted old mid new v fs made same n = let times = same_times n v.items in let more = made.added n in let stays = same n in omega (arith, times, more, stays)
