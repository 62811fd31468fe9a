-- What a call over levels gives is what it gives over bits.
use Rattle.std.proofs.Common.{◌≡◌, ℕ, Bool, true, false, List, Result, IfOk, Ok, Err, refl, ◌∙◌, ap, subst}
use Rattle.std.proofs.lemmas.Bool.{false≢true}
use Rattle.spec_model.specs.Diagrams.{Diagram, Function, value}
use Rattle.node_table.specs.Table.{Table, diagram_at}
use Rattle.bdd_store.specs.declared.fault.StoreFault.{StoreFault}
use Rattle.bdd_store.specs.declared.fault.StoreFault.TheVariants as fault
use Rattle.bdd_store.specs.State.{IsRoot, diagram_of}
use Rattle.bdd_ops.specs.Calls.{GivesRoot as GivesOverLevels}
use Rattle.bdd_ops.specs.Contents.{function_at as over_levels_at}
use Rattle.bdd_bits.specs.Orders.{BitOrder, IsOrder, level_of, levels_of}
use Rattle.bdd_bits.specs.Contents.{Contents, over_levels, function_of, function_at, IsDeclared}
use Rattle.bdd_bits.specs.Calls.{KeepsRoots, SameNodes, GivesRoot}
use Rattle.bdd_bits.proofs.RenamingLemmas.{over_bits, bit_over_bits}

means : (old new : Contents) (r : Result ℕ StoreFault) (g f : Function) → new.order ≡ old.order → over_bits old.order g ≡ f → IfOk r (λ n. over_levels_at (over_levels new) n ≡ g) → IfOk r (λ n. function_at new n ≡ f)
means old new (Ok n) g f order over meaning = ap (λ (o : BitOrder). over_bits o (value (diagram_of new.state n))) order ∙ (ap (over_bits old.order) meaning ∙ over)
means old new (Err e) g f order over meaning = meaning

pub gives_bits : (old new : Contents) (r : Result ℕ StoreFault) (g f : Function) (M : Diagram → Type 0) → new.order ≡ old.order → over_bits old.order g ≡ f →
    GivesOverLevels (over_levels old) (over_levels new) r g M → GivesRoot old new r f M
gives_bits old new r g f M order over gives = record {
  meaning = means old new r g f order over gives.meaning;
  added = gives.added;
  refused = gives.refused;
  keeps = record { levels = gives.keeps.levels; budget = gives.keeps.budget; order = order; meaning = gives.keeps.meaning };
  full = gives.full;
}

-- under one order a diagram has one function
pub same_order : (a b : Contents) (d : Diagram) → b.order ≡ a.order → function_of b d ≡ function_of a d
same_order a b d same = ap (λ (o : BitOrder). over_bits o (value d)) same

-- with the same nodes and order, each node has the function that it had
pub same_function : (a b : Contents) (n : ℕ) → SameNodes a b → function_at b n ≡ function_at a n
same_function a b n same = ap (λ (t : Table). over_bits b.order (value (diagram_at t n))) same.table ∙ same_order a b (diagram_of a.state n) same.order

-- a kept root has the function that it had
pub keeps_function : (old new : Contents) (n : ℕ) → KeepsRoots old new → IsRoot old.state n → function_at new n ≡ function_at old n
keeps_function old new n keeps root = ap (function_of new) (keeps.meaning n root) ∙ same_order old new (diagram_of old.state n) keeps.order

-- the nodes stay, and then stay once more
pub same_then : (a b c : Contents) → SameNodes a b → SameNodes b c → SameNodes a c
same_then a b c first second = record { table = second.table ∙ first.table; order = second.order ∙ first.order }

-- where each bit stands at the level of its number, a diagram's function is its value
pub declared_function : (c : Contents) (d : Diagram) → IsDeclared c → function_of c d ≡ value d
declared_function c d declared = λ i s. value d (λ level. ap s (declared level) i)

-- a call that was refused before it did anything
pub nothing_given : (c : Contents) (f : Function) (M : Diagram → Type 0) → GivesRoot c c (Err fault.Memory) f M
nothing_given c f M = record {
  meaning = tt;
  added = tt;
  refused = λ n. refl;
  keeps = record { levels = refl; budget = refl; order = refl; meaning = λ n root. refl };
  full = λ e. absurd (false≢true (ap is_full e));
}
  where
    is_full : Result ℕ StoreFault → Bool
    is_full (Ok n) = false
    is_full (Err fault.Full) = true
    is_full (Err fault.Memory) = false

-- a call over the levels of a list of bits
pub list_gives : (F : List ℕ → Function) (M : List ℕ → Diagram → Type 0) (old new : Contents) (r : Result ℕ StoreFault) (f : Function) (levels bits : List ℕ) → levels ≡ levels_of old.order bits → new.order ≡ old.order →
    over_bits old.order (F (levels_of old.order bits)) ≡ f → GivesOverLevels (over_levels old) (over_levels new) r (F levels) (M levels) → GivesRoot old new r f (M (levels_of old.order bits))
list_gives F M old new r f levels bits are order over gives =
    gives_bits old new r (F (levels_of old.order bits)) f (M (levels_of old.order bits)) order over (subst (λ (ls : List ℕ). GivesOverLevels (over_levels old) (over_levels new) r (F ls) (M ls)) are gives)

-- one bit
pub bit_gives : (old new : Contents) (r : Result ℕ StoreFault) (level bit : ℕ) → IsOrder old.state.table.levels old.order → level ≡ level_of old.order bit → new.order ≡ old.order →
    GivesOverLevels (over_levels old) (over_levels new) r (λ s. s level) (λ made. value made ≡ (λ s. s level)) → GivesRoot old new r (λ s. s bit) (λ made. value made ≡ (λ s. s (level_of old.order bit)))
bit_gives old new r level bit is here order gives =
    gives_bits old new r (λ s. s (level_of old.order bit)) (λ s. s bit) (λ made. value made ≡ (λ s. s (level_of old.order bit))) order (bit_over_bits old.state.table.levels old.order is bit)
    (subst (λ (l : ℕ). GivesOverLevels (over_levels old) (over_levels new) r (λ s. s l) (λ made. value made ≡ (λ s. s l))) here gives)

-- ---- seen from outside

-- what a call gives of what it finds inside, it gives of what is seen
pub as_seen : (F : Contents → Function) (M : Contents → Diagram → Type 0) (inside now new : Contents) (r : Result ℕ StoreFault) → inside ≡ now → GivesRoot inside new r (F inside) (M inside) → GivesRoot now new r (F now) (M now)
as_seen F M inside now new r view gives = subst (λ (c : Contents). GivesRoot c new r (F c) (M c)) view gives
