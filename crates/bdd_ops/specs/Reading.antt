-- Which levels the functions of the operations read at most.
use Rattle.std.specs.Prelude.{◌≡◌, ℕ, Bool, true, List, ◌≤◌}
use Rattle.spec_model.specs.Diagrams.{Function, ite, exists_over, and_exists_over, Bits, with_bit}
use Rattle.spec_model.specs.DiagramReads.{forall_over}
use Rattle.bdd_ops.specs.Functions.{joined, join_of, is_among}
use Rattle.bdd_ops.specs.Unfinished.{negated}

-- the function doesn't read the level
abbrev pub Ignores : ℕ → Function → Type 0
Ignores level f = (s : Bits) (b : Bool) → f (with_bit s level b) ≡ f s

-- the function reads the level
abbrev pub DependsOn : ℕ → Function → Type 0
DependsOn level f = Ignores level f → ⊥

-- the function reads no level up to this one
abbrev pub IgnoresTo : ℕ → Function → Type 0
IgnoresTo level f = (m : ℕ) → m ≤ level → Ignores m f

-- choices, `and`, `or` and `not` read no level that their arguments ignore
pub record ChoicesReadNoMore (level : ℕ) (f g h : Function) : Type 0 where
  pub choice : Ignores level f → Ignores level g → Ignores level h → Ignores level (ite f g h)
  pub both_or_one : (all : Bool) → Ignores level f → Ignores level g → Ignores level (joined (join_of all) f g)
  pub negation : Ignores level f → Ignores level (negated f)

-- quantifiers read neither the levels of their list nor a level that their arguments ignore
pub record QuantifiersReadLess (level : ℕ) (levels : List ℕ) (f g : Function) : Type 0 where
  pub some_left : is_among level levels ≡ true → Ignores level (exists_over levels f)
  pub all_left : is_among level levels ≡ true → Ignores level (forall_over levels f)
  pub both_left : is_among level levels ≡ true → Ignores level (and_exists_over levels f g)
  pub some_no_more : Ignores level f → Ignores level (exists_over levels f)
  pub all_no_more : Ignores level f → Ignores level (forall_over levels f)
  pub both_no_more : Ignores level f → Ignores level g → Ignores level (and_exists_over levels f g)
