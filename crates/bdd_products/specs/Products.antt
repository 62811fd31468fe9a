-- Lines with the levels that are taken out when each is joined.
use Rattle.std.specs.Prelude.{◌≡◌, ◌⊎◌, ℕ, ◌+◌, true, ◌||◌, List, [], ◌∷◌, ◌++◌, map, slice_index, Vec, Result, Err, IfOk, OnErr}
use Rattle.std.specs.List.{AllByRecursion, Contains}
use Rattle.std.specs.declared.alloc.Global.{Global}
use Rattle.spec_model.specs.Diagrams.{Function}
use Rattle.bdd_store.specs.State.{roots_at, SameRoots, IsFull}
use Rattle.bdd_ops.specs.Functions.{is_among, joined, join_of}
use Rattle.bdd_ops.specs.Reading.{Ignores}
use Rattle.bdd_bits.specs.Contents.{Contents}
use Rattle.bdd_bits.specs.Calls.{KeepsRoots}
use Rattle.regions.specs.declared.types.Halt.{Halt}
use Rattle.regions.specs.declared.types.Halt.TheVariants as halt
use Rattle.bdd_sets.specs.Members.{functions_at}
use Rattle.bdd_sets.specs.MoveFunctions.{all_true}
use Rattle.bdd_sets.specs.Lists.{times_in}
use Rattle.bdd_sets.specs.NamedGame.{IsOfConjunction}
use Rattle.bdd_products.specs.declared.product.Product.{Product}

-- ---- levels

-- the function reads none of these levels
abbrev pub IgnoresAll : List ℕ → Function → Type 0
IgnoresAll levels f = (m : ℕ) → is_among m levels ≡ true → Ignores m f

-- none of the functions reads any of these levels
abbrev pub NoneReads : List ℕ → List Function → Type 0
NoneReads levels fs = AllByRecursion (IgnoresAll levels) fs

-- no function reads a level that is taken out with an earlier one
abbrev pub AreInOrder : List Function → List (List ℕ) → Type 0
AreInOrder [] [] = Unit {0}
AreInOrder [] (out ∷ outs) = ⊥
AreInOrder (f ∷ fs) [] = ⊥
AreInOrder (f ∷ fs) (out ∷ outs) = NoneReads out fs × AreInOrder fs outs

-- the levels of all lists
abbrev pub out_of : List (List ℕ) → List ℕ
out_of [] = []
out_of (out ∷ outs) = out ++ out_of outs

abbrev pub levels_of : List (Vec ℕ Global) → List (List ℕ)
levels_of outs = map (λ out. out.items) outs

-- ---- products

-- the functions are together the whole, and the levels that go with them, none before its time, are these
pub record IsProductOf (whole : Function) (out : List ℕ) (fs : List Function) (outs : List (List ℕ)) : Type 0 where
  pub conjunction : all_true fs ≡ whole
  pub in_order : AreInOrder fs outs
  pub levels : (m : ℕ) → is_among m (out_of outs) ≡ is_among m out

-- the levels go with the functions but for those that are left, which none of the functions reads
pub record IsSpread (out left : List ℕ) (fs : List Function) (outs : List (List ℕ)) : Type 0 where
  pub in_order : AreInOrder fs outs
  pub unread : NoneReads left fs
  pub levels : (m : ℕ) → (is_among m (out_of outs) || is_among m left) ≡ is_among m out

-- the product's lines and levels are those of the whole
abbrev pub IsProduct : Function → List ℕ → Contents → Product → Type 0
IsProduct whole out c p = IsProductOf whole out (functions_at c p.lines.items) (levels_of p.outs.items)

-- ---- what is left

-- each line is one of the members, or the first several of the first list together
abbrev pub AreOfMembers : (first second : List Function) → List Function → Type 0
AreOfMembers first second fs = AllByRecursion (λ f. IsOfConjunction first f ⊎ Contains second f) fs

-- both lists together
abbrev pub both_lists : (first second : List Function) → Function
both_lists first second = joined (join_of true) (all_true first) (all_true second)

-- the members at these places, each place beside a number by which it was put in order
abbrev pub members_in : List ℕ → List (ℕ × ℕ) → List ℕ
members_in members places = map (λ p. slice_index members p.1) places

-- the result is a list of roots, which are together the whole, or a refusal that leaves what is kept; `Budget` comes only
-- where the store holds exactly its budget of nodes
pub record MakesLines (old new : Contents) (result : Result (Vec ℕ Global) Halt) (whole : Function) : Type 0 where
  pub conjunction : IfOk result (λ roots. all_true (functions_at new roots.items) ≡ whole)
  pub added : IfOk result (λ roots. (n : ℕ) → roots_at new.state n ≡ roots_at old.state n + times_in n roots.items)
  pub refused : OnErr result (SameRoots old.state new.state)
  pub keeps : KeepsRoots old new
  pub full : result ≡ Err halt.Budget → IsFull new.state

-- the same of a product
pub record MakesProduct (old new : Contents) (result : Result Product Halt) (whole : Function) (out : List ℕ) : Type 0 where
  pub is_product : IfOk result (λ p. IsProduct whole out new p)
  pub added : IfOk result (λ p. (n : ℕ) → roots_at new.state n ≡ roots_at old.state n + times_in n p.lines.items)
  pub refused : OnErr result (SameRoots old.state new.state)
  pub keeps : KeepsRoots old new
  pub full : result ≡ Err halt.Budget → IsFull new.state

-- whatever comes of it leaves what is kept
pub record LeavesRoots {V : Type 0} (old new : Contents) (result : Result V Halt) : Type 0 where
  pub roots : SameRoots old.state new.state
  pub keeps : KeepsRoots old new
  pub full : result ≡ Err halt.Budget → IsFull new.state
