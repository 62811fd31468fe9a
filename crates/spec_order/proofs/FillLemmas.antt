-- What fills a budget while an order is sought, whatever the nodes are numbered, and that such a budget is below the need.
use Rattle.std.proofs.Common.{◌≡◌, ◌⊎◌, inl, inr, ℕ, ◌<◌, ◌≤◌, [], ◌∷◌, refl, subst, arith}
use Rattle.std.specs.List.{AllByRecursion}
use Rattle.spec_model.specs.Diagrams.{Diagram, Function, value, IsReduced}
use Rattle.spec_model.specs.Syntax.{Specification}
use Rattle.spec_model.specs.Games.{GameData}
use Rattle.spec_model.specs.Needs.{bits_of, need_of}
use Rattle.node_table.specs.Table.{Table, IsLive, diagram_at}
use Rattle.bdd_store.specs.State.{State, roots_at, IsFilled}
use Rattle.bdd_bits.specs.Contents.{Contents, IsDeclared}
use Rattle.bdd_bits.proofs.CallLemmas.{declared_function}
use Rattle.hidden_game.specs.GameOf.{game_of}
use Rattle.hidden_game.proofs.FewBits.{bits_few, needs_grow}
use Rattle.bit_compile.specs.Domains.{state_domains, level_count}
use Rattle.bit_compile.specs.Running.{bit, choice}
use Rattle.bit_compile.specs.Crowding.{StandsIn, IsCrowdedBy, IsHeldSince}
use Rattle.bit_compile.specs.Filling.{IsFilledBy}
use Rattle.bit_compile.proofs.Causes.{crowded_wider}
use Rattle.bit_compile.proofs.Filled.{filled_by}
use Rattle.region_bdd.specs.Needs.{bits_of_game, need_of_game}
use Rattle.region_bdd.proofs.FewNodes.{few_fill}
use Rattle.region_bdd.proofs.NeedLaws.{below_need}
use Rattle.bdd_reorder.specs.Crowding as copies
use Rattle.bdd_reorder.proofs.CrowdingLemmas.{all_wider}
use Rattle.line_functions.specs.Functions.{IsOfLines}
use Rattle.spec_order.specs.Crowded.{IsOfCopied, CrowdedOrder}

-- ---- a store that kept nothing at first

-- with each bit at the level of its number
module _ (old : Contents) (declared : IsDeclared old) (t : Table) (N : Function → Type 0) (none : (n : ℕ) → roots_at old.state n ≡ 0) where
  -- what is held of a formula is named
  named : (d : Diagram) → IsHeldSince old N d → N (value d)
  named d (inl kept) = absurd (let root = kept.1 in let no = none kept.0 in omega (arith, root, no))
  named d (inr is) = subst N (declared_function old d declared) is

  pub compiled_by_named : IsCrowdedBy t (IsHeldSince old N) → IsCrowdedBy t (λ d. N (value d))
  compiled_by_named c = crowded_wider t (IsHeldSince old N) (λ d. N (value d)) named c

module _ (old : State) (t : Table) (N : Function → Type 0) (none : (n : ℕ) → roots_at old n ≡ 0) where
  abbrev IsNamed : Diagram → Type 0
  IsNamed d = N (value d)

  -- so is what is held of a copy
  copied : (d : Diagram) → copies.IsHeldSince old N d → IsNamed d
  copied d (inl kept) = absurd (let root = kept.1 in let no = none kept.0 in omega (arith, root, no))
  copied d (inr is) = is

  needed : (IsMade : Diagram → Type 0) (n : ℕ) → (n < 2) ⊎ (copies.StandsIn t (copies.IsHeldSince old N) n ⊎ copies.StandsIn t IsMade n) → (n < 2) ⊎ (StandsIn t IsNamed n ⊎ StandsIn t IsMade n)
  needed IsMade n (inl constant) = inl constant
  needed IsMade n (inr (inl s)) = inr (inl (record { root = s.root; live = s.live; held = copied (diagram_at t s.root) s.held; part = s.part }))
  needed IsMade n (inr (inr s)) = inr (inr (record { root = s.root; live = s.live; held = s.held; part = s.part }))

  by_running : (r : copies.Running) → AllByRecursion (copies.IsHeldSince old N) (copies.arguments_of r) → AllByRecursion IsReduced (copies.arguments_of r) → IsFilled t →
      ((n : ℕ) → IsLive t n → (n < 2) ⊎ (copies.StandsIn t (copies.IsHeldSince old N) n ⊎ copies.StandsIn t (copies.IsUnfinishedOf r) n)) → IsCrowdedBy t IsNamed
  by_running (copies.bit level) held reduced filled needs =
      record { filled = filled; running = bit level; on_held = tt; reduced = tt; needed = λ n live. needed (copies.IsUnfinishedOf (copies.bit level)) n (needs n live) }
  by_running (copies.choice a b c) held reduced filled needs =
      record {
        filled = filled;
        running = choice a b c;
        on_held = all_wider (copies.IsHeldSince old N) IsNamed copied (a ∷ b ∷ c ∷ []) held;
        reduced = reduced;
        needed = λ n live. needed (copies.IsUnfinishedOf (copies.choice a b c)) n (needs n live);
      }

  -- an operation of a copy is one of those that compiling runs
  pub copied_by_named : copies.IsCrowdedSince old t N → IsCrowdedBy t IsNamed
  copied_by_named c = by_running c.running c.on_held c.reduced c.filled c.needed

-- a table with so many levels and nodes
pub fills : (t : Table) (levels budget : ℕ) (N : Function → Type 0) → t.levels ≡ levels → t.budget ≡ budget → IsCrowdedBy t (λ d. N (value d)) → IsFilledBy levels budget N
fills t levels budget N has_levels has_budget c = subst (λ (n : ℕ). IsFilledBy levels n N) has_budget (subst (λ (n : ℕ). IsFilledBy n t.budget N) has_levels (filled_by t N c))

-- ---- the need

pub game_needs : (s : Specification) → need_of_game (game_of s) ≤ need_of s
game_needs s = needs_grow (bits_of_game (game_of s)) (bits_of s) (let few = bits_few s in omega (arith, few))

below : (s : Specification) (budget : ℕ) (N : Function → Type 0) → IsFilledBy (level_count (state_domains (game_of s))) budget N → budget < need_of s
below s budget N filled =
    let g : GameData = game_of s in
    let levels : ℕ = level_count (state_domains g) in
    let less = below_need g budget levels refl (few_fill levels budget N filled.0 filled.1) in
    let more = game_needs s in
    omega (arith, less, more)

pub crowded_below : (s : Specification) (budget : ℕ) → CrowdedOrder s budget → budget < need_of s
crowded_below s budget (inl filled) = below s budget (IsOfLines (game_of s)) filled
crowded_below s budget (inr copying) = below s budget (IsOfCopied (game_of s) copying.slots copying.line copying.level) copying.filled
