-- The search of a game: what its calls ask, what they give, and why they are refused.
use Rattle.std.proofs.Common.{◌≡◌, ℕ, ◌<◌, ◌≤◌, ◌^◌, List, length, sym, ◌∙◌, ap, subst, arith}
use Rattle.spec_model.specs.Values.{DomainData}
use Rattle.spec_model.specs.Diagrams.{Diagram, Function}
use Rattle.spec_model.specs.Games.{GameData}
use Rattle.bdd_store.specs.State.{IsNewStore}
use Rattle.bdd_ops.specs.Contents.{Contents}
use Rattle.bit_compile.specs.Domains.{state_domains, level_count}
use Rattle.bdd_reorder.specs.Keeping.{AreRoots}
use Rattle.bdd_reorder.specs.Crowding.{IsCrowdedByCopy}
use Rattle.bdd_reorder.specs.Making.{functions_at, diagrams_at}
use Rattle.variable_order.specs.Levels.{levels_under, IsOrder}
use Rattle.variable_order.specs.Sizes.{HasNodes}
use Rattle.variable_order.specs.Stores.{FitsSlots, Stays}
use Rattle.variable_order.specs.Climbing.{IsClimb}
use Rattle.variable_order.specs.CrowdedClimbs.{IsCrowdedByClimb}
use Rattle.variable_order.proofs.MoveLemmas.{stay_functions, stay_diagrams, stay_roots, stay_fits}
use Rattle.line_functions.specs.Functions.{functions_of}
use Rattle.spec_order.specs.Orders.{widths_of, declared, slots_for, HasNodesUnder}
use Rattle.spec_order.specs.Crowded.{IsFullOrder}
use Rattle.spec_order.specs.Scenes.{IsScene, HasLines, IsClimbOf}
use Rattle.spec_order.proofs.SlotLemmas.{fits_slots, length-slots, declared_is_order}
use Rattle.spec_order.proofs.RefusalLemmas.{copying_declared, copying_tried}

module _ (g : GameData) (codes : List DomainData) (from to : Contents) (roots : List ℕ) (scene : IsScene g codes) (lines : HasLines g from roots) (budget : ℕ) (fresh : IsNewStore to.state (level_count codes) budget) where
  to_levels : to.state.table.levels ≡ level_count (state_domains g)
  to_levels = fresh.has_levels ∙ ap level_count scene.bits

  small : level_count (state_domains g) < 2 ^ 32
  small = subst (λ (ds : List DomainData). level_count ds < 2 ^ 32) scene.bits scene.small

  module _ (widths slots : List ℕ) (widths_are : widths ≡ widths_of g) (slots_are : slots ≡ slots_for g (declared g)) where
    -- ---- the declared order

    pub ready : AreRoots from.state roots × FitsSlots from to widths
    ready = (lines.kept, subst (λ (ws : List ℕ). FitsSlots from to ws) (sym widths_are) (fits_slots g from to lines.levels to_levels small))

    pub is_order : IsOrder widths slots
    is_order = subst (λ (xs : List ℕ). IsOrder widths xs) (sym slots_are) (subst (λ (ws : List ℕ). IsOrder ws (slots_for g (declared g))) (sym widths_are) (declared_is_order g))

    pub counted : (n : ℕ) → HasNodes widths (functions_at from roots) slots n → HasNodesUnder g (declared g) n
    counted n size =
        subst (λ (fs : List Function). HasNodes (widths_of g) fs (slots_for g (declared g)) n) lines.functions
        (subst (λ (xs : List ℕ). HasNodes (widths_of g) (functions_at from roots) xs n) slots_are (subst (λ (ws : List ℕ). HasNodes ws (functions_at from roots) slots n) widths_are size))

    pub full_at_first : (new : Contents) → Stays to new → IsCrowdedByCopy to.state new.state.table (levels_under widths slots) (diagrams_at from roots) → IsFullOrder g budget
    full_at_first new stays c =
        copying_declared g from roots lines to.state fresh.no_root new.state.table budget (stays.keeps.levels ∙ to_levels) (stays.keeps.budget ∙ fresh.has_budget) widths slots widths_are slots_are c

    -- ---- the climb from there

    module _ (from1 to1 : Contents) (from_stays : Stays from from1) (to_stays : Stays to to1) (tables n : ℕ) (tables_are : tables ≡ length g.hidden) (size : HasNodesUnder g (declared g) n) where
      pub ready_still : AreRoots from1.state roots × FitsSlots from1 to1 widths × IsOrder widths slots
      ready_still = (stay_roots from from1 roots from_stays lines.kept, stay_fits from from1 to to1 widths from_stays to_stays ready.1, is_order)

      pub tables_within : tables ≤ length slots
      tables_within = let long = ap length slots_are ∙ length-slots g (declared g) in omega (arith, long, tables_are)

      functions_still : functions_at from1 roots ≡ functions_of g
      functions_still = stay_functions from from1 roots from_stays lines.kept ∙ lines.functions

      pub climbed : (last : List ℕ) (k : ℕ) → IsClimb tables widths (functions_at from1 roots) slots n last k → IsClimbOf g n last k
      climbed last k climb =
          subst (λ (fs : List Function). IsClimb (length g.hidden) (widths_of g) fs (slots_for g (declared g)) n last k) functions_still
          (subst (λ (xs : List ℕ). IsClimb (length g.hidden) (widths_of g) (functions_at from1 roots) xs n last k) slots_are
          (subst (λ (ws : List ℕ). IsClimb (length g.hidden) ws (functions_at from1 roots) slots n last k) widths_are
          (subst (λ (t : ℕ). IsClimb t widths (functions_at from1 roots) slots n last k) tables_are climb)))

      pub full_later : (new : Contents) → Stays to1 new → IsCrowdedByClimb to1.state new.state.table tables widths (functions_at from1 roots) (diagrams_at from1 roots) slots n → IsFullOrder g budget
      full_later new stays c =
          let h : ℕ = length g.hidden in
          let t = new.state.table in
          let old = to1.state in
          let ds = diagrams_at from1 roots in
          copying_tried g from roots lines to1.state (λ i. to_stays.roots i ∙ fresh.no_root i) t budget (stays.keeps.levels ∙ (to_stays.keeps.levels ∙ to_levels)) (stays.keeps.budget ∙ (to_stays.keeps.budget ∙ fresh.has_budget)) n size
          (subst (λ (es : List Diagram). IsCrowdedByClimb old t h (widths_of g) (functions_of g) es (slots_for g (declared g)) n) (stay_diagrams from from1 roots from_stays lines.kept)
          (subst (λ (fs : List Function). IsCrowdedByClimb old t h (widths_of g) fs ds (slots_for g (declared g)) n) functions_still
          (subst (λ (xs : List ℕ). IsCrowdedByClimb old t h (widths_of g) (functions_at from1 roots) ds xs n) slots_are
          (subst (λ (ws : List ℕ). IsCrowdedByClimb old t h ws (functions_at from1 roots) ds slots n) widths_are
          (subst (λ (k : ℕ). IsCrowdedByClimb old t k widths (functions_at from1 roots) ds slots n) tables_are c)))))
