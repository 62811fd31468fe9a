-- Where the output of a later turn leads.
use Rattle.std.proofs.Common.{◌≡◌, ℕ, zero, suc, ◌<◌, Bool, true, false, ◌&&◌, ◌==◌, List, [], ◌∷◌, length, get_or, Some, sym, ap, ◌∙◌, subst, arith}
use Rattle.std.proofs.lemmas.Bool.{and_parts, eqb-true}
use Rattle.spec_model.specs.declared.value.Value.{Value}
use Rattle.spec_model.specs.Values.{Assignment}
use Rattle.spec_model.specs.Games.{GameData, State}
use Rattle.spec_model.specs.Steps.{Before}
use Rattle.spec_model.specs.Sets.{StateSet}
use Rattle.regions.specs.declared.types.When.{When}
use Rattle.regions.specs.declared.types.When.TheVariants.{Later}
use Rattle.regions.specs.Kept.{Kept, Stays, IsSameGame}
use Rattle.regions.specs.Rules.{AreBefore}
use Rattle.gr1_law.specs.Layers.{LayerSets, assumption_sets}
use Rattle.gr1_law.specs.Choice.{Memory, waits, goal_stays}
use Rattle.controller.specs.declared.aims.Aim.{Aim}
use Rattle.controller.specs.Aims.{AimsLead, MovesLead}
use Rattle.controller.specs.Turns.{first_into, IsFirstReached, HaveParts, IsLater}
use Rattle.controller.proofs.Chosen.{Reaches, reaches, waits_into, kept_goal}
use Rattle.controller.proofs.Holdings.{moves_stay, aim_at}

module _ {G R M : Type 0} where
  pub parts_at : (n : ℕ) (aims : List (Aim G R M)) → HaveParts n aims → (r : ℕ) → r < length aims → (d : Aim G R M) → length (get_or aims r d).parts.items ≡ n
  parts_at n [] have r below d = absurd (omega arith)
  parts_at n (a ∷ aims) have zero below d = have.0
  parts_at n (a ∷ aims) have (suc r) below d = parts_at n aims have.1 r (omega arith) d

  module _ (k : Kept R M) (aims : List (Aim G R M)) (values : List Value) (rank index : ℕ) (stays : Bool) (x : Assignment) (l : LayerSets) (s : State) (m : Memory) (y : Assignment) (m' : Memory)
      (later : IsLater k aims values rank index stays x l s m y m') (result : ℕ) (out : Assignment)
      (call : (when : When) (y : ℕ → StateSet) (x' : ℕ → ℕ → StateSet) (b : Before) (r : ℕ) (reply : Assignment) →
      AimsLead k when aims y x' → AreBefore k.game when b values → IsFirstReached k.game when y b x r reply → r < length aims → (result ≡ r) × (out ≡ reply)) where
    there : Reaches k.game Later l (Some s) m x y m'
    there = reaches k.game Later l (Some s) m x y m' later.turn later.turn.before

    least : (result ≡ there.rank) × (out ≡ there.reply)
    least =
        call Later (λ r. l.y m'.goal (suc r)) (λ r. l.x m'.goal (suc r)) (Some s) there.rank there.reply later.serves.lead (record { listed = later.listed; time = later.turn.before }) there.first
        (omega (arith, later.serves.high, there.is))

    pub rank_is : suc result ≡ m'.rank
    rank_is = let e = least.0 in ap suc e ∙ sym there.is

    pub rank_below : result < length aims
    rank_below = omega (arith, least.0, later.serves.high, there.is)

    pub waits_is : (stays && (suc result == rank)) ≡ waits k.game (Some s) m m'.rank
    waits_is = ap (λ d. d && (suc result == rank)) later.stays ∙ (ap (λ n. goal_stays k.game (Some s) m && (n == rank)) rank_is ∙ ap (λ n. goal_stays k.game (Some s) m && (m'.rank == n)) (sym later.rank))

    pub moved_is : (stays && (suc result == rank)) ≡ false → out ≡ y
    moved_is moves_on = least.1 ∙ there.chosen (sym waits_is ∙ moves_on)

    pub index_below : (stays && (suc result == rank)) ≡ true → index < length (assumption_sets k.game)
    index_below on = let kept = later.turn.chosen.kept (sym waits_is ∙ on) in omega (arith, kept, later.index, later.turn.index_in)

    -- while waiting, the first output into the part is the one that is chosen
    module _ (on : (stays && (suc result == rank)) ≡ true) (k1 : Kept R M) (keeps : Stays k k1) (same : IsSameGame k k1) (d : Aim G R M) (parts : List M) (are : parts ≡ (get_or aims result d).parts.items) where
      pub parts_lead : MovesLead k1 Later parts (l.x m'.goal (suc result))
      parts_lead =
          subst (λ ms. MovesLead k1 Later ms (l.x m'.goal (suc result))) (sym are)
          (moves_stay k k1 Later (get_or aims result d).parts.items (l.x m'.goal (suc result)) keeps same (aim_at k Later aims (λ r. l.y m'.goal (suc r)) (λ r. l.x m'.goal (suc r)) later.serves.lead result rank_below d).1)

      pub parts_counted : index < length parts
      parts_counted = omega (arith, index_below on, ap (λ (ms : List M). length ms) are, parts_at (length (assumption_sets k.game)) aims later.parts result rank_below d)

      stayed : goal_stays k.game (Some s) m ≡ true
      stayed = sym later.stays ∙ (and_parts stays (suc result == rank) on).0

      goal_is : m'.goal ≡ m.goal
      goal_is = later.turn.chosen.goal ∙ kept_goal k.game s m stayed

      rank_kept : suc result ≡ m.rank
      rank_kept = eqb-true (suc result) rank (and_parts stays (suc result == rank) on).1 ∙ sym later.rank

      into : first_into k.game Later (l.x m'.goal (suc result) index) (Some s) x ≡ Some y
      into =
          ap (λ j. first_into k.game Later (l.x j (suc result) index) (Some s) x) goal_is
          ∙ (ap (λ r. first_into k.game Later (l.x m.goal r index) (Some s) x) rank_kept
          ∙ (ap (λ i. first_into k.game Later (l.x m.goal m.rank i) (Some s) x) (sym later.index)
          ∙ waits_into k.game Later l (Some s) m x y m' later.turn later.turn.before (sym waits_is ∙ on)))

      pub waited : (out' : Assignment) → ((sets : ℕ → StateSet) (b : Before) (reply : Assignment) → MovesLead k1 Later parts sets → AreBefore k1.game Later b values → first_into k1.game Later (sets index) b x ≡ Some reply → out' ≡ reply) → out' ≡ y
      waited out' wait =
          wait (l.x m'.goal (suc result)) (Some s) y parts_lead
          (subst (λ (g : GameData). AreBefore g Later (Some s) values) (sym same.game) (record { listed = later.listed; time = later.turn.before }))
          (subst (λ (g : GameData). first_into g Later (l.x m'.goal (suc result) index) (Some s) x ≡ Some y) (sym same.game) into)
