-- The first of several sets that a legal output leads into, and the first region that has a state.
use Rattle.std.proofs.Common.{◌≡◌, ℕ, ◌+◌, ◌<◌, ◌≤◌, inl, inr, Bool, true, false, List, length, get_or, find, Option, Some, None, ap, sym, ◌∙◌, subst, arith}
use Rattle.std.proofs.lemmas.Bool.{false≢true}
use Rattle.spec_model.specs.declared.value.Value.{Value}
use Rattle.spec_model.specs.Values.{Assignment}
use Rattle.spec_model.specs.Games.{GameData, State, listed, outputs_of}
use Rattle.spec_model.specs.Steps.{Before, is_state}
use Rattle.spec_model.specs.Sets.{StateSet}
use Rattle.regions.specs.declared.types.When.{When}
use Rattle.regions.specs.Kept.{Kept, Move, Outputs, HasMove, GivesOutputs, IsExact, Stays, IsSameGame}
use Rattle.regions.specs.Rules.{AreBefore, Found, outputs_into}
use Rattle.regions.proofs.Holding.{choice_is}
use Rattle.gr1_law.specs.Layers.{goal_set}
use Rattle.gr1_law.specs.Choice.{Memory}
use Rattle.controller.specs.declared.aims.Aim.{Aim}
use Rattle.strategy_parts.specs.Owned.{RegionsAre}
use Rattle.controller.specs.Aims.{AimsLead, LeadSomewhere}
use Rattle.controller.specs.Turns.{first_into, IsFirstReached}
use Rattle.strategy_parts.proofs.Holdings.{nothing_done, same_game, held_stays, has_move}
use Rattle.strategy_parts.proofs.Reaching.{next_or_here, has_at}
use Rattle.controller.proofs.Holdings.{gives, aim_at}

-- what is written is what there is
pub found_only : {o : Option Assignment} (answer : Bool) (out reply : Assignment) → Found answer out o → o ≡ Some reply → out ≡ reply
found_only true out reply found is = let e : Some out ≡ Some reply = sym found ∙ is in cc
found_only false out reply found is = absurd (let e : None ≡ Some reply = sym found ∙ is in cc)

module _ (g : GameData) (when : When) (y : ℕ → StateSet) (b : Before) (x : Assignment) (r : ℕ) (reply : Assignment) (is : IsFirstReached g when y b x r reply) (n : ℕ) (le : n ≤ r) (out : Assignment) where
  pub not_before : (answer : Bool) → answer ≡ false → Found answer out (first_into g when (y n) b x) → n + 1 ≤ r
  not_before true not_so found = absurd (false≢true (sym not_so))
  not_before false not_so found =
      elim (next_or_here n r le) [
        | inl more ↦ more
        | inr here ↦ absurd (let e : Some reply ≡ None = sym is.here ∙ (ap (λ (i : ℕ). first_into g when (y i) b x) (sym here) ∙ found) in cc)
      ]

  pub is_reached : (answer : Bool) → answer ≡ true → Found answer out (first_into g when (y n) b x) → (n ≡ r) × (out ≡ reply)
  is_reached false so found = absurd (false≢true so)
  is_reached true so found =
      elim (next_or_here n r le) [
        | inl more ↦ absurd (let e : Some out ≡ None = sym found ∙ is.none_before n (omega (arith, more)) in cc)
        | inr here ↦ (here, (let e : Some out ≡ Some reply = sym found ∙ (ap (λ (i : ℕ). first_into g when (y i) b x) here ∙ is.here) in cc))
      ]

module _ {G R M : Type 0} (first k : Kept R M) (exact : IsExact k) (stays : Stays first k) (same : IsSameGame first k) where
  module _ (aims : List (Aim G R M)) (n : ℕ) (below : n < length aims) (d : Aim G R M) where
    abbrev m : M
    m = (get_or aims n d).layer

    pub aim_held : LeadSomewhere first aims → HasMove k m
    aim_held some = has_move k m (Outputs some.0 (some.1 n)) (held_stays first k (Move m) (Outputs some.0 (some.1 n)) stays (aim_at first some.0 aims some.1 some.2 some.3 n below d).0)

    pub aim_gives : LeadSomewhere first aims → GivesOutputs k m
    aim_gives some =
        gives k m some.0 (some.1 n) exact (held_stays first k (Move m) (Outputs some.0 (some.1 n)) stays
        (aim_at first some.0 aims some.1 some.2 some.3 n below d).0)

    pub found_at : (when : When) (y : ℕ → StateSet) (x : ℕ → ℕ → StateSet) (b : Before) (values : List Value) (input out : Assignment) (answer : Bool) →
        ((when : When) (t : StateSet) (b : Before) → k.choice m ≡ Outputs when t → AreBefore k.game when b values → Found answer out (find (outputs_into k.game when t b input) (outputs_of k.game))) →
        AimsLead first when aims y x → AreBefore first.game when b values → Found answer out (first_into first.game when (y n) b input)
    found_at when y x b values input out answer call lead before =
        subst (λ (g : GameData). Found answer out (first_into g when (y n) b input)) same.game
        (call when (y n) b
        (choice_is k m (Outputs when (y n)) exact (held_stays first k (Move m) (Outputs when (y n)) stays
        (aim_at first when aims y x lead n below d).0))
        (subst (λ (g : GameData). AreBefore g when b values) (sym same.game) before))

-- whether the goal remembered holds
pub has_goal : {R M : Type 0} (k : Kept R M) → IsExact k → (rs : List R) (n : ℕ) → n < length rs → (r : R) → r ≡ get_or rs n r → (s : State) (m : Memory) → m.goal ≡ n → (values : List Value) (answer : Bool) →
    ((s : State) → is_state k.game s ≡ true → listed s ≡ values → answer ≡ k.set r s) →
    RegionsAre k rs (goal_set k.game) → is_state k.game s ≡ true → listed s ≡ values → answer ≡ goal_set k.game m.goal s
has_goal k exact rs n below r is s m goal_is values answer call are inside lists =
    has_at k k exact (nothing_done k) (same_game k) rs n below r is (goal_set k.game) s values answer call are inside lists ∙ ap (λ j. goal_set k.game j s) (sym goal_is)
