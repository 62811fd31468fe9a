-- The first input that forces the next state into a set, as the calls on moves find it.
use Rattle.std.proofs.Common.{◌≡◌, ℕ, ◌+◌, ◌≤◌, inl, inr, Bool, true, false, ◌&&◌, if◌then◌else◌, List, find, Some, None, sym, ap, ◌∙◌, subst, arith}
use Rattle.std.proofs.lemmas.Bool.{false≢true}
use Rattle.spec_model.specs.declared.value.Value.{Value}
use Rattle.spec_model.specs.Values.{Assignment}
use Rattle.spec_model.specs.Games.{GameData, inputs_of}
use Rattle.spec_model.specs.Steps.{Before, is_input}
use Rattle.spec_model.specs.Sets.{StateSet, input_into}
use Rattle.spec_model.proofs.Listed.{inputs_fit}
use Rattle.regions.specs.declared.types.When.{When}
use Rattle.regions.specs.Rules.{inputs_into, is_time, AreBefore, Found}
use Rattle.regions.specs.Kept.{Kept, Move, Inputs, HasMove, GivesInputs, IsHeldAs, IsExact, Stays, IsSameGame}
use Rattle.regions.proofs.Holding.{choice_is}
use Rattle.gr1_law.specs.EnvLayers.{EnvLayerSets}
use Rattle.gr1_law.specs.Counter.{CounterMemory, targets, IsGiven}
use Rattle.strategy_parts.proofs.Holdings.{held_stays, has_move}
use Rattle.strategy_parts.proofs.Reaching.{next_or_here}
use Rattle.strategy_parts.proofs.Searching.{find-same, every_from, none_found}
use Rattle.counterstrategy.specs.Forced.{first_forcing, IsFirstForced}

module _ (g : GameData) (when : When) (b : Before) (time : is_time g when b ≡ true) where
  forcing_is : (t : StateSet) → first_forcing g when t b ≡ find (input_into g t b) (inputs_of g)
  forcing_is t = find-same (inputs_into g when t b) (input_into g t b) (inputs_of g) (every_from (λ x. is_input g x ≡ true) (λ x. inputs_into g when t b x ≡ input_into g t b x) same (inputs_of g) (inputs_fit g))
    where
      same : (x : Assignment) → is_input g x ≡ true → inputs_into g when t b x ≡ input_into g t b x
      same x fits = ap (λ d. d && (is_input g x && input_into g t b x)) time ∙ ap (λ d. d && input_into g t b x) fits

  -- the input that is given is the first that forces the state into the first of the targets
  pub given_first : (e : EnvLayerSets) (k : CounterMemory) (r : ℕ) (x : Assignment) → IsGiven g e b k r x → IsFirstForced g when (targets e k) b r x
  given_first e k r x given =
      record {
        none_before = λ i less. forcing_is (targets e k i) ∙ none_found (input_into g (targets e k i) b) (inputs_of g) (given.number.none_before i less);
        here = forcing_is (targets e k r) ∙ given.input;
      }

  pub first_into_layer : (e : EnvLayerSets) (k : CounterMemory) (r : ℕ) (x : Assignment) → IsGiven g e b k r x → k.denying ≡ false → IsFirstForced g when e.z b r x
  first_into_layer e k r x given denying = subst (λ d. IsFirstForced g when (if d then e.x k.layer k.goal k.index else e.z) b r x) denying (given_first e k r x given)

  pub first_into_hold : (e : EnvLayerSets) (k : CounterMemory) (r : ℕ) (x : Assignment) → IsGiven g e b k r x → k.denying ≡ true → IsFirstForced g when (e.x k.layer k.goal k.index) b r x
  first_into_hold e k r x given denying = subst (λ d. IsFirstForced g when (if d then e.x k.layer k.goal k.index else e.z) b r x) denying (given_first e k r x given)

-- ---- one of several sets

module _ (g : GameData) (when : When) (sets : ℕ → StateSet) (b : Before) (r : ℕ) (x : Assignment) (is : IsFirstForced g when sets b r x) (n : ℕ) (le : n ≤ r) (written : Assignment) where
  pub not_before : (answer : Bool) → answer ≡ false → Found answer written (first_forcing g when (sets n) b) → n + 1 ≤ r
  not_before true not_so found = absurd (false≢true (sym not_so))
  not_before false not_so found =
      elim (next_or_here n r le) [
        | inl more ↦ more
        | inr here ↦ absurd (let e : Some x ≡ None = sym is.here ∙ (ap (λ (i : ℕ). first_forcing g when (sets i) b) (sym here) ∙ found) in cc)
      ]

  pub is_forced : (answer : Bool) → answer ≡ true → Found answer written (first_forcing g when (sets n) b) → (n ≡ r) × (written ≡ x)
  is_forced false so found = absurd (false≢true so)
  is_forced true so found =
      elim (next_or_here n r le) [
        | inl more ↦ absurd (let e : Some written ≡ None = sym found ∙ is.none_before n (omega (arith, more)) in cc)
        | inr here ↦ (here, (let e : Some written ≡ Some x = sym found ∙ (ap (λ (i : ℕ). first_forcing g when (sets i) b) here ∙ is.here) in cc))
      ]

-- ---- a move into one of them

module _ {R M : Type 0} (first k : Kept R M) (exact : IsExact k) (stays : Stays first k) (same : IsSameGame first k) (m : M) where
  -- a call finds the first input of moves that were held as those into a set
  pub found_by : (when : When) (t : StateSet) (b : Before) (values : List Value) (written : Assignment) (answer : Bool) →
      ((when : When) (t : StateSet) (b : Before) → k.choice m ≡ Inputs when t → AreBefore k.game when b values → Found answer written (find (inputs_into k.game when t b) (inputs_of k.game))) →
      IsHeldAs first (Move m) (Inputs when t) → AreBefore first.game when b values → Found answer written (first_forcing first.game when t b)
  found_by when t b values written answer call held before =
      subst (λ (g : GameData). Found answer written (first_forcing g when t b)) same.game
      (call when t b (choice_is k m (Inputs when t) exact (held_stays first k (Move m) (Inputs when t) stays held))
      (subst (λ (g : GameData). AreBefore g when b values) (sym same.game) before))

  pub gives : (when : When) (t : StateSet) → IsHeldAs first (Move m) (Inputs when t) → GivesInputs k m
  gives when t held = (when, t, choice_is k m (Inputs when t) exact (held_stays first k (Move m) (Inputs when t) stays held))

  pub move_held : (when : When) (t : StateSet) → IsHeldAs first (Move m) (Inputs when t) → HasMove k m
  move_held when t held = has_move k m (Inputs when t) (held_stays first k (Move m) (Inputs when t) stays held)
