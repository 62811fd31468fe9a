-- A turn after each play that is stood for, and what is remembered after each legal reply.
use Rattle.std.proofs.Common.{◌≡◌, ℕ, suc, ◌<◌, ◌≤◌, inl, inr, Bool, true, false, not, ◌||◌, if◌then◌else◌, List, [], ◌∷◌, length, slice_index, Some, None, is_some, refl, sym, ◌∙◌, ap, subst, arith, IsTrue}
use Rattle.std.specs.List.{list_any, list_all}
use Rattle.std.proofs.lemmas.Bool.{and_parts, and_from, or_cases, false≢true}
use Rattle.spec_model.specs.Values.{Assignment}
use Rattle.spec_model.specs.Rules.{Run}
use Rattle.spec_model.specs.Unrealizable.{NoteData}
use Rattle.spec_model.specs.Games.{GameData, inputs_of, outputs_of}
use Rattle.spec_model.specs.Steps.{Before, IsClosed, is_input, is_output, is_state, legal_output, reached}
use Rattle.spec_model.specs.Sets.{StateSet, input_into, environment_forces, IsPartOf}
use Rattle.gr1_law.specs.Layers.{goal_sets, assumption_sets}
use Rattle.gr1_law.specs.EnvLayers.{EnvLayerSets, delay}
use Rattle.gr1_law.specs.Counter.{CounterMemory, first_counter, IsGiven, IsNoted, AnsweredPlay}
use Rattle.gr1_law.specs.CounterLaws.{IsLostWith}
use Rattle.gr1_law.proofs.Chains.{in_settled}
use Rattle.gr1_law.proofs.Delays.{delay_in_next, delay-inside, delay_stays}
use Rattle.gr1_law.proofs.CounterSteps.{CounterReady, input_exists, given_input, given_leads, note_exists, stands_next}
use Rattle.gr1_law.proofs.CounterTrails.{answered}
use Rattle.strategy_parts.specs.Positions.{IsWholeBefore, IsClosedAt}
use Rattle.counterstrategy.specs.Turns.{IsTurn, IsReply}

-- a play without a state has no position
pub none_yet : (g : GameData) (e : EnvLayerSets) (h : Run) (notes : List NoteData) (b : Before) (k : CounterMemory) → AnsweredPlay g e h notes b k → is_some b ≡ false → (h ≡ []) × (notes ≡ []) × (b ≡ None) × (k ≡ first_counter)
none_yet g e h notes b k AnsweredPlay.nothing fresh = (refl, refl, refl, refl)
none_yet g e h notes b k (AnsweredPlay.more q ns c n r x y next play given output legal noted) fresh = absurd (false≢true (sym fresh))

-- nothing is denied before the first position
denied_after : (g : GameData) (e : EnvLayerSets) (h : Run) (notes : List NoteData) (b : Before) (k : CounterMemory) → AnsweredPlay g e h notes b k → k.denying ≡ true → is_some b ≡ true
denied_after g e h notes b k AnsweredPlay.nothing denying = absurd (false≢true denying)
denied_after g e h notes b k (AnsweredPlay.more q ns c n r x y next play given output legal noted) denying = refl

closed_at : (g : GameData) → IsClosed g → (b : Before) → IsWholeBefore g b → (x y : Assignment) → is_input g x ≡ true → is_output g y ≡ true → is_state g (reached g b x y) ≡ true
closed_at g closed None whole x y input output = closed.first x y input output
closed_at g closed (Some s) whole x y input output = closed.later s x y whole input output

any_grows : {X : Type 0} (p q : X → Bool) → ((x : X) → p x ≡ true → q x ≡ true) → (xs : List X) → list_any p xs ≡ true → list_any q xs ≡ true
any_grows p q grows [] e = absurd (false≢true e)
any_grows p q grows (x ∷ xs) e = elim (or_cases _ _ e) [ inl here ↦ ap (λ b. b || list_any q xs) (grows x here) | inr later ↦ from_right (q x) (any_grows p q grows xs later) ]
  where
    from_right : (a : Bool) {b : Bool} → b ≡ true → (a || b) ≡ true
    from_right true e = refl
    from_right false e = e

all_grow : {X : Type 0} (p q : X → Bool) → ((x : X) → p x ≡ true → q x ≡ true) → (xs : List X) → list_all p xs ≡ true → list_all q xs ≡ true
all_grow p q grows [] e = refl
all_grow p q grows (x ∷ xs) e = let parts = and_parts (p x) (list_all p xs) e in and_from _ _ (grows x parts.0) (all_grow p q grows xs parts.1)

implied : (a b c : Bool) → (b ≡ true → c ≡ true) → (not a || b) ≡ true → (not a || c) ≡ true
implied true b c grows e = grows e
implied false b c grows e = refl

-- what is forced into a set is forced into a greater one
environment_forces_grows : (g : GameData) (t u : StateSet) → IsPartOf t u → (b : Before) → environment_forces g t b ≡ true → environment_forces g u b ≡ true
environment_forces_grows g t u part b =
    any_grows (input_into g t b) (input_into g u b) (λ x e.
    let legal = and_parts _ _ e in
    and_from _ _ legal.0 (all_grow _ _ (λ y. implied (legal_output g b x y) _ _ (part (reached g b x y))) (outputs_of g) legal.1)) (inputs_of g)

at_most : (n r : ℕ) → (n < r → ⊥) → r ≤ n
at_most n r not_below = grind (arith, not_below)

module _ (g : GameData) (e : EnvLayerSets) (n : ℕ) (counts : ℕ → ℕ → List ℕ) (lost : IsLostWith g e n counts) where
  -- each iterate of a hold is part of the last that is kept
  in_last : (low j i q : ℕ) → low < n → j < length (goal_sets g) → i < length (assumption_sets g) → IsPartOf (e.x (suc low) j i q) (e.x (suc low) j i (slice_index (counts (suc low) j) i))
  in_last low j i q low_in j_in i_in s here =
      let count = slice_index (counts (suc low) j) i in
      let is : (r : ℕ) → e.x (suc low) j i r ≡ delay g (e.z low) (e.y (suc low) j) j i r = lost.layers.delays low j i in
      let settled = (lost.delays.each low j i low_in j_in i_in).here in
      subst (λ (t : StateSet). IsTrue (t s)) (sym (is count))
      (in_settled g (delay g (e.z low) (e.y (suc low) j) j i) (delay_in_next g (e.z low) (e.y (suc low) j) j i) (delay-inside g (e.z low) (e.y (suc low) j) j i) (delay_stays g (e.z low) (e.y (suc low) j) j i) count q
      (sym (is count) ∙ (settled ∙ is (suc count))) s (subst (λ (t : StateSet). IsTrue (t s)) (is q) here))

  pub given_fits : (b : Before) (k : CounterMemory) (r : ℕ) (x : Assignment) → IsGiven g e b k r x → is_input g x ≡ true
  given_fits b k r x given = given_input g e lost.layers n b k r x given

  module _ (h : Run) (notes : List NoteData) (b : Before) (k : CounterMemory) (play : AnsweredPlay g e h notes b k) where
    ready : CounterReady g e n b k
    ready = (answered g e lost.layers n h notes b k lost.forced play).ready

    module _ (whole : IsWholeBefore g b) where
      pub turn_with : (r : ℕ) (x : Assignment) → IsGiven g e b k r x → IsTurn g e n counts b k r x
      turn_with r x given = by_ready ready
        where
          by_ready : CounterReady g e n b k → IsTurn g e n counts b k r x
          by_ready (CounterReady.into_layer denying a forced few) =
              let low : a < r → ⊥ = λ less. given.number.none_before a less (subst (λ d. environment_forces g ((if d then e.x k.layer k.goal k.index else e.z) a) b ≡ true) (sym denying) forced) in
              record {
                given = given;
                before = whole;
                layer = λ d. let most = at_most a r low in omega (arith, few, most);
                hold = λ d. absurd (false≢true (sym denying ∙ d));
                later = λ d. absurd (false≢true (sym denying ∙ d));
                none = λ d. absurd (false≢true (sym denying ∙ d));
              }
          by_ready (CounterReady.into_hold denying low layer few goal_in index_in q forced) =
              let low_in : low < n = omega (arith, layer, few) in
              let last = slice_index (counts (suc low) k.goal) k.index in
              let above : environment_forces g (e.x k.layer k.goal k.index last) b ≡ true =
              subst (λ a. environment_forces g (e.x a k.goal k.index last) b ≡ true) (sym layer)
              (environment_forces_grows g (e.x (suc low) k.goal k.index q) (e.x (suc low) k.goal k.index last) (in_last low k.goal k.index q low_in goal_in index_in) b
              (subst (λ a. environment_forces g (e.x a k.goal k.index q) b ≡ true) layer forced)) in
              let high : last < r → ⊥ = λ less. given.number.none_before last less (subst (λ d. environment_forces g ((if d then e.x k.layer k.goal k.index else e.z) last) b ≡ true) (sym denying) above) in
              record {
                given = given;
                before = whole;
                layer = λ d. absurd (false≢true (sym d ∙ denying));
                hold = λ d. record { low = low; layer = layer; layer_in = low_in; goal_in = goal_in; index_in = index_in; few = at_most last r high };
                later = λ d. denied_after g e h notes b k play denying;
                none = λ d. subst (λ a. e.x a k.goal k.index 0 ≡ e.z 0) (sym layer) (lost.layers.delays low k.goal k.index 0 ∙ sym lost.layers.none_first);
              }

      pub turn_exists : (r : ℕ) × (x : Assignment) × IsTurn g e n counts b k r x
      turn_exists = let given = input_exists g e lost.layers n b k ready in (given.0, given.1, turn_with given.0 given.1 given.2)

      module _ (closed : IsClosed g) (r : ℕ) (x : Assignment) (given : IsGiven g e b k r x) (y : Assignment) (output : is_output g y ≡ true) (legal : legal_output g b x y ≡ true) where
        pub moves_closed : IsClosedAt g b x y
        moves_closed =
            let input = given_input g e lost.layers n b k r x given in record { input = input; output = output; state = closed_at g closed b whole x y input output }

        pub reply_with : (next : CounterMemory) → IsNoted g e k (reached g b x y) next → IsReply g e n k (reached g b x y) next
        reply_with next noted =
            let stands = stands_next g e lost.layers n b k r x given (reached g b x y) (given_leads g e lost.layers n b k r x given y output legal) ready next noted in
            record {
              noted = noted;
              state = moves_closed.state;
              low = stands.low;
              layer = stands.layer;
              layer_in = omega (arith, stands.few, stands.layer);
              goal_in = stands.goal_in;
              before_in = stands.before_in;
            }

        pub reply_exists : (next : CounterMemory) × IsReply g e n k (reached g b x y) next
        reply_exists =
            let note = note_exists g e lost.layers n b k r x given (reached g b x y) (given_leads g e lost.layers n b k r x given y output legal) in
            (note.0, reply_with note.0 note.1)
