-- What is remembered at each position of an answered play.
use Rattle.std.proofs.Common.{◌≡◌, ℕ, suc, ◌+◌, ◌<◌, ◌≤◌, ◌⊎◌, inl, inr, Bool, true, false, if◌then◌else◌, cond, List, [], ◌∷◌, ◌++◌, length, take, slice_get, count_by, Some, None, refl, sym, ◌∙◌, ap, subst, arith, IsTrue}
use Rattle.std.proofs.lemmas.Bool.{and_from, false≢true}
use Rattle.std.proofs.lemmas.List.{length_push, take-append-le, take_all}
use Rattle.std.proofs.lemmas.List.Sums.{sum_by_push}
use Rattle.spec_model.specs.Values.{Assignment}
use Rattle.spec_model.specs.Plays.{IsPlay}
use Rattle.spec_model.specs.Rules.{Run, Position, after}
use Rattle.spec_model.specs.Unrealizable.{NoteData, Shift, Deny, is_shift}
use Rattle.spec_model.specs.Games.{GameData, State}
use Rattle.spec_model.specs.GameRuns.{state_at}
use Rattle.spec_model.specs.GameRules.{last_state, before_at, rules_of_game}
use Rattle.spec_model.specs.Steps.{Before, is_output, legal_input, legal_output, reached}
use Rattle.spec_model.specs.Sets.{environment_forces}
use Rattle.spec_model.proofs.Running.{length-after, state_at-earlier, state_at-last, last_state-after}
use Rattle.gr1_law.specs.Layers.{IsLeastNumber, assumption_set}
use Rattle.gr1_law.specs.EnvLayers.{EnvLayerSets, AreEnvLayers}
use Rattle.gr1_law.specs.Counter.{CounterMemory, first_counter, targets, IsGiven, IsNoted, note_of, label_at, AnsweredPlay}
use Rattle.gr1_law.proofs.Lengthening.{with_last, with_last-here, with_last-before, slice_get-earlier, slice_get-last}
use Rattle.gr1_law.proofs.Solutions.{least-one}
use Rattle.gr1_law.proofs.CounterSteps.{CounterReady, CounterStands, CounterStep, counter_step, ready_after, given_input, given_legal, given_leads, in_iterate, stands_next}

-- After a shift the layer falls. After a denial the layer and the goal stay, where the assumption aimed at fails the rank falls, and it
-- is at most the number of the iterate that the input leads into.
pub record IsFollowed (g : GameData) (e : EnvLayerSets) (s s' : State) (k k' : CounterMemory) : Type 0 where
  pub shifts : k.denying ≡ false → k'.layer < k.layer
  pub layer : k.denying ≡ true → k'.layer ≡ k.layer
  pub goal : k.denying ≡ true → k'.goal ≡ k.goal
  pub before : k.denying ≡ true → k'.before ≡ k.index
  pub lower : k.denying ≡ true → assumption_set g k.before s ≡ false → (rank rank' : ℕ) → IsLeastNumber (λ r. IsTrue (e.x k.layer k.goal k.before r s)) rank →
      IsLeastNumber (λ r. IsTrue (e.x k'.layer k'.goal k'.before r s')) rank' → rank' < rank
  pub reaches : k.denying ≡ true → (r : ℕ) (x : Assignment) → IsGiven g e (Some s) k r x → (rank' : ℕ) → IsLeastNumber (λ r. IsTrue (e.x k'.layer k'.goal k'.before r s')) rank' → rank' ≤ r

-- what is remembered at each position, the last being the one at the end
pub record CounterTrail (g : GameData) (e : EnvLayerSets) (n : ℕ) (h : Run) (notes : List NoteData) (k : CounterMemory) : Type 0 where
  pub memory : ℕ → CounterMemory
  pub stands : (t : ℕ) → t < length h → CounterStands g e n (state_at g h t) (memory t)
  pub noted : (t : ℕ) → t < length h → slice_get notes t ≡ Some (note_of g (memory t))
  pub follows : (t : ℕ) → suc t < length h → IsFollowed g e (state_at g h t) (state_at g h (suc t)) (memory t) (memory (suc t))
  pub last : (t : ℕ) → suc t ≡ length h → memory t ≡ k
  pub played : (t : ℕ) → t < length h → AnsweredPlay g e (take (suc t) h) (take (suc t) notes) (Some (state_at g h t)) (memory t)

-- an answered play is a play, and its end is known
pub record Answered (g : GameData) (e : EnvLayerSets) (n : ℕ) (h : Run) (notes : List NoteData) (b : Before) (k : CounterMemory) : Type 0 where
  pub state : b ≡ last_state g h
  pub ready : CounterReady g e n b k
  pub trail : CounterTrail g e n h notes k
  pub legal : IsPlay (rules_of_game g) h
  pub counted : length notes ≡ length h

module _ (g : GameData) (e : EnvLayerSets) (of : AreEnvLayers g e) (n : ℕ) where
  module _ (s : State) (k : CounterMemory) (stands : CounterStands g e n s k) (r : ℕ) (x : Assignment) (given : IsGiven g e (Some s) k r x) where
    -- where the assumption aimed at fails, a lower iterate than the state's can be forced, and the input leads into the first that can be
    pub given_lower : k.denying ≡ true → assumption_set g k.before s ≡ false → r < stands.rank
    given_lower denying fails = by_step (counter_step g e of n s k stands)
      where
        by_step : CounterStep g e s k stands.low stands.rank → r < stands.rank
        by_step (CounterStep.shift shifts down) = absurd (false≢true (sym shifts ∙ denying))
        by_step (CounterStep.met denying' holds aims q on) = absurd (false≢true (sym fails ∙ holds))
        by_step (CounterStep.missed denying' aims q is on) =
            let number_low : q < r → ⊥ = λ less. given.number.none_before q less (subst (λ (d : Bool). environment_forces g ((if d then e.x k.layer k.goal k.index else e.z) q) (Some s) ≡ true) (sym denying) on) in
            grind (arith, number_low, is)

    -- where the goal holds, so can the layer below
    pub given_below : k.denying ≡ false → r < k.layer
    given_below shifting = by_step (counter_step g e of n s k stands)
      where
        by_step : CounterStep g e s k stands.low stands.rank → r < k.layer
        by_step (CounterStep.shift shifts down) =
            let number_low : stands.low < r → ⊥ = λ less. given.number.none_before stands.low less (subst (λ (d : Bool). environment_forces g ((if d then e.x k.layer k.goal k.index else e.z) stands.low) (Some s) ≡ true) (sym shifting) down) in
            grind (arith, number_low, stands.layer)
        by_step (CounterStep.met denying holds aims q on) = absurd (false≢true (sym shifting ∙ denying))
        by_step (CounterStep.missed denying aims q is on) = absurd (false≢true (sym shifting ∙ denying))

    module _ (s' : State) (led : IsTrue (targets e k r s')) (k' : CounterMemory) (noted : IsNoted g e k s' k') where
      -- the new state is in the iterate
      reaches : k.denying ≡ true → (rank' : ℕ) → IsLeastNumber (λ r. IsTrue (e.x k'.layer k'.goal k'.before r s')) rank' → rank' ≤ r
      reaches denying rank' least' =
          let same = noted.stays denying in
          let here : IsTrue (e.x k'.layer k'.goal k'.before r s') =
          subst (λ (a : ℕ). IsTrue (e.x a k'.goal k'.before r s')) (sym same.0)
          (subst (λ (j : ℕ). IsTrue (e.x k.layer j k'.before r s')) (sym same.1)
          (subst (λ (i : ℕ). IsTrue (e.x k.layer k.goal i r s')) (sym same.2) (in_iterate g e of n (Some s) k r x given s' led denying))) in
          let rank_low : r < rank' → ⊥ = λ less. least'.none_before r less here in
          grind (arith, rank_low)

      layer_falls : k.denying ≡ false → k'.layer < k.layer
      layer_falls shifting =
          let here : IsTrue (e.z r s') = subst (λ (d : Bool). IsTrue ((if d then e.x k.layer k.goal k.index else e.z) r s')) shifting led in
          let at_most : r < k'.layer → ⊥ = λ less. (noted.anew shifting).0.none_before r less here in
          let below = given_below shifting in
          grind (arith, at_most, below)

      pub follows_on : IsFollowed g e s s' k k'
      follows_on =
          record {
            shifts = layer_falls;
            layer = λ denying. (noted.stays denying).0;
            goal = λ denying. (noted.stays denying).1;
            before = λ denying. (noted.stays denying).2;
            lower = λ denying fails rank rank' least least'.
                let is : rank ≡ stands.rank = least-one (λ r. IsTrue (e.x k.layer k.goal k.before r s)) rank stands.rank least stands.ranked in
                let most = reaches denying rank' least' in
                let less = given_lower denying fails in
                omega (arith, is, most, less);
            reaches = λ denying r' x' given' rank' least'.
                let is : r' ≡ r = least-one (λ r. IsTrue (environment_forces g (targets e k r) (Some s))) r' r given'.number given.number in
                let most = reaches denying rank' least' in
                omega (arith, is, most);
          }

  module _ (h : Run) (notes : List NoteData) (b : Before) (k : CounterMemory) (r : ℕ) (x y : Assignment) (k' : CounterMemory) (play : AnsweredPlay g e h notes b k) (answered : Answered g e n h notes b k) (given : IsGiven g e b k r x) (output : is_output g y ≡ true) (legal : legal_output g b x y ≡ true) (noted : IsNoted g e k (reached g b x y) k') where
    abbrev p : Position
    p = record { input = x; output = y }

    memory : ℕ → CounterMemory
    memory = with_last answered.trail.memory (length h) k'

    memory-here : memory (length h) ≡ k'
    unfolding memory
    memory-here = with_last-here answered.trail.memory (length h) k'

    memory-before : (t : ℕ) → t < length h → memory t ≡ answered.trail.memory t
    unfolding memory
    memory-before t below = with_last-before answered.trail.memory (length h) k' t below

    new_state : state_at g (after h x y) (length h) ≡ reached g b x y
    new_state = state_at-last g h p ∙ ap (λ (b : Before). reached g b x y) (sym answered.state)

    led : IsTrue (targets e k r (reached g b x y))
    led = given_leads g e of n b k r x given y output legal

    new_stands : CounterStands g e n (reached g b x y) k'
    new_stands = stands_next g e of n b k r x given (reached g b x y) led answered.ready k' noted

    earlier_or_last : (t : ℕ) → t < suc (length h) → (t < length h) ⊎ (t ≡ length h)
    earlier_or_last t below = grind arith

    place : (t : ℕ) → t < length (after h x y) → (t < length h) ⊎ (t ≡ length h)
    place t below = earlier_or_last t (subst (λ (n : ℕ). t < n) (length-after h p) below)

    stands_at : (t : ℕ) → (t < length h) ⊎ (t ≡ length h) → CounterStands g e n (state_at g (after h x y) t) (memory t)
    stands_at t (inl less) =
        subst (λ (s : State). CounterStands g e n s (memory t)) (sym (state_at-earlier g h p t less))
        (subst (CounterStands g e n (state_at g h t)) (sym (memory-before t less)) (answered.trail.stands t less))
    stands_at t (inr same) =
        subst (λ (t : ℕ). CounterStands g e n (state_at g (after h x y) t) (memory t)) (sym same)
        (subst (λ (s : State). CounterStands g e n s (memory (length h))) (sym new_state)
        (subst (CounterStands g e n (reached g b x y)) (sym memory-here) new_stands))

    noted_at : (t : ℕ) → (t < length h) ⊎ (t ≡ length h) → slice_get (notes ++ note_of g k' ∷ []) t ≡ Some (note_of g (memory t))
    noted_at t (inl less) =
        slice_get-earlier notes (note_of g k') t (omega (arith, less, answered.counted))
        ∙ (answered.trail.noted t less
        ∙ ap (λ (k : CounterMemory). Some (note_of g k)) (sym (memory-before t less)))
    noted_at t (inr same) =
        ap (slice_get (notes ++ note_of g k' ∷ [])) (same ∙ sym answered.counted)
        ∙ (slice_get-last notes (note_of g k')
        ∙ ap (λ (k : CounterMemory). Some (note_of g k)) (sym memory-here ∙ ap memory (sym same)))

    -- the move from the run's last position
    last_move : (t : ℕ) → suc t ≡ length h → IsFollowed g e (state_at g h t) (reached g b x y) (answered.trail.memory t) k'
    last_move t same =
        let is : b ≡ Some (state_at g h t) = answered.state ∙ ap (before_at g h) (sym same) in
        let last = answered.trail.last t same in
        subst (λ (k : CounterMemory). IsFollowed g e (state_at g h t) (reached g b x y) k k') (sym last)
        (follows_on (state_at g h t) k (subst (CounterStands g e n (state_at g h t)) last (answered.trail.stands t (omega (arith, same)))) r x (subst (λ (b : Before). IsGiven g e b k r x) is given) (reached g b x y) led k' noted)

    follows_at : (t : ℕ) → (suc t < length h) ⊎ (suc t ≡ length h) → IsFollowed g e (state_at g (after h x y) t) (state_at g (after h x y) (suc t)) (memory t) (memory (suc t))
    follows_at t (inl less) =
        let less' : t < length h = omega (arith, less) in
        subst (λ (s : State). IsFollowed g e s (state_at g (after h x y) (suc t)) (memory t) (memory (suc t))) (sym (state_at-earlier g h p t less'))
        (subst (λ (s : State). IsFollowed g e (state_at g h t) s (memory t) (memory (suc t))) (sym (state_at-earlier g h p (suc t) less))
        (subst (λ (k : CounterMemory). IsFollowed g e (state_at g h t) (state_at g h (suc t)) k (memory (suc t))) (sym (memory-before t less'))
        (subst (λ (k : CounterMemory). IsFollowed g e (state_at g h t) (state_at g h (suc t)) (answered.trail.memory t) k) (sym (memory-before (suc t) less))
        (answered.trail.follows t less))))
    follows_at t (inr same) =
        let less' : t < length h = omega (arith, same) in
        subst (λ (s : State). IsFollowed g e s (state_at g (after h x y) (suc t)) (memory t) (memory (suc t))) (sym (state_at-earlier g h p t less'))
        (subst (λ (q : ℕ). IsFollowed g e (state_at g h t) (state_at g (after h x y) q) (memory t) (memory q)) (sym same)
        (subst (λ (s : State). IsFollowed g e (state_at g h t) s (memory t) (memory (length h))) (sym new_state)
        (subst (λ (k : CounterMemory). IsFollowed g e (state_at g h t) (reached g b x y) k (memory (length h))) (sym (memory-before t less'))
        (subst (λ (k : CounterMemory). IsFollowed g e (state_at g h t) (reached g b x y) (answered.trail.memory t) k) (sym memory-here)
        (last_move t same)))))

    played_at : (t : ℕ) → (t < length h) ⊎ (t ≡ length h) → AnsweredPlay g e (take (suc t) (after h x y)) (take (suc t) (notes ++ note_of g k' ∷ [])) (Some (state_at g (after h x y) t)) (memory t)
    played_at t (inl less) =
        subst (λ (h' : Run). AnsweredPlay g e h' (take (suc t) (notes ++ note_of g k' ∷ [])) (Some (state_at g (after h x y) t)) (memory t)) (sym (take-append-le (suc t) h (p ∷ []) (omega arith)))
        (subst (λ (notes' : List NoteData). AnsweredPlay g e (take (suc t) h) notes' (Some (state_at g (after h x y) t)) (memory t)) (sym (take-append-le (suc t) notes (note_of g k' ∷ []) (omega (arith, less, answered.counted))))
        (subst (λ (s : State). AnsweredPlay g e (take (suc t) h) (take (suc t) notes) (Some s) (memory t)) (sym (state_at-earlier g h p t less))
        (subst (AnsweredPlay g e (take (suc t) h) (take (suc t) notes) (Some (state_at g h t))) (sym (memory-before t less)) (answered.trail.played t less))))
    played_at t (inr same) =
        subst (λ (t : ℕ). AnsweredPlay g e (take (suc t) (after h x y)) (take (suc t) (notes ++ note_of g k' ∷ [])) (Some (state_at g (after h x y) t)) (memory t)) (sym same)
        (subst (λ (h' : Run). AnsweredPlay g e h' (take (suc (length h)) (notes ++ note_of g k' ∷ [])) (Some (state_at g (after h x y) (length h))) (memory (length h))) (sym (take_all (suc (length h)) (after h x y) (omega (arith, length-after h p))))
        (subst (λ (notes' : List NoteData). AnsweredPlay g e (after h x y) notes' (Some (state_at g (after h x y) (length h))) (memory (length h)))
        (sym (take_all (suc (length h)) (notes ++ note_of g k' ∷ []) (omega (arith, length_push notes (note_of g k'), answered.counted))))
        (subst (λ (s : State). AnsweredPlay g e (after h x y) (notes ++ note_of g k' ∷ []) (Some s) (memory (length h))) (sym new_state)
        (subst (AnsweredPlay g e (after h x y) (notes ++ note_of g k' ∷ []) (Some (reached g b x y))) (sym memory-here) (AnsweredPlay.more h notes b k r x y k' play given output legal noted)))))

    longer : Answered g e n (after h x y) (notes ++ note_of g k' ∷ []) (Some (reached g b x y)) k'
    longer =
        record {
          state = ap (λ (b : Before). Some (reached g b x y)) answered.state ∙ sym (last_state-after g h x y);
          ready = ready_after g e of n (reached g b x y) k' new_stands;
          trail = record {
            memory = memory;
            stands = λ t below. stands_at t (place t below);
            noted = λ t below. noted_at t (place t below);
            follows = λ t below. follows_at t (place (suc t) below);
            last = λ t same.
                let is : t ≡ length h = omega (arith, same, length-after h p) in
                ap memory is ∙ memory-here;
            played = λ t below. played_at t (place t below);
          };
          legal = IsPlay.more h x y answered.legal
              (and_from _ _ (given_input g e of n b k r x given) (subst (λ (b : Before). legal_input g b x ≡ true) answered.state (given_legal g e of n b k r x given)))
              (and_from _ _ output (subst (λ (b : Before). legal_output g b x y ≡ true) answered.state legal));
          counted = omega (arith, length_push notes (note_of g k'), length-after h p, answered.counted);
        }

  pub answered : (h : Run) (notes : List NoteData) (b : Before) (k : CounterMemory) → environment_forces g (e.z n) None ≡ true → AnsweredPlay g e h notes b k → Answered g e n h notes b k
  answered _ _ _ _ start AnsweredPlay.nothing =
      record {
        state = refl;
        ready = CounterReady.into_layer refl n start (omega arith);
        trail = record {
          memory = λ t. first_counter;
          stands = λ t below. absurd (omega arith);
          noted = λ t below. absurd (omega arith);
          follows = λ t below. absurd (omega arith);
          last = λ t same. refl;
          played = λ t below. absurd (omega arith);
        };
        legal = IsPlay.nothing;
        counted = refl;
      }
  answered _ _ _ _ start (AnsweredPlay.more h notes b k r x y k' play given output legal noted) = longer h notes b k r x y k' play (answered h notes b k start play) given output legal noted

  -- what is remembered at the end tells of the last state
  pub stands_at_end : (h : Run) (notes : List NoteData) (b : Before) (k : CounterMemory) → environment_forces g (e.z n) None ≡ true → AnsweredPlay g e h notes b k → (s : State) → b ≡ Some s → CounterStands g e n s k
  stands_at_end _ _ _ _ start AnsweredPlay.nothing s is = absurd (let none : None ≡ Some s = is in cc)
  stands_at_end _ _ _ _ start (AnsweredPlay.more h notes b k r x y k' play given output legal noted) s is =
      let same : reached g b x y ≡ s = let e : Some (reached g b x y) ≡ Some s = is in cc in
      subst (λ (s : State). CounterStands g e n s k') same
      (stands_next g e of n b k r x given (reached g b x y) (given_leads g e of n b k r x given y output legal) (answered h notes b k start play).ready k' noted)
