-- An answered play beats the system, and goes on; so the environment wins to every depth.
use Rattle.std.proofs.Common.{◌≡◌, ℕ, zero, suc, ◌≤◌, Bool, true, false, not, if◌then◌else◌, List, [], ◌∷◌, ◌++◌, slice_get, count_by, Some, None, refl, sym, ◌∙◌, ap, subst, arith, IsTrue}
use Rattle.std.proofs.lemmas.Bool.{and_parts, and_from, false≢true}
use Rattle.spec_model.specs.declared.game.Label.{Label}
use Rattle.spec_model.specs.Values.{Assignment}
use Rattle.spec_model.specs.Rules.{Run, RecurringGoal, after}
use Rattle.spec_model.specs.Unrealizable.{NoteData, Deny, is_shift, goal_of, Beaten, Beats, IsUnrealizable}
use Rattle.spec_model.specs.Games.{GameData, State}
use Rattle.spec_model.specs.GameRuns.{state_at, goals_in}
use Rattle.spec_model.specs.GameRules.{last_state, rules_of_game}
use Rattle.spec_model.specs.Steps.{Before, is_output, legal_input, legal_output, reached}
use Rattle.spec_model.specs.WellMade.{WellMade}
use Rattle.gr1_law.specs.Layers.{IsLeastNumber, goal_set, assumption_set}
use Rattle.gr1_law.specs.EnvLayers.{EnvLayerSets, denial_count}
use Rattle.gr1_law.specs.Counter.{CounterMemory, first_counter, next_assumption, IsGiven, IsNoted, note_of, label_at, AnsweredPlay}
use Rattle.gr1_law.specs.CounterLaws.{LabelsDiffer, IsLostWith, AnsweredPlayBeats, AnswerIsOne, DenialsLower}
use Rattle.gr1_law.proofs.Solutions.{least-one}
use Rattle.gr1_law.proofs.CounterSteps.{input_exists, given_input, given_legal, given_leads, note_exists}
use Rattle.gr1_law.proofs.CounterTrails.{Answered, answered}
use Rattle.gr1_law.proofs.CounterRounds as rounds
use Rattle.gr1_law.proofs.Following.{rank_at, ranked_at, followed, denials_fall}

module _ (g : GameData) (made : WellMade g) (differ : LabelsDiffer g) (e : EnvLayerSets) (n : ℕ) (counts : ℕ → ℕ → List ℕ) (lost : IsLostWith g e n counts) where
  module _ (h : Run) (notes : List NoteData) (b : Before) (k : CounterMemory) (end : Answered g e n h notes b k) where
    beaten : Beaten (rules_of_game g) n (denial_count g n counts) h notes
    beaten = rounds.beaten g n (denial_count g n counts) counts h notes end.trail.memory (rank_at g e lost.layers n h notes k end.trail) (followed g e lost.layers n counts lost.delays h notes k end.trail end.counted) made differ (omega arith)

    pub beats_on : AnsweredPlayBeats g e n (denial_count g n counts) h notes b k
    beats_on =
        record {
          legal = end.legal;
          state = end.state;
          beaten = beaten;
          goes_on = input_exists g e lost.layers n b k end.ready;
          input = λ r x given. (given_input g e lost.layers n b k r x given, given_legal g e lost.layers n b k r x given);
          answered = λ r x y given output legal. note_exists g e lost.layers n b k r x given (reached g b x y) (given_leads g e lost.layers n b k r x given y output legal);
        }

  pub play_beats : (h : Run) (notes : List NoteData) (b : Before) (k : CounterMemory) → AnsweredPlay g e h notes b k → AnsweredPlayBeats g e n (denial_count g n counts) h notes b k
  play_beats h notes b k play = beats_on h notes b k (answered g e lost.layers n h notes b k lost.forced play)

  beats : (depth : ℕ) (h : Run) (notes : List NoteData) (b : Before) (k : CounterMemory) → AnsweredPlay g e h notes b k → Beats (rules_of_game g) n (denial_count g n counts) h notes depth
  beats zero h notes b k play = tt
  beats (suc depth) h notes b k play =
      let on = play_beats h notes b k play in
      let r = on.goes_on.0 in
      let x = on.goes_on.1 in
      let given = on.goes_on.2 in
      let input = on.input r x given in (
        x,
        and_from _ _ input.0 (subst (λ (b : Before). legal_input g b x ≡ true) on.state input.1),
        λ y legal.
            let parts = and_parts (is_output g y) (legal_output g (last_state g h) x y) legal in
            let legal' = subst (λ (b : Before). legal_output g b x y ≡ true) (sym on.state) parts.1 in
            let reply = on.answered r x y given parts.0 legal' in
            let longer = AnsweredPlay.more h notes b k r x y reply.0 play given parts.0 legal' reply.1 in (
              note_of g reply.0,
              (play_beats (after h x y) (notes ++ note_of g reply.0 ∷ []) (Some (reached g b x y)) reply.0 longer).beaten,
              beats depth (after h x y) (notes ++ note_of g reply.0 ∷ []) (Some (reached g b x y)) reply.0 longer,
            ),
      )

  pub unrealizable : IsUnrealizable (rules_of_game g) n (denial_count g n counts)
  unrealizable = record { at_least_one = omega arith; beats = λ depth. beats depth [] [] None first_counter AnsweredPlay.nothing }

-- ---- the potential

pub remembered : (g : GameData) → DenialsLower g
remembered g e n counts lost h notes b k play =
    let end = answered g e lost.layers n h notes b k lost.forced play in
    record {
      memory = end.trail.memory;
      rank = rank_at g e lost.layers n h notes k end.trail;
      answered = end.trail.played;
      ranked = ranked_at g e lost.layers n h notes k end.trail;
      falls = denials_fall g e lost.layers n counts lost.delays h notes k end.trail end.counted;
    }

-- ---- the choice is determined

memory_of : (denying : Bool) (layer goal before index : ℕ) → CounterMemory
memory_of denying layer goal before index = record { denying = denying; layer = layer; goal = goal; before = before; index = index }

module _ (g : GameData) (e : EnvLayerSets) where
  given-one : (b : Before) (k : CounterMemory) (r r' : ℕ) (x x' : Assignment) → IsGiven g e b k r x → IsGiven g e b k r' x' → (r ≡ r') × (x ≡ x')
  given-one b k r r' x x' given given' =
      let numbers = least-one _ r r' given.number given'.number in
      let moved = subst (λ (r : ℕ). IsGiven g e b k r x) numbers given in
      let inputs : Some x ≡ Some x' = sym moved.input ∙ given'.input in
      (numbers, cc)

  -- the layer, the goal and the assumption aimed at
  aims-one : (k : CounterMemory) (s : State) (k' k'' : CounterMemory) → IsNoted g e k s k' → IsNoted g e k s k'' → (k'.layer ≡ k''.layer) × (k'.goal ≡ k''.goal) × (k'.before ≡ k''.before)
  aims-one k s k' k'' noted noted' = at k.denying refl
    where
      at : (d : Bool) → k.denying ≡ d → (k'.layer ≡ k''.layer) × (k'.goal ≡ k''.goal) × (k'.before ≡ k''.before)
      at true is = let a = noted.stays is in let b = noted'.stays is in (a.0 ∙ sym b.0, a.1 ∙ sym b.1, a.2 ∙ sym b.2)
      at false is =
          let a = noted.anew is in
          let b = noted'.anew is in
          let layers : k'.layer ≡ k''.layer = least-one _ k'.layer k''.layer a.0 b.0 in (
            layers,
            least-one (λ j. IsTrue (e.y k''.layer j s)) k'.goal k''.goal (subst (λ (l : ℕ). IsLeastNumber (λ j. IsTrue (e.y l j s)) k'.goal) layers a.1) b.1,
            a.2 ∙ sym b.2,
          )

  noted-one : (k : CounterMemory) (s : State) (k' k'' : CounterMemory) → IsNoted g e k s k' → IsNoted g e k s k'' → k' ≡ k''
  unfolding memory_of
  noted-one k s k' k'' noted noted' =
      let aims = aims-one k s k' k'' noted noted' in
      let denies : k'.denying ≡ k''.denying = noted.denying ∙ (ap (λ (j : ℕ). not (goal_set g j s)) aims.1 ∙ sym noted'.denying) in
      let indices : k'.index ≡ k''.index = noted.index ∙ (ap (λ (i : ℕ). if assumption_set g i s then next_assumption g i else i) aims.2 ∙ sym noted'.index) in
      ap (λ (d : Bool). memory_of d k'.layer k'.goal k'.before k'.index) denies
      ∙ (ap (λ (l : ℕ). memory_of k''.denying l k'.goal k'.before k'.index) aims.0
      ∙ (ap (λ (j : ℕ). memory_of k''.denying k''.layer j k'.before k'.index) aims.1
      ∙ (ap (λ (i : ℕ). memory_of k''.denying k''.layer k''.goal i k'.index) aims.2
      ∙ ap (memory_of k''.denying k''.layer k''.goal k''.before) indices)))

  pub answer-one : AnswerIsOne g e
  answer-one = record { input = given-one; memory = noted-one }
