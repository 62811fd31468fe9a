-- What is remembered at each position of a chosen play.
use Rattle.std.proofs.Common.{[], ◌∷◌, take, ◌≡◌, ℕ, suc, ◌<◌, ◌≤◌, ◌⊎◌, inl, inr, true, length, slice_index, List, Some, None, refl, sym, ◌∙◌, ap, subst, arith}
use Rattle.std.proofs.lemmas.Bool.{and_from}
use Rattle.std.proofs.lemmas.List.{take-append-le, take_all}
use Rattle.spec_model.specs.Values.{Assignment}
use Rattle.spec_model.specs.Plays.{IsPlay}
use Rattle.spec_model.specs.Rules.{Run, Position, after}
use Rattle.spec_model.specs.Games.{GameData, State}
use Rattle.spec_model.specs.GameRuns.{state_at}
use Rattle.spec_model.specs.Steps.{Before, is_input, legal_input, legal_output, reached}
use Rattle.spec_model.specs.Sets.{StateSet, system_forces}
use Rattle.gr1_law.specs.Layers.{LayerSets, IsWinning, AreGreatestRanks}
use Rattle.gr1_law.specs.Choice.{Memory, Standing, first_memory, IsChosen, ChosenPlay}
use Rattle.spec_model.specs.GameRules.{last_state, before_at, rules_of_game}
use Rattle.gr1_law.proofs.Lengthening.{with_last, with_last-here, with_last-before}
use Rattle.gr1_law.proofs.Standing.{Ready, rank_some}
use Rattle.gr1_law.specs.Trails.{Lowers, RankedTrail}
use Rattle.gr1_law.proofs.Winning.{in_last, layer_inside}
use Rattle.gr1_law.proofs.Choosing.{lowers, standing_next, chosen_output, chosen_legal}
use Rattle.spec_model.proofs.Running.{length-after, state_at-earlier, state_at-last, last_state-after}

-- what is remembered at each position, the last being the one at the end
pub record Trail (g : GameData) (l : LayerSets) (h : Run) (m : Memory) : Type 0 where
  pub memory : ℕ → Memory
  pub standing : (t : ℕ) → t < length h → Standing g l (state_at g h t) (memory t)
  pub moves : (t : ℕ) → suc t < length h → Lowers g (state_at g h t) (memory t) (memory (suc t))
  pub last : (t : ℕ) → suc t ≡ length h → memory t ≡ m
  pub chosen : (t : ℕ) → t < length h → ChosenPlay g l (take (suc t) h) (Some (state_at g h t)) (memory t)

-- a chosen play is a play, and its end is known
pub record Played (g : GameData) (z : StateSet) (l : LayerSets) (h : Run) (b : Before) (m : Memory) : Type 0 where
  pub state : b ≡ last_state g h
  pub ready : Ready g z l b m
  pub trail : Trail g l h m
  pub legal : IsPlay (rules_of_game g) h

module _ (g : GameData) (z : StateSet) (l : LayerSets) (w : IsWinning g z l) (ranks : List ℕ) (greatest : AreGreatestRanks g l ranks) where
  module _ (h : Run) (b : Before) (m : Memory) (x y : Assignment) (m' : Memory) (play : ChosenPlay g l h b m) (played : Played g z l h b m) (input : is_input g x ≡ true) (legal : legal_input g b x ≡ true) (c : IsChosen g l b m x y m') where
    abbrev p : Position
    p = record { input = x; output = y }

    memory : ℕ → Memory
    memory = with_last played.trail.memory (length h) m'

    new_state : state_at g (after h x y) (length h) ≡ reached g b x y
    new_state = state_at-last g h p ∙ ap (λ (b : Before). reached g b x y) (sym played.state)

    new_standing : Standing g l (reached g b x y) m'
    new_standing = standing_next g z l w ranks greatest b m x y m' played.ready c

    earlier_or_last : (t : ℕ) → t < suc (length h) → (t < length h) ⊎ (t ≡ length h)
    earlier_or_last t below = grind arith

    standing : (t : ℕ) → t < length (after h x y) → Standing g l (state_at g (after h x y) t) (memory t)
    unfolding memory
    standing t below = by_place (earlier_or_last t (subst (λ (n : ℕ). t < n) (length-after h p) below))
      where
        by_place : (t < length h) ⊎ (t ≡ length h) → Standing g l (state_at g (after h x y) t) (memory t)
        by_place (inl less) =
            subst (λ (s : State). Standing g l s (memory t)) (sym (state_at-earlier g h p t less))
            (subst (Standing g l (state_at g h t)) (sym (with_last-before played.trail.memory (length h) m' t less)) (played.trail.standing t less))
        by_place (inr same) =
            subst (λ (t : ℕ). Standing g l (state_at g (after h x y) t) (memory t)) (sym same)
            (subst (λ (s : State). Standing g l s (memory (length h))) (sym new_state)
            (subst (Standing g l (reached g b x y)) (sym (with_last-here played.trail.memory (length h) m')) new_standing))

    -- the move from the run's last state
    last_move : (t : ℕ) → suc t ≡ length h → Lowers g (state_at g h t) (played.trail.memory t) m'
    last_move t same =
        let is : b ≡ Some (state_at g h t) = played.state ∙ ap (before_at g h) (sym same) in
        subst (λ (m : Memory). Lowers g (state_at g h t) m m') (sym (played.trail.last t same))
        (lowers g z l w ranks greatest (state_at g h t) m x y m' (subst (λ (b : Before). Ready g z l b m) is played.ready) input (subst (λ (b : Before). legal_input g b x ≡ true) is legal) (subst (λ (b : Before). IsChosen g l b m x y m') is c))

    moves : (t : ℕ) → suc t < length (after h x y) → Lowers g (state_at g (after h x y) t) (memory t) (memory (suc t))
    unfolding memory
    moves t below =
        subst (λ (s : State). Lowers g s (memory t) (memory (suc t))) (sym (state_at-earlier g h p t inner))
        (subst (λ (m : Memory). Lowers g (state_at g h t) m (memory (suc t))) (sym (with_last-before played.trail.memory (length h) m' t inner))
        (by_place (earlier_or_last (suc t) (subst (λ (n : ℕ). suc t < n) (length-after h p) below))))
      where
        inner : t < length h
        inner = omega (arith, length-after h p)

        by_place : (suc t < length h) ⊎ (suc t ≡ length h) → Lowers g (state_at g h t) (played.trail.memory t) (memory (suc t))
        by_place (inl less) = subst (Lowers g (state_at g h t) (played.trail.memory t)) (sym (with_last-before played.trail.memory (length h) m' (suc t) less)) (played.trail.moves t less)
        by_place (inr same) =
            subst (λ (n : ℕ). Lowers g (state_at g h t) (played.trail.memory t) (memory n)) (sym same)
            (subst (Lowers g (state_at g h t) (played.trail.memory t)) (sym (with_last-here played.trail.memory (length h) m')) (last_move t same))

    chosen : (t : ℕ) → t < length (after h x y) → ChosenPlay g l (take (suc t) (after h x y)) (Some (state_at g (after h x y) t)) (memory t)
    unfolding memory
    chosen t below = by_place (earlier_or_last t (subst (λ (n : ℕ). t < n) (length-after h p) below))
      where
        by_place : (t < length h) ⊎ (t ≡ length h) → ChosenPlay g l (take (suc t) (after h x y)) (Some (state_at g (after h x y) t)) (memory t)
        by_place (inl less) =
            subst (λ (h' : Run). ChosenPlay g l h' (Some (state_at g (after h x y) t)) (memory t)) (sym (take-append-le (suc t) h (p ∷ []) (omega arith)))
            (subst (λ (s : State). ChosenPlay g l (take (suc t) h) (Some s) (memory t)) (sym (state_at-earlier g h p t less))
            (subst (ChosenPlay g l (take (suc t) h) (Some (state_at g h t))) (sym (with_last-before played.trail.memory (length h) m' t less)) (played.trail.chosen t less)))
        by_place (inr same) =
            subst (λ (t : ℕ). ChosenPlay g l (take (suc t) (after h x y)) (Some (state_at g (after h x y) t)) (memory t)) (sym same)
            (subst (λ (h' : Run). ChosenPlay g l h' (Some (state_at g (after h x y) (length h))) (memory (length h))) (sym (take_all (suc (length h)) (after h x y) (omega (arith, length-after h p))))
            (subst (λ (s : State). ChosenPlay g l (after h x y) (Some s) (memory (length h))) (sym new_state)
            (subst (ChosenPlay g l (after h x y) (Some (reached g b x y))) (sym (with_last-here played.trail.memory (length h) m')) (ChosenPlay.more h b m x y m' play input legal c))))

    longer : Played g z l (after h x y) (Some (reached g b x y)) m'
    unfolding memory
    longer =
        record {
          state = ap (λ (b : Before). Some (reached g b x y)) played.state ∙ sym (last_state-after g h x y);
          ready = new_standing;
          trail = record {
            memory = memory;
            standing = standing;
            moves = moves;
            last = λ t same.
                let is : t ≡ length h = omega (arith, same, length-after h p) in
                ap memory is ∙ with_last-here played.trail.memory (length h) m';
            chosen = chosen;
          };
          legal = IsPlay.more h x y played.legal
              (and_from _ _ input (subst (λ (b : Before). legal_input g b x ≡ true) played.state legal))
              (and_from _ _ (chosen_output g z l w ranks greatest b m x y m' played.ready c) (subst (λ (b : Before). legal_output g b x y ≡ true) played.state (chosen_legal g z l w ranks greatest b m x y m' played.ready c)));
        }

  pub played : (h : Run) (b : Before) (m : Memory) → system_forces g z None ≡ true → ChosenPlay g l h b m → Played g z l h b m
  played _ _ _ start ChosenPlay.nothing =
      record {
        state = refl;
        ready = start;
        trail = record {
          memory = λ t. first_memory;
          standing = λ t below. absurd (omega arith);
          moves = λ t below. absurd (omega arith);
          last = λ t same. refl;
          chosen = λ t below. absurd (omega arith);
        };
        legal = IsPlay.nothing;
      }
  played _ _ _ start (ChosenPlay.more h b m x y m' play input legal c) = longer h b m x y m' play (played h b m start play) input legal c

  -- no rank is above its goal's greatest one
  pub rank_at_most : (s : State) (m : Memory) → Standing g l s m → m.rank ≤ slice_index ranks m.goal
  rank_at_most s m standing =
      let no_less : slice_index ranks m.goal < m.rank → ⊥ = λ less. standing.rank.none_before (slice_index ranks m.goal) less (in_last g z l w ranks greatest m.goal m.rank standing.goal_in s standing.rank.here) in
      grind (arith, no_less)

  -- what is remembered at the positions of a chosen play makes its ranks fall
  pub ranked : (h : Run) (m : Memory) (trail : Trail g l h m) → RankedTrail g ranks h trail.memory
  ranked h m trail =
      record {
        counted = greatest.counted;
        states = λ t inner. let standing = trail.standing t inner in layer_inside g z l w.layers (trail.memory t).goal (trail.memory t).rank (state_at g h t) standing.rank.here;
        goal_in = λ t inner. let standing = trail.standing t inner in standing.goal_in;
        index_in = λ t inner. let standing = trail.standing t inner in standing.index_in;
        rank_some = λ t inner. let standing = trail.standing t inner in let some = rank_some g z l w (trail.memory t).goal (trail.memory t).rank (state_at g h t) standing.rank.here in omega (arith, some.1);
        rank_most = λ t inner. rank_at_most (state_at g h t) (trail.memory t) (trail.standing t inner);
        moves = trail.moves;
      }
