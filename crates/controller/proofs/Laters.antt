-- A later turn, from the state that the play is in.
use Rattle.std.proofs.Common.{◌≡◌, ℕ, suc, ◌<◌, ◌≤◌, Bool, true, List, [], ◌∷◌, Vec, length, slice_index, slice_get, option_map, Some, None, is_some, refl, sym, ap, ◌∙◌, subst, arith}
use Rattle.std.proofs.lemmas.Bool.{false≢true}
use Rattle.std.specs.declared.alloc.Global.{Global}
use Rattle.spec_model.specs.declared.value.Value.{Value}
use Rattle.spec_model.specs.Values.{Assignment}
use Rattle.spec_model.specs.Rules.{Run}
use Rattle.spec_model.specs.Games.{GameData, State, listed}
use Rattle.spec_model.specs.Steps.{Before, is_state}
use Rattle.spec_model.specs.Sets.{StateSet}
use Rattle.regions.specs.Kept.{Kept, Stays, IsSameGame}
use Rattle.regions.specs.Rules.{listed_before}
use Rattle.gr1_law.specs.Layers.{LayerSets, goal_set, goal_sets}
use Rattle.gr1_law.specs.Choice.{Memory, ChosenPlay, goal_aimed, goal_stays, waits}
use Rattle.gr1_law.proofs.Standing.{Ready}
use Rattle.gr1_law.proofs.Trails.{played}
use Rattle.gr1_sys.specs.declared.layers.SysLayer.{SysLayer}
use Rattle.gr1_sys.specs.Held.{ranks_of}
use Rattle.controller.specs.declared.aims.Aim.{Aim}
use Rattle.strategy_parts.specs.Owned.{RegionsAre}
use Rattle.strategy_parts.specs.Positions.{IsWholeBefore}
use Rattle.controller.specs.Turns.{IsTurn, IsLater}
use Rattle.controller.specs.Objects.{AreSound}
use Rattle.controller.proofs.Sounding.{sound_stays, alike_counted, goal_high}
use Rattle.controller.proofs.Turned.{later_turn}

-- the state that is before a later turn
pub record IsPast (g : GameData) (b : Before) (values : List Value) : Type 0 where
  pub state : State
  pub is : b ≡ Some state
  pub inside : is_state g state ≡ true
  pub lists : listed state ≡ values

pub past : (g : GameData) (b : Before) (values : List Value) → is_some b ≡ true → IsWholeBefore g b → listed_before b ≡ values → IsPast g b values
past g None values started whole lists = absurd (false≢true started)
past g (Some s) values started whole lists = record { state = s; is = refl; inside = whole; lists = lists }

ready_goal : (g : GameData) (z : StateSet) (l : LayerSets) (b : Before) (m : Memory) → is_some b ≡ true → Ready g z l b m → m.goal < length (goal_sets g)
ready_goal g z l None m started ready = absurd (false≢true started)
ready_goal g z l (Some s) m started ready = ready.goal_in

module _ {G R M : Type 0} (k : Kept R M) (layers : List (Vec (SysLayer G R M) Global)) (first : List (Aim G R M)) (goals : List (Vec (Aim G R M) Global)) (holds : List R) (z : StateSet) (l : LayerSets) (sound : AreSound k layers first goals holds z l) where
  pub goal_below : (h : Run) (b : Before) (m : Memory) → ChosenPlay k.game l h b m → is_some b ≡ true → m.goal < length holds
  goal_below h b m play started =
      let below = ready_goal k.game z l b m started (played k.game z l sound.won (ranks_of layers) sound.ranks h b m sound.starts play).ready in omega (arith, below, sound.counted)

  pub goals_many : length goals ≡ length holds
  goals_many = alike_counted goals layers sound.alike ∙ (sym (count layers) ∙ (sound.ranks.counted ∙ sym sound.counted))
    where
      count : (vs : List (Vec (SysLayer G R M) Global)) → length (ranks_of vs) ≡ length vs
      count [] = refl
      count (v ∷ vs) = ap suc (count vs)

  module _ (b : Before) (m : Memory) (x y : Assignment) (next : Memory) (turn : IsTurn k.game l b m x y next) (high : next.rank ≤ slice_index (ranks_of layers) next.goal) (values : List Value) (there : IsPast k.game b values)
      (last goal : ℕ) (stayed : Bool) (last_is : m.goal ≡ last)
      (aim : (s : State) (m : Memory) → RegionsAre k holds (goal_set k.game) → length holds ≡ length (goal_sets k.game) → is_state k.game s ≡ true → listed s ≡ values → m.goal ≡ last → (goal ≡ goal_aimed k.game (Some s) m) × (stayed ≡ goal_stays k.game (Some s) m)) where
    aims : (goal ≡ goal_aimed k.game (Some there.state) m) × (stayed ≡ goal_stays k.game (Some there.state) m)
    aims = aim there.state m sound.holds sound.counted there.inside there.lists last_is

    pub goal_is : goal ≡ next.goal
    goal_is = aims.0 ∙ (ap (λ (c : Before). goal_aimed k.game c m) (sym there.is) ∙ sym turn.chosen.goal)

    pub later_at : (k1 : Kept R M) → Stays k k1 → IsSameGame k k1 → (values1 : List Value) → values ≡ values1 → (list : List (Aim G R M)) → option_map (λ (v : Vec (Aim G R M) Global). v.items) (slice_get goals goal) ≡ Some list →
        (rank index : ℕ) → m.rank ≡ rank → m.index ≡ index → IsLater k1 list values1 rank index stayed x l there.state m y next
    later_at k1 stays same values1 values_are list are rank index rank_is index_is =
        later_turn k1 layers first goals holds z l (sound_stays k k1 stays same layers first goals holds z l sound) there.state m x y next
        (subst (λ (g : GameData). IsTurn g l (Some there.state) m x y next) (sym same.game) (subst (λ (c : Before). IsTurn k.game l c m x y next) there.is turn))
        high values1 (there.lists ∙ values_are) goal stayed
        (aims.0 ∙ ap (λ (g : GameData). goal_aimed g (Some there.state) m) (sym same.game))
        (aims.1 ∙ ap (λ (g : GameData). goal_stays g (Some there.state) m) (sym same.game))
        list are rank index rank_is index_is

    pub waits_back : (k1 : Kept R M) → IsSameGame k k1 → (waited : Bool) → waited ≡ waits k1.game (Some there.state) m next.rank → waited ≡ waits k.game b m next.rank
    waits_back k1 same waited is = is ∙ (ap (λ (g : GameData). waits g (Some there.state) m next.rank) same.game ∙ ap (λ (c : Before). waits k.game c m next.rank) (sym there.is))

    pub rank_bound : (list : List (Aim G R M)) → option_map (λ (v : Vec (Aim G R M) Global). v.items) (slice_get goals goal) ≡ Some list → next.rank ≤ length list
    rank_bound list are = let same_ranks = ap (slice_index (ranks_of layers)) goal_is in let many = goal_high goals layers sound.alike goal list are in omega (arith, high, same_ranks, many)
