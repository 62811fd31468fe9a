-- The play goes on by the output of a turn.
use Rattle.std.proofs.Common.{◌≡◌, List, Vec, true, Some, sym, subst}
use Rattle.std.specs.declared.alloc.Global.{Global}
use Rattle.spec_model.specs.Values.{Assignment}
use Rattle.spec_model.specs.Rules.{Run, after}
use Rattle.spec_model.specs.Games.{GameData}
use Rattle.spec_model.specs.Steps.{Before, is_state, reached}
use Rattle.spec_model.specs.Sets.{StateSet}
use Rattle.regions.specs.Kept.{Kept, Stays, IsSameGame}
use Rattle.gr1_law.specs.Layers.{LayerSets}
use Rattle.gr1_law.specs.Choice.{Memory, IsChosen, ChosenPlay}
use Rattle.gr1_sys.specs.declared.layers.SysLayer.{SysLayer}
use Rattle.controller.specs.declared.aims.Aim.{Aim}
use Rattle.controller.specs.declared.remembered.Remembered.{Remembered}
use Rattle.strategy_parts.specs.Positions.{IsClosedAt, IsWholeBefore}
use Rattle.controller.specs.Places.{IsAt}
use Rattle.controller.specs.Turns.{IsTurn}
use Rattle.controller.specs.Objects.{AreSound}
use Rattle.controller.proofs.Sounding.{sound_stays}

module _ (g gd : GameData) (e : gd ≡ g) (l : LayerSets) (b : Before) (m : Memory) (x y : Assignment) (next : Memory) (turn : IsTurn g l b m x y next) (out : Assignment) (o : out ≡ y) where
  pub at_there : (p : Remembered) → IsAt g p b m → IsAt gd p b m
  at_there p here = subst (λ (h : GameData). IsAt h p b m) (sym e) here

  pub closed_there : IsClosedAt gd b x out
  closed_there = subst (λ (h : GameData). IsClosedAt h b x out) (sym e) (subst (λ (v : Assignment). IsClosedAt g b x v) (sym o) (record { input = turn.input; output = turn.output; state = turn.state }))

  pub at_back : (p : Remembered) → IsAt gd p (Some (reached gd b x out)) m → IsAt g p (Some (reached g b x y)) m
  at_back p there = subst (λ (h : GameData). IsAt h p (Some (reached h b x y)) m) e (subst (λ (v : Assignment). IsAt gd p (Some (reached gd b x v)) m) o there)

-- what holds of the play with the new position
pub record HasGone {G R M : Type 0} (k k2 : Kept R M) (layers : List (Vec (SysLayer G R M) Global)) (first : List (Aim G R M)) (goals : List (Vec (Aim G R M) Global)) (holds : List R) (z : StateSet) (l : LayerSets) (h : Run) (b : Before) (m : Memory) (x out : Assignment) (next : Memory) (p : Remembered) : Type 0 where
  pub chosen : IsChosen k.game l b m x out next
  pub sound : AreSound k2 layers first goals holds z l
  pub play : ChosenPlay k2.game l (after h x out) (Some (reached k.game b x out)) next
  pub whole : IsWholeBefore k2.game (Some (reached k.game b x out))
  pub place : IsAt k2.game p (Some (reached k.game b x out)) next

pub has_gone : {G R M : Type 0} (k k2 : Kept R M) → Stays k k2 → IsSameGame k k2 → (layers : List (Vec (SysLayer G R M) Global)) (first : List (Aim G R M)) (goals : List (Vec (Aim G R M) Global)) (holds : List R) (z : StateSet) (l : LayerSets) →
    AreSound k layers first goals holds z l → (h : Run) (b : Before) (m : Memory) → ChosenPlay k.game l h b m → (x y : Assignment) (next : Memory) → IsTurn k.game l b m x y next → (out : Assignment) → out ≡ y → (p : Remembered) → IsAt k.game p (Some (reached k.game b x y)) next →
    HasGone k k2 layers first goals holds z l h b m x out next p
has_gone k k2 stays same layers first goals holds z l sound h b m play x y next turn out o p here =
    let chosen : IsChosen k.game l b m x out next = subst (λ (v : Assignment). IsChosen k.game l b m x v next) (sym o) turn.chosen in
    record {
      chosen = chosen;
      sound = sound_stays k k2 stays same layers first goals holds z l sound;
      play = subst (λ (d : GameData). ChosenPlay d l (after h x out) (Some (reached k.game b x out)) next) (sym same.game) (ChosenPlay.more h b m x out next play turn.input turn.legal chosen);
      whole = subst (λ (d : GameData). is_state d (reached k.game b x out) ≡ true) (sym same.game) (subst (λ (v : Assignment). is_state k.game (reached k.game b x v) ≡ true) (sym o) turn.state);
      place = subst (λ (d : GameData). IsAt d p (Some (reached k.game b x out)) next) (sym same.game) (subst (λ (v : Assignment). IsAt k.game p (Some (reached k.game b x v)) next) (sym o) here);
    }
