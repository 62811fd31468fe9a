-- A move from a seat or from the start, step by step.
use Rattle.std.proofs.Common.{◌≡◌, true, false, List, [], Option, Some, None, is_some, is_none, refl, sym, ◌∙◌, ap, subst}
use Rattle.std.proofs.lemmas.Bool.{false≢true}
use Rattle.spec_model.specs.declared.value.Value.{Value}
use Rattle.spec_model.specs.Values.{Assignment}
use Rattle.spec_model.specs.Rules.{Run, after}
use Rattle.spec_model.specs.Games.{GameData, State}
use Rattle.spec_model.specs.Steps.{Before, legal_input, reached}
use Rattle.spec_model.specs.Sets.{StateSet}
use Rattle.regions.specs.Kept.{Kept}
use Rattle.gr1_law.specs.Layers.{LayerSets}
use Rattle.gr1_law.specs.Choice.{Memory, IsChosen}
use Rattle.strategy_parts.proofs.Holdings.{nothing_done, same_game, stays_then, same_then}
use Rattle.controller.specs.declared.controller.Controller.{Controller}
use Rattle.controller.specs.declared.spot.Spot.{Spot}
use Rattle.controller.specs.Objects.{game_of, StandsFor, InEachPlay, GoesOn, HoldsTheSame}
use Rattle.controller.specs.Spots.{spot_at, EndsAt, CanGo, BeginsAgain}
use Rattle.strategy_check.specs.Seats.{SeatData}
use Rattle.strategy_check.specs.Walks.{seat_at, IsFrom, MovesTo, Plays}

pub none_if_not_some : {X : Type 0} (o : Option X) → is_some o ≡ false → is_none o ≡ true
none_if_not_some None is = refl
none_if_not_some (Some v) is = absurd (false≢true (sym is))

pub none_not_some : {X : Type 0} (o : Option X) → is_some o ≡ true → is_none o ≡ false
none_not_some None is = absurd (false≢true is)
none_not_some (Some v) is = refl

pub holds_same : {G R M : Type 0} (kept : G → Kept R M) (c : Controller G R M) → HoldsTheSame kept c c
holds_same kept c = record { held = nothing_done (kept c.g); game = same_game (kept c.g); z = refl; layers = refl; first = refl; goals = refl; holds = refl; judge = refl }

-- what stays over two calls
pub holds_then : {G R M : Type 0} (kept : G → Kept R M) (a b c : Controller G R M) → HoldsTheSame kept a b → HoldsTheSame kept b c → HoldsTheSame kept a c
holds_then kept a b c first then =
    record {
      held = stays_then (kept a.g) (kept b.g) (kept c.g) first.held then.held;
      game = same_then (kept a.g) (kept b.g) (kept c.g) first.game then.game;
      z = then.z ∙ first.z;
      layers = then.layers ∙ first.layers;
      first = then.first ∙ first.first;
      goals = then.goals ∙ first.goals;
      holds = then.holds ∙ first.holds;
      judge = then.judge ∙ first.judge;
    }

module _ {G R M : Type 0} (kept : G → Kept R M) (old new : Controller G R M) (g : GameData) (z : StateSet) (l : LayerSets) (p : Plays kept old g z l) where
  -- it plays on where it stands for a play
  pub plays_on : HoldsTheSame kept old new → (h : Run) (b : Before) (m : Memory) → StandsFor kept new z l h b m → Plays kept new g z l
  plays_on same h b m stands = record { game = same.game.game ∙ p.game; run = h; before = b; memory = m; stands = stands }

  -- ---- at the start or at a seat

  pub at_start : BeginsAgain kept old new → (h : Run) (b : Before) (m : Memory) → IsFrom g l None h b m → StandsFor kept new z l h b m
  at_start begins h b m is =
      subst (λ (h : Run). StandsFor kept new z l h b m) (sym is.0)
      (subst (λ (b : Before). StandsFor kept new z l [] b m) (sym is.1)
      (subst (λ (m : Memory). StandsFor kept new z l [] None m) (sym is.2)
      (begins.stands z l p.run p.before p.memory p.stands)))

  module _ (v : SeatData) (h : Run) (b : Before) (m : Memory) (is : IsFrom g l (Some v) h b m) where
    there : EndsAt (game_of kept old) l h is.0 m v.values v.spot
    there = subst (λ (d : GameData). EndsAt d l h is.0 m v.values v.spot) (sym p.game) is.2

    pub can_go : CanGo kept old v.values v.spot
    can_go = (z, l, p.run, p.before, p.memory, p.stands, h, is.0, m, there)

    pub at_seat : InEachPlay kept old (λ z l h b m. (to : Run) (s : State) (next : Memory) → EndsAt (game_of kept old) l to s next v.values v.spot → StandsFor kept new z l to (Some s) next) → StandsFor kept new z l h b m
    at_seat call = subst (λ (b : Before). StandsFor kept new z l h b m) (sym is.1) (call z l p.run p.before p.memory p.stands h is.0 m there)

-- ---- the move

some_is : (s t : State) → Some s ≡ Some t → s ≡ t
some_is s t is = cc (is)

module _ {G R M : Type 0} (kept : G → Kept R M) (play moved : Controller G R M) (g : GameData) (game : game_of kept play ≡ g) (z : StateSet) (l : LayerSets) (h : Run) (b : Before) (m : Memory) (x y : Assignment) (next : Memory) where
  -- what was written is where the choice leads
  pub moved_to : legal_input (game_of kept play) b x ≡ true → GoesOn kept play moved z l h b m x y next → (values : List Value) (spot : Spot) →
      ((s : State) × (Some (reached (game_of kept play) b x y) ≡ Some s) × EndsAt (game_of kept moved) l (after h x y) s next values spot) → MovesTo g l b m x (record { values = values; spot = spot })
  moved_to legal on values spot ends =
      let same : reached g b x y ≡ ends.0 = ap (λ (d : GameData). reached d b x y) (sym game) ∙ some_is (reached (game_of kept play) b x y) ends.0 ends.1 in
      record {
        legal = subst (λ (d : GameData). legal_input d b x ≡ true) game legal;
        output = y;
        next = next;
        chosen = subst (λ (d : GameData). IsChosen d l b m x y next) game on.chosen;
        is = ap (λ (s : State). seat_at s next) same ∙ (ap (λ (vs : List Value). seat vs (spot_at next)) ends.2.lists ∙ ap (seat values) ends.2.remembered);
      }
    where
      seat : List Value → Spot → SeatData
      seat vs q = record { values = vs; spot = q }
