-- Where a noted play of given inputs ends: its state is one of the game, and state and spot tell the input that is given then.
use Rattle.std.proofs.Common.{◌≡◌, ℕ, suc, not, if◌then◌else◌, Bool, true, List, [], length, Some, None, refl, sym, ◌∙◌, ap, subst, arith}
use Rattle.spec_model.specs.Values.{Assignment}
use Rattle.spec_model.specs.Games.{GameData, State}
use Rattle.spec_model.specs.Steps.{Before, is_state}
use Rattle.gr1_law.specs.Layers.{goal_set, assumption_set}
use Rattle.gr1_law.specs.EnvLayers.{EnvLayerSets}
use Rattle.gr1_law.specs.Counter.{CounterMemory, first_counter, next_assumption, IsGiven, AnsweredPlay}
use Rattle.gr1_law.specs.CounterLaws.{IsLostWith}
use Rattle.gr1_law.proofs.CounterSteps.{CounterStands, input_exists}
use Rattle.gr1_law.proofs.CounterTrails.{answered, stands_at_end}
use Rattle.gr1_law.proofs.Following.{is_of_game}
use Rattle.gr1_law.proofs.CounterBeats.{answer-one}
use Rattle.strategy_parts.specs.Counts.{value_count}
use Rattle.strategy_parts.proofs.Counting.{listed_sized}
use Rattle.counterstrategy.specs.declared.spot.EnvSpot.{EnvSpot}
use Rattle.counterstrategy.specs.Spots.{spot_at}
use Rattle.counter_tables.specs.Seats.{SeatData, IsSeatOf}
use Rattle.counter_tables.specs.Walks.{Ending, IsEnding, IsAtSeat, IsFrom}
use Rattle.counter_tables.proofs.Meeting.{seat_by_parts}
use Rattle.strategy_parts.proofs.Splitting.{listed_once}

memory : Bool → (layer goal before index : ℕ) → CounterMemory
memory denying layer goal before index = record { denying = denying; layer = layer; goal = goal; before = before; index = index }

memory_by_parts : (k m : CounterMemory) → k.denying ≡ m.denying → k.layer ≡ m.layer → k.goal ≡ m.goal → k.before ≡ m.before → k.index ≡ m.index → k ≡ m
unfolding memory
memory_by_parts k m denying layer goal before index =
    ap (λ (d : Bool). memory d k.layer k.goal k.before k.index) denying
    ∙ (ap (λ n. memory m.denying n k.goal k.before k.index) layer
    ∙ (ap (λ n. memory m.denying m.layer n k.before k.index) goal
    ∙ (ap (λ n. memory m.denying m.layer m.goal n k.index) before
    ∙ ap (λ n. memory m.denying m.layer m.goal m.before n) index)))

pub from_ending : (g : GameData) (e : EnvLayerSets) (from : _) (p : Ending) → IsFrom g e from p → IsEnding g e p
from_ending g e None p is = is.0
from_ending g e (Some v) p is = is.0

-- what is remembered determines the input, and the number of the set that it leads into
pub given_once : (g : GameData) (e : EnvLayerSets) (b : Before) (k : CounterMemory) (r r' : ℕ) (x x' : Assignment) → IsGiven g e b k r x → IsGiven g e b k r' x' → (r ≡ r') × (x ≡ x')
given_once g e b k r r' x x' one other = (answer-one g e).input b k r r' x x' one other

module _ (g : GameData) (e : EnvLayerSets) (n : ℕ) (counts : ℕ → ℕ → List ℕ) (lost : IsLostWith g e n counts) where
  -- an input is given at the start
  pub start_exists : (p : Ending) × IsEnding g e p × (p.run ≡ []) × (p.notes ≡ []) × (p.before ≡ None) × (p.memory ≡ first_counter)
  start_exists =
      let given = input_exists g e lost.layers n None first_counter (answered g e lost.layers n [] [] None first_counter lost.forced AnsweredPlay.nothing).ready in
      let p : Ending = record { run = []; notes = []; before = None; memory = first_counter; rank = given.0; input = given.1 } in
      (p, record { play = AnsweredPlay.nothing; given = given.2 }, refl, refl, refl, refl)

  module _ (p : Ending) (is : IsEnding g e p) (s : State) (before : p.before ≡ Some s) where
    pub stands : CounterStands g e n s p.memory
    stands = stands_at_end g e lost.layers n p.run p.notes p.before p.memory lost.forced is.play s before

    pub inside : is_state g s ≡ true
    inside = is_of_game g e lost.layers n counts lost.delays s p.memory stands

    given_there : IsGiven g e (Some s) p.memory p.rank p.input
    given_there = subst (λ (b : Before). IsGiven g e b p.memory p.rank p.input) before is.given

  -- two plays that end in one state with one spot go on alike
  module _ (p q : Ending) (is_p : IsEnding g e p) (is_q : IsEnding g e q) (s t : State) (before_p : p.before ≡ Some s) (before_q : q.before ≡ Some t) (same : s ≡ t) (spot : spot_at p.memory p.rank ≡ spot_at q.memory q.rank) where
    pub memory_once : p.memory ≡ q.memory
    memory_once =
        let a = stands p is_p s before_p in
        let b = stands q is_q t before_q in
        let layer : p.memory.layer ≡ q.memory.layer = ap (λ (z : EnvSpot). z.layer) spot in
        let goal_from : suc p.memory.goal ≡ suc q.memory.goal = ap (λ (z : EnvSpot). z.goal) spot in
        let asm_from : suc p.memory.before ≡ suc q.memory.before = ap (λ (z : EnvSpot). z.asm) spot in
        let goal : p.memory.goal ≡ q.memory.goal = omega (arith, goal_from) in
        let before : p.memory.before ≡ q.memory.before = omega (arith, asm_from) in
        let denying = a.denying ∙ (ap (λ n. not (goal_set g n s)) goal ∙ (ap (λ (z : State). not (goal_set g q.memory.goal z)) same ∙ sym b.denying)) in
        let index = a.index ∙ (ap (λ n. if assumption_set g n s then next_assumption g n else n) before ∙ (ap (λ (z : State). if assumption_set g q.memory.before z then next_assumption g q.memory.before else q.memory.before) same ∙ sym b.index)) in
        memory_by_parts p.memory q.memory denying layer goal before index

    pub input_once : p.input ≡ q.input
    input_once =
        let one = subst (λ (z : State). IsGiven g e (Some z) p.memory p.rank p.input) same (given_there p is_p s before_p) in
        let same_one = subst (λ (k : CounterMemory). IsGiven g e (Some t) k p.rank p.input) memory_once one in
        (given_once g e (Some t) q.memory p.rank q.rank p.input q.input same_one (given_there q is_q t before_q)).1

  -- so seats that agree in state and spot are one
  pub seat_once : (p q : Ending) → IsEnding g e p → IsEnding g e q → (u v : SeatData) → IsAtSeat p u → IsAtSeat q v → IsSeatOf u v.values v.spot → u ≡ v
  seat_once p q is_p is_q u v at_u at_v agree =
      let lists = ap (λ (z : SeatData). z.values) at_u.is ∙ (agree.values_are ∙ ap (λ (z : SeatData). z.values) (sym at_v.is)) in
      let same = listed_once g at_u.state at_v.state (inside p is_p at_u.state at_u.before) (inside q is_q at_v.state at_v.before) lists in
      let spot = ap (λ (z : SeatData). z.spot) at_u.is ∙ (agree.spot_is ∙ ap (λ (z : SeatData). z.spot) (sym at_v.is)) in
      let input = input_once p q is_p is_q at_u.state at_v.state at_u.before at_v.before same spot in
      seat_by_parts u v agree.values_are agree.spot_is (ap (λ (z : SeatData). z.reply) (sym at_u.is) ∙ (input ∙ ap (λ (z : SeatData). z.reply) at_v.is))

  -- a seat has a value for each of a state
  pub seat_sized : (p : Ending) → IsEnding g e p → (v : SeatData) → IsAtSeat p v → length v.values ≡ value_count g
  seat_sized p is v at = ap (λ (z : SeatData). length z.values) (sym at.is) ∙ listed_sized g at.state (inside p is at.state at.before)
