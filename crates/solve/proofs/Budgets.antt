-- A halt for want of budget comes only where the budget is below the need of the specification.
use Rattle.std.proofs.Common.{◌≡◌, inl, inr, ℕ, ◌<◌, ◌≤◌, ◌+◌, List, [], length, Option, Some, None, Result, Ok, Err, IfOk, IfErr, IsErrAnd, is_some, refl, sym, ◌∙◌, ap, subst, arith}
use Rattle.std.proofs.Math.Logic.{∥∥₁_map, ∥∥₁_elim}
use Rattle.std.specs.Coded.{le_prop}
use Rattle.std.proofs.lemmas.Bool.{false≢true}
use Rattle.spec_model.specs.Syntax.{Specification}
use Rattle.spec_model.specs.Games.{GameData}
use Rattle.spec_model.specs.Sets.{all_states}
use Rattle.spec_model.specs.WellTyped.{WellTyped}
use Rattle.spec_model.specs.Needs.{need_of, AskedFrom}
use Rattle.regions.specs.declared.types.Halt.{Halt}
use Rattle.regions.specs.declared.types.Halt.TheVariants.{Budget, Memory}
use Rattle.regions.specs.Kept.{Kept, IsSameGame, Stays, Jam, meaning_of, weigh, weight}
use Rattle.hidden_game.specs.GameOf.{game_of}
use Rattle.hidden_game.proofs.FewBits.{part_needs}
use Rattle.region_bdd.specs.declared.slots.BddRegion.{BddRegion}
use Rattle.region_bdd.specs.declared.slots.BddMove.{BddMove}
use Rattle.region_bdd.specs.Needs.{need_of_game}
use Rattle.region_bdd.specs.Seen.{seen}
use Rattle.region_bdd.specs.Slots.{kept_in}
use Rattle.region_bdd.specs.Crowding.{IsHeldAt, IsTooSmall}
use Rattle.region_bdd.specs.declared.object.RegionBdd.{RegionBdd}
use Rattle.region_bdd.proofs.NeedLaws.{jammed_below_need, below_need}
use Rattle.region_bdd.proofs.FewNodes.{few_fill}
use Rattle.region_bdd.proofs.JamLaws.{jam_fills}
use Rattle.bit_compile.specs.Domains.{state_domains, level_count}
use Rattle.bit_compile.specs.Filling.{IsFilledBy}
use Rattle.bit_compile.proofs.Filled.{fill_wider}
use Rattle.bdd_sets.specs.NamedGame.{IsOfGame}
use Rattle.gr1_sys.specs.Told as sys
use Rattle.gr1_env.specs.Told as env
use Rattle.strategy_parts.specs.Told as strategy
use Rattle.strategy_parts.specs.Told.{Tale}
use Rattle.spec_order.proofs.FillLemmas.{game_needs}
use Rattle.core_min.specs.declared.fault.CoreFault.{CoreFault}
use Rattle.core_min.specs.declared.fault.CoreFault.TheVariants as faults
use Rattle.core_min.specs.Judges.{IsCause}
use Rattle.core_min.specs.Sets as sets
use Rattle.spec_model.specs.Cores.{Realizable, with_guarantees, guarantees_of}
use Rattle.solve.specs.declared.parts.Parts.{Parts}
use Rattle.solve.specs.Judged.{whole_of, last_of}
use Rattle.solve.specs.Places.{at_places, part_at}
use Rattle.solve.specs.Spaces.{space_kept, IsNewOf}
use Rattle.solve.specs.Crowded.{of_system, IsNamed, own, Crowded}
use Rattle.solve.specs.Told.{IsOfOneMoment}
use Rattle.regions.specs.declared.regions.Regions.{Ghosts}
use Rattle.solve.specs.declared.solving.Solved.{Solved}
use Rattle.solve.specs.Solved.{IsSolved}
use Rattle.solve.specs.Budgets.{HoldsNothing, HoldsOneMoment, RanOut, SolverHalts, PlayHalts, IsShort, MayHalt, MayHaltInTurn, MayFail}
use Rattle.solve.proofs.Naming.{held_named}
use Rattle.solve.proofs.Moments.{sys_moment, env_moment, play_moment, IsTold}
use Rattle.solve.proofs.Places.{asked_at}

-- ---- what is told where a budget runs out

some_not_none : {X : Type 0} (o : Option X) (x : X) → o ≡ Some x → o ≡ None → ⊥
some_not_none o x some none = false≢true (sym (ap is_some (sym some ∙ none)))

module _ {G R M : Type 0} (kept : G → Kept R M) (old : Kept R M) (new : G) (same : IsSameGame old (kept new)) where
  pub sys_halt : (halt : Halt) → sys.TellsOneMoment old (kept new) halt → SolverHalts kept old halt
  sys_halt Budget tells =
      record { g = new; same = same; jam = tells.1.1.jam; told = tells.1.1.told; of_one_moment = λ nothing. sys_moment old (kept new) nothing tells.0 tells.1.0 tells.1.1 }
  sys_halt Memory tells = tt

  pub env_halt : (halt : Halt) → env.TellsOneMoment old (kept new) halt → SolverHalts kept old halt
  env_halt Budget tells =
      record { g = new; same = same; jam = tells.1.1.jam; told = tells.1.1.told; of_one_moment = λ nothing. env_moment old (kept new) nothing tells.0 tells.1.0 tells.1.1 }
  env_halt Memory tells = tt

  pub play_halt : (tale : Tale) → ((holds : HoldsOneMoment old) → IsTold old tale holds) → (halt : Halt) → strategy.TellsHalt old (kept new) tale halt → PlayHalts kept old halt
  play_halt tale fits Budget tells =
      record { g = new; same = same; jam = tells.jam; told = tells.told; of_one_moment = λ holds. (let fit = fits holds in play_moment old (kept new) holds tale fit.sets_in fit.targets_in tells) }
  play_halt tale fits Memory tells = tt

-- nothing is held still
pub nothing_still : {R M : Type 0} (old new : Kept R M) → Stays old new → HoldsNothing old → HoldsNothing new
nothing_still old new stays nothing w = let same = stays.held w in let none = nothing w in omega (arith, same, none)

-- a solver that comes later was held nothing for either
pub later_halt : {G R M : Type 0} (kept : G → Kept R M) (old mid : Kept R M) → IsSameGame old mid → (HoldsNothing old → HoldsNothing mid) → (halt : Halt) → SolverHalts kept mid halt → SolverHalts kept old halt
later_halt kept old mid same still Budget out =
    record {
      g = out.g;
      same = record { game = out.same.game ∙ same.game; bound = out.same.bound ∙ same.bound };
      jam = out.jam;
      told = out.told;
      of_one_moment = λ nothing. subst (λ (g : GameData). IsOfOneMoment g out.jam) same.game (out.of_one_moment (still nothing));
    }
later_halt kept old mid same still Memory out = tt

pub solved_later : {G R M : Type 0} {ghosts : Ghosts G R M} (old mid new : Kept R M) (solved : Solved G R M ghosts) → (HoldsNothing old → HoldsNothing mid) → IsSolved mid new solved → IsSolved old new solved
solved_later old mid new solved still is = record { layers = is.layers; free = is.free; of_one_moment = λ nothing. is.of_one_moment (still nothing) }

-- ---- the need of a game and of its specification

pub below_game : (s : Specification) (g : GameData) → g ≡ game_of s → (budget : ℕ) → budget < need_of_game g → budget < need_of s
below_game s g is budget short = let here = ap need_of_game is in let more = game_needs s in omega (arith, short, here, more)

pub below_part : (s : Specification) (kept : List ℕ) (budget : ℕ) → budget < need_of (with_guarantees s kept) → budget < need_of s
below_part s kept budget short = let more = part_needs s kept in omega (arith, short, more)

-- ---- what a specification's halt tells

-- the game's own formulas are named at any moment, as that of all states
own_crowded : (g : GameData) (budget : ℕ) → IsFilledBy (level_count (state_domains g)) budget (IsOfGame g) → Crowded g budget
own_crowded g budget filled =
    ∣ (of_system (all_states g), (0, refl), (filled.0, fill_wider (IsOfGame g) (IsNamed g (of_system (all_states g))) (λ f is. own is) (level_count (state_domains g)) budget filled.0 filled.1)) ∣₁

pub made_halt : {X : Type 0} (s : Specification) (g : GameData) → g ≡ game_of s → (budget : ℕ) (r : Result X Halt) → (r ≡ Err Budget → IsTooSmall (need_of_game g) g budget) → IfErr r (MayHalt budget s)
made_halt s g is budget (Ok x) cause = tt
made_halt s g is budget (Err Budget) cause =
    let small = cause refl in
    record { few = below_game s g is budget small.few; crowded = subst (λ (h : GameData). Crowded h budget) is (own_crowded g budget small.filled) }
made_halt s g is budget (Err Memory) cause = tt

-- named sets never fill a budget that the game needs
pub crowded_below_need : (g : GameData) (budget : ℕ) → Crowded g budget → budget < need_of_game g
crowded_below_need g budget crowded =
    ∥∥₁_elim crowded le_prop (λ c. below_need g budget (level_count (state_domains g)) refl (few_fill (level_count (state_domains g)) budget (IsNamed g c.0) c.2.0 c.2.1))

-- an object that tells a budget and a jam of one moment is crowded
jam_crowded : (o : RegionBdd) (jam : Jam) → (seen o).jam ≡ Some jam → 0 < (seen o).bound → IsOfOneMoment (seen o).game jam → Crowded (seen o).game (seen o).bound
jam_crowded o jam told some one =
    let g = (seen o).game in
    ∥∥₁_map (jam_fills o jam told some) (λ fills. (one.moment, one.is, (fills.sets, fill_wider (IsHeldAt g jam) (IsNamed g one.moment) (held_named g jam one) (level_count (state_domains g)) (seen o).bound fills.sets fills.fill)))

-- what it may tell where what was held was fit
pub short_by : (s : Specification) (budget : ℕ) (k : Kept BddRegion BddMove) (IsFit : Type 0) → k.game ≡ game_of s → k.bound ≡ budget → 2 ≤ budget → IsFit → RanOut space_kept k IsFit → IsShort budget s
short_by s budget k IsFit game bound two fit out =
    let g_is : (space_kept out.g).game ≡ game_of s = out.same.game ∙ game in
    let b_is : (space_kept out.g).bound ≡ budget = out.same.bound ∙ bound in
    let one : IsOfOneMoment (space_kept out.g).game out.jam = subst (λ (h : GameData). IsOfOneMoment h out.jam) (sym out.same.game) (out.of_one_moment fit) in
    let some : 0 < (space_kept out.g).bound = omega (arith, b_is, two) in
    let crowded = jam_crowded out.g out.jam out.told some one in
    record {
      few = below_game s (space_kept out.g).game g_is budget (subst (λ (n : ℕ). n < need_of_game (space_kept out.g).game) b_is (jammed_below_need out.g (some_not_none (space_kept out.g).jam out.jam out.told)));
      crowded = subst (λ (n : ℕ). Crowded (game_of s) n) b_is (subst (λ (h : GameData). Crowded h (space_kept out.g).bound) g_is crowded);
    }

-- nothing is held that weighs
pub holds_nothing : {R M : Type 0} (k : Kept R M) → k.held ≡ [] → HoldsNothing k
unfolding weight
holds_nothing k none w = ap (λ is. weigh (λ i. w i (meaning_of k i)) is) none

-- a space is new as its object is
pub new_space : (g h : GameData) → g ≡ h → (r : Result RegionBdd Halt) → IfOk r (λ o. seen o ≡ kept_in g (seen o).bound None []) → IfOk r (λ o. IsNewOf h (space_kept o))
new_space g h is (Ok o) made = record { game = ap (λ (k : Kept BddRegion BddMove). k.game) made ∙ is; held = ap (λ (k : Kept BddRegion BddMove). k.held) made; free = ap (λ (k : Kept BddRegion BddMove). k.jam) made }
new_space g h is (Err halt) made = tt

module _ (s : Specification) (budget : ℕ) (k : Kept BddRegion BddMove) (new : IsNewOf (game_of s) k) (bound : k.bound ≡ budget) (two : 2 ≤ budget) where
  pub may_halt : (halt : Halt) → SolverHalts space_kept k halt → MayHalt budget s halt
  may_halt Budget out = short_by s budget k (HoldsNothing k) new.game bound two (holds_nothing k new.held) out
  may_halt Memory out = tt

  -- a strategy that is made of the layers
  pub play_may_halt : (mid : Kept BddRegion BddMove) → IsSameGame k mid → HoldsOneMoment mid → (halt : Halt) → PlayHalts space_kept mid halt → MayHalt budget s halt
  play_may_halt mid same holds Budget out = short_by s budget mid (HoldsOneMoment mid) (same.game ∙ new.game) (same.bound ∙ bound) two holds out
  play_may_halt mid same holds Memory out = tt

-- a refusal that is handed on
pub handed : {X E : Type 0} (P : E → Type 0) (r : Result X E) (e : E) → IsErrAnd r (λ y. y ≡ e) → P e → IfErr r P
handed P (Ok x) e is told = tt
handed P (Err y) e is told = subst P (sym is) told

-- what follows from a halt
pub halts_as : {X : Type 0} {P Q : Halt → Type 0} (r : Result X Halt) → ((halt : Halt) → P halt → Q halt) → IfErr r P → IfErr r Q
halts_as (Ok x) follows cause = tt
halts_as (Err halt) follows cause = follows halt cause

-- ---- cores

-- the whole is the first that is asked about
pub whole_in_turn : (s : Specification) (budget : ℕ) (halt : Halt) → MayHalt budget s halt → MayHaltInTurn budget s halt
whole_in_turn s budget Budget short = record { few = short.few; part = s; tried = inl refl; crowded = short.crowded }
whole_in_turn s budget Memory short = tt

part_in_turn : (s : Specification) (kept : List ℕ) (budget : ℕ) → AskedFrom s (guarantees_of s) (guarantees_of s) (with_guarantees s kept) → (halt : Halt) → MayHalt budget (with_guarantees s kept) halt → MayHaltInTurn budget s halt
part_in_turn s kept budget asked Budget short = record { few = below_part s kept budget short.few; part = with_guarantees s kept; tried = inr asked; crowded = short.crowded }
part_in_turn s kept budget asked Memory short = tt

-- why no core was found, where the parts of a specification were judged
pub tried_halt : (s : Specification) → WellTyped s → (budget : ℕ) (p q : Parts) → whole_of p ≡ s → p.budget ≡ budget → (n : ℕ) → n ≡ length (guarantees_of s) → (fault : CoreFault Halt) →
    IsCause (λ (p : Parts). p.faults) last_of (λ p places. Realizable (part_at (whole_of p) places)) (λ p places halt. MayHalt p.budget (part_at (whole_of p) places) halt) p q n fault → MayFail budget s fault
tried_halt s typed budget p q is same n many (faults.Judge halt) cause =
    let asked : sets.IsAsked (λ places. Realizable (part_at s places)) (length (guarantees_of s)) cause.set =
    subst (λ (k : ℕ). sets.IsAsked (λ places. Realizable (part_at s places)) k cause.set) many (subst (λ (t : Specification). sets.IsAsked (λ places. Realizable (part_at t places)) n cause.set) is cause.asked) in
    let allowed : MayHalt budget (part_at s cause.set) halt =
    subst (λ (b : ℕ). MayHalt b (part_at s cause.set) halt) same (subst (λ (t : Specification). MayHalt p.budget (part_at t cause.set) halt) is cause.answered.allowed) in
    part_in_turn s (at_places (guarantees_of s) cause.set) budget (asked_at s typed cause.set asked) halt allowed
tried_halt s typed budget p q is same n many faults.Memory cause = tt
