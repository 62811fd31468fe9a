-- Named sets of a game: those of its own formulas, and those of the formulas of a set of its states.
use Rattle.std.specs.Prelude.{◌≡◌, ◌<◌, ◌⊎◌, ℕ, List, ◌++◌, length, map}
use Rattle.std.specs.List.{Contains}
use Rattle.spec_model.specs.Syntax.{Formula}
use Rattle.spec_model.specs.Diagrams.{Function}
use Rattle.spec_model.specs.Games.{GameData}
use Rattle.spec_model.specs.Sets.{StateSet}
use Rattle.regions.specs.declared.types.When.{When}
use Rattle.game_values.specs.declared.seen.At.{At}
use Rattle.game_values.specs.declared.seen.At.TheVariants.{Next}
use Rattle.bdd_ops.specs.Unfinished.{negated}
use Rattle.bit_compile.specs.Domains.{state_domains}
use Rattle.bit_compile.specs.Named.{IsOfProper, IsNamedOf, IsNamedUpdate}
use Rattle.bdd_sets.specs.declared.lines.Side.TheVariants.{Assumptions, Guarantees}
use Rattle.bdd_sets.specs.declared.moves.NextLevels.{NextLevels}
use Rattle.bdd_sets.specs.StateBits.{Tells}
use Rattle.bdd_sets.specs.MoveBits.{LeadsToNext, AreLevelsOf}
use Rattle.bdd_sets.specs.MoveFunctions.{avoiding}
use Rattle.bdd_sets.specs.Lines.{side_functions}
use Rattle.bdd_sets.specs.Updates.{update_functions}
use Rattle.bdd_sets.specs.NamedMoves.{MoveLists, IsFirstOfAll, IsOfAvoiding, joined_lists}

-- ---- its own formulas

-- those of its lines and of its goals
abbrev pub formulas_of : GameData → List Formula
formulas_of g = map (λ l. l.1) (g.initial_asm ++ (g.initial_gar ++ (g.safe_asm ++ g.safe_gar))) ++ map (λ goal. goal.holds) (g.assume ++ g.goals)

-- The lines that are judged at the first moves or at later ones, each with those of its kind, and then the proper states; and
-- what the hidden tables become, which the inputs have too, since a line that is judged when inputs come may read it.
abbrev pub lines_of : GameData → (to : List ℕ) → When → MoveLists
lines_of g to when =
    record {
      inputs = side_functions g to Assumptions when ++ update_functions g when;
      outputs = side_functions g to Guarantees when;
      update = update_functions g when;
    }

-- one of these, or the first several together
abbrev pub IsOfConjunction : List Function → Function → Type 0
IsOfConjunction fs f = Contains fs f ⊎ IsFirstOfAll fs f

-- What the codes of values and the proper states are made of, a formula, or the next value of a hidden table; lines of moves;
-- and what is left of any of these.
pub data IsOfGame (g : GameData) : Function → Type 0 where
  values : {f : Function} (at : At) → IsOfProper (state_domains g) at f → IsOfGame g f
  part : {f : Function} (e : Formula) → Contains (formulas_of g) e → IsNamedOf g e f → IsOfGame g f
  becomes : {f : Function} (k : ℕ) → k < length g.hidden → IsNamedUpdate g k f → IsOfGame g f
  update : {f : Function} (when : When) → IsOfConjunction (update_functions g when) f → IsOfGame g f
  inputs : {f : Function} (to : List ℕ) (when : When) → LeadsToNext g to → IsOfConjunction (lines_of g to when).inputs f → IsOfGame g f
  outputs : {f : Function} (to : List ℕ) (when : When) → LeadsToNext g to → IsOfConjunction (lines_of g to when).outputs f → IsOfGame g f
  complement : {f : Function} (h : Function) → IsOfGame g h → f ≡ negated h → IsOfGame g f

-- ---- the formulas of a set

-- this is on the way to where inputs avoid a target, or is where they do
abbrev pub IsOfStep : MoveLists → NextLevels → (target : Function) → Function → Type 0
IsOfStep m levels target f = IsOfAvoiding m levels.reply.items target f ⊎ (f ≡ avoiding (joined_lists m) levels.reply.items levels.all.items target)

-- the same of a set that is a target's complement: it comes first
abbrev pub IsOfRest : MoveLists → NextLevels → (set : Function) → Function → Type 0
IsOfRest m levels set f = (f ≡ set) ⊎ IsOfStep m levels (negated set) f

-- The first formula is the set at the next state, the second has the legal outputs and the update besides, and the third is
-- the second without the next outputs and hidden values. What players force, and moves, are made of these: of those of the
-- set, or of its complement.
pub data IsOfSet (g : GameData) (t : StateSet) (f : Function) : Type 0 where
  first : Tells g Next f t → IsOfSet g t f
  into : (when : When) (levels : NextLevels) (next : Function) → AreLevelsOf g levels → Tells g Next next t → IsOfStep (lines_of g levels.to.items when) levels next f → IsOfSet g t f
  out_of : (when : When) (levels : NextLevels) (next : Function) → AreLevelsOf g levels → Tells g Next next t → IsOfStep (lines_of g levels.to.items when) levels (negated next) f → IsOfSet g t f
