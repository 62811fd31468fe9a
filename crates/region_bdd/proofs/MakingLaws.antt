-- Parts of the object's own diagrams, made one after the other.
use Rattle.std.proofs.Common.{◌≡◌, ℕ, ◌+◌, ◌<◌, false, Vec, Result, Ok, Err, IfOk, IsErrAnd, List, [], ◌++◌, length, map, Option, None, inl, inr, refl, sym, ◌∙◌, ap, subst, arith, slice_index}
use Rattle.std.specs.List.{Contains}
use Rattle.std.proofs.lemmas.Bool.{cases_lt}
use Rattle.std.proofs.lemmas.List.Elements.{Contains-append_left, Contains-append_right}
use Rattle.std.specs.declared.alloc.Global.{Global}
use Rattle.node_table.specs.Table.{Table, diagram_at}
use Rattle.spec_model.specs.Diagrams.{Diagram, Function, value}
use Rattle.spec_model.specs.Values.{DomainData}
use Rattle.spec_model.specs.Games.{GameData, GoalData}
use Rattle.regions.specs.declared.types.Halt.{Halt}
use Rattle.regions.specs.declared.types.Halt.TheVariants as halt
use Rattle.regions.specs.declared.types.When.{When}
use Rattle.game_values.specs.declared.seen.At.TheVariants.{Now}
use Rattle.spec_model.specs.Sets.{all_states}
use Rattle.spec_model.specs.WellMade.{WellMade}
use Rattle.bit_compile.specs.Domains.{state_domains, level_count}
use Rattle.bit_compile.specs.Proper.{proper}
use Rattle.bit_compile.specs.Named.{IsOfProper}
use Rattle.bdd_store.specs.State.{IsRoot, roots_at, IsNewStore}
use Rattle.bdd_bits.specs.Orders.{BitOrder, IsDeclared as IsDeclaredOrder, level_of}
use Rattle.bdd_bits.specs.Contents.{Contents, function_at, IsDeclared}
use Rattle.bdd_bits.specs.Calls.{KeepsRoots, SameNodes}
use Rattle.bdd_bits.proofs.CallLemmas.{keeps_function, declared_function}
use Rattle.bit_compile.specs.Making.{Makes}
use Rattle.bit_compile.specs.Compiled.{compiled}
use Rattle.bit_compile.specs.Crowding.{HasCause, IsHeldSince}
use Rattle.bit_compile.specs.Filling.{IsFilledBy}
use Rattle.bit_compile.proofs.Causes.{cause_ok, cause_wider, crowded_wider}
use Rattle.bit_compile.proofs.Filled.{filled_by}
use Rattle.bdd_sets.specs.NamedMoves.{MoveLists}
use Rattle.bdd_sets.specs.NamedGame.{IsOfGame, values, part as of_formula}
use Rattle.bdd_sets.specs.NextOrders.{KeepsNext, FitsNext}
use Rattle.bdd_sets.specs.MoveBits.{LeadsToNext}
use Rattle.bdd_sets.proofs.ShiftLemmas.{declared_keeps, fits_kept}
use Rattle.bdd_sets.proofs.CauseLemmas.{count_cause, cause_by, root_there}
use Rattle.region_bdd.proofs.NeedLaws.{same_halt, filled_below_need}
use Rattle.region_bdd.specs.Bound.{bound_of}
use Rattle.region_bdd.specs.Needs.{need_of_game}
use Rattle.region_bdd.proofs.BoundLaws.{bound_declared, same_bound}
use Rattle.region_bdd.specs.Crowding.{IsTooSmall}
use Rattle.region_bdd.proofs.JamLaws.{lists_same, root_is, goal_part, goal_inside, nothing_named}
use Rattle.bdd_sets.specs.declared.moves.Members.{Members}
use Rattle.bdd_sets.specs.Members.{MoveFunctions, AreMembers, functions_at, move_functions, lists_at}
use Rattle.bdd_sets.specs.Lists.{MakesList, one_at}
use Rattle.bdd_sets.specs.LineScenes.{roots_of_members}
use Rattle.bdd_sets.specs.MadeMembers.{MakesMembers}
use Rattle.bdd_sets.specs.Goals.{TellGoals, IsOfGoals}
use Rattle.bdd_sets.specs.Forcing.{FitMoves, AreLevelsOf}
use Rattle.bdd_sets.specs.StateBits.{Tells}
use Rattle.bdd_sets.specs.declared.moves.NextLevels.{NextLevels}
use Rattle.regions.specs.declared.types.When.TheVariants.{First, Later}
use Rattle.bdd_products.specs.declared.early.Early.{Early}
use Rattle.bdd_products.specs.Early.{FitsEarly, AreLinesOf, roots_of_early, is_grouped}
use Rattle.bdd_products.proofs.EarlyLemmas.{members_kept}
use Rattle.bdd_sets.proofs.ProperLemmas.{proper_tells}
use Rattle.bdd_sets.proofs.ListLemmas.{one_itself, times_here}
use Rattle.region_bdd.specs.declared.own.Own.{Own}
use Rattle.region_bdd.specs.declared.slots.Slot.{Slot}
use Rattle.region_bdd.specs.Object.{roots_of_own, FitsOwnEarly, IsObject}
use Rattle.region_bdd.specs.Making.{MakesPart, in_both, FitBoth, FitNothing, FitProper, times_in_sets, FitSets, listed_times, FitGoals, times_in_goals, FitAllGoals, FitLines, times_in_lines, FitAllLines, times_in_formulas, FitFormulas, FitOwn}
use Rattle.region_bdd.proofs.ObjectLaws.{list_same, members_same}

-- ---- parts that are one root, a list of goals, or members

pub root_part : (old new : Contents) (r : Result ℕ Halt) (f : Function) (N : Function → Type 0) → Makes old new r f → HasCause old new r N → MakesPart one_at (λ c root. function_at c root ≡ f) N old new r
root_part old new (Ok root) f N makes cause = record { fit = makes.meaning; added = makes.added; refused = tt; keeps = makes.keeps; cause = cause }
root_part old new (Err h) f N makes cause = record { fit = tt; added = tt; refused = makes.refused; keeps = makes.keeps; cause = cause }

pub list_part : (old new : Contents) (r : Result (Vec ℕ Global) Halt) (g : GameData) (goals : List GoalData) (N : Function → Type 0) → MakesList old new r (map (λ (goal : GoalData). compiled g goal.holds) goals) → IfOk r (λ roots. TellGoals g goals (functions_at new roots.items)) → HasCause old new r N → MakesPart listed_times (FitGoals g goals) N old new r
list_part old new (Ok roots) g goals N makes tell cause = record { fit = (tell, makes.meaning); added = makes.added; refused = tt; keeps = makes.keeps; cause = cause }
list_part old new (Err h) g goals N makes tell cause = record { fit = tt; added = tt; refused = makes.refused; keeps = makes.keeps; cause = cause }

pub members_part : (old new : Contents) (r : Result Members Halt) (g : GameData) (to : List ℕ) (when : When) → MakesMembers g to when old new r → MakesPart roots_of_members (FitLines g to when) (IsOfGame g) old new r
members_part old new (Ok m) g to when makes = record { fit = (makes.fit, makes.lines); added = makes.added; refused = tt; keeps = makes.keeps; cause = makes.cause }
members_part old new (Err h) g to when makes = record { fit = tt; added = tt; refused = makes.refused; keeps = makes.keeps; cause = makes.cause }

-- a refusal that is handed on, and what is named more widely
pub handed_part : {V W : Type 0} (tv : ℕ → V → ℕ) (FV : Contents → V → Type 0) (tw : ℕ → W → ℕ) (FW : Contents → W → Type 0) (N : Function → Type 0) (old new : Contents) (r : Result V Halt) (h : Halt) → IsErrAnd r (λ y. y ≡ h) → MakesPart tw FW N old new (Err h) → MakesPart tv FV N old new r
handed_part tv FV tw FW N old new (Ok x) h is part = absurd is
handed_part tv FV tw FW N old new (Err y) h is part = record { fit = tt; added = tt; refused = part.refused; keeps = part.keeps; cause = cause_by old new (Err y) h N is part.cause }

pub part_wider : {V : Type 0} (tv : ℕ → V → ℕ) (FV : Contents → V → Type 0) (M N : Function → Type 0) → ((f : Function) → M f → N f) → (old new : Contents) (r : Result V Halt) → MakesPart tv FV M old new r → MakesPart tv FV N old new r
part_wider tv FV M N wider old new r part = record { fit = part.fit; added = part.added; refused = part.refused; keeps = part.keeps; cause = cause_wider M N wider old new r part.cause }

-- ---- what fits is named

pub root_named : (c : Contents) (root : ℕ) (f : Function) (N : Function → Type 0) → function_at c root ≡ f → N f → (n : ℕ) → 0 < one_at n root → N (function_at c n)
root_named c root f N is named n some = subst N (sym is ∙ root_is c n root some) named

pub proper_named : (g : GameData) (ds : List DomainData) → ds ≡ state_domains g → (f : Function) → IsOfProper ds Now f → IsOfGame g f
proper_named g ds same f is = values Now (subst (λ (es : List DomainData). IsOfProper es Now f) same is)

pub sets_named : (g : GameData) (ds : List DomainData) (c : Contents) (p : ℕ × ℕ) → ds ≡ state_domains g → FitSets ds c p → (n : ℕ) → 0 < times_in_sets n p → IsOfGame g (function_at c n)
sets_named g ds c p same fit n some = elim (cases_lt 0 (one_at n p.0)) [
  | inl here ↦ subst (IsOfGame g) (sym (fit.0 ∙ ap (λ es. proper es Now) same) ∙ root_is c n p.0 here) (values Now (inr (length (state_domains g), refl)))
  | inr none ↦ subst (IsOfGame g) (sym fit.1 ∙ root_is c n p.1 (omega (arith, some, none))) (nothing_named g)
]

pub goals_named : (g : GameData) (goals : List GoalData) (c : Contents) (roots : Vec ℕ Global) → ((goal : GoalData) → Contains goals goal → Contains (g.assume ++ g.goals) goal) → FitGoals g goals c roots → (n : ℕ) → 0 < listed_times n roots → IsOfGame g (function_at c n)
goals_named g goals c roots among fit n some =
    goal_part g c goals (function_at c n) (subst (λ (fs : List Function). Contains fs (function_at c n)) fit.1 (root_there c n roots.items some)) (λ goal there. goal_inside g c goal (among goal there))

pub assume_among : (g : GameData) (goal : GoalData) → Contains g.assume goal → Contains (g.assume ++ g.goals) goal
assume_among g goal there = Contains-append_left g.assume g.goals goal there

pub goals_among : (g : GameData) (goal : GoalData) → Contains g.goals goal → Contains (g.assume ++ g.goals) goal
goals_among g goal there = Contains-append_right g.assume g.goals goal there

pub all_goals_named : (g : GameData) (c : Contents) (p : Vec ℕ Global × Vec ℕ Global) → FitAllGoals g c p → (n : ℕ) → 0 < times_in_goals n p → IsOfGame g (function_at c n)
all_goals_named g c p fit n some = elim (cases_lt 0 (listed_times n p.0)) [
  | inl here ↦ goals_named g g.assume c p.0 (assume_among g) fit.0 n here
  | inr none ↦ goals_named g g.goals c p.1 (goals_among g) fit.1 n (omega (arith, some, none))
]

-- the parts of a goal's formula are named
pub of_goals : (g : GameData) (goals : List GoalData) → ((goal : GoalData) → Contains goals goal → Contains (g.assume ++ g.goals) goal) → (c : Contents) (f : Function) → IsOfGoals g goals f → IsOfGame g f
of_goals g goals among c f is = of_formula is.0.holds (goal_inside g c is.0 (among is.0 is.1)) is.2

-- ---- what fits stays so while its roots are kept

abbrev pub Stays : {V : Type 0} → (ℕ → V → ℕ) → (Contents → V → Type 0) → Type 0
Stays {V} times Fits = (c c' : Contents) (v : V) → KeepsRoots c c' → ((n : ℕ) → 0 < times n v → IsRoot c.state n) → Fits c v → Fits c' v

pub root_stays : (f : Function) → Stays one_at (λ c root. function_at c root ≡ f)
root_stays f c c' root keeps kept is = keeps_function c c' root keeps (kept root (let one = one_itself root in omega (arith, one))) ∙ is

pub goals_stay : (g : GameData) (goals : List GoalData) → Stays listed_times (FitGoals g goals)
goals_stay g goals c c' roots keeps kept fit =
    let same = list_same c c' roots.items (λ n some. keeps_function c c' n keeps (kept n some)) in
    (subst (λ (fs : List Function). TellGoals g goals fs) (sym same) fit.0, same ∙ fit.1)

pub lines_stay : (g : GameData) (to : List ℕ) (when : When) → Stays roots_of_members (FitLines g to when)
lines_stay g to when c c' m keeps kept fit = (
  subst (λ (fs : MoveFunctions). FitMoves g when fs) (sym (members_same c c' m (λ n some. keeps_function c c' n keeps (kept n some)))) fit.0,
  lists_same g c c' m (λ n some. keeps_function c c' n keeps (kept n some)) ∙ fit.1,
)

pub both_stay : {V W : Type 0} (tv : ℕ → V → ℕ) (tw : ℕ → W → ℕ) (FV : Contents → V → Type 0) (FW : Contents → W → Type 0) → Stays tv FV → Stays tw FW → Stays (in_both tv tw) (FitBoth FV FW)
both_stay tv tw FV FW first second c c' p keeps kept fit =
    (first c c' p.0 keeps (λ n some. kept n (omega (arith, some))) fit.0, second c c' p.1 keeps (λ n some. kept n (omega (arith, some))) fit.1)

-- ---- one part after another

module _ {V : Type 0} (tv : ℕ → V → ℕ) (FV : Contents → V → Type 0) (N : Function → Type 0) (old mid : Contents) (v : V) (first : MakesPart tv FV N old mid (Ok v)) where
  before : (n : ℕ) → IsRoot old.state n → IsRoot mid.state n
  before n root = let more = first.added n in omega (arith, more, root)

  kept_in_mid : (n : ℕ) → 0 < tv n v → IsRoot mid.state n
  kept_in_mid n some = let more = first.added n in omega (arith, more, some)

  keeps_both : (new : Contents) → KeepsRoots mid new → KeepsRoots old new
  keeps_both new keeps =
      record {
        levels = keeps.levels ∙ first.keeps.levels;
        budget = keeps.budget ∙ first.keeps.budget;
        order = keeps.order ∙ first.keeps.order;
        meaning = λ n root. keeps.meaning n (before n root) ∙ first.keeps.meaning n root;
      }

  module _ {W : Type 0} (tw : ℕ → W → ℕ) (FW : Contents → W → Type 0) where
    pub both_made : (new : Contents) (w : W) → MakesPart tw FW N mid new (Ok w) → Stays tv FV → MakesPart (in_both tv tw) (FitBoth FV FW) N old new (Ok (v, w))
    both_made new w second stays =
        record {
          fit = (stays mid new v second.keeps kept_in_mid first.fit, second.fit);
          added = λ n. (let one = first.added n in let two = second.added n in omega (arith, one, two));
          refused = tt;
          keeps = keeps_both new second.keeps;
          cause = cause_ok old new (v, w) N;
        }

    -- where the second is refused, the first is given back
    pub part_refused : {X : Type 0} (tx : ℕ → X → ℕ) (FX : Contents → X → Type 0) (whole new : Contents) (h : Halt) → MakesPart tw FW N mid whole (Err h) → ((n : ℕ) → 0 < tv n v → N (function_at mid n)) →
        ((n : ℕ) → roots_at whole.state n ≡ roots_at new.state n + tv n v) → SameNodes whole new → MakesPart {V = X} tx FX N old new (Err h)
    part_refused {X = X} tx FX whole new h second named back nodes =
        let was : Result W Halt = Err h in
        let is : Result X Halt = Err h in
        record {
          fit = tt;
          added = tt;
          refused = λ n. (let one = first.added n in let two = second.refused n in let three = back n in omega (arith, one, two, three));
          keeps = record {
            levels = ap (λ (t : Table). t.levels) nodes.table ∙ (keeps_both whole second.keeps).levels;
            budget = ap (λ (t : Table). t.budget) nodes.table ∙ (keeps_both whole second.keeps).budget;
            order = nodes.order ∙ (keeps_both whole second.keeps).order;
            meaning = λ n root. ap (λ (t : Table). diagram_at t n) nodes.table ∙ (keeps_both whole second.keeps).meaning n root;
          };
          cause = count_cause N N (λ f is. is) old mid (λ n. tv n v) first.added first.keeps named whole new was is (λ e. (same_halt e, nodes.table)) second.cause;
        }

-- ---- the object

-- the goals and lines stay
formulas_stay : (g : GameData) (to : List ℕ) → Stays times_in_formulas (FitFormulas g to)
formulas_stay g to =
    both_stay times_in_goals times_in_lines (FitAllGoals g) (FitAllLines g to)
    (both_stay listed_times listed_times (FitGoals g g.assume) (FitGoals g g.goals) (goals_stay g g.assume) (goals_stay g g.goals))
    (both_stay roots_of_members roots_of_members (FitLines g to First) (FitLines g to Later) (lines_stay g to First) (lines_stay g to Later))

-- the products come after the other parts
early_part : (N : Function → Type 0) (mid new : Contents) (e : Option Early) → ((n : ℕ) → roots_at new.state n ≡ roots_at mid.state n + roots_of_early n e) → KeepsRoots mid new → MakesPart roots_of_early (λ c e. Unit {0}) N mid new (Ok e)
early_part N mid new e added keeps = record { fit = tt; added = added; refused = tt; keeps = keeps; cause = cause_ok mid new e N }

pub own_made : (g : GameData) (to : List ℕ) (ds : List DomainData) (N : Function → Type 0) (old mid made new : Contents) (nothing all : ℕ) (p : (Vec ℕ Global × Vec ℕ Global) × (Members × Members)) (early : Option Early) → ds ≡ state_domains g →
    MakesPart times_in_sets (FitSets ds) N old mid (Ok (all, nothing)) → MakesPart times_in_formulas (FitFormulas g to) N mid made (Ok p) →
    ((n : ℕ) → roots_at new.state n ≡ roots_at made.state n + roots_of_early n early) → KeepsRoots made new → (IsDeclared new → AreLinesOf (lists_at made p.1.1) new early × (is_grouped early ≡ false)) →
    MakesPart roots_of_own (FitOwn g to) N old new (Ok (record { step = record { nothing = nothing; proper = all; later = p.1.1 }; assume = p.0.0; goals = p.0.1; first = p.1.0; early = early }))
own_made g to ds N old mid made new nothing all p early same first second added keeps lines =
    let stays = both_stay one_at one_at (FitProper ds) FitNothing (root_stays (proper ds Now)) (root_stays (λ b. false)) in
    let parts = both_made times_in_sets (FitSets ds) N old mid (all, nothing) first times_in_formulas (FitFormulas g to) made p second stays in
    let all_stay = both_stay times_in_sets times_in_formulas (FitSets ds) (FitFormulas g to) stays (formulas_stay g to) in
    let both = both_made (in_both times_in_sets times_in_formulas) (FitBoth (FitSets ds) (FitFormulas g to)) N old made ((all, nothing), p) parts roots_of_early (λ c e. Unit {0}) new early (early_part N made new early added keeps) all_stay in
    let fit = both.fit.0 in
    let is = fit.0.0 ∙ ap (λ es. proper es Now) same in
    record {
      fit = (
        record {
          nothing = fit.0.1;
          proper = subst (λ (f : Function). Tells g Now f (all_states g)) (sym is) (proper_tells g Now);
          assume = fit.1.0.0.0;
          goals = fit.1.0.1.0;
          first = fit.1.1.0.0;
          later = fit.1.1.1.0;
        },
        record {
          states = is;
          assume = fit.1.0.0.1;
          goals = fit.1.0.1.1;
          first = fit.1.1.0.1;
          later = fit.1.1.1.1;
          early = λ declared. subst (λ (m : MoveLists). AreLinesOf m new early) second.fit.1.1.1 (lines declared).0;
          plain = λ declared. (lines declared).1;
        },
      );
      added = λ n. (let all_of = both.added n in omega (arith, all_of));
      refused = tt;
      keeps = both.keeps;
      cause = cause_ok old new (record { step = record { nothing = nothing; proper = all; later = p.1.1 }; assume = p.0.0; goals = p.0.1; first = p.1.0; early = early }) N;
    }

-- the lines of later moves are kept
pub later_members : (g : GameData) (mid made : Contents) (to : List ℕ) (N : Function → Type 0) (p : (Vec ℕ Global × Vec ℕ Global) × (Members × Members)) → MakesPart times_in_formulas (FitFormulas g to) N mid made (Ok p) → AreMembers made p.1.1
later_members g mid made to N p part =
    record {
      inputs = λ i below. (let here = times_here p.1.1.inputs.items i below in let all = part.added (slice_index p.1.1.inputs.items i) in omega (arith, here, all));
      outputs = λ i below. (let here = times_here p.1.1.outputs.items i below in let all = part.added (slice_index p.1.1.outputs.items i) in omega (arith, here, all));
      update = λ i below. (let here = times_here p.1.1.update.items i below in let all = part.added (slice_index p.1.1.update.items i) in omega (arith, here, all));
    }

-- and the products still fit them
pub early_after : (g : GameData) (mid made new : Contents) (to : List ℕ) (N : Function → Type 0) (p : (Vec ℕ Global × Vec ℕ Global) × (Members × Members)) (lists : NextLevels) (e : Option Early) → MakesPart times_in_formulas (FitFormulas g to) N mid made (Ok p) → KeepsRoots made new → FitsEarly (move_functions made p.1.1) lists new e → FitsEarly (move_functions new p.1.1) lists new e
early_after g mid made new to N p lists e part keeps fits = subst (λ (m : MoveFunctions). FitsEarly m lists new e) (sym (members_kept made new p.1.1 keeps (later_members g mid made to N p part))) fits

-- the declared order is one of the game's bits
pub declared_bits : {E : Type 0} (g : GameData) (to : List ℕ) (levels : ℕ) (r : Result BitOrder E) → levels ≡ level_count (state_domains g) → LeadsToNext g to → IfOk r (λ o. length o.names ≡ levels) → IfOk r (λ o. (bit : ℕ) → level_of o bit ≡ bit) →
    IfOk r (λ o. (length o.names ≡ level_count (state_domains g)) × KeepsNext g o to)
declared_bits g to levels (Ok o) many leads long places = (long ∙ many, declared_keeps g o to places leads)
declared_bits g to levels (Err e) many leads long places = tt

-- a new store under an order of the game's bits that keeps the list of next ones
pub new_fits : (g : GameData) (levels budget : ℕ) (made : Contents) (o : BitOrder) (to given : List ℕ) → IsNewStore made.state levels budget → made.order ≡ o → levels ≡ level_count (state_domains g) → given ≡ to → KeepsNext g o given → FitsNext g to made
new_fits g levels budget made o to given store is many same keeps =
    record { levels = store.has_levels ∙ many; rising = subst (λ (ts : List ℕ). KeepsNext g made.order ts) same (subst (λ (p : BitOrder). KeepsNext g p given) (sym is) keeps) }

-- under the declared order the object shows its budget
pub object_bound : (levels budget : ℕ) (made new : Contents) (o : BitOrder) → IsNewStore made.state levels budget → made.order ≡ o → IsDeclaredOrder o → KeepsRoots made new → bound_of new ≡ budget
object_bound levels budget made new o store is declared keeps =
    same_bound made new keeps ∙ (bound_declared made (subst IsDeclaredOrder (sym is) declared) ∙ store.has_budget)

pub object_made : (g : GameData) (levels budget : ℕ) (made new : Contents) (own : Own) (lists : NextLevels) (slots : List Slot) → slots ≡ [] → WellMade g → AreLevelsOf g lists → IsNewStore made.state levels budget → FitsNext g lists.to.items made →
    MakesPart roots_of_own (FitOwn g lists.to.items) (IsOfGame g) made new (Ok own) → FitsOwnEarly lists new own → IsObject g new own lists slots None
object_made g levels budget made new own lists slots empty well are store begun part early =
    subst (λ (ss : List Slot). IsObject g new own lists ss None) (sym empty) (record {
      made = well;
      fits = fits_kept g lists.to.items made new part.keeps begun;
      lists_are = are;
      early = early;
      named = ∣ part.fit.1 ∣₁;
      sound = record {
        counted = λ n. (let all = part.added n in let none = store.no_root n in omega (arith, all, none));
        own_fits = part.fit.0;
        slots_fit = tt;
      };
      unspent = tt;
      tight = tt;
      jammed = tt;
    })

-- a refusal before there is an object: a new store keeps nothing, so that named sets alone fill it
pub too_small : {V : Type 0} (g : GameData) (levels budget : ℕ) (made new : Contents) (r : Result V Halt) → levels ≡ level_count (state_domains g) → IsNewStore made.state levels budget → KeepsRoots made new → HasCause made new r (IsOfGame g) → IsDeclared made → r ≡ Err halt.Budget → IsTooSmall (need_of_game g) g budget
too_small g levels budget made new r many store keeps cause declared e =
    let t = new.state.table in
    let has_budget : t.budget ≡ budget = keeps.budget ∙ store.has_budget in
    let has_levels : t.levels ≡ levels = keeps.levels ∙ store.has_levels in
    let crowd = cause.crowded e in
    let alone = crowded_wider t (IsHeldSince made (IsOfGame g)) (λ d. IsOfGame g (value d)) named crowd in
    record {
      few = filled_below_need g t budget levels has_budget has_levels many crowd.filled;
      filled = subst (λ (n : ℕ). IsFilledBy (level_count (state_domains g)) n (IsOfGame g)) has_budget (subst (λ (n : ℕ). IsFilledBy n t.budget (IsOfGame g)) (has_levels ∙ many) (filled_by t (IsOfGame g) alone));
    }
  where
    named : (d : Diagram) → IsHeldSince made (IsOfGame g) d → IsOfGame g (value d)
    named d (inl kept) = absurd (let root = kept.1 in let none = store.no_root kept.0 in omega (arith, root, none))
    named d (inr is) = subst (IsOfGame g) (declared_function made d declared) is
