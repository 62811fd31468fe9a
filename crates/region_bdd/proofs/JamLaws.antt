-- What fills the budget where a call of the object is refused.
use Rattle.std.proofs.Common.{◌≡◌, ◌⊎◌, inl, inr, ℕ, zero, suc, ◌<◌, true, false, cond, List, [], ◌∷◌, ◌++◌, length, map, Option, Some, None, Result, Err, refl, sym, ◌∙◌, ap, subst, arith}
use Rattle.std.proofs.Math.Logic.{∥∥₁_map, ∥∥₁_map₂}
use Rattle.std.specs.List.{AllByRecursion, Contains}
use Rattle.std.proofs.lemmas.Bool.{cases_lt}
use Rattle.std.proofs.lemmas.Bool.Decides.{eqb_tells}
use Rattle.std.proofs.lemmas.List.Elements.{Contains-append_left, Contains-append_right, Contains-append_cases}
use Rattle.spec_model.specs.Diagrams.{Diagram, Function, value}
use Rattle.spec_model.specs.Syntax.{Formula}
use Rattle.spec_model.specs.Games.{GameData, GoalData}
use Rattle.game_values.specs.declared.seen.At.TheVariants.{Now, Next}
use Rattle.regions.specs.declared.types.When.{When}
use Rattle.regions.specs.declared.types.When.TheVariants.{First, Later}
use Rattle.regions.specs.declared.types.Halt.{Halt}
use Rattle.regions.specs.declared.types.Halt.TheVariants as halt
use Rattle.regions.specs.Kept.{Meaning, States, Outputs, Inputs, Call, Jam}
use Rattle.node_table.specs.Table.{diagram_at, IsLive}
use Rattle.bdd_store.specs.State.{IsRoot, diagram_of, SameRoots}
use Rattle.bdd_bits.specs.Orders.{IsDeclared as IsDeclaredOrder}
use Rattle.bdd_bits.specs.Contents.{Contents, function_at, IsDeclared}
use Rattle.bdd_bits.specs.Calls.{KeepsRoots}
use Rattle.bdd_bits.proofs.CallLemmas.{declared_function}
use Rattle.bit_compile.specs.Crowding.{IsHeldSince, HasCause, IsCrowdedBy}
use Rattle.bit_compile.specs.Domains.{state_domains, level_count}
use Rattle.bit_compile.specs.Filling.{FillTogether}
use Rattle.bit_compile.specs.Compiled.{compiled}
use Rattle.bit_compile.proofs.Causes.{crowded_wider}
use Rattle.bit_compile.proofs.Filled.{contains_first, contains_later, all_at, fills_with}
use Rattle.bdd_sets.specs.StateBits.{TellsStates, Tells, set_at}
use Rattle.bdd_sets.specs.MoveBits.{LeadsToNext}
use Rattle.bdd_sets.specs.Members.{functions_at, lists_at}
use Rattle.bdd_sets.specs.Forcing.{AreLevelsOf}
use Rattle.bdd_sets.specs.declared.moves.Members.{Members}
use Rattle.bdd_sets.specs.declared.moves.NextLevels.{NextLevels}
use Rattle.bdd_sets.specs.NamedMoves.{MoveLists}
use Rattle.bdd_sets.proofs.ListLemmas.{one_itself}
use Rattle.bdd_sets.proofs.CauseLemmas.{root_there}
use Rattle.bdd_products.specs.declared.early.Early.{Early}
use Rattle.bdd_products.specs.Products.{AreOfMembers}
use Rattle.bdd_products.specs.Early.{AreLinesOf, roots_of_early}
use Rattle.bdd_sets.specs.Lists.{one_at, times_in}
use Rattle.bdd_sets.specs.NamedGame.{IsOfGame, values, part, update, inputs, outputs, complement, IsOfConjunction, formulas_of, lines_of}
use Rattle.region_bdd.specs.declared.slots.Content.{Content}
use Rattle.region_bdd.specs.declared.slots.Content.TheVariants.{Region, Outputs as OutputsKept, Inputs as InputsKept}
use Rattle.region_bdd.specs.declared.slots.Slot.{Slot}
use Rattle.region_bdd.specs.declared.slots.Slot.TheVariants.{Free, Taken, Spent}
use Rattle.region_bdd.specs.declared.object.RegionBdd.{RegionBdd}
use Rattle.region_bdd.specs.declared.own.Own.{Own}
use Rattle.region_bdd.specs.Slots.{Shown, Nothing, Set, OutputsInto, InputsInto, shown_in, shown_once, shown_meaning, meanings_in, roots_within, roots_of_slot, roots_of_slots}
use Rattle.region_bdd.specs.Object.{roots_of_own, roots_of_members, ShownFits, AllFit, NoneSpent, IsSound, OwnIsNamed}
use Rattle.region_bdd.specs.Crowding.{LeadsInto, StandsFor, HasDiagrams, IsOfCall, IsHeldAt, FillsBudget, FillsIn, IsJammed}
use Rattle.region_bdd.specs.Seen.{seen}
use Rattle.region_bdd.proofs.BoundLaws.{bound_told}
use Rattle.region_bdd.proofs.ObjectLaws.{list_same}

-- what the object tells of a jam fills its budget
pub jam_fills : (o : RegionBdd) (jam : Jam) → (seen o).jam ≡ Some jam → 0 < (seen o).bound → ∥ FillsBudget (seen o).game (seen o).bound jam ∥₁
jam_fills o jam told some = subst (IsJammed (seen o).game o.diagrams) told o.whole.jammed some

-- ---- the roots in slots

abbrev kept_in : Content → List ℕ
kept_in (Region root) = root ∷ []
kept_in (OutputsKept when root) = root ∷ []
kept_in (InputsKept when root leads) = root ∷ leads ∷ []

abbrev slot_roots : Slot → List ℕ
slot_roots (Free next) = []
slot_roots (Taken content) = kept_in content
slot_roots (Spent content) = kept_in content

abbrev all_roots : List Slot → List ℕ
all_roots [] = []
all_roots (slot ∷ slots) = slot_roots slot ++ all_roots slots

one_root : (n root : ℕ) (rest : List ℕ) → 0 < one_at n root → Contains (root ∷ rest) n
one_root n root rest some = elim (eqb_tells n root) [
  | inl same ↦ subst (λ (k : ℕ). Contains (root ∷ rest) k) (sym same.1) (contains_first root rest)
  | inr other ↦ absurd (let none : one_at n root ≡ 0 = ap (λ b. cond b 1 0) other.0 in omega (arith, some, none))
]

root_within : (n : ℕ) (content : Content) → 0 < roots_within n content → Contains (kept_in content) n
root_within n (Region root) some = one_root n root [] some
root_within n (OutputsKept when root) some = one_root n root [] some
root_within n (InputsKept when root leads) some = elim (cases_lt 0 (one_at n root)) [
  | inl first ↦ one_root n root (leads ∷ []) first
  | inr none ↦ contains_later root n (leads ∷ []) (one_root n leads [] (omega (arith, some, none)))
]

root_in_slot : (n : ℕ) (slot : Slot) → 0 < roots_of_slot n slot → Contains (slot_roots slot) n
root_in_slot n (Free next) some = absurd (omega (arith, some))
root_in_slot n (Taken content) some = root_within n content some
root_in_slot n (Spent content) some = root_within n content some

pub root_in_slots : (n : ℕ) (slots : List Slot) → 0 < roots_of_slots n slots → Contains (all_roots slots) n
root_in_slots n [] some = absurd (omega (arith, some))
root_in_slots n (slot ∷ slots) some = elim (cases_lt 0 (roots_of_slot n slot)) [
  | inl here ↦ Contains-append_left (slot_roots slot) (all_roots slots) n (root_in_slot n slot here)
  | inr none ↦ Contains-append_right (slot_roots slot) (all_roots slots) n (root_in_slots n slots (omega (arith, some, none)))
]

-- ---- what they stand for

module _ (g : GameData) (c : Contents) where
  -- what a slot's diagrams say of its set, all of it
  abbrev SaysAll : Shown → Type 0
  SaysAll Nothing = Unit {0}
  SaysAll (Set f) = TellsStates g Now f
  SaysAll (OutputsInto when f) = TellsStates g Next f
  SaysAll (InputsInto when f leads) = TellsStates g Now f × LeadsInto g when (set_at g Now f) leads

  abbrev AllSay : List Slot → Type 0
  AllSay [] = Unit {0}
  AllSay (slot ∷ slots) = SaysAll (shown_once c slot) × AllSay slots

  says_all : (shown : Shown) → ShownFits g shown → ∥ SaysAll shown ∥₁
  says_all Nothing fits = ∣ tt ∣₁
  says_all (Set f) fits = ∣ fits ∣₁
  says_all (OutputsInto when f) fits = ∣ fits ∣₁
  says_all (InputsInto when f leads) fits = ∥∥₁_map fits.2 (λ into. (fits.0, into))

  pub all_say : (slots : List Slot) → NoneSpent slots → AllFit g c slots → ∥ AllSay slots ∥₁
  all_say [] unspent fits = ∣ tt ∣₁
  all_say (Free next ∷ slots) unspent fits = ∥∥₁_map (all_say slots unspent fits.1) (λ rest. (tt, rest))
  all_say (Taken content ∷ slots) unspent fits = ∥∥₁_map₂ (says_all (shown_in c content) fits.0) (all_say slots unspent fits.1) (λ first rest. (first, rest))
  all_say (Spent content ∷ slots) unspent fits = absurd unspent

  told_itself : (f : Function) → TellsStates g Now f → Tells g Now f (set_at g Now f)
  told_itself f tells = record { states = tells; set = refl }

  told_next : (f : Function) → TellsStates g Next f → Tells g Next f (set_at g Next f)
  told_next f tells = record { states = tells; set = refl }

  abbrev listed : List Slot → List Meaning
  listed slots = meanings_in g (map (shown_once c) slots)

  -- a root in a slot stands for what the slot is listed as
  abbrev IsListed : List Slot → ℕ → Type 0
  IsListed slots n = (m : Meaning) × Contains (listed slots) m × StandsFor g m (function_at c n)

  listed_later : (slot : Slot) (slots : List Slot) (n : ℕ) → IsListed slots n → IsListed (slot ∷ slots) n
  listed_later slot slots n is = at (shown_once c slot)
    where
      at : (shown : Shown) → (m : Meaning) × Contains (meanings_in g (shown ∷ map (shown_once c) slots)) m × StandsFor g m (function_at c n)
      at Nothing = is
      at (Set f) = (is.0, contains_later (shown_meaning g (Set f)) is.0 (listed slots) is.1, is.2)
      at (OutputsInto when f) = (is.0, contains_later (shown_meaning g (OutputsInto when f)) is.0 (listed slots) is.1, is.2)
      at (InputsInto when f leads) = (is.0, contains_later (shown_meaning g (InputsInto when f leads)) is.0 (listed slots) is.1, is.2)

  only : (n root : ℕ) → Contains (root ∷ []) n → root ≡ n
  only n root (zero, below, is) = is
  only n root (suc k, below, is) = absurd (omega (arith, below))

  first_listed : (content : Content) (slots : List Slot) (n : ℕ) → SaysAll (shown_in c content) → Contains (kept_in content) n → (m : Meaning) × Contains (meanings_in g (shown_in c content ∷ map (shown_once c) slots)) m × StandsFor g m (function_at c n)
  first_listed (Region root) slots n says there =
      let f = function_at c root in
      let same = only n root there in
      (States (set_at g Now f), contains_first (States (set_at g Now f)) (listed slots), subst (λ (k : ℕ). Tells g Now (function_at c k) (set_at g Now f)) same (told_itself f says))
  first_listed (OutputsKept when root) slots n says there =
      let f = function_at c root in
      let same = only n root there in
      (Outputs when (set_at g Next f), contains_first (Outputs when (set_at g Next f)) (listed slots), subst (λ (k : ℕ). Tells g Next (function_at c k) (set_at g Next f)) same (told_next f says))
  first_listed (InputsKept when root leads) slots n says (zero, below, is) =
      let f = function_at c root in
      (Inputs when (set_at g Now f), contains_first (Inputs when (set_at g Now f)) (listed slots), inl (subst (λ (k : ℕ). Tells g Now (function_at c k) (set_at g Now f)) is (told_itself f says.0)))
  first_listed (InputsKept when root leads) slots n says (suc k, below, is) =
      let f = function_at c root in
      let same = only n leads (k, omega (arith, below), is) in
      (Inputs when (set_at g Now f), contains_first (Inputs when (set_at g Now f)) (listed slots), inr (subst (λ (j : ℕ). LeadsInto g when (set_at g Now f) (function_at c j)) same says.1))

  pub slots_listed : (slots : List Slot) → AllSay slots → (n : ℕ) → 0 < roots_of_slots n slots → IsListed slots n
  slots_listed [] says n some = absurd (omega (arith, some))
  slots_listed (slot ∷ slots) says n some = elim (cases_lt 0 (roots_of_slot n slot)) [
    | inl here ↦ at slot says.0 (root_in_slot n slot here)
    | inr none ↦ listed_later slot slots n (slots_listed slots says.1 n (omega (arith, some, none)))
  ]
    where
      at : (slot : Slot) → SaysAll (shown_once c slot) → Contains (slot_roots slot) n → IsListed (slot ∷ slots) n
      at (Free next) says there = absurd (let below = there.1 in omega (arith, below))
      at (Taken content) says there = first_listed content slots n says there
      at (Spent content) says there = first_listed content slots n says there

-- ---- the object's own diagrams

pub root_is : (c : Contents) (n root : ℕ) → 0 < one_at n root → function_at c root ≡ function_at c n
root_is c n root some = elim (eqb_tells n root) [
  | inl same ↦ ap (function_at c) (sym same.1)
  | inr other ↦ absurd (let none : one_at n root ≡ 0 = ap (λ b. cond b 1 0) other.0 in omega (arith, some, none))
]

-- nothing is what is left of no lines at all
pub nothing_named : (g : GameData) → IsOfGame g (λ b. false)
nothing_named g = complement (λ s. true) (update Later (inr (0, refl))) refl

module _ (g : GameData) (c : Contents) where
  -- the function of a goal is what its formula is made of
  pub goal_part : (goals : List GoalData) (f : Function) → Contains (map (λ (goal : GoalData). compiled g goal.holds) goals) f → ((goal : GoalData) → Contains goals goal → Contains (formulas_of g) goal.holds) → IsOfGame g f
  goal_part [] f there inside = absurd (let below = there.1 in omega (arith, below))
  goal_part (goal ∷ goals) f (zero, below, is) inside = part goal.holds (inside goal (contains_first goal goals)) (inl (inl (inl (sym is))))
  goal_part (goal ∷ goals) f (suc k, below, is) inside = goal_part goals f (k, omega (arith, below), is) (λ other there. inside other (contains_later goal other goals there))

  goal_formula : (goals : List GoalData) (goal : GoalData) → Contains goals goal → Contains (map (λ (goal : GoalData). goal.holds) goals) goal.holds
  goal_formula [] goal there = absurd (let below = there.1 in omega (arith, below))
  goal_formula (first ∷ goals) goal (zero, below, is) = subst (λ (e : Formula). Contains (map (λ (goal : GoalData). goal.holds) (first ∷ goals)) e) (ap (λ (goal : GoalData). goal.holds) is) (contains_first first.holds (map (λ (goal : GoalData). goal.holds) goals))
  goal_formula (first ∷ goals) goal (suc k, below, is) = contains_later first.holds goal.holds (map (λ (goal : GoalData). goal.holds) goals) (goal_formula goals goal (k, omega (arith, below), is))

  pub goal_inside : (goal : GoalData) → Contains (g.assume ++ g.goals) goal → Contains (formulas_of g) goal.holds
  goal_inside goal there =
      Contains-append_right (map (λ (l : ℕ × Formula). l.1) (g.initial_asm ++ (g.initial_gar ++ (g.safe_asm ++ g.safe_gar)))) (map (λ (goal : GoalData). goal.holds) (g.assume ++ g.goals)) goal.holds
      (goal_formula (g.assume ++ g.goals) goal there)

  module _ (to : List ℕ) (leads : LeadsToNext g to) where
    pub member_named : (when : When) (m : Members) → lists_at c m ≡ lines_of g to when → (n : ℕ) → 0 < roots_of_members n m → IsOfGame g (function_at c n)
    member_named when m are n some = elim (cases_lt 0 (times_in n m.inputs.items)) [
      | inl here ↦ inputs to when leads (inl (subst (λ (l : MoveLists). Contains l.inputs (function_at c n)) are (root_there c n m.inputs.items here)))
      | inr none ↦ elim (cases_lt 0 (times_in n m.outputs.items)) [
        | inl here ↦ outputs to when leads (inl (subst (λ (l : MoveLists). Contains l.outputs (function_at c n)) are (root_there c n m.outputs.items here)))
        | inr neither ↦ update when (inl (subst (λ (l : MoveLists). Contains l.update (function_at c n)) are (root_there c n m.update.items (omega (arith, some, none, neither)))))
      ]
    ]

    replies_named : (f : Function) → IsOfConjunction (lines_of g to Later).outputs f ⊎ Contains (lines_of g to Later).update f → IsOfGame g f
    replies_named f (inl is) = outputs to Later leads is
    replies_named f (inr there) = update Later (inl there)

    inputs_named : (f : Function) → IsOfConjunction (lines_of g to Later).inputs f ⊎ Contains [] f → IsOfGame g f
    inputs_named f (inl is) = inputs to Later leads is
    inputs_named f (inr none) = absurd (let below = none.1 in omega (arith, below))

    early_named : (e : Option Early) → AreLinesOf (lines_of g to Later) c e → (n : ℕ) → 0 < roots_of_early n e → IsOfGame g (function_at c n)
    early_named None are n some = absurd (omega (arith, some))
    early_named (Some e) are n some = elim (cases_lt 0 (times_in n e.replies.lines.items)) [
      | inl here ↦ replies_named (function_at c n) (all_at _ (functions_at c e.replies.lines.items) (function_at c n) are.0 (root_there c n e.replies.lines.items here))
      | inr none ↦ inputs_named (function_at c n) (all_at _ (functions_at c e.inputs.lines.items) (function_at c n) are.1 (root_there c n e.inputs.lines.items (omega (arith, some, none))))
    ]

    module _ (own : Own) (nothing : function_at c own.step.nothing ≡ (λ b. false)) (named : OwnIsNamed g to c own) (declared : IsDeclared c) where
      pub own_named : (n : ℕ) → 0 < roots_of_own n own → IsOfGame g (function_at c n)
      own_named n some = elim (cases_lt 0 (one_at n own.step.nothing)) [
        | inl here ↦ subst (IsOfGame g) (sym nothing ∙ root_is c n own.step.nothing here) (nothing_named g)
        | inr no_nothing ↦ elim (cases_lt 0 (one_at n own.step.proper)) [
          | inl here ↦ subst (IsOfGame g) (sym named.states ∙ root_is c n own.step.proper here) (values Now (inr (length (state_domains g), refl)))
          | inr no_proper ↦ elim (cases_lt 0 (times_in n own.assume.items)) [
            | inl here ↦ goal_part g.assume (function_at c n) (subst (λ (fs : List Function). Contains fs (function_at c n)) named.assume (root_there c n own.assume.items here)) (λ goal there. goal_inside goal (Contains-append_left g.assume g.goals goal there))
            | inr no_assume ↦ elim (cases_lt 0 (times_in n own.goals.items)) [
              | inl here ↦ goal_part g.goals (function_at c n) (subst (λ (fs : List Function). Contains fs (function_at c n)) named.goals (root_there c n own.goals.items here)) (λ goal there. goal_inside goal (Contains-append_right g.assume g.goals goal there))
              | inr no_goal ↦ elim (cases_lt 0 (roots_of_members n own.first)) [
                | inl here ↦ member_named First own.first named.first n here
                | inr no_first ↦ elim (cases_lt 0 (roots_of_members n own.step.later)) [
                  | inl here ↦ member_named Later own.step.later named.later n here
                  | inr no_later ↦ early_named own.early (named.early declared) n (omega (arith, some, no_nothing, no_proper, no_assume, no_goal, no_first, no_later))
                ]
              ]
            ]
          ]
        ]
      ]

-- ---- what is kept stays named

module _ (g : GameData) (c c' : Contents) where
  pub lists_same : (m : Members) → ((n : ℕ) → 0 < roots_of_members n m → function_at c' n ≡ function_at c n) → lists_at c' m ≡ lists_at c m
  lists_same m same =
      let inputs_are = list_same c c' m.inputs.items (λ n some. same n (omega (arith, some))) in
      let outputs_are = list_same c c' m.outputs.items (λ n some. same n (omega (arith, some))) in
      let update_is = list_same c c' m.update.items (λ n some. same n (omega (arith, some))) in
      λ i. record { inputs = inputs_are i; outputs = outputs_are i; update = update_is i }

  early_same : (m : MoveLists) (e : Option Early) → ((n : ℕ) → 0 < roots_of_early n e → function_at c' n ≡ function_at c n) → AreLinesOf m c e → AreLinesOf m c' e
  early_same m None same are = tt
  early_same m (Some e) same are =
      let replies_are = list_same c c' e.replies.lines.items (λ n some. same n (omega (arith, some))) in
      let inputs_are = list_same c c' e.inputs.lines.items (λ n some. same n (omega (arith, some))) in
      (subst (λ (fs : List Function). AreOfMembers m.outputs m.update fs) (sym replies_are) are.0, subst (λ (fs : List Function). AreOfMembers m.inputs [] fs) (sym inputs_are) are.1)

  pub named_stays : (to : List ℕ) (own : Own) → c'.order ≡ c.order → ((n : ℕ) → 0 < roots_of_own n own → function_at c' n ≡ function_at c n) → OwnIsNamed g to c own → OwnIsNamed g to c' own
  named_stays to own order same named =
      record {
        states = same own.step.proper (let one = one_itself own.step.proper in omega (arith, one)) ∙ named.states;
        assume = list_same c c' own.assume.items (λ n some. same n (omega (arith, some))) ∙ named.assume;
        goals = list_same c c' own.goals.items (λ n some. same n (omega (arith, some))) ∙ named.goals;
        first = lists_same own.first (λ n some. same n (omega (arith, some))) ∙ named.first;
        later = lists_same own.step.later (λ n some. same n (omega (arith, some))) ∙ named.later;
        early = λ declared. early_same (lines_of g to Later) own.early (λ n some. same n (omega (arith, some))) (named.early (subst IsDeclaredOrder order declared));
        plain = λ declared. named.plain (subst IsDeclaredOrder order declared);
      }

-- ---- what a jam lists is among the diagrams

module _ (g : GameData) (c : Contents) (ds : List Diagram) (declared : IsDeclared c) where
  -- what is told of a node's function is told of its diagram's value
  as_value : (P : Function → Type 0) (n : ℕ) → P (function_at c n) → P (value (diagram_of c.state n))
  as_value P n is = subst P (declared_function c (diagram_of c.state n) declared) is

  abbrev HasRoots : List ℕ → Type 0
  HasRoots roots = (n : ℕ) → Contains roots n → Contains ds (diagram_of c.state n)

  content_has : (content : Content) → HasRoots (kept_in content) → SaysAll g c (shown_in c content) → HasDiagrams g ds (shown_meaning g (shown_in c content))
  content_has (Region root) has says = (diagram_of c.state root, has root (contains_first root []), as_value (λ f. Tells g Now f (set_at g Now (function_at c root))) root (told_itself g c (function_at c root) says))
  content_has (OutputsKept when root) has says = (diagram_of c.state root, has root (contains_first root []), as_value (λ f. Tells g Next f (set_at g Next (function_at c root))) root (told_next g c (function_at c root) says))
  content_has (InputsKept when root leads) has says = (
    (diagram_of c.state root, has root (contains_first root (leads ∷ [])), as_value (λ f. Tells g Now f (set_at g Now (function_at c root))) root (told_itself g c (function_at c root) says.0)),
    (diagram_of c.state leads, has leads (contains_later root leads (leads ∷ []) (contains_first leads [])), as_value (LeadsInto g when (set_at g Now (function_at c root))) leads says.1),
  )

  content_listed : (content : Content) (slots : List Slot) → HasRoots (kept_in content) → SaysAll g c (shown_in c content) → ((m : Meaning) → Contains (listed g c slots) m → HasDiagrams g ds m) → (m : Meaning) → Contains (meanings_in g (shown_in c content ∷ map (shown_once c) slots)) m → HasDiagrams g ds m
  content_listed (Region root) slots has says rest m (zero, below, is) = subst (HasDiagrams g ds) is (content_has (Region root) has says)
  content_listed (Region root) slots has says rest m (suc k, below, is) = rest m (k, omega (arith, below), is)
  content_listed (OutputsKept when root) slots has says rest m (zero, below, is) = subst (HasDiagrams g ds) is (content_has (OutputsKept when root) has says)
  content_listed (OutputsKept when root) slots has says rest m (suc k, below, is) = rest m (k, omega (arith, below), is)
  content_listed (InputsKept when root leads) slots has says rest m (zero, below, is) = subst (HasDiagrams g ds) is (content_has (InputsKept when root leads) has says)
  content_listed (InputsKept when root leads) slots has says rest m (suc k, below, is) = rest m (k, omega (arith, below), is)

  slots_have : (slots : List Slot) → HasRoots (all_roots slots) → AllSay g c slots → (m : Meaning) → Contains (listed g c slots) m → HasDiagrams g ds m
  slots_have [] has says = λ m there. absurd (let below = there.1 in omega (arith, below))
  slots_have (slot ∷ slots) has says =
      at slot (λ n there. has n (Contains-append_left (slot_roots slot) (all_roots slots) n there)) says.0
      (slots_have slots (λ n there. has n (Contains-append_right (slot_roots slot) (all_roots slots) n there)) says.1)
    where
      at : (slot : Slot) → HasRoots (slot_roots slot) → SaysAll g c (shown_once c slot) → ((m : Meaning) → Contains (listed g c slots) m → HasDiagrams g ds m) → (m : Meaning) → Contains (meanings_in g (shown_once c slot ∷ map (shown_once c) slots)) m → HasDiagrams g ds m
      at (Free next) has says rest = rest
      at (Taken content) has says rest = content_listed content slots has says rest
      at (Spent content) has says rest = content_listed content slots has says rest

-- ---- at a refusal

all_from : (P : ℕ → Type 0) (ns : List ℕ) → ((n : ℕ) → Contains ns n → P n) → AllByRecursion P ns
all_from P [] each = tt
all_from P (n ∷ ns) each = (each n (contains_first n ns), all_from P ns (λ m there. each m (contains_later n m ns there)))

itself_one : (n : ℕ) → 0 < one_at n n
itself_one n = let one = one_itself n in omega (arith, one)

within_there : (content : Content) (n : ℕ) → Contains (kept_in content) n → 0 < roots_within n content
within_there (Region root) n (zero, below, is) = subst (λ (k : ℕ). 0 < one_at k root) is (itself_one root)
within_there (Region root) n (suc k, below, is) = absurd (omega (arith, below))
within_there (OutputsKept when root) n (zero, below, is) = subst (λ (k : ℕ). 0 < one_at k root) is (itself_one root)
within_there (OutputsKept when root) n (suc k, below, is) = absurd (omega (arith, below))
within_there (InputsKept when root leads) n (zero, below, is) = let here = subst (λ (k : ℕ). 0 < one_at k root) is (itself_one root) in omega (arith, here)
within_there (InputsKept when root leads) n (suc zero, below, is) = let here = subst (λ (k : ℕ). 0 < one_at k leads) is (itself_one leads) in omega (arith, here)
within_there (InputsKept when root leads) n (suc (suc k), below, is) = absurd (omega (arith, below))

slots_there : (slots : List Slot) (n : ℕ) → Contains (all_roots slots) n → 0 < roots_of_slots n slots
slots_there [] n there = absurd (let below = there.1 in omega (arith, below))
slots_there (slot ∷ slots) n there = elim (Contains-append_cases (slot_roots slot) (all_roots slots) n there) [
  | inl here ↦ (let some = at slot here in omega (arith, some))
  | inr later ↦ (let some = slots_there slots n later in omega (arith, some))
]
  where
    at : (slot : Slot) → Contains (slot_roots slot) n → 0 < roots_of_slot n slot
    at (Free next) there = absurd (let below = there.1 in omega (arith, below))
    at (Taken content) there = within_there content n there
    at (Spent content) there = within_there content n there

module _ {V : Type 0} (g : GameData) (own : Own) (lists : NextLevels) (c c' : Contents) (slots : List Slot) (sound : IsSound g c' own slots) (unspent : NoneSpent slots) (levels_are : c'.state.table.levels ≡ level_count (state_domains g)) (lists_are : AreLevelsOf g lists) (named : ∥ OwnIsNamed g lists.to.items c' own ∥₁)
    (same : SameRoots c.state c'.state) (keeps : KeepsRoots c c') (N : Function → Type 0) (result : Result V Halt) (cause : IsDeclared c' → OwnIsNamed g lists.to.items c' own → HasCause c c' result N) (is : result ≡ Err halt.Budget)
    (asked : Call) (arguments : List Meaning) (calls : OwnIsNamed g lists.to.items c' own → (f : Function) → N f → IsOfGame g f ⊎ IsOfCall g asked arguments f) where
  abbrev the_jam : Jam
  the_jam = record { call = asked; arguments = arguments; held = listed g c' slots }

  module _ (declared : IsDeclared c') (own_is : OwnIsNamed g lists.to.items c' own) (says : AllSay g c' slots) where
    root_held : (n : ℕ) → IsRoot c'.state n → IsHeldAt g the_jam (function_at c' n)
    root_held n root = elim (cases_lt 0 (roots_of_own n own)) [
      | inl here ↦ inr (inl (own_named g c' lists.to.items lists_are.to own sound.own_fits.nothing own_is declared n here))
      | inr none ↦ inl (slots_listed g c' slots says n (let counted = sound.counted n in omega (arith, root, counted, none)))
    ]

    is_held : (d : Diagram) → IsHeldSince c N d → IsHeldAt g the_jam (value d)
    is_held d (inl kept) =
        let root : IsRoot c'.state kept.0 = subst (λ (k : ℕ). 0 < k) (sym (same kept.0)) kept.1 in
        subst (IsHeldAt g the_jam) (declared_function c' (diagram_of c'.state kept.0) declared ∙ sym (ap value (kept.2 ∙ sym (keeps.meaning kept.0 kept.1)))) (root_held kept.0 root)
    is_held d (inr n) = elim (calls own_is (value d) (subst N (declared_function c d (subst IsDeclaredOrder keeps.order declared)) n)) [ inl here ↦ inr (inl here) | inr here ↦ inr (inr here) ]

    crowd : IsCrowdedBy c'.state.table (λ d. IsHeldAt g the_jam (value d))
    crowd = crowded_wider c'.state.table (IsHeldSince c N) (λ d. IsHeldAt g the_jam (value d)) is_held ((cause declared own_is).crowded is)

    slot_root : (n : ℕ) → Contains (all_roots slots) n → IsLive c'.state.table n × IsHeldAt g the_jam (value (diagram_at c'.state.table n))
    slot_root n there =
        let counted = sound.counted n in
        let some = slots_there slots n there in
        let root : IsRoot c'.state n = omega (arith, counted, some) in
        ((cause declared own_is).rooted is n (subst (λ (k : ℕ). 0 < k) (same n) root), subst (IsHeldAt g the_jam) (declared_function c' (diagram_of c'.state n) declared) (root_held n root))

    fills : FillsBudget g c'.state.table.budget the_jam
    fills =
        let t = c'.state.table in
        let held = IsHeldAt g the_jam in
        let kept = all_from (λ n. IsLive t n × held (value (diagram_at t n))) (all_roots slots) slot_root in
        let together = fills_with t held crowd (all_roots slots) kept in
        record { sets = together.0; lists = slots_have g c' together.0 declared slots together.2 says; fill = subst (λ (n : ℕ). FillTogether n t.budget held together.0) levels_are together.1 }

  -- all that was held fills the budget
  pub jam_made : FillsIn g c' the_jam
  jam_made some =
      let told = bound_told c' some in
      subst (λ (n : ℕ). ∥ FillsBudget g n the_jam ∥₁) (sym told.1) (∥∥₁_map₂ named (all_say g c' slots unspent sound.slots_fit) (fills told.0))
