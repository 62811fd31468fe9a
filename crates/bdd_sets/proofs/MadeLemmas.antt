-- Members of moves, from the lists of roots that were made one after the other.
use Rattle.std.proofs.Common.{◌≡◌, ℕ, ◌+◌, ◌<◌, Bool, true, false, ◌&&◌, Vec, Result, Ok, Err, IsErrAnd, List, [], ◌∷◌, ◌++◌, slice_index, length, take, get_or, append_assoc, refl, sym, ◌∙◌, ap, subst, arith}
use Rattle.std.proofs.lemmas.Bool.{and_parts}
use Rattle.std.proofs.lemmas.List.{map-append}
use Rattle.std.proofs.lemmas.List.Folds.{list_all-append}
use Rattle.std.specs.declared.alloc.Global.{Global}
use Rattle.std.specs.List.{Contains}
use Rattle.spec_model.specs.Diagrams.{Function}
use Rattle.spec_model.specs.Games.{GameData, State}
use Rattle.spec_model.specs.Steps.{Before, assumptions_hold, guarantees_hold}
use Rattle.spec_model.specs.Sets.{all_states}
use Rattle.spec_model.specs.WellMade.{WellMade}
use Rattle.regions.specs.declared.types.When.{When}
use Rattle.regions.specs.declared.types.Halt.{Halt}
use Rattle.game_values.specs.declared.seen.At.TheVariants.{Next}
use Rattle.bdd_store.specs.State.{IsRoot, roots_at}
use Rattle.bdd_bits.specs.Contents.{Contents, function_at}
use Rattle.bdd_bits.specs.Calls.{KeepsRoots, SameNodes}
use Rattle.bit_compile.specs.Making.{Makes}
use Rattle.bit_compile.specs.Crowding.{HasCause}
use Rattle.bit_compile.specs.Domains.{state_domains}
use Rattle.bit_compile.specs.Proper.{proper}
use Rattle.bit_compile.proofs.Causes.{cause_handed, cause_ok}
use Rattle.bit_compile.proofs.CyclesLemmas.{take_next}
use Rattle.bdd_sets.specs.declared.moves.Members.{Members}
use Rattle.bdd_sets.specs.declared.lines.Side.TheVariants.{Assumptions, Guarantees}
use Rattle.bdd_sets.specs.StateBits.{Tells}
use Rattle.bdd_sets.specs.MoveBits.{LeadsToNext}
use Rattle.bdd_sets.specs.ToldMoves.{TellsMoves, IsOfNext, follows}
use Rattle.bdd_sets.specs.Members.{AreRoots, AreMembers, all_true, functions_at, MoveFunctions}
use Rattle.bdd_sets.specs.Forcing.{FitMoves}
use Rattle.bdd_sets.specs.Lists.{times_in, MakesList}
use Rattle.bdd_sets.specs.Lines.{functions_judged}
use Rattle.bdd_sets.specs.NamedMoves.{MoveLists}
use Rattle.bdd_sets.specs.NamedGame.{lines_of, IsOfGame}
use Rattle.bdd_sets.specs.MadeMembers.{MakesMembers}
use Rattle.bdd_sets.proofs.SetLemmas.{told_at}
use Rattle.bdd_sets.proofs.SpentLemmas.{functions_kept}
use Rattle.bdd_sets.proofs.ListLemmas.{list_roots, list_before, list_back, times_here}
use Rattle.bdd_sets.proofs.CauseLemmas.{list_cause}
use Rattle.bdd_sets.proofs.LineLemmas.{side_told}

-- one root more
pub functions_more : (c : Contents) (fs : List Function) (ms : List ℕ) (i m : ℕ) → i < length ms → m ≡ get_or ms i m → (fs ++ functions_at c (take i ms)) ++ function_at c m ∷ [] ≡ fs ++ functions_at c (take (i + 1) ms)
functions_more c fs ms i m below is =
    let next = take_next ms i m below is in
    let more = map-append (function_at c) (take i ms) (m ∷ []) in
    rw append_assoc (ap (λ (hs : List Function). fs ++ hs) (sym (ap (functions_at c) next ∙ more)))

-- ---- conjunctions of two lists

module _ (g : GameData) (when : When) where
  both_told : (fs hs : List Function) (r q : Before → State → Bool) → TellsMoves g when (all_true fs) r → TellsMoves g when (all_true hs) q → TellsMoves g when (all_true (fs ++ hs)) (λ b s. r b s && q b s)
  both_told fs hs r q first second =
      record {
        at_moves = λ b s bits time here before has.
            list_all-append (λ (f : Function). f bits) fs hs
            ∙ (ap (λ (p : Bool). p && all_true hs bits) (first.at_moves b s bits time here before has) ∙ ap (λ (p : Bool). r b s && p) (second.at_moves b s bits time here before has));
      }

  first_of_next : (fs hs : List Function) → IsOfNext g (all_true fs) → IsOfNext g (all_true (fs ++ hs))
  first_of_next fs hs next bits e = next bits (and_parts (all_true fs bits) (all_true hs bits) (sym (list_all-append (λ (f : Function). f bits) fs hs) ∙ e)).0

  -- the next states after others
  module _ (p : Function) (states : Tells g Next p (all_states g)) where
    next_told : (fs : List Function) (r : Before → State → Bool) → TellsMoves g when (all_true fs) r → TellsMoves g when (all_true (fs ++ p ∷ [])) r
    next_told fs r told =
        record {
          at_moves = λ b s bits time here before has.
              list_all-append (λ (f : Function). f bits) fs (p ∷ [])
              ∙ (ap (λ (c : Bool). all_true fs bits && (c && true)) (told_at g Next p (all_states g) states s bits here has ∙ here)
              ∙ (and_true (all_true fs bits) ∙ told.at_moves b s bits time here before has));
        }
      where
        and_true : (c : Bool) → (c && (true && true)) ≡ c
        and_true true = refl
        and_true false = refl

    last_of_next : (fs : List Function) → IsOfNext g (all_true (fs ++ p ∷ []))
    last_of_next fs bits e =
        let last = (and_parts (all_true fs bits) (all_true (p ∷ []) bits) (sym (list_all-append (λ (f : Function). f bits) fs (p ∷ [])) ∙ e)).1 in
        states.states.elsewhere bits (and_parts (p bits) true last).0

-- ---- what the members are

module _ (g : GameData) (to : List ℕ) (when : When) (well : WellMade g) (leads : LeadsToNext g to) (states : Tells g Next (proper (state_domains g) Next) (all_states g)) where
  pub members_fit : (us : List Function) → TellsMoves g when (all_true us) (follows g) →
      FitMoves g when (record { inputs = all_true ((functions_judged g to Assumptions when ++ proper (state_domains g) Next ∷ []) ++ us); outputs = all_true (functions_judged g to Guarantees when ++ proper (state_domains g) Next ∷ []); update = all_true us })
  members_fit us told =
      let p = proper (state_domains g) Next in
      let asm = functions_judged g to Assumptions when in
      let gar = functions_judged g to Guarantees when in
      record {
        inputs = both_told g when (asm ++ p ∷ []) us (assumptions_hold g) (follows g) (next_told g when p states asm (assumptions_hold g) (side_told g to leads well Assumptions when)) told;
        inputs_next = first_of_next g when (asm ++ p ∷ []) us (last_of_next g when p states asm);
        outputs = next_told g when p states gar (guarantees_hold g) (side_told g to leads well Guarantees when);
        outputs_next = last_of_next g when p states gar;
        update = told;
      }

-- ---- three lists, one after the other

pub keeps_after : (a b c : Contents) → KeepsRoots a b → ((n : ℕ) → IsRoot a.state n → IsRoot b.state n) → KeepsRoots b c → KeepsRoots a c
keeps_after a b c first stays second =
    record {
      levels = second.levels ∙ first.levels;
      budget = second.budget ∙ first.budget;
      order = second.order ∙ first.order;
      meaning = λ n root. second.meaning n (stays n root) ∙ first.meaning n root;
    }

-- the first of two lists is kept
pub first_stays : (base mid old : Contents) (update outputs : Vec ℕ Global) (us os : List Function) → MakesList base mid (Ok update) us → MakesList mid old (Ok outputs) os → AreRoots old update.items
first_stays base mid old update outputs us os first second = λ i below. list_before mid old outputs os second _ (list_roots base mid update us first i below)

-- and its functions stay
pub first_is : (base mid old : Contents) (update outputs : Vec ℕ Global) (us os : List Function) → MakesList base mid (Ok update) us → MakesList mid old (Ok outputs) os → functions_at old update.items ≡ us
first_is base mid old update outputs us os first second = functions_kept mid old second.keeps update.items (list_roots base mid update us first) ∙ first.meaning

module _ (base mid old new : Contents) (update outputs inputs : Vec ℕ Global) (us os is : List Function) (first : MakesList base mid (Ok update) us) (second : MakesList mid old (Ok outputs) os) (third : MakesList old new (Ok inputs) is) where
  update_is : functions_at new update.items ≡ us
  update_is = functions_kept old new third.keeps update.items (first_stays base mid old update outputs us os first second) ∙ first_is base mid old update outputs us os first second

  outputs_is : functions_at new outputs.items ≡ os
  outputs_is = functions_kept old new third.keeps outputs.items (list_roots mid old outputs os second) ∙ second.meaning

  abbrev made : Members
  made = record { inputs = inputs; outputs = outputs; update = update }

  pub members_made : (g : GameData) (to : List ℕ) (when : When) → ◌≡◌ {A = MoveLists} (record { inputs = is; outputs = os; update = us }) (lines_of g to when) → FitMoves g when (record { inputs = all_true is; outputs = all_true os; update = all_true us }) → MakesMembers g to when base new (Ok made)
  members_made g to when same fit =
      record {
        fit = subst (λ (m : MoveFunctions). FitMoves g when m) (λ i. record { inputs = all_true (sym third.meaning i); outputs = all_true (sym outputs_is i); update = all_true (sym update_is i) }) fit;
        lines = (λ i. record { inputs = third.meaning i; outputs = outputs_is i; update = update_is i }) ∙ same;
        added = λ n. (let one = first.added n in let two = second.added n in let three = third.added n in omega (arith, one, two, three));
        refused = tt;
        keeps = keeps_after base old new (keeps_after base mid old first.keeps (list_before base mid update us first) second.keeps) (λ n root. list_before mid old outputs os second n (list_before base mid update us first n root)) third.keeps;
        cause = cause_ok base new made (IsOfGame g);
      }

-- ---- refusals

abbrev halt_or : {V : Type 0} → Halt → Result V Halt → Halt
halt_or a (Ok v) = a
halt_or a (Err h) = h

root_fails : (old new : Contents) (h : Halt) (fs : List Function) (f : Function) → MakesList old new (Err h) fs → Makes old new (Err h) f
root_fails old new h fs f list =
    record { meaning = tt; added = tt; refused = list.refused; keeps = list.keeps; full = λ e. list.full (ap (λ (k : Halt). Err k) (ap (halt_or h) e)) }

module _ (g : GameData) (to : List ℕ) (when : When) where
  members_fail : (old new : Contents) (h : Halt) (fs : List Function) → MakesList old new (Err h) fs → HasCause {V = Vec ℕ Global} old new (Err h) (IsOfGame g) → MakesMembers g to when old new (Err h)
  members_fail old new h fs list cause =
      record { fit = tt; lines = tt; added = tt; refused = list.refused; keeps = list.keeps; cause = cause_handed old new (Err h) (Err h) h (IsOfGame g) refl refl cause }

  -- a refusal that is handed on
  pub members_refused_by : (old new : Contents) (r : Result Members Halt) (h : Halt) (fs : List Function) → IsErrAnd r (λ y. y ≡ h) → MakesList old new (Err h) fs → HasCause {V = Vec ℕ Global} old new (Err h) (IsOfGame g) → MakesMembers g to when old new r
  members_refused_by old new (Ok m) h fs is list cause = absurd is
  members_refused_by old new (Err y) h fs is list cause =
      subst (λ (k : Halt). MakesMembers g to when old new (Err k)) (sym is) (members_fail old new h fs list cause)

  -- where a list after another is refused, the first is given back
  module _ (base old : Contents) (made : Vec ℕ Global) (us : List Function) (first : MakesList base old (Ok made) us) (named : (f : Function) → Contains us f → IsOfGame g f) (whole new : Contents) (h : Halt) (released : (n : ℕ) → roots_at whole.state n ≡ roots_at new.state n + times_in n made.items) (nodes : SameNodes whole new) where
    pub back_list : (fs gs : List Function) → MakesList old whole (Err h) fs → MakesList base new (Err h) gs
    back_list fs gs list = list_back base old made us first whole new h (λ s. true) gs (root_fails old whole h fs (λ s. true) list) released nodes

    pub back_cause : HasCause {V = Vec ℕ Global} old whole (Err h) (IsOfGame g) → HasCause {V = Vec ℕ Global} base new (Err h) (IsOfGame g)
    back_cause = list_cause (IsOfGame g) (IsOfGame g) (λ f is. is) base old made us first named whole new (Err h) (Err h) (λ e. (e, nodes.table))

    pub members_back : (fs : List Function) → MakesList old whole (Err h) fs → HasCause {V = Vec ℕ Global} old whole (Err h) (IsOfGame g) → MakesMembers g to when base new (Err h)
    members_back fs list cause = members_fail base new h [] (back_list fs [] list) (back_cause cause)

-- members that were made are kept
pub members_kept : (g : GameData) (to : List ℕ) (when : When) (old new : Contents) (m : Members) → MakesMembers g to when old new (Ok m) → AreMembers new m
members_kept g to when old new m makes =
    record {
      inputs = λ i below. (let here = times_here m.inputs.items i below in let all = makes.added (slice_index m.inputs.items i) in omega (arith, here, all));
      outputs = λ i below. (let here = times_here m.outputs.items i below in let all = makes.added (slice_index m.outputs.items i) in omega (arith, here, all));
      update = λ i below. (let here = times_here m.update.items i below in let all = makes.added (slice_index m.update.items i) in omega (arith, here, all));
    }
