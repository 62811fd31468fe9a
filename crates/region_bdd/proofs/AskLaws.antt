-- What is left after a diagram was asked for and given back, and what it tells of the first move.
use Rattle.std.proofs.Common.{◌≡◌, ◌↔◌, ◌⊎◌, ℕ, Bool, true, false, not, List, ◌++◌, map, Option, None, Result, Ok, Err, IfOk, IfErr, IsTrue, refl, sym, ◌∙◌, ap, subst}
use Rattle.std.proofs.lemmas.Bool.{false≢true}
use Rattle.spec_model.specs.Diagrams.{Bits, Function}
use Rattle.spec_model.specs.Games.{GameData}
use Rattle.spec_model.specs.Steps.{Before}
use Rattle.regions.specs.Kept.{Meaning, Call, Stays, Halts, IsSameGame}
use Rattle.regions.specs.declared.types.Halt.{Halt}
use Rattle.regions.specs.declared.types.Halt.TheVariants as halt
use Rattle.regions.specs.declared.types.When.TheVariants.{First}
use Rattle.bdd_store.specs.State.{IsRoot}
use Rattle.bdd_sets.proofs.ShiftLemmas.{fits_kept}
use Rattle.region_bdd.proofs.FewNodes.{few_nodes}
use Rattle.bdd_bits.specs.Contents.{Contents}
use Rattle.bit_compile.specs.Making.{Makes}
use Rattle.bit_compile.proofs.MakingLemmas.{is_root}
use Rattle.bdd_sets.specs.declared.moves.NextLevels.{NextLevels}
use Rattle.bdd_sets.specs.ToldMoves.{TellsBefore}
use Rattle.bdd_sets.proofs.ForceLemmas.{same_truth}
use Rattle.region_bdd.specs.declared.slots.Slot.{Slot}
use Rattle.region_bdd.specs.declared.own.Own.{Own}
use Rattle.region_bdd.specs.declared.own.Refused.{Refused}
use Rattle.region_bdd.specs.Slots.{shown_of}
use Rattle.region_bdd.specs.Asking.{Answers, SettlesAnswer}
use Rattle.region_bdd.specs.Crowding.{IsOfCall, FillsIn}
use Rattle.bit_compile.specs.Crowding.{HasCause}
use Rattle.bdd_sets.specs.NamedGame.{IsOfGame}
use Rattle.region_bdd.proofs.Refusals.{jam_of, still_named, refusal_fills, is_jammed}
use Rattle.region_bdd.specs.Object.{IsObject, OwnIsNamed, call_of, argument_in, kept_of}
use Rattle.region_bdd.proofs.BoundLaws.{same_bound}
use Rattle.region_bdd.proofs.ObjectLaws.{none_refused, sound_same, stays_same, halts_memory, halts_budget, early_fits}

-- what is told before the first move is one truth value
module _ (g : GameData) (f h : Function) (r : Before → Bool) (told : TellsBefore g First f r) (nothing : h ≡ (λ b. false)) where
  says : (b : Bits) → f b ≡ r None
  says b = told.at_time None b refl tt

  off : f ≡ h → r None ≡ false
  off same = sym (says (λ level. false)) ∙ ap (λ (k : Function). k (λ level. false)) (same ∙ nothing)

  empty : r None ≡ false → f ≡ h
  empty is = (λ i b. (says b ∙ is) i) ∙ sym nothing

  pub first_empty : (said : Bool) → (IsTrue said ↔ f ≡ h) → said ≡ not (r None)
  first_empty said answer = same_truth said (not (r None)) (λ e. ap not (off (answer.0 e))) (λ e. answer.1 (empty (turned (r None) e)))
    where
      turned : (x : Bool) → not x ≡ true → x ≡ false
      turned true e = absurd (false≢true e)
      turned false e = refl

  pub first_not_empty : (said : Bool) → (IsTrue said ↔ (f ≡ h → ⊥)) → said ≡ r None
  first_not_empty said answer = same_truth said (r None) (λ e. some (r None) refl (answer.0 e)) (λ e. answer.1 (λ same. false≢true (sym (off same) ∙ e)))
    where
      some : (x : Bool) → r None ≡ x → (f ≡ h → ⊥) → x ≡ true
      some true is differ = refl
      some false is differ = absurd (differ (empty is))

-- ---- what the call answers and leaves

pub record Told (g : GameData) (own : Own) (lists : NextLevels) (c c' : Contents) (slots : List Slot) (was refused : Option Refused) (result : Result Bool Halt) (fact : Type 0) (asked : Call) (arguments : List Meaning) : Type 0 where
  pub answer : IfOk result (λ said. IsTrue said ↔ fact)
  pub stays : IfOk result (λ said. Stays (kept_of g c slots was) (kept_of g c' slots refused))
  pub halted : IfErr result (Halts (kept_of g c slots was) (kept_of g c' slots refused) asked arguments)
  pub same : IsSameGame (kept_of g c slots was) (kept_of g c' slots refused)
  pub object : IsObject g c' own lists slots refused

module _ (g : GameData) (own : Own) (lists : NextLevels) (c c' : Contents) (slots : List Slot) (object : IsObject g c own lists slots None) (fact : Type 0) (why : Refused) (arguments : List Meaning)
    (arguments_are : argument_in g (map (shown_of c) slots) why.first ++ argument_in g (map (shown_of c) slots) why.second ≡ arguments) where
  still : Answers c c' (Err halt.Memory) fact → IsObject g c' own lists slots None
  still asked = record { made = object.made; fits = fits_kept g lists.to.items c c' asked.keeps object.fits; lists_are = object.lists_are; early = early_fits g own c c' slots object.sound asked.keeps lists object.early; named = still_named g own lists c c' slots object asked.keeps; sound = sound_same g own c c' slots object.sound asked.keeps asked.roots; unspent = object.unspent; tight = tt; jammed = tt }

  told_plain : (made : Result Bool Halt) → Answers c c' made fact → (made ≡ Err halt.Budget → FillsIn g c' (jam_of g c' slots (call_of why.asked) arguments)) → (result : Result Bool Halt) (refused : Option Refused) → SettlesAnswer refused made result why → Told g own lists c c' slots None refused result fact (call_of why.asked) arguments
  told_plain (Ok said) asked fills result refused settles =
      subst (λ (r : Result Bool Halt). Told g own lists c c' slots None refused r fact (call_of why.asked) arguments) (sym settles.0)
      (subst (λ (o : Option Refused). Told g own lists c c' slots None o (Ok said) fact (call_of why.asked) arguments) (sym settles.1)
      (record {
        answer = asked.answer;
        stays = stays_same g own c c' slots object.sound asked.keeps None;
        halted = tt;
        same = record { game = refl; bound = same_bound c c' asked.keeps };
        object = record { made = object.made; fits = fits_kept g lists.to.items c c' asked.keeps object.fits; lists_are = object.lists_are; early = early_fits g own c c' slots object.sound asked.keeps lists object.early; named = still_named g own lists c c' slots object asked.keeps; sound = sound_same g own c c' slots object.sound asked.keeps asked.roots; unspent = object.unspent; tight = tt; jammed = tt };
      }))
  told_plain (Err halt.Memory) asked fills result refused settles =
      subst (λ (r : Result Bool Halt). Told g own lists c c' slots None refused r fact (call_of why.asked) arguments) (sym settles.0)
      (subst (λ (o : Option Refused). Told g own lists c c' slots None o (Err halt.Memory) fact (call_of why.asked) arguments) (sym settles.1)
      (record {
        answer = tt;
        stays = tt;
        halted = halts_memory g own c c' slots object.sound asked.keeps (call_of why.asked) arguments;
        same = record { game = refl; bound = same_bound c c' asked.keeps };
        object = still asked;
      }))
  told_plain (Err halt.Budget) asked fills result refused settles =
      subst (λ (r : Result Bool Halt). Told g own lists c c' slots None refused r fact (call_of why.asked) arguments) (sym settles.0)
      (subst (λ (o : Option Refused). Told g own lists c c' slots None o (Err halt.Budget) fact (call_of why.asked) arguments) (sym settles.1)
      (record {
        answer = tt;
        stays = tt;
        halted = halts_budget g own c c' slots object.sound asked.keeps why (call_of why.asked) arguments object.unspent refl arguments_are;
        same = record { game = refl; bound = same_bound c c' asked.keeps };
        object = record { made = object.made; fits = fits_kept g lists.to.items c c' asked.keeps object.fits; lists_are = object.lists_are; early = early_fits g own c c' slots object.sound asked.keeps lists object.early; named = still_named g own lists c c' slots object asked.keeps; sound = sound_same g own c c' slots object.sound asked.keeps asked.roots; unspent = tt; tight = few_nodes c'.state.table (asked.full refl); jammed = is_jammed g own lists c c' slots object asked.keeps why arguments arguments_are (fills refl) };
      }))

pub told : (g : GameData) (own : Own) (lists : NextLevels) (c c' : Contents) (slots : List Slot) (was refused : Option Refused) (object : IsObject g c own lists slots was) → (kept_of g c slots was).jam ≡ None → (fact : Type 0) (why : Refused) (arguments : List Meaning) →
    argument_in g (map (shown_of c) slots) why.first ++ argument_in g (map (shown_of c) slots) why.second ≡ arguments → (made result : Result Bool Halt) → Answers c c' made fact → (N : Function → Type 0) → HasCause c c' made N → (OwnIsNamed g lists.to.items c' own → (h : Function) → N h → IsOfGame g h ⊎ IsOfCall g (call_of why.asked) arguments h) → (given : Refused) → given ≡ why → SettlesAnswer refused made result given → Told g own lists c c' slots was refused result fact (call_of why.asked) arguments
told g own lists c c' slots was refused object free fact why arguments are made result asked N cause calls given is_given settles =
    let none = none_refused g c slots was free in
    let object' : IsObject g c own lists slots None = subst (λ (o : Option Refused). IsObject g c own lists slots o) none object in
    subst (λ (o : Option Refused). Told g own lists c c' slots o refused result fact (call_of why.asked) arguments) (sym none)
    (told_plain g own lists c c' slots object' fact why arguments are made asked (refusal_fills g own lists c c' slots object' asked.keeps asked.roots N made (λ declared own_is. cause) (call_of why.asked) arguments calls) result refused (subst (SettlesAnswer refused made result) is_given settles))

pub answers_by : (result : Result Bool Halt) (fact : Type 0) (x : Bool) (Left : Type 0) → IfOk result (λ said. IsTrue said ↔ fact) → IfOk result (λ said. Left) → ((said : Bool) → (IsTrue said ↔ fact) → said ≡ x) → IfOk result (λ said. (said ≡ x) × Left)
answers_by (Ok said) fact x Left answer left by = (by said answer, left)
answers_by (Err h) fact x Left answer left by = tt

-- what was made is kept
pub roots_made : (old new : Contents) (made : Result ℕ Halt) (f : Function) → Makes old new made f → IfOk made (λ r. IsRoot new.state r)
roots_made old new (Ok r) f makes = is_root old new r f makes
roots_made old new (Err h) f makes = tt
