-- What a set with the inputs that lead into it needs of the object, and what is left of making it.
use Rattle.std.proofs.Common.{◌≡◌, ℕ, not, Result, Ok, Err, IsErrAnd, List, Option, sym, ◌∙◌, ap, subst, arith, is_ok}
use Rattle.std.proofs.lemmas.Bool.{false≢true}
use Rattle.spec_model.specs.Diagrams.{Function, shifted}
use Rattle.spec_model.specs.Games.{GameData}
use Rattle.regions.specs.declared.types.Halt.{Halt}
use Rattle.regions.specs.declared.types.Halt.TheVariants as halt
use Rattle.regions.specs.declared.types.When.{When}
use Rattle.regions.specs.declared.types.When.TheVariants.{First, Later}
use Rattle.game_values.specs.declared.seen.At.TheVariants.{Next}
use Rattle.bdd_store.specs.State.{IsRoot}
use Rattle.bdd_bits.specs.Contents.{Contents, function_at}
use Rattle.bdd_ops.specs.Calls.{negated}
use Rattle.bit_compile.specs.Making.{Makes}
use Rattle.bit_compile.proofs.MakingLemmas.{is_root, root_added}
use Rattle.bdd_sets.specs.declared.moves.NextLevels.{NextLevels}
use Rattle.bdd_sets.specs.StateBits.{Tells}
use Rattle.bdd_sets.specs.ToldMoves.{TellsMoves, some_leads}
use Rattle.bdd_sets.specs.Members.{AreMembers, move_functions, reply_of}
use Rattle.bdd_sets.specs.Forcing.{FitMoves}
use Rattle.bdd_sets.proofs.SpentLemmas.{function_kept}
use Rattle.bdd_sets.proofs.SetLemmas.{told_at}
use Rattle.bdd_sets.proofs.ShiftLemmas.{tells_next}
use Rattle.bdd_sets.proofs.ForceLemmas.{tells_leads, tells_negated}
use Rattle.region_bdd.specs.declared.slots.Content.TheVariants.{Region}
use Rattle.region_bdd.specs.declared.slots.Slot.{Slot}
use Rattle.region_bdd.specs.declared.slots.BddRegion.{BddRegion}
use Rattle.region_bdd.specs.declared.own.Own.{Own}
use Rattle.region_bdd.specs.declared.own.Refused.{Refused}
use Rattle.region_bdd.specs.Slots.{HasContent}
use Rattle.region_bdd.specs.Leading.{members_at, leading_in, MakesTwo}
use Rattle.region_bdd.specs.Object.{IsObject, kept_of}
use Rattle.region_bdd.proofs.AlikeLaws.{has_moves}
use Rattle.region_bdd.proofs.SetCalls.{later_roots, region_tells}
use Rattle.region_bdd.proofs.StartLaws.{first_roots}

-- ---- two roots

-- a second root is kept besides one that was made
pub two_kept : (base old new : Contents) (t made root : ℕ) (h : Function) → Makes base old (Ok made) h → IsRoot base.state t → Makes old new (Ok root) (function_at old t) → MakesTwo base new (Ok (root, made)) (function_at base t) h
two_kept base old new t made root h first kept second =
    record {
      first = second.meaning ∙ function_kept base old first.keeps t kept;
      second = function_kept old new second.keeps made (is_root base old made h first) ∙ first.meaning;
      added = λ n. (let one = first.added n in let two = second.added n in omega (arith, one, two));
      refused = tt;
      keeps = record {
        levels = second.keeps.levels ∙ first.keeps.levels;
        budget = second.keeps.budget ∙ first.keeps.budget;
        order = second.keeps.order ∙ first.keeps.order;
        meaning = λ n there. second.keeps.meaning n (root_added base old made h first n there) ∙ first.keeps.meaning n there;
      };
      full = λ e. absurd (false≢true (sym (ap is_ok e)));
    }

refused_both : (base new : Contents) (e : Halt) (f g h : Function) → Makes base new (Err e) g → MakesTwo base new (Err e) f h
refused_both base new e f g h makes = record { first = tt; second = tt; added = tt; refused = makes.refused; keeps = makes.keeps; full = λ is. makes.full (same_halt is) }
  where
    same_halt : ◌≡◌ {A = Result (ℕ × ℕ) Halt} (Err e) (Err halt.Budget) → ◌≡◌ {A = Result ℕ Halt} (Err e) (Err halt.Budget)
    same_halt is = let one : e ≡ halt.Budget = cc (is) in ap (λ (x : Halt). Err x) one

-- a refusal that is handed on
pub refused_two : (base new : Contents) (r : Result (ℕ × ℕ) Halt) (e : Halt) (f g h : Function) → IsErrAnd r (λ y. y ≡ e) → Makes base new (Err e) g → MakesTwo base new r f h
refused_two base new (Ok p) e f g h is makes = absurd is
refused_two base new (Err y) e f g h is makes = refused_both base new y f g h (subst (λ (x : Halt). Makes base new (Err x) g) (sym is) makes)

-- ---- the lines of moves

module _ (g : GameData) (own : Own) (lists : NextLevels) (c : Contents) (slots : List Slot) (refused : Option Refused) (object : IsObject g c own lists slots refused) where
  pub members_kept : (when : When) → AreMembers c (members_at own when)
  members_kept First = first_roots g own lists c slots refused object
  members_kept Later = later_roots g own lists c slots refused object

  pub members_fit : (when : When) → FitMoves g when (move_functions c (members_at own when))
  members_fit First = object.sound.own_fits.first
  members_fit Later = object.sound.own_fits.later

  -- where every legal output leads into a held region
  pub leading_tells : (when : When) (r : BddRegion) (root : ℕ) → HasContent slots r.slot (Region root) → TellsMoves g when (leading_in (move_functions c (members_at own when)) lists (function_at c root)) (λ b s. not (some_leads g (λ s. not ((kept_of g c slots refused).set r s)) b s.position.input))
  leading_tells when r root here =
      let set = (kept_of g c slots refused).set r in
      let m = move_functions c (members_at own when) in
      let fit = members_fit when in
      let moves = has_moves g object.made in
      let target = shifted lists.to.items (function_at c root) in
      let there : Tells g Next target set = tells_next g lists.to.items object.lists_are.to (function_at c root) set (region_tells g own lists c slots refused object r root here) in
      tells_negated g when (reply_of m lists.reply.items (negated target)) (λ b s. some_leads g (λ s. not (set s)) b s.position.input)
      (tells_leads g when moves.closed lists.reply.items object.lists_are.reply (λ s. not (set s)) (negated target) m.outputs m.update (λ t bits at has. ap not (told_at g Next target set there t bits at has)) fit.outputs fit.outputs_next fit.update)
