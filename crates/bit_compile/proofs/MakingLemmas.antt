-- Single operations, and roots given back between them.
use Rattle.std.proofs.Common.{◌≡◌, ℕ, ◌+◌, ◌<◌, Bool, true, false, Result, Ok, Err, is_ok, not, ◌&&◌, ◌-◌, ◌^◌, nat_le, zero, suc, refl, sym, ◌∙◌, ap, subst, arith, cond}
use Rattle.std.proofs.lemmas.Bool.{false≢true}
use Rattle.std.proofs.lemmas.Bool.Decides.{nat_tests}
use Rattle.node_table.specs.Table.{diagram_at}
use Rattle.bdd_ops.specs.Functions.{joined, join_of}
use Rattle.spec_model.specs.Diagrams.{Diagram, Function}
use Rattle.bdd_store.specs.declared.fault.StoreFault.{StoreFault}
use Rattle.bdd_store.specs.declared.fault.StoreFault.TheVariants as fault
use Rattle.bdd_store.specs.State.{State, IsRoot, AddsRoot, SameRoots, IsFilled}
use Rattle.bdd_bits.specs.Contents.{Contents}
use Rattle.bdd_bits.specs.Calls.{GivesRoot, KeepsRoots, SameNodes}
use Rattle.bdd_bits.proofs.CallLemmas.{same_function}
use Rattle.regions.specs.declared.types.Halt.{Halt}
use Rattle.regions.specs.declared.types.Halt.TheVariants as halt
use Rattle.bit_compile.specs.Codes.{has_number}
use Rattle.bit_compile.specs.Making.{halted, Makes, MakesOnce, digit, with_digit}

pub root_stays : (old new : State) (n : ℕ) → SameRoots old new → IsRoot old n → IsRoot new n
root_stays old new n same root = subst (λ (k : ℕ). 0 < k) (sym (same n)) root

pub keeps_then : (a b c : Contents) → KeepsRoots a b → SameRoots a.state b.state → KeepsRoots b c → KeepsRoots a c
keeps_then a b c first same second =
    record {
      levels = second.levels ∙ first.levels;
      budget = second.budget ∙ first.budget;
      order = second.order ∙ first.order;
      meaning = λ n root. second.meaning n (root_stays a.state b.state n same root) ∙ first.meaning n root;
    }

pub not_budget : {n : ℕ} {E : Type 0} → Ok n ≡ Err halt.Budget → E
not_budget e = absurd (false≢true (sym (ap is_ok e)))

abbrev is_memory : Result ℕ Halt → Bool
is_memory (Ok n) = false
is_memory (Err halt.Budget) = false
is_memory (Err halt.Memory) = true

not_memory : {E : Type 0} (r : Result ℕ Halt) → is_memory r ≡ true → r ≡ Err halt.Budget → E
not_memory r is e = absurd (false≢true (sym (ap is_memory e) ∙ is))

-- what a call of the store gives, its refusal told as a halt
pub told_once : (old new : Contents) (r : Result ℕ StoreFault) (f : Function) (MayMake : Diagram → Type 0) → GivesRoot old new r f MayMake → MakesOnce old new (halted r) f MayMake
told_once old new (Ok r) f MayMake gives =
    record {
      makes = record { meaning = gives.meaning; added = gives.added; refused = gives.refused; keeps = gives.keeps; full = λ e. not_budget e };
      cause = λ e. not_budget e;
    }
told_once old new (Err fault.Full) f MayMake gives =
    record {
      makes = record { meaning = gives.meaning; added = gives.added; refused = gives.refused; keeps = gives.keeps; full = λ e. (gives.full refl).full };
      cause = λ e. gives.full refl;
    }
told_once old new (Err fault.Memory) f MayMake gives =
    record {
      makes = record { meaning = gives.meaning; added = gives.added; refused = gives.refused; keeps = gives.keeps; full = λ e. not_memory (Err halt.Memory) refl e };
      cause = λ e. not_memory (Err halt.Memory) refl e;
    }

pub told_makes : (old new : Contents) (r : Result ℕ StoreFault) (f : Function) (MayMake : Diagram → Type 0) → GivesRoot old new r f MayMake → Makes old new (halted r) f
told_makes old new r f MayMake gives = (told_once old new r f MayMake gives).makes

-- a call of the store that isn't refused for want of nodes
pub never_told : (r : Result ℕ StoreFault) → (r ≡ Err fault.Full → ⊥) → halted r ≡ Err halt.Budget → ⊥
never_told (Ok n) never e = not_budget e
never_told (Err fault.Full) never e = never refl
never_told (Err fault.Memory) never e = not_memory (Err halt.Memory) refl e

-- a refusal is one of whatever was to be made
pub fails : (old new : Contents) (h : Halt) (f g : Function) → Makes old new (Err h) f → Makes old new (Err h) g
fails old new h f g makes = record { meaning = tt; added = tt; refused = makes.refused; keeps = makes.keeps; full = makes.full }

pub root_added : (old mid : Contents) (b : ℕ) (g : Function) → Makes old mid (Ok b) g → (n : ℕ) → IsRoot old.state n → IsRoot mid.state n
root_added old mid b g makes n root = let more = makes.added n in omega (arith, more, root)

pub is_root : (old mid : Contents) (b : ℕ) (g : Function) → Makes old mid (Ok b) g → IsRoot mid.state b
is_root old mid b g makes = let more = makes.added b in grind (arith, more, nat_tests)

-- a root that was made on the way is given back
module _ (old mid whole new : Contents) (b : ℕ) (g f : Function) (first : Makes old mid (Ok b) g) (back : AddsRoot new.state whole.state b) (nodes : SameNodes whole new) where
  keeps_back : KeepsRoots mid whole → KeepsRoots old new
  keeps_back keeps =
      record {
        levels = ap (λ t. t.levels) nodes.table ∙ (keeps.levels ∙ first.keeps.levels);
        budget = ap (λ t. t.budget) nodes.table ∙ (keeps.budget ∙ first.keeps.budget);
        order = nodes.order ∙ (keeps.order ∙ first.keeps.order);
        meaning = λ n root. ap (λ t. diagram_at t n) nodes.table ∙ (keeps.meaning n (root_added old mid b g first n root) ∙ first.keeps.meaning n root);
      }

  pub given_back : (r : Result ℕ Halt) → Makes mid whole r f → Makes old new r f
  given_back (Ok r) makes =
      record {
        meaning = same_function whole new r nodes ∙ makes.meaning;
        added = λ n. (let one = back n in let two = makes.added n in let three = first.added n in omega (arith, one, two, three));
        refused = tt;
        keeps = keeps_back makes.keeps;
        full = λ e. not_budget e;
      }
  given_back (Err h) makes =
      record {
        meaning = tt;
        added = tt;
        refused = λ n. (let one = back n in let two = makes.refused n in let three = first.added n in omega (arith, one, two, three));
        keeps = keeps_back makes.keeps;
        full = λ e. subst IsFilled (sym nodes.table) (makes.full e);
      }

-- a digit before others
pub both_digits : (level : ℕ) (high : Bool) (f g h : Function) → f ≡ digit level high → g ≡ h → joined (join_of true) f g ≡ with_digit level high h
both_digits level true f g h is same = ap (λ (k : Function). joined (join_of true) k g) is ∙ ap (λ (k : Function). joined (join_of true) (digit level true) k) same
both_digits level false f g h is same = ap (λ (k : Function). joined (join_of true) k g) is ∙ ap (λ (k : Function). joined (join_of true) (digit level false) k) same

pub number_step : (level width n rest : ℕ) (high : Bool) → 0 < width → high ≡ nat_le (2 ^ (width - 1)) n → rest ≡ cond high (n - 2 ^ (width - 1)) n → with_digit level high (has_number (level + 1) (width - 1) rest) ≡ has_number level width n
number_step level zero n rest high some is left = absurd (omega arith)
number_step level (suc w) n rest true some is left =
    let next : level + 1 ≡ suc level = omega arith in
    let less : suc w - 1 ≡ w = omega arith in
    let here : nat_le (2 ^ w) n ≡ true = sym (is ∙ ap (λ k. nat_le (2 ^ k) n) less) in
    let low : rest ≡ n - 2 ^ w = left ∙ ap (λ k. n - 2 ^ k) less in
    rw (next, less, low) (ap (λ b s. cond b (s level && has_number (suc level) w (n - 2 ^ w) s) (not (s level) && has_number (suc level) w n s)) (sym here))
number_step level (suc w) n rest false some is left =
    let next : level + 1 ≡ suc level = omega arith in
    let less : suc w - 1 ≡ w = omega arith in
    let here : nat_le (2 ^ w) n ≡ false = sym (is ∙ ap (λ k. nat_le (2 ^ k) n) less) in
    rw (next, less, left) (ap (λ b s. cond b (s level && has_number (suc level) w (n - 2 ^ w) s) (not (s level) && has_number (suc level) w n s)) (sym here))
