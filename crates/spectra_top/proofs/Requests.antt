-- Words ask for one thing alone.
use Rattle.std.proofs.Common.{◌≡◌, ◌≤◌, ℕ, List, Option, Some, None, sum, refl, sym, ap, arith, ◌∙◌}
use Rattle.std.specs.Str.Parse.{digits_value}
use Rattle.command_words.specs.declared.words.Command.{Command}
use Rattle.command_words.specs.declared.words.Command.TheVariants.{Synth, Run, Many, Order, Core, Separate, Counter, Audit, Export, Verify}
use Rattle.command_words.specs.Commands.{Asks, AsksArbiter, IsBudget, word_of, arbiter_word}

-- the codes of each word have another sum
abbrev sum_of : Command → ℕ
sum_of Synth = 566
sum_of Run = 341
sum_of Many = 437
sum_of Order = 540
sum_of Core = 425
sum_of Separate = 853
sum_of Counter = 768
sum_of Audit = 535
sum_of Export = 674
sum_of Verify = 661

summed : (command : Command) → sum (word_of command) ≡ sum_of command
summed Synth = refl
summed Run = refl
summed Many = refl
summed Order = refl
summed Core = refl
summed Separate = refl
summed Counter = refl
summed Audit = refl
summed Export = refl
summed Verify = refl

one_sum : (command other : Command) → sum_of command ≡ sum_of other → command ≡ other
one_sum Synth Synth same = refl
one_sum Run Run same = refl
one_sum Many Many same = refl
one_sum Order Order same = refl
one_sum Core Core same = refl
one_sum Separate Separate same = refl
one_sum Counter Counter same = refl
one_sum Audit Audit same = refl
one_sum Export Export same = refl
one_sum Verify Verify same = refl
one_sum _ _ same = absurd (omega arith)

one_word : (command other : Command) → word_of command ≡ word_of other → command ≡ other
one_word command other same = one_sum command other (sym (summed command) ∙ ap sum same ∙ summed other)

one_number : (word : Option (List ℕ)) (n m : ℕ) → IsBudget word n → IsBudget word m → n ≡ m
one_number None n m is also = is ∙ sym also
one_number (Some digits) n m is also = is.1 ∙ sym also.1

-- a budget is of two nodes at least
pub two_nodes : (word : Option (List ℕ)) (nodes : ℕ) → IsBudget word nodes → 2 ≤ nodes
two_nodes None nodes is = omega (arith, is)
two_nodes (Some digits) nodes is = is.2

module _ (words : List (List ℕ)) (command other : Command) (name name' : List ℕ) (nodes nodes' : ℕ) (asks : Asks words command name nodes) (also : Asks words other name' nodes') where
  pub one_file : name' ≡ name
  one_file = let a = asks.file_is in let b = also.file_is in cc

  pub one_command : other ≡ command
  one_command = one_word other command (let a = asks.command_is in let b = also.command_is in cc)

  pub one_budget : nodes' ≡ nodes
  one_budget = one_number _ nodes' nodes also.budget_is asks.budget_is

-- ---- arbiters

-- the codes of the word of an arbiter have yet another sum
no_arbiter_word : (command : Command) → word_of command ≡ arbiter_word → ⊥
no_arbiter_word command same = no_sum command (sym (summed command) ∙ ap sum same)
  where
    no_sum : (command : Command) → sum_of command ≡ 314 → ⊥
    no_sum Synth is = absurd (omega arith)
    no_sum Run is = absurd (omega arith)
    no_sum Many is = absurd (omega arith)
    no_sum Order is = absurd (omega arith)
    no_sum Core is = absurd (omega arith)
    no_sum Separate is = absurd (omega arith)
    no_sum Counter is = absurd (omega arith)
    no_sum Audit is = absurd (omega arith)
    no_sum Export is = absurd (omega arith)
    no_sum Verify is = absurd (omega arith)

module _ (words : List (List ℕ)) where
  pub one_arbiter : (clients clients' nodes nodes' : ℕ) → AsksArbiter words clients nodes → AsksArbiter words clients' nodes' → (clients ≡ clients') × (nodes ≡ nodes')
  one_arbiter clients clients' nodes nodes' asks also =
      let digits : asks.digits ≡ also.digits = let a = asks.file_is in let b = also.file_is in cc in
      (asks.clients_are.1 ∙ (ap (digits_value 10) digits ∙ sym also.clients_are.1), one_number _ nodes nodes' asks.budget_is also.budget_is)

  pub file_or_arbiter : (command : Command) (name : List ℕ) (nodes clients nodes' : ℕ) → Asks words command name nodes → AsksArbiter words clients nodes' → ⊥
  file_or_arbiter command name nodes clients nodes' asks also = no_arbiter_word command (let a = asks.command_is in let b = also.command_is in cc)
