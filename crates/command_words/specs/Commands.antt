-- Which words are a command. Each word is the list of its bytes; the first is the program's own name.
use Rattle.std.specs.Prelude.{◌≡◌, ℕ, ◌≤◌, List, [], Option, None, Some, true, codes}
use Rattle.std.specs.Str.Parse.{IsNumeral, digits_value}
use Rattle.clap.specs.Words.{App, Rule, Text, fault_of, first_of, matches_of, new_app, new_rule, with_rule}
use Rattle.command_words.specs.declared.words.Command.{Command}
use Rattle.command_words.specs.declared.words.Command.TheVariants.{Synth, Run, Many, Order, Core, Separate, Counter, Audit, Export, Verify}

-- ---- what `clap` reads: `spectra COMMAND FILE [--nodes N]`

abbrev pub required_word : Text → Rule
required_word name = record (new_rule name) { required = true }

abbrev pub option_word : Text → Rule
option_word name = record (new_rule name) { long = Some name }

-- two required positional words and one option with a value
abbrev pub simple_command : App
simple_command = with_rule (with_rule (with_rule (new_app (codes "spectra")) (required_word (codes "COMMAND"))) (required_word (codes "FILE"))) (option_word (codes "nodes"))

-- `clap` has matches for the words: it finds no fault in them
unfoldable pub HasMatches : List Text → Type 0
HasMatches words = fault_of simple_command words ≡ []

-- the word that its matches have under a name, if they have one
unfoldable pub matched : Text → List Text → Option Text
matched name words = first_of name (matches_of simple_command words)

-- ---- what the matches ask for

-- how a command is written
abbrev pub word_of : Command → Text
word_of Synth = codes "synth"
word_of Run = codes "run"
word_of Many = codes "many"
word_of Order = codes "order"
word_of Core = codes "core"
word_of Separate = codes "separate"
word_of Counter = codes "counter"
word_of Audit = codes "audit"
word_of Export = codes "export"
word_of Verify = codes "verify"

-- how the command is written that is for an arbiter and not for a file
abbrev pub arbiter_word : Text
arbiter_word = codes "gen"

-- The budget that N gives: one decimal digit or more, which write a number from 2 to 134,217,728. Where no N stands, it is
-- 4,194,304.
abbrev pub IsBudget : Option Text → ℕ → Type 0
IsBudget None nodes = nodes ≡ 4194304
IsBudget (Some digits) nodes = IsNumeral 10 digits × (nodes ≡ digits_value 10 digits) × (2 ≤ nodes) × (nodes ≤ 134217728)

-- how many clients FILE gives: one decimal digit or more, which write a number from 1 to 64
abbrev pub IsClients : Text → ℕ → Type 0
IsClients digits clients = IsNumeral 10 digits × (clients ≡ digits_value 10 digits) × (1 ≤ clients) × (clients ≤ 64)

-- the words ask for this command, for the file of this name, with this budget
pub record Asks (words : List Text) (command : Command) (file : Text) (nodes : ℕ) : Type 0 where
  pub has_matches : HasMatches words
  pub command_is : matched (codes "COMMAND") words ≡ Some (word_of command)
  pub file_is : matched (codes "FILE") words ≡ Some file
  pub budget_is : IsBudget (matched (codes "nodes") words) nodes

-- the words ask for an arbiter of so many clients, with this budget
pub record AsksArbiter (words : List Text) (clients nodes : ℕ) : Type 0 where
  pub has_matches : HasMatches words
  pub command_is : matched (codes "COMMAND") words ≡ Some arbiter_word
  pub digits : Text
  pub file_is : matched (codes "FILE") words ≡ Some digits
  pub clients_are : IsClients digits clients
  pub budget_is : IsBudget (matched (codes "nodes") words) nodes

-- the words are no command
pub record AskNothing (words : List Text) : Type 0 where
  pub no_file : (command : Command) (file : Text) (nodes : ℕ) → ¬ (Asks words command file nodes)
  pub no_arbiter : (clients nodes : ℕ) → ¬ (AsksArbiter words clients nodes)
