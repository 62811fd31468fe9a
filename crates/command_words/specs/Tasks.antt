-- Which task the words of a command ask for.
use Rattle.std.specs.Prelude.{List}
use Rattle.clap.specs.Words.{Text}
use Rattle.command_words.specs.declared.words.Task.{Task}
use Rattle.command_words.specs.declared.words.Task.TheVariants.{OfFile, OfArbiter}
use Rattle.command_words.specs.Commands.{Asks, AsksArbiter}

-- the words ask for this task
abbrev pub AskFor : List Text → Task → Type 0
AskFor words (OfFile request) = Asks words request.command request.file.now request.nodes
AskFor words (OfArbiter clients nodes) = AsksArbiter words clients nodes
