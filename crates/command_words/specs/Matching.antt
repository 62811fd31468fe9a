-- What is kept of the matches.
use Rattle.std.specs.Prelude.{◌≡◌, List, codes, option_map}
use Rattle.clap.specs.Words.{Text}
use Rattle.command_words.specs.declared.matching.Matched.{Matched}
use Rattle.command_words.specs.Commands.{HasMatches, matched}

-- these are the words that the matches have
pub record AreMatched (words : List Text) (m : Matched) : Type 0 where
  pub has_matches : HasMatches words
  pub command_is : option_map (λ w. w.now) m.command ≡ matched (codes "COMMAND") words
  pub file_is : option_map (λ w. w.now) m.file ≡ matched (codes "FILE") words
  pub nodes_is : option_map (λ w. w.now) m.nodes ≡ matched (codes "nodes") words
