use Rattle.std.proofs.Common.{◌≡◌, take}
use Rattle.spectra_trees.specs.Lexemes.{lexemes_from}
use Rattle.spectra_trees.specs.Views.{lexemes_of}
use Rattle.spectra_trees.proofs.lexeme.spell_all.Given as goal

-- the tokens so far
abbrev pub invariant-loop-token : goal.invariant-loop-token
invariant-loop-token l = record {
  numbered : l.number ≡ l.token-index;
  spelled : lexemes_of l.found.items ≡ lexemes_from l.text 0 (take l.token-index l.tokens);
}
