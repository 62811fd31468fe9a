-- A text with a tree isn't refused.
use Rattle.std.proofs.Common.{◌≡◌, ℕ, List, Some, subst, arith}
use Rattle.spectra_lexer.specs.declared.token.Token.{Token}
use Rattle.spectra_lexer.specs.Faults.{IsTooLong}
use Rattle.spectra_lexer.proofs.Unique.{one_list_of_tokens, reads_or_fails}
use Rattle.spectra_lexer.proofs.Outcomes.{broken_is_no_utf8}
use Rattle.spectra_trees.specs.Data.{TreeData}
use Rattle.spectra_trees.specs.Lexemes.{lexemes}
use Rattle.spectra_exprs.specs.declared.fault.SyntaxFault.{SyntaxFault}
use Rattle.spectra_exprs.specs.declared.fault.SyntaxFault.TheVariants as syntax
use Rattle.spectra_parser.specs.Texts.{HasTree}
use Rattle.spectra_parser.proofs.OneFault.{no_fault}
use Rattle.spectra_files.specs.Reading.{ReadsAs, named_by, IsUngrammaticalAt, IsRefusedAt, not_utf8, bad_character, too_long, ungrammatical}

module _ (text : List ℕ) (tree : TreeData) (reads : ReadsAs text tree) where
  is_long_not : IsTooLong text → ⊥
  is_long_not long = absurd (let short = reads.lexed.short in omega (arith, short, long))

  is_ungrammatical_not : (number line column : ℕ) → IsUngrammaticalAt text number line column → ⊥
  is_ungrammatical_not number line column is =
      let same = one_list_of_tokens text reads.tokens is.tokens reads.lexed is.lexed in
      let parsed = subst (λ (ts : List Token). HasTree (lexemes text ts) tree) same reads.parsed in
      let memory = no_fault (lexemes text is.tokens) tree is.fault parsed is.explains in
      let named : named_by syntax.Memory ≡ Some (is.at, number) = subst (λ (f : SyntaxFault). named_by f ≡ Some (is.at, number)) memory is.named in
      absurd (cc)

  pub never_refused : (number line column : ℕ) → IsRefusedAt text line column number → ⊥
  never_refused _ line column (not_utf8 is) = broken_is_no_utf8 text line column is reads.lexed.utf8
  never_refused _ line column (bad_character is) = reads_or_fails reads.lexed.lexed is.fails
  never_refused _ line column (too_long is first begin) = is_long_not is
  never_refused number line column (ungrammatical is) = is_ungrammatical_not number line column is
