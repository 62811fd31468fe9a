-- What the faults of texts and files say.
use Rattle.std.proofs.Common.{◌≡◌, ℕ, List, refl}
use Rattle.spectra_lexer.specs.declared.token.Token.{Token}
use Rattle.spectra_lexer.specs.declared.fault.LexFault.{LexFault}
use Rattle.spectra_lexer.specs.declared.fault.LexFault.TheVariants as lexer
use Rattle.spectra_lexer.specs.Tokens.{AreTokens}
use Rattle.spectra_lexer.specs.Faults.{IsNotUtf8At, IsBadAt, IsTooLong}
use Rattle.spectra_trees.specs.Lexemes.{lexemes}
use Rattle.spectra_exprs.specs.declared.fault.SyntaxFault.{SyntaxFault}
use Rattle.spectra_exprs.specs.declared.fault.SyntaxFault.TheVariants as syntax
use Rattle.spectra_parser.specs.Texts.{Explains}
use Rattle.spectra_files.specs.Reading.{not_utf8, bad_character, too_long, ungrammatical}
use Rattle.spectra_files.specs.Refusals.{lexing_fault, parsing_fault, RefusesText}

-- what a text says that has no tokens
pub lexing_refuses : (text : List ℕ) (fault : LexFault) → (fault ≡ lexer.TooLong → IsTooLong text) → ((line column : ℕ) → fault ≡ lexer.NotUtf8 line column → IsNotUtf8At text line column) →
    ((line column : ℕ) → fault ≡ lexer.BadCharacter line column → IsBadAt text line column) → RefusesText text (lexing_fault fault)
lexing_refuses text (lexer.NotUtf8 line column) long broken bad = not_utf8 (broken line column refl)
lexing_refuses text (lexer.BadCharacter line column) long broken bad = bad_character (bad line column refl)
lexing_refuses text lexer.TooLong long broken bad = too_long (long refl) refl refl
lexing_refuses text lexer.Memory long broken bad = tt

-- what one says whose tokens have no tree
pub parsing_refuses : (text : List ℕ) (tokens : List Token) (fault : SyntaxFault) → AreTokens text tokens → Explains (lexemes text tokens) fault → RefusesText text (parsing_fault tokens fault)
parsing_refuses text tokens (syntax.Unexpected at) lexed explains = ungrammatical (record { tokens = tokens; fault = syntax.Unexpected at; at = at; lexed = lexed; explains = explains; named = refl; place = refl })
parsing_refuses text tokens (syntax.TooDeep at) lexed explains = ungrammatical (record { tokens = tokens; fault = syntax.TooDeep at; at = at; lexed = lexed; explains = explains; named = refl; place = refl })
parsing_refuses text tokens (syntax.Parentheses at) lexed explains = ungrammatical (record { tokens = tokens; fault = syntax.Parentheses at; at = at; lexed = lexed; explains = explains; named = refl; place = refl })
parsing_refuses text tokens syntax.Memory lexed explains = tt
