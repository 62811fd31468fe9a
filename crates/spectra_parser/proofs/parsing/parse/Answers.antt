use Rattle.std.specs.Prelude.{IfOk, IfErr}
use Rattle.std.proofs.Common.{◌≡◌, ℕ, List, Result, Ok, Err, sym, ap, subst, ◌∙◌, arith}
use Rattle.spectra_exprs.specs.declared.fault.SyntaxFault.{SyntaxFault}
use Rattle.spectra_exprs.specs.declared.fault.SyntaxFault.TheVariants.{Memory}
use Rattle.spectra_lexer.specs.declared.token.Token.{Token}
use Rattle.spectra_lexer.specs.Tokens.{AreTokens}
use Rattle.spectra_trees.specs.declared.tree.Tree.{Tree}
use Rattle.spectra_trees.specs.Data.{TreeData}
use Rattle.spectra_trees.specs.Views.{tree_data, lexemes_of}
use Rattle.spectra_trees.specs.Lexemes.{Lexeme, lexemes}
use Rattle.spectra_parser.specs.Texts.{HasTree, Explains}
use Rattle.spectra_parser.specs.Wholes.{IsWholeFrom}
use Rattle.spectra_parser.proofs.WholeText.{one_tree}
use Rattle.spectra_parser.specs.Shapes.{IsShaped}
use Rattle.spectra_parser.proofs.OneFault.{no_fault}
use Rattle.spectra_parser.proofs.ShapedTexts.{shaped_text}
use Rattle.spectra_parser.proofs.TokenCount.{count}
use Rattle.spectra_parser.proofs.TokenEnds.{whole_tokens}
use Rattle.spectra_parser.proofs.parsing.parse.Goals as goal

pub spell_all-requires-clause-few : goal.spell_all-requires-clause-few
spell_all-requires-clause-few c = let tokens = count c.args.text.now c.args.tokens.now c.requires.lexed in omega (arith, tokens, c.requires.lexed.short)

pub tree_of-requires : goal.tree_of-requires
tree_of-requires c =
    let same = ap lexemes_of c.deref.ensures.value ∙ c.in_ok-spelled.ensures in
    record { whole = subst (λ (ts : List Lexeme). IsWholeFrom 0 ts) (sym same) (whole_tokens c.args.text.now c.args.tokens.now c.requires.lexed) }

only : (r : Result Tree SyntaxFault) (ts us : List Lexeme) → ts ≡ us → IfOk r (λ tree. HasTree ts (tree_data tree)) → IfOk r (λ tree. (other : TreeData) → HasTree us other → other ≡ tree_data tree)
only (Ok tree) ts us same is = λ other h. one_tree us other (tree_data tree) h (subst (λ (x : List Lexeme). HasTree x (tree_data tree)) same is)
only (Err f) ts us same is = tt

whole : (r : Result Tree SyntaxFault) (ts us : List Lexeme) → ts ≡ us → IfErr r (Explains ts) → IfErr r (λ fault. (tree : TreeData) → HasTree us tree → fault ≡ Memory)
whole (Ok tree) ts us same is = tt
whole (Err f) ts us same is = λ tree h. no_fault us tree f h (subst (λ (x : List Lexeme). Explains x f) same is)

pub returns-clause-only : goal.returns-clause-only
returns-clause-only c =
    let same = ap lexemes_of c.deref.ensures.value ∙ c.in_ok-spelled.ensures in
    only c.tree_of.result (lexemes_of c.deref.result.now) (lexemes c.args.text.now c.args.tokens.now) same c.tree_of.ensures.tree

pub returns-clause-whole : goal.returns-clause-whole
returns-clause-whole c =
    let same = ap lexemes_of c.deref.ensures.value ∙ c.in_ok-spelled.ensures in
    whole c.tree_of.result (lexemes_of c.deref.result.now) (lexemes c.args.text.now c.args.tokens.now) same c.tree_of.ensures.fault

shaped : (r : Result Tree SyntaxFault) (text : List ℕ) (tokens : List Token) (ts : List Lexeme) → ts ≡ lexemes text tokens → AreTokens text tokens → IfOk r (λ tree. HasTree ts (tree_data tree)) → IfOk r (λ tree. IsShaped (tree_data tree))
shaped (Ok tree) text tokens ts same lexed is = shaped_text text tokens (tree_data tree) lexed (subst (λ (x : List Lexeme). HasTree x (tree_data tree)) same is)
shaped (Err f) text tokens ts same lexed is = tt

pub returns-clause-shaped : goal.returns-clause-shaped
returns-clause-shaped c =
    shaped c.tree_of.result c.args.text.now c.args.tokens.now (lexemes_of c.deref.result.now) (ap lexemes_of c.deref.ensures.value ∙ c.in_ok-spelled.ensures) c.requires.lexed c.tree_of.ensures.tree
