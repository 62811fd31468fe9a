use Rattle.std.specs.Prelude.{IfErr}
use Rattle.std.proofs.Common.{◌≡◌, ℕ, take, List, None, Result, Ok, Err, sym, subst, rules}
use Rattle.spectra_exprs.specs.declared.fault.SyntaxFault.{SyntaxFault}
use Rattle.spectra_exprs.specs.declared.fault.SyntaxFault.TheVariants as faults
use Rattle.spectra_trees.specs.declared.tree.Tree.{Tree}
use Rattle.spectra_trees.specs.Data.{TreeData}
use Rattle.spectra_trees.specs.Views.{tree_data, lexemes_of}
use Rattle.spectra_trees.specs.Lexemes.{Lexeme}
use Rattle.spectra_exprs.specs.Read.{Fails}
use Rattle.spectra_parser.specs.Items.{text_of}
use Rattle.spectra_parser.specs.Texts.{HasTree, BeginText, IsShallow, IsRefused, IsTooDeep, Explains}
use Rattle.spectra_parser.specs.Wholes.{IsWholeFrom}
use Rattle.spectra_parser.proofs.WholeText.{text_got}
use Rattle.spectra_parser.proofs.Places.{Refused, unexpected_refused, deep_refused, parentheses_refused}
use Rattle.spectra_parser.proofs.OpeningItems.{wide}
use Rattle.spectra_parser.proofs.Beginnings.{unexpected_begun, deep_begun, deeper_begun, parentheses_begun, behind_phrase}
use Rattle.spectra_parser.proofs.CountingTexts.{unexpected_shallow, parentheses_shallow, deep_shallow, deep_level}
use Rattle.spectra_parser.proofs.NoPhrase.{no_phrase_behind}
use Rattle.spectra_parser.proofs.parsing.tree_of.Goals as goal

-- a token at which reading stops is refused, and what stands before it begins a text
is_refused : (ts : List Lexeme) (at : ℕ) → ((left : ℕ) → Refused left ts at) → BeginText wide (take at ts) → IsShallow ts at → IsRefused ts at
is_refused ts at r b s = record { within = (r 0).within; refused = λ left. (r left).refused; begun = (wide, b); shallow = s }

is_too_deep : (ts : List Lexeme) (at : ℕ) → IsWholeFrom 0 ts → text_of ts ≡ Err (faults.TooDeep at) → IsTooDeep ts at
is_too_deep ts at w h =
    let r = deep_refused ts at w h in
    record {
      opens = record { within = r.within; begun = (wide, deep_begun ts at w h); deeper = (wide, deeper_begun ts at w h); shallow = deep_shallow ts at w h; level = deep_level ts at w h };
      refused = r.refused;
    }

explained : (ts : List Lexeme) (f : SyntaxFault) → IsWholeFrom 0 ts → Fails f (text_of ts) → Explains ts f
explained ts (faults.Unexpected at) w h = (is_refused ts at (unexpected_refused ts at w h) (unexpected_begun ts at w h) (unexpected_shallow ts at w h), no_phrase_behind ts at w h)
explained ts (faults.TooDeep at) w h = is_too_deep ts at w h
explained ts (faults.Parentheses at) w h = (is_refused ts at (parentheses_refused ts at w h) (parentheses_begun ts at w h) (parentheses_shallow ts at w h), behind_phrase ts at h)
explained ts faults.Memory w h = tt

pub returns-clause-tree : goal.returns-clause-tree
returns-clause-tree c = text_got (lexemes_of c.args.tokens.now) (tree_data c.in_ok-tree.tree) (lexemes_of c.in_ok-tree.field-0-1.now) c.in_ok-tree.ensures.read

-- the error that is handed on is the one that was met
handed : (r : Result Tree SyntaxFault) (f : SyntaxFault) (ts : List Lexeme) → r ≡ Err f → Explains ts f → IfErr r (Explains ts)
handed (Ok tree) f ts same is = absurd (cc)
handed (Err g) f ts same is = let one : f ≡ g = cc in subst (Explains ts) one is

pub returns-in_err-tree-clause-fault : goal.returns-in_err-tree-clause-fault
returns-in_err-tree-clause-fault c =
    let p = c.from_residual.ensures in
    handed c.from_residual.result c.in_err-tree.field-0.0 (lexemes_of c.args.tokens.now) (let h = p in search (rules)) (explained (lexemes_of c.args.tokens.now) c.in_err-tree.field-0.0 c.requires.whole c.in_err-tree.ensures.read)
