-- Which operators are of a row, compare, speak of the past, and what the others make of two truth values.
use Rattle.std.proofs.Common.{◌≡◌, true, false, ◌&&◌, Some, refl, sym}
use Rattle.std.proofs.lemmas.Bool.{false≢true, and_parts}
use Rattle.spec_model.specs.Syntax.{Formula}
use Rattle.spec_model.specs.Typing as model
use Rattle.spec_model.specs.Typing.{truth_if}
use Rattle.spectra_trees.specs.declared.tree.BinaryWord.{BinaryWord}
use Rattle.spectra_trees.specs.declared.tree.BinaryWord.TheVariants as binary
use Rattle.spectra_copies.specs.Levels.{is_row_word}
use Rattle.spectra_judge.specs.Kinds.{Kind, Truth, is_truth}
use Rattle.spectra_judge.specs.Operators.{takes, gives, is_past}
use Rattle.spectra_cases.specs.Formulas.{is_comparing, binary_formula}

pub row_not_past : (word : BinaryWord) → is_row_word word ≡ true → is_past word ≡ false
row_not_past binary.Since e = absurd (false≢true e)
row_not_past binary.Triggered e = absurd (false≢true e)
row_not_past binary.Implies e = refl
row_not_past binary.Iff e = refl
row_not_past binary.Eq e = refl
row_not_past binary.Ne e = refl
row_not_past binary.Lt e = refl
row_not_past binary.Le e = refl
row_not_past binary.Gt e = refl
row_not_past binary.Ge e = refl
row_not_past binary.Add e = refl
row_not_past binary.Sub e = refl
row_not_past binary.Mul e = refl

pub comparing_not_past : (word : BinaryWord) → is_comparing word ≡ true → is_past word ≡ false
comparing_not_past binary.Since e = absurd (false≢true e)
comparing_not_past binary.Triggered e = absurd (false≢true e)
comparing_not_past binary.Implies e = refl
comparing_not_past binary.Iff e = refl
comparing_not_past binary.Eq e = refl
comparing_not_past binary.Ne e = refl
comparing_not_past binary.Lt e = refl
comparing_not_past binary.Le e = refl
comparing_not_past binary.Gt e = refl
comparing_not_past binary.Ge e = refl
comparing_not_past binary.Add e = refl
comparing_not_past binary.Sub e = refl
comparing_not_past binary.Mul e = refl

pub not_row_gives : (word : BinaryWord) (j k : Kind) → is_row_word word ≡ false → gives word j k ≡ Truth
not_row_gives binary.Since j k e = refl
not_row_gives binary.Triggered j k e = refl
not_row_gives binary.Implies j k e = refl
not_row_gives binary.Iff j k e = refl
not_row_gives binary.Eq j k e = refl
not_row_gives binary.Ne j k e = refl
not_row_gives binary.Lt j k e = refl
not_row_gives binary.Le j k e = refl
not_row_gives binary.Gt j k e = refl
not_row_gives binary.Ge j k e = refl
not_row_gives binary.Add j k e = absurd (false≢true (sym e))
not_row_gives binary.Sub j k e = absurd (false≢true (sym e))
not_row_gives binary.Mul j k e = absurd (false≢true (sym e))

-- an operator that makes a truth value of two truth values
pub truths_taken : (word : BinaryWord) (j k : Kind) → is_row_word word ≡ false → is_comparing word ≡ false → takes word j k ≡ true → (is_truth j ≡ true) × (is_truth k ≡ true)
truths_taken binary.Since j k e h is = and_parts (is_truth j) (is_truth k) is
truths_taken binary.Triggered j k e h is = and_parts (is_truth j) (is_truth k) is
truths_taken binary.Implies j k e h is = and_parts (is_truth j) (is_truth k) is
truths_taken binary.Iff j k e h is = and_parts (is_truth j) (is_truth k) is
truths_taken binary.Eq j k e h is = absurd (false≢true (sym h))
truths_taken binary.Ne j k e h is = absurd (false≢true (sym h))
truths_taken binary.Lt j k e h is = absurd (false≢true (sym h))
truths_taken binary.Le j k e h is = absurd (false≢true (sym h))
truths_taken binary.Gt j k e h is = absurd (false≢true (sym h))
truths_taken binary.Ge j k e h is = absurd (false≢true (sym h))
truths_taken binary.Add j k e h is = absurd (false≢true (sym e))
truths_taken binary.Sub j k e h is = absurd (false≢true (sym e))
truths_taken binary.Mul j k e h is = absurd (false≢true (sym e))

module _ (sc : model.Scope) where
  pub truth_made : (word : BinaryWord) (f g : Formula) → is_row_word word ≡ false → is_comparing word ≡ false → model.kind_of sc f ≡ Some model.Truth → model.kind_of sc g ≡ Some model.Truth
      → model.kind_of sc (binary_formula word f g) ≡ Some model.Truth
  truth_made binary.Since f g e h a b = λ i. truth_if (model.is_truth (a i) && (model.is_truth (b i) && true))
  truth_made binary.Triggered f g e h a b = λ i. truth_if (model.is_truth (a i) && (model.is_truth (b i) && true))
  truth_made binary.Implies f g e h a b = λ i. truth_if (model.is_truth (a i) && model.is_truth (b i))
  truth_made binary.Iff f g e h a b = λ i. truth_if (model.is_truth (a i) && model.is_truth (b i))
  truth_made binary.Eq f g e h a b = absurd (false≢true (sym h))
  truth_made binary.Ne f g e h a b = absurd (false≢true (sym h))
  truth_made binary.Lt f g e h a b = absurd (false≢true (sym h))
  truth_made binary.Le f g e h a b = absurd (false≢true (sym h))
  truth_made binary.Gt f g e h a b = absurd (false≢true (sym h))
  truth_made binary.Ge f g e h a b = absurd (false≢true (sym h))
  truth_made binary.Add f g e h a b = absurd (false≢true (sym e))
  truth_made binary.Sub f g e h a b = absurd (false≢true (sym e))
  truth_made binary.Mul f g e h a b = absurd (false≢true (sym e))
