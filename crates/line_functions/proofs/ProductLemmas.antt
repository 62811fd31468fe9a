-- The function of a line, member by member.
use Rattle.std.proofs.Common.{◌≡◌, ℕ, suc, ◌+◌, ◌<◌, ◌&&◌, List, [], ◌∷◌, map, take, length, get_or, sym, ◌∙◌, ap, inr}
use Rattle.std.proofs.lemmas.List.{map-append, take-map}
use Rattle.spec_model.specs.Syntax.{Formula}
use Rattle.spec_model.specs.Games.{GameData}
use Rattle.spec_model.specs.Diagrams.{Function}
use Rattle.bit_compile.specs.Domains.{state_domains}
use Rattle.bit_compile.specs.declared.folds.Fold.TheVariants.{All}
use Rattle.bit_compile.specs.Compiled.{compiled, all_of}
use Rattle.bit_compile.specs.Named.{IsFirstOf}
use Rattle.bit_compile.proofs.CyclesLemmas.{take_next}
use Rattle.bit_compile.proofs.Folding.{and_true, all_of-push}
use Rattle.bit_compile.proofs.NamedSteps.{first_all}
use Rattle.line_functions.specs.declared.slots.TimedSlot.{TimedSlot}
use Rattle.line_functions.specs.Names.{named_in}
use Rattle.line_functions.specs.Functions.{has_value, members_of, line_function, IsOfLine}

module _ (g : GameData) (e : Formula) where
  -- where the formula is true, and these slots have the codes of some values
  abbrev pub product_of : List TimedSlot → Function
  product_of named = all_of (compiled g e ∷ map (has_value (state_domains g)) named)

  pub product-none : compiled g e ≡ product_of []
  product-none = sym (λ i s. and_true (compiled g e s) i)

  -- one slot more
  pub product-more : (named : List TimedSlot) (i : ℕ) (s : TimedSlot) → i < length named → s ≡ get_or named i s →
      (λ bits. product_of (take i named) bits && has_value (state_domains g) s bits) ≡ product_of (take (i + 1) named)
  product-more named i s less is =
      let has = has_value (state_domains g) in
      sym (ap product_of (take_next named i s less is)
      ∙ (ap (λ (fs : List Function). all_of (compiled g e ∷ fs)) (map-append has (take i named) (s ∷ [])) ∙ all_of-push (compiled g e ∷ map has (take i named)) (has s)))

  -- it is the first several members
  pub product_first : (named : List TimedSlot) (i : ℕ) (f : Function) → named ≡ named_in g e → f ≡ product_of (take i named) → IsFirstOf All (members_of g e) f
  product_first named i f are is =
      let has = has_value (state_domains g) in
      (suc i, is ∙ ap (λ (fs : List Function). all_of (compiled g e ∷ fs)) (sym (take-map has i named) ∙ ap (λ (ss : List TimedSlot). take i (map has ss)) are))

  -- and all of them are its function
  pub function_named : IsOfLine g e (line_function g e)
  function_named = inr (inr (first_all All (members_of g e)))
