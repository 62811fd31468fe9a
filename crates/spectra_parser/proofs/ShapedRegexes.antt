-- Each choice in a regular expression of the grammar has an alternative.
use Rattle.std.proofs.Common.{◌≡◌, ℕ, zero, suc, true, List, [], ◌∷◌, ◌++◌, refl}
use Rattle.std.proofs.lemmas.Bool.{and_parts, and_from}
use Rattle.spectra_trees.specs.Data.{RegexData, regexes, RepeatData}
use Rattle.spectra_regexes.specs.RegexGrammar.{DeeperRegex, Ratom, Repeated, Post, Follower, Cat, Branch, RegexOf, RegexLevels}
use Rattle.spectra_parser.specs.Shapes.{has_some, has_choices, each_has_choices}
use Rattle.spectra_parser.proofs.NamedTokens.{Makes, makes_gives, makes_either, makes_steps, makes_then, makes_behind}

abbrev pub HasChoices : RegexData → Type 0
HasChoices r = has_choices r ≡ true

abbrev EachHasChoices : List RegexData → Type 0
EachHasChoices rs = each_has_choices (regexes rs) ≡ true

record AreAlternatives (rs : List RegexData) : Type 0 where
  some : has_some (regexes rs) ≡ true
  each : EachHasChoices rs

one_more_has : (rs : List RegexData) (r : RegexData) → EachHasChoices rs → HasChoices r → EachHasChoices (rs ++ r ∷ [])
one_more_has [] r each is = and_from (has_choices r) true is refl
one_more_has (q ∷ rs) r each is = let parts = and_parts (has_choices q) (each_has_choices (regexes rs)) each in and_from (has_choices q) _ parts.0 (one_more_has rs r parts.1 is)

some_in : (rs : List RegexData) (r : RegexData) → has_some (regexes (rs ++ r ∷ [])) ≡ true
some_in [] r = refl
some_in (q ∷ rs) r = refl

two_have : (q r : RegexData) → HasChoices q → HasChoices r → EachHasChoices (q ∷ r ∷ [])
two_have q r one other = and_from (has_choices q) _ one (and_from (has_choices r) true other refl)

module _ (d : DeeperRegex) (inner : Makes d.Inner HasChoices) where
  makes_ratom : Makes (Ratom d) HasChoices
  makes_ratom =
      makes_either HasChoices _ _ (makes_behind HasChoices _ _ (λ t. makes_behind HasChoices _ _ (λ e. makes_behind HasChoices _ _ (λ u. makes_gives HasChoices (RegexData.Atom e) refl))))
      (makes_behind HasChoices _ _ (λ t. makes_then HasChoices HasChoices _ _ inner (λ r is. makes_behind HasChoices _ _ (λ u. makes_gives HasChoices r is))))

  makes_post : Makes (Post d) HasChoices
  makes_post =
      makes_then HasChoices HasChoices _ _ makes_ratom
      (λ r is. makes_steps HasChoices Repeated (λ q so_far. makes_behind HasChoices _ _ (λ times. makes_gives HasChoices (RegexData.Repeat q times) so_far)) r is)

  makes_cat : Makes (Cat d) HasChoices
  makes_cat =
      makes_then HasChoices HasChoices _ _ makes_post (λ q one. makes_either HasChoices _ _
      (makes_then HasChoices HasChoices _ _ makes_post (λ r other. makes_then EachHasChoices HasChoices _ _
      (makes_steps EachHasChoices (Follower d) (λ all so_far. makes_then HasChoices EachHasChoices _ _ makes_post (λ s is. makes_gives EachHasChoices (all ++ s ∷ []) (one_more_has all s so_far is)))
      (q ∷ r ∷ []) (two_have q r one other))
      (λ all each. makes_gives HasChoices (RegexData.Cat (regexes all)) each)))
      (makes_gives HasChoices q one))

  makes_branch : (all : List RegexData) → AreAlternatives all → Makes (Branch d all) AreAlternatives
  makes_branch all so_far =
      makes_behind AreAlternatives _ _ (λ t. makes_then HasChoices AreAlternatives _ _ makes_cat
      (λ r is. makes_gives AreAlternatives (all ++ r ∷ []) (record { some = some_in all r; each = one_more_has all r so_far.each is })))

  makes_regex : Makes (RegexOf d) HasChoices
  makes_regex =
      makes_then HasChoices HasChoices _ _ makes_cat (λ q one. makes_either HasChoices _ _
      (makes_behind HasChoices _ _ (λ t. makes_then HasChoices HasChoices _ _ makes_cat (λ r other. makes_then AreAlternatives HasChoices _ _
      (makes_steps AreAlternatives (Branch d) makes_branch (q ∷ r ∷ []) (record { some = refl; each = two_have q r one other }))
      (λ all are. makes_gives HasChoices (RegexData.Alt (regexes all)) (and_from (has_some (regexes all)) _ are.some are.each)))))
      (makes_gives HasChoices q one))

makes_inner : (left : ℕ) → Makes (RegexLevels left).Inner HasChoices
makes_inner zero = λ used a named none. absurd none
makes_inner (suc left) = makes_regex (RegexLevels left) (makes_inner left)

pub makes_side : (left : ℕ) → Makes (RegexOf (RegexLevels left)) HasChoices
makes_side left = makes_regex (RegexLevels left) (makes_inner left)
