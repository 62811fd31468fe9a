-- How many levels are open where reading a regular expression goes on, and where it stops: one lemma for each production.
use Rattle.std.proofs.Common.{◌≡◌, ℕ, zero, suc, ◌+◌, ◌≤◌, false, List, [], ◌∷◌, ◌++◌, refl, arith}
use Rattle.spectra_trees.specs.declared.class.Class.TheVariants as classes
use Rattle.spectra_trees.specs.Classes.{place_of, same_class}
use Rattle.spectra_trees.specs.Data.{Expression, RegexData, regexes, RepeatData}
use Rattle.spectra_trees.specs.Lexemes.{Lexeme}
use Rattle.spectra_exprs.specs.Read.{starts}
use Rattle.spectra_exprs.specs.Expressions.{inside}
use Rattle.spectra_exprs.specs.Nesting.{Opening, sort_of, completed, ended, levels_of}
use Rattle.spectra_regexes.specs.Regexes.{between_of, exactly_of, counted, repeat, starts_repeat, repeated, InsideRegex, atom_of, group_of, ratom_of, post_of, starts_ratom, follower_of, followed_of, cat_of, branch_of, branched_of, regex_of, inside_regex}
use Rattle.spectra_exprs.proofs.Counting.{Counts, Exactly, Shuts, Opens, counts_gives, counts_same, counts_from, counts_then, counts_if, counts_steps, opens_then}
use Rattle.spectra_exprs.proofs.CountingTokens.{shuts_exactly, counts_operand, counts_mark, counts_separated, counts_close, counts_level}
use Rattle.spectra_exprs.proofs.CountingExpressions.{counts_inside, counts_whole}
use Rattle.spectra_regexes.proofs.SoundRegexes.{repeat_same}

pub record CountsRegex (left : ℕ) (r : InsideRegex) : Type 0 where
  pub regex : (k : ℕ) (stack : List Opening) → levels_of stack + left ≡ k → (t : Lexeme) → Opens k t Opening.Level stack (Exactly false (Opening.Level ∷ stack)) (r.regex t)
  pub atom : (k : ℕ) (stack : List Opening) → levels_of stack + left ≡ k → (t : Lexeme) → Opens k t Opening.Level stack (Shuts (Opening.Level ∷ stack)) (r.atom t)

module _ (left : ℕ) (r : InsideRegex) (h : CountsRegex left r) (k : ℕ) (stack : List Opening) (flat : completed stack ≡ stack) (shut : ended stack ≡ stack) (size : levels_of stack + left ≡ k) where
  few : levels_of stack ≤ k
  few = omega (arith, size)

  counts_between : (low : List ℕ) → Counts k (Exactly false stack) (Exactly false stack) (between_of low)
  unfolding between_of sort_of same_class place_of
  counts_between low =
      counts_separated stack false shut classes.Comma refl few (λ (c : Lexeme). counts_operand stack classes.Number refl few (λ (n : Lexeme). counts_mark stack flat few classes.CloseBrace false refl
      (λ (u : Lexeme). counts_gives (RepeatData.Between low n.text))))

  counts_exactly : (low : List ℕ) → Counts k (Exactly false stack) (Exactly false stack) (exactly_of low)
  unfolding exactly_of sort_of same_class place_of
  counts_exactly low = counts_mark stack flat few classes.CloseBrace false refl (λ (u : Lexeme). counts_gives (RepeatData.Exactly low))

  counts_counted : Counts k (Exactly false stack) (Exactly false stack) counted
  unfolding counted sort_of same_class place_of
  counts_counted =
      counts_mark stack flat few classes.OpenBrace false refl (λ (t : Lexeme). counts_operand stack classes.Number refl few (λ (n : Lexeme). counts_if (counts_between n.text) (counts_exactly n.text) (starts classes.Comma)))

  counts_repeat : Counts k (Exactly false stack) (Exactly false stack) repeat
  unfolding sort_of same_class place_of
  counts_repeat =
      counts_same repeat_same
      (counts_if (counts_mark stack flat few classes.Star false refl (λ (t : Lexeme). counts_gives RepeatData.Star))
      (counts_if (counts_mark stack flat few classes.Plus false refl (λ (t : Lexeme). counts_gives RepeatData.Plus))
      (counts_if (counts_mark stack flat few classes.Question false refl (λ (t : Lexeme). counts_gives RepeatData.Optional)) counts_counted (starts classes.Question)) (starts classes.Plus)) (starts classes.Star))

  counts_repeated : (x : RegexData) → Counts k (Exactly false stack) (Exactly false stack) (repeated x)
  unfolding repeated
  counts_repeated x = counts_then counts_repeat (λ (times : RepeatData). counts_gives (RegexData.Repeat x times))

  counts_atom : Counts k (Exactly false stack) (Exactly false stack) (atom_of r)
  unfolding atom_of sort_of same_class place_of
  counts_atom =
      counts_level stack classes.OpenBracket refl (λ (t : Lexeme). opens_then (h.atom k stack size t) (λ (e : Expression). counts_close stack Opening.Level refl classes.CloseBracket refl few
      (λ (u : Lexeme). counts_gives (RegexData.Atom e))))

  counts_group : Counts k (Exactly false stack) (Exactly false stack) (group_of r)
  unfolding group_of sort_of same_class place_of
  counts_group =
      counts_level stack classes.Open refl (λ (t : Lexeme). opens_then (h.regex k stack size t) (λ (x : RegexData).
      counts_from (shuts_exactly false (Opening.Level ∷ stack)) (counts_close stack Opening.Level refl classes.Close refl few (λ (u : Lexeme). counts_gives x))))

  counts_ratom : Counts k (Exactly false stack) (Exactly false stack) (ratom_of r)
  unfolding ratom_of
  counts_ratom = counts_if counts_atom counts_group (starts classes.OpenBracket)

  counts_post : Counts k (Exactly false stack) (Exactly false stack) (post_of r)
  unfolding post_of
  counts_post = counts_then counts_ratom (λ (x : RegexData). counts_steps starts_repeat counts_repeated x)

  counts_follower : (all : List RegexData) → Counts k (Exactly false stack) (Exactly false stack) (follower_of r all)
  unfolding follower_of
  counts_follower all = counts_then counts_post (λ (x : RegexData). counts_gives (all ++ x ∷ []))

  counts_followed : (x : RegexData) → Counts k (Exactly false stack) (Exactly false stack) (followed_of r x)
  unfolding followed_of
  counts_followed x = counts_then counts_post (λ (y : RegexData). counts_then (counts_steps starts_ratom counts_follower (x ∷ y ∷ [])) (λ (all : List RegexData). counts_gives (RegexData.Cat (regexes all))))

  counts_cat : Counts k (Exactly false stack) (Exactly false stack) (cat_of r)
  unfolding cat_of
  counts_cat = counts_then counts_post (λ (x : RegexData). counts_if (counts_followed x) (counts_gives x) starts_ratom)

  counts_branch : (all : List RegexData) → Counts k (Exactly false stack) (Exactly false stack) (branch_of r all)
  unfolding branch_of sort_of same_class place_of
  counts_branch all = counts_mark stack flat few classes.Bar false refl (λ (t : Lexeme). counts_then counts_cat (λ (x : RegexData). counts_gives (all ++ x ∷ [])))

  counts_branched : (x : RegexData) → Counts k (Exactly false stack) (Exactly false stack) (branched_of r x)
  unfolding branched_of sort_of same_class place_of
  counts_branched x =
      counts_mark stack flat few classes.Bar false refl (λ (t : Lexeme). counts_then counts_cat (λ (y : RegexData). counts_then (counts_steps (starts classes.Bar) counts_branch (x ∷ y ∷ []))
      (λ (all : List RegexData). counts_gives (RegexData.Alt (regexes all)))))

  pub counts_regex : Counts k (Exactly false stack) (Exactly false stack) (regex_of r)
  unfolding regex_of
  counts_regex = counts_then counts_cat (λ (x : RegexData). counts_if (counts_branched x) (counts_gives x) (starts classes.Bar))

pub counts_inside_regex : (left : ℕ) → CountsRegex left (inside_regex left)
unfolding inside_regex
counts_inside_regex zero = record { regex = λ k stack size t. Opens.deep (λ ts. refl) (omega (arith, size)); atom = λ k stack size t. Opens.deep (λ ts. refl) (omega (arith, size)) }
counts_inside_regex (suc left) = record {
  regex = λ k stack size t. Opens.some (omega (arith, size)) (counts_regex left (inside_regex left) (counts_inside_regex left) k (Opening.Level ∷ stack) refl refl (omega (arith, size)));
  atom = λ k stack size t. Opens.some (omega (arith, size)) (counts_whole left (inside left) (counts_inside left) k (Opening.Level ∷ stack) refl (omega (arith, size)));
}
