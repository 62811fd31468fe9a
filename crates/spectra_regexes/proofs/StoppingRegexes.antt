-- Where reading a regular expression stops depends on the tokens up to there alone.
use Rattle.std.proofs.Common.{ℕ, zero, suc, cond, List, [], ◌∷◌, ◌++◌, Some, Ok, refl}
use Rattle.spectra_trees.specs.declared.class.Class.TheVariants as classes
use Rattle.spectra_trees.specs.Classes.{place_of}
use Rattle.spectra_trees.specs.Data.{Expression, RegexData, regexes, RepeatData}
use Rattle.spectra_trees.specs.Lexemes.{Lexeme}
use Rattle.spectra_exprs.specs.Read.{◌>>=◌, starts, expect, all_of}
use Rattle.spectra_exprs.specs.Expressions.{inside}
use Rattle.spectra_regexes.specs.Regexes.{between_of, exactly_of, counted, repeat, starts_repeat, repeated, InsideRegex, atom_of, group_of, ratom_of, post_of, starts_ratom, follower_of, followed_of, cat_of, branch_of, branched_of, regex_of, inside_regex}
use Rattle.spectra_exprs.proofs.Stopping.{StableAfter, Stable, stable_wider, stable_then, stable_gives, stable_same, stable_deep, stable_behind, OfHead, starts_of_head, or_tests_of_head, stable_if}
use Rattle.spectra_exprs.proofs.StoppingSteps.{Uses, uses_token, uses_before, uses_then, uses_if, uses_same, stable_steps}
use Rattle.spectra_exprs.proofs.StoppingExpressions.{stable_after, stable_inside, stable_whole}
use Rattle.spectra_regexes.proofs.SoundRegexes.{repeat_same}

pub repeat_of_head : OfHead starts_repeat
unfolding starts_repeat
repeat_of_head = or_tests_of_head (or_tests_of_head (or_tests_of_head (starts_of_head classes.Star) (starts_of_head classes.Plus)) (starts_of_head classes.Question)) (starts_of_head classes.OpenBrace)

pub ratom_of_head : OfHead starts_ratom
unfolding starts_ratom
ratom_of_head = or_tests_of_head (starts_of_head classes.OpenBracket) (starts_of_head classes.Open)

-- ---- repeats

stable_between : (low : List ℕ) → Stable (between_of low)
unfolding between_of place_of
stable_between low =
    stable_after classes.Comma (record { checked = refl }) (λ (t : Lexeme). stable_after classes.Number (record { checked = refl }) (λ (n : Lexeme).
    stable_after classes.CloseBrace (record { checked = refl }) (λ (u : Lexeme). stable_gives (RepeatData.Between low n.text))))

stable_exactly : (low : List ℕ) → Stable (exactly_of low)
unfolding exactly_of place_of
stable_exactly low = stable_after classes.CloseBrace (record { checked = refl }) (λ (u : Lexeme). stable_gives (RepeatData.Exactly low))

counted_behind : (t : Lexeme) → Stable (λ ts. expect classes.Number ts >>= λ n rest. cond (starts classes.Comma rest) (between_of n.text rest) (exactly_of n.text rest))
unfolding place_of
counted_behind t = stable_after classes.Number (record { checked = refl }) (λ (n : Lexeme). stable_if (starts_of_head classes.Comma) (stable_between n.text) (stable_exactly n.text))

stable_counted : Stable counted
unfolding counted place_of
stable_counted = stable_after classes.OpenBrace (record { checked = refl }) counted_behind

uses_counted : Uses counted
unfolding counted
uses_counted = uses_then (uses_token classes.OpenBrace) counted_behind

stable_repeat : Stable repeat
unfolding place_of
stable_repeat =
    stable_same repeat_same
    (stable_if (starts_of_head classes.Star) (stable_after classes.Star (record { checked = refl }) (λ (t : Lexeme). stable_gives RepeatData.Star))
    (stable_if (starts_of_head classes.Plus) (stable_after classes.Plus (record { checked = refl }) (λ (t : Lexeme). stable_gives RepeatData.Plus))
    (stable_if (starts_of_head classes.Question) (stable_after classes.Question (record { checked = refl }) (λ (t : Lexeme). stable_gives RepeatData.Optional)) stable_counted)))

uses_repeat : Uses repeat
uses_repeat =
    uses_same repeat_same
    (uses_if (starts classes.Star) (uses_then (uses_token classes.Star) (λ (t : Lexeme). stable_gives RepeatData.Star))
    (uses_if (starts classes.Plus) (uses_then (uses_token classes.Plus) (λ (t : Lexeme). stable_gives RepeatData.Plus))
    (uses_if (starts classes.Question) (uses_then (uses_token classes.Question) (λ (t : Lexeme). stable_gives RepeatData.Optional)) uses_counted)))

stable_repeated : (x : RegexData) → Stable (repeated x)
unfolding repeated
stable_repeated x = stable_then stable_repeat (λ (times : RepeatData). stable_gives (RegexData.Repeat x times))

pub uses_repeated : (x : RegexData) → Uses (repeated x)
unfolding repeated
uses_repeated x = uses_then uses_repeat (λ (times : RepeatData). stable_gives (RegexData.Repeat x times))

-- ---- over what reads one level deeper

pub record StableRegex (r : InsideRegex) : Type 0 where
  pub regex : (t : Lexeme) → StableAfter (Some t) (r.regex t)
  pub atom : (t : Lexeme) → StableAfter (Some t) (r.atom t)

module _ (r : InsideRegex) (s : StableRegex r) where
  atom_behind : (t : Lexeme) → StableAfter (Some t) (λ ts. r.atom t ts >>= λ e rest. expect classes.CloseBracket rest >>= λ u rest. Ok (RegexData.Atom e, rest))
  unfolding place_of
  atom_behind t = stable_then (s.atom t) (λ (e : Expression). stable_after classes.CloseBracket (record { checked = refl }) (λ (u : Lexeme). stable_gives (RegexData.Atom e)))

  group_behind : (t : Lexeme) → StableAfter (Some t) (λ ts. r.regex t ts >>= λ x rest. expect classes.Close rest >>= λ u rest. Ok (x, rest))
  unfolding place_of
  group_behind t = stable_then (s.regex t) (λ (x : RegexData). stable_after classes.Close (record { checked = refl }) (λ (u : Lexeme). stable_gives x))

  stable_ratom : Stable (ratom_of r)
  unfolding ratom_of atom_of group_of place_of
  stable_ratom =
      stable_if (starts_of_head classes.OpenBracket) (stable_behind classes.OpenBracket (record { checked = refl }) atom_behind)
      (stable_behind classes.Open (record { checked = refl }) group_behind)

  uses_ratom : Uses (ratom_of r)
  unfolding ratom_of atom_of group_of
  uses_ratom =
      uses_if (starts classes.OpenBracket) (uses_before (λ (t : Lexeme). Some t) (uses_token classes.OpenBracket) atom_behind)
      (uses_before (λ (t : Lexeme). Some t) (uses_token classes.Open) group_behind)

  post_behind : (x : RegexData) → Stable (λ ts. all_of starts_repeat repeated x ts)
  post_behind x = stable_steps repeat_of_head uses_repeated stable_repeated x

  stable_post : Stable (post_of r)
  unfolding post_of
  stable_post = stable_then stable_ratom post_behind

  uses_post : Uses (post_of r)
  unfolding post_of
  uses_post = uses_then uses_ratom post_behind

  stable_follower : (all : List RegexData) → Stable (follower_of r all)
  unfolding follower_of
  stable_follower all = stable_then stable_post (λ (x : RegexData). stable_gives (all ++ x ∷ []))

  pub uses_follower : (all : List RegexData) → Uses (follower_of r all)
  unfolding follower_of
  uses_follower all = uses_then uses_post (λ (x : RegexData). stable_gives (all ++ x ∷ []))

  stable_followed : (x : RegexData) → Stable (followed_of r x)
  unfolding followed_of
  stable_followed x =
      stable_then stable_post (λ (y : RegexData). stable_then (stable_steps ratom_of_head uses_follower stable_follower (x ∷ y ∷ []))
      (λ (all : List RegexData). stable_gives (RegexData.Cat (regexes all))))

  stable_cat : Stable (cat_of r)
  unfolding cat_of
  stable_cat = stable_then stable_post (λ (x : RegexData). stable_if ratom_of_head (stable_followed x) (stable_gives x))

  branch_behind : (all : List RegexData) (t : Lexeme) → Stable (λ ts. cat_of r ts >>= λ x rest. Ok (all ++ x ∷ [], rest))
  branch_behind all t = stable_then stable_cat (λ (x : RegexData). stable_gives (all ++ x ∷ []))

  stable_branch : (all : List RegexData) → Stable (branch_of r all)
  unfolding branch_of place_of
  stable_branch all = stable_after classes.Bar (record { checked = refl }) (branch_behind all)

  pub uses_branch : (all : List RegexData) → Uses (branch_of r all)
  unfolding branch_of
  uses_branch all = uses_then (uses_token classes.Bar) (branch_behind all)

  stable_branched : (x : RegexData) → Stable (branched_of r x)
  unfolding branched_of place_of
  stable_branched x =
      stable_after classes.Bar (record { checked = refl }) (λ (t : Lexeme). stable_then stable_cat (λ (y : RegexData).
      stable_then (stable_steps (starts_of_head classes.Bar) uses_branch stable_branch (x ∷ y ∷ [])) (λ (all : List RegexData). stable_gives (RegexData.Alt (regexes all)))))

  pub stable_regex : Stable (regex_of r)
  unfolding regex_of
  stable_regex = stable_then stable_cat (λ (x : RegexData). stable_if (starts_of_head classes.Bar) (stable_branched x) (stable_gives x))

pub stable_inside_regex : (left : ℕ) → StableRegex (inside_regex left)
unfolding inside_regex
stable_inside_regex zero = record { regex = λ t. stable_deep t; atom = λ t. stable_deep t }
stable_inside_regex (suc left) = record {
  regex = λ t. stable_wider (stable_regex (inside_regex left) (stable_inside_regex left));
  atom = λ t. stable_wider (stable_whole (inside left) (stable_inside left));
}
