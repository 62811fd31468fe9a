-- What is read as a regular expression is one of the grammar.
use Rattle.std.proofs.Common.{◌≡◌, ℕ, zero, suc, cond, List, [], ◌∷◌, ◌++◌, Ok, refl}
use Rattle.spectra_exprs.specs.declared.fault.SyntaxFault.TheVariants as faults
use Rattle.spectra_trees.specs.declared.class.Class.TheVariants as classes
use Rattle.spectra_trees.specs.Classes.{same_class}
use Rattle.spectra_trees.specs.Data.{Expression, RegexData, regexes, RepeatData}
use Rattle.spectra_trees.specs.Lexemes.{Lexeme}
use Rattle.spectra_exprs.specs.Read.{◌>>=◌, starts, expect}
use Rattle.spectra_exprs.specs.Expressions.{inside}
use Rattle.spectra_regexes.specs.Regexes.{between_of, exactly_of, counted, repeat, starts_repeat, repeated, InsideRegex, atom_of, group_of, ratom_of, post_of, starts_ratom, follower_of, followed_of, cat_of, branch_of, branched_of, regex_of, inside_regex}
use Rattle.spectra_exprs.specs.Forms.{Gives, Token, ◌▸◌, ◌∣◌, Steps}
use Rattle.spectra_exprs.specs.Grammar.{Levels}
use Rattle.spectra_regexes.specs.RegexGrammar.{DeeperRegex, Repeat, Ratom, Repeated, Post, Follower, Cat, Branch, RegexOf, RegexLevels}
use Rattle.spectra_exprs.proofs.Soundness.{Sound, sound_gives, sound_fault, sound_token, sound_then, sound_same, sound_if, sound_steps, branch_same}
use Rattle.spectra_exprs.proofs.SoundExpressions.{sound_inside, sound_whole}

sound_between : (n : List ℕ) → Sound (Token classes.Comma ▸ λ c. Token classes.Number ▸ λ m. Token classes.CloseBrace ▸ λ u. Gives (RepeatData.Between n m.text)) (between_of n)
unfolding between_of
sound_between n = sound_then (sound_token classes.Comma) (λ (c : Lexeme). sound_then (sound_token classes.Number) (λ (m : Lexeme). sound_then (sound_token classes.CloseBrace) (λ (u : Lexeme). sound_gives (RepeatData.Between n m.text))))

sound_exactly : (n : List ℕ) → Sound (Token classes.CloseBrace ▸ λ u. Gives (RepeatData.Exactly n)) (exactly_of n)
unfolding exactly_of
sound_exactly n = sound_then (sound_token classes.CloseBrace) (λ (u : Lexeme). sound_gives (RepeatData.Exactly n))

sound_counted : Sound (Token classes.OpenBrace ▸ λ t. Token classes.Number ▸ λ n.
    (Token classes.Comma ▸ λ c. Token classes.Number ▸ λ m. Token classes.CloseBrace ▸ λ u. Gives (RepeatData.Between n.text m.text))
    ∣ (Token classes.CloseBrace ▸ λ u. Gives (RepeatData.Exactly n.text))) counted
unfolding counted
sound_counted = sound_then (sound_token classes.OpenBrace) (λ (t : Lexeme). sound_then (sound_token classes.Number) (λ (n : Lexeme). sound_if (starts classes.Comma) (sound_between n.text) (sound_exactly n.text)))

pub repeat_same : (ts : List Lexeme) → repeat ts
    ≡ cond (starts classes.Star ts) (expect classes.Star ts >>= λ t rest. Ok (RepeatData.Star, rest))
    (cond (starts classes.Plus ts) (expect classes.Plus ts >>= λ t rest. Ok (RepeatData.Plus, rest))
    (cond (starts classes.Question ts) (expect classes.Question ts >>= λ t rest. Ok (RepeatData.Optional, rest)) (counted ts)))
unfolding repeat starts expect counted
repeat_same [] = refl
repeat_same (t ∷ ts) =
    branch_same (same_class t.class classes.Star) t ts _ (λ (u : Lexeme) (rest : List Lexeme). Ok (RepeatData.Star, rest)) _ _
    (branch_same (same_class t.class classes.Plus) t ts _ (λ (u : Lexeme) (rest : List Lexeme). Ok (RepeatData.Plus, rest)) _ _
    (branch_same (same_class t.class classes.Question) t ts _ (λ (u : Lexeme) (rest : List Lexeme). Ok (RepeatData.Optional, rest)) _ _ refl))

sound_repeat : Sound Repeat repeat
sound_repeat =
    sound_same repeat_same
    (sound_if (starts classes.Star) (sound_then (sound_token classes.Star) (λ (t : Lexeme). sound_gives RepeatData.Star))
    (sound_if (starts classes.Plus) (sound_then (sound_token classes.Plus) (λ (t : Lexeme). sound_gives RepeatData.Plus))
    (sound_if (starts classes.Question) (sound_then (sound_token classes.Question) (λ (t : Lexeme). sound_gives RepeatData.Optional)) sound_counted)))

sound_repeated : (x : RegexData) → Sound (Repeated x) (repeated x)
unfolding repeated
sound_repeated x = sound_then sound_repeat (λ (times : RepeatData). sound_gives (RegexData.Repeat x times))

pub record SoundRegex (d : DeeperRegex) (r : InsideRegex) : Type 0 where
  pub inner : (t : Lexeme) → Sound d.Inner (r.regex t)
  pub atom : (t : Lexeme) → Sound d.Atom (r.atom t)

module _ (d : DeeperRegex) (r : InsideRegex) (s : SoundRegex d r) where
  sound_atom : Sound (Token classes.OpenBracket ▸ λ t. d.Atom ▸ λ e. Token classes.CloseBracket ▸ λ u. Gives (RegexData.Atom e)) (atom_of r)
  unfolding atom_of
  sound_atom = sound_then (sound_token classes.OpenBracket) (λ (t : Lexeme). sound_then (s.atom t) (λ (e : Expression). sound_then (sound_token classes.CloseBracket) (λ (u : Lexeme). sound_gives (RegexData.Atom e))))

  sound_group : Sound (Token classes.Open ▸ λ t. d.Inner ▸ λ x. Token classes.Close ▸ λ u. Gives x) (group_of r)
  unfolding group_of
  sound_group = sound_then (sound_token classes.Open) (λ (t : Lexeme). sound_then (s.inner t) (λ (x : RegexData). sound_then (sound_token classes.Close) (λ (u : Lexeme). sound_gives x)))

  sound_ratom : Sound (Ratom d) (ratom_of r)
  unfolding ratom_of
  sound_ratom = sound_if (starts classes.OpenBracket) sound_atom sound_group

  sound_post : Sound (Post d) (post_of r)
  unfolding post_of
  sound_post = sound_then sound_ratom (λ (x : RegexData). sound_steps starts_repeat sound_repeated x)

  sound_follower : (all : List RegexData) → Sound (Follower d all) (follower_of r all)
  unfolding follower_of
  sound_follower all = sound_then sound_post (λ (x : RegexData). sound_gives (all ++ x ∷ []))

  sound_followed : (x : RegexData) → Sound (Post d ▸ λ y. Steps (Follower d) (x ∷ y ∷ []) ▸ λ all. Gives (RegexData.Cat (regexes all))) (followed_of r x)
  unfolding followed_of
  sound_followed x = sound_then sound_post (λ (y : RegexData). sound_then (sound_steps starts_ratom sound_follower (x ∷ y ∷ [])) (λ (all : List RegexData). sound_gives (RegexData.Cat (regexes all))))

  sound_cat : Sound (Cat d) (cat_of r)
  unfolding cat_of
  sound_cat = sound_then sound_post (λ (x : RegexData). sound_if starts_ratom (sound_followed x) (sound_gives x))

  sound_branch : (all : List RegexData) → Sound (Branch d all) (branch_of r all)
  unfolding branch_of
  sound_branch all = sound_then (sound_token classes.Bar) (λ (t : Lexeme). sound_then sound_cat (λ (x : RegexData). sound_gives (all ++ x ∷ [])))

  sound_branched : (x : RegexData) → Sound (Token classes.Bar ▸ λ t. Cat d ▸ λ y. Steps (Branch d) (x ∷ y ∷ []) ▸ λ all. Gives (RegexData.Alt (regexes all))) (branched_of r x)
  unfolding branched_of
  sound_branched x =
      sound_then (sound_token classes.Bar) (λ (t : Lexeme). sound_then sound_cat (λ (y : RegexData). sound_then (sound_steps (starts classes.Bar) sound_branch (x ∷ y ∷ []))
      (λ (all : List RegexData). sound_gives (RegexData.Alt (regexes all)))))

  pub sound_regex : Sound (RegexOf d) (regex_of r)
  unfolding regex_of
  sound_regex = sound_then sound_cat (λ (x : RegexData). sound_if (starts classes.Bar) (sound_branched x) (sound_gives x))

pub sound_inside_regex : (left : ℕ) → SoundRegex (RegexLevels left) (inside_regex left)
unfolding inside_regex
sound_inside_regex zero = record {
  inner = λ t. sound_fault _ (λ ts. faults.TooDeep t.number);
  atom = λ t. sound_fault _ (λ ts. faults.TooDeep t.number);
}
sound_inside_regex (suc left) = record {
  inner = λ t. sound_regex (RegexLevels left) (inside_regex left) (sound_inside_regex left);
  atom = λ t. sound_whole (Levels left) (inside left) (sound_inside left);
}
