-- Where reading a regular expression stops, what was used begins one.
use Rattle.std.proofs.Common.{ℕ, zero, suc, ◌<◌, List, [], ◌∷◌, ◌++◌, Some, arith}
use Rattle.spectra_trees.specs.declared.class.Class.TheVariants as classes
use Rattle.spectra_trees.specs.Data.{Expression, RegexData, regexes, RepeatData}
use Rattle.spectra_trees.specs.Lexemes.{Lexeme}
use Rattle.spectra_exprs.specs.Read.{starts}
use Rattle.spectra_exprs.specs.Expressions.{inside}
use Rattle.spectra_regexes.specs.Regexes.{between_of, exactly_of, counted, repeat, starts_repeat, repeated, InsideRegex, atom_of, group_of, ratom_of, post_of, starts_ratom, follower_of, followed_of, cat_of, branch_of, branched_of, regex_of, inside_regex}
use Rattle.spectra_exprs.specs.Forms.{Gives, Token, ◌▸◌, ◌∣◌, Steps}
use Rattle.spectra_exprs.specs.Grammar.{Levels}
use Rattle.spectra_regexes.specs.RegexGrammar.{DeeperRegex, Repeat, Ratom, Repeated, Post, Follower, Cat, Branch, RegexOf, RegexLevels}
use Rattle.spectra_exprs.proofs.Opening.{Begun, FullAfter, Full, begun_first, full_wider, full_then, full_gives, full_same, full_deep, full_token, full_behind, full_if, begun_left, begun_right, begun_gives}
use Rattle.spectra_exprs.proofs.OpeningSteps.{full_steps, begun_steps}
use Rattle.spectra_exprs.proofs.Examples.{a_Bar, a_Close, a_CloseBrace, a_CloseBracket, a_Comma, a_Number, a_Open, a_OpenBrace, a_OpenBracket, a_Plus, a_Question, a_Star}
use Rattle.spectra_exprs.proofs.OpeningExpressions.{begun_expr, full_inside, full_whole}
use Rattle.spectra_regexes.proofs.SoundRegexes.{repeat_same}

full_between : (n : List ℕ) → Full (Token classes.Comma ▸ λ c. Token classes.Number ▸ λ m. Token classes.CloseBrace ▸ λ u. Gives (RepeatData.Between n m.text)) (between_of n)
unfolding between_of
full_between n = full_then (full_token classes.Comma a_Comma) (λ (c : Lexeme). full_then (full_token classes.Number a_Number) (λ (m : Lexeme). full_then (full_token classes.CloseBrace a_CloseBrace) (λ (u : Lexeme). full_gives (RepeatData.Between n m.text))))

full_exactly : (n : List ℕ) → Full (Token classes.CloseBrace ▸ λ u. Gives (RepeatData.Exactly n)) (exactly_of n)
unfolding exactly_of
full_exactly n = full_then (full_token classes.CloseBrace a_CloseBrace) (λ (u : Lexeme). full_gives (RepeatData.Exactly n))

full_counted : Full (Token classes.OpenBrace ▸ λ t. Token classes.Number ▸ λ n.
    (Token classes.Comma ▸ λ c. Token classes.Number ▸ λ m. Token classes.CloseBrace ▸ λ u. Gives (RepeatData.Between n.text m.text))
    ∣ (Token classes.CloseBrace ▸ λ u. Gives (RepeatData.Exactly n.text))) counted
unfolding counted
full_counted = full_then (full_token classes.OpenBrace a_OpenBrace) (λ (t : Lexeme). full_then (full_token classes.Number a_Number) (λ (n : Lexeme). full_if (starts classes.Comma) (full_between n.text) (full_exactly n.text)))

full_repeat : Full Repeat repeat
full_repeat =
    full_same repeat_same
    (full_if (starts classes.Star) (full_then (full_token classes.Star a_Star) (λ (t : Lexeme). full_gives RepeatData.Star))
    (full_if (starts classes.Plus) (full_then (full_token classes.Plus a_Plus) (λ (t : Lexeme). full_gives RepeatData.Plus))
    (full_if (starts classes.Question) (full_then (full_token classes.Question a_Question) (λ (t : Lexeme). full_gives RepeatData.Optional)) full_counted)))

full_repeated : (x : RegexData) → Full (Repeated x) (repeated x)
unfolding repeated
full_repeated x = full_then full_repeat (λ (times : RepeatData). full_gives (RegexData.Repeat x times))

-- ---- what may stand in the place of what is missing

begun_ratom : (d : DeeperRegex) → Begun d.Atom [] → Begun (Ratom d) []
begun_ratom d atom =
    begun_left (begun_first (Token classes.OpenBracket) (λ t. d.Atom ▸ λ e. Token classes.CloseBracket ▸ λ u. Gives (RegexData.Atom e)) [] (full_token classes.OpenBracket a_OpenBracket).whole
    (λ t. begun_first d.Atom (λ e. Token classes.CloseBracket ▸ λ u. Gives (RegexData.Atom e)) [] atom
    (λ e. begun_first (Token classes.CloseBracket) (λ u. Gives (RegexData.Atom e)) [] (full_token classes.CloseBracket a_CloseBracket).whole (λ u. begun_gives (RegexData.Atom e)))))

begun_post : (d : DeeperRegex) → Begun d.Atom [] → Begun (Post d) []
begun_post d atom = begun_first (Ratom d) (λ x. Steps Repeated x) [] (begun_ratom d atom) (λ x. begun_steps x)

begun_cat : (d : DeeperRegex) → Begun d.Atom [] → Begun (Cat d) []
begun_cat d atom = begun_first (Post d) (λ x. (Post d ▸ λ y. Steps (Follower d) (x ∷ y ∷ []) ▸ λ all. Gives (RegexData.Cat (regexes all))) ∣ Gives x) [] (begun_post d atom) (λ x. begun_right (begun_gives x))

begun_regex : (d : DeeperRegex) → Begun d.Atom [] → Begun (RegexOf d) []
begun_regex d atom =
    begun_first (Cat d) (λ x. (Token classes.Bar ▸ λ t. Cat d ▸ λ y. Steps (Branch d) (x ∷ y ∷ []) ▸ λ all. Gives (RegexData.Alt (regexes all))) ∣ Gives x) [] (begun_cat d atom) (λ x. begun_right (begun_gives x))

-- ---- over what reads one level deeper

pub record FullRegex (d : DeeperRegex) (r : InsideRegex) : Type 0 where
  pub inner : (t : Lexeme) → FullAfter (Some t) d.Inner (r.regex t)
  pub atom : (t : Lexeme) → FullAfter (Some t) d.Atom (r.atom t)

module _ (d : DeeperRegex) (r : InsideRegex) (s : FullRegex d r) where
  full_atom : Full (Token classes.OpenBracket ▸ λ t. d.Atom ▸ λ e. Token classes.CloseBracket ▸ λ u. Gives (RegexData.Atom e)) (atom_of r)
  unfolding atom_of
  full_atom = full_behind classes.OpenBracket a_OpenBracket (λ (t : Lexeme). full_then (s.atom t) (λ (e : Expression). full_then (full_token classes.CloseBracket a_CloseBracket) (λ (u : Lexeme). full_gives (RegexData.Atom e))))

  full_group : Full (Token classes.Open ▸ λ t. d.Inner ▸ λ x. Token classes.Close ▸ λ u. Gives x) (group_of r)
  unfolding group_of
  full_group = full_behind classes.Open a_Open (λ (t : Lexeme). full_then (s.inner t) (λ (x : RegexData). full_then (full_token classes.Close a_Close) (λ (u : Lexeme). full_gives x)))

  full_ratom : Full (Ratom d) (ratom_of r)
  unfolding ratom_of
  full_ratom = full_if (starts classes.OpenBracket) full_atom full_group

  full_post : Full (Post d) (post_of r)
  unfolding post_of
  full_post = full_then full_ratom (λ (x : RegexData). full_steps starts_repeat full_repeated x)

  full_follower : (all : List RegexData) → Full (Follower d all) (follower_of r all)
  unfolding follower_of
  full_follower all = full_then full_post (λ (x : RegexData). full_gives (all ++ x ∷ []))

  full_followed : (x : RegexData) → Full (Post d ▸ λ y. Steps (Follower d) (x ∷ y ∷ []) ▸ λ all. Gives (RegexData.Cat (regexes all))) (followed_of r x)
  unfolding followed_of
  full_followed x = full_then full_post (λ (y : RegexData). full_then (full_steps starts_ratom full_follower (x ∷ y ∷ [])) (λ (all : List RegexData). full_gives (RegexData.Cat (regexes all))))

  full_cat : Full (Cat d) (cat_of r)
  unfolding cat_of
  full_cat = full_then full_post (λ (x : RegexData). full_if starts_ratom (full_followed x) (full_gives x))

  full_branch : (all : List RegexData) → Full (Branch d all) (branch_of r all)
  unfolding branch_of
  full_branch all = full_then (full_token classes.Bar a_Bar) (λ (t : Lexeme). full_then full_cat (λ (x : RegexData). full_gives (all ++ x ∷ [])))

  full_branched : (x : RegexData) → Full (Token classes.Bar ▸ λ t. Cat d ▸ λ y. Steps (Branch d) (x ∷ y ∷ []) ▸ λ all. Gives (RegexData.Alt (regexes all))) (branched_of r x)
  unfolding branched_of
  full_branched x =
      full_then (full_token classes.Bar a_Bar) (λ (t : Lexeme). full_then full_cat (λ (y : RegexData). full_then (full_steps (starts classes.Bar) full_branch (x ∷ y ∷ []))
      (λ (all : List RegexData). full_gives (RegexData.Alt (regexes all)))))

  pub full_regex : Full (RegexOf d) (regex_of r)
  unfolding regex_of
  full_regex = full_then full_cat (λ (x : RegexData). full_if (starts classes.Bar) (full_branched x) (full_gives x))

-- the grammar has two levels more: behind a level too many an expression in brackets opens one
pub full_inside_regex : (more left : ℕ) → suc left < more → FullRegex (RegexLevels more) (inside_regex left)
unfolding inside_regex
full_inside_regex zero left lt = absurd (omega arith)
full_inside_regex (suc zero) left lt = absurd (omega arith)
full_inside_regex (suc (suc more)) zero lt = record {
  inner = λ t. full_deep t (begun_regex (RegexLevels (suc more)) (begun_expr (Levels more)));
  atom = λ t. full_deep t (begun_expr (Levels (suc more)));
}
full_inside_regex (suc (suc more)) (suc left) lt = record {
  inner = λ t. full_wider (full_regex (RegexLevels (suc more)) (inside_regex left) (full_inside_regex (suc more) left (omega arith)));
  atom = λ t. full_wider (full_whole (suc more) (inside left) (full_inside (suc more) left (omega arith)));
}
