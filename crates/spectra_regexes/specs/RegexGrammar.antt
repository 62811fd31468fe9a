-- The grammar of regular expressions: one relation for each production.
use Rattle.std.specs.Prelude.{ℕ, zero, suc, List, [], ◌∷◌, ◌++◌}
use Rattle.spectra_trees.specs.declared.class.Class.TheVariants as classes
use Rattle.spectra_trees.specs.Data.{Expression, RegexData, regexes, RepeatData}
use Rattle.spectra_trees.specs.Lexemes.{Lexeme}
use Rattle.spectra_exprs.specs.Forms.{Grammar, Gives, Token, ◌▸◌, ◌∣◌, Steps}
use Rattle.spectra_exprs.specs.Grammar.{ExprOf, Levels, Nothing}

-- a regex, and an expr, one level deeper
pub record DeeperRegex : Type 1 where
  pub Inner : List Lexeme → RegexData → Type 0
  pub Atom : List Lexeme → Expression → Type 0

-- "*" | "+" | "?" | "{" NUMBER [ "," NUMBER ] "}"
abbrev pub Repeat : Grammar RepeatData
Repeat =
    (Token classes.Star ▸ λ t. Gives RepeatData.Star)
    ∣ (Token classes.Plus ▸ λ t. Gives RepeatData.Plus)
    ∣ (Token classes.Question ▸ λ t. Gives RepeatData.Optional)
    ∣ (Token classes.OpenBrace ▸ λ t. Token classes.Number ▸ λ n.
    (Token classes.Comma ▸ λ c. Token classes.Number ▸ λ m. Token classes.CloseBrace ▸ λ u. Gives (RepeatData.Between n.text m.text))
    ∣ (Token classes.CloseBrace ▸ λ u. Gives (RepeatData.Exactly n.text)))

-- ratom = "[" expr "]" | "(" regex ")"
abbrev pub Ratom : DeeperRegex → Grammar RegexData
Ratom d =
    (Token classes.OpenBracket ▸ λ t. d.Atom ▸ λ e. Token classes.CloseBracket ▸ λ u. Gives (RegexData.Atom e))
    ∣ (Token classes.Open ▸ λ t. d.Inner ▸ λ x. Token classes.Close ▸ λ u. Gives x)

abbrev pub Repeated : RegexData → Grammar RegexData
Repeated x = Repeat ▸ λ times. Gives (RegexData.Repeat x times)

-- post = ratom { "*" | "+" | "?" | "{" NUMBER [ "," NUMBER ] "}" }
abbrev pub Post : DeeperRegex → Grammar RegexData
Post d = Ratom d ▸ λ x. Steps Repeated x

abbrev pub Follower : DeeperRegex → List RegexData → Grammar (List RegexData)
Follower d all = Post d ▸ λ x. Gives (all ++ x ∷ [])

-- cat = post { post }
abbrev pub Cat : DeeperRegex → Grammar RegexData
Cat d = Post d ▸ λ x. (Post d ▸ λ y. Steps (Follower d) (x ∷ y ∷ []) ▸ λ all. Gives (RegexData.Cat (regexes all))) ∣ Gives x

abbrev pub Branch : DeeperRegex → List RegexData → Grammar (List RegexData)
Branch d all = Token classes.Bar ▸ λ t. Cat d ▸ λ x. Gives (all ++ x ∷ [])

-- regex = cat { "|" cat }
abbrev pub RegexOf : DeeperRegex → Grammar RegexData
RegexOf d = Cat d ▸ λ x. (Token classes.Bar ▸ λ t. Cat d ▸ λ y. Steps (Branch d) (x ∷ y ∷ []) ▸ λ all. Gives (RegexData.Alt (regexes all))) ∣ Gives x

-- with so many levels that may still be opened
abbrev pub RegexLevels : ℕ → DeeperRegex
RegexLevels zero = record { Inner = Nothing; Atom = Nothing }
RegexLevels (suc left) = record { Inner = RegexOf (RegexLevels left); Atom = ExprOf (Levels left) }
