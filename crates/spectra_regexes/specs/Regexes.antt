-- Reading regular expressions. `InsideRegex` is what reads one level deeper, behind the token that opens the level.
use Rattle.std.specs.Prelude.{ℕ, zero, suc, ◌||◌, Bool, List, [], ◌∷◌, ◌++◌, Ok, Err, if◌then◌else◌}
use Rattle.spectra_exprs.specs.declared.fault.SyntaxFault.TheVariants as faults
use Rattle.spectra_trees.specs.declared.class.Class.TheVariants as classes
use Rattle.spectra_trees.specs.Classes.{same_class}
use Rattle.spectra_trees.specs.Data.{Expression, RegexData, regexes, RepeatData}
use Rattle.spectra_trees.specs.Lexemes.{Lexeme}
use Rattle.spectra_exprs.specs.Read.{Reader, ◌>>=◌, starts, expect, all_of}
use Rattle.spectra_exprs.specs.Expressions.{deep, whole_of, inside}

pub record InsideRegex : Type 0 where
  pub regex : Lexeme → Reader RegexData
  pub atom : Lexeme → Reader Expression

-- "," NUMBER "}" behind "{" NUMBER
unfoldable pub between_of : List ℕ → Reader RepeatData
between_of low ts =
    expect classes.Comma ts >>= λ t rest. expect classes.Number rest >>= λ n rest. expect classes.CloseBrace rest >>= λ u rest. Ok (RepeatData.Between low n.text, rest)

unfoldable pub exactly_of : List ℕ → Reader RepeatData
exactly_of low ts = expect classes.CloseBrace ts >>= λ u rest. Ok (RepeatData.Exactly low, rest)

-- "{" NUMBER [ "," NUMBER ] "}"
unfoldable pub counted : Reader RepeatData
counted ts =
    expect classes.OpenBrace ts >>= λ t rest. expect classes.Number rest >>= λ n rest. if starts classes.Comma rest then between_of n.text rest else exactly_of n.text rest

-- "*" | "+" | "?" | "{" NUMBER [ "," NUMBER ] "}"
unfoldable pub repeat : Reader RepeatData
repeat [] = Err (faults.Unexpected 0)
repeat (t ∷ ts) =
    if same_class t.class classes.Star then Ok (RepeatData.Star, ts)
    else if same_class t.class classes.Plus then Ok (RepeatData.Plus, ts)
    else if same_class t.class classes.Question then Ok (RepeatData.Optional, ts)
    else counted (t ∷ ts)

unfoldable pub starts_repeat : List Lexeme → Bool
starts_repeat ts = starts classes.Star ts || starts classes.Plus ts || starts classes.Question ts || starts classes.OpenBrace ts

unfoldable pub repeated : RegexData → Reader RegexData
repeated x ts = repeat ts >>= λ times rest. Ok (RegexData.Repeat x times, rest)

-- "[" expr "]"
unfoldable pub atom_of : InsideRegex → Reader RegexData
atom_of d ts = expect classes.OpenBracket ts >>= λ t rest. d.atom t rest >>= λ e rest. expect classes.CloseBracket rest >>= λ u rest. Ok (RegexData.Atom e, rest)

-- "(" regex ")"
unfoldable pub group_of : InsideRegex → Reader RegexData
group_of d ts = expect classes.Open ts >>= λ t rest. d.regex t rest >>= λ x rest. expect classes.Close rest >>= λ u rest. Ok (x, rest)

-- ratom = "[" expr "]" | "(" regex ")"
unfoldable pub ratom_of : InsideRegex → Reader RegexData
ratom_of d ts = if starts classes.OpenBracket ts then atom_of d ts else group_of d ts

-- post = ratom { "*" | "+" | "?" | "{" NUMBER [ "," NUMBER ] "}" }
unfoldable pub post_of : InsideRegex → Reader RegexData
post_of d ts = ratom_of d ts >>= λ x rest. all_of starts_repeat repeated x rest

unfoldable pub starts_ratom : List Lexeme → Bool
starts_ratom ts = starts classes.OpenBracket ts || starts classes.Open ts

unfoldable pub follower_of : InsideRegex → List RegexData → Reader (List RegexData)
follower_of d all ts = post_of d ts >>= λ x rest. Ok (all ++ x ∷ [], rest)

-- { post } behind a first post, once at least
unfoldable pub followed_of : InsideRegex → RegexData → Reader RegexData
followed_of d x ts = post_of d ts >>= λ y rest. all_of starts_ratom (follower_of d) (x ∷ y ∷ []) rest >>= λ all rest. Ok (RegexData.Cat (regexes all), rest)

-- cat = post { post }
unfoldable pub cat_of : InsideRegex → Reader RegexData
cat_of d ts = post_of d ts >>= λ x rest. if starts_ratom rest then followed_of d x rest else Ok (x, rest)

unfoldable pub branch_of : InsideRegex → List RegexData → Reader (List RegexData)
branch_of d all ts = expect classes.Bar ts >>= λ t rest. cat_of d rest >>= λ x rest. Ok (all ++ x ∷ [], rest)

-- { "|" cat } behind a first cat, once at least
unfoldable pub branched_of : InsideRegex → RegexData → Reader RegexData
branched_of d x ts = expect classes.Bar ts >>= λ t rest. cat_of d rest >>= λ y rest. all_of (starts classes.Bar) (branch_of d) (x ∷ y ∷ []) rest >>= λ all rest. Ok (RegexData.Alt (regexes all), rest)

-- regex = cat { "|" cat }
unfoldable pub regex_of : InsideRegex → Reader RegexData
regex_of d ts = cat_of d ts >>= λ x rest. if starts classes.Bar rest then branched_of d x rest else Ok (x, rest)

-- with so many levels that may still be opened
unfoldable pub inside_regex : ℕ → InsideRegex
inside_regex zero = record { regex = deep; atom = deep }
inside_regex (suc left) = record { regex = λ t. regex_of (inside_regex left); atom = λ t. whole_of (inside left) }
