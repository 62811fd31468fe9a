-- Which words are no names, and what a name begins with.
use Rattle.std.specs.Prelude.{ℕ, ◌==◌, ◌||◌, Bool, List, [], ◌∷◌, codes}
use Rattle.std.specs.List.{list_any}
use Rattle.std.specs.Str.{bytes_eq}
use Rattle.unicode_ident.specs.Ident.{is_xid_start}

-- a name begins with an XID start character or _
abbrev pub begins_name : ℕ → Bool
begins_name c = is_xid_start c || c == 95

-- the words that are no names
abbrev pub reserved_words : List (List ℕ)
reserved_words =
    codes "spec" ∷ codes "module" ∷ codes "import" ∷ codes "env" ∷ codes "sys" ∷ codes "aux" ∷
    codes "boolean" ∷ codes "Int" ∷ codes "type" ∷ codes "define" ∷ codes "predicate" ∷ codes "pattern" ∷
    codes "var" ∷ codes "monitor" ∷ codes "asm" ∷ codes "assumption" ∷ codes "gar" ∷ codes "guarantee" ∷
    codes "ini" ∷ codes "initially" ∷ codes "alw" ∷ codes "always" ∷ codes "G" ∷ codes "trans" ∷
    codes "alwEv" ∷ codes "alwaysEventually" ∷ codes "GF" ∷ codes "trig" ∷ codes "next" ∷ codes "true" ∷
    codes "false" ∷ codes "not" ∷ codes "and" ∷ codes "or" ∷ codes "implies" ∷ codes "iff" ∷
    codes "mod" ∷ codes "PREV" ∷ codes "Y" ∷ codes "ONCE" ∷ codes "O" ∷ codes "HISTORICALLY" ∷
    codes "H" ∷ codes "SINCE" ∷ codes "S" ∷ codes "TRIGGERED" ∷ codes "T" ∷ codes "forall" ∷
    codes "exists" ∷ codes "in" ∷ []

-- a word that is no name
unfoldable pub is_reserved : List ℕ → Bool
is_reserved word = list_any (λ r. bytes_eq r word) reserved_words
