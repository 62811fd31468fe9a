-- Texts whose expressions are written out, as long as there is room.
use Rattle.std.specs.Prelude.{ℕ, ◌-◌, ℤ, nat_le, if◌then◌else◌, List, [], ◌∷◌, Option, Some, None}
use Rattle.spectra_resolved.specs.Resolved.{ResolvedTree, ResolvedRegex, Atom, Sequence, Choice, Repetition, ResolvedRegexes}
use Rattle.spectra_resolved.specs.Texts.{ResolvedDefinition, ResolvedPatternLine, ResolvedPattern, ResolvedBody, ResolvedLine, ResolvedText}
use Rattle.spectra_copies.specs.Nodes.{tree_nodes}
use Rattle.spectra_copies.specs.Copies.{written, has_quantifier}

-- what is made, and the room for nodes that is left: none from the first expression on that doesn't fit
pub record Out (A : Type 0) : Type 0 where
  pub made : A
  pub room : Option ℕ

abbrev pub unchanged : {A : Type 0} → Option ℕ → A → Out A
unchanged room x = record { made = x; room = room }

abbrev pub within : {A B : Type 0} → (A → B) → Out A → Out B
within f o = record { made = f o.made; room = o.room }

-- several, one behind another
abbrev pub each_in_turn : {A : Type 0} → (Option ℕ → A → Out A) → Option ℕ → List A → Out (List A)
each_in_turn step room [] = unchanged room []
each_in_turn step room (x ∷ xs) =
    let first = step room x in
    let rest = each_in_turn step first.room xs in
    record { made = first.made ∷ rest.made; room = rest.room }

-- ---- expressions

-- an expression that has a quantifier, by what it is written out
abbrev pub fitted : Option ℕ → (before after : ResolvedTree) → Out ResolvedTree
fitted None t made = unchanged None t
fitted (Some room) t made = if nat_le (tree_nodes made) room then record { made = made; room = Some (room - tree_nodes made) } else unchanged None t

-- an expression without one isn't touched, and takes no room
abbrev pub tree_out : (c : List (Option ℤ)) → Option ℕ → ResolvedTree → Out ResolvedTree
tree_out c room t = if has_quantifier t then fitted room t (written c [] t) else unchanged room t

abbrev mutual
  pub regex_out : (c : List (Option ℤ)) → Option ℕ → ResolvedRegex → Out ResolvedRegex
  regex_out c room (Atom t) = within Atom (tree_out c room t)
  regex_out c room (Sequence rs) = within Sequence (regexes_out c room rs)
  regex_out c room (Choice rs) = within Choice (regexes_out c room rs)
  regex_out c room (Repetition r times) = within (λ made. Repetition made times) (regex_out c room r)

  pub regexes_out : (c : List (Option ℤ)) → Option ℕ → ResolvedRegexes → Out ResolvedRegexes
  regexes_out c room ResolvedRegexes.none = unchanged room ResolvedRegexes.none
  regexes_out c room (ResolvedRegexes.one_more r rs) =
      let first = regex_out c room r in
      let rest = regexes_out c first.room rs in
      record { made = ResolvedRegexes.one_more first.made rest.made; room = rest.room }

-- ---- what a text says

abbrev pub definition_out : (c : List (Option ℤ)) → Option ℕ → ResolvedDefinition → Out ResolvedDefinition
definition_out c room d = within (λ body. record d { body = body }) (tree_out c room d.body)

abbrev pub pattern_line_out : (c : List (Option ℤ)) → Option ℕ → ResolvedPatternLine → Out ResolvedPatternLine
pattern_line_out c room (ResolvedPatternLine.Initial at t) = within (ResolvedPatternLine.Initial at) (tree_out c room t)
pattern_line_out c room (ResolvedPatternLine.Safety at t) = within (ResolvedPatternLine.Safety at) (tree_out c room t)
pattern_line_out c room (ResolvedPatternLine.Recurring at t) = within (ResolvedPatternLine.Recurring at) (tree_out c room t)

abbrev pub pattern_out : (c : List (Option ℤ)) → Option ℕ → ResolvedPattern → Out ResolvedPattern
pattern_out c room p = within (λ lines. record p { lines = lines }) (each_in_turn (pattern_line_out c) room p.lines)

abbrev pub body_out : (c : List (Option ℤ)) → Option ℕ → ResolvedBody → Out ResolvedBody
body_out c room (ResolvedBody.Initial t) = within ResolvedBody.Initial (tree_out c room t)
body_out c room (ResolvedBody.Safety t) = within ResolvedBody.Safety (tree_out c room t)
body_out c room (ResolvedBody.Recurring t) = within ResolvedBody.Recurring (tree_out c room t)
body_out c room (ResolvedBody.Trigger at cause effect) =
    let first = regex_out c room cause in
    within (ResolvedBody.Trigger at first.made) (regex_out c first.room effect)
body_out c room (ResolvedBody.Pattern at used arguments) = within (ResolvedBody.Pattern at used) (each_in_turn (tree_out c) room arguments)

abbrev pub line_out : (c : List (Option ℤ)) → Option ℕ → ResolvedLine → Out ResolvedLine
line_out c room l = within (λ body. record l { body = body }) (body_out c room l.body)

-- ---- the whole

-- at first there is room for the most nodes
abbrev pub all_room : Option ℕ
all_room = Some 1_000_000

-- A text as it is judged: its definitions first, then its patterns' lines, and then its lines, in text order. `c` has the numbers
-- of the defines that have one.
abbrev pub written_text : (c : List (Option ℤ)) → ResolvedText → ResolvedText
written_text c text =
    let definitions = each_in_turn (definition_out c) all_room text.definitions in
    let patterns = each_in_turn (pattern_out c) definitions.room text.patterns in
    let lines = each_in_turn (line_out c) patterns.room text.lines in
    record text { definitions = definitions.made; patterns = patterns.made; lines = lines.made }
