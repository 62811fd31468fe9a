-- What lines mean in a specification, in which everything is put in.
use Rattle.std.specs.Prelude.{ℕ, suc, ◌+◌, List, [], ◌∷◌, length, map, flat_map}
use Rattle.spec_model.specs.Syntax as model
use Rattle.spec_model.specs.Syntax.{Content, PatternUse, TriggerUse, Statement, TriggerData}
use Rattle.spectra_resolved.specs.declared.text.PatternUse as code
use Rattle.spectra_resolved.specs.declared.text.PatternUse.TheVariants as uses
use Rattle.spectra_resolved.specs.Texts.{ResolvedBody, Initial, Safety, Recurring, Trigger, Pattern, ResolvedLine}
use Rattle.spectra_judge.specs.Known.{Known}
use Rattle.spectra_cases.specs.Formulas.{formula_of}
use Rattle.spectra_patterns.specs.Triggers.{trigger_of}

-- the number of the pattern that is used
abbrev pub pattern_number : code.PatternUse → ℕ
pattern_number (uses.Pattern k) = k
pattern_number uses.Unknown = 0
pattern_number (uses.Arity k) = k

-- the trigger that a line is, where it is one
abbrev pub triggers_in : Known → ResolvedBody → List TriggerData
triggers_in known (Trigger at cause effect) = trigger_of known cause effect ∷ []
triggers_in known _ = []

-- what a line says, where so many triggers stand before it
abbrev pub content_of : Known → (triggers : ℕ) → ResolvedBody → Content
content_of known n (Initial t) = model.Initial (formula_of known 0 t)
content_of known n (Safety t) = model.Safety (formula_of known 0 t)
content_of known n (Recurring t) = model.Recurring (formula_of known 0 t)
content_of known n (Trigger at cause effect) = TriggerUse n
content_of known n (Pattern at used arguments) = PatternUse (pattern_number used) (map (formula_of known 0) arguments)

abbrev pub statement_of : Known → (number triggers : ℕ) → ResolvedLine → Statement
statement_of known number n l = record { number = number; name = l.name; role = l.role; content = content_of known n l.body }

-- the lines, numbered from here on in text order, where so many triggers stand before them
abbrev pub statements_from : Known → (number triggers : ℕ) → List ResolvedLine → List Statement
statements_from known number n [] = []
statements_from known number n (l ∷ ls) = statement_of known number n l ∷ statements_from known (suc number) (n + length (triggers_in known l.body)) ls

-- the specification's lines and triggers
abbrev pub statements : Known → List ResolvedLine → List Statement
statements known ls = statements_from known 1 0 ls

abbrev pub triggers : Known → List ResolvedLine → List TriggerData
triggers known ls = flat_map (λ (l : ResolvedLine). triggers_in known l.body) ls
