-- What a line reads as is an assignment.
use Rattle.std.proofs.Common.{◌≡◌, ℕ, true, List, [], ◌∷◌, refl, sym, subst, ◌∙◌}
use Rattle.std.specs.List.{list_any}
use Rattle.std.proofs.lemmas.Bool.{and_from}
use Rattle.spec_model.specs.Values.{Assignment, is_assignment, values_of, same_value}
use Rattle.spec_model.specs.Syntax.{VariableData, Specification}
use Rattle.session_lines.specs.Reading.{Reads, AreGiven}
use Rattle.session_lines.specs.Room.{domains}
use Rattle.session_lines.specs.declared.lines.Lines.{Lines}
use Rattle.session_lines.specs.Views.{names_of, wanted_variables, read_of, AreOver, KeepsTables}
use Rattle.session.specs.Exchanges.{Terms}
use Rattle.session.specs.Protocols.{Serves}

given_fit : (names ws : List (List ℕ)) (vs : List VariableData) (xs : Assignment) → AreGiven names ws vs xs → is_assignment (domains vs) xs ≡ true
given_fit names ws [] [] given = refl
given_fit names ws [] (x ∷ xs) given = absurd given
given_fit names ws (v ∷ vs) [] given = absurd given
given_fit names ws (v ∷ vs) (x ∷ xs) given = and_from (list_any (same_value x) (values_of v.domain)) (is_assignment (domains vs) xs) given.0.written.within (given_fit names ws vs xs given.1)

pub read_fits : (names : List (List ℕ)) (vs : List VariableData) (line : List ℕ) (xs : Assignment) → Reads names vs line xs → is_assignment (domains vs) xs ≡ true
read_fits names vs line xs reads = given_fit names _ vs xs reads.given

-- ---- lines of an exchange

pub reads_over : (l : Lines) (names : List (List ℕ)) (vs us : List VariableData) (line : List ℕ) (x : Assignment) → AreOver l names vs us → Reads (names_of l) (wanted_variables l) line x → Reads names vs line x
reads_over l names vs us line x over reads =
    subst (λ vs. Reads names vs line x) over.wanted (subst (λ (names : List (List ℕ)). Reads names (wanted_variables l) line x) over.names reads)

pub over_reads : (l : Lines) (names : List (List ℕ)) (vs us : List VariableData) (line : List ℕ) (x : Assignment) → AreOver l names vs us → Reads names vs line x → Reads (names_of l) (wanted_variables l) line x
over_reads l names vs us line x over reads =
    subst (λ vs. Reads (names_of l) vs line x) (sym over.wanted) (subst (λ (names : List (List ℕ)). Reads names vs line x) (sym over.names) reads)

pub over_after : (old new : Lines) (names : List (List ℕ)) (vs us : List VariableData) → AreOver old names vs us → KeepsTables old new → AreOver new names vs us
over_after old new names vs us over keeps = record { names = keeps.names ∙ over.names; wanted = keeps.wanted ∙ over.wanted; shown = keeps.shown ∙ over.shown }

pub fits_after : (old new : Lines) (line : List ℕ) → KeepsTables old new → Reads (names_of old) (wanted_variables old) line (read_of new) → is_assignment (domains (wanted_variables new)) (read_of new) ≡ true
fits_after old new line keeps reads =
    subst (λ vs. is_assignment (domains vs) (read_of new) ≡ true) (sym keeps.wanted) (read_fits (names_of old) (wanted_variables old) line (read_of new) reads)

pub serves_after : {State Read : Type 0} (terms : Specification → Terms State Read) (Stands : Specification → State → Type 0) (old new : Lines) → Serves terms Stands old → KeepsTables old new → Serves terms Stands new
serves_after terms Stands old new some keeps =
    record {
      spec = some.spec;
      state = some.state;
      suits = over_after old new (terms some.spec).names (terms some.spec).wanted (terms some.spec).shown some.suits keeps;
      stands = some.stands;
    }

-- what is kept twice is kept
pub kept_on : (first second third : Lines) → KeepsTables first second → KeepsTables second third → KeepsTables first third
kept_on first second third one two = record { names = two.names ∙ one.names; wanted = two.wanted ∙ one.wanted; shown = two.shown ∙ one.shown }
