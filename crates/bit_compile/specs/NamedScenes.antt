-- Named sets of a formula where a scene has its game: with the entries of the tables that may be read.
use Rattle.std.specs.Prelude.{◌⊎◌, nat_abs, map}
use Rattle.spec_model.specs.declared.value.Value.{Value}
use Rattle.spec_model.specs.Values.{number_of, rank_of, values_of}
use Rattle.spec_model.specs.Views.{domain_data}
use Rattle.spec_model.specs.Syntax.{Formula, Formulas}
use Rattle.spec_model.specs.Diagrams.{Function}
use Rattle.game_values.specs.declared.seen.At.{At}
use Rattle.bdd_bits.specs.Contents.{Contents, function_at}
use Rattle.bit_compile.specs.declared.operation.Operation.{Operation}
use Rattle.bit_compile.specs.declared.cases.Source.{Source}
use Rattle.bit_compile.specs.declared.cases.Source.TheVariants as source
use Rattle.spec_model.specs.GameViews.{hidden_data}
use Rattle.bit_compile.specs.declared.scenes.Scene.{Scene}
use Rattle.bit_compile.specs.Scenes.{game_seen, entries_seen}
use Rattle.bit_compile.specs.Codes.{level_at, width_at}
use Rattle.bit_compile.specs.NamedCodes.{IsOfNumber}
use Rattle.bit_compile.specs.Compiled.{span_of, gives, values_in, cases_in, leads}
use Rattle.bit_compile.specs.CaseRoots.{cases_at}
use Rattle.bit_compile.specs.Named.{IsOfPairs, IsOfLetter, IsOfResults, AreOfFormulas, IsOfFormula, IsOfTables}

-- ---- values

-- on the way to where a value is had
abbrev pub IsOfSource : Contents → Source → Value → Function → Type 0
IsOfSource c source.Everywhere v f = ⊥
IsOfSource c (source.Truth root) v f = ⊥
IsOfSource c (source.Coded codes at k domain) v f = IsOfNumber (level_at codes.now at k) (width_at codes.now k) (rank_of (domain_data domain.now) v) f
IsOfSource c (source.Pairs op a b) v f = IsOfPairs (gives op v) (cases_at c a.now) (cases_at c b.now) f
IsOfSource c (source.Leads next letters a b) v f = IsOfPairs (leads next.now letters v) (cases_at c a.now) (cases_at c b.now) f
IsOfSource c (source.Letters atoms) v f = IsOfLetter (map (λ a. function_at c a.root) atoms.now) (nat_abs (number_of v)) f

-- ---- what a formula is made of

-- the entries of the hidden tables that may be read
abbrev pub IsOfTablesIn : Scene → Function → Type 0
IsOfTablesIn s = IsOfTables (game_seen s) (map hidden_data s.hidden.now)

-- the formula's parts with them
abbrev pub IsNamedIn : Scene → At → Formula → Function → Type 0
IsNamedIn s at e f = IsOfFormula (game_seen s) (entries_seen s) at e f ⊎ IsOfTablesIn s f

abbrev pub IsNamedOr : Scene → At → Formula → (Function → Type 0) → Function → Type 0
IsNamedOr s at e Other f = IsNamedIn s at e f ⊎ Other f

abbrev pub AreNamedIn : Scene → At → Formulas → Function → Type 0
AreNamedIn s at es f = AreOfFormulas (game_seen s) (entries_seen s) at es f ⊎ IsOfTablesIn s f

-- two operands, and what the operation gives
abbrev pub IsOfOperated : Scene → At → Operation → Formula → Formula → Function → Type 0
IsOfOperated s at op a b f = IsNamedIn s at a f ⊎ IsNamedOr s at b (IsOfResults op (cases_in (game_seen s) (entries_seen s) at a) (cases_in (game_seen s) (entries_seen s) at b) (values_of (span_of op (values_in (game_seen s) a) (values_in (game_seen s) b)))) f
