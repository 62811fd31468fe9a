-- Laws over the definitions alone, each of which the function of its name in src/laws.rt proves.
use Rattle.std.specs.Prelude.{◌≡◌, ◌<◌, ◌≤◌, ℕ, ◌+◌, nat_lt, true, false, List, [], ◌++◌, get_or, length, map, replicate, sum}
use Rattle.std.specs.List.{list_all}
use Rattle.spec_model.specs.Values.{DomainData, TruthValues}
use Rattle.spec_model.specs.Moves.{has_next}
use Rattle.spec_model.specs.Syntax.{Formula}
use Rattle.spec_model.specs.WellTyped.{reads_some, shifts_some, is_typed}
use Rattle.spectra_resolved.specs.declared.stand.Stand.{Stand}
use Rattle.spectra_resolved.specs.Resolved.{ResolvedTree}
use Rattle.spectra_copies.specs.Copies.{written}
use Rattle.spectra_judge.specs.Kinds.{Truth, Anything}
use Rattle.spectra_judge.specs.declared.standing.Bans.{Bans}
use Rattle.spectra_judge.specs.Standings.{bans_of}
use Rattle.spectra_judge.specs.Wanting.{wants_truth}
use Rattle.spectra_judge.specs.Known.{Known, is_system}
use Rattle.spectra_judge.specs.Judged.{faults_of}
use Rattle.spectra_judge.specs.PutIn.{is_array, is_put_in, in_line, in_pattern, domain_kind, has_room}
use Rattle.spectra_cases.specs.Formulas.{formula_of}

-- each quantifier in it whose bounds have numbers is written out
abbrev pub IsWrittenOut : ResolvedTree → Type 0
IsWrittenOut t = written [] [] t ≡ t

-- an element of an array is of the kind and of the owner of the first one
pub record IsAlike (known : Known) (first element : ℕ) : Type 0 where
  pub kind : get_or known.variables element Anything ≡ get_or known.variables first Anything
  pub owner : is_system known element ≡ is_system known first

-- so is each, where variables of so many elements each are declared
abbrev pub AreAlike : (counts : List ℕ) → Known → Type 0
AreAlike counts known = (first n i : ℕ) → is_array counts first n ≡ true → i < n → IsAlike known first (first + i)

-- An expression of a line in which everything is put in, without a fault where it stands, has a formula that is typed: its
-- variables have these domains, 1,024 at most, whose enum names have numbers of 16 bits, and so many enum names are declared.
abbrev pub LineIsTyped : Type 0
LineIsTyped = (known : Known) (names : ℕ) (counts : List ℕ) (domains : List DomainData) (stand : Stand) (t : ResolvedTree) →
    sum counts ≡ length domains → length domains ≤ 1024 → AreAlike counts known → known.variables ≡ map domain_kind domains → list_all has_room known.variables ≡ true →
    wants_truth stand ≡ true → is_put_in (in_line names counts) t ≡ true → IsWrittenOut t → faults_of known stand t ≡ [] →
    is_typed (record { domains = domains; tables = [] }) names (formula_of known 0 t) ≡ true

-- So has one of a pattern's line, where there are so many parameters and its own variables have these domains, with such names.
abbrev pub PatternIsTyped : Type 0
PatternIsTyped = (known : Known) (names params : ℕ) (own : List DomainData) (stand : Stand) (t : ResolvedTree) →
    known.parameters ≡ replicate params Truth → known.own ≡ map domain_kind own → list_all has_room known.own ≡ true →
    wants_truth stand ≡ true → is_put_in (in_pattern names params (length own)) t ≡ true → IsWrittenOut t → faults_of known stand t ≡ [] →
    is_typed (record { domains = replicate params TruthValues ++ own; tables = [] }) names (formula_of known params t) ≡ true

-- What is banned where a line's expression stands isn't in its formula: a `next`, and variables of the system, anywhere or
-- under a `next`.
pub record KeepsLineBans (known : Known) (bans : Bans) (f : Formula) : Type 0 where
  pub next : bans.next ≡ true → has_next f ≡ false
  pub system : bans.system ≡ true → reads_some (is_system known) f ≡ false
  pub shifted : bans.shifted_system ≡ true → shifts_some (is_system known) f ≡ false

abbrev pub LineKeepsBans : Type 0
LineKeepsBans = (known : Known) (names : ℕ) (counts : List ℕ) (stand : Stand) (t : ResolvedTree) → AreAlike counts known →
    is_put_in (in_line names counts) t ≡ true → faults_of known stand t ≡ [] → KeepsLineBans known (bans_of stand) (formula_of known 0 t)

-- So it is in a pattern's line, with the parameters.
pub record KeepsPatternBans (params : ℕ) (bans : Bans) (f : Formula) : Type 0 where
  pub next : bans.next ≡ true → has_next f ≡ false
  pub parameter : bans.parameter ≡ true → reads_some (λ k. nat_lt k params) f ≡ false
  pub shifted : bans.shifted_parameter ≡ true → shifts_some (λ k. nat_lt k params) f ≡ false

abbrev pub PatternKeepsBans : Type 0
PatternKeepsBans = (known : Known) (names params own : ℕ) (stand : Stand) (t : ResolvedTree) →
    is_put_in (in_pattern names params own) t ≡ true → faults_of known stand t ≡ [] → KeepsPatternBans params (bans_of stand) (formula_of known params t)
