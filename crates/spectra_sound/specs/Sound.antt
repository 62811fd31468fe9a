-- What holds of a text whose names have no fault.
use Rattle.std.specs.Prelude.{◌≡◌, ◌≤◌, ℕ, Bool, true, false, not, ◌&&◌, ◌||◌, nat_lt, nat_le, List, length, map, sum, bytes_eq, All}
use Rattle.std.specs.List.{list_all}
use Rattle.spec_model.specs.declared.spec.Role.{Role}
use Rattle.spec_model.specs.declared.spec.Role.TheVariants as roles
use Rattle.spec_model.specs.Names.{IsName}
use Rattle.spec_model.specs.Values.{Enumeration}
use Rattle.spec_model.specs.WellMade.{all_differ}
use Rattle.spec_model.specs.WellTyped.{is_domain_of}
use Rattle.spectra_resolved.specs.declared.text.PatternUse.{PatternUse}
use Rattle.spectra_resolved.specs.declared.text.PatternUse.TheVariants as uses
use Rattle.spectra_resolved.specs.Resolved.{ResolvedTree, ResolvedRegex, Atom, Sequence, Choice, Repetition, ResolvedRegexes}
use Rattle.spectra_resolved.specs.Texts.{ResolvedType, Booleans, RangeOf, EnumOf, TypeNumber, NoType, ResolvedVariable, ResolvedAlias, ResolvedDefinition, ResolvedPatternLine, ResolvedPattern, ResolvedBody, ResolvedLine, ResolvedText}
use Rattle.spectra_judge.specs.PutIn.{Parts, is_put_in, in_line, in_pattern}
use Rattle.spectra_elaboration.specs.Written.{is_use, is_written}

-- ---- types

-- Where so many enum names and types are declared: an enum has a name, none twice, and a name stands for a type.
abbrev pub is_sound_type : (names types : ℕ) → ResolvedType → Bool
is_sound_type names types Booleans = true
is_sound_type names types (RangeOf at low high) = true
is_sound_type names types (EnumOf ns) = is_domain_of names (Enumeration ns)
is_sound_type names types (TypeNumber k) = nat_lt k types
is_sound_type names types NoType = false

-- ---- what names stand for in a text

-- how many things there are, how many elements each variable has, and how many parameters each definition and each pattern
pub record Sizes : Type 0 where
  pub names : ℕ
  pub counts : List ℕ
  pub types : ℕ
  pub arities : List ℕ
  pub patterns : List ℕ

-- each element of an array counts as one variable
abbrev pub elements_in : List ResolvedVariable → ℕ
elements_in vs = sum (map (λ (v : ResolvedVariable). v.count) vs)

abbrev pub sizes_of : ResolvedText → Sizes
sizes_of text =
    record {
      names = length text.names;
      counts = map (λ (v : ResolvedVariable). v.count) text.variables;
      types = length text.types;
      arities = map (λ (d : ResolvedDefinition). length d.params) text.definitions;
      patterns = map (λ (p : ResolvedPattern). p.params) text.patterns;
    }

abbrev pub is_type : Sizes → ResolvedType → Bool
is_type z t = is_sound_type z.names z.types t

-- what stands in a line: parts without parts, besides defines, and arrays
abbrev pub is_part : Sizes → Parts
is_part z = in_line z.names z.counts

-- an expression of a line, or of a body with so many parameters
abbrev pub is_sound_tree : Sizes → (params : ℕ) → ResolvedTree → Bool
is_sound_tree z params t = is_written z.arities (is_part z) params t

-- ---- definitions and patterns

abbrev pub is_sound_definition : Sizes → ResolvedDefinition → Bool
is_sound_definition z d = not d.doubled && (list_all (is_type z) d.params && is_sound_tree z (length d.params) d.body)

abbrev pub is_sound_pattern_line : Parts → ResolvedPatternLine → Bool
is_sound_pattern_line good (ResolvedPatternLine.Initial at t) = is_put_in good t
is_sound_pattern_line good (ResolvedPatternLine.Safety at t) = is_put_in good t
is_sound_pattern_line good (ResolvedPatternLine.Recurring at t) = is_put_in good t

abbrev pub is_sound_pattern : Sizes → ResolvedPattern → Bool
is_sound_pattern z p =
    not p.doubled && (list_all (is_type z) p.own && list_all (is_sound_pattern_line (in_pattern z.names p.params (length p.own))) p.lines)

-- ---- lines

abbrev pub has_some : ResolvedRegexes → Bool
has_some ResolvedRegexes.none = false
has_some (ResolvedRegexes.one_more r rs) = true

abbrev mutual
  -- its brackets are sound, and each choice has an alternative
  pub is_sound_regex : Sizes → ResolvedRegex → Bool
  is_sound_regex z (Atom t) = is_sound_tree z 0 t
  is_sound_regex z (Sequence rs) = are_sound_regexes z rs
  is_sound_regex z (Choice rs) = has_some rs && are_sound_regexes z rs
  is_sound_regex z (Repetition r times) = is_sound_regex z r

  pub are_sound_regexes : Sizes → ResolvedRegexes → Bool
  are_sound_regexes z ResolvedRegexes.none = true
  are_sound_regexes z (ResolvedRegexes.one_more r rs) = is_sound_regex z r && are_sound_regexes z rs

-- the use of a pattern with so many arguments
abbrev pub is_pattern_use : Sizes → PatternUse → (arguments : ℕ) → Bool
is_pattern_use z (uses.Pattern k) n = is_use z.patterns k n
is_pattern_use z _ n = false

abbrev pub is_sound_body : Sizes → ResolvedBody → Bool
is_sound_body z (ResolvedBody.Initial t) = is_sound_tree z 0 t
is_sound_body z (ResolvedBody.Safety t) = is_sound_tree z 0 t
is_sound_body z (ResolvedBody.Recurring t) = is_sound_tree z 0 t
is_sound_body z (ResolvedBody.Trigger at cause effect) = is_sound_regex z cause && is_sound_regex z effect
is_sound_body z (ResolvedBody.Pattern at used ts) = is_pattern_use z used (length ts) && list_all (is_sound_tree z 0) ts

-- a monitor's line is initial or holds at each position
abbrev pub is_monitor_body : ResolvedBody → Bool
is_monitor_body (ResolvedBody.Initial t) = true
is_monitor_body (ResolvedBody.Safety t) = true
is_monitor_body _ = false

abbrev pub fits_role : Role → ResolvedBody → Bool
fits_role roles.Monitor body = is_monitor_body body
fits_role _ body = true

abbrev pub is_sound_line : Sizes → ResolvedLine → Bool
is_sound_line z l = fits_role l.role l.body && is_sound_body z l.body

-- ---- texts

pub record IsSound (text : ResolvedText) : Type 0 where
  pub few_names : length text.names ≤ 65_535
  pub different_names : all_differ bytes_eq text.names ≡ true
  pub spelled_names : All IsName text.names
  pub few_variables : elements_in text.variables ≤ 1024
  pub some_elements : list_all (λ (v : ResolvedVariable). nat_lt 0 v.count) text.variables ≡ true
  pub few_elements : list_all (λ (v : ResolvedVariable). nat_le v.count 256) text.variables ≡ true
  pub alone : list_all (λ (v : ResolvedVariable). v.array || nat_le v.count 1) text.variables ≡ true
  pub different_variables : all_differ bytes_eq (map (λ (v : ResolvedVariable). v.name.text) text.variables) ≡ true
  pub spelled_variables : All (λ (v : ResolvedVariable). IsName v.name.text) text.variables
  pub variables : list_all (λ (v : ResolvedVariable). is_type (sizes_of text) v.domain) text.variables ≡ true
  pub types : list_all (λ (a : ResolvedAlias). is_type (sizes_of text) a.body) text.types ≡ true
  pub definitions : list_all (is_sound_definition (sizes_of text)) text.definitions ≡ true
  pub patterns : list_all (is_sound_pattern (sizes_of text)) text.patterns ≡ true
  pub lines : list_all (is_sound_line (sizes_of text)) text.lines ≡ true
  pub few_lines : length text.lines ≤ 4096
