-- What an item declares and says with each name resolved, and the names that mean nothing in it.
use Rattle.spectra_trees.specs.Faults.{Arity, Unknown, number_of}
use Rattle.std.specs.Prelude.{ℕ, suc, ◌==◌, false, if◌then◌else◌, List, [], ◌∷◌, ◌++◌, Option, Some, None, length, map, flat_map, option_map, is_some}
use Rattle.spec_model.specs.declared.value.Owner.{Owner}
use Rattle.spec_model.specs.declared.value.Owner.TheVariants as owners
use Rattle.spec_model.specs.declared.spec.Role.TheVariants as roles
use Rattle.spectra_trees.specs.declared.tree.Place.{Place}
use Rattle.spectra_trees.specs.declared.tree.OwnerWord.{OwnerWord}
use Rattle.spectra_trees.specs.declared.tree.OwnerWord.TheVariants as words
use Rattle.spectra_trees.specs.Data.{NameData, Expression, TypeData, PartData, PartShape, PredicateData, PatternData, BodyData, LineData, LengthData, ItemData}
use Rattle.spectra_resolved.specs.declared.spot.Spot.{Spot}
use Rattle.spectra_resolved.specs.declared.tree.Leaf.{Leaf}
use Rattle.spectra_resolved.specs.declared.tree.Leaf.TheVariants as leaves
use Rattle.spectra_resolved.specs.declared.table.Named.{Named}
use Rattle.spectra_resolved.specs.declared.table.Named.TheVariants as names
use Rattle.spectra_resolved.specs.declared.look.Sight.TheVariants as sights
use Rattle.spectra_resolved.specs.declared.text.DefinitionWord.TheVariants as definition_words
use Rattle.spectra_resolved.specs.declared.text.PatternUse.{PatternUse}
use Rattle.spectra_resolved.specs.declared.text.PatternUse.TheVariants as uses
use Rattle.spectra_resolved.specs.declared.findings.Finding.{Finding}
use Rattle.spectra_resolved.specs.Findings.{fault}
use Rattle.spectra_resolved.specs.Spots.{mentioned, spot_at, spot_of}
use Rattle.spectra_resolved.specs.Looks.{Looking, Names, looked_up}
use Rattle.spectra_resolved.specs.Spaces.{Entry, declared, no_names, clashes, is_doubled}
use Rattle.spectra_resolved.specs.Resolving.{resolved, misuses}
use Rattle.spectra_resolved.specs.Regexes.{resolved_regex, regex_misuses}
use Rattle.spectra_items.specs.Types.{type_of, type_faults}
use Rattle.spectra_items.specs.Lengths.{count_of, length_faults}
use Rattle.spectra_resolved.specs.Texts.{ResolvedType, ResolvedVariable, ResolvedAlias, ResolvedDefinition, ResolvedPatternLine, ResolvedPattern, ResolvedBody, ResolvedLine}

-- all values are seen where nothing is declared around a name
abbrev pub at_large : Names → Looking
at_large s = looked_up sights.Values s no_names

-- ---- variables and types

abbrev pub owner_of : OwnerWord → Owner
owner_of words.Env = owners.Env
owner_of words.Sys = owners.Sys
owner_of words.Aux = owners.Sys

abbrev pub variable_of : Names → Looking → (file : ℕ) → NameData → Owner → TypeData → Option LengthData → ResolvedVariable
variable_of s look file name owner t length =
    record { name = mentioned file name; owner = owner; domain = type_of s look file t; array = is_some length; count = count_of length }

-- a monitor is a variable of the system
abbrev pub variables_in : Names → (file : ℕ) → ItemData → List ResolvedVariable
variables_in s file (ItemData.Variable x) = variable_of s (at_large s) file x.name (owner_of x.owner) x.domain x.length ∷ []
variables_in s file (ItemData.Monitor m) = variable_of s (at_large s) file m.name owners.Sys m.domain None ∷ []
variables_in s file _ = []

abbrev pub alias_of : Names → Looking → (file : ℕ) → NameData → TypeData → ResolvedAlias
alias_of s look file name t = record { name = mentioned file name; body = type_of s look file t }

abbrev pub aliases_in : Names → (file : ℕ) → ItemData → List ResolvedAlias
aliases_in s file (ItemData.Alias t) = alias_of s (at_large s) file t.name t.body ∷ []
aliases_in s file _ = []

-- ---- definitions

-- names that stand for their places, where so many stand before these
abbrev pub by_place : (ℕ → Leaf) → (file before : ℕ) → List NameData → List Entry
by_place leaf file k [] = []
by_place leaf file k (n ∷ ns) = (mentioned file n, names.Leaf (leaf k)) ∷ by_place leaf file (suc k) ns

-- a predicate's parameters
abbrev pub parameter_entries : (file : ℕ) → List (TypeData × NameData) → List Entry
parameter_entries file params = by_place leaves.Parameter file 0 (map (λ a. a.1) params)

-- in a predicate's body its parameters hide what is outside
abbrev pub in_predicate : Names → (file : ℕ) → PredicateData → Looking
in_predicate s file p = looked_up sights.Values s (declared (parameter_entries file p.params))

abbrev pub define_of : Looking → (file : ℕ) → NameData × Expression → ResolvedDefinition
define_of look file b =
    record { name = mentioned file b.0; word = definition_words.Define; params = []; doubled = false; body = resolved look file b.1 }

-- the types of its parameters stand outside of it
abbrev pub predicate_of : Names → Looking → (file : ℕ) → PredicateData → ResolvedDefinition
predicate_of s look file p =
    record {
      name = mentioned file p.name;
      word = definition_words.Predicate;
      params = map (λ a. type_of s look file a.0) p.params;
      doubled = is_doubled (parameter_entries file p.params);
      body = resolved (in_predicate s file p) file p.body;
    }

abbrev pub definitions_in : Names → (file : ℕ) → ItemData → List ResolvedDefinition
definitions_in s file (ItemData.Define d) = map (define_of (at_large s) file) d.bodies
definitions_in s file (ItemData.Predicate p) = predicate_of s (at_large s) file p ∷ []
definitions_in s file _ = []

abbrev pub define_faults : Looking → (file : ℕ) → NameData × Expression → List Finding
define_faults look file b = misuses (resolved look file b.1)

abbrev pub predicate_faults : Names → Looking → (file : ℕ) → PredicateData → List Finding
predicate_faults s look file p =
    flat_map (λ a. type_faults s look file a.0) p.params
    ++ (clashes (parameter_entries file p.params) ++ misuses (resolved (in_predicate s file p) file p.body))

-- ---- patterns

-- the name of an own variable
abbrev pub own_names : PartData → List NameData
own_names p = own p.form
  where
    own : PartShape → List NameData
    own (PartShape.Own t n) = n ∷ []
    own _ = []

-- a pattern's parameters and own variables are one list of names
abbrev pub pattern_entries : (file : ℕ) → PatternData → List Entry
pattern_entries file p = by_place leaves.Parameter file 0 p.params ++ by_place leaves.Own file 0 (flat_map own_names p.parts)

-- in a pattern they hide enum names, and no other value is seen
abbrev pub in_pattern : Names → (file : ℕ) → PatternData → Looking
in_pattern s file p = looked_up sights.EnumNames s (declared (pattern_entries file p))

abbrev pub own_types : Names → Looking → (file : ℕ) → PartData → List ResolvedType
own_types s look file p = own p.form
  where
    own : PartShape → List ResolvedType
    own (PartShape.Own t n) = type_of s look file t ∷ []
    own _ = []

abbrev pub pattern_lines : Looking → (file : ℕ) → PartData → List ResolvedPatternLine
pattern_lines look file p = line p.form
  where
    line : PartShape → List ResolvedPatternLine
    line (PartShape.Own t n) = []
    line (PartShape.Initial e) = ResolvedPatternLine.Initial (spot_at file p.at) (resolved look file e) ∷ []
    line (PartShape.Always e) = ResolvedPatternLine.Safety (spot_at file p.at) (resolved look file e) ∷ []
    line (PartShape.Recurring e) = ResolvedPatternLine.Recurring (spot_at file p.at) (resolved look file e) ∷ []

abbrev pub pattern_of : Names → (file : ℕ) → PatternData → ResolvedPattern
pattern_of s file p =
    record {
      name = mentioned file p.name;
      params = length p.params;
      doubled = is_doubled (pattern_entries file p);
      own = flat_map (own_types s (in_pattern s file p) file) p.parts;
      lines = flat_map (pattern_lines (in_pattern s file p) file) p.parts;
    }

abbrev pub part_faults : Names → Looking → (file : ℕ) → PartData → List Finding
part_faults s look file p = faults p.form
  where
    faults : PartShape → List Finding
    faults (PartShape.Own t n) = type_faults s look file t
    faults (PartShape.Initial e) = misuses (resolved look file e)
    faults (PartShape.Always e) = misuses (resolved look file e)
    faults (PartShape.Recurring e) = misuses (resolved look file e)

abbrev pub patterns_in : Names → (file : ℕ) → ItemData → List ResolvedPattern
patterns_in s file (ItemData.Pattern p) = pattern_of s file p ∷ []
patterns_in s file _ = []

abbrev pub pattern_faults : Names → (file : ℕ) → PatternData → List Finding
pattern_faults s file p = clashes (pattern_entries file p) ++ flat_map (part_faults s (in_pattern s file p) file) p.parts

-- ---- lines

-- the use of a pattern with so many arguments
abbrev pub use_of : Option Named → (arguments : ℕ) → PatternUse
use_of (Some (names.Pattern k arity)) n = if n == arity then uses.Pattern k else uses.Arity k
use_of _ n = uses.Unknown

abbrev pub use_faults : Spot → PatternUse → List Finding
use_faults at (uses.Pattern k) = []
use_faults at (uses.Arity k) = fault (number_of Arity) at ∷ []
use_faults at uses.Unknown = fault (number_of Unknown) at ∷ []

abbrev pub body_of : Names → Looking → (file : ℕ) → BodyData → ResolvedBody
body_of s look file (BodyData.Initial e) = ResolvedBody.Initial (resolved look file e)
body_of s look file (BodyData.Always e) = ResolvedBody.Safety (resolved look file e)
body_of s look file (BodyData.Recurring e) = ResolvedBody.Recurring (resolved look file e)
body_of s look file (BodyData.Trigger at cause effect) =
    ResolvedBody.Trigger (spot_at file at) (resolved_regex look file cause) (resolved_regex look file effect)
body_of s look file (BodyData.Call n es) =
    ResolvedBody.Pattern (spot_of file n) (use_of (s.patterns n.text) (length es)) (map (resolved look file) es)

-- each misused name in a line
abbrev pub body_faults : ResolvedBody → List Finding
body_faults (ResolvedBody.Initial t) = misuses t
body_faults (ResolvedBody.Safety t) = misuses t
body_faults (ResolvedBody.Recurring t) = misuses t
body_faults (ResolvedBody.Trigger at cause effect) = regex_misuses cause ++ regex_misuses effect
body_faults (ResolvedBody.Pattern at used ts) = use_faults at used ++ flat_map misuses ts

-- what a line of a monitor says
abbrev pub monitor_bodies : Looking → (file : ℕ) → PartShape → List ResolvedBody
monitor_bodies look file (PartShape.Own t n) = []
monitor_bodies look file (PartShape.Initial e) = ResolvedBody.Initial (resolved look file e) ∷ []
monitor_bodies look file (PartShape.Always e) = ResolvedBody.Safety (resolved look file e) ∷ []
monitor_bodies look file (PartShape.Recurring e) = ResolvedBody.Recurring (resolved look file e) ∷ []

-- a line of the monitor that begins at a place
abbrev pub monitor_line : (file : ℕ) → (monitor at : Place) → ResolvedBody → ResolvedLine
monitor_line file monitor at body = record { at = spot_at file at; item = spot_at file monitor; role = roles.Monitor; name = None; body = body }

abbrev pub monitor_lines : Looking → (file : ℕ) → (monitor : Place) → PartData → List ResolvedLine
monitor_lines look file monitor p = map (monitor_line file monitor p.at) (monitor_bodies look file p.form)

abbrev pub line_of : Names → Looking → (file : ℕ) → LineData → ResolvedLine
line_of s look file l =
    record {
      at = spot_at file l.at;
      item = spot_at file l.at;
      role = l.role;
      name = option_map (λ (n : NameData). n.text) l.name;
      body = body_of s look file l.body;
    }

abbrev pub lines_in : Names → (file : ℕ) → ItemData → List ResolvedLine
lines_in s file (ItemData.Statement l) = line_of s (at_large s) file l ∷ []
lines_in s file (ItemData.Monitor m) = flat_map (monitor_lines (at_large s) file m.at) m.parts
lines_in s file _ = []

abbrev pub monitor_faults : Looking → (file : ℕ) → PartData → List Finding
monitor_faults look file p = flat_map body_faults (monitor_bodies look file p.form)

-- ---- whole items

-- the names that mean nothing in an item, and those that stand twice in it
abbrev pub faults_in : Names → (file : ℕ) → ItemData → List Finding
faults_in s file (ItemData.Variable x) = type_faults s (at_large s) file x.domain ++ length_faults file x.length
faults_in s file (ItemData.Alias t) = type_faults s (at_large s) file t.body
faults_in s file (ItemData.Define d) = flat_map (define_faults (at_large s) file) d.bodies
faults_in s file (ItemData.Predicate p) = predicate_faults s (at_large s) file p
faults_in s file (ItemData.Pattern p) = pattern_faults s file p
faults_in s file (ItemData.Monitor m) =
    type_faults s (at_large s) file m.domain ++ flat_map (monitor_faults (at_large s) file) m.parts
faults_in s file (ItemData.Statement l) = body_faults (body_of s (at_large s) file l.body)
