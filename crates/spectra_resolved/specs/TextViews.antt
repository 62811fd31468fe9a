-- The plain data that the program's resolved texts stand for.
use Rattle.std.specs.Prelude.{map, option_map}
use Rattle.spectra_resolved.specs.declared.text.TypeUse.{TypeUse}
use Rattle.spectra_resolved.specs.declared.text.TypeUse.TheVariants as types
use Rattle.spectra_resolved.specs.declared.text.Variable.{Variable}
use Rattle.spectra_resolved.specs.declared.text.Alias.{Alias}
use Rattle.spectra_resolved.specs.declared.text.Definition.{Definition}
use Rattle.spectra_resolved.specs.declared.text.PatternLine.{PatternLine}
use Rattle.spectra_resolved.specs.declared.text.PatternLine.TheVariants as own_lines
use Rattle.spectra_resolved.specs.declared.text.Pattern.{Pattern}
use Rattle.spectra_resolved.specs.declared.text.Body.{Body}
use Rattle.spectra_resolved.specs.declared.text.Body.TheVariants as bodies
use Rattle.spectra_resolved.specs.declared.text.Line.{Line}
use Rattle.spectra_resolved.specs.declared.text.Text.{Text}
use Rattle.spectra_resolved.specs.Views.{resolved_data, regex_data}
use Rattle.spectra_resolved.specs.MentionViews.{mention_data}
use Rattle.spectra_resolved.specs.Texts.{ResolvedType, ResolvedVariable, ResolvedAlias, ResolvedDefinition, ResolvedPatternLine, ResolvedPattern, ResolvedBody, ResolvedLine, ResolvedText}

abbrev pub type_data : TypeUse → ResolvedType
type_data types.Boolean = ResolvedType.Booleans
type_data (types.Range at low high) = ResolvedType.RangeOf at (resolved_data low.value) (resolved_data high.value)
type_data (types.Names names) = ResolvedType.EnumOf names.items
type_data (types.Named k) = ResolvedType.TypeNumber k
type_data types.Hole = ResolvedType.NoType

abbrev pub variable_data : Variable → ResolvedVariable
variable_data v = record { name = mention_data v.name; owner = v.owner; domain = type_data v.domain; array = v.array; count = v.count }

abbrev pub alias_data : Alias → ResolvedAlias
alias_data a = record { name = mention_data a.name; body = type_data a.body }

abbrev pub definition_data : Definition → ResolvedDefinition
definition_data d =
    record { name = mention_data d.name; word = d.word; params = map type_data d.params.items; doubled = d.doubled; body = resolved_data d.body }

abbrev pub pattern_line_data : PatternLine → ResolvedPatternLine
pattern_line_data (own_lines.Initial at t) = ResolvedPatternLine.Initial at (resolved_data t)
pattern_line_data (own_lines.Safety at t) = ResolvedPatternLine.Safety at (resolved_data t)
pattern_line_data (own_lines.Recurring at t) = ResolvedPatternLine.Recurring at (resolved_data t)

abbrev pub pattern_data : Pattern → ResolvedPattern
pattern_data p =
    record { name = mention_data p.name; params = p.params; doubled = p.doubled; own = map type_data p.own.items; lines = map pattern_line_data p.lines.items }

abbrev pub body_data : Body → ResolvedBody
body_data (bodies.Initial t) = ResolvedBody.Initial (resolved_data t)
body_data (bodies.Safety t) = ResolvedBody.Safety (resolved_data t)
body_data (bodies.Recurring t) = ResolvedBody.Recurring (resolved_data t)
body_data (bodies.Trigger at cause effect) = ResolvedBody.Trigger at (regex_data cause) (regex_data effect)
body_data (bodies.Pattern at used arguments) = ResolvedBody.Pattern at used (map resolved_data arguments.items)

abbrev pub line_data : Line → ResolvedLine
line_data l = record { at = l.at; item = l.item; role = l.role; name = option_map (λ text. text.now) l.name; body = body_data l.body }

abbrev pub text_data : Text → ResolvedText
text_data t =
    record {
      names = map (λ name. name.now) t.names.items;
      variables = map variable_data t.variables.items;
      types = map alias_data t.types.items;
      definitions = map definition_data t.definitions.items;
      patterns = map pattern_data t.patterns.items;
      lines = map line_data t.lines.items;
    }
