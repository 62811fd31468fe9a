-- The plain data that the program's resolved trees stand for.
use Rattle.spectra_resolved.specs.declared.tree.Resolved.{Resolved, fold-Resolved}
use Rattle.spectra_resolved.specs.declared.tree.Resolved.TheOpen.{Resolved-F, Shape-F, Link-F}
use Rattle.spectra_resolved.specs.declared.tree.Shape.{Shape, fold-Shape}
use Rattle.spectra_resolved.specs.declared.tree.Link.{Link}
use Rattle.spectra_resolved.specs.declared.tree.Regex.{Regex, fold-Regex}
use Rattle.spectra_resolved.specs.declared.tree.Regex.TheOpen.{Regex-F}
use Rattle.spectra_resolved.specs.Resolved.{ResolvedTree, tree, Form, ResolvedRegex}
use Rattle.spectra_resolved.specs.Chained.{LinkData, trees, chained, regexes, repeated}

-- one level of a tree, with each part already seen as its plain data
abbrev pub shape_step : Shape-F ResolvedTree Form LinkData → Form
shape_step (Shape-F.Leaf l) = Form.LeafOf l
shape_step (Shape-F.Predicate k ts) = Form.PredicateOf k (trees ts.items)
shape_step (Shape-F.Misuse m ts) = Form.MisuseOf m (trees ts.items)
shape_step (Shape-F.Next t) = Form.Next t.value
shape_step (Shape-F.Prefix word t) = Form.Prefix word t.value
shape_step (Shape-F.Mod t at n) = Form.Mod t.value at n
shape_step (Shape-F.And ts ops) = Form.And (trees ts.items) ops.items
shape_step (Shape-F.Or ts ops) = Form.Or (trees ts.items) ops.items
shape_step (Shape-F.Index first n t) = Form.Index first n t.value
shape_step (Shape-F.Quantified word variable extent low high ts) = Form.Quantified word variable extent low.value high.value (trees ts.items)

abbrev pub link_step : Link-F ResolvedTree Form LinkData → LinkData
link_step l = record { first = l.first; at = l.at; word = l.word; second = l.second }

abbrev pub resolved_step : Resolved-F ResolvedTree Form LinkData → ResolvedTree
resolved_step (Resolved-F.Chain head links) = chained head.value links.items
resolved_step (Resolved-F.Node first at shape) = tree first at shape

abbrev pub resolved_data : Resolved → ResolvedTree
resolved_data = fold-Resolved ResolvedTree Form LinkData resolved_step shape_step link_step

-- what a node is made of
abbrev pub form_data : Shape → Form
form_data = fold-Shape ResolvedTree Form LinkData resolved_step shape_step link_step

abbrev pub regex_step : Regex-F ResolvedRegex → ResolvedRegex
regex_step (Regex-F.Atom t) = ResolvedRegex.Atom (resolved_data t.value)
regex_step (Regex-F.Cat rs) = ResolvedRegex.Sequence (regexes rs.items)
regex_step (Regex-F.Alt rs) = ResolvedRegex.Choice (regexes rs.items)
regex_step (Regex-F.Repeat r times) = repeated r.value times.items

abbrev pub regex_data : Regex → ResolvedRegex
regex_data = fold-Regex ResolvedRegex regex_step

abbrev pub link_data : Link → LinkData
link_data l = record { first = l.first; at = l.at; word = l.word; second = resolved_data l.second }
