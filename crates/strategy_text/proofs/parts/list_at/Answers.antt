use Rattle.std.proofs.Common.{sym, map}
use Rattle.serde_json.specs.View.{view}
use Rattle.strategy_text.proofs.Lists.{listed-items_of}
use Rattle.strategy_text.proofs.Answers.{gives}
use Rattle.strategy_text.proofs.parts.list_at.Goals as goal

pub returns : goal.returns
returns c = gives (rw (sym c.in-Some.ensures, sym c.in-Some-as_array.ensures, listed-items_of (map view c.in-Some-as_array.list.now.items), c.deref.ensures.value))
