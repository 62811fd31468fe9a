use Rattle.std.proofs.Common.{sym}
use Rattle.serde_json.proofs.Views.{members_len-members_view}
use Rattle.strategy_text.proofs.parts.has_members.Goals as goal

pub returns-in-Some : goal.returns-in-Some
returns-in-Some c = rw (sym c.in-Some.ensures, members_len-members_view c.in-Some.members.now.entries, c.len.ensures.len)
