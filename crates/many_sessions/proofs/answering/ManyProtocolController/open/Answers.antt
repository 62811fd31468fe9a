use Rattle.std.proofs.Common.{[], refl}
use Rattle.std.proofs.KnownBytes.{Appends-nil}
use Rattle.many_sessions.proofs.Serving.{nothing_kept}
use Rattle.many_sessions.proofs.answering.ManyProtocolController.open.Goals as goal

pub returns-clause-opens : goal.returns-clause-opens
returns-clause-opens g c = λ s st suits serves.
    record {
      text = [];
      next = st;
      opens = record { nothing = refl; same = refl; kept = nothing_kept _ c.args.self.now c.args.play.now s st serves };
      stands = serves;
      whole = Appends-nil _;
      part = tt;
    }
