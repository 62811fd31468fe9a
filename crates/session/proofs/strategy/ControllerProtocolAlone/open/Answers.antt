use Rattle.std.proofs.Common.{[], refl}
use Rattle.std.proofs.KnownBytes.{Appends-nil}
use Rattle.session.proofs.Strategic.{tells}
use Rattle.session.proofs.strategy.ControllerProtocolAlone.open.Goals as goal

pub returns-clause-opens : goal.returns-clause-opens
returns-clause-opens g c = λ s st suits plays.
    record {
      text = [];
      next = st;
      opens = record { nothing = refl; same = refl; kept = (tells _ c.args.self.now s st.rounds st.play plays).kept };
      stands = plays;
      whole = Appends-nil _;
      part = tt;
    }
