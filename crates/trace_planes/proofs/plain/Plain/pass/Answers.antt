use Rattle.std.proofs.Common.{arith}
use Rattle.spec_model.proofs.Running.{length-after}
use Rattle.trace_planes.proofs.Found.{whole_push}
use Rattle.trace_planes.proofs.plain.Plain.pass.Goals as goal

pub returns : goal.returns
returns c = record {
  pushed = λ g h st p is clean.
      record {
        made = st.made;
        whole = whole_push g h p st.whole is.input is.output;
        counted = let same = c.pass_next.ensures.counts in let before = st.counted in let more = length-after h p in omega (arith, same, before, more);
        game = (c.pass_next.ensures.judged g h st p is clean).game;
        found = (c.pass_next.ensures.judged g h st p is clean).found;
        judges = (c.pass_next.ensures.judged g h st p is clean).judges;
      };
}
