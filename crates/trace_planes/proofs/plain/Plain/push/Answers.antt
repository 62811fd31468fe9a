use Rattle.std.proofs.Common.{arith}
use Rattle.spec_model.proofs.Running.{length-after}
use Rattle.trace_planes.proofs.Found.{whole_push}
use Rattle.trace_planes.proofs.plain.Plain.push.Goals as goal

pub returns : goal.returns
returns c = record {
  pushed = λ g h st p is.
      record {
        made = st.made;
        whole = whole_push g h p st.whole is.input is.output;
        counted = let same = c.judge_next.ensures.counts in let before = st.counted in let more = length-after h p in omega (arith, same, before, more);
        game = (c.judge_next.ensures.judged g h st p is).game;
        found = (c.judge_next.ensures.judged g h st p is).found;
        judges = (c.judge_next.ensures.judged g h st p is).judges;
      };
}
