use Rattle.trigger_dfa.proofs.Stretches as stretches
use Rattle.trigger_dfa.proofs.laws.written_out_reads.Goals as goal

pub returns : goal.returns
returns c = stretches.written_out_reads
