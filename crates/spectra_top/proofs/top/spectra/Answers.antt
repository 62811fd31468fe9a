use Rattle.spectra_top.specs.Top as top
use Rattle.spectra_top.proofs.Requests.{two_nodes}
use Rattle.spectra_talks.proofs.Exchanges.{nothing_done}
use Rattle.spectra_top.proofs.Decided.{usage_said}
use Rattle.spectra_top.proofs.Decisive.{decides_what_reads, decides_arbiters}
use Rattle.spectra_top.proofs.Statuses.{refuses}
use Rattle.spectra_top.proofs.Causes.{is_caused}
use Rattle.spectra_top.proofs.top.spectra.Goals as goal

pub serve_file-requires : goal.serve_file-requires
serve_file-requires g c = let h = rw c.in-Ok-Some-OfFile.field-0-is at c.in-Ok-Some-OfFile.ensures in let asks = rw c.in-Ok-Some-OfFile.field-0-0-is at h.asks in record { budget = two_nodes _ _ asks.budget_is }

pub serve_arbiter-requires : goal.serve_arbiter-requires
serve_arbiter-requires g c = let h = rw c.in-Ok-Some-OfArbiter.field-0-is at c.in-Ok-Some-OfArbiter.ensures in let asks = rw c.in-Ok-Some-OfArbiter.field-0-0-is at h.asks in record { budget = two_nodes _ _ asks.budget_is }

pub returns-in-Ok-Some-OfFile-clause-serves : goal.returns-in-Ok-Some-OfFile-clause-serves
returns-in-Ok-Some-OfFile-clause-serves g c = let h = rw c.in-Ok-Some-OfFile.field-0-is at c.in-Ok-Some-OfFile.ensures in let asks = rw c.in-Ok-Some-OfFile.field-0-0-is at h.asks in top.asked _ _ _ asks c.serve_file.ensures.serves

pub returns-in-Ok-Some-OfFile-clause-decides : goal.returns-in-Ok-Some-OfFile-clause-decides
returns-in-Ok-Some-OfFile-clause-decides g c = decides_what_reads _ _ _ _ _ _ (returns-in-Ok-Some-OfFile-clause-serves g c)

pub returns-in-Ok-Some-OfFile-clause-generates : goal.returns-in-Ok-Some-OfFile-clause-generates
returns-in-Ok-Some-OfFile-clause-generates g c = decides_arbiters _ _ _ _ _ _ (returns-in-Ok-Some-OfFile-clause-serves g c)

pub returns-in-Ok-Some-OfFile-clause-refuses : goal.returns-in-Ok-Some-OfFile-clause-refuses
returns-in-Ok-Some-OfFile-clause-refuses g c = refuses _ _ _ _ _ _ (returns-in-Ok-Some-OfFile-clause-serves g c)

pub returns-in-Ok-Some-OfFile-clause-causes : goal.returns-in-Ok-Some-OfFile-clause-causes
returns-in-Ok-Some-OfFile-clause-causes g c = is_caused _ _ _ _ _ _ (returns-in-Ok-Some-OfFile-clause-serves g c)

pub returns-in-Ok-Some-OfArbiter-clause-serves : goal.returns-in-Ok-Some-OfArbiter-clause-serves
returns-in-Ok-Some-OfArbiter-clause-serves g c = let h = rw c.in-Ok-Some-OfArbiter.field-0-is at c.in-Ok-Some-OfArbiter.ensures in let asks = rw c.in-Ok-Some-OfArbiter.field-0-0-is at h.asks in top.arbiter _ _ asks c.serve_arbiter.ensures.serves

pub returns-in-Ok-Some-OfArbiter-clause-decides : goal.returns-in-Ok-Some-OfArbiter-clause-decides
returns-in-Ok-Some-OfArbiter-clause-decides g c = decides_what_reads _ _ _ _ _ _ (returns-in-Ok-Some-OfArbiter-clause-serves g c)

pub returns-in-Ok-Some-OfArbiter-clause-generates : goal.returns-in-Ok-Some-OfArbiter-clause-generates
returns-in-Ok-Some-OfArbiter-clause-generates g c = decides_arbiters _ _ _ _ _ _ (returns-in-Ok-Some-OfArbiter-clause-serves g c)

pub returns-in-Ok-Some-OfArbiter-clause-refuses : goal.returns-in-Ok-Some-OfArbiter-clause-refuses
returns-in-Ok-Some-OfArbiter-clause-refuses g c = refuses _ _ _ _ _ _ (returns-in-Ok-Some-OfArbiter-clause-serves g c)

pub returns-in-Ok-Some-OfArbiter-clause-causes : goal.returns-in-Ok-Some-OfArbiter-clause-causes
returns-in-Ok-Some-OfArbiter-clause-causes g c = is_caused _ _ _ _ _ _ (returns-in-Ok-Some-OfArbiter-clause-serves g c)

pub returns-in-Ok-None-clause-serves : goal.returns-in-Ok-None-clause-serves
returns-in-Ok-None-clause-serves g c = let h = rw c.in-Ok-None.field-0-is at c.in-Ok-None.ensures in usage_said _ _ _ _ _ _ h.nothing (c.say_usage.ensures (g.I.Source.left c.args.input.now) (g.I.Source.reads c.args.input.now) (g.I.Source.faults c.args.input.now))

pub returns-in-Ok-None-clause-decides : goal.returns-in-Ok-None-clause-decides
returns-in-Ok-None-clause-decides g c = decides_what_reads _ _ _ _ _ _ (returns-in-Ok-None-clause-serves g c)

pub returns-in-Ok-None-clause-generates : goal.returns-in-Ok-None-clause-generates
returns-in-Ok-None-clause-generates g c = decides_arbiters _ _ _ _ _ _ (returns-in-Ok-None-clause-serves g c)

pub returns-in-Ok-None-clause-refuses : goal.returns-in-Ok-None-clause-refuses
returns-in-Ok-None-clause-refuses g c = refuses _ _ _ _ _ _ (returns-in-Ok-None-clause-serves g c)

pub returns-in-Ok-None-clause-causes : goal.returns-in-Ok-None-clause-causes
returns-in-Ok-None-clause-causes g c = is_caused _ _ _ _ _ _ (returns-in-Ok-None-clause-serves g c)

pub returns-in-Err-clause-serves : goal.returns-in-Err-clause-serves
returns-in-Err-clause-serves g c = top.no_memory (nothing_done _)

pub returns-in-Err-clause-decides : goal.returns-in-Err-clause-decides
returns-in-Err-clause-decides g c = decides_what_reads _ _ _ _ _ _ (returns-in-Err-clause-serves g c)

pub returns-in-Err-clause-generates : goal.returns-in-Err-clause-generates
returns-in-Err-clause-generates g c = decides_arbiters _ _ _ _ _ _ (returns-in-Err-clause-serves g c)

pub returns-in-Err-clause-refuses : goal.returns-in-Err-clause-refuses
returns-in-Err-clause-refuses g c = refuses _ _ _ _ _ _ (returns-in-Err-clause-serves g c)

pub returns-in-Err-clause-causes : goal.returns-in-Err-clause-causes
returns-in-Err-clause-causes g c = is_caused _ _ _ _ _ _ (returns-in-Err-clause-serves g c)
