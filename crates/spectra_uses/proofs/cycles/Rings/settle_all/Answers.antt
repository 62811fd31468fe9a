use Rattle.std.proofs.Common.{◌≡◌, ℕ, inl, inr, sym, subst, arith}
use Rattle.std.proofs.lemmas.Bool.{cases_lt}
use Rattle.spectra_uses.specs.Searching.{IsKnown}
use Rattle.spectra_uses.specs.Settling.{rings_data}
use Rattle.spectra_uses.proofs.Settled.{still_settling, settles_further}
use Rattle.spectra_uses.proofs.cycles.Rings.settle_all.Goals as goal

pub loop-number-init : goal.loop-number-init
loop-number-init c = record { on = still_settling (rings_data c.args.self.now) c.requires.settling; known = λ k below. absurd (omega arith) }

pub loop-number-preserved : goal.loop-number-preserved
loop-number-preserved c =
    let n = c.loop-number.number in
    let before = c.loop-number.invariant in
    let settled = (rings_data c.settle.new.self).settled in
    let last : (k : ℕ) → k ≡ n → IsKnown settled k = λ k same. subst (IsKnown settled) (sym same) c.in_ok-settle.ensures.known in
    record {
      on = settles_further (rings_data c.args.self.now) (rings_data c.loop-number.self) (rings_data c.settle.new.self) before.on c.in_ok-settle.ensures.on;
      known = λ k below. elim (cases_lt k n) [
        | inl earlier ↦ c.in_ok-settle.ensures.on.known k (before.known k earlier)
        | inr behind ↦ last k (omega arith)
      ];
    }
