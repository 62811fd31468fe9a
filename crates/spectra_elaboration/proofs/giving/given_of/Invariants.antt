use Rattle.std.proofs.Common.{◌≡◌, ℕ, ◌≤◌, true}
use Rattle.spectra_resolved.specs.Views.{resolved_data}
use Rattle.spectra_elaboration.specs.Giving.{gives}
use Rattle.spectra_elaboration.proofs.giving.given_of.Given as goal

-- what the expression comes to that it has come to, the body does
abbrev pub invariant-loop : goal.invariant-loop
invariant-loop l = (deep place : ℕ) → l.need ≤ deep → gives l.given deep place (resolved_data l.here) ≡ true → gives l.given deep place (resolved_data l.body) ≡ true
