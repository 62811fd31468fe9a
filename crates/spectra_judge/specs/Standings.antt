-- What may not stand in an expression, by where it stands, and of which kind it is to be.
use Rattle.std.specs.Prelude.{Bool, true, false}
use Rattle.spectra_resolved.specs.declared.stand.Stand.{Stand}
use Rattle.spectra_resolved.specs.declared.stand.Stand.TheVariants as stand
use Rattle.spectra_judge.specs.Kinds.{Kind, is_truth, is_whole}
pub use Rattle.spectra_judge.specs.declared.standing.Bans.{Bans}

abbrev pub no_bans : Bans
no_bans = record { next = false; past = false; variable = false; parameter = false; system = false; shifted_system = false; shifted_parameter = false; bound_parameter = false }

-- what may not stand there
abbrev pub bans_of : Stand → Bans
bans_of stand.InitialAssumption = record no_bans { next = true; system = true }
bans_of stand.InitialGuarantee = record no_bans { next = true }
bans_of stand.SafetyAssumption = record no_bans { shifted_system = true }
bans_of stand.SafetyGuarantee = no_bans
bans_of stand.Recurring = record no_bans { next = true }
bans_of stand.Bound = record no_bans { next = true; variable = true }
bans_of stand.Atom = record no_bans { next = true }
bans_of stand.Argument = record no_bans { next = true }
bans_of stand.PatternInitial = record no_bans { next = true; past = true; parameter = true; bound_parameter = true }
bans_of stand.PatternSafety = record no_bans { past = true; shifted_parameter = true; bound_parameter = true }
bans_of stand.PatternRecurring = record no_bans { next = true; past = true; bound_parameter = true }
bans_of stand.Define = no_bans
bans_of stand.Predicate = no_bans

-- A bound is a whole number, a define is of any kind, and everything else is a truth value.
abbrev pub is_wanted : Stand → Kind → Bool
is_wanted stand.Bound k = is_whole k
is_wanted stand.Define k = true
is_wanted _ k = is_truth k
