-- What a call leaves of a judge, and when a fault may be answered.
use Rattle.std.specs.Prelude.{◌≡◌, ◌↔◌, ℕ, ◌+◌, ◌-◌, ◌^◌, ◌≤◌, min, List, Option, Some}
use Rattle.core_min.specs.declared.fault.CoreFault.{CoreFault}
use Rattle.core_min.specs.declared.fault.CoreFault.TheVariants.{Memory, Judge}
use Rattle.core_min.specs.Sets.{IsAsked}

-- a count went up, or stands at the greatest number that it can have
abbrev pub Rose : ℕ → ℕ → Type 0
Rose before now = min (before + 1) (2 ^ 64 - 1) ≤ now

module _ {J F : Type 0} where
  -- no call changes how many numbers there are, which sets win and which faults may be answered, and the count of faults never falls
  pub record IsSameJudge (size : J → ℕ) (IsWinning : J → List ℕ → Type 0) (MayFail : J → List ℕ → F → Type 0) (faults : J → ℕ) (old new : J) : Type 0 where
    pub same_size : size new ≡ size old
    pub winning : (set : List ℕ) → IsWinning new set ↔ IsWinning old set
    pub failing : (set : List ℕ) (fault : F) → MayFail new set fault ↔ MayFail old set fault
    pub later : faults old ≤ faults new

  -- The fault was answered for the set: the count of faults rose, it is the last one, with this set, and it may be answered for it.
  pub record IsAnswered (faults : J → ℕ) (last : J → Option (F × List ℕ)) (MayFail : J → List ℕ → F → Type 0) (old new : J) (fault : F) (set : List ℕ) : Type 0 where
    pub rose : Rose (faults old) (faults new)
    pub latest : last new ≡ Some (fault, set)
    pub allowed : MayFail old set fault

  -- it was answered for a set that is asked about where all numbers below n are tried
  pub record IsAnsweredInTurn (faults : J → ℕ) (last : J → Option (F × List ℕ)) (IsWinning : J → List ℕ → Type 0) (MayFail : J → List ℕ → F → Type 0) (old new : J) (n : ℕ) (fault : F) : Type 0 where
    pub set : List ℕ
    pub asked : IsAsked (IsWinning old) n set
    pub answered : IsAnswered faults last MayFail old new fault set

  -- why no core was found: memory ran out before any set was asked about, or a fault was answered
  abbrev pub IsCause : (faults : J → ℕ) (last : J → Option (F × List ℕ)) (IsWinning : J → List ℕ → Type 0) (MayFail : J → List ℕ → F → Type 0) (old new : J) (n : ℕ) → CoreFault F → Type 0
  IsCause faults last IsWinning MayFail old new n Memory = new ≡ old
  IsCause faults last IsWinning MayFail old new n (Judge fault) = IsAnsweredInTurn faults last IsWinning MayFail old new n fault
