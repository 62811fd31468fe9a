-- What is made of each definition from what is made of those that it uses.
use Rattle.std.specs.Prelude.{ℕ, zero, suc, Bool, if◌then◌else◌, List, [], length, map}
use Rattle.std.specs.List.{enumerate_from}
use Rattle.spectra_uses.specs.Cycles.{reaches}

-- whether a definition is used in its own body, directly or through others
abbrev pub is_on_cycle : (uses : List (List ℕ)) → ℕ → Bool
is_on_cycle uses k = reaches uses (length uses) k k

-- What is made of each definition, where so many are made one from another. Of one that is used in its own body nothing is
-- known.
abbrev pub made_to_depth : {D V : Type 0} → (uses : List (List ℕ)) → (nothing : V) → (make : List V → D → V) → (deep : ℕ) → List D → List V
made_to_depth uses nothing make zero ds = []
made_to_depth uses nothing make (suc deep) ds =
    map (λ d. if is_on_cycle uses d.0 then nothing else make (made_to_depth uses nothing make deep ds) d.1) (enumerate_from 0 ds)

-- one from another as often as there are definitions
abbrev pub made_by_uses : {D V : Type 0} → (uses : List (List ℕ)) → (nothing : V) → (make : List V → D → V) → List D → List V
made_by_uses uses nothing make ds = made_to_depth uses nothing make (length ds) ds
