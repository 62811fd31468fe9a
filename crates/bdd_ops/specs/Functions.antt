-- Boolean functions split at a level, and quantified over a list of levels.
use Rattle.std.specs.Prelude.{◌≡◌, ◌==◌, ℕ, Bool, true, false, ◌&&◌, ◌||◌, if◌then◌else◌, List, [], ◌∷◌}
use Rattle.spec_model.specs.Diagrams.{Function, with_bit}

-- the first where the level's bit is false, the second where it is true
abbrev pub split : ℕ → Function → Function → Function
split level low high s = if s level then high s else low s

-- a way to join two truth values: `or` for "some", `and` for "all"
abbrev pub Join : Type 0
Join = Bool → Bool → Bool

-- `and` for all values, `or` for some
abbrev pub join_of : Bool → Join
join_of true = ◌&&◌
join_of false = ◌||◌

-- the two functions, joined
abbrev pub joined : Join → Function → Function → Function
joined join f g s = join (f s) (g s)

-- the function's values at both bits of a level, joined
abbrev pub joined_at : Join → ℕ → Function → Function
joined_at join level f s = join (f (with_bit s level false)) (f (with_bit s level true))

-- the function's values at all bits of these levels, joined
abbrev pub joined_over : Join → List ℕ → Function → Function
joined_over join [] f = f
joined_over join (level ∷ levels) f = joined_at join level (joined_over join levels f)

-- the level is in the list
abbrev pub is_among : ℕ → List ℕ → Bool
is_among level [] = false
is_among level (first ∷ levels) = (level == first) || is_among level levels

-- a way to join that gives a value joined with itself, and joins four values in pairs either way
pub record IsQuantifier (join : Join) : Type 0 where
  pub idle : (b : Bool) → join b b ≡ b
  pub pairs : (a b c d : Bool) → join (join a b) (join c d) ≡ join (join a c) (join b d)
