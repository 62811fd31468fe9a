-- What players force, of the diagrams that are made for it.
use Rattle.std.proofs.Common.{ℕ, true, false, not, Result, Ok, Err, IfOk, sym, ap, subst}
use Rattle.spec_model.specs.Diagrams.{Function, ite, shifted}
use Rattle.spec_model.specs.Games.{GameData}
use Rattle.spec_model.specs.Sets.{StateSet, all_states, pre_sys, pre_env}
use Rattle.game_values.specs.declared.seen.At.TheVariants.{Now, Next}
use Rattle.regions.specs.declared.types.Halt.{Halt}
use Rattle.regions.specs.declared.types.When.TheVariants.{Later}
use Rattle.bdd_ops.specs.Functions.{joined, join_of}
use Rattle.bdd_bits.specs.Contents.{Contents, function_at}
use Rattle.bdd_ops.specs.Calls.{negated}
use Rattle.bit_compile.specs.Making.{Makes}
use Rattle.bdd_sets.specs.declared.moves.NextLevels.{NextLevels}
use Rattle.bdd_sets.specs.StateBits.{Tells}
use Rattle.bdd_sets.specs.Members.{MoveFunctions, avoiding}
use Rattle.bdd_sets.specs.Forcing.{FitMoves, HasMoves, AreLevelsOf}
use Rattle.bdd_sets.proofs.SetLemmas.{told_at}
use Rattle.bdd_sets.proofs.ShiftLemmas.{tells_next}
use Rattle.bdd_sets.proofs.ForceLemmas.{tells_avoiding, tells_pre_sys, tells_pre_env}

module _ (g : GameData) (levels : NextLevels) (m : MoveFunctions) (moves : HasMoves g) (are : AreLevelsOf g levels) (fit : FitMoves g Later m) (f p : Function) (s : StateSet) (proper : Tells g Now p (all_states g)) (tells : Tells g Now f s) where
  there : Tells g Next (shifted levels.to.items f) s
  there = tells_next g levels.to.items are.to f s tells

  pub system_told : Tells g Now (ite (avoiding m levels.reply.items levels.all.items (shifted levels.to.items f)) (λ b. false) p) (pre_sys g s)
  system_told =
      tells_pre_sys g s (avoiding m levels.reply.items levels.all.items (shifted levels.to.items f)) p proper
      (tells_avoiding g Later m levels.reply.items levels.all.items moves fit are.reply are.all s (shifted levels.to.items f) (λ t bits here has. told_at g Next (shifted levels.to.items f) s there t bits here has))

  pub environment_told : Tells g Now (joined (join_of true) (avoiding m levels.reply.items levels.all.items (negated (shifted levels.to.items f))) p) (pre_env g s)
  environment_told =
      tells_pre_env g s (avoiding m levels.reply.items levels.all.items (negated (shifted levels.to.items f))) p proper
      (tells_avoiding g Later m levels.reply.items levels.all.items moves fit are.reply are.all (λ t. not (s t)) (negated (shifted levels.to.items f)) (λ t bits here has. ap not (told_at g Next (shifted levels.to.items f) s there t bits here has)))

-- what a call made has the meaning of its function
pub made_tells : (g : GameData) (old new : Contents) (r : Result ℕ Halt) (f : Function) (s : StateSet) → Makes old new r f → Tells g Now f s → IfOk r (λ n. Tells g Now (function_at new n) s)
made_tells g old new (Ok n) f s makes tells = subst (λ (k : Function). Tells g Now k s) (sym makes.meaning) tells
made_tells g old new (Err h) f s makes tells = tt
