use Rattle.std.proofs.Common.{◌+◌, ◌*◌, length, map}
use Rattle.spectra_trees.specs.declared.class.Class.TheVariants as Class
use Rattle.spectra_trees.specs.Views.{regex_data, lexemes_of}
use Rattle.spectra_exprs.specs.Read.{starts, all_of}
use Rattle.spectra_regexes.specs.Regexes.{starts_ratom, follower_of, branch_of, inside_regex}
use Rattle.spectra_exprs.proofs.Loops.{Grown}
use Rattle.spectra_regexes.proofs.regex.+regex.Given as goal

abbrev pub decreases-group : goal.decreases-group
decreases-group l = 16 * l.left + 1

abbrev pub decreases-ratom : goal.decreases-ratom
decreases-ratom l = 16 * l.left + 2

abbrev pub decreases-post : goal.decreases-post
decreases-post l = 16 * l.left + 3

abbrev pub decreases-follower : goal.decreases-follower
decreases-follower l = 16 * l.left + 4

abbrev pub decreases-followers : goal.decreases-followers
decreases-followers l = 16 * l.left + 5

abbrev pub decreases-followed : goal.decreases-followed
decreases-followed l = 16 * l.left + 6

abbrev pub decreases-cat : goal.decreases-cat
decreases-cat l = 16 * l.left + 7

abbrev pub decreases-branch : goal.decreases-branch
decreases-branch l = 16 * l.left + 8

abbrev pub decreases-branches : goal.decreases-branches
decreases-branches l = 16 * l.left + 9

abbrev pub decreases-branched : goal.decreases-branched
decreases-branched l = 16 * l.left + 10

abbrev pub decreases-regex : goal.decreases-regex
decreases-regex l = 16 * l.left + 11

abbrev pub decreases-deeper_regex : goal.decreases-deeper_regex
decreases-deeper_regex l = 16 * l.left + 0

abbrev pub invariant-followers-loop-alloc : goal.invariant-followers-loop-alloc
invariant-followers-loop-alloc l = record {
  grown : Grown starts_ratom (follower_of (inside_regex l.left)) (map regex_data l.parts.items) (lexemes_of l.rest) (all_of starts_ratom (follower_of (inside_regex l.left)) (map regex_data l.fn.first.items) (lexemes_of l.tokens));
}

abbrev pub decreases-followers-loop-alloc : goal.decreases-followers-loop-alloc
decreases-followers-loop-alloc l = length l.rest

abbrev pub invariant-branches-loop-alloc : goal.invariant-branches-loop-alloc
invariant-branches-loop-alloc l = record {
  grown : Grown (starts Class.Bar) (branch_of (inside_regex l.left)) (map regex_data l.parts.items) (lexemes_of l.rest) (all_of (starts Class.Bar) (branch_of (inside_regex l.left)) (map regex_data l.fn.first.items) (lexemes_of l.tokens));
}

abbrev pub decreases-branches-loop-alloc : goal.decreases-branches-loop-alloc
decreases-branches-loop-alloc l = length l.rest
