use Rattle.bdd_search.proofs.fixing.+fix_number.Given as goal

abbrev pub decreases-fix_number : goal.decreases-fix_number
decreases-fix_number l = l.width
