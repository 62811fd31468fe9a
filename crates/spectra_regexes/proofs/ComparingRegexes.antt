-- Reading a regular expression: a phrase that an operator follows, and the word `true` in its place.
use Rattle.std.proofs.Common.{◌≡◌, ℕ, zero, suc, false, List, [], ◌∷◌, ◌++◌, true, length, refl}
use Rattle.spectra_trees.specs.declared.class.Class.TheVariants as classes
use Rattle.spectra_trees.specs.Classes.{place_of}
use Rattle.spectra_trees.specs.Data.{Expression, RegexData, regexes, RepeatData}
use Rattle.spectra_trees.specs.Lexemes.{Lexeme}
use Rattle.spectra_exprs.specs.Read.{starts, all_of}
use Rattle.spectra_regexes.specs.Regexes.{between_of, exactly_of, counted, repeat, starts_repeat, repeated, InsideRegex, atom_of, group_of, ratom_of, post_of, starts_ratom, follower_of, followed_of, cat_of, branch_of, branched_of, regex_of, inside_regex}
use Rattle.spectra_exprs.proofs.ClassSets.{among}
use Rattle.spectra_exprs.proofs.WholeExpressions.{b_expr}
use Rattle.spectra_exprs.proofs.Stopping.{starts_of_head}
use Rattle.spectra_exprs.proofs.Shapes.{phrase_tokens}
use Rattle.spectra_exprs.proofs.Comparing.{Pair, instead, Tells, Blocks, blocks_none, blocks_gives, off_class, blocks_then, blocks_if, blocks_off, tells_gives, tells_same, tells_open, tells_then, tells_after, tells_until, tells_map, tells_if, tells_if_word, tells_deep, of_none, true_alone, word_among}
use Rattle.spectra_exprs.proofs.ComparingSteps.{tells_loop, nothing_by, tells_steps}
use Rattle.spectra_exprs.proofs.ComparingExpressions.{tells_whole}
use Rattle.spectra_regexes.proofs.SoundRegexes.{repeat_same}
use Rattle.spectra_regexes.proofs.StoppingRegexes.{repeat_of_head, ratom_of_head, uses_repeated, StableRegex, uses_follower, uses_branch, stable_inside_regex}

no_repeat : (t : Lexeme) (ts : List Lexeme) → among b_expr (place_of t.class) ≡ true → starts_repeat (t ∷ ts) ≡ false
unfolding starts_repeat starts place_of
no_repeat t ts on =
    let star = off_class b_expr classes.Star (record { checked = refl }) t on in
    let plus = off_class b_expr classes.Plus (record { checked = refl }) t on in
    let question = off_class b_expr classes.Question (record { checked = refl }) t on in
    let brace = off_class b_expr classes.OpenBrace (record { checked = refl }) t on in
    rw (star, plus, question, brace) refl

no_ratom : (t : Lexeme) (ts : List Lexeme) → among true_alone (place_of t.class) ≡ true → starts_ratom (t ∷ ts) ≡ false
unfolding starts_ratom starts place_of
no_ratom t ts on =
    let bracket = off_class true_alone classes.OpenBracket (record { checked = refl }) t on in
    let parenthesis = off_class true_alone classes.Open (record { checked = refl }) t on in
    rw (bracket, parenthesis) refl

no_bar : (t : Lexeme) (ts : List Lexeme) → among true_alone (place_of t.class) ≡ true → starts classes.Bar (t ∷ ts) ≡ false
unfolding starts place_of
no_bar t ts on = off_class true_alone classes.Bar (record { checked = refl }) t on

begins_no_bar : (t : Lexeme) (ts : List Lexeme) → among b_expr (place_of t.class) ≡ true → starts classes.Bar (t ∷ ts) ≡ false
unfolding starts place_of
begins_no_bar t ts on = off_class b_expr classes.Bar (record { checked = refl }) t on

module _ (p : Pair) where
  tells_between : (low : List ℕ) → Tells p [] (between_of low)
  unfolding between_of place_of
  tells_between low =
      tells_after p classes.Comma (record { checked = refl }) (λ (t : Lexeme). tells_after p classes.Number (record { checked = refl }) (λ (n : Lexeme).
      tells_after p classes.CloseBrace (record { checked = refl }) (λ (u : Lexeme). tells_gives p (RepeatData.Between low n.text))))

  tells_exactly : (low : List ℕ) → Tells p [] (exactly_of low)
  unfolding exactly_of place_of
  tells_exactly low = tells_after p classes.CloseBrace (record { checked = refl }) (λ (u : Lexeme). tells_gives p (RepeatData.Exactly low))

  tells_counted : Tells p [] counted
  unfolding counted place_of
  tells_counted =
      tells_after p classes.OpenBrace (record { checked = refl }) (λ (t : Lexeme). tells_after p classes.Number (record { checked = refl }) (λ (n : Lexeme).
      tells_if p classes.Comma (record { checked = refl }) (tells_between n.text) (tells_exactly n.text)))

  tells_repeat : Tells p [] repeat
  unfolding place_of
  tells_repeat =
      tells_same p repeat_same
      (tells_if p classes.Star (record { checked = refl }) (tells_after p classes.Star (record { checked = refl }) (λ (t : Lexeme). tells_gives p RepeatData.Star))
      (tells_if p classes.Plus (record { checked = refl }) (tells_after p classes.Plus (record { checked = refl }) (λ (t : Lexeme). tells_gives p RepeatData.Plus))
      (tells_if p classes.Question (record { checked = refl }) (tells_after p classes.Question (record { checked = refl }) (λ (t : Lexeme). tells_gives p RepeatData.Optional)) tells_counted)))

  tells_repeated : (x : RegexData) → Tells p [] (repeated x)
  unfolding repeated
  tells_repeated x = tells_then p tells_repeat (λ (times : RepeatData). tells_gives p (RegexData.Repeat x times))

  -- ---- over what reads one level deeper

  pub record TellsRegex (r : InsideRegex) : Type 0 where
    pub regex : (t : Lexeme) → Tells p true_alone (r.regex t)
    pub atom : (t : Lexeme) → Tells p phrase_tokens (r.atom t)

  module _ (r : InsideRegex) (stable : StableRegex r) (s : TellsRegex r) where
    tells_atom : Tells p [] (atom_of r)
    unfolding atom_of place_of
    tells_atom = tells_after p classes.OpenBracket (record { checked = refl }) (λ (t : Lexeme). tells_until p phrase_tokens classes.CloseBracket (record { checked = refl }) (record { checked = refl }) (s.atom t) (λ (e : Expression) (u : Lexeme). tells_gives p (RegexData.Atom e)))

    tells_group : Tells p [] (group_of r)
    unfolding group_of place_of
    tells_group = tells_after p classes.Open (record { checked = refl }) (λ (t : Lexeme). tells_until p true_alone classes.Close (record { checked = refl }) (record { checked = refl }) (s.regex t) (λ (x : RegexData) (u : Lexeme). tells_gives p x))

    tells_ratom : Tells p [] (ratom_of r)
    unfolding ratom_of place_of
    tells_ratom = tells_if p classes.OpenBracket (record { checked = refl }) tells_atom tells_group

    tells_post : Tells p [] (post_of r)
    unfolding post_of place_of
    tells_post = tells_then p tells_ratom (λ (x : RegexData). tells_steps p [] starts_repeat repeat_of_head (λ t ts on. of_none t on) no_repeat (record { checked = refl }) uses_repeated tells_repeated x)

    tells_follower : (all : List RegexData) → Tells p [] (follower_of r all)
    unfolding follower_of
    tells_follower all = tells_then p tells_post (λ (x : RegexData). tells_gives p (all ++ x ∷ []))

    tells_followers : (all : List RegexData) → Tells p true_alone (λ ts. all_of starts_ratom (follower_of r) all ts)
    unfolding place_of
    tells_followers all =
        tells_loop p {G = []} ratom_of_head (uses_follower r stable) tells_follower (λ n a. blocks_none)
        (nothing_by p starts_ratom (follower_of r) (λ n a. blocks_off {G = true_alone} {F = true_alone} starts_ratom (follower_of r) no_ratom (record { checked = refl }) (suc n) a)) all

    tells_followed : (x : RegexData) → Tells p true_alone (followed_of r x)
    unfolding followed_of place_of
    tells_followed x = tells_then p tells_post (λ (y : RegexData). tells_map p (λ (all : List RegexData). RegexData.Cat (regexes all)) (record { checked = refl }) (tells_followers (x ∷ y ∷ [])))

    word_no_ratom : starts_ratom (instead p) ≡ false
    word_no_ratom = no_ratom p.word p.more (word_among p)

    tells_cat : Tells p true_alone (cat_of r)
    unfolding cat_of place_of
    tells_cat = tells_then p tells_post (λ (x : RegexData). tells_if_word p ratom_of_head word_no_ratom (blocks_gives x (record { checked = refl })) (tells_followed x) (tells_gives p x))

    tells_branch : (all : List RegexData) → Tells p true_alone (branch_of r all)
    unfolding branch_of place_of
    tells_branch all = tells_after p classes.Bar (record { checked = refl }) (λ (t : Lexeme). tells_map p (λ (x : RegexData). all ++ x ∷ []) (record { checked = refl }) tells_cat)

    tells_branches : (all : List RegexData) → Tells p true_alone (λ ts. all_of (starts classes.Bar) (branch_of r) all ts)
    unfolding place_of
    tells_branches all = tells_steps p true_alone (starts classes.Bar) (starts_of_head classes.Bar) no_bar begins_no_bar (record { checked = refl }) (uses_branch r stable) tells_branch all

    blocks_branches : (all : List RegexData) → Blocks true_alone true_alone (λ ts. all_of (starts classes.Bar) (branch_of r) all ts)
    unfolding place_of
    blocks_branches all = record { blocks = λ t ts on. (blocks_off {G = true_alone} {F = true_alone} (starts classes.Bar) (branch_of r) no_bar (record { checked = refl }) (suc (length (t ∷ ts))) all).blocks t ts on }

    tells_branched : (x : RegexData) → Tells p true_alone (branched_of r x)
    unfolding branched_of place_of
    tells_branched x =
        tells_after p classes.Bar (record { checked = refl }) (λ (t : Lexeme). tells_open p true_alone tells_cat
        (λ (y : RegexData). blocks_then true_alone (blocks_branches (x ∷ y ∷ [])) (λ (all : List RegexData). blocks_gives (RegexData.Alt (regexes all)) (record { checked = refl })))
        (λ (y : RegexData). tells_map p (λ (all : List RegexData). RegexData.Alt (regexes all)) (record { checked = refl }) (tells_branches (x ∷ y ∷ []))))

    pub tells_regex : Tells p true_alone (regex_of r)
    unfolding regex_of place_of
    tells_regex =
        tells_open p true_alone tells_cat (λ (x : RegexData). blocks_if classes.Bar (branched_of r x) (record { checked = refl }) (blocks_gives x (record { checked = refl })))
        (λ (x : RegexData). tells_if p classes.Bar (record { checked = refl }) (tells_branched x) (tells_gives p x))

  pub tells_inside_regex : (left : ℕ) → TellsRegex (inside_regex left)
  unfolding inside_regex
  tells_inside_regex zero = record { regex = λ t. tells_deep p t.number; atom = λ t. tells_deep p t.number }
  tells_inside_regex (suc left) = record {
    regex = λ t. tells_regex (inside_regex left) (stable_inside_regex left) (tells_inside_regex left);
    atom = λ t. tells_whole p left;
  }
