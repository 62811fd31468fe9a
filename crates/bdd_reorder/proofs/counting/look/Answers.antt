use Rattle.std.proofs.Common.{◌≡◌, ◌∙◌, ◌++◌, ℕ, Bool, Option, MatchOption, List, [], ◌∷◌, ap, sym, subst}
use Rattle.std.specs.List.{Contains}
use Rattle.std.proofs.lemmas.Bool.{false≢true}
use Rattle.spec_model.specs.Diagrams.{constant, branch, value}
use Rattle.node_table.specs.Table.{Table, IsLive, diagram_at}
use Rattle.bdd_store.specs.State.{SameRoots, diagram_of}
use Rattle.bdd_ops.specs.declared.split.Split.{Split}
use Rattle.bdd_ops.specs.Splits.{SplitsAt, AddsBoth}
use Rattle.bdd_reorder.specs.Searching.{IsSearched}
use Rattle.bdd_reorder.proofs.SearchLemmas.{looked_before, looked_constant, looked_new}
use Rattle.bdd_reorder.proofs.LookLemmas.{pushed_twice, roots_pushed, fewer_pushed}
use Rattle.bdd_reorder.proofs.counting.look.Goals as goal

pub returns-then-has-clause-searched : goal.returns-then-has-clause-searched
returns-then-has-clause-searched c = λ ds s.
    let old = c.args.found.now in
    let there : Contains old c.args.a.now = subst (Contains old) c.number-number.ensures.number (c.has.ensures.0 c.if-has.true) in
    looked_before c.args.from.now.state.table ds old c.args.waiting.now.items c.args.a.now s there

pub returns-in_default-clause-searched : goal.returns-in_default-clause-searched
returns-in_default-clause-searched c = λ ds s.
    let from = c.args.from.now.state in
    let d = diagram_of from c.args.a.now in
    let is : (b : Bool) × (d ≡ constant b) =
    subst (λ (o : Option Split). MatchOption o ((b : Bool) × (d ≡ constant b)) (λ x. SplitsAt from.table.levels x.level d (diagram_of c.split.new.self.state x.low) (diagram_of c.split.new.self.state x.high))) c.in_default.is c.in_ok-split.ensures.split in
    subst (λ (ws : List ℕ). IsSearched from.table ds c.args.found.now ws) (sym c.reserve.ensures.items) (looked_constant from.table ds c.args.found.now c.args.waiting.now.items c.args.a.now s is.0 is.1)

pub returns-in_err-add-clause-roots : goal.returns-in_err-add-clause-roots
returns-in_err-add-clause-roots c =
    let from = c.args.from.now.state in
    let next = c.split.new.self.state in
    let old = c.args.waiting.now.items in
    let new = c.push_reserved-2.new.self.items in
    let split = c.in-Some.split in
    let items : new ≡ (old ++ split.high ∷ []) ++ split.low ∷ [] = pushed_twice old c.reserve.new.self.items c.push_reserved.new.self.items new split.high split.low c.reserve.ensures.items c.push_reserved.ensures.items c.push_reserved-2.ensures.items in
    let added : AddsBoth from next split.low split.high = subst (λ (o : Option Split). MatchOption o (SameRoots from next) (λ x. AddsBoth from next x.low x.high)) c.in-Some.is c.in_ok-split.ensures.added in
    roots_pushed from next old new split.low split.high items added

pub returns-clause-roots : goal.returns-clause-roots
returns-clause-roots c =
    let from = c.args.from.now.state in
    let next = c.split.new.self.state in
    let old = c.args.waiting.now.items in
    let new = c.push_reserved-2.new.self.items in
    let split = c.in-Some.split in
    let items : new ≡ (old ++ split.high ∷ []) ++ split.low ∷ [] = pushed_twice old c.reserve.new.self.items c.push_reserved.new.self.items new split.high split.low c.reserve.ensures.items c.push_reserved.ensures.items c.push_reserved-2.ensures.items in
    let added : AddsBoth from next split.low split.high = subst (λ (o : Option Split). MatchOption o (SameRoots from next) (λ x. AddsBoth from next x.low x.high)) c.in-Some.is c.in_ok-split.ensures.added in
    roots_pushed from next old new split.low split.high items added

pub returns-clause-fewer : goal.returns-clause-fewer
returns-clause-fewer c =
    let from = c.args.from.now.state in
    let next = c.split.new.self.state in
    let old = c.args.waiting.now.items in
    let new = c.push_reserved-2.new.self.items in
    let split = c.in-Some.split in
    let items : new ≡ (old ++ split.high ∷ []) ++ split.low ∷ [] = pushed_twice old c.reserve.new.self.items c.push_reserved.new.self.items new split.high split.low c.reserve.ensures.items c.push_reserved.ensures.items c.push_reserved-2.ensures.items in
    let a = c.args.a.now in
    let d = diagram_of from a in
    let splits : SplitsAt from.table.levels split.level d (diagram_of next split.low) (diagram_of next split.high) =
    subst (λ (o : Option Split). MatchOption o ((b : Bool) × (d ≡ constant b)) (λ x. SplitsAt from.table.levels x.level d (diagram_of next x.low) (diagram_of next x.high))) c.in-Some.is c.in_ok-split.ensures.split in
    let is_branch : d ≡ branch split.level (diagram_of from split.low) (diagram_of from split.high) = subst (λ (t : Table). d ≡ branch split.level (diagram_at t split.low) (diagram_at t split.high)) c.in_ok-split.ensures.table splits.diagram in
    fewer_pushed from.table old new a split.level split.low split.high items is_branch

pub returns-clause-searched : goal.returns-clause-searched
returns-clause-searched c = λ ds s.
    let from = c.args.from.now.state in
    let next = c.split.new.self.state in
    let old = c.args.waiting.now.items in
    let new = c.push_reserved-2.new.self.items in
    let split = c.in-Some.split in
    let items : new ≡ (old ++ split.high ∷ []) ++ split.low ∷ [] = pushed_twice old c.reserve.new.self.items c.push_reserved.new.self.items new split.high split.low c.reserve.ensures.items c.push_reserved.ensures.items c.push_reserved-2.ensures.items in
    let a = c.args.a.now in
    let d = diagram_of from a in
    let splits : SplitsAt from.table.levels split.level d (diagram_of next split.low) (diagram_of next split.high) =
    subst (λ (o : Option Split). MatchOption o ((b : Bool) × (d ≡ constant b)) (λ x. SplitsAt from.table.levels x.level d (diagram_of next x.low) (diagram_of next x.high))) c.in-Some.is c.in_ok-split.ensures.split in
    let is_branch : d ≡ branch split.level (diagram_of from split.low) (diagram_of from split.high) = subst (λ (t : Table). d ≡ branch split.level (diagram_at t split.low) (diagram_at t split.high)) c.in_ok-split.ensures.table splits.diagram in
    let found = c.args.found.now in
    let number : c.number-number.result ≡ a = c.number-number.ensures.number in
    let live : IsLive from.table a = subst (IsLive from.table) number c.number-number.ensures.live in
    let after = looked_new from.table ds found old a s split.level split.low split.high is_branch live splits.reduced
    (λ there. false≢true (sym c.if-has.false ∙ c.has.ensures.1 (subst (Contains found) (sym number) there)))
    (λ m is_live same. c.number-number.ensures.among m is_live (ap value same) ∙ number) in
    let noted : c.add.new.self ≡ found ++ a ∷ [] = c.in_ok-add.ensures ∙ ap (λ (n : ℕ). found ++ n ∷ []) number in
    subst (λ (ws : List ℕ). IsSearched from.table ds c.add.new.self ws) (sym items) (subst (λ (ns : List ℕ). IsSearched from.table ds ns ((old ++ split.high ∷ []) ++ split.low ∷ [])) (sym noted) after)
