use Rattle.std.proofs.Common.{ℕ, List, subst, inl}
use Rattle.spec_model.specs.Values.{DomainData}
use Rattle.bit_compile.specs.Domains.{state_domains}
use Rattle.bit_compile.specs.Codes.{level_at, width_at}
use Rattle.bit_compile.specs.Compiled.{is_code, place_of}
use Rattle.bit_compile.specs.Crowding.{MakesNamed}
use Rattle.bit_compile.specs.NamedCodes.{IsOfNumber}
use Rattle.bit_compile.specs.Named.{IsOfVariable}
use Rattle.bit_compile.specs.Scenes.{codes_seen, game_seen}
use Rattle.bit_compile.proofs.Outcomes.{made_wider}
use Rattle.bit_compile.proofs.reading.variable_root.Goals as goal

pub returns : goal.returns
returns c =
    let old = c.args.diagrams.now in
    let new = c.has_code.new.diagrams in
    let r = c.has_code.result in
    let g = game_seen c.args.scene.now in
    let at = c.args.at in
    let made : List DomainData → ℕ → Type 0 = λ ds p. MakesNamed old new r (is_code ds at p 1) (IsOfNumber (level_at ds at p) (width_at ds p) 1) in
    let whole : made (codes_seen c.args.scene.now) c.place.result = record { made = c.has_code.ensures.made; cause = c.has_code.ensures.cause } in
    let placed = subst (made (state_domains g)) c.place.ensures.place (subst (λ (ds : List DomainData). made ds c.place.result) c.requires.scene.codes whole) in
    let p = place_of g c.args.k in
    made_wider (IsOfNumber (level_at (state_domains g) at p) (width_at (state_domains g) p) 1) (IsOfVariable g at c.args.k) (λ f is. inl is) old new r (is_code (state_domains g) at p 1) placed
