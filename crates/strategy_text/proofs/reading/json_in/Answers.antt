use Rattle.std.proofs.Common.{◌≡◌, Bool, true, false, cond, Option, None, refl, sym, ◌∙◌}
use Rattle.std.specs.Str.{is_utf8}
use Rattle.std.proofs.lemmas.Bool.{false≢true}
use Rattle.std.proofs.lemmas.Str.{IsUtf8-from_is_utf8, is_utf8-from_IsUtf8}
use Rattle.strategy_text.proofs.Answers.{gives, refuses}
use Rattle.strategy_text.proofs.reading.json_in.Goals as goal

pub returns-in-Ok : goal.returns-in-Ok
returns-in-Ok c = gives (rw (is_utf8-from_IsUtf8 c.args.bytes.now c.in-Ok.ensures.ok.0, c.in-Ok.ensures.ok.1))

none_unless : {X : Type 0} (b : Bool) (o : Option X) → (b ≡ true → o ≡ None) → cond b o None ≡ None
none_unless true o none = none refl
none_unless false o none = refl

pub returns-else-is_memory : goal.returns-else-is_memory
returns-else-is_memory c =
    let bytes = c.args.bytes.now in
    refuses (none_unless (is_utf8 bytes) _ (λ utf8. c.in-Err.ensures.err (λ memory. false≢true (sym c.if-is_memory.false ∙ c.is_memory.ensures.1 memory)) (IsUtf8-from_is_utf8 bytes utf8)))
