use Rattle.std.proofs.Common.{inl, refl}
use Rattle.std.specs.Str.{is_utf8}
use Rattle.std.proofs.lemmas.Bool.{false_from_ne_true}
use Rattle.std.proofs.lemmas.Str.{IsUtf8-from_is_utf8, is_utf8-from_IsUtf8}
use Rattle.spaces.proofs.place.url_of.Goals as goal

pub returns-in_default : goal.returns-in_default
returns-in_default c =
    let no = false_from_ne_true (is_utf8 c.args.text.now) (λ t. c.in_default.ensures.cases.0 (IsUtf8-from_is_utf8 _ t)) in
    inl (rw no refl)

pub returns-then-eq : goal.returns-then-eq
returns-then-eq c =
    rw (
      is_utf8-from_IsUtf8 c.args.text.now c.in-Ok.ensures.cases.1,
      ← c.in-Ok.ensures.cases.0,
      c.in-Ok-parse.ensures,
      ← c.scheme.ensures.value,
      ← c.eq.ensures,
      c.if-eq.true,
    )
    refl

pub returns-else-eq : goal.returns-else-eq
returns-else-eq c =
    inl (rw (
      is_utf8-from_IsUtf8 c.args.text.now c.in-Ok.ensures.cases.1,
      ← c.in-Ok.ensures.cases.0,
      c.in-Ok-parse.ensures,
      ← c.scheme.ensures.value,
      ← c.eq.ensures,
      c.if-eq.false,
    )
    refl)
