-- A list read from the left: what is finished, and the challenge begun last.
use Rattle.std.specs.Prelude.{ℕ, Bool, true, false, not, List, [], ◌∷◌, ◌++◌, Option, Some, None, nat_lt, length, if◌then◌else◌}
use Rattle.challenge_tokens.specs.declared.challenge.Challenge.{Challenge}
use Rattle.challenge_tokens.specs.declared.challenge.Body.TheVariants.{Token68}
use Rattle.challenge_tokens.specs.declared.params.Param.{Param}
use Rattle.challenge_tokens.specs.declared.challenge.FieldRead.{FieldRead}
use Rattle.challenge_tokens.specs.declared.piece.Form.{Form}
use Rattle.challenge_tokens.specs.declared.piece.Form.TheVariants.{Bare, WithToken, WithParam, Parameter, Bad}
use Rattle.challenge_tokens.specs.declared.field.Reading.{Reading}
use Rattle.challenge_tokens.specs.declared.field.Next.{Next}
use Rattle.challenge_tokens.specs.declared.field.Next.TheVariants.{Goes, Refused}
use Rattle.challenge_tokens.specs.Forms.{form_of}
use Rattle.challenge_tokens.specs.Pieces.{Formed, extend, takes_params, begun}

-- the challenge begun last takes a parameter
abbrev pub takes : Option Challenge → Bool
takes None = false
takes (Some c) = takes_params c.body

-- a piece of this form is bad
abbrev pub is_refused : Reading → Form → Bool
is_refused r (Bare s) = false
is_refused r (WithToken s t) = false
is_refused r (WithParam s p) = false
is_refused r (Parameter p) = not (takes r.current)
is_refused r Bad = true

-- the challenge begun last, as a list
abbrev pub last_of : Option Challenge → List Challenge
last_of None = []
last_of (Some c) = c ∷ []

-- the challenges so far
abbrev pub so_far : Reading → List Challenge
so_far r = r.done ++ last_of r.current

-- a challenge begun
abbrev pub with_challenge : Reading → Challenge → Reading
with_challenge r c = record { done = so_far r; current = Some c }

-- a parameter joined to the challenge begun last
abbrev pub joined : Option Challenge → Param → Option Challenge
joined None p = None
joined (Some c) p = Some (record { scheme = c.scheme; body = extend c.body (p ∷ []) })

-- what a good piece leaves
abbrev pub with_form : Reading → Form → Reading
with_form r (Bare s) = with_challenge r (begun s [])
with_form r (WithToken s t) = with_challenge r (record { scheme = s; body = Token68 t })
with_form r (WithParam s p) = with_challenge r (begun s (p ∷ []))
with_form r (Parameter p) = record { done = r.done; current = joined r.current p }
with_form r Bad = r

-- what is read of the pieces that are left
abbrev pub resume : Reading → List Formed → FieldRead
resume r [] = record { challenges = so_far r; bad_at = None }
resume r (p ∷ ps) =
    if is_refused r p.form then record { challenges = so_far r; bad_at = Some p.at }
    else resume (with_form r p.form) ps

-- nothing is read
abbrev pub start : Reading
start = record { done = []; current = None }

-- what a piece leaves, in so many bytes of the text
abbrev pub next_of : Reading → List ℕ → ℕ → Next
next_of r bytes n =
    if nat_lt 0 (length bytes)
    then (if is_refused r (form_of bytes) then Refused r else Goes (with_form r (form_of bytes)) n)
    else Goes r n
