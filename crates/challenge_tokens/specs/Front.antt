-- The first piece of a text, and what is read of it.
use Rattle.std.specs.Prelude.{ℕ, Bool, true, false, ◌&&◌, ◌==◌, List, [], ◌∷◌, take, Option, Some, None, option_map, ◌+◌, Result, Ok, Err, if◌then◌else◌}
use Rattle.auth_text.specs.Text.{is_token_byte}
use Rattle.field_lists.specs.Blanks.{trim_start, trim_end}
use Rattle.challenge_tokens.specs.declared.piece.Quoting.TheVariants.{Outside}
use Rattle.auth_text.specs.declared.quoted.QuoteFault.{QuoteFault}
use Rattle.challenge_tokens.specs.declared.piece.Form.{Form}
use Rattle.challenge_tokens.specs.declared.piece.Form.TheVariants.{Bare, WithToken, WithParam, Parameter, Bad}
use Rattle.challenge_tokens.specs.declared.field.Reading.{Reading}
use Rattle.challenge_tokens.specs.declared.field.Next.{Next}
use Rattle.challenge_tokens.specs.declared.field.Next.TheVariants.{Goes, Refused}
use Rattle.challenge_tokens.specs.Reading.{is_refused, with_form}
use Rattle.challenge_tokens.specs.Forms.{is_token68_byte, value_of, value_behind, or_param, head_form}
use Rattle.challenge_tokens.specs.Cutting.{piece_len}

-- the first piece, without the blanks at its end
abbrev pub front : List ℕ → List ℕ
front text = trim_end (take (piece_len Outside text) text)

-- what was read of the first piece, and how many bytes that piece has
abbrev pub sized : {X : Type 0} → Option X → List ℕ → Option (X × ℕ)
sized found text = option_map (λ x. (x, piece_len Outside text)) found

-- this, where there are no bytes
abbrev pub if_empty : {X : Type 0} → List ℕ → X → Option X
if_empty [] x = Some x
if_empty (b ∷ bytes) x = None

-- how many bytes the first piece has, where they are blanks
abbrev pub blank_piece : List ℕ → Option ℕ
blank_piece text = if_empty (front text) (piece_len Outside text)

-- what was read in front, with the blanks behind it counted, where only they follow
abbrev pub then_blank : {X : Type 0} → X → ℕ → Option ℕ → Option (X × ℕ)
then_blank x n None = None
then_blank x n (Some k) = Some (x, n + k)

-- what was read, unless there is a fault
abbrev pub if_read : Result (List ℕ × ℕ) QuoteFault → Option (List ℕ × ℕ)
if_read (Ok x) = Some x
if_read (Err fault) = None

-- the first byte is this one
abbrev pub starts : ℕ → List ℕ → Bool
starts b [] = false
starts b (c ∷ bytes) = c == b

-- the first piece has no byte
abbrev pub is_over : List ℕ → Bool
is_over [] = true
is_over (b ∷ bytes) = b == 44

-- a byte that may stand in a token and in a token68
abbrev pub is_common : ℕ → Bool
is_common b = is_token68_byte b && is_token_byte b

-- a form, unless it is bad
abbrev pub unless_bad : Form → Option Form
unless_bad (Bare s) = Some (Bare s)
unless_bad (WithToken s t) = Some (WithToken s t)
unless_bad (WithParam s p) = Some (WithParam s p)
unless_bad (Parameter p) = Some (Parameter p)
unless_bad Bad = None

-- the form of a piece, from the token in front of it, in lower case, and the bytes behind that
abbrev pub after_token : List ℕ → List ℕ → Form
after_token token bytes =
    or_param (option_map (λ value. record { name = token; value = value }) (value_behind (trim_start bytes))) (head_form token bytes)

-- the value that is the first piece, where so many "=" stand before it: a value has none in front
abbrev pub value_after : ℕ → List ℕ → Option (List ℕ × ℕ)
value_after n text =
    if n == 0 then sized (value_behind (front text)) text
    else (if n == 1 then sized (value_of (front text)) text else None)

-- what a piece of this form and of so many bytes leaves
abbrev pub next_by : Reading → Form → ℕ → Next
next_by r form n = if is_refused r form then Refused r else Goes (with_form r form) n
