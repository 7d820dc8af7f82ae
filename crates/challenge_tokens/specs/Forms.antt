-- The forms of a piece (RFC 7235, section 2.1).
use Rattle.std.specs.Prelude.{ℕ, Bool, true, ◌&&◌, ◌||◌, ◌==◌, nat_lt, List, [], ◌∷◌, length, take, drop, codes, Option, Some, None, option_map, Result, Ok, Err, if◌then◌else◌}
use Rattle.std.specs.List.{list_all, list_any, prefix_len}
use Rattle.std.specs.Char.{is_ascii_alphanumeric}
use Rattle.auth_text.specs.Text.{is_token_byte, folded}
use Rattle.auth_text.specs.declared.quoted.QuoteFault.{QuoteFault}
use Rattle.auth_text.specs.Quoted.{quoted}
use Rattle.field_lists.specs.Blanks.{trim_start}
use Rattle.challenge_tokens.specs.Names.{is_lower}
use Rattle.challenge_tokens.specs.declared.params.Param.{Param}
use Rattle.challenge_tokens.specs.declared.piece.Form.{Form}
use Rattle.challenge_tokens.specs.declared.piece.Form.TheVariants.{Bare, WithToken, WithParam, Parameter, Bad}
use Rattle.challenge_tokens.specs.declared.piece.Quoting.{Quoting}
use Rattle.challenge_tokens.specs.declared.piece.Quoting.TheVariants.{Outside, Inside, Escaped}

-- ---- quoted strings

-- what a byte makes of a place
abbrev pub after_byte : Quoting → ℕ → Quoting
after_byte Outside b = if b == 34 then Inside else Outside
after_byte Inside b = if b == 92 then Escaped else (if b == 34 then Outside else Inside)
after_byte Escaped b = Inside

-- the value of a quoted string, where it is all of the n bytes
abbrev pub whole : ℕ → Result (List ℕ × ℕ) QuoteFault → Option (List ℕ)
whole n (Ok x) = if x.1 == n then Some x.0 else None
whole n (Err e) = None

-- ---- tokens

-- how many bytes of a token stand in front
abbrev pub token_len : List ℕ → ℕ
token_len bytes = prefix_len is_token_byte bytes

-- a token: one or more of its bytes and no other
abbrev pub is_token : List ℕ → Bool
is_token bytes = nat_lt 0 (length bytes) && list_all is_token_byte bytes

-- a byte of a token68 before its padding
abbrev pub is_token68_byte : ℕ → Bool
is_token68_byte b = is_ascii_alphanumeric b || list_any (λ c. c == b) (codes "-._~+/")

-- token68 = 1*( ALPHA / DIGIT / "-" / "." / "_" / "~" / "+" / "/" ) *"="
abbrev pub is_token68 : List ℕ → Bool
is_token68 bytes =
    let n = prefix_len is_token68_byte bytes in
    nat_lt 0 n && list_all (λ b. b == 61) (drop n bytes)

-- ---- parameters

-- the value of a token or of a quoted string
abbrev pub value_of : List ℕ → Option (List ℕ)
value_of [] = None
value_of (b ∷ bytes) =
    if b == 34 then whole (length (b ∷ bytes)) (quoted (b ∷ bytes))
    else (if is_token (b ∷ bytes) then Some (b ∷ bytes) else None)

-- "=" BWS value
abbrev pub value_behind : List ℕ → Option (List ℕ)
value_behind [] = None
value_behind (b ∷ bytes) = if b == 61 then value_of (trim_start bytes) else None

-- a parameter of this name, in lower case
abbrev pub named : List ℕ → List ℕ → Param
named name value = record { name = folded name; value = value }

-- token BWS "=" BWS value, all of the bytes
abbrev pub param_of : List ℕ → Option Param
param_of bytes =
    let n = token_len bytes in
    if nat_lt 0 n then option_map (named (take n bytes)) (value_behind (trim_start (drop n bytes))) else None

-- ---- forms

-- a parameter where it is one, else another form
abbrev pub or_param : Option Param → Form → Form
or_param (Some p) form = Parameter p
or_param None form = form

-- a scheme with a parameter, where it is one
abbrev pub head_param : List ℕ → Option Param → Form
head_param scheme (Some p) = WithParam scheme p
head_param scheme None = Bad

-- what stands behind a scheme and one or more SP
abbrev pub argument_form : List ℕ → List ℕ → Form
argument_form scheme bytes =
    if is_token68 bytes then WithToken scheme bytes else head_param scheme (param_of bytes)

-- a head, from its scheme and what follows it
abbrev pub head_form : List ℕ → List ℕ → Form
head_form scheme [] = Bare scheme
head_form scheme (b ∷ bytes) =
    if b == 32 then argument_form scheme (drop (prefix_len (λ c. c == 32) bytes) bytes) else Bad

-- the form of a piece
abbrev pub form_of : List ℕ → Form
form_of bytes =
    let n = token_len bytes in
    or_param (param_of bytes) (if nat_lt 0 n then head_form (folded (take n bytes)) (drop n bytes) else Bad)

-- the name of its parameter is in lower case
abbrev pub is_lower_form : Form → Bool
is_lower_form (Bare s) = true
is_lower_form (WithToken s t) = true
is_lower_form (WithParam s p) = is_lower p.name
is_lower_form (Parameter p) = is_lower p.name
is_lower_form Bad = true
