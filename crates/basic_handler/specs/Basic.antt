-- Basic credentials (RFC 7617, section 2).
use Rattle.std.specs.Prelude.{ℕ, ◌+◌, ◌==◌, Bool, List, ◌++◌, take, drop, codes, Option, Some, None, Result, Ok, Err}
use Rattle.std.specs.List.{position_from}
use Rattle.base64.specs.Engines.{standard}
use Rattle.base64.specs.GeneralPurpose.{encode_of, decode_of}
use Rattle.base64.specs.declared.decode.DecodeError.{DecodeError}
use Rattle.auth_text.specs.Login.{Login, login_text, is_control}
use Rattle.basic_handler.specs.declared.basic.BasicFault.{BasicFault}
use Rattle.basic_handler.specs.declared.basic.BasicFault.TheVariants.{NotBase64, NoColon, Control}

-- what stands before the token
abbrev pub scheme_text : List ℕ
scheme_text = codes "Basic "

-- the credentials: the scheme, and the base64 of user ":" password
abbrev pub basic : List ℕ → List ℕ → List ℕ
basic user password = scheme_text ++ encode_of standard (login_text user password)

-- ":"
abbrev pub is_colon : ℕ → Bool
is_colon b = b == 58

-- the parts around the colon at this place, unless the text has a control byte
abbrev pub parts_at : List ℕ → ℕ → Option ℕ → Result Login BasicFault
parts_at text colon (Some at) = Err (Control at)
parts_at text colon None = Ok (record { user = take colon text; password = drop (colon + 1) text })

-- the parts around the first colon
abbrev pub parts_around : List ℕ → Option ℕ → Result Login BasicFault
parts_around text None = Err NoColon
parts_around text (Some colon) = parts_at text colon (position_from is_control 0 text)

-- the parts of what was decoded
abbrev pub decoded_parts : Result (List ℕ) DecodeError → Result Login BasicFault
decoded_parts (Err e) = Err NotBase64
decoded_parts (Ok text) = parts_around text (position_from is_colon 0 text)

-- the identity that a token is, or the first reason to refuse it
abbrev pub read_basic : List ℕ → Result Login BasicFault
read_basic token = decoded_parts (decode_of standard token)
