-- Tokens as they stand in fields and challenges (RFC 4559, section 4).
use Rattle.std.specs.Prelude.{ℕ, List, ◌++◌, codes, Option, Some, None, Result, Ok, Err}
use Rattle.base64.specs.Engines.{standard}
use Rattle.base64.specs.GeneralPurpose.{encode_of, decode_of}
use Rattle.base64.specs.declared.decode.DecodeError.{DecodeError}
use Rattle.challenge_tokens.specs.declared.challenge.Body.{Body}
use Rattle.challenge_tokens.specs.declared.challenge.Body.TheVariants.{Bare, Token68, Params}

-- the value of a credentials field with the token
abbrev pub negotiate_credentials : List ℕ → List ℕ
negotiate_credentials token = codes "Negotiate " ++ encode_of standard token

abbrev pub decoded : Result (List ℕ) DecodeError → Option (List ℕ)
decoded (Ok token) = Some token
decoded (Err fault) = None

-- the token of a challenge with that body: its token68 decoded, where it has one that is base64
abbrev pub token_in : Body → Option (List ℕ)
token_in Bare = None
token_in (Token68 text) = decoded (decode_of standard text)
token_in (Params params) = None
