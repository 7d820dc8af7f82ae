-- What the rule on pieces gives of some fields, written out.
use Rattle.std.specs.Prelude.{◌≡◌, ℕ, List, [], ◌∷◌, codes, Some, None}
use Rattle.challenge_tokens.specs.declared.params.Param.{Param}
use Rattle.challenge_tokens.specs.declared.challenge.FieldRead.{FieldRead}
use Rattle.challenge_tokens.specs.declared.challenge.Body.TheVariants.{Bare, Token68, Params}
use Rattle.challenge_tokens.specs.Pieces.{field_read}
use Rattle.challenge_tokens.specs.Infos.{info_read}

-- a parameter
abbrev pub pair : List ℕ → List ℕ → Param
pair name value = record { name = name; value = value }

-- three challenges, no bad piece
abbrev pub three : FieldRead
three = record {
  challenges = record { scheme = codes "negotiate"; body = Bare }
      ∷ record { scheme = codes "basic"; body = Params (pair (codes "realm") (codes "a, b") ∷ []) }
      ∷ record { scheme = codes "digest"; body = Params (pair (codes "nonce") (codes "x") ∷ []) } ∷ [];
  bad_at = None;
}

-- of a realm given twice the first
abbrev pub twice : FieldRead
twice = record {
  challenges = record { scheme = codes "basic"; body = Params (pair (codes "realm") (97 ∷ 34 ∷ 98 ∷ []) ∷ []) } ∷ [];
  bad_at = None;
}

-- the challenge before an unclosed quote, and the place of its piece
abbrev pub unclosed : FieldRead
unclosed = record {
  challenges = record { scheme = codes "digest"; body = Params (pair (codes "nonce") (codes "n") ∷ []) } ∷ [];
  bad_at = Some 16;
}

-- a token68, and the place of a parameter that it can't take
abbrev pub stray : FieldRead
stray = record {
  challenges = record { scheme = codes "negotiate"; body = Token68 (codes "YIIB==") } ∷ [];
  bad_at = Some 21;
}

-- two parameters of an info, with an empty piece between them
abbrev pub next_nonce : List Param
next_nonce = pair (codes "nextnonce") (codes "n") ∷ pair (codes "qop") (codes "auth") ∷ []

-- the fields, each with what it gives
pub record Examples : Type 0 where
  pub several : field_read (codes "Negotiate, Basic realm=\"a, b\", Digest nonce=x") ≡ three
  pub twice_given : field_read (codes "Basic realm=\"a\\\"b\", realm=c") ≡ twice
  pub empty : field_read [] ≡ record { challenges = []; bad_at = None }
  pub unclosed_quote : field_read (codes "Digest nonce=n, Basic realm=\"x") ≡ unclosed
  pub behind_a_token : field_read (codes ",, ,Negotiate YIIB==,foo=1") ≡ stray
  pub info : info_read (codes "nextnonce=\"n\", , qop=auth") ≡ next_nonce
  pub info_behind_a_head : info_read (codes "Digest x=1, nextnonce=n") ≡ []
