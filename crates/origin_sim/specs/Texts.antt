-- What a simulated server writes: replies (RFC 7230, section 3) and challenges (RFC 7235, section 4).
use Rattle.std.specs.Prelude.{ℕ, Bool, List, [], ◌++◌, codes, decimal, if◌then◌else◌}
use Rattle.base64.specs.Engines.{standard}
use Rattle.base64.specs.GeneralPurpose.{encode_of}
use Rattle.auth_text.specs.Quoted.{quoted_text}
use Rattle.auth_text.specs.Text.{crlf}
use Rattle.challenge_tokens.specs.Writing.{token68_text}
use Rattle.digest_handler.specs.Credentials.{algorithm_name}
use Rattle.spaces.specs.declared.roster.Method.{Method}
use Rattle.spaces.specs.declared.roster.Method.TheVariants.{Get, Head}
use Rattle.spaces.specs.declared.terms.Algorithm.{Algorithm}

-- a line with its end
abbrev pub line : List ℕ → List ℕ
line text = text ++ crlf

-- the body of a 200; a reply to HEAD has none
abbrev pub body : Method → List ℕ
body Get = codes "ok"
body Head = []

-- the reply to a head that is accepted
abbrev pub accepted : Method → List ℕ
accepted method = line (codes "HTTP/1.1 200 OK") ++ line (codes "Content-Length: 2") ++ crlf ++ body method

-- the end of a reply without a body
abbrev pub no_body : List ℕ
no_body = line (codes "Content-Length: 0") ++ crlf

-- the reply to a head that a server refuses by a challenge
abbrev pub refused_by_server : List ℕ → List ℕ
refused_by_server challenge =
    line (codes "HTTP/1.1 401 Unauthorized") ++ line (codes "WWW-Authenticate: " ++ challenge) ++ no_body

-- the reply to a head that a proxy refuses by a challenge
abbrev pub refused_by_proxy : List ℕ → List ℕ
refused_by_proxy challenge =
    line (codes "HTTP/1.1 407 Proxy Authentication Required") ++ line (codes "Proxy-Authenticate: " ++ challenge) ++ no_body

-- the reply where nobody judges the head, or it can't be read
abbrev pub not_found : List ℕ
not_found = line (codes "HTTP/1.1 404 Not Found") ++ no_body

-- w, the world's number, h, the rule's number, k, the challenge's number
abbrev pub nonce_text : ℕ → ℕ → ℕ → List ℕ
nonce_text world rule challenge = codes "w" ++ decimal world ++ codes "h" ++ decimal rule ++ codes "k" ++ decimal challenge

-- a Basic challenge
abbrev pub basic_challenge : List ℕ → List ℕ
basic_challenge realm = codes "Basic realm=" ++ quoted_text realm

-- that the credentials were right but for their nonce and count
abbrev pub stale_text : Bool → List ℕ
stale_text stale = if stale then codes ", stale=true" else []

-- the algorithm of a Digest challenge
abbrev pub algorithm_text : Algorithm → List ℕ
algorithm_text algorithm = codes ", algorithm=" ++ algorithm_name algorithm

-- a Digest challenge
abbrev pub digest_challenge : List ℕ → List ℕ → Algorithm → Bool → List ℕ
digest_challenge realm nonce algorithm stale =
    (codes "Digest realm=" ++ quoted_text realm) ++ (codes ", nonce=" ++ quoted_text nonce)
    ++ algorithm_text algorithm ++ (codes ", qop=" ++ quoted_text (codes "auth")) ++ stale_text stale

-- Negotiate with a token, in a challenge and in credentials
abbrev pub negotiate_text : List ℕ → List ℕ
negotiate_text token = token68_text (codes "Negotiate") (encode_of standard token)
