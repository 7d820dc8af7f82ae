-- Worked examples.
use Rattle.std.specs.Prelude.{ℕ, Bool, true, List, [], ◌∷◌, ◌++◌, codes}
use Rattle.auth_text.specs.Text.{crlf}
use Rattle.wire_head.specs.declared.reply.Reply.{Reply}

-- a head with one field
abbrev pub with_line : List ℕ → List ℕ
with_line line = codes "HTTP/1.1 200 OK" ++ crlf ++ line ++ crlf ++ crlf

abbrev pub ok : Bool → ℕ → Reply
ok stays body = record { code = 200; stays = stays; body = body; fields = []; server_info = []; proxy_info = [] }

abbrev pub empty_row : List ℕ
empty_row = with_line (codes "Content-Length: 0")

abbrev pub cut_row : List ℕ
cut_row = with_line (codes "Content-Length: 5") ++ codes "abc"

abbrev pub chunked_row : List ℕ
chunked_row =
    with_line (codes "Transfer-Encoding: chunked") ++ codes "3" ++ crlf ++ codes "abc" ++ crlf ++ codes "0" ++ crlf ++ crlf

-- a nonce for the next request (RFC 7616, section 3.5)
abbrev pub next_nonce : List ℕ
next_nonce = codes "nextnonce=\"b\""

abbrev pub info_row : List ℕ
info_row = codes "HTTP/1.1 200 OK\r\nContent-Length: 0\r\nAuthentication-Info: nextnonce=\"b\"\r\n\r\n"

-- two infos of the server, and two of a proxy around them
abbrev pub both_row : List ℕ
both_row =
    codes "HTTP/1.1 200 OK\r\nproxy-authentication-info: a=1\r\nAuthentication-Info: nextnonce=\"b\"\r\nContent-Length: 0\r\n"
    ++ codes "AUTHENTICATION-INFO: qop=auth\r\nProxy-Authentication-Info: b=2\r\n\r\n"

abbrev pub both_of_server : List (List ℕ)
both_of_server = next_nonce ∷ codes "qop=auth" ∷ []

abbrev pub both_of_proxy : List (List ℕ)
both_of_proxy = codes "a=1" ∷ codes "b=2" ∷ []

-- the reply that has these infos
abbrev pub told : List (List ℕ) → List (List ℕ) → Reply
told server proxy = record { code = 200; stays = true; body = 0; fields = []; server_info = server; proxy_info = proxy }

-- a challenge with an info
abbrev pub challenge_row : List ℕ
challenge_row =
    codes "HTTP/1.1 401 Unauthorized\r\nWWW-Authenticate: Basic realm=\"x\"\r\nAuthentication-Info: nextnonce=\"b\"\r\n"
    ++ codes "Content-Length: 0\r\n\r\n"

-- it has the challenge alone
abbrev pub challenged : Reply
challenged = record {
  code = 401;
  stays = true;
  body = 0;
  fields = codes "Basic realm=\"x\"" ∷ [];
  server_info = [];
  proxy_info = [];
}
