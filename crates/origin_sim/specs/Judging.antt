-- What a rule says to a head, after what it said before.
use Rattle.std.specs.Prelude.{ℕ, ◌≡◌, ◌+◌, ◌<◌, ◌^◌, Bool, true, false, not, ◌&&◌, ◌||◌, ◌==◌, nat_lt, bytes_eq, IsTrue, List, filter, find, length, reverse, codes, Option, Some, None, Result, Ok, Err, if◌then◌else◌}
use Rattle.std.specs.List.{list_any}
use Rattle.auth_text.specs.Login.{Login, is_login}
use Rattle.basic_handler.specs.Basic.{scheme_text, read_basic}
use Rattle.basic_handler.specs.declared.basic.BasicFault.{BasicFault}
use Rattle.digest_handler.specs.Credentials.{digest_credentials}
use Rattle.link_trait.specs.declared.links.LinkName.{LinkName}
use Rattle.link_trait.specs.Links.{same_link}
use Rattle.spaces.specs.declared.terms.Algorithm.{Algorithm}
use Rattle.spaces.specs.declared.terms.Qop.TheVariants.{Auth}
use Rattle.spaces.specs.declared.terms.Terms.{Terms}
use Rattle.wire_head.specs.HeadLines.{behind_name}
use Rattle.wire_head.specs.declared.head_reader.ReadHead.{ReadHead}
use Rattle.origin_sim.specs.declared.rules.Kind.{Kind}
use Rattle.origin_sim.specs.declared.rules.Kind.TheVariants.{Open, Basic, Digest, Negotiate}
use Rattle.origin_sim.specs.declared.judged.Said.{Said}
use Rattle.origin_sim.specs.declared.judged.Use.{Use}
use Rattle.origin_sim.specs.declared.judged.Said.TheVariants.{Accepted, Used, Refused, Challenged, Begun, Forgotten}
use Rattle.origin_sim.specs.declared.judged.Judged.{Judged}
use Rattle.origin_sim.specs.Texts.{nonce_text, basic_challenge, digest_challenge, negotiate_text}

-- ---- Basic (RFC 7617, section 2)

-- the user and the password that were read are these
abbrev pub is_pair : List ℕ → List ℕ → Result Login BasicFault → Bool
is_pair user password (Ok login) = bytes_eq login.user user && bytes_eq login.password password
is_pair user password (Err e) = false

-- what stands behind the scheme is their token
abbrev pub is_basic_token : List ℕ → List ℕ → Option (List ℕ) → Bool
is_basic_token user password None = false
is_basic_token user password (Some token) = is_pair user password (read_basic token)

-- the credentials are Basic with the user and the password
abbrev pub is_basic : List ℕ → List ℕ → Option (List ℕ) → Bool
is_basic user password None = false
is_basic user password (Some credentials) = is_basic_token user password (behind_name scheme_text credentials)

abbrev pub basic_said : List ℕ → List ℕ → Option (List ℕ) → Said
basic_said user password credentials = if is_basic user password credentials then Accepted else Refused

-- ---- Digest (RFC 7616, section 3)

-- the rule made a nonce
abbrev pub makes_nonce : Said → Bool
makes_nonce (Challenged nonce stale) = true
makes_nonce said = false

-- how many challenges the rule made
abbrev pub made : ℕ → List Judged → ℕ
made rule past = length (filter (λ judged. judged.rule == rule && makes_nonce judged.said) past)

-- the rule made this nonce
abbrev pub makes : List ℕ → Said → Bool
makes nonce (Challenged other stale) = bytes_eq other nonce
makes nonce said = false

-- the nonce is one of the rule's own
abbrev pub is_own : ℕ → List ℕ → List Judged → Bool
is_own rule nonce past = list_any (λ judged. judged.rule == rule && makes nonce judged.said) past

-- the rule accepted the nonce
abbrev pub uses : List ℕ → Said → Bool
uses nonce (Used it) = bytes_eq it.nonce nonce
uses nonce said = false

-- how often the rule accepted the nonce
abbrev pub used : ℕ → List ℕ → List Judged → ℕ
used rule nonce past = length (filter (λ judged. judged.rule == rule && uses nonce judged.said) past)

-- the rule accepted the nonce with this count
abbrev pub uses_pair : List ℕ → ℕ → Said → Bool
uses_pair nonce count (Used it) = bytes_eq it.nonce nonce && it.count == count
uses_pair nonce count said = false

-- the pair of nonce and count came before
abbrev pub came : ℕ → List ℕ → ℕ → List Judged → Bool
came rule nonce count past = list_any (λ judged. judged.rule == rule && uses_pair nonce count judged.said) past

-- a nonce that was accepted so often may be used once more; a bound of 0 is none
abbrev pub is_left : ℕ → ℕ → Bool
is_left bound times = bound == 0 || nat_lt times bound

-- the nonce is the rule's own and isn't used up, and the pair didn't come before
abbrev pub may_use : ℕ → ℕ → List ℕ → ℕ → List Judged → Bool
may_use rule bound nonce count past =
    is_own rule nonce past && is_left bound (used rule nonce past) && not (came rule nonce count past)

-- the terms of the rule's challenge with a nonce
abbrev pub terms_with : List ℕ → Algorithm → List ℕ → Terms
terms_with realm algorithm nonce = record {
  algorithm = algorithm;
  said = true;
  realm = realm;
  nonce = nonce;
  opaque = None;
  qop = Auth;
  userhash = false;
}

-- the credentials answer these terms for the head, with a count and some client nonce
abbrev pub IsRight : Terms → Login → ReadHead → Option (List ℕ) → ℕ → Type 0
IsRight terms login head credentials count =
    (cnonce : List ℕ) × (credentials ≡ Some (digest_credentials terms login head.method head.target count cnonce))

-- the use that right credentials name: of a user and a password that are an identity, and with a count of four bytes; there is none where no use makes them right
abbrev pub IsUse : List ℕ → Algorithm → Login → ReadHead → Option (List ℕ) → Option Use → Type 0
IsUse realm algorithm login head credentials (Some it) =
    IsTrue (is_login login.user login.password) × (it.count < 2 ^ 32)
    × IsRight (terms_with realm algorithm it.nonce) login head credentials it.count
IsUse realm algorithm login head credentials None =
    IsTrue (is_login login.user login.password) → (nonce : List ℕ) (count : ℕ) → count < 2 ^ 32
    → ¬ (IsRight (terms_with realm algorithm nonce) login head credentials count)

-- a challenge with the rule's next nonce
abbrev pub challenged : ℕ → ℕ → List Judged → Bool → Said
challenged world rule past stale = Challenged (nonce_text world rule (made rule past + 1)) stale

-- the use is accepted, or a challenge comes, stale where there was a use
abbrev pub digest_said : ℕ → ℕ → ℕ → Option Use → List Judged → Said
digest_said world rule bound None past = challenged world rule past false
digest_said world rule bound (Some it) past =
    if may_use rule bound it.nonce it.count past then Used it else challenged world rule past true

-- ---- Negotiate (RFC 4559, section 4)

-- the credentials are Negotiate with the token
abbrev pub has_token : List ℕ → Option (List ℕ) → Bool
has_token token None = false
has_token token (Some credentials) = bytes_eq credentials (negotiate_text token)

-- it leaves a link with the first token, or without
abbrev pub sets_link : Said → Bool
sets_link Begun = true
sets_link Forgotten = true
sets_link said = false

-- it leaves the link with the first token
abbrev pub begins : Said → Bool
begins Begun = true
begins said = false

abbrev pub is_begun : Option Judged → Bool
is_begun None = false
is_begun (Some judged) = begins judged.said

-- the rule left the link with the first token, or without
abbrev pub is_setting : ℕ → LinkName → Judged → Bool
is_setting rule link judged = judged.rule == rule && same_link judged.link link && sets_link judged.said

-- on the link the rule got its first token, and forgot nothing since
abbrev pub has_begun : ℕ → LinkName → List Judged → Bool
has_begun rule link past = is_begun (find (is_setting rule link) (reverse past))

abbrev pub negotiate_said : List ℕ → List ℕ → Option (List ℕ) → Bool → Said
negotiate_said first second credentials begun =
    if has_token second credentials && begun then Accepted else if has_token first credentials then Begun else Forgotten

-- ---- any rule

-- what the numbered rule of a numbered world says to a head on a link, by credentials for it, after what was said before
abbrev pub IsSaid : ℕ → ℕ → Kind → List Judged → LinkName → ReadHead → Option (List ℕ) → Said → Type 0
IsSaid world rule Open past link head credentials said = said ≡ Accepted
IsSaid world rule (Basic realm user password) past link head credentials said = said ≡ basic_said user password credentials
IsSaid world rule (Digest realm user password algorithm bound) past link head credentials said =
    (it : Option Use) × IsUse realm algorithm (record { user = user; password = password }) head credentials it
    × (said ≡ digest_said world rule bound it past)
IsSaid world rule (Negotiate first reply second) past link head credentials said =
    said ≡ negotiate_said first second credentials (has_begun rule link past)

-- the challenge that goes with what a rule of that kind said, where it refuses
abbrev pub challenge : Kind → Said → Option (List ℕ)
challenge (Basic realm user password) Refused = Some (basic_challenge realm)
challenge (Digest realm user password algorithm bound) (Challenged nonce stale) = Some (digest_challenge realm nonce algorithm stale)
challenge (Negotiate first reply second) Begun = Some (negotiate_text reply)
challenge (Negotiate first reply second) Forgotten = Some (codes "Negotiate")
challenge kind said = None
