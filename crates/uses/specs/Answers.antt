-- What answers an offer of a challenge.
use Rattle.std.specs.Prelude.{ℕ, List, Option, Some, None}
use Rattle.auth_text.specs.Login.{Login}
use Rattle.spaces.specs.declared.roster.Method.{Method}
use Rattle.basic_handler.specs.Basic.{basic}
use Rattle.digest_handler.specs.Credentials.{digest_credentials}
use Rattle.challenge_offers.specs.declared.offer.Offer.{Offer}
use Rattle.challenge_offers.specs.declared.offer.Offer.TheVariants.{Basic, Digest, Negotiate}

-- the credentials of RFC 7617 or RFC 7616; tokens of Negotiate are none
abbrev pub credentials_of : Login → Method → List ℕ → ℕ → List ℕ → Offer → Option (List ℕ)
credentials_of login method uri count cnonce (Basic realm) = Some (basic login.user login.password)
credentials_of login method uri count cnonce (Digest terms stale) = Some (digest_credentials terms login method uri count cnonce)
credentials_of login method uri count cnonce Negotiate = None
