-- Protection spaces (RFC 7235, section 2.2).
use Rattle.std.specs.Prelude.{ℕ, Bool, true, List, length, ◌==◌}
use Rattle.spaces.specs.declared.site.Site.{Site}
use Rattle.spaces.specs.declared.space.Scheme.{Scheme}
use Rattle.spaces.specs.declared.space.Scheme.TheVariants.{Negotiate}

-- what one set of credentials is for
pub record ProtectionSpace : Type 0 where
  pub site : Site
  pub scheme : Scheme
  pub realm : List ℕ

-- the scheme can have the realm: Negotiate has none
abbrev pub has_realm : Scheme → List ℕ → Bool
has_realm Negotiate realm = length realm == 0
has_realm _ realm = true
