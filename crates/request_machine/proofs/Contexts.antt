-- Contexts, by what was told of what is held.
use Rattle.std.proofs.Common.{◌≡◌, Bool, true, false, not, List, ℕ, Option, Some, None, IsSome, is_some, refl, sym, ap, ◌∙◌, if◌then◌else◌}
use Rattle.std.proofs.lemmas.Bool.{false≢true}
use Rattle.spaces.specs.declared.space.Scheme.{Scheme}
use Rattle.spaces.specs.declared.space.Scheme.TheVariants.{Basic, Digest, Negotiate, Password}
use Rattle.spaces.specs.ProtectionSpaces.{ProtectionSpace}
use Rattle.spaces.specs.Sites.{same_scheme}
use Rattle.request_machine.specs.declared.holding.Holding.{Holding}
use Rattle.trace_rule.specs.Settings.{or_else}
use Rattle.request_machine.specs.Kept.{Kept}
use Rattle.request_machine.specs.Heads.{bound_told}
use Rattle.request_machine.specs.Told.{scheme_told, is_live, link_told, IsReady}

-- a Negotiate space is no Digest one
only_negotiate : (scheme : Scheme) → same_scheme scheme Negotiate ≡ true → same_scheme scheme Digest ≡ false
only_negotiate Basic is = absurd (false≢true is)
only_negotiate Digest is = absurd (false≢true is)
only_negotiate Negotiate is = refl
only_negotiate Password is = absurd (false≢true is)

not_digest : (space : Option ProtectionSpace) → scheme_told space Negotiate ≡ true → scheme_told space Digest ≡ false
not_digest None is = refl
not_digest (Some space) is = only_negotiate space.scheme is

told_some : (space : Option ProtectionSpace) → scheme_told space Negotiate ≡ true → IsSome space
told_some None is = absurd (false≢true is)
told_some (Some space) is = refl

-- a Negotiate identity with a context that goes on needs no more
pub ready_live : (h : Holding) → scheme_told h.space Negotiate ≡ true → is_live h.context ≡ true → IsReady h
ready_live h is live = record {
  space = told_some h.space is;
  context = λ e. live;
  identity = λ e. absurd (false≢true (sym e ∙ is));
  named = λ e. absurd (false≢true (sym (not_digest h.space is) ∙ e));
}

-- no link is bound where neither context has bound one
pub unbound_both : (m : Kept) → link_told m.proxy ≡ None → link_told m.server ≡ None → bound_told m ≡ None
unbound_both m proxy server = ap (λ o. or_else o (link_told m.server)) proxy ∙ server

-- a token is unsent, or it was sent
pub unsent_flag : (sent : Bool) (token : List ℕ) → not sent ≡ is_some (if sent then None else Some token)
unsent_flag true token = refl
unsent_flag false token = refl
