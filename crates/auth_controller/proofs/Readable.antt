-- What the machine reads of the book may be read, and is so.
use Rattle.std.proofs.Common.{◌≡◌, ℕ, false, IsTrue, List, Option, Some, None, is_some, option_map, unwrap_or, refl, sym, ap, ◌∙◌, subst}
use Rattle.std.specs.Prelude.{IfSome}
use Rattle.std.proofs.lemmas.Bool.{false≢true}
use Rattle.auth_text.specs.Login.{Login}
use Rattle.spaces.specs.declared.roster.Request.{Request}
use Rattle.spaces.specs.declared.roster.Roster.{Roster}
use Rattle.spaces.specs.declared.site.Target.{Target}
use Rattle.spaces.specs.declared.site.Target.TheVariants.{Proxy, Server, Socks}
use Rattle.spaces.specs.declared.space.Scheme.{Scheme}
use Rattle.spaces.specs.declared.space.Scheme.TheVariants.{Digest}
use Rattle.spaces.specs.declared.terms.Terms.{Terms}
use Rattle.spaces.specs.ProtectionSpaces.{ProtectionSpace}
use Rattle.spaces.specs.Sites.{numbered, same_scheme}
use Rattle.auth_events.specs.declared.journal.Drawn.{Drawn}
use Rattle.auth_events.specs.declared.names.TermsName.{TermsName}
use Rattle.auth_events.specs.declared.told.Told.{Told}
use Rattle.auth_events.specs.Identities.{identity}
use Rattle.auth_events.specs.Tables.{Tables}
use Rattle.auth_events.specs.Told.{names_told, past}
use Rattle.trace_rule.specs.Settings.{Setting, setting_of}
use Rattle.serving_laws.specs.Knowing.{KnowsBook}
use Rattle.serving_laws.specs.Reads.{IsHeldBy, IsReadOf}
use Rattle.serving_laws.proofs.Knowing.{knows_itself}
use Rattle.serving_laws.proofs.Reading.{read_of}
use Rattle.request_machine.specs.declared.holding.Holding.{Holding}
use Rattle.request_machine.specs.declared.stage.Piece.{Piece}
use Rattle.request_machine.specs.declared.stage.Stage.TheVariants.{Learn}
use Rattle.request_machine.specs.Changed.{holding}
use Rattle.request_machine.specs.Gives.{IsIdentityTold, IsSpaceTold, IsTermsTold}
use Rattle.request_machine.specs.Kept.{IsHeld, IsKnown, IsStage, Kept, Ties, held_kept}
use Rattle.request_machine.specs.Told.{scheme_told}
use Rattle.auth_controller.specs.Serving.{IsServing}

some_is : {A : Type 0} (a b : A) → Some a ≡ Some b → a ≡ b
some_is a b e = cc

names_are : (name : TermsName) (space : ℕ) (terms : Terms) (nonce : ℕ) → name.space ≡ space → name.terms ≡ terms → name.nonce ≡ nonce → name ≡ record { space = space; terms = terms; nonce = nonce }
names_are name space terms nonce p q t =
    ap (λ x. record { space = x; terms = name.terms; nonce = name.nonce }) p ∙ (ap (λ x. record { space = space; terms = x; nonce = name.nonce }) q ∙ ap (λ x. record { space = space; terms = terms; nonce = x }) t)

module _ (roster : Roster) (before told : List Told) (first words : List Drawn) (request : Request) (m : Kept) (serving : IsServing roster before told first words request m)
    (t : Target) (piece : Piece) (h : Holding) (stage : m.stage ≡ Learn t piece) (holds : holding m t ≡ Some h) where
  abbrev names : Tables
  names = names_told told

  abbrev Knows : Setting → Type 0
  Knows s = KnowsBook roster m.seed names (past told) m.number request s

  is_held : (s : Setting) → Ties s m → IsHeld s m.past t (Some h)
  is_held s ties = by t holds
    where
      by : (x : Target) → holding m x ≡ Some h → IsHeld s m.past x (Some h)
      by Proxy e = subst (IsHeld s m.past Proxy) e ties.proxy
      by Server e = subst (IsHeld s m.past Server) e ties.server
      by Socks e = absurd (let clash : None ≡ Some h = e in cc)

  held_so : IsHeldBy roster m.seed names (past told) m.number request m.past t (held_kept h)
  held_so s k =
      let ties : Ties s m = serving.known s k in
      ((subst (IsStage s m.past) stage ties.stage).0, (is_held s ties).is_held)

  pub reads : IsReadOf roster m.seed names (past told) m.number request (held_kept h)
  reads = read_of roster m.seed names (past before) (past told) m.number request m.past serving.served.alone t (held_kept h) held_so

  told_of : (P : Holding → Type 0) → P h → IfSome (holding m t) P
  told_of P p = subst (λ o. IfSome o P) (sym holds) p

  pub space_told : (space : ProtectionSpace) → numbered names.spaces h.gift.space ≡ Some space → (s : Setting) → Knows s → IsSpaceTold s m t space
  space_told space is s k = told_of (λ x. s.space_of x.gift.space ≡ Some space) (reads.space_is space s k is)

  pub identity_told : (login : Login) → identity roster names (past told) h.gift ≡ Some login → (s : Setting) → Knows s → IsIdentityTold s m t login
  identity_told login is s k = told_of (λ x. s.identity_of x.gift ≡ Some login) (reads.identity_is login s k is)

  -- where the machine knows that the space is a Digest one
  module _ (digest : IsTrue (scheme_told h.space Digest)) where
    digest_space : (space : ProtectionSpace) × (numbered names.spaces h.gift.space ≡ Some space) × (space.scheme ≡ Digest)
    digest_space = at h.space refl digest
      where
        here : Setting
        here = setting_of roster m.seed names (past told) m.number request

        known : IsKnown here h
        known = (is_held here (serving.known here (knows_itself roster m.seed names (past told) m.number request))).is_known

        same : (x : Scheme) → IsTrue (same_scheme x Digest) → x ≡ Digest
        same Digest e = refl
        same _ e = absurd (false≢true e)

        at : (o : Option ProtectionSpace) → h.space ≡ o → IsTrue (unwrap_or (option_map (λ (named : ProtectionSpace). same_scheme named.scheme Digest) o) false) → (space : ProtectionSpace) × (numbered names.spaces h.gift.space ≡ Some space) × (space.scheme ≡ Digest)
        at None e d = absurd (false≢true d)
        at (Some space) e d = (space, subst (λ o. IfSome o (λ x. here.space_of h.gift.space ≡ Some x)) e known.space, same space.scheme d)

    pub terms_named : IsTrue (is_some (numbered names.terms h.terms))
    terms_named = reads.has_terms digest_space.0 digest_space.1 digest_space.2

    pub terms_told : (terms : Terms) (nonce : ℕ) → option_map {U = Terms × ℕ} (λ (name : TermsName). (name.terms, name.nonce)) (numbered names.terms h.terms) ≡ Some (terms, nonce) → (s : Setting) → Knows s → IsTermsTold s m t (record { terms = terms; nonce = nonce })
    terms_told terms nonce is s k = at (numbered names.terms h.terms) refl is
      where
        at : (o : Option TermsName) → numbered names.terms h.terms ≡ o → option_map {U = Terms × ℕ} (λ (name : TermsName). (name.terms, name.nonce)) o ≡ Some (terms, nonce) → IsTermsTold s m t (record { terms = terms; nonce = nonce })
        at None e f = absurd (let clash : None ≡ Some (terms, nonce) = f in cc)
        at (Some name) e f =
            let own : name.space ≡ h.gift.space = reads.own_terms digest_space.0 name digest_space.1 digest_space.2 e in
            let pair : (name.terms, name.nonce) ≡ (terms, nonce) = some_is (name.terms, name.nonce) (terms, nonce) f in
            let same : name ≡ record { space = h.gift.space; terms = terms; nonce = nonce } = names_are name h.gift.space terms nonce own (ap (λ (x : Terms × ℕ). x.0) pair) (ap (λ (x : Terms × ℕ). x.1) pair) in
            told_of (λ x. s.terms_of x.terms ≡ Some (record { space = x.gift.space; terms = terms; nonce = nonce })) (reads.terms_is name s k e ∙ ap Some same)
