-- What a request of one caller holds may be read of its book.
use Rattle.std.proofs.Common.{◌≡◌, ◌⊎◌, inl, inr, ℕ, Bool, true, false, IsTrue, List, Option, Some, None, is_some, option_and_then, option_map, unwrap_or, refl, sym, ap, ◌∙◌, subst}
use Rattle.std.proofs.lemmas.Bool.{false≢true}
use Rattle.spaces.specs.declared.roster.Request.{Request}
use Rattle.spaces.specs.declared.roster.Roster.{Roster}
use Rattle.spaces.specs.declared.site.Target.{Target}
use Rattle.spaces.specs.declared.space.Scheme.TheVariants.{Digest, Negotiate}
use Rattle.spaces.specs.ProtectionSpaces.{ProtectionSpace}
use Rattle.spaces.specs.Sites.{numbered, same_scheme}
use Rattle.auth_events.specs.declared.journal.Entry.{Entry}
use Rattle.auth_events.specs.Identities.{giving, identity_given}
use Rattle.auth_events.specs.Tables.{Tables}
use Rattle.auth_runs.specs.declared.event.Event.{Event}
use Rattle.trace_rule.specs.Holding.{Held, held}
use Rattle.trace_rule.specs.Settings.{Setting, scheme_is, setting_of}
use Rattle.trace_rule.specs.Traces.{IsPast}
use Rattle.trace_rule.proofs.Drops.{spaces_numbered}
use Rattle.trace_rule.proofs.Gains.{negotiating, none_negotiating}
use Rattle.trace_rule.proofs.Knowing.{IsKnown, Knows, known_held, one_of}
use Rattle.trace_laws.proofs.HeldTerms.{IsFit, calls_fit, fit_held, own_terms}
use Rattle.serving_laws.specs.Alone.{IsAlone}
use Rattle.serving_laws.specs.Reads.{IsHeldBy, IsReadOf}
use Rattle.serving_laws.proofs.Entries.{are_entries}
use Rattle.serving_laws.proofs.Knowing.{knows_itself}

given_of : (roster : Roster) (names : Tables) (o : Option Entry) → IsTrue (is_some (option_and_then (identity_given roster names) o)) → IsTrue (is_some o)
given_of roster names None h = absurd (false≢true h)
given_of roster names (Some entry) h = refl

module _ (roster : Roster) (seed : List ℕ) (names : Tables) (before entries : List Entry) (r : ℕ) (request : Request) (past : List Event) (alone : IsAlone roster names before entries r request past)
    (t : Target) (h : Held) (held_so : IsHeldBy roster seed names entries r request past t h) where
  abbrev here : Setting
  here = setting_of roster seed names entries r request

  now : IsPast here past × (held here past t ≡ Some h)
  now = held_so here (knows_itself roster seed names entries r request)

  known : IsKnown here h.gift h.terms
  known = subst (Knows here) now.1 (known_held here past now.0 t)

  digest : (space : ProtectionSpace) → numbered names.spaces h.gift.space ≡ Some space → space.scheme ≡ Digest → IsTrue (scheme_is here h.gift.space Digest)
  digest space found is =
      ap (λ o. unwrap_or (option_map (λ (named : ProtectionSpace). same_scheme named.scheme Digest) o) false) found ∙ ap (λ x. same_scheme x Digest) is

  given : (h.gift.ordinal ≡ 0) × IsTrue (scheme_is here h.gift.space Negotiate) ⊎ IsTrue (is_some (here.identity_of h.gift)) → IsTrue (is_some (giving entries h.gift))
  given (inl ambient) =
      absurd (none_negotiating here (spaces_numbered false roster seed names entries r request) refl past now.0 t (ap (negotiating here) now.1 ∙ ambient.1))
  given (inr some) = given_of roster names (giving entries h.gift) some

  named : (b : Bool) → b ≡ true → (b ≡ false) ⊎ IsTrue (is_some (numbered names.terms h.terms)) → IsTrue (is_some (numbered names.terms h.terms))
  named b is (inl no_digest) = absurd (false≢true (sym no_digest ∙ is))
  named b is (inr some) = some

  pub read_of : IsReadOf roster seed names entries r request h
  read_of = record {
    is_named = known.space;
    is_given = given known.identity;
    has_terms = λ space found is. named (scheme_is here h.gift.space Digest) (digest space found is) (one_of (scheme_is here h.gift.space Digest) (is_some (numbered names.terms h.terms)) known.terms_known);
    own_terms = λ space name found is called.
        own_terms names false roster seed entries r request h name
        (subst (IsFit names) now.1 (fit_held names false roster seed entries r request past now.0 (calls_fit names roster entries alone.legal r past (are_entries roster names before entries r request past alone)) t))
        (digest space found is) called;
    space_is = λ found s k is. k.knows.space_of h.gift.space found is;
    identity_is = λ found s k is. k.knows.identity_of h.gift found is;
    terms_is = λ found s k is. k.knows.terms_of h.terms found is;
  }
