-- Each head of a request carries what is its own.
use Rattle.std.proofs.Common.{◌≡◌, ◌⊎◌, inl, inr, ℕ, Bool, true, false, ◌==◌, IsTrue, List, [], ◌∷◌, reverse, Option, Some, None, option_and_then, option_map, refl, sym, subst, if◌then◌else◌}
use Rattle.auth_text.specs.Login.{Login}
use Rattle.spaces.specs.declared.roster.Request.{Request}
use Rattle.spaces.specs.declared.roster.Roster.{Roster}
use Rattle.spaces.specs.declared.site.Target.{Target}
use Rattle.spaces.specs.declared.site.Target.TheVariants.{Server, Proxy}
use Rattle.spaces.specs.declared.space.Scheme.TheVariants.{Digest, Negotiate}
use Rattle.spaces.specs.Sites.{numbered}
use Rattle.auth_events.specs.declared.journal.Gift.{Gift}
use Rattle.auth_events.specs.declared.journal.Loss.TheVariants.{Memory}
use Rattle.auth_events.specs.declared.journal.Call.TheVariants.{End, Lose}
use Rattle.auth_events.specs.declared.journal.BookReply.TheVariants.{Lost, Ended as RequestEnded}
use Rattle.auth_events.specs.declared.journal.Entry.{Entry}
use Rattle.auth_events.specs.declared.names.TermsName.{TermsName}
use Rattle.auth_events.specs.Book.{IsLegalPast}
use Rattle.auth_events.specs.Tables.{Tables}
use Rattle.history_laws.specs.Laws.{is_site_named}
use Rattle.auth_runs.specs.Runs.{Each}
use Rattle.auth_runs.specs.declared.event.Event.{Event}
use Rattle.auth_runs.specs.declared.event.Event.TheVariants.{Called, Headed}
use Rattle.trace_rule.specs.Settings.{Setting, scheme_is}
use Rattle.trace_rule.specs.Holding.{Held, Context, held, unsent}
use Rattle.trace_rule.specs.Entries.{AreEntries, calls}
use Rattle.negotiate_handler.specs.Tokens.{negotiate_credentials}
use Rattle.trace_rule.specs.Heads.{credentials, digest_field, field, field_of}
use Rattle.trace_rule.specs.Serving.{setting_in}
use Rattle.trace_rule.specs.Traces.{IsPast, IsRun, IsCut, IsTrace, prompt_open, with_loss}
use Rattle.trace_rule.proofs.Drops.{spaces_numbered}
use Rattle.trace_rule.proofs.Holdings.{WasTold, AreTold, told_held, calls_go_on}
use Rattle.trace_laws.specs.Homes.{IsAtHome, IsOwnField, IsOwn, AreOwnHeads}
use Rattle.trace_laws.specs.Homes.IsOwnField.{none, by_password, by_digest, by_token}
use Rattle.trace_laws.proofs.Asked.{IsAskedIf, asked_held}
use Rattle.trace_laws.proofs.AtHome.{home_of, was_told_site}
use Rattle.trace_laws.proofs.Targets.{IsTargeted, targeted}
use Rattle.trace_laws.proofs.Contexts.{headed_by}
use Rattle.trace_laws.proofs.HeldTerms.{FitMade, IsFit, calls_fit, earlier_fit, fit_held, own_terms}
use Rattle.trace_laws.proofs.Tokens.{IsGiven, IsGivenIn, given_held}

module _ (negotiate : Bool) (roster : Roster) (seed : List ℕ) (names : Tables) (entries : List Entry) (r : ℕ) (request : Request) where
  abbrev here : Setting
  here = setting_in negotiate roster seed names entries r request

  abbrev Owns : List Event → Target → Option (List ℕ) → Type 0
  Owns past t value = IsOwnField roster names entries request here past t value

  -- the field is made of who is held
  by_scheme : (past : List Event) (t : Target) (h : Held) → IsAtHome names request here past t h.gift → IsGiven here past t (Some h) → IsFit names (Some h) → (n d : Bool) → scheme_is here h.gift.space Digest ≡ d
      → Owns past t (if n then option_map negotiate_credentials (option_and_then unsent h.context) else (if d then option_and_then (λ name. option_map (digest_field here past t name.terms) (here.identity_of h.gift)) (here.terms_of h.terms) else option_map credentials (here.identity_of h.gift)))
  by_scheme past t h home given fit true d scheme = at h.context given
    where
      sent : (c : Context) → IsGivenIn here past t h (Some c) → (b : Bool) → Owns past t (option_map negotiate_credentials (if b then None else Some c.token))
      sent c g true = none refl
      sent c g false = by_token h.gift c.token home g.0 g.1 refl

      at : (c : Option Context) → IsGivenIn here past t h c → Owns past t (option_map negotiate_credentials (option_and_then unsent c))
      at None g = none refl
      at (Some c) g = sent c g c.is_sent
  by_scheme past t h home given fit false true digest = at (here.terms_of h.terms) refl
    where
      known : (name : TermsName) → numbered names.terms h.terms ≡ Some name → (o : Option Login) → here.identity_of h.gift ≡ o → Owns past t (option_map (digest_field here past t name.terms) o)
      known name found None e = none refl
      known name found (Some login) e = by_digest h.gift login h.terms name home e found (own_terms names negotiate roster seed entries r request h name fit digest found) refl

      at : (o : Option TermsName) → numbered names.terms h.terms ≡ o → Owns past t (option_and_then (λ name. option_map (digest_field here past t name.terms) (here.identity_of h.gift)) o)
      at None found = none refl
      at (Some name) found = known name found (here.identity_of h.gift) refl
  by_scheme past t h home given fit false false scheme = at (here.identity_of h.gift) refl
    where
      at : (o : Option Login) → here.identity_of h.gift ≡ o → Owns past t (option_map credentials o)
      at None e = none refl
      at (Some login) e = by_password h.gift login home e refl

  -- what was told by the end
  abbrev IsHome : List Event → Type 0
  IsHome past = (gift : Gift) → WasTold gift (calls past) → IsTrue (is_site_named roster names r gift.space)

  module _ (in_roster : numbered roster.requests r ≡ Some request) where
    own_field : (past : List Event) → IsPast here past → IsHome past → Each (FitMade names) (calls past) → (t : Target) → Owns past t (field here past t)
    own_field past run home all t = at (held here past t) (targeted here past run t) (asked_held here (spaces_numbered negotiate roster seed names entries r request) past run t) (told_held here past run t) (given_held here past run t) (fit_held names negotiate roster seed entries r request past run all t)
      where
        at : (o : Option Held) → IsTargeted here t o → IsAskedIf here past t o → AreTold o (calls past) → IsGiven here past t o → IsFit names o → Owns past t (option_and_then (field_of here past t) o)
        at None target asked told given fit = none refl
        at (Some h) target asked told given fit =
            by_scheme past t h (home_of roster names negotiate seed entries r request in_roster past t h.gift target asked (home h.gift told)) given fit (scheme_is here h.gift.space Negotiate) (scheme_is here h.gift.space Digest) refl

    own_event : (event : Event) (past : List Event) → IsPast here (event ∷ past) → IsHome past → Each (FitMade names) (calls past) → IsOwn roster names entries request here past event
    own_event (Headed link bytes) past run home all =
        record {
          proxy = field here past Proxy;
          server = field here past Server;
          is_head = (headed_by here past link bytes run).text;
          own_proxy = own_field past run.0 home all Proxy;
          own_server = own_field past run.0 home all Server;
        }
    own_event event past run home all = tt

    own_heads : (past : List Event) → IsPast here past → IsHome past → Each (FitMade names) (calls past) → AreOwnHeads roster names entries request here past
    own_heads [] run home all = tt
    own_heads (event ∷ past) run home all =
        let before : IsHome past = λ gift told. home gift (calls_go_on event past gift told) in
        let earlier = earlier_fit names event past all in
        (own_heads past run.0 before earlier, own_event event past run before earlier)

    pub own_traces : (events : List Event) → IsLegalPast roster names entries → AreEntries entries r (reverse events) → IsTrace here events → AreOwnHeads roster names entries request here (reverse events)
    own_traces events legal same trace = at trace
      where
        home : IsHome (reverse events)
        home gift told = was_told_site roster names entries legal r (reverse events) same gift told

        fit : Each (FitMade names) (calls (reverse events))
        fit = calls_fit names roster entries legal r (reverse events) same

        fit_before : (past : List Event) (b : Bool) (p : ℕ) → Each (FitMade names) (calls (if b then past else Called (Lose p Memory) (Lost Memory) ∷ past)) → Each (FitMade names) (calls past)
        fit_before past true p all = all
        fit_before past false p all = all.1

        lost : (past : List Event) (b : Bool) (p : ℕ) → AreOwnHeads roster names entries request here past → AreOwnHeads roster names entries request here (if b then past else Called (Lose p Memory) (Lost Memory) ∷ past)
        lost past true p h = h
        lost past false p h = (h, tt)

        told_before : (past : List Event) (b : Bool) (p : ℕ) (gift : Gift) → WasTold gift (calls past) → WasTold gift (calls (if b then past else Called (Lose p Memory) (Lost Memory) ∷ past))
        told_before past true p gift told = told
        told_before past false p gift told = calls_go_on (Called (Lose p Memory) (Lost Memory)) past gift told

        at : IsRun here (reverse events) ⊎ IsCut here (reverse events) → AreOwnHeads roster names entries request here (reverse events)
        at (inl run) = own_heads (reverse events) run.0 home fit
        at (inr (past, cut)) =
            subst (AreOwnHeads roster names entries request here) (sym cut.cut) (
              (
                lost past (prompt_open past past == 0) (prompt_open past past)
                    (own_heads past cut.is_past
                    (λ gift told. home gift (subst (λ x. WasTold gift (calls x)) (sym cut.cut)
                    (calls_go_on (Called End RequestEnded) (with_loss (prompt_open past past) past) gift (told_before past (prompt_open past past == 0) (prompt_open past past) gift told))))
                    (fit_before past (prompt_open past past == 0) (prompt_open past past) (subst (λ x. Each (FitMade names) (calls x)) cut.cut fit).1)),
                tt,
              ),
              tt,
            )
