-- What the machine asks to be named may be named, and has the number that the book tells.
use Rattle.std.proofs.Common.{◌≡◌, ℕ, ◌*◌, ◌≤◌, ◌<◌, ◌==◌, Bool, true, false, IsTrue, List, [], ◌∷◌, length, Option, Some, None, option_and_then, refl, sym, ap, ◌∙◌, subst}
use Rattle.std.specs.Prelude.{IfSome}
use Rattle.std.proofs.lemmas.Bool.{false≢true}
use Rattle.spaces.specs.declared.roster.Request.{Request}
use Rattle.spaces.specs.declared.roster.Roster.{Roster}
use Rattle.spaces.specs.declared.site.Site.{Site}
use Rattle.spaces.specs.declared.site.Target.{Target}
use Rattle.spaces.specs.declared.terms.Terms.{Terms}
use Rattle.spaces.specs.ProtectionSpaces.{ProtectionSpace}
use Rattle.spaces.specs.Sites.{numbered, site}
use Rattle.auth_events.specs.declared.journal.Drawn.{Drawn}
use Rattle.auth_events.specs.declared.names.TermsName.{TermsName}
use Rattle.auth_events.specs.declared.told.Told.{Told}
use Rattle.auth_events.specs.Tables.{AreNames, Tables, is_home, is_that_terms, space_number, terms_number}
use Rattle.auth_events.specs.Told.{MayNameSpace, names_told, past}
use Rattle.auth_events.proofs.Naming.{named_space, named_terms, unnamed_space}
use Rattle.auth_events.proofs.Numbers.{both, none_numbered}
use Rattle.auth_events.proofs.Same.{number_refl, terms_refl}
use Rattle.spaces.specs.DigestTerms.{same_terms}
use Rattle.auth_runs.specs.declared.event.Event.{Event}
use Rattle.trace_laws.proofs.Offers.{offered_home}
use Rattle.trace_rule.specs.Challenges.{challenged, space_at}
use Rattle.trace_rule.specs.Closings.{want}
use Rattle.trace_rule.specs.Holding.{last_reply}
use Rattle.trace_rule.specs.Moves.{Want}
use Rattle.trace_rule.specs.Moves.Want.{Calls}
use Rattle.trace_rule.specs.Settings.{Setting, setting_of}
use Rattle.trace_rule.specs.Traces.{IsPast}
use Rattle.trace_rule.proofs.Drops.{spaces_numbered}
use Rattle.serving_laws.specs.Alone.{entries_of}
use Rattle.serving_laws.specs.Knowing.{KnowsBook}
use Rattle.serving_laws.specs.Rooms.{HasNamed, begun}
use Rattle.serving_laws.proofs.Knowing.{knows_itself}
use Rattle.serving_laws.proofs.Named.{entries_few, may_space, may_text}
use Rattle.serving_laws.proofs.Rooms.{request_left}
use Rattle.request_machine.specs.declared.stage.Prompt.{Prompt}
use Rattle.request_machine.specs.declared.stage.Stage.TheVariants.{NameSpace, NameTerms, NameText}
use Rattle.request_machine.specs.Gives.{AreTermsNamed, IsSpaceNamed}
use Rattle.request_machine.specs.Kept.{AreTermsPicked, IsStage, Kept, Ties}
use Rattle.auth_controller.specs.Serving.{IsServing, has_memory, pending_at}
use Rattle.auth_controller.proofs.Asking.{now, says}

-- NUMBERS

-- a space that has the number is found by it
space_has : (names : Tables) → AreNames names → (space : ProtectionSpace) (n : ℕ) → numbered names.spaces n ≡ Some space → space_number names space ≡ Some n
space_has names are space n is = at (space_number names space) refl
  where
    at : (o : Option ℕ) → space_number names space ≡ o → space_number names space ≡ Some n
    at None none = absurd (unnamed_space names space none n is)
    at (Some k) found = found ∙ ap Some (are.spaces space k n (named_space names space k found) is)

-- so are terms
pub terms_have : (names : Tables) → AreNames names → (s : ℕ) (terms : Terms) (n nonce : ℕ) → numbered names.terms n ≡ Some (record { space = s; terms = terms; nonce = nonce }) → terms_number names s terms ≡ Some n
terms_have names are s terms n nonce is = at (terms_number names s terms) refl
  where
    name : TermsName
    name = record { space = s; terms = terms; nonce = nonce }

    at : (o : Option ℕ) → terms_number names s terms ≡ o → terms_number names s terms ≡ Some n
    at None none =
        absurd (false≢true (sym (none_numbered (is_that_terms s terms) names.terms none n name is) ∙ both (s == s) (same_terms terms terms) (number_refl s) (terms_refl terms)))
    at (Some k) found =
        let there = named_terms names s terms k found in
        found ∙ ap Some (are.terms there.0 name k n there.1 is there.2 there.3)

module _ (roster : Roster) (before told : List Told) (first words : List Drawn) (request : Request) (m : Kept) (serving : IsServing roster before told first words request m) where
  abbrev names : Tables
  names = names_told told

  abbrev here : Setting
  here = setting_of roster m.seed names (past told) m.number request

  ties : Ties here m
  ties = serving.known here (knows_itself roster m.seed names (past told) m.number request)

  pub short : IsPast here m.past → length (entries_of m.number m.past) ≤ 56
  short run = entries_few here (spaces_numbered false roster m.seed names (past told) m.number request) m.number m.past run

  -- a request that has had an event is beside those that were begun before
  pub left : (event : Event) (earlier : List Event) → m.past ≡ event ∷ earlier → IsPast here m.past → begun (past before) < length roster.requests
  left event earlier some run = request_left roster m.seed names (past before) (past told) m.number request m.past serving.served.alone event earlier some run

  -- A SPACE

  module _ (t : Target) (stage : m.stage ≡ NameSpace t) where
    challenged_so : IsPast here m.past × (option_and_then (challenged here) (last_reply m.past) ≡ Some t)
    challenged_so = let at = now roster before told first words request m serving (NameSpace t) stage in (at.0, at.2)

    pub may_name_space : (space : ProtectionSpace) → MayNameSpace roster names space
    may_name_space space = at m.past refl challenged_so.1
      where
        has : HasNamed (names_told before) names m.number m.past (pending_at m.stage)
        has = serving.named (subst (λ x. IsTrue (has_memory x m.past)) (sym stage) refl)

        at : (events : List Event) → m.past ≡ events → option_and_then (challenged here) (last_reply m.past) ≡ Some t → MayNameSpace roster names space
        at [] e c = absurd (let clash : None ≡ Some t = sym (ap (λ x. option_and_then (challenged here) (last_reply x)) e) ∙ c in cc)
        at (event ∷ earlier) e c =
            may_space (names_told before) names m.number m.past (pending_at m.stage) has roster (begun (past before)) serving.few_before (left event earlier e challenged_so.0) (short challenged_so.0) space

    -- the number that the book tells is that of the space
    pub space_so : (more : List Told) (space : ProtectionSpace) (n : ℕ) → AreNames (names_told more) → m.unnamed_space ≡ Some space → numbered (names_told more).spaces n ≡ Some space
        → (s : Setting) → KnowsBook roster m.seed (names_told more) (past more) m.number request s → IsSpaceNamed s m n
    space_so more space n are unnamed is s k =
        subst (λ o. IfSome o (λ x. (s.space_no x ≡ Some n) × (s.space_of n ≡ Some x))) (sym unnamed)
        (k.knows.space_no space n (space_has (names_told more) are space n is), k.knows.space_of n space is)

  -- A TEXT

  module _ (p : Prompt) (stage : m.stage ≡ NameText p) where
    pub may_name_text : length names.texts < 64 * length roster.requests
    may_name_text = at m.past refl (now roster before told first words request m serving (NameText p) stage)
      where
        has : HasNamed (names_told before) names m.number m.past (pending_at m.stage)
        has = serving.named (subst (λ x. IsTrue (has_memory x m.past)) (sym stage) refl)

        is_call : Want → Bool
        is_call (Calls c) = true
        is_call _ = false

        at : (events : List Event) → m.past ≡ events → IsStage here m.past (NameText p) → length names.texts < 64 * length roster.requests
        at [] e x = absurd (false≢true (ap is_call (sym x.1) ∙ ap (λ l. is_call (want here l)) e))
        at (event ∷ earlier) e x =
            may_text (names_told before) names m.number m.past (pending_at m.stage) has roster (begun (past before)) serving.few_before (left event earlier e x.0) (short x.0)

  -- TERMS OF A CHALLENGE

  module _ (t : Target) (n : ℕ) (stage : m.stage ≡ NameTerms t n) (terms : Terms) (unnamed : m.unnamed_terms ≡ Some terms) where
    picked : AreTermsPicked here m.past m.unnamed_terms t n
    picked = (says roster before told first words request m serving (NameTerms t n) stage here (knows_itself roster m.seed names (past told) m.number request)).1

    pub terms_home : IsTrue (is_home names n terms)
    terms_home = at (site request t) refl picked.in_space
      where
        at : (o : Option Site) → site request t ≡ o → option_and_then (λ place. space_number names (space_at place picked.offered)) o ≡ Some n → IsTrue (is_home names n terms)
        at None e found = absurd (let clash : None ≡ Some n = found in cc)
        at (Some place) e found =
            offered_home names _ picked.is_picked.reply picked.offered terms place n picked.is_picked.is_chosen.best (sym picked.is_picked.same_terms ∙ unnamed) (named_space names (space_at place picked.offered) n found)

    -- the number that the book tells is that of the terms
    pub terms_so : (more : List Told) (k nonce : ℕ) → AreNames (names_told more) → numbered (names_told more).terms k ≡ Some (record { space = n; terms = terms; nonce = nonce })
        → (s : Setting) → KnowsBook roster m.seed (names_told more) (past more) m.number request s → AreTermsNamed s m n k
    terms_so more k nonce are is s j =
        subst (λ o. IfSome o (λ x. s.terms_no n x ≡ Some k)) (sym unnamed) (j.knows.terms_no n terms k (terms_have (names_told more) are n terms k nonce is))
