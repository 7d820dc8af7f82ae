-- A request has one Negotiate space for each target.
use Rattle.std.proofs.Common.{◌≡◌, ℕ, Bool, true, false, not, ◌&&◌, ◌||◌, cond, List, [], ◌∷◌, length, refl, ap, sym, subst, ◌∙◌, arith, Option, Some, None}
use Rattle.std.specs.Prelude.{IsTrue, option_map, option_and_then, unwrap_or, ◌==◌}
use Rattle.std.specs.List.{list_any}
use Rattle.std.proofs.lemmas.Bool.{false≢true}
use Rattle.spaces.specs.declared.roster.Roster.{Roster}
use Rattle.spaces.specs.declared.roster.Request.{Request}
use Rattle.spaces.specs.declared.site.Site.{Site}
use Rattle.spaces.specs.declared.site.Target.{Target}
use Rattle.spaces.specs.declared.site.Target.TheVariants.{Server, Proxy, Socks}
use Rattle.spaces.specs.declared.space.Scheme.{Scheme}
use Rattle.spaces.specs.declared.space.Scheme.TheVariants.{Basic, Digest, Negotiate, Password}
use Rattle.spaces.specs.ProtectionSpaces.{ProtectionSpace, has_realm}
use Rattle.spaces.specs.Sites.{numbered, same_site, same_target, site}
use Rattle.auth_events.specs.declared.journal.Gift.{Gift}
use Rattle.auth_events.specs.declared.journal.Entry.{Entry}
use Rattle.auth_events.specs.declared.journal.Call.{Call}
use Rattle.auth_events.specs.declared.journal.Call.TheVariants.{Select}
use Rattle.auth_events.specs.declared.journal.BookReply.{BookReply}
use Rattle.auth_events.specs.declared.journal.BookReply.TheVariants.{Default}
use Rattle.auth_events.specs.Tables.{AreNames, Tables}
use Rattle.auth_events.specs.Pages.{fits}
use Rattle.auth_events.specs.Past.{selects}
use Rattle.auth_events.specs.Book.{IsLegalPast, IsStep, allowed_call, answer, begins, is_open, no_entry, first_choice, fits_space, is_allowed_origin, is_default, is_negotiate, is_rival, is_site_of, own, scheme_is, select_answer, space_named, space_selected, target_of, waits, was_default_told}
use Rattle.auth_events.proofs.Numbers.{and_left, and_right}
use Rattle.auth_events.proofs.Same.{number_same, number_refl, site_same}
use Rattle.auth_book.specs.Indices.{was_default_for}

target_same : (a b : Target) → same_target a b ≡ true → a ≡ b
target_same Server Server is = refl
target_same Proxy Proxy is = refl
target_same Socks Socks is = refl
target_same Server Proxy is = absurd (false≢true is)
target_same Server Socks is = absurd (false≢true is)
target_same Proxy Server is = absurd (false≢true is)
target_same Proxy Socks is = absurd (false≢true is)
target_same Socks Server is = absurd (false≢true is)
target_same Socks Proxy is = absurd (false≢true is)

target_refl : (a : Target) → same_target a a ≡ true
target_refl Server = refl
target_refl Proxy = refl
target_refl Socks = refl

negotiates : (scheme : Scheme) → is_negotiate scheme ≡ true → scheme ≡ Negotiate
negotiates Basic is = absurd (false≢true is)
negotiates Digest is = absurd (false≢true is)
negotiates Negotiate is = refl
negotiates Password is = absurd (false≢true is)

no_realm : (realm : List ℕ) → IsTrue (length realm == 0) → realm ≡ []
no_realm [] is = refl
no_realm (b ∷ realm) is = absurd (let zero_it = number_same (length (b ∷ realm)) 0 is in omega arith)

empty_realm : (space : ProtectionSpace) → IsTrue (has_realm space.scheme space.realm) → space.scheme ≡ Negotiate → space.realm ≡ []
empty_realm space fit is = no_realm space.realm (subst (λ scheme. IsTrue (has_realm scheme space.realm)) is fit)

space_of_parts : (a b : Site) (x y : Scheme) (r q : List ℕ) → a ≡ b → x ≡ y → r ≡ q → ◌≡◌ {A = ProtectionSpace} (record { site = a; scheme = x; realm = r }) (record { site = b; scheme = y; realm = q })
space_of_parts a b x y r q same_site_is same_scheme_is same_realm = cc

ambient_default : (rival : ℕ → Bool) (past : List Entry) (s : ℕ) (url : Bool) (held : Option Gift) (ambient : Bool) (led : Option Entry) → Default ≡ select_answer rival past s (first_choice url held ambient led) → ambient ≡ true
ambient_default rival past s true held ambient led is = absurd cc
ambient_default rival past s false (Some gift) ambient led is = absurd cc
ambient_default rival past s false None true led is = refl
ambient_default rival past s false None false (Some entry) is = absurd cc
ambient_default rival past s false None false None is = absurd cc

module _ (roster : Roster) (names : Tables) (are : AreNames names) where
  -- the space is a Negotiate space of one of the request's sites
  pub record IsAmbient (r s : ℕ) : Type 0 where
    pub space : ProtectionSpace
    pub there : numbered names.spaces s ≡ Some space
    pub scheme : space.scheme ≡ Negotiate
    pub here : IsTrue (is_site_of roster r space)

  pub ambient_of : (r s : ℕ) → IsTrue (unwrap_or (option_map (is_site_of roster r) (space_named names s)) false) → scheme_is names is_negotiate s ≡ true → IsAmbient r s
  ambient_of r s of_site negotiate = at (numbered names.spaces s) refl of_site negotiate
    where
      at : (o : Option ProtectionSpace) → numbered names.spaces s ≡ o → IsTrue (unwrap_or (option_map (is_site_of roster r) o) false) → unwrap_or (option_map (λ space. is_negotiate space.scheme) o) false ≡ true → IsAmbient r s
      at None none of_it is = absurd (false≢true is)
      at (Some space) there of_it is = record { space = space; there = there; scheme = negotiates space.scheme is; here = of_it }

  -- two of one target are one
  same_ambient : (r s u : ℕ) → IsAmbient r s → IsAmbient r u → target_of names s ≡ target_of names u → s ≡ u
  same_ambient r s u a b target =
      let target_is : a.space.site.target ≡ b.space.site.target = sym (ap (λ o. unwrap_or (option_map (λ (space : ProtectionSpace). space.site.target) o) Server) a.there) ∙ (target ∙ ap (λ o. unwrap_or (option_map (λ (space : ProtectionSpace). space.site.target) o) Server) b.there) in
      let sites : a.space.site ≡ b.space.site = at (numbered roster.requests r) a.here b.here target_is in
      let one : a.space ≡ b.space = space_of_parts a.space.site b.space.site a.space.scheme b.space.scheme a.space.realm b.space.realm sites (a.scheme ∙ sym b.scheme) (empty_realm a.space (are.realms a.space s a.there) a.scheme ∙ sym (empty_realm b.space (are.realms b.space u b.there) b.scheme)) in
      are.spaces b.space s u (a.there ∙ ap Some one) b.there
    where
      of : (place : Option Site) → IsTrue (unwrap_or (option_map (λ x. same_site x a.space.site) place) false) → IsTrue (unwrap_or (option_map (λ x. same_site x b.space.site) place) false) → a.space.site ≡ b.space.site
      of None x y = absurd (false≢true x)
      of (Some place) x y = sym (site_same place a.space.site x) ∙ site_same place b.space.site y

      at : (o : Option Request) → IsTrue (unwrap_or (option_map (λ place. same_site place a.space.site) (option_and_then (λ request. site request a.space.site.target) o)) false) → IsTrue (unwrap_or (option_map (λ place. same_site place b.space.site) (option_and_then (λ request. site request b.space.site.target) o)) false) → a.space.site.target ≡ b.space.site.target → a.space.site ≡ b.space.site
      at o x y target_is =
          of (option_and_then (λ request. site request a.space.site.target) o) x
          (subst (λ t. IsTrue (unwrap_or (option_map (λ place. same_site place b.space.site) (option_and_then (λ request. site request t) o)) false)) (sym target_is) y)

  -- what was answered `Default` is such a space
  pub told_ambient : (past : List Entry) (r : ℕ) (call : Call) (reply : BookReply) → IsTrue (allowed_call roster names past r call) → reply ≡ answer roster names past r call → IsTrue (fits call reply) → is_default reply ≡ true → IsAmbient r (space_selected call)
  told_ambient past r (Select s t) Default may is fit told =
      let ambient = ambient_default (is_rival names s) past s _ _ (scheme_is names is_negotiate s && is_allowed_origin roster names s && not (was_default_told past r s)) _ is in
      let of_site = unwrap_or (option_map (is_site_of roster r) (space_named names s)) false in
      ambient_of r s (and_left of_site (fits_space names s t) (and_left (of_site && fits_space names s t) (not (waits past r)) may))
      (and_left (scheme_is names is_negotiate s) (is_allowed_origin roster names s) (and_left (scheme_is names is_negotiate s && is_allowed_origin roster names s) (not (was_default_told past r s)) ambient))
  told_ambient past r call Default may is fit told = absurd (false≢true fit)
  told_ambient past r call reply may is fit told = absurd (false≢true told)

  selects_is : (call : Call) (s : ℕ) (reply : BookReply) → IsTrue (fits call reply) → is_default reply ≡ true → selects call s ≡ (space_selected call == s)
  selects_is (Select space t) s reply fit told = refl
  selects_is call s Default fit told = absurd (false≢true fit)
  selects_is call s reply fit told = absurd (false≢true told)

  module _ (r s : ℕ) (here : IsAmbient r s) where
    one_entry : (past : List Entry) (entry : Entry) → IsStep roster names past entry → (entry.request == r) ≡ true → (is_default entry.reply && same_target (target_of names (space_selected entry.call)) (target_of names s)) ≡ (is_default entry.reply && selects entry.call s)
    one_entry past entry step mine = at (is_default entry.reply) refl
      where
        at : (b : Bool) → is_default entry.reply ≡ b → (b && same_target (target_of names (space_selected entry.call)) (target_of names s)) ≡ (b && selects entry.call s)
        at false told = refl
        at true told = of (space_selected entry.call == s) refl ∙ sym (selects_is entry.call s entry.reply step.2 told)
          where
            there : IsAmbient r (space_selected entry.call)
            there = subst (λ n. IsAmbient n (space_selected entry.call)) (number_same entry.request r mine) (told_ambient past entry.request entry.call entry.reply (and_right (cond (begins entry.call) (no_entry past entry.request) (is_open past entry.caller entry.request)) (allowed_call roster names past entry.request entry.call) step.0) step.1 step.2 told)

            of : (b : Bool) → (space_selected entry.call == s) ≡ b → same_target (target_of names (space_selected entry.call)) (target_of names s) ≡ (space_selected entry.call == s)
            of true same =
                ap (λ n. same_target (target_of names n) (target_of names s)) (number_same (space_selected entry.call) s same) ∙ (target_refl (target_of names s) ∙ sym same)
            of false other = by (same_target (target_of names (space_selected entry.call)) (target_of names s)) refl ∙ sym other
              where
                by : (b : Bool) → same_target (target_of names (space_selected entry.call)) (target_of names s) ≡ b → same_target (target_of names (space_selected entry.call)) (target_of names s) ≡ false
                by false differ = differ
                by true same =
                    absurd (false≢true (sym other ∙ (ap (λ n. n == s) (same_ambient r (space_selected entry.call) s there here (target_same _ _ same)) ∙ number_refl s)))

    pub default_is : (past : List Entry) → IsLegalPast roster names past → was_default_for names past r (target_of names s) ≡ was_default_told past r s
    default_is [] legal = refl
    default_is (entry ∷ past) legal = at (entry.request == r) refl (default_is past legal.0)
      where
        p : Entry → Bool
        p e = is_default e.reply && same_target (target_of names (space_selected e.call)) (target_of names s)

        q : Entry → Bool
        q e = is_default e.reply && selects e.call s

        at : (b : Bool) → (entry.request == r) ≡ b → list_any p (own past r) ≡ list_any q (own past r) → list_any p (cond b (entry ∷ own past r) (own past r)) ≡ list_any q (cond b (entry ∷ own past r) (own past r))
        at true mine before =
            ap (λ b. b || list_any p (own past r)) (one_entry past entry legal.1 mine) ∙ ap (λ b. (is_default entry.reply && selects entry.call s) || b) before
        at false other before = before
