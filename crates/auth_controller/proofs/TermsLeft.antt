-- Terms that the machine asks to be named may be named: they are at home in their space, and there is a nonce left for them.
use Rattle.std.proofs.Common.{◌≡◌, ◌⊎◌, inl, inr, ℕ, ◌<◌, ◌&&◌, Bool, true, false, IsTrue, List, ◌∷◌, ◌++◌, map, drop, Option, Some, None, is_some, option_and_then, option_map, unwrap_or, refl, sym, ap, ◌∙◌, subst, arith, if◌then◌else◌}
use Rattle.std.specs.List.{list_any}
use Rattle.std.specs.Prelude.{bytes_eq}
use Rattle.std.proofs.lemmas.Bool.{false≢true}
use Rattle.spaces.specs.declared.roster.Request.{Request}
use Rattle.spaces.specs.declared.roster.Roster.{Roster}
use Rattle.spaces.specs.declared.site.Target.{Target}
use Rattle.spaces.specs.declared.site.Target.TheVariants.{Proxy, Server, Socks}
use Rattle.spaces.specs.declared.space.Scheme.{Scheme}
use Rattle.spaces.specs.declared.space.Scheme.TheVariants.{Digest, Negotiate}
use Rattle.spaces.specs.declared.terms.Terms.{Terms}
use Rattle.spaces.specs.ProtectionSpaces.{ProtectionSpace}
use Rattle.spaces.specs.Sites.{numbered, same_scheme, same_target}
use Rattle.auth_events.specs.declared.journal.BookReply.{BookReply}
use Rattle.auth_events.specs.declared.journal.BookReply.TheVariants.{Follow, Kept as KeptReply}
use Rattle.auth_events.specs.declared.journal.Call.{Call}
use Rattle.auth_events.specs.declared.journal.Call.TheVariants.{Renew, Select}
use Rattle.auth_events.specs.declared.journal.Drawn.{Drawn}
use Rattle.auth_events.specs.declared.journal.Gift.{Gift}
use Rattle.auth_events.specs.declared.names.TermsName.{TermsName}
use Rattle.auth_events.specs.declared.told.Told.{Told}
use Rattle.auth_events.specs.Identities.{identity}
use Rattle.auth_events.specs.Tables.{Tables, is_home, terms_number}
use Rattle.auth_events.specs.Told.{names_told, past}
use Rattle.auth_events.proofs.Naming.{some_is}
use Rattle.auth_events.proofs.Numbers.{and_left, both, some_of_test}
use Rattle.auth_runs.specs.Runs.{Each}
use Rattle.auth_runs.specs.declared.event.Event.TheVariants.{Called}
use Rattle.trace_laws.specs.Lengths.{gives_terms, terms_given}
use Rattle.trace_laws.proofs.HeldTerms.{next_home}
use Rattle.trace_laws.proofs.Offers.{renewed_home}
use Rattle.trace_laws.proofs.Renewals.{few_terms}
use Rattle.trace_rule.specs.Challenges.{Offer, best, challenged, supported}
use Rattle.trace_rule.specs.Closings.{carried_out, closings, closings_made, next_closing, renewal, want, with_nonce}
use Rattle.trace_rule.specs.Holding.{Held, carried, is_no_mechanism, negotiates}
use Rattle.trace_rule.specs.Moves.{choose, known, move, terms_offered}
use Rattle.trace_rule.specs.Moves.Move.{Goes}
use Rattle.trace_rule.specs.Moves.Want.{Calls}
use Rattle.trace_rule.specs.Settings.{IsNumbered, Setting, scheme_is, setting_of}
use Rattle.trace_rule.specs.Traces.{Follows, IsPast}
use Rattle.trace_rule.proofs.AtEnd.{closings_each, each_drop}
use Rattle.trace_rule.proofs.Drops.{none_missing, spaces_numbered}
use Rattle.trace_rule.proofs.Growing.{same_carried}
use Rattle.trace_rule.proofs.Knowing.{IsKnown, Knows, known_held}
use Rattle.trace_rule.proofs.Reasons.{Reason, reason}
use Rattle.trace_rule.proofs.Reasons.Reason.{begins, cancels, is_rejected, is_renewed, loses, preempts, preempts_server, selects, takes}
use Rattle.serving_laws.proofs.Entries.{serving as served_by}
use Rattle.serving_laws.proofs.Knowing.{knows_itself}
use Rattle.request_machine.specs.declared.stage.Closing.{Closing}
use Rattle.request_machine.specs.declared.stage.Stage.{Stage}
use Rattle.request_machine.specs.declared.stage.Stage.TheVariants.{NameLast, NameRenewal, NameTerms}
use Rattle.request_machine.specs.Kept.{IsStage, Kept, Ties, calls_left, renewals_behind}
use Rattle.request_machine.specs.Needs.{IsWantedAt}
use Rattle.request_machine.proofs.Needing.{wanted_now}
use Rattle.auth_controller.specs.Serving.{IsServing}
use Rattle.auth_controller.proofs.MoreTerms.{knows_there, more_names, names_stay, numbered_now, only_terms, stands_now, there as setting_there}

module _ (roster : Roster) (before told : List Told) (first words : List Drawn) (request : Request) (m : Kept) (serving : IsServing roster before told first words request m) (space : ℕ) (terms : Terms) where
  abbrev names : Tables
  names = names_told told

  abbrev here : Setting
  here = setting_of roster m.seed names (past told) m.number request

  -- where the terms have their number
  abbrev there : Setting
  there = setting_there names space terms roster m.seed (past told) m.number request

  ties_there : Ties there m
  ties_there = serving.known there (knows_there names space terms roster m.seed (past told) m.number request)

  stands : (stage : Stage) → m.stage ≡ stage → IsStage there m.past stage × IsWantedAt there m stage
  stands stage is = (subst (IsStage there m.past) is ties_there.stage, subst (IsWantedAt there m) is (wanted_now there m ties_there))

  stands_here : (stage : Stage) → m.stage ≡ stage → IsStage here m.past stage
  stands_here stage is = subst (IsStage here m.past) is (serving.known here (knows_itself roster m.seed names (past told) m.number request)).stage

  abbrev k : ℕ
  k = (numbered_now names space terms).0

  k_is : terms_number (more_names names space terms) space terms ≡ Some k
  k_is = (numbered_now names space terms).1

  numbers : IsNumbered there
  numbers = spaces_numbered false roster m.seed names (past told) m.number request

  -- A NONCE IS LEFT

  few_left : (call : Call) (reply : BookReply) → IsTrue (gives_terms call) → IsPast there (Called call reply ∷ m.past) → terms_given m.past < 16
  few_left call reply gives run =
      let one : ◌≡◌ {A = ℕ} (if gives_terms call then 1 else 0) 1 = ap {B = ℕ} (λ b. if b then 1 else 0) gives in
      let bound : ◌≡◌ {A = ℕ} (if list_any is_no_mechanism (Called call reply ∷ m.past) then 17 else 16) 16 = ap {B = ℕ} (λ b. if b then 17 else 16) (none_missing there numbers refl (Called call reply ∷ m.past) run) in
      omega (arith, one, bound, few_terms there numbers (Called call reply ∷ m.past) run)

  -- TERMS OF A CHALLENGE

  module _ (t : Target) (stage : m.stage ≡ NameTerms t space) (unnamed : m.unnamed_terms ≡ Some terms) where
    chosen_left : terms_given m.past < 16
    chosen_left = few_left (Select space k) (Follow 1) refl (at.0.0, subst (λ w. Follows there m.past w (Called (Select space k) (Follow 1))) (sym wants) (refl, is_named))
      where
        at : IsStage there m.past (NameTerms t space) × IsWantedAt there m (NameTerms t space)
        at = stands (NameTerms t space) stage

        offered : Offer
        offered = at.1.offered

        is_named : IsTrue (is_some (numbered names.spaces space))
        is_named = some_of_test (λ (named : ProtectionSpace). same_target named.site.target t) (numbered names.spaces space) (at.0.3 t ∙ same_itself t)
          where
            same_itself : (x : Target) → IsTrue (same_target x x)
            same_itself Server = refl
            same_itself Proxy = refl
            same_itself Socks = refl

        numbers_it : terms_offered there space offered.terms ≡ Some k
        numbers_it = ap (terms_offered there space) (sym at.1.is_picked.same_terms ∙ unnamed) ∙ k_is

        chooses : (code : ℕ) → choose there code t (Some offered) ≡ Goes (Calls (Select space k))
        chooses code =
            ap (λ o. known o (λ n. known (terms_offered there n offered.terms) (λ x. Goes (Calls (Select n x))))) at.1.in_space
            ∙ ap (λ o. known o (λ x. Goes (Calls (Select space x)))) numbers_it

        moves : move there m.past ≡ Goes (Calls (Select space k))
        moves =
            at.0.1
            ∙ (ap (λ o. known o (λ reply. known (challenged there reply) (λ x. choose there reply.code x (best (supported (negotiates there m.past x) reply))))) at.1.is_picked.is_chosen.last
            ∙ (ap (λ o. known o (λ x. choose there at.1.is_picked.reply.code x (best (supported (negotiates there m.past x) at.1.is_picked.reply)))) at.1.is_picked.is_chosen.target
            ∙ (ap (choose there at.1.is_picked.reply.code t) at.1.is_picked.is_chosen.best ∙ chooses at.1.is_picked.reply.code)))

        wants : want there m.past ≡ Calls (Select space k)
        wants = ap (carried_out there m.past) moves

    pub chosen_terms_left : terms_given m.past < 16
    chosen_terms_left = chosen_left

  -- TERMS OF A GIFT THAT WAS HELD

  no_other : (a b : Scheme) (o : Option ProtectionSpace) → same_scheme Digest Negotiate ≡ false
      → IsTrue (unwrap_or (option_map (λ (named : ProtectionSpace). same_scheme named.scheme Digest) o) false) → IsTrue (unwrap_or (option_map (λ (named : ProtectionSpace). same_scheme named.scheme Negotiate) o) false) → ⊥
  no_other a b None never d g = false≢true d
  no_other a b (Some named) never d g = by named.scheme d g
    where
      by : (x : Scheme) → IsTrue (same_scheme x Digest) → IsTrue (same_scheme x Negotiate) → ⊥
      by Digest p q = false≢true q
      by Negotiate p q = false≢true p
      by _ p q = false≢true p

  gift_known : (gift : Gift) (number : ℕ) → IsKnown there gift number → IsTrue (scheme_is there gift.space Digest) → IsTrue (is_some (identity roster names (past told) gift))
  gift_known gift number is digest = by is.identity
    where
      by : (gift.ordinal ≡ 0) × IsTrue (scheme_is there gift.space Negotiate) ⊎ IsTrue (is_some (there.identity_of gift)) → IsTrue (is_some (identity roster names (past told) gift))
      by (inl x) = absurd (no_other Digest Negotiate (numbered names.spaces gift.space) refl digest x.1)
      by (inr some) = some

  -- the call that gives it the terms may have a reply
  renewed_left : IsPast there m.past → (gift : Gift) → gift.space ≡ space → (number : ℕ) → IsKnown there gift number → IsTrue (scheme_is there gift.space Digest) → want there m.past ≡ Calls (Renew gift k) → terms_given m.past < 16
  renewed_left run gift same number is digest wants =
      few_left (Renew gift k) (KeptReply 0) refl (
        run,
        subst (λ w. Follows there m.past w (Called (Renew gift k) (KeptReply 0))) (sym wants) (
          refl,
          both (is_some (there.space_of gift.space) && is_some (there.identity_of gift)) (if scheme_is there gift.space Digest then is_some (there.terms_of k) else true)
              (both (is_some (there.space_of gift.space)) (is_some (there.identity_of gift)) is.space (gift_known gift number is digest))
              (ap (λ b. if b then is_some (there.terms_of k) else true) digest ∙ stands_now names space terms k k_is),
        ),
      )

  home_digest : IsTrue (is_home names space terms) → IsTrue (scheme_is there space Digest)
  home_digest home = at (numbered names.spaces space) home
    where
      at : (o : Option ProtectionSpace) → IsTrue (unwrap_or (option_map (λ (x : ProtectionSpace). same_scheme x.scheme Digest && bytes_eq x.realm terms.realm) o) false) → IsTrue (unwrap_or (option_map (λ (x : ProtectionSpace). same_scheme x.scheme Digest) o) false)
      at None h = absurd (false≢true h)
      at (Some x) h = and_left (same_scheme x.scheme Digest) _ h

  -- A STALE CHALLENGE

  module _ (t : Target) (gift : Gift) (stage : m.stage ≡ NameRenewal t gift) (same : gift.space ≡ space) (unnamed : m.unnamed_terms ≡ Some terms) where
    abbrev AtHome : Type 0
    AtHome = IsTrue (is_home names space terms) × (terms_given m.past < 16)

    run : IsPast there m.past
    run = (stands (NameRenewal t gift) stage).0.0

    moves : move there m.past ≡ Goes (Calls (Renew gift k))
    moves =
        let stale = (stands (NameRenewal t gift) stage).1 in
        let terms_are : Some stale.terms ≡ Some terms = sym stale.are_unnamed ∙ unnamed in
        stale.moves
        ∙ ap (λ o. known o (λ n. Goes (Calls (Renew gift n))))
        (ap (λ n. terms_number (more_names names space terms) n stale.terms) same ∙ (ap (λ o. option_and_then (λ x. terms_number (more_names names space terms) space x) o) terms_are ∙ k_is))

    wants : want there m.past ≡ Calls (Renew gift k)
    wants = ap (carried_out there m.past) moves

    abbrev number_in : Call → ℕ
    number_in (Renew g n) = n
    number_in _ = 0

    abbrev renews : Call → Bool
    renews (Renew g n) = true
    renews _ = false

    not_renew : (call : Call) → renews call ≡ false → Renew gift k ≡ call → ⊥
    not_renew call other e = false≢true (sym other ∙ sym (ap renews e))

    abbrev gift_in : Call → Gift
    gift_in (Renew g n) = g
    gift_in _ = gift

    renewed_so : Reason there m.past (Renew gift k) → AtHome
    renewed_so (is_renewed link reply earlier u h offered found number p q d o n e behind) =
        let gift_is : gift ≡ h.gift = ap gift_in e in
        let number_is : k ≡ number = ap number_in e in
        let at_space : h.gift.space ≡ space = ap (λ (g : Gift). g.space) (sym gift_is) ∙ same in
        let numbered_so : terms_number (more_names names space terms) space found ≡ Some k = ap (λ x. terms_number (more_names names space terms) x found) (sym at_space) ∙ (n ∙ ap Some (sym number_is)) in
        let terms_are : found ≡ terms = only_terms names space terms found k numbered_so k_is in
        let home : IsTrue (is_home names space terms) =
        subst (λ x. IsTrue (is_home names x terms)) at_space
        (renewed_home false roster m.seed names (past told) 1 m.number request m.past
        (served_by roster names (past before) (past told) m.number request m.past serving.served.alone m.seed (stands_here (NameRenewal t gift) stage).0) reply u h offered terms d (o ∙ ap Some terms_are)) in
        let held_known : IsKnown there h.gift h.terms = subst (Knows there) q (known_held there earlier (subst (λ l. IsPast there l) p run).0 u) in
        (home, renewed_left run gift same h.terms (subst (λ g. IsKnown there g h.terms) (sym gift_is) held_known) (subst (λ x. IsTrue (scheme_is there x Digest)) (sym same) (home_digest home)) wants)
    renewed_so (begins p e) = absurd (not_renew _ refl e)
    renewed_so (preempts reply earlier p e) = absurd (not_renew _ refl e)
    renewed_so (preempts_server reply earlier p e) = absurd (not_renew _ refl e)
    renewed_so (selects s ts e c b) = absurd (not_renew _ refl e)
    renewed_so (is_rejected event earlier u h p q e behind) = absurd (not_renew _ refl e)
    renewed_so (cancels p earlier q e) = absurd (not_renew _ refl e)
    renewed_so (loses p seen loss earlier q e) = absurd (not_renew _ refl e)
    renewed_so (takes made p earlier q e) = absurd (not_renew _ refl e)

    pub stale_at_home : AtHome
    stale_at_home = renewed_so (reason there m.past run (Renew gift k) moves)

  -- A NEXT NONCE

  module _ (t : Target) (gift : Gift) (c : Closing) (stage : m.stage ≡ NameLast t gift c) (same : gift.space ≡ space) (unnamed : m.unnamed_terms ≡ Some terms) where
    at_last : IsStage there m.past (NameLast t gift c) × IsWantedAt there m (NameLast t gift c)
    at_last = stands (NameLast t gift c) stage

    -- a renewal is of what the last head carried, with another nonce
    abbrev IsCarriedOn : Option Call → Type 0
    IsCarriedOn (Some (Renew g n)) =
        (u : Target) × (h : Held) × (nonce : List ℕ) × (name : TermsName) × (carried there m.past u ≡ Some h) × IsTrue (scheme_is there h.gift.space Digest)
        × (numbered (more_names names space terms).terms h.terms ≡ Some name) × (terms_number (more_names names space terms) h.gift.space (with_nonce nonce name.terms) ≡ Some n) × (g ≡ h.gift)
    IsCarriedOn _ = Unit {0}

    on_renewal : (u : Target) (h : Held) (nonce : List ℕ) → carried there m.past u ≡ Some h → IsTrue (scheme_is there h.gift.space Digest) → IsCarriedOn (renewal there h nonce)
    on_renewal u h nonce e d = at (numbered (more_names names space terms).terms h.terms) refl
      where
        number : (name : TermsName) → numbered (more_names names space terms).terms h.terms ≡ Some name → (o : Option ℕ) → terms_number (more_names names space terms) h.gift.space (with_nonce nonce name.terms) ≡ o → IsCarriedOn (option_map (Renew h.gift) o)
        number name f None g = tt
        number name f (Some n) g = (u, h, nonce, name, e, d, f, g, refl)

        at : (o : Option TermsName) → numbered (more_names names space terms).terms h.terms ≡ o → IsCarriedOn (option_and_then (λ (name : TermsName). option_map (Renew h.gift) (terms_number (more_names names space terms) h.gift.space (with_nonce nonce name.terms))) o)
        at None f = tt
        at (Some name) f = number name f (terms_number (more_names names space terms) h.gift.space (with_nonce nonce name.terms)) refl

    all_on : Each IsCarriedOn (closings there m.past c.outcome)
    all_on = closings_each there m.past c.outcome IsCarriedOn (λ answered u h nonce e d n. on_renewal u h nonce e d) (λ u h e p. tt) tt

    last_left : (rest : List (Option Call)) × (drop (closings_made there m.past) (closings there m.past c.outcome) ≡ Some (Renew gift k) ∷ rest)
    last_left =
        let left = at_last.1 in
        let terms_are : Some left.terms ≡ Some terms = sym left.are_unnamed ∙ unnamed in (
          renewals_behind there m.past t ++ map Some (calls_left c),
          left.left
              ∙ ap (λ o. option_map (Renew gift) o ∷ (renewals_behind there m.past t ++ map Some (calls_left c))) (ap (λ n. terms_number (more_names names space terms) n left.terms) same ∙ (ap (λ o. option_and_then (λ x. terms_number (more_names names space terms) space x) o) terms_are ∙ k_is)),
        )

    last_on : IsCarriedOn (Some (Renew gift k))
    last_on = (subst (Each IsCarriedOn) last_left.1 (each_drop IsCarriedOn (closings_made there m.past) (closings there m.past c.outcome) all_on)).0

    last_wants : want there m.past ≡ Calls (Renew gift k)
    last_wants = ap (carried_out there m.past) at_last.0.0.closes ∙ ap (next_closing c.outcome) last_left.1

    pub last_at_home : IsTrue (is_home names space terms) × (terms_given m.past < 16)
    last_at_home = by last_on
      where
        by : IsCarriedOn (Some (Renew gift k)) → IsTrue (is_home names space terms) × (terms_given m.past < 16)
        by (u, h, nonce, name, e, d, f, g, gift_is) =
            let before_it = same_carried here there (knows_there names space terms roster m.seed (past told) m.number request).knows m.past (stands_here (NameLast t gift c) stage).0.is_past u in
            let e_here : carried here m.past u ≡ Some h = before_it.1 ∙ e in
            let at_space : h.gift.space ≡ space = ap (λ (x : Gift). x.space) (sym gift_is) ∙ same in
            let is_known : IsKnown here h.gift h.terms = subst (Knows here) e_here before_it.0 in
            let old : (x : TermsName) × (numbered names.terms h.terms ≡ Some x) = some_there (numbered names.terms h.terms) refl (subst (λ b. IsTrue (if b then is_some (numbered names.terms h.terms) else true)) d is_known.terms_known) in
            let same_name : old.0 ≡ name = some_is old.0 name (sym (names_stay names space terms h.terms old.0 old.1) ∙ f) in
            let numbered_so : terms_number (more_names names space terms) space (with_nonce nonce name.terms) ≡ Some k = ap (λ x. terms_number (more_names names space terms) x (with_nonce nonce name.terms)) (sym at_space) ∙ g in
            let terms_are : with_nonce nonce name.terms ≡ terms = only_terms names space terms (with_nonce nonce name.terms) k numbered_so k_is in
            let home : IsTrue (is_home names space terms) =
            subst (λ x. IsTrue (is_home names x terms)) at_space
            (subst (λ x. IsTrue (is_home names h.gift.space x)) terms_are
            (next_home false roster m.seed names (past told) 1 m.number request m.past
            (served_by roster names (past before) (past told) m.number request m.past serving.served.alone m.seed (stands_here (NameLast t gift c) stage).0.is_past) u h name nonce e_here d (old.1 ∙ ap Some same_name))) in (
              home,
              renewed_left at_last.0.0.is_past gift same h.terms (subst (λ x. IsKnown there x h.terms) (sym gift_is) (record { space = is_known.space; terms_known = known_there; identity = is_known.identity }))
                  (subst (λ x. IsTrue (scheme_is there x.space Digest)) (sym gift_is) d) last_wants,
            )
          where
            known_there : IsTrue (if scheme_is there h.gift.space Digest then is_some (numbered (more_names names space terms).terms h.terms) else true)
            known_there = ap (λ b. if b then is_some (numbered (more_names names space terms).terms h.terms) else true) d ∙ ap is_some f

            some_there : (o : Option TermsName) → numbered names.terms h.terms ≡ o → IsTrue (is_some o) → (x : TermsName) × (numbered names.terms h.terms ≡ Some x)
            some_there None is some = absurd (false≢true some)
            some_there (Some x) is some = (x, is)
