-- The heads of a context go over one link, and each token answers the peer's last one there.
use Rattle.std.proofs.Common.{◌≡◌, ◌⊎◌, inl, inr, ℕ, Bool, true, false, not, ◌&&◌, ◌==◌, IsTrue, List, [], ◌∷◌, reverse, Option, Some, None, is_some, is_none, option_and_then, option_map, unwrap_or, refl, sym, ap, ◌∙◌, subst, if◌then◌else◌}
use Rattle.std.specs.Prelude.{find}
use Rattle.std.proofs.lemmas.Bool.{false≢true, eq-eqb}
use Rattle.spaces.specs.declared.site.Site.{Site}
use Rattle.spaces.specs.declared.site.Target.{Target}
use Rattle.spaces.specs.declared.site.Target.TheVariants.{Server, Proxy}
use Rattle.spaces.specs.declared.space.Scheme.TheVariants.{Negotiate}
use Rattle.spaces.specs.ProtectionSpaces.{ProtectionSpace}
use Rattle.spaces.specs.Sites.{site, same_target, same_space}
use Rattle.challenge_tokens.specs.declared.challenge.Challenge.{Challenge}
use Rattle.auth_events.specs.declared.journal.Gift.{Gift}
use Rattle.auth_events.specs.declared.journal.Loss.TheVariants.{Memory}
use Rattle.auth_events.specs.declared.journal.Call.{Call}
use Rattle.auth_events.specs.declared.journal.Call.TheVariants.{Preempt, Select, Reject, Renew, Answer, Take, Lose}
use Rattle.auth_events.specs.declared.journal.BookReply.{BookReply}
use Rattle.auth_events.specs.declared.journal.BookReply.TheVariants.{Ready, Url, Cached, Default, Given, Gave, Lost}
use Rattle.wire_head.specs.declared.reply.Reply.{Reply}
use Rattle.link_trait.specs.declared.steps.StepSeen.{StepSeen}
use Rattle.link_trait.specs.declared.steps.StepSeen.TheVariants.{Token, NoMechanism}
use Rattle.auth_runs.specs.declared.event.Event.{Event}
use Rattle.auth_runs.specs.declared.event.Event.TheVariants.{Called, Drew, Headed, Replied, LinkLost, Stepped}
use Rattle.trace_rule.specs.Settings.{Setting, or_else, scheme_is, target_is}
use Rattle.negotiate_handler.specs.Tokens.{token_in}
use Rattle.trace_rule.specs.Challenges.{Offer, challenges_target, supported, space_at, negotiate_challenge, peer_token}
use Rattle.trace_rule.specs.Holding.{Held, Context, Decision, held, held_called, held_ready, held_selected, held_prompted, held_drew, held_stepped, held_headed, held_replied, held_lost, gift_held, deciding, context_of, carried_on, links, terms_followed}
use Rattle.trace_rule.specs.Holding.Decision.{Negotiating, Offering}
use Rattle.trace_rule.specs.Heads.{head_text}
use Rattle.trace_rule.specs.Moves.{Want, Asking, go, start_for, head_link, spn, identity_held}
use Rattle.trace_rule.specs.Moves.Want.{Steps}
use Rattle.trace_rule.specs.Moves.Asking.{Start, GoOn}
use Rattle.trace_rule.specs.Closings.{want}
use Rattle.trace_rule.specs.Contexts.{IsOnLink, IsNextToken, KeepsLink, IsBound, last_reply_on}
use Rattle.trace_rule.specs.Traces.{IsPast, IsRun, IsCut, IsTrace, Follows, prompt_open}
use Rattle.trace_rule.proofs.Stepping.{IsStepFor, step_for}
use Rattle.trace_laws.proofs.Rows.{way_from, read_from, IsReadBehind}
use Rattle.trace_laws.proofs.Ways.{Way, way, HasNoStart}
use Rattle.trace_laws.proofs.Ways.Way.{starts, loses, dials, draws, writes}

-- WHAT A CALL MAKES OF WHAT IS HELD

-- nothing, a gift without a context, or what was held before
module _ (P : Option Held → Type 0) (nothing : P None) (given : (gift : Gift) (terms : ℕ) (epoch : Option ℕ) → P (gift_held gift terms epoch)) where
  either : (b : Bool) (x y : Option Held) → P x → P y → P (if b then x else y)
  either true x y p q = p
  either false x y p q = q

  ready : (reply : BookReply) (before : Option Held) → P before → P (held_ready reply before)
  ready (Ready gift terms epoch) before p = given gift terms (Some epoch)
  ready _ before p = p

  selected : (space terms : ℕ) (reply : BookReply) (before : Option Held) → P before → P (held_selected space terms reply before)
  selected space terms (Url gift evicted) before p = given gift terms None
  selected space terms (Cached gift) before p = given gift terms None
  selected space terms Default before p = given (record { space = space; ordinal = 0 }) 0 None
  selected space terms _ before p = p

  prompted : (s : Setting) (t : Target) (terms : ℕ) (reply : BookReply) (before : Option Held) → P before → P (held_prompted s t terms reply before)
  prompted s t terms (Given gift evicted) before p = either (target_is s gift.space t) (gift_held gift terms None) before (given gift terms None) p
  prompted s t terms (Gave gift) before p = either (target_is s gift.space t) (gift_held gift terms None) before (given gift terms None) p
  prompted s t terms _ before p = p

  pub called : (s : Setting) (t : Target) (past : List Event) (call : Call) (reply : BookReply) (before : Option Held) → P before → P (held_called s t past call reply before)
  called s t past (Preempt target) reply before p = either (same_target target t) (held_ready reply before) before (ready reply before p) p
  called s t past (Select space terms) reply before p = either (target_is s space t) (held_selected space terms reply before) before (selected space terms reply before p) p
  called s t past (Reject space ordinal) reply before p = either (target_is s space t) None before nothing p
  called s t past (Renew gift terms) reply before p = either (target_is s gift.space t) (gift_held gift terms None) before (given gift terms None) p
  called s t past (Answer prompt text terms) reply before p = prompted s t terms reply before p
  called s t past (Take prompt) reply before p = prompted s t (terms_followed past prompt) reply before p
  called s t past _ reply before p = p

-- THE LINK OF EACH CONTEXT

abbrev pub is_head : Event → Bool
is_head (Headed link bytes) = true
is_head _ = false

-- the link of the last head
abbrev last_head : List Event → ℕ
last_head [] = 0
last_head (Headed link bytes ∷ past) = link
last_head (event ∷ past) = last_head past

abbrev pub link_held : Option Held → Option ℕ
link_held o = option_and_then (λ context. context.link) (context_of o)

abbrev pub IsAt : ℕ → Option Held → Type 0
IsAt link o = IsOnLink link (link_held o)

kept_at : (link : ℕ) (f : Held → Option Held) → ((h : Held) → IsAt link (Some h) → IsAt link (f h)) → (o : Option Held) → IsAt link o → IsAt link (option_and_then f o)
kept_at link f keeps None p = tt
kept_at link f keeps (Some h) p = keeps h p

if_at : (link : ℕ) (b : Bool) (x y : Option Held) → IsAt link x → IsAt link y → IsAt link (if b then x else y)
if_at link true x y p q = p
if_at link false x y p q = q

stepped_at : (link : ℕ) (step : StepSeen) (h : Held) → IsAt link (Some h) → IsAt link (held_stepped step h)
stepped_at link (Token token) h p = p
stepped_at link NoMechanism h p = if_at link (is_some h.context) (Some h) None p tt
stepped_at link _ h p = p

pub headed_at : (link : ℕ) (o : Option Held) → IsAt link (option_map (held_headed link) o)
headed_at link None = tt
headed_at link (Some h) = at h.context
  where
    at : (c : Option Context) → IsOnLink link (option_and_then (λ context. context.link) (option_map (carried_on link) c))
    at None = tt
    at (Some c) = refl

lost_at : (link : ℕ) (o : Option Held) → IsAt link (option_map held_lost o)
lost_at link None = tt
lost_at link (Some h) = tt

-- an event that is no head binds no context
pub at_after : (n : ℕ) (s : Setting) (t : Target) (past : List Event) (event : Event) → IsTrue (not (is_head event)) → IsAt n (held s past t) → IsAt n (held s (event ∷ past) t)
at_after n s t past (Called call reply) none p = called (IsAt n) tt (λ gift terms epoch. tt) s t past call reply (held s past t) p
at_after n s t past (Drew target nonce count epoch) none p =
    if_at n (same_target target t) (option_and_then (held_drew epoch) (held s past t)) (held s past t)
    (kept_at n (held_drew epoch) (λ h q. if_at n (unwrap_or h.preemptive epoch == epoch) (Some h) None q tt) (held s past t) p) p
at_after n s t past (Stepped target step) none p =
    if_at n (same_target target t) (option_and_then (held_stepped step) (held s past t)) (held s past t) (kept_at n (held_stepped step) (stepped_at n step) (held s past t) p) p
at_after n s t past (Headed link bytes) none p = absurd (false≢true none)
at_after n s t past (Replied link reply) none p = kept_at n (held_replied s t reply) (λ h q. if_at n (challenges_target s reply t && is_none (deciding s reply t h)) None (Some h) tt q) (held s past t) p
at_after n s t past (LinkLost link) none p = lost_at n (held s past t)
at_after n s t past _ none p = p

-- each context that is bound is bound to the link of the last head
at_last : (s : Setting) (past : List Event) (t : Target) → IsAt (last_head past) (held s past t)
at_last s [] t = tt
at_last s (Headed link bytes ∷ past) t = headed_at link (held s past t)
at_last s (event ∷ past) t = at_after (last_head past) s t past event refl (at_last s past t)

-- A HEAD

abbrev link_of : Event → ℕ
link_of (Headed link bytes) = link
link_of _ = 0

-- a head goes over the bound link, or the one that was dialed last, and starts no context
pub record IsHeadedBy (s : Setting) (past : List Event) (link : ℕ) (bytes : List ℕ) : Type 0 where
  pub over : link ≡ head_link s past
  pub text : bytes ≡ head_text s past
  pub no_proxy : HasNoStart s past Proxy
  pub no_server : HasNoStart s past Server

abbrev bytes_of : Event → List ℕ
bytes_of (Headed link bytes) = bytes
bytes_of _ = []

pub headed_by : (s : Setting) (past : List Event) (link : ℕ) (bytes : List ℕ) → IsPast s (Headed link bytes ∷ past) → IsHeadedBy s past link bytes
headed_by s past link bytes run = at (go s past) (way s past) (way_from s past (Headed link bytes) refl run)
  where
    at : (w : Want) → Way s past w → Follows s past w (Headed link bytes) → IsHeadedBy s past link bytes
    at w (starts t h e same) f = absurd (subst (λ x. Follows s past x (Headed link bytes)) same f)
    at w (loses on e k same) f = absurd (false≢true (sym (ap is_head (subst (λ x. Follows s past x (Headed link bytes)) same f))))
    at w (dials free none same) f = absurd (subst (λ x. Follows s past x (Headed link bytes)) same f)
    at w (draws t h name e n same) f = absurd (subst (λ x. Follows s past x (Headed link bytes)) same f)
    at w (writes p q same) f = let e = subst (λ x. Follows s past x (Headed link bytes)) same f in record { over = ap link_of e; text = ap bytes_of e; no_proxy = p; no_server = q }

-- so it goes over the link of each context that is bound
over_both : (last n : ℕ) (a b : Option ℕ) → IsOnLink last a → IsOnLink last b → IsOnLink (unwrap_or (or_else a b) n) a × IsOnLink (unwrap_or (or_else a b) n) b
over_both last n None None p q = (tt, tt)
over_both last n None (Some y) p q = (tt, refl)
over_both last n (Some x) None p q = (refl, tt)
over_both last n (Some x) (Some y) p q = (refl, sym p ∙ q)

head_keeps : (s : Setting) (past : List Event) (link : ℕ) (bytes : List ℕ) → IsPast s (Headed link bytes ∷ past) → KeepsLink s past (Headed link bytes)
head_keeps s past link bytes run =
    let h = headed_by s past link bytes run in
    subst (λ x. IsOnLink x (link_held (held s past Proxy)) × IsOnLink x (link_held (held s past Server))) (sym h.over)
    (over_both (last_head past) (links past) (link_held (held s past Proxy)) (link_held (held s past Server)) (at_last s past Proxy) (at_last s past Server))

-- A TOKEN

abbrev is_negotiating : Option Decision → Bool
is_negotiating (Some (Negotiating o)) = true
is_negotiating _ = false

offers : (o : Option Offer) → is_negotiating (option_map Offering o) ≡ false
offers None = refl
offers (Some x) = refl

abbrev token_of : Option Decision → Option (List ℕ)
token_of (Some (Negotiating o)) = o
token_of _ = None

-- a token of the peer decides on a Negotiate identity
by_token : (s : Setting) (reply : Reply) (t : Target) (h : Held) (peer : List ℕ) → deciding s reply t h ≡ Some (Negotiating (Some peer)) → IsTrue (scheme_is s h.gift.space Negotiate) × (peer_token reply ≡ Some peer)
by_token s reply t h peer d = at (scheme_is s h.gift.space Negotiate) d
  where
    peer_in : (o : Option Challenge) → option_and_then (λ challenge. token_in challenge.body) o ≡ token_of (option_map (λ challenge. Negotiating (token_in challenge.body)) o)
    peer_in None = refl
    peer_in (Some c) = refl

    found : (o : Option ProtectionSpace) (place : Site) → is_negotiating (option_and_then (λ named. option_map Offering (find (λ offered. same_space (space_at place offered) named) (supported false reply))) o) ≡ false
    found None place = refl
    found (Some named) place = offers (find (λ offered. same_space (space_at place offered) named) (supported false reply))

    never : (o : Option Site) → is_negotiating (option_and_then (λ place. option_and_then (λ named. option_map Offering (find (λ offered. same_space (space_at place offered) named) (supported false reply))) (s.space_of h.gift.space)) o) ≡ false
    never None = refl
    never (Some place) = found (s.space_of h.gift.space) place

    at : (b : Bool)
        → (if b then option_map (λ challenge. Negotiating (token_in challenge.body)) (negotiate_challenge reply)
        else option_and_then (λ place. option_and_then (λ named. option_map Offering (find (λ offered. same_space (space_at place offered) named) (supported false reply))) (s.space_of h.gift.space)) (site s.request t)) ≡ Some (Negotiating (Some peer))
        → IsTrue b × (peer_token reply ≡ Some peer)
    at true e = (refl, peer_in (negotiate_challenge reply) ∙ ap token_of e)
    at false e = absurd (false≢true (sym (never (site s.request t)) ∙ ap is_negotiating e))

-- a Negotiate identity that a head carried has a context, which is bound to the head's link
abbrev IsBoundTo : ℕ → Held → Type 0
IsBoundTo link h = (c : Context) × (h.context ≡ Some c) × (c.link ≡ Some link)

bound_by : (s : Setting) (b : List Event) (link : ℕ) (bytes : List ℕ) (t : Target) (h : Held) → HasNoStart s b t → held s (Headed link bytes ∷ b) t ≡ Some h → IsTrue (scheme_is s h.gift.space Negotiate) → IsBoundTo link h
bound_by s b link bytes t h none held_now scheme = at (held s b t) none held_now
  where
    held_in : Option Held → Held
    held_in None = h
    held_in (Some x) = x

    in_context : (x : Held) → (c : Option Context) → x.context ≡ c → scheme_is s x.gift.space Negotiate && is_none c ≡ false → IsTrue (scheme_is s x.gift.space Negotiate) → held_headed link x ≡ h → IsBoundTo link h
    in_context x (Some c) e no_start n same = subst (IsBoundTo link) same (carried_on link c, ap (option_map (carried_on link)) e, refl)
    in_context x None e no_start n same = absurd (false≢true (sym no_start ∙ ap (λ b. b && true) n))

    not_started : (x : Held) (b : Bool) → (if b then Some (Steps t (Start (spn s t) (identity_held s x))) else None) ≡ None → b ≡ false
    not_started x true e = let clash : Some (Steps t (Start (spn s t) (identity_held s x))) ≡ None = e in cc
    not_started x false e = refl

    at : (o : Option Held) → option_and_then (start_for s t) o ≡ None → option_map (held_headed link) o ≡ Some h → IsBoundTo link h
    at None n e = let clash : None ≡ Some h = e in cc
    at (Some x) n e =
        let same : held_headed link x ≡ h = ap held_in e in
        in_context x x.context refl (not_started x (scheme_is s x.gift.space Negotiate && is_none x.context) n)
        (subst (λ y. IsTrue (scheme_is s y.gift.space Negotiate)) (sym same) scheme) same

pub token_keeps : (s : Setting) (past : List Event) (t : Target) (token : List ℕ) → IsPast s (Stepped t (Token token) ∷ past) → IsNextToken s past t (context_of (held s past t))
token_keeps s past t token run = let f = step_for s past t (Token token) run in at f.0 f.1 f.2 f.3
  where
    goes : (link : ℕ) (reply : Reply) (before : List Event) (h : Held) (peer : List ℕ) → IsPast s (Replied link reply ∷ before) → held s before t ≡ Some h → deciding s reply t h ≡ Some (Negotiating (Some peer)) → ((t ≡ Proxy) ⊎ (t ≡ Server))
        → want s (Replied link reply ∷ before) ≡ Steps t (GoOn peer) → IsNextToken s (Replied link reply ∷ before) t (context_of (held s (Replied link reply ∷ before) t))
    goes link reply before h peer r held_then d route wanted = behind (read_from s before (Replied link reply) refl r)
      where
        facts : IsTrue (scheme_is s h.gift.space Negotiate) × (peer_token reply ≡ Some peer)
        facts = by_token s reply t h peer d

        kept : (b : Bool) → (if b && false then None else Some h) ≡ Some h
        kept true = refl
        kept false = refl

        held_now : held s (Replied link reply ∷ before) t ≡ Some h
        held_now =
            ap (option_and_then (held_replied s t reply)) held_then
            ∙ (ap (λ o. if challenges_target s reply t && is_none o then None else Some h) d
            ∙ kept (challenges_target s reply t))

        next : IsBoundTo link h → IsNextToken s (Replied link reply ∷ before) t (context_of (held s (Replied link reply ∷ before) t))
        next (c, e, l) =
            subst (IsNextToken s (Replied link reply ∷ before) t) (sym (ap context_of held_now ∙ e))
            (link, reply, peer, l, ap (λ b. if b then Some reply else last_reply_on link before) (eq-eqb link link refl), facts.1, wanted)

        no_start : (b : List Event) → HasNoStart s b Proxy → HasNoStart s b Server → HasNoStart s b t
        no_start b p q = by route
          where
            by : ((t ≡ Proxy) ⊎ (t ≡ Server)) → HasNoStart s b t
            by (inl e) = subst (HasNoStart s b) (sym e) p
            by (inr e) = subst (HasNoStart s b) (sym e) q

        behind : IsReadBehind before (Replied link reply) → IsNextToken s (Replied link reply ∷ before) t (context_of (held s (Replied link reply ∷ before) t))
        behind (on, bytes, b, p, read) =
            let headed = headed_by s b on bytes (subst (IsPast s) p r.0) in
            next (subst (λ x. IsBoundTo x h) (sym read.0) (bound_by s b on bytes t h (no_start b headed.no_proxy headed.no_server) (sym (ap (λ x. held s x t) p) ∙ held_then) facts.0))

    at : (asking : Asking) → want s past ≡ Steps t asking → IsStepFor s past t asking → ((t ≡ Proxy) ⊎ (t ≡ Server)) → IsNextToken s past t (context_of (held s past t))
    at (Start name identity) wanted (h, held_now, scheme, none, same) route =
        subst (IsNextToken s past t) (sym (ap context_of held_now ∙ none)) (identity, wanted ∙ ap (λ x. Steps t (Start x identity)) same)
    at (GoOn peer) wanted (link, reply, before, h, p, held_then, d, stay, c) route =
        subst (λ x. IsNextToken s x t (context_of (held s x t))) (sym p)
        (goes link reply before h peer (subst (IsPast s) p run.0) held_then d route (subst (λ x. want s x ≡ Steps t (GoOn peer)) p wanted))

-- ALL EVENTS

keeps_link : (s : Setting) (event : Event) (past : List Event) → IsPast s (event ∷ past) → KeepsLink s past event
keeps_link s (Headed link bytes) past run = head_keeps s past link bytes run
keeps_link s (Stepped t (Token token)) past run = token_keeps s past t token run
keeps_link s (Stepped t step) past run = tt
keeps_link s event past run = tt

pub bound_pasts : (s : Setting) (past : List Event) → IsPast s past → IsBound s past
bound_pasts s [] run = tt
bound_pasts s (event ∷ past) run = (bound_pasts s past run.0, keeps_link s event past run)

pub bound_traces : (s : Setting) (events : List Event) → IsTrace s events → IsBound s (reverse events)
bound_traces s events trace = at trace
  where
    with_lost : (past : List Event) (b : Bool) (p : ℕ) → IsBound s past → IsBound s (if b then past else Called (Lose p Memory) (Lost Memory) ∷ past)
    with_lost past true p h = h
    with_lost past false p h = (h, tt)

    at : IsRun s (reverse events) ⊎ IsCut s (reverse events) → IsBound s (reverse events)
    at (inl run) = bound_pasts s (reverse events) run.0
    at (inr (past, cut)) = subst (IsBound s) (sym cut.cut) ((with_lost past (prompt_open past past == 0) (prompt_open past past) (bound_pasts s past cut.is_past), tt), tt)
