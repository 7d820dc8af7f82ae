-- A challenge of a target, by what it decides on what is held for it.
use Rattle.std.proofs.Common.{◌≡◌, ◌==◌, ℕ, ◌+◌, Bool, true, false, ◌&&◌, nat_le, List, ◌∷◌, Option, Some, None, refl, sym, if◌then◌else◌, IsTrue, IfSome, subst, is_some, ap, ◌∙◌}
use Rattle.std.proofs.lemmas.Bool.{false≢true}
use Rattle.spaces.specs.declared.site.Target.{Target}
use Rattle.spaces.specs.declared.site.Target.TheVariants.{Server, Proxy, Socks}
use Rattle.spaces.specs.declared.terms.Terms.{Terms}
use Rattle.wire_head.specs.declared.reply.Reply.{Reply}
use Rattle.auth_runs.specs.declared.event.Event.{Event}
use Rattle.auth_runs.specs.declared.event.Event.TheVariants.{Replied}
use Rattle.auth_runs.specs.declared.event.Outcome.TheVariants.{Refused}
use Rattle.auth_runs.specs.declared.event.Why.TheVariants.{Rounds}
use Rattle.trace_rule.specs.Settings.{Setting, is_proxied}
use Rattle.trace_rule.specs.Challenges.{Offer, challenged, challenges_target}
use Rattle.trace_rule.specs.Holding.{Held, Decision, deciding}
use Rattle.trace_rule.specs.Holding.Decision.{Negotiating, Offering}
use Rattle.auth_events.specs.declared.journal.Call.TheVariants.{Renew}
use Rattle.trace_rule.specs.Moves.{move, decided, renewed, rejects, known}
use Rattle.trace_rule.specs.Moves.Want.{Calls, Steps, Loses}
use Rattle.trace_rule.specs.Moves.Asking.{GoOn}
use Rattle.trace_rule.specs.Closings.{carried_out}
use Rattle.trace_rule.specs.Moves.Move.{Goes}
use Rattle.trace_rule.specs.Traces.{can_be}
use Rattle.request_machine.specs.declared.holding.Holding.{Holding}
use Rattle.request_machine.specs.declared.stage.Stage.{Stage}
use Rattle.request_machine.specs.declared.stage.Stage.TheVariants.{Reject as Rejecting, NameRenewal, Continue, LoseLink, Read, Choose, Close}
use Rattle.request_machine.specs.Kept.{Kept, Ties, IsKept, IsHeld, held_kept}
use Rattle.request_machine.specs.Chosen.{stale_terms}
use Rattle.request_machine.specs.Changed.{holding}
use Rattle.request_machine.specs.Contexts.{stage_continued}
use Rattle.request_machine.specs.Told.{IsLive, held_rejected, held_last, is_live, unless_it}
use Rattle.request_machine.proofs.Challenged.{challenge_ties, challenges_it, held_elsewhere, held_challenged, kept_decided, nothing_held, to_choose, to_continue, to_reject, to_renew, to_lose, to_rounds, moves_decided}
use Rattle.request_machine.proofs.Ending.{reply_last}
use Rattle.request_machine.proofs.Quiet.{IsNext}
use Rattle.request_machine.proofs.Reading.{read_peer, read_unnamed}

-- the reply challenges the target, and decides nothing on what is held for it
pub record IsUndecided (s : Setting) (m : Kept) (reply : Reply) (t : Target) : Type 0 where
  pub target : challenged s reply ≡ Some t
  pub undecided : IfSome (holding m t) (λ h. deciding s reply t (held_kept h) ≡ None)

-- a challenge of the target decides on what is held
pub record IsDecided (s : Setting) (m : Kept) (reply : Reply) (t : Target) (h : Holding) (decision : Decision) : Type 0 where
  pub target : challenged s reply ≡ Some t
  pub held : holding m t ≡ Some h
  pub decides : deciding s reply t (held_kept h) ≡ Some decision

-- it rejects it, whatever happened before
pub record IsRejection (s : Setting) (t : Target) (h : Holding) (decision : Decision) : Type 0 where
  pub rejects : (past : List Event) (link : ℕ) (stays : Bool) → decided s past link stays t (held_kept h) (Some decision) ≡ rejects (held_kept h)

-- the reply challenges the target, and decides on what is held for it, or doesn't
pub record IsLast (s : Setting) (m : Kept) (reply : Reply) (t : Target) (kept : Bool) : Type 0 where
  pub target : challenged s reply ≡ Some t
  pub decides : IfSome (holding m t) (λ h. is_some (deciding s reply t (held_kept h)) ≡ kept)

-- no reply challenges a SOCKS proxy
pub no_socks : (s : Setting) (reply : Reply) → challenged s reply ≡ Some Socks → ⊥
no_socks s reply is = at (reply.code == 401) (reply.code == 407 && is_proxied s) is
  where
    at : (a b : Bool) → (if a then Some Server else (if b then Some Proxy else None)) ≡ Some Socks → ⊥
    at true b e = absurd (cc)
    at false true e = absurd (cc)
    at false false e = absurd (cc)

undecided_held : (s : Setting) (past : List Event) (link : ℕ) (reply : Reply) (t : Target) (h : Option Holding) → challenges_target s reply t ≡ true → IfSome h (λ o. deciding s reply t (held_kept o) ≡ None)
    → IsHeld s past t h → IsHeld s (Replied link reply ∷ past) t None
undecided_held s past link reply t None met undecided is = nothing_held s past link reply t is
undecided_held s past link reply t (Some h) met undecided is = held_challenged s past link reply t h None met undecided is

-- nothing decides: what was held is dropped, and a challenge is chosen
pub undecided_ties : (s : Setting) (m : Kept) (link : ℕ) (reply : Reply) (t : Target) → m.stage ≡ Read link → IsTrue (can_be reply) → nat_le 17 (m.rounds + 1) ≡ false → IsUndecided s m reply t → Ties s m
    → Ties s (record m { past = Replied link reply ∷ m.past; stage = Choose t; proxy = held_rejected t Proxy m.proxy; server = held_rejected t Server m.server; rounds = m.rounds + 1; code = reply.code; stays = reply.stays })
undecided_ties s m link reply Proxy same may few is t =
    challenge_ties s m link reply Proxy (Choose Proxy) None m.server (reply_last s m link reply same may t) same is.target t tt
    (undecided_held s m.past link reply Proxy m.proxy (challenges_it s reply Proxy Proxy is.target) is.undecided t.proxy) (held_elsewhere s m.past link reply Proxy Server m.server is.target refl t.server)
    (to_choose s m link reply Proxy m.proxy same is.target may t.proxy is.undecided few t)
undecided_ties s m link reply Server same may few is t =
    challenge_ties s m link reply Server (Choose Server) m.proxy None (reply_last s m link reply same may t) same is.target t tt
    (held_elsewhere s m.past link reply Server Proxy m.proxy is.target refl t.proxy) (undecided_held s m.past link reply Server m.server (challenges_it s reply Server Server is.target) is.undecided t.server)
    (to_choose s m link reply Server m.server same is.target may t.server is.undecided few t)
undecided_ties s m link reply Socks same may few is t = absurd (no_socks s reply is.target)

decided_held : (s : Setting) (past : List Event) (link : ℕ) (reply : Reply) (t : Target) (o : Option Holding) (h : Holding) (decision : Decision) → challenges_target s reply t ≡ true → o ≡ Some h
    → deciding s reply t (held_kept h) ≡ Some decision → IsHeld s past t o → IsHeld s (Replied link reply ∷ past) t o
decided_held s past link reply t o h decision met same decides is =
    subst (λ x. IsHeld s (Replied link reply ∷ past) t x) (sym same) (held_challenged s past link reply t h (Some decision) met decides (subst (λ x. IsHeld s past t x) same is))

-- what is held stays, and the stage behind it is given
decided_ties : (s : Setting) (m : Kept) (link : ℕ) (reply : Reply) (t : Target) (h : Holding) (decision : Decision) (stage : Stage) → m.stage ≡ Read link → IsTrue (can_be reply) → IsDecided s m reply t h decision
    → IsKept s (record m { past = Replied link reply ∷ m.past; stage = stage; rounds = m.rounds + 1; code = reply.code; stays = reply.stays }) stage
    → IsNext s (Replied link reply ∷ m.past) stage → Ties s m
    → Ties s (record m { past = Replied link reply ∷ m.past; stage = stage; rounds = m.rounds + 1; code = reply.code; stays = reply.stays })
decided_ties s m link reply Proxy h decision stage same may is kept next t =
    challenge_ties s m link reply Proxy stage m.proxy m.server (reply_last s m link reply same may t) same is.target t kept
    (decided_held s m.past link reply Proxy m.proxy h decision (challenges_it s reply Proxy Proxy is.target) is.held is.decides t.proxy) (held_elsewhere s m.past link reply Proxy Server m.server is.target refl t.server) next
decided_ties s m link reply Server h decision stage same may is kept next t =
    challenge_ties s m link reply Server stage m.proxy m.server (reply_last s m link reply same may t) same is.target t kept
    (held_elsewhere s m.past link reply Server Proxy m.proxy is.target refl t.proxy) (decided_held s m.past link reply Server m.server h decision (challenges_it s reply Server Server is.target) is.held is.decides t.server) next
decided_ties s m link reply Socks h decision stage same may is kept next t = absurd (no_socks s reply is.target)

held_at : (s : Setting) (m : Kept) (reply : Reply) (t : Target) (h : Holding) (decision : Decision) → IsDecided s m reply t h decision → Ties s m → IsHeld s m.past t (Some h)
held_at s m reply Proxy h decision is t = subst (λ x. IsHeld s m.past Proxy x) is.held t.proxy
held_at s m reply Server h decision is t = subst (λ x. IsHeld s m.past Server x) is.held t.server
held_at s m reply Socks h decision is t = absurd (no_socks s reply is.target)

pub rejects_ties : (s : Setting) (m : Kept) (link : ℕ) (reply : Reply) (t : Target) (h : Holding) (decision : Decision) → m.stage ≡ Read link → IsTrue (can_be reply) → nat_le 17 (m.rounds + 1) ≡ false
    → IsDecided s m reply t h decision → IsRejection s t h decision → Ties s m
    → Ties s (record m { past = Replied link reply ∷ m.past; stage = Rejecting t h.gift; rounds = m.rounds + 1; code = reply.code; stays = reply.stays })
rejects_ties s m link reply x h decision same may few is fresh t =
    decided_ties s m link reply x h decision (Rejecting x h.gift) same may is tt
    (to_reject s m link reply x h decision same is.target may (held_at s m reply x h decision is t) is.decides (fresh.rejects (Replied link reply ∷ m.past) link reply.stays) few t) t

-- the context goes on, where the link stays
pub continues_ties : (s : Setting) (m : Kept) (link : ℕ) (reply : Reply) (t : Target) (h : Holding) (peer : List ℕ) → m.stage ≡ Read link → IsTrue (can_be reply) → nat_le 17 (m.rounds + 1) ≡ false
    → IsDecided s m reply t h (Negotiating (Some peer)) → is_live h.context ≡ true → m.is_dialed ≡ false → Ties s m
    → Ties s (record m { past = Replied link reply ∷ m.past; stage = stage_continued reply.stays link t; rounds = m.rounds + 1; code = reply.code; stays = reply.stays; peer = Some peer })
continues_ties s m link reply x h peer same may few is live undialed t = at reply.stays refl
  where
    before : Kept
    before = record m { peer = Some peer }

    same_holding : (y : Target) → holding before y ≡ holding m y
    same_holding Proxy = refl
    same_holding Server = refl
    same_holding Socks = refl

    live_behind : (y : Target) (stage : Stage) → holding m y ≡ Some h → IsLive (holding (record before { past = Replied link reply ∷ m.past; stage = stage; rounds = m.rounds + 1; code = reply.code; stays = reply.stays }) y)
    live_behind Proxy stage held = subst (λ o. IsLive o) (sym held) live
    live_behind Server stage held = subst (λ o. IsLive o) (sym held) live
    live_behind Socks stage held = absurd (cc)

    decided_so : IsDecided s before reply x h (Negotiating (Some peer))
    decided_so = record { target = is.target; held = same_holding x ∙ is.held; decides = is.decides }

    moves_by : (b : Bool) → reply.stays ≡ b → move s (Replied link reply ∷ m.past) ≡ (if b then Goes (Steps x (GoOn peer)) else Goes (Loses link))
    moves_by b stays =
        moves_decided s m link reply x h (Negotiating (Some peer)) is.target (held_at s m reply x h (Negotiating (Some peer)) is t) is.decides few t
        ∙ ap (λ b. if b then Goes (Steps x (GoOn peer)) else Goes (Loses link)) stays

    at : (b : Bool) → reply.stays ≡ b → Ties s (record before { past = Replied link reply ∷ m.past; stage = stage_continued b link x; rounds = m.rounds + 1; code = reply.code; stays = reply.stays })
    at true stays =
        let moves : move s (Replied link reply ∷ m.past) ≡ Goes (Steps x (GoOn peer)) = moves_by true stays in
        decided_ties s before link reply x h (Negotiating (Some peer)) (Continue x) same may decided_so
        (record { token = peer; is_kept = refl; wanted = ap (carried_out s (Replied link reply ∷ m.past)) moves }, live_behind x (Continue x) is.held)
        (to_continue s m link reply x same may t) (read_peer s m link (Some peer) same t)
    at false stays =
        decided_ties s before link reply x h (Negotiating (Some peer)) (LoseLink link) same may decided_so (reply_last s m link reply same may t, undialed)
        (to_lose s m link reply same may (ap (carried_out s (Replied link reply ∷ m.past)) (moves_by false stays)) t) (read_peer s m link (Some peer) same t)

-- the seventeenth round
last_held : (s : Setting) (past : List Event) (link : ℕ) (reply : Reply) (t : Target) (h : Option Holding) (kept : Bool) → challenges_target s reply t ≡ true
    → IfSome h (λ o. is_some (deciding s reply t (held_kept o)) ≡ kept) → IsHeld s past t h → IsHeld s (Replied link reply ∷ past) t (if kept then h else None)
last_held s past link reply t None true met decides is = nothing_held s past link reply t is
last_held s past link reply t None false met decides is = nothing_held s past link reply t is
last_held s past link reply t (Some h) kept met decides is =
    at (deciding s reply t (held_kept h)) kept decides (held_challenged s past link reply t h (deciding s reply t (held_kept h)) met refl is)
  where
    at : (d : Option Decision) (kept : Bool) → is_some d ≡ kept → IsHeld s (Replied link reply ∷ past) t (kept_decided d h) → IsHeld s (Replied link reply ∷ past) t (if kept then Some h else None)
    at None true e it = absurd (false≢true e)
    at None false e it = it
    at (Some d) true e it = it
    at (Some d) false e it = absurd (false≢true (sym e))

pub last_ties : (s : Setting) (m : Kept) (link : ℕ) (reply : Reply) (t : Target) (kept : Bool) → m.stage ≡ Read link → IsTrue (can_be reply) → nat_le 17 (m.rounds + 1) ≡ true → IsLast s m reply t kept → Ties s m
    → Ties s (record m {
      past = Replied link reply ∷ m.past;
      proxy = held_last kept t Proxy m.proxy;
      server = held_last kept t Server m.server;
      rounds = m.rounds + 1;
      code = reply.code;
      stays = reply.stays;
      stage = Close (record { outcome = Refused reply.code Rounds; proxy = unless_it t Proxy m.noted_proxy; server = unless_it t Server m.noted_server });
    })
last_ties s m link reply Proxy kept same may last is t =
    challenge_ties s m link reply Proxy (Close (record { outcome = Refused reply.code Rounds; proxy = None; server = m.noted_server })) (if kept then m.proxy else None) m.server (reply_last s m link reply same may t) same is.target t tt
    (last_held s m.past link reply Proxy m.proxy kept (challenges_it s reply Proxy Proxy is.target) is.decides t.proxy) (held_elsewhere s m.past link reply Proxy Server m.server is.target refl t.server)
    (to_rounds s m link reply Proxy m.proxy same is.target may t.proxy last t)
last_ties s m link reply Server kept same may last is t =
    challenge_ties s m link reply Server (Close (record { outcome = Refused reply.code Rounds; proxy = m.noted_proxy; server = None })) m.proxy (if kept then m.server else None) (reply_last s m link reply same may t) same is.target t tt
    (held_elsewhere s m.past link reply Server Proxy m.proxy is.target refl t.proxy) (last_held s m.past link reply Server m.server kept (challenges_it s reply Server Server is.target) is.decides t.server)
    (to_rounds s m link reply Server m.server same is.target may t.server last t)
last_ties s m link reply Socks kept same may last is t = absurd (no_socks s reply is.target)

-- with terms it renews
renews : (s : Setting) (h : Held) (offered : Offer) (terms : Terms) → stale_terms offered ≡ Some terms → renewed s h offered.stale offered.terms ≡ known (s.terms_no h.gift.space terms) (λ n. Goes (Calls (Renew h.gift n)))
renews s h offered terms = at offered.stale offered.terms
  where
    at : (b : Bool) (o : Option Terms) → (if b then o else None) ≡ Some terms → renewed s h b o ≡ known (s.terms_no h.gift.space terms) (λ n. Goes (Calls (Renew h.gift n)))
    at true o e = ap (renewed s h true) e
    at false o e = absurd (cc)

-- a stale challenge: its terms are to be named, for the gift that is held
pub stale_ties : (s : Setting) (m : Kept) (link : ℕ) (reply : Reply) (t : Target) (h : Holding) (offered : Offer) (terms : Terms) → m.stage ≡ Read link → IsTrue (can_be reply) → nat_le 17 (m.rounds + 1) ≡ false
    → IsDecided s m reply t h (Offering offered) → stale_terms offered ≡ Some terms → Ties s m
    → Ties s (record m { past = Replied link reply ∷ m.past; stage = NameRenewal t h.gift; rounds = m.rounds + 1; code = reply.code; stays = reply.stays; unnamed_terms = Some terms })
stale_ties s m link reply x h offered terms same may few is stale t =
    let held_x = held_at s m reply x h (Offering offered) is t in
    let before : Kept = record m { unnamed_terms = Some terms } in
    decided_ties s before link reply x h (Offering offered) (NameRenewal x h.gift) same may (record { target = is.target; held = same_holding x ∙ is.held; decides = is.decides })
    (record {
      terms = terms;
      are_unnamed = refl;
      moves = moves_decided s m link reply x h (Offering offered) is.target held_x is.decides few t ∙ renews s (held_kept h) offered terms stale;
    })
    (to_renew s m link reply x h same is.target may held_x t) (read_unnamed s m link (Some terms) same t)
  where
    same_holding : (y : Target) → holding (record m { unnamed_terms = Some terms }) y ≡ holding m y
    same_holding Proxy = refl
    same_holding Server = refl
    same_holding Socks = refl
