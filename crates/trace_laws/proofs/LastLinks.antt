-- The link that was dialed last.
use Rattle.std.proofs.Common.{◌≡◌, ℕ, ◌+◌, ◌<◌, ◌==◌, Bool, true, false, List, [], ◌∷◌, Option, Some, None, unwrap_or, refl, sym, ap, ◌∙◌, subst, arith, if◌then◌else◌}
use Rattle.std.proofs.lemmas.Bool.{false≢true}
use Rattle.std.proofs.lemmas.Bool.Decides.{nat_tests}
use Rattle.spaces.specs.declared.site.Target.TheVariants.{Server, Proxy}
use Rattle.wire_head.specs.declared.reply.Reply.{Reply}
use Rattle.auth_runs.specs.declared.event.Event.{Event}
use Rattle.auth_runs.specs.declared.event.Event.TheVariants.{Dialed, Headed, LinkLost, Replied}
use Rattle.trace_rule.specs.Settings.{Setting, or_else}
use Rattle.trace_rule.specs.Holding.{held, bound, links, has_reply, stays}
use Rattle.trace_rule.specs.Moves.{Want, go, head_link}
use Rattle.trace_rule.specs.Contexts.{IsOnLink}
use Rattle.trace_rule.specs.Traces.{IsPast, Follows}
use Rattle.trace_laws.proofs.Rows.{way_from, read_from}
use Rattle.trace_laws.proofs.Ways.{Way, way}
use Rattle.trace_laws.proofs.Ways.Way.{starts, loses, dials, draws, writes}
use Rattle.trace_laws.proofs.Contexts.{IsAt, is_head, link_held, at_after, headed_at, headed_by}

-- A DIAL

-- where the next link is dialed none is bound
unbound : (s : Setting) (past : List Event) (link : ℕ) → IsPast s (Dialed link ∷ past) → bound s past ≡ None
unbound s past link run = at (go s past) (way s past) (way_from s past (Dialed link) refl run)
  where
    at : (w : Want) → Way s past w → Follows s past w (Dialed link) → bound s past ≡ None
    at w (starts t h e same) f = absurd (subst (λ x. Follows s past x (Dialed link)) same f)
    at w (loses on e k same) f = let clash : Dialed link ≡ LinkLost on = subst (λ x. Follows s past x (Dialed link)) same f in cc
    at w (dials free none same) f = free
    at w (draws t h name e n same) f = absurd (subst (λ x. Follows s past x (Dialed link)) same f)
    at w (writes p q same) f = absurd (false≢true (ap is_head (subst (λ x. Follows s past x (Dialed link)) same f)))

none_first : (n : ℕ) (a b : Option ℕ) → or_else a b ≡ None → IsOnLink n a × IsOnLink n b
none_first n None None e = (tt, tt)
none_first n None (Some y) e = cc e
none_first n (Some x) b e = cc e

-- ALL EVENTS

-- of two that are the last, the first that is there is
last_of : (n : ℕ) (a b : Option ℕ) → IsOnLink n a → IsOnLink n b → unwrap_or (or_else a b) n ≡ n
last_of n None None p q = refl
last_of n None (Some y) p q = sym q
last_of n (Some x) b p q = sym p

-- each context that is bound is bound to the link that was dialed last
at_links : (s : Setting) (past : List Event) → IsPast s past → IsAt (links past) (held s past Proxy) × IsAt (links past) (held s past Server)
at_links s [] run = (tt, tt)
at_links s (Dialed link ∷ past) run = none_first (links past + 1) (link_held (held s past Proxy)) (link_held (held s past Server)) (unbound s past link run)
at_links s (Headed link bytes ∷ past) run =
    let before = at_links s past run.0 in
    let same : link ≡ links past = (headed_by s past link bytes run).over ∙ last_of (links past) (link_held (held s past Proxy)) (link_held (held s past Server)) before.0 before.1 in (
      subst (λ n. IsAt n (held s (Headed link bytes ∷ past) Proxy)) same (headed_at link (held s past Proxy)),
      subst (λ n. IsAt n (held s (Headed link bytes ∷ past) Server)) same (headed_at link (held s past Server)),
    )
at_links s (event ∷ past) run =
    let before = at_links s past run.0 in
    (at_after (links past) s Proxy past event refl before.0, at_after (links past) s Server past event refl before.1)

pub heads_over_last : (s : Setting) (past : List Event) → IsPast s past → head_link s past ≡ links past
heads_over_last s past run =
    let both = at_links s past run in last_of (links past) (link_held (held s past Proxy)) (link_held (held s past Server)) both.0 both.1

pub bound_is_last : (s : Setting) (past : List Event) (link : ℕ) → IsPast s past → bound s past ≡ Some link → link ≡ links past
bound_is_last s past link run is = sym (ap (λ o. unwrap_or o (links past)) is) ∙ heads_over_last s past run

-- REPLIES

pub replies_on_last : (s : Setting) (past : List Event) (link : ℕ) (reply : Reply) → IsPast s (Replied link reply ∷ past) → link ≡ links past
replies_on_last s past link reply run =
    let behind = read_from s past (Replied link reply) refl run in
    let headed : IsPast s (Headed behind.0 behind.1 ∷ behind.2) = subst (IsPast s) behind.3 run.0 in
    behind.4.0 ∙ (headed_by s behind.2 behind.0 behind.1 headed).over ∙ heads_over_last s behind.2 headed.0 ∙ sym (ap links behind.3)

other_link : (n link last : ℕ) → link ≡ last → last < n → (link == n) ≡ false
other_link n link last is later = grind (arith, nat_tests)

pub later_unread : (s : Setting) (past : List Event) (n : ℕ) → IsPast s past → links past < n → (has_reply n past ≡ false) × (stays past n ≡ true)
later_unread s [] n run later = (refl, refl)
later_unread s (Dialed link ∷ past) n run later = let l : links past + 1 < n = later in later_unread s past n run.0 (omega arith)
later_unread s (Replied link reply ∷ past) n run later =
    let other = other_link n link (links past) (replies_on_last s past link reply run) later in
    let before = later_unread s past n run.0 later in (
      ap (λ (b : Bool). if b then true else has_reply n past) other ∙ before.0,
      ap (λ (b : Bool). if b then reply.stays else stays past n) other ∙ before.1,
    )
later_unread s (event ∷ past) n run later = later_unread s past n run.0 later
