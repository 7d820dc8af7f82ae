-- A bound link is lost, and its contexts with it.
use Rattle.std.proofs.Common.{◌≡◌, ℕ, ◌<◌, ◌==◌, ◌||◌, Bool, true, false, IsTrue, List, ◌∷◌, drop, length, Option, Some, None, is_some, option_map, refl, sym, ap, ◌∙◌, subst, zero-add, arith, if◌then◌else◌}
use Rattle.std.proofs.lemmas.Bool.{false≢true}
use Rattle.std.specs.List.{list_any}
use Rattle.spaces.specs.declared.Method.{Method}
use Rattle.link_trait.specs.Links.{Stream, read_on}
use Rattle.spaces.specs.declared.roster.Request.{Request}
use Rattle.spaces.specs.declared.site.Target.{Target}
use Rattle.spaces.specs.declared.site.Target.TheVariants.{Server, Proxy}
use Rattle.link_trait.specs.declared.links.LinkName.{LinkName}
use Rattle.link_trait.specs.declared.dialer.Traffic.{Traffic}
use Rattle.auth_runs.specs.declared.event.Event.{Event}
use Rattle.auth_runs.specs.declared.event.Event.TheVariants.{Headed, LinkLost}
use Rattle.auth_runs.specs.declared.event.Outcome.TheVariants.{Refused}
use Rattle.auth_runs.specs.declared.event.Why.TheVariants.{BoundLost}
use Rattle.trace_rule.specs.Settings.{Setting}
use Rattle.trace_rule.specs.Holding.{held_lost, code}
use Rattle.trace_rule.specs.Heard.{Hears, IsHeard}
use Rattle.trace_rule.specs.Moves.{go, rounds}
use Rattle.trace_rule.specs.Moves.Want.{Loses}
use Rattle.trace_rule.specs.Moves.Move.{Goes, Closes}
use Rattle.trace_rule.specs.Closings.{want, carried_out, closings, closings_made}
use Rattle.trace_rule.specs.Telling.{sends}
use Rattle.trace_rule.specs.Traces.{IsPast, Follows, is_end}
use Rattle.request_machine.specs.declared.holding.Holding.{Holding}
use Rattle.request_machine.specs.declared.stage.Stage.{Stage}
use Rattle.request_machine.specs.declared.stage.Stage.TheVariants.{Go, LoseLink, Close}
use Rattle.request_machine.specs.Kept.{Kept, Ties, IsKept, IsStage, IsHeld, is_after_end}
use Rattle.request_machine.specs.Told.{lost_told}
use Rattle.request_machine.specs.Asking.{refused_by}
use Rattle.request_machine.specs.Contexts.{stage_lost}
use Rattle.request_machine.specs.Carried.{TellsTraffic, IsUntouched, is_heard_on, sent}
use Rattle.request_machine.specs.Linked.{Line, Way, line, way, is_away, goes_on, is_ending, IsLinked, IsLinkedOn}
use Rattle.request_machine.specs.Linked.Way.{Onward, Ending, Asking, Reading}
use Rattle.request_machine.specs.Needs.{need_at}
use Rattle.request_machine.specs.Turns.{turns_left}
use Rattle.request_machine.proofs.Carrying.{never_short, recorded_so, sent_as}
use Rattle.request_machine.proofs.Driving.{pushed_nearer}
use Rattle.request_machine.proofs.Prompting.{refused_left}
use Rattle.request_machine.proofs.Prompts.{open_behind}
use Rattle.request_machine.proofs.Quiet.{IsNext}
use Rattle.request_machine.proofs.Sending.{only_end}

-- WHAT IS HELD THEN

lost_held : (s : Setting) (past : List Event) (link : ℕ) (x : Target) (o : Option Holding) → IsHeld s past x o → IsHeld s (LinkLost link ∷ past) x (option_map lost_told o)
lost_held s past link x None is = record { is_held = ap (option_map held_lost) is.is_held; is_known = tt; of_target = tt }
lost_held s past link x (Some h) is = record {
  is_held = ap (option_map held_lost) is.is_held;
  is_known = record { space = is.is_known.space; identity = is.is_known.identity; named = is.is_known.named };
  of_target = is.of_target;
}

lost_behind : (s : Setting) (m : Kept) (link : ℕ) (stage : Stage) → IsKept s (record m { past = LinkLost link ∷ m.past; stage = stage; proxy = option_map lost_told m.proxy; server = option_map lost_told m.server; has_lost = true }) stage
    → IsNext s (LinkLost link ∷ m.past) stage → Ties s m
    → Ties s (record m { past = LinkLost link ∷ m.past; stage = stage; proxy = option_map lost_told m.proxy; server = option_map lost_told m.server; has_lost = true })
lost_behind s m link stage kept next t = record {
  same_number = t.same_number;
  same_seed = t.same_seed;
  passes_over = t.passes_over;
  route = t.route;
  stage = next.stands;
  proxy = lost_held s m.past link Proxy m.proxy t.proxy;
  server = lost_held s m.past link Server m.server t.server;
  drawn_proxy = t.drawn_proxy;
  drawn_server = t.drawn_server;
  noted_proxy = t.noted_proxy;
  noted_server = t.noted_server;
  links = t.links;
  heads = t.heads;
  code = t.code;
  rounds = zero-add (rounds s m.past) ∙ t.rounds;
  is_dialed = t.is_dialed;
  stays = t.stays;
  has_lost = refl;
  has_none = t.has_none;
  ended = next.ended;
  may_stop = next.may_stop;
  prompt = open_behind m.past (LinkLost link) (λ p. refl) ∙ t.prompt;
  open_still = next.open_still;
  kept = kept;
}

-- the first one is made up for, and the second ends the request
pub lost_ties : (s : Setting) (m : Kept) (link : ℕ) → m.stage ≡ LoseLink link → Ties s m
    → Ties s (record m { past = LinkLost link ∷ m.past; stage = stage_lost m.has_lost (refused_by m BoundLost); proxy = option_map lost_told m.proxy; server = option_map lost_told m.server; has_lost = true })
lost_ties s m link same t = by m.has_lost refl
  where
    stands : IsStage s m.past (LoseLink link)
    stands = subst (IsStage s m.past) same t.stage

    is_past : IsPast s (LinkLost link ∷ m.past)
    is_past = (stands.0, subst (λ w. Follows s m.past w (LinkLost link)) (sym stands.1) refl)

    no_end : list_any is_end m.past ≡ false
    no_end = t.ended ∙ ap is_after_end same

    none_made : closings_made s m.past ≡ 0
    none_made = only_end s m (LoseLink link) same t (λ n e. e)

    by : (b : Bool) → m.has_lost ≡ b
        → Ties s (record m { past = LinkLost link ∷ m.past; stage = stage_lost b (refused_by m BoundLost); proxy = option_map lost_told m.proxy; server = option_map lost_told m.server; has_lost = true })
    by true e =
        lost_behind s m link (Close (refused_by m BoundLost)) tt (record {
          stands = (
            is_past,
            ap (λ b. if b then Closes (Refused (code m.past) BoundLost) else Goes (go s (LinkLost link ∷ m.past))) (t.has_lost ∙ e) ∙ ap (λ c. Closes (Refused c BoundLost)) t.code,
            ap (λ n. drop n (closings s (LinkLost link ∷ m.past) (Refused m.code BoundLost))) none_made ∙ refused_left s m (LinkLost link) BoundLost (λ y. refl) t,
          );
          ended = no_end;
          may_stop = rw no_end refl;
          open_still = tt;
        }) t
    by false e =
        lost_behind s m link Go tt (record {
          stands = (is_past, ap (λ b. carried_out s (LinkLost link ∷ m.past) (if b then Closes (Refused (code m.past) BoundLost) else Goes (go s (LinkLost link ∷ m.past)))) (t.has_lost ∙ e));
          ended = no_end;
          may_stop = rw no_end refl;
          open_still = none_made;
        }) t

-- A TURN OF IT

pub lost_nearer : (m n : Kept) (link : ℕ) → n.past ≡ LinkLost link ∷ m.past → length m.past < 256 → m.stage ≡ LoseLink link → turns_left n < turns_left m
lost_nearer m n link is few was = pushed_nearer m n (LinkLost link) is few (ap (λ st. is_some (need_at m st)) was)

pub lost_goes : (m n : Kept) (link : ℕ) → m.stage ≡ LoseLink link → IsTrue (is_away (way n.stage)) → IsTrue (goes_on (way m.stage) (way n.stage))
lost_goes m n link was away = subst (λ st. IsTrue (goes_on (way st) (way n.stage))) (sym was) (by (way n.stage) away)
  where
    by : (w : Way) → IsTrue (is_away w) → IsTrue (goes_on Onward w)
    by Onward away = refl
    by Ending away = refl
    by Asking away = refl
    by (Reading link) away = absurd (false≢true away)

-- a link is lost by a head that has its reply
lost_heard : (s : Setting) (streams : LinkName → Stream) (method : Method) (r link on : ℕ) (past : List Event) → want s past ≡ Loses link → Hears streams method r (LinkLost on) past
lost_heard s streams method r link on (Headed other bytes ∷ past) e = absurd (cc)
lost_heard s streams method r link on _ e = tt

-- the dialer tells no more
pub tells_lost : (request : Request) (m n : Kept) (link : ℕ) (streams : Option (LinkName → List ℕ)) (told : Option (List Traffic)) → m.stage ≡ LoseLink link → n.past ≡ LinkLost link ∷ m.past → line n ≡ line m → IsLinked m → TellsTraffic request m n streams told told
tells_lost request m n link streams told was same lined linked = λ s before more by t grew c.
    let stands : IsStage s m.past (LoseLink link) = subst (IsStage s m.past) was t.stage in
    let kept : IsKept s m (LoseLink link) = subst (IsKept s m) was t.kept in
    let on : IsLinkedOn Onward (line m) = subst (λ w. IsLinkedOn w (line m)) (ap way was) linked in
    let none : is_some n.link ≡ false = ap (λ (l : Line). is_some l.link) lined ∙ on.0 ∙ kept.1 in
    let number : n.number ≡ m.number = ap (λ (l : Line). l.number) lined in
    let links : n.links ≡ m.links = ap (λ (l : Line). l.links) lined in (
      more,
      grew,
      record {
        sent = sent_as s (is_ending (way m.stage)) (is_ending (way n.stage)) m.past n.past (sent more) (ap (sends s) same)
            (never_short (is_ending (way m.stage)) (is_ending (way n.stage)) m.past n.past (ap (λ st. is_ending (way st)) was)) c.sent;
        heard = heard s (λ name. read_on name more) stands.1 c.heard;
        recorded = λ silent. recorded_so s.request.method s.number m.past n.past (λ shown. heard s shown stands.1) streams (c.recorded silent);
        untouched = record {
          later = λ k later. untouched more k number (apart k kept.0 links later) (c.untouched.later k (omega (arith, links, later)));
          last = λ some. absurd (false≢true (sym none ∙ some));
        };
      },
    )
  where
    heard : (s : Setting) (shown : LinkName → Stream) → want s m.past ≡ Loses link → IsHeard shown s.request.method s.number m.past → IsHeard shown s.request.method s.number n.past
    heard s shown wanted h = subst (IsHeard shown s.request.method s.number) (sym same) (h, lost_heard s shown s.request.method s.number link link m.past wanted)

    apart : (k : ℕ) → link ≡ m.links → n.links ≡ m.links → n.links < k → (link == k) ≡ false
    apart k last links later = grind (arith, last, links, later)

    untouched : (more : List Traffic) (k : ℕ) → n.number ≡ m.number → (link == k) ≡ false → IsUntouched m more k → IsUntouched n more k
    untouched more k number other it = record {
      unheard = ap (list_any (is_heard_on k)) same ∙ ap (λ b. b || list_any (is_heard_on k) m.past) other ∙ it.unheard;
      unread = ap (λ r. read_on (record { request = r; nth = k }) more) number ∙ it.unread;
    }
