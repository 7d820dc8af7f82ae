-- A challenge, and what is chosen of it.
use Rattle.std.proofs.Common.{◌≡◌, ℕ, ◌+◌, Bool, true, false, not, ◌&&◌, nat_le, List, [], ◌∷◌, ◌++◌, Option, Some, None, refl, ap, ◌∙◌, if◌then◌else◌, IsTrue, IfSome, option_map, option_and_then, unwrap_or, is_some, is_none, drop, map, arith}
use Rattle.std.specs.List.{list_any}
use Rattle.spaces.specs.declared.site.Target.{Target}
use Rattle.spaces.specs.declared.site.Target.TheVariants.{Server, Proxy}
use Rattle.spaces.specs.Sites.{same_target}
use Rattle.auth_events.specs.declared.journal.Gift.{Gift}
use Rattle.auth_events.specs.declared.journal.Call.TheVariants.{Note, End as CallEnd}
use Rattle.wire_head.specs.declared.reply.Reply.{Reply}
use Rattle.auth_runs.specs.declared.event.Event.{Event}
use Rattle.auth_runs.specs.declared.event.Event.TheVariants.{Replied}
use Rattle.auth_runs.specs.declared.event.Outcome.TheVariants.{Refused}
use Rattle.auth_runs.specs.declared.event.Why.TheVariants.{Rounds}
use Rattle.trace_rule.specs.Settings.{Setting, is_by_path}
use Rattle.trace_rule.specs.Challenges.{challenged, challenges_target}
use Rattle.trace_rule.specs.Holding.{Held, Decision, held, held_replied, carried, deciding}
use Rattle.trace_rule.specs.Moves.{rejects, Move, move, replied, weighed, decided, select, rounds}
use Rattle.trace_rule.specs.Closings.{carried_out, want, closings, note_for, note_of, is_challenged}
use Rattle.trace_rule.specs.Moves.Want.{Loses}
use Rattle.trace_rule.specs.Moves.Move.{Closes}
use Rattle.trace_rule.specs.Traces.{is_end, can_be}
use Rattle.request_machine.specs.declared.holding.Holding.{Holding}
use Rattle.request_machine.specs.declared.stage.Stage.{Stage}
use Rattle.request_machine.specs.declared.stage.Stage.TheVariants.{Reject as Rejecting, NameRenewal, Continue, LoseLink, Read, Choose, Close}
use Rattle.request_machine.specs.Kept.{IsKept, Kept, Ties, IsHeld, held_kept, is_after_end, gift_by_path, note_call}
use Rattle.request_machine.specs.Told.{unless_it}
use Rattle.request_machine.proofs.Quiet.{IsNext, same_held}
use Rattle.request_machine.proofs.Prompts.{open_behind}
use Rattle.request_machine.proofs.Sending.{only_end}
use Rattle.request_machine.proofs.Ending.{reads_past, reply_stays, still_held, joined}

-- one round more
one_round : (s : Setting) (m : Kept) (link : ℕ) (reply : Reply) (t : Target) → challenged s reply ≡ Some t → Ties s m → rounds s (Replied link reply ∷ m.past) ≡ m.rounds + 1
one_round s m link reply t is ties =
    let e : 1 + rounds s m.past ≡ m.rounds + 1 = (let same : rounds s m.past ≡ m.rounds = ties.rounds in omega arith) in
    ap (λ (c : Option Target). (if is_some c then 1 else 0) + rounds s m.past) is ∙ e

-- a challenge was read; what is held then, and where the request stands, is given
pub challenge_ties : (s : Setting) (m : Kept) (link : ℕ) (reply : Reply) (t : Target) (stage : Stage) (proxy server : Option Holding) → link ≡ m.links → m.stage ≡ Read link → challenged s reply ≡ Some t → Ties s m
    → IsKept s (record m { past = Replied link reply ∷ m.past; stage = stage; proxy = proxy; server = server; rounds = m.rounds + 1; code = reply.code; stays = reply.stays }) stage
    → IsHeld s (Replied link reply ∷ m.past) Proxy proxy → IsHeld s (Replied link reply ∷ m.past) Server server → IsNext s (Replied link reply ∷ m.past) stage
    → Ties s (record m { past = Replied link reply ∷ m.past; stage = stage; proxy = proxy; server = server; rounds = m.rounds + 1; code = reply.code; stays = reply.stays })
challenge_ties s m link reply x stage proxy server last same is t kept held_proxy held_server next = record {
  same_number = t.same_number;
  same_seed = t.same_seed;
  passes_over = t.passes_over;
  route = t.route;
  stage = next.stands;
  proxy = held_proxy;
  server = held_server;
  drawn_proxy = t.drawn_proxy;
  drawn_server = t.drawn_server;
  noted_proxy = t.noted_proxy;
  noted_server = t.noted_server;
  links = t.links;
  heads = t.heads;
  code = refl;
  rounds = one_round s m link reply x is t;
  is_dialed = t.is_dialed;
  stays = reply_stays m link reply last;
  has_lost = t.has_lost;
  has_none = t.has_none;
  ended = next.ended;
  may_stop = next.may_stop;
  prompt = open_behind m.past (Replied link reply) (λ p. refl) ∙ t.prompt;
  open_still = next.open_still;
  kept = kept;
}

-- whom the reply challenges
pub challenges_it : (s : Setting) (reply : Reply) (t x : Target) → challenged s reply ≡ Some t → challenges_target s reply x ≡ same_target x t
challenges_it s reply t x is = ap (λ (c : Option Target). unwrap_or (option_map (same_target x) c) false) is

-- what is held for another target stays
pub held_elsewhere : (s : Setting) (past : List Event) (link : ℕ) (reply : Reply) (t x : Target) (h : Option Holding) → challenged s reply ≡ Some t → same_target x t ≡ false → IsHeld s past x h → IsHeld s (Replied link reply ∷ past) x h
held_elsewhere s past link reply t x h is other held_x = same_held s past (Replied link reply) x h (still_held s reply x (challenges_it s reply t x is ∙ other) (held s past x)) held_x

-- what is held for the target that is challenged stays where something decides
abbrev pub kept_decided : Option Decision → Holding → Option Holding
kept_decided decision h = if is_none decision then None else Some h

pub held_challenged : (s : Setting) (past : List Event) (link : ℕ) (reply : Reply) (t : Target) (h : Holding) (decision : Option Decision) → challenges_target s reply t ≡ true → deciding s reply t (held_kept h) ≡ decision
    → IsHeld s past t (Some h) → IsHeld s (Replied link reply ∷ past) t (kept_decided decision h)
held_challenged s past link reply t h decision met decides is =
    at (is_none decision)
    (ap (option_and_then (held_replied s t reply)) is.is_held
    ∙ ap (λ b. if b && is_none (deciding s reply t (held_kept h)) then None else Some (held_kept h)) met
    ∙ ap (λ d. if is_none d then None else Some (held_kept h)) decides)
  where
    at : (b : Bool) → held s (Replied link reply ∷ past) t ≡ (if b then None else Some (held_kept h)) → IsHeld s (Replied link reply ∷ past) t (if b then None else Some h)
    at true e = record { is_held = e; is_known = tt; of_target = tt }
    at false e = record { is_held = e; is_known = is.is_known; of_target = is.of_target }

-- nothing is held, and nothing will be
pub nothing_held : (s : Setting) (past : List Event) (link : ℕ) (reply : Reply) (t : Target) → IsHeld s past t None → IsHeld s (Replied link reply ∷ past) t None
nothing_held s past link reply t is = record { is_held = ap (option_and_then (held_replied s t reply)) is.is_held; is_known = tt; of_target = tt }

-- WHERE THE REQUEST STANDS THEN

abbrev moved_by : Setting → Kept → ℕ → Reply → Target → Option Held → Bool → Move
moved_by s m link reply t h last = if last then Closes (Refused reply.code Rounds) else weighed s (Replied link reply ∷ m.past) link reply t h

moved : (s : Setting) (m : Kept) (link : ℕ) (reply : Reply) (t : Target) (h : Option Holding) (last : Bool) → challenged s reply ≡ Some t → IsHeld s m.past t h → nat_le 17 (m.rounds + 1) ≡ last → Ties s m
    → move s (Replied link reply ∷ m.past) ≡ moved_by s m link reply t (option_map held_kept h) last
moved s m link reply x h last is held_x counted t =
    ap (λ (c : Option Target). replied s (Replied link reply ∷ m.past) link reply c m.past) is
    ∙ ap (λ n. moved_by s m link reply x (held s m.past x) (nat_le 17 n)) (one_round s m link reply x is t)
    ∙ ap (moved_by s m link reply x (held s m.past x)) counted
    ∙ ap (λ o. moved_by s m link reply x o last) held_x.is_held

-- where nothing is held, and where nothing decides, a challenge is chosen
pub to_choose : (s : Setting) (m : Kept) (link : ℕ) (reply : Reply) (t : Target) (h : Option Holding) → m.stage ≡ Read link → challenged s reply ≡ Some t → IsTrue (can_be reply) → IsHeld s m.past t h
    → IfSome h (λ o. deciding s reply t (held_kept o) ≡ None) → nat_le 17 (m.rounds + 1) ≡ false → Ties s m → IsNext s (Replied link reply ∷ m.past) (Choose t)
to_choose s m link reply x h same is may held_x undecided few t =
    let no_end : list_any is_end m.past ≡ false = t.ended ∙ ap is_after_end same in
    record {
      stands = (reads_past s m link (Replied link reply) same t (refl, may), moved s m link reply x h false is held_x few t ∙ at h undecided, is);
      ended = no_end;
      may_stop = rw no_end refl;
      open_still = only_end s m (Read link) same t (λ n e. e);
    }
  where
    at : (o : Option Holding) → IfSome o (λ y. deciding s reply x (held_kept y) ≡ None) → moved_by s m link reply x (option_map held_kept o) false ≡ select s (Replied link reply ∷ m.past)
    at None u = refl
    at (Some y) u = ap (decided s (Replied link reply ∷ m.past) link reply.stays x (held_kept y)) u

-- by the challenge that decides on what is held
pub moves_decided : (s : Setting) (m : Kept) (link : ℕ) (reply : Reply) (t : Target) (h : Holding) (decision : Decision) → challenged s reply ≡ Some t → IsHeld s m.past t (Some h) → deciding s reply t (held_kept h) ≡ Some decision
    → nat_le 17 (m.rounds + 1) ≡ false → Ties s m → move s (Replied link reply ∷ m.past) ≡ decided s (Replied link reply ∷ m.past) link reply.stays t (held_kept h) (Some decision)
moves_decided s m link reply x h decision is held_x decides few t =
    moved s m link reply x (Some h) false is held_x few t ∙ ap (decided s (Replied link reply ∷ m.past) link reply.stays x (held_kept h)) decides

-- where it is stale, its terms are to be named
pub to_renew : (s : Setting) (m : Kept) (link : ℕ) (reply : Reply) (t : Target) (h : Holding) → m.stage ≡ Read link → challenged s reply ≡ Some t → IsTrue (can_be reply) → IsHeld s m.past t (Some h) → Ties s m
    → IsNext s (Replied link reply ∷ m.past) (NameRenewal t h.gift)
to_renew s m link reply x h same is may held_x t =
    let no_end : list_any is_end m.past ≡ false = t.ended ∙ ap is_after_end same in
    record {
      stands = (reads_past s m link (Replied link reply) same t (refl, may), held_x.of_target, is);
      ended = no_end;
      may_stop = rw no_end refl;
      open_still = only_end s m (Read link) same t (λ n e. e);
    }

-- a challenge that rejects what is held
pub to_reject : (s : Setting) (m : Kept) (link : ℕ) (reply : Reply) (t : Target) (h : Holding) (decision : Decision) → m.stage ≡ Read link → challenged s reply ≡ Some t → IsTrue (can_be reply) → IsHeld s m.past t (Some h)
    → deciding s reply t (held_kept h) ≡ Some decision → decided s (Replied link reply ∷ m.past) link reply.stays t (held_kept h) (Some decision) ≡ rejects (held_kept h) → nat_le 17 (m.rounds + 1) ≡ false → Ties s m
    → IsNext s (Replied link reply ∷ m.past) (Rejecting t h.gift)
to_reject s m link reply x h decision same is may held_x decides fresh few t =
    let no_end : list_any is_end m.past ≡ false = t.ended ∙ ap is_after_end same in
    record {
      stands = (
        reads_past s m link (Replied link reply) same t (refl, may),
        ap (carried_out s (Replied link reply ∷ m.past)) (moves_decided s m link reply x h decision is held_x decides few t ∙ fresh),
        held_x.of_target,
      );
      ended = no_end;
      may_stop = rw no_end refl;
      open_still = only_end s m (Read link) same t (λ n e. e);
    }

-- a challenge that brings the token that the context waits for, over a link that stays
pub to_continue : (s : Setting) (m : Kept) (link : ℕ) (reply : Reply) (t : Target) → m.stage ≡ Read link → IsTrue (can_be reply) → Ties s m → IsNext s (Replied link reply ∷ m.past) (Continue t)
to_continue s m link reply x same may t =
    let no_end : list_any is_end m.past ≡ false = t.ended ∙ ap is_after_end same in
    record {
      stands = reads_past s m link (Replied link reply) same t (refl, may);
      ended = no_end;
      may_stop = rw no_end refl;
      open_still = only_end s m (Read link) same t (λ n e. e);
    }

-- over one that did not
pub to_lose : (s : Setting) (m : Kept) (link : ℕ) (reply : Reply) → m.stage ≡ Read link → IsTrue (can_be reply) → want s (Replied link reply ∷ m.past) ≡ Loses link → Ties s m → IsNext s (Replied link reply ∷ m.past) (LoseLink link)
to_lose s m link reply same may wanted t =
    let no_end : list_any is_end m.past ≡ false = t.ended ∙ ap is_after_end same in
    record {
      stands = (reads_past s m link (Replied link reply) same t (refl, may), wanted);
      ended = no_end;
      may_stop = rw no_end refl;
      open_still = only_end s m (Read link) same t (λ n e. e);
    }

-- the seventeenth round ends the request, and notes what was carried for the other target
pub notes_by : (s : Setting) (whole : List Event) (x : Target) (c : Option Held) (b : Bool) → is_challenged s whole x ≡ b → unwrap_or (option_map (note_of s whole x) c) [] ≡ note_call (if b then None else option_and_then (gift_by_path s) c) []
notes_by s whole x None true e = refl
notes_by s whole x None false e = refl
notes_by s whole x (Some h) b e = ap (λ y. if is_by_path s h.gift.space && not y then Note h.gift ∷ [] else []) e ∙ at (is_by_path s h.gift.space) b
  where
    at : (p b : Bool) → (if p && not b then Note h.gift ∷ [] else []) ≡ note_call (if b then None else (if p then Some h.gift else None)) []
    at true true = refl
    at true false = refl
    at false true = refl
    at false false = refl

pub to_rounds : (s : Setting) (m : Kept) (link : ℕ) (reply : Reply) (t : Target) (h : Option Holding) → m.stage ≡ Read link → challenged s reply ≡ Some t → IsTrue (can_be reply) → IsHeld s m.past t h
    → nat_le 17 (m.rounds + 1) ≡ true → Ties s m
    → IsNext s (Replied link reply ∷ m.past) (Close (record { outcome = Refused reply.code Rounds; proxy = unless_it t Proxy m.noted_proxy; server = unless_it t Server m.noted_server }))
to_rounds s m link reply x h same is may held_x last t =
    let no_end : list_any is_end m.past ≡ false = t.ended ∙ ap is_after_end same in
    let whole : List Event = Replied link reply ∷ m.past in
    let a : Option Gift = unless_it x Proxy m.noted_proxy in
    let first : note_for s whole Proxy ≡ note_call a [] =
    notes_by s whole Proxy (carried s m.past Proxy) (same_target Proxy x) (challenges_it s reply x Proxy is) ∙ ap (λ g. note_call (if same_target Proxy x then None else g) []) t.noted_proxy in
    let second : note_for s whole Server ≡ note_call (unless_it x Server m.noted_server) [] =
    notes_by s whole Server (carried s m.past Server) (same_target Server x) (challenges_it s reply x Server is) ∙ ap (λ g. note_call (if same_target Server x then None else g) []) t.noted_server in
    record {
      stands = (
        reads_past s m link (Replied link reply) same t (refl, may),
        moved s m link reply x h true is held_x last t,
        ap (λ n. drop n (closings s whole (Refused reply.code Rounds))) (only_end s m (Read link) same t (λ n e. e))
            ∙ ap (λ calls. map Some ((calls ++ note_for s whole Server) ++ CallEnd ∷ [])) first ∙ ap (λ calls. map Some ((note_call a [] ++ calls) ++ CallEnd ∷ [])) second ∙ ap (map Some) (joined a (unless_it x Server m.noted_server)),
      );
      ended = no_end;
      may_stop = rw no_end refl;
      open_still = tt;
    }
