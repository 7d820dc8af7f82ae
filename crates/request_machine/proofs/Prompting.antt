-- Prompts that the request leads: the choice that leads one, its answer and its loss.
use Rattle.std.proofs.Common.{◌≡◌, ℕ, ◌+◌, ◌==◌, Bool, true, false, not, ◌&&◌, List, [], ◌∷◌, ◌++◌, drop, map, Option, Some, None, refl, sym, ap, ◌∙◌, zero-add, if◌then◌else◌, IsTrue, subst, option_map, unwrap_or, is_some, arith}
use Rattle.std.proofs.lemmas.Bool.{false≢true}
use Rattle.std.specs.List.{list_any}
use Rattle.spaces.specs.declared.site.Target.{Target}
use Rattle.spaces.specs.declared.site.Target.TheVariants.{Server, Proxy}
use Rattle.spaces.specs.Sites.{same_target}
use Rattle.auth_events.specs.declared.journal.Gift.{Gift}
use Rattle.auth_events.specs.declared.journal.Loss.{Loss}
use Rattle.auth_events.specs.declared.journal.Loss.TheVariants.{Fault, Memory}
use Rattle.auth_events.specs.declared.journal.Call.{Call}
use Rattle.auth_events.specs.declared.journal.Call.TheVariants.{Select, Answer, Lose, End as CallEnd}
use Rattle.auth_events.specs.declared.journal.BookReply.{BookReply}
use Rattle.auth_events.specs.declared.journal.BookReply.TheVariants.{Lead, Given, Cancelled, Lost}
use Rattle.wire_head.specs.declared.reply.Reply.{Reply}
use Rattle.link_trait.specs.declared.prompts.Ask.{Ask as Asked}
use Rattle.auth_runs.specs.declared.event.Event.{Event}
use Rattle.auth_runs.specs.declared.event.Event.TheVariants.{Called}
use Rattle.auth_runs.specs.declared.event.Outcome.TheVariants.{Refused}
use Rattle.auth_runs.specs.declared.event.Why.{Why}
use Rattle.auth_runs.specs.declared.event.Why.TheVariants.{Cancelled as ByCancel}
use Rattle.trace_rule.specs.Settings.{Setting, is_proxied, target_is}
use Rattle.trace_rule.specs.Challenges.{challenges_target}
use Rattle.trace_rule.specs.Holding.{held, carried, code, last_reply}
use Rattle.trace_rule.specs.Moves.{move, rounds, lost, terms_led}
use Rattle.trace_rule.specs.Moves.Move.{Closes}
use Rattle.trace_rule.specs.Closings.{closings, closings_made, is_challenged, note_for}
use Rattle.trace_rule.specs.Traces.{IsPast, Follows, suits, may_hold, same_loss, settles, is_end, is_follow, prompt_open, space_prompted}
use Rattle.trace_rule.specs.Telling.{ask_of}
use Rattle.request_machine.specs.declared.holding.Holding.{Holding}
use Rattle.request_machine.specs.declared.stage.Closing.{Closing}
use Rattle.request_machine.specs.declared.stage.Prompt.{Prompt}
use Rattle.request_machine.specs.declared.stage.Stage.{Stage}
use Rattle.request_machine.specs.declared.stage.Stage.TheVariants.{Go, Select as Selecting, Ask, Answer as Answering, Cancel as Cancelling, Lose as Losing, Close}
use Rattle.request_machine.specs.Kept.{IsKept, Kept, Ties, IsStage, IsOpen, IsHeld, IsLed, IsAskOf, asked_of, is_after_end, note_call, calls_left}
use Rattle.request_machine.specs.Told.{held_chosen, closing_by}
use Rattle.request_machine.specs.Replies.{challenged_told}
use Rattle.request_machine.specs.Asking.{outcome_lost, unless_told, refused_by}
use Rattle.request_machine.proofs.Quiet.{IsNext, same_held}
use Rattle.request_machine.proofs.Prompts.{open_settled}
use Rattle.request_machine.proofs.Targets.{held_space}
use Rattle.request_machine.proofs.Selected.{chosen_held}
use Rattle.request_machine.proofs.Challenged.{notes_by}
use Rattle.request_machine.proofs.Ending.{joined}

-- A CALL OF THE BOOK

-- a call changes the stage, what is held and the open prompt alone
pub call_ties : (s : Setting) (m : Kept) (call : Call) (reply : BookReply) (stage : Stage) (proxy server : Option Holding) (p : ℕ)
    → prompt_open (Called call reply ∷ m.past) (Called call reply ∷ m.past) ≡ p → Ties s m
    → IsKept s (record m { past = Called call reply ∷ m.past; stage = stage; proxy = proxy; server = server; prompt = p }) stage
    → IsHeld s (Called call reply ∷ m.past) Proxy proxy → IsHeld s (Called call reply ∷ m.past) Server server → IsNext s (Called call reply ∷ m.past) stage
    → Ties s (record m { past = Called call reply ∷ m.past; stage = stage; proxy = proxy; server = server; prompt = p })
call_ties s m call reply stage proxy server p is_open t kept held_proxy held_server next = record {
  same_number = t.same_number;
  same_seed = t.same_seed;
  passes_over = t.passes_over;
  route = t.route;
  stage = next.stands;
  proxy = held_proxy;
  server = held_server;
  drawn_proxy = t.drawn_proxy;
  drawn_server = t.drawn_server;
  noted_proxy = t.noted_proxy;
  noted_server = t.noted_server;
  links = t.links;
  heads = t.heads;
  code = t.code;
  rounds = zero-add (rounds s m.past) ∙ t.rounds;
  is_dialed = t.is_dialed;
  stays = t.stays;
  has_lost = t.has_lost;
  has_none = t.has_none;
  ended = next.ended;
  may_stop = next.may_stop;
  prompt = is_open;
  open_still = next.open_still;
  kept = kept;
}

-- no call at the end is made by it
pub still_open : (s : Setting) (m : Kept) (stage : Stage) → m.stage ≡ stage → Ties s m → IsOpen stage (closings_made s m.past)
still_open s m stage same t = subst (λ x. IsOpen x (closings_made s m.past)) same t.open_still

pub none_made : (s : Setting) (m : Kept) → closings_made s m.past ≡ 0 → 0 + closings_made s m.past ≡ 0
none_made s m none = zero-add (closings_made s m.past) ∙ none

pub either : {A : Type 0} (b : Bool) (a : A) → (if b then a else a) ≡ a
either true a = refl
either false a = refl

same_number : (n : ℕ) → (n == n) ≡ true
same_number n = grind (arith)

second_of : (a b : Bool) → (a && b) ≡ true → b ≡ true
second_of true b e = e
second_of false b e = absurd (false≢true e)

first_of : (a b : Bool) → (a && b) ≡ true → a ≡ true
first_of true b e = refl
first_of false b e = absurd (false≢true e)

not_true : (b : Bool) → not b ≡ true → b ≡ false
not_true true e = absurd (false≢true e)
not_true false e = refl

-- LEADING A PROMPT

-- the number of the prompt stands for it
pub led_by : (p k : ℕ) (n : ℕ) → unwrap_or (if p == p then Some k else None) n ≡ k
led_by p k n = ap (λ b. unwrap_or (if b then Some k else None) n) (same_number p)

pub led_ties : (s : Setting) (m : Kept) (t : Target) (n k p ordinal : ℕ) → m.stage ≡ Selecting t n k → IsTrue (suits s m.past (Select n k) (Lead p ordinal)) → Ties s m
    → Ties s (record m { past = Called (Select n k) (Lead p ordinal) ∷ m.past; stage = Ask (record { target = t; number = p; space = n; terms = k }) ordinal; prompt = p })
led_ties s m x n k p ordinal same suited t =
    let no_end : list_any is_end m.past ≡ false = t.ended ∙ ap is_after_end same in
    let at : IsStage s m.past (Selecting x n k) = subst (IsStage s m.past) same t.stage in
    let event : Event = Called (Select n k) (Lead p ordinal) in
    let unsettled : list_any (settles p) m.past ≡ false = not_true (list_any (settles p) m.past) (second_of (not (p == 0)) (not (list_any (settles p) m.past)) (second_of (is_some (s.space_of n)) (not (p == 0) && not (list_any (settles p) m.past)) suited)) in
    let is_open : prompt_open (event ∷ m.past) (event ∷ m.past) ≡ p = ap (λ b. if b then 0 else p) unsettled in
    let asks : IsAskOf s (event ∷ m.past) (record { target = x; number = p; space = n; terms = k }) ordinal =
    (λ space is. ap (λ b. unwrap_or (option_map (λ (ask : Asked). ask ∷ []) (if b then option_map (asked_of ordinal) (s.space_of n) else None)) (ask_of s m.past p)) (same_number p)
    ∙ ap (λ o. unwrap_or (option_map (λ (ask : Asked). ask ∷ []) (option_map (asked_of ordinal) o)) (ask_of s m.past p)) is) in
    call_ties s m (Select n k) (Lead p ordinal) (Ask (record { target = x; number = p; space = n; terms = k }) ordinal) m.proxy m.server p is_open t tt
    (same_held s m.past event Proxy m.proxy (either (target_is s n Proxy) (held s m.past Proxy)) t.proxy)
    (same_held s m.past event Server m.server (either (target_is s n Server) (held s m.past Server)) t.server)
    (record {
      stands = (
        (at.0, subst (λ v. Follows s m.past v event) (sym at.1) (refl, suited)),
        refl,
        record { terms = led_by p k (terms_led m.past p); space = led_by p n (space_prompted m.past p); is_open = is_open; of_target = at.2 },
        asks,
      );
      ended = no_end;
      may_stop = rw no_end refl;
      open_still = none_made s m (still_open s m (Selecting x n k) same t);
    })

-- THE BOOK'S REPLY TO AN ANSWER

-- once it is settled, no prompt is open
closed_by : (s : Setting) (past : List Event) (p : Prompt) (event : Event) → ((q : ℕ) → settles q event ≡ (p.number == q)) → IsLed s past p → prompt_open (event ∷ past) past ≡ 0
closed_by s past p event settled led =
    open_settled past event (λ q e. settled q ∙ subst (λ z. (p.number == z) ≡ true) (sym led.is_open ∙ e) (same_number p.number)) past refl

-- the target of the prompt's space is that of its gift
pub gift_target : (s : Setting) (p : Prompt) (gift : Gift) → gift.space ≡ p.space → ((x : Target) → target_is s p.space x ≡ same_target x p.target) → (x : Target) → target_is s gift.space x ≡ same_target x p.target
gift_target s p gift spaced known x = ap (λ n. target_is s n x) spaced ∙ known x

pub given_ties : (s : Setting) (m : Kept) (p : Prompt) (text evicted : ℕ) (gift : Gift) → m.stage ≡ Answering p text → IsTrue (suits s m.past (Answer p.number text p.terms) (Given gift evicted)) → Ties s m
    → Ties s (record m {
      past = Called (Answer p.number text p.terms) (Given gift evicted) ∷ m.past;
      stage = Go;
      prompt = 0;
      proxy = held_chosen p.target gift p.terms Proxy m.proxy;
      server = held_chosen p.target gift p.terms Server m.server;
    })
given_ties s m p text evicted gift same suited t =
    let no_end : list_any is_end m.past ≡ false = t.ended ∙ ap is_after_end same in
    let at : IsStage s m.past (Answering p text) = subst (IsStage s m.past) same t.stage in
    let event : Event = Called (Answer p.number text p.terms) (Given gift evicted) in
    let spaced : gift.space ≡ p.space = held_space s gift (space_prompted m.past p.number) p.terms (second_of (not (text == 0)) (may_hold s gift (space_prompted m.past p.number) p.terms) suited) ∙ at.2.space in
    call_ties s m (Answer p.number text p.terms) (Given gift evicted) Go (held_chosen p.target gift p.terms Proxy m.proxy) (held_chosen p.target gift p.terms Server m.server) 0
    (closed_by s m.past p event (λ q. refl) at.2) t tt
    (chosen_held s m.past event Proxy p.target gift.space p.terms gift m.proxy refl (gift_target s p gift spaced at.2.of_target) refl t.proxy)
    (chosen_held s m.past event Server p.target gift.space p.terms gift m.server refl (gift_target s p gift spaced at.2.of_target) refl t.server)
    (record {
      stands = ((at.0, subst (λ v. Follows s m.past v event) (sym at.1) (refl, refl, at.3, suited)), refl);
      ended = no_end;
      may_stop = rw no_end refl;
      open_still = none_made s m (still_open s m (Answering p text) same t);
    })

-- REFUSED, OR LOST

-- whom the last reply challenges is told by its code
challenged_by_code : (s : Setting) (past : List Event) (t : Target) → is_challenged s past t ≡ unwrap_or (option_map (same_target t) (challenged_told (is_proxied s) (code past))) false
challenged_by_code s past t = at (last_reply past)
  where
    at : (o : Option Reply) → unwrap_or (option_map (λ reply. challenges_target s reply t) o) false
        ≡ unwrap_or (option_map (same_target t) (challenged_told (is_proxied s) (unwrap_or (option_map (λ (reply : Reply). reply.code) o) 0))) false
    at None = refl
    at (Some reply) = refl

challenged_now : (s : Setting) (m : Kept) (t : Target) → Ties s m → is_challenged s m.past t ≡ unwrap_or (option_map (same_target t) (challenged_told m.is_proxied m.code)) false
challenged_now s m t ties =
    challenged_by_code s m.past t
    ∙ ap (λ b. unwrap_or (option_map (same_target t) (challenged_told b (code m.past))) false) ties.route
    ∙ ap (λ c. unwrap_or (option_map (same_target t) (challenged_told m.is_proxied c)) false) ties.code

-- the calls that are left where the request is refused behind an event that changes no note
pub refused_left : (s : Setting) (m : Kept) (event : Event) (why : Why) → ((x : Target) → note_for s (event ∷ m.past) x ≡ note_for s m.past x) → Ties s m
    → closings s (event ∷ m.past) (Refused m.code why) ≡ map Some (calls_left (refused_by m why))
refused_left s m event why same t =
    let whole : List Event = event ∷ m.past in
    let a : Option Gift = unless_told (challenged_told m.is_proxied m.code) Proxy m.noted_proxy in
    let b : Option Gift = unless_told (challenged_told m.is_proxied m.code) Server m.noted_server in
    let first : note_for s whole Proxy ≡ note_call a [] =
    same Proxy ∙ notes_by s m.past Proxy (carried s m.past Proxy) (unwrap_or (option_map (same_target Proxy) (challenged_told m.is_proxied m.code)) false) (challenged_now s m Proxy t)
    ∙ ap (λ g. note_call (if unwrap_or (option_map (same_target Proxy) (challenged_told m.is_proxied m.code)) false then None else g) []) t.noted_proxy in
    let second : note_for s whole Server ≡ note_call b [] =
    same Server ∙ notes_by s m.past Server (carried s m.past Server) (unwrap_or (option_map (same_target Server) (challenged_told m.is_proxied m.code)) false) (challenged_now s m Server t)
    ∙ ap (λ g. note_call (if unwrap_or (option_map (same_target Server) (challenged_told m.is_proxied m.code)) false then None else g) []) t.noted_server in
    ap (λ calls. map Some ((calls ++ note_for s whole Server) ++ CallEnd ∷ [])) first ∙ ap (λ calls. map Some ((note_call a [] ++ calls) ++ CallEnd ∷ [])) second ∙ ap (map Some) (joined a b)

-- a call closes the request
pub call_closes : (s : Setting) (m : Kept) (call : Call) (reply : BookReply) (c : Closing) (p : ℕ)
    → IsPast s (Called call reply ∷ m.past) → move s (Called call reply ∷ m.past) ≡ Closes c.outcome → closings s (Called call reply ∷ m.past) c.outcome ≡ map Some (calls_left c)
    → closings_made s (Called call reply ∷ m.past) ≡ 0 → list_any is_end (Called call reply ∷ m.past) ≡ false → is_follow (Called call reply) ≡ false
    → prompt_open (Called call reply ∷ m.past) (Called call reply ∷ m.past) ≡ p → ((x : Target) → held s (Called call reply ∷ m.past) x ≡ held s m.past x) → Ties s m
    → Ties s (record m { past = Called call reply ∷ m.past; stage = Close c; prompt = p })
call_closes s m call reply c p past moved left made no_end follow is_open same t =
    call_ties s m call reply (Close c) m.proxy m.server p is_open t tt (same_held s m.past (Called call reply) Proxy m.proxy (same Proxy) t.proxy) (same_held s m.past (Called call reply) Server m.server (same Server) t.server)
    (record {
      stands = (past, moved, ap (λ n. drop n (closings s (Called call reply ∷ m.past) c.outcome)) made ∙ left);
      ended = no_end;
      may_stop = rw (follow, no_end) refl;
      open_still = tt;
    })

-- the user cancelled
pub cancelled_ties : (s : Setting) (m : Kept) (p : Prompt) → m.stage ≡ Cancelling p → IsTrue (suits s m.past (Answer p.number 0 p.terms) Cancelled) → Ties s m
    → Ties s (record m { past = Called (Answer p.number 0 p.terms) Cancelled ∷ m.past; stage = Close (refused_by m (ByCancel p.number)); prompt = 0 })
cancelled_ties s m p same suited t =
    let at : IsStage s m.past (Cancelling p) = subst (IsStage s m.past) same t.stage in
    let event : Event = Called (Answer p.number 0 p.terms) Cancelled in
    call_closes s m (Answer p.number 0 p.terms) Cancelled (refused_by m (ByCancel p.number)) 0
    (at.0, subst (λ v. Follows s m.past v event) (sym at.1) (refl, suited)) (ap (λ c. Closes (Refused c (ByCancel p.number))) t.code)
    (refused_left s m event (ByCancel p.number) (λ x. refl) t)
    (none_made s m (still_open s m (Cancelling p) same t)) (t.ended ∙ ap is_after_end same) refl (closed_by s m.past p event (λ q. refl) at.2) (λ x. refl) t

same_loss_is : (a b : Loss) → same_loss a b ≡ true → a ≡ b
same_loss_is (Fault a) (Fault b) e = ap Fault (grind (arith, e))
same_loss_is (Fault a) Memory e = absurd (false≢true e)
same_loss_is Memory (Fault b) e = absurd (false≢true e)
same_loss_is Memory Memory e = refl

pub lost_closes : (loss : Loss) → lost loss ≡ Closes (outcome_lost loss)
lost_closes (Fault count) = refl
lost_closes Memory = refl

pub lost_left : (s : Setting) (whole : List Event) (loss : Loss) → closings s whole (outcome_lost loss) ≡ map Some (calls_left (closing_by (outcome_lost loss)))
lost_left s whole (Fault count) = refl
lost_left s whole Memory = refl

-- the prompt is lost
pub prompt_failed_ties : (s : Setting) (m : Kept) (p : Prompt) (loss told : Loss) → m.stage ≡ Losing p loss → IsTrue (suits s m.past (Lose p.number loss) (Lost told)) → Ties s m
    → Ties s (record m { past = Called (Lose p.number loss) (Lost told) ∷ m.past; stage = Close (closing_by (outcome_lost told)); prompt = 0 })
prompt_failed_ties s m p loss told same suited t =
    let at : IsStage s m.past (Losing p loss) = subst (IsStage s m.past) same t.stage in
    let event : Event = Called (Lose p.number loss) (Lost told) in
    call_closes s m (Lose p.number loss) (Lost told) (closing_by (outcome_lost told)) 0
    (at.0, subst (λ v. Follows s m.past v event) (sym at.1) (refl, suited)) (lost_closes told) (lost_left s (event ∷ m.past) told)
    (none_made s m (still_open s m (Losing p loss) same t)) (t.ended ∙ ap is_after_end same) refl (closed_by s m.past p event (λ q. refl) at.2) (λ x. refl) t
