-- How a request closes.
use Rattle.std.proofs.Common.{◌≡◌, ℕ, ◌+◌, ◌==◌, Bool, true, false, not, ◌&&◌, List, [], ◌∷◌, ◌++◌, Option, Some, None, refl, sym, ap, ◌∙◌, zero-add, if◌then◌else◌, IsTrue, subst, option_map, option_and_then, unwrap_or, is_some, is_none, drop, map, nat_le, arith, zero, suc}
use Rattle.std.proofs.Math.Numerals.{add-one}
use Rattle.std.specs.List.{list_any}
use Rattle.spaces.specs.declared.site.Target.{Target}
use Rattle.spaces.specs.declared.site.Target.TheVariants.{Server, Proxy}
use Rattle.spaces.specs.Sites.{same_target}
use Rattle.std.proofs.Common.{inl}
use Rattle.auth_events.specs.declared.journal.Gift.{Gift}
use Rattle.auth_events.specs.declared.journal.Call.{Call}
use Rattle.auth_events.specs.declared.journal.Call.TheVariants.{Note, End as CallEnd}
use Rattle.auth_events.specs.declared.journal.BookReply.{BookReply}
use Rattle.wire_head.specs.declared.reply.Reply.{Reply}
use Rattle.wire_head.specs.declared.reply.WireFault.{WireFault}
use Rattle.auth_runs.specs.declared.event.Event.{Event}
use Rattle.auth_runs.specs.declared.event.Event.TheVariants.{Called, WriteFailed, ReadFailed, Replied, Broken, Ended}
use Rattle.auth_runs.specs.declared.event.Outcome.{Outcome}
use Rattle.auth_runs.specs.declared.event.Outcome.TheVariants.{Answered, Refused, BadReply, LinkFailed, ProviderFailed, PromptFailed, NoMemory}
use Rattle.trace_rule.specs.Settings.{Setting, is_by_path}
use Rattle.trace_rule.specs.Challenges.{challenged, challenges_target}
use Rattle.trace_rule.specs.Holding.{Held, held, held_replied, carried, stays}
use Rattle.trace_rule.specs.Moves.{move, replied, rounds, is_answered}
use Rattle.trace_rule.specs.Closings.{renewal_for, notes, want, carried_out, closings, closings_made, next_closing, note_for, note_of, is_challenged}
use Rattle.trace_rule.specs.Moves.Want.{Calls, Reads}
use Rattle.trace_rule.specs.Moves.Move.{Closes}
use Rattle.trace_rule.specs.Traces.{IsPast, Follows, is_end, suits, can_be}
use Rattle.request_machine.specs.declared.stage.Closing.{Closing}
use Rattle.request_machine.specs.declared.stage.Stage.{Stage}
use Rattle.request_machine.specs.declared.stage.Stage.TheVariants.{Read, NextNonce, Close, End, Over}
use Rattle.request_machine.specs.Kept.{Kept, IsKept, IsCarriedStill, Ties, IsStage, is_after_end, gift_by_path, note_call, calls_left, closings_left, renewals_from}
use Rattle.request_machine.specs.Renewals.{stage_answered}
use Rattle.request_machine.specs.Told.{closing_by}
use Rattle.request_machine.proofs.Quiet.{IsNext, quiet_ties, same_held, note_still, end_still, outcome_still, write_failed_still, read_failed_still, broken_still}
use Rattle.request_machine.proofs.Prompts.{open_behind}
use Rattle.request_machine.proofs.Replies.{no_follow}
use Rattle.trace_laws.proofs.LastLinks.{replies_on_last}
use Rattle.request_machine.proofs.Sending.{only_end}

-- FAULTS BEHIND A HEAD

pub reads_past : (s : Setting) (m : Kept) (link : ℕ) (event : Event) → m.stage ≡ Read link → Ties s m → Follows s m.past (Reads link) event → IsPast s (event ∷ m.past)
reads_past s m link event same t follows =
    let at : IsStage s m.past (Read link) = subst (IsStage s m.past) same t.stage in
    (at.0, subst (λ v. Follows s m.past v event) (sym at.1) follows)

-- it is the one that was dialed last
pub reply_last : (s : Setting) (m : Kept) (link : ℕ) (reply : Reply) → m.stage ≡ Read link → IsTrue (can_be reply) → Ties s m → link ≡ m.links
reply_last s m link reply same may t = replies_on_last s m.past link reply (reads_past s m link (Replied link reply) same t (refl, may)) ∙ t.links

pub reply_stays : (m : Kept) (link : ℕ) (reply : Reply) → link ≡ m.links → stays (Replied link reply ∷ m.past) m.links ≡ reply.stays
reply_stays m link reply last =
    let it : (link == m.links) ≡ true = grind (arith, last) in
    ap (λ b. if b then reply.stays else stays m.past m.links) it

pub write_failed_ties : (s : Setting) (m : Kept) (link count : ℕ) → m.stage ≡ Read link → Ties s m
    → Ties s (record m { past = WriteFailed link count ∷ m.past; stage = Close (closing_by (LinkFailed count)) })
write_failed_ties s m link count same t =
    let no_end : list_any is_end m.past ≡ false = t.ended ∙ ap is_after_end same in
    quiet_ties s m (WriteFailed link count) (Close (closing_by (LinkFailed count))) (write_failed_still s m.past link count) (λ x. refl) t tt (record {
      stands = (reads_past s m link (WriteFailed link count) same t refl, refl, ap (λ n. drop n (Some CallEnd ∷ [])) (only_end s m (Read link) same t (λ n e. e)));
      ended = no_end;
      may_stop = rw no_end refl;
      open_still = tt;
    })

pub read_failed_ties : (s : Setting) (m : Kept) (link count : ℕ) → m.stage ≡ Read link → Ties s m
    → Ties s (record m { past = ReadFailed link count ∷ m.past; stage = Close (closing_by (LinkFailed count)) })
read_failed_ties s m link count same t =
    let no_end : list_any is_end m.past ≡ false = t.ended ∙ ap is_after_end same in
    quiet_ties s m (ReadFailed link count) (Close (closing_by (LinkFailed count))) (read_failed_still s m.past link count) (λ x. refl) t tt (record {
      stands = (reads_past s m link (ReadFailed link count) same t refl, refl, ap (λ n. drop n (Some CallEnd ∷ [])) (only_end s m (Read link) same t (λ n e. e)));
      ended = no_end;
      may_stop = rw no_end refl;
      open_still = tt;
    })

pub broken_ties : (s : Setting) (m : Kept) (link : ℕ) (fault : WireFault) → m.stage ≡ Read link → Ties s m
    → Ties s (record m { past = Broken link fault ∷ m.past; stage = Close (closing_by (BadReply fault)) })
broken_ties s m link fault same t =
    let no_end : list_any is_end m.past ≡ false = t.ended ∙ ap is_after_end same in
    quiet_ties s m (Broken link fault) (Close (closing_by (BadReply fault))) (broken_still s m.past link fault) (λ x. refl) t tt (record {
      stands = (reads_past s m link (Broken link fault) same t refl, refl, ap (λ n. drop n (Some CallEnd ∷ [])) (only_end s m (Read link) same t (λ n e. e)));
      ended = no_end;
      may_stop = rw no_end refl;
      open_still = tt;
    })

-- A REPLY THAT IS NO CHALLENGE

unchallenged : (s : Setting) (reply : Reply) (t : Target) → challenged s reply ≡ None → challenges_target s reply t ≡ false
unchallenged s reply t none = ap (λ (c : Option Target). unwrap_or (option_map (same_target t) c) false) none

pub still_held : (s : Setting) (reply : Reply) (t : Target) → challenges_target s reply t ≡ false → (h : Option Held) → option_and_then (held_replied s t reply) h ≡ h
still_held s reply t none None = refl
still_held s reply t none (Some h) = rw none refl

notes_for : (s : Setting) (whole : List Event) (t : Target) (c : Option Held) → is_challenged s whole t ≡ false → unwrap_or (option_map (note_of s whole t) c) [] ≡ note_call (option_and_then (gift_by_path s) c) []
notes_for s whole t None none = refl
notes_for s whole t (Some h) none = ap (λ b. if is_by_path s h.gift.space && not b then Note h.gift ∷ [] else []) none ∙ at (is_by_path s h.gift.space)
  where
    at : (b : Bool) → (if b && true then Note h.gift ∷ [] else []) ≡ note_call (if b then Some h.gift else None) []
    at true = refl
    at false = refl

pub joined : (a b : Option Gift) → (note_call a [] ++ note_call b []) ++ CallEnd ∷ [] ≡ note_call a (note_call b (CallEnd ∷ []))
joined None None = refl
joined None (Some b) = refl
joined (Some a) None = refl
joined (Some a) (Some b) = refl

-- the reply is an answer
answers : (s : Setting) (past : List Event) (link : ℕ) (reply : Reply) → challenged s reply ≡ None → is_answered s (Replied link reply ∷ past) ≡ true
answers s past link reply none = ap is_none none

-- an answer makes no round
no_round : (s : Setting) (m : Kept) (link : ℕ) (reply : Reply) → challenged s reply ≡ None → Ties s m → rounds s (Replied link reply ∷ m.past) ≡ m.rounds
no_round s m link reply none t = ap (λ (c : Option Target). (if is_some c then 1 else 0) + rounds s m.past) none ∙ zero-add (rounds s m.past) ∙ t.rounds

noted_by : (s : Setting) (m : Kept) (link : ℕ) (reply : Reply) → challenged s reply ≡ None → Ties s m
    → notes s (Replied link reply ∷ m.past) (Answered reply.code) ++ CallEnd ∷ [] ≡ calls_left (record { outcome = Answered reply.code; proxy = m.noted_proxy; server = m.noted_server })
noted_by s m link reply none t =
    let whole : List Event = Replied link reply ∷ m.past in
    let first : note_for s whole Proxy ≡ note_call m.noted_proxy [] = notes_for s whole Proxy (carried s m.past Proxy) (unchallenged s reply Proxy none) ∙ ap (λ g. note_call g []) t.noted_proxy in
    let second : note_for s whole Server ≡ note_call m.noted_server [] = notes_for s whole Server (carried s m.past Server) (unchallenged s reply Server none) ∙ ap (λ g. note_call g []) t.noted_server in
    ap (λ calls. (calls ++ note_for s whole Server) ++ CallEnd ∷ []) first ∙ ap (λ calls. (note_call m.noted_proxy [] ++ calls) ++ CallEnd ∷ []) second ∙ joined m.noted_proxy m.noted_server

-- the calls at the end of an answered request
left_by : (s : Setting) (m : Kept) (link : ℕ) (reply : Reply) (few : Bool) → m.stage ≡ Read link → challenged s reply ≡ None → nat_le m.rounds 14 ≡ few → Ties s m
    → closings_left s (Replied link reply ∷ m.past) (Answered reply.code)
    ≡ (if few then renewals_from s (Replied link reply ∷ m.past) Proxy else []) ++ map Some (calls_left (record { outcome = Answered reply.code; proxy = m.noted_proxy; server = m.noted_server }))
left_by s m link reply few same none counted t =
    let whole : List Event = Replied link reply ∷ m.past in
    let renewed : List (Option Call) = renewals_from s whole Proxy in
    let ends : List (Option Call) = map Some (notes s whole (Answered reply.code) ++ CallEnd ∷ []) in
    ap (λ n. drop n (closings s whole (Answered reply.code))) (only_end s m (Read link) same t (λ n e. e))
    ∙ ap (λ b. (if b && nat_le (rounds s whole) 14 then renewed else []) ++ ends) (answers s m.past link reply none)
    ∙ ap (λ n. (if nat_le n 14 then renewed else []) ++ ends) (no_round s m link reply none t)
    ∙ ap (λ b. (if b then renewed else []) ++ ends) counted
    ∙ ap (λ calls. (if few then renewed else []) ++ map Some calls) (noted_by s m link reply none t)

-- the reply is an answer, and the request stands so behind it
answered_as : (s : Setting) (m : Kept) (link : ℕ) (reply : Reply) (stage : Stage) → link ≡ m.links → challenged s reply ≡ None → Ties s m → IsKept s (record m { past = Replied link reply ∷ m.past; code = reply.code; stage = stage; stays = reply.stays }) stage
    → IsNext s (Replied link reply ∷ m.past) stage → Ties s (record m { past = Replied link reply ∷ m.past; code = reply.code; stage = stage; stays = reply.stays })
answered_as s m link reply stage last none t kept next = record {
  same_number = t.same_number;
  same_seed = t.same_seed;
  passes_over = t.passes_over;
  route = t.route;
  stage = next.stands;
  proxy = same_held s m.past (Replied link reply) Proxy m.proxy (still_held s reply Proxy (unchallenged s reply Proxy none) (held s m.past Proxy)) t.proxy;
  server = same_held s m.past (Replied link reply) Server m.server (still_held s reply Server (unchallenged s reply Server none) (held s m.past Server)) t.server;
  drawn_proxy = t.drawn_proxy;
  drawn_server = t.drawn_server;
  noted_proxy = t.noted_proxy;
  noted_server = t.noted_server;
  links = t.links;
  heads = t.heads;
  code = refl;
  rounds = no_round s m link reply none t;
  is_dialed = t.is_dialed;
  stays = reply_stays m link reply last;
  has_lost = t.has_lost;
  has_none = t.has_none;
  ended = next.ended;
  may_stop = next.may_stop;
  prompt = open_behind m.past (Replied link reply) (λ p. refl) ∙ t.prompt;
  open_still = next.open_still;
  kept = kept;
}

-- the next nonces are looked for, unless there were too many rounds
pub answered_ties : (s : Setting) (m : Kept) (link : ℕ) (reply : Reply) → m.stage ≡ Read link → challenged s reply ≡ None → IsTrue (can_be reply) → Ties s m
    → Ties s (record m { past = Replied link reply ∷ m.past; code = reply.code; stays = reply.stays; stage = stage_answered m.rounds (record { outcome = Answered reply.code; proxy = m.noted_proxy; server = m.noted_server }) })
answered_ties s m link reply same none may t = go (nat_le m.rounds 14) refl
  where
    no_end : list_any is_end m.past ≡ false
    no_end = t.ended ∙ ap is_after_end same

    moved : move s (Replied link reply ∷ m.past) ≡ Closes (Answered reply.code)
    moved = ap (λ (c : Option Target). replied s (Replied link reply ∷ m.past) link reply c m.past) none

    past : IsPast s (Replied link reply ∷ m.past)
    past = reads_past s m link (Replied link reply) same t (refl, may)

    at : IsStage s m.past (Read link)
    at = subst (IsStage s m.past) same t.stage

    still : (x : Target) → IsCarriedStill s (Replied link reply ∷ m.past) x
    still x = record { link = link; same = still_held s reply x (unchallenged s reply x none) (held s m.past x) ∙ at.2 x }

    go : (few : Bool) → nat_le m.rounds 14 ≡ few
        → Ties s (record m {
          past = Replied link reply ∷ m.past;
          code = reply.code;
          stays = reply.stays;
          stage = (if few then NextNonce Proxy (record { outcome = Answered reply.code; proxy = m.noted_proxy; server = m.noted_server }) else Close (record { outcome = Answered reply.code; proxy = m.noted_proxy; server = m.noted_server }));
        })
    go true counted =
        answered_as s m link reply (NextNonce Proxy (record { outcome = Answered reply.code; proxy = m.noted_proxy; server = m.noted_server })) (reply_last s m link reply same may t) none t (subst (IsKept s m) same t.kept) (record {
          stands = (record { is_past = past; closes = moved; answered = answers s m.past link reply none }, left_by s m link reply true same none counted t, (still Proxy, still Server));
          ended = no_end;
          may_stop = rw no_end refl;
          open_still = tt;
        })
    go false counted =
        answered_as s m link reply (Close (record { outcome = Answered reply.code; proxy = m.noted_proxy; server = m.noted_server })) (reply_last s m link reply same may t) none t tt (record {
          stands = (past, moved, left_by s m link reply false same none counted t);
          ended = no_end;
          may_stop = rw no_end refl;
          open_still = tt;
        })

-- THE CALLS AT THE END

drop_suc : {A : Type 0} (n : ℕ) (xs : List A) (x : A) (ys : List A) → drop n xs ≡ x ∷ ys → drop (suc n) xs ≡ ys
drop_suc zero xs x ys e = ap (drop 1) e
drop_suc (suc n) [] x ys e = absurd (cc)
drop_suc (suc n) (y ∷ xs) x ys e = drop_suc n xs x ys e

pub drop_one : {A : Type 0} (n : ℕ) (xs : List A) (x : A) (ys : List A) → drop n xs ≡ x ∷ ys → drop (1 + n) xs ≡ ys
drop_one n xs x ys e = ap (λ k. drop k xs) (let one : 1 + n ≡ n + 1 = omega arith in one ∙ add-one n) ∙ drop_suc n xs x ys e

pub closing_wants : (s : Setting) (past : List Event) (o : Outcome) (call : Call) (calls : List (Option Call)) → move s past ≡ Closes o → drop (closings_made s past) (closings s past o) ≡ Some call ∷ calls → want s past ≡ Calls call
closing_wants s past o call calls moved left = ap (carried_out s past) moved ∙ ap (next_closing o) left

behind_note : (s : Setting) (past : List Event) (gift : Gift) (reply : BookReply) (o : Outcome) → closings s (Called (Note gift) reply ∷ past) o ≡ closings s past o
behind_note s past gift reply (Answered status) = ap (λ n. (if is_answered s past && nat_le n 14 then renewal_for s past Proxy ++ renewal_for s past Server else []) ++ map Some (notes s past (Answered status) ++ CallEnd ∷ [])) (zero-add (rounds s past))
behind_note s past gift reply (Refused status why) = refl
behind_note s past gift reply (BadReply fault) = refl
behind_note s past gift reply (LinkFailed count) = refl
behind_note s past gift reply (ProviderFailed count) = refl
behind_note s past gift reply (PromptFailed count) = refl
behind_note s past gift reply NoMemory = refl

behind_end : (s : Setting) (past : List Event) (reply : BookReply) (o : Outcome) → closings s (Called CallEnd reply ∷ past) o ≡ closings s past o
behind_end s past reply (Answered status) = ap (λ n. (if is_answered s past && nat_le n 14 then renewal_for s past Proxy ++ renewal_for s past Server else []) ++ map Some (notes s past (Answered status) ++ CallEnd ∷ [])) (zero-add (rounds s past))
behind_end s past reply (Refused status why) = refl
behind_end s past reply (BadReply fault) = refl
behind_end s past reply (LinkFailed count) = refl
behind_end s past reply (ProviderFailed count) = refl
behind_end s past reply (PromptFailed count) = refl
behind_end s past reply NoMemory = refl

-- a gift was noted, and these are the calls that are left
pub noted_ties : (s : Setting) (m : Kept) (c rest : Closing) (gift : Gift) (reply : BookReply) → m.stage ≡ Close c → rest.outcome ≡ c.outcome → calls_left c ≡ Note gift ∷ calls_left rest
    → IsTrue (suits s m.past (Note gift) reply) → Ties s m → Ties s (record m { past = Called (Note gift) reply ∷ m.past; stage = Close rest })
noted_ties s m c rest gift reply same outcome left suited t =
    let no_end : list_any is_end m.past ≡ false = t.ended ∙ ap is_after_end same in
    let at : IsStage s m.past (Close c) = subst (IsStage s m.past) same t.stage in
    let calls : drop (closings_made s m.past) (closings s m.past c.outcome) ≡ Some (Note gift) ∷ map Some (calls_left rest) = at.2 ∙ ap (map Some) left in
    quiet_ties s m (Called (Note gift) reply) (Close rest) (note_still s m.past gift reply) (λ x. refl) t tt (record {
      stands = (
        (at.0, subst (λ v. Follows s m.past v (Called (Note gift) reply)) (sym (closing_wants s m.past c.outcome (Note gift) (map Some (calls_left rest)) at.1 calls)) (refl, suited)),
        at.1 ∙ ap Closes (sym outcome),
        ap (λ o. drop (1 + closings_made s m.past) (closings s (Called (Note gift) reply ∷ m.past) o)) outcome
            ∙ ap (drop (1 + closings_made s m.past)) (behind_note s m.past gift reply c.outcome)
            ∙ drop_one (closings_made s m.past) (closings s m.past c.outcome) (Some (Note gift)) (map Some (calls_left rest)) calls,
      );
      ended = no_end;
      may_stop = rw (no_follow s m.past (Note gift) reply (λ p. refl) suited, no_end) refl;
      open_still = tt;
    })

-- the request was ended
pub ended_ties : (s : Setting) (m : Kept) (c : Closing) (reply : BookReply) → m.stage ≡ Close c → calls_left c ≡ CallEnd ∷ []
    → IsTrue (suits s m.past CallEnd reply) → Ties s m → Ties s (record m { past = Called CallEnd reply ∷ m.past; stage = End c.outcome })
ended_ties s m c reply same left suited t =
    let at : IsStage s m.past (Close c) = subst (IsStage s m.past) same t.stage in
    let calls : drop (closings_made s m.past) (closings s m.past c.outcome) ≡ Some CallEnd ∷ [] = at.2 ∙ ap (map Some) left in
    quiet_ties s m (Called CallEnd reply) (End c.outcome) (end_still s m.past reply) (λ x. refl) t tt (record {
      stands = (
        (at.0, subst (λ v. Follows s m.past v (Called CallEnd reply)) (sym (closing_wants s m.past c.outcome CallEnd [] at.1 calls)) (refl, suited)),
        ap (carried_out s (Called CallEnd reply ∷ m.past)) at.1
            ∙ ap (next_closing c.outcome) (ap (drop (1 + closings_made s m.past)) (behind_end s m.past reply c.outcome)
            ∙ drop_one (closings_made s m.past) (closings s m.past c.outcome) (Some CallEnd) [] calls),
      );
      ended = refl;
      may_stop = rw (no_follow s m.past CallEnd reply (λ p. refl) suited) refl;
      open_still = tt;
    })

-- the outcome stands last
pub finished_ties : (s : Setting) (m : Kept) (outcome : Outcome) → m.stage ≡ End outcome → Ties s m → Ties s (record m { past = Ended outcome ∷ m.past; stage = Over })
finished_ties s m outcome same t =
    let ended : list_any is_end m.past ≡ true = t.ended ∙ ap is_after_end same in
    let at : IsStage s m.past (End outcome) = subst (IsStage s m.past) same t.stage in
    quiet_ties s m (Ended outcome) Over (outcome_still s m.past outcome) (λ x. refl) t tt (record {
      stands = inl ((at.0, subst (λ v. Follows s m.past v (Ended outcome)) (sym at.1) refl), refl);
      ended = ended;
      may_stop = rw ended refl;
      open_still = tt;
    })
