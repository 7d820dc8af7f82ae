-- What comes next, but for numbers: whatever more is known, the same is wished for, and what it grants goes by the numbers that are known.
use Rattle.std.proofs.Common.{◌≡◌, ℕ, zero, suc, map, Bool, true, false, ◌&&◌, IsTrue, List, [], ◌∷◌, ◌++◌, Option, Some, None, is_some, option_and_then, option_map, unwrap_or, refl, sym, ap, ◌∙◌, subst, if◌then◌else◌, drop, nat_le}
use Rattle.std.specs.List.{list_any}
use Rattle.std.proofs.lemmas.Bool.{false≢true}
use Rattle.std.proofs.lemmas.List.{map-append}
use Rattle.spaces.specs.declared.site.Site.{Site}
use Rattle.spaces.specs.declared.site.Target.{Target}
use Rattle.spaces.specs.declared.site.Target.TheVariants.{Server, Proxy, Socks}
use Rattle.spaces.specs.declared.space.Scheme.TheVariants.{Digest}
use Rattle.spaces.specs.declared.terms.Terms.{Terms}
use Rattle.spaces.specs.ProtectionSpaces.{ProtectionSpace}
use Rattle.spaces.specs.Sites.{site}
use Rattle.auth_events.specs.declared.journal.Gift.{Gift}
use Rattle.auth_events.specs.declared.journal.Call.{Call}
use Rattle.auth_events.specs.declared.journal.Call.TheVariants.{Begin, Preempt, Select, Reject, Renew, Answer, Lose, Take, Note, End, Draw}
use Rattle.auth_events.specs.declared.journal.BookReply.{BookReply}
use Rattle.auth_events.specs.declared.names.TermsName.{TermsName}
use Rattle.wire_head.specs.declared.reply.Reply.{Reply}
use Rattle.link_trait.specs.declared.steps.StepSeen.{StepSeen}
use Rattle.link_trait.specs.declared.steps.StepSeen.TheVariants.{Token, Done, Refused as StepRefused, NoMechanism, Failed as StepFailed, NoMemory as StepNoMemory}
use Rattle.auth_runs.specs.declared.event.Outcome.{Outcome}
use Rattle.auth_runs.specs.declared.event.Outcome.TheVariants.{Answered, Refused}
use Rattle.auth_runs.specs.declared.event.Why.TheVariants.{NoChallenge, Rounds, BoundLost}
use Rattle.auth_runs.specs.declared.event.Event.{Event}
use Rattle.auth_runs.specs.declared.event.Event.TheVariants.{Called, Dialed, DialFailed, Drew, Headed, WriteFailed, ReadFailed, Replied, Broken, LinkLost, AskedFor, Stepped, Ended}
use Rattle.trace_rule.specs.Settings.{Setting, scheme_is}
use Rattle.trace_rule.specs.Challenges.{Offer, challenged, supported, best, space_at}
use Rattle.trace_rule.specs.Holding.{Held, Decision, held, carried, deciding, negotiates, last_reply, code, is_lost}
use Rattle.trace_rule.specs.Holding.Decision.{Negotiating, Offering}
use Rattle.trace_rule.specs.Moves.{Want, Move, move, go, known, terms_offered, choose, select, rounds, is_last_round, rejects, rejected, renewed, negotiated, decided, weighed, replied, told, stepped, is_answered, asked}
use Rattle.trace_rule.specs.NextNonces.{next}
use Rattle.trace_rule.specs.Closings.{want, with_nonce, renewal, renewal_of, renewal_for, renewals, notes, closings, closings_made, next_closing, close, carried_out}
use Rattle.trace_rule.specs.Moves.Want.{Calls, Rests, Ends}
use Rattle.trace_rule.specs.Moves.Move.{Goes, Closes}
use Rattle.trace_rule.specs.Traces.{IsPast}
use Rattle.trace_rule.specs.Growing.{KnowsMore, grown}
use Rattle.trace_rule.proofs.Knowing.{IsKnown, Knows, known_held}
use Rattle.trace_rule.proofs.Growing.{scheme_same, decision_same, same_held, same_go, same_rounds, same_last, rejected_same, told_same, same_carried, same_notes, same_made}

-- what comes next, before things have numbers
pub data Wish : Type 0 where
  Sure : Want → Wish
  Chooses : (space : ProtectionSpace) → (terms : Option Terms) → Wish
  Renews : (gift : Gift) → (terms : Terms) → Wish

abbrev pub call_if : Option Call → Want
call_if None = Rests
call_if (Some call) = Calls call

-- with the numbers that are known
abbrev pub granted : Setting → Wish → Want
granted s (Sure w) = w
granted s (Chooses space terms) = call_if (option_and_then (λ n. option_map (Select n) (terms_offered s n terms)) (s.space_no space))
granted s (Renews gift terms) = call_if (option_map (Renew gift) (s.terms_no gift.space terms))

-- the space of a gift that is to be renewed is known
abbrev pub IsFounded : Setting → Wish → Type 0
IsFounded s (Renews gift terms) = IsTrue (is_some (s.space_of gift.space))
IsFounded s _ = Unit {0}

-- a wish, or the end of the request
data Hope : Type 0 where
  Wished : Wish → Hope
  Over : Outcome → Hope

abbrev meant : Setting → Hope → Move
meant s (Wished x) = Goes (granted s x)
meant s (Over outcome) = Closes outcome

abbrev IsHopeFounded : Setting → Hope → Type 0
IsHopeFounded s (Wished x) = IsFounded s x
IsHopeFounded s (Over outcome) = Unit {0}

-- a call at the end, or a renewal there
data Item : Type 0 where
  Fixed : Option Call → Item
  Renewing : (gift : Gift) → (terms : Terms) → Item

abbrev call_of : Setting → Item → Option Call
call_of s (Fixed call) = call
call_of s (Renewing gift terms) = option_map (Renew gift) (s.terms_no gift.space terms)

abbrev wish_of : Item → Wish
wish_of (Fixed call) = Sure (call_if call)
wish_of (Renewing gift terms) = Renews gift terms

abbrev AreFounded : Setting → List Item → Type 0
AreFounded s [] = Unit {0}
AreFounded s (i ∷ items) = IsFounded s (wish_of i) × AreFounded s items

founded_append : (s : Setting) (xs ys : List Item) → AreFounded s xs → AreFounded s ys → AreFounded s (xs ++ ys)
founded_append s [] ys p q = q
founded_append s (x ∷ xs) ys p q = (p.0, founded_append s xs ys p.1 q)

founded_drop : (s : Setting) (n : ℕ) (xs : List Item) → AreFounded s xs → AreFounded s (drop n xs)
founded_drop s zero xs p = p
founded_drop s (suc n) [] p = tt
founded_drop s (suc n) (x ∷ xs) p = founded_drop s n xs p.1

founded_fixed : (s : Setting) (cs : List Call) → AreFounded s (map (λ c. Fixed (Some c)) cs)
founded_fixed s [] = tt
founded_fixed s (c ∷ cs) = (tt, founded_fixed s cs)

-- by what is there
choice_known : (s : Setting) (space : ℕ) (p : Option ℕ) → known p (λ terms. Goes (Calls (Select space terms))) ≡ Goes (call_if (option_map (Select space) p))
choice_known s space None = refl
choice_known s space (Some terms) = refl

chosen : (s : Setting) (terms : Option Terms) (o : Option ℕ)
    → known o (λ space. known (terms_offered s space terms) (λ t. Goes (Calls (Select space t)))) ≡ Goes (call_if (option_and_then (λ n. option_map (Select n) (terms_offered s n terms)) o))
chosen s terms None = refl
chosen s terms (Some n) = choice_known s n (terms_offered s n terms)

renewal_known : (gift : Gift) (p : Option ℕ) → known p (λ number. Goes (Calls (Renew gift number))) ≡ Goes (call_if (option_map (Renew gift) p))
renewal_known gift None = refl
renewal_known gift (Some number) = refl

item_granted : (s : Setting) (o : Outcome) (i : Item) (items : List (Option Call)) → next_closing o (call_of s i ∷ items) ≡ granted s (wish_of i)
item_granted s o (Fixed None) items = refl
item_granted s o (Fixed (Some call)) items = refl
item_granted s o (Renewing gift terms) items = at (option_map (Renew gift) (s.terms_no gift.space terms))
  where
    at : (c : Option Call) → next_closing o (c ∷ items) ≡ call_if c
    at None = refl
    at (Some call) = refl

drop_map : (f : Item → Option Call) (n : ℕ) (items : List Item) → drop n (map f items) ≡ map f (drop n items)
drop_map f zero items = refl
drop_map f (suc n) [] = refl
drop_map f (suc n) (i ∷ items) = drop_map f n items

fixed_map : (s : Setting) (cs : List Call) → map Some cs ≡ map (call_of s) (map (λ c. Fixed (Some c)) cs)
fixed_map s [] = refl
fixed_map s (c ∷ cs) = ap (λ xs. Some c ∷ xs) (fixed_map s cs)

module _ (s : Setting) where
  -- for all that know more
  abbrev IsHoped : (Setting → Move) → Type 0
  IsHoped f = (x : Hope) × IsHopeFounded s x × ((m : Setting) → KnowsMore s m → f (grown s m) ≡ meant (grown s m) x)

  abbrev AreListed : (Setting → List (Option Call)) → Type 0
  AreListed f = (items : List Item) × AreFounded s items × ((m : Setting) → KnowsMore s m → f (grown s m) ≡ map (call_of (grown s m)) items)

  hoped_as : (f g : Setting → Move) → ((m : Setting) → KnowsMore s m → f (grown s m) ≡ g (grown s m)) → IsHoped g → IsHoped f
  hoped_as f g same h = (h.0, h.1, λ m more. same m more ∙ h.2 m more)

  hoped_ever : (a : Move) → IsHoped (λ z. a)
  hoped_ever (Goes w) = (Wished (Sure w), tt, λ m more. refl)
  hoped_ever (Closes o) = (Over o, tt, λ m more. refl)

  hoped_if : (b : Bool) (f g : Setting → Move) → IsHoped f → IsHoped g → IsHoped (λ z. if b then f z else g z)
  hoped_if true f g p q = p
  hoped_if false f g p q = q

  hoped_known : {A : Type 0} (o : Option A) (f : Setting → A → Move) → ((a : A) → IsHoped (λ z. f z a)) → IsHoped (λ z. known o (f z))
  hoped_known None f h = hoped_ever (Goes Rests)
  hoped_known (Some a) f h = h a

  go_hoped : (past : List Event) → IsPast s past → IsHoped (λ z. Goes (go z past))
  go_hoped past run = (Wished (Sure (go s past)), tt, λ m more. ap Goes (sym (same_go s m more past run)))

  choose_hoped : (status : ℕ) (t : Target) (o : Option Offer) → IsHoped (λ z. choose z status t o)
  choose_hoped status t None = hoped_ever (Closes (Refused status NoChallenge))
  choose_hoped status t (Some offered) = at (site s.request t)
    where
      at : (o : Option Site) → IsHoped (λ z. known (option_and_then (λ place. z.space_no (space_at place offered)) o) (λ space. known (terms_offered z space offered.terms) (λ terms. Goes (Calls (Select space terms)))))
      at None = hoped_ever (Goes Rests)
      at (Some place) = (Wished (Chooses (space_at place offered) offered.terms), tt, λ m more. chosen (grown s m) offered.terms (m.space_no (space_at place offered)))

  select_hoped : (past : List Event) → IsHoped (λ z. select z past)
  select_hoped past =
      hoped_known (last_reply past) (λ z reply. known (challenged z reply) (λ t. choose z reply.code t (best (supported (negotiates z past t) reply))))
      (λ reply. hoped_known (challenged s reply) (λ z t. choose z reply.code t (best (supported (negotiates s past t) reply))) (λ t. choose_hoped reply.code t (best (supported (negotiates s past t) reply))))

  renewed_hoped : (h : Held) → IsTrue (is_some (s.space_of h.gift.space)) → (stale : Bool) (offered : Option Terms) → IsHoped (λ z. renewed z h stale offered)
  renewed_hoped h k true (Some terms) = (Wished (Renews h.gift terms), k, λ m more. renewal_known h.gift (m.terms_no h.gift.space terms))
  renewed_hoped h k true None = hoped_ever (rejects h)
  renewed_hoped h k false offered = hoped_ever (rejects h)

  decided_hoped : (past : List Event) (link : ℕ) (stays : Bool) (t : Target) (h : Held) → IsTrue (is_some (s.space_of h.gift.space)) → (d : Option Decision) → IsHoped (λ z. decided z past link stays t h d)
  decided_hoped past link stays t h k None = select_hoped past
  decided_hoped past link stays t h k (Some (Negotiating peer)) = hoped_ever (negotiated t link stays h peer)
  decided_hoped past link stays t h k (Some (Offering offered)) = renewed_hoped h k offered.stale offered.terms

  weighed_hoped : (past : List Event) (link : ℕ) (reply : Reply) (t : Target) (o : Option Held) → Knows s o → IsHoped (λ z. weighed z past link reply t o)
  weighed_hoped past link reply t None k = select_hoped past
  weighed_hoped past link reply t (Some h) k =
      hoped_as (λ z. decided z past link reply.stays t h (deciding z reply t h)) (λ z. decided z past link reply.stays t h (deciding s reply t h))
      (λ m more. ap (decided (grown s m) past link reply.stays t h) (sym (decision_same s m more reply t h k.space)))
      (decided_hoped past link reply.stays t h k.space (deciding s reply t h))

  replied_hoped : (past : List Event) → IsPast s past → (link : ℕ) (reply : Reply) (t : Option Target) (before : List Event) → IsPast s before → IsHoped (λ z. replied z past link reply t before)
  replied_hoped past run link reply None before earlier = hoped_ever (Closes (Answered reply.code))
  replied_hoped past run link reply (Some t) before earlier =
      hoped_as (λ z. if is_last_round z past then Closes (Refused reply.code Rounds) else weighed z past link reply t (held z before t))
      (λ z. if is_last_round s past then Closes (Refused reply.code Rounds) else weighed z past link reply t (held s before t))
      (λ m more. ap (λ b. if b then Closes (Refused reply.code Rounds) else weighed (grown s m) past link reply t (held (grown s m) before t)) (sym (same_last s m more past run))
      ∙ ap (λ o. if is_last_round s past then Closes (Refused reply.code Rounds) else weighed (grown s m) past link reply t o) (sym (same_held s m more before earlier t)))
      (hoped_if (is_last_round s past) (λ z. Closes (Refused reply.code Rounds)) (λ z. weighed z past link reply t (held s before t))
      (hoped_ever (Closes (Refused reply.code Rounds))) (weighed_hoped past link reply t (held s before t) (known_held s before earlier t)))

  rejected_hoped : (past : List Event) → IsPast s past → (before : List Event) → IsPast s before → (t : Target) → IsHoped (λ z. rejected z past (held z before t))
  rejected_hoped past run before earlier t =
      hoped_as (λ z. rejected z past (held z before t)) (λ z. rejected s past (held s before t))
      (λ m more. sym (rejected_same s m more past run (held s before t) (held (grown s m) before t) (same_held s m more before earlier t)))
      (hoped_ever (rejected s past (held s before t)))

  stepped_hoped : (past : List Event) → IsPast s past → (step : StepSeen) (before : List Event) → IsPast s before → (t : Target) → IsHoped (λ z. stepped z past step (held z before t))
  stepped_hoped past run (Token token) before earlier t = go_hoped past run
  stepped_hoped past run (StepFailed count) before earlier t = hoped_ever _
  stepped_hoped past run StepNoMemory before earlier t = hoped_ever _
  stepped_hoped past run NoMechanism before earlier t =
      hoped_as (λ z. if has (held z before t) then rejected z past (held z before t) else select z past)
      (λ z. if has (held s before t) then rejected z past (held z before t) else select z past)
      (λ m more. ap (λ o. if has o then rejected (grown s m) past (held (grown s m) before t) else select (grown s m) past) (sym (same_held s m more before earlier t)))
      (hoped_if (has (held s before t)) (λ z. rejected z past (held z before t)) (λ z. select z past) (rejected_hoped past run before earlier t) (select_hoped past))
    where
      has : Option Held → Bool
      has o = is_some (option_and_then (λ (h : Held). h.context) o)
  stepped_hoped past run StepRefused before earlier t = rejected_hoped past run before earlier t
  stepped_hoped past run Done before earlier t = rejected_hoped past run before earlier t

  told_hoped : (past : List Event) → IsPast s past → (prompt : ℕ) (reply : BookReply) → IsHoped (λ z. told z past prompt reply)
  told_hoped past run prompt reply =
      hoped_as (λ z. told z past prompt reply) (λ z. told s past prompt reply) (λ m more. sym (told_same s m more past run prompt reply)) (hoped_ever (told s past prompt reply))

  move_hoped : (past : List Event) → IsPast s past → IsHoped (λ z. move z past)
  move_hoped [] run = hoped_ever _
  move_hoped (Called Begin reply ∷ past) run = hoped_ever _
  move_hoped (Called (Preempt Proxy) reply ∷ past) run = hoped_ever _
  move_hoped (Called (Preempt Server) reply ∷ past) run = go_hoped (Called (Preempt Server) reply ∷ past) run
  move_hoped (Called (Preempt Socks) reply ∷ past) run = go_hoped (Called (Preempt Socks) reply ∷ past) run
  move_hoped (Called (Select space terms) reply ∷ past) run = told_hoped (Called (Select space terms) reply ∷ past) run 0 reply
  move_hoped (Called (Reject space ordinal) reply ∷ past) run = select_hoped (Called (Reject space ordinal) reply ∷ past)
  move_hoped (Called (Renew gift terms) reply ∷ past) run =
      hoped_if (is_answered s past) (λ z. move z past) (λ z. Goes (go z (Called (Renew gift terms) reply ∷ past))) (move_hoped past run.0) (go_hoped (Called (Renew gift terms) reply ∷ past) run)
  move_hoped (Called (Answer prompt text terms) reply ∷ past) run = told_hoped (Called (Answer prompt text terms) reply ∷ past) run prompt reply
  move_hoped (Called (Lose prompt loss) reply ∷ past) run = told_hoped (Called (Lose prompt loss) reply ∷ past) run prompt reply
  move_hoped (Called (Take prompt) reply ∷ past) run = told_hoped (Called (Take prompt) reply ∷ past) run prompt reply
  move_hoped (Called (Note gift) reply ∷ past) run = move_hoped past run.0
  move_hoped (Called End reply ∷ past) run = move_hoped past run.0
  move_hoped (Called (Draw nonce) reply ∷ past) run = hoped_ever _
  move_hoped (AskedFor prompt seen ∷ past) run = hoped_ever (asked past prompt seen)
  move_hoped (Stepped target step ∷ past) run = stepped_hoped (Stepped target step ∷ past) run step past run.0 target
  move_hoped (Dialed link ∷ past) run = go_hoped (Dialed link ∷ past) run
  move_hoped (DialFailed link count ∷ past) run = hoped_ever _
  move_hoped (Drew target nonce count epoch ∷ past) run = go_hoped (Drew target nonce count epoch ∷ past) run
  move_hoped (Headed link bytes ∷ past) run = hoped_ever _
  move_hoped (WriteFailed link count ∷ past) run = hoped_ever _
  move_hoped (ReadFailed link count ∷ past) run = hoped_ever _
  move_hoped (Replied link reply ∷ past) run = replied_hoped (Replied link reply ∷ past) run link reply (challenged s reply) past run.0
  move_hoped (Broken link fault ∷ past) run = hoped_ever _
  move_hoped (LinkLost link ∷ past) run =
      hoped_if (list_any is_lost past) (λ z. Closes (Refused (code (LinkLost link ∷ past)) BoundLost)) (λ z. Goes (go z (LinkLost link ∷ past)))
      (hoped_ever _) (go_hoped (LinkLost link ∷ past) run)
  move_hoped (Ended outcome ∷ past) run = hoped_ever _

  -- THE CALLS AT THE END

  listed_none : AreListed (λ z. [])
  listed_none = ([], tt, λ m more. refl)

  listed_both : (f g : Setting → List (Option Call)) → AreListed f → AreListed g → AreListed (λ z. f z ++ g z)
  listed_both f g p q =
      (p.0 ++ q.0, founded_append s p.0 q.0 p.1 q.1, λ m more. ap (λ xs. xs ++ g (grown s m)) (p.2 m more) ∙ (ap (λ ys. map (call_of (grown s m)) p.0 ++ ys) (q.2 m more) ∙ sym (map-append (call_of (grown s m)) p.0 q.0)))

  -- a Digest gift has terms that are known
  renewal_listed : (h : Held) → IsKnown s h.gift h.terms → scheme_is s h.gift.space Digest ≡ true → (nonce : List ℕ) → AreListed (λ z. renewal z h nonce ∷ [])
  renewal_listed h k digest nonce = by (s.terms_of h.terms) refl (subst (λ b. IsTrue (if b then is_some (s.terms_of h.terms) else true)) digest k.terms_known)
    where
      by : (o : Option TermsName) → s.terms_of h.terms ≡ o → IsTrue (is_some o) → AreListed (λ z. renewal z h nonce ∷ [])
      by None e named = absurd (false≢true named)
      by (Some name) e named = (
        Renewing h.gift (with_nonce nonce name.terms) ∷ [],
        (k.space, tt),
        λ m more. ap (λ o. option_and_then (λ (n : TermsName). option_map (Renew h.gift) (m.terms_no h.gift.space (with_nonce nonce n.terms))) o ∷ []) (more.terms_of h.terms name e),
      )

  listed_next : (h : Held) → IsKnown s h.gift h.terms → scheme_is s h.gift.space Digest ≡ true → (o : Option (List ℕ)) → AreListed (λ z. unwrap_or (option_map (λ nonce. renewal z h nonce ∷ []) o) [])
  listed_next h k digest None = listed_none
  listed_next h k digest (Some nonce) = renewal_listed h k digest nonce

  listed_of : (past : List Event) (t : Target) (o : Option Held) → Knows s o → AreListed (λ z. unwrap_or (option_map (renewal_of z past t) o) [])
  listed_of past t None k = listed_none
  listed_of past t (Some h) k = by (scheme_is s h.gift.space Digest) refl
    where
      by_test : (b : Bool) → scheme_is s h.gift.space Digest ≡ b → AreListed (λ z. if b then unwrap_or (option_map (λ nonce. renewal z h nonce ∷ []) (next past t)) [] else []) → AreListed (λ z. renewal_of z past t h)
      by_test b e q = (
        q.0,
        q.1,
        λ m more. ap (λ x. if x then unwrap_or (option_map (λ nonce. renewal (grown s m) h nonce ∷ []) (next past t)) [] else []) (sym (scheme_same s m more h.gift.space Digest k.space) ∙ e) ∙ q.2 m more,
      )

      by : (b : Bool) → scheme_is s h.gift.space Digest ≡ b → AreListed (λ z. renewal_of z past t h)
      by true e = by_test true e (listed_next h k e (next past t))
      by false e = by_test false e listed_none

  known_carried : (past : List Event) → IsPast s past → (t : Target) → Knows s (carried s past t)
  known_carried [] run t = tt
  known_carried (Headed link bytes ∷ past) run t = known_held s past run.0 t
  known_carried (_ ∷ past) run t = known_carried past run.0 t

  listed_for : (past : List Event) → IsPast s past → (t : Target) → AreListed (λ z. renewal_for z past t)
  listed_for past run t =
      let there = listed_of past t (carried s past t) (known_carried past run t) in
      (there.0, there.1, λ m more. ap (λ o. unwrap_or (option_map (renewal_of (grown s m) past t) o) []) (sym (same_carried s m more past run t).1) ∙ there.2 m more)

  listed_if : (b : Bool) (f : Setting → List (Option Call)) → AreListed f → AreListed (λ z. if b then f z else [])
  listed_if true f q = q
  listed_if false f q = listed_none

  listed_renewals : (past : List Event) → IsPast s past → (o : Outcome) → AreListed (λ z. renewals z past o)
  listed_renewals past run (Answered status) =
      let both = listed_both (λ z. renewal_for z past Proxy) (λ z. renewal_for z past Server) (listed_for past run Proxy) (listed_for past run Server) in
      let there = listed_if (is_answered s past && nat_le (rounds s past) 14) (λ z. renewal_for z past Proxy ++ renewal_for z past Server) both in (
        there.0,
        there.1,
        λ m more. ap (λ n. if is_answered s past && nat_le n 14 then renewal_for (grown s m) past Proxy ++ renewal_for (grown s m) past Server else []) (sym (same_rounds s m more past run)) ∙ there.2 m more,
      )
  listed_renewals past run _ = listed_none

  listed_closings : (past : List Event) → IsPast s past → (o : Outcome) → AreListed (λ z. closings z past o)
  listed_closings past run o =
      listed_both (λ z. renewals z past o) (λ z. map Some (notes z past o ++ End ∷ [])) (listed_renewals past run o) (
        map (λ c. Fixed (Some c)) (notes s past o ++ End ∷ []),
        founded_fixed s (notes s past o ++ End ∷ []),
        λ m more. ap (λ n. map Some (n ++ End ∷ [])) (sym (same_notes s m more past run o)) ∙ fixed_map (grown s m) (notes s past o ++ End ∷ []),
      )

  -- WHAT COMES NEXT

  abbrev pub IsWished : (Setting → Want) → Type 0
  IsWished f = (x : Wish) × IsFounded s x × ((m : Setting) → KnowsMore s m → f (grown s m) ≡ granted (grown s m) x)

  next_wished : (o : Outcome) (items : List Item) → AreFounded s items → IsWished (λ z. next_closing o (map (call_of z) items))
  next_wished o [] f = (Sure (Ends o), tt, λ m more. refl)
  next_wished o (i ∷ items) f = (wish_of i, f.0, λ m more. item_granted (grown s m) o i (map (call_of (grown s m)) items))

  close_wished : (past : List Event) → IsPast s past → (o : Outcome) → IsWished (λ z. close z past o)
  close_wished past run o =
      let items = listed_closings past run o in
      let there = next_wished o (drop (closings_made s past) items.0) (founded_drop s (closings_made s past) items.0 items.1) in (
        there.0,
        there.1,
        λ m more. ap (λ n. next_closing o (drop n (closings (grown s m) past o))) (sym (same_made s m more past))
            ∙ (ap (λ cs. next_closing o (drop (closings_made s past) cs)) (items.2 m more)
            ∙ (ap (next_closing o) (drop_map (call_of (grown s m)) (closings_made s past) items.0) ∙ there.2 m more)),
      )

  -- behind a past the same is wished for, whatever more is known
  pub wished : (past : List Event) → IsPast s past → IsWished (λ z. want z past)
  wished past run = at (move_hoped past run)
    where
      at : IsHoped (λ z. move z past) → IsWished (λ z. want z past)
      at (Wished x, f, h) = (x, f, λ m more. ap (carried_out (grown s m) past) (h m more))
      at (Over o, f, h) = let there = close_wished past run o in (there.0, there.1, λ m more. ap (carried_out (grown s m) past) (h m more) ∙ there.2 m more)
