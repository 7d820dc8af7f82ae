-- What a request holds was told to it.
use Rattle.std.proofs.Common.{◌≡◌, ◌⊎◌, inl, inr, ℕ, Bool, true, false, ◌&&◌, ◌||◌, ◌==◌, IsTrue, List, [], ◌∷◌, drop, Option, Some, None, is_some, option_and_then, option_map, refl, sym, ap, ◌∙◌, subst, if◌then◌else◌}
use Rattle.std.specs.List.{list_any}
use Rattle.std.proofs.lemmas.Bool.{false≢true, eq-eqb}
use Rattle.spaces.specs.declared.site.Target.{Target}
use Rattle.spaces.specs.Sites.{same_target}
use Rattle.auth_events.specs.declared.journal.Gift.{Gift}
use Rattle.auth_events.specs.declared.journal.Call.{Call}
use Rattle.auth_events.specs.declared.journal.Call.TheVariants.{Begin, Preempt, Select, Reject, Renew, Answer, Lose, Take}
use Rattle.auth_events.specs.declared.journal.BookReply.{BookReply}
use Rattle.auth_events.specs.declared.journal.BookReply.TheVariants.{Ready, Url, Cached, Default, Given, Gave}
use Rattle.auth_events.specs.Past.{selects}
use Rattle.auth_events.specs.Book.{is_that_gift, gift_told, is_default}
use Rattle.link_trait.specs.declared.steps.StepSeen.{StepSeen}
use Rattle.link_trait.specs.declared.steps.StepSeen.TheVariants.{Token, NoMechanism}
use Rattle.auth_runs.specs.declared.event.Event.{Event}
use Rattle.auth_runs.specs.declared.event.Event.TheVariants.{Called, Drew, Headed, Replied, LinkLost, Stepped}
use Rattle.trace_rule.specs.Settings.{Setting, target_is}
use Rattle.trace_rule.specs.Holding.{Held, held, carried, held_called, held_ready, held_selected, held_prompted, held_drew, held_stepped, held_headed, held_replied, held_lost, gift_held, terms_followed}
use Rattle.trace_rule.specs.Closings.{want}
use Rattle.trace_rule.specs.Traces.{IsPast, Follows}
use Rattle.trace_rule.specs.Entries.{Made, calls}
use Rattle.trace_rule.proofs.EndCalls.{IsFrom, made_from}
use Rattle.trace_rule.proofs.Reasons.{Reason, reason, MadeBy, made_by}
use Rattle.trace_rule.proofs.Reasons.MadeBy.{wanted, answers, at_end}
use Rattle.trace_rule.proofs.Reasons.Reason.{begins, preempts, preempts_server, selects as selects_space, is_rejected, is_renewed, cancels, loses, takes}

-- the call's reply told the gift
abbrev pub tells : Gift → Made → Bool
tells gift made = is_that_gift (gift_told made.reply) gift

-- the call's reply was the default identity of the space
abbrev pub defaults : ℕ → Made → Bool
defaults space made = is_default made.reply && selects made.call space

abbrev pub WasTold : Gift → List Made → Type 0
WasTold gift made = IsTrue (list_any (tells gift) made) ⊎ (gift.ordinal ≡ 0) × IsTrue (list_any (defaults gift.space) made)

abbrev pub AreTold : Option Held → List Made → Type 0
AreTold None made = Unit {0}
AreTold (Some h) made = WasTold h.gift made

pub or_true : (a b : Bool) → IsTrue b → IsTrue (a || b)
or_true true b h = refl
or_true false b h = h

same_gift_refl : (gift : Gift) → IsTrue (is_that_gift (Some gift) gift)
same_gift_refl gift = ap (λ b. b && (gift.ordinal == gift.ordinal)) (eq-eqb gift.space gift.space refl) ∙ eq-eqb gift.ordinal gift.ordinal refl

told_later : (gift : Gift) (made : Made) (earlier : List Made) → WasTold gift earlier → WasTold gift (made ∷ earlier)
told_later gift made earlier (inl told) = inl (or_true (tells gift made) (list_any (tells gift) earlier) told)
told_later gift made earlier (inr (zero, told)) = inr (zero, or_true (defaults gift.space made) (list_any (defaults gift.space) earlier) told)

told_now : (gift : Gift) (made : Made) (earlier : List Made) → IsTrue (tells gift made) → WasTold gift (made ∷ earlier)
told_now gift made earlier now = inl (ap (λ b. b || list_any (tells gift) earlier) now)

are_told_later : (o : Option Held) (made : Made) (earlier : List Made) → AreTold o earlier → AreTold o (made ∷ earlier)
are_told_later None made earlier told = tt
are_told_later (Some h) made earlier told = told_later h.gift made earlier told

told_if : (b : Bool) (x y : Option Held) (made : List Made) → AreTold x made → AreTold y made → AreTold (if b then x else y) made
told_if true x y made p q = p
told_if false x y made p q = q

ready_told : (call : Call) (reply : BookReply) (before : Option Held) (earlier : List Made) → AreTold before earlier → AreTold (held_ready reply before) (record { call = call; reply = reply } ∷ earlier)
ready_told call (Ready gift terms epoch) before earlier told = told_now gift (record { call = call; reply = Ready gift terms epoch }) earlier (same_gift_refl gift)
ready_told call reply before earlier told = are_told_later before (record { call = call; reply = reply }) earlier told

choice_told : (space terms : ℕ) (reply : BookReply) (before : Option Held) (earlier : List Made) → AreTold before earlier → AreTold (held_selected space terms reply before) (record { call = Select space terms; reply = reply } ∷ earlier)
choice_told space terms (Url gift evicted) before earlier told = told_now gift (record { call = Select space terms; reply = Url gift evicted }) earlier (same_gift_refl gift)
choice_told space terms (Cached gift) before earlier told = told_now gift (record { call = Select space terms; reply = Cached gift }) earlier (same_gift_refl gift)
choice_told space terms Default before earlier told = inr (refl, ap (λ b. b || list_any (defaults space) earlier) (eq-eqb space space refl))
choice_told space terms reply before earlier told = are_told_later before (record { call = Select space terms; reply = reply }) earlier told

prompt_told : (s : Setting) (t : Target) (terms : ℕ) (call : Call) (reply : BookReply) (before : Option Held) (earlier : List Made) → AreTold before earlier → AreTold (held_prompted s t terms reply before) (record { call = call; reply = reply } ∷ earlier)
prompt_told s t terms call (Given gift evicted) before earlier told =
    told_if (target_is s gift.space t) (gift_held gift terms None) before (record { call = call; reply = Given gift evicted } ∷ earlier)
    (told_now gift (record { call = call; reply = Given gift evicted }) earlier (same_gift_refl gift)) (are_told_later before (record { call = call; reply = Given gift evicted }) earlier told)
prompt_told s t terms call (Gave gift) before earlier told =
    told_if (target_is s gift.space t) (gift_held gift terms None) before (record { call = call; reply = Gave gift } ∷ earlier)
    (told_now gift (record { call = call; reply = Gave gift }) earlier (same_gift_refl gift)) (are_told_later before (record { call = call; reply = Gave gift }) earlier told)
prompt_told s t terms call reply before earlier told = are_told_later before (record { call = call; reply = reply }) earlier told

-- the calls of a past go on
abbrev IsCalls : Event → List Event → Type 0
IsCalls event before = (past : List Event) → past ≡ event ∷ before → (gift : Gift) → WasTold gift (calls before) → WasTold gift (calls past)

pub calls_go_on : (event : Event) (before : List Event) (gift : Gift) → WasTold gift (calls before) → WasTold gift (calls (event ∷ before))
calls_go_on (Called call reply) before gift told = told_later gift (record { call = call; reply = reply }) (calls before) told
calls_go_on _ before gift told = told

held_told : (o : Option Held) (h : Held) (made : List Made) → o ≡ Some h → AreTold o made → WasTold h.gift made
held_told o h made e told = subst (λ x. AreTold x made) e told

abbrev is_renew : Call → Bool
is_renew (Renew gift terms) = true
is_renew _ = false

no_renew : {P : Type 0} (gift : Gift) (terms : ℕ) (call : Call) → is_renew call ≡ false → Renew gift terms ≡ call → P
no_renew gift terms call other e = absurd (false≢true (sym other ∙ sym (ap is_renew e)))

-- what is renewed was held
renewed_told : (s : Setting) (past : List Event) (gift : Gift) (terms : ℕ) → ((t : Target) (before : List Event) (event : Event) → past ≡ event ∷ before → AreTold (held s before t) (calls before))
    → Reason s past (Renew gift terms) → WasTold gift (calls past)
renewed_told s past gift terms told (is_renewed link reply before t h offered ts number p q d o n e behind) =
    let same : gift ≡ h.gift = ap gift_of e in
    subst (λ g. WasTold g (calls past)) (sym same)
    (subst (λ x. WasTold h.gift (calls x)) (sym p) (calls_go_on (Replied link reply) before h.gift (held_told (held s before t) h (calls before) q (told t before (Replied link reply) p))))
  where
    gift_of : Call → Gift
    gift_of (Renew g x) = g
    gift_of _ = gift
renewed_told s past gift terms told (begins p e) = no_renew gift terms Begin refl e
renewed_told s past gift terms told (preempts reply before p e) = no_renew gift terms _ refl e
renewed_told s past gift terms told (preempts_server reply before p e) = no_renew gift terms _ refl e
renewed_told s past gift terms told (selects_space space number e c k) = no_renew gift terms (Select space number) refl e
renewed_told s past gift terms told (is_rejected event before t h p q e behind) = no_renew gift terms (Reject h.gift.space h.gift.ordinal) refl e
renewed_told s past gift terms told (cancels p before q e) = no_renew gift terms _ refl e
renewed_told s past gift terms told (loses p seen loss before q e) = no_renew gift terms (Lose p loss) refl e
renewed_told s past gift terms told (takes made p before q e) = no_renew gift terms (Take p) refl e

-- THE CALLS

called_told : (s : Setting) (t : Target) (past : List Event) (call : Call) (reply : BookReply) (before : Option Held) → ((gift : Gift) (terms : ℕ) → call ≡ Renew gift terms → WasTold gift (calls past)) → AreTold before (calls past)
    → AreTold (held_called s t past call reply before) (record { call = call; reply = reply } ∷ calls past)
called_told s t past (Preempt target) reply before renew told =
    told_if (same_target target t) (held_ready reply before) before (record { call = Preempt target; reply = reply } ∷ calls past) (ready_told (Preempt target) reply before (calls past) told) (are_told_later before _ (calls past) told)
called_told s t past (Select space terms) reply before renew told =
    told_if (target_is s space t) (held_selected space terms reply before) before (record { call = Select space terms; reply = reply } ∷ calls past) (choice_told space terms reply before (calls past) told) (are_told_later before _ (calls past) told)
called_told s t past (Reject space ordinal) reply before renew told =
    told_if (target_is s space t) None before (record { call = Reject space ordinal; reply = reply } ∷ calls past) tt (are_told_later before _ (calls past) told)
called_told s t past (Renew gift terms) reply before renew told =
    told_if (target_is s gift.space t) (gift_held gift terms None) before (record { call = Renew gift terms; reply = reply } ∷ calls past)
    (told_later gift (record { call = Renew gift terms; reply = reply }) (calls past) (renew gift terms refl)) (are_told_later before _ (calls past) told)
called_told s t past (Answer prompt text terms) reply before renew told = prompt_told s t terms (Answer prompt text terms) reply before (calls past) told
called_told s t past (Take prompt) reply before renew told = prompt_told s t (terms_followed past prompt) (Take prompt) reply before (calls past) told
called_told s t past call reply before renew told = are_told_later before (record { call = call; reply = reply }) (calls past) told

then_told : (f : Held → Option Held) (made : List Made) → ((h : Held) → WasTold h.gift made → AreTold (f h) made) → (o : Option Held) → AreTold o made → AreTold (option_and_then f o) made
then_told f made keeps None told = tt
then_told f made keeps (Some h) told = keeps h told

changed_told : (f : Held → Held) (made : List Made) → ((h : Held) → WasTold h.gift made → WasTold (f h).gift made) → (o : Option Held) → AreTold o made → AreTold (option_map f o) made
changed_told f made keeps None told = tt
changed_told f made keeps (Some h) told = keeps h told

stepped_told : (step : StepSeen) (h : Held) (made : List Made) → WasTold h.gift made → AreTold (held_stepped step h) made
stepped_told (Token token) h made told = told
stepped_told NoMechanism h made told = told_if (is_some h.context) (Some h) None made told tt
stepped_told _ h made told = told

-- behind one event more, by what was held before
abbrev TailTold : Setting → List Event → Type 0
TailTold s past = (t : Target) (before : List Event) (event : Event) → past ≡ event ∷ before → AreTold (held s before t) (calls before)

abbrev CarriedTold : Setting → List Event → Type 0
CarriedTold s past = (t : Target) → AreTold (carried s past t) (calls past)

-- what is renewed, behind a stale challenge or at the end, was held
renewal_told : (s : Setting) (past : List Event) → IsPast s past → TailTold s past → CarriedTold s past → (call : Call) (reply : BookReply) → Follows s past (want s past) (Called call reply)
    → (gift : Gift) (terms : ℕ) → call ≡ Renew gift terms → WasTold gift (calls past)
renewal_told s past run tail carry call reply next gift terms e = at (made_by s past call reply next)
  where
    from : IsFrom s past (Renew gift terms) → WasTold gift (calls past)
    from (t, h, ts, c, same, found, digest) = subst (λ g. WasTold g (calls past)) (sym same) (held_told (carried s past t) h (calls past) c (carry t))

    at : MadeBy s past call → WasTold gift (calls past)
    at (wanted m) = renewed_told s past gift terms tail (subst (Reason s past) e (reason s past run call m))
    at (answers p text ts k m) = no_renew gift terms (Answer p text ts) refl (sym e ∙ k)
    at (at_end o m k) = from (subst (IsFrom s past) e (made_from s past o call reply m next))

told_step : (s : Setting) (event : Event) (past : List Event) → IsPast s (event ∷ past) → TailTold s past → CarriedTold s past → ((t : Target) → AreTold (held s past t) (calls past)) → (t : Target) → AreTold (held s (event ∷ past) t) (calls (event ∷ past))
told_step s (Called call reply) past run tail carry told t =
    called_told s t past call reply (held s past t)
    (λ gift terms e. renewal_told s past run.0 tail carry call reply run.1 gift terms e) (told t)
told_step s (Drew target nonce count epoch) past run tail carry told t =
    told_if (same_target target t) (option_and_then (held_drew epoch) (held s past t)) (held s past t) (calls past)
    (then_told (held_drew epoch) (calls past) (λ h k. told_if _ (Some h) None (calls past) k tt) (held s past t) (told t)) (told t)
told_step s (Stepped target step) past run tail carry told t =
    told_if (same_target target t) (option_and_then (held_stepped step) (held s past t)) (held s past t) (calls past)
    (then_told (held_stepped step) (calls past) (λ h k. stepped_told step h (calls past) k) (held s past t) (told t)) (told t)
told_step s (Headed link bytes) past run tail carry told t = changed_told (held_headed link) (calls past) (λ h k. k) (held s past t) (told t)
told_step s (Replied link reply) past run tail carry told t =
    then_told (held_replied s t reply) (calls past) (λ h k. told_if _ None (Some h) (calls past) tt k) (held s past t) (told t)
told_step s (LinkLost link) past run tail carry told t = changed_told held_lost (calls past) (λ h k. k) (held s past t) (told t)
told_step s _ past run tail carry told t = told t

-- what the last head carried was told
carried_step : (s : Setting) (event : Event) (past : List Event) → ((t : Target) → AreTold (held s past t) (calls past)) → CarriedTold s past → CarriedTold s (event ∷ past)
carried_step s (Headed link bytes) past told carry t = told t
carried_step s (Called call reply) past told carry t = are_told_later (carried s past t) (record { call = call; reply = reply }) (calls past) (carry t)
carried_step s _ past told carry t = carry t

all_told : (s : Setting) (past : List Event) → IsPast s past → ((t : Target) → AreTold (held s past t) (calls past)) × TailTold s past × CarriedTold s past
all_told s [] run = (λ t. tt, λ t before event e. let clash : [] ≡ event ∷ before = e in cc, λ t. tt)
all_told s (event ∷ past) run =
    let earlier = all_told s past run.0 in (
      λ t. told_step s event past run earlier.1 earlier.2 earlier.0 t,
      λ t before e same. subst (λ x. AreTold (held s x t) (calls x)) (ap (drop 1) same) (earlier.0 t),
      carried_step s event past earlier.0 earlier.2,
    )

pub told_held : (s : Setting) (past : List Event) → IsPast s past → (t : Target) → AreTold (held s past t) (calls past)
told_held s past run = (all_told s past run).0

pub told_carried : (s : Setting) (past : List Event) → IsPast s past → (t : Target) → AreTold (carried s past t) (calls past)
told_carried s past run = (all_told s past run).2
