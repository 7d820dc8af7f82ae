-- What a setting has to say so that an answer to a need is true of it.
use Rattle.std.specs.Prelude.{ℕ, Bool, true, false, List, ◌∷◌, ◌≡◌, ◌==◌, IsTrue, IfSome, Some, if◌then◌else◌}
use Rattle.auth_text.specs.Login.{Login}
use Rattle.spaces.specs.declared.site.Target.{Target}
use Rattle.spaces.specs.ProtectionSpaces.{ProtectionSpace}
use Rattle.auth_events.specs.declared.journal.Call.TheVariants.{Begin, Preempt, Select, Reject, Renew, Answer, Lose, Take, End as CallEnd}
use Rattle.auth_events.specs.declared.journal.Call.{Call}
use Rattle.auth_events.specs.declared.journal.BookReply.{BookReply}
use Rattle.auth_events.specs.declared.journal.BookReply.TheVariants.{Given, Cancelled, Lost, Ended as RequestEnded}
use Rattle.auth_events.specs.declared.journal.Loss.TheVariants.{Memory}
use Rattle.auth_events.specs.declared.journal.Drawn.{Drawn as CountDrawn}
use Rattle.auth_events.specs.Pages.{fits}
use Rattle.auth_runs.specs.declared.event.Event.{Event}
use Rattle.auth_runs.specs.declared.event.Event.TheVariants.{Called, Drew}
use Rattle.spaces.specs.declared.site.Target.TheVariants.{Server, Proxy}
use Rattle.trace_rule.specs.Settings.{Setting}
use Rattle.trace_rule.specs.Traces.{suits}
use Rattle.request_machine.specs.declared.holding.NamedTerms.{NamedTerms}
use Rattle.request_machine.specs.declared.gave.Gave.{Gave}
use Rattle.request_machine.specs.declared.gave.Gave.TheVariants.{Reply, Number, Ref, Identity, Terms, Space, Drawn}
use Rattle.request_machine.specs.declared.stage.Piece.TheVariants.{Space as OfSpace, Identity as OfIdentity, Terms as OfTerms}
use Rattle.request_machine.specs.declared.stage.Stage.{Stage}
use Rattle.request_machine.specs.declared.stage.Stage.TheVariants.{Call as Calling, Learn, Draw, Ask, Spent, SpentEnd, NameSpace, NameTerms, NameRenewal, NameLast, Renew as Renewing, RenewLast, Select as Selecting, Answer as Answering, Cancel as Cancelling, Lose as Losing, Take as Taking, Reject as Rejecting, Close}
use Rattle.request_machine.specs.Kept.{Kept, terms_kept}
use Rattle.request_machine.specs.Changed.{holding}
use Rattle.request_machine.specs.Needs.{first_left}

-- the reply suits the call that was asked for
abbrev pub IsReplyTo : Setting → Kept → Stage → BookReply → Type 0
IsReplyTo s m (Calling call) reply = IsTrue (suits s m.past call reply)
IsReplyTo s m (Selecting t n k) reply = IsTrue (suits s m.past (Select n k) reply)
IsReplyTo s m (Answering p text) reply = IsTrue (suits s m.past (Answer p.number text p.terms) reply)
IsReplyTo s m (Cancelling p) reply = IsTrue (suits s m.past (Answer p.number 0 p.terms) reply)
IsReplyTo s m (Losing p loss) reply = IsTrue (suits s m.past (Lose p.number loss) reply)
IsReplyTo s m (Taking p) reply = IsTrue (suits s m.past (Take p.number) reply)
IsReplyTo s m (Rejecting t gift) reply = IsTrue (suits s m.past (Reject gift.space gift.ordinal) reply)
IsReplyTo s m (Renewing t gift terms) reply = IsTrue (suits s m.past (Renew gift terms) reply)
IsReplyTo s m (RenewLast t gift terms c) reply = IsTrue (suits s m.past (Renew gift terms) reply)
IsReplyTo s m (Close c) reply = IsTrue (suits s m.past (first_left c.proxy c.server) reply)
IsReplyTo s m stage reply = Unit {0}

-- what was told of what is held is so
abbrev pub IsSpaceTold : Setting → Kept → Target → ProtectionSpace → Type 0
IsSpaceTold s m t space = IfSome (holding m t) (λ h. s.space_of h.gift.space ≡ Some space)

abbrev pub IsIdentityTold : Setting → Kept → Target → Login → Type 0
IsIdentityTold s m t identity = IfSome (holding m t) (λ h. s.identity_of h.gift ≡ Some identity)

abbrev pub IsTermsTold : Setting → Kept → Target → NamedTerms → Type 0
IsTermsTold s m t named = IfSome (holding m t) (λ h. s.terms_of h.terms ≡ Some (terms_kept h named))

-- the number is that of the space that was to be named
abbrev pub IsSpaceNamed : Setting → Kept → ℕ → Type 0
IsSpaceNamed s m n = IfSome m.unnamed_space (λ space. (s.space_no space ≡ Some n) × (s.space_of n ≡ Some space))

-- the number is that of the terms that were to be named, in that space
abbrev pub AreTermsNamed : Setting → Kept → ℕ → ℕ → Type 0
AreTermsNamed s m space n = IfSome m.unnamed_terms (λ terms. s.terms_no space terms ≡ Some n)

-- a text may have any number
abbrev pub IsNumberTold : Setting → Kept → Stage → ℕ → Type 0
IsNumberTold s m (NameSpace t) n = IsSpaceNamed s m n
IsNumberTold s m stage n = Unit {0}

abbrev pub AreTermsNumbered : Setting → Kept → Stage → ℕ → Type 0
AreTermsNumbered s m (NameTerms t space) n = AreTermsNamed s m space n
AreTermsNumbered s m (NameRenewal t gift) n = AreTermsNamed s m gift.space n
AreTermsNumbered s m (NameLast t gift c) n = AreTermsNamed s m gift.space n
AreTermsNumbered s m stage n = Unit {0}

abbrev pub IsTold : Setting → Kept → Stage → Gave → Type 0
IsTold s m stage (Reply reply) = IsReplyTo s m stage reply
IsTold s m stage (Number n) = IsNumberTold s m stage n
IsTold s m stage (Ref numbers) = AreTermsNumbered s m stage numbers.terms
IsTold s m (Learn t OfSpace) (Space space) = IsSpaceTold s m t space
IsTold s m (Learn t OfIdentity) (Identity identity) = IsIdentityTold s m t identity
IsTold s m (Learn t OfTerms) (Terms terms nonce) = IsTermsTold s m t (record { terms = terms; nonce = nonce })
IsTold s m (Ask p ordinal) (Space space) = s.space_of p.space ≡ Some space
IsTold s m stage gave = Unit {0}

-- WHAT IS HEARD

abbrev pub is_given : BookReply → Bool
is_given (Given gift evicted) = true
is_given _ = false

abbrev pub is_cancelled : BookReply → Bool
is_cancelled Cancelled = true
is_cancelled _ = false

-- the call to which a reply is awaited
abbrev pub call_at : Stage → Call
call_at (Calling call) = call
call_at (Selecting t n k) = Select n k
call_at (Answering p text) = Answer p.number text p.terms
call_at (Cancelling p) = Answer p.number 0 p.terms
call_at (Losing p loss) = Lose p.number loss
call_at (Taking p) = Take p.number
call_at (Rejecting t gift) = Reject gift.space gift.ordinal
call_at (Renewing t gift terms) = Renew gift terms
call_at (RenewLast t gift terms c) = Renew gift terms
call_at (Close c) = first_left c.proxy c.server
call_at stage = CallEnd

-- the reply fits the call that was asked for; a text gives a gift, and no text cancels
abbrev pub is_heard : Stage → BookReply → Bool
is_heard (Calling Begin) reply = true
is_heard (Calling (Preempt Proxy)) reply = true
is_heard (Calling (Preempt Server)) reply = true
is_heard (Selecting t n k) reply = fits (Select n k) reply
is_heard (Answering p text) reply = is_given reply
is_heard (Cancelling p) reply = is_cancelled reply
is_heard (Losing p loss) reply = fits (Lose p.number loss) reply
is_heard (Taking p) reply = fits (Take p.number) reply
is_heard (Rejecting t gift) reply = true
is_heard (Renewing t gift terms) reply = true
is_heard (RenewLast t gift terms c) reply = true
is_heard (Close c) reply = true
is_heard stage reply = false

-- what a past becomes by the reply to the call that was asked for; where memory ran out there is one reply to each
abbrev pub past_replied : Kept → Stage → BookReply → List Event
past_replied m Spent reply = (if m.prompt == 0 then Called CallEnd RequestEnded else Called (Lose m.prompt Memory) (Lost Memory)) ∷ m.past
past_replied m SpentEnd reply = Called CallEnd RequestEnded ∷ m.past
past_replied m stage reply = if is_heard stage reply then Called (call_at stage) reply ∷ m.past else m.past

-- and by the count that was drawn
abbrev pub past_drawn : Kept → Stage → CountDrawn → List Event
past_drawn m (Draw Proxy nonce) drawn = Drew Proxy nonce drawn.count drawn.epoch ∷ m.past
past_drawn m (Draw Server nonce) drawn = Drew Server nonce drawn.count drawn.epoch ∷ m.past
past_drawn m stage drawn = m.past

-- what the past becomes by what the caller gives
abbrev pub past_given : Kept → Gave → List Event
past_given m (Reply reply) = past_replied m m.stage reply
past_given m (Drawn drawn) = past_drawn m m.stage drawn
past_given m gave = m.past
