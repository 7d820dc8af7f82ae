-- What a machine keeps, and what that says of its request's past.
use Rattle.std.specs.Prelude.{ℕ, ◌≡◌, ◌⊎◌, Bool, true, false, not, IsTrue, ◌==◌, List, [], ◌∷◌, ◌++◌, drop, map, Option, Some, None, IsSome, option_map, option_and_then, if◌then◌else◌, IfSome}
use Rattle.std.specs.List.{list_any}
use Rattle.spaces.specs.declared.roster.Request.{Request}
use Rattle.spaces.specs.declared.roster.Roster.{Roster}
use Rattle.spaces.specs.declared.site.Target.{Target}
use Rattle.spaces.specs.declared.site.Target.TheVariants.{Server, Proxy, Socks}
use Rattle.spaces.specs.declared.terms.Terms.{Terms}
use Rattle.auth_events.specs.declared.journal.Gift.{Gift}
use Rattle.auth_events.specs.declared.journal.Call.{Call}
use Rattle.auth_events.specs.declared.journal.Call.TheVariants.{Begin, Select, Reject, Renew, Answer, Lose, Take, Note, End as CallEnd}
use Rattle.auth_events.specs.declared.journal.BookReply.TheVariants.{Ended as RequestEnded}
use Rattle.auth_events.specs.declared.names.TermsName.{TermsName}
use Rattle.auth_runs.specs.declared.event.Event.{Event}
use Rattle.auth_runs.specs.declared.event.Event.TheVariants.{Called}
use Rattle.trace_rule.specs.Settings.{Setting, is_proxied, is_by_path, target_is}
use Rattle.spaces.specs.Sites.{same_target, numbered, site}
use Rattle.trace_rule.specs.Holding.{Held, held, held_headed, carried, links, heads, code, has_link, stays, is_lost, is_no_mechanism, terms_followed, last_reply, negotiates}
use Rattle.trace_rule.specs.Challenges.{Offer, challenged, supported, best, space_at}
use Rattle.wire_head.specs.declared.reply.Reply.{Reply}
use Rattle.trace_rule.specs.Holding.{Context as HeldContext}
use Rattle.trace_rule.specs.Heads.{drawn}
use Rattle.trace_rule.specs.Moves.{move, go, select, known, rounds, terms_led, is_answered, space_offered}
use Rattle.trace_rule.specs.Closings.{want, closings, closings_made, renewal_for}
use Rattle.trace_rule.specs.Moves.Want.{Calls, Answers, Asks, Steps, Draws, Reads, Loses, Ends}
use Rattle.trace_rule.specs.Moves.Asking.{GoOn}
use Rattle.trace_rule.specs.Moves.Move.{Goes, Closes}
use Rattle.trace_rule.specs.Traces.{IsPast, IsRun, IsCut, may_cut, is_end, prompt_open, space_prompted, with_loss}
use Rattle.trace_rule.specs.Telling.{ask_of}
use Rattle.link_trait.specs.declared.prompts.Ask.{Ask as Asked}
use Rattle.spaces.specs.ProtectionSpaces.{ProtectionSpace}
use Rattle.auth_text.specs.Login.{Login}
use Rattle.link_trait.specs.declared.links.LinkName.{LinkName}
use Rattle.link_trait.specs.Links.{has_link as has_link_name}
use Rattle.request_machine.specs.declared.holding.Context.{Context}
use Rattle.request_machine.specs.declared.holding.NamedTerms.{NamedTerms}
use Rattle.request_machine.specs.declared.holding.Holding.{Holding}
use Rattle.auth_runs.specs.declared.event.Outcome.{Outcome}
use Rattle.request_machine.specs.Told.{IsReady, IsLack, IsLive, token_kept, is_first}
use Rattle.request_machine.specs.declared.stage.Closing.{Closing}
use Rattle.request_machine.specs.declared.stage.Prompt.{Prompt}
use Rattle.request_machine.specs.declared.stage.Stage.{Stage}
use Rattle.request_machine.specs.declared.stage.Stage.TheVariants.{Call as Calling, Go, Learn, Draw, Choose, NameSpace, NameTerms, Select as Selecting, Ask, NameText, Answer as Answering, Cancel as Cancelling, Lose as Losing, Take as Taking, Reject as Rejecting, NameRenewal, Renew as Renewing, Continue, LoseLink, Read, NextNonce, NameLast, RenewLast, Close, End, Spent, SpentEnd, SpentOver, Over}

pub record Kept : Type 0 where
  pub number : ℕ
  pub seed : List ℕ
  -- the route has a proxy
  pub is_proxied : Bool
  -- what has happened, the latest first
  pub past : List Event
  pub stage : Stage
  -- what is held for each target
  pub proxy : Option Holding
  pub server : Option Holding
  -- the count that was drawn for each target since the last head
  pub drawn_proxy : Option ℕ
  pub drawn_server : Option ℕ
  -- the Basic or Digest gift that the last head carried for each target
  pub noted_proxy : Option Gift
  pub noted_server : Option Gift
  -- how many links were dialed, heads written and rounds made
  pub links : ℕ
  pub heads : ℕ
  pub rounds : ℕ
  -- the code of the last reply, or 0
  pub code : ℕ
  -- a link was dialed since the last head
  pub is_dialed : Bool
  -- the last reply over the link that was dialed last lets it stay
  pub stays : Bool
  -- a link was lost
  pub has_lost : Bool
  -- the provider said that there is no mechanism
  pub has_none : Bool
  -- the prompt that the request leads and that isn't settled, or 0
  pub prompt : ℕ
  -- the identity that the prompter gave, until it is named
  pub given : Option Login
  -- the peer's token, until the provider has answered it
  pub peer : Option (List ℕ)
  -- the space and the terms that are to be named
  pub unnamed_space : Option ProtectionSpace
  pub unnamed_terms : Option Terms
  -- the space of the prompt that is asked next, once the book has told it
  pub space : Option ProtectionSpace
  -- the link that is open
  pub link : Option LinkName

-- what is held for the target
abbrev pub holding : Kept → Target → Option Holding
holding m Proxy = m.proxy
holding m Server = m.server
holding m Socks = None

-- there is a link, and it is one of those that are open
abbrev pub IsLinkOpen : Option LinkName → List LinkName → Type 0
IsLinkOpen None opened = ⊥
IsLinkOpen (Some link) opened = has_link_name link opened ≡ true

-- the setting is of this request
pub record IsOf (s : Setting) (request : Request) (number : ℕ) (seed : List ℕ) : Type 0 where
  pub same_number : s.number ≡ number
  pub same_request : s.request ≡ request
  pub same_seed : s.seed ≡ seed
  -- `negotiate` challenges are passed over
  pub passes_over : s.has_negotiate ≡ false

-- the setting is of the numbered request of the roster
pub record IsSettingOf (s : Setting) (roster : Roster) (number : ℕ) (seed : List ℕ) : Type 0 where
  pub same_number : s.number ≡ number
  pub is_request : numbered roster.requests number ≡ Some s.request
  pub same_seed : s.seed ≡ seed
  -- `negotiate` challenges are passed over
  pub passes_over : s.has_negotiate ≡ false

-- WHAT IS HELD

abbrev pub context_kept : Context → HeldContext
context_kept context = record { token = token_kept context.token; is_sent = context.is_sent; link = context.link }

-- the number is one of a space of the target
abbrev pub IsOfTarget : Setting → ℕ → Target → Type 0
IsOfTarget s space t = (x : Target) → target_is s space x ≡ same_target x t

-- what the rule says is held
abbrev pub held_kept : Holding → Held
held_kept h = record { gift = h.gift; terms = h.terms; preemptive = h.preemptive; context = option_map context_kept h.context }

abbrev pub terms_kept : Holding → NamedTerms → TermsName
terms_kept h named = record { space = h.gift.space; terms = named.terms; nonce = named.nonce }

-- what the machine was told of it is what the setting says
pub record IsKnown (s : Setting) (h : Holding) : Type 0 where
  pub space : IfSome h.space (λ space. s.space_of h.gift.space ≡ Some space)
  pub identity : IfSome h.identity (λ identity. s.identity_of h.gift ≡ Some identity)
  pub named : IfSome h.named (λ named. s.terms_of h.terms ≡ Some (terms_kept h named))

pub record IsHeld (s : Setting) (past : List Event) (t : Target) (h : Option Holding) : Type 0 where
  pub is_held : held s past t ≡ option_map held_kept h
  pub is_known : IfSome h (IsKnown s)
  pub of_target : IfSome h (λ o. IsOfTarget s o.gift.space t)

-- the Basic or Digest gift that the last head carried for the target
abbrev pub gift_by_path : Setting → Held → Option Gift
gift_by_path s h = if is_by_path s h.gift.space then Some h.gift else None

abbrev pub gift_carried : Setting → List Event → Target → Option Gift
gift_carried s past t = option_and_then (gift_by_path s) (carried s past t)

-- WHAT COMES NEXT

abbrev pub note_call : Option Gift → List Call → List Call
note_call None calls = calls
note_call (Some gift) calls = Note gift ∷ calls

-- the calls that are left to be made at the end
abbrev pub calls_left : Closing → List Call
calls_left c = note_call c.proxy (note_call c.server (CallEnd ∷ []))

-- those that are left in a past
abbrev pub closings_left : Setting → List Event → Outcome → List (Option Call)
closings_left s past outcome = drop (closings_made s past) (closings s past outcome)

-- the renewals at the end, from a target on
abbrev pub renewals_from : Setting → List Event → Target → List (Option Call)
renewals_from s past Proxy = renewal_for s past Proxy ++ renewal_for s past Server
renewals_from s past Server = renewal_for s past Server
renewals_from s past Socks = []

-- those behind a target
abbrev pub renewals_behind : Setting → List Event → Target → List (Option Call)
renewals_behind s past Proxy = renewal_for s past Server
renewals_behind s past Server = []
renewals_behind s past Socks = []

-- what the last head carried for the target is held still
pub record IsCarriedStill (s : Setting) (past : List Event) (t : Target) : Type 0 where
  pub link : ℕ
  pub same : held s past t ≡ option_map (held_headed link) (carried s past t)

abbrev pub AreCarriedFrom : Setting → List Event → Target → Type 0
AreCarriedFrom s past Proxy = IsCarriedStill s past Proxy × IsCarriedStill s past Server
AreCarriedFrom s past Server = IsCarriedStill s past Server
AreCarriedFrom s past Socks = Unit {0}

abbrev pub AreCarriedBehind : Setting → List Event → Target → Type 0
AreCarriedBehind s past Proxy = IsCarriedStill s past Server
AreCarriedBehind s past Server = Unit {0}
AreCarriedBehind s past Socks = Unit {0}

-- a past at which memory ran out
pub record IsSpentAt (s : Setting) (base : List Event) : Type 0 where
  pub is_past : IsPast s base
  pub may_cut : IsTrue (may_cut base)

abbrev pub lost_at : List Event → List Event
lost_at base = with_loss (prompt_open base base) base

-- A PROMPT

-- the request leads it, and it isn't settled
pub record IsLed (s : Setting) (past : List Event) (p : Prompt) : Type 0 where
  pub terms : terms_led past p.number ≡ p.terms
  pub space : space_prompted past p.number ≡ p.space
  pub is_open : prompt_open past past ≡ p.number
  pub of_target : IsOfTarget s p.space p.target

-- the request follows it
pub record IsFollowed (s : Setting) (past : List Event) (p : Prompt) : Type 0 where
  pub terms : terms_followed past p.number ≡ p.terms
  pub space : space_prompted past p.number ≡ p.space
  pub of_target : IsOfTarget s p.space p.target

abbrev pub asked_of : ℕ → ProtectionSpace → Asked
asked_of ordinal space = record { space = space; ordinal = ordinal }

-- the prompt is the one with that ordinal of its space
abbrev pub IsAskOf : Setting → List Event → Prompt → ℕ → Type 0
IsAskOf s past p ordinal = (space : ProtectionSpace) → s.space_of p.space ≡ Some space → ask_of s past p.number ≡ asked_of ordinal space ∷ []

-- A CHALLENGE

-- the last reply challenges the target
abbrev pub IsChallenged : Setting → List Event → Target → Type 0
IsChallenged s past t = option_and_then (challenged s) (last_reply past) ≡ Some t

-- the last reply, whom it challenges, and the best challenge
pub record IsChosen (s : Setting) (past : List Event) (reply : Reply) (t : Target) (o : Option Offer) : Type 0 where
  pub last : last_reply past ≡ Some reply
  pub target : challenged s reply ≡ Some t
  pub best : best (supported (negotiates s past t) reply) ≡ o

-- it is the best challenge of the last reply, and its terms are to be named
pub record IsPicked (s : Setting) (past : List Event) (terms : Option Terms) (t : Target) (offered : Offer) : Type 0 where
  pub reply : Reply
  pub is_chosen : IsChosen s past reply t (Some offered)
  pub same_terms : terms ≡ offered.terms

-- its space is to be named too
pub record IsSpacePicked (s : Setting) (past : List Event) (space : Option ProtectionSpace) (terms : Option Terms) (t : Target) : Type 0 where
  pub offered : Offer
  pub is_picked : IsPicked s past terms t offered
  pub at_site : option_map (λ place. space_at place offered) (site s.request t) ≡ space
  pub is_some : IsSome space

-- its space has that number
pub record AreTermsPicked (s : Setting) (past : List Event) (terms : Option Terms) (t : Target) (n : ℕ) : Type 0 where
  pub offered : Offer
  pub is_picked : IsPicked s past terms t offered
  pub in_space : space_offered s t offered ≡ Some n
  pub are_some : IsSome terms

-- the gift is to be given the terms that are to be named
pub record IsStale (s : Setting) (past : List Event) (unnamed : Option Terms) (gift : Gift) : Type 0 where
  pub terms : Terms
  pub are_unnamed : unnamed ≡ Some terms
  pub moves : move s past ≡ known (s.terms_no gift.space terms) (λ n. Goes (Calls (Renew gift n)))

-- A CONTEXT

-- the provider is asked to go on with the peer's token
pub record IsAnswerLeft (s : Setting) (past : List Event) (peer : Option (List ℕ)) (t : Target) : Type 0 where
  pub token : List ℕ
  pub is_kept : peer ≡ Some token
  pub wanted : want s past ≡ Steps t (GoOn token)

-- AN ANSWER

-- the last reply answers the request, which closes
pub record IsAnswered (s : Setting) (past : List Event) (c : Closing) : Type 0 where
  pub is_past : IsPast s past
  pub closes : move s past ≡ Closes c.outcome
  pub answered : is_answered s past ≡ true

-- all is told of what is held, from a target on
abbrev pub AreReadyFrom : Option Holding → Option Holding → Target → Type 0
AreReadyFrom proxy server Proxy = IfSome proxy IsReady × IfSome server IsReady
AreReadyFrom proxy server Server = IfSome server IsReady
AreReadyFrom proxy server Socks = Unit {0}

-- behind a target
abbrev pub AreReadyBehind : Option Holding → Target → Type 0
AreReadyBehind server Proxy = IfSome server IsReady
AreReadyBehind server Server = Unit {0}
AreReadyBehind server Socks = Unit {0}

-- the first call that is left gives the gift the terms that are to be named
pub record IsRenewalLeft (s : Setting) (past : List Event) (unnamed : Option Terms) (t : Target) (gift : Gift) (c : Closing) : Type 0 where
  pub terms : Terms
  pub are_unnamed : unnamed ≡ Some terms
  pub left : closings_left s past c.outcome ≡ option_map (Renew gift) (s.terms_no gift.space terms) ∷ (renewals_behind s past t ++ map Some (calls_left c))

-- WHERE IT STANDS

abbrev pub IsStage : Setting → List Event → Stage → Type 0
IsStage s past (Calling call) = IsPast s past × (want s past ≡ Calls call)
IsStage s past Go = IsPast s past × (want s past ≡ go s past)
IsStage s past (Learn t piece) = IsPast s past × (want s past ≡ go s past)
IsStage s past (Draw t nonce) = IsPast s past × (want s past ≡ Draws t nonce)
IsStage s past (Choose t) = IsPast s past × (move s past ≡ select s past) × IsChallenged s past t
IsStage s past (NameSpace t) = IsPast s past × (move s past ≡ select s past) × IsChallenged s past t
IsStage s past (NameTerms t n) = IsPast s past × (move s past ≡ select s past) × IsChallenged s past t × IsOfTarget s n t
IsStage s past (Selecting t space terms) = IsPast s past × (want s past ≡ Calls (Select space terms)) × IsOfTarget s space t
IsStage s past (Ask p ordinal) = IsPast s past × (want s past ≡ Asks p.number) × IsLed s past p × IsAskOf s past p ordinal
IsStage s past (NameText p) = IsPast s past × (want s past ≡ Answers p.number p.terms) × IsLed s past p
IsStage s past (Answering p text) = IsPast s past × (want s past ≡ Answers p.number p.terms) × IsLed s past p × IsTrue (not (text == 0))
IsStage s past (Cancelling p) = IsPast s past × (want s past ≡ Calls (Answer p.number 0 p.terms)) × IsLed s past p
IsStage s past (Losing p loss) = IsPast s past × (want s past ≡ Calls (Lose p.number loss)) × IsLed s past p
IsStage s past (Taking p) = IsPast s past × (want s past ≡ Calls (Take p.number)) × IsFollowed s past p
IsStage s past (Rejecting t gift) = IsPast s past × (want s past ≡ Calls (Reject gift.space gift.ordinal)) × IsOfTarget s gift.space t
IsStage s past (NameRenewal t gift) = IsPast s past × IsOfTarget s gift.space t × IsChallenged s past t
IsStage s past (Renewing t gift terms) = IsPast s past × (want s past ≡ Calls (Renew gift terms)) × IsOfTarget s gift.space t × IsChallenged s past t
IsStage s past (Continue t) = IsPast s past
IsStage s past (LoseLink link) = IsPast s past × (want s past ≡ Loses link)
IsStage s past (Read link) = IsPast s past × (want s past ≡ Reads link) × ((x : Target) → held s past x ≡ option_map (held_headed link) (carried s past x))
IsStage s past (NextNonce t c) = IsAnswered s past c × (closings_left s past c.outcome ≡ renewals_from s past t ++ map Some (calls_left c)) × AreCarriedFrom s past t
IsStage s past (NameLast t gift c) = IsAnswered s past c × IsOfTarget s gift.space t × AreCarriedBehind s past t
IsStage s past (RenewLast t gift terms c) =
    IsAnswered s past c × (closings_left s past c.outcome ≡ Some (Renew gift terms) ∷ (renewals_behind s past t ++ map Some (calls_left c))) × IsOfTarget s gift.space t × AreCarriedBehind s past t
IsStage s past (Close c) = IsPast s past × (move s past ≡ Closes c.outcome) × (closings_left s past c.outcome ≡ map Some (calls_left c))
IsStage s past (End outcome) = IsPast s past × (want s past ≡ Ends outcome)
IsStage s past Spent = IsSpentAt s past
IsStage s past SpentEnd = (base : List Event) × IsSpentAt s base × (past ≡ lost_at base)
IsStage s past SpentOver = (base : List Event) × IsSpentAt s base × (past ≡ Called CallEnd RequestEnded ∷ lost_at base)
IsStage s past Over = IsRun s past ⊎ IsCut s past

-- the request was ended
abbrev pub is_after_end : Stage → Bool
is_after_end (End outcome) = true
is_after_end SpentOver = true
is_after_end Over = true
is_after_end stage = false

-- memory may run out
abbrev pub can_stop : Stage → Bool
can_stop (Calling Begin) = false
can_stop (Calling (Take prompt)) = false
can_stop (Taking p) = false
can_stop (End outcome) = false
can_stop SpentOver = false
can_stop Over = false
can_stop stage = true

-- the past is one of wanted events
abbrev pub is_regular : Stage → Bool
is_regular Spent = false
is_regular SpentEnd = false
is_regular SpentOver = false
is_regular Over = false
is_regular stage = true

-- no call at the end was made before the request closes
abbrev pub IsOpen : Stage → ℕ → Type 0
IsOpen (NextNonce t c) made = Unit {0}
IsOpen (NameLast t gift c) made = Unit {0}
IsOpen (RenewLast t gift terms c) made = Unit {0}
IsOpen (Close c) made = Unit {0}
IsOpen (End outcome) made = Unit {0}
IsOpen Spent made = Unit {0}
IsOpen SpentEnd made = Unit {0}
IsOpen SpentOver made = Unit {0}
IsOpen Over made = Unit {0}
IsOpen stage made = made ≡ 0

-- what is kept beside the past for what comes next
abbrev pub IsKept : Setting → Kept → Stage → Type 0
IsKept s m (Calling call) = IsTrue (is_first call)
IsKept s m (Learn t piece) = IfSome (holding m t) (IsLack piece)
IsKept s m (NameSpace t) = IsSpacePicked s m.past m.unnamed_space m.unnamed_terms t
IsKept s m (NameTerms t n) = AreTermsPicked s m.past m.unnamed_terms t n
IsKept s m (NameText p) = IsSome m.given
IsKept s m (NameRenewal t gift) = IsStale s m.past m.unnamed_terms gift
IsKept s m (Continue t) = IsAnswerLeft s m.past m.peer t × IsLive (holding m t)
IsKept s m (LoseLink link) = (link ≡ m.links) × (m.is_dialed ≡ false)
IsKept s m (Read link) = IfSome m.proxy IsReady × IfSome m.server IsReady
IsKept s m (NextNonce t c) = AreReadyFrom m.proxy m.server t
IsKept s m (NameLast t gift c) = AreReadyBehind m.server t × IsRenewalLeft s m.past m.unnamed_terms t gift c
IsKept s m (RenewLast t gift terms c) = AreReadyBehind m.server t
IsKept s m stage = Unit {0}

-- the fields say what the past says
pub record Ties (s : Setting) (m : Kept) : Type 0 where
  pub same_number : s.number ≡ m.number
  pub same_seed : s.seed ≡ m.seed
  pub passes_over : s.has_negotiate ≡ false
  pub route : is_proxied s ≡ m.is_proxied
  pub stage : IsStage s m.past m.stage
  pub proxy : IsHeld s m.past Proxy m.proxy
  pub server : IsHeld s m.past Server m.server
  pub drawn_proxy : drawn m.past Proxy ≡ m.drawn_proxy
  pub drawn_server : drawn m.past Server ≡ m.drawn_server
  pub noted_proxy : gift_carried s m.past Proxy ≡ m.noted_proxy
  pub noted_server : gift_carried s m.past Server ≡ m.noted_server
  pub links : links m.past ≡ m.links
  pub heads : heads m.past ≡ m.heads
  pub rounds : rounds s m.past ≡ m.rounds
  pub code : code m.past ≡ m.code
  pub is_dialed : has_link m.past ≡ m.is_dialed
  pub stays : stays m.past m.links ≡ m.stays
  pub has_lost : list_any is_lost m.past ≡ m.has_lost
  pub has_none : list_any is_no_mechanism m.past ≡ m.has_none
  pub ended : list_any is_end m.past ≡ is_after_end m.stage
  pub may_stop : may_cut m.past ≡ can_stop m.stage
  pub prompt : prompt_open m.past m.past ≡ m.prompt
  pub open_still : IsOpen m.stage (closings_made s m.past)
  pub kept : IsKept s m m.stage

-- a setting of the request stands for what it keeps
abbrev pub IsTied : Kept → Request → Type 0
IsTied m request = (s : Setting) × (s.request ≡ request) × Ties s m
