-- What the parts of a thing can hold. A value of their types holds no more, and the laws on lines rest on that.
use Rattle.std.specs.Prelude.{◌≡◌, ℕ, ◌^◌, ◌<◌, ⊤, Bool, true, nat_lt, List, Option, None, Some}
use Rattle.std.specs.List.{list_all}
use Rattle.auth_text.specs.Login.{Login, is_login}
use Rattle.spaces.specs.Partitions.{is_partition}
use Rattle.spaces.specs.ProtectionSpaces.{ProtectionSpace, has_realm}
use Rattle.spaces.specs.declared.place.Origin.{Origin}
use Rattle.spaces.specs.declared.roster.Request.{Request}
use Rattle.spaces.specs.declared.site.Site.{Site}
use Rattle.auth_events.specs.declared.names.TermsName.{TermsName}
use Rattle.auth_events.specs.declared.journal.Entry.{Entry}
use Rattle.auth_events.specs.declared.journal.Gift.{Gift}
use Rattle.auth_events.specs.declared.journal.Loss.{Loss}
use Rattle.auth_events.specs.declared.journal.Loss.TheVariants.{Fault, Memory}
use Rattle.auth_events.specs.declared.journal.Call.{Call}
use Rattle.auth_events.specs.declared.journal.Call.TheVariants.{Begin, Preempt, Select, Reject, Renew, Answer, Lose, Take, Note, End, Draw}
use Rattle.auth_events.specs.declared.journal.BookReply.{BookReply}
use Rattle.auth_events.specs.declared.journal.BookReply.TheVariants.{Ready, Url, Cached, Follow, Lead, Kept, Given, Lost, Gave, Drawn}
use Rattle.wire_head.specs.declared.reply.Reply.{Reply}
use Rattle.link_trait.specs.declared.prompts.AskSeen.{AskSeen}
use Rattle.link_trait.specs.declared.prompts.AskSeen.TheVariants.{Failed as AskFailed}
use Rattle.link_trait.specs.declared.steps.StepSeen.{StepSeen}
use Rattle.link_trait.specs.declared.steps.StepSeen.TheVariants.{Token, Failed as StepFailed}
use Rattle.auth_runs.specs.Runs.{Run, Each}
use Rattle.auth_runs.specs.declared.event.Why.{Why}
use Rattle.auth_runs.specs.declared.event.Why.TheVariants.{Cancelled}
use Rattle.auth_runs.specs.declared.event.Outcome.{Outcome}
use Rattle.auth_runs.specs.declared.event.Outcome.TheVariants.{Answered, Refused, LinkFailed, ProviderFailed, PromptFailed}
use Rattle.auth_runs.specs.declared.event.Event.{Event}
use Rattle.auth_runs.specs.declared.event.Event.TheVariants.{Dialed, DialFailed, Drew, Headed, WriteFailed, ReadFailed, Replied, Broken, LinkLost, AskedFor, Stepped, Ended}

-- each is a byte
abbrev pub are_bytes : List ℕ → Bool
are_bytes bytes = list_all (λ b. nat_lt b 256) bytes

-- each byte of each is a byte
abbrev pub are_all_bytes : List (List ℕ) → Bool
are_all_bytes all = list_all are_bytes all

-- THE ROSTER AND NAMES

pub record OriginHolds (origin : Origin) : Type 0 where
  pub host : are_bytes origin.host ≡ true
  pub port : origin.port < 2 ^ 16

abbrev pub ProxyHolds : Option Origin → Type 0
ProxyHolds None = ⊤
ProxyHolds (Some origin) = OriginHolds origin

pub record NameHolds (name : List ℕ) : Type 0 where
  pub fit : is_partition name ≡ true
  pub bytes : are_bytes name ≡ true

pub record RequestHolds (request : Request) : Type 0 where
  pub partition : NameHolds request.partition
  pub text : are_bytes request.place.text ≡ true
  pub proxy : ProxyHolds request.proxy

pub record SiteHolds (site : Site) : Type 0 where
  pub partition : NameHolds site.partition
  pub origin : OriginHolds site.origin

pub record SpaceHolds (space : ProtectionSpace) : Type 0 where
  pub site : SiteHolds space.site
  pub realm : are_bytes space.realm ≡ true
  pub fit : has_realm space.scheme space.realm ≡ true

abbrev pub OpaqueHolds : Option (List ℕ) → Type 0
OpaqueHolds None = ⊤
OpaqueHolds (Some opaque) = are_bytes opaque ≡ true

pub record TermsHolds (name : TermsName) : Type 0 where
  pub space : name.space < 2 ^ 32
  pub nonce : name.nonce < 2 ^ 32
  pub text : are_bytes name.terms.nonce ≡ true
  pub opaque : OpaqueHolds name.terms.opaque

pub record TextHolds (text : Login) : Type 0 where
  pub user : are_bytes text.user ≡ true
  pub password : are_bytes text.password ≡ true
  pub fit : is_login text.user text.password ≡ true

-- THE JOURNAL

abbrev pub LossHolds : Loss → Type 0
LossHolds (Fault n) = n < 2 ^ 64
LossHolds Memory = ⊤

abbrev pub GiftHolds : Gift → Type 0
GiftHolds gift = (gift.space < 2 ^ 32) × (gift.ordinal < 2 ^ 32)

abbrev pub CallHolds : Call → Type 0
CallHolds Begin = ⊤
CallHolds (Preempt target) = ⊤
CallHolds (Select s t) = (s < 2 ^ 32) × (t < 2 ^ 32)
CallHolds (Reject s o) = (s < 2 ^ 32) × (o < 2 ^ 32)
CallHolds (Renew g t) = GiftHolds g × (t < 2 ^ 32)
CallHolds (Answer p x t) = (p < 2 ^ 32) × (x < 2 ^ 32) × (t < 2 ^ 32)
CallHolds (Lose p loss) = (p < 2 ^ 32) × LossHolds loss
CallHolds (Take p) = p < 2 ^ 32
CallHolds (Note g) = GiftHolds g
CallHolds End = ⊤
CallHolds (Draw n) = n < 2 ^ 32

abbrev pub ReplyHolds : BookReply → Type 0
ReplyHolds (Ready g t e) = GiftHolds g × (t < 2 ^ 32) × (e < 2 ^ 32)
ReplyHolds (Url g e) = GiftHolds g × (e < 2 ^ 32)
ReplyHolds (Cached g) = GiftHolds g
ReplyHolds (Follow p) = p < 2 ^ 32
ReplyHolds (Lead p o) = (p < 2 ^ 32) × (o < 2 ^ 32)
ReplyHolds (Kept o) = o < 2 ^ 32
ReplyHolds (Given g e) = GiftHolds g × (e < 2 ^ 32)
ReplyHolds (Lost loss) = LossHolds loss
ReplyHolds (Gave g) = GiftHolds g
ReplyHolds (Drawn n e) = (n < 2 ^ 32) × (e < 2 ^ 32)
ReplyHolds _ = ⊤

pub record EntryHolds (entry : Entry) : Type 0 where
  pub caller : entry.caller < 2 ^ 32
  pub request : entry.request < 2 ^ 32
  pub call : CallHolds entry.call
  pub reply : ReplyHolds entry.reply

-- TRACES

pub record ReadHolds (reply : Reply) : Type 0 where
  pub code : reply.code < 2 ^ 16
  pub body : reply.body < 2 ^ 32
  pub fields : are_all_bytes reply.fields ≡ true
  pub server_info : are_all_bytes reply.server_info ≡ true
  pub proxy_info : are_all_bytes reply.proxy_info ≡ true

abbrev pub AskHolds : AskSeen → Type 0
AskHolds (AskFailed count) = count < 2 ^ 64
AskHolds _ = ⊤

abbrev pub StepHolds : StepSeen → Type 0
StepHolds (Token token) = are_bytes token ≡ true
StepHolds (StepFailed count) = count < 2 ^ 64
StepHolds _ = ⊤

abbrev pub WhyHolds : Why → Type 0
WhyHolds (Cancelled prompt) = prompt < 2 ^ 32
WhyHolds _ = ⊤

abbrev pub OutcomeHolds : Outcome → Type 0
OutcomeHolds (Answered code) = code < 2 ^ 16
OutcomeHolds (Refused code why) = (code < 2 ^ 16) × WhyHolds why
OutcomeHolds (LinkFailed count) = count < 2 ^ 64
OutcomeHolds (ProviderFailed count) = count < 2 ^ 64
OutcomeHolds (PromptFailed count) = count < 2 ^ 64
OutcomeHolds _ = ⊤

abbrev pub EventHolds : Event → Type 0
EventHolds (Dialed link) = link < 2 ^ 32
EventHolds (DialFailed link count) = (link < 2 ^ 32) × (count < 2 ^ 64)
EventHolds (Drew target nonce count epoch) = (nonce < 2 ^ 32) × (count < 2 ^ 32) × (epoch < 2 ^ 32)
EventHolds (Headed link bytes) = (link < 2 ^ 32) × (are_bytes bytes ≡ true)
EventHolds (WriteFailed link count) = (link < 2 ^ 32) × (count < 2 ^ 64)
EventHolds (ReadFailed link count) = (link < 2 ^ 32) × (count < 2 ^ 64)
EventHolds (Replied link reply) = (link < 2 ^ 32) × ReadHolds reply
EventHolds (Broken link fault) = link < 2 ^ 32
EventHolds (LinkLost link) = link < 2 ^ 32
EventHolds (AskedFor prompt given) = (prompt < 2 ^ 32) × AskHolds given
EventHolds (Stepped target step) = StepHolds step
EventHolds (Ended outcome) = OutcomeHolds outcome
EventHolds _ = ⊤

-- A RUN

pub record RunHolds (run : Run) : Type 0 where
  pub seed : are_bytes run.seed ≡ true
  pub allowed : Each OriginHolds run.roster.allowed
  pub requests : Each RequestHolds run.roster.requests
  pub spaces : Each SpaceHolds run.names.spaces
  pub terms : Each TermsHolds run.names.terms
  pub texts : Each TextHolds run.names.texts
  pub journal : Each EntryHolds run.journal
  pub traces : Each (λ events. Each EventHolds events) run.traces
