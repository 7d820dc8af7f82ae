-- The open prompt of a past.
use Rattle.std.proofs.Common.{◌≡◌, ℕ, Bool, true, false, List, [], ◌∷◌, refl, sym, ap, if◌then◌else◌, ◌||◌}
use Rattle.std.specs.List.{list_any}
use Rattle.auth_events.specs.declared.journal.Call.TheVariants.{Begin, Preempt, Select, Reject, Renew, Answer, Lose, Take, Note, End, Draw}
use Rattle.auth_events.specs.declared.journal.BookReply.TheVariants.{Begun, Ready, Nothing, Url, Cached, Default, Follow, Lead, Removed, Kept, Renewed, Given, Cancelled, Lost, Pending, Gave, Noted, Ended as RequestEnded, Drawn}
use Rattle.auth_runs.specs.declared.event.Event.{Event}
use Rattle.auth_runs.specs.declared.event.Event.TheVariants.{Called, Dialed, DialFailed, Drew, Headed, WriteFailed, ReadFailed, Replied, Broken, LinkLost, AskedFor, Stepped, Ended}
use Rattle.trace_rule.specs.Traces.{settles, prompt_open}

-- two wholes that settle the same prompts have the same one open
pub open_same : (a b : List Event) → ((p : ℕ) → list_any (settles p) a ≡ list_any (settles p) b) → (past : List Event) → prompt_open a past ≡ prompt_open b past
open_same a b same [] = refl
open_same a b same (Called (Select space terms) (Lead prompt ordinal) ∷ past) = ap (λ settled. if settled then 0 else prompt) (same prompt)
open_same a b same (Called (Select space terms) Begun ∷ past) = open_same a b same past
open_same a b same (Called (Select space terms) (Ready gift t epoch) ∷ past) = open_same a b same past
open_same a b same (Called (Select space terms) Nothing ∷ past) = open_same a b same past
open_same a b same (Called (Select space terms) (Url gift evicted) ∷ past) = open_same a b same past
open_same a b same (Called (Select space terms) (Cached gift) ∷ past) = open_same a b same past
open_same a b same (Called (Select space terms) Default ∷ past) = open_same a b same past
open_same a b same (Called (Select space terms) (Follow prompt) ∷ past) = open_same a b same past
open_same a b same (Called (Select space terms) Removed ∷ past) = open_same a b same past
open_same a b same (Called (Select space terms) (Kept ordinal) ∷ past) = open_same a b same past
open_same a b same (Called (Select space terms) Renewed ∷ past) = open_same a b same past
open_same a b same (Called (Select space terms) (Given gift evicted) ∷ past) = open_same a b same past
open_same a b same (Called (Select space terms) Cancelled ∷ past) = open_same a b same past
open_same a b same (Called (Select space terms) (Lost loss) ∷ past) = open_same a b same past
open_same a b same (Called (Select space terms) Pending ∷ past) = open_same a b same past
open_same a b same (Called (Select space terms) (Gave gift) ∷ past) = open_same a b same past
open_same a b same (Called (Select space terms) Noted ∷ past) = open_same a b same past
open_same a b same (Called (Select space terms) RequestEnded ∷ past) = open_same a b same past
open_same a b same (Called (Select space terms) (Drawn count epoch) ∷ past) = open_same a b same past
open_same a b same (Called Begin reply ∷ past) = open_same a b same past
open_same a b same (Called (Preempt target) reply ∷ past) = open_same a b same past
open_same a b same (Called (Reject space ordinal) reply ∷ past) = open_same a b same past
open_same a b same (Called (Renew gift terms) reply ∷ past) = open_same a b same past
open_same a b same (Called (Answer prompt text terms) reply ∷ past) = open_same a b same past
open_same a b same (Called (Lose prompt loss) reply ∷ past) = open_same a b same past
open_same a b same (Called (Take prompt) reply ∷ past) = open_same a b same past
open_same a b same (Called (Note gift) reply ∷ past) = open_same a b same past
open_same a b same (Called End reply ∷ past) = open_same a b same past
open_same a b same (Called (Draw nonce) reply ∷ past) = open_same a b same past
open_same a b same (Dialed link ∷ past) = open_same a b same past
open_same a b same (DialFailed link count ∷ past) = open_same a b same past
open_same a b same (Drew target nonce count epoch ∷ past) = open_same a b same past
open_same a b same (Headed link bytes ∷ past) = open_same a b same past
open_same a b same (WriteFailed link count ∷ past) = open_same a b same past
open_same a b same (ReadFailed link count ∷ past) = open_same a b same past
open_same a b same (Replied link reply ∷ past) = open_same a b same past
open_same a b same (Broken link fault ∷ past) = open_same a b same past
open_same a b same (LinkLost link ∷ past) = open_same a b same past
open_same a b same (AskedFor prompt seen ∷ past) = open_same a b same past
open_same a b same (Stepped target step ∷ past) = open_same a b same past
open_same a b same (Ended outcome ∷ past) = open_same a b same past

-- an event that settles nothing leaves the open one of what stands before it
pub open_behind : (past : List Event) (event : Event) → ((p : ℕ) → settles p event ≡ false) → prompt_open (event ∷ past) past ≡ prompt_open past past
open_behind past event none = open_same (event ∷ past) past (λ p. ap (λ b. b || list_any (settles p) past) (none p)) past

-- once the open one is settled, none is open
pub open_settled : (whole : List Event) (event : Event) → ((p : ℕ) → prompt_open whole whole ≡ p → settles p event ≡ true) → (past : List Event) → prompt_open whole past ≡ prompt_open whole whole → prompt_open (event ∷ whole) past ≡ 0
open_settled whole event now [] same = refl
open_settled whole event now (Called (Select space terms) (Lead prompt ordinal) ∷ past) same = at (list_any (settles prompt) whole) same
  where
    at : (b : Bool) → (if b then 0 else prompt) ≡ prompt_open whole whole → (if settles prompt event || b then 0 else prompt) ≡ 0
    at true same = bare (settles prompt event)
      where
        bare : (b : Bool) → (if b || true then 0 else prompt) ≡ 0
        bare true = refl
        bare false = refl
    at false same = ap (λ b. if b || false then 0 else prompt) (now prompt (sym same))
open_settled whole event now (Called (Select space terms) Begun ∷ past) same = open_settled whole event now past same
open_settled whole event now (Called (Select space terms) (Ready gift t epoch) ∷ past) same = open_settled whole event now past same
open_settled whole event now (Called (Select space terms) Nothing ∷ past) same = open_settled whole event now past same
open_settled whole event now (Called (Select space terms) (Url gift evicted) ∷ past) same = open_settled whole event now past same
open_settled whole event now (Called (Select space terms) (Cached gift) ∷ past) same = open_settled whole event now past same
open_settled whole event now (Called (Select space terms) Default ∷ past) same = open_settled whole event now past same
open_settled whole event now (Called (Select space terms) (Follow prompt) ∷ past) same = open_settled whole event now past same
open_settled whole event now (Called (Select space terms) Removed ∷ past) same = open_settled whole event now past same
open_settled whole event now (Called (Select space terms) (Kept ordinal) ∷ past) same = open_settled whole event now past same
open_settled whole event now (Called (Select space terms) Renewed ∷ past) same = open_settled whole event now past same
open_settled whole event now (Called (Select space terms) (Given gift evicted) ∷ past) same = open_settled whole event now past same
open_settled whole event now (Called (Select space terms) Cancelled ∷ past) same = open_settled whole event now past same
open_settled whole event now (Called (Select space terms) (Lost loss) ∷ past) same = open_settled whole event now past same
open_settled whole event now (Called (Select space terms) Pending ∷ past) same = open_settled whole event now past same
open_settled whole event now (Called (Select space terms) (Gave gift) ∷ past) same = open_settled whole event now past same
open_settled whole event now (Called (Select space terms) Noted ∷ past) same = open_settled whole event now past same
open_settled whole event now (Called (Select space terms) RequestEnded ∷ past) same = open_settled whole event now past same
open_settled whole event now (Called (Select space terms) (Drawn count epoch) ∷ past) same = open_settled whole event now past same
open_settled whole event now (Called Begin reply ∷ past) same = open_settled whole event now past same
open_settled whole event now (Called (Preempt target) reply ∷ past) same = open_settled whole event now past same
open_settled whole event now (Called (Reject space ordinal) reply ∷ past) same = open_settled whole event now past same
open_settled whole event now (Called (Renew gift terms) reply ∷ past) same = open_settled whole event now past same
open_settled whole event now (Called (Answer prompt text terms) reply ∷ past) same = open_settled whole event now past same
open_settled whole event now (Called (Lose prompt loss) reply ∷ past) same = open_settled whole event now past same
open_settled whole event now (Called (Take prompt) reply ∷ past) same = open_settled whole event now past same
open_settled whole event now (Called (Note gift) reply ∷ past) same = open_settled whole event now past same
open_settled whole event now (Called End reply ∷ past) same = open_settled whole event now past same
open_settled whole event now (Called (Draw nonce) reply ∷ past) same = open_settled whole event now past same
open_settled whole event now (Dialed link ∷ past) same = open_settled whole event now past same
open_settled whole event now (DialFailed link count ∷ past) same = open_settled whole event now past same
open_settled whole event now (Drew target nonce count epoch ∷ past) same = open_settled whole event now past same
open_settled whole event now (Headed link bytes ∷ past) same = open_settled whole event now past same
open_settled whole event now (WriteFailed link count ∷ past) same = open_settled whole event now past same
open_settled whole event now (ReadFailed link count ∷ past) same = open_settled whole event now past same
open_settled whole event now (Replied link reply ∷ past) same = open_settled whole event now past same
open_settled whole event now (Broken link fault ∷ past) same = open_settled whole event now past same
open_settled whole event now (LinkLost link ∷ past) same = open_settled whole event now past same
open_settled whole event now (AskedFor prompt seen ∷ past) same = open_settled whole event now past same
open_settled whole event now (Stepped target step ∷ past) same = open_settled whole event now past same
open_settled whole event now (Ended outcome ∷ past) same = open_settled whole event now past same
