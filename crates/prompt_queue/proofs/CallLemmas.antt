-- Which calls lead, follow and settle a prompt.
use Rattle.std.proofs.Common.{◌≡◌, ℕ, true, ◌==◌, refl}
use Rattle.std.specs.Prelude.{IsTrue}
use Rattle.std.proofs.lemmas.Bool.{false≢true}
use Rattle.auth_events.specs.declared.journal.Gift.{Gift}
use Rattle.auth_events.specs.declared.journal.Loss.{Loss}
use Rattle.auth_events.specs.declared.journal.Call.{Call}
use Rattle.auth_events.specs.declared.journal.Call.TheVariants.{Begin, Preempt, Select, Reject, Renew, Answer, Lose, Take, Note, End, Draw}
use Rattle.auth_events.specs.declared.journal.BookReply.{BookReply}
use Rattle.auth_events.specs.declared.journal.BookReply.TheVariants.{Lead, Follow, Given, Cancelled, Lost}
use Rattle.auth_events.specs.Pages.{fits}
use Rattle.auth_events.specs.Past.{is_lead, selects, settles}
use Rattle.auth_events.specs.Book.{space_selected}

-- what leads a prompt is a `Select`
pub only_select : (P : Call → BookReply → Type 0) → ((s t p o : ℕ) → P (Select s t) (Lead p o)) → (call : Call) (reply : BookReply) → IsTrue (fits call reply) → is_lead reply ≡ true → P call reply
only_select P by_select (Select s t) (Lead p o) fit led = by_select s t p o
only_select P by_select (Select s t) reply fit led = absurd (false≢true led)
only_select P by_select Begin (Lead p o) fit led = absurd (false≢true fit)
only_select P by_select Begin reply fit led = absurd (false≢true led)
only_select P by_select (Preempt target) (Lead p o) fit led = absurd (false≢true fit)
only_select P by_select (Preempt target) reply fit led = absurd (false≢true led)
only_select P by_select (Reject s o) (Lead p n) fit led = absurd (false≢true fit)
only_select P by_select (Reject s o) reply fit led = absurd (false≢true led)
only_select P by_select (Renew gift t) (Lead p o) fit led = absurd (false≢true fit)
only_select P by_select (Renew gift t) reply fit led = absurd (false≢true led)
only_select P by_select (Answer q x t) (Lead p o) fit led = absurd (false≢true fit)
only_select P by_select (Answer q x t) reply fit led = absurd (false≢true led)
only_select P by_select (Lose q loss) (Lead p o) fit led = absurd (false≢true fit)
only_select P by_select (Lose q loss) reply fit led = absurd (false≢true led)
only_select P by_select (Take q) (Lead p o) fit led = absurd (false≢true fit)
only_select P by_select (Take q) reply fit led = absurd (false≢true led)
only_select P by_select (Note gift) (Lead p o) fit led = absurd (false≢true fit)
only_select P by_select (Note gift) reply fit led = absurd (false≢true led)
only_select P by_select End (Lead p o) fit led = absurd (false≢true fit)
only_select P by_select End reply fit led = absurd (false≢true led)
only_select P by_select (Draw nonce) (Lead p o) fit led = absurd (false≢true fit)
only_select P by_select (Draw nonce) reply fit led = absurd (false≢true led)

-- what settles a prompt is an answer or a loss
pub only_settles : (P : Call → BookReply → Type 0) → ((q x t : ℕ) (gift : Gift) (evicted : ℕ) → P (Answer q x t) (Given gift evicted)) → ((q x t : ℕ) → P (Answer q x t) Cancelled) → ((q : ℕ) (loss told : Loss) → P (Lose q loss) (Lost told)) → (call : Call) (reply : BookReply) (p : ℕ) → IsTrue (fits call reply) → settles call p ≡ true → P call reply
only_settles P given cancelled lost (Answer q x t) (Given gift evicted) p fit is = given q x t gift evicted
only_settles P given cancelled lost (Answer q x t) Cancelled p fit is = cancelled q x t
only_settles P given cancelled lost (Answer q x t) reply p fit is = absurd (false≢true fit)
only_settles P given cancelled lost (Lose q loss) (Lost told) p fit is = lost q loss told
only_settles P given cancelled lost (Lose q loss) reply p fit is = absurd (false≢true fit)
only_settles P given cancelled lost Begin reply p fit is = absurd (false≢true is)
only_settles P given cancelled lost (Preempt target) reply p fit is = absurd (false≢true is)
only_settles P given cancelled lost (Select s t) reply p fit is = absurd (false≢true is)
only_settles P given cancelled lost (Reject s o) reply p fit is = absurd (false≢true is)
only_settles P given cancelled lost (Renew gift t) reply p fit is = absurd (false≢true is)
only_settles P given cancelled lost (Take q) reply p fit is = absurd (false≢true is)
only_settles P given cancelled lost (Note gift) reply p fit is = absurd (false≢true is)
only_settles P given cancelled lost End reply p fit is = absurd (false≢true is)
only_settles P given cancelled lost (Draw nonce) reply p fit is = absurd (false≢true is)

pub selects_led : (call : Call) (reply : BookReply) (s : ℕ) → IsTrue (fits call reply) → is_lead reply ≡ true → selects call s ≡ (space_selected call == s)
selects_led call reply s fit led = only_select (λ c _. selects c s ≡ (space_selected c == s)) (λ _ _ _ _. refl) call reply fit led

-- what follows a prompt is a `Select`
pub follow_select : (P : Call → Type 0) → ((s t : ℕ) → P (Select s t)) → (call : Call) (q : ℕ) → IsTrue (fits call (Follow q)) → P call
follow_select P by_select (Select s t) q fit = by_select s t
follow_select P by_select Begin q fit = absurd (false≢true fit)
follow_select P by_select (Preempt target) q fit = absurd (false≢true fit)
follow_select P by_select (Reject s o) q fit = absurd (false≢true fit)
follow_select P by_select (Renew gift t) q fit = absurd (false≢true fit)
follow_select P by_select (Answer p x t) q fit = absurd (false≢true fit)
follow_select P by_select (Lose p loss) q fit = absurd (false≢true fit)
follow_select P by_select (Take p) q fit = absurd (false≢true fit)
follow_select P by_select (Note gift) q fit = absurd (false≢true fit)
follow_select P by_select End q fit = absurd (false≢true fit)
follow_select P by_select (Draw nonce) q fit = absurd (false≢true fit)
