-- What replies of the book say, whatever they are.
use Rattle.std.proofs.Common.{◌≡◌, ℕ, false, List, ◌∷◌, Option, refl, sym, ◌∙◌, IsTrue}
use Rattle.std.proofs.lemmas.Bool.{false≢true}
use Rattle.spaces.specs.declared.site.Target.{Target}
use Rattle.spaces.specs.Sites.{same_target}
use Rattle.auth_events.specs.declared.journal.Call.{Call}
use Rattle.auth_events.specs.declared.journal.Call.TheVariants.{End as CallEnd}
use Rattle.auth_events.specs.declared.journal.BookReply.{BookReply}
use Rattle.auth_events.specs.declared.journal.BookReply.TheVariants.{Begun, Ready, Nothing, Url, Cached, Default, Follow, Lead, Removed, Kept, Renewed, Given, Cancelled, Lost, Pending, Gave, Noted, Ended as RequestEnded, Drawn}
use Rattle.auth_events.specs.Pages.{fits}
use Rattle.auth_runs.specs.declared.event.Event.{Event}
use Rattle.auth_runs.specs.declared.event.Event.TheVariants.{Called}
use Rattle.trace_rule.specs.Settings.{Setting, target_is}
use Rattle.auth_events.specs.declared.journal.Gift.{Gift}
use Rattle.trace_rule.specs.Holding.{held, held_ready}
use Rattle.trace_rule.specs.Traces.{suits, is_follow}
use Rattle.request_machine.specs.declared.holding.Holding.{Holding}
use Rattle.request_machine.specs.Kept.{IsHeld}
use Rattle.request_machine.specs.Told.{held_first}

-- what is held for the target that was asked for
pub ready_is_held : (s : Setting) (past : List Event) (t : Target) (event : Event) (reply : BookReply) (h : Option Holding) → ((gift : Gift) (terms epoch : ℕ) → reply ≡ Ready gift terms epoch → (x : Target) → target_is s gift.space x ≡ same_target x t) → IsHeld s past t h → held s (event ∷ past) t ≡ held_ready reply (held s past t)
    → IsHeld s (event ∷ past) t (held_first reply h)
ready_is_held s past t event Begun h of is same = record { is_held = same ∙ is.is_held; is_known = is.is_known; of_target = is.of_target }
ready_is_held s past t event (Ready gift terms epoch) h of is same = record { is_held = same; is_known = record { space = tt; identity = tt; named = tt }; of_target = of gift terms epoch refl }
ready_is_held s past t event Nothing h of is same = record { is_held = same ∙ is.is_held; is_known = is.is_known; of_target = is.of_target }
ready_is_held s past t event (Url gift evicted) h of is same = record { is_held = same ∙ is.is_held; is_known = is.is_known; of_target = is.of_target }
ready_is_held s past t event (Cached gift) h of is same = record { is_held = same ∙ is.is_held; is_known = is.is_known; of_target = is.of_target }
ready_is_held s past t event Default h of is same = record { is_held = same ∙ is.is_held; is_known = is.is_known; of_target = is.of_target }
ready_is_held s past t event (Follow prompt) h of is same = record { is_held = same ∙ is.is_held; is_known = is.is_known; of_target = is.of_target }
ready_is_held s past t event (Lead prompt ordinal) h of is same = record { is_held = same ∙ is.is_held; is_known = is.is_known; of_target = is.of_target }
ready_is_held s past t event Removed h of is same = record { is_held = same ∙ is.is_held; is_known = is.is_known; of_target = is.of_target }
ready_is_held s past t event (Kept ordinal) h of is same = record { is_held = same ∙ is.is_held; is_known = is.is_known; of_target = is.of_target }
ready_is_held s past t event Renewed h of is same = record { is_held = same ∙ is.is_held; is_known = is.is_known; of_target = is.of_target }
ready_is_held s past t event (Given gift evicted) h of is same = record { is_held = same ∙ is.is_held; is_known = is.is_known; of_target = is.of_target }
ready_is_held s past t event Cancelled h of is same = record { is_held = same ∙ is.is_held; is_known = is.is_known; of_target = is.of_target }
ready_is_held s past t event (Lost loss) h of is same = record { is_held = same ∙ is.is_held; is_known = is.is_known; of_target = is.of_target }
ready_is_held s past t event Pending h of is same = record { is_held = same ∙ is.is_held; is_known = is.is_known; of_target = is.of_target }
ready_is_held s past t event (Gave gift) h of is same = record { is_held = same ∙ is.is_held; is_known = is.is_known; of_target = is.of_target }
ready_is_held s past t event Noted h of is same = record { is_held = same ∙ is.is_held; is_known = is.is_known; of_target = is.of_target }
ready_is_held s past t event RequestEnded h of is same = record { is_held = same ∙ is.is_held; is_known = is.is_known; of_target = is.of_target }
ready_is_held s past t event (Drawn count epoch) h of is same = record { is_held = same ∙ is.is_held; is_known = is.is_known; of_target = is.of_target }

-- only a choice follows a prompt
pub no_follow : (s : Setting) (past : List Event) (call : Call) (reply : BookReply) → ((p : ℕ) → suits s past call (Follow p) ≡ false) → IsTrue (suits s past call reply) → is_follow (Called call reply) ≡ false
no_follow s past call Begun none suited = refl
no_follow s past call (Ready gift terms epoch) none suited = refl
no_follow s past call Nothing none suited = refl
no_follow s past call (Url gift evicted) none suited = refl
no_follow s past call (Cached gift) none suited = refl
no_follow s past call Default none suited = refl
no_follow s past call (Follow prompt) none suited = absurd (false≢true (sym (none prompt) ∙ suited))
no_follow s past call (Lead prompt ordinal) none suited = refl
no_follow s past call Removed none suited = refl
no_follow s past call (Kept ordinal) none suited = refl
no_follow s past call Renewed none suited = refl
no_follow s past call (Given gift evicted) none suited = refl
no_follow s past call Cancelled none suited = refl
no_follow s past call (Lost loss) none suited = refl
no_follow s past call Pending none suited = refl
no_follow s past call (Gave gift) none suited = refl
no_follow s past call Noted none suited = refl
no_follow s past call RequestEnded none suited = refl
no_follow s past call (Drawn count epoch) none suited = refl

-- the end is always told
pub end_told : (reply : BookReply) → IsTrue (fits CallEnd reply) → reply ≡ RequestEnded
end_told Begun fit = absurd (false≢true fit)
end_told (Ready gift terms epoch) fit = absurd (false≢true fit)
end_told Nothing fit = absurd (false≢true fit)
end_told (Url gift evicted) fit = absurd (false≢true fit)
end_told (Cached gift) fit = absurd (false≢true fit)
end_told Default fit = absurd (false≢true fit)
end_told (Follow prompt) fit = absurd (false≢true fit)
end_told (Lead prompt ordinal) fit = absurd (false≢true fit)
end_told Removed fit = absurd (false≢true fit)
end_told (Kept ordinal) fit = absurd (false≢true fit)
end_told Renewed fit = absurd (false≢true fit)
end_told (Given gift evicted) fit = absurd (false≢true fit)
end_told Cancelled fit = absurd (false≢true fit)
end_told (Lost loss) fit = absurd (false≢true fit)
end_told Pending fit = absurd (false≢true fit)
end_told (Gave gift) fit = absurd (false≢true fit)
end_told Noted fit = absurd (false≢true fit)
end_told RequestEnded fit = refl
end_told (Drawn count epoch) fit = absurd (false≢true fit)
