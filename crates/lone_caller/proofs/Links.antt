-- What a dialer that has dialed for other requests alone tells of the next one.
use Rattle.std.proofs.Common.{◌≡◌, ℕ, ◌<◌, Bool, true, false, ◌&&◌, ◌||◌, ◌==◌, List, [], ◌∷◌, ◌++◌, reverse, Some, None, refl, sym, ap, ◌∙◌, subst, arith, if◌then◌else◌}
use Rattle.std.specs.Prelude.{IsSome}
use Rattle.std.specs.List.{list_any}
use Rattle.std.specs.declared.option.Option.{Option}
use Rattle.std.proofs.lemmas.Bool.{false≢true}
use Rattle.std.proofs.lemmas.List.Folds.{list_any-append}
use Rattle.auth_events.proofs.Numbers.{and_left, and_right}
use Rattle.auth_events.proofs.Reversed.{list_any-reverse}
use Rattle.auth_events.proofs.Same.{number_same}
use Rattle.link_trait.specs.declared.dialer.Dial.{Dial}
use Rattle.link_trait.specs.declared.dialer.Traffic.{Traffic}
use Rattle.link_trait.specs.declared.dialer.Traffic.TheVariants.{Sent, Received, Ended}
use Rattle.link_trait.specs.declared.links.LinkName.{LinkName}
use Rattle.link_trait.specs.declared.prompts.AskSeen.TheVariants.{Failed}
use Rattle.link_trait.specs.Links.{AreDialed, IsUndialed, are_dialed, has_dial, heard_on, same_link}
use Rattle.link_trait.specs.Told.{grown}
use Rattle.auth_runs.specs.declared.event.Event.{Event}
use Rattle.auth_runs.specs.declared.event.Event.TheVariants.{AskedFor, DialFailed, Dialed, ReadFailed, WriteFailed}
use Rattle.request_machine.specs.Carried.{IsSilent}
use Rattle.request_machine.specs.Failed.{ask_faults, link_faults}
use Rattle.trace_rule.specs.Settings.{Setting}
use Rattle.trace_rule.specs.Telling.{dials}
use Rattle.lone_laws.specs.Failing.{has_failed}

abbrev link : ℕ → ℕ → LinkName
link r n = record { request = r; nth = n }

-- READING

same_name : (a b : LinkName) → same_link a b ≡ true → a ≡ b
same_name a b same =
    let request : a.request ≡ b.request = number_same a.request b.request (and_left (a.request == b.request) (a.nth == b.nth) same) in
    let nth : a.nth ≡ b.nth = number_same a.nth b.nth (and_right (a.request == b.request) (a.nth == b.nth) same) in
    ap (λ r. record { request = r; nth = a.nth }) request ∙ ap (λ n. record { request = b.request; nth = n }) nth

-- nothing was read of a link that was not dialed
unread : (name : LinkName) (traffic : List Traffic) (made : List Dial) → are_dialed traffic made ≡ true → has_dial name made ≡ false → heard_on name traffic ≡ []
unread name [] made all none = refl
unread name (Received l bytes ∷ traffic) made all none = at (same_link l name) refl ∙ unread name traffic made (and_right (has_dial l made) (are_dialed traffic made) all) none
  where
    at : (b : Bool) → same_link l name ≡ b → (if b then bytes else []) ++ heard_on name traffic ≡ heard_on name traffic
    at true same = absurd (false≢true (sym none ∙ (ap (λ x. has_dial x made) (sym (same_name l name same)) ∙ and_left (has_dial l made) (are_dialed traffic made) all)))
    at false same = refl
unread name (Sent l bytes ∷ traffic) made all none = unread name traffic made (and_right (has_dial l made) (are_dialed traffic made) all) none
unread name (Ended l ∷ traffic) made all none = unread name traffic made (and_right (has_dial l made) (are_dialed traffic made) all) none

pub silent : (r : ℕ) (traffic : Option (List Traffic)) (made : Option (List Dial)) → AreDialed traffic made → IsSome made → ((n : ℕ) → IsUndialed (link r n) made) → IsSilent r traffic
silent r None made all some none = tt
silent r (Some traffic) None all some none = absurd (false≢true some)
silent r (Some traffic) (Some made) all some none = λ n. unread (link r n) traffic made all (none n)

-- DIALS

other_dial : (s : Setting) (q n : ℕ) → s.number < q → (past : List Event) → has_dial (link q n) (dials s past) ≡ false
other_dial s q n less [] = refl
other_dial s q n less (Dialed on ∷ past) =
    list_any-append (λ (dial : Dial). same_link dial.link (link q n)) (dials s past) _
    ∙ (ap (λ b. b || ((s.number == q && on == n) || false)) (other_dial s q n less past) ∙ ap (λ b. (b && on == n) || false) (differ (s.number == q) refl))
  where
    differ : (b : Bool) → (s.number == q) ≡ b → b ≡ false
    differ true e = absurd (omega (arith, number_same s.number q e, less))
    differ false e = refl
other_dial s q n less (_ ∷ past) = other_dial s q n less past

-- a later request's links stay undialed
pub undialed_still : (s : Setting) (q n : ℕ) (before now : Option (List Dial)) (past : List Event) → s.number < q → now ≡ grown before (dials s past) → IsUndialed (link q n) before → IsUndialed (link q n) now
undialed_still s q n None now past less grows none = subst (IsUndialed (link q n)) (sym grows) tt
undialed_still s q n (Some made) now past less grows none =
    subst (IsUndialed (link q n)) (sym grows)
    (list_any-append (λ (dial : Dial). same_link dial.link (link q n)) made (dials s past) ∙ (ap (λ b. b || has_dial (link q n) (dials s past)) none ∙ other_dial s q n less past))

pub told_still : (s : Setting) (before now : Option (List Dial)) (past : List Event) → now ≡ grown before (dials s past) → IsSome before → IsSome now
told_still s None now past grows some = absurd (false≢true some)
told_still s (Some made) now past grows some = subst IsSome (sym grows) refl

-- FAILURES

-- where no count of a failure is kept, nothing failed
unfailed_past : (past : List Event) → link_faults past ≡ [] → ask_faults past ≡ [] → list_any has_failed past ≡ false
unfailed_past [] links asks = refl
unfailed_past (DialFailed l count ∷ past) links asks = let clash : count ∷ link_faults past ≡ [] = links in cc
unfailed_past (WriteFailed l count ∷ past) links asks = let clash : count ∷ link_faults past ≡ [] = links in cc
unfailed_past (ReadFailed l count ∷ past) links asks = let clash : count ∷ link_faults past ≡ [] = links in cc
unfailed_past (AskedFor p (Failed count) ∷ past) links asks = let clash : count ∷ ask_faults past ≡ [] = asks in cc
unfailed_past (_ ∷ past) links asks = unfailed_past past links asks

pub unfailed : (trace : List Event) → link_faults (reverse trace) ≡ [] → ask_faults (reverse trace) ≡ [] → list_any has_failed trace ≡ false
unfailed trace links asks = sym (list_any-reverse has_failed trace) ∙ unfailed_past (reverse trace) links asks
