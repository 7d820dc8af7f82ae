-- A request that hasn't begun can follow.
use Rattle.std.proofs.Common.{◌≡◌, ℕ, List, [], ◌∷◌, length, Option, Some, None, false, refl, sym, ap, subst, arith}
use Rattle.spaces.specs.declared.roster.Request.{Request}
use Rattle.spaces.specs.declared.roster.Roster.{Roster}
use Rattle.spaces.specs.Sites.{numbered}
use Rattle.link_trait.specs.declared.dialer.Dial.{Dial}
use Rattle.link_trait.specs.declared.links.LinkName.{LinkName}
use Rattle.auth_events.specs.declared.journal.Call.TheVariants.{Begin}
use Rattle.trace_rule.specs.Settings.{Setting}
use Rattle.request_machine.specs.declared.stage.Stage.TheVariants.{Call as Calling}
use Rattle.request_machine.specs.Kept.{IsSettingOf, Kept, Ties}
use Rattle.request_machine.specs.Linked.{AreDialsOf, IsLinkedOn, IsOnlyLink, Line, first_line, line, way}
use Rattle.request_machine.specs.Linked.Way.{Onward}
use Rattle.worked_followers.specs.Following.{HasFollowing}

second : (requests : List Request) → length requests ≡ 2 → (request : Request) × (numbered requests 2 ≡ Some request)
second [] e = absurd (omega (arith, e))
second (a ∷ []) e = absurd (omega (arith, e))
second (a ∷ b ∷ rest) e = (b, refl)

pub first_following : (roster : Roster) (opened : List LinkName) (told : Option (List Dial)) (m : Kept) {seed : List ℕ} → length roster.requests ≡ 2 → opened ≡ [] → told ≡ Some []
    → m.stage ≡ Calling Begin → line m ≡ first_line 2 seed → ((s : Setting) → IsSettingOf s roster 2 seed → Ties s m) → HasFollowing roster false opened told m
first_following roster opened told m {seed} two unlinked undialed stage lined ties =
    let number : m.number ≡ 2 = ap (λ (l : Line). l.number) lined in
    let same_seed : m.seed ≡ seed = ap (λ (l : Line). l.seed) lined in
    let there = second roster.requests two in
    record {
      named = None;
      is_it = refl;
      following = record {
        request = there.0;
        in_roster = subst (λ k. numbered roster.requests k ≡ Some there.0) (sym number) there.1;
        tied = λ s is first. ties s (subst (λ x. IsSettingOf s roster x seed) number (subst (IsSettingOf s roster m.number) same_seed is));
        linked = subst (λ x. IsLinkedOn (way x) (line m)) (sym stage) (subst (IsLinkedOn Onward) (sym lined) (refl, refl));
        only = subst (λ l. IsOnlyLink l opened) (sym lined) (subst (IsOnlyLink (first_line 2 seed)) (sym unlinked) (record { last = tt; only = λ n. refl }));
        dialed = subst (λ l. AreDialsOf l told) (sym lined) (subst (AreDialsOf (first_line 2 seed)) (sym undialed) (λ n low. refl));
      };
    }
