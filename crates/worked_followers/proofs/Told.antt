-- A follower's machine goes on, and is told what is true of its space.
use Rattle.std.proofs.Common.{◌≡◌, ◌<◌, ◌==◌, ℕ, suc, Bool, true, false, IsTrue, List, [], ◌∷◌, Option, Some, None, is_some, option_map, if◌then◌else◌, unwrap_or, refl, sym, ap, ◌∙◌, subst}
use Rattle.std.specs.Prelude.{IsSome, IfSome}
use Rattle.std.proofs.lemmas.Bool.{false≢true}
use Rattle.spaces.specs.declared.roster.Request.{Request}
use Rattle.spaces.specs.declared.roster.Roster.{Roster}
use Rattle.spaces.specs.declared.site.Target.{Target}
use Rattle.spaces.specs.ProtectionSpaces.{ProtectionSpace}
use Rattle.spaces.specs.Sites.{numbered}
use Rattle.link_trait.specs.declared.dialer.Dial.{Dial}
use Rattle.link_trait.specs.declared.links.LinkName.{LinkName}
use Rattle.link_trait.specs.Links.{has_link, IsUndialed}
use Rattle.auth_events.specs.declared.journal.Call.{Call}
use Rattle.auth_events.specs.declared.journal.Call.TheVariants.{Answer, Lose, Reject, Renew, Select, Take}
use Rattle.auth_events.specs.declared.journal.BookReply.{BookReply}
use Rattle.auth_events.specs.Tables.{Tables, no_names, space_number}
use Rattle.auth_events.proofs.Same.{space_refl}
use Rattle.auth_runs.specs.declared.event.Event.{Event}
use Rattle.trace_rule.specs.Settings.{Setting, setting_of}
use Rattle.trace_rule.specs.Traces.{suits}
use Rattle.trace_rule.proofs.Drops.{spaces_numbered}
use Rattle.request_machine.specs.declared.gave.Gave.{Gave}
use Rattle.request_machine.specs.declared.gave.Gave.TheVariants.{Number, Reply}
use Rattle.request_machine.specs.declared.need.Need.{Need}
use Rattle.request_machine.specs.declared.need.Need.TheVariants.{Book, SpaceNo}
use Rattle.request_machine.specs.declared.stage.Stage.{Stage}
use Rattle.request_machine.specs.declared.stage.Stage.TheVariants.{Call as Calling, NameSpace, Select as Selecting, Answer as Answering, Cancel as Cancelling, Lose as Losing, Take as Taking, Reject as Rejecting, Renew as Renewing, RenewLast, Close}
use Rattle.request_machine.specs.Gives.{IsReplyTo, IsTold}
use Rattle.request_machine.specs.Kept.{IsSettingOf, Kept, Ties}
use Rattle.request_machine.specs.Linked.{AreDialsOf, IsLinked, IsOnlyLink, line}
use Rattle.request_machine.specs.Needs.{first_left, need_at}
use Rattle.request_machine.specs.Rooms.{HasSetting, HasSettingIn}
use Rattle.auth_controller.proofs.NeedStages.{space_need}
use Rattle.worked_followers.specs.Following.{HasFollowing, IsFirst, IsFollowing, IsToldFor, SuitsNamed}

-- A SETTING WHERE THE SPACE IS THE FIRST

abbrev names_of : Option ProtectionSpace → Tables
names_of None = no_names
names_of (Some space) = record no_names { spaces = space ∷ [] }

first_number : (space : ProtectionSpace) → space_number (names_of (Some space)) space ≡ Some 1
first_number space = ap (λ b. option_map suc (if b then Some 0 else None)) (space_refl space)

first_here : (roster : Roster) (seed : List ℕ) (r : ℕ) (request : Request) (named : Option ProtectionSpace) → IfSome named (IsFirst (setting_of roster seed (names_of named) [] r request))
first_here roster seed r request None = tt
first_here roster seed r request (Some space) = (first_number space, refl)

pub setting_in : (roster : Roster) (is_named : Bool) (opened : List LinkName) (dials : Option (List Dial)) (m : Kept) → HasFollowing roster is_named opened dials m → HasSettingIn roster m
setting_in roster is_named opened dials m has =
    let f = has.following in
    let here : Setting = setting_of roster m.seed (names_of has.named) [] m.number f.request in
    let is_of : IsSettingOf here roster m.number m.seed = record { same_number = refl; is_request = f.in_roster; same_seed = refl; passes_over = refl } in
    record {
      setting = here;
      is_of = is_of;
      numbers = spaces_numbered false roster m.seed (names_of has.named) [] m.number f.request;
      ties = f.tied here is_of (first_here roster m.seed m.number f.request has.named);
    }

pub setting : (roster : Roster) (is_named : Bool) (opened : List LinkName) (dials : Option (List Dial)) (m : Kept) → HasFollowing roster is_named opened dials m → HasSetting m
setting roster is_named opened dials m has =
    let it = setting_in roster is_named opened dials m has in
    record { setting = it.setting; numbers = it.numbers; ties = it.ties }

-- A STEP

pub stepped : (roster : Roster) (is_named : Bool) (opened now : List LinkName) (dials later : Option (List Dial)) (m n : Kept) → HasFollowing roster is_named opened dials m
    → n.number ≡ m.number → n.seed ≡ m.seed → ((s : Setting) → IsSettingOf s roster m.number m.seed → Ties s m → Ties s n)
    → IsLinked n → IsOnlyLink (line n) now → AreDialsOf (line n) later → HasFollowing roster is_named now later n
stepped roster is_named opened now dials later m n has number seed ties linked only dialed = record {
  named = has.named;
  is_it = has.is_it;
  following = record {
    request = has.following.request;
    in_roster = subst (λ r. numbered roster.requests r ≡ Some has.following.request) (sym number) has.following.in_roster;
    tied = λ s is first.
        let before : IsSettingOf s roster m.number m.seed = subst (IsSettingOf s roster m.number) seed (subst (λ r. IsSettingOf s roster r n.seed) number is) in
        ties s before (has.following.tied s before first);
    linked = linked;
    only = only;
    dialed = dialed;
  };
}

-- AN ANSWER

only_same : (m n : Kept) (opened : List LinkName) → n.number ≡ m.number → n.link ≡ m.link → n.links ≡ m.links → IsOnlyLink (line m) opened → IsOnlyLink (line n) opened
only_same m n opened number link links only = record {
  last =
      subst (λ o. IfSome o (λ (name : LinkName). name ≡ record { request = n.number; nth = n.links })) (sym link)
      (subst (λ k. IfSome m.link (λ (name : LinkName). name ≡ record { request = n.number; nth = k })) (sym links)
      (subst (λ r. IfSome m.link (λ (name : LinkName). name ≡ record { request = r; nth = m.links })) (sym number) only.last));
  only = λ k. ap (λ r. has_link (record { request = r; nth = k }) opened) number ∙ (only.only k ∙ ap (λ o. unwrap_or (option_map (λ (name : LinkName). name.nth == k) o) false) (sym link));
}

dials_same : (m n : Kept) (told : Option (List Dial)) → n.number ≡ m.number → n.links ≡ m.links → AreDialsOf (line m) told → AreDialsOf (line n) told
dials_same m n told number links dialed = λ k low. subst (λ r. IsUndialed (record { request = r; nth = k }) told) (sym number) (dialed k (subst (λ x. x < k) links low))

-- a reply that suits the call suits the stage that asks for it
module _ (s : Setting) (m : Kept) (call : Call) (reply : BookReply) (suit : (past : List Event) → IsTrue (suits s past call reply)) where
  same_call : (c : Call) → Some (Book c) ≡ Some (Book call) → IsTrue (suits s m.past c reply)
  same_call c e = let same : call ≡ c = cc in subst (λ x. IsTrue (suits s m.past x reply)) same (suit m.past)

  pub reply_at : (stage : Stage) → need_at m stage ≡ Some (Book call) → IsReplyTo s m stage reply
  reply_at (Calling c) e = same_call c e
  reply_at (Selecting t a b) e = same_call (Select a b) e
  reply_at (Answering p text) e = same_call (Answer p.number text p.terms) e
  reply_at (Cancelling p) e = same_call (Answer p.number 0 p.terms) e
  reply_at (Losing p loss) e = same_call (Lose p.number loss) e
  reply_at (Taking p) e = same_call (Take p.number) e
  reply_at (Rejecting t gift) e = same_call (Reject gift.space gift.ordinal) e
  reply_at (Renewing t gift a) e = same_call (Renew gift a) e
  reply_at (RenewLast t gift a c) e = same_call (Renew gift a) e
  reply_at (Close c) e = same_call (first_left c.proxy c.server) e
  reply_at stage e = tt

space_known : (s : Setting) (named : Option ProtectionSpace) → IfSome named (IsFirst s) → is_some named ≡ true → IsSome (s.space_of 1)
space_known s None first some = absurd (false≢true some)
space_known s (Some space) first some = ap is_some first.1

number_at : (s : Setting) (m : Kept) (space : ProtectionSpace) → (t : Target) × (m.stage ≡ NameSpace t) × (m.unnamed_space ≡ Some space) → IsFirst s space → IsTold s m m.stage (Number 1)
number_at s m space at first =
    subst (λ stage. IsTold s m stage (Number 1)) (sym at.1)
    (subst (λ o. IfSome o (λ named. (s.space_no named ≡ Some 1) × (s.space_of 1 ≡ Some named))) (sym at.2) first)

module _ (roster : Roster) (opened : List LinkName) (dials : Option (List Dial)) (m n : Kept) (number : n.number ≡ m.number) (seed : n.seed ≡ m.seed)
    (link : n.link ≡ m.link) (links : n.links ≡ m.links) (linked : IsLinked m → IsLinked n) where
  given : (named later : Option ProtectionSpace) (gave : Gave) → IsFollowing roster named opened dials m → ((s : Setting) → IsTold s m m.stage gave → Ties s m → Ties s n)
      → ((s : Setting) → IfSome later (IsFirst s) → IfSome named (IsFirst s) × IsTold s m m.stage gave) → IsFollowing roster later opened dials n
  given named later gave f ties so = record {
    request = f.request;
    in_roster = subst (λ r. numbered roster.requests r ≡ Some f.request) (sym number) f.in_roster;
    tied = λ s is first.
        let before : IsSettingOf s roster m.number m.seed = subst (IsSettingOf s roster m.number) seed (subst (λ r. IsSettingOf s roster r n.seed) number is) in
        ties s (so s first).1 (f.tied s before (so s first).0);
    linked = linked f.linked;
    only = only_same m n opened number link links f.only;
    dialed = dials_same m n dials number links f.dialed;
  }

  replied : (named : Option ProtectionSpace) (is_named later : Bool) (call : Call) (reply : BookReply) → need_at m m.stage ≡ Some (Book call) → is_some named ≡ is_named → IsFollowing roster named opened dials m
      → later ≡ is_named → SuitsNamed is_named call reply → ((s : Setting) → IsTold s m m.stage (Reply reply) → Ties s m → Ties s n) → HasFollowing roster later opened dials n
  replied named is_named later call reply need is_it f same suit ties = record {
    named = named;
    is_it = is_it ∙ sym same;
    following = given named named (Reply reply) f ties (λ s first. (first, reply_at s m call reply (λ past. suit s past (λ so. space_known s named first (is_it ∙ so))) m.stage need));
  }

  numbered_first : (named : Option ProtectionSpace) (is_named later : Bool) (space : ProtectionSpace) (count : ℕ) → need_at m m.stage ≡ Some (SpaceNo space) → is_some named ≡ is_named → IsFollowing roster named opened dials m
      → later ≡ true → is_named ≡ false → count ≡ 1 → ((s : Setting) → IsTold s m m.stage (Number count) → Ties s m → Ties s n) → HasFollowing roster later opened dials n
  numbered_first (Some old) is_named later space count need is_it f is_now unnamed one ties = absurd (false≢true (sym (is_it ∙ unnamed)))
  numbered_first None is_named later space count need is_it f is_now unnamed one ties = record {
    named = Some space;
    is_it = sym is_now;
    following =
        given None (Some space) (Number count) f ties
        (λ s first. (tt, subst (λ k. IsTold s m m.stage (Number k)) (sym one) (number_at s m space (space_need m m.stage space need) first)));
  }

  pub told : (need : Need) (gave : Gave) (is_named later : Bool) → need_at m m.stage ≡ Some need → IsToldFor need is_named gave later → HasFollowing roster is_named opened dials m
      → ((s : Setting) → IsTold s m m.stage gave → Ties s m → Ties s n) → HasFollowing roster later opened dials n
  told (Book call) (Reply reply) is_named later need so has ties = replied has.named is_named later call reply need has.is_it has.following so.0 so.1 ties
  told (SpaceNo space) (Number count) is_named later need so has ties = numbered_first has.named is_named later space count need has.is_it has.following so.0 so.1 so.2 ties
  told need gave is_named later asked so has ties = absurd so
