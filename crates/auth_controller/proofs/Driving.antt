-- A machine that is driven on: by what it does itself, and by what it is told.
use Rattle.std.proofs.Common.{ℕ, ◌≡◌, ◌⊎◌, inl, inr, ◌<◌, ◌==◌, Bool, true, false, not, IsTrue, List, [], ◌∷◌, Option, Some, None, is_some, option_map, unwrap_or, refl, sym, ap, ◌∙◌, subst}
use Rattle.std.specs.Prelude.{IfSome}
use Rattle.std.proofs.lemmas.Bool.{false≢true}
use Rattle.spaces.specs.declared.roster.Request.{Request}
use Rattle.spaces.specs.declared.roster.Roster.{Roster}
use Rattle.link_trait.specs.declared.dialer.Dial.{Dial}
use Rattle.link_trait.specs.declared.links.LinkName.{LinkName}
use Rattle.link_trait.specs.Links.{IsUndialed, has_link}
use Rattle.link_trait.specs.Told.{grown}
use Rattle.auth_events.specs.declared.journal.Drawn.{Drawn}
use Rattle.auth_events.specs.declared.told.Told.{Told}
use Rattle.auth_events.specs.Told.{names_told, past}
use Rattle.auth_runs.specs.declared.event.Event.{Event}
use Rattle.trace_rule.specs.Settings.{Setting, setting_of}
use Rattle.trace_rule.specs.Telling.{dials}
use Rattle.trace_rule.specs.Traces.{is_spent}
use Rattle.serving_laws.specs.Knowing.{KnowsBook}
use Rattle.serving_laws.specs.Meeting.{none_pending}
use Rattle.serving_laws.specs.Rooms.{HasNamed}
use Rattle.serving_laws.proofs.Serving.{known_still}
use Rattle.request_machine.specs.declared.gave.Gave.{Gave}
use Rattle.request_machine.specs.declared.gave.Gave.TheVariants.{Drawn as CountGiven, Reply}
use Rattle.request_machine.specs.declared.stage.Stage.{Stage}
use Rattle.request_machine.specs.declared.stage.Stage.TheVariants.{Call as Calling, Draw, NameTerms, Select as Selecting, Answer as Answering, Renew as Renewing, RenewLast, Spent, SpentEnd, SpentOver, Over}
use Rattle.spaces.specs.declared.site.Target.{Target}
use Rattle.spaces.specs.declared.site.Target.TheVariants.{Proxy, Server, Socks}
use Rattle.std.specs.Prelude.{IsSome, if◌then◌else◌}
use Rattle.spaces.specs.declared.terms.Terms.{Terms}
use Rattle.auth_events.specs.declared.journal.BookReply.{BookReply}
use Rattle.auth_events.specs.declared.journal.BookReply.TheVariants.{Ended as RequestEnded, Lost}
use Rattle.auth_events.specs.declared.journal.Call.{Call}
use Rattle.auth_events.specs.declared.journal.Call.TheVariants.{End as CallEnd, Lose}
use Rattle.auth_events.specs.declared.journal.Loss.TheVariants.{Memory}
use Rattle.auth_runs.specs.declared.event.Event.TheVariants.{Called, Drew}
use Rattle.request_machine.specs.declared.need.Need.TheVariants.{TermsNo}
use Rattle.request_machine.specs.Needs.{need_at}
use Rattle.auth_text.specs.Login.{Login}
use Rattle.spaces.specs.ProtectionSpaces.{ProtectionSpace}
use Rattle.link_trait.specs.declared.dialer.Traffic.{Traffic}
use Rattle.link_trait.specs.declared.prompts.Ask.{Ask as Asked}
use Rattle.request_machine.specs.Carried.{IsCarried}
use Rattle.request_machine.specs.Prompted.{IsAnsweredBy, IsPrompted}
use Rattle.request_machine.proofs.Sent.{carried_given}
use Rattle.request_machine.proofs.Giving.{prompted_given}
use Rattle.request_machine.specs.Driven.{insides}
use Rattle.request_machine.specs.Failed.{ask_faults, link_faults}
use Rattle.request_machine.specs.Gives.{call_at, is_heard, past_drawn, past_given, past_replied}
use Rattle.request_machine.specs.Kept.{IsKept, IsSettingOf, Kept, Ties}
use Rattle.request_machine.specs.Linked.{AreDialsOf, IsLinked, IsOnlyLink, line, of_others}
use Rattle.request_machine.specs.Turns.{IsStill, is_asking}
use Rattle.request_machine.specs.Work.{is_unspent, is_waiting}
use Rattle.auth_controller.specs.Answering.{HasServing, IsGiven, IsServedOn}
use Rattle.auth_controller.specs.Driving.{HasDriving, IsDriving, Peers, Seen}
use Rattle.auth_controller.specs.Serving.{IsServing, has_memory, pending_at}
use Rattle.auth_controller.proofs.Answered.{is_free, spent_out, ties_here}
use Rattle.auth_controller.specs.Texts.{AreTextsTold}
use Rattle.auth_controller.proofs.Going.{gone_serving, setting_known}
use Rattle.auth_controller.proofs.Texts.{given_texts, stepped_texts, told_stays}
use Rattle.book_laws.proofs.Growing.{NamesGrow, grow_told}

-- WHAT IT DOES ITSELF

-- what it tells goes on
abbrev pub StepsTraffic : Roster → Option (LinkName → List ℕ) → Kept → Kept → Option (List Traffic) → Option (List Traffic) → Type 0
StepsTraffic roster streams m n was is =
    (s : Setting) (before : Option (List Traffic)) (more : List Traffic) → IsSettingOf s roster m.number m.seed → Ties s m → was ≡ grown before more
    → IsCarried s streams before m more → (further : List Traffic) × (is ≡ grown before further) × IsCarried s streams before n further

abbrev pub StepsPrompts : Roster → Option (ProtectionSpace → ℕ → Option Login) → Kept → Kept → Option (List Asked) → Option (List Asked) → Type 0
StepsPrompts roster answers m n was is =
    (s : Setting) (before : Option (List Asked)) → IsSettingOf s roster m.number m.seed → Ties s m → IsPrompted s before answers m was → IsPrompted s before answers n is

-- the machine went on by itself
pub record IsStepped (roster : Roster) (peer : Peers) (m n : Kept) (was now : Seen) : Type 0 where
  pub number : n.number ≡ m.number
  pub seed : n.seed ≡ m.seed
  pub ties : (s : Setting) → IsSettingOf s roster m.number m.seed → Ties s m → Ties s n
  pub linked : IsLinked n
  pub only : IsOnlyLink (line n) now.opened
  pub undialed : AreDialsOf (line n) now.dials
  pub others : of_others m.number now.opened ≡ of_others m.number was.opened
  pub dialed : (s : Setting) (before : Option (List Dial)) → IsSettingOf s roster m.number m.seed → Ties s m → was.dials ≡ grown before (dials s m.past) → now.dials ≡ grown before (dials s n.past)
  pub traffic : StepsTraffic roster peer.streams m n was.traffic now.traffic
  pub prompts : StepsPrompts roster peer.answers m n was.asks now.asks
  pub same_inside : insides n.past ≡ insides m.past
  pub still : is_asking m ≡ true → (n.past ≡ m.past) × IsStill m n
  pub free : is_asking m ≡ false → is_waiting n.stage ≡ false
  pub spent : is_unspent m.stage ≡ false → n.stage ≡ Over → is_spent n.past ≡ true
  pub unspent : is_unspent m.stage ≡ false → (is_unspent n.stage ≡ false) ⊎ (n.stage ≡ Over)

-- where a machine goes on by itself no number waits
idle_free : (roster : Roster) (before told : List Told) (first words : List Drawn) (request : Request) (m : Kept) → IsServing roster before told first words request m → is_asking m ≡ false → pending_at m.stage ≡ none_pending
idle_free roster before told first words request m serving idle = by m.stage refl idle
  where
    by : (x : Stage) → m.stage ≡ x → is_some (need_at m x) ≡ false → pending_at x ≡ none_pending
    by (NameTerms t space) is e =
        absurd (some_terms m.unnamed_terms (subst (IsKept (setting_of roster m.seed (names_told told) (past told) m.number request) m) is (ties_here roster before told first words request m serving).kept).are_some e)
      where
        some_terms : (o : Option Terms) → IsSome o → is_some (option_map (TermsNo space) o) ≡ false → ⊥
        some_terms None some none = false≢true some
        some_terms (Some terms) some none = false≢true (sym none)
    by (Selecting t space terms) is e = absurd (false≢true (sym e))
    by (Answering p text) is e = absurd (false≢true (sym e))
    by (Renewing t gift terms) is e = absurd (false≢true (sym e))
    by (RenewLast t gift terms c) is e = absurd (false≢true (sym e))
    by x is e = refl

module _ (roster : Roster) (peer : Peers) (start now : Seen) (request : Request) (m n : Kept) (later : Seen) (driving : IsDriving roster peer start now request m)
    (stepped : IsStepped roster peer m n now later) where
  -- memory hadn't run out before
  memory_was : IsTrue (has_memory n.stage n.past) → IsTrue (has_memory m.stage m.past)
  memory_was memory = by m.stage refl
    where
      none_left : is_unspent m.stage ≡ false → ⊥
      none_left out = at (stepped.unspent out)
        where
          at : (is_unspent n.stage ≡ false) ⊎ (n.stage ≡ Over) → ⊥
          at (inl gone) = spent_out n.stage n.past gone memory
          at (inr over) = false≢true (subst (λ b. IsTrue (not b)) (stepped.spent out over) (subst (λ x. IsTrue (has_memory x n.past)) over memory))

      stays : IsStill m n → m.stage ≡ Over → n.past ≡ m.past → IsTrue (not (is_spent m.past))
      stays (inl same) over past_same = subst (λ l. IsTrue (not (is_spent l))) past_same (subst (λ x. IsTrue (has_memory x n.past)) (ap (λ (k : Kept). k.stage) same ∙ over) memory)
      stays (inr spent) over past_same = absurd (false≢true (subst (λ x. IsTrue (has_memory x n.past)) spent memory))

      by : (x : Stage) → m.stage ≡ x → IsTrue (has_memory x m.past)
      by Spent is = absurd (none_left (ap is_unspent is))
      by SpentEnd is = absurd (none_left (ap is_unspent is))
      by SpentOver is = absurd (none_left (ap is_unspent is))
      by Over is = let asks : is_asking m ≡ true = ap (λ x. is_some (need_at m x)) is in stays (stepped.still asks).1 is (stepped.still asks).0
      by x is = refl

  -- what waits for the next call still does
  waits_still : IsTrue (has_memory n.stage n.past) → pending_at m.stage ≡ pending_at n.stage
  waits_still memory = by (is_asking m) refl
    where
      same_stage : IsStill m n → pending_at m.stage ≡ pending_at n.stage
      same_stage (inl same) = ap pending_at (sym (ap (λ (k : Kept). k.stage) same))
      same_stage (inr spent) = absurd (false≢true (subst (λ x. IsTrue (has_memory x n.past)) spent memory))

      by : (b : Bool) → is_asking m ≡ b → pending_at m.stage ≡ pending_at n.stage
      by true asks = same_stage (stepped.still asks).1
      by false idle = idle_free roster start.told now.told start.words now.words request m driving.serving idle ∙ sym (is_free n.stage (stepped.free idle))

  knew : (s : Setting) → KnowsBook roster n.seed (names_told now.told) (past now.told) n.number request s → KnowsBook roster m.seed (names_told now.told) (past now.told) m.number request s
  knew s k = subst (λ x. KnowsBook roster m.seed (names_told now.told) (past now.told) x request s) stepped.number (subst (λ x. KnowsBook roster x (names_told now.told) (past now.told) n.number request s) stepped.seed k)

  of_it : (s : Setting) → KnowsBook roster m.seed (names_told now.told) (past now.told) m.number request s → IsSettingOf s roster m.number m.seed
  of_it s k = setting_known roster now.told request m s driving.serving.served.alone.in_roster k

  abbrev stepped_seen : Seen
  stepped_seen = record now { dials = later.dials; opened = later.opened; traffic = later.traffic; asks = later.asks }

  pub stepped_driving : IsDriving roster peer start stepped_seen request n
  stepped_driving = record {
    serving =
        gone_serving roster start.told now.told start.words now.words request m n driving.serving (record { number = stepped.number; seed = stepped.seed }) stepped.same_inside stepped.ties
        (λ u. subst (HasNamed (names_told start.told) (names_told now.told) m.number m.past) (waits_still u) (driving.serving.named (memory_was u)));
    linked = stepped.linked;
    only = stepped.only;
    undialed = stepped.undialed;
    others = subst (λ r. of_others r later.opened ≡ of_others r start.opened) (sym stepped.number) (stepped.others ∙ driving.others);
    dialed = λ s k. (let k' = knew s k in stepped.dialed s start.dials (of_it s k') (driving.serving.known s k') (driving.dialed s k'));
    traffic = λ s k.
        let k' = knew s k in
        let it = driving.traffic s k' in
        let on = stepped.traffic s start.traffic it.more (of_it s k') (driving.serving.known s k') it.grows it.carried in
        record { more = on.0; grows = on.1; carried = on.2 };
    prompted = λ s k. (let k' = knew s k in stepped.prompts s start.asks (of_it s k') (driving.serving.known s k') (driving.prompted s k'));
    texts = λ s k. stepped_so s peer.answers (driving.texts s (knew s k));
  }
    where
      stepped_so : (s : Setting) (o : Option (ProtectionSpace → ℕ → Option Login)) → IfSome o (λ answers. AreTextsTold s answers (names_told now.told) m) → IfSome o (λ answers. AreTextsTold s answers (names_told now.told) n)
      stepped_so s None told = tt
      stepped_so s (Some answers) told = stepped_texts s answers (names_told now.told) m n stepped.same_inside stepped.still stepped.free told

-- WHAT IT IS TOLD

-- what passes over calls and draws is the same
pub untold_given : {A : Type 0} (f : List Event → A) → ((call : Call) (reply : BookReply) (past : List Event) → f (Called call reply ∷ past) ≡ f past) → ((t : Target) (n count epoch : ℕ) (past : List Event) → f (Drew t n count epoch ∷ past) ≡ f past)
    → (m : Kept) (gave : Gave) → f (past_given m gave) ≡ f m.past
untold_given f calls draws m (Reply reply) = replied m.stage
  where
    heard : (b : Bool) (call : Call) → f (if b then Called call reply ∷ m.past else m.past) ≡ f m.past
    heard true call = calls call reply m.past
    heard false call = refl

    spent : (b : Bool) → f ((if b then Called CallEnd RequestEnded else Called (Lose m.prompt Memory) (Lost Memory)) ∷ m.past) ≡ f m.past
    spent true = calls CallEnd RequestEnded m.past
    spent false = calls (Lose m.prompt Memory) (Lost Memory) m.past

    replied : (x : Stage) → f (past_replied m x reply) ≡ f m.past
    replied Spent = spent (m.prompt == 0)
    replied SpentEnd = calls CallEnd RequestEnded m.past
    replied (Calling call) = heard (is_heard (Calling call) reply) call
    replied x = heard (is_heard x reply) (call_at x)
untold_given f calls draws m (CountGiven drawn) = drew m.stage
  where
    drew : (x : Stage) → f (past_drawn m x drawn) ≡ f m.past
    drew (Draw Proxy nonce) = draws Proxy nonce drawn.count drawn.epoch m.past
    drew (Draw Server nonce) = draws Server nonce drawn.count drawn.epoch m.past
    drew (Draw Socks nonce) = refl
    drew x = refl
untold_given f calls draws m gave = refl

dials_given : (s : Setting) (m : Kept) (gave : Gave) → dials s (past_given m gave) ≡ dials s m.past
dials_given s m gave = untold_given (dials s) (λ call reply past. refl) (λ t n count epoch past. refl) m gave

-- FAILURES

-- no answer is a failure of a dialer or of a prompter
pub links_given : (m : Kept) (gave : Gave) → link_faults (past_given m gave) ≡ link_faults m.past
links_given m gave = untold_given link_faults (λ call reply past. refl) (λ t n count epoch past. refl) m gave

pub asks_given : (m : Kept) (gave : Gave) → ask_faults (past_given m gave) ≡ ask_faults m.past
asks_given m gave = untold_given ask_faults (λ call reply past. refl) (λ t n count epoch past. refl) m gave

-- where one that fails no more was at no failure before, it is at none now
pub still_quiet : (before was is : Type 0) (earlier now later : List ℕ) → (was → is × (now ≡ earlier)) → later ≡ now → (before → was × (earlier ≡ [])) → before → is × (later ≡ [])
still_quiet before was is earlier now later goes same first = λ quiet. (let it = first quiet in let on = goes it.0 in (on.0, same ∙ (on.1 ∙ it.1)))

-- OF ONE NEED

only_same : (m n : Kept) (opened : List LinkName) → n.number ≡ m.number → n.link ≡ m.link → n.links ≡ m.links → IsOnlyLink (line m) opened → IsOnlyLink (line n) opened
only_same m n opened number link links only = record {
  last =
      subst (λ o. IfSome o (λ (name : LinkName). name ≡ record { request = n.number; nth = n.links })) (sym link)
      (subst (λ k. IfSome m.link (λ (name : LinkName). name ≡ record { request = n.number; nth = k })) (sym links)
      (subst (λ r. IfSome m.link (λ (name : LinkName). name ≡ record { request = r; nth = m.links })) (sym number) only.last));
  only = λ k. ap (λ r. has_link (record { request = r; nth = k }) opened) number ∙ (only.only k ∙ ap (λ o. unwrap_or (option_map (λ (name : LinkName). name.nth == k) o) false) (sym link));
}

undialed_same : (m n : Kept) (told : Option (List Dial)) → n.number ≡ m.number → n.links ≡ m.links → AreDialsOf (line m) told → AreDialsOf (line n) told
undialed_same m n told number links undialed = λ k low. subst (λ r. IsUndialed (record { request = r; nth = k }) told) (sym number) (undialed k (subst (λ x. x < k) links low))

pub answered_driving : (roster : Roster) (peer : Peers) (start now : Seen) (request : Request) (m n : Kept) (more : List Told) (later : List Drawn) → IsDriving roster peer start now request m
    → IsGiven roster now.told more m n → IsServedOn roster now.told more now.words later m n → IsDriving roster peer start (record now { told = more; words = later }) request n
answered_driving roster peer start now request m n more later driving given on = record {
  serving = serving;
  linked = given.as_it.linked driving.linked;
  only = only_same m n now.opened given.as_it.number given.as_it.link given.as_it.links driving.only;
  undialed = undialed_same m n now.dials given.as_it.number given.as_it.links driving.undialed;
  others = subst (λ r. of_others r now.opened ≡ of_others r start.opened) (sym given.as_it.number) driving.others;
  dialed = λ s k. driving.dialed s (knew_so s k) ∙ ap (grown start.dials) (sym (ap (dials s) given.as_it.past ∙ dials_given s m given.gave));
  traffic = λ s k.
      let it = driving.traffic s (knew_so s k) in
      record {
        more = it.more;
        grows = it.grows;
        carried =
            carried_given s peer.streams start.traffic m n given.gave it.more (driving.serving.known s (knew_so s k)) given.as_it.past given.as_it.number given.as_it.links given.as_it.link given.as_it.ends it.carried;
      };
  prompted = λ s k.
      prompted_given s start.asks peer.answers m n given.gave now.asks (driving.serving.known s (knew_so s k)) driving.linked
      (given.so now.words start.told start.words request driving.serving s (at_it s k)) given.as_it.past given.as_it.given given.as_it.space (driving.prompted s (knew_so s k));
  texts = λ s k. texts_so s (driving.serving.known s (knew_so s k)) peer.answers (driving.prompted s (knew_so s k)).answered (driving.texts s (knew_so s k));
}
  where
    grow : NamesGrow (names_told now.told) (names_told more)
    grow = subst (λ l. NamesGrow (names_told now.told) (names_told l)) on.adds.grows (grow_told now.told on.adds.items)

    texts_so : (s : Setting) → Ties s m → (o : Option (ProtectionSpace → ℕ → Option Login)) → IfSome o (λ answers. IsAnsweredBy s answers m) → IfSome o (λ answers. AreTextsTold s answers (names_told now.told) m)
        → IfSome o (λ answers. AreTextsTold s answers (names_told more) n)
    texts_so s ties None answered told = tt
    texts_so s ties (Some answers) answered told =
        given_texts s answers (names_told more) m ties answered (told_stays s answers (names_told now.told) (names_told more) grow m told) n given.gave given.as_it given.text given.heard

    serving : IsServing roster start.told more start.words later request n
    serving = on.on start.told start.words request driving.serving

    at_it : (s : Setting) → KnowsBook roster n.seed (names_told more) (past more) n.number request s → KnowsBook roster m.seed (names_told more) (past more) m.number request s
    at_it s k = subst (λ x. KnowsBook roster m.seed (names_told more) (past more) x request s) given.as_it.number (subst (λ x. KnowsBook roster x (names_told more) (past more) n.number request s) given.as_it.seed k)

    knew_so : (s : Setting) → KnowsBook roster n.seed (names_told more) (past more) n.number request s → KnowsBook roster m.seed (names_told now.told) (past now.told) m.number request s
    knew_so s k = known_still roster m.seed now.told more m.number request s on.adds serving.served.alone.legal (at_it s k)

-- ONE NEED

module _ (roster book : Roster) (same : roster ≡ book) (peer : Peers) (start now : Seen) (m n : Kept) (later : Seen) (has : HasDriving roster peer start now m)
    (stepped : IsStepped roster peer m n now later) where
  abbrev on_it : Seen
  on_it = record now { dials = later.dials; opened = later.opened; traffic = later.traffic; asks = later.asks }

  pub step_on : HasDriving roster peer start on_it n
  step_on = record { request = has.request; driving = stepped_driving roster peer start now has.request m n later has.driving stepped }

  pub step_serving : HasServing book now.told now.words n
  step_serving =
      subst (λ x. HasServing x now.told now.words n) same
      (record { before = start.told; first = start.words; request = has.request; serving = (stepped_driving roster peer start now has.request m n later has.driving stepped).serving })

  pub answer_on : (k : Kept) (more : List Told) (words : List Drawn) → IsGiven book now.told more n k → IsServedOn book now.told more now.words words n k
      → HasDriving roster peer start (record on_it { told = more; words = words }) k
  answer_on k more words given on = record {
    request = has.request;
    driving =
        answered_driving roster peer start on_it has.request n k more words (stepped_driving roster peer start now has.request m n later has.driving stepped)
        (subst (λ x. IsGiven x now.told more n k) (sym same) given)
        (subst (λ x. IsServedOn x now.told more now.words words n k) (sym same) on);
  }
