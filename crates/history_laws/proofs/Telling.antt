-- A gift that a request is told is of the space that it asks for, which is of its own site.
use Rattle.std.proofs.Common.{◌≡◌, ℕ, Bool, true, false, not, ◌&&◌, ◌||◌, cond, List, [], ◌∷◌, refl, ap, sym, subst, ◌∙◌, ◌⊎◌, inl, inr, Option, Some, None}
use Rattle.std.specs.Prelude.{IsTrue, is_some, find, fold, option_map, option_and_then, unwrap_or, ◌==◌}
use Rattle.std.specs.List.{list_any}
use Rattle.std.proofs.lemmas.Bool.{false≢true}
use Rattle.std.proofs.lemmas.Option.{none-some}
use Rattle.spaces.specs.Paths.{covers}
use Rattle.spaces.specs.Sites.{numbered, site, same_site}
use Rattle.spaces.specs.ProtectionSpaces.{ProtectionSpace}
use Rattle.spaces.specs.declared.roster.Roster.{Roster}
use Rattle.spaces.specs.declared.roster.Request.{Request}
use Rattle.spaces.specs.declared.place.Origin.{Origin}
use Rattle.spaces.specs.declared.site.Site.{Site}
use Rattle.spaces.specs.declared.site.Target.{Target}
use Rattle.spaces.specs.declared.site.Target.TheVariants.{Server, Proxy, Socks}
use Rattle.auth_events.specs.declared.journal.Gift.{Gift}
use Rattle.auth_events.specs.declared.journal.Call.{Call}
use Rattle.auth_events.specs.declared.journal.Call.TheVariants.{Preempt, Select, Answer, Lose, Take}
use Rattle.auth_events.specs.declared.journal.BookReply.{BookReply}
use Rattle.auth_events.specs.declared.journal.BookReply.TheVariants.{Ready, Url, Cached, Follow, Given, Cancelled, Pending, Gave}
use Rattle.auth_events.specs.declared.journal.Entry.{Entry}
use Rattle.auth_events.specs.Tables.{Tables}
use Rattle.auth_events.specs.Pages.{fits}
use Rattle.auth_events.specs.Past.{current, end, gift_given, gives, is_lead, is_of, lead, open_lead, prompt_led, prompt_followed, selects, settled, settles, spaces_given, taken_from, takes_away}
use Rattle.auth_events.specs.Book.{Choice, Found, NotedDir, IsLegalPast, allowed_call, answer, best_found, better, by_path, choice, dirs, first_choice, found_in, gift_told, is_led_by, is_of_site, is_rival, is_site_of, longer, next_gift, own, path_of, preempt_answer, ready, select_answer, space_by_path, space_named, space_of_prompt, space_selected, takes, target_of}
use Rattle.auth_events.specs.Book.Choice.{ByUrl, ByCache, ByDefault, ByFollowing, ByLeading}
use Rattle.history_laws.specs.Laws.{AreToldAtHome, IsAsked, is_site_named}
use Rattle.auth_events.proofs.Numbers.{and_left, and_right, both, or_left, or_right}
use Rattle.auth_events.proofs.Same.{number_same, number_refl, site_same, site_refl}
use Rattle.history_laws.proofs.Homes.{answered_led, leader_site, selected_site}
use Rattle.history_laws.proofs.Leading.{IsPromptOf, leads_selected, prompt_of_lead, prompt_stays}

-- the value of an option that is known
some_same : {A : Type 0} (x y : A) → Some x ≡ Some y → x ≡ y
some_same x y is = ap (λ o. unwrap_or o x) is

-- THE GIFT THAT A SPACE HOLDS

pub current_space : (past : List Entry) (s : ℕ) (gift : Gift) → current past s ≡ Some gift → gift.space ≡ s
current_space [] s gift is = absurd (none-some gift is)
current_space (entry ∷ past) s gift is = at (takes_away entry s) (gives entry s) refl is (λ before. current_space past s gift before)
  where
    at : (a b : Bool) → gives entry s ≡ b → cond a None (cond b (gift_given entry.reply) (current past s)) ≡ Some gift → (current past s ≡ Some gift → gift.space ≡ s) → gift.space ≡ s
    at true b given is' before = absurd (none-some gift is')
    at false true given is' before = number_same gift.space s (subst (λ o. IsTrue (is_of o s)) is' given)
    at false false given is' before = before is'

-- SELECT

abbrev choice_gift : Choice → Option Gift
choice_gift (ByCache gift) = Some gift
choice_gift how = None

select_told : (rival : ℕ → Bool) (past : List Entry) (s : ℕ) (how : Choice) (gift : Gift) → gift_told (select_answer rival past s how) ≡ Some gift → (next_gift past s ≡ gift) ⊎ (choice_gift how ≡ Some gift)
select_told rival past s ByUrl gift is = inl (some_same (next_gift past s) gift is)
select_told rival past s (ByCache held) gift is = inr is
select_told rival past s ByDefault gift is = absurd (none-some gift is)
select_told rival past s (ByFollowing p) gift is = absurd (none-some gift is)
select_told rival past s ByLeading gift is = absurd (none-some gift is)

cache_is_held : (url : Bool) (held : Option Gift) (ambient : Bool) (led : Option Entry) (gift : Gift) → choice_gift (first_choice url held ambient led) ≡ Some gift → held ≡ Some gift
cache_is_held true held ambient led gift is = absurd (none-some gift is)
cache_is_held false (Some kept) ambient led gift is = is
cache_is_held false None true led gift is = absurd (none-some gift is)
cache_is_held false None false (Some entry) gift is = absurd (none-some gift is)
cache_is_held false None false None gift is = absurd (none-some gift is)

gift_selected : (past : List Entry) (s : ℕ) (gift : Gift) (url : Bool) (ambient : Bool) (led : Option Entry) → (next_gift past s ≡ gift) ⊎ (choice_gift (first_choice url (current past s) ambient led) ≡ Some gift) → gift.space ≡ s
gift_selected past s gift url ambient led (inl next) = sym (ap (λ (g : Gift). g.space) next)
gift_selected past s gift url ambient led (inr held) = current_space past s gift (cache_is_held url (current past s) ambient led gift held)

-- FOLLOWING

abbrev choice_prompt : Choice → ℕ
choice_prompt (ByFollowing p) = p
choice_prompt how = 0

select_follows : (rival : ℕ → Bool) (past : List Entry) (s : ℕ) (how : Choice) → prompt_followed (select_answer rival past s how) ≡ choice_prompt how
select_follows rival past s ByUrl = refl
select_follows rival past s (ByCache gift) = refl
select_follows rival past s ByDefault = refl
select_follows rival past s (ByFollowing p) = refl
select_follows rival past s ByLeading = refl

-- the prompt that is followed is that of the open lead
abbrev FollowsOpen : ℕ → Option Entry → Type 0
FollowsOpen p led = (entry : Entry) × (led ≡ Some entry) × (p ≡ prompt_led entry.reply)

follows_open : (url : Bool) (held : Option Gift) (ambient : Bool) (led : Option Entry) → (choice_prompt (first_choice url held ambient led) ≡ 0) ⊎ FollowsOpen (choice_prompt (first_choice url held ambient led)) led
follows_open true held ambient led = inl refl
follows_open false (Some gift) ambient led = inl refl
follows_open false None true led = inl refl
follows_open false None false (Some entry) = inr (entry, refl, refl)
follows_open false None false None = inl refl

not_zero_same : (p q : ℕ) → IsTrue (not (p == 0)) → q ≡ 0 → q ≡ p → ⊥
not_zero_same p q some zero same = false≢true (subst (λ n. not (n == 0) ≡ true) (sym same ∙ zero) some)

module _ (roster : Roster) (names : Tables) where
  -- what is known of the prompt that a request follows
  pub record Followed (past : List Entry) (r p : ℕ) (call : Call) : Type 0 where
    pub space : ℕ
    pub selected : IsTrue (selects call space)
    pub prompt : IsPromptOf past space p
    pub of_site : IsTrue (is_site_named roster names r space)

  pub follow_at : (past : List Entry) → IsLegalPast roster names past → (r : ℕ) (call : Call) (reply : BookReply) → reply ≡ answer roster names past r call → IsTrue (fits call reply) → IsTrue (allowed_call roster names past r call) → (p : ℕ) → IsTrue (not (p == 0)) → IsTrue (prompt_followed reply == p) → Followed past r p call
  follow_at past legal r (Select s t) reply is fit may p some follows = of (follows_open _ _ _ (open_lead past s))
    where
      number : choice_prompt (choice roster names past r s) ≡ p
      number = sym (select_follows (is_rival names s) past s (choice roster names past r s)) ∙ sym (ap prompt_followed is) ∙ number_same (prompt_followed reply) p follows

      of : (choice_prompt (choice roster names past r s) ≡ 0) ⊎ FollowsOpen (choice_prompt (choice roster names past r s)) (open_lead past s) → Followed past r p (Select s t)
      of (inl none) = absurd (not_zero_same p _ some none number)
      of (inr opened) =
          record {
            space = s;
            selected = number_refl s;
            prompt = subst (IsPromptOf past s) (sym opened.2 ∙ number) (prompt_of_lead roster names (λ e. not (settled past (prompt_led e.reply))) past legal s opened.0 opened.1);
            of_site = selected_site roster names past r s t may;
          }
  follow_at past legal r call (Follow q) is fit may p some follows = absurd (false≢true fit)
  follow_at past legal r call reply is fit may p some follows = absurd (not_zero_same p 0 some refl (number_same 0 p follows))

  pub record HasFollowed (past : List Entry) (r p : ℕ) : Type 0 where
    pub space : ℕ
    pub prompt : IsPromptOf past space p
    pub of_site : IsTrue (is_site_named roster names r space)
    pub asked : IsTrue (list_any (λ entry. selects entry.call space && prompt_followed entry.reply == p) (own past r))

  pub has_followed : (past : List Entry) → IsLegalPast roster names past → (r p : ℕ) → IsTrue (not (p == 0)) → IsTrue (list_any (λ entry. prompt_followed entry.reply == p) (own past r)) → HasFollowed past r p
  has_followed [] legal r p some any = absurd (false≢true any)
  has_followed (entry ∷ past) legal r p some any = at (entry.request == r) refl (prompt_followed entry.reply == p) refl any (λ before. has_followed past legal.0 r p some before)
    where
      mine : Bool → List Entry
      mine b = cond b (entry ∷ own past r) (own past r)

      at : (a : Bool) → (entry.request == r) ≡ a → (b : Bool) → (prompt_followed entry.reply == p) ≡ b → IsTrue (list_any (λ e. prompt_followed e.reply == p) (mine a)) → (IsTrue (list_any (λ e. prompt_followed e.reply == p) (own past r)) → HasFollowed past r p) → HasFollowed (entry ∷ past) r p
      at true ours true follows found before =
          let this = follow_at past legal.0 entry.request entry.call entry.reply legal.1.1 legal.1.2 (and_right _ _ legal.1.0) p some follows in
          record {
            space = this.space;
            prompt = prompt_stays roster names entry past legal this.space p this.prompt;
            of_site = subst (λ n. IsTrue (is_site_named roster names n this.space)) (number_same entry.request r ours) this.of_site;
            asked =
                subst (λ b. IsTrue (list_any (λ e. selects e.call this.space && prompt_followed e.reply == p) (mine b))) (sym ours)
                (or_left (selects entry.call this.space && prompt_followed entry.reply == p) _ (both (selects entry.call this.space) (prompt_followed entry.reply == p) this.selected follows));
          }
      at true ours false other found before =
          let there = before (subst (λ b. IsTrue (b || list_any (λ e. prompt_followed e.reply == p) (own past r))) other found) in
          record {
            space = there.space;
            prompt = prompt_stays roster names entry past legal there.space p there.prompt;
            of_site = there.of_site;
            asked = subst (λ b. IsTrue (list_any (λ e. selects e.call there.space && prompt_followed e.reply == p) (mine b))) (sym ours) (or_right (selects entry.call there.space && prompt_followed entry.reply == p) _ there.asked);
          }
      at false theirs b follows found before =
          let there = before found in
          record {
            space = there.space;
            prompt = prompt_stays roster names entry past legal there.space p there.prompt;
            of_site = there.of_site;
            asked = subst (λ b. IsTrue (list_any (λ e. selects e.call there.space && prompt_followed e.reply == p) (mine b))) (sym theirs) there.asked;
          }

  -- TAKING

  led_there : (past : List Entry) (r p : ℕ) → IsTrue (is_led_by past r p) → IsTrue (is_some (lead past p))
  led_there past r p leads = of (lead past p) leads
    where
      of : (found : Option Entry) → IsTrue (unwrap_or (option_map (λ entry. entry.request == r) found) false) → IsTrue (is_some found)
      of None leads' = absurd (false≢true leads')
      of (Some entry) leads' = refl

  answer_told : (b : Bool) (next gift : Gift) (gone : ℕ) → gift_told (taken_from (cond b Cancelled (Given next gone))) ≡ Some gift → next ≡ gift
  answer_told true next gift gone is = absurd (none-some gift is)
  answer_told false next gift gone is = some_same next gift is

  -- the gift that settles a prompt is of the prompt's space
  settled_gift : (past : List Entry) (r p : ℕ) (call : Call) (reply : BookReply) (gift : Gift) → reply ≡ answer roster names past r call → IsTrue (allowed_call roster names past r call) → IsTrue (settles call p) → gift_told (taken_from reply) ≡ Some gift → IsPromptOf past gift.space p
  settled_gift past r p (Answer prompt text t) reply gift is may settles_it told =
      let next : next_gift past (space_of_prompt past prompt) ≡ gift = answer_told (text == 0) _ gift _ (subst (λ reply'. gift_told (taken_from reply') ≡ Some gift) is told) in
      subst (IsPromptOf past gift.space) (number_same prompt p settles_it) (led_there past r prompt (answered_led roster names past r prompt text t may), ap (λ (g : Gift). g.space) next)
  settled_gift past r p (Lose prompt loss) reply gift is may settles_it told =
      absurd (none-some gift (subst (λ reply'. gift_told (taken_from reply') ≡ Some gift) is told))
  settled_gift past r p call reply gift is may settles_it told = absurd (false≢true settles_it)

  ended_gift : (past : List Entry) → IsLegalPast roster names past → (p : ℕ) (gift : Gift) → gift_told (end past p) ≡ Some gift → IsPromptOf past gift.space p
  ended_gift [] legal p gift told = absurd (none-some gift told)
  ended_gift (entry ∷ past) legal p gift told = at (settles entry.call p) refl told (λ before. ended_gift past legal.0 p gift before)
    where
      found : Bool → BookReply
      found b = unwrap_or (option_map (λ e. taken_from e.reply) (cond b (Some entry) (find (λ e. settles e.call p) past))) Pending

      at : (b : Bool) → settles entry.call p ≡ b → gift_told (found b) ≡ Some gift → (gift_told (end past p) ≡ Some gift → IsPromptOf past gift.space p) → IsPromptOf (entry ∷ past) gift.space p
      at true is told' before =
          prompt_stays roster names entry past legal gift.space p (settled_gift past entry.request p entry.call entry.reply gift legal.1.1 (and_right _ _ legal.1.0) is told')
      at false is told' before = prompt_stays roster names entry past legal gift.space p (before told')

  -- LEADING

  leads_own : (past : List Entry) → IsLegalPast roster names past → (r p : ℕ) → IsTrue (is_led_by past r p) → IsTrue (list_any (λ entry. selects entry.call (space_of_prompt past p) && prompt_led entry.reply == p) (own past r))
  leads_own [] legal r p leads = absurd (false≢true leads)
  leads_own (entry ∷ past) legal r p leads = at (is_lead entry.reply && prompt_led entry.reply == p) refl (entry.request == r) refl leads (λ before. leads_own past legal.0 r p before)
    where
      found : Bool → Option Entry
      found b = cond b (Some entry) (lead past p)

      space : Bool → ℕ
      space b = unwrap_or (option_map (λ e. space_selected e.call) (found b)) 0

      at : (b : Bool) → (is_lead entry.reply && prompt_led entry.reply == p) ≡ b → (a : Bool) → (entry.request == r) ≡ a → IsTrue (unwrap_or (option_map (λ e. e.request == r) (found b)) false) → (IsTrue (is_led_by past r p) → IsTrue (list_any (λ e. selects e.call (space_of_prompt past p) && prompt_led e.reply == p) (own past r))) → IsTrue (list_any (λ e. selects e.call (space b) && prompt_led e.reply == p) (cond a (entry ∷ own past r) (own past r)))
      at true test true ours leads' before =
          or_left (selects entry.call (space_selected entry.call) && prompt_led entry.reply == p) _
          (both (selects entry.call (space_selected entry.call)) (prompt_led entry.reply == p)
          (leads_selected roster names entry.call entry.reply legal.1.2 (and_left (is_lead entry.reply) (prompt_led entry.reply == p) test))
          (and_right (is_lead entry.reply) (prompt_led entry.reply == p) test))
      at true test false theirs leads' before = absurd (false≢true (sym theirs ∙ leads'))
      at false test true ours leads' before = or_right (selects entry.call (space_of_prompt past p) && prompt_led entry.reply == p) _ (before leads')
      at false test false theirs leads' before = before leads'

  -- BY PATH

  -- what is found in a list has what is found in each thing of it
  better_has : (P : Found → Type 0) (a b : Option Found) (found : Found) → ((f : Found) → a ≡ Some f → P f) → ((f : Found) → b ≡ Some f → P f) → better a b ≡ Some found → P found
  better_has P None b found in_a in_b is = in_b found is
  better_has P (Some x) None found in_a in_b is = in_a found is
  better_has P (Some x) (Some y) found in_a in_b is = of (longer x.noted y.noted) is
    where
      of : (t : Bool) → cond t (Some x) (Some y) ≡ Some found → P found
      of true is' = in_a found is'
      of false is' = in_b found is'

  best_has : (P : Found → Type 0) (look : ℕ → Option Found) (xs : List ℕ) (found : Found) → ((x : ℕ) (f : Found) → look x ≡ Some f → P f) → best_found look xs ≡ Some found → P found
  best_has P look [] found each is = absurd (none-some found is)
  best_has P look (x ∷ xs) found each is =
      better_has P (look x) (best_found look xs) found (each x) (λ f later. best_has P look xs f each later) is

  folded_space : (path : List ℕ) (s : ℕ) (ds : List NotedDir) (best : Option Found) (found : Found) → ((f : Found) → best ≡ Some f → f.space ≡ s) → fold (λ b noted. better b (cond (covers noted.dir path) (Some (record { space = s; noted = noted })) None)) best ds ≡ Some found → found.space ≡ s
  folded_space path s [] best found has is = has found is
  folded_space path s (d ∷ ds) best found has is =
      folded_space path s ds (better best (one (covers d.dir path))) found
      (λ f is'. better_has (λ g. g.space ≡ s) best (one (covers d.dir path)) f has (in_one (covers d.dir path)) is') is
    where
      one : Bool → Option Found
      one b = cond b (Some (record { space = s; noted = d })) None

      in_one : (b : Bool) (f : Found) → cond b (Some (record { space = s; noted = d })) None ≡ Some f → f.space ≡ s
      in_one true f is' = sym (ap (λ (g : Found). g.space) (some_same (record { space = s; noted = d }) f is'))
      in_one false f is' = absurd (none-some f is')

  found_site : (past : List Entry) (place : Site) (path : List ℕ) (s : ℕ) (found : Found) → found_in roster names past place path s ≡ Some found → IsTrue (is_of_site names place found.space)
  found_site past place path s found is = of (is_of_site names place s) refl _ is
    where
      of : (b : Bool) → is_of_site names place s ≡ b → (a : Bool) → cond (a && b) (fold (λ best noted. better best (cond (covers noted.dir path) (Some (record { space = s; noted = noted })) None)) None (dirs roster names past s)) None ≡ Some found → IsTrue (is_of_site names place found.space)
      of true there true is' = subst (λ n. IsTrue (is_of_site names place n)) (sym (folded_space path s (dirs roster names past s) None found (λ f none. absurd (none-some f none)) is')) there
      of true there false is' = absurd (none-some found is')
      of false not_there true is' = absurd (none-some found is')
      of false not_there false is' = absurd (none-some found is')

  path_site : (past : List Entry) (place : Site) (path : List ℕ) (s : ℕ) → by_path roster names past place path ≡ Some s → IsTrue (is_of_site names place s)
  path_site past place path s is = of (best_found (found_in roster names past place path) (spaces_given past)) refl is
    where
      of : (best : Option Found) → best_found (found_in roster names past place path) (spaces_given past) ≡ best → option_map (λ found. found.space) best ≡ Some s → IsTrue (is_of_site names place s)
      of None none is' = absurd (none-some s is')
      of (Some found) there is' =
          subst (λ n. IsTrue (is_of_site names place n)) (some_same found.space s is')
          (best_has (λ f. IsTrue (is_of_site names place f.space)) (found_in roster names past place path) (spaces_given past) found (λ x f at. found_site past place path x f at) there)

  site_target : (request : Request) (target : Target) (place : Site) → site request target ≡ Some place → place.target ≡ target
  site_target request Server place is = sym (ap (λ (p : Site). p.target) (some_same (record { partition = request.partition; target = Server; origin = request.place.origin }) place is))
  site_target request Proxy place is = of request.proxy is
    where
      of : (proxy : Option Origin) → option_map (λ at. record { partition = request.partition; target = Proxy; origin = at }) proxy ≡ Some place → place.target ≡ Proxy
      of None is' = absurd (none-some place is')
      of (Some at) is' = sym (ap (λ (p : Site). p.target) (some_same (record { partition = request.partition; target = Proxy; origin = at }) place is'))
  site_target request Socks place is = absurd (none-some place is)

  abbrev site_there : ℕ → Target → Option Site
  site_there r target = option_and_then (λ request. site request target) (numbered roster.requests r)

  there_target : (r : ℕ) (target : Target) (place : Site) → site_there r target ≡ Some place → place.target ≡ target
  there_target r target place is = of (numbered roster.requests r) is
    where
      of : (request : Option Request) → option_and_then (λ request'. site request' target) request ≡ Some place → place.target ≡ target
      of None is' = absurd (none-some place is')
      of (Some request) is' = site_target request target place is'

  -- a space of the request's site for the target is named there, and is for the target
  at_place : (r s : ℕ) (target : Target) (place : Site) → site_there r target ≡ Some place → IsTrue (is_of_site names place s) → IsTrue (is_site_named roster names r s) × (target_of names s ≡ target)
  at_place r s target place is there = of (space_named names s) there
    where
      of : (named : Option ProtectionSpace) → IsTrue (unwrap_or (option_map (λ space. same_site space.site place) named) false) → IsTrue (unwrap_or (option_map (is_site_of roster r) named) false) × (unwrap_or (option_map (λ space. space.site.target) named) Server ≡ target)
      of None fails = absurd (false≢true fails)
      of (Some space) same =
          let here : space.site ≡ place = site_same space.site place same in
          let for : space.site.target ≡ target = ap (λ (p : Site). p.target) here ∙ there_target r target place is in
          let at : option_and_then (λ request. site request space.site.target) (numbered roster.requests r) ≡ Some place = subst (λ t. option_and_then (λ request. site request t) (numbered roster.requests r) ≡ Some place) (sym for) is in
          (subst (λ o. IsTrue (unwrap_or (option_map (λ p. same_site p space.site) o) false)) (sym at) (subst (λ p. IsTrue (same_site p space.site)) here (site_refl space.site)), for)

  preempted : (past : List Entry) (r : ℕ) (target : Target) (gift : Gift) → gift_told (preempt_answer names past (space_by_path roster names past r target)) ≡ Some gift → IsTrue (is_site_named roster names r gift.space) × (target_of names gift.space ≡ target)
  preempted past r target gift told = of (site_there r target) refl told
    where
      by : Option Site → Option ℕ
      by place = option_and_then (λ p. by_path roster names past p (path_of roster r target)) place

      ready_gift : (s : ℕ) (held : Option Gift) → gift_told (ready names past s held) ≡ Some gift → held ≡ Some gift
      ready_gift s None told' = absurd (none-some gift told')
      ready_gift s (Some kept) told' = told'

      in_space : (place : Site) → site_there r target ≡ Some place → (s : Option ℕ) → by_path roster names past place (path_of roster r target) ≡ s → gift_told (preempt_answer names past s) ≡ Some gift → IsTrue (is_site_named roster names r gift.space) × (target_of names gift.space ≡ target)
      in_space place there None none told' = absurd (none-some gift told')
      in_space place there (Some s) is told' =
          subst (λ n. IsTrue (is_site_named roster names r n) × (target_of names n ≡ target)) (sym (current_space past s gift (ready_gift s (current past s) told')))
          (at_place r s target place there (path_site past place (path_of roster r target) s is))

      of : (place : Option Site) → site_there r target ≡ place → gift_told (preempt_answer names past (option_and_then (λ p. by_path roster names past p (path_of roster r target)) place)) ≡ Some gift → IsTrue (is_site_named roster names r gift.space) × (target_of names gift.space ≡ target)
      of None none told' = absurd (none-some gift told')
      of (Some place) there told' = in_space place there (by_path roster names past place (path_of roster r target)) refl told'

  -- ALL CALLS

  told_at : (past : List Entry) → IsLegalPast roster names past → (r : ℕ) (call : Call) (reply : BookReply) → reply ≡ answer roster names past r call → IsTrue (fits call reply) → IsTrue (allowed_call roster names past r call) → (gift : Gift) → gift_told reply ≡ Some gift → IsTrue (is_site_named roster names r gift.space) × IsAsked names past r call gift.space
  told_at past legal r (Select s t) reply is fit may gift told =
      let same : gift.space ≡ s = gift_selected past s gift _ _ (open_lead past s) (select_told (is_rival names s) past s (choice roster names past r s) gift (subst (λ reply'. gift_told reply' ≡ Some gift) is told)) in
      (subst (λ n. IsTrue (is_site_named roster names r n)) (sym same) (selected_site roster names past r s t may), same)
  told_at past legal r (Preempt target) reply is fit may gift told =
      preempted past r target gift (subst (λ reply'. gift_told reply' ≡ Some gift) is told)
  told_at past legal r (Answer p text t) (Given next gone) is fit may gift told =
      let leads = answered_led roster names past r p text t may in
      let given : next_gift past (space_of_prompt past p) ≡ gift = answer_told (text == 0) _ gift _ (subst (λ reply'. gift_told (taken_from reply') ≡ Some gift) is told) in
      let same : space_of_prompt past p ≡ gift.space = ap (λ (g : Gift). g.space) given in
      (subst (λ n. IsTrue (is_site_named roster names r n)) same (leader_site roster names past legal r p leads), subst (λ n. IsTrue (list_any (λ entry. selects entry.call n && prompt_led entry.reply == p) (own past r))) same (leads_own past legal r p leads))
  told_at past legal r (Take p) reply is fit may gift told =
      let some = and_left (not (p == 0)) (list_any (λ entry. prompt_followed entry.reply == p) (own past r)) (and_left (not (p == 0) && list_any (λ entry. prompt_followed entry.reply == p) (own past r)) (not (list_any (λ entry. takes entry.call p) (own past r))) may) in
      let follows = and_right (not (p == 0)) (list_any (λ entry. prompt_followed entry.reply == p) (own past r)) (and_left (not (p == 0) && list_any (λ entry. prompt_followed entry.reply == p) (own past r)) (not (list_any (λ entry. takes entry.call p) (own past r))) may) in
      let this = has_followed past legal r p some follows in
      let ended = ended_gift past legal p gift (subst (λ reply'. gift_told reply' ≡ Some gift) is told) in
      let same : this.space ≡ gift.space = sym this.prompt.1 ∙ ended.1 in
      (subst (λ n. IsTrue (is_site_named roster names r n)) same this.of_site, subst (λ n. IsTrue (list_any (λ entry. selects entry.call n && prompt_followed entry.reply == p) (own past r))) same this.asked)
  told_at past legal r call (Ready held t epoch) is fit may gift told = absurd (false≢true fit)
  told_at past legal r call (Url next gone) is fit may gift told = absurd (false≢true fit)
  told_at past legal r call (Cached held) is fit may gift told = absurd (false≢true fit)
  told_at past legal r call (Given next gone) is fit may gift told = absurd (false≢true fit)
  told_at past legal r call (Gave held) is fit may gift told = absurd (false≢true fit)
  told_at past legal r call reply is fit may gift told = absurd (none-some gift told)

  pub all_told : (past : List Entry) → IsLegalPast roster names past → AreToldAtHome roster names past
  all_told [] legal = tt
  all_told (entry ∷ past) legal =
      (all_told past legal.0, λ gift told. told_at past legal.0 entry.request entry.call entry.reply legal.1.1 legal.1.2 (and_right _ _ legal.1.0) gift told)
